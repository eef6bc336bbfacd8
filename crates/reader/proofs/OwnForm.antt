-- How the own identifier of a record came: as it is or, of a string, with bit 6 set; and what is read of the item then (X.690, 8.6.4 and 8.7.3).
-- Assumes nothing.
use borrow.Author.Tests.{lt-ltb, le-ltb, ltb-true}
use mathlib.Core.Bool.{Bool, true, false, ◌&&◌, false≢true}
use mathlib.Core.List.{List}
use mathlib.Core.Option.{Option, some, none}
use mathlib.Core.Path.{◌≡◌, refl, sym, ap, ◌∙◌}
use native.Mathlib.Omega.{arith}
use Prim.Native.Nat.{ℕ, ◌+◌, ◌*◌, ◌%◌}
use lib.Dec.{ltb}
use lib.ListN.{length, get_or}
use Rattle.octets.specs.Answer.{got, then, if}
use Rattle.octets.specs.Lists.{same}
use Rattle.octets.proofs.Answer.{got_holds, if_cases}
use Rattle.octets.proofs.Lists.{same_refl, same_true}
use Rattle.octets.proofs.Tests.{or_by, and_left, and_right}
use Rattle.x690.specs.Identifier.{leading, identifier}
use Rattle.x690.specs.Reading.{read_identifier, passes, read_length, read_header, read_primitive, read_constructed}
use Rattle.x690.specs.Segments.{Kind, in_parts, in_either, deepest, read_all, read_segment, read_carried}
use Rattle.x690.proofs.Identifiers.{identifier_some}
use Rattle.x690.proofs.Segments.{parts_identifier, parts_differ}
use Rattle.table.specs.Syntax.{Tag, Simple, Body, Plain, Sequence, Set, SequenceOf, SetOf, Choice, Record, constructed}
use Rattle.coding.specs.Content.{segmented}
use Rattle.coding.specs.Tags.{identifier_of, last, own_tag}
use Rattle.reader.specs.Codes.{own_either}
use Rattle.reader.specs.Leaves.{is_in_segments}
use Rattle.reader.specs.Wraps.{sent_as}

-- `parts` says whether bit 6 is set
pub data Form (r : Record) (i : List ℕ) : Bool → Type 0 where
  as_own : i ≡ own_tag r → Form r i false
  as_parts : (k : Simple) → r.body ≡ Plain k → in_either (segmented k) ≡ true → i ≡ in_parts (own_tag r) → Form r i true

-- of a simple kind, both as identifiers of its last tag
module _ (r : Record) (k : Simple) (q : r.body ≡ Plain k) where
  abbrev Its : Tag
  Its = last r.body r.tags

  own_is : own_tag r ≡ identifier Its.class false Its.number
  unfolding own_tag identifier_of constructed
  own_is = ap (λ (b : Body). identifier Its.class (constructed b) Its.number) q

  parts_is : in_parts (own_tag r) ≡ identifier Its.class true Its.number
  parts_is = ap in_parts own_is ∙ parts_identifier Its.class Its.number

-- only of a string
either_plain : (y : Body) → own_either y ≡ true → (k : Simple) × (y ≡ Plain k) × (in_either (segmented k) ≡ true)
unfolding own_either
either_plain (Plain k) e = (k, refl, e)
either_plain (Sequence ms) e = absurd (false≢true e)
either_plain (Set ms) e = absurd (false≢true e)
either_plain (SequenceOf t) e = absurd (false≢true e)
either_plain (SetOf t) e = absurd (false≢true e)
either_plain (Choice ts) e = absurd (false≢true e)

pub form_of : (r : Record) (i : List ℕ) → sent_as (own_either r.body) (own_tag r) i ≡ true → (parts : Bool) × Form r i parts
form_of r i t =
    let o = own_tag r in
    let e = own_either r.body in
    or_by (same o i) (e && same (in_parts o) i) t
    (λ x. (false, as_own (sym (same_true o i x))))
    λ x.
    let (k, q, z) = either_plain r.body (and_left e (same (in_parts o) i) x) in
    (true, as_parts k q z (sym (same_true (in_parts o) i (and_right e (same (in_parts o) i) x))))

-- the leading octet tells
lead_bit : (c : ℕ) (b : Bool) (n : ℕ) → is_in_segments (get_or (identifier c b n) 0 0) ≡ b
unfolding is_in_segments identifier leading
lead_bit c true n =
    if_cases (λ (l : List ℕ). ltb 31 (get_or l 0 0 % 64) ≡ true) (ltb n 31) _ _
    (λ e. let h = ltb-true n 31 e in lt-ltb 31 ((c * 64 + 1 * 32 + n) % 64) (omega arith))
    λ e. lt-ltb 31 ((c * 64 + 1 * 32 + 31) % 64) (omega arith)
lead_bit c false n =
    if_cases (λ (l : List ℕ). ltb 31 (get_or l 0 0 % 64) ≡ false) (ltb n 31) _ _
    (λ e. let h = ltb-true n 31 e in le-ltb 31 ((c * 64 + 0 * 32 + n) % 64) (omega arith))
    λ e. le-ltb 31 ((c * 64 + 0 * 32 + 31) % 64) (omega arith)

pub form_lead : (r : Record) (k : Simple) → r.body ≡ Plain k → (i : List ℕ) {parts : Bool} → Form r i parts → is_in_segments (get_or i 0 0) ≡ parts
form_lead r k q i (as_own e) = ap (λ (j : List ℕ). is_in_segments (get_or j 0 0)) (e ∙ own_is r k q) ∙ lead_bit (last r.body r.tags).class false (last r.body r.tags).number
form_lead r k q i (as_parts _ _ _ e) = ap (λ (j : List ℕ). is_in_segments (get_or j 0 0)) (e ∙ parts_is r k q) ∙ lead_bit (last r.body r.tags).class true (last r.body r.tags).number

-- the header, by its own identifier
pub lead_header : (s i u : List ℕ) → read_identifier s ≡ got i u → read_header i s ≡ read_length (length s) u
unfolding read_header then if
lead_header s i u e = rw (e, same_refl i) refl

-- what is read of the item
pub carried_own : (k : Option Kind) (s i u : List ℕ) → read_identifier s ≡ got i u → read_carried k i s ≡ read_primitive i s
unfolding read_carried passes if
carried_own none s i u e = refl
carried_own (some k) s i u e = rw (e, parts_differ i (got_holds (identifier_some s) e)) refl

pub carried_parts : (k : Kind) (s i u : List ℕ) → read_identifier s ≡ got (in_parts i) u
    → read_carried (some k) i s ≡ then (read_constructed (in_parts i) (read_all k (read_segment k deepest)) s) λ g w. got g.0 w
unfolding read_carried passes if
carried_parts k s i u e = rw (e, same_refl (in_parts i)) refl

-- a constructed kind has its own alone
pub form_own : (r : Record) {i : List ℕ} {parts : Bool} → constructed r.body ≡ true → Form r i parts → i ≡ own_tag r
unfolding constructed
form_own r c (as_own e) = e
form_own r c (as_parts k q z e) = absurd (false≢true (ap constructed (sym q) ∙ c))

pub same_kind : (k j : Simple) → Plain k ≡ Plain j → k ≡ j
same_kind k j e = cc

-- only a string comes with bit 6
pub form_string : (r : Record) (k : Simple) → r.body ≡ Plain k → (i : List ℕ) (parts : Bool) → Form r i parts → parts ≡ true → in_either (segmented k) ≡ true
form_string r k q i parts (as_own e) t = absurd (false≢true t)
form_string r k q i parts (as_parts j x z e) t = rw (same_kind k j (sym q ∙ x)) z
