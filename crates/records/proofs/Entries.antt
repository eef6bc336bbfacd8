-- The entry of a record: what it says of the record, and the places in the table's octets to which it leads.
-- Assumes nothing.
use mathlib.Core.Bool.{Bool, true, false, not, ◌||◌, false≢true}
use mathlib.Core.List.{List}
use mathlib.Core.Logic.{◌⊎◌, ⊎_elim}
use mathlib.Core.Path.{◌≡◌, refl, sym, ap, ◌∙◌}
use Prim.Native.Nat.{ℕ, zero, suc, ◌+◌, ◌-◌, ◌*◌, ◌≤◌, ◌<◌}
use native.Mathlib.Omega.{arith}
use lib.Dec.{ltb, leb, eqb}
use lib.ListN.{length, get_or}
use borrow.Author.Tests.{leb-false, ltb-true, ltb-false, lt-ltb, le-ltb, le-leb, eqb-false, ne_eqb}
use Rattle.octets.specs.Tests.{if}
use Rattle.octets.specs.Numbers.{Octets, two}
use Rattle.octets.proofs.Tests.{test, at}
use Rattle.ber.specs.Codes.{code}
use Rattle.ber.proofs.Codes.{bit_small, code_short, code_long}
use Rattle.dates.specs.declared.TimeKind.TheVariants.{Utc, Generalized}
use Rattle.table.specs.Syntax.{Tag, Member, Boolean, Integer, BitString, OctetString, Null, Enumerated, Time, Body, Plain}
use Rattle.table.specs.Syntax.{Sequence, Set, SequenceOf, SetOf, Choice, Record, references, is_choice, constructed}
use Rattle.table.specs.Octets.{kind}
use Rattle.table.specs.Reading.{tags_at, numbers_at, members_at, every_at, body_at, own_at, record_at, counted_end, enumerated_end, members_end, reference_end, own_end, record_end}
use Rattle.table.specs.Fields.{constructed_of}
use Rattle.table.proofs.Pieces.{tag_at, length_tags, length_numbers, length_members, length_every, types_every}
use Rattle.table.proofs.Fields.{constructed_of_lem}
use Rattle.table.proofs.Own.{Counted, counted_back, above_five}
use Rattle.table.proofs.Reading.{headed, record_back}
use Rattle.kinds.specs.Kinds.{octet_of, kind_of}
use Rattle.records.specs.Entries.{unpacked, packed, untagged, outermost_code, outermost_in, all_but_last, explicit_count, entry_at, tag_count, tag_place, has_members}
use Rattle.records.specs.Entries.{counted, span_of, Entered, WithMembers, WithAlternatives, WithElements, WithNumbers}
use Rattle.records.specs.declared.entry.Entry.{Entry}
use Rattle.records.proofs.Packing.{unpacks}

-- A body by its kind, with the own part at p, which is shaped.
data Owned (b : List ℕ) (p : ℕ) : ℕ → Body → Type 0 where
  boolean : Owned b p 1 (Plain Boolean)
  integer : Owned b p 2 (Plain Integer)
  bit_string : Owned b p 3 (Plain BitString)
  octet_string : Owned b p 4 (Plain OctetString)
  null : Owned b p 5 (Plain Null)
  enumerated : Counted 2 1 32 b p → Owned b p 10 (Plain (Enumerated (numbers_at b (p + 1) (get_or b p 0))))
  utc_time : Owned b p 23 (Plain (Time Utc))
  generalized_time : Owned b p 24 (Plain (Time Generalized))
  sequence : Counted 2 0 16 b p → Owned b p 16 (Sequence (members_at b (p + 1) (get_or b p 0)))
  set : Counted 2 0 16 b p → Owned b p 17 (Set (members_at b (p + 1) (get_or b p 0)))
  sequence_of : p < length b → Owned b p 48 (SequenceOf (get_or b p 0))
  set_of : p < length b → Owned b p 49 (SetOf (get_or b p 0))
  choice : Counted 1 1 16 b p → Owned b p 50 (Choice (every_at 1 b (p + 1) (get_or b p 0)))

module _ (b : List ℕ) (p : ℕ) where
  enumerated_counted : 0 < enumerated_end b p → Counted 2 1 32 b p
  unfolding enumerated_end
  enumerated_counted h = test (eqb (counted_end 2 1 32 b p) 0) (λ e. absurd (omega (arith, rw e at h))) λ e. counted_back 2 1 32 b p (eqb-false _ _ e)

  members_counted : 0 < members_end b p → Counted 2 0 16 b p
  unfolding members_end
  members_counted h = test (eqb (counted_end 2 0 16 b p) 0) (λ e. absurd (omega (arith, rw e at h))) λ e. counted_back 2 0 16 b p (eqb-false _ _ e)

  choice_counted : 0 < counted_end 1 1 16 b p → Counted 1 1 16 b p
  choice_counted h = counted_back 1 1 16 b p (λ e. omega arith)

  reference_there : 0 < reference_end b p → p < length b
  reference_there h = test (leb (length b) p) (λ e. absurd (omega (arith, rw e at h))) λ e. leb-false _ _ e

abbrev OwnedAt : List ℕ → ℕ → ℕ → Type 0
OwnedAt b p k = 0 < own_end b k p → Owned b p k (body_at b k p)

owned : (b : List ℕ) (p k : ℕ) → OwnedAt b p k
unfolding own_end body_at
owned b p k =
    at k 1 (OwnedAt b p) (λ h. boolean) λ e₁.
    at k 2 (OwnedAt b p) (λ h. integer) λ e₂.
    at k 3 (OwnedAt b p) (λ h. bit_string) λ e₃.
    at k 4 (OwnedAt b p) (λ h. octet_string) λ e₄.
    at k 5 (OwnedAt b p) (λ h. null) λ e₅.
    at k 10 (OwnedAt b p) (λ h. enumerated (enumerated_counted b p h)) λ e₁₀.
    at k 23 (OwnedAt b p) (λ h. utc_time) λ e₂₃.
    at k 24 (OwnedAt b p) (λ h. generalized_time) λ e₂₄.
    at k 16 (OwnedAt b p) (λ h. sequence (members_counted b p h)) λ e₁₆.
    at k 17 (OwnedAt b p) (λ h. set (members_counted b p h)) λ e₁₇.
    at k 48 (OwnedAt b p) (λ h. sequence_of (reference_there b p h)) λ e₄₈.
    at k 49 (OwnedAt b p) (λ h. set_of (reference_there b p h)) λ e₄₉.
    at k 50 (OwnedAt b p) (λ h. choice (choice_counted b p h)) λ e₅₀.
    λ h.
    let z : own_end b k p ≡ 0 =
    test (eqb k 0) (λ z. rw z) λ z. rw (z, above_five k z e₁ e₂ e₃ e₄ e₅, e₁₀, e₂₃, e₂₄, e₁₆, e₁₇, e₄₈, e₄₉, e₅₀) in
    absurd (omega arith)

-- which kinds are which bodies
module _ {b : List ℕ} {p : ℕ} where
  kind_owned : {k : ℕ} {x : Body} → Owned b p k x → k ≡ kind x
  unfolding kind
  kind_owned boolean = refl
  kind_owned integer = refl
  kind_owned bit_string = refl
  kind_owned octet_string = refl
  kind_owned null = refl
  kind_owned (enumerated c) = refl
  kind_owned utc_time = refl
  kind_owned generalized_time = refl
  kind_owned (sequence c) = refl
  kind_owned (set c) = refl
  kind_owned (sequence_of h) = refl
  kind_owned (set_of h) = refl
  kind_owned (choice c) = refl

choice_kind : (x : Body) → eqb (kind x) 50 ≡ is_choice x
unfolding kind is_choice
choice_kind (Plain Boolean) = refl
choice_kind (Plain Integer) = refl
choice_kind (Plain BitString) = refl
choice_kind (Plain OctetString) = refl
choice_kind (Plain Null) = refl
choice_kind (Plain (Enumerated ns)) = refl
choice_kind (Plain (Time Utc)) = refl
choice_kind (Plain (Time Generalized)) = refl
choice_kind (Sequence ms) = refl
choice_kind (Set ms) = refl
choice_kind (SequenceOf t) = refl
choice_kind (SetOf t) = refl
choice_kind (Choice ts) = refl

members_kind : (x : Body) → (eqb (kind x) 16 || eqb (kind x) 17) ≡ has_members x
unfolding kind has_members
members_kind (Plain Boolean) = refl
members_kind (Plain Integer) = refl
members_kind (Plain BitString) = refl
members_kind (Plain OctetString) = refl
members_kind (Plain Null) = refl
members_kind (Plain (Enumerated ns)) = refl
members_kind (Plain (Time Utc)) = refl
members_kind (Plain (Time Generalized)) = refl
members_kind (Sequence ms) = refl
members_kind (Set ms) = refl
members_kind (SequenceOf t) = refl
members_kind (SetOf t) = refl
members_kind (Choice ts) = refl

-- the outermost tag, of as many tags from p on
not_not : (t : Bool) → not (not t) ≡ t
not_not true = refl
not_not false = refl

outermost_is : (b : List ℕ) (p n : ℕ) (x : Body) (t : Bool) → t ≡ constructed x → outermost_in b p n (not t) ≡ outermost_code (tags_at b p n) x
unfolding outermost_in outermost_code tags_at
outermost_is b p zero x t e = refl
outermost_is b p (suc zero) x t e = rw (not_not t, e)
outermost_is b p (suc (suc n)) x t e = rw (ne_eqb (suc (suc n)) 0 (λ q. omega arith), lt-ltb 1 (suc (suc n)) (omega arith))

-- the numbers that the code makes an entry of fit
pub heads : (b : List ℕ) (o : ℕ) → 0 < record_end b o → (get_or b (o + 3) 0 ≤ 4) × (own_at b o ≤ length b)
heads b o h = let c = headed b o (λ e. omega arith) in (c.few, c.fits)

pub explicit_small : (k n : ℕ) → n ≤ 4 → if (eqb k 50) n (λ _. all_but_last n) < 128
explicit_small k n h =
    test (eqb k 50) (λ d. rw d (omega arith)) λ d.
    test (eqb n 0) (λ z. rw (d, z) (omega arith)) λ z. rw (d, z) (omega arith)

-- the code of a tag is not that of a CHOICE without tags, and fits
pub code_small : (c : ℕ) (t : Bool) (n : ℕ) → c < 256 → n < 65536 → code c t n < untagged
code_small c t n h l =
    test (ltb n 31) (λ e. omega (arith, code_short c t n (ltb-true _ _ e), bit_small t)) λ e.
    omega (arith, code_long c t n (ltb-false _ _ e), bit_small t)

outermost_small : (b : List ℕ) (p n : ℕ) (t : Bool) → Octets b → outermost_in b p n t < 4294967296
unfolding outermost_in
outermost_small b p n t s =
    test (eqb n 0) (λ e. rw e (omega arith)) λ e.
    rw e (omega (arith, code_small (get_or b p 0) (ltb 1 n || not t) (two b (p + 1)) (s p) (omega (arith, s (p + 1), s (p + 1 + 1)))))

-- the octet of a body that is shaped is a kind's
kind_there : {b : List ℕ} {p k : ℕ} {r : Body} → Owned b p k r → octet_of (kind_of k) ≡ k
unfolding kind_of
kind_there boolean = refl
kind_there integer = refl
kind_there bit_string = refl
kind_there octet_string = refl
kind_there null = refl
kind_there (enumerated c) = refl
kind_there utc_time = refl
kind_there generalized_time = refl
kind_there (sequence c) = refl
kind_there (set c) = refl
kind_there (sequence_of c) = refl
kind_there (set_of c) = refl
kind_there (choice c) = refl

pub kind_shaped : (b : List ℕ) (o : ℕ) → 0 < record_end b o → octet_of (kind_of (get_or b (o + 2) 0)) ≡ get_or b (o + 2) 0
kind_shaped b o h = kind_there (owned b (own_at b o) (get_or b (o + 2) 0) (rw (headed b o (λ e. omega arith)).end at h))

-- the entry of a shaped record, and that its number gives it back
module _ (b : List ℕ) (o : ℕ) (s : Octets b) (h : 0 < record_end b o) where
  pub entry_entered : Entered b (entry_at b o) (record_at b o)
  unfolding record_at explicit_count entry_at
  entry_entered =
      let k = get_or b (o + 2) 0 in
      let n = get_or b (o + 3) 0 in
      let z : record_end b o ≡ 0 → ⊥ = λ q. omega arith in
      let head = headed b o z in
      let back = record_back b o s z in
      let body = body_at b k (own_at b o) in
      let w = owned b (own_at b o) k (rw head.end at h) in
      let q : o + 4 + 3 * n - 3 * n ≡ o + 4 = omega arith in
      let l = length_tags b (o + 4) n in
      let i : eqb k 50 ≡ is_choice body = ap (λ m. eqb m 50) (kind_owned w) ∙ choice_kind body in
      let c : constructed_of k ≡ constructed body = sym (constructed_of_lem b k (own_at b o)) in
      record {
        body = refl;
        tags = rw (l, q);
        behind = rw l (omega arith);
        few = rw l head.few;
        code = outermost_is b (o + 4) n body (constructed_of k) c;
        explicit = rw (l, i);
        simple = ap not c;
        some = rw head.end at h;
        ends = rw head.end at back.within;
      }

  pub entry_back : length b ≤ 8192 → unpacked (packed (entry_at b o)) ≡ entry_at b o
  unfolding entry_at
  entry_back l =
      let n = heads b o h in
      unpacks (entry_at b o) (explicit_small (get_or b (o + 2) 0) (get_or b (o + 3) 0) n.0) (s (o + 2)) (omega arith) (outermost_small b (o + 4) _ _ s)

-- the span of a kind whose own part is at p
module _ {b : List ℕ} {p : ℕ} where
  span_owned : {k : ℕ} {x : Body} → Owned b p k x → let s = span_of b k p in every_at s.step b s.first s.count ≡ references x
  unfolding span_of references every_at
  span_owned boolean = refl
  span_owned integer = refl
  span_owned bit_string = refl
  span_owned octet_string = refl
  span_owned null = refl
  span_owned (enumerated c) = refl
  span_owned utc_time = refl
  span_owned generalized_time = refl
  span_owned (sequence c) = sym (types_every b (p + 1) (get_or b p 0))
  span_owned (set c) = sym (types_every b (p + 1) (get_or b p 0))
  span_owned (sequence_of h) = refl
  span_owned (set_of h) = refl
  span_owned (choice c) = refl

  part_owned : {k : ℕ} {x : Body} → Owned b p k x → let s = span_of b k p in (j : ℕ) → j < s.count → s.first + s.step * j < length b
  unfolding span_of
  part_owned boolean j h = absurd (omega arith)
  part_owned integer j h = absurd (omega arith)
  part_owned bit_string j h = absurd (omega arith)
  part_owned octet_string j h = absurd (omega arith)
  part_owned null j h = absurd (omega arith)
  part_owned (enumerated c) j h = absurd (omega arith)
  part_owned (sequence c) j h = omega arith
  part_owned (set c) j h = omega arith
  part_owned (sequence_of l) j h = omega arith
  part_owned (set_of l) j h = omega arith
  part_owned (choice c) j h = omega arith
  part_owned utc_time j h = elim h [ ]
  part_owned generalized_time j h = elim h [ ]

-- the tags, one by one
tags_at_lem : (b : List ℕ) (p n : ℕ) (d : Tag) (j : ℕ) → j < n → tag_at b (p + 3 * j) ≡ get_or (tags_at b p n) j d
unfolding tags_at
tags_at_lem b p zero d j h = absurd (omega arith)
tags_at_lem b p (suc n) d zero h = let q : p + 3 * 0 ≡ p = omega arith in ap (tag_at b) q
tags_at_lem b p (suc n) d (suc j) h = let q : p + 3 * suc j ≡ p + 3 + 3 * j = omega arith in ap (tag_at b) q ∙ tags_at_lem b (p + 3) n d j (omega arith)

count_back : (n : ℕ) → n ≤ 4 → if (eqb (all_but_last n) 127) 0 (λ _. all_but_last n + 1) ≡ n
count_back zero h = refl
count_back (suc n) h =
    let q : suc n - 1 ≡ n = omega arith in
    rw (ne_eqb (suc n) 0 (λ z. omega arith), q, ne_eqb n 127 (λ z. omega arith)) (omega arith)

-- all tags but the last are constructed; the last is as its body
bit_last : (n j : ℕ) (t : Bool) → j < n → (ltb j (all_but_last n) || t) ≡ (ltb (j + 1) n || t)
bit_last zero j t h = absurd (omega arith)
bit_last (suc n) j t h =
    let q : suc n - 1 ≡ n = omega arith in
    rw (ne_eqb (suc n) 0 (λ z. omega arith), q)
    (test (ltb j n) (λ e. rw (e, lt-ltb (j + 1) (suc n) (omega (arith, ltb-true j n e))))
    λ e. rw (e, le-ltb (j + 1) (suc n) (omega (arith, ltb-false j n e))))

or_true : (t : Bool) → true ≡ (t || true)
or_true true = refl
or_true false = refl

choice_constructed : (x : Body) → is_choice x ≡ true → constructed x ≡ true
unfolding is_choice constructed
choice_constructed (Plain k) e = absurd (false≢true e)
choice_constructed (Sequence ms) e = refl
choice_constructed (Set ms) e = refl
choice_constructed (SequenceOf t) e = refl
choice_constructed (SetOf t) e = refl
choice_constructed (Choice ts) e = refl

-- what an entry says of its record
module _ {b : List ℕ} {e : Entry} {r : Record} (x : Entered b e r) where
  entered_owned : Owned b e.own e.kind r.body
  entered_owned = rw x.body at (owned b e.own e.kind x.some)

  pub entered_kind : e.kind ≡ kind r.body
  entered_kind = kind_owned entered_owned

  pub entered_known : octet_of (kind_of e.kind) ≡ e.kind
  entered_known = kind_there entered_owned

  pub kind_choice : eqb e.kind 50 ≡ is_choice r.body
  kind_choice = ap (λ k. eqb k 50) entered_kind ∙ choice_kind r.body

  pub kind_members : (eqb e.kind 16 || eqb e.kind 17) ≡ has_members r.body
  kind_members = ap (λ k. eqb k 16 || eqb k 17) entered_kind ∙ members_kind r.body

  pub entered_span : let s = span_of b e.kind e.own in every_at s.step b s.first s.count ≡ references r.body
  entered_span = span_owned entered_owned

  pub part_inside : let s = span_of b e.kind e.own in (j : ℕ) → j < s.count → s.first + s.step * j < length b
  part_inside = part_owned entered_owned

  with_members : (ms : List Member) → members_at b (e.own + 1) (get_or b e.own 0) ≡ ms → span_of b e.kind e.own ≡ counted b e.own 2
      → Counted 2 0 16 b e.own → WithMembers b e ms
  with_members ms i s c =
      let n : get_or b e.own 0 ≡ length ms = sym (length_members b (e.own + 1) (get_or b e.own 0)) ∙ ap length i in
      record { is = i; span = s; count = n; few = omega arith; within = omega arith }

  entered_sequence : (ms : List Member) → r.body ≡ Sequence ms → WithMembers b e ms
  unfolding kind body_at own_end span_of
  entered_sequence ms h =
      let k : e.kind ≡ 16 = entered_kind ∙ ap kind h in
      let i : Sequence (members_at b (e.own + 1) (get_or b e.own 0)) ≡ Sequence ms = (rw k at x.body) ∙ h in
      with_members ms (cc) (rw k) (members_counted b e.own (rw k at x.some))

  entered_set : (ms : List Member) → r.body ≡ Set ms → WithMembers b e ms
  unfolding kind body_at own_end span_of
  entered_set ms h =
      let k : e.kind ≡ 17 = entered_kind ∙ ap kind h in
      let i : Set (members_at b (e.own + 1) (get_or b e.own 0)) ≡ Set ms = (rw k at x.body) ∙ h in
      with_members ms (cc) (rw k) (members_counted b e.own (rw k at x.some))

  pub entered_members : (ms : List Member) → (r.body ≡ Sequence ms) ⊎ (r.body ≡ Set ms) → WithMembers b e ms
  entered_members ms = ⊎_elim (entered_sequence ms) (entered_set ms)

  pub entered_choice : (ts : List ℕ) → r.body ≡ Choice ts → WithAlternatives b e ts
  unfolding kind body_at own_end span_of
  entered_choice ts h =
      let k : e.kind ≡ 50 = entered_kind ∙ ap kind h in
      let i : Choice (every_at 1 b (e.own + 1) (get_or b e.own 0)) ≡ Choice ts = (rw k at x.body) ∙ h in
      let i' : every_at 1 b (e.own + 1) (get_or b e.own 0) ≡ ts = cc in
      let n : get_or b e.own 0 ≡ length ts = sym (length_every 1 b (e.own + 1) (get_or b e.own 0)) ∙ ap length i' in
      let c = choice_counted b e.own (rw k at x.some) in
      record { is = i'; span = rw k; count = n; some = omega arith; few = omega arith; within = omega arith }

  entered_sequence_of : (t : ℕ) → r.body ≡ SequenceOf t → WithElements b e t
  unfolding kind body_at own_end span_of
  entered_sequence_of t h =
      let k : e.kind ≡ 48 = entered_kind ∙ ap kind h in
      let i : SequenceOf (get_or b e.own 0) ≡ SequenceOf t = (rw k at x.body) ∙ h in
      record { is = cc; span = rw k; within = reference_there b e.own (rw k at x.some) }

  entered_set_of : (t : ℕ) → r.body ≡ SetOf t → WithElements b e t
  unfolding kind body_at own_end span_of
  entered_set_of t h =
      let k : e.kind ≡ 49 = entered_kind ∙ ap kind h in
      let i : SetOf (get_or b e.own 0) ≡ SetOf t = (rw k at x.body) ∙ h in
      record { is = cc; span = rw k; within = reference_there b e.own (rw k at x.some) }

  pub entered_list : (t : ℕ) → (r.body ≡ SequenceOf t) ⊎ (r.body ≡ SetOf t) → WithElements b e t
  entered_list t = ⊎_elim (entered_sequence_of t) (entered_set_of t)

  pub entered_enumerated : (ns : List ℕ) → r.body ≡ Plain (Enumerated ns) → WithNumbers b e ns
  unfolding kind body_at own_end
  entered_enumerated ns h =
      let k : e.kind ≡ 10 = entered_kind ∙ ap kind h in
      let i : Plain (Enumerated (numbers_at b (e.own + 1) (get_or b e.own 0))) ≡ Plain (Enumerated ns) = (rw k at x.body) ∙ h in
      let i' : numbers_at b (e.own + 1) (get_or b e.own 0) ≡ ns = cc in
      let n : get_or b e.own 0 ≡ length ns = sym (length_numbers b (e.own + 1) (get_or b e.own 0)) ∙ ap length i' in
      let c = enumerated_counted b e.own (rw k at x.some) in
      record { is = i'; count = n; some = omega arith; few = omega arith; within = le-leb _ _ c.fits }

  pub entered_tags : tag_count e ≡ length r.tags
  unfolding tag_count explicit_count
  entered_tags =
      test (is_choice r.body) (λ c. rw (kind_choice, x.explicit, c)) λ c.
      rw (kind_choice, x.explicit, c) (count_back (length r.tags) x.few)

  pub entered_tag : (d : Tag) (j : ℕ) → j < length r.tags → tag_at b (tag_place e j) ≡ get_or r.tags j d
  entered_tag d j h =
      let n = length r.tags in
      let q : e.own - 3 * (tag_count e - j) ≡ e.own - 3 * n + 3 * j = rw entered_tags (omega (arith, x.behind)) in
      ap (tag_at b) q ∙ tags_at_lem b (e.own - 3 * n) n d j h ∙ ap (λ l. get_or l j d) x.tags

  pub entered_bit : (j : ℕ) → j < length r.tags
      → (ltb j e.explicit || not e.simple) ≡ (ltb (j + 1) (length r.tags) || constructed r.body)
  unfolding explicit_count
  entered_bit j h =
      let n = length r.tags in
      test (is_choice r.body)
      (λ c. rw (x.explicit, c, lt-ltb j n h, choice_constructed r.body c) (or_true (ltb (j + 1) n)))
      λ c. rw (x.explicit, c, x.simple, not_not) (bit_last n j (constructed r.body) h)
