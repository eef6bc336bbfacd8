-- The parts of a record where they stand in the table, and the loops over those that are awaited.
-- Assumes nothing.
use borrow.Author.Tests.{ne_eqb, eqb-true}
use lib.Dec.{eqb}
use lib.ListN.{length, get_or, drop, length-map, drop_of_length-le}
use mathlib.Core.Bool.{Bool, true, false, not, ◌||◌, true≢false}
use mathlib.Core.List.{List, [], ◌∷◌}
use mathlib.Core.Logic.{◌⊎◌, inl, inr}
use mathlib.Core.Option.{some, none}
use mathlib.Core.Path.{◌≡◌, refl, sym, ap, ◌∙◌}
use native.Mathlib.Numerals.{add-one}
use native.Mathlib.Omega.{arith}
use Prim.Native.Nat.{ℕ, zero, suc, ◌+◌, ◌*◌, ◌≤◌, ◌<◌}
use Rattle.octets.specs.Answer.{if}
use Rattle.octets.specs.Lists.{any}
use Rattle.octets.proofs.Tests.{or_by}
use Rattle.dates.specs.declared.TimeKind.TheVariants.{Utc, Generalized}
use Rattle.table.specs.Syntax.{Member, Simple, Boolean, Integer, BitString, OctetString, Null, Enumerated, Time, Body, Plain, Sequence, Set, SequenceOf}
use Rattle.table.specs.Syntax.{SetOf, Choice, Record}
use Rattle.table.specs.Octets.{kind}
use Rattle.table.specs.Reading.{members_at, every_at, table_in, count_in}
use Rattle.kinds.specs.Kinds.{octet_of}
use Rattle.kinds.specs.declared.Kind.TheVariants.{Message}
use Rattle.records.specs.Entries.{span_of}
use Rattle.records.specs.Descriptors.{described, Describes}
use Rattle.records.specs.declared.descriptor.Descriptor.{Descriptor}
use Rattle.records.specs.declared.entry.Span.{Span}
use Rattle.records.proofs.Promises.{entered_kind, entered_members, entered_choice, entered_list}
use Rattle.reader.specs.Items.{Holder, inside, message, Manner, in_turn, each_once, repeated, single, manner, parts_of, optionals, Placed}
use Rattle.reader.specs.Items.{pending, up_to_mandatory, within, left, awaits, first}
use Rattle.reader.specs.Records.{holder_in, Known, of_record, of_message}
use Rattle.reader.specs.Sought.{held, tabled, tabled_count}
use Rattle.reader.proofs.Items.{pending_free, pending_come}
use Rattle.checker.proofs.Ready.{Ready, described_in}

members_at_lem : (b : List ℕ) (p n i : ℕ) → i < n
    → drop i (members_at b p n) ≡ record { type = get_or b (p + 2 * i) 0; optional = eqb (get_or b (p + 2 * i + 1) 0) 1 } ∷ drop (suc i) (members_at b p n)
unfolding members_at
members_at_lem b p zero i h = absurd (omega arith)
members_at_lem b p (suc n) zero h = let q : p + 2 * 0 ≡ p = omega arith in rw q refl
members_at_lem b p (suc n) (suc i) h = let q : p + 2 + 2 * i ≡ p + 2 * suc i = omega arith in members_at_lem b (p + 2) n i (omega arith) ∙ rw q refl

optionals_at : (b : List ℕ) (p n i : ℕ) → i < n
    → drop i (optionals (every_at 1 b p n)) ≡ record { type = get_or b (p + 1 * i) 0; optional = true } ∷ drop (suc i) (optionals (every_at 1 b p n))
unfolding every_at
optionals_at b p zero i h = absurd (omega arith)
optionals_at b p (suc n) zero h = let q : p + 1 * 0 ≡ p = omega arith in rw q refl
optionals_at b p (suc n) (suc i) h = let q : p + 1 + 1 * i ≡ p + 1 * suc i = omega arith in optionals_at b (p + 1) n i (omega arith) ∙ rw q refl

-- the i-th part, of a record of kind k whose parts are at s
pub record PartAt (b : List ℕ) (h : Holder) (k : ℕ) (s : Span) (i : ℕ) : Type 0 where
  pub part : Member
  pub is : drop i (parts_of h) ≡ part ∷ drop (suc i) (parts_of h)
  pub type : get_or b (s.first + s.step * i) 0 ≡ part.type
  pub optional : (eqb k 16 || eqb k 17) ≡ true → eqb (get_or b (s.first + s.step * i + 1) 0) 1 ≡ part.optional

pub record Spanned (b : List ℕ) (h : Holder) (k : ℕ) (s : Span) : Type 0 where
  pub count : s.count ≡ tabled_count h
  pub few : s.count ≤ 16
  pub near : (i : ℕ) → i < s.count → s.first + s.step * i < 8192
  pub inside : (i : ℕ) → i < s.count → s.first + s.step * i < length b
  pub at : (i : ℕ) → i < s.count → PartAt b h k s i

pub or_true : (a : Bool) → (a || true) ≡ true
or_true true = refl
or_true false = refl

kind_known : (y : Body) → kind y ≡ 51 → ⊥
unfolding kind
kind_known (Plain Boolean) z = omega arith
kind_known (Plain Integer) z = omega arith
kind_known (Plain BitString) z = omega arith
kind_known (Plain OctetString) z = omega arith
kind_known (Plain Null) z = omega arith
kind_known (Plain (Enumerated ns)) z = omega arith
kind_known (Plain (Time Utc)) z = omega arith
kind_known (Plain (Time Generalized)) z = omega arith
kind_known (Sequence ms) z = omega arith
kind_known (Set ms) z = omega arith
kind_known (SequenceOf t) z = omega arith
kind_known (SetOf t) z = omega arith
kind_known (Choice ts) z = omega arith

module _ {b : List ℕ} {e : Descriptor} {r : Record} (x : Describes b e r) (short : length b ≤ 8192) where
  abbrev S : Span
  S = span_of b (octet_of e.kind) e.own

  plain_span : (q : Simple) → r.body ≡ Plain q → (S.count ≡ 0)
  unfolding span_of kind if
  plain_span Boolean h = rw (entered_kind x.entered ∙ ap kind h) refl
  plain_span Integer h = rw (entered_kind x.entered ∙ ap kind h) refl
  plain_span BitString h = rw (entered_kind x.entered ∙ ap kind h) refl
  plain_span OctetString h = rw (entered_kind x.entered ∙ ap kind h) refl
  plain_span Null h = rw (entered_kind x.entered ∙ ap kind h) refl
  plain_span (Enumerated ns) h = rw (entered_kind x.entered ∙ ap kind h) refl
  plain_span (Time Utc) h = rw (entered_kind x.entered ∙ ap kind h) refl
  plain_span (Time Generalized) h = rw (entered_kind x.entered ∙ ap kind h) refl

  members_spanned : (ms : List Member) (h : Holder) → (r.body ≡ Sequence ms) ⊎ (r.body ≡ Set ms) → parts_of h ≡ ms → tabled_count h ≡ length ms
      → Spanned b h (octet_of e.kind) S
  members_spanned ms h y p c =
      let w = entered_members x.entered ms y in
      let o = e.own in
      rw w.span
      (record {
        count = w.count ∙ sym c;
        few = omega (arith, w.few, w.count);
        near = λ i k. omega (arith, w.within, w.count);
        inside = λ i k. omega (arith, w.within, w.count);
        at = λ i k.
            record {
              part = record { type = get_or b (o + 1 + 2 * i) 0; optional = eqb (get_or b (o + 1 + 2 * i + 1) 0) 1 };
              is = rw (p, ← w.is) (members_at_lem b (o + 1) (get_or b o 0) i k);
              type = refl;
              optional = λ z. refl;
            };
      })

  list_spanned : (t : ℕ) (h : Holder) → (r.body ≡ SequenceOf t) ⊎ (r.body ≡ SetOf t) → parts_of h ≡ optionals (t ∷ []) → tabled_count h ≡ 1
      → (eqb (octet_of e.kind) 16 || eqb (octet_of e.kind) 17) ≡ false
      → Spanned b h (octet_of e.kind) S
  list_spanned t h y p c m =
      let w = entered_list x.entered t y in
      rw w.span
      (record {
        count = sym c;
        few = omega arith;
        near = λ i k. let q : i ≡ 0 = omega arith in rw q (omega (arith, w.within));
        inside = λ i k. let q : i ≡ 0 = omega arith in rw q (omega (arith, w.within));
        at = λ i k.
            let q : i ≡ 0 = omega arith in
            rw q
            (record {
              part = record { type = t; optional = true };
              is = rw p refl;
              type = let z : e.own + 0 * 0 ≡ e.own = omega arith in rw z w.is;
              optional = λ z. absurd (true≢false (sym z ∙ m));
            });
      })

  kind_of_lem : (y : Body) → r.body ≡ y → (k : ℕ) → kind y ≡ k → octet_of e.kind ≡ k
  kind_of_lem y h k q = entered_kind x.entered ∙ ap kind h ∙ q

  pub spanned_body : (y : Body) → r.body ≡ y → Spanned b (inside y) (octet_of e.kind) S
  unfolding parts_of tabled_count kind
  spanned_body (Plain q) h =
      let z = plain_span q h in
      record { count = z; few = omega arith; near = λ i k. absurd (omega arith); inside = λ i k. absurd (omega arith); at = λ i k. absurd (omega arith) }
  spanned_body (Sequence ms) h = members_spanned ms (inside (Sequence ms)) (inl h) refl refl
  spanned_body (Set ms) h = members_spanned ms (inside (Set ms)) (inr h) refl refl
  spanned_body (SequenceOf t) h = list_spanned t (inside (SequenceOf t)) (inl h) refl refl (rw (kind_of_lem (SequenceOf t) h 48 refl) refl)
  spanned_body (SetOf t) h = list_spanned t (inside (SetOf t)) (inr h) refl refl (rw (kind_of_lem (SetOf t) h 49 refl) refl)
  spanned_body (Choice ts) h =
      let w = entered_choice x.entered ts h in
      let o = e.own in
      let m : (eqb (octet_of e.kind) 16 || eqb (octet_of e.kind) 17) ≡ false = rw (kind_of_lem (Choice ts) h 50 refl) refl in
      rw w.span
      (record {
        count = w.count ∙ sym (length-map ts _);
        few = omega (arith, w.few, w.count);
        near = λ i k. omega (arith, w.within, w.count);
        inside = λ i k. omega (arith, w.within, w.count);
        at = λ i k.
            record {
              part = record { type = get_or b (o + 1 + 1 * i) 0; optional = true };
              is = rw (← w.is) (optionals_at b (o + 1) (get_or b o 0) i k);
              type = refl;
              optional = λ z. absurd (true≢false (sym z ∙ m));
            };
      })

  -- the entry of a record is no message's
  pub held_body : holder_in b e ≡ inside r.body
  unfolding holder_in if
  held_body = rw (not_message r.body refl, x.entered.body) refl
    where
      not_message : (y : Body) → r.body ≡ y → eqb (octet_of e.kind) 51 ≡ false
      not_message y h = ne_eqb (octet_of e.kind) 51 (λ z. kind_known y (sym (kind_of_lem y h (kind y) refl) ∙ z))

-- the kind of an entry says how its items come
abbrev pub turns_by : Manner → Bool
turns_by in_turn = true
turns_by each_once = false
turns_by repeated = false
turns_by single = false

turn_kind : (y : Body) → eqb (kind y) 16 ≡ turns_by (manner (inside y))
unfolding kind manner
turn_kind (Plain Boolean) = refl
turn_kind (Plain Integer) = refl
turn_kind (Plain BitString) = refl
turn_kind (Plain OctetString) = refl
turn_kind (Plain Null) = refl
turn_kind (Plain (Enumerated ns)) = refl
turn_kind (Plain (Time Utc)) = refl
turn_kind (Plain (Time Generalized)) = refl
turn_kind (Sequence ms) = refl
turn_kind (Set ms) = refl
turn_kind (SequenceOf t) = refl
turn_kind (SetOf t) = refl
turn_kind (Choice ts) = refl

pub turn_is : (w : Manner) → turns_by w ≡ true → w ≡ in_turn
turn_is in_turn e = refl
turn_is each_once e = absurd (true≢false (sym e))
turn_is repeated e = absurd (true≢false (sym e))
turn_is single e = absurd (true≢false (sym e))

pub turn_not : (w : Manner) → turns_by w ≡ false → w ≡ in_turn → ⊥
turn_not w e q = true≢false (rw q at e)

-- each of its members comes at most once
abbrev pub by_member : Manner → Bool
by_member in_turn = true
by_member each_once = true
by_member repeated = false
by_member single = false

member_kind : (y : Body) → (eqb (kind y) 16 || eqb (kind y) 17) ≡ by_member (manner (inside y))
unfolding kind manner
member_kind (Plain Boolean) = refl
member_kind (Plain Integer) = refl
member_kind (Plain BitString) = refl
member_kind (Plain OctetString) = refl
member_kind (Plain Null) = refl
member_kind (Plain (Enumerated ns)) = refl
member_kind (Plain (Time Utc)) = refl
member_kind (Plain (Time Generalized)) = refl
member_kind (Sequence ms) = refl
member_kind (Set ms) = refl
member_kind (SequenceOf t) = refl
member_kind (SetOf t) = refl
member_kind (Choice ts) = refl

-- an entry that is known
pub record EntryOf (b : List ℕ) (e : Descriptor) : Type 0 where
  pub spanned : Spanned b (holder_in b e) (octet_of e.kind) (span_of b (octet_of e.kind) e.own)
  pub sequence : eqb (octet_of e.kind) 16 ≡ turns_by (manner (holder_in b e))
  pub members : (eqb (octet_of e.kind) 16 || eqb (octet_of e.kind) 17) ≡ by_member (manner (holder_in b e))

module _ {b index : List ℕ} (R : Ready b index) where
  entry_record : (t : ℕ) → t < count_in b → EntryOf b (described (get_or index t 0))
  entry_record t h =
      let x = described_in R t h in
      let l = R.listed.short in
      record {
        spanned = rw (held_body x l) (spanned_body x l (table_in b t).body refl);
        sequence = rw (held_body x l) (ap (λ (k : ℕ). eqb k 16) (entered_kind x.entered) ∙ turn_kind (table_in b t).body);
        members = rw (held_body x l) (ap (λ (k : ℕ). eqb k 16 || eqb k 17) (entered_kind x.entered) ∙ member_kind (table_in b t).body);
      }

  entry_message : (t : ℕ) → EntryOf b (record { code = 0; own = t; kind = Message; explicit = 0; simple = false })
  unfolding holder_in if span_of tabled_count manner
  entry_message t =
      record {
        spanned = record { count = refl; few = omega arith; near = λ i k. absurd (omega arith); inside = λ i k. absurd (omega arith); at = λ i k. absurd (omega arith) };
        sequence = refl;
        members = refl;
      }

  pub entry_of : (w : ℕ) → Known b index w → EntryOf b (described w)
  entry_of w (of_record t h q) = rw q (entry_record t h)
  entry_of w (of_message t h q) = rw q (entry_message t)

-- one part after the other
module _ (f : Placed → Bool) where
  within_hit : (w : Manner) (x : Placed) (l : List Placed) → f x ≡ true → first f (within w (x ∷ l)) ≡ some x
  unfolding within up_to_mandatory first if
  within_hit in_turn x l g = rw g refl
  within_hit each_once x l g = rw g refl
  within_hit repeated x l g = rw g refl
  within_hit single x l g = rw g refl

  within_skip : (w : Manner) (x : Placed) (l : List Placed) → f x ≡ false → (w ≡ in_turn → x.1.optional ≡ true)
      → first f (within w (x ∷ l)) ≡ first f (within w l)
  unfolding within up_to_mandatory first if
  within_skip in_turn x l g o = rw (g, o refl) refl
  within_skip each_once x l g o = rw g refl
  within_skip repeated x l g o = rw g refl
  within_skip single x l g o = rw g refl

  within_stop : (x : Placed) (l : List Placed) → f x ≡ false → x.1.optional ≡ false → first f (within in_turn (x ∷ l)) ≡ none
  unfolding within up_to_mandatory first if
  within_stop x l g o = rw (g, o) refl

  within_none : (w : Manner) → first f (within w []) ≡ none
  unfolding within up_to_mandatory first
  within_none in_turn = refl
  within_none each_once = refl
  within_none repeated = refl
  within_none single = refl

module _ (h : Holder) (came : List ℕ) (i : ℕ) where
  pub left_none : length (parts_of h) ≤ i → left h i came ≡ []
  unfolding pending
  left_none l = rw (drop_of_length-le (parts_of h) l) refl

  module _ (m : Member) (p : drop i (parts_of h) ≡ m ∷ drop (suc i) (parts_of h)) where
    pub left_free : get_or came i 0 ≡ 0 → left h i came ≡ (i, m) ∷ left h (i + 1) came
    left_free z = rw (p, pending_free came i m (drop (suc i) (parts_of h)) z, add-one) refl

    pub left_come : (get_or came i 0 ≡ 0 → ⊥) → left h i came ≡ left h (i + 1) came
    left_come z = rw (p, pending_come came i m (drop (suc i) (parts_of h)) z, add-one) refl

  -- the first that passes, of those that are awaited
  module _ (f : Placed → Bool) where
    pub awaits_none : length (parts_of h) ≤ i → first f (awaits h i came) ≡ none
    awaits_none l = rw (left_none l) (within_none f (manner h))

    module _ (m : Member) (p : drop i (parts_of h) ≡ m ∷ drop (suc i) (parts_of h)) where
      pub awaits_hit : get_or came i 0 ≡ 0 → f (i, m) ≡ true → first f (awaits h i came) ≡ some (i, m)
      awaits_hit z g = rw (left_free m p z) (within_hit f (manner h) (i, m) (left h (i + 1) came) g)

      pub awaits_skip : get_or came i 0 ≡ 0 → f (i, m) ≡ false → (manner h ≡ in_turn → m.optional ≡ true)
          → first f (awaits h i came) ≡ first f (awaits h (i + 1) came)
      awaits_skip z g o = rw (left_free m p z) (within_skip f (manner h) (i, m) (left h (i + 1) came) g o)

      pub awaits_stop : get_or came i 0 ≡ 0 → f (i, m) ≡ false → manner h ≡ in_turn → m.optional ≡ false → first f (awaits h i came) ≡ none
      awaits_stop z g t o = rw (left_free m p z, t) (within_stop f (i, m) (left h (i + 1) came) g o)

      pub awaits_come : (get_or came i 0 ≡ 0 → ⊥) → first f (awaits h i came) ≡ first f (awaits h (i + 1) came)
      awaits_come z = rw (left_come m p z) refl

-- parts that stand in the table
pub tabled_some : (h : Holder) → 0 < tabled_count h → (tabled_count h ≡ length (parts_of h)) × ((i : ℕ) (came : List ℕ) → tabled h i came ≡ awaits h i came)
unfolding tabled_count tabled
tabled_some (inside y) l = (refl, λ i came. refl)
tabled_some (message t) l = absurd (omega arith)

pub tabled_none : (h : Holder) (came : List ℕ) (i : ℕ) (f : Placed → Bool) → tabled_count h ≤ i → first f (tabled h i came) ≡ none
unfolding tabled_count tabled first
tabled_none (inside y) came i f l = awaits_none (inside y) came i f l
tabled_none (message t) came i f l = refl

module _ {b index : List ℕ} (R : Ready b index) (w : ℕ) (known : Known b index w) (s : Span) (es : s ≡ span_of b (octet_of (described w).kind) (described w).own) where
  abbrev H : Holder
  H = held b w

  pub its : Spanned b H (octet_of (described w).kind) s
  its = rw es (entry_of R w known).spanned

  pub span_few : s.count ≤ 16
  span_few = its.few

  pub span_near : (k : ℕ) → k < s.count → s.first + s.step * k < 8192
  span_near = its.near

  -- the loop over all that are left
  module _ (came : List ℕ) (k : ℕ) (g : Placed → Bool) where
    module _ (l : k < s.count) where
      abbrev pub its_part : PartAt b H (octet_of (described w).kind) s k
      its_part = its.at k l

      pub any_free : get_or came k 0 ≡ 0 → g (k, its_part.part) ≡ true → any g (left H k came) ≡ true
      unfolding any
      any_free z e = rw (left_free H came k its_part.part its_part.is z, e) refl

      pub any_skip : get_or came k 0 ≡ 0 → g (k, its_part.part) ≡ false → any g (left H k came) ≡ any g (left H (k + 1) came)
      unfolding any
      any_skip z e = rw (left_free H came k its_part.part its_part.is z, e) refl

      pub any_come : (get_or came k 0 ≡ 0 → ⊥) → any g (left H k came) ≡ any g (left H (k + 1) came)
      any_come z = rw (left_come H came k its_part.part its_part.is z) refl

  -- whether one of them is mandatory, or there is one at all
  module _ (members : (eqb (octet_of (described w).kind) 16 || eqb (octet_of (described w).kind) 17) ≡ true) (came : List ℕ) (k : ℕ) (flag : Bool) where
    abbrev pub Owed : Placed → Bool
    Owed x = flag || not x.1.optional

    module _ (l : k < s.count) where
      pub lacks_any : get_or came k 0 ≡ 0 → flag ≡ true → any Owed (left H k came) ≡ true
      lacks_any z e = any_free came k Owed l z (rw e refl)

      pub lacks_come : (get_or came k 0 ≡ 0 → ⊥) → any Owed (left H k came) ≡ any Owed (left H (k + 1) came)
      lacks_come z = any_come came k Owed l z

      module _ (o : Bool) (eo : o ≡ eqb (get_or b (s.first + s.step * k + 1) 0) 1) where
        its_optional : o ≡ (its.at k l).part.optional
        its_optional = eo ∙ (its.at k l).optional members

        pub lacks_must : get_or came k 0 ≡ 0 → o ≡ false → any Owed (left H k came) ≡ true
        lacks_must z e = any_free came k Owed l z (rw (← its_optional, e) (or_true flag))

        pub lacks_skip : get_or came k 0 ≡ 0 → flag ≡ false → o ≡ true → any Owed (left H k came) ≡ any Owed (left H (k + 1) came)
        lacks_skip z f e = any_skip came k Owed l z (rw (← its_optional, e, f) refl)

    not_message : eqb (octet_of (described w).kind) 51 ≡ false
    not_message = go (octet_of (described w).kind) members
      where
        go : (n : ℕ) → (eqb n 16 || eqb n 17) ≡ true → eqb n 51 ≡ false
        go n e = or_by (eqb n 16) (eqb n 17) e (λ q. rw (eqb-true n 16 q) refl) λ q. rw (eqb-true n 17 q) refl

    in_table : tabled_count H ≡ length (parts_of H)
    unfolding holder_in if tabled_count
    in_table = rw not_message refl

    pub lacks_end : s.count ≤ k → any Owed (left H k came) ≡ false
    unfolding any
    lacks_end l = rw (left_none H came k (omega (arith, its.count, in_table))) refl
