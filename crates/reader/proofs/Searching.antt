-- The loops that search the parts for the one that an item begins.
-- Assumes nothing.
use borrow.Author.Tests.{eq-eqb, ne_eqb, eqb-true, eqb-false, lt-ltb, le-ltb, ltb-true, ltb-false}
use lib.Dec.{eqb, ltb}
use lib.ListN.{length, get_or, drop}
use mathlib.Core.Bool.{Bool, true, false, not, ◌||◌, true≢false}
use mathlib.Core.List.{List, [], ◌∷◌, Memᴰ as In}
use mathlib.Core.Logic.{◌⊎◌, inl, inr}
use mathlib.Core.Option.{some, none}
use mathlib.Core.Path.{◌≡◌, refl, sym, ap, ◌∙◌}
use native.Mathlib.Omega.{arith}
use Prim.Native.Nat.{ℕ, zero, suc, ◌+◌, ◌*◌, ◌≤◌, ◌<◌}
use Rattle.std.specs.Prelude.{Option, Some, None, Result, Err}
use Rattle.x690.specs.declared.ReadingCause.{ReadingCause}
use Rattle.x690.specs.declared.ReadingCause.TheVariants.{NotAwaited, Trailing}
use Rattle.octets.specs.Answer.{if}
use Rattle.octets.specs.Lists.{any}
use Rattle.octets.specs.Numbers.{if_below}
use Rattle.octets.proofs.Tests.{test}
use Rattle.table.specs.Syntax.{Member, Body, Plain, Sequence, Set, SequenceOf, SetOf, Choice, references}
use Rattle.table.specs.Reading.{table_in, count_in}
use Rattle.kinds.specs.Kinds.{octet_of}
use Rattle.records.specs.Entries.{span_of}
use Rattle.records.specs.Descriptors.{described}
use Rattle.records.specs.declared.descriptor.Descriptor.{Descriptor}
use Rattle.records.specs.declared.entry.Span.{Span}
use Rattle.coding.specs.Awaited.{types}
use Rattle.reader.specs.Codes.{under, starts_with, search_in, hit}
use Rattle.reader.specs.Items.{Holder, inside, message, Manner, in_turn, each_once, repeated, single, manner, parts_of, optionals, Placed, left}
use Rattle.reader.specs.Items.{awaits, remains, some_of, since, is_single, first}
use Rattle.reader.specs.Records.{Known, of_record, of_message, holder_in, Begins, Finds}
use Rattle.reader.specs.Sought.{held, place_of, tabled, tabled_count, direct, unfit_cause, Indirect}
use Rattle.reader.specs.declared.search.Choice.{Choice as Chosen}
use Rattle.reader.specs.declared.search.Under.{Under}
use Rattle.reader.proofs.Among.{starts_is}
use Rattle.reader.proofs.Items.{pending_free, no_cons}
use Rattle.reader.proofs.ItemsSearch.{optional_types}
use Rattle.reader.proofs.Spans.{PartAt, Spanned, turns_by, turn_is, turn_not, by_member, entry_of, held_body, its, awaits_none, awaits_hit}
use Rattle.reader.proofs.Spans.{awaits_skip, awaits_stop, awaits_come, tabled_some, tabled_none}
use Rattle.checker.proofs.Ready.{Ready, described_in}
use Rattle.reader.proofs.Lent.{Seeks}

-- the types of parts are records
drop_in : (ms : List Member) (k : ℕ) (m : Member) (l : List Member) → drop k ms ≡ m ∷ l → In m.type (types ms)
drop_in [] zero m l e = absurd (no_cons m l e)
drop_in [] (suc k) m l e = absurd (no_cons m l e)
drop_in (x ∷ ms) zero m l e = In.head (ap (λ (z : List Member). (get_or z 0 x).type) (sym e))
drop_in (x ∷ ms) (suc k) m l e = In.tail (drop_in ms k m l e)

named_types : (y : Body) → types (parts_of (inside y)) ≡ references y
unfolding parts_of references
named_types (Plain k) = refl
named_types (Sequence ms) = refl
named_types (Set ms) = refl
named_types (SequenceOf t) = refl
named_types (SetOf t) = refl
named_types (Choice ts) = optional_types ts

only_one : (t k : ℕ) (m : Member) (l : List Member) → drop k (optionals (t ∷ [])) ≡ m ∷ l → m.type ≡ t
only_one t zero m l e = ap (λ (z : List Member). (get_or z 0 m).type) (sym e)
only_one t (suc zero) m l e = absurd (no_cons m l e)
only_one t (suc (suc k)) m l e = absurd (no_cons m l e)

module _ {b index : List ℕ} (R : Ready b index) where
  low_record : (t : ℕ) → t < count_in b → (k : ℕ) (m : Member) (l : List Member) → drop k (parts_of (inside (table_in b t).body)) ≡ m ∷ l → m.type < count_in b
  low_record t h k m l e =
      let y = (table_in b t).body in
      let i = drop_in (parts_of (inside y)) k m l e in
      test (ltb m.type (count_in b)) (λ z. ltb-true m.type (count_in b) z)
      λ z. absurd (R.passes.there t h (record { type = m.type; named = rw (named_types y) at i; beyond = ltb-false m.type (count_in b) z }))

  part_low : (w : ℕ) → Known b index w → (k : ℕ) (m : Member) (l : List Member) → drop k (parts_of (held b w)) ≡ m ∷ l → m.type < count_in b
  unfolding holder_in if parts_of
  part_low w (of_record t h q) k m l e =
      let x = described_in R t h in
      low_record t h k m l (rw (q, held_body x R.listed.short) at e)
  part_low w (of_message t h q) k m l e = let z = only_one t k m l (rw q at e) in rw z h

-- a list from a place on
drop_some : (l : List Member) (k : ℕ) → k < length l → (m : Member) × (drop k l ≡ m ∷ drop (suc k) l)
drop_some [] k h = absurd (omega arith)
drop_some (x ∷ l) zero h = (x, refl)
drop_some (x ∷ l) (suc k) h = drop_some l k (omega arith)

-- an item that begins no part that is awaited
some_any : (l : List Placed) → any (λ x. true || not x.1.optional) l ≡ some_of l
unfolding any some_of
some_any [] = refl
some_any (x ∷ l) = refl

not_single : (v : Manner) → by_member v ≡ true → is_single v ≡ false
unfolding is_single
not_single in_turn e = refl
not_single each_once e = refl
not_single repeated e = refl
not_single single e = absurd (true≢false (sym e))

module _ (i : ℕ) (came : List ℕ) (c : ReadingCause) where
  unfit_of : (h : Holder) → ((manner h ≡ each_once → ⊥) → (p : ℕ) → get_or came p 0 ≡ 0) → by_member (manner h) ≡ false → since (manner h) i ≡ i
      → unfit_cause h i came c ≡ c
  unfolding unfit_cause manner is_single parts_of since some_of if
  unfit_of (inside (Plain k)) clear n q = refl
  unfit_of (inside (Sequence ms)) clear n q = absurd (true≢false n)
  unfit_of (inside (Set ms)) clear n q = absurd (true≢false n)
  unfit_of (inside (SequenceOf t)) clear n q = rw (← q, pending_free came 0 (record { type = t; optional = true }) [] (clear repeated_not 0)) refl
    where
      repeated_not : repeated ≡ each_once → ⊥
      repeated_not z = true≢false (sym (ap by_member z))
  unfit_of (inside (SetOf t)) clear n q = rw (← q, pending_free came 0 (record { type = t; optional = true }) [] (clear repeated_not 0)) refl
    where
      repeated_not : repeated ≡ each_once → ⊥
      repeated_not z = true≢false (sym (ap by_member z))
  unfit_of (inside (Choice ts)) clear n q = refl
  unfit_of (message t) clear n q = refl

module _ {b index : List ℕ} {w : ℕ} {came : List ℕ} (Z : Seeks b index w came) (e : Descriptor) (ee : e ≡ described w)
    (g : Bool) (eg : g ≡ (eqb (octet_of e.kind) 16 || eqb (octet_of e.kind) 17)) (i : ℕ) where
  kind_members : g ≡ (eqb (octet_of (described w).kind) 16 || eqb (octet_of (described w).kind) 17)
  kind_members = eg ∙ ap (λ (x : Descriptor). eqb (octet_of x.kind) 16 || eqb (octet_of x.kind) 17) ee

  pub has_members_lem : g ≡ true → (eqb (octet_of (described w).kind) 16 || eqb (octet_of (described w).kind) 17) ≡ true
  has_members_lem y = sym kind_members ∙ y

  by_it : g ≡ by_member (manner (held b w))
  by_it = kind_members ∙ (entry_of Z.ready w Z.known).members

  module _ (r : Bool) (er : r ≡ any (λ x. true || not x.1.optional) (left (held b w) i came)) (c : ReadingCause) (y : g ≡ true) where
    its_rest : remains (held b w) i came ≡ r
    its_rest = sym (some_any (left (held b w) i came)) ∙ sym er

    pub unfit_trailing : r ≡ false → unfit_cause (held b w) i came c ≡ Trailing
    unfolding unfit_cause if
    unfit_trailing z = rw (not_single (manner (held b w)) (sym by_it ∙ y), its_rest, z) refl

    pub unfit_left : r ≡ true → unfit_cause (held b w) i came c ≡ c
    unfolding unfit_cause if
    unfit_left z = rw (not_single (manner (held b w)) (sym by_it ∙ y), its_rest, z) refl

  pub unfit_other : (c : ReadingCause) → g ≡ false → since (manner (held b w)) i ≡ i → unfit_cause (held b w) i came c ≡ c
  unfit_other c n q = unfit_of i came c (held b w) Z.clear (sym by_it ∙ n) q

-- an entry whose parts are sought, and where they are
pub record Parted (b index : List ℕ) (w : ℕ) (came : List ℕ) (e : Descriptor) (s : Span) : Type 0 where
  pub sound : Seeks b index w came
  pub entry : e ≡ described w
  pub span : s ≡ span_of b (octet_of e.kind) e.own

pub parted : {b index : List ℕ} {w : ℕ} {came : List ℕ} {e : Descriptor} {s : Span} → Seeks b index w came → e ≡ described w → s ≡ span_of b (octet_of e.kind) e.own
    → Parted b index w came e s
parted z e s = record { sound = z; entry = e; span = s }

module _ {b index : List ℕ} {w : ℕ} {came : List ℕ} {e : Descriptor} {s : Span} (D : Parted b index w came e s) where
  abbrev H : Holder
  H = held b w

  kind_is : (octet_of e.kind) ≡ (octet_of (described w).kind)
  kind_is = ap (λ (x : Descriptor). octet_of x.kind) D.entry

  pub spanned : Spanned b H (octet_of (described w).kind) s
  spanned = its D.sound.ready w D.sound.known s (D.span ∙ ap (λ (x : Descriptor). span_of b (octet_of x.kind) x.own) D.entry)

  pub few : s.count ≤ 16
  few = spanned.few

  pub near : (k : ℕ) → k < s.count → s.first + s.step * k < 8192
  near = spanned.near

  pub within : (k : ℕ) → k < s.count → s.first + s.step * k < length b
  within = spanned.inside

  is_turn : (octet_of e.kind) ≡ 16 → manner H ≡ in_turn
  is_turn q = turn_is (manner H) (sym (entry_of D.sound.ready w D.sound.known).sequence ∙ eq-eqb (octet_of (described w).kind) 16 (sym kind_is ∙ q))

  no_turn : (octet_of e.kind ≡ 16 → ⊥) → manner H ≡ in_turn → ⊥
  no_turn n = turn_not (manner H) (sym (entry_of D.sound.ready w D.sound.known).sequence ∙ ne_eqb (octet_of (described w).kind) 16 (λ z. n (kind_is ∙ z)))

  pub clear_turn : manner H ≡ in_turn → (p : ℕ) → get_or came p 0 ≡ 0
  clear_turn q = D.sound.clear (λ z. true≢false (ap turns_by (sym q ∙ z)))

  -- the i-th part from which on others are left
  pub since_is : (i j : ℕ) → ((octet_of e.kind ≡ 16) × (i ≡ j)) ⊎ ((octet_of e.kind ≡ 16 → ⊥) × (i ≡ 0)) → i ≡ since (manner H) j
  unfolding since
  since_is i j (inl x) = rw (is_turn x.0) x.1
  since_is i j (inr x) = x.1 ∙ go (manner H) (no_turn x.0)
    where
      go : (v : Manner) → (v ≡ in_turn → ⊥) → 0 ≡ since v j
      go in_turn n = absurd (n refl)
      go each_once n = refl
      go repeated n = refl
      go single n = refl

  pub since_again : (i j : ℕ) → i ≡ since (manner H) j → since (manner H) i ≡ i
  unfolding since
  since_again i j q = go (manner H) q
    where
      go : (v : Manner) → i ≡ since v j → since v i ≡ i
      go in_turn q = refl
      go each_once q = sym q
      go repeated q = sym q
      go single q = sym q

  -- where a part stands in the table
  module _ (k : ℕ) (l : k < s.count) where
    abbrev AtK : PartAt b H (octet_of (described w).kind) s k
    AtK = spanned.at k l

    pub type_low : (t : ℕ) → t ≡ get_or b (s.first + s.step * k) 0 → t < count_in b
    type_low t et =
        let q = part_low D.sound.ready w D.sound.known k AtK.part _ AtK.is in
        let z = et ∙ AtK.type in
        rw z q

    optional_is : (octet_of e.kind) ≡ 16 → eqb (get_or b (s.first + s.step * k + 1) 0) 1 ≡ AtK.part.optional
    optional_is q = AtK.optional (rw (← kind_is, q) refl)

    -- a part that a SEQUENCE may pass over
    abbrev pub May : Type 0
    May = manner H ≡ in_turn → AtK.part.optional ≡ true

    pub may_optional : (octet_of e.kind) ≡ 16 → (o : Bool) → o ≡ eqb (get_or b (s.first + s.step * k + 1) 0) 1 → o ≡ true → May
    may_optional q o eo y = λ z. sym (optional_is q) ∙ sym eo ∙ y

    pub may_other : (octet_of e.kind ≡ 16 → ⊥) → May
    may_other n = λ z. absurd (no_turn n z)

    -- the part itself begins with the code
    module _ (code : ℕ) where
      abbrev Itself : Placed → Bool
      Itself x = starts_with (table_in b x.1.type) code

      first_all : (j : ℕ) → first Itself (tabled H j came) ≡ first Itself (awaits H j came)
      first_all j = ap (λ (x : List Placed). first Itself x) ((tabled_some H (omega (arith, spanned.count, l))).1 j came)

      abbrev pub Other : Type 0
      Other = get_or came k 0 ≡ 0 → Itself (k, AtK.part) ≡ false

      module _ (t : ℕ) (g : Bool) (et : t ≡ get_or b (s.first + s.step * k) 0) (eg : Begins (get_or index t 0) code g) where
        start_is : g ≡ starts_with (table_in b AtK.part.type) code
        start_is = starts_is D.sound.ready code t g (type_low t et) eg ∙ ap (λ (u : ℕ). starts_with (table_in b u) code) (et ∙ AtK.type)

        pub other_code : g ≡ false → Other
        other_code n = λ z. sym start_is ∙ n

        pub direct_found : get_or came k 0 ≡ 0 → g ≡ true → direct b H k came code ≡ k
        direct_found z q = ap (place_of (tabled_count H)) (first_all k ∙ awaits_hit H came k Itself AtK.part AtK.is z (sym start_is ∙ q))

      pub other_come : (get_or came k 0 ≡ 0 → ⊥) → Other
      other_come n = λ z. absurd (n z)

      pub direct_skip : Other → May → direct b H k came code ≡ direct b H (k + 1) came code
      direct_skip o y = ap (place_of (tabled_count H)) (first_all k ∙ step ∙ sym (first_all (k + 1)))
        where
          step : first Itself (awaits H k came) ≡ first Itself (awaits H (k + 1) came)
          step =
              test (eqb (get_or came k 0) 0)
              (λ z. let q = eqb-true (get_or came k 0) 0 z in awaits_skip H came k Itself AtK.part AtK.is q (o q) y)
              λ z. awaits_come H came k Itself AtK.part AtK.is (eqb-false (get_or came k 0) 0 z)

      pub direct_stop : Other → octet_of e.kind ≡ 16 → (o : Bool) → o ≡ eqb (get_or b (s.first + s.step * k + 1) 0) 1 → o ≡ false → direct b H k came code ≡ s.count
      direct_stop n q o eo y =
          let z = clear_turn (is_turn q) k in
          ap (place_of (tabled_count H)) (first_all k ∙ awaits_stop H came k Itself AtK.part AtK.is z (n z) (is_turn q) (sym (optional_is q) ∙ sym eo ∙ y))
          ∙ sym spanned.count

  pub direct_end : (k code : ℕ) → s.count ≤ k → direct b H k came code ≡ s.count
  direct_end k code l =
      ap (place_of (tabled_count H)) (tabled_none H came k (λ x. starts_with (table_in b x.1.type) code) (omega (arith, spanned.count))) ∙ sym spanned.count

  -- as it is answered
  pub direct_place : (i k code : ℕ) → k < s.count → direct b H i came code ≡ k → ◌≡◌ {A = Option ℕ} (Some k) (if_below (tabled_count H) (direct b H i came code))
  unfolding if
  direct_place i k code l e = rw (e, ← spanned.count, lt-ltb k s.count l) refl

  pub direct_no_place : (i code : ℕ) → direct b H i came code ≡ s.count → ◌≡◌ {A = Option ℕ} None (if_below (tabled_count H) (direct b H i came code))
  unfolding if
  direct_no_place i code e = rw (e, ← spanned.count, le-ltb s.count s.count (omega arith)) refl

  pub place_found : {x : Option ℕ} (i code place : ℕ) → x ≡ if_below (tabled_count H) (direct b H i came code) → x ≡ Some place
      → (place ≡ direct b H i came code) × (place < s.count)
  unfolding if
  place_found i code place e f =
      let d = direct b H i came code in
      test (ltb d (tabled_count H))
      (λ t.
      let q : ◌≡◌ {A = Option ℕ} (Some place) (Some d) = sym f ∙ e ∙ rw t refl in
      let p : place ≡ d = cc in
      (p, omega (arith, ltb-true d (tabled_count H) t, spanned.count)))
      λ t. let q : ◌≡◌ {A = Option ℕ} (Some place) None = sym f ∙ e ∙ rw t refl in let z : ◌≡◌ {A = ℕ} 0 1 = cc in absurd (omega arith)

  -- all parts, a message's one with them
  whole_is : eqb (octet_of e.kind) 51 ≡ true → H ≡ message e.own
  unfolding holder_in if
  whole_is q = rw (← D.entry, q) refl

  all_tabled : eqb (octet_of e.kind) 51 ≡ false → tabled_count H ≡ length (parts_of H)
  unfolding holder_in if tabled_count
  all_tabled q = rw (← D.entry, q) refl

  in_table : eqb (octet_of e.kind) 51 ≡ false → s.count ≡ length (parts_of H)
  in_table q = spanned.count ∙ all_tabled q

  abbrev pub Counted : ℕ → Type 0
  Counted n = ((eqb (octet_of e.kind) 51 ≡ true) × (n ≡ 1)) ⊎ ((eqb (octet_of e.kind) 51 ≡ false) × (n ≡ s.count))

  pub part_count : (n : ℕ) → Counted n → n ≡ length (parts_of H)
  unfolding parts_of
  part_count n (inl x) = rw (whole_is x.0) x.1
  part_count n (inr x) = x.1 ∙ in_table x.0

  pub few_parts : (n : ℕ) → Counted n → n ≤ 16
  few_parts n (inl x) = omega (arith, x.1)
  few_parts n (inr x) = omega (arith, x.1, few)

  pub table_part : (n k : ℕ) → Counted n → k < n → eqb (octet_of e.kind) 51 ≡ false → k < s.count
  table_part n k (inl x) l q = absurd (true≢false (sym x.0 ∙ q))
  table_part n k (inr x) l q = omega (arith, x.1)

  pub turn_part : (n k : ℕ) → Counted n → k < n → octet_of e.kind ≡ 16 → k < s.count
  turn_part n k c l q = table_part n k c l (ne_eqb (octet_of e.kind) 51 (λ z. omega (arith, z, q)))

  abbrev pub Typed : ℕ → ℕ → Type 0
  Typed k t = ((eqb (octet_of e.kind) 51 ≡ true) × (t ≡ e.own)) ⊎ ((eqb (octet_of e.kind) 51 ≡ false) × (t ≡ get_or b (s.first + s.step * k) 0))

  pub typed_part : {n k t p : ℕ} → Counted n → k < n → eqb (octet_of e.kind) 51 ≡ false → t ≡ p
      → (s.first + s.step * k < 18446744073709551616 → p ≡ get_or b (s.first + s.step * k) 0) → Typed k t
  typed_part {n} {k} c l q et ep = inr (q, et ∙ ep (omega (arith, near k (table_part n k c l q))))

  pub record Candidate (k t : ℕ) : Type 0 where
    pub part : Member
    pub is : drop k (parts_of H) ≡ part ∷ drop (suc k) (parts_of H)
    pub type : t ≡ part.type
    pub optional : (octet_of e.kind) ≡ 16 → eqb (get_or b (s.first + s.step * k + 1) 0) 1 ≡ part.optional

  pub candidate : (n k t : ℕ) → Counted n → k < n → Typed k t → Candidate k t
  unfolding parts_of
  candidate n k t c l (inl x) =
      let q = whole_is x.0 in
      let y = part_count n c in
      let z : length (parts_of H) ≡ 1 = rw q refl in
      let o : k ≡ 0 = omega arith in
      record {
        part = record { type = e.own; optional = true };
        is = rw (o, q) refl;
        type = x.1;
        optional = λ v. let u = eqb-true (octet_of e.kind) 51 x.0 in absurd (omega (arith, u, v));
      }
  candidate n k t c l (inr x) =
      let m = table_part n k c l x.0 in
      let p = spanned.at k m in
      record { part = p.part; is = p.is; type = x.1 ∙ p.type; optional = λ v. optional_is k m v }

  module _ (code : ℕ) where
    abbrev pub UnderIt : Placed → Bool
    UnderIt y = hit (search_in (table_in b) 129 y.1.type code)

    module _ (k t : ℕ) (C : Candidate k t) where
      pub candidate_low : t < count_in b
      candidate_low = let q = part_low D.sound.ready w D.sound.known k C.part _ C.is in let z = C.type in rw z q

      module _ (way : List ℕ) (r : Option Under) (F : Finds b code way t r) where
        under_none : r ≡ None → UnderIt (k, C.part) ≡ false
        under_none q = ap (λ (u : ℕ). hit (search_in (table_in b) 129 u code)) (sym C.type) ∙ ap hit (rw q at F)

        pub indirect_part : (i from u d : ℕ) → first UnderIt (awaits H i came) ≡ first UnderIt (awaits H k came) → get_or came k 0 ≡ 0 → r ≡ under u d
            → (part : Member) × (first UnderIt (awaits H i came) ≡ some (k, part)) × (from ≡ from) × Finds b code way part.type (under u d)
        indirect_part i from u d v z q =
            let G : Finds b code way t (under u d) = rw q at F in
            let y = ap (λ (u : ℕ). hit (search_in (table_in b) 129 u code)) (sym C.type) ∙ ap hit G.0 in
            (C.part, v ∙ awaits_hit H came k UnderIt C.part C.is z y, refl, rw C.type at G)

        pub indirect_stop : get_or came k 0 ≡ 0 → r ≡ None → octet_of e.kind ≡ 16 → (o : Bool) → o ≡ eqb (get_or b (s.first + s.step * k + 1) 0) 1 → o ≡ false
            → first UnderIt (awaits H k came) ≡ none
        indirect_stop z q v o eo y = awaits_stop H came k UnderIt C.part C.is z (under_none q) (is_turn v) (sym (C.optional v) ∙ sym eo ∙ y)

        skip : get_or came k 0 ≡ 0 → r ≡ None → (manner H ≡ in_turn → C.part.optional ≡ true)
            → first UnderIt (awaits H k came) ≡ first UnderIt (awaits H (k + 1) came)
        skip z q y = awaits_skip H came k UnderIt C.part C.is z (under_none q) y

        pub indirect_optional : get_or came k 0 ≡ 0 → r ≡ None → octet_of e.kind ≡ 16 → (o : Bool) → o ≡ eqb (get_or b (s.first + s.step * k + 1) 0) 1 → o ≡ true
            → first UnderIt (awaits H k came) ≡ first UnderIt (awaits H (k + 1) came)
        indirect_optional z q v o eo y = skip z q (λ _. sym (C.optional v) ∙ sym eo ∙ y)

        pub indirect_other : get_or came k 0 ≡ 0 → r ≡ None → (octet_of e.kind ≡ 16 → ⊥) → first UnderIt (awaits H k came) ≡ first UnderIt (awaits H (k + 1) came)
        indirect_other z q n = skip z q (λ v. absurd (no_turn n v))

    pub indirect_come : (n k : ℕ) → Counted n → k < n → (get_or came k 0 ≡ 0 → ⊥) → first UnderIt (awaits H k came) ≡ first UnderIt (awaits H (k + 1) came)
    indirect_come n k c l z = let m = drop_some (parts_of H) k (omega (arith, part_count n c)) in awaits_come H came k UnderIt m.0 m.1 z

    pub indirect_end : (n k : ℕ) → Counted n → n ≤ k → first UnderIt (awaits H k came) ≡ none
    indirect_end n k c l = awaits_none H came k UnderIt (omega (arith, part_count n c))

    pub indirect_none : (i from : ℕ) (way : List ℕ) → first UnderIt (awaits H i came) ≡ none → (r : Result Chosen ReadingCause) → r ≡ Err (unfit_cause H i came NotAwaited)
        → Indirect b H i came code from way r
    indirect_none i from way v r q = rw q (v, refl)
