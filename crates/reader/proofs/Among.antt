-- The loop that searches under CHOICEs without tags, by ways out.
-- Assumes nothing.
use borrow.Author.Tests.{ltb-true, ltb-false}
use lib.Dec.{ltb}
use lib.ListN.{length, get_or, set}
use mathlib.Core.Bool.{Bool, true, false}
use mathlib.Core.List.{List}
use mathlib.Core.Path.{◌≡◌, refl, sym, ap, ◌∙◌}
use native.Mathlib.Numerals.{add-one}
use native.Mathlib.Omega.{arith}
use Prim.Native.Nat.{ℕ, zero, suc, ◌+◌, ◌-◌, ◌*◌, ◌/◌, ◌%◌, ◌≤◌, ◌<◌}
use Rattle.std.specs.Prelude.{None}
use Rattle.octets.proofs.Members.{place_in}
use Rattle.octets.proofs.Tests.{test}
use Rattle.table.specs.Syntax.{Record, Table, references}
use Rattle.table.specs.Passes.{Nested}
use Rattle.table.specs.Rules.{siblings}
use Rattle.table.specs.Reading.{every_at, table_in, count_in}
use Rattle.records.specs.Entries.{counted}
use Rattle.records.specs.Descriptors.{described}
use Rattle.records.specs.declared.descriptor.Descriptor.{Descriptor}
use Rattle.records.specs.declared.entry.Span.{Span}
use Rattle.records.proofs.Promises.{entered_choice}
use Rattle.reader.specs.Codes.{first_of, untagged, starts_with, under}
use Rattle.reader.specs.Ways.{here}
use Rattle.reader.specs.Records.{Begins, Finds}
use Rattle.reader.proofs.Begun.{Fit, bare, first_most, fit, nested, nested_all}
use Rattle.reader.proofs.ItemsWay.{Looking, look_first, look_found, look_down, look_next, look_none, look_back, look_above, look_deep}
use Rattle.reader.proofs.ItemsWay.{turns_left, fewer_down, fewer_next, fewer_back, search_here, search_other}
use Rattle.checker.proofs.Ready.{Ready, described_in}

every_at_lem : (b : List ℕ) (p n j : ℕ) → j < n → get_or (every_at 1 b p n) j 0 ≡ get_or b (p + j) 0
unfolding every_at
every_at_lem b p zero j h = absurd (omega arith)
every_at_lem b p (suc n) zero h = let q : p + 0 ≡ p = omega arith in rw q refl
every_at_lem b p (suc n) (suc j) h = let q : p + 1 + j ≡ p + suc j = omega arith in every_at_lem b (p + 1) n j (omega arith) ∙ rw q refl

-- the alternatives of a CHOICE, where they stand
pub record Alternatives (b : List ℕ) (x : ℕ) (s : Span) : Type 0 where
  pub count : s.count ≡ length (siblings (table_in b x).body)
  pub few : s.count ≤ 16
  pub near : s.first + s.count ≤ 8192
  pub at : (j : ℕ) → j < s.count → get_or b (s.first + j) 0 ≡ get_or (siblings (table_in b x).body) j 0

-- before a turn
pub record Amid (b : List ℕ) (code : ℕ) (way : List ℕ) (t d x j : ℕ) : Type 0 where
  pub looking : Looking (table_in b) code way t d x j
  pub low : x < count_in b
  pub deep : d ≤ count_in b

module _ {b ix : List ℕ} (R : Ready b ix) where
  abbrev T : Table
  T = table_in b

  abbrev F : (t : ℕ) → Fit (T t)
  F = fit b T (count_in b) R.passes

  pub code_is : (a f : ℕ) → a < count_in b → f ≡ (described (get_or ix a 0)).code → f ≡ first_of (T a)
  code_is a f h e = e ∙ (described_in R a h).entered.code

  pub code_most : (a : ℕ) → a < count_in b → (described (get_or ix a 0)).code ≤ untagged
  code_most a h = let q = first_most (T a) (F a) in omega (arith, (described_in R a h).entered.code, q)

  pub starts_is : (code a : ℕ) (g : Bool) → a < count_in b → Begins (get_or ix a 0) code g → g ≡ starts_with (T a) code
  starts_is code a g h e = e b (T a) (described_in R a h)

  pub alternatives_of : (x : ℕ) (s : Span) → x < count_in b → first_of (T x) ≡ untagged → s ≡ counted b (described (get_or ix x 0)).own 1 → Alternatives b x s
  unfolding siblings
  alternatives_of x s h e q =
      let y = bare (T x) (F x) e in
      let w = entered_choice (described_in R x h).entered y.alternatives y.is in
      let o = (described (get_or ix x 0)).own in
      let l = R.listed.short in
      let p : siblings (T x).body ≡ y.alternatives = ap siblings y.is in
      rw q
      (record {
        count = w.count ∙ ap length (sym p);
        few = omega (arith, w.few, w.count);
        near = omega (arith, w.within, w.count);
        at = λ j k. sym (every_at_lem b (o + 1) (get_or b o 0) j k) ∙ ap (λ (ts : List ℕ). get_or ts j 0) (w.is ∙ sym p);
      })

  pub part_low : (x j : ℕ) → x < count_in b → first_of (T x) ≡ untagged → j < length (siblings (T x).body) → get_or (siblings (T x).body) j 0 < count_in b
  unfolding siblings references
  part_low x j h e k =
      let y = bare (T x) (F x) e in
      let a = get_or (siblings (T x).body) j 0 in
      test (ltb a (count_in b)) (λ z. ltb-true a (count_in b) z)
      λ z.
      absurd (R.passes.there x h
      (record { type = a; named = rw y.is (rw y.is at (place_in (siblings (T x).body) j 0 k)); beyond = ltb-false a (count_in b) z }))

  above_low : (x j : ℕ) → j < length (siblings (T x).body) → x < count_in b
  unfolding siblings
  above_low x j h =
      test (ltb x (count_in b)) (λ z. ltb-true x (count_in b) z)
      λ z. let q = ap (λ (r : Record). length (siblings r.body)) (R.passes.no_more x (ltb-false x (count_in b) z)) in absurd (omega arith)

  -- before the first
  pub amid_first : (code : ℕ) (way : List ℕ) (t : ℕ) → code < untagged → t < count_in b → first_of (T t) ≡ untagged → Amid b code way t 0 t 0
  amid_first code way t tag h e =
      record { looking = look_first T F (nested_all b T (count_in b) R.passes) code (λ z. omega arith) way t e; low = h; deep = omega arith }

  -- a record itself
  pub seek_here : (code : ℕ) (way : List ℕ) (t : ℕ) (g : Bool) → code < untagged → t < count_in b → Begins (get_or ix t 0) code g → g ≡ true → Finds b code way t (under t 0)
  seek_here code way t g tag h eg e =
      let q = sym (starts_is code t g h eg) ∙ e in
      (search_here T F (nested_all b T (count_in b) R.passes) code (λ z. omega arith) t q, here, q, h)

  pub seek_other : (code : ℕ) (way : List ℕ) (t : ℕ) (g : Bool) (f : ℕ) → code < untagged → t < count_in b → Begins (get_or ix t 0) code g → g ≡ false
      → f ≡ (described (get_or ix t 0)).code → (f ≡ untagged → ⊥) → Finds b code way t None
  seek_other code way t g f tag h eg e ef n =
      search_other T F (nested_all b T (count_in b) R.passes) code (λ z. omega arith) t (sym (starts_is code t g h eg) ∙ e) (λ z. n (code_is t f h ef ∙ z))

-- one turn: the CHOICE x has its alternatives at s
pub record Turn (b ix : List ℕ) (code : ℕ) (way : List ℕ) (t d x j : ℕ) (s : Span) : Type 0 where
  pub ready : Ready b ix
  pub tag : code < untagged
  pub wide : length way ≡ 128
  pub amid : Amid b code way t d x j
  pub spans : s ≡ counted b (described (get_or ix x 0)).own 1

pub turn_at : {b ix : List ℕ} {code : ℕ} {way : List ℕ} {t d x j : ℕ} {e : Descriptor} {s : Span} → Ready b ix → code < untagged → length way ≡ 128
    → Amid b code way t d x j → e ≡ described (get_or ix x 0) → s ≡ counted b e.own 1 → Turn b ix code way t d x j s
turn_at R h l a e q = record { ready = R; tag = h; wide = l; amid = a; spans = rw e at q }

module _ {b ix : List ℕ} {code : ℕ} {way : List ℕ} {t d x j : ℕ} {s : Span} (P : Turn b ix code way t d x j s) where
  abbrev Tb : Table
  Tb = table_in b

  abbrev Fb : (t : ℕ) → Fit (table_in b t)
  Fb = fit b (table_in b) (count_in b) P.ready.passes

  abbrev N : (t : ℕ) → Nested (table_in b) 128 t
  N = nested_all b (table_in b) (count_in b) P.ready.passes

  not_tag : code ≡ untagged → ⊥
  not_tag e = omega (arith, P.tag)

  pub its : Alternatives b x s
  its = alternatives_of P.ready x s P.amid.low P.amid.looking.bare P.spans

  -- there is one more, whose number is a
  module _ (h : j < s.count) {a : ℕ} (ea : a ≡ get_or b (s.first + j) 0) where
    within : j < length (siblings (Tb x).body)
    within = omega (arith, its.count)

    is_part : a ≡ get_or (siblings (Tb x).body) j 0
    is_part = ea ∙ its.at j h

    pub record Next : Type 0 where
      pub small : a < count_in b
      pub few : j < 16
      pub deep : d < count_in b
      pub room : d < 128

    pub next : Next
    next =
        let q = look_deep Tb Fb N code not_tag (count_in b) (nested b Tb (count_in b) P.ready.passes t) P.amid.looking within in
        record {
          small = rw is_part (part_low P.ready x j P.amid.low P.amid.looking.bare within);
          few = omega (arith, its.few);
          deep = q;
          room = omega (arith, P.ready.passes.few);
        }

    module _ {g : Bool} (eg : Begins (get_or ix a 0) code g) where
      abbrev Noted : List ℕ
      Noted = set way d (16 * x + j)

      its_start : g ≡ starts_with (Tb (get_or (siblings (Tb x).body) j 0)) code
      its_start = starts_is P.ready code a g next.small eg ∙ ap (λ (u : ℕ). starts_with (Tb u) code) is_part

      room_way : d < length way
      room_way = omega (arith, next.room, P.wide)

      pub among_found : g ≡ true → Finds b code Noted t (under a (d + 1))
      among_found e =
          let y = look_found Tb Fb N code not_tag way t d x j P.amid.looking within next.few room_way (sym its_start ∙ e) in
          rw (add-one, is_part) (y.0, y.1, sym its_start ∙ e, rw is_part at next.small)

      its_first : (f : ℕ) → f ≡ (described (get_or ix a 0)).code → f ≡ first_of (Tb (get_or (siblings (Tb x).body) j 0))
      its_first f ef = code_is P.ready a f next.small ef ∙ ap (λ (u : ℕ). first_of (Tb u)) is_part

      pub among_down : (f : ℕ) → f ≡ (described (get_or ix a 0)).code → f ≡ untagged → Amid b code Noted t (d + 1) a 0
      among_down f ef e =
          rw (add-one, is_part)
          (record {
            looking = look_down Tb Fb N code not_tag way t d x j P.amid.looking within next.few room_way (sym (its_first f ef) ∙ e);
            low = rw is_part at next.small;
            deep = omega (arith, next.deep);
          })

      pub among_next : g ≡ false → (f : ℕ) → f ≡ (described (get_or ix a 0)).code → (f ≡ untagged → ⊥) → Amid b code Noted t d x (j + 1)
      among_next e f ef n =
          rw add-one
          (record {
            looking =
                look_next Tb Fb N code not_tag way t d x j P.amid.looking within
                next.few room_way (sym its_start ∙ e) (λ z. n (its_first f ef ∙ z));
            low = P.amid.low;
            deep = P.amid.deep;
          })

    pub fewer_under : turns_left Tb (count_in b) (set way d (16 * x + j)) (d + 1) a 0 < turns_left Tb (count_in b) way d x j
    fewer_under = rw (add-one, is_part) (fewer_down Tb (count_in b) way d x j within next.deep next.few (omega (arith, next.room, P.wide)))

    pub fewer_beside : turns_left Tb (count_in b) (set way d (16 * x + j)) d x (j + 1) < turns_left Tb (count_in b) way d x j
    fewer_beside = rw add-one (fewer_next Tb (count_in b) way d x j within next.deep)

  -- there is none
  module _ (h : s.count ≤ j) where
    beyond : length (siblings (Tb x).body) ≤ j
    beyond = omega (arith, its.count)

    pub among_none : d ≡ 0 → Finds b code way t None
    among_none z = look_none Tb Fb N code not_tag way t d x j P.amid.looking beyond z

    module _ (z : d ≡ 0 → ⊥) where
      one_less : d ≡ suc (d - 1)
      one_less = omega arith

      pub among_back : Amid b code way t (d - 1) (get_or way (d - 1) 0 / 16) (get_or way (d - 1) 0 % 16 + 1)
      among_back =
          rw add-one
          (record {
            looking = look_back Tb Fb N code not_tag way t d x j P.amid.looking beyond (d - 1) one_less;
            low = above_low P.ready _ _ (look_above Tb Fb N code not_tag way t d x j P.amid.looking beyond (d - 1) one_less);
            deep = omega (arith, P.amid.deep);
          })

      -- what is noted is small
      pub among_small : get_or way (d - 1) 0 < 2048
      among_small =
          let q = look_above Tb Fb N code not_tag way t d x j P.amid.looking beyond (d - 1) one_less in
          omega (arith, above_low P.ready _ _ q, P.ready.passes.few)

      pub fewer_above : turns_left Tb (count_in b) way (d - 1) (get_or way (d - 1) 0 / 16) (get_or way (d - 1) 0 % 16 + 1) < turns_left Tb (count_in b) way d x j
      fewer_above = rw add-one (fewer_back Tb (count_in b) way d x j beyond (d - 1) one_less)
