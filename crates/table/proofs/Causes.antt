-- The verdict is the first cause that holds.
-- Assumes nothing.
use mathlib.Core.Bool.{true, true≢false}
use mathlib.Core.List.{List, [], ◌∷◌}
use mathlib.Core.Path.{◌≡◌, refl, sym, ap, ◌∙◌, subst, fun_ext}
use Prim.Native.Nat.{ℕ, suc, ◌≤◌, ◌<◌}
use native.Mathlib.Omega.{arith}
use Rattle.std.specs.Prelude.{Ok, Err}
use lib.Dec.{ltb, eqb}
use lib.ListN.{length}
use borrow.Author.Tests.{ltb-true, ltb-false, eqb-true, eqb-false}
use Rattle.table.specs.declared.CheckCause.{CheckCause}
use Rattle.table.specs.declared.CheckCause.TheVariants.{TableShape, NoRecord, WrongTag, ChoiceLoop, SharedTag, NoValue}
use Rattle.octets.proofs.Tests.{test}
use Rattle.octets.specs.Tests.{if}
use Rattle.octets.specs.Lists.{lowest}
use Rattle.octets.specs.Numbers.{Octets}
use Rattle.octets.proofs.Search.{lowest_passes, before_lowest}
use Rattle.table.specs.Syntax.{Record, Table, absent, table}
use Rattle.table.specs.Octets.{record_shaped, Spells, Misshapen, over_long}
use Rattle.table.specs.Rules.{Dangling, Mistagged, Circular, Sharing, Infinite}
use Rattle.table.specs.Reading.{scan, look}
use Rattle.table.specs.Decide.{dangling as Decide·dangling, mistagged as Decide·mistagged, circular as Decide·circular, sharing as Decide·sharing}
use Rattle.table.specs.Decide.{infinite as is_infinite}
use Rattle.table.specs.Cause.{cause_number, Holds, Breaks, misshapen, dangling, mistagged, circular, sharing, infinite, FirstCause}
use Rattle.table.specs.Verdict.{Test, in_turn, record_causes, judge, too_long, Verdict, verdict}
use Rattle.table.specs.Passes.{Passes}
use Rattle.table.specs.Walk.{Named}
use Rattle.table.proofs.Scan.{Found, all_table, table_beyond, scan_spells, scan_misshapen}
use Rattle.table.proofs.Spelled.{spells_scan, spells_looks, spells_not_misshapen, misshapen_unique}
use Rattle.table.proofs.Straight.{ends, below_there}
use Rattle.table.proofs.Limits.{tag_numbers, listed_numbers}
use Rattle.table.proofs.Decided.{dangling_sound, dangling_complete, mistagged_sound, mistagged_complete, circular_sound}
use Rattle.table.proofs.Decided.{circular_complete, sharing_sound, sharing_complete, infinite_true, infinite_false}

-- the numbers are 1 to 6, and no two causes share one
pub in_range_lem : (c : CheckCause) → (1 ≤ cause_number c) × (cause_number c < 7)
in_range_lem TableShape = (omega arith, omega arith)
in_range_lem NoRecord = (omega arith, omega arith)
in_range_lem WrongTag = (omega arith, omega arith)
in_range_lem ChoiceLoop = (omega arith, omega arith)
in_range_lem SharedTag = (omega arith, omega arith)
in_range_lem NoValue = (omega arith, omega arith)

-- the cause with a number
unfoldable numbered : ℕ → CheckCause
numbered n =
    if (eqb n 1) TableShape λ _.
    if (eqb n 2) NoRecord λ _.
    if (eqb n 3) WrongTag λ _.
    if (eqb n 4) ChoiceLoop λ _.
    if (eqb n 5) SharedTag λ _.
    NoValue

numbered_back : (c : CheckCause) → numbered (cause_number c) ≡ c
unfolding numbered
numbered_back TableShape = refl
numbered_back NoRecord = refl
numbered_back WrongTag = refl
numbered_back ChoiceLoop = refl
numbered_back SharedTag = refl
numbered_back NoValue = refl

pub same_cause : (c d : CheckCause) → cause_number c ≡ cause_number d → c ≡ d
same_cause c d e = sym (numbered_back c) ∙ ap numbered e ∙ numbered_back d

-- no cause below the number k holds
abbrev Before : List ℕ → ℕ → Type 0
Before b k = (d : CheckCause) (q : ℕ) → cause_number d < k → Breaks b q d → ⊥

-- what the verdict is to say
abbrev pub Right : List ℕ → Verdict → Type 0
Right b (Ok u) = (c : CheckCause) (p : ℕ) → Breaks b p c → ⊥
Right b (Err x) = FirstCause b x.cause x.place

-- a table whose causes are those of the octets
module _ (b : List ℕ) (T : Table) (n : ℕ) (beyond : (t : ℕ) → n ≤ t → T t ≡ absent)
    (to : (p : ℕ) (rule : Table → ℕ → Type 0) → p < n → rule T n → Holds b p rule)
    (from : (p : ℕ) (rule : Table → ℕ → Type 0) → Holds b p rule → (p < n) × rule T n) where
  infinite_complete : (t : ℕ) → Infinite T t → is_infinite T n t ≡ true
  infinite_complete t h = test (is_infinite T n t) (λ e. e) λ e. absurd (h (infinite_false T n t e))

  -- the test of the cause with the number k agrees with its rule
  record Agrees (k : ℕ) (x : Test) : Type 0 where
    rank : cause_number x.0 ≡ k
    sound : (p : ℕ) → p < n → x.1 T n p ≡ true → Breaks b p x.0
    complete : (p : ℕ) → Breaks b p x.0 → (p < n) × (x.1 T n p ≡ true)

  dangling_agrees : Agrees 2 (NoRecord, λ T n p. Decide·dangling T n p)
  dangling_agrees = record {
    rank = refl;
    sound = λ p h e. dangling (to p (λ T n. Dangling T n p) h (dangling_sound T n p e));
    complete = λ p x. by p x;
  }
    where
      by : (p : ℕ) → Breaks b p NoRecord → (p < n) × (Decide·dangling T n p ≡ true)
      by p (dangling x) = let y = from p (λ T n. Dangling T n p) x in (y.0, dangling_complete T n p y.1)

  mistagged_agrees : Agrees 3 (WrongTag, λ T n p. Decide·mistagged T p)
  mistagged_agrees = record {
    rank = refl;
    sound = λ p h e. mistagged (to p (λ T n. Mistagged (T p)) h (mistagged_sound T p e));
    complete = λ p x. by p x;
  }
    where
      by : (p : ℕ) → Breaks b p WrongTag → (p < n) × (Decide·mistagged T p ≡ true)
      by p (mistagged x) = let y = from p (λ T n. Mistagged (T p)) x in (y.0, mistagged_complete T p y.1)

  circular_agrees : Agrees 4 (ChoiceLoop, Decide·circular)
  circular_agrees = record {
    rank = refl;
    sound = λ p h e. circular (to p (λ T n. Circular T p) h (circular_sound T n p e));
    complete = λ p x. by p x;
  }
    where
      by : (p : ℕ) → Breaks b p ChoiceLoop → (p < n) × (Decide·circular T n p ≡ true)
      by p (circular x) = let y = from p (λ T n. Circular T p) x in (y.0, circular_complete T n beyond p y.0 y.1)

  sharing_agrees : Agrees 5 (SharedTag, Decide·sharing)
  sharing_agrees = record {
    rank = refl;
    sound = λ p h e. sharing (to p (λ T n. Sharing T p) h (sharing_sound T n p e));
    complete = λ p x. by p x;
  }
    where
      by : (p : ℕ) → Breaks b p SharedTag → (p < n) × (Decide·sharing T n p ≡ true)
      by p (sharing x) = let y = from p (λ T n. Sharing T p) x in (y.0, sharing_complete T n beyond p y.1)

  infinite_agrees : Agrees 6 (NoValue, is_infinite)
  infinite_agrees = record {
    rank = refl;
    sound = λ p h e. infinite (to p (λ T n. Infinite T p) h (infinite_true T n beyond p e));
    complete = λ p x. by p x;
  }
    where
      by : (p : ℕ) → Breaks b p NoValue → (p < n) × (is_infinite T n p ≡ true)
      by p (infinite x) = let y = from p (λ T n. Infinite T p) x in (y.0, infinite_complete p y.1)

  -- these are the causes from the number k to 6, in this order
  abbrev InOrder : ℕ → List Test → Type 0
  InOrder k [] = k ≡ 7
  InOrder k (x ∷ xs) = Agrees k x × InOrder (suc k) xs

  -- 2 to 6 are judged in the order of their numbers
  in_order : InOrder 2 record_causes
  in_order = (dangling_agrees, (mistagged_agrees, (circular_agrees, (sharing_agrees, (infinite_agrees, refl)))))

  -- one cause in turn, after all with a lower number
  module _ (k : ℕ) (x : Test) (its : Agrees k x) where
    -- none of its number holds below the lowest record that is found
    none_lower : (d : CheckCause) (q : ℕ) → cause_number d ≡ k → Breaks b q d → (q < n) × (q < lowest (x.1 T n) n → ⊥)
    none_lower d q e h =
        let s : d ≡ x.0 = same_cause d x.0 (e ∙ sym its.rank) in
        let y = its.complete q (subst (Breaks b q) s h) in
        (y.0, λ l. true≢false (sym y.1 ∙ before_lowest (x.1 T n) n q l))

    step : (xs : List Test) → Before b k → (Before b (suc k) → Right b (in_turn T n xs)) → Right b (in_turn T n (x ∷ xs))
    step xs before after =
        test (ltb (lowest (x.1 T n) n) n)
        (λ e.
        let h = ltb-true (lowest (x.1 T n) n) n e in
        rw e (record {
          holds = its.sound (lowest (x.1 T n) n) h (lowest_passes (x.1 T n) n h);
          earlier = λ d q i. before d q (rw its.rank at i);
          lower = λ q i y. (none_lower x.0 q its.rank y).1 i;
        }))
        λ e.
        let h = ltb-false (lowest (x.1 T n) n) n e in
        rw e (after λ d q i y. test (eqb (cause_number d) k)
        (λ s. let z = none_lower d q (eqb-true (cause_number d) k s) y in z.1 (omega arith))
        λ s. before d q (omega (arith, eqb-false (cause_number d) k s)) y)

  judged : (k : ℕ) (xs : List Test) → InOrder k xs → Before b k → Right b (in_turn T n xs)
  judged k [] o before = λ c p h. before c p (omega (arith, o, (in_range_lem c).1)) h
  judged k (x ∷ xs) o before = step k x o.0 xs before (judged (suc k) xs o.1)

module _ (b : List ℕ) (octets : Octets b) where
  -- the table that the scan reads is that of the records
  pub looks : {rs : List Record} → Spells b rs → look b (scan b).offsets ≡ table rs
  looks x = fun_ext (spells_looks octets x)

  to_rule : Found b → (p : ℕ) (rule : Table → ℕ → Type 0) → p < length (scan b).offsets
      → rule (look b (scan b).offsets) (length (scan b).offsets) → Holds b p rule
  to_rule f p rule h x =
      record { records = f.records; spells = f.spells; there = rw f.count h; holds = rw (← looks f.spells, f.count) x }

  from_rule : (p : ℕ) (rule : Table → ℕ → Type 0) → Holds b p rule
      → (p < length (scan b).offsets) × rule (look b (scan b).offsets) (length (scan b).offsets)
  from_rule p rule x = rw (looks x.spells, (spells_scan x.spells).1) (x.there, x.holds)

  -- a cause with the number 1 is the shape
  shape_of : (d : CheckCause) (q : ℕ) → cause_number d ≡ 1 → Breaks b q d → Misshapen b q
  shape_of d q e x = by (subst (Breaks b q) (same_cause d TableShape e) x)
    where
      by : Breaks b q TableShape → Misshapen b q
      by (misshapen y) = y

  pub right : Right b (verdict b)
  unfolding verdict judge
  right =
      test (too_long b)
      (λ e. rw e (record {
        holds = misshapen (over_long (omega (arith, ltb-true)));
        earlier = λ d q h x. omega (arith, (in_range_lem d).0);
        lower = λ q h x. omega arith;
      }))
      λ e.
      let short : length b ≤ 8192 = omega (arith, ltb-false) in
      test (scan b).whole
      (λ w.
      let f = scan_spells b octets short w in
      rw (e, w) (judged b _ _ f.beyond (to_rule f) from_rule 2 record_causes (in_order b _ _ f.beyond (to_rule f) from_rule)
      (λ d q h x. spells_not_misshapen octets f.spells (shape_of d q (omega (arith, (in_range_lem d).0)) x))))
      λ w.
      let m = scan_misshapen b octets short w in
      rw (e, w) (record {
        holds = misshapen m;
        earlier = λ d q h x. omega (arith, (in_range_lem d).0);
        lower = λ q h x. omega (arith, misshapen_unique octets (shape_of TableShape q refl x) m);
      })

  -- octets of which no cause holds
  module _ (none : (c : CheckCause) (p : ℕ) → Breaks b p c → ⊥) where
    pub sound : Found b
    sound =
        test (ltb 8192 (length b)) (λ e. absurd (none TableShape 0 (misshapen (over_long (ltb-true 8192 (length b) e))))) λ e.
        let short = ltb-false 8192 (length b) e in
        test (scan b).whole (scan_spells b octets short) λ w. absurd (none TableShape _ (misshapen (scan_misshapen b octets short w)))

    -- by the rules alone, for the records that the octets spell
    pub keeps : {rs : List Record} → Spells b rs → Passes b (table rs) (length rs)
    keeps {rs} x =
        let T = table rs in
        let n = length rs in
        let beyond = table_beyond rs in
        let held : (p : ℕ) (rule : Table → ℕ → Type 0) → p < n → rule T n → Holds b p rule =
        λ p rule h y. record { records = rs; spells = x; there = h; holds = y } in
        let named : Named T n = record {
          shaped = all_table record_shaped rs x.shaped;
          there = λ t h y. none NoRecord t (dangling (held t (λ T n. Dangling T n t) h y));
          tagged = λ t h y. none WrongTag t (mistagged (held t (λ T n. Mistagged (T t)) h y));
        } in
        record {
          some = omega arith;
          few = omega arith;
          short = omega arith;
          shaped = named.shaped;
          there = named.there;
          tagged = named.tagged;
          ends = ends T n (below_there T n named) (λ t h y. none ChoiceLoop t (circular (held t (λ T n. Circular T t) h y)));
          distinct = λ t h y. none SharedTag t (sharing (held t (λ T n. Sharing T t) h y));
          finite = λ t h. test (is_infinite T n t)
              (λ e. absurd (none NoValue t (infinite (held t (λ T n. Infinite T t) h (infinite_true T n beyond t e))))) λ e. infinite_false T n t e;
          tag_numbers = λ t h g i. omega (arith, tag_numbers octets x t h g i);
          listed_numbers = λ t h ns q k i. omega (arith, listed_numbers octets x t h ns q k i);
          no_more = beyond;
        }
