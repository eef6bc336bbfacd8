-- What the verdict has found when it comes to a rule.
-- Assumes nothing.
use mathlib.Core.Bool.{Bool, true, true≢false}
use mathlib.Core.List.{List}
use mathlib.Core.Path.{◌≡◌, sym, ◌∙◌}
use Prim.Native.Nat.{ℕ, ◌≤◌, ◌<◌}
use native.Mathlib.Omega.{arith}
use lib.Dec.{ltb}
use lib.ListN.{get_or}
use borrow.Author.Tests.{ltb-false}
use Rattle.std.specs.Prelude.{Option}
use Rattle.octets.specs.Numbers.{if_below}
use Rattle.octets.proofs.Tests.{test}
use Rattle.table.specs.Verdict.{no_flaw}
use Rattle.table.specs.declared.CheckCause.{CheckCause}
use Rattle.octets.specs.Lists.{lowest}
use Rattle.octets.proofs.Search.{before_lowest}
use Rattle.table.specs.Syntax.{Table, absent}
use Rattle.table.specs.Octets.{record_shaped}
use Rattle.table.specs.Decide.{dangling, mistagged, circular}
use Rattle.table.specs.Walk.{like, Named, Straight}
use Rattle.table.proofs.Decided.{dangling_complete, mistagged_complete, circular_complete}
use Rattle.table.proofs.Straight.{below_there, ends}
use Rattle.checker.specs.Gathering.{StandIns}
use Rattle.checker.specs.Index.{unless_found}

-- no number below n passes, and so none below n has what the test stands for
pub none_has : (P : ℕ → Type 0) (f : ℕ → Bool) (n p : ℕ) → ((t : ℕ) → t < n → P t → f t ≡ true) → p ≡ lowest f n → n ≤ p → (t : ℕ) → t < n → P t → ⊥
none_has P f n p agrees e h t l x = true≢false (sym (agrees t l x) ∙ before_lowest f n t (omega (arith, e, h, l)))

pub named : (T : Table) (n p q : ℕ) → ((t : ℕ) → t < n → record_shaped (T t) ≡ true)
    → p ≡ lowest (dangling T n) n → n ≤ p → q ≡ lowest (mistagged T) n → n ≤ q → Named T n
named T n p q s d h m k =
    record {
      shaped = s;
      there = none_has _ (dangling T n) n p (λ t l. dangling_complete T n t) d h;
      tagged = none_has _ (mistagged T) n q (λ t l. mistagged_complete T t) m k;
    }

module _ (T : Table) (n : ℕ) (x : Named T n) where
  pub ready : {nodes : List ℕ} → ((t : ℕ) → t < n → get_or nodes t 0 ≡ like T t) → StandIns T n nodes
  ready r = record { closed = below_there T n x; right = r }

  pub straight : ((t : ℕ) → n ≤ t → T t ≡ absent) → (p : ℕ) → p ≡ lowest (circular T n) n → n ≤ p → Straight T n
  straight beyond p e h = record { named = x; ends = ends T n (below_there T n x) (none_has _ (circular T n) n p (circular_complete T n beyond) e h) }

-- a rule that refused none found none
pub unfound : {n p : ℕ} (k : CheckCause) {o : Option ℕ} → o ≡ if_below n p → no_flaw ≡ unless_found k o → n ≤ p
unfound {n} {p} k e q = test (ltb p n) (λ t. let z = rw (e, t) at q in absurd (cc)) λ t. ltb-false p n t
