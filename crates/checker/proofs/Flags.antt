-- The marks of the records in a walk, without the mark that stands behind them.
-- Assumes nothing.
use mathlib.Core.List.Memᴰ.{head as first_of}
use mathlib.Core.List.Memᴰ.{tail as later}
use mathlib.Core.List.{List, [], ◌∷◌, Memᴰ as In}
use mathlib.Core.List.Memᴰ.{eq_of_singleton as in_one}
use mathlib.Core.Path.{◌≡◌, refl, sym, ◌∙◌}
use Prim.Native.Nat.{ℕ, ◌≤◌, ◌<◌}
use native.Mathlib.Omega.{arith}
use lib.Dec.{ltb, eqb}
use lib.ListN.{length, get_or, set, take, length-take, length-set, get_or-eq_default}
use lib.Seq.{get_or-set_same, get_or-set_other, get_or-take, take-set-lt, take-set-le}
use borrow.Author.Tests.{ltb-true, ltb-false, eqb-true, eqb-false}
use Rattle.octets.proofs.Tests.{test}
use Rattle.table.specs.Syntax.{Table}
use Rattle.table.specs.Rules.{below}
use Rattle.table.specs.Walk.{like, Walks, done, seen, down}
use Rattle.table.proofs.Nodes.{like_low}
use Rattle.checker.specs.Gathering.{Met}

-- no walk over records below n, at most 128, looks behind their marks
module _ {T : Table} {n : ℕ} (few : n ≤ 128) (there : (t a : ℕ) → t < n → In a (below T t) → a < n) where
  walks_low : {m : ℕ} {v ks w : List ℕ} → Walks T m v ks w → ((k : ℕ) → In k ks → k < n) → Walks T m (take 128 v) ks (take 128 w)
  walks_low done h = done
  walks_low (seen {v = v} {k = k} e x) h =
      let l : like T k < 128 = omega (arith, like_low T k, h k (first_of refl)) in
      seen (get_or-take 128 v (like T k) 0 l ∙ e) (walks_low x (λ a i. h a (later i)))
  walks_low {m} (down {v = v} {k = k} g e x y) h =
      let l : like T k < 128 = omega (arith, like_low T k, h k (first_of refl)) in
      down {v = take 128 v} {k = k} (simp length-take (omega arith)) (get_or-take 128 v (like T k) 0 l ∙ e)
      (rw (take-set-lt 128 v (like T k) m l) at (walks_low x (λ a. there k a (h k (first_of refl)))))
      (walks_low y (λ a i. h a (later i)))

-- the mark m put behind the marks v of 128 records
module _ (v : List ℕ) (m : ℕ) (size : length v ≡ 129) where
  behind : get_or (set v 128 m) 128 0 ≡ m
  behind = get_or-set_same v 128 m 0 (omega arith)

  module _ {T : Table} {n : ℕ} (few : n ≤ 128) (there : (t a : ℕ) → t < n → In a (below T t) → a < n) where
    pub walked_low : {ks w : List ℕ} → ((k : ℕ) → In k ks → k < n) → Walks T (get_or (set v 128 m) 128 0) (set v 128 m) ks w
        → Walks T m (take 128 v) ks (take 128 w)
    walked_low h x = rw (take-set-le 128 v 128 m (omega arith)) at (walks_low few there (rw behind at x) h)

    pub walked_one : {k : ℕ} {w : List ℕ} → k < n → Walks T (get_or (set v 128 m) 128 0) (set v 128 m) (k ∷ []) w
        → Walks T m (take 128 v) (k ∷ []) (take 128 w)
    walked_one {k} h = walked_low (λ a i. let e : a ≡ k = in_one i in rw e h)

  pub met_low : {T : Table} {k : ℕ} → Met T (get_or (set v 128 m) 128 0) (set v 128 m) k → Met T m (take 128 v) k
  met_low x = record { node = x.node; hit = x.hit; some = λ z. x.some (same ∙ z); other = λ z. x.other (same ∙ z ∙ sym behind) }
    where
      q : ℕ
      q = x.node

      same : get_or (set v 128 m) q 0 ≡ get_or (take 128 v) q 0
      same =
          test (ltb q 128)
          (λ e. let l = ltb-true q 128 e in get_or-set_other v 128 q m 0 (λ z. omega arith) ∙ sym (get_or-take 128 v q 0 l))
          (λ e. let l = ltb-false q 128 e in test (eqb q 128)
          (λ f. absurd (x.other (rw (eqb-true q 128 f))))
          (λ f. let g = eqb-false q 128 f in absurd (x.some (get_or-eq_default (set v 128 m) 0 {n = q} (rw length-set (omega arith))))))
