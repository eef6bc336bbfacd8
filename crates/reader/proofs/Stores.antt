-- Laws of stores in a row.
-- Assumes nothing.
use mathlib.Core.List.{List, [], ◌∷◌, ◌++◌}
use mathlib.Core.Path.{◌≡◌, refl, ap, ◌∙◌}
use Prim.Native.Nat.{ℕ, suc, ◌+◌, ◌≤◌, ◌<◌}
use native.Mathlib.Nat.{add-zero, add-suc, suc-add}
use native.Mathlib.Omega.{arith}
use lib.ListN.{length, set}
use lib.Seq.{sets, set_comm}

pub sets_append : (vs d : List ℕ) (i : ℕ) (ws : List ℕ) → sets d i (vs ++ ws) ≡ sets (sets d i vs) (i + length vs) ws
sets_append [] d i ws = rw add-zero refl
sets_append (v ∷ vs) d i ws = rw (sets_append vs (set d i v) (suc i) ws, add-suc, suc-add) refl

-- stores that do not meet
set_sets : (ws b : List ℕ) (i j v : ℕ) → i < j → set (sets b j ws) i v ≡ sets (set b i v) j ws
set_sets [] b i j v h = refl
set_sets (w ∷ ws) b i j v h =
    set_sets ws (set b j w) i (suc j) v (omega arith) ∙ ap (λ (d : List ℕ). sets d (suc j) ws) (set_comm b j i w v (λ e. omega arith))

pub sets_later : (vs ws b : List ℕ) (i j : ℕ) → i + length vs ≤ j → sets (sets b j ws) i vs ≡ sets (sets b i vs) j ws
sets_later [] ws b i j h = refl
sets_later (v ∷ vs) ws b i j h =
    ap (λ (d : List ℕ). sets d (suc i) vs) (set_sets ws b i j v (omega arith)) ∙ sets_later vs ws (set b i v) (suc i) j (omega arith)
