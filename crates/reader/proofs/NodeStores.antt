-- What the code stores of a node, octet by octet.
-- Assumes nothing.
use mathlib.Core.List.{List, [], ◌∷◌, ◌++◌}
use mathlib.Core.Path.{◌≡◌, refl, sym, ap, ◌∙◌}
use Prim.Native.Nat.{ℕ, suc, ◌+◌, ◌-◌, ◌*◌, ◌%◌, ◌<◌}
use native.Mathlib.Omega.{arith}
use lib.ListN.{length, get_or, take, set, replicate}
use lib.Seq.{sets, length-take-le}
use Rattle.reader.specs.Placing.{way_octets}
use Rattle.reader.proofs.Stores.{sets_append}
use Rattle.reader.proofs.PlacedWays.{way_length, way_turn}

-- the mark and the kind, and one octet more
pub four_stores : (b : List ℕ) (to k n : ℕ) {b₁ : List ℕ} → b₁ ≡ sets b to (86 ∷ 65 ∷ k ∷ []) → set b₁ (to + 3) n ≡ sets b to (86 ∷ 65 ∷ k ∷ n ∷ [])
four_stores b to k n e = let q : to + 3 ≡ suc (suc (suc to)) = omega arith in rw (e, q) refl

-- members that are absent, one by one
pub absent_turn : (to i k : ℕ) (b : List ℕ) {W : List ℕ} → i < k → W ≡ sets b (to + 4 + i) (replicate (k - i) 0)
    → W ≡ sets (set b (to + 4 + i) 0) (to + 4 + (i + 1)) (replicate (k - (i + 1)) 0)
absent_turn to i k b h w =
    let e : k - i ≡ suc (k - (i + 1)) = omega arith in
    let f : to + 4 + (i + 1) ≡ suc (to + 4 + i) = omega arith in
    rw f (rw e at w)

-- the nodes of a way, one by one
pub way_step : (b : List ℕ) (to : ℕ) (way : List ℕ) (i next : ℕ) {b₁ b₂ : List ℕ} → i < length way → next ≡ to + 4 * i → b₁ ≡ sets b to (way_octets (take i way))
    → b₂ ≡ sets b₁ next (86 ∷ 65 ∷ 50 ∷ []) → set b₂ (next + 3) (get_or way i 0 % 16) ≡ sets b to (way_octets (take (i + 1) way))
way_step b to way i next {b₁} h en e₁ e₂ =
    let q : i + 1 ≡ suc i = omega arith in
    let l : length (way_octets (take i way)) ≡ 4 * i = way_length (take i way) ∙ ap (λ (k : ℕ). 4 * k) (length-take-le i way (omega arith)) in
    let w = way_octets (take i way) in
    let r : List ℕ = 86 ∷ 65 ∷ 50 ∷ get_or way i 0 % 16 ∷ [] in
    let p : to + length w ≡ next = omega arith in
    let x : sets b₁ next r ≡ sets b to (w ++ r) = rw e₁ (sym (rw p at (sets_append w b to r))) in
    four_stores b₁ next 50 (get_or way i 0 % 16) e₂
    ∙ x
    ∙ sym (ap (λ (k : ℕ). sets b to (way_octets (take k way))) q ∙ ap (sets b to) (way_turn way i h))
