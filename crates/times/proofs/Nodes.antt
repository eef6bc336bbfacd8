-- The octets of a time's node, put one by one.
-- Assumes nothing.
use mathlib.Core.List.{List, ◌++◌}
use mathlib.Core.Path.{◌≡◌, refl, ap, ◌∙◌}
use Prim.Native.Nat.{ℕ, ◌≤◌}
use lib.ListN.{length, set, take, drop, length-set}
use lib.Seq.{sets, sets-eq}
use Rattle.octets.specs.Buffers.{filled}
use Rattle.octets.proofs.Buffers.{part_filled}
use Rattle.dates.specs.declared.DateTime.{DateTime}
use Rattle.dates.specs.declared.TimeKind.{TimeKind}
use Rattle.dates.specs.Own.{time_octets}
use Rattle.coding.specs.Value.{time_number, leaf_octets}
use Rattle.coding.specs.Reckoning.{time_node}

-- the mark and a kind
abbrev pub begun : List ℕ → ℕ → List ℕ
begun b x = set (set (set b 0 0x56) 1 0x41) 2 x

-- and then the time
module _ (k : TimeKind) (t : DateTime) (b p : List ℕ) (x : ℕ) (e : x ≡ time_number k) (h : 10 ≤ length b)
    (q : p ≡ filled (take 7 (drop 3 (begun b x))) (time_octets t)) where
  pub node_put : take 3 (begun b x) ++ (p ++ drop 7 (drop 3 (begun b x))) ≡ time_node k t ++ drop 10 b
  unfolding leaf_octets time_octets
  node_put =
      part_filled (begun b x) (time_octets t) p 3 7 refl (simp length-set h) q
      ∙ ap (λ (n : ℕ). sets (begun b n) 3 (time_octets t)) e
      ∙ sets-eq (time_node k t) b 0 h
