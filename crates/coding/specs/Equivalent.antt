-- Equivalent values (FORMATS, "Values").
-- Assumes nothing.
use Rattle.std.specs.Prelude.{List, ℕ, zero, suc}
use Rattle.std.proofs.Math.Option.{Option, some, none}
use Rattle.octets.specs.Permutations.{Each, Order, any_order, Arranged}
use Rattle.coding.specs.Value.{Leaf, Value, leaf, sequence, set, sequence_of, set_of, choice, slots, bag}

-- both missing, or both there and related
abbrev pub Slot : (Value → Value → Type 0) → Option Value → Option Value → Type 0
Slot Q none none = Unit {0}
Slot Q none (some w) = ⊥
Slot Q (some v) none = ⊥
Slot Q (some v) (some w) = Q v w

-- the same, part by part, but that the elements of a SET OF may stand in another order, on every level
pub data Alike (o : Order) (Q : Value → Value → Type 0) : Value → Value → Type 0 where
  same_leaf : {x : Leaf} → Alike o Q (leaf x) (leaf x)
  same_sequence : {os ps : List (Option Value)} → Each (Slot Q) os ps → Alike o Q (sequence (slots os)) (sequence (slots ps))
  same_set : {os ps : List (Option Value)} → Each (Slot Q) os ps → Alike o Q (set (slots os)) (set (slots ps))
  same_sequence_of : {vs ws : List Value} → Each Q vs ws → Alike o Q (sequence_of (bag vs)) (sequence_of (bag ws))
  same_set_of : {vs ws : List Value} (us : List Value) → Arranged o vs us → Each Q us ws → Alike o Q (set_of (bag vs)) (set_of (bag ws))
  same_choice : {n : ℕ} {v w : Value} → Q v w → Alike o Q (choice n v) (choice n w)

unfoldable pub EquivalentAt : Order → ℕ → Value → Value → Type 0
EquivalentAt o zero v w = ⊥
EquivalentAt o (suc n) v w = Alike o (EquivalentAt o n) v w

pub record Equivalent (v w : Value) : Type 0 where
  pub level : ℕ
  pub equivalent : EquivalentAt any_order level v w
