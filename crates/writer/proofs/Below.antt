-- The judge at a node: its own octets, the levels that are left, its record, and then what stands in it.
-- Assumes nothing.
use mathlib.Core.Bool.{true, false}
use mathlib.Core.List.{List}
use mathlib.Core.Path.{◌≡◌, refl, sym}
use Prim.Native.Nat.{ℕ, zero, suc, ◌+◌, ◌-◌, ◌≤◌, ◌<◌}
use native.Mathlib.Omega.{arith}
use borrow.Author.Tests.{ltb-true, ltb-false, eqb-true, eqb-false}
use lib.Dec.{ltb, eqb}
use lib.ListN.{length, drop, length-drop}
use Rattle.coding.specs.declared.JudgingCause.{JudgingCause}
use Rattle.coding.specs.declared.JudgingCause.TheVariants.{ValueShape, IllTyped, ValueLevel}
use Rattle.octets.specs.Answer.{Answer, got, refused, then, if}
use Rattle.octets.proofs.Tests.{test}
use Rattle.table.specs.Syntax.{Table}
use Rattle.table.specs.Fields.{constructed_of}
use Rattle.coding.specs.Value.{Leaf, Value}
use Rattle.coding.specs.Form.{encode}
use Rattle.coding.specs.Judging.{Node, a_leaf, node_kind, agrees, read_node, judge_below, judge_value}
use Rattle.writer.specs.Nodes.{end_at, node_at}
use Rattle.writer.specs.Frames.{cap}
use Rattle.writer.specs.Rows.{contents_form}
use Rattle.writer.specs.Told.{fit, unfit, told, IsDone}
use Rattle.writer.specs.Notes.{row_at}
use Rattle.writer.proofs.Reading.{Reads, bad, good, node_reads}
use Rattle.writer.proofs.Rows.{alike_told, below_row}
use Rattle.writer.proofs.Judging.{JudgedRow}

reads_bad : {v : List ℕ} {l q : ℕ} {x : Node} {e : ℕ} {a : Answer JudgingCause Node} → Reads v l q x e a → e ≡ 0 → 0 < q → a ≡ refused ValueShape l
reads_bad bad h k = refl
reads_bad (good e g w) h k = absurd (omega arith)

reads_good : {v : List ℕ} {l q : ℕ} {x : Node} {e : ℕ} {a : Answer JudgingCause Node} → Reads v l q x e a → 0 < e → (a ≡ got x (drop e v)) × (q ≤ e) × (e ≤ length v)
reads_good bad h = absurd (omega arith)
reads_good (good e g w) h = (refl, g, w)

-- a node that is shaped
pub record Stands (v : List ℕ) (p : ℕ) : Type 0 where
  pub is : read_node (drop p v) ≡ got (node_at v p) (drop (end_at v p) v)
  pub onward : p + 3 ≤ end_at v p
  pub within : end_at v p ≤ length v

pub stands : (v : List ℕ) (p : ℕ) → p ≤ length v → 0 < end_at v p → Stands v p
stands v p h k = let z = reads_good (node_reads v p h) k in record { is = z.0; onward = z.1; within = z.2 }

-- what is answered at a place, by what stands there
module _ (T : Table) (t : ℕ) (v : List ℕ) (p : ℕ) (h : p ≤ length v) where
  no_node : (n : ℕ) → end_at v p ≡ 0 → judge_value T n t (drop p v) ≡ refused ValueShape (length (drop p v))
  unfolding judge_value then
  no_node zero e = rw (reads_bad (node_reads v p h) e (omega arith)) refl
  no_node (suc n) e = rw (reads_bad (node_reads v p h) e (omega arith)) refl

  module _ (n : ℕ) (e : 0 < end_at v p) where
    no_level : n ≡ 0 → judge_value T n t (drop p v) ≡ refused ValueLevel (length (drop p v))
    unfolding judge_value then
    no_level z = rw (z, (stands v p h e).is) refl

    module _ (z : n ≡ 0 → ⊥) where
      no_type : agrees (T t).body (node_at v p) ≡ false → judge_value T n t (drop p v) ≡ refused IllTyped (length (drop p v))
      unfolding judge_value then if
      no_type g = let s : n ≡ suc (n - 1) = omega arith in rw (s, (stands v p h e).is, g) refl

      pub value_below : agrees (T t).body (node_at v p) ≡ true
          → judge_value T n t (drop p v) ≡ judge_below (λ u w. judge_value T (n - 1) u w) (T t).body (node_at v p) (drop (end_at v p) v)
      unfolding judge_value then if
      value_below g = let s : n ≡ suc (n - 1) = omega arith in rw (s, (stands v p h e).is, g) (let q : suc (n - 1) - 1 ≡ n - 1 = omega arith in rw q refl)

-- the ways out of the judge
module _ (T : Table) (t : ℕ) (v : List ℕ) (p : ℕ) (h : p ≤ length v) (n : ℕ) where
  place : length v - length (drop p v) ≡ p
  place = let l = length-drop p v in omega arith

  pub value_shape : (f : Value → List ℕ) → end_at v p ≡ 0 → unfit ValueShape p ≡ told f v (judge_value T n t (drop p v))
  unfolding told
  value_shape f e = rw (no_node T t v p h n e, place) refl

  module _ (e : 0 < end_at v p) where
    pub value_level : (f : Value → List ℕ) → n ≡ 0 → unfit ValueLevel p ≡ told f v (judge_value T n t (drop p v))
    unfolding told
    value_level f z = rw (no_level T t v p h n e z, place) refl

    module _ (z : n ≡ 0 → ⊥) where
      pub value_ill : (f : Value → List ℕ) → agrees (T t).body (node_at v p) ≡ false → unfit IllTyped p ≡ told f v (judge_value T n t (drop p v))
      unfolding told
      value_ill f g = rw (no_type T t v p h n e z g, place) refl

      module _ (g : agrees (T t).body (node_at v p) ≡ true) where
        -- a constructed node: what is said of its row
        pub value_row : constructed_of (node_kind (node_at v p)) ≡ true
            → JudgedRow T (n - 1) v (row_at T v t p) (end_at v p) ≡ told (contents_form T (n - 1) (T t).body) v (judge_value T n t (drop p v))
        value_row k = rw (value_below T t v p h n e z g) (sym (alike_told (below_row T (n - 1) (T t).body (node_at v p) k (drop (end_at v p) v)) v))

        -- a leaf
        pub value_leaf : (x : Leaf) (s : ℕ) → node_at v p ≡ a_leaf x → s ≡ cap (length (encode x))
            → fit (end_at v p) s ≡ told (contents_form T (n - 1) (T t).body) v (judge_value T n t (drop p v))
        unfolding judge_below contents_form told
        value_leaf x s ex es =
            let l = length-drop (end_at v p) v in
            let w = (stands v p h e).within in
            let d : length v - length (drop (end_at v p) v) ≡ end_at v p = omega arith in
            rw (value_below T t v p h n e z g, ex, d, es) refl

-- a value that is accepted: levels are left, its node is shaped, and agrees with its record
pub record Accepted (T : Table) (n t : ℕ) (v : List ℕ) (p : ℕ) : Type 0 where
  pub level : n ≡ 0 → ⊥
  pub shaped : 0 < end_at v p
  pub agreed : agrees (T t).body (node_at v p) ≡ true

pub accepted : (T : Table) (n t : ℕ) (v : List ℕ) (p : ℕ) → p ≤ length v → IsDone (judge_value T n t (drop p v)) → Accepted T n t v p
unfolding IsDone
accepted T n t v p h d =
    test (ltb 0 (end_at v p))
    (λ a. let e : 0 < end_at v p = ltb-true 0 (end_at v p) a in
    test (eqb n 0) (λ b. absurd (rw (no_level T t v p h n e (eqb-true n 0 b)) at d)) λ b.
    let z : n ≡ 0 → ⊥ = eqb-false n 0 b in
    test (agrees (T t).body (node_at v p)) (λ g. record { level = z; shaped = e; agreed = g }) λ g. absurd (rw (no_type T t v p h n e z g) at d))
    λ a. absurd (rw (no_node T t v p h n (let k : end_at v p ≤ 0 = ltb-false 0 (end_at v p) a in omega arith)) at d)
