-- What the judge says of a leaf.
-- Assumes nothing.
use mathlib.Core.Bool.{Bool, true, false, not}
use mathlib.Core.List.{List}
use Rattle.std.specs.Prelude.{Some}
use mathlib.Core.Path.{◌≡◌, sym, ap, ◌∙◌}
use Prim.Native.Nat.{ℕ, ◌+◌, ◌-◌, ◌≤◌, ◌<◌}
use native.Mathlib.Omega.{arith}
use lib.ListN.{length, get_or, drop}
use Rattle.kinds.specs.Kinds.{octet_of}
use Rattle.coding.specs.declared.JudgingCause.TheVariants.{ValueShape, IllTyped, ValueLevel}
use Rattle.table.specs.Syntax.{Table}
use Rattle.table.specs.Fields.{constructed_of}
use Rattle.table.proofs.Promises.{constructed_of_lem}
use Rattle.records.specs.declared.descriptor.Descriptor.{Descriptor}
use Rattle.coding.specs.Form.{encode}
use Rattle.coding.specs.Judging.{a_leaf, agrees, judge_value}
use Rattle.writer.specs.Nodes.{own_end, end_at, leaf_of, node_of, node_at, IsMarked}
use Rattle.writer.specs.Leaves.{MeasuresSome}
use Rattle.writer.specs.Frames.{cap}
use Rattle.writer.specs.Known.{record_in, Known}
use Rattle.writer.specs.Rows.{contents_form}
use Rattle.writer.specs.Told.{Ruling, fit, unfit, told}
use Rattle.writer.specs.declared.contents.Extent.{Extent}
use Rattle.writer.proofs.Nodes.{leaf_node}
use Rattle.writer.proofs.Below.{value_shape, value_level, value_ill, value_leaf}

-- what an entry says of its kind
pub known_simple : (b : List ℕ) (e : Descriptor) → Known b e → e.simple ≡ not (constructed_of (octet_of e.kind))
known_simple b e K = K.entered.simple ∙ ap not (constructed_of_lem b (octet_of e.kind) e.own)

module _ (b : List ℕ) (e : Descriptor) (v : List ℕ) (at n : ℕ) (M : IsMarked v at) (o : octet_of e.kind ≡ get_or v (at + 2) 0) (T : Table) (t : ℕ) (same : (T t).body ≡ (record_in b e).body) where
  abbrev Tells : Ruling
  Tells = told (contents_form T (n - 1) (T t).body) v (judge_value T n t (drop at v))

  within : at ≤ length v
  within = let h = M.0 in omega arith

  own_is : end_at v at ≡ own_end (octet_of e.kind) v (at + 3)
  own_is = rw o M.1

  pub leaf_shape : own_end (octet_of e.kind) v (at + 3) ≡ 0 → unfit ValueShape at ≡ Tells
  leaf_shape h = value_shape T t v at within n _ (own_is ∙ h)

  module _ (x : Extent) (m : MeasuresSome (octet_of e.kind) v (at + 3) (Some x)) where
    own_there : 0 < own_end (octet_of e.kind) v (at + 3)
    own_there = m.1 (omega arith)

    is_shaped : 0 < end_at v at
    is_shaped = rw own_is own_there

    pub leaf_level : n ≡ 0 → unfit ValueLevel at ≡ Tells
    leaf_level z = value_level T t v at within n is_shaped _ z

    module _ (z : n ≡ 0 → ⊥) (r : Bool) (er : r ≡ agrees (record_in b e).body (node_of (octet_of e.kind) v (at + 3))) where
      agreed : (w : Bool) → r ≡ w → agrees (T t).body (node_at v at) ≡ w
      agreed w f = rw (same, ← o) (sym er ∙ f)

      pub leaf_ill : r ≡ false → unfit IllTyped at ≡ Tells
      leaf_ill f = value_ill T t v at within n is_shaped z _ (agreed false f)

      pub leaf_done : r ≡ true → constructed_of (octet_of e.kind) ≡ false → (size : ℕ) → size ≡ cap (0 + x.size) → fit x.end size ≡ Tells
      leaf_done f k size es =
          let p = at + 3 in
          let l = m.0.sized own_there in
          let q : 0 + x.size ≡ length (encode (leaf_of (octet_of e.kind) v p)) = omega arith in
          let y : node_at v at ≡ a_leaf (leaf_of (octet_of e.kind) v p) = rw (← o) (leaf_node (octet_of e.kind) v p k) in
          rw (m.0.ends ∙ sym own_is) (value_leaf T t v at within n is_shaped z (agreed true f) _ size y (es ∙ ap cap q))
