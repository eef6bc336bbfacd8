-- Why a marked node is refused that is not of its record's kind.
-- Assumes nothing.
use mathlib.Core.Bool.{true, false}
use mathlib.Core.List.{List}
use mathlib.Core.Path.{◌≡◌, refl, sym, ◌∙◌}
use Prim.Native.Nat.{ℕ, ◌+◌, ◌-◌, ◌≤◌, ◌<◌}
use native.Mathlib.Omega.{arith}
use borrow.Author.Tests.{ne_eqb, ltb-true, ltb-false}
use lib.Dec.{ltb}
use lib.ListN.{length, get_or, drop}
use Rattle.coding.specs.declared.JudgingCause.TheVariants.{ValueShape, IllTyped, ValueLevel}
use Rattle.table.specs.Syntax.{Table}
use Rattle.table.specs.Octets.{kind}
use Rattle.coding.specs.Judging.{agrees, judge_value}
use Rattle.writer.specs.Nodes.{own_end, end_at, node_at, IsMarked}
use Rattle.writer.specs.Rows.{contents_form}
use Rattle.writer.specs.Told.{Ruling, unfit, told}
use Rattle.writer.proofs.Nodes.{node_kind_lem}
use Rattle.writer.proofs.Below.{value_shape, value_level, value_ill}

module _ (v : List ℕ) (at n : ℕ) (M : IsMarked v at) (T : Table) (t : ℕ) where
  abbrev Tells : Ruling
  Tells = told (contents_form T (n - 1) (T t).body) v (judge_value T n t (drop at v))

  abbrev Own : ℕ
  Own = own_end (get_or v (at + 2) 0) v (at + 3)

  within : at ≤ length v
  within = let h = M.0 in omega arith

  pub other_shape : false ≡ ltb 0 Own → unfit ValueShape at ≡ Tells
  other_shape f = let h = ltb-false 0 Own (sym f) in let z : Own ≡ 0 = omega arith in value_shape T t v at within n _ (M.1 ∙ z)

  module _ (s : true ≡ ltb 0 Own) where
    own_there : 0 < Own
    own_there = ltb-true 0 Own (sym s)

    is_shaped : 0 < end_at v at
    is_shaped = rw M.1 own_there

    pub other_level : n ≡ 0 → unfit ValueLevel at ≡ Tells
    other_level z = value_level T t v at within n is_shaped _ z

    module _ (f : get_or v (at + 2) 0 ≡ kind (T t).body → ⊥) where
      agrees_not : agrees (T t).body (node_at v at) ≡ false
      unfolding agrees
      agrees_not = rw (node_kind_lem (get_or v (at + 2) 0) v (at + 3) own_there, ne_eqb _ (kind (T t).body) f) refl

      pub other_ill : (n ≡ 0 → ⊥) → unfit IllTyped at ≡ Tells
      other_ill z = value_ill T t v at within n is_shaped z _ agrees_not
