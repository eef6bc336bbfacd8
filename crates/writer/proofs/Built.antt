-- What the judge says of a constructed node, and what it notes: one law for each way out.
-- Assumes nothing.
use mathlib.Core.Bool.{Bool, true, false, not, false≢true}
use mathlib.Core.List.{List}
use mathlib.Core.Path.{◌≡◌, refl, sym, ◌∙◌}
use Prim.Native.Nat.{ℕ, ◌+◌, ◌-◌, ◌/◌, ◌≤◌, ◌<◌}
use native.Mathlib.Omega.{arith}
use borrow.Author.Tests.{eqb-true, eqb-false}
use lib.Dec.{eqb}
use lib.ListN.{length, get_or, drop, set}
use Rattle.std.specs.Prelude.{Option, is_some}
use Rattle.octets.specs.Numbers.{Octets, unless_zero}
use Rattle.octets.proofs.Tests.{test}
use Rattle.checker.proofs.Ready.{Ready, ready_by}
use Rattle.coding.specs.declared.JudgingCause.{JudgingCause}
use Rattle.coding.specs.declared.JudgingCause.TheVariants.{ValueShape, IllTyped, ValueLevel}
use Rattle.table.specs.Syntax.{Table}
use Rattle.table.specs.Fields.{constructed_of}
use Rattle.table.specs.Reading.{table_in, count_in}
use Rattle.kinds.specs.Kinds.{octet_of}
use Rattle.records.specs.Descriptors.{described}
use Rattle.records.specs.declared.descriptor.Descriptor.{Descriptor}
use Rattle.checker.specs.declared.passed.Passed.{Passed}
use Rattle.coding.specs.Judging.{agrees, judge_value}
use Rattle.writer.specs.Nodes.{own_end, end_at, node_of, node_at, IsMarked}
use Rattle.writer.specs.Known.{record_in, Known}
use Rattle.writer.specs.Standing.{start_at, row_in, Standing}
use Rattle.writer.specs.Rows.{contents_form}
use Rattle.writer.specs.Told.{Ruling, fit, unfit, told}
use Rattle.writer.specs.Notes.{row_at, Noted, NotedRow, Noting}
use Rattle.writer.proofs.Nodes.{node_kind_lem}
use Rattle.writer.proofs.Known.{known, known_record}
use Rattle.writer.proofs.Finding.{at_stands, at_start, at_row}
use Rattle.writer.proofs.Judging.{JudgedRow}
use Rattle.writer.proofs.Members.{RowSaid}
use Rattle.writer.proofs.Below.{stands, value_shape, value_level, value_ill, value_row}
use Rattle.writer.proofs.Notes.{noting_none, noting_refused, value_noting}

-- what is to be shown of an answer for a value of type t at a place, and of the notes before and after
abbrev pub NodeSaid : List ℕ → List ℕ → ℕ → ℕ → ℕ → Ruling → List ℕ → List ℕ → Type 0
NodeSaid b v t at n r first last =
    (r ≡ told (contents_form (table_in b) (n - 1) (table_in b t).body) v (judge_value (table_in b) n t (drop at v)))
    × Noting at first last r (λ m. Noted (table_in b) v m n t at)

-- where an own part ends, as the code tells it
pub own_none : (n : ℕ) (r : Option ℕ) (x : Bool) → r ≡ unless_zero n → is_some r ≡ not x → x ≡ true → n ≡ 0
own_none n r x e i h =
    test (eqb n 0) (λ t. eqb-true n 0 t) λ t.
    let z : is_some r ≡ true = rw (e, t) refl in absurd (false≢true (sym (rw h at i) ∙ z))

pub own_some : (n : ℕ) (r : Option ℕ) (x : Bool) → r ≡ unless_zero n → is_some r ≡ not x → x ≡ false → 0 < n
own_some n r x e i h =
    test (eqb n 0) (λ t. let z : is_some r ≡ false = rw (e, t) refl in absurd (false≢true (sym z ∙ rw h at i)))
    λ t. let z = eqb-false n 0 t in omega arith

-- the mark at a place of a constructed kind, which is that of record t
pub record Node (b index v : List ℕ) (t at : ℕ) : Type 0 where
  pub octets : Octets b
  pub ready : Ready b index
  pub little : length v ≤ 16384
  pub there : t < count_in b
  pub marked : IsMarked v at
  pub awaited : octet_of (described (get_or index t 0)).kind ≡ get_or v (at + 2) 0
  pub constructed : constructed_of (get_or v (at + 2) 0) ≡ true

pub at_node : (x : Passed) {v : List ℕ} {t at : ℕ} → length v ≤ 16384 → t < count_in x.octets.now → IsMarked v at
    → octet_of (described (get_or x.index.now t 0)).kind ≡ get_or v (at + 2) 0 → constructed_of (get_or v (at + 2) 0) ≡ true
    → Node x.octets.now x.index.now v t at
at_node x l h m o k = record { octets = x.small; ready = ready_by x; little = l; there = h; marked = m; awaited = o; constructed = k }

module _ {b index v : List ℕ} {t at : ℕ} (N : Node b index v t at) (n : ℕ) where
  abbrev T : Table
  T = table_in b

  abbrev E : Descriptor
  E = described (get_or index t 0)

  within : at ≤ length v
  within = let l = N.marked.0 in omega arith

  pub built_shape : own_end (get_or v (at + 2) 0) v (at + 3) ≡ 0 → (l : List ℕ) → NodeSaid b v t at n (unfit ValueShape at) l l
  built_shape z l = (value_shape T t v at within n _ (N.marked.1 ∙ z), noting_none at l ValueShape at (λ m. Noted T v m n t at))

  module _ (own_there : 0 < own_end (get_or v (at + 2) 0) v (at + 3)) where
    shaped : 0 < end_at v at
    shaped = rw N.marked.1 own_there

    pub built_level : n ≡ 0 → (l : List ℕ) → NodeSaid b v t at n (unfit ValueLevel at) l l
    built_level z l = (value_level T t v at within n shaped _ z, noting_none at l ValueLevel at (λ m. Noted T v m n t at))

    is_known : Known b E
    is_known = known b index N.ready.listed t N.there

    is_record : record_in b E ≡ T t
    is_record = known_record b index N.ready.listed t N.there

    module _ (z : n ≡ 0 → ⊥) (r : Bool) (er : r ≡ agrees (record_in b E).body (node_of (octet_of E.kind) v (at + 3))) where
      agreed : (w : Bool) → r ≡ w → agrees (T t).body (node_at v at) ≡ w
      agreed w f = rw (← is_record, ← N.awaited) (sym er ∙ f)

      pub built_ill : r ≡ false → (l : List ℕ) → NodeSaid b v t at n (unfit IllTyped at) l l
      built_ill f l = (value_ill T t v at within n shaped z _ (agreed false f), noting_none at l IllTyped at (λ m. Noted T v m n t at))

      module _ (f : r ≡ true) where
        end_in : end_at v at ≤ length v
        end_in = (stands v at within shaped).within

        pub built_stands : Standing b v E (at + 3)
        built_stands = at_stands b E is_known v at shaped t is_record (agreed true f) N.octets N.constructed end_in N.ready.passes N.there

        start_is : start_at E v (at + 3) ≡ end_at v at
        start_is = at_start b E is_known v at shaped t is_record (agreed true f) N.octets N.constructed end_in N.ready.passes N.there

        row_is : row_in b E v (at + 3) ≡ row_at T v t at
        row_is = at_row b E is_known v at shaped t is_record (agreed true f) N.octets N.constructed end_in N.ready.passes N.there

        module _ (y : Ruling) (first last : List ℕ) (S : RowSaid b v E (at + 3) (n - 1) first y last) where
          at_row_said : (y ≡ JudgedRow T (n - 1) v (row_at T v t at) (end_at v at)) × Noting (end_at v at) first last y (λ m. NotedRow T v m (n - 1) (row_at T v
              t at) (end_at v at))
          at_row_said = rw (start_is, row_is) at S

          is_told : y ≡ told (contents_form T (n - 1) (T t).body) v (judge_value T n t (drop at v))
          is_told = at_row_said.0 ∙ value_row T t v at within n shaped z (agreed true f) (rw (node_kind_lem (get_or v (at + 2) 0) v (at + 3) own_there) N.constructed)

          pub built_refused : (k : JudgingCause) (q : ℕ) → y ≡ unfit k q → NodeSaid b v t at n (unfit k q) first last
          built_refused k q d =
              let g = (stands v at within shaped).onward in
              (sym d ∙ is_told, noting_refused at (end_at v at) first last y k q _ _ (omega arith) at_row_said.1)

          pub built_done : (u s : ℕ) → y ≡ fit u s → length first ≡ 4096 → NodeSaid b v t at n (fit u s) first (set last (at / 4) s)
          built_done u s d l =
              let g = at_row_said.1.long in
              let h = N.little in
              (sym d ∙ is_told, value_noting T v n t at within z shaped N.constructed end_in first last y u s at_row_said.0 d at_row_said.1 (omega arith))
