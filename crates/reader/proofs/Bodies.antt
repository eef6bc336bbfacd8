-- The body of the record of an entry: what the item holds, and which identifier is its own.
-- Assumes nothing.
use lib.Dec.{eqb}
use lib.ListN.{length}
use mathlib.Core.Bool.{true, false, not, true≢false, false≢true}
use mathlib.Core.List.{List, [], ◌∷◌}
use mathlib.Core.Logic.{inl, inr}
use mathlib.Core.Path.{◌≡◌, refl, sym, ap, ◌∙◌}
use native.Mathlib.Omega.{arith}
use Prim.Native.Nat.{ℕ, ◌≤◌}
use Rattle.x690.specs.declared.ReadingCause.{ReadingCause}
use Rattle.octets.specs.Answer.{Answer}
use Rattle.x690.specs.Reading.{Mode}
use Rattle.x690.specs.Reading.{read_constructed}
use Rattle.table.specs.Syntax.{Simple, Body, Plain, Sequence, Set}
use Rattle.table.specs.Syntax.{SequenceOf, SetOf, Choice, Record, Table, is_choice, constructed}
use Rattle.table.specs.Octets.{kind}
use Rattle.table.specs.Rules.{members}
use Rattle.table.specs.Reading.{body_at, table_in, count_in}
use Rattle.kinds.specs.Kinds.{octet_of}
use Rattle.records.specs.Descriptors.{described}
use Rattle.records.specs.declared.descriptor.Descriptor.{Descriptor}
use Rattle.records.proofs.Promises.{kind_choice, entered_kind, entered_members}
use Rattle.coding.specs.Tags.{own_tag}
use Rattle.coding.specs.Value.{Value}
use Rattle.coding.specs.Reading.{read_value}
use Rattle.coding.proofs.FirstTags.{good}
use Rattle.coding.proofs.Refusals.{value_shorter}
use Rattle.reader.specs.Items.{inside, manner, is_single}
use Rattle.reader.specs.Items.{read_held}
use Rattle.reader.specs.Records.{record_in, IsRecord}
use Rattle.reader.specs.Sought.{held}
use Rattle.reader.specs.Wraps.{read_bare}
use Rattle.reader.proofs.ItemsKinds.{Kind, kind_held}
use Rattle.reader.proofs.Spans.{held_body}
use Rattle.reader.proofs.Tagging.{its_entry, its_record}
use Rattle.checker.proofs.Ready.{Ready}

pub nil_of : {A : Type 0} (l : List A) → length l ≡ 0 → l ≡ []
nil_of [] e = refl
nil_of (x ∷ l) e = absurd (omega arith)

-- kinds of bodies
pub plain_of : (y : Body) → constructed y ≡ false → (k : Simple) × (y ≡ Plain k)
unfolding constructed
plain_of (Plain k) e = (k, refl)
plain_of (Sequence ms) e = absurd (true≢false e)
plain_of (Set ms) e = absurd (true≢false e)
plain_of (SequenceOf t) e = absurd (true≢false e)
plain_of (SetOf t) e = absurd (true≢false e)
plain_of (Choice ts) e = absurd (true≢false e)

pub no_alternatives : (y : Body) (k : Simple) → y ≡ Plain k → is_choice y ≡ false
unfolding is_choice
no_alternatives y k q = rw q refl

pub single_kind : (y : Body) → constructed y ≡ true → is_single (manner (inside y)) ≡ is_choice y
unfolding constructed manner is_single is_choice
single_kind (Plain k) e = absurd (false≢true e)
single_kind (Sequence ms) e = refl
single_kind (Set ms) e = refl
single_kind (SequenceOf t) e = refl
single_kind (SetOf t) e = refl
single_kind (Choice ts) e = refl

-- an item of a constructed kind is read by the items in it
module _ (T : Table) (f : ℕ → List ℕ → Answer ReadingCause Value) (i s : List ℕ) where
  abbrev pub Built : Body → Answer ReadingCause Value → Type 0
  Built y x =
      (is_choice y ≡ false → x ≡ read_constructed i (read_held T f (inside y)) s) × (is_choice y ≡ true → (k : Mode) → x ≡ read_held T f (inside y) k s)

  built : (g : _) (h : _) (y : Body) → constructed y ≡ true → (x : Answer ReadingCause Value) → Kind T f g h i s y x → Built y x
  unfolding constructed is_choice
  built g h (Plain k) c x q = absurd (false≢true c)
  built g h (Sequence ms) c x q = ((λ _. q), λ e. absurd (false≢true e))
  built g h (Set ms) c x q = ((λ _. q), λ e. absurd (false≢true e))
  built g h (SequenceOf t) c x q = ((λ _. q), λ e. absurd (false≢true e))
  built g h (SetOf t) c x q = ((λ _. q), λ e. absurd (false≢true e))
  built g h (Choice ts) c x q = ((λ e. absurd (true≢false e)), λ _. q)

-- the record of an entry
abbrev pub record_of : List ℕ → ℕ → Record
record_of b w = record_in b (described w)

module _ {b index : List ℕ} (R : Ready b index) {w : ℕ} (I : IsRecord b index w) where
  abbrev r : Record
  r = record_of b w

  pub its_body : body_at b (octet_of (described w).kind) (described w).own ≡ r.body
  its_body = (its_entry R I).entered.body ∙ ap (λ (x : Record). x.body) (sym (its_record R I))

  pub its_kind : (octet_of (described w).kind) ≡ kind r.body
  its_kind = entered_kind (its_entry R I).entered ∙ ap (λ (x : Record). kind x.body) (sym (its_record R I))

  pub its_holder : held b w ≡ inside r.body
  its_holder = held_body (its_entry R I) R.listed.short ∙ ap (λ (x : Record). inside x.body) (sym (its_record R I))

  few_members : (y : Body) → (table_in b I.0).body ≡ y → length (members y) ≤ 16
  unfolding members
  few_members (Plain k) h = omega arith
  few_members (Sequence ms) h = (entered_members (its_entry R I).entered ms (inl h)).few
  few_members (Set ms) h = (entered_members (its_entry R I).entered ms (inr h)).few
  few_members (SequenceOf t) h = omega arith
  few_members (SetOf t) h = omega arith
  few_members (Choice ts) h = omega arith

  pub its_built : (n : ℕ) (s : List ℕ) → constructed r.body ≡ true → Built (table_in b) (read_value (table_in b) n) (own_tag r) s r.body (read_bare b n r s)
  its_built n s c =
      let T = table_in b in
      let g = good b T (count_in b) R.passes in
      let h = value_shorter T n in
      let l : length (members r.body) ≤ 16 = few_members r.body (ap (λ (x : Record). x.body) (sym (its_record R I))) in
      built T (read_value T n) (own_tag r) s g h r.body c (read_bare b n r s) (kind_held T (read_value T n) g h (own_tag r) s r.body l)

  module _ (e : Descriptor) (ee : e ≡ described w) where
    pub its_choice : eqb (octet_of e.kind) 50 ≡ is_choice r.body
    its_choice = ap (λ (x : Descriptor). eqb (octet_of x.kind) 50) ee ∙ kind_choice (its_entry R I).entered
        ∙ ap (λ (x : Record). is_choice x.body) (sym (its_record R I))

    pub its_simple : e.simple ≡ not (constructed r.body)
    its_simple =
        ap (λ (x : Descriptor). x.simple) ee ∙ (its_entry R I).entered.simple ∙ ap (λ (x : Record). not (constructed x.body)) (sym (its_record R I))
