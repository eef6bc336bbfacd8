-- What an entry that is not simple stands for: its kind, where its parts stand in the table, and the node of its value.
-- Assumes nothing.
use borrow.Author.Tests.{not-false}
use lib.Dec.{eqb}
use lib.ListN.{length}
use mathlib.Core.Bool.{true, false, true≢false, false≢true}
use mathlib.Core.List.{List, []}
use mathlib.Core.Path.{◌≡◌, refl, sym, ap, ◌∙◌}
use native.Mathlib.Omega.{arith}
use Prim.Native.Nat.{ℕ, suc, ◌+◌, ◌/◌, ◌≤◌}
use Rattle.octets.specs.Answer.{if}
use Rattle.octets.proofs.Tests.{test}
use Rattle.table.specs.Syntax.{Body, Plain, Sequence, Set, SequenceOf, SetOf, Choice, constructed}
use Rattle.table.specs.Octets.{kind}
use Rattle.table.specs.Reading.{table_in}
use Rattle.kinds.specs.Kinds.{octet_of}
use Rattle.records.specs.Entries.{span_of}
use Rattle.records.specs.Descriptors.{described}
use Rattle.records.specs.declared.descriptor.Descriptor.{Descriptor}
use Rattle.records.specs.declared.entry.Span.{Span}
use Rattle.records.proofs.Promises.{entered_kind}
use Rattle.reader.specs.Items.{Holder, inside, message, manner, parts_of, is_single, node_size}
use Rattle.reader.specs.Placing.{kind_of, has_members, is_list, holds_one, onward, node_of, opening_of, said}
use Rattle.reader.specs.Records.{Known, of_record, of_message, holder_in}
use Rattle.reader.specs.Sought.{held, tabled_count}
use Rattle.reader.proofs.ItemsSizes.{is_plain}
use Rattle.reader.proofs.PlacedNodes.{opening_is, node_is}
use Rattle.reader.proofs.Spans.{Spanned, held_body, its}
use Rattle.checker.proofs.Ready.{Ready, described_in}

kind_inside : (y : Body) → constructed y ≡ true → (kind y ≡ kind_of (inside y)) × (is_plain (inside y) ≡ false)
unfolding kind kind_of constructed is_plain
kind_inside (Plain k) c = absurd (false≢true c)
kind_inside (Sequence ms) c = (refl, refl)
kind_inside (Set ms) c = (refl, refl)
kind_inside (SequenceOf t) c = (refl, refl)
kind_inside (SetOf t) c = (refl, refl)
kind_inside (Choice ts) c = (refl, refl)

some_kind : (h : Holder) → is_plain h ≡ false → (kind_of h ≡ 0 → ⊥) × (holds_one (kind_of h) ≡ is_single (manner h))
unfolding kind_of manner is_single is_plain
some_kind (inside (Plain k)) e = absurd (true≢false e)
some_kind (inside (Sequence ms)) e = ((λ z. omega arith), refl)
some_kind (inside (Set ms)) e = ((λ z. omega arith), refl)
some_kind (inside (SequenceOf t)) e = ((λ z. omega arith), refl)
some_kind (inside (SetOf t)) e = ((λ z. omega arith), refl)
some_kind (inside (Choice ts)) e = ((λ z. omega arith), refl)
some_kind (message t) e = ((λ z. omega arith), refl)

parts_few : (h : Holder) → tabled_count h ≤ 16 → length (parts_of h) ≤ 16
unfolding tabled_count parts_of
parts_few (inside y) l = l
parts_few (message t) l = omega arith

-- half a step is a member
onward_is : (b : List ℕ) (k p place : ℕ) → place + (span_of b k p).step / 2 ≡ onward k place
unfolding span_of onward if
onward_is b k p place =
    test (has_members k)
    (λ c. rw c (omega arith))
    λ c. test (eqb k 50) (λ d. rw (c, d) (omega arith)) λ d.
    test (is_list k) (λ f. rw (c, d, f) (omega arith)) λ f. rw (c, d, f) (omega arith)

pub onward_most : (k p : ℕ) → onward k p ≤ suc p
unfolding onward if
onward_most k p = test (has_members k) (λ c. rw c (omega arith)) λ c. rw c (omega arith)

module _ {b index : List ℕ} (R : Ready b index) {w : ℕ} (K : Known b index w) (holds : (described w).simple ≡ false) where
  stands_for : (octet_of (described w).kind ≡ kind_of (held b w)) × (is_plain (held b w) ≡ false)
  unfolding holder_in if kind_of is_plain
  stands_for = go K holds
    where
      go : Known b index w → (described w).simple ≡ false → (octet_of (described w).kind ≡ kind_of (held b w)) × (is_plain (held b w) ≡ false)
      go (of_record t h q) n =
          let x = described_in R t h in
          let c = not-false (constructed (table_in b t).body) (sym x.entered.simple ∙ rw q at n) in
          let y = kind_inside (table_in b t).body c in
          rw (q, held_body x R.listed.short) (entered_kind x.entered ∙ y.0, y.1)
      go (of_message t h q) n = rw q (refl, refl)

  pub held_some : is_plain (held b w) ≡ false
  held_some = stands_for.1

  pub held_kinded : kind_of (held b w) ≡ 0 → ⊥
  held_kinded = (some_kind (held b w) held_some).0

  module _ (e : Descriptor) (ee : e ≡ described w) where
    pub held_kind : (octet_of e.kind) ≡ kind_of (held b w)
    held_kind = ap (λ (x : Descriptor). octet_of x.kind) ee ∙ stands_for.0

    pub held_one : holds_one (octet_of e.kind) ≡ is_single (manner (held b w))
    held_one = ap holds_one held_kind ∙ (some_kind (held b w) held_some).1

    module _ (s : Span) (es : s ≡ span_of b (octet_of e.kind) e.own) where
      pub held_span : Spanned b (held b w) (octet_of (described w).kind) s
      held_span = its R w K s (es ∙ ap (λ (x : Descriptor). span_of b (octet_of x.kind) x.own) ee)

      pub held_few : length (parts_of (held b w)) ≤ 16
      held_few = parts_few (held b w) (omega (arith, held_span.count, held_span.few))

      pub held_node : node_of (octet_of e.kind) s.count ≡ node_size (held b w)
      held_node = rw (held_kind, held_span.count) (node_is (held b w) held_kinded)

      pub held_opening : opening_of (octet_of e.kind) s.count ≡ said (held b w) 0 []
      held_opening = rw (held_kind, held_span.count) (opening_is (held b w) held_kinded)

      pub held_onward : (place : ℕ) → place + s.step / 2 ≡ onward (kind_of (held b w)) place
      held_onward place = rw (es, ← held_kind) (onward_is b (octet_of e.kind) e.own place)
