-- What stands at a place of contents: an item, their end, or neither.
-- Assumes nothing.
use borrow.Author.Tests.{eqb-true, eqb-false}
use lib.Dec.{eqb}
use lib.ListN.{get_or, drop}
use mathlib.Core.Bool.{Bool, true, false, not, ◌||◌, true≢false}
use mathlib.Core.List.{List, [], ◌∷◌}
use mathlib.Core.Path.{◌≡◌, refl, sym, ap, ◌∙◌}
use Prim.Native.Nat.{ℕ, zero, suc}
use Rattle.std.specs.Prelude.{Option, Some, None, Result, Ok, Err}
use Rattle.x690.specs.declared.ReadingCause.{ReadingCause}
use Rattle.x690.specs.declared.ReadingCause.TheVariants.{NotAwaited}
use Rattle.octets.specs.Answer.{if}
use Rattle.octets.specs.Lists.{any}
use Rattle.octets.proofs.Tests.{test}
use Rattle.table.specs.Syntax.{Plain, Sequence, Set, SequenceOf, SetOf, Choice}
use Rattle.kinds.specs.Kinds.{octet_of}
use Rattle.records.specs.Descriptors.{described}
use Rattle.records.specs.declared.descriptor.Descriptor.{Descriptor}
use Rattle.reader.specs.Items.{Holder, inside, message, manner, is_single, parts_of, optionals, pending, lacks}
use Rattle.reader.specs.Sought.{held}
use Rattle.reader.specs.Standing.{at_ending, standing}
use Rattle.reader.proofs.Held.{held_one}
use Rattle.reader.proofs.Items.{pending_free, pending_come}
use Rattle.reader.proofs.Spans.{by_member, entry_of}
use Rattle.reader.proofs.Lent.{Seeks}

-- elements need not come
optional_parts : (came : List ℕ) (i k : ℕ) (ts : List ℕ) → any (λ x. not x.1.optional) (pending came k (drop i (optionals ts))) ≡ false
unfolding pending any
optional_parts came zero k [] = refl
optional_parts came (suc i) k [] = refl
optional_parts came zero k (t ∷ ts) =
    test (eqb (get_or came k 0) 0)
    (λ z. rw (pending_free came k (record { type = t; optional = true }) (optionals ts) (eqb-true (get_or came k 0) 0 z)) (optional_parts came zero (suc k) ts))
    λ z. rw (pending_come came k (record { type = t; optional = true }) (optionals ts) (eqb-false (get_or came k 0) 0 z)) (optional_parts came zero (suc k) ts)
optional_parts came (suc i) k (t ∷ ts) = optional_parts came i k ts

list_lacks : (h : Holder) (i : ℕ) (came : List ℕ) → is_single (manner h) ≡ false → by_member (manner h) ≡ false → lacks h i came ≡ false
unfolding manner is_single parts_of
list_lacks (inside (Plain k)) i came s n = absurd (true≢false s)
list_lacks (inside (Sequence ms)) i came s n = absurd (true≢false n)
list_lacks (inside (Set ms)) i came s n = absurd (true≢false n)
list_lacks (inside (SequenceOf t)) i came s n = optional_parts came i i (t ∷ [])
list_lacks (inside (SetOf t)) i came s n = optional_parts came i i (t ∷ [])
list_lacks (inside (Choice ts)) i came s n = absurd (true≢false s)
list_lacks (message t) i came s n = absurd (true≢false s)

module _ {b index : List ℕ} {w : ℕ} {came : List ℕ} (Z : Seeks b index w came) (plain : (described w).simple ≡ false) (e : Descriptor) (ee : e ≡ described w)
    (g : Bool) (eg : g ≡ (eqb (octet_of e.kind) 50 || eqb (octet_of e.kind) 51)) (i : ℕ) (y : Result (Option ℕ) ReadingCause) where
  abbrev H : Holder
  H = held b w

  one_is : g ≡ is_single (manner H)
  one_is = eg ∙ held_one Z.ready Z.known plain e ee

  pub stands_one : g ≡ true → Ok None ≡ standing H i came y
  unfolding standing if
  stands_one q = rw (← one_is, q) refl

  module _ (q : g ≡ false) (z : Result (Option ℕ) ReadingCause) (ez : z ≡ y) where
    at_ending_lem : standing H i came y ≡ at_ending H i came z
    unfolding standing if
    at_ending_lem = rw (← one_is, q, ez) refl

    pub stands_more : z ≡ Ok None → Ok None ≡ standing H i came y
    unfolding at_ending
    stands_more d = sym (at_ending_lem ∙ rw d refl)

    pub stands_broken : (c : ReadingCause) → z ≡ Err c → Err c ≡ standing H i came y
    unfolding at_ending
    stands_broken c d = sym (at_ending_lem ∙ rw d refl)

    module _ (u : ℕ) (d : z ≡ Ok (Some u)) (k : Bool) (ek : k ≡ (eqb (octet_of e.kind) 16 || eqb (octet_of e.kind) 17)) where
      pub stands_list : k ≡ false → Ok (Some u) ≡ standing H i came y
      unfolding at_ending if
      stands_list n =
          let v : by_member (manner H) ≡ false = sym (ek ∙ ap (λ (x : Descriptor). eqb (octet_of x.kind) 16 || eqb (octet_of x.kind) 17) ee ∙ (entry_of Z.ready w Z.known).members) ∙ n in
          sym (at_ending_lem ∙ rw (d, list_lacks H i came (sym one_is ∙ q) v) refl)

      module _ (r : Bool) (er : r ≡ lacks H i came) where
        pub stands_lacking : r ≡ true → Err NotAwaited ≡ standing H i came y
        unfolding at_ending if
        stands_lacking v = sym (at_ending_lem ∙ rw (d, ← er, v) refl)

        pub stands_over : r ≡ false → Ok (Some u) ≡ standing H i came y
        unfolding at_ending if
        stands_over v = sym (at_ending_lem ∙ rw (d, ← er, v) refl)
