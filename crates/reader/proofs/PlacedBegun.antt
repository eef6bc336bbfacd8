-- What is accepted begins as its type does.
-- Assumes nothing.
use mathlib.Core.Bool.{true, ◌&&◌, ◌||◌}
use mathlib.Core.List.{List, [], ◌∷◌}
use mathlib.Core.Option.{Option}
use mathlib.Core.Path.{◌≡◌, sym, ◌∙◌}
use Prim.Native.Nat.{ℕ, zero, suc}
use Rattle.x690.specs.declared.ReadingCause.{ReadingCause}
use Rattle.octets.specs.Answer.{Answer, got, refused}
use Rattle.octets.proofs.Answer.{Holds, got_holds, refused≢got}
use Rattle.octets.specs.Lists.{same}
use Rattle.octets.proofs.Tests.{test, or_by, and_left, and_right}
use Rattle.octets.proofs.Lists.{same_true}
use Rattle.x690.specs.Reading.{read_identifier}
use Rattle.x690.specs.Segments.{Kind, in_parts, in_either}
use Rattle.x690.proofs.Segments.{Heading, as_whole, as_parts}
use Rattle.table.specs.Syntax.{Body, Plain, Sequence, Set, SequenceOf, SetOf, Choice, Table}
use Rattle.coding.specs.Content.{segmented}
use Rattle.coding.specs.Value.{Value}
use Rattle.coding.specs.Tags.{own_tag, explicit}
use Rattle.coding.specs.Awaited.{begins_body, begins_item, begins}
use Rattle.coding.specs.Reading.{passes, begun, not_awaited, read_value}
use Rattle.coding.proofs.Awaited.{item_unwanted}
use Rattle.coding.proofs.FirstTags.{Begins, Good}
use Rattle.coding.proofs.Sound.{not_awaited_lem}

heading_so : (i o : List ℕ) (k : Option Kind) → (same i o || (in_either k && same i (in_parts o))) ≡ true → Heading o k i
heading_so i o k q =
    or_by (same i o) (in_either k && same i (in_parts o)) q (λ x. as_whole (same_true i o x))
    λ x. as_parts (and_left (in_either k) (same i (in_parts o)) x) (same_true i (in_parts o) (and_right (in_either k) (same i (in_parts o)) x))

-- what is accepted begins as its type does
begins_so : (T : Table) (i : List ℕ) (es : List (List ℕ)) (o : List ℕ) (b : Body) → begins_item (λ a. begins T a i) i es o b ≡ true → Begins T es o b i
unfolding begins_item begins_body Begins
begins_so T i (e ∷ es) o b q = same_true i e q
begins_so T i [] o (Plain k) q = heading_so i o (segmented k) q
begins_so T i [] o (Sequence ms) q = same_true i o q
begins_so T i [] o (Set ms) q = same_true i o q
begins_so T i [] o (SequenceOf t) q = same_true i o q
begins_so T i [] o (SetOf t) q = same_true i o q
begins_so T i [] o (Choice ts) q = q

pub value_begun : (T : Table) → Good T → (n t : ℕ) (s : List ℕ) (v : Value) (w : List ℕ) → read_value T n t s ≡ got v w → begun T t s ≡ true
unfolding read_value begun passes
value_begun T good zero t s v w e = refused≢got e
value_begun T good (suc n) t s v w e =
    test (passes (λ j. begins_item (λ a. begins T a j) j (explicit (T t)) (own_tag (T t)) (T t).body) (read_identifier s))
    (λ q. go (read_identifier s) q)
    λ q.
    let x = item_unwanted T (λ u w. read_value T n u w) (own_tag (T t)) (explicit (T t)) (T t).body s q in
    let z : Holds (λ (a : Value) (u : List ℕ). ⊥) (not_awaited s) = not_awaited_lem s in
    absurd (got_holds z (sym x ∙ e))
  where
    go : (x : Answer ReadingCause (List ℕ)) → passes (λ j. begins_item (λ a. begins T a j) j (explicit (T t)) (own_tag (T t)) (T t).body) x ≡ true → passes (begins T t) x ≡ true
    go (got i u) q = (good t).begin i (begins_so T i (explicit (T t)) (own_tag (T t)) (T t).body q)
    go (refused c l) q = q
