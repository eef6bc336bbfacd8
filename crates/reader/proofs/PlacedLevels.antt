-- What is accepted with some levels is accepted with more, and is the same.
-- Assumes nothing.
use mathlib.Core.Bool.{Bool, true, false}
use mathlib.Core.List.{List, [], ◌∷◌, ◌++◌}
use mathlib.Core.Option.{Option, some, none}
use mathlib.Core.Path.{◌≡◌}
use Prim.Native.Nat.{ℕ, zero, suc, ◌+◌, ◌-◌, ◌≤◌}
use native.Mathlib.Omega.{arith}
use lib.ListN.{take}
use Rattle.x690.specs.declared.ReadingCause.{ReadingCause}
use Rattle.octets.specs.Answer.{Answer, got, refused, then, if, behind}
use Rattle.octets.proofs.Answer.{refused≢got}
use Rattle.x690.specs.Reading.{Size, definite, indefinite, Mode, closed, open_ended, at_end, inside, read_constructed}
use Rattle.table.specs.Syntax.{Member, Body, Plain, Sequence, Set, SequenceOf, SetOf, Choice, Table}
use Rattle.coding.specs.Value.{Value}
use Rattle.coding.specs.Tags.{own_tag, explicit}
use Rattle.coding.specs.Reading.{nothing, read_wrapped, read_sequence, place_member, read_set, read_many, choose, read_body}
use Rattle.coding.specs.Reading.{read_kind, read_value}

-- the second answer is the first, if that is no refusal
pub data Kept {A : Type 0} : Answer ReadingCause A → Answer ReadingCause A → Type 0 where
  same : {x : Answer ReadingCause A} → Kept x x
  refusal : {c : ReadingCause} {l : ℕ} {y : Answer ReadingCause A} → Kept (refused c l) y

pub kept_got : {A : Type 0} {x y : Answer ReadingCause A} {a : A} {w : List ℕ} → Kept x y → x ≡ got a w → y ≡ got a w
kept_got same e = e
kept_got refusal e = refused≢got e

module _ {A B : Type 0} where
  then_kept : {x y : Answer ReadingCause A} {f g : A → List ℕ → Answer ReadingCause B} → Kept x y → ((a : A) (w : List ℕ) → Kept (f a w) (g a w)) → Kept (then x f) (then y g)
  unfolding then
  then_kept {f = f} {g = g} (same {x = x}) h = go x
    where
      go : (x : Answer ReadingCause A) → Kept (then x f) (then x g)
      go (got a w) = h a w
      go (refused c l) = same
  then_kept refusal h = refusal

module _ {A : Type 0} where
  if_kept : (b : Bool) {x y : Answer ReadingCause A} {f g : Unit {0} → Answer ReadingCause A} → Kept x y → ((u : Unit {0}) → Kept (f u) (g u)) → Kept (if b x f) (if b y g)
  unfolding if
  if_kept true h k = h
  if_kept false h k = k tt

  behind_kept : (k : ℕ) {x y : Answer ReadingCause A} → Kept x y → Kept (behind k x) (behind k y)
  unfolding behind
  behind_kept k same = same
  behind_kept k refusal = refusal

  end_kept : (mode : Mode) (s : List ℕ) {f g : List ℕ → Answer ReadingCause A} {x y : Unit {0} → Answer ReadingCause A} → ((u : List ℕ) → Kept (f u) (g u))
      → ((u : Unit {0}) → Kept (x u) (y u))
      → Kept (at_end mode s f x) (at_end mode s g y)
  unfolding at_end
  end_kept closed s h k = if_kept _ (h []) k
  end_kept open_ended s h k = if_kept _ same λ _. if_kept _ (k tt) λ _. if_kept _ same λ _. if_kept _ same λ _. h _

  inside_kept : {f g : Mode → List ℕ → Answer ReadingCause A} → ((mode : Mode) (s : List ℕ) → Kept (f mode s) (g mode s)) → (z : Size) (s : List ℕ)
      → Kept (inside f z s) (inside g z s)
  unfolding inside
  inside_kept h (definite n) s = then_kept (behind_kept _ (h closed (take n s))) λ v r. same
  inside_kept h indefinite s = h open_ended s

  constructed_kept : (i : List ℕ) {f g : Mode → List ℕ → Answer ReadingCause A} → ((mode : Mode) (s : List ℕ) → Kept (f mode s) (g mode s)) → (s : List ℕ)
      → Kept (read_constructed i f s) (read_constructed i g s)
  unfolding read_constructed
  constructed_kept i h s = then_kept same (inside_kept h)

  wrapped_kept : (is : List (List ℕ)) {f g : List ℕ → Answer ReadingCause A} → ((s : List ℕ) → Kept (f s) (g s)) → (s : List ℕ)
      → Kept (read_wrapped is f s) (read_wrapped is g s)
  unfolding read_wrapped
  wrapped_kept [] h s = h s
  wrapped_kept (i ∷ is) h s = constructed_kept i (λ mode u. end_kept mode u (λ _. same) λ _. then_kept (wrapped_kept is h u) λ v w. same) s

module _ (T : Table) (r q : ℕ → List ℕ → Answer ReadingCause Value) (h : (t : ℕ) (s : List ℕ) → Kept (r t s) (q t s)) where
  sequence_kept : (ms : List Member) (os : List (Option Value)) (w : Bool) (mode : Mode) (s : List ℕ)
      → Kept (read_sequence T r ms os w mode s) (read_sequence T q ms os w mode s)
  unfolding read_sequence
  sequence_kept [] os w mode s = same
  sequence_kept (m ∷ ms) os w mode s =
      if_kept _ (then_kept (h m.type s) λ v s₁. sequence_kept ms (os ++ (some v ∷ [])) false mode s₁) λ _. if_kept _
      (sequence_kept ms (os ++ (none ∷ [])) true mode s) λ _. same

  place_kept : (ms : List Member) (os : List (Option Value)) (s : List ℕ) → Kept (place_member T r ms os s) (place_member T q ms os s)
  unfolding place_member
  place_kept [] os s = same
  place_kept (m ∷ ms) [] s = same
  place_kept (m ∷ ms) (none ∷ os) s = if_kept _ (then_kept (h m.type s) λ v s₁. same) λ _. then_kept (place_kept ms os s) λ us s₁. same
  place_kept (m ∷ ms) (some v ∷ os) s = then_kept (place_kept ms os s) λ us s₁. same

  set_kept : (k : ℕ) (ms : List Member) (os : List (Option Value)) (mode : Mode) (s : List ℕ) → Kept (read_set T r k ms os mode s) (read_set T q k ms os mode s)
  unfolding read_set
  set_kept zero ms os mode s = same
  set_kept (suc k) ms os mode s = end_kept mode s (λ u. same) λ _. if_kept _ same λ _. then_kept (place_kept ms os s) λ us s₁. set_kept k ms us mode s₁

  many_kept : (k t : ℕ) (mode : Mode) (vs : List Value) (s : List ℕ) → Kept (read_many T r k t mode vs s) (read_many T q k t mode vs s)
  unfolding read_many
  many_kept zero t mode vs s = same
  many_kept (suc k) t mode vs s = end_kept mode s (λ u. same) λ _. if_kept _ same λ _. then_kept (h t s) λ v s₁. many_kept k t mode (vs ++ (v ∷ [])) s₁

  choose_kept : (ts : List ℕ) (n : ℕ) (s : List ℕ) → Kept (choose T r ts n s) (choose T q ts n s)
  unfolding choose
  choose_kept [] n s = same
  choose_kept (t ∷ ts) n s = if_kept _ (then_kept (h t s) λ v s₁. same) λ _. choose_kept ts (suc n) s

  body_kept : (b : Body) (mode : Mode) (s : List ℕ) → Kept (read_body T r b mode s) (read_body T q b mode s)
  unfolding read_body
  body_kept (Plain k) mode s = same
  body_kept (Sequence ms) mode s = then_kept (sequence_kept ms [] false mode s) λ os s₁. same
  body_kept (Set ms) mode s = then_kept (set_kept _ ms (nothing ms) mode s) λ os s₁. same
  body_kept (SequenceOf t) mode s = then_kept (many_kept _ t mode [] s) λ vs s₁. same
  body_kept (SetOf t) mode s = then_kept (many_kept _ t mode [] s) λ vs s₁. same
  body_kept (Choice ts) mode s = same

  pub kind_kept : (i : List ℕ) (b : Body) (s : List ℕ) → Kept (read_kind T r i b s) (read_kind T q i b s)
  unfolding read_kind
  kind_kept i (Plain k) s = same
  kind_kept i (Sequence ms) s = constructed_kept i (body_kept (Sequence ms)) s
  kind_kept i (Set ms) s = constructed_kept i (body_kept (Set ms)) s
  kind_kept i (SequenceOf t) s = constructed_kept i (body_kept (SequenceOf t)) s
  kind_kept i (SetOf t) s = constructed_kept i (body_kept (SetOf t)) s
  kind_kept i (Choice ts) s = choose_kept ts 0 s

value_next : (T : Table) (n t : ℕ) (s : List ℕ) → Kept (read_value T n t s) (read_value T (suc n) t s)
unfolding read_value
value_next T zero t s = refusal
value_next T (suc n) t s =
    wrapped_kept (explicit (T t)) (λ u. kind_kept T (λ a w. read_value T n a w) (λ a w. read_value T (suc n) a w) (value_next T n) (own_tag (T t)) (T t).body u) s

kept_on : {A : Type 0} {x y z : Answer ReadingCause A} → Kept x y → Kept y z → Kept x z
kept_on same k = k
kept_on refusal k = refusal

value_more : (T : Table) (n k t : ℕ) (s : List ℕ) → Kept (read_value T n t s) (read_value T (k + n) t s)
value_more T n zero t s = let e : 0 + n ≡ n = omega arith in rw e same
value_more T n (suc k) t s = let e : suc k + n ≡ suc (k + n) = omega arith in rw e (kept_on (value_more T n k t s) (value_next T (k + n) t s))

-- a value with more levels
pub value_kept : (T : Table) (n k t : ℕ) (s : List ℕ) → n ≤ k → Kept (read_value T n t s) (read_value T k t s)
value_kept T n k t s h = let e : k - n + n ≡ k = omega arith in rw e at (value_more T n (k - n) t s)
