-- Laws of answers and of the combinators that readers are built from. Proofs keep the combinators shut.
-- Assumes nothing.
use mathlib.Core.Bool.{Bool, true, false, true≢false}
use mathlib.Core.List.{List, [], ◌∷◌, ◌++◌}
use mathlib.Core.Path.{◌≡◌, refl, subst, sym}
use Prim.Native.Nat.{ℕ}
use Rattle.octets.specs.Answer.{Answer, got, refused, then, if, behind, none_left}

pub then_got : {K A B : Type 0} (a : A) (s : List ℕ) (f : A → List ℕ → Answer K B) → then (got a s) f ≡ f a s
unfolding then
then_got a s f = refl

pub then_refused : {K A B : Type 0} (c : K) (l : ℕ) (f : A → List ℕ → Answer K B) → then (refused c l) f ≡ refused c l
unfolding then
then_refused c l f = refl

pub if_true : {A : Type 0} (a : A) (k : Unit {0} → A) → if true a k ≡ a
unfolding if
if_true a k = refl

pub if_false : {A : Type 0} (a : A) (k : Unit {0} → A) → if false a k ≡ k tt
unfolding if
if_false a k = refl

pub behind_got : {K A : Type 0} (k : ℕ) (a : A) (s : List ℕ) → ◌≡◌ {A = Answer K A} (behind k (got a s)) (got a s)
unfolding behind
behind_got k a s = refl

pub none_nil : none_left [] ≡ true
unfolding none_left
none_nil = refl

pub none_cons : (b : ℕ) (s : List ℕ) → none_left (b ∷ s) ≡ false
unfolding none_left
none_cons b s = refl

unfoldable pub IsRefused : {K A : Type 0} → Answer K A → Type 0
IsRefused (got a s) = ⊥
IsRefused (refused c l) = Unit {0}

-- accepted and refused exclude each other
pub refused≢got : {K A C : Type 0} {c : K} {l : ℕ} {a : A} {s : List ℕ} → refused c l ≡ got a s → C
unfolding IsRefused
refused≢got e = absurd (subst IsRefused e tt)

pub got_value : {K A : Type 0} {a b : A} {s t : List ℕ} → ◌≡◌ {A = Answer K A} (got a s) (got b t) → a ≡ b
got_value e = cc

pub got_rest : {K A : Type 0} {a b : A} {s t : List ℕ} → ◌≡◌ {A = Answer K A} (got a s) (got b t) → s ≡ t
got_rest e = cc

-- what is answered has P, if anything is
pub data Holds {K A : Type 0} (P : A → List ℕ → Type 0) : Answer K A → Type 0 where
  yields : {a : A} {r : List ℕ} → P a r → Holds P (got a r)
  refuses : {c : K} {l : ℕ} → Holds P (refused c l)

pub then_holds : {K A B : Type 0} {P : A → List ℕ → Type 0} {Q : B → List ℕ → Type 0} {x : Answer K A} {f : A → List ℕ → Answer K B}
    → Holds P x → ((a : A) (r : List ℕ) → P a r → Holds Q (f a r)) → Holds Q (then x f)
unfolding then
then_holds (yields {a = a} {r = r} h) k = k a r h
then_holds refuses k = refuses

pub map_holds : {K A : Type 0} {P Q : A → List ℕ → Type 0} {x : Answer K A} → Holds P x → ((a : A) (r : List ℕ) → P a r → Q a r) → Holds Q x
map_holds (yields {a = a} {r = r} h) k = yields (k a r h)
map_holds refuses k = refuses

pub behind_holds : {K A : Type 0} {P : A → List ℕ → Type 0} {x : Answer K A} (k : ℕ) → Holds P x → Holds P (behind k x)
unfolding behind
behind_holds k (yields h) = yields h
behind_holds k refuses = refuses

pub if_holds : {K A : Type 0} {P : A → List ℕ → Type 0} (b : Bool) {x : Answer K A} {y : Unit {0} → Answer K A} → (b ≡ true → Holds P x) → (b ≡ false → (u : Unit {0}) → Holds P (y u)) → Holds P (if b x y)
unfolding if
if_holds true h k = h refl
if_holds false h k = k refl tt

pub got_holds : {K A : Type 0} {P : A → List ℕ → Type 0} {x : Answer K A} {a : A} {r : List ℕ} → Holds P x → x ≡ got a r → P a r
got_holds {P = P} (yields {a = b} {r = s} h) e =
    let ea : _ = got_value e in
    let er : _ = got_rest e in
    rw (← ea, ← er) h
got_holds refuses e = refused≢got e

-- what follows counts only where something is answered
pub then_alike : {K A B : Type 0} (x : Answer K A) {f g : A → List ℕ → Answer K B} → ((a : A) (s : List ℕ) → x ≡ got a s → f a s ≡ g a s) → then x f ≡ then x g
unfolding then
then_alike (got a s) h = h a s refl
then_alike (refused c l) h = refl

-- r takes s down to u, and what it answers Q relates to v
pub record Reads {K A : Type 0} (Q : A → A → Type 0) (r : List ℕ → Answer K A) (v : A) (s u : List ℕ) : Type 0 where
  pub value : A
  pub answer : r s ≡ got value u
  pub alike : Q v value

-- s is a piece that C relates to a, and then r
pub record Taken {A : Type 0} (C : A → List ℕ → Type 0) (s : List ℕ) (a : A) (r : List ℕ) : Type 0 where
  pub piece : List ℕ
  pub cut : s ≡ piece ++ r
  pub has : C a piece

-- x or y, as the test says: what holds of both
pub if_cases : {A : Type 0} (P : A → Type 0) (b : Bool) (x : A) (y : Unit {0} → A) → (b ≡ true → P x) → (b ≡ false → P (y tt)) → P (if b x y)
unfolding if
if_cases P true x y h k = h refl
if_cases P false x y h k = k refl

pub none_there : (r : List ℕ) → none_left r ≡ true → r ≡ []
unfolding none_left
none_there [] e = refl
none_there (b ∷ r) e = absurd (true≢false (sym e))

pub ruleset run = (then_got, if_true, if_false, behind_got, none_nil, none_cons)
