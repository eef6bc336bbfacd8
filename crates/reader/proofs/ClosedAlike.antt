-- Closing explicit tags looks at the octets alone: whatever is read under them is kept, or refused alike.
-- Assumes nothing.
use lib.ListN.{length, take, drop}
use mathlib.Core.Bool.{Bool, true, false}
use mathlib.Core.List.{List, [], ◌∷◌}
use mathlib.Core.Logic.{◌⊎◌, inl, inr}
use mathlib.Core.Path.{◌≡◌, refl, sym, ap, ◌∙◌}
use Prim.Native.Nat.{ℕ, ◌+◌, ◌-◌}
use Rattle.x690.specs.declared.ReadingCause.{ReadingCause}
use Rattle.x690.specs.declared.ReadingCause.TheVariants.{Trailing}
use Rattle.octets.specs.Answer.{Answer, got, refused, then, behind}
use Rattle.octets.proofs.Answer.{refused≢got, got_value, got_rest}
use Rattle.x690.specs.Reading.{Mode, open_ended, closed, at_end}
use Rattle.reader.specs.Answers.{cap, told}
use Rattle.reader.specs.Wraps.{ended, shut, closing, Around}
use Rattle.reader.proofs.Items.{Ending, over, broken, more, ending}
use Rattle.reader.proofs.Wrapping.{closing_refused}

abbrev Alike : {A B : Type 0} → A → B → Answer ReadingCause A → Answer ReadingCause B → Type 0
Alike a b x y = ((u : List ℕ) × (x ≡ got a u) × (y ≡ got b u)) ⊎ ((c : ReadingCause) × (l : ℕ) × (x ≡ refused c l) × (y ≡ refused c l))

module _ {A B : Type 0} (a : A) (b : B) where
  ended_alike : (k : Mode) (x : Answer ReadingCause A) (y : Answer ReadingCause B) → Alike a b x y → Alike a b (ended k x) (ended k y)
  unfolding ended then
  ended_alike k x y (inl (u, e, f)) = rw (e, f) (go (ending k u))
    where
      go : Ending k u → Alike a b (at_end k u (λ v. got a v) λ _. refused Trailing (length u)) (at_end k u (λ v. got b v) λ _. refused Trailing (length u))
      go (over w z h) = inl (w, h A _ _, h B _ _)
      go (broken c l z h) = inr (c, l, h A _ _, h B _ _)
      go (more h) = inr (Trailing, length u, h A _ _, h B _ _)
  ended_alike k x y (inr (c, l, e, f)) = inr (c, l, rw e refl, rw f refl)

  shut_alike : (m : List ℕ) (outer inner : ℕ) (k : Bool) (x : Answer ReadingCause A) (y : Answer ReadingCause B) → Alike a b x y
      → Alike a b (shut m outer inner k x) (shut m outer inner k y)
  unfolding shut then behind
  shut_alike m outer inner true x y h = ended_alike open_ended x y h
  shut_alike m outer inner false x y h = go (ended_alike closed x y h)
    where
      go : Alike a b (ended closed x) (ended closed y)
          → Alike a b (then (behind (outer - inner) (ended closed x)) λ v r. got v (drop inner (take outer m)))
          (then (behind (outer - inner) (ended closed y)) λ v r. got v (drop inner (take outer m)))
      go (inl (u, e, f)) = inl (drop inner (take outer m), rw e refl, rw f refl)
      go (inr (c, l, e, f)) = inr (c, l + (outer - inner), rw e refl, rw f refl)

  closing_alike : (m ns : List ℕ) (e : ℕ) (x : Answer ReadingCause A) (y : Answer ReadingCause B) → Alike a b x y → Alike a b (closing m ns e x) (closing m ns e y)
  unfolding closing
  closing_alike m [] e x y h = h
  closing_alike m (n ∷ ns) e x y h = shut_alike m _ _ _ (closing m ns e x) (closing m ns e y) (closing_alike m ns e x y h)

-- so a size may be closed in place of the value
pub closing_size : {A B : Type 0} (m ns : List ℕ) (e : ℕ) (a : A) (b : B) (u : List ℕ) (f : A → ℕ) (g : B → ℕ) → cap (f a) ≡ cap (g b)
    → told m f (closing m ns e (got a u)) ≡ told m g (closing m ns e (got b u))
unfolding told
closing_size m ns e a b u f g q = go (closing_alike a b m ns e (got a u) (got b u) (inl (u, refl, refl)))
  where
    go : Alike a b (closing m ns e (got a u)) (closing m ns e (got b u)) → told m f (closing m ns e (got a u)) ≡ told m g (closing m ns e (got b u))
    go (inl (w, x, y)) = rw (x, y, q) refl
    go (inr (c, l, x, y)) = rw (x, y) refl

-- what was read under tags that are closed was read with the same value, and a number that ends where it ends is closed alike
pub closing_through : {A : Type 0} (m : List ℕ) (n : ℕ) (ns : List ℕ) (e : ℕ) → Around n ns e → (x : Answer ReadingCause A) (a : A) (rest : List ℕ)
    → closing m ns e x ≡ got a rest → (u : List ℕ) × (x ≡ got a u) × ((i : ℕ) → closing m ns e (got i u) ≡ got i rest)
closing_through m n ns e o (refused c l) a rest h = refused≢got (sym (closing_refused m n ns e c l o) ∙ h)
closing_through m n ns e o (got b u) a rest h = (u, ap (λ z. got z u) (same 0).0, λ i. (same i).1)
  where
    same : (i : ℕ) → (b ≡ a) × (closing m ns e (got i u) ≡ got i rest)
    same i = go (closing_alike b i m ns e (got b u) (got i u) (inl (u, refl, refl)))
      where
        go : Alike b i (closing m ns e (got b u)) (closing m ns e (got i u)) → (b ≡ a) × (closing m ns e (got i u) ≡ got i rest)
        go (inl (w, x, y)) = let q = sym x ∙ h in (got_value q, y ∙ ap (got i) (got_rest q))
        go (inr (c, l, x, y)) = refused≢got (sym x ∙ h)
