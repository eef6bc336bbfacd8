-- Laws on tests over lists, on parts by their places, and on items of one size that stand one after another.
-- Assumes nothing.
use borrow.Author.Tests.{eqb-true, eq-eqb}
use mathlib.Core.Bool.{Bool, true, false, ◌&&◌, false≢true}
use mathlib.Core.List.{List, [], ◌∷◌, ◌++◌, map, append_assoc}
use mathlib.Core.Path.{◌≡◌, refl, sym, ap, ◌∙◌}
use native.Mathlib.Nat.{div-add-mod', add-zero}
use native.Mathlib.Numerals.{add-one}
use native.Mathlib.Omega.{arith}
use Prim.Native.Nat.{ℕ, zero, suc, ◌+◌, ◌*◌, ◌/◌, ◌%◌, ◌≤◌}
use lib.ListN.{length, drop, get_or, length-append, length-drop}
use lib.Seq.{drop-cons, get_or-drop, drop-drop, drop-append_seam}
use lib.Dec.{eqb}
use Rattle.octets.specs.Lists.{all, joined, same}
use Rattle.octets.specs.Numbers.{Octets, two, octets_of}
use Rattle.octets.proofs.Tests.{and_left, and_right}

pub both : (a b : Bool) → (a && b) ≡ true → (a ≡ true) × (b ≡ true)
both true b e = (refl, e)
both false b e = absurd (false≢true e)

module _ {A : Type 0} where
  pub map_same : (l : List A) → map (λ x. x) l ≡ l
  map_same [] = refl
  map_same (x ∷ l) = ap {B = List A} (λ r. x ∷ r) (map_same l)

  pub all_map : {B : Type 0} (f : B → Bool) (g : A → B) (l : List A) → all f (map g l) ≡ all (λ x. f (g x)) l
  unfolding all
  all_map f g [] = refl
  all_map f g (x ∷ l) = ap (λ t. f (g x) && t) (all_map f g l)

  pub all_yes : (f : A → Bool) → ((x : A) → f x ≡ true) → (l : List A) → all f l ≡ true
  unfolding all
  all_yes f h [] = refl
  all_yes f h (x ∷ l) = rw (h x) (all_yes f h l)

  -- what stands behind a part
  pub behind : (b : List A) (p : ℕ) (x w : List A) → drop p b ≡ x ++ w → drop (p + length x) b ≡ w
  behind b p x w e = sym (drop-drop (length x) p b) ∙ rw e (drop-append_seam x w)

  pub length_behind : (b : List A) (p : ℕ) (x w : List A) → p ≤ length b → drop p b ≡ x ++ w → p + length x ≤ length b
  length_behind b p x w h e = let k = rw (length-drop, length-append) at (ap length e) in omega arith

  -- an element of a part
  pub at_part : (b : List A) (p i : ℕ) (d : A) (x : List A) → drop p b ≡ x → get_or b (p + i) d ≡ get_or x i d
  at_part b p i d x e = sym (get_or-drop p b i d) ∙ ap (λ l. get_or l i d) e

  pub at_first : (b : List A) (p : ℕ) (d x : A) (w : List A) → drop p b ≡ x ∷ w → get_or b p d ≡ x
  at_first b p d x w e = rw add-zero at (at_part b p 0 d (x ∷ w) e)

  pub length_joined : (f : A → List ℕ) (size : ℕ) → ((x : A) → length (f x) ≡ size) → (l : List A) → length (joined (map f l)) ≡ size * length l
  unfolding joined
  length_joined f size h [] = omega arith
  length_joined f size h (x ∷ l) = rw (length-append, h x, length_joined f size h l) (omega arith)

  -- n items, the first at p, each `size` behind the one before
  unfoldable pub items_at : (ℕ → A) → ℕ → ℕ → ℕ → List A
  items_at at size p zero = []
  items_at at size p (suc n) = at p ∷ items_at at size (p + size) n

  pub length_items : (at : ℕ → A) (size p n : ℕ) → length (items_at at size p n) ≡ n
  unfolding items_at
  length_items at size p zero = refl
  length_items at size p (suc n) = ap suc (length_items at size (p + size) n)

module _ {A : Type 0} (b : List ℕ) (f : A → List ℕ) (size : ℕ) where
  -- the octets from p on are those of the items there, if each item that fits and passes has its octets
  pub items_back : (at : ℕ → A) (ok : ℕ → Bool) (v : ℕ → ℕ)
      → ((p : ℕ) → p + size ≤ length b → ok (v p) ≡ true → drop p b ≡ f (at p) ++ drop (p + size) b)
      → (p n : ℕ) → p + size * n ≤ length b → all ok (items_at v size p n) ≡ true
      → drop p b ≡ joined (map f (items_at at size p n)) ++ drop (p + size * n) b
  unfolding joined items_at all
  items_back at ok v h p zero l e = let q : p ≡ p + size * 0 = omega arith in ap (λ r. drop r b) q
  items_back at ok v h p (suc n) l e =
      let t = both _ _ e in
      let q : p + size * suc n ≡ p + size + size * n = omega arith in
      h p (omega arith) t.0 ∙ rw (append_assoc, q, ← items_back at ok v h (p + size) n (omega arith) t.1)

  -- what is read of items whose octets stand there
  pub items_only : {B : Type 0} (g : A → B) (at : ℕ → B) → ((x : A) → length (f x) ≡ size)
      → ((p : ℕ) (x : A) (w : List ℕ) → drop p b ≡ f x ++ w → at p ≡ g x)
      → (p : ℕ) (xs : List A) (u : List ℕ) → drop p b ≡ joined (map f xs) ++ u → items_at at size p (length xs) ≡ map g xs
  unfolding joined items_at
  items_only g at s h p [] u e = refl
  items_only g at s h p (x ∷ xs) u e =
      let e' = e ∙ append_assoc (f x) _ u in
      rw (h p x _ e', items_only g at s h (p + size) xs u (rw (s x) at (behind b p (f x) _ e')))

pub drop_one : (b : List ℕ) (p : ℕ) → p + 1 ≤ length b → drop p b ≡ get_or b p 0 ∷ drop (p + 1) b
drop_one b p h = rw add-one (drop-cons b p 0 (omega arith))

pub drop_two : (b : List ℕ) (p : ℕ) → p + 2 ≤ length b → drop p b ≡ get_or b p 0 ∷ get_or b (p + 1) 0 ∷ drop (p + 2) b
drop_two b p h = rw (drop_one b p (omega arith), drop_one b (p + 1) (omega arith)) (let q : p + 1 + 1 ≡ p + 2 = omega arith in rw q)

-- a number of two octets, and its octets
pub two_back : (b : List ℕ) → Octets b → (p : ℕ) → p + 2 ≤ length b → drop p b ≡ octets_of (two b p) ++ drop (p + 2) b
two_back b o p h =
    let x = o p in
    let y = o (p + 1) in
    let z : two b p / 256 ≡ get_or b p 0 = omega arith in
    let w : two b p % 256 ≡ get_or b (p + 1) 0 = omega arith in
    rw (z, w) (drop_two b p h)

pub two_only : (b : List ℕ) (p n : ℕ) (w : List ℕ) → drop p b ≡ octets_of n ++ w → two b p ≡ n
two_only b p n w e = rw (at_first b p 0 _ _ e, at_part b p 1 0 _ e) (div-add-mod' n 256)

pub same_refl : (i : List ℕ) → same i i ≡ true
unfolding same
same_refl [] = refl
same_refl (x ∷ i) = simp (eq-eqb x x refl, same_refl i)

pub same_true : (i j : List ℕ) → same i j ≡ true → i ≡ j
unfolding same
same_true [] [] e = refl
same_true [] (y ∷ j) e = absurd (false≢true e)
same_true (x ∷ i) [] e = absurd (false≢true e)
same_true (x ∷ i) (y ∷ j) e =
    let h : x ≡ y = eqb-true x y (and_left (eqb x y) (same i j) e) in
    let k : i ≡ j = same_true i j (and_right (eqb x y) (same i j) e) in
    rw (h, k)
