-- Orders of a list, two lists element by element, every element of a list.
-- Assumes nothing.
use Rattle.std.specs.Prelude.{List, [], ◌∷◌, ℕ, ◌<◌}

module _ {A : Type 0} where
  -- x is one of the first list, and the second is what is left
  pub data Sel (x : A) : List A → List A → Type 0 where
    here : {l : List A} → Sel x (x ∷ l) l
    there : {y : A} {l r : List A} → Sel x l r → Sel x (y ∷ l) (y ∷ r)

  -- the second list has the elements of the first in some order
  pub data Perm : List A → List A → Type 0 where
    none : Perm [] []
    next : {x : A} {l l' r : List A} → Sel x l l' → Perm l' r → Perm l (x ∷ r)

  -- P holds of every element
  pub data Every (P : A → Type 0) : List A → Type 0 where
    every_nil : Every P []
    every_cons : {x : A} {l : List A} → P x → Every P l → Every P (x ∷ l)

-- two lists of one length, related element by element
pub data Each {A B : Type 0} (R : A → B → Type 0) : List A → List B → Type 0 where
  nil : Each R [] []
  cons : {a : A} {b : B} {l : List A} {r : List B} → R a b → Each R l r → Each R (a ∷ l) (b ∷ r)

-- in any order, or in the order that was given
pub data Order : Type 0 where
  any_order : Order
  as_given : Order

pub data Arranged {A : Type 0} : Order → List A → List A → Type 0 where
  permuted : {l r : List A} → Perm l r → Arranged any_order l r
  kept : {l : List A} → Arranged as_given l l

-- every one is an octet
abbrev pub AllOctets : List ℕ → Type 0
AllOctets l = Every (λ x. x < 256) l
