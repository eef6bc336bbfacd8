-- Laws of orders of a list, of two lists element by element, of every element of a list, and of pieces one after another.
-- Assumes nothing.
use mathlib.Core.List.{List, [], ◌∷◌, ◌++◌, append_assoc}
use mathlib.Core.Path.{◌≡◌, refl, ap, ◌∙◌}
use Prim.Native.Nat.{ℕ, zero, suc}
use lib.ListN.{drop}
use Rattle.octets.specs.Lists.{joined}
use Rattle.octets.specs.Numbers.{Octets}
use Rattle.octets.specs.Permutations.{Sel, here, there, Perm, none, next, Every, every_nil, every_cons, Each, nil, cons, Order, any_order, as_given, Arranged, permuted, kept, AllOctets}

module _ {A : Type 0} where
  pub Perm_refl : (l : List A) → Perm l l
  Perm_refl [] = none
  Perm_refl (x ∷ l) = next here (Perm_refl l)

  sel_swap : {x y : A} {a b c : List A} → Sel y a b → Sel x b c → (d : List A) × Sel x a d × Sel y d c
  sel_swap {y = y} here s = (y ∷ _, there s, here)
  sel_swap (there {l = l} s) here = (_, here, s)
  sel_swap (there {y = z} s) (there t) = let (d, p, q) = sel_swap s t in (z ∷ d, there p, there q)

  perm_sel : {x : A} {a b c : List A} → Perm a b → Sel x b c → (d : List A) × Sel x a d × Perm d c
  perm_sel (next s p) here = (_, s, p)
  perm_sel (next {x = y} s p) (there t) =
      let (d, t', p') = perm_sel p t in
      let (e, u, w) = sel_swap s t' in
      (e, u, next w p')
  perm_sel none s = elim s [ ]

  pub Perm_trans : {a b c : List A} → Perm a b → Perm b c → Perm a c
  Perm_trans p none = p
  Perm_trans p (next s q) = let (d, s', p') = perm_sel p s in next s' (Perm_trans {a = d} p' q)

  perm_insert : {x : A} {a b c : List A} → Sel x b c → Perm a c → Perm (x ∷ a) b
  perm_insert here p = next here p
  perm_insert (there s) (next {l' = l'} t p) = next (there t) (perm_insert {a = l'} s p)

  pub Perm_sym : {a b : List A} → Perm a b → Perm b a
  Perm_sym none = none
  Perm_sym (next s p) = perm_insert s (Perm_sym p)

  every_sel : {P : A → Type 0} {x : A} {a b : List A} → P x → Sel x a b → Every P b → Every P a
  every_sel h here es = every_cons h es
  every_sel h (there s) (every_cons e es) = every_cons e (every_sel h s es)

  pub every_perm : {P : A → Type 0} {a b : List A} → Perm a b → Every P b → Every P a
  every_perm none every_nil = every_nil
  every_perm (next s p) (every_cons e es) = every_sel e s (every_perm p es)

  pub every_left : {P : A → Type 0} (a b : List A) → Every P (a ++ b) → Every P a
  every_left [] b es = every_nil
  every_left (x ∷ a) b (every_cons e es) = every_cons e (every_left a b es)

  pub every_right : {P : A → Type 0} (a : List A) {b : List A} → Every P (a ++ b) → Every P b
  every_right [] es = es
  every_right (x ∷ a) (every_cons e es) = every_right a es

  pub every_append : {P : A → Type 0} {a b : List A} → Every P a → Every P b → Every P (a ++ b)
  every_append every_nil bs = bs
  every_append (every_cons e es) bs = every_cons e (every_append es bs)

  pub every_drop : {P : A → Type 0} (n : ℕ) {a : List A} → Every P a → Every P (drop n a)
  every_drop zero es = es
  every_drop (suc n) every_nil = every_nil
  every_drop (suc n) (every_cons e es) = every_drop n es

module _ {A B : Type 0} where
  sel_each : {R : A → B → Type 0} {l : List A} {r r' : List B} {y : B} → Each R l r → Sel y r r' → (x : A) × (l' : List A) × Sel x l l' × R x y × Each R l' r'
  sel_each (cons {a = a} {l = l} h t) here = (a, l, here, h, t)
  sel_each (cons {a = a} h t) (there s) =
      let (x, l', s', h', t') = sel_each t s in
      (x, a ∷ l', there s', h', cons h t')
  sel_each nil s = elim s [ ]

  -- an order of the one list gives the same order of the other
  pub perm_each : {R : A → B → Type 0} {l : List A} {r r' : List B} → Each R l r → Perm r r' → (l' : List A) × Perm l l' × Each R l' r'
  perm_each nil none = ([], none, nil)
  perm_each t (next s p) =
      let (x, l₁, s', h, t₁) = sel_each t s in
      let (l₂, p₂, t₂) = perm_each {l = l₁} t₁ p in
      (x ∷ l₂, next s' p₂, cons h t₂)

module _ {A B : Type 0} {R : A → B → Type 0} where
  pub each_flip : {S : B → A → Type 0} {l : List A} {r : List B} → ((a : A) (b : B) → R a b → S b a) → Each R l r → Each S r l
  each_flip f nil = nil
  each_flip f (cons h t) = cons (f _ _ h) (each_flip f t)

  pub each_map : {S : A → B → Type 0} {l : List A} {r : List B} → ((a : A) (b : B) → R a b → S a b) → Each R l r → Each S l r
  each_map f nil = nil
  each_map f (cons h t) = cons (f _ _ h) (each_map f t)

  pub each_then : {C : Type 0} {S : B → C → Type 0} {U : A → C → Type 0} {l : List A} {r : List B} {q : List C}
      → ((a : A) (b : B) (c : C) → R a b → S b c → U a c) → Each R l r → Each S r q → Each U l q
  each_then f nil nil = nil
  each_then f (cons h t) (cons k u) = cons (f _ _ _ h k) (each_then f t u)

pub arranged_refl : {A : Type 0} (o : Order) (l : List A) → Arranged o l l
arranged_refl any_order l = permuted (Perm_refl l)
arranged_refl as_given l = kept

pub arranged_perm : {A : Type 0} {o : Order} {l r : List A} → Arranged o l r → Perm l r
arranged_perm (permuted p) = p
arranged_perm (kept {l = l}) = Perm_refl l

pub arranged_each : {A B : Type 0} {o : Order} {R : A → B → Type 0} {l : List A} {r r' : List B} → Each R l r → Arranged o r r' → (l' : List A) × Arranged o l l' × Each R l' r'
arranged_each es (permuted p) = let (l', q, fs) = perm_each es p in (l', permuted q, fs)
arranged_each {l = l} es kept = (l, kept, es)

pub all_octets : (s : List ℕ) → Octets s → AllOctets s
all_octets [] o = every_nil
all_octets (b ∷ s) o = every_cons (o 0) (all_octets s (λ i. o (suc i)))

-- the pieces one after another, and then the tail
unfoldable pub flat : List (List ℕ) → List ℕ → List ℕ
flat [] tail = tail
flat (p ∷ ps) tail = p ++ flat ps tail

pub joined_flat : (ps : List (List ℕ)) (t : List ℕ) → joined ps ++ t ≡ flat ps t
unfolding flat joined
joined_flat [] t = refl
joined_flat (p ∷ ps) t = append_assoc p (joined ps) t ∙ ap (λ (l : List ℕ). p ++ l) (joined_flat ps t)

pub joined_octets : (ps : List (List ℕ)) → AllOctets (joined ps) → Every (λ p. AllOctets p) ps
unfolding joined
joined_octets [] es = every_nil
joined_octets (p ∷ ps) es = every_cons (every_left p (joined ps) es) (joined_octets ps (every_right p es))
