-- What stands in a node, by the kind of the entry that awaits it.
-- Assumes nothing.
use mathlib.Core.Bool.{Bool, true, false, ◌||◌}
use mathlib.Core.List.{List, [], ◌∷◌}
use mathlib.Core.Path.{◌≡◌, refl, sym, ◌∙◌}
use Prim.Native.Nat.{ℕ, suc, ◌+◌, ◌-◌, ◌≤◌, ◌<◌}
use native.Mathlib.Omega.{arith}
use borrow.Author.Tests.{eq-eqb, ne_eqb, eqb-true, lt-ltb, le-ltb}
use lib.Dec.{eqb}
use lib.ListN.{get_or}
use Rattle.octets.proofs.Tests.{test, or_by}
use Rattle.octets.specs.Numbers.{two}
use Rattle.kinds.specs.Kinds.{octet_of}
use Rattle.records.specs.declared.descriptor.Descriptor.{Descriptor}
use Rattle.writer.specs.Standing.{start_at, count_at, parts_of, place_of, part_of, below_at, row_from}

module _ (e : Descriptor) (v : List ℕ) (p : ℕ) where
  pub start_past : p ≤ start_at e v p
  unfolding start_at
  start_past =
      test (eqb (octet_of e.kind) 51) (λ a. rw a (omega arith)) λ a.
      test (eqb (octet_of e.kind) 16 || eqb (octet_of e.kind) 17) (λ c. rw (a, c) (omega arith)) λ c.
      test (eqb (octet_of e.kind) 50) (λ d. rw (a, c, d) (omega arith)) λ d. rw (a, c, d) (omega arith)

  pub start_message : (octet_of e.kind) ≡ 51 → p ≡ start_at e v p
  unfolding start_at
  start_message h = rw (eq-eqb (octet_of e.kind) 51 h) refl

  -- members
  module _ (t : Bool) (et : t ≡ (eqb (octet_of e.kind) 16 || eqb (octet_of e.kind) 17)) (h : t ≡ true) where
    has : (eqb (octet_of e.kind) 16 || eqb (octet_of e.kind) 17) ≡ true
    has = sym et ∙ h

    pub no_message : (octet_of e.kind) ≡ 51 → ⊥
    no_message f = or_by (eqb (octet_of e.kind) 16) (eqb (octet_of e.kind) 17) has (λ a. let z = eqb-true (octet_of e.kind) 16 a in omega arith) λ a. let z = eqb-true (octet_of e.kind) 17 a
        in omega arith

    pub start_members : p + 1 + get_or v p 0 ≡ start_at e v p
    unfolding start_at
    start_members = rw (ne_eqb (octet_of e.kind) 51 no_message, has) refl

    pub count_members : get_or v p 0 ≡ count_at e v p
    unfolding count_at
    count_members = rw has refl

    pub part_members : (i : ℕ) → i ≡ part_of e v p i
    unfolding part_of
    part_members i = rw has refl

    pub below_missing : (b : List ℕ) (i : ℕ) → (get_or v (p + 1 + i) 0 ≡ 1 → ⊥) → 256 ≡ below_at b e v p i
    unfolding below_at
    below_missing b i f = rw (has, ne_eqb (get_or v (p + 1 + i) 0) 1 f) refl

    pub below_member : (b : List ℕ) (i : ℕ) → get_or v (p + 1 + i) 0 ≡ 1 → get_or b (place_of (parts_of b e) i) 0 ≡ below_at b e v p i
    unfolding below_at
    below_member b i f = rw (has, eq-eqb (get_or v (p + 1 + i) 0) 1 f, ← part_members i) refl

  module _ (t : Bool) (et : t ≡ (eqb (octet_of e.kind) 16 || eqb (octet_of e.kind) 17)) (h : t ≡ false) where
    has_not : (eqb (octet_of e.kind) 16 || eqb (octet_of e.kind) 17) ≡ false
    has_not = sym et ∙ h

    -- an alternative
    module _ (f : (octet_of e.kind) ≡ 50) where
      pub start_choice : p + 1 ≡ start_at e v p
      unfolding start_at
      start_choice = rw (ne_eqb (octet_of e.kind) 51 (λ z. omega arith), has_not, eq-eqb (octet_of e.kind) 50 f) refl

      pub part_choice : (i : ℕ) → get_or v p 0 ≡ part_of e v p i
      unfolding part_of
      part_choice i = rw (has_not, eq-eqb (octet_of e.kind) 50 f) refl

      pub below_choice : (b : List ℕ) (i : ℕ) → get_or b (place_of (parts_of b e) (get_or v p 0)) 0 ≡ below_at b e v p i
      unfolding below_at
      below_choice b i = rw (has_not, ne_eqb (octet_of e.kind) 51 (λ z. omega arith), ← part_choice i) refl

    pub below_message : (b : List ℕ) (i : ℕ) → octet_of e.kind ≡ 51 → e.own ≡ below_at b e v p i
    unfolding below_at
    below_message b i f = rw (has_not, eq-eqb (octet_of e.kind) 51 f) refl

    pub count_one : (s : Bool) → s ≡ (eqb (octet_of e.kind) 50 || eqb (octet_of e.kind) 51) → s ≡ true → 1 ≡ count_at e v p
    unfolding count_at
    count_one s es f = rw (has_not, sym es ∙ f) refl

    -- elements
    module _ (f : (octet_of e.kind) ≡ 50 → ⊥) (g : (octet_of e.kind) ≡ 51 → ⊥) where
      pub start_list : p + 2 ≡ start_at e v p
      unfolding start_at
      start_list = rw (ne_eqb (octet_of e.kind) 51 g, has_not, ne_eqb (octet_of e.kind) 50 f) refl

      pub count_list : two v p ≡ count_at e v p
      unfolding count_at
      count_list = rw (has_not, ne_eqb (octet_of e.kind) 50 f, ne_eqb (octet_of e.kind) 51 g) refl

      pub part_list : (i : ℕ) → 0 ≡ part_of e v p i
      unfolding part_of
      part_list i = rw (has_not, ne_eqb (octet_of e.kind) 50 f) refl

      pub below_list : (b : List ℕ) (i : ℕ) → get_or b (place_of (parts_of b e) 0) 0 ≡ below_at b e v p i
      unfolding below_at
      below_list b i = rw (has_not, ne_eqb (octet_of e.kind) 51 g, ← part_list i) refl

-- the loop over a row: the i-th is there, or it is not
module _ (b : List ℕ) (e : Descriptor) (v : List ℕ) (p i n : ℕ) (h : i < n) where
  left : n - i ≡ suc (n - (i + 1))
  left = omega arith

  pub row_there : below_at b e v p i < 256 → row_from b e v p i (n - i) ≡ below_at b e v p i ∷ row_from b e v p (i + 1) (n - (i + 1))
  unfolding row_from
  row_there g = rw (left, lt-ltb (below_at b e v p i) 256 g) refl

  pub row_missing : 256 ≤ below_at b e v p i → row_from b e v p i (n - i) ≡ row_from b e v p (i + 1) (n - (i + 1))
  unfolding row_from
  row_missing g = rw (left, le-ltb (below_at b e v p i) 256 g) refl

pub row_over : (b : List ℕ) (e : Descriptor) (v : List ℕ) (p i n : ℕ) → n ≤ i → row_from b e v p i (n - i) ≡ []
unfolding row_from
row_over b e v p i n h = let z : n - i ≡ 0 = omega arith in rw z refl

pub row_all : (b : List ℕ) (e : Descriptor) (v : List ℕ) (p n : ℕ) → row_from b e v p 0 n ≡ row_from b e v p 0 (n - 0)
row_all b e v p n = let z : n - 0 ≡ n = omega arith in rw z refl
