-- A kind's own part: what is read at a place has the octets there, and what has them is read.
-- Assumes nothing.
use mathlib.Core.Bool.{true, false}
use mathlib.Core.List.{List, [], ◌∷◌, ◌++◌, map}
use mathlib.Core.Path.{◌≡◌, refl, ap, ◌∙◌}
use Prim.Native.Nat.{ℕ, ◌+◌, ◌*◌, ◌≤◌}
use native.Mathlib.Omega.{arith}
use lib.Dec.{leb, eqb}
use lib.ListN.{length, drop, get_or}
use borrow.Author.Tests.{leb-true, leb-false, le-leb, lt-leb, eqb-false, ne_eqb}
use Rattle.octets.specs.Tests.{if}
use Rattle.octets.proofs.Tests.{test, at}
use Rattle.octets.specs.Lists.{all, joined}
use Rattle.octets.specs.Numbers.{Octets, octets_of}
use Rattle.octets.proofs.Lists.{both, behind, length_behind, at_first, drop_one}
use Rattle.dates.specs.declared.TimeKind.TheVariants.{Utc, Generalized}
use Rattle.table.specs.Syntax.{Member, Boolean, Integer, BitString, OctetString, Null, Enumerated, Time, Body, Plain, Sequence, Set, SequenceOf, SetOf, Choice}
use Rattle.table.specs.Octets.{kind, member_octets, own_octets, rising, body_shaped}
use Rattle.table.specs.Reading.{numbers_at, members_at, every_at, body_at, counted_end, enumerated_end, members_end, own_end}
use Rattle.table.proofs.Pieces.{length_numbers, length_members, length_every, numbers_back, members_back, every_back}
use Rattle.table.proofs.Pieces.{numbers_only, members_only, flags_only, every_only, length_numbered, length_membered}

-- the body x of kind k is what stands from p to e
pub record Own (b : List ℕ) (k p e : ℕ) (x : Body) : Type 0 where
  pub is : drop p b ≡ own_octets x ++ drop e b
  pub named : kind x ≡ k
  pub shaped : body_shaped x ≡ true
  pub more : p ≤ e
  pub within : e ≤ length b

pub record Counted (size least most : ℕ) (b : List ℕ) (p : ℕ) : Type 0 where
  pub low : least ≤ get_or b p 0
  pub high : get_or b p 0 ≤ most
  pub fits : p + 1 + size * get_or b p 0 ≤ length b
  pub end : counted_end size least most b p ≡ p + 1 + size * get_or b p 0

pub counted_back : (size least most : ℕ) (b : List ℕ) (p : ℕ) → (counted_end size least most b p ≡ 0 → ⊥) → Counted size least most b p
unfolding counted_end
counted_back size least most b p h =
    test (leb (length b) p) (λ e. absurd (h (rw e))) λ e₁.
    test (leb least (get_or b p 0)) (λ e₂.
    test (leb (get_or b p 0) most) (λ e₃.
    test (leb (p + 1 + size * get_or b p 0) (length b)) (λ e₄.
    record { low = leb-true _ _ e₂; high = leb-true _ _ e₃; fits = leb-true _ _ e₄; end = rw (e₁, e₂, e₃, e₄) })
    λ e. absurd (h (rw (e₁, e₂, e₃, e))))
    λ e. absurd (h (rw (e₁, e₂, e))))
    λ e. absurd (h (rw (e₁, e)))

counted_own : (b : List ℕ) (k p e : ℕ) (x : Body) (n : ℕ) (xs : List ℕ) → own_octets x ≡ n ∷ xs → n ≡ get_or b p 0 → kind x ≡ k → body_shaped x ≡ true
    → drop (p + 1) b ≡ xs ++ drop e b → p + 1 ≤ e → e ≤ length b → Own b k p e x
counted_own b k p e x c xs o d n s h m w =
    record { is = drop_one b p (omega arith) ∙ rw (o, d, h); named = n; shaped = s; more = omega arith; within = w }

enumerated_back : (b : List ℕ) → Octets b → (p : ℕ) → (enumerated_end b p ≡ 0 → ⊥)
    → Own b 10 p (enumerated_end b p) (Plain (Enumerated (numbers_at b (p + 1) (get_or b p 0))))
unfolding enumerated_end own_octets kind body_shaped
enumerated_back b o p h =
    test (eqb (counted_end 2 1 32 b p) 0) (λ e. absurd (h (rw e))) λ e₁.
    test (rising 0 (numbers_at b (p + 1) (get_or b p 0))) (λ e₂.
    let c = counted_back 2 1 32 b p (eqb-false _ _ e₁) in
    rw (e₁, e₂, c.end)
    (counted_own b 10 p _ _ _ _ refl (length_numbers b (p + 1) _) refl (rw (length_numbers, le-leb _ _ c.low, le-leb _ _ c.high, e₂))
    (numbers_back b o (p + 1) (get_or b p 0) c.fits) (omega arith) c.fits))
    λ e. absurd (h (rw (e₁, e)))

members_own : (b : List ℕ) (f : List Member → Body) (k p : ℕ) → ((ms : List Member) → own_octets (f ms) ≡ length ms ∷ joined (map member_octets ms))
    → ((ms : List Member) → kind (f ms) ≡ k) → ((ms : List Member) → body_shaped (f ms) ≡ leb (length ms) 16)
    → (members_end b p ≡ 0 → ⊥) → Own b k p (members_end b p) (f (members_at b (p + 1) (get_or b p 0)))
unfolding members_end
members_own b f k p o n s h =
    test (eqb (counted_end 2 0 16 b p) 0) (λ e. absurd (h (rw e))) λ e₁.
    test (all (λ x. leb x 1) (every_at 2 b (p + 2) (get_or b p 0))) (λ e₂.
    let c = counted_back 2 0 16 b p (eqb-false _ _ e₁) in
    let q : p + 2 ≡ p + 1 + 1 = omega arith in
    rw (e₁, e₂, c.end)
    (counted_own b k p _ _ _ _ (o _) (length_members b (p + 1) _) (n _) (s _ ∙ rw (length_members, le-leb _ _ c.high))
    (members_back b (p + 1) (get_or b p 0) c.fits (rw q at e₂)) (omega arith) c.fits))
    λ e. absurd (h (rw (e₁, e)))

choice_back : (b : List ℕ) (p : ℕ) → (counted_end 1 1 16 b p ≡ 0 → ⊥) → Own b 50 p (counted_end 1 1 16 b p) (Choice (every_at 1 b (p + 1) (get_or b p 0)))
unfolding own_octets kind body_shaped
choice_back b p h =
    let c = counted_back 1 1 16 b p h in
    rw c.end
    (counted_own b 50 p _ _ _ _ refl (length_every 1 b (p + 1) _) refl (rw (length_every, le-leb _ _ c.low, le-leb _ _ c.high))
    (every_back b (p + 1) (get_or b p 0) c.fits) (omega arith) c.fits)

one_own : (b : List ℕ) (x : Body) (k p : ℕ) → own_octets x ≡ get_or b p 0 ∷ [] → kind x ≡ k → body_shaped x ≡ true
    → (if (leb (length b) p) 0 (λ _. p + 1) ≡ 0 → ⊥) → Own b k p (if (leb (length b) p) 0 (λ _. p + 1)) x
one_own b x k p o n s h =
    test (leb (length b) p) (λ e. absurd (h (rw e))) λ e.
    let l = leb-false (length b) p e in
    rw e (counted_own b k p (p + 1) x _ [] o refl n s refl (omega arith) (omega arith))

plain_own : (b : List ℕ) (x : Body) (k p : ℕ) → p ≤ length b → own_octets x ≡ [] → kind x ≡ k → body_shaped x ≡ true → Own b k p p x
plain_own b x k p l o n s = record { is = rw o; named = n; shaped = s; more = omega arith; within = l }

abbrev OwnAt : List ℕ → ℕ → ℕ → Type 0
OwnAt b p k = (own_end b k p ≡ 0 → ⊥) → Own b k p (own_end b k p) (body_at b k p)

pub above_five : (k : ℕ) → eqb k 0 ≡ false → eqb k 1 ≡ false → eqb k 2 ≡ false → eqb k 3 ≡ false → eqb k 4 ≡ false → eqb k 5 ≡ false
    → leb k 5 ≡ false
above_five k e₀ e₁ e₂ e₃ e₄ e₅ = lt-leb k 5 (omega (arith, eqb-false))

pub own_back : (b : List ℕ) → Octets b → (p : ℕ) → p ≤ length b → (k : ℕ) → OwnAt b p k
unfolding own_end body_at own_octets kind body_shaped
own_back b o p l k =
    at k 1 (OwnAt b p) (λ h. plain_own b (Plain Boolean) 1 p l refl refl refl) λ e₁.
    at k 2 (OwnAt b p) (λ h. plain_own b (Plain Integer) 2 p l refl refl refl) λ e₂.
    at k 3 (OwnAt b p) (λ h. plain_own b (Plain BitString) 3 p l refl refl refl) λ e₃.
    at k 4 (OwnAt b p) (λ h. plain_own b (Plain OctetString) 4 p l refl refl refl) λ e₄.
    at k 5 (OwnAt b p) (λ h. plain_own b (Plain Null) 5 p l refl refl refl) λ e₅.
    at k 10 (OwnAt b p) (enumerated_back b o p) λ e₁₀.
    at k 23 (OwnAt b p) (λ h. plain_own b (Plain (Time Utc)) 23 p l refl refl refl) λ e₂₃.
    at k 24 (OwnAt b p) (λ h. plain_own b (Plain (Time Generalized)) 24 p l refl refl refl) λ e₂₄.
    at k 16 (OwnAt b p) (members_own b (λ ms. Sequence ms) 16 p (λ ms. refl) (λ ms. refl) (λ ms. refl)) λ e₁₆.
    at k 17 (OwnAt b p) (members_own b (λ ms. Set ms) 17 p (λ ms. refl) (λ ms. refl) (λ ms. refl)) λ e₁₇.
    at k 48 (OwnAt b p) (one_own b (SequenceOf (get_or b p 0)) 48 p refl refl refl) λ e₄₈.
    at k 49 (OwnAt b p) (one_own b (SetOf (get_or b p 0)) 49 p refl refl refl) λ e₄₉.
    at k 50 (OwnAt b p) (choice_back b p) λ e₅₀.
    λ h. absurd (h (test (eqb k 0) (λ z. rw z) λ z. rw (z, above_five k z e₁ e₂ e₃ e₄ e₅, e₁₀, e₂₃, e₂₄, e₁₆, e₁₇, e₄₈, e₄₉, e₅₀)))

record Found (size least most : ℕ) (b : List ℕ) (p n : ℕ) : Type 0 where
  count : get_or b p 0 ≡ n
  end : counted_end size least most b p ≡ p + 1 + size * n

counted_only : (size least most : ℕ) (b : List ℕ) (p n : ℕ) (xs u : List ℕ) → p ≤ length b → drop p b ≡ (n ∷ xs) ++ u
    → length xs ≡ size * n → least ≤ n → n ≤ most → Found size least most b p n
unfolding counted_end
counted_only size least most b p n xs u l e z low high =
    let w = length_behind b p (n ∷ xs) u l e in
    record {
      count = at_first b p 0 _ _ e;
      end =
          rw (at_first b p 0 _ _ e, lt-leb (length b) p (omega arith), le-leb least n low, le-leb n most high, le-leb (p + 1 + size * n) (length b) (omega arith));
    }

-- the body x is read at p, up to its end
pub record Read (b : List ℕ) (p : ℕ) (x : Body) : Type 0 where
  pub body : body_at b (kind x) p ≡ x
  pub end : own_end b (kind x) p ≡ p + length (own_octets x)

members_read : (b : List ℕ) (p : ℕ) (ms : List Member) (u : List ℕ) → p ≤ length b → drop p b ≡ (length ms ∷ joined (map member_octets ms)) ++ u
    → leb (length ms) 16 ≡ true → (members_at b (p + 1) (get_or b p 0) ≡ ms) × (members_end b p ≡ p + length (length ms ∷ joined (map member_octets ms)))
unfolding members_end
members_read b p ms u l e s =
    let c = counted_only 2 0 16 b p (length ms) (joined (map member_octets ms)) u l e (length_membered ms) (omega arith) (leb-true _ _ s) in
    let t = behind b p (length ms ∷ []) _ e in
    let q : p + 2 ≡ p + 1 + 1 = omega arith in (
      rw c.count (members_only b (p + 1) ms u t),
      rw (c.end, ne_eqb (p + 1 + 2 * length ms) 0 (omega arith), c.count, q, flags_only b (p + 1) ms u t, length_membered ms) (omega arith),
    )

enumerated_read : (b : List ℕ) (p : ℕ) (ns : List ℕ) (u : List ℕ) → p ≤ length b → drop p b ≡ (length ns ∷ joined (map octets_of ns)) ++ u
    → body_shaped (Plain (Enumerated ns)) ≡ true
    → (numbers_at b (p + 1) (get_or b p 0) ≡ ns) × (enumerated_end b p ≡ p + length (length ns ∷ joined (map octets_of ns)))
unfolding enumerated_end body_shaped
enumerated_read b p ns u l e s =
    let s₁ = both _ _ s in
    let s₂ = both _ _ s₁.0 in
    let c = counted_only 2 1 32 b p (length ns) (joined (map octets_of ns)) u l e (length_numbered ns) (leb-true _ _ s₂.0) (leb-true _ _ s₂.1) in
    let t = numbers_only b (p + 1) ns u (behind b p (length ns ∷ []) _ e) in (
      rw c.count t,
      rw (c.end, ne_eqb (p + 1 + 2 * length ns) 0 (omega arith), c.count, t, s₁.1, length_numbered ns) (omega arith),
    )

choice_read : (b : List ℕ) (p : ℕ) (ts : List ℕ) (u : List ℕ) → p ≤ length b → drop p b ≡ (length ts ∷ ts) ++ u → body_shaped (Choice ts) ≡ true
    → (every_at 1 b (p + 1) (get_or b p 0) ≡ ts) × (counted_end 1 1 16 b p ≡ p + length (length ts ∷ ts))
unfolding body_shaped
choice_read b p ts u l e s =
    let s₁ = both _ _ s in
    let c = counted_only 1 1 16 b p (length ts) ts u l e (omega arith) (leb-true _ _ s₁.0) (leb-true _ _ s₁.1) in
    (rw c.count (every_only b (p + 1) ts u (behind b p (length ts ∷ []) _ e)), rw c.end (omega arith))

pub own_only : (b : List ℕ) (p : ℕ) (x : Body) (u : List ℕ) → p ≤ length b → drop p b ≡ own_octets x ++ u → body_shaped x ≡ true → Read b p x
unfolding own_octets kind body_at own_end body_shaped
own_only b p (Plain Boolean) u l e s = record { body = refl; end = omega arith }
own_only b p (Plain Integer) u l e s = record { body = refl; end = omega arith }
own_only b p (Plain BitString) u l e s = record { body = refl; end = omega arith }
own_only b p (Plain OctetString) u l e s = record { body = refl; end = omega arith }
own_only b p (Plain Null) u l e s = record { body = refl; end = omega arith }
own_only b p (Plain (Enumerated ns)) u l e s = let r = enumerated_read b p ns u l e s in record { body = ap (λ l. Plain (Enumerated l)) r.0; end = r.1 }
own_only b p (Plain (Time Utc)) u l e s = record { body = refl; end = omega arith }
own_only b p (Plain (Time Generalized)) u l e s = record { body = refl; end = omega arith }
own_only b p (Sequence ms) u l e s = let r = members_read b p ms u l e s in record { body = ap (λ l. Sequence l) r.0; end = r.1 }
own_only b p (Set ms) u l e s = let r = members_read b p ms u l e s in record { body = ap (λ l. Set l) r.0; end = r.1 }
own_only b p (SequenceOf t) u l e s =
    let w = length_behind b p (t ∷ []) u l e in
    record { body = ap (λ n. SequenceOf n) (at_first b p 0 t u e); end = rw (lt-leb (length b) p (omega arith)) }
own_only b p (SetOf t) u l e s =
    let w = length_behind b p (t ∷ []) u l e in
    record { body = ap (λ n. SetOf n) (at_first b p 0 t u e); end = rw (lt-leb (length b) p (omega arith)) }
own_only b p (Choice ts) u l e s = let r = choice_read b p ts u l e s in record { body = ap (λ l. Choice l) r.0; end = r.1 }
