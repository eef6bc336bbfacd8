-- A record: what is read at a place has the octets there, and what has them is read.
-- Assumes nothing.
use mathlib.Core.Bool.{true, ◌&&◌}
use mathlib.Core.List.{List, [], ◌∷◌, ◌++◌, map, append_assoc}
use mathlib.Core.Path.{◌≡◌, ap, ◌∙◌}
use Prim.Native.Nat.{ℕ, ◌+◌, ◌*◌, ◌≤◌}
use native.Mathlib.Omega.{arith}
use lib.Dec.{leb, eqb}
use lib.ListN.{length, drop, get_or, length-append, length-drop}
use borrow.Author.Tests.{leb-true, le-leb, eqb-true}
use Rattle.octets.proofs.Tests.{test}
use Rattle.octets.specs.Lists.{all, joined}
use Rattle.octets.specs.Numbers.{Octets}
use Rattle.octets.proofs.Lists.{both, behind, length_behind, at_part, at_first, drop_two}
use Rattle.table.specs.Syntax.{Record}
use Rattle.table.specs.Octets.{kind, tag_octets, own_octets, record_octets, body_shaped, record_shaped}
use Rattle.table.specs.Reading.{every_at, body_at, own_at, record_at, own_end, record_end}
use Rattle.table.proofs.Pieces.{length_tags, tags_back, tags_only, classes, length_tagged}
use Rattle.table.proofs.Own.{Own, own_back, own_only}

-- what the tests before the own part tell
pub record Headed (b : List ℕ) (o : ℕ) : Type 0 where
  pub first : get_or b o 0 ≡ 0x54
  pub second : get_or b (o + 1) 0 ≡ 0x59
  pub few : get_or b (o + 3) 0 ≤ 4
  pub fits : own_at b o ≤ length b
  pub classed : all (λ x. leb x 3) (every_at 3 b (o + 4) (get_or b (o + 3) 0)) ≡ true
  pub end : record_end b o ≡ own_end b (get_or b (o + 2) 0) (own_at b o)

pub headed : (b : List ℕ) (o : ℕ) → (record_end b o ≡ 0 → ⊥) → Headed b o
unfolding record_end
headed b o h =
    test (leb (o + 4) (length b)) (λ e₁.
    test (eqb (get_or b o 0) 0x54) (λ e₂.
    test (eqb (get_or b (o + 1) 0) 0x59) (λ e₃.
    test (leb (get_or b (o + 3) 0) 4) (λ e₄.
    test (leb (own_at b o) (length b)) (λ e₅.
    test (all (λ x. leb x 3) (every_at 3 b (o + 4) (get_or b (o + 3) 0))) (λ e₆.
    record {
      first = eqb-true _ _ e₂;
      second = eqb-true _ _ e₃;
      few = leb-true _ _ e₄;
      fits = leb-true _ _ e₅;
      classed = e₆;
      end = rw (e₁, e₂, e₃, e₄, e₅, e₆);
    })
    λ e. absurd (h (rw (e₁, e₂, e₃, e₄, e₅, e))))
    λ e. absurd (h (rw (e₁, e₂, e₃, e₄, e))))
    λ e. absurd (h (rw (e₁, e₂, e₃, e))))
    λ e. absurd (h (rw (e₁, e₂, e))))
    λ e. absurd (h (rw (e₁, e))))
    λ e. absurd (h (rw e))

-- a record stands from o on, up to where it ends
pub record Back (b : List ℕ) (o : ℕ) : Type 0 where
  pub is : drop o b ≡ record_octets (record_at b o) ++ drop (record_end b o) b
  pub shaped : record_shaped (record_at b o) ≡ true
  pub more : o + 4 ≤ record_end b o
  pub within : record_end b o ≤ length b
  pub size : record_end b o ≡ o + length (record_octets (record_at b o))

four : (b : List ℕ) (o : ℕ) → o + 4 ≤ length b → drop o b ≡ get_or b o 0 ∷ get_or b (o + 1) 0 ∷ get_or b (o + 2) 0 ∷ get_or b (o + 3) 0 ∷ drop (o + 4) b
four b o h =
    let p : o + 2 + 1 ≡ o + 3 = omega arith in
    let q : o + 2 + 2 ≡ o + 4 = omega arith in
    drop_two b o (omega arith) ∙ rw (drop_two b (o + 2) (omega arith), p, q)

size_of : (b : List ℕ) (o e : ℕ) (x : List ℕ) → o ≤ e → e ≤ length b → drop o b ≡ x ++ drop e b → e ≡ o + length x
size_of b o e x h l i = let k = simp (length-drop, length-append) at (ap length i) in omega arith

pub record_back : (b : List ℕ) (o : ℕ) → Octets b → (record_end b o ≡ 0 → ⊥) → Back b o
unfolding record_at record_octets record_shaped
record_back b o s h =
    let c = headed b o h in
    let n = get_or b (o + 3) 0 in
    let w : Own b (get_or b (o + 2) 0) (own_at b o) (record_end b o) (body_at b (get_or b (o + 2) 0) (own_at b o)) =
    rw c.end (own_back b s (own_at b o) c.fits (get_or b (o + 2) 0) (rw c.end at h)) in
    let i : drop o b ≡ record_octets (record_at b o) ++ drop (record_end b o) b =
    four b o (omega arith) ∙ rw (
      w.named,
      length_tags b (o + 4) n,
      c.first,
      c.second,
      append_assoc,
      ← w.is,
      ← tags_back b s (o + 4) n c.fits,
    ) in
    record {
      is = i;
      shaped = rw (length_tags b (o + 4) n, le-leb n 4 c.few, ← classes b (o + 4) n, c.classed) w.shaped;
      more = omega arith;
      within = w.within;
      size = size_of b o (record_end b o) (record_octets (record_at b o)) (omega arith) w.within i;
    }

-- the limits that a shaped record keeps
pub record Limits (r : Record) : Type 0 where
  pub few : length r.tags ≤ 4
  pub classed : all (λ g. leb g.class 3) r.tags ≡ true
  pub shaped : body_shaped r.body ≡ true

pub limits : (r : Record) → record_shaped r ≡ true → Limits r
unfolding record_shaped
limits r e =
    let s = both (leb (length r.tags) 4 && all (λ g. leb g.class 3) r.tags) (body_shaped r.body) e in
    let t = both (leb (length r.tags) 4) (all (λ g. leb g.class 3) r.tags) s.0 in
    record { few = leb-true _ _ t.0; classed = t.1; shaped = s.1 }

-- a record whose octets stand at o is read there
pub record_only : (b : List ℕ) (o : ℕ) (r : Record) (u : List ℕ) → o ≤ length b → drop o b ≡ record_octets r ++ u → record_shaped r ≡ true
    → (record_at b o ≡ r) × (record_end b o ≡ o + length (record_octets r))
unfolding record_at record_end record_octets
record_only b o r u l e s =
    let c = limits r s in
    let n = length r.tags in
    let w = length_behind b o (record_octets r) u l e in
    let z = length-append (joined (map tag_octets r.tags)) (own_octets r.body) in
    let y = length_tagged r.tags in
    let i = behind b o (0x54 ∷ 0x59 ∷ kind r.body ∷ n ∷ []) _ e ∙ append_assoc (joined (map tag_octets r.tags)) (own_octets r.body) u in
    let t = tags_only b (o + 4) r.tags (own_octets r.body ++ u) i in
    let x = own_only b (o + 4 + 3 * n) r.body u (omega arith)
    (rw y at (behind b (o + 4) (joined (map tag_octets r.tags)) (own_octets r.body ++ u) i)) c.shaped in
    let f₀ = at_first b o 0 _ _ e in
    let f₁ = at_part b o 1 0 _ e in
    let f₂ = at_part b o 2 0 _ e in
    let f₃ = at_part b o 3 0 _ e in (
      rw (f₂, f₃, t, x.body),
      rw (
        f₀,
        f₁,
        f₂,
        f₃,
        le-leb (o + 4) (length b) (omega arith),
        le-leb n 4 c.few,
        le-leb (o + 4 + 3 * n) (length b) (omega arith),
        classes b (o + 4) n,
        t,
        c.classed,
        x.end,
      )
          (omega arith),
    )

-- a record has at least four octets
pub record_size : (r : Record) → 4 ≤ length (record_octets r)
unfolding record_octets
record_size r = omega arith
