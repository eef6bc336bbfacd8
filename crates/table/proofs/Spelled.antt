-- Octets that spell records, or are misshapen: the scan finds it so, in one way alone.
-- Assumes nothing.
use mathlib.Core.Bool.{true, false, false≢true}
use mathlib.Core.List.{List, [], ◌∷◌, ◌++◌, map, append_assoc, append-nil}
use mathlib.Core.Path.{◌≡◌, refl, sym, ap, ◌∙◌}
use Prim.Native.Nat.{ℕ, zero, suc, ◌+◌, ◌≤◌, ◌<◌}
use native.Mathlib.Omega.{arith}
use lib.Dec.{leb, eqb}
use lib.ListN.{length, drop, length-append, length-drop}
use borrow.Author.Tests.{leb-true, leb-false, eqb-true, eqb-false, eq-eqb, ne_eqb}
use Rattle.octets.proofs.Tests.{test}
use Rattle.octets.specs.Lists.{all, joined}
use Rattle.octets.specs.Numbers.{Octets}
use Rattle.octets.proofs.Lists.{both, behind, length_behind}
use Rattle.table.specs.Syntax.{Record, table}
use Rattle.table.specs.Octets.{record_octets, record_shaped, Spells, Misshapen, over_long, no_record, too_many}
use Rattle.table.specs.Reading.{record_at, record_end, scan_from, scan, look}
use Rattle.table.proofs.Reading.{record_back, record_only, record_size}
use Rattle.table.proofs.Scan.{scan_spells}

-- one record at o, and what stands behind it
step_more : (b : List ℕ) (k : ℕ) (os : List ℕ) (o : ℕ) (r : Record) (w : List ℕ) → o ≤ length b → drop o b ≡ record_octets r ++ w
    → record_shaped r ≡ true → 1 ≤ length w → scan_from b (suc k) os o ≡ scan_from b k (os ++ (o ∷ [])) (o + length (record_octets r))
unfolding scan_from
step_more b k os o r w l e s h =
    let y = simp (length-drop, length-append) at (ap length e) in
    let z = record_size r in
    rw (
      (record_only b o r w l e s).1,
      ne_eqb (o + length (record_octets r)) 0 (omega arith),
      ne_eqb (o + length (record_octets r)) (length b) (omega arith),
    )

step_last : (b : List ℕ) (k : ℕ) (os : List ℕ) (o : ℕ) (r : Record) → o ≤ length b → drop o b ≡ record_octets r ++ [] → record_shaped r ≡ true
    → scan_from b (suc k) os o ≡ record { whole = true; offsets = os ++ (o ∷ []) }
unfolding scan_from
step_last b k os o r l e s =
    let y = simp (length-drop, append-nil) at (ap length e) in
    let z = record_size r in
    rw (
      (record_only b o r [] l e s).1,
      ne_eqb (o + length (record_octets r)) 0 (omega arith),
      eq-eqb (o + length (record_octets r)) (length b) (omega arith),
    )

spells_from : (b : List ℕ) (rs : List Record) (k : ℕ) (os : List ℕ) (o : ℕ) → o ≤ length b → drop o b ≡ joined (map record_octets rs)
    → all record_shaped rs ≡ true → 1 ≤ length rs → length rs ≤ k
    → ((scan_from b k os o).whole ≡ true) × (length (scan_from b k os o).offsets ≡ length os + length rs)
unfolding joined all
spells_from b [] k os o l e s i h = absurd (omega arith)
spells_from b (r ∷ rs) zero os o l e s i h = absurd (omega arith)
spells_from b (r ∷ []) (suc k) os o l e s i h = rw (step_last b k os o r l e (both (record_shaped r) _ s).0) (refl, length-append os (o ∷ []))
spells_from b (r ∷ q ∷ rs) (suc k) os o l e s i h =
    let z = record_size q in
    let y = length-append (record_octets q) (joined (map record_octets rs)) in
    let t = both (record_shaped r) _ s in
    let x = spells_from b (q ∷ rs) k (os ++ (o ∷ [])) (o + length (record_octets r)) (length_behind b o (record_octets r) _ l e)
    (behind b o (record_octets r) _ e) t.1 (omega arith) (omega arith) in
    rw (step_more b k os o r _ l e t.0 (omega arith)) (x.0, x.1 ∙ rw length-append (omega arith))

unique_from : (b : List ℕ) (rs rs' : List Record) (o : ℕ) → o ≤ length b → drop o b ≡ joined (map record_octets rs)
    → drop o b ≡ joined (map record_octets rs') → all record_shaped rs ≡ true → all record_shaped rs' ≡ true → rs ≡ rs'
unfolding joined all
unique_from b [] [] o l e e' s s' = refl
unique_from b [] (r ∷ rs) o l e e' s s' =
    let z = record_size r in
    let y = simp length-append at (ap length (sym e ∙ e')) in
    absurd (omega arith)
unique_from b (r ∷ rs) [] o l e e' s s' =
    let z = record_size r in
    let y = simp length-append at (ap length (sym e' ∙ e)) in
    absurd (omega arith)
unique_from b (r ∷ rs) (q ∷ qs) o l e e' s s' =
    let t = both (record_shaped r) _ s in
    let t' = both (record_shaped q) _ s' in
    let x = record_only b o r _ l e t.0 in
    let x' = record_only b o q _ l e' t'.0 in
    let i : o + length (record_octets r) ≡ o + length (record_octets q) = omega arith in
    let j = unique_from b rs qs (o + length (record_octets r)) (length_behind b o (record_octets r) _ l e)
    (behind b o (record_octets r) _ e) (rw i (behind b o (record_octets q) _ e')) t.1 t'.1 in
    rw (← x.0, x'.0, j)

-- octets spell one list of records
pub unique : {b : List ℕ} {rs rs' : List Record} → Spells b rs → Spells b rs' → rs ≡ rs'
unique {b} {rs} {rs'} x y = unique_from b rs rs' 0 (omega arith) x.is y.is x.shaped y.shaped

pub spells_scan : {b : List ℕ} {rs : List Record} → Spells b rs → ((scan b).whole ≡ true) × (length (scan b).offsets ≡ length rs)
unfolding scan
spells_scan {b} {rs} x =
    let y = spells_from b rs 128 [] 0 (omega arith) x.is x.shaped x.some x.few in
    (y.0, y.1 ∙ (omega arith))

-- they are the records that the scan finds
pub spells_looks : {b : List ℕ} {rs : List Record} → Octets b → Spells b rs → (t : ℕ) → look b (scan b).offsets t ≡ table rs t
spells_looks {b} octets x t =
    let f = scan_spells b octets x.short (spells_scan x).0 in
    rw (unique x f.spells) (f.looks t)

-- the records before one that is not shaped, or before one too many
stops_from : (b : List ℕ) (rs : List Record) (w : List ℕ) (k : ℕ) (os : List ℕ) (o : ℕ) → o ≤ length b
    → drop o b ≡ joined (map record_octets rs) ++ w → all record_shaped rs ≡ true → length rs ≤ k → (1 ≤ length rs → 1 ≤ length w)
    → (length rs < k → (p : ℕ) → drop p b ≡ w → record_end b p ≡ 0)
    → ((scan_from b k os o).whole ≡ false) × (length (scan_from b k os o).offsets ≡ length os + length rs)
unfolding joined all scan_from
stops_from b [] w zero os o l e s h i n = (refl, omega arith)
stops_from b [] w (suc k) os o l e s h i n = rw (n (omega arith) o e) (refl, omega arith)
stops_from b (r ∷ rs) w zero os o l e s h i n = absurd (omega arith)
stops_from b (r ∷ rs) w (suc k) os o l e s h i n =
    let t = both (record_shaped r) _ s in
    let e' = e ∙ append_assoc (record_octets r) (joined (map record_octets rs)) w in
    let y = length-append (joined (map record_octets rs)) w in
    let i' = i (omega arith) in
    let x = stops_from b rs w k (os ++ (o ∷ [])) (o + length (record_octets r)) (length_behind b o (record_octets r) _ l e')
    (behind b o (record_octets r) _ e') t.1 (omega arith) (λ z. i') (λ z. n (omega arith)) in
    rw (step_more b k os o r _ l e' t.0 (omega arith)) (x.0, x.1 ∙ rw length-append (omega arith))

length_some : (w : List ℕ) → (w ≡ [] → ⊥) → 1 ≤ length w
length_some [] h = absurd (h refl)
length_some (x ∷ w) h = omega arith

no_record_at : (b : List ℕ) → Octets b → (w : List ℕ) → ((r : Record) (u : List ℕ) → record_shaped r ≡ true → w ≡ record_octets r ++ u → ⊥)
    → (p : ℕ) → drop p b ≡ w → record_end b p ≡ 0
no_record_at b octets w d p e =
    test (eqb (record_end b p) 0) (eqb-true _ _) λ t.
    let c = record_back b p octets (eqb-false _ _ t) in
    absurd (d (record_at b p) (drop (record_end b p) b) c.shaped (sym e ∙ c.is))

pub misshapen_scan : (b : List ℕ) (k : ℕ) → Octets b → length b ≤ 8192 → Misshapen b k → ((scan b).whole ≡ false) × (length (scan b).offsets ≡ k)
unfolding scan
misshapen_scan b k octets l (over_long h) = absurd (omega arith)
misshapen_scan b k octets l (no_record w s x f n d) =
    let c = x.count in
    let y = stops_from b x.records w 128 [] 0 (omega arith) x.is x.shaped (omega arith)
    (λ z. length_some w (λ q. let m = n q in omega arith)) (λ z. no_record_at b octets w d) in
    (y.0, y.1 ∙ (omega arith))
misshapen_scan b k octets l (too_many w s x d) =
    let y = stops_from b x.records w 128 [] 0 (omega arith) x.is x.shaped (omega arith) (λ z. length_some w d) (λ z. absurd (omega arith)) in
    (y.0, y.1 ∙ (omega arith))

-- no octets both spell records and are misshapen, and there is one place where they are

pub spells_not_misshapen : {b : List ℕ} {rs : List Record} {k : ℕ} → Octets b → Spells b rs → Misshapen b k → ⊥
spells_not_misshapen {b} {rs} {k} octets x m = false≢true (sym (misshapen_scan b k octets x.short m).0 ∙ (spells_scan x).0)

long_first : (b : List ℕ) (k : ℕ) → 8192 < length b → Misshapen b k → k ≡ 0
long_first b k l (over_long h) = refl
long_first b k l (no_record w s x f n d) = absurd (omega arith)
long_first b k l (too_many w s x d) = absurd (omega arith)

pub misshapen_unique : {b : List ℕ} {k k' : ℕ} → Octets b → Misshapen b k → Misshapen b k' → k ≡ k'
misshapen_unique {b} {k} {k'} octets m m' =
    test (leb (length b) 8192)
    (λ e. let l = leb-true (length b) 8192 e in sym (misshapen_scan b k octets l m).1 ∙ (misshapen_scan b k' octets l m').1)
    λ e. let l = leb-false (length b) 8192 e in long_first b k l m ∙ sym (long_first b k' l m')
