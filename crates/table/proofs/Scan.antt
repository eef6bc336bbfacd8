-- All records of a table: what a scan finds, whole or not.
-- Assumes nothing.
use mathlib.Core.Bool.{Bool, true, false, false≢true}
use mathlib.Core.List.{List, [], ◌∷◌, ◌++◌, map, append_assoc, append-nil}
use mathlib.Core.Path.{◌≡◌, refl, sym, ap, ◌∙◌}
use Prim.Native.Nat.{ℕ, zero, suc, ◌≤◌, ◌<◌}
use native.Mathlib.Omega.{arith}
use lib.Dec.{eqb}
use lib.ListN.{length, drop, get_or, length-drop, get_or-eq_default}
use lib.Seq.{drop-length}
use borrow.Author.Tests.{eqb-true, eqb-false}
use Rattle.octets.proofs.Tests.{test}
use Rattle.octets.specs.Lists.{all, joined}
use Rattle.octets.specs.Numbers.{Octets}
use Rattle.octets.proofs.Lists.{both}
use Rattle.table.specs.Syntax.{Record, absent, table}
use Rattle.table.specs.Octets.{record_octets, record_shaped, Spells, Begins, Misshapen, no_record, too_many}
use Rattle.table.specs.Reading.{tags_at, every_at, body_at, record_at, record_end, Scan, scan_from, scan, look}
use Rattle.table.proofs.Reading.{Back, record_back, record_only, record_size}

-- behind all octets a record is absent
pub absent_at : (b : List ℕ) → length b ≤ 8192 → record_at b 65535 ≡ absent
unfolding record_at body_at tags_at every_at
absent_at b h =
    rw (
      get_or-eq_default b 0 {n = 65538} (omega arith),
      get_or-eq_default b 0 {n = 65537} (omega arith),
      get_or-eq_default b 0 {n = 65539} (omega arith),
    )

looks_cons : (b : List ℕ) (o : ℕ) (ps : List ℕ) (rs : List Record) → ((t : ℕ) → record_at b (get_or ps t 65535) ≡ table rs t)
    → (t : ℕ) → record_at b (get_or (o ∷ ps) t 65535) ≡ table (record_at b o ∷ rs) t
unfolding table
looks_cons b o ps rs h zero = refl
looks_cons b o ps rs h (suc t) = h t

low_cons : (m o : ℕ) (ps : List ℕ) → o < m → ((t : ℕ) → t < length ps → get_or ps t 65535 < m)
    → (t : ℕ) → t < length (o ∷ ps) → get_or (o ∷ ps) t 65535 < m
low_cons m o ps l h zero i = l
low_cons m o ps l h (suc t) i = h t (omega arith)

pub all_table : (f : Record → Bool) (rs : List Record) → all f rs ≡ true → (t : ℕ) → t < length rs → f (table rs t) ≡ true
unfolding all table
all_table f [] e t h = absurd (omega arith)
all_table f (r ∷ rs) e zero h = (both (f r) _ e).0
all_table f (r ∷ rs) e (suc t) h = all_table f rs (both (f r) _ e).1 t (omega arith)

pub table_beyond : (rs : List Record) (t : ℕ) → length rs ≤ t → table rs t ≡ absent
unfolding table
table_beyond [] t h = refl
table_beyond (r ∷ rs) zero h = absurd (omega arith)
table_beyond (r ∷ rs) (suc t) h = table_beyond rs t (omega arith)

-- what a scan from o with room for k more records tells
record Scanned (b : List ℕ) (k : ℕ) (os : List ℕ) (o : ℕ) (s : Scan) : Type 0 where
  places : List ℕ
  records : List Record
  end : ℕ
  offsets : s.offsets ≡ os ++ places
  as_many : length records ≡ length places
  few : length places ≤ k
  is : drop o b ≡ joined (map record_octets records) ++ drop end b
  shaped : all record_shaped records ≡ true
  looks : (t : ℕ) → record_at b (get_or places t 65535) ≡ table records t
  low : (t : ℕ) → t < length places → get_or places t 65535 < length b
  within : end ≤ length b
  yes : s.whole ≡ true → end ≡ length b
  no : s.whole ≡ false → (end ≡ length b → (length places ≡ 0) × (o ≡ length b)) × (length places < k → record_end b end ≡ 0)

module _ (b : List ℕ) (octets : Octets b) (short : length b ≤ 8192) where
  stop : (k : ℕ) (os : List ℕ) (o : ℕ) (w : Bool) → o ≤ length b → (w ≡ true → o ≡ length b) → (w ≡ false → 0 < k → record_end b o ≡ 0)
      → Scanned b k os o (record { whole = w; offsets = os })
  unfolding joined all table
  stop k os o w l y n = record {
    places = [];
    records = [];
    end = o;
    offsets = sym (append-nil os);
    as_many = refl;
    few = omega arith;
    is = refl;
    shaped = refl;
    looks = λ t. absent_at b short;
    low = λ t i. absurd (omega arith);
    within = l;
    yes = y;
    no = λ e. (λ i. (refl, i), n e);
  }

  more : (k : ℕ) (os : List ℕ) (o : ℕ) (s : Scan) → Back b o → (s.whole ≡ false → record_end b o ≡ length b → ⊥)
      → Scanned b k (os ++ (o ∷ [])) (record_end b o) s → Scanned b (suc k) os o s
  unfolding joined all
  more k os o s c d x = record {
    places = o ∷ x.places;
    records = record_at b o ∷ x.records;
    end = x.end;
    offsets = x.offsets ∙ append_assoc os (o ∷ []) x.places;
    as_many = ap suc x.as_many;
    few = omega arith;
    is = c.is ∙ rw (x.is, append_assoc);
    shaped = rw c.shaped x.shaped;
    looks = looks_cons b o x.places x.records x.looks;
    low = low_cons (length b) o x.places (omega arith) x.low;
    within = x.within;
    yes = x.yes;
    no = λ e. (λ i. absurd (d e ((x.no e).0 i).1), λ i. (x.no e).1 (omega arith));
  }

  next : (k : ℕ) (os : List ℕ) (o : ℕ) → o ≤ length b → ((ps : List ℕ) (p : ℕ) → p ≤ length b → Scanned b k ps p (scan_from b k ps p))
      → Scanned b (suc k) os o (scan_from b (suc k) os o)
  unfolding scan_from
  next k os o l h =
      test (eqb (record_end b o) 0) (λ e. rw e (stop (suc k) os o false l (λ x. absurd (false≢true x)) (λ x i. eqb-true _ _ e))) λ e₁.
      let c = record_back b o octets (eqb-false _ _ e₁) in
      test (eqb (record_end b o) (length b)) (λ e₂. rw (e₁, e₂)
      (more k os o _ c (λ x. absurd (false≢true (sym x)))
      (stop k _ (record_end b o) true c.within (λ x. eqb-true _ _ e₂) (λ x. absurd (false≢true (sym x))))))
      λ e₂. rw (e₁, e₂) (more k os o _ c (λ w. eqb-false _ _ e₂) (h (os ++ (o ∷ [])) (record_end b o) c.within))

  scanned : (k : ℕ) (os : List ℕ) (o : ℕ) → o ≤ length b → Scanned b k os o (scan_from b k os o)
  unfolding scan_from
  scanned zero os o l = stop zero os o false l (λ e. absurd (false≢true e)) (λ e i. absurd (omega arith))
  scanned (suc k) os o l = next k os o l (scanned k)

nothing : (b : List ℕ) → length b ≡ 0 → (scan b).whole ≡ false
unfolding scan scan_from record_end
nothing [] h = refl
nothing (x ∷ b) h = absurd (omega arith)

-- the records that a whole scan has found
pub record Found (b : List ℕ) : Type 0 where
  pub records : List Record
  pub spells : Spells b records
  pub count : length records ≡ length (scan b).offsets
  pub looks : (t : ℕ) → look b (scan b).offsets t ≡ table records t
  pub beyond : (t : ℕ) → length (scan b).offsets ≤ t → look b (scan b).offsets t ≡ absent
  pub low : (t : ℕ) → t < length (scan b).offsets → get_or (scan b).offsets t 65535 < 8192
  pub few : length (scan b).offsets ≤ 128
  pub some : 1 ≤ length (scan b).offsets
  pub shaped : (t : ℕ) → t < length (scan b).offsets → record_shaped (look b (scan b).offsets t) ≡ true

some_found : (b : List ℕ) (rs : List Record) → b ≡ joined (map record_octets rs) → (scan b).whole ≡ true → 1 ≤ length rs
unfolding joined
some_found b [] i e = absurd (false≢true (sym (nothing b (ap length i)) ∙ e))
some_found b (r ∷ rs) i e = omega arith

found : (b : List ℕ) → length b ≤ 8192 → (scan b).whole ≡ true → Scanned b 128 [] 0 (scan b) → Found b
unfolding look
found b short e x =
    let i : b ≡ joined (map record_octets x.records) = x.is ∙ rw (x.yes e, drop-length, append-nil) in
    let s = some_found b x.records i e in
    let n = x.as_many in
    let l : (t : ℕ) → look b (scan b).offsets t ≡ table x.records t = λ t. rw x.offsets (x.looks t) in
    record {
      records = x.records;
      spells = record { is = i; shaped = x.shaped; some = s; few = omega arith; short = short };
      count = rw x.offsets n;
      looks = l;
      beyond = λ t h. l t ∙ table_beyond x.records t (rw (x.offsets, ← n) at h);
      low = rw x.offsets (λ t h. let y = x.low t h in omega arith);
      few = rw x.offsets x.few;
      some = rw x.offsets (omega arith);
      shaped = λ t h. rw (l t) (all_table record_shaped x.records x.shaped t (rw (x.offsets, ← n) at h));
    }

pub scan_spells : (b : List ℕ) → Octets b → length b ≤ 8192 → (scan b).whole ≡ true → Found b
unfolding scan
scan_spells b octets short e = found b short e (scanned b octets short 128 [] 0 (omega arith))

all_dropped : (b : List ℕ) (p : ℕ) → p ≤ length b → drop p b ≡ [] → p ≡ length b
all_dropped b p l e = let k = rw length-drop at (ap length e) in omega arith

misshapen : (b : List ℕ) → length b ≤ 8192 → (scan b).whole ≡ false → Scanned b 128 [] 0 (scan b) → Misshapen b (length (scan b).offsets)
misshapen b short e x =
    let n = x.no e in
    let l = x.few in
    let w = drop x.end b in
    let nil : w ≡ [] → length x.places ≡ 0 = λ q. (n.0 (all_dropped b x.end x.within q)).0 in
    let begins : Begins b (length x.places) w = record { records = x.records; is = x.is; shaped = x.shaped; count = x.as_many } in
    rw x.offsets (test (eqb (length x.places) 128)
    (λ t. let q = eqb-true (length x.places) 128 t in rw q (too_many w short (rw q at begins) (λ z. let m = nil z in omega arith)))
    λ t. let q : length x.places < 128 = omega (arith, eqb-false) in
    no_record w short begins q nil (λ r u s i.
    let m = (record_only b x.end r u x.within i s).1 in
    let o = n.1 q in
    let z = record_size r in
    omega arith))

pub scan_misshapen : (b : List ℕ) → Octets b → length b ≤ 8192 → (scan b).whole ≡ false → Misshapen b (length (scan b).offsets)
unfolding scan
scan_misshapen b octets short e = misshapen b short e (scanned b octets short 128 [] 0 (omega arith))

-- a record number without a record stands for an absent one
pub look_beyond : (b os : List ℕ) (t : ℕ) → length b ≤ 8192 → length os ≤ t → look b os t ≡ absent
unfolding look
look_beyond b os t h l = rw (get_or-eq_default os 65535 {n = t} l) (absent_at b h)
