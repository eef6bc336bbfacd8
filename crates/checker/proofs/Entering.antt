-- The index of a table's records, one number a record, as it is filled.
-- Assumes nothing.
use mathlib.Core.Bool.{true, false}
use mathlib.Core.List.{List, [], ◌∷◌, ◌++◌, map, map-append, append_assoc}
use mathlib.Core.Path.{◌≡◌, refl, ap, ◌∙◌}
use Rattle.std.specs.Prelude.{Result, Ok, Err}
use Prim.Native.Nat.{ℕ, suc, ◌+◌, ◌-◌, ◌≤◌, ◌<◌}
use native.Mathlib.Omega.{arith}
use lib.ListN.{length, set, replicate, length-set, length-append, length-map}
use lib.Seq.{set_at}
use borrow.Author.Tests.{eq-eqb, ne_eqb}
use Rattle.octets.specs.Numbers.{Octets}
use Rattle.table.specs.Reading.{record_end, scan_from, scan}
use Rattle.table.specs.declared.CheckCause.TheVariants.{TableShape}
use Rattle.table.specs.declared.Flaw.{Flaw}
use Rattle.table.proofs.Reading.{record_back}
use Rattle.checker.specs.Index.{number_at, numbered, scanned, index_in}

-- the index is that of the records at these n places, and the scan goes on at `at`
pub record Entering (b index : List ℕ) (n at : ℕ) : Type 0 where
  pub few : n ≤ 128
  pub size : length index ≡ 128
  pub near : at ≤ 8192
  pub places : List ℕ
  pub count : length places ≡ n
  pub scans : scan_from b (128 - n) places at ≡ scan b
  pub is : index ≡ numbered b places

pub entering_first : (b : List ℕ) → Entering b (replicate 128 0) 0 0
unfolding scan numbered
entering_first b = record { few = omega arith; size = refl; near = omega arith; places = []; count = refl; scans = refl; is = refl }

-- one number more
longer : (places : List ℕ) (n at : ℕ) → length places ≡ n → length (places ++ (at ∷ [])) ≡ n + 1
longer places n at c = length-append places (at ∷ []) ∙ ap (λ m. m + 1) c

numbered_next : (b places : List ℕ) (n at : ℕ) → length places ≡ n → n < 128
    → set (numbered b places) n (number_at b at) ≡ numbered b (places ++ (at ∷ []))
unfolding numbered
numbered_next b places n at c h =
    let q : 128 - n ≡ suc (128 - (n + 1)) = omega arith in
    let s = set_at (map (number_at b) places) 0 (replicate (128 - (n + 1)) 0) (number_at b at) n (length-map places (number_at b) ∙ c) in
    rw (c, q, longer places n at c, s, map-append, append_assoc)

-- the whole index, or that of the records before the first that is not shaped
module _ (b index places : List ℕ) (n : ℕ) (c : length places ≡ n) (i : index ≡ numbered b places) where
  stopped : record { whole = false; offsets = places } ≡ scan b → (◌≡◌ {A = Result ℕ Flaw} (Err (record { cause = TableShape; place = n })) (scanned b)) × (index ≡ index_in b)
  stopped e = (rw (← e, c), i ∙ ap (λ s. numbered b s.offsets) e)

  whole : record { whole = true; offsets = places } ≡ scan b → (◌≡◌ {A = Result ℕ Flaw} (Ok n) (scanned b)) × (index ≡ index_in b)
  whole e = (rw (← e, c), i ∙ ap (λ s. numbered b s.offsets) e)

module _ (b index : List ℕ) (n at : ℕ) (f : Entering b index n at) where
  pub entering_stops : n < 128 → record_end b at ≡ 0 → (◌≡◌ {A = Result ℕ Flaw} (Err (record { cause = TableShape; place = n })) (scanned b)) × (index ≡ index_in b)
  unfolding scan_from
  entering_stops h e =
      let q : 128 - n ≡ suc (128 - (n + 1)) = omega arith in
      stopped b index f.places n f.count f.is (rw (q, eq-eqb (record_end b at) 0 e) at f.scans)

  pub entering_ends : 128 ≤ n → (◌≡◌ {A = Result ℕ Flaw} (Err (record { cause = TableShape; place = 128 })) (scanned b)) × (index ≡ index_in b)
  unfolding scan_from
  entering_ends h = let q : 128 - n ≡ 0 = omega arith in
      stopped b index f.places 128 (omega (arith, f.count, f.few)) f.is (rw q at f.scans)

  module _ (h : n < 128) (d : record_end b at ≡ 0 → ⊥) (w : ℕ) (x : w ≡ number_at b at) where
    next : set index n w ≡ numbered b (f.places ++ (at ∷ []))
    next = rw (x, f.is) (numbered_next b f.places n at f.count h)

    pub entering_whole : record_end b at ≡ length b → (◌≡◌ {A = Result ℕ Flaw} (Ok (n + 1)) (scanned b)) × (set index n w ≡ index_in b)
    unfolding scan_from
    entering_whole e =
        let q : 128 - n ≡ suc (128 - (n + 1)) = omega arith in
        whole b (set index n w) (f.places ++ (at ∷ [])) (n + 1) (longer f.places n at f.count) next
        (rw (q, ne_eqb (record_end b at) 0 d, eq-eqb (record_end b at) (length b) e) at f.scans)

    pub entering_next : Octets b → length b ≤ 8192 → (record_end b at ≡ length b → ⊥) → Entering b (set index n w) (n + 1) (record_end b at)
    unfolding scan_from
    entering_next o k e =
        let q : 128 - n ≡ suc (128 - (n + 1)) = omega arith in
        let z = record_back b at o d in
        record {
          few = omega arith;
          size = simp length-set f.size;
          near = omega arith;
          places = f.places ++ (at ∷ []);
          count = longer f.places n at f.count;
          scans = rw (q, ne_eqb (record_end b at) 0 d, ne_eqb (record_end b at) (length b) e) at f.scans;
          is = next;
        }
