-- The index that the check fills has the entry of each record. The laws are for `Renumbering`, and for whoever calls `check_into`.
-- Assumes nothing.
use mathlib.Core.List.{List, [], ◌∷◌, ◌++◌, map}
use mathlib.Core.Path.{◌≡◌, refl, ◌∙◌}
use Prim.Native.Nat.{ℕ, zero, suc, ◌+◌, ◌-◌, ◌≤◌, ◌<◌}
use native.Mathlib.Omega.{arith}
use lib.Dec.{eqb}
use lib.ListN.{length, get_or, replicate, length-append, length-map, length-replicate, get_or-append}
use lib.Seq.{get_or_at}
use borrow.Author.Tests.{eqb-true, eqb-false, le-ltb}
use Rattle.octets.specs.Numbers.{Octets}
use Rattle.octets.proofs.Tests.{test}
use Rattle.table.specs.Reading.{record_end, scan_from, scan, look, count_in}
use Rattle.table.proofs.Reading.{record_back}
use Rattle.records.specs.Entries.{Filled}
use Rattle.records.proofs.Entries.{entry_entered, entry_back}
use Rattle.checker.specs.Index.{number_at, numbered, index_in, count_after, index_after}

-- at most 128 places, each of a shaped record
record Placed (b os : List ℕ) : Type 0 where
  few : length os ≤ 128
  shaped : (t : ℕ) → t < length os → 0 < record_end b (get_or os t 65535)

placed_next : (b os : List ℕ) (o : ℕ) → length os < 128 → Placed b os → (record_end b o ≡ 0 → ⊥) → Placed b (os ++ (o ∷ []))
placed_next b os o l p d =
    let n = length-append os (o ∷ []) in
    record {
      few = omega arith;
      shaped =
          λ t h.
          test (eqb t (length os)) (λ e. rw (eqb-true t (length os) e, get_or_at os o [] 65535 (length os) refl) (omega arith)) λ e.
          let i : t < length os = omega (arith, eqb-false t (length os) e) in
          rw (get_or-append os (o ∷ []) 65535 t i) (p.shaped t i);
    }

scan_placed : (b : List ℕ) (k : ℕ) (os : List ℕ) (o : ℕ) → length os + k ≤ 128 → Placed b os → Placed b (scan_from b k os o).offsets
unfolding scan_from
scan_placed b zero os o l p = p
scan_placed b (suc k) os o l p =
    test (eqb (record_end b o) 0) (λ e. rw e p) λ e₁.
    let q = placed_next b os o (omega arith) p (eqb-false _ _ e₁) in
    test (eqb (record_end b o) (length b)) (λ e₂. rw (e₁, e₂) q) λ e₂.
    rw (e₁, e₂) (scan_placed b k (os ++ (o ∷ [])) (record_end b o) (omega (arith, length-append os (o ∷ []))) q)

get_or_map : (f : ℕ → ℕ) (l : List ℕ) (t d e : ℕ) → t < length l → get_or (map f l) t e ≡ f (get_or l t d)
get_or_map f [] t d e h = absurd (omega arith)
get_or_map f (x ∷ l) zero d e h = refl
get_or_map f (x ∷ l) (suc t) d e h = get_or_map f l t d e (omega arith)

numbered_at : (b os : List ℕ) (t : ℕ) → t < length os → get_or (numbered b os) t 0 ≡ number_at b (get_or os t 65535)
unfolding numbered
numbered_at b os t h =
    get_or-append (map (number_at b) os) _ 0 t (omega (arith, length-map os (number_at b))) ∙ get_or_map (number_at b) os t 65535 0 h

module _ (b : List ℕ) (octets : Octets b) (short : length b ≤ 8192) where
  pub index_filled : (index : List ℕ) (n : ℕ) → n ≡ count_in b → index ≡ index_in b → Filled b index n
  unfolding scan look
  index_filled index n c i =
      let os = (scan b).offsets in
      let p : Placed b os = scan_placed b 128 [] 0 (omega arith) (record { few = omega arith; shaped = λ t h. absurd (omega arith) }) in
      record {
        count = c;
        few = omega arith;
        short = short;
        shaped = λ t h. (record_back b (get_or os t 65535) octets (λ e. omega (arith, p.shaped t (omega arith)))).shaped;
        entered =
            λ t h.
            let s = p.shaped t (omega arith) in
            rw (i, numbered_at b os t (omega arith), entry_back b (get_or os t 65535) octets s short) (entry_entered b (get_or os t 65535) octets s);
      }

  pub index_length : length (index_in b) ≡ 128
  unfolding scan numbered
  index_length =
      let os = (scan b).offsets in
      let p : Placed b os = scan_placed b 128 [] 0 (omega arith) (record { few = omega arith; shaped = λ t h. absurd (omega arith) }) in
      omega (arith, length-append (map (number_at b) os) (replicate (128 - length os) 0), length-map os (number_at b), length-replicate {A = ℕ} (128 - length os) 0, p.few)

-- so it is after the check of octets that are not too many
pub filled_after : (b before index : List ℕ) (n : ℕ) → Octets b → n ≡ count_after b → index ≡ index_after b before → length b ≤ 8192
    → Filled b index n
unfolding count_after index_after
filled_after b before index n octets c i short =
    let l = le-ltb 8192 (length b) short in index_filled b octets short index n (rw l at c) (rw l at i)
