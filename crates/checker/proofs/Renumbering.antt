-- The numbers of an index, one after another, become those of descriptors, and back.
-- Assumes nothing.
use mathlib.Core.List.{List, [], ◌∷◌}
use mathlib.Core.Path.{◌≡◌, refl, ap, ◌∙◌}
use Prim.Native.Nat.{ℕ, zero, suc, ◌+◌, ◌≤◌, ◌<◌}
use native.Mathlib.Omega.{arith}
use lib.ListN.{length, get_or, set}
use lib.Dec.{leb}
use borrow.Author.Tests.{le-ltb, lt-ltb, leb-true, leb-false}
use Rattle.octets.specs.Numbers.{Octets}
use Rattle.octets.proofs.Tests.{test}
use Rattle.table.specs.Reading.{count_in}
use Rattle.records.specs.Entries.{unpacked, Filled}
use Rattle.records.specs.Descriptors.{descriptor_of, described, number_of, entry_number_of, Listed}
use Rattle.records.proofs.Promises.{entered_known, describes, renumbered as number_described, number_back}
use Rattle.checker.specs.Index.{count_after, index_after, changed, renumbered, restored, described_after}
use Rattle.checker.proofs.Filled.{index_length, index_filled}

-- each number is changed once
module _ (f : ℕ → ℕ) where
  pub numbers_left : (n : ℕ) (ws : List ℕ) (i : ℕ) → n ≤ i → get_or (changed f n ws) i 0 ≡ get_or ws i 0
  unfolding changed
  numbers_left zero ws i h = refl
  numbers_left (suc n) [] i h = refl
  numbers_left (suc n) (w ∷ ws) zero h = absurd (omega arith)
  numbers_left (suc n) (w ∷ ws) (suc i) h = numbers_left n ws i (omega arith)

  pub numbers_done : (n : ℕ) (ws : List ℕ) (i : ℕ) → i < n → i < length ws → get_or (changed f n ws) i 0 ≡ f (get_or ws i 0)
  unfolding changed
  numbers_done zero ws i h l = absurd (omega arith)
  numbers_done (suc n) [] i h l = absurd (omega arith)
  numbers_done (suc n) (w ∷ ws) zero h l = refl
  numbers_done (suc n) (w ∷ ws) (suc i) h l = numbers_done n ws i (omega arith) (omega arith)

  pub numbers_next : (n : ℕ) (ws : List ℕ) → n < length ws → set (changed f n ws) n (f (get_or ws n 0)) ≡ changed f (n + 1) ws
  unfolding changed
  numbers_next n [] h = absurd (omega arith)
  numbers_next zero (w ∷ ws) h = refl
  numbers_next (suc n) (w ∷ ws) h =
      let q : suc n + 1 ≡ suc (n + 1) = omega arith in rw q (ap (λ (l : List ℕ). f w ∷ l) (numbers_next n ws (omega arith)))

  -- one turn of the loop
  pub numbers_turn : (n : ℕ) (ws l : List ℕ) (w : ℕ) → n < length ws → l ≡ changed f n ws → w ≡ f (get_or l n 0) → set l n w ≡ changed f (n + 1) ws
  numbers_turn n ws l w h e q =
      let d : w ≡ f (get_or ws n 0) = q ∙ ap f (ap (λ (x : List ℕ). get_or x n 0) e ∙ numbers_left n ws n (omega arith)) in
      rw (d, e) (numbers_next n ws h)

numbers_back : (n : ℕ) (ws : List ℕ) → ((t : ℕ) → t < n → entry_number_of (number_of (get_or ws t 0)) ≡ get_or ws t 0) → restored n (renumbered n ws) ≡ ws
unfolding changed
numbers_back zero ws h = refl
numbers_back (suc n) [] h = refl
numbers_back (suc n) (w ∷ ws) h = rw (h 0 (omega arith), numbers_back n ws (λ t l. h (suc t) (omega arith))) refl

-- an index that has the entries of all records comes to have their descriptors, and has the entries again
module _ (b index : List ℕ) (n : ℕ) (F : Filled b index n) where
  pub listed_by : length index ≡ 128 → Listed b (renumbered n index) n
  listed_by l =
      record {
        count = F.count;
        few = F.few;
        short = F.short;
        shaped = F.shaped;
        describes =
            λ t h.
            let w = get_or index t 0 in
            let q : described (get_or (renumbered n index) t 0) ≡ descriptor_of (unpacked w)
            = ap (λ (x : ℕ). described x) (numbers_done number_of n index t h (omega (arith, F.few))) ∙ number_described w in
            rw q (describes w (F.entered t h));
      }

  restored_by : restored n (renumbered n index) ≡ index
  restored_by = numbers_back n index (λ t h. number_back (get_or index t 0) (entered_known (F.entered t h)))

-- so it is after the check
module _ (b before : List ℕ) (o : Octets b) where
  pub restored_after : restored (count_after b) (described_after b before) ≡ index_after b before
  unfolding count_after index_after changed
  restored_after =
      test (leb (length b) 8192)
      (λ e.
      let short = leb-true (length b) 8192 e in
      let l = le-ltb 8192 (length b) short in
      rw l (restored_by b _ _ (index_filled b o short _ _ refl refl)))
      (λ e. rw (lt-ltb 8192 (length b) (omega (arith, leb-false (length b) 8192 e))) refl)

  pub few_after : count_after b ≤ 128
  unfolding count_after index_after
  few_after =
      test (leb (length b) 8192)
      (λ e. let short = leb-true (length b) 8192 e in let l = le-ltb 8192 (length b) short in rw l ((index_filled b o short _ _ refl refl).few))
      (λ e. rw (lt-ltb 8192 (length b) (omega (arith, leb-false (length b) 8192 e))) (omega arith))

  pub listed_after : length b ≤ 8192 → (count_after b ≡ count_in b) × Listed b (described_after b before) (count_in b)
  unfolding count_after index_after
  listed_after short =
      let l = le-ltb 8192 (length b) short in
      (rw l refl, rw l (listed_by b _ _ (index_filled b o short _ _ refl refl) (index_length b o short)))
