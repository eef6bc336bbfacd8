-- The node at a place is what the definition reads there.
-- Assumes nothing.
use mathlib.Core.Bool.{Bool, true, false, ◌&&◌}
use mathlib.Core.List.{List, ◌∷◌}
use mathlib.Core.Path.{◌≡◌, refl, ap, ◌∙◌}
use Prim.Native.Nat.{ℕ, zero, suc, ◌+◌, ◌-◌, ◌*◌, ◌/◌, ◌^◌, ◌≤◌, ◌<◌}
use native.Mathlib.Nat.{add-zero}
use native.Mathlib.Omega.{arith}
use borrow.Author.Tests.{ltb-true, ltb-false, leb-true, leb-false, lt-ltb, le-ltb, le-leb, lt-leb, eq-eqb, ne_eqb}
use lib.Dec.{ltb, leb, eqb}
use lib.ListN.{length, get_or, take, drop, length-drop}
use lib.Seq.{drop-cons, drop-drop, get_or-drop}
use Rattle.coding.specs.declared.JudgingCause.{JudgingCause}
use Rattle.coding.specs.declared.JudgingCause.TheVariants.{ValueShape}
use Rattle.octets.specs.Answer.{Answer, got, refused, if}
use Rattle.octets.proofs.Answer.{run}
use Rattle.octets.proofs.Tests.{test, at}
use Rattle.octets.specs.Lists.{all, same}
use Rattle.octets.specs.Numbers.{two}
use Rattle.x690.specs.BitString.{masked}
use Rattle.x690.specs.Integer.{integer_of}
use Rattle.dates.specs.declared.TimeKind.{TimeKind}
use Rattle.dates.specs.declared.TimeKind.TheVariants.{Utc, Generalized}
use Rattle.dates.specs.Calendar.{in_range}
use Rattle.dates.specs.Own.{time_at}
use Rattle.table.specs.Reading.{every_at}
use Rattle.coding.specs.Value.{boolean, integer, bits, string, enumerated, time}
use Rattle.coding.specs.Judging.{Node, a_leaf, a_sequence, a_set, a_sequence_of, a_set_of, a_choice, need, flags, own_members, own_count, own_boolean, own_integer}
use Rattle.coding.specs.Judging.{own_string, octets_for, spare_in, own_bits, own_enumerated, own_time, own_choice, read_own, read_node}
use Rattle.writer.specs.Nodes.{fixed_end, boolean_end, string_end, clear_at, bits_end, time_end, members_end, own_end, end_at, leaf_of, node_of, node_at}

-- e is the end of the own part at p of the node x, where a is read; 0 if it is refused; l octets are left where the node begins
pub data Reads (v : List ℕ) (l p : ℕ) (x : Node) : ℕ → Answer JudgingCause Node → Type 0 where
  bad : Reads v l p x 0 (refused ValueShape l)
  good : (e : ℕ) → p ≤ e → e ≤ length v → Reads v l p x e (got x (drop e v))

need_yes : {A : Type 0} (l k : ℕ) (s : List ℕ) (x : Unit {0} → Answer JudgingCause A) → k ≤ length s → need l k s x ≡ x tt
unfolding need
need_yes l k s x h = simp (run, le-leb k (length s) h)

need_no : {A : Type 0} (l k : ℕ) (s : List ℕ) (x : Unit {0} → Answer JudgingCause A) → length s < k → need l k s x ≡ refused ValueShape l
unfolding need
need_no l k s x h = simp (run, lt-leb k (length s) h)

-- what stands at a place
first_at : (v : List ℕ) (p : ℕ) → get_or (drop p v) 0 0 ≡ get_or v p 0
first_at v p = get_or-drop p v 0 0 ∙ ap (λ (i : ℕ). get_or v i 0) (add-zero p)

two_at : (v : List ℕ) (p : ℕ) → two (drop p v) 0 ≡ two v p
two_at v p = rw (first_at, get_or-drop p v 1 0) refl

pub time_at_lem : (v : List ℕ) (p : ℕ) → time_at (drop p v) 0 ≡ time_at v p
unfolding time_at
time_at_lem v p = rw (two_at, get_or-drop p v 2 0, get_or-drop p v 3 0, get_or-drop p v 4 0, get_or-drop p v 5 0, get_or-drop p v 6 0) refl

every_take : (v : List ℕ) (p n : ℕ) → p + n ≤ length v → take n (drop p v) ≡ every_at 1 v p n
unfolding every_at
every_take v p zero h = refl
every_take v p (suc n) h =
    let e : p + 1 ≡ suc p = omega arith in
    rw (drop-cons v p 0 (omega arith)) (ap (λ (l : List ℕ). get_or v p 0 ∷ l) (rw e (every_take v (suc p) n (omega arith))))

module _ (v : List ℕ) (l p : ℕ) (h : p ≤ length v) where
  left : length (drop p v) ≡ length v - p
  left = length-drop p v

  -- n octets, and x of them
  fixed_reads : (n : ℕ) (f : Unit {0} → Answer JudgingCause Node) (x : Node) → f tt ≡ got x (drop n (drop p v)) → Reads v l p x (fixed_end v (p + n)) (need l n (drop p v) f)
  unfolding fixed_end
  fixed_reads n f x e =
      let k = left in
      test (ltb (length v) (p + n))
      (λ t. let s : length v < p + n = ltb-true _ _ t in rw (t, need_no l n (drop p v) f (omega arith)) bad)
      (λ t. let s : p + n ≤ length v = ltb-false _ _ t in rw (t, need_yes l n (drop p v) f (omega arith), e, drop-drop) (good (p + n) (omega arith) s))

  boolean_reads : Reads v l p (a_leaf (boolean (eqb (get_or v p 0) 1))) (boolean_end v p) (own_boolean l (drop p v))
  unfolding boolean_end own_boolean
  boolean_reads =
      let k = left in
      test (ltb (length v) (p + 1))
      (λ t. let s : length v < p + 1 = ltb-true _ _ t in rw (t, need_no l 1 (drop p v) _ (omega arith)) bad)
      (λ t.
      let s : p + 1 ≤ length v = ltb-false _ _ t in
      rw (t, need_yes l 1 (drop p v) _ (omega arith), first_at, drop-drop)
      (test (leb 2 (get_or v p 0))
      (λ u. let w : 2 ≤ get_or v p 0 = leb-true _ _ u in rw (u, le-ltb (get_or v p 0) 2 w) (simp run bad))
      (λ u. let w : get_or v p 0 < 2 = leb-false _ _ u in rw (u, lt-ltb (get_or v p 0) 2 w) (simp run (good (p + 1) (omega arith) s)))))

  string_reads : Reads v l p (a_leaf (string (take (two v p) (drop (p + 2) v)))) (string_end v p) (own_string l (drop p v))
  unfolding string_end own_string
  string_reads =
      let k = left in
      let m = length-drop (p + 2) v in
      test (ltb (length v) (p + 2))
      (λ t. let s : length v < p + 2 = ltb-true _ _ t in rw (t, need_no l 2 (drop p v) _ (omega arith)) bad)
      (λ t.
      let s : p + 2 ≤ length v = ltb-false _ _ t in
      rw (t, need_yes l 2 (drop p v) _ (omega arith), two_at, drop-drop 2 p v)
      (test (ltb (length v) (p + 2 + two v p))
      (λ u. let w : length v < p + 2 + two v p = ltb-true _ _ u in rw (u, need_no l (two v p) (drop (p + 2) v) _ (omega arith)) bad)
      (λ u. let w : p + 2 + two v p ≤ length v = ltb-false _ _ u in rw (
        u,
        need_yes l (two v p) (drop (p + 2) v) _ (omega arith),
        drop-drop (two v p) (p + 2)
            v,
      ) (good (p + 2 + two v p) (omega arith) w))))

pub and_true : (b : Bool) → (b && true) ≡ b
and_true true = refl
and_true false = refl

-- the last octet decides
masked_last : (s m : ℕ) (v : List ℕ) (q : ℕ) → q + suc m ≤ length v
    → same (masked s (take (suc m) (drop q v))) (take (suc m) (drop q v)) ≡ eqb (get_or v (q + m) 0 / 2 ^ s * 2 ^ s) (get_or v (q + m) 0)
unfolding same masked
masked_last s zero v q h = rw (drop-cons v q 0 (omega arith), add-zero) (and_true (eqb (get_or v q 0 / 2 ^ s * 2 ^ s) (get_or v q 0)))
masked_last s (suc m) v q h =
    let e : q + suc m ≡ suc q + m = omega arith in
    let i = masked_last s m v (suc q) (omega arith) in
    rw (e, ← i, drop-cons v q 0 (omega arith), drop-cons v (suc q) 0 (omega arith), eq-eqb (get_or v q 0) (get_or v q 0) refl) refl

clear_is : (v : List ℕ) (q n : ℕ) → q + octets_for n ≤ length v
    → same (masked (spare_in n) (take (octets_for n) (drop q v))) (take (octets_for n) (drop q v)) ≡ clear_at v q n
unfolding clear_at same masked
clear_is v q zero h = refl
clear_is v q (suc n) h =
    let e : octets_for (suc n) ≡ suc (octets_for (suc n) - 1) = omega arith in
    let f : q + octets_for (suc n) - 1 ≡ q + (octets_for (suc n) - 1) = omega arith in
    rw (f, ne_eqb (suc n) 0 (λ z. omega arith)) (rw (← e) at (masked_last (spare_in (suc n)) (octets_for (suc n) - 1) v q (omega arith)))

module _ (v : List ℕ) (l p : ℕ) (h : p ≤ length v) where
  bits_reads : Reads v l p (a_leaf (bits (spare_in (two v p)) (take (octets_for (two v p)) (drop (p + 2) v)))) (bits_end v p) (own_bits l (drop p v))
  unfolding bits_end own_bits
  bits_reads =
      let k = length-drop p v in
      let m = length-drop (p + 2) v in
      test (ltb (length v) (p + 2))
      (λ t. let s : length v < p + 2 = ltb-true _ _ t in rw (t, need_no l 2 (drop p v) _ (omega arith)) bad)
      (λ t.
      let s : p + 2 ≤ length v = ltb-false _ _ t in
      rw (t, need_yes l 2 (drop p v) _ (omega arith), two_at, drop-drop 2 p v)
      (test (ltb (length v) (p + 2 + octets_for (two v p)))
      (λ u. let w : length v < p + 2 + octets_for (two v p) = ltb-true _ _ u in rw (u, need_no l (octets_for (two v p)) (drop (p + 2) v) _ (omega arith)) bad)
      (λ u.
      let w : p + 2 + octets_for (two v p) ≤ length v = ltb-false _ _ u in
      rw (u, need_yes l (octets_for (two v p)) (drop (p + 2) v) _ (omega arith), clear_is v (p + 2) (two v p) w, drop-drop (octets_for (two v p)) (p + 2) v)
      (test (clear_at v (p + 2) (two v p)) (λ c. rw c (simp run (good (p + 2 + octets_for (two v p)) (omega arith) w))) λ c. rw c (simp run bad)))))

  members_reads : (f : List Bool → Node) → Reads v l p (f (flags (every_at 1 v (p + 1) (get_or v p 0)))) (members_end v p) (own_members f l (drop p v))
  unfolding members_end own_members
  members_reads f =
      let k = length-drop p v in
      let m = length-drop (p + 1) v in
      test (ltb (length v) (p + 1))
      (λ t. let s : length v < p + 1 = ltb-true _ _ t in rw (t, need_no l 1 (drop p v) _ (omega arith)) bad)
      (λ t.
      let s : p + 1 ≤ length v = ltb-false _ _ t in
      rw (t, need_yes l 1 (drop p v) _ (omega arith), first_at, drop-drop 1 p v)
      (test (ltb (length v) (p + 1 + get_or v p 0))
      (λ u. let w : length v < p + 1 + get_or v p 0 = ltb-true _ _ u in rw (u, need_no l (get_or v p 0) (drop (p + 1) v) _ (omega arith)) bad)
      (λ u.
      let w : p + 1 + get_or v p 0 ≤ length v = ltb-false _ _ u in
      rw (u, need_yes l (get_or v p 0) (drop (p + 1) v) _ (omega arith), every_take v (p + 1) (get_or v p 0) w, drop-drop (get_or v p 0) (p + 1) v)
      (test (all (λ b. ltb b 2) (every_at 1 v (p + 1) (get_or v p 0))) (λ c. rw c (simp run (good (p + 1 + get_or v p 0) (omega arith) w))) λ c. rw c (simp run
      bad)))))

  count_reads : (f : ℕ → Node) → Reads v l p (f (two v p)) (fixed_end v (p + 2)) (own_count f l (drop p v))
  unfolding own_count
  count_reads f = fixed_reads v l p h 2 _ (f (two v p)) (rw two_at refl)

  integer_reads : Reads v l p (a_leaf (integer (integer_of (take 8 (drop p v))))) (fixed_end v (p + 8)) (own_integer l (drop p v))
  unfolding own_integer
  integer_reads = fixed_reads v l p h 8 _ (a_leaf (integer (integer_of (take 8 (drop p v))))) refl

  enumerated_reads : Reads v l p (a_leaf (enumerated (two v p))) (fixed_end v (p + 2)) (own_enumerated l (drop p v))
  unfolding own_enumerated
  enumerated_reads = fixed_reads v l p h 2 _ (a_leaf (enumerated (two v p))) (rw two_at refl)

  time_reads : (k : TimeKind) → Reads v l p (a_leaf (time k (time_at v p))) (time_end k v p) (own_time k l (drop p v))
  unfolding time_end own_time
  time_reads k =
      let m = length-drop p v in
      test (ltb (length v) (p + 7))
      (λ t. let s : length v < p + 7 = ltb-true _ _ t in rw (t, need_no l 7 (drop p v) _ (omega arith)) bad)
      (λ t.
      let s : p + 7 ≤ length v = ltb-false _ _ t in
      rw (t, need_yes l 7 (drop p v) _ (omega arith), time_at_lem, drop-drop)
      (test (in_range k (time_at v p)) (λ u. rw u (simp run (good (p + 7) (omega arith) s))) λ u. rw u (simp run bad)))

  choice_reads : Reads v l p (a_choice (get_or v p 0)) (fixed_end v (p + 1)) (own_choice l (drop p v))
  unfolding own_choice
  choice_reads = fixed_reads v l p h 1 _ (a_choice (get_or v p 0)) (rw first_at refl)

  abbrev OwnReads : ℕ → Type 0
  OwnReads k = Reads v l p (node_of k v p) (own_end k v p) (read_own l k (drop p v))

  own_reads : (k : ℕ) → OwnReads k
  unfolding node_of leaf_of own_end read_own if
  own_reads k =
      at k 1 OwnReads (boolean_reads v l p h) λ e₁.
      at k 2 OwnReads integer_reads λ e₂.
      at k 3 OwnReads bits_reads λ e₃.
      at k 4 OwnReads (string_reads v l p h) λ e₄.
      at k 5 OwnReads (good p (omega arith) h) λ e₅.
      at k 10 OwnReads enumerated_reads λ e₁₀.
      at k 23 OwnReads (time_reads Utc) λ e₂₃.
      at k 24 OwnReads (time_reads Generalized) λ e₂₄.
      at k 16 OwnReads (members_reads a_sequence) λ e₁₆.
      at k 17 OwnReads (members_reads a_set) λ e₁₇.
      at k 48 OwnReads (count_reads a_sequence_of) λ e₄₈.
      at k 49 OwnReads (count_reads a_set_of) λ e₄₉.
      at k 50 OwnReads choice_reads λ e₅₀.
      rw (e₁, e₂, e₃, e₄, e₅, e₁₀, e₂₃, e₂₄, e₁₆, e₁₇, e₄₈, e₄₉, e₅₀) bad

-- the node at a place, with its mark
pub node_reads : (v : List ℕ) (p : ℕ) → p ≤ length v → Reads v (length (drop p v)) (p + 3) (node_at v p) (end_at v p) (read_node (drop p v))
unfolding end_at read_node
node_reads v p h =
    let k = length-drop p v in
    test (ltb (length v) (p + 3))
    (λ t. let s : length v < p + 3 = ltb-true _ _ t in rw (t, need_no (length (drop p v)) 3 (drop p v) _ (omega arith)) bad)
    (λ t.
    let s : p + 3 ≤ length v = ltb-false _ _ t in
    rw (t, need_yes (length (drop p v)) 3 (drop p v) _ (omega arith), first_at, get_or-drop p v 1 0, get_or-drop p v 2 0, drop-drop 3 p v)
    (test (eqb (get_or v p 0) 0x56)
    (λ a. rw a (simp run (test (eqb (get_or v (p + 1) 0) 0x41) (λ b. rw b (simp run (own_reads v (length (drop p v)) (p + 3) s (get_or v (p + 2) 0)))) λ b. rw b
    (simp run bad))))
    (λ a. rw a (simp run bad))))
