-- Reckonings with times: they are done exactly with two GeneralizedTimes, and refused by 11 or 12.
-- Assumes nothing.
use Rattle.std.specs.Prelude.{Ok, Err}
use mathlib.Core.Bool.{Bool, true, false, false≢true}
use mathlib.Core.List.{List, [], ◌∷◌, ◌++◌, append-nil}
use mathlib.Core.Logic.{◌↔◌, ◌⊎◌, inl, inr}
use mathlib.Core.Path.{◌≡◌, refl, sym, ap, subst, ◌∙◌}
use Prim.Native.Nat.{ℕ, ◌≤◌, ◌<◌}
use native.Mathlib.Omega.{arith}
use lib.Dec.{leb, eqb}
use lib.IntN.{ℤ, pos, negsuc}
use lib.ListN.{length, get_or, drop}
use lib.Seq.{get_or-drop}
use borrow.Author.Tests.{leb-true, eqb-true, eq-eqb}
use Rattle.coding.specs.declared.JudgingCause.{JudgingCause}
use Rattle.coding.specs.declared.JudgingCause.TheVariants.{ValueShape, IllTyped}
use Rattle.octets.specs.Answer.{Answer, got, refused, if, then, none_left}
use Rattle.octets.specs.Lists.{any, all}
use Rattle.octets.specs.Permutations.{AllOctets}
use Rattle.octets.proofs.Tests.{test}
use Rattle.octets.proofs.Lists.{both}
use Rattle.octets.proofs.Answer.{got_holds, none_there}
use Rattle.dates.specs.declared.DateTime.{DateTime}
use Rattle.dates.specs.declared.TimeKind.{TimeKind}
use Rattle.dates.specs.declared.TimeKind.TheVariants.{Utc, Generalized}
use Rattle.dates.specs.Calendar.{leap, february, month_days, years, is_date, is_time_of_day, in_range}
use Rattle.dates.specs.Seconds.{sum, year_days, day_number, seconds_of, elapsed, ordered, fields, order}
use Rattle.dates.specs.Own.{time_octets, time_at}
use Rattle.dates.proofs.TimeOctets.{time_back}
use Rattle.coding.specs.Value.{time_number, boolean, integer, bits, string, null, enumerated, time, leaf_octets}
use Rattle.coding.specs.Judging.{Node, a_leaf, a_sequence, a_set, a_sequence_of, a_set_of, a_choice, need, read_own, read_node, leaf_kind, node_kind}
use Rattle.coding.specs.Judging.{flags, own_members, own_count, own_time, own_choice}
use Rattle.coding.specs.Outcome.{longest_value, value_cause, Refusal, of_value}
use Rattle.coding.specs.Shaped.{LeafShaped}
use Rattle.coding.specs.Reckoning.{childless, is_whole, is_lone, given, reckoned_by, whole_order, whole_seconds, time_node, Stands, Reckons, Given, Reckoned}
use Rattle.coding.proofs.Nodes.{node_octets, NodeShaped, node_sound, node_complete}
use Rattle.coding.proofs.Judging.{leaf_octets_lem}

-- Some of them on octets: midnight of 1 January and of 1 March of the year 0 as GeneralizedTimes, and the first as a UTCTime.
abbrev january : List ℕ
january = 0x56 ∷ 0x41 ∷ 24 ∷ 0 ∷ 0 ∷ 1 ∷ 1 ∷ 0 ∷ 0 ∷ 0 ∷ []

abbrev march : List ℕ
march = 0x56 ∷ 0x41 ∷ 24 ∷ 0 ∷ 0 ∷ 3 ∷ 1 ∷ 0 ∷ 0 ∷ 0 ∷ []

abbrev utc : List ℕ
utc = 0x56 ∷ 0x41 ∷ 23 ∷ 0 ∷ 0 ∷ 1 ∷ 1 ∷ 0 ∷ 0 ∷ 0 ∷ []

abbrev eleven : Reckoned
eleven = Err (of_value (value_cause ValueShape 0))

abbrev twelve : Reckoned
twelve = Err (of_value (value_cause IllTyped 0))

-- the order of two, and the seconds from the first to the second; 11 before 12, and the first before the second
pub reckonings_right :
    (whole_order january march ≡ Ok (negsuc 0))
    × (whole_order january january ≡ Ok (pos 0))
    × (whole_order march january ≡ Ok (pos 1))
    × (whole_seconds january march ≡ Ok (pos 5184000))
    × (whole_seconds march january ≡ Ok (negsuc 5183999))
    × (whole_seconds utc [] ≡ twelve)
    × (whole_seconds [] utc ≡ eleven)
    × (whole_seconds january utc ≡ twelve)
    × (whole_seconds january (march ++ (0 ∷ [])) ≡ eleven)
    -- an empty list and a SEQUENCE with no member present are nodes of another kind
    × (whole_order (0x56 ∷ 0x41 ∷ 48 ∷ 0 ∷ 0 ∷ []) march ≡ twelve)
    × (whole_order (0x56 ∷ 0x41 ∷ 16 ∷ 2 ∷ 0 ∷ 0 ∷ []) march ≡ twelve)
    × (whole_order (0x56 ∷ 0x41 ∷ 48 ∷ 0 ∷ 1 ∷ []) march ≡ eleven)
    × (whole_order (0x56 ∷ 0x41 ∷ 16 ∷ 2 ∷ 0 ∷ 1 ∷ january) march ≡ eleven)
    × (whole_order (0x56 ∷ 0x41 ∷ 50 ∷ 0 ∷ january) march ≡ eleven)
unfolding if then none_left any all leap february month_days years is_date is_time_of_day in_range time_at sum year_days day_number seconds_of elapsed ordered fields order
    need flags own_members own_count own_time own_choice read_own read_node childless is_whole is_lone given reckoned_by
reckonings_right = (refl, refl, refl, refl, refl, refl, refl, refl, refl, refl, refl, refl, refl, refl)

time_number_lem : (k : TimeKind) → (22 < time_number k) × (time_number k < 25)
time_number_lem Utc = (omega arith, omega arith)
time_number_lem Generalized = (omega arith, omega arith)

same_number : (j k : TimeKind) → time_number j ≡ time_number k → j ≡ k
same_number Utc Utc e = refl
same_number Utc Generalized e = absurd (omega arith)
same_number Generalized Utc e = absurd (omega arith)
same_number Generalized Generalized e = refl

-- of all nodes only a time has the number of its kind
only_time : (k : TimeKind) (x : Node) → node_kind x ≡ time_number k → NodeShaped x → (t : DateTime) × (x ≡ a_leaf (time k t)) × (in_range k t ≡ true)
unfolding node_kind leaf_kind NodeShaped LeafShaped
only_time k (a_leaf (boolean b)) e h = absurd (omega (arith, e, (time_number_lem k).0))
only_time k (a_leaf (integer z)) e h = absurd (omega (arith, e, (time_number_lem k).0))
only_time k (a_leaf (bits n c)) e h = absurd (omega (arith, e, (time_number_lem k).0))
only_time k (a_leaf (string c)) e h = absurd (omega (arith, e, (time_number_lem k).0))
only_time k (a_leaf null) e h = absurd (omega (arith, e, (time_number_lem k).0))
only_time k (a_leaf (enumerated n)) e h = absurd (omega (arith, e, (time_number_lem k).0))
only_time k (a_leaf (time j t)) e h = let q = same_number j k e in (t, ap (λ (x : TimeKind). a_leaf (time x t)) q, rw (← q) h)
only_time k (a_sequence bs) e h = absurd (omega (arith, e, (time_number_lem k).0))
only_time k (a_set bs) e h = absurd (omega (arith, e, (time_number_lem k).0))
only_time k (a_sequence_of n) e h = absurd (omega (arith, e, (time_number_lem k).1))
only_time k (a_set_of n) e h = absurd (omega (arith, e, (time_number_lem k).1))
only_time k (a_choice i) e h = absurd (omega (arith, e, (time_number_lem k).1))

shaped_time : (k : TimeKind) (t : DateTime) → in_range k t ≡ true → NodeShaped (a_leaf (time k t))
unfolding NodeShaped LeafShaped
shaped_time k t h = h

kind_time : (k : TimeKind) (t : DateTime) → node_kind (a_leaf (time k t)) ≡ time_number k
unfolding node_kind leaf_kind
kind_time k t = refl

-- behind the mark and the kind, the octets of a time are its own
node_time : (k : TimeKind) (t : DateTime) → time_at (time_node k t) 3 ≡ t
unfolding leaf_octets time_at time_octets
node_time k t = time_back t []

-- a node whose octets these are
record Alone (s : List ℕ) : Type 0 where
  node : Node
  is : s ≡ node_octets node
  shaped : NodeShaped node

alone_read : (s : List ℕ) → AllOctets s → (x : Answer JudgingCause Node) → read_node s ≡ x → is_whole x ≡ true → Alone s
unfolding is_whole
alone_read s o (got x r) e h =
    let w = got_holds (node_sound s o) e in
    let q = none_there r (both _ _ h).0 in
    record { node = x; is = w.0 ∙ ap (λ (u : List ℕ). node_octets x ++ u) q ∙ append-nil (node_octets x); shaped = w.1 }
alone_read s o (refused c l) e h = absurd (false≢true h)

alone : (s : List ℕ) → AllOctets s → is_lone s ≡ true → Alone s
unfolding is_lone
alone s o e = alone_read s o (read_node s) refl (both (leb (length s) longest_value) (is_whole (read_node s)) e).1

abbrev pub accepted : Given → Bool
accepted (Ok t) = true
accepted (Err c) = false

lone_time : (k : TimeKind) (s : List ℕ) → AllOctets s → is_lone s ≡ true → eqb (get_or s 2 0) (time_number k) ≡ true → Stands k s (time_at s 3)
lone_time k s o l n =
    let w = alone s o l in
    let (u, q, r) = only_time k w.node (sym (ap (λ (x : List ℕ). get_or x 2 0) w.is) ∙ eqb-true _ _ n) w.shaped in
    let i : s ≡ time_node k u = w.is ∙ ap node_octets q ∙ sym (leaf_octets_lem (time k u)) in
    let t : time_at s 3 ≡ u = ap (λ (x : List ℕ). time_at x 3) i ∙ node_time k u in
    record { octets = i ∙ ap (time_node k) (sym t); ranged = ap (in_range k) t ∙ r }

abbrev counted : Reckoned → Bool
counted (Ok z) = true
counted (Err r) = false

-- what is given is a time of its kind in range, whole and alone
pub given_stands : (k : TimeKind) (s : List ℕ) → AllOctets s → (t : DateTime) → given k s ≡ Ok t → Stands k s t
unfolding given
given_stands k s o t e =
    test (is_lone s) (λ l.
    test (eqb (get_or s 2 0) (time_number k)) (λ n.
    let q : time_at s 3 ≡ t = let i : ◌≡◌ {A = Given} (Ok (time_at s 3)) (Ok t) = rw (l, n) at e in cc in
    subst (Stands k s) q (lone_time k s o l n))
    λ n. absurd (false≢true (ap accepted (rw (l, n) at e))))
    λ l. absurd (false≢true (ap accepted (rw l at e)))

pub time_short : (k : TimeKind) (t : DateTime) → length (time_node k t) ≡ 10
unfolding leaf_octets time_octets
time_short k t = refl

-- and every such is given
pub stands_given : (k : TimeKind) (s : List ℕ) (t : DateTime) → Stands k s t → given k s ≡ Ok t
unfolding given is_lone is_whole childless none_left
stands_given k s t h =
    let i : s ≡ node_octets (a_leaf (time k t)) = h.octets ∙ leaf_octets_lem (time k t) in
    let r : read_node s ≡ got (a_leaf (time k t)) [] =
    ap read_node (i ∙ sym (append-nil _)) ∙ node_complete (a_leaf (time k t)) [] (shaped_time k t h.ranged) in
    let n : length s ≡ 10 = ap length h.octets ∙ time_short k t in
    let m : get_or s 2 0 ≡ time_number k = ap (λ (x : List ℕ). get_or x 2 0) i ∙ kind_time k t in
    let u : time_at s 3 ≡ t = ap (λ (x : List ℕ). time_at x 3) h.octets ∙ node_time k t in
    rw (n, r, m, eq-eqb (time_number k) (time_number k) refl, u) refl

-- Done exactly with two GeneralizedTimes in range, and with what f says of them.
pub reckons_exactly : (f : DateTime → DateTime → ℤ) (s t : List ℕ) → AllOctets s → AllOctets t → (z : ℤ)
    → (reckoned_by f (given Generalized s) (given Generalized t) ≡ Ok z) ↔ Reckons f s t z
unfolding reckoned_by
reckons_exactly f s t o p z = (there (given Generalized s) (given Generalized t) refl refl, back)
  where
    there : (x y : Given) → given Generalized s ≡ x → given Generalized t ≡ y → reckoned_by f x y ≡ Ok z → Reckons f s t z
    there (Ok a) (Ok b) d e h =
        record { first = a; second = b; a_time = given_stands Generalized s o a d; another = given_stands Generalized t p b e; is = let i : ◌≡◌ {A = Reckoned} (Ok (f a b)) (Ok z) = h in cc }
    there (Ok a) (Err c) d e h = absurd (false≢true (ap counted h))
    there (Err c) y d e h = absurd (false≢true (ap counted h))

    back : Reckons f s t z → reckoned_by f (given Generalized s) (given Generalized t) ≡ Ok z
    back r = rw (stands_given Generalized s r.first r.a_time, stands_given Generalized t r.second r.another) (ap Ok r.is)

-- the steps by which the code finds what is given

read_some : (s : List ℕ) → is_whole (read_node s) ≡ true → 3 ≤ length s
unfolding read_node need is_whole if
read_some s h = test (leb 3 (length s)) (λ e. leb-true 3 (length s) e) λ e. absurd (false≢true (rw e at h))

pub lone_some : (s : List ℕ) → is_lone s ≡ true → 3 ≤ length s
unfolding is_lone
lone_some s e = read_some s (both (leb (length s) longest_value) (is_whole (read_node s)) e).1

pub given_shape : (k : TimeKind) (s : List ℕ) → is_lone s ≡ false → Err ValueShape ≡ given k s
unfolding given
given_shape k s l = rw l

pub given_type : (k : TimeKind) (s : List ℕ) → is_lone s ≡ true → eqb (get_or s 2 0) (time_number k) ≡ false → Err IllTyped ≡ given k s
unfolding given
given_type k s l n = rw (l, n)

pub given_time : (k : TimeKind) (s : List ℕ) → is_lone s ≡ true → eqb (get_or s 2 0) (time_number k) ≡ true → Ok (time_at (drop 3 s) 0) ≡ given k s
unfolding given time_at
given_time k s l n = rw (l, n) (simp get_or-drop)

-- the steps by which it answers
module _ (f : DateTime → DateTime → ℤ) (s t : List ℕ) {x : Given} (e : x ≡ given Generalized s) where
  pub first_refused : {c : JudgingCause} → x ≡ Err c → {r : Reckoned} → r ≡ Err (of_value (value_cause c 0)) → r ≡ reckoned_by f (given Generalized s) (given Generalized t)
  unfolding reckoned_by
  first_refused q h = rw (← e, q) h

  module _ {a : DateTime} (q : x ≡ Ok a) {y : Given} (g : y ≡ given Generalized t) where
    pub second_refused : {c : JudgingCause} → y ≡ Err c → {r : Reckoned} → r ≡ Err (of_value (value_cause c 0)) → r ≡ reckoned_by f (given Generalized s) (given Generalized t)
    unfolding reckoned_by
    second_refused k h = rw (← e, q, ← g, k) h

    pub both_given : {b : DateTime} → y ≡ Ok b → {z : ℤ} → z ≡ f a b → Ok z ≡ reckoned_by f (given Generalized s) (given Generalized t)
    unfolding reckoned_by
    both_given k h = rw (← e, q, ← g, k) (ap Ok h)

-- what is not given is 11 or 12
pub data Fault (s : List ℕ) : Given → Type 0 where
  none_wrong : {t : DateTime} → is_lone s ≡ true → Fault s (Ok t)
  shape : is_lone s ≡ false → Fault s (Err ValueShape)
  type : is_lone s ≡ true → Fault s (Err IllTyped)

pub given_fault : (k : TimeKind) (s : List ℕ) → Fault s (given k s)
unfolding given
given_fault k s =
    test (is_lone s) (λ l.
    test (eqb (get_or s 2 0) (time_number k)) (λ n. rw (l, n) (none_wrong l)) λ n. rw (l, n) (type l))
    λ l. rw l (shape l)

-- A refusal is 11 or 12, and its place is 0.
pub reckoning_refuses : (f : DateTime → DateTime → ℤ) (s t : List ℕ) (r : Refusal) → reckoned_by f (given Generalized s) (given Generalized t) ≡ Err r
    → (r ≡ of_value (value_cause ValueShape 0)) ⊎ (r ≡ of_value (value_cause IllTyped 0))
unfolding reckoned_by
reckoning_refuses f s t r = told (given_fault Generalized s) (given_fault Generalized t)
  where
    told : {x y : Given} → Fault s x → Fault t y → reckoned_by f x y ≡ Err r → (r ≡ of_value (value_cause ValueShape 0)) ⊎ (r ≡ of_value (value_cause IllTyped 0))
    told (none_wrong l) (none_wrong m) h = absurd (false≢true (sym (ap counted h)))
    told (none_wrong l) (shape m) h = inl (let i : ◌≡◌ {A = Reckoned} (Err (of_value (value_cause ValueShape 0))) (Err r) = h in cc)
    told (none_wrong l) (type m) h = inr (let i : ◌≡◌ {A = Reckoned} (Err (of_value (value_cause IllTyped 0))) (Err r) = h in cc)
    told (shape l) y h = inl (let i : ◌≡◌ {A = Reckoned} (Err (of_value (value_cause ValueShape 0))) (Err r) = h in cc)
    told (type l) y h = inr (let i : ◌≡◌ {A = Reckoned} (Err (of_value (value_cause IllTyped 0))) (Err r) = h in cc)
