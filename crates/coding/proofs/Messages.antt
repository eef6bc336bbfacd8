-- The reading of a message accepts what may be sent, all of it and nothing else: sound, complete, unique.
-- Assumes nothing.
use borrow.Author.Tests.{not-false}
use mathlib.Core.Bool.{true, false, true≢false}
use mathlib.Core.List.{List, [], ◌∷◌, ◌++◌, append-nil, append_cancel_right}
use mathlib.Core.Path.{◌≡◌, refl, sym, ap, ◌∙◌}
use native.Mathlib.Omega.{arith}
use Prim.Native.Nat.{ℕ, ◌≤◌, max}
use lib.ListN.{length}
use Rattle.x690.specs.declared.ReadingCause.TheVariants.{Trailing}
use Rattle.octets.specs.Answer.{got, refused, none_left}
use Rattle.octets.specs.Lists.{joined}
use Rattle.octets.specs.Numbers.{Octets}
use Rattle.octets.specs.Permutations.{Order, any_order, as_given, Each, nil, cons}
use Rattle.octets.proofs.Answer.{run, Holds, yields, refuses, if_holds, then_holds, got_holds, got_value, got_rest, Reads, none_nil, none_there}
use Rattle.octets.proofs.Permutations.{all_octets}
use Rattle.table.specs.Syntax.{Table}
use Rattle.coding.specs.Value.{Leaf, Value, leaf, depth}
use Rattle.coding.specs.Encodes.{EncodesAt, Encodes, Arrives}
use Rattle.coding.specs.Typed.{WellTyped}
use Rattle.coding.specs.Equivalent.{EquivalentAt, Equivalent}
use Rattle.coding.specs.Reading.{begun, unwanted, read_value, read_message}
use Rattle.coding.proofs.Sound.{value_sound, not_awaited_lem}
use Rattle.coding.proofs.FirstTags.{Good, good, proper_readable}
use Rattle.coding.proofs.Complete.{value_complete, starts_at, next_is, started_some}
use Rattle.coding.proofs.Awaited.{message_trailing}
use Rattle.coding.proofs.Levels.{relevel, well_typed, deep, in_some_order}
use Rattle.coding.proofs.Equivalence.{equivalent_equal, equivalent_leaf, equivalent_sym, equivalent_trans}

-- an accepted message is an encoding of the value that is read
message_holds : (o : Order) (T : Table) (n t : ℕ) (m : List ℕ) → Holds (λ v r. (r ≡ []) × EncodesAt o T n t v m) (read_message T n t m)
unfolding read_message
message_holds o T n t m =
    if_holds _ (λ e. refuses) λ e _.
    if_holds _ (λ e. not_awaited_lem m) λ e _.
    then_holds (value_sound o T n t m) λ v r x.
    if_holds _ (λ h. refuses) λ h _.
    let z : r ≡ [] = none_there r (not-false (none_left r) h) in
    yields (z, rw (x.cut, z, append-nil) x.has)

-- Sound: what the reading of a message accepts is permitted for the value that it yields, which is well_typed and within the level.
pub record Sound (T : Table) (n t : ℕ) (m : List ℕ) (v : Value) (r : List ℕ) : Type 0 where
  pub to_the_end : r ≡ []
  pub arrives : Arrives T t v m
  pub encodes : Encodes T t v m
  pub typed : WellTyped T t v
  pub deep : depth v ≤ n

pub sound : (T : Table) (n t : ℕ) (m : List ℕ) (v : Value) (r : List ℕ) → Octets m → read_message T n t m ≡ got v r → Sound T n t m v r
sound T n t m v r o e =
    let x = got_holds (message_holds as_given T n t m) e in
    let w = well_typed as_given T n t v m (all_octets m o) x.1 in
    record {
      to_the_end = x.0;
      arrives = record { level = n; encodes = x.1 };
      encodes = record { level = n; encodes = in_some_order as_given T n t v m x.1 };
      typed = record { level = n; typed = w };
      deep = deep T n t v w;
    }

-- a permitted encoding has as many levels as its value
pub at_level : {T : Table} {t : ℕ} {v : Value} {m : List ℕ} (n : ℕ) → Encodes T t v m → depth v ≤ n → EncodesAt any_order T n t v m
at_level {T} {t} {v} {m} n e h = relevel any_order T e.level n t v m h e.encodes

-- the reading of one value in front of anything: a permitted encoding within the level is read to its end
pub complete : (T : Table) → Good T → (n t : ℕ) (v : Value) (m s : List ℕ) → Encodes T t v m → depth v ≤ n → Reads Equivalent (read_value T n t) v (m ++ s) s
complete T good n t v m s e h =
    let x = value_complete any_order T good n t v m s (at_level n e h) in
    record { value = x.value; answer = x.answer; alike = record { level = n; equivalent = x.alike } }

-- and with the elements of SET OF in the order of arrival it yields that very value
pub complete_as_given : (T : Table) → Good T → (n t : ℕ) (v : Value) (m s : List ℕ) → Arrives T t v m → depth v ≤ n → read_value T n t (m ++ s) ≡ got v s
complete_as_given T good n t v m s e h =
    let x = value_complete as_given T good n t v m s (relevel as_given T e.level n t v m h e.encodes) in
    rw (equivalent_equal n v x.value x.alike) x.answer

-- an encoding in front of anything is not empty, and begins as its type does
encoding_begun : (o : Order) (T : Table) → Good T → (n t : ℕ) (v : Value) (m s : List ℕ) → EncodesAt o T n t v m → (none_left (m ++ s) ≡ false) × (begun T t (m ++ s) ≡ true)
encoding_begun o T good n t v m s e =
    let y = starts_at o T good n t v m e in
    (started_some T good t m s y, next_is T t {i = y.ident} {m = m} y.rest s (proper_readable ((good t).first y.ident y.begins)) y.is ∙ y.begins)

message_accepts : (o : Order) (T : Table) → Good T → (n t : ℕ) (v w : Value) (m : List ℕ) → EncodesAt o T n t v m → read_value T n t (m ++ []) ≡ got w [] → read_message T n t m ≡ got w []
unfolding read_message
message_accepts o T good n t v w m e a =
    let (q, b) = encoding_begun o T good n t v m [] e in
    let z : read_message T n t (m ++ []) ≡ got w [] = simp (run, q, b, a) in
    rw append-nil at z

-- A message that arrives as a value within the level is read to that very value.
pub accepts_as_given : (T : Table) → Good T → (n t : ℕ) (v : Value) (m : List ℕ) → Arrives T t v m → depth v ≤ n → read_message T n t m ≡ got v []
accepts_as_given T good n t v m e h =
    message_accepts as_given T good n t v v m (relevel as_given T e.level n t v m h e.encodes) (complete_as_given T good n t v m [] e h)

-- A message that is a permitted encoding of a value within the level is accepted, and what is read is equivalent.
pub message_complete : (o : Order) (T : Table) → Good T → (n t : ℕ) (v : Value) (m : List ℕ) → EncodesAt o T n t v m → Reads (EquivalentAt o n) (read_message T n t) v m []
message_complete o T good n t v m e =
    let x = value_complete o T good n t v m [] e in
    record { value = x.value; answer = message_accepts o T good n t v x.value m e x.answer; alike = x.alike }

-- Every permitted encoding of a leaf, a string in segments too, is read to that very leaf.
pub accepts_a_leaf : (T : Table) → Good T → (n t : ℕ) (x : Leaf) (m : List ℕ) → Encodes T t (leaf x) m → depth (leaf x) ≤ n → read_message T n t m ≡ got (leaf x) []
accepts_a_leaf T good n t x m e h =
    let y = message_complete any_order T good n t (leaf x) m (at_level n e h) in
    rw (← equivalent_leaf any_order n x y.value y.alike) y.answer

-- Octets behind an encoding within the level are refused, where they begin.
pub refuses_behind : (T : Table) → Good T → (n t : ℕ) (v : Value) (m x : List ℕ) → Encodes T t v m → depth v ≤ n → 1 ≤ length x → read_message T n t (m ++ x) ≡ refused Trailing (length x)
unfolding unwanted
refuses_behind T good n t v m [] e h k = absurd (omega arith)
refuses_behind T good n t v m (b ∷ x) e h k =
    let z = complete T good n t v m (b ∷ x) e h in
    let (q, s) = encoding_begun any_order T good n t v m (b ∷ x) (at_level n e h) in
    message_trailing T n t (m ++ (b ∷ x)) z.value b x q s z.answer

-- Unique: two encodings that the same octets begin with are the same, so is what stands behind them, and their values are equivalent. One
-- reading finds the end of both.
pub unique : (T : Table) → Good T → (t : ℕ) {v w : Value} {m n : List ℕ} (r s : List ℕ) → Encodes T t v m → Encodes T t w n → m ++ r ≡ n ++ s → (m ≡ n) × (r ≡ s) × Equivalent v w
unique T good t {v} {w} {m} {n} r s e f q =
    let k = max (depth v) (depth w) in
    let a = value_complete any_order T good k t v m r (at_level k e (omega arith)) in
    let b = value_complete any_order T good k t w n s (at_level k f (omega arith)) in
    let z : got a.value r ≡ got b.value s = sym a.answer ∙ ap (read_value T k t) q ∙ b.answer in
    let i : EquivalentAt any_order k w a.value = rw (got_value z) b.alike in
    let j : r ≡ s = got_rest z in (
      append_cancel_right m n s (rw j at q),
      j,
      record { level = k; equivalent = equivalent_trans any_order k v a.value w a.alike (equivalent_sym any_order k w a.value i) },
    )

not_nothing : (T : Table) → Good T → (t : ℕ) (v : Value) (m s : List ℕ) → Encodes T t v m → m ++ s ≡ [] → ⊥
not_nothing T good t v m s e q = true≢false (sym none_nil ∙ rw q at (encoding_begun any_order T good e.level t v m s e.encodes).0)

-- Encodings one after another are cut in one way: the same ones, as many, of equivalent values.
pub cut_once : (T : Table) → Good T → (t : ℕ) {vs ws : List Value} {ms ns : List (List ℕ)} → Each (Encodes T t) vs ms → Each (Encodes T t) ws ns → joined ms ≡ joined ns
    → (ms ≡ ns) × Each Equivalent vs ws
unfolding joined
cut_once T good t nil nil q = (refl, nil)
cut_once T good t nil (cons {a = w} {b = n} {r = ns} f fs) q = absurd (not_nothing T good t w n (joined ns) f (sym q))
cut_once T good t (cons {a = v} {b = m} {r = ms} e es) nil q = absurd (not_nothing T good t v m (joined ms) e q)
cut_once T good t (cons {r = ms} e es) (cons {r = ns} f fs) q =
    let (i, j, k) = unique T good t (joined ms) (joined ns) e f q in
    let (x, y) = cut_once T good t es fs j in
    (rw (i, x) refl, cons k y)
