-- Well-typed values (FORMATS, "Values").
-- Assumes nothing.
use Rattle.std.specs.Prelude.{true, Bool, List, [], ◌∷◌, ◌≡◌, ℕ, zero, suc, ℤ, pos}
use Rattle.std.proofs.Math.Option.{Option, some, none}
use Rattle.std.specs.Int.{w64}
use Rattle.std.proofs.Common.{SFits}
use Rattle.octets.specs.Permutations.{Every, AllOctets}
use Rattle.x690.specs.BitString.{unused, masked}
use Rattle.dates.specs.declared.TimeKind.{TimeKind}
use Rattle.dates.specs.declared.DateTime.{DateTime}
use Rattle.dates.specs.Calendar.{in_range}
use Rattle.table.specs.Syntax.{Member, Simple, Body, Plain, Sequence, Set, SequenceOf, SetOf, Choice, Table, Boolean, Integer, BitString, OctetString, Null, Enumerated, Time}
use Rattle.coding.specs.Value.{Leaf, Value, leaf, sequence, set, sequence_of, set_of, choice, slots, bag, boolean, integer, bits, string, null, enumerated, time}
use Rattle.coding.specs.Content.{listed}
use Rattle.coding.specs.Encodes.{allowed, At}

-- the leaves of a kind: an INTEGER of 64 bits, spare bits 0, an ENUMERATED number that is listed (a table's numbers are far below 2 ^ 63), a time in range
pub data TypedLeaf : Simple → Leaf → Type 0 where
  l_boolean : {b : Bool} → TypedLeaf Boolean (boolean b)
  l_integer : {z : ℤ} → SFits w64 z → TypedLeaf Integer (integer z)
  l_bits : {n : ℕ} {c : List ℕ} → AllOctets c → unused n c ≡ true → masked n c ≡ c → TypedLeaf BitString (bits n c)
  l_string : {c : List ℕ} → AllOctets c → TypedLeaf OctetString (string c)
  l_null : TypedLeaf Null null
  l_enumerated : {ns : List ℕ} {k : ℕ} → SFits w64 (pos k) → listed ns k ≡ true → TypedLeaf (Enumerated ns) (enumerated k)
  l_time : {k : TimeKind} {t : DateTime} → in_range k t ≡ true → TypedLeaf (Time k) (time k t)

-- the members that are there have their types
pub data MembersTyped (W : ℕ → Value → Type 0) : List Member → List (Option Value) → Type 0 where
  f_done : MembersTyped W [] []
  f_left : {m : Member} {ms : List Member} {os : List (Option Value)} → MembersTyped W ms os → MembersTyped W (m ∷ ms) (none ∷ os)
  f_sent : {m : Member} {ms : List Member} {os : List (Option Value)} {v : Value} → W m.type v → MembersTyped W ms os → MembersTyped W (m ∷ ms) (some v ∷ os)

-- a value of a kind: a slot for each member and no mandatory one empty, elements of the one type, an alternative that the record has
pub data Typed (W : ℕ → Value → Type 0) : Body → Value → Type 0 where
  t_plain : {k : Simple} {x : Leaf} → TypedLeaf k x → Typed W (Plain k) (leaf x)
  t_sequence : {ms : List Member} {os : List (Option Value)} → MembersTyped W ms os → allowed ms os ≡ true → Typed W (Sequence ms) (sequence (slots os))
  t_set : {ms : List Member} {os : List (Option Value)} → MembersTyped W ms os → allowed ms os ≡ true → Typed W (Set ms) (set (slots os))
  t_sequence_of : {t : ℕ} {vs : List Value} → Every (W t) vs → Typed W (SequenceOf t) (sequence_of (bag vs))
  t_set_of : {t : ℕ} {vs : List Value} → Every (W t) vs → Typed W (SetOf t) (set_of (bag vs))
  t_choice : {ts : List ℕ} {n t : ℕ} {v : Value} → At t ts n → W t v → Typed W (Choice ts) (choice n v)

-- with at most n levels
unfoldable pub WellTypedAt : Table → ℕ → ℕ → Value → Type 0
WellTypedAt T zero t v = ⊥
WellTypedAt T (suc n) t v = Typed (WellTypedAt T n) (T t).body v

pub record WellTyped (T : Table) (t : ℕ) (v : Value) : Type 0 where
  pub level : ℕ
  pub typed : WellTypedAt T level t v
