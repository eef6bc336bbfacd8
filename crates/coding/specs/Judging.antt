-- The judging of a value's octets, with 11, 13 and 12 and their places (FORMATS, "Values" and "Order of refusals").
-- A refusal carries the number of octets that are left from its place to the end of what was given.
-- Assumes nothing.
use Rattle.std.specs.Prelude.{Bool, true, false, not, ◌&&◌, ◌||◌, List, [], ◌∷◌, ◌++◌, ℕ, zero, suc, ◌+◌, ◌-◌, ◌*◌, ◌/◌, ltb, leb, eqb, length, get_or, take, drop}
use Rattle.std.proofs.Math.Option.{Option, some, none}
use Rattle.coding.specs.declared.JudgingCause.{JudgingCause}
use Rattle.coding.specs.declared.JudgingCause.TheVariants.{ValueShape, IllTyped, ValueLevel}
use Rattle.octets.specs.Answer.{Answer, got, refused, then, if, none_left}
use Rattle.octets.specs.Numbers.{two}
use Rattle.octets.specs.Lists.{all, same}
use Rattle.x690.specs.Integer.{integer_of}
use Rattle.x690.specs.BitString.{masked}
use Rattle.dates.specs.declared.TimeKind.{TimeKind}
use Rattle.dates.specs.declared.TimeKind.TheVariants.{Utc, Generalized}
use Rattle.dates.specs.Calendar.{in_range}
use Rattle.dates.specs.Own.{time_at}
use Rattle.table.specs.Syntax.{Member, Boolean, Integer, BitString, OctetString, Null, Enumerated, Time, Body, Plain, Sequence, Set, SequenceOf, SetOf, Choice, Table}
use Rattle.table.specs.Octets.{kind}
use Rattle.table.specs.Rules.{members}
use Rattle.coding.specs.Value.{Leaf, boolean, integer, bits, string, null, enumerated, time, time_number, Value, leaf, sequence, set, sequence_of, set_of, choice, slots, bag}
use Rattle.coding.specs.Content.{listed}
use Rattle.coding.specs.Form.{element, alternatives}

-- a node without the nodes below it: a leaf, the presence of members, a count of elements, an alternative
pub data Node : Type 0 where
  a_leaf : Leaf → Node
  a_sequence : List Bool → Node
  a_set : List Bool → Node
  a_sequence_of : ℕ → Node
  a_set_of : ℕ → Node
  a_choice : ℕ → Node

-- the first k octets, if so many are there; l octets are left where the node begins
unfoldable pub need : {A : Type 0} → ℕ → ℕ → List ℕ → (Unit {0} → Answer JudgingCause A) → Answer JudgingCause A
need l k s x = if (not (leb k (length s))) (refused ValueShape l) x

-- presence octets: 1 for a member that is there, 0 for one that is missing
unfoldable pub flags : List ℕ → List Bool
flags [] = []
flags (b ∷ s) = eqb b 1 ∷ flags s

unfoldable pub own_members : (List Bool → Node) → ℕ → List ℕ → Answer JudgingCause Node
own_members f l s =
    need l 1 s λ _.
    need l (get_or s 0 0) (drop 1 s) λ _.
    if (not (all (λ b. ltb b 2) (take (get_or s 0 0) (drop 1 s)))) (refused ValueShape l) λ _.
    got (f (flags (take (get_or s 0 0) (drop 1 s)))) (drop (get_or s 0 0) (drop 1 s))

unfoldable pub own_count : (ℕ → Node) → ℕ → List ℕ → Answer JudgingCause Node
own_count f l s = need l 2 s λ _. got (f (two s 0)) (drop 2 s)

unfoldable pub own_boolean : ℕ → List ℕ → Answer JudgingCause Node
own_boolean l s =
    need l 1 s λ _.
    if (not (ltb (get_or s 0 0) 2)) (refused ValueShape l) λ _.
    got (a_leaf (boolean (eqb (get_or s 0 0) 1))) (drop 1 s)

unfoldable pub own_integer : ℕ → List ℕ → Answer JudgingCause Node
own_integer l s = need l 8 s λ _. got (a_leaf (integer (integer_of (take 8 s)))) (drop 8 s)

unfoldable pub own_string : ℕ → List ℕ → Answer JudgingCause Node
own_string l s =
    need l 2 s λ _.
    need l (two s 0) (drop 2 s) λ _.
    got (a_leaf (string (take (two s 0) (drop 2 s)))) (drop (two s 0) (drop 2 s))

-- the octets that hold n bits, and how many bits of them are spare
abbrev pub octets_for : ℕ → ℕ
octets_for n = (n + 7) / 8

abbrev pub spare_in : ℕ → ℕ
spare_in n = 8 * octets_for n - n

-- the bits behind the last one counted are 0
unfoldable pub own_bits : ℕ → List ℕ → Answer JudgingCause Node
own_bits l s =
    need l 2 s λ _.
    need l (octets_for (two s 0)) (drop 2 s) λ _.
    if (not (same (masked (spare_in (two s 0)) (take (octets_for (two s 0)) (drop 2 s))) (take (octets_for (two s 0)) (drop 2 s)))) (refused ValueShape l) λ _.
    got (a_leaf (bits (spare_in (two s 0)) (take (octets_for (two s 0)) (drop 2 s)))) (drop (octets_for (two s 0)) (drop 2 s))

unfoldable pub own_enumerated : ℕ → List ℕ → Answer JudgingCause Node
own_enumerated l s = need l 2 s λ _. got (a_leaf (enumerated (two s 0))) (drop 2 s)

-- seven octets of a time in range
unfoldable pub own_time : TimeKind → ℕ → List ℕ → Answer JudgingCause Node
own_time k l s =
    need l 7 s λ _.
    if (not (in_range k (time_at s 0))) (refused ValueShape l) λ _.
    got (a_leaf (time k (time_at s 0))) (drop 7 s)

unfoldable pub own_choice : ℕ → List ℕ → Answer JudgingCause Node
own_choice l s = need l 1 s λ _. got (a_choice (get_or s 0 0)) (drop 1 s)

-- the own part of a kind
unfoldable pub read_own : ℕ → ℕ → List ℕ → Answer JudgingCause Node
read_own l k s =
    if (eqb k 1) (own_boolean l s) λ _.
    if (eqb k 2) (own_integer l s) λ _.
    if (eqb k 3) (own_bits l s) λ _.
    if (eqb k 4) (own_string l s) λ _.
    if (eqb k 5) (got (a_leaf null) s) λ _.
    if (eqb k 10) (own_enumerated l s) λ _.
    if (eqb k 23) (own_time Utc l s) λ _.
    if (eqb k 24) (own_time Generalized l s) λ _.
    if (eqb k 16) (own_members a_sequence l s) λ _.
    if (eqb k 17) (own_members a_set l s) λ _.
    if (eqb k 48) (own_count a_sequence_of l s) λ _.
    if (eqb k 49) (own_count a_set_of l s) λ _.
    if (eqb k 50) (own_choice l s) λ _.
    refused ValueShape l

-- the mark 56 41, the kind, and the own part of that kind
unfoldable pub read_node : List ℕ → Answer JudgingCause Node
read_node s =
    need (length s) 3 s λ _.
    if (not (eqb (get_or s 0 0) 0x56)) (refused ValueShape (length s)) λ _.
    if (not (eqb (get_or s 1 0) 0x41)) (refused ValueShape (length s)) λ _.
    read_own (length s) (get_or s 2 0) (drop 3 s)

unfoldable pub leaf_kind : Leaf → ℕ
leaf_kind (boolean b) = 1
leaf_kind (integer z) = 2
leaf_kind (bits n c) = 3
leaf_kind (string c) = 4
leaf_kind null = 5
leaf_kind (enumerated k) = 10
leaf_kind (time k t) = time_number k

unfoldable pub node_kind : Node → ℕ
node_kind (a_leaf x) = leaf_kind x
node_kind (a_sequence bs) = 16
node_kind (a_set bs) = 17
node_kind (a_sequence_of n) = 48
node_kind (a_set_of n) = 49
node_kind (a_choice i) = 50

-- the numbers of an ENUMERATED
unfoldable pub numbers : Body → List ℕ
numbers (Plain Boolean) = []
numbers (Plain Integer) = []
numbers (Plain BitString) = []
numbers (Plain OctetString) = []
numbers (Plain Null) = []
numbers (Plain (Enumerated ns)) = ns
numbers (Plain (Time k)) = []
numbers (Sequence ms) = []
numbers (Set ms) = []
numbers (SequenceOf t) = []
numbers (SetOf t) = []
numbers (Choice ts) = []

unfoldable pub leaf_agrees : Body → Leaf → Bool
leaf_agrees b (boolean x) = true
leaf_agrees b (integer z) = true
leaf_agrees b (bits n c) = true
leaf_agrees b (string c) = true
leaf_agrees b null = true
leaf_agrees b (enumerated k) = listed (numbers b) k
leaf_agrees b (time k t) = true

-- as many as members, and the mandatory ones are present
unfoldable pub agreeing : List Member → List Bool → Bool
agreeing [] [] = true
agreeing [] (b ∷ bs) = false
agreeing (m ∷ ms) [] = false
agreeing (m ∷ ms) (b ∷ bs) = (b || m.optional) && agreeing ms bs

unfoldable pub counts : Body → Node → Bool
counts b (a_leaf x) = leaf_agrees b x
counts b (a_sequence bs) = agreeing (members b) bs
counts b (a_set bs) = agreeing (members b) bs
counts b (a_sequence_of n) = true
counts b (a_set_of n) = true
counts b (a_choice i) = ltb i (length (alternatives b))

-- a node agrees with its record: the same kind, as many members, no mandatory one missing, an alternative and a number that the record has
unfoldable pub agrees : Body → Node → Bool
agrees b x = eqb (node_kind x) (kind b) && counts b x

module _ (r : ℕ → List ℕ → Answer JudgingCause Value) where
  -- the present members, after those in hand
  unfoldable pub judge_members : List Member → List Bool → List (Option Value) → List ℕ → Answer JudgingCause (List (Option Value))
  judge_members [] bs os s = got os s
  judge_members (m ∷ ms) [] os s = got os s
  judge_members (m ∷ ms) (true ∷ bs) os s = then (r m.type s) λ v s₁. judge_members ms bs (os ++ (some v ∷ [])) s₁
  judge_members (m ∷ ms) (false ∷ bs) os s = judge_members ms bs (os ++ (none ∷ [])) s

  -- n elements, after those in hand
  unfoldable pub judge_elements : ℕ → ℕ → List Value → List ℕ → Answer JudgingCause (List Value)
  judge_elements zero t vs s = got vs s
  judge_elements (suc n) t vs s = then (r t s) λ v s₁. judge_elements n t (vs ++ (v ∷ [])) s₁

  -- the nodes below a node
  unfoldable pub judge_below : Body → Node → List ℕ → Answer JudgingCause Value
  judge_below b (a_leaf x) s = got (leaf x) s
  judge_below b (a_sequence bs) s = then (judge_members (members b) bs [] s) λ os s₁. got (sequence (slots os)) s₁
  judge_below b (a_set bs) s = then (judge_members (members b) bs [] s) λ os s₁. got (set (slots os)) s₁
  judge_below b (a_sequence_of n) s = then (judge_elements n (element b) [] s) λ vs s₁. got (sequence_of (bag vs)) s₁
  judge_below b (a_set_of n) s = then (judge_elements n (element b) [] s) λ vs s₁. got (set_of (bag vs)) s₁
  judge_below b (a_choice i) s = then (r (get_or (alternatives b) i 0) s) λ v s₁. got (choice i v) s₁

-- the node's own octets first (11), then its level (13), then its type (12); n levels are left
unfoldable pub judge_value : Table → ℕ → ℕ → List ℕ → Answer JudgingCause Value
judge_value T zero t s = then (read_node s) λ x s₁. refused ValueLevel (length s)
judge_value T (suc n) t s =
    then (read_node s) λ x s₁.
    if (not (agrees (T t).body x)) (refused IllTyped (length s)) λ _.
    judge_below (λ u w. judge_value T n u w) (T t).body x s₁

-- the whole: octets behind the tree are 11 at the first of them
unfoldable pub judge_whole : Table → ℕ → ℕ → List ℕ → Answer JudgingCause Value
judge_whole T n t s =
    then (judge_value T n t s) λ v r.
    if (not (none_left r)) (refused ValueShape (length r)) λ _. got v r
