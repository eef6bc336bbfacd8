-- The writer's form of a value: shortest definite lengths, members in the table's order, elements in the value's (FORMATS, "Messages").
-- Assumes nothing.
use Rattle.std.specs.Prelude.{List, [], ◌∷◌, Bool, true, false, ℕ, zero, suc, get_or, pos}
use Rattle.octets.specs.Lists.{joined}
use Rattle.x690.specs.Item.{item}
use Rattle.x690.specs.Integer.{fewest_of}
use Rattle.x690.specs.Time.{time_digits}
use Rattle.table.specs.Syntax.{Member, Body, Plain, Sequence, Set, SequenceOf, SetOf, Choice, Table}
use Rattle.table.specs.Rules.{members}
use Rattle.coding.specs.Value.{Value, leaf, sequence, set, sequence_of, set_of, choice, Slots, end, missing, present, Leaf, boolean, integer, bits, string, null, enumerated, time}
use Rattle.coding.specs.Tags.{own_tag, explicit}

-- true is FF, unused bits are 0
abbrev pub truth : Bool → ℕ
truth true = 0xFF
truth false = 0

unfoldable pub encode : Leaf → List ℕ
encode (boolean b) = truth b ∷ []
encode (integer z) = fewest_of z
encode (bits n c) = n ∷ c
encode (string c) = c
encode null = []
encode (enumerated k) = fewest_of (pos k)
encode (time k t) = time_digits k t

-- the type of the elements
unfoldable pub element : Body → ℕ
element (Plain k) = 0
element (Sequence ms) = 0
element (Set ms) = 0
element (SequenceOf t) = t
element (SetOf t) = t
element (Choice ts) = 0

unfoldable pub alternatives : Body → List ℕ
alternatives (Plain k) = []
alternatives (Sequence ms) = []
alternatives (Set ms) = []
alternatives (SequenceOf t) = []
alternatives (SetOf t) = []
alternatives (Choice ts) = ts

module _ (w : ℕ → Value → List ℕ) where
  unfoldable pub form_members : List Member → Slots → List (List ℕ)
  form_members [] s = []
  form_members (m ∷ ms) end = []
  form_members (m ∷ ms) (missing s) = form_members ms s
  form_members (m ∷ ms) (present v s) = w m.type v ∷ form_members ms s

  unfoldable pub form_elements : ℕ → Slots → List (List ℕ)
  form_elements t end = []
  form_elements t (missing s) = form_elements t s
  form_elements t (present v s) = w t v ∷ form_elements t s

  unfoldable pub form_body : List ℕ → Body → Value → List ℕ
  form_body i b (leaf x) = item i (encode x)
  form_body i b (sequence s) = item i (joined (form_members (members b) s))
  form_body i b (set s) = item i (joined (form_members (members b) s))
  form_body i b (sequence_of s) = item i (joined (form_elements (element b) s))
  form_body i b (set_of s) = item i (joined (form_elements (element b) s))
  form_body i b (choice n v) = w (get_or (alternatives b) n 0) v

-- in items with the identifier octets `is` around it
unfoldable pub wrap : List (List ℕ) → List ℕ → List ℕ
wrap [] m = m
wrap (i ∷ is) m = item i (wrap is m)

-- the form of a value of at most n levels
unfoldable pub form_at : Table → ℕ → ℕ → Value → List ℕ
form_at T zero t v = []
form_at T (suc n) t v = wrap (explicit (T t)) (form_body (λ u c. form_at T n u c) (own_tag (T t)) (T t).body v)
