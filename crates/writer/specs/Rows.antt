-- What stands in a node as a row, the types of the values below it in order; how a row is judged, and its form (FORMATS, "Values"; X.690, 8.9 to 8.13).
-- Assumes nothing.
use Rattle.std.specs.Prelude.{Bool, true, false, List, [], ◌∷◌, ◌++◌, ℕ, get_or, replicate}
use Rattle.coding.specs.declared.JudgingCause.{JudgingCause}
use Rattle.octets.specs.Answer.{Answer, got, then}
use Rattle.octets.specs.Lists.{joined}
use Rattle.table.specs.Syntax.{Member, Body, Table}
use Rattle.table.specs.Rules.{members}
use Rattle.coding.specs.Value.{Value, leaf, sequence, set, sequence_of, set_of, choice}
use Rattle.coding.specs.Form.{encode, element, alternatives, form_members, form_elements, form_at}
use Rattle.coding.specs.Judging.{Node, a_leaf, a_sequence, a_set, a_sequence_of, a_set_of, a_choice, judge_value}

-- the types of the members that are present
unfoldable pub present_of : List Member → List Bool → List ℕ
present_of [] bs = []
present_of (m ∷ ms) [] = []
present_of (m ∷ ms) (true ∷ bs) = m.type ∷ present_of ms bs
present_of (m ∷ ms) (false ∷ bs) = present_of ms bs

-- what stands in a node of a body
unfoldable pub row_of : Body → Node → List ℕ
row_of b (a_leaf x) = []
row_of b (a_sequence bs) = present_of (members b) bs
row_of b (a_set bs) = present_of (members b) bs
row_of b (a_sequence_of n) = replicate n (element b)
row_of b (a_set_of n) = replicate n (element b)
row_of b (a_choice i) = get_or (alternatives b) i 0 ∷ []

-- the values of a row, after those in hand, where r judges one
unfoldable pub judge_each : (ℕ → List ℕ → Answer JudgingCause Value) → List ℕ → List Value → List ℕ → Answer JudgingCause (List Value)
judge_each r [] vs s = got vs s
judge_each r (t ∷ ts) vs s = then (r t s) λ v s₁. judge_each r ts (vs ++ (v ∷ [])) s₁

-- the same with n levels left
abbrev pub judge_row : Table → ℕ → List ℕ → List ℕ → Answer JudgingCause (List Value)
judge_row T n ts s = judge_each (λ u w. judge_value T n u w) ts [] s

-- their forms, one after another
unfoldable pub row_form : Table → ℕ → List ℕ → List Value → List ℕ
row_form T n [] vs = []
row_form T n (t ∷ ts) [] = []
row_form T n (t ∷ ts) (v ∷ vs) = form_at T n t v ++ row_form T n ts vs

-- the contents of a value's innermost item; a CHOICE has no item of its own
unfoldable pub contents_form : Table → ℕ → Body → Value → List ℕ
contents_form T n b (leaf x) = encode x
contents_form T n b (sequence s) = joined (form_members (λ u c. form_at T n u c) (members b) s)
contents_form T n b (set s) = joined (form_members (λ u c. form_at T n u c) (members b) s)
contents_form T n b (sequence_of s) = joined (form_elements (λ u c. form_at T n u c) (element b) s)
contents_form T n b (set_of s) = joined (form_elements (λ u c. form_at T n u c) (element b) s)
contents_form T n b (choice i v) = form_at T n (get_or (alternatives b) i 0) v
