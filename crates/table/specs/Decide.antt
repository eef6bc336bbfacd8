-- The rules 2 to 6 (FORMATS, "Refusals") as tests that compute, over n records. That each agrees with its rule is proved in `proofs/`.
-- Assumes nothing.
use Rattle.std.specs.Prelude.{Bool, true, false, not, ◌&&◌, ◌||◌, List, [], ◌∷◌, ℕ, zero, suc, leb, eqb, get_or, replicate}
use Rattle.octets.specs.Lists.{any, all, tabulate}
use Rattle.table.specs.Syntax.{Tag, Body, Plain, Sequence, Set, SequenceOf, SetOf, Choice, Table, references, is_choice, universal}
use Rattle.table.specs.Rules.{below, siblings, runs_on}

-- what a rule finds of a record number, given what it has found of others
abbrev pub Step : Type 0
Step = (ℕ → Bool) → ℕ → Bool

-- the numbers below n that are marked, and those that the rule finds with these
unfoldable pub round : Step → ℕ → List Bool → List Bool
round step n v = tabulate (λ t. get_or v t false || step (λ u. get_or v u false) t) 0 n

unfoldable pub rounds : Step → ℕ → ℕ → List Bool
rounds step n zero = replicate n false
rounds step n (suc k) = round step n (rounds step n k)

-- the rule finds t, from nothing: n rounds are enough, since each but the last marks one of the n numbers
unfoldable pub found : Step → ℕ → ℕ → Bool
found step n t = get_or (rounds step n n) t false

-- 2: some number that the body names is not below n
unfoldable pub dangling : Table → ℕ → ℕ → Bool
dangling T n t = any (λ r. leb n r) (references (T t).body)

-- 3: of the tags that are left, the last is to be right and the others not UNIVERSAL
unfoldable pub wrong_tags : Body → List Tag → Bool
wrong_tags b [] = not (is_choice b)
wrong_tags b (g ∷ []) = eqb g.class 0 && (is_choice b || not (eqb g.number (universal b)))
wrong_tags b (g ∷ h ∷ gs) = eqb g.class 0 || wrong_tags b (h ∷ gs)

abbrev pub mistagged : Table → ℕ → Bool
mistagged T t = wrong_tags (T t).body (T t).tags

-- 4: what reaches u is u, and what has an alternative that reaches it
unfoldable pub reach_step : Table → ℕ → Step
reach_step T u m t = eqb t u || any m (below T t)

unfoldable pub circular : Table → ℕ → ℕ → Bool
circular T n t = any (found (reach_step T t) n) (below T t)

-- 5: two parts that begin with the outermost tag of some record
unfoldable pub same_tag : Tag → Tag → Bool
same_tag g h = eqb g.class h.class && eqb g.number h.number

unfoldable pub begins : Tag → List Tag → Bool
begins g [] = false
begins g (h ∷ hs) = same_tag g h

unfoldable pub first_step : Table → Tag → Step
first_step T g m t = begins g (T t).tags || any m (below T t)

-- g is a first tag of both a and c
unfoldable pub first_of_both : Table → ℕ → ℕ → ℕ → List Tag → Bool
first_of_both T n a c [] = false
first_of_both T n a c (g ∷ gs) = found (first_step T g) n a && found (first_step T g) n c

-- the outermost tag of some record is a first tag of both
unfoldable pub share : Table → ℕ → ℕ → ℕ → Bool
share T n a c = any (λ u. first_of_both T n a c (T u).tags) (tabulate (λ u. u) 0 n)

-- One of the list passes the test, and the run goes on up to it. `on` says of each part whether it goes on behind that, from the one before the list on.
unfoldable pub reached : (ℕ → Bool) → (ℕ → Bool) → List ℕ → Bool
reached on f [] = false
reached on f (c ∷ l) = on 0 && (f c || reached (λ k. on (suc k)) f l)

-- two of one run that the test relates, in the order of the list
unfoldable pub pair : (ℕ → Bool) → (ℕ → ℕ → Bool) → List ℕ → Bool
pair on f [] = false
pair on f (a ∷ l) = reached on (f a) l || pair (λ k. on (suc k)) f l

unfoldable pub sharing : Table → ℕ → ℕ → Bool
sharing T n t = pair (runs_on (T t).body) (share T n) (siblings (T t).body)

-- 6: whether a body has a finite value, if the marked records have
unfoldable pub finite_body : (ℕ → Bool) → Body → Bool
finite_body m (Plain k) = true
finite_body m (Sequence ms) = all (λ x. x.optional || m x.type) ms
finite_body m (Set ms) = all (λ x. x.optional || m x.type) ms
finite_body m (SequenceOf t) = true
finite_body m (SetOf t) = true
finite_body m (Choice ts) = any m ts

unfoldable pub finite_step : Table → Step
finite_step T m t = finite_body m (T t).body

unfoldable pub infinite : Table → ℕ → ℕ → Bool
infinite T n t = not (found (finite_step T) n t)
