-- The rules that a table of shaped records must keep, each for a record number t, and n records (FORMATS, "Tables" and "Refusals" 2 to 6).
-- Assumes nothing.
use Rattle.std.specs.Prelude.{Bool, true, false, ◌≡◌, ℕ, ◌≤◌, ◌<◌, length, get_or}
use mathlib.Core.List.{List, [], ◌∷◌, ◌++◌, map, Memᴰ as In}
use Rattle.table.specs.Syntax.{Tag, Member, Body, Plain, Sequence, Set, SequenceOf, SetOf, Choice, Record, Table, references, is_choice, universal}

-- 2: a body names a number that no record has (FORMATS, "Refusals")
pub record Dangling (T : Table) (n t : ℕ) : Type 0 where
  pub type : ℕ
  pub named : In type (references (T t).body)
  pub beyond : n ≤ type

-- 3: a kind other than CHOICE has no tag; or a UNIVERSAL tag stands before another, has not the number of its kind, or stands on a CHOICE (FORMATS, "Refusals")
pub data Mistagged (r : Record) : Type 0 where
  missing : r.tags ≡ [] → is_choice r.body ≡ false → Mistagged r
  not_last : (before after : List Tag) (g h : Tag) → r.tags ≡ before ++ (g ∷ h ∷ after) → g.class ≡ 0 → Mistagged r
  not_its_number : (before : List Tag) (g : Tag) → r.tags ≡ before ++ (g ∷ []) → g.class ≡ 0 → (g.number ≡ universal r.body → ⊥) → Mistagged r
  on_choice : (g : Tag) → In g r.tags → g.class ≡ 0 → is_choice r.body ≡ true → Mistagged r

-- the alternatives of a CHOICE without tags; of any other record nothing
unfoldable pub body_below : Body → List ℕ
body_below (Plain k) = []
body_below (Sequence ms) = []
body_below (Set ms) = []
body_below (SequenceOf t) = []
body_below (SetOf t) = []
body_below (Choice ts) = ts

unfoldable pub tags_below : List Tag → Body → List ℕ
tags_below [] b = body_below b
tags_below (g ∷ gs) b = []

abbrev pub below : Table → ℕ → List ℕ
below T t = tags_below (T t).tags (T t).body

-- u is t, or is reached from t through CHOICEs without tags alone
pub data Reaches (T : Table) (u : ℕ) : ℕ → Type 0 where
  here : Reaches T u u
  through : {t : ℕ} (a : ℕ) → In a (below T t) → Reaches T u a → Reaches T u t

-- 4: a CHOICE without tags comes back to itself through CHOICEs without tags alone (FORMATS, "Refusals")
pub record Circular (T : Table) (t : ℕ) : Type 0 where
  pub alternative : ℕ
  pub of : In alternative (below T t)
  pub back : Reaches T t alternative

-- g is a first tag of a record: its outermost tag or, of a CHOICE without tags, a first tag of an alternative (FORMATS, "Tables")
pub data First (T : Table) (g : Tag) : ℕ → Type 0 where
  outermost : {t : ℕ} (gs : List Tag) → (T t).tags ≡ g ∷ gs → First T g t
  inside : {t : ℕ} (a : ℕ) → In a (below T t) → First T g a → First T g t

-- members of a SEQUENCE or SET, alternatives of a CHOICE (FORMATS, "Tables")
unfoldable pub siblings : Body → List ℕ
siblings (Plain k) = []
siblings (Sequence ms) = references (Sequence ms)
siblings (Set ms) = references (Set ms)
siblings (SequenceOf t) = []
siblings (SetOf t) = []
siblings (Choice ts) = ts

-- Behind the part at place k its run goes on: in a SEQUENCE behind an optional member alone; the members of a SET are one run, and so are the alternatives of a CHOICE (FORMATS, "Tables").
unfoldable pub runs_on : Body → ℕ → Bool
runs_on (Plain s) k = true
runs_on (Sequence ms) k = get_or (map (λ m. m.optional) ms) k false
runs_on (Set ms) k = true
runs_on (SequenceOf t) k = true
runs_on (SetOf t) k = true
runs_on (Choice ts) k = true

-- two of the records ps have a first tag in common and stand in one run: it goes on behind each from the first of them up to, not with, the second
pub record Clash (T : Table) (ps : List ℕ) (on : ℕ → Bool) : Type 0 where
  pub i : ℕ
  pub j : ℕ
  pub apart : i < j
  pub within : j < length ps
  pub one_run : (k : ℕ) → i ≤ k → k < j → on k ≡ true
  pub tag : Tag
  pub first : First T tag (get_or ps i 0)
  pub second : First T tag (get_or ps j 0)

-- 5: two such parts of one record (FORMATS, "Refusals")
abbrev pub Sharing : Table → ℕ → Type 0
Sharing T t = Clash T (siblings (T t).body) (runs_on (T t).body)

-- members with their flags
unfoldable pub members : Body → List Member
members (Plain k) = []
members (Sequence ms) = ms
members (Set ms) = ms
members (SequenceOf t) = []
members (SetOf t) = []
members (Choice ts) = []

-- A record has a finite value: a SEQUENCE or SET if each mandatory member has one, a CHOICE if one alternative has. A list may be empty (FORMATS, "Tables").
pub data Finite (T : Table) : ℕ → Type 0 where
  all_mandatory : {t : ℕ} → is_choice (T t).body ≡ false
      → ((m : Member) → In m (members (T t).body) → m.optional ≡ false → Finite T m.type) → Finite T t
  one_alternative : {t : ℕ} (ts : List ℕ) (a : ℕ) → (T t).body ≡ Choice ts → In a ts → Finite T a → Finite T t

-- 6: it has none (FORMATS, "Refusals")
abbrev pub Infinite : Table → ℕ → Type 0
Infinite T t = Finite T t → ⊥
