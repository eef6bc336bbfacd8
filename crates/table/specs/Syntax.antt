-- A type table as abstract syntax (FORMATS, "Tables").
-- Assumes nothing.
use Rattle.std.specs.Prelude.{Bool, true, false, List, [], ◌∷◌, map, ℕ, zero, suc}
use Rattle.dates.specs.declared.TimeKind.{TimeKind}
use Rattle.dates.specs.declared.TimeKind.TheVariants.{Utc, Generalized}

-- the class is 0 UNIVERSAL, 1 APPLICATION, 2 context-specific, 3 PRIVATE (FORMATS, "Tables")
pub record Tag : Type 0 where
  pub class : ℕ
  pub number : ℕ

-- the number of the member's record, and whether the member may be missing (FORMATS, "Tables")
pub record Member : Type 0 where
  pub type : ℕ
  pub optional : Bool

-- the kinds that name no other record; ENUMERATED with its numbers; UTCTime and GeneralizedTime
pub data Simple : Type 0 where
  Boolean : Simple
  Integer : Simple
  BitString : Simple
  OctetString : Simple
  Null : Simple
  Enumerated : List ℕ → Simple
  Time : TimeKind → Simple

-- a kind with its own part
pub data Body : Type 0 where
  Plain : Simple → Body
  Sequence : List Member → Body
  Set : List Member → Body
  SequenceOf : ℕ → Body
  SetOf : ℕ → Body
  Choice : List ℕ → Body

-- the outermost tag stands first (FORMATS, "Tables")
pub record Record : Type 0 where
  pub tags : List Tag
  pub body : Body

-- Records by their numbers. A number without a record stands for `absent`.
abbrev pub Table : Type 0
Table = ℕ → Record

abbrev pub absent : Record
absent = record { tags = []; body = Choice [] }

-- the table of a list of records
unfoldable pub table : List Record → Table
table [] t = absent
table (r ∷ rs) zero = r
table (r ∷ rs) (suc t) = table rs t

-- the record numbers that a body names
unfoldable pub references : Body → List ℕ
references (Plain k) = []
references (Sequence ms) = map (λ m. m.type) ms
references (Set ms) = map (λ m. m.type) ms
references (SequenceOf t) = t ∷ []
references (SetOf t) = t ∷ []
references (Choice ts) = ts

unfoldable pub is_choice : Body → Bool
is_choice (Plain k) = false
is_choice (Sequence ms) = false
is_choice (Set ms) = false
is_choice (SequenceOf t) = false
is_choice (SetOf t) = false
is_choice (Choice ts) = true

-- the UNIVERSAL number of a kind; a CHOICE has none, and 0 is no kind's (FORMATS, "Tables")
unfoldable pub universal : Body → ℕ
universal (Plain Boolean) = 1
universal (Plain Integer) = 2
universal (Plain BitString) = 3
universal (Plain OctetString) = 4
universal (Plain Null) = 5
universal (Plain (Enumerated ns)) = 10
universal (Plain (Time Utc)) = 23
universal (Plain (Time Generalized)) = 24
universal (Sequence ms) = 16
universal (Set ms) = 17
universal (SequenceOf t) = 16
universal (SetOf t) = 17
universal (Choice ts) = 0

-- X.690, 8.2 to 8.12: the simple kinds are primitive, the others constructed
unfoldable pub constructed : Body → Bool
constructed (Plain k) = false
constructed (Sequence ms) = true
constructed (Set ms) = true
constructed (SequenceOf t) = true
constructed (SetOf t) = true
constructed (Choice ts) = true
