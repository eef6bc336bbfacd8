-- The octet of each kind in tables and values, its place among the kinds, and the kind that an octet counts as (FORMATS, "Tables").
-- Assumes nothing.
use Rattle.std.specs.Prelude.{List, [], ◌∷◌, ℕ, eqb, get_or}
use Rattle.octets.specs.Tests.{if}
use Rattle.kinds.specs.declared.Kind.{Kind}
use Rattle.kinds.specs.declared.Kind.TheVariants.{Boolean, Integer, BitString, OctetString, Null, Enumerated, UtcTime, GeneralizedTime, Sequence, Set, SequenceOf, SetOf, Choice, Message}

-- 51 is no record's: what stands in a message is one item
abbrev pub octet_of : Kind → ℕ
octet_of Boolean = 1
octet_of Integer = 2
octet_of BitString = 3
octet_of OctetString = 4
octet_of Null = 5
octet_of Enumerated = 10
octet_of UtcTime = 23
octet_of GeneralizedTime = 24
octet_of Sequence = 16
octet_of Set = 17
octet_of SequenceOf = 48
octet_of SetOf = 49
octet_of Choice = 50
octet_of Message = 51

-- the kinds are numbered from 0
abbrev pub place_of : Kind → ℕ
place_of Boolean = 0
place_of Integer = 1
place_of BitString = 2
place_of OctetString = 3
place_of Null = 4
place_of Enumerated = 5
place_of UtcTime = 6
place_of GeneralizedTime = 7
place_of Sequence = 8
place_of Set = 9
place_of SequenceOf = 10
place_of SetOf = 11
place_of Choice = 12
place_of Message = 13

-- those of records, by their places
abbrev pub kinds : List Kind
kinds =
    Boolean ∷ Integer ∷ BitString ∷ OctetString ∷ Null ∷ Enumerated ∷ UtcTime ∷ GeneralizedTime ∷ Sequence ∷ Set ∷ SequenceOf ∷ SetOf ∷ Choice ∷ []

-- the kind at a place; a message from the last on
unfoldable pub kind_at : ℕ → Kind
kind_at n = get_or kinds n Message

-- the kind that has an octet; a message if no record's kind has it
abbrev pub kind_among : ℕ → List Kind → Kind
kind_among n [] = Message
kind_among n (k ∷ ks) = if (eqb (octet_of k) n) k λ _. kind_among n ks

unfoldable pub kind_of : ℕ → Kind
kind_of n = kind_among n kinds
