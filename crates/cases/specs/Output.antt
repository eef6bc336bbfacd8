-- What the program of cases prints (FORMATS, "The program of cases"): a line for each case, as octets of ASCII.
-- Assumes nothing.
use Rattle.std.specs.Prelude.{cond, false, List, [], ◌∷◌, ◌++◌, ℕ, zero, suc, ◌/◌, ◌%◌, eqb, take, replicate}
use Rattle.std.specs.Fmt.{digit_glyph}
use Rattle.coding.specs.Outcome.{number_of, place_of, Told, done, refusal, Outcome}
use Rattle.coding.specs.Calls.{check_answer, whole_write, whole_read}
use Rattle.table.specs.Verdict.{verdict}
use Rattle.cases.specs.declared.case.Operation.{Operation}
use Rattle.cases.specs.declared.case.Operation.TheVariants.{Check, Write, Read}

-- the octet of a digit: `0` to `9`, then `a` to `f`
abbrev pub digit : ℕ → ℕ
digit = digit_glyph false

-- FORMATS, "The program of cases": the digits of a number, ones last and no zero in front; zero has none. The first argument bounds how many are looked for.
unfoldable pub figures : ℕ → ℕ → List ℕ
figures zero n = []
figures (suc k) zero = []
figures (suc k) (suc n) = figures k (suc n / 10) ++ (digit (suc n % 10) ∷ [])

-- FORMATS, "The program of cases": a number in decimal, in as few digits as it takes, and in one if it is zero.
unfoldable pub decimal : ℕ → List ℕ
decimal n = figures n (n / 10) ++ (digit (n % 10) ∷ [])

-- FORMATS, "The program of cases": an octet is two digits of small hexadecimal, sixteens before ones.
unfoldable pub pair : ℕ → List ℕ
pair o = digit (o / 16) ∷ digit (o % 16) ∷ []

-- FORMATS, "The program of cases": octets in hexadecimal, with nothing between them.
unfoldable pub hexadecimal : List ℕ → List ℕ
hexadecimal [] = []
hexadecimal (o ∷ s) = pair o ++ hexadecimal s

-- FORMATS, "The program of cases": a result stands behind a space; an empty one, as a check has, adds nothing.
unfoldable pub shown : List ℕ → List ℕ
shown [] = []
shown (o ∷ s) = 32 ∷ hexadecimal (o ∷ s)

-- ` ok`, ` no `, ` cut`, a space and a line feed, which ends each line
abbrev pub ok : List ℕ
ok = 32 ∷ 111 ∷ 107 ∷ []

abbrev pub no : List ℕ
no = 32 ∷ 110 ∷ 111 ∷ 32 ∷ []

abbrev pub cut : List ℕ
cut = 32 ∷ 99 ∷ 117 ∷ 116 ∷ []

abbrev pub space : List ℕ
space = 32 ∷ []

abbrev pub feed : List ℕ
feed = 10 ∷ []

-- FORMATS, "The program of cases": the case's number, and what it left in the buffer.
unfoldable pub done_line : ℕ → List ℕ → List ℕ
done_line number result = decimal number ++ ok ++ shown result ++ feed

-- FORMATS, "The program of cases": the case's number, the refusal's number n and its place p.
unfoldable pub refused_line : ℕ → ℕ → ℕ → List ℕ
refused_line number n p = decimal number ++ no ++ (decimal n ++ space ++ decimal p) ++ feed

-- FORMATS, "The program of cases": a case that the input cuts off, or that is none.
unfoldable pub cut_line : ℕ → List ℕ
cut_line number = decimal number ++ cut ++ feed

-- FORMATS, "The program of cases": the line for an answer, where buf is what the lent buffer then holds; a result is as long as the answer says.
unfoldable pub output_line : ℕ → Told → List ℕ → List ℕ
output_line number (done n) buf = done_line number (take n buf)
output_line number (refusal r) buf = refused_line number (number_of r) (place_of r)

-- FORMATS, "The program of cases": the engine is lent a buffer of 16,384 octets.
unfoldable pub lent : List ℕ
lent = replicate 16384 0

-- the octet that tells an operation
abbrev pub octet_of : Operation → ℕ
octet_of Check = 0
octet_of Write = 1
octet_of Read = 2

-- FORMATS, "The program of cases": operation 0 checks the table, 1 writes the data, a value, as a message, 2 reads the data, a message. There is no other.
unfoldable pub case_outcome : ℕ → ℕ → List ℕ → List ℕ → Outcome
case_outcome operation t table d =
    cond (eqb operation 0) (record { answer = check_answer (verdict table); buffer = lent })
    (cond (eqb operation 1) (whole_write table t d lent)
    (whole_read table t d lent))

-- FORMATS, "The program of cases": the line of a case with a number, from its operation, type, table and data.
unfoldable pub case_line : ℕ → ℕ → ℕ → List ℕ → List ℕ → List ℕ
case_line number operation t table d = output_line number (case_outcome operation t table d).answer (case_outcome operation t table d).buffer

-- What the longest line has: twenty digits, ` ok `, two digits for each of 16,384 octets, a line feed.
abbrev pub longest : ℕ
longest = 32793
