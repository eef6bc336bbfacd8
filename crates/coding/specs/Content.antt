-- Contents of the simple kinds that a sender may send (X.690, 8.2 to 8.8; FORMATS, "Messages" and "Times").
-- Assumes nothing.
use Rattle.std.specs.Prelude.{Bool, true, not, List, [], ◌∷◌, ◌≡◌, ℕ, ◌≤◌, eqb, pos, length}
use Rattle.std.proofs.Math.Option.{Option, some, none}
use Rattle.octets.specs.Lists.{any}
use Rattle.x690.specs.Integer.{integer_of, minimal}
use Rattle.x690.specs.BitString.{unused, masked}
use Rattle.x690.specs.Time.{time_digits}
use Rattle.x690.specs.Segments.{Kind, bit_string, octet_string}
use Rattle.dates.specs.declared.TimeKind.{TimeKind}
use Rattle.dates.specs.declared.DateTime.{DateTime}
use Rattle.dates.specs.Calendar.{in_range}
use Rattle.table.specs.Syntax.{Simple, Boolean, Integer, BitString, OctetString, Null, Enumerated, Time}
use Rattle.coding.specs.Value.{Leaf, boolean, integer, bits, string, null, enumerated, time}

-- the number is one of the list
unfoldable pub listed : List ℕ → ℕ → Bool
listed ns k = any (λ n. eqb n k) ns

-- The contents that may be sent for a leaf. 8.2: false is 00, true any other octet. 8.3, 8.4: INTEGER and ENUMERATED in two's complement, in the
-- fewest octets and at most 8; an ENUMERATED number is one of the list. 8.6: bits that are not used may be set.
-- 8.7: the octets of an OCTET STRING. 8.8: a NULL has none. A time in range has its digits and Z, in one form.
pub data Content : Simple → Leaf → List ℕ → Type 0 where
  c_boolean : {x : ℕ} → Content Boolean (boolean (not (eqb x 0))) (x ∷ [])
  c_integer : {c : List ℕ} → minimal c ≡ true → length c ≤ 8 → Content Integer (integer (integer_of c)) c
  c_bits : {n : ℕ} {c : List ℕ} → unused n c ≡ true → Content BitString (bits n (masked n c)) (n ∷ c)
  c_string : {c : List ℕ} → Content OctetString (string c) c
  c_null : Content Null null []
  c_enumerated : {ns c : List ℕ} {k : ℕ} → minimal c ≡ true → length c ≤ 8 → integer_of c ≡ pos k → listed ns k ≡ true → Content (Enumerated ns) (enumerated k) c
  c_time : {k : TimeKind} {t : DateTime} → in_range k t ≡ true → Content (Time k) (time k t) (time_digits k t)

-- 8.6.1, 8.7.1: the strings may be sent in segments too, which join to such contents
unfoldable pub segmented : Simple → Option Kind
segmented Boolean = none
segmented Integer = none
segmented BitString = some bit_string
segmented OctetString = some octet_string
segmented Null = none
segmented (Enumerated ns) = none
segmented (Time k) = none
