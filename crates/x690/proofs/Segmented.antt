-- What is read of some strings in segments, and where some are refused (X.690, 8.6.4 and 8.7.3). The laws of segments cite what stands last, so
-- that a wrong definition is refused at a case first.
-- Assumes nothing.
use mathlib.Core.Bool.{Bool, true, false, ◌||◌}
use mathlib.Core.List.{List, [], ◌∷◌}
use mathlib.Core.Option.{some}
use mathlib.Core.Path.{◌≡◌, refl}
use Prim.Native.Nat.{ℕ}
use Rattle.x690.specs.declared.ReadingCause.{ReadingCause}
use Rattle.x690.specs.declared.ReadingCause.TheVariants.{Cut, Forbidden, NotAwaited, Contents, MessageLevel, LengthField}
use Rattle.octets.specs.Answer.{Answer, got, refused, if, then, behind, none_left}
use Rattle.octets.specs.Lists.{same}
use Rattle.x690.specs.BitString.{unused}
use Rattle.x690.specs.Identifier.{leading, identifier}
use Rattle.x690.specs.Reading.{read_following, read_identifier, passes, fit, read_length, at_end, read_header, inside, read_constructed, contents, read_primitive}
use Rattle.x690.specs.Segments.{Kind, bit_string, octet_string, segment_tag, in_parts, empty, join, in_form, whole, read_joined, read_segment, read_carried}

-- a string with the tag [UNIVERSAL 3] or [UNIVERSAL 4], or with another
abbrev bits : List ℕ → Answer ReadingCause (List ℕ)
bits m = read_carried (some bit_string) (0x03 ∷ []) m

abbrev octets : List ℕ → Answer ReadingCause (List ℕ)
octets m = read_carried (some octet_string) (0x04 ∷ []) m

abbrev tagged : List ℕ → Answer ReadingCause (List ℕ)
tagged m = read_carried (some octet_string) (0x80 ∷ []) m

-- each case comes out as the readings say
pub cases_read :
    -- segments nest four deep, and no fifth
    (octets (0x24 ∷ 0x80 ∷ 0x24 ∷ 0x80 ∷ 0x24 ∷ 0x80 ∷ 0x24 ∷ 0x80 ∷ 0x04 ∷ 0x01 ∷ 0xAA ∷ 0x00 ∷ 0x00 ∷ 0x00 ∷ 0x00 ∷ 0x00 ∷ 0x00 ∷ 0x00 ∷ 0x00 ∷ []) ≡ got (0xAA ∷ []) [])
    × (octets (0x24 ∷ 0x80 ∷ 0x24 ∷ 0x80 ∷ 0x24 ∷ 0x80 ∷ 0x24 ∷ 0x80 ∷ 0x24 ∷ 0x80 ∷ 0x04 ∷ 0x01 ∷ 0xAA ∷ 0x00 ∷ 0x00 ∷ 0x00 ∷ 0x00 ∷ 0x00 ∷ 0x00 ∷ 0x00 ∷ 0x00 ∷ 0x00 ∷ 0x00 ∷ []) ≡ refused MessageLevel 13)
    -- whatever tag the string has, its segments have the UNIVERSAL one
    × (tagged (0xA0 ∷ 0x03 ∷ 0x04 ∷ 0x01 ∷ 0xAA ∷ []) ≡ got (0xAA ∷ []) [])
    × (tagged (0xA0 ∷ 0x03 ∷ 0x80 ∷ 0x01 ∷ 0xAA ∷ []) ≡ refused NotAwaited 3)
    × (octets (0x24 ∷ 0x03 ∷ 0x03 ∷ 0x01 ∷ 0x00 ∷ []) ≡ refused NotAwaited 3)
    -- unused bits before a further segment, once its identifier is there and awaited; a segment in segments too
    × (bits (0x23 ∷ 0x05 ∷ 0x03 ∷ 0x02 ∷ 0x04 ∷ 0xF0 ∷ 0x03 ∷ []) ≡ refused Contents 5)
    × (bits (0x23 ∷ 0x05 ∷ 0x03 ∷ 0x02 ∷ 0x04 ∷ 0xF0 ∷ 0x04 ∷ []) ≡ refused NotAwaited 1)
    × (bits (0x23 ∷ 0x05 ∷ 0x03 ∷ 0x02 ∷ 0x04 ∷ 0xF0 ∷ 0x1F ∷ []) ≡ refused Cut 1)
    × (bits (0x23 ∷ 0x0A ∷ 0x23 ∷ 0x04 ∷ 0x03 ∷ 0x02 ∷ 0x04 ∷ 0xF0 ∷ 0x03 ∷ 0x02 ∷ 0x00 ∷ 0xAA ∷ []) ≡ refused Contents 8)
    × (bits (0x23 ∷ 0x80 ∷ 0x23 ∷ 0x80 ∷ 0x03 ∷ 0x02 ∷ 0x04 ∷ 0xF0 ∷ 0x00 ∷ 0x00 ∷ 0x03 ∷ 0x01 ∷ 0x00 ∷ 0x00 ∷ 0x00 ∷ []) ≡ refused Contents 11)
    -- the last segment alone has them, and they are those of the string
    × (bits (0x23 ∷ 0x06 ∷ 0x23 ∷ 0x04 ∷ 0x03 ∷ 0x02 ∷ 0x04 ∷ 0xF0 ∷ []) ≡ got (0x04 ∷ 0xF0 ∷ []) [])
    × (bits (0x23 ∷ 0x09 ∷ 0x03 ∷ 0x02 ∷ 0x00 ∷ 0x0A ∷ 0x03 ∷ 0x03 ∷ 0x04 ∷ 0x3B ∷ 0xF5 ∷ []) ≡ got (0x04 ∷ 0x0A ∷ 0x3B ∷ 0xF5 ∷ []) [])
    -- in the order in which they came
    × (octets (0x24 ∷ 0x07 ∷ 0x04 ∷ 0x02 ∷ 0xAA ∷ 0xBB ∷ 0x04 ∷ 0x01 ∷ 0xCC ∷ []) ≡ got (0xAA ∷ 0xBB ∷ 0xCC ∷ []) [])
    -- a primitive segment has contents of its kind, and no indefinite length
    × (bits (0x23 ∷ 0x02 ∷ 0x03 ∷ 0x00 ∷ []) ≡ refused Contents 2)
    × (octets (0x24 ∷ 0x80 ∷ 0x04 ∷ 0x80 ∷ []) ≡ refused Forbidden 2)
    -- nor a length of five octets, primitive or not
    × (octets (0x24 ∷ 0x80 ∷ 0x04 ∷ 0x85 ∷ []) ≡ refused LengthField 2)
    × (octets (0x24 ∷ 0x80 ∷ 0x24 ∷ 0x85 ∷ []) ≡ refused LengthField 2)
    -- no segment at all
    × (octets (0x24 ∷ 0x00 ∷ []) ≡ got [] [])
    × (bits (0x23 ∷ 0x80 ∷ 0x00 ∷ 0x00 ∷ []) ≡ got (0x00 ∷ []) [])
    -- 00 00 closes no definite string
    × (octets (0x24 ∷ 0x02 ∷ 0x00 ∷ 0x00 ∷ []) ≡ refused NotAwaited 2)
unfolding if then behind none_left same unused leading identifier segment_tag in_parts empty join in_form whole read_following read_identifier passes fit
    read_length at_end read_header inside read_constructed contents read_primitive read_joined read_segment read_carried
cases_read = (refl, refl, refl, refl, refl, refl, refl, refl, refl, refl, refl, refl, refl, refl, refl, refl, refl, refl, refl, refl)

-- the tests by which segments are told, on their own tags and on no segment
pub awaits : (k : Kind) (t : Bool) → (same (segment_tag k false) (segment_tag k t) || same (segment_tag k true) (segment_tag k t)) ≡ true
unfolding segment_tag identifier leading same if
awaits bit_string true = refl
awaits bit_string false = refl
awaits octet_string true = refl
awaits octet_string false = refl

pub other_bit : (k : Kind) → same (segment_tag k true) (segment_tag k false) ≡ false
unfolding segment_tag identifier leading same if
other_bit bit_string = refl
other_bit octet_string = refl

pub whole_empty : (k : Kind) → whole k (empty k) ≡ true
unfolding whole empty
whole_empty bit_string = refl
whole_empty octet_string = refl
