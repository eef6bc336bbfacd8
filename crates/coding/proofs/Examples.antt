-- Document 01's examples in one table that one fact covers: what the definitions answer to octets, and what the lent buffer then holds.
-- The rows that the paper marks come first, then a row or more for each refusal, then strings in segments, then times; reckonings with times and conversions of them have tables of their own (`Reckoning`, `Conversion`). Quoted words are sections of docs/FORMATS.md.
-- Assumes nothing.
use mathlib.Core.Bool.{Bool}
use mathlib.Core.List.{List, [], ◌∷◌, ◌++◌}
use mathlib.Core.Path.{◌≡◌, refl}
use Prim.Native.Nat.{ℕ, suc, ◌/◌}
use lib.ListN.{length, drop, replicate}
use Rattle.octets.specs.Answer.{if, then, behind, none_left}
use Rattle.octets.specs.Lists.{any, all, joined, tabulate, lowest_from, same}
use Rattle.dates.specs.Calendar.{leap, february, month_days, years, is_date, is_time_of_day, in_range}
use Rattle.dates.specs.Own.{time_octets, time_at}
use Rattle.x690.specs.Identifier.{leading, following, identifier}
use Rattle.x690.specs.Length.{unsigned, digits, length_octets}
use Rattle.x690.specs.Item.{item}
use Rattle.x690.specs.Integer.{negative, pile, integer_of, spare, minimal, eight, fewest}
use Rattle.x690.specs.BitString.{unused, masked}
use Rattle.x690.specs.Time.{two_digits, year_digits, later_digits, time_digits, spelled, time_of, is_time}
use Rattle.x690.specs.Reading.{read_following, read_identifier, fit, read_long, read_length, at_end, read_header, inside, read_constructed, contents, read_primitive}
use Rattle.x690.specs.Segments.{segment_tag, in_parts, empty, join, in_form, whole, read_joined, read_segment, read_carried}
use Rattle.table.specs.Syntax.{references, is_choice, universal, constructed}
use Rattle.table.specs.Octets.{kind, rising}
use Rattle.table.specs.Rules.{body_below, tags_below, siblings, runs_on, members}
use Rattle.table.specs.Reading.{tags_at, numbers_at, members_at, every_at, body_at, record_at, counted_end, enumerated_end, members_end, own_end, record_end, scan_from, scan, look}
use Rattle.table.specs.Decide.{round, rounds, found, dangling, wrong_tags, reach_step, circular, same_tag, begins as tag_begins, first_step, first_of_both}
use Rattle.table.specs.Decide.{share, reached, pair, sharing, finite_body, finite_step, infinite}
use Rattle.table.specs.Verdict.{judge_choices, judge, verdict}
use Rattle.coding.specs.Value.{slots, bag, leaf_octets, count, presence, octets}
use Rattle.coding.specs.Content.{listed, segmented}
use Rattle.coding.specs.Tags.{identifier_of, last, before, explicit_tags, own_tag, explicit}
use Rattle.coding.specs.Encodes.{allowed}
use Rattle.coding.specs.Form.{encode, element, alternatives, form_members, form_elements, form_body, wrap, form_at}
use Rattle.coding.specs.Judging.{need, flags, own_members, own_count, own_boolean, own_integer, own_string, own_bits, own_enumerated, own_time, own_choice}
use Rattle.coding.specs.Judging.{read_own, read_node, leaf_kind, node_kind, numbers, leaf_agrees, agreeing, counts, agrees, judge_members}
use Rattle.coding.specs.Judging.{judge_elements, judge_below, judge_value, judge_whole}
use Rattle.coding.specs.Awaited.{begins_body, begins_item, begins_in, begins}
use Rattle.coding.specs.Reading.{is_listed, decode, passes, begun, not_awaited, nothing, full, unwanted, read_wrapped, read_sequence, place_member}
use Rattle.coding.specs.Reading.{read_set, read_many, choose, read_body, read_kind, read_value, read_message}
use Rattle.coding.specs.Calls.{after_reading, read_outcome, after_judging, write_outcome, after_check, whole_write, whole_read, check_answer}
use Rattle.coding.specs.Outcome.{Outcome, Told, done, refusal, number_of, place_of}

-- at most 64 octets as one hexadecimal number; the first is not 00
abbrev hex : ℕ → List ℕ
hex n = digits 64 n []

abbrev times : ℕ → List ℕ → List ℕ
times n w = joined (replicate n w)

-- B, I, L, S of document 01; a BIT STRING and an OCTET STRING
abbrev B : List ℕ
B = hex 0x54_59_01_01_00_00_01

abbrev I : List ℕ
I = hex 0x54_59_02_01_00_00_02

abbrev L : List ℕ
L = hex 0x54_59_30_01_00_00_10_00

abbrev S : List ℕ
S = hex 0x54_59_02_01_02_00_00 ++ B ++ hex 0x54_59_11_01_00_00_11_02_00_00_01_01

abbrev T : List ℕ
T = hex 0x54_59_03_01_00_00_03

abbrev O : List ℕ
O = hex 0x54_59_04_01_00_00_04

-- a UTCTime and a GeneralizedTime
abbrev U : List ℕ
U = hex 0x54_59_17_01_00_00_17

abbrev G : List ℕ
G = hex 0x54_59_18_01_00_00_18

-- a list of a CHOICE without tags of this list and an OCTET STRING
abbrev tree : List ℕ
tree = hex 0x54_59_30_01_00_00_10_01_54_59_32_00_02_00_02 ++ O

-- B, I, and as record 2 a SEQUENCE: of each member its record, and 1 if it is optional
abbrev sequence : List ℕ → List ℕ
sequence ms = B ++ I ++ hex 0x54_59_10_01_00_00_10 ++ (length ms / 2 ∷ ms)

-- the nodes of true and of 5; a list in n others, each the only element of the next
abbrev yea : List ℕ
yea = hex 0x56_41_01_01

abbrev five : List ℕ
five = hex 0x56_41_02_00_00_00_00_00_00_00_05

abbrev nested : ℕ → List ℕ
nested n = times n (hex 0x56_41_30_00_01) ++ hex 0x56_41_30_00_00

-- the octets that are written; or the number and the place of a refusal
pub data Said : Type 0 where
  ok : List ℕ → Said
  no : ℕ → ℕ → Said

-- a table, a type, a value or a message, what is said; 200 octets are lent, or so many
pub data Example : Type 0 where
  checks : List ℕ → Said → Example
  writes reads : List ℕ → ℕ → List ℕ → Said → Example
  into : ℕ → Example → Example

-- the answer and behind it the buffer: as they should be, and as they are
abbrev said : Said → List ℕ → List ℕ
said (ok w) buf = 0 ∷ length w ∷ (w ++ drop (length w) buf)
said (Said.no n p) buf = 1 ∷ n ∷ p ∷ buf

abbrev shown : Told → List ℕ → List ℕ
shown (done n) buf = 0 ∷ n ∷ buf
shown (refusal r) buf = 1 ∷ number_of r ∷ place_of r ∷ buf

abbrev agree : Outcome → Said → List ℕ → Bool
agree o x buf = same (shown o.answer o.buffer) (said x buf)

abbrev right : List ℕ → Example → Bool
right buf (checks b x) = same (shown (check_answer (verdict b)) []) (said x [])
right buf (writes b t v x) = agree (whole_write b t v buf) x buf
right buf (reads b t m x) = agree (whole_read b t m buf) x buf
right buf (into n e) = right (replicate n 0xEE) e

-- the places of the rows that come out otherwise, counted from k
abbrev wrong : ℕ → List Example → List ℕ
wrong k [] = []
wrong k (e ∷ es) = if (right (replicate 200 0xEE) e) (wrong (suc k) es) λ _. k ∷ wrong (suc k) es

abbrev pub examples : List Example
examples =
    -- MARKED BY DOCUMENT 01. "Messages": INTEGER 127, 128, -128 and -129 in the fewest octets
    writes I 0 (hex 0x56_41_02_00_00_00_00_00_00_00_7F) (ok (hex 0x02_01_7F))
    ∷ writes I 0 (hex 0x56_41_02_00_00_00_00_00_00_00_80) (ok (hex 0x02_02_00_80))
    ∷ writes I 0 (hex 0x56_41_02_FF_FF_FF_FF_FF_FF_FF_80) (ok (hex 0x02_01_80))
    ∷ writes I 0 (hex 0x56_41_02_FF_FF_FF_FF_FF_FF_FF_7F) (ok (hex 0x02_02_FF_7F))
    ∷ reads I 0 (hex 0x02_01_7F) (ok (hex 0x56_41_02_00_00_00_00_00_00_00_7F))
    ∷ reads I 0 (hex 0x02_02_00_80) (ok (hex 0x56_41_02_00_00_00_00_00_00_00_80))
    ∷ reads I 0 (hex 0x02_01_80) (ok (hex 0x56_41_02_FF_FF_FF_FF_FF_FF_FF_80))
    ∷ reads I 0 (hex 0x02_02_FF_7F) (ok (hex 0x56_41_02_FF_FF_FF_FF_FF_FF_FF_7F))
    -- "Messages": NULL with the context number 30, then 31
    ∷ writes (hex 0x54_59_05_01_02_00_1E) 0 (hex 0x56_41_05) (ok (hex 0x9E_00))
    ∷ writes (hex 0x54_59_05_01_02_00_1F) 0 (hex 0x56_41_05) (ok (hex 0x9F_1F_00))
    ∷ reads (hex 0x54_59_05_01_02_00_1E) 0 (hex 0x9E_00) (ok (hex 0x56_41_05))
    ∷ reads (hex 0x54_59_05_01_02_00_1F) 0 (hex 0x9F_1F_00) (ok (hex 0x56_41_05))
    -- "Messages": the lengths 127 and 128
    ∷ writes O 0 (hex 0x56_41_04_00_7F ++ replicate 127 7) (ok (hex 0x04_7F ++ replicate 127 7))
    ∷ writes O 0 (hex 0x56_41_04_00_80 ++ replicate 128 7) (ok (hex 0x04_81_80 ++ replicate 128 7))
    ∷ reads O 0 (hex 0x04_7F ++ replicate 127 7) (ok (hex 0x56_41_04_00_7F ++ replicate 127 7))
    ∷ reads O 0 (hex 0x04_81_80 ++ replicate 128 7) (ok (hex 0x56_41_04_00_80 ++ replicate 128 7))
    -- "Messages": the bits 101, also where the unused ones are set; no bits
    ∷ writes T 0 (hex 0x56_41_03_00_03_A0) (ok (hex 0x03_02_05_A0))
    ∷ reads T 0 (hex 0x03_02_05_A0) (ok (hex 0x56_41_03_00_03_A0))
    ∷ reads T 0 (hex 0x03_02_05_BF) (ok (hex 0x56_41_03_00_03_A0))
    ∷ writes T 0 (hex 0x56_41_03_00_00) (ok (hex 0x03_01_00))
    ∷ reads T 0 (hex 0x03_01_00) (ok (hex 0x56_41_03_00_00))
    -- "Messages": the SET of S in the table's order, and in the other
    ∷ writes S 2 (hex 0x56_41_11_02_01_01 ++ five ++ yea) (ok (hex 0x31_06_80_01_05_01_01_FF))
    ∷ reads S 2 (hex 0x31_06_80_01_05_01_01_FF) (ok (hex 0x56_41_11_02_01_01 ++ five ++ yea))
    ∷ reads S 2 (hex 0x31_80_01_01_7F_80_01_05_00_00) (ok (hex 0x56_41_11_02_01_01 ++ five ++ yea))
    -- "Tables": lists of themselves
    ∷ checks L (ok [])
    -- EACH REFUSAL, the paper's example of it first. "Tables", 1: a record that is cut; over 8,192 octets; over 128 records
    ∷ checks [] (no 1 0)
    ∷ checks (B ++ hex 0x54) (no 1 1)
    ∷ checks (B ++ replicate 8186 0) (no 1 0)
    ∷ checks (times 129 B) (no 1 128)
    -- 2, of the whole table before 3 of any record
    ∷ checks (hex 0x54_59_30_01_00_00_10_05) (no 2 0)
    ∷ checks (hex 0x54_59_02_00_54_59_30_01_00_00_10_05) (no 2 1)
    -- 3: a UNIVERSAL tag on a CHOICE; write and read check the table too, before the type
    ∷ checks (hex 0x54_59_02_00) (no 3 0)
    ∷ checks (B ++ hex 0x54_59_32_01_00_00_00_01_00) (no 3 1)
    ∷ writes (hex 0x54_59_02_00) 1 [] (no 3 0)
    ∷ reads (hex 0x54_59_02_00) 1 [] (no 3 0)
    -- 4, of a CHOICE on the circle and not of the one that leads there
    ∷ checks (hex 0x54_59_32_00_01_00) (no 4 0)
    ∷ checks (hex 0x54_59_32_00_01_01_54_59_32_00_01_01) (no 4 1)
    -- 5: with an alternative of an alternative
    ∷ checks (B ++ hex 0x54_59_11_01_00_00_11_02_00_00_00_00) (no 5 1)
    ∷ checks (B ++ hex 0x54_59_32_00_02_00_02_54_59_32_00_01_00) (no 5 1)
    -- "Tables", runs of a SEQUENCE: the BOOLEAN twice; with an INTEGER between, optional or not; in a SET, and in a CHOICE without tags
    ∷ checks (sequence (0 ∷ 0 ∷ 0 ∷ 0 ∷ [])) (ok [])
    ∷ checks (sequence (0 ∷ 1 ∷ 0 ∷ 0 ∷ [])) (no 5 2)
    ∷ checks (sequence (0 ∷ 0 ∷ 0 ∷ 1 ∷ [])) (ok [])
    ∷ checks (sequence (0 ∷ 1 ∷ 1 ∷ 0 ∷ 0 ∷ 1 ∷ [])) (ok [])
    ∷ checks (sequence (0 ∷ 1 ∷ 1 ∷ 1 ∷ 0 ∷ 0 ∷ [])) (no 5 2)
    ∷ checks (sequence (0 ∷ 0 ∷ 1 ∷ 1 ∷ 0 ∷ 1 ∷ [])) (ok [])
    ∷ checks (B ++ I ++ hex 0x54_59_11_01_00_00_11_03_00_01_01_00_00_01) (no 5 2)
    ∷ checks (B ++ I ++ hex 0x54_59_32_00_03_00_01_00) (no 5 2)
    ∷ checks (sequence (3 ∷ 1 ∷ 0 ∷ 0 ∷ []) ++ hex 0x54_59_32_00_02_00_01) (no 5 2)
    ∷ checks (sequence (3 ∷ 0 ∷ 0 ∷ 0 ∷ []) ++ hex 0x54_59_32_00_02_00_01) (ok [])
    -- "Messages": what is awaited is the rest of a run, so the order of items tells its members apart from those of another
    ∷ writes (sequence (0 ∷ 0 ∷ 0 ∷ 0 ∷ [])) 2 (hex 0x56_41_10_02_01_01_56_41_01_00 ++ yea) (ok (hex 0x30_06_01_01_00_01_01_FF))
    ∷ reads (sequence (0 ∷ 0 ∷ 0 ∷ 0 ∷ [])) 2 (hex 0x30_06_01_01_00_01_01_FF) (ok (hex 0x56_41_10_02_01_01_56_41_01_00 ++ yea))
    ∷ reads (sequence (0 ∷ 0 ∷ 0 ∷ 0 ∷ [])) 2 (hex 0x30_03_01_01_FF) (no 24 5)
    ∷ writes (sequence (0 ∷ 1 ∷ 1 ∷ 0 ∷ 0 ∷ 1 ∷ [])) 2 (hex 0x56_41_10_03_00_01_01 ++ five ++ yea) (ok (hex 0x30_06_02_01_05_01_01_FF))
    ∷ reads (sequence (0 ∷ 1 ∷ 1 ∷ 0 ∷ 0 ∷ 1 ∷ [])) 2 (hex 0x30_06_02_01_05_01_01_FF) (ok (hex 0x56_41_10_03_00_01_01 ++ five ++ yea))
    ∷ reads (sequence (0 ∷ 1 ∷ 1 ∷ 0 ∷ 0 ∷ 1 ∷ [])) 2 (hex 0x30_06_01_01_FF_02_01_05) (ok (hex 0x56_41_10_03_01_01_00 ++ yea ++ five))
    ∷ reads (sequence (0 ∷ 1 ∷ 1 ∷ 0 ∷ 0 ∷ 1 ∷ [])) 2 (hex 0x30_06_01_01_FF_01_01_FF) (no 24 5)
    -- 6, of a record behind a sound one
    ∷ checks (hex 0x54_59_10_01_00_00_10_01_00_00) (no 6 0)
    ∷ checks (B ++ hex 0x54_59_10_01_00_00_10_01_01_00) (no 6 1)
    -- "Order of refusals", 7: before any look at the value
    ∷ reads B 1 (hex 0x01_01_FF) (no 7 0)
    ∷ writes B 1 [] (no 7 0)
    -- "Values", 11: octets left; an element that is not there
    ∷ writes B 0 (hex 0x56_41_01_02) (no 11 0)
    ∷ writes B 0 (hex 0x56_41_01_01_00) (no 11 4)
    ∷ writes L 0 (hex 0x56_41_30_00_01) (no 11 5)
    -- 12: members in the other order
    ∷ writes I 0 yea (no 12 0)
    ∷ writes S 2 (hex 0x56_41_11_02_01_01 ++ yea ++ five) (no 12 6)
    -- 13: what is cut on level 25 is 11; level 24 is written
    ∷ writes L 0 (nested 24) (no 13 120)
    ∷ writes L 0 (times 24 (hex 0x56_41_30_00_01) ++ hex 0x56_41_30) (no 11 120)
    ∷ writes L 0 (nested 23) (ok (hex 0x30_2E_30_2C_30_2A_30_28_30_26_30_24_30_22_30_20_30_1E_30_1C_30_1A_30_18_30_16_30_14_30_12_30_10_30_0E_30_0C_30_0A_30_08_30_06_30_04_30_02_30_00))
    -- "Limits", 14: a buffer of 2, and of 3
    ∷ into 2 (writes B 0 yea (no 14 0))
    ∷ into 3 (writes B 0 yea (ok (hex 0x01_01_FF)))
    -- "Limits", 21
    ∷ reads B 0 (replicate 8193 0) (no 21 0)
    -- "Messages", 22: no end
    ∷ reads B 0 (hex 0x01_01) (no 22 0)
    ∷ reads L 0 (hex 0x30_80) (no 22 2)
    -- 23: an end of one 00; an identifier in the long form with a 0 in front
    ∷ reads B 0 (hex 0x1F_01) (no 23 0)
    ∷ reads L 0 (hex 0x30_80_00_05) (no 23 2)
    ∷ reads S 2 (hex 0x31_06_80_01_05_1F_80_01) (no 23 5)
    -- 24: 00 00 in a definite item; a member that came already; a member that did not come
    ∷ reads B 0 (hex 0x02_01_05) (no 24 0)
    ∷ reads L 0 (hex 0x30_02_00_00) (no 24 2)
    ∷ reads S 2 (hex 0x31_06_01_01_FF_01_01_FF) (no 24 5)
    ∷ reads S 2 (hex 0x31_80_01_01_FF_00_00) (no 24 5)
    -- 25: under an explicit tag; in the second element of a list
    ∷ reads I 0 (hex 0x02_02_00_7F) (no 25 0)
    ∷ reads (hex 0x54_59_01_02_02_00_00_00_00_01) 0 (hex 0xA0_04_01_02_FF_FF) (no 25 2)
    ∷ reads (hex 0x54_59_30_01_00_00_10_01 ++ I) 0 (hex 0x30_08_02_02_01_00_02_02_00_7F) (no 25 6)
    -- 26: behind the last member
    ∷ reads B 0 (hex 0x01_01_FF_00) (no 26 3)
    ∷ reads S 2 (hex 0x31_09_80_01_05_01_01_FF_80_01_05) (no 26 8)
    -- "Limits", 27: a buffer of 3, of 0 and of 4
    ∷ into 3 (reads B 0 (hex 0x01_01_FF) (no 27 0))
    ∷ into 0 (reads B 0 (hex 0x01_01_FF) (no 27 0))
    ∷ into 4 (reads B 0 (hex 0x01_01_FF) (ok yea))
    -- "Octets and levels", 28: a CHOICE without tags and the NULL in it are two levels that begin at one octet; level 24 is read
    ∷ reads L 0 (times 25 (hex 0x30_80)) (no 28 48)
    ∷ reads (hex 0x54_59_30_01_00_00_10_01_54_59_32_00_02_00_02_54_59_05_01_00_00_05) 0 (times 12 (hex 0x30_80) ++ hex 0x05) (no 28 24)
    ∷ reads L 0 (times 24 (hex 0x30_80) ++ replicate 48 0) (ok (nested 23))
    -- "Messages", 29: a length of five octets, before any of them is looked for; after 24 and 28; of a segment; one of four octets is read
    ∷ reads B 0 (hex 0x01_85) (no 29 0)
    ∷ reads B 0 (hex 0x02_85) (no 24 0)
    ∷ reads L 0 (times 24 (hex 0x30_80) ++ hex 0x30_85) (no 28 48)
    ∷ reads O 0 (hex 0x24_80_04_85) (no 29 2)
    ∷ reads B 0 (hex 0x01_84_00_00_00_01_FF) (ok yea)
    -- "Messages", strings in segments: four deep, and no fifth; cut, and of no segment; joined in order, the unused bits of the last one cleared
    ∷ reads O 0 (times 4 (hex 0x24_80) ++ hex 0x04_01_AA ++ replicate 8 0) (ok (hex 0x56_41_04_00_01_AA))
    ∷ reads O 0 (times 5 (hex 0x24_80) ++ hex 0x04_01_AA ++ replicate 10 0) (no 28 10)
    ∷ reads O 0 (hex 0x24) (no 22 0)
    ∷ reads O 0 (hex 0x24_00) (ok (hex 0x56_41_04_00_00))
    ∷ reads T 0 (hex 0x23_80_00_00) (ok (hex 0x56_41_03_00_00))
    ∷ reads O 0 (hex 0x24_06_04_01_AA_04_01_BB) (ok (hex 0x56_41_04_00_02_AA_BB))
    ∷ reads T 0 (hex 0x23_09_03_02_00_0A_03_03_04_3B_F5) (ok (hex 0x56_41_03_00_14_0A_3B_F0))
    -- segments have the UNIVERSAL tag of the kind, whatever tag the string has
    ∷ reads (hex 0x54_59_04_01_02_00_00) 0 (hex 0xA0_03_04_01_AA) (ok (hex 0x56_41_04_00_01_AA))
    ∷ reads (hex 0x54_59_04_01_02_00_00) 0 (hex 0xA0_03_80_01_AA) (no 24 2)
    -- unused bits before a further segment, once its identifier is found awaited; in the last one they may be, deeper too; a bad segment
    ∷ reads T 0 (hex 0x23_05_03_02_04_F0_03) (no 25 2)
    ∷ reads T 0 (hex 0x23_05_03_02_04_F0_04) (no 24 6)
    ∷ reads T 0 (hex 0x23_05_03_02_04_F0_1F) (no 22 6)
    ∷ reads T 0 (hex 0x23_0A_23_04_03_02_04_F0_03_02_00_AA) (no 25 4)
    ∷ reads T 0 (hex 0x23_06_23_04_03_02_04_F0) (ok (hex 0x56_41_03_00_04_F0))
    ∷ reads T 0 (hex 0x23_02_03_00) (no 25 2)
    -- under an explicit tag; in a SEQUENCE behind an optional member; in a CHOICE without tags; on level 24
    ∷ reads (hex 0x54_59_04_02_02_00_00_00_00_04) 0 (hex 0xA0_80_24_80_04_01_AA_00_00_00_00) (ok (hex 0x56_41_04_00_01_AA))
    ∷ reads (B ++ O ++ hex 0x54_59_10_01_00_00_10_02_00_01_01_00) 2 (hex 0x30_05_24_03_04_01_AA) (ok (hex 0x56_41_10_02_00_01_56_41_04_00_01_AA))
    ∷ reads (O ++ T ++ hex 0x54_59_32_00_02_00_01) 2 (hex 0x23_04_03_02_04_FF) (ok (hex 0x56_41_32_01_56_41_03_00_04_F0))
    ∷ reads tree 1 (times 11 (hex 0x30_80) ++ times 4 (hex 0x24_80) ++ hex 0x04_01_AA ++ replicate 30 0) (ok (times 11 (hex 0x56_41_32_00_56_41_30_00_01) ++ hex 0x56_41_32_01_56_41_04_00_01_AA))
    -- the other kinds have none
    ∷ reads B 0 (hex 0x21_03_04_01_FF) (no 24 0)
    ∷ reads (hex 0x54_59_05_01_00_00_05) 0 (hex 0x25_00) (no 24 0)
    -- "Times": each kind both ways; the last second of 99, and 29 February of 00 and of 2000
    ∷ reads U 0 (hex 0x17_0D_39_39_31_32_33_31_32_33_35_39_35_39_5A) (ok (hex 0x56_41_17_00_63_0C_1F_17_3B_3B))
    ∷ writes U 0 (hex 0x56_41_17_00_63_0C_1F_17_3B_3B) (ok (hex 0x17_0D_39_39_31_32_33_31_32_33_35_39_35_39_5A))
    ∷ reads U 0 (hex 0x17_0D_30_30_30_32_32_39_30_30_30_30_30_30_5A) (ok (hex 0x56_41_17_00_00_02_1D_00_00_00))
    ∷ reads G 0 (hex 0x18_0F_32_30_30_30_30_32_32_39_30_30_30_30_30_30_5A) (ok (hex 0x56_41_18_07_D0_02_1D_00_00_00))
    ∷ writes G 0 (hex 0x56_41_18_07_D0_02_1D_00_00_00) (ok (hex 0x18_0F_32_30_30_30_30_32_32_39_30_30_30_30_30_30_5A))
    -- 25: 29 February of 1900; second 60, hour 24, month 0; a lower-case z, no Z, a year of five digits
    ∷ reads G 0 (hex 0x18_0F_31_39_30_30_30_32_32_39_30_30_30_30_30_30_5A) (no 25 0)
    ∷ reads U 0 (hex 0x17_0D_39_39_30_31_30_31_30_30_30_30_36_30_5A) (no 25 0)
    ∷ reads U 0 (hex 0x17_0D_39_39_30_31_30_31_32_34_30_30_30_30_5A) (no 25 0)
    ∷ reads U 0 (hex 0x17_0D_39_39_30_30_30_31_30_30_30_30_30_30_5A) (no 25 0)
    ∷ reads U 0 (hex 0x17_0D_39_39_31_32_33_31_32_33_35_39_35_39_7A) (no 25 0)
    ∷ reads U 0 (hex 0x17_0C_39_39_31_32_33_31_32_33_35_39_35_39) (no 25 0)
    ∷ reads G 0 (hex 0x18_10_31_30_30_30_30_30_31_30_31_30_30_30_30_30_30_5A) (no 25 0)
    -- 24: the constructed form
    ∷ reads U 0 (hex 0x37_0D_39_39_31_32_33_31_32_33_35_39_35_39_5A) (no 24 0)
    ∷ reads G 0 (hex 0x38_80) (no 24 0)
    -- 11 out of range, whatever kind is due, and then 12
    ∷ writes I 0 (hex 0x56_41_17_00_64_01_01_00_00_00) (no 11 0)
    ∷ writes I 0 (hex 0x56_41_17_00_63_01_01_00_00_00) (no 12 0)
    ∷ writes U 0 (hex 0x56_41_18_07_D0_01_01_00_00_00) (no 12 0)
    ∷ writes G 0 (hex 0x56_41_18_27_10_01_01_00_00_00) (no 11 0)
    ∷ writes G 0 (hex 0x56_41_18_07_D0_01_01_00_00) (no 11 0)
    -- 3: the UNIVERSAL number of the other
    ∷ checks (hex 0x54_59_17_01_00_00_18) (no 3 0)
    ∷ []

-- every row comes out as it is said
pub examples_right : wrong 0 examples ≡ []
unfolding if then behind none_left any all joined tabulate lowest_from same leading following identifier unsigned digits length_octets item negative pile
    integer_of spare minimal eight fewest unused masked two_digits year_digits later_digits time_digits spelled time_of is_time leap february month_days years is_date is_time_of_day in_range time_octets time_at read_following read_identifier fit read_long read_length at_end read_header inside read_constructed
    contents read_primitive segment_tag in_parts empty join in_form whole read_joined read_segment read_carried references is_choice universal constructed kind rising body_below tags_below siblings runs_on members tags_at numbers_at members_at every_at
    body_at record_at counted_end enumerated_end members_end own_end record_end scan_from scan look round rounds found dangling wrong_tags reach_step circular
    same_tag tag_begins first_step first_of_both share reached pair sharing finite_body finite_step infinite judge_choices judge verdict slots bag leaf_octets count
    presence octets listed segmented identifier_of last before explicit_tags own_tag explicit allowed encode element alternatives form_members form_elements form_body
    wrap form_at need flags own_members own_count own_boolean own_integer own_string own_bits own_enumerated own_time own_choice read_own read_node leaf_kind node_kind
    numbers leaf_agrees agreeing counts agrees judge_members judge_elements judge_below judge_value judge_whole begins_body begins_item begins_in begins
    is_listed decode passes begun not_awaited nothing full unwanted read_wrapped read_sequence place_member read_set read_many choose read_body read_kind read_value
    read_message after_reading read_outcome after_judging write_outcome after_check whole_write whole_read check_answer
examples_right = refl
