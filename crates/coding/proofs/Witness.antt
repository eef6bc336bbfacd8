-- One table, one value and one message carried through every theorem of `Demands`, so that no premise there is empty: table S of document 01,
-- its type 2 with 5 and true, and a permitted encoding of it in the indefinite form with the members in the other order; for strings one of an octet;
-- for messages one after another the SETs OF 5 and of 5 and 7.
-- Assumes nothing.
use borrow.Author.Tests.{ltb-true}
use mathlib.Core.Bool.{true, false}
use mathlib.Core.List.{List, [], ◌∷◌, ◌++◌, map}
use mathlib.Core.Option.{some}
use mathlib.Core.Path.{◌≡◌, refl, ap}
use native.Mathlib.Omega.{arith}
use Prim.Native.Nat.{ℕ, zero, suc, ◌≤◌, ◌<◌}
use lib.Dec.{ltb}
use lib.IntN.{pos}
use lib.ListN.{length, take, replicate}
use Rattle.octets.specs.Answer.{got, then, if, behind, none_left}
use Rattle.octets.specs.Lists.{any, all, joined, tabulate, lowest_from, same}
use Rattle.octets.specs.Numbers.{Octets}
use Rattle.octets.specs.Permutations.{here, there, Perm, none, next, Each, nil, cons, Order, any_order, as_given, permuted}
use Rattle.octets.proofs.Tests.{and_left, and_right}
use Rattle.x690.specs.Identifier.{leading, following, identifier}
use Rattle.x690.specs.Length.{short, unsigned, digits, length_octets}
use Rattle.x690.specs.Item.{sized, in_size, in_marks, item}
use Rattle.x690.specs.Integer.{negative, pile, integer_of, spare, minimal, eight, fewest}
use Rattle.x690.specs.BitString.{unused, masked}
use Rattle.x690.specs.Reading.{read_following, read_identifier, fit, read_long, read_length, at_end, read_header, inside, read_constructed, contents, read_primitive}
use Rattle.x690.specs.Segments.{octet_string, segment_tag, in_parts, in_form, last as last_segment, primitive, SegmentIn, in_whole, in_segments, read_carried}
use Rattle.table.specs.Syntax.{Tag, Boolean, Integer, OctetString, Plain, Set, SetOf, Record, table, references, is_choice, universal, constructed}
use Rattle.table.specs.Octets.{Spells, kind, tag_octets, member_octets, own_octets, record_octets, rising, body_shaped, record_shaped}
use Rattle.table.specs.Rules.{body_below, tags_below, siblings, runs_on, members}
use Rattle.table.specs.Reading.{tags_at, numbers_at, members_at, every_at, body_at, record_at, counted_end, enumerated_end, members_end, own_end, record_end, scan_from, scan, look}
use Rattle.table.specs.Decide.{round, rounds, found, dangling, wrong_tags, reach_step, circular, same_tag, begins as first_begins, first_step, first_of_both}
use Rattle.table.specs.Decide.{share, reached, pair, sharing, finite_body, finite_step, infinite}
use Rattle.table.specs.Cause.{FirstCause}
use Rattle.table.specs.Verdict.{judge_choices, judge, verdict, no_flaw}
use Rattle.x690.specs.declared.ReadingCause.TheVariants.{Cut, Trailing}
use Rattle.table.specs.declared.CheckCause.TheVariants.{TableShape}
use Rattle.table.proofs.Theorems.{passed_none}
use Rattle.coding.specs.Value.{Value, leaf, integer, boolean, string, set, set_of, slots, bag, leaf_octets, count, presence, octets, depth}
use Rattle.coding.specs.Tags.{identifier_of, last, before, explicit_tags, own_tag, explicit}
use Rattle.coding.specs.Content.{listed, segmented, c_boolean, c_integer, c_string}
use Rattle.coding.specs.Encodes.{allowed, done, sent, is_plain, is_set, is_set_of, bare, EncodesAt, Encodes, Arrives}
use Rattle.coding.specs.Typed.{l_boolean, l_integer, f_done, f_sent, t_plain, t_set, WellTypedAt, WellTyped}
use Rattle.coding.specs.Shaped.{LeafShaped, Shaped}
use Rattle.coding.specs.Equivalent.{Equivalent}
use Rattle.coding.specs.Form.{encode, element, alternatives, form_members, form_elements, form_body, wrap, form_at}
use Rattle.coding.specs.Judging.{need, flags, own_members, own_count, own_boolean, own_integer, own_string, own_bits, own_enumerated, own_choice}
use Rattle.coding.specs.Judging.{read_own, read_node, leaf_kind, node_kind, numbers, leaf_agrees, agreeing, counts, agrees, judge_members}
use Rattle.coding.specs.Judging.{judge_elements, judge_below, judge_value, judge_whole}
use Rattle.coding.specs.Awaited.{begins_body, begins_item, begins_in, begins}
use Rattle.coding.specs.Reading.{is_listed, decode, passes, begun, not_awaited, nothing, full, unwanted, read_wrapped, read_sequence, place_member}
use Rattle.coding.specs.Reading.{read_set, read_many, choose, read_body, read_kind, read_value, read_message}
use Rattle.coding.specs.declared.JudgingCause.TheVariants.{ValueShape}
use Rattle.coding.specs.Outcome.{levels, longest_message, Unknown, table_cause, MessageRoom, value_cause, MessageLength, ValueRoom, message_cause}
use Rattle.coding.specs.Outcome.{done as done_with, refusal, of_table, of_value, of_message, Outcome, refuse}
use Rattle.coding.specs.Calls.{after_reading, read_outcome, after_judging, write_outcome, after_check, whole_read, whole_write, check_answer}
use Rattle.coding.specs.Demands.{Answers, Accepted, NoSuchType, OfType, MessageRefused, NoRoomForValue, Read, ValueRefused, NoRoomForMessage, Wrote, Received, Sent}
use Rattle.coding.proofs.Equivalence.{equivalent_length}
use Rattle.coding.proofs.Demands as page

octets_by : (s : List ℕ) → all (λ x. ltb x 256) s ≡ true → Octets s
unfolding all
octets_by [] e i = omega arith
octets_by (x ∷ s) e zero = ltb-true x 256 (and_left (ltb x 256) _ e)
octets_by (x ∷ s) e (suc i) = octets_by s (and_right (ltb x 256) _ e) i

-- the tables: S; one OCTET STRING; an INTEGER and a SET OF it

abbrev S : List ℕ
S =
    0x54 ∷ 0x59 ∷ 2 ∷ 1 ∷ 2 ∷ 0 ∷ 0
    ∷ 0x54 ∷ 0x59 ∷ 1 ∷ 1 ∷ 0 ∷ 0 ∷ 1
    ∷ 0x54 ∷ 0x59 ∷ 0x11 ∷ 1 ∷ 0 ∷ 0 ∷ 0x11 ∷ 2 ∷ 0 ∷ 0 ∷ 1 ∷ 1
    ∷ []

abbrev O : List ℕ
O = 0x54 ∷ 0x59 ∷ 4 ∷ 1 ∷ 0 ∷ 0 ∷ 4 ∷ []

abbrev N : List ℕ
N = 0x54 ∷ 0x59 ∷ 2 ∷ 1 ∷ 0 ∷ 0 ∷ 2 ∷ 0x54 ∷ 0x59 ∷ 0x31 ∷ 1 ∷ 0 ∷ 0 ∷ 0x11 ∷ 0 ∷ []

abbrev tag : ℕ → ℕ → Tag
tag c n = record { class = c; number = n }

abbrev records : List Record
records =
    record { tags = tag 2 0 ∷ []; body = Plain Integer }
    ∷ record { tags = tag 0 1 ∷ []; body = Plain Boolean }
    ∷ record { tags = tag 0 17 ∷ []; body = Set (record { type = 0; optional = false } ∷ record { type = 1; optional = true } ∷ []) }
    ∷ []

abbrev one : List Record
one = record { tags = tag 0 4 ∷ []; body = Plain OctetString } ∷ []

abbrev two : List Record
two = record { tags = tag 0 2 ∷ []; body = Plain Integer } ∷ record { tags = tag 0 17 ∷ []; body = SetOf 0 } ∷ []

table_octets : Octets S
unfolding all
table_octets = octets_by S refl

string_table : Octets O
unfolding all
string_table = octets_by O refl

list_table : Octets N
unfolding all
list_table = octets_by N refl

passed : (verdict S ≡ no_flaw) × (verdict O ≡ no_flaw) × (verdict N ≡ no_flaw)
unfolding any all joined tabulate lowest_from references is_choice universal rising body_below tags_below siblings runs_on tags_at numbers_at members_at every_at body_at
    record_at counted_end enumerated_end members_end own_end record_end scan_from scan look round rounds found dangling wrong_tags reach_step circular same_tag
    first_begins first_step first_of_both share reached pair sharing finite_body finite_step infinite judge_choices judge verdict
passed = (refl, refl, refl)

spelled : Spells S records × Spells O one × Spells N two
unfolding all joined kind tag_octets member_octets own_octets record_octets rising body_shaped record_shaped
spelled = (
  record { is = refl; shaped = refl; some = omega arith; few = omega arith; short = omega arith },
  record { is = refl; shaped = refl; some = omega arith; few = omega arith; short = omega arith },
  record { is = refl; shaped = refl; some = omega arith; few = omega arith; short = omega arith },
)

accepted : Accepted S records
accepted = record { spells = spelled.0; no_cause = passed_none S table_octets passed.0 }

string_accepted : Accepted O one
string_accepted = record { spells = spelled.1; no_cause = passed_none O string_table passed.1 }

list_accepted : Accepted N two
list_accepted = record { spells = spelled.2; no_cause = passed_none N list_table passed.2 }

-- the value and the message

abbrev value : Value
value = set (slots (some (leaf (integer (pos 5))) ∷ some (leaf (boolean true)) ∷ []))

abbrev five : List ℕ
five = 0x80 ∷ 1 ∷ 5 ∷ []

abbrev truth : List ℕ
truth = 1 ∷ 1 ∷ 0x7F ∷ []

abbrev message : List ℕ
message = 0x31 ∷ 0x80 ∷ (truth ++ five ++ (0 ∷ 0 ∷ []))

message_octets : Octets message
unfolding all
message_octets = octets_by message refl

five_permitted : (o : Order) → EncodesAt o (table records) 1 0 (leaf (integer (pos 5))) five
unfolding EncodesAt table explicit explicit_tags before own_tag identifier_of identifier leading last constructed if minimal integer_of negative pile
five_permitted o = bare (is_plain {x = integer (pos 5)} (5 ∷ []) (c_integer {c = 5 ∷ []} refl (omega arith)) (in_whole (sized (1 ∷ []) (short (omega arith) refl) refl)))

truth_permitted : (o : Order) → EncodesAt o (table records) 1 1 (leaf (boolean true)) truth
unfolding EncodesAt table explicit explicit_tags before own_tag identifier_of identifier leading last constructed if
truth_permitted o = bare (is_plain {x = boolean true} (0x7F ∷ []) (c_boolean {x = 0x7F}) (in_whole (sized (1 ∷ []) (short (omega arith) refl) refl)))

permitted : Encodes (table records) 2 value message
unfolding EncodesAt table explicit explicit_tags before own_tag identifier_of identifier leading last constructed if joined allowed
permitted = record {
  level = 2;
  encodes = bare (is_set (five ∷ truth ∷ []) (truth ∷ five ∷ []) (sent (five_permitted any_order) (sent (truth_permitted any_order) done)) refl (next (there here) (next here none)) (in_marks refl));
}

typed : WellTyped (table records) 2 value
unfolding WellTypedAt table allowed
typed = record { level = 2; typed = t_set (f_sent (t_plain (l_integer {z = pos 5} (record { sfits = omega arith }))) (f_sent (t_plain l_boolean) f_done)) refl }

shaped : Shaped value
unfolding Shaped slots count LeafShaped
shaped = (omega arith, (record { sfits = omega arith }, (tt, tt)))

-- messages one after another: the SET OF 5, and that of 5 and 7

abbrev of_one : List ℕ
of_one = 0x31 ∷ 0x80 ∷ 2 ∷ 1 ∷ 5 ∷ 0 ∷ 0 ∷ []

abbrev of_two : List ℕ
of_two = 0x31 ∷ 6 ∷ 2 ∷ 1 ∷ 5 ∷ 2 ∷ 1 ∷ 7 ∷ []

-- what the definitions compute: every stage of reading, of writing and of the check

abbrev room : ℕ → List ℕ
room n = replicate n 0

abbrev value_octets : List ℕ
value_octets = 0x56 ∷ 0x41 ∷ 0x11 ∷ 2 ∷ 1 ∷ 1 ∷ 0x56 ∷ 0x41 ∷ 2 ∷ 0 ∷ 0 ∷ 0 ∷ 0 ∷ 0 ∷ 0 ∷ 0 ∷ 5 ∷ 0x56 ∷ 0x41 ∷ 1 ∷ 1 ∷ []

abbrev form : List ℕ
form = 0x31 ∷ 6 ∷ 0x80 ∷ 1 ∷ 5 ∷ 1 ∷ 1 ∷ 0xFF ∷ []

abbrev after_reading_lem : Outcome
after_reading_lem = record { answer = done_with 21; buffer = value_octets ++ room 3 }

abbrev after_one : Outcome
after_one = record { answer = done_with 16; buffer = 0x56 ∷ 0x41 ∷ 0x31 ∷ 0 ∷ 1 ∷ 0x56 ∷ 0x41 ∷ 2 ∷ 0 ∷ 0 ∷ 0 ∷ 0 ∷ 0 ∷ 0 ∷ 0 ∷ 5 ∷ [] }

abbrev after_writing : Outcome
after_writing = record { answer = done_with 8; buffer = form ++ room 1 }

outcomes :
    (check_answer (verdict []) ≡ refusal (of_table (table_cause TableShape 0)))
    × (whole_read [] 2 message [] ≡ refuse (of_table (table_cause TableShape 0)) [])
    × (whole_read S 3 message [] ≡ refuse (of_table Unknown) [])
    × (whole_read S 2 (room 8193) [] ≡ refuse (of_message (MessageLength 0)) [])
    × (whole_read S 2 (0x31 ∷ 0x80 ∷ []) [] ≡ refuse (of_message (message_cause Cut 2)) [])
    × (whole_read S 2 message (room 3) ≡ refuse (of_message ValueRoom) (room 3))
    × (whole_read S 2 message (room 24) ≡ after_reading_lem)
    × (whole_write [] 2 value_octets [] ≡ refuse (of_table (table_cause TableShape 0)) [])
    × (whole_write S 3 value_octets [] ≡ refuse (of_table Unknown) [])
    × (whole_write S 2 [] [] ≡ refuse (of_value (value_cause ValueShape 0)) [])
    × (whole_write S 2 value_octets (room 7) ≡ refuse (of_value MessageRoom) (room 7))
    × (whole_write S 2 value_octets (room 9) ≡ after_writing)
    × (whole_read N 1 (of_one ++ of_two) (room 16) ≡ refuse (of_message (message_cause Trailing 7)) (room 16))
    × (whole_read N 1 of_one (room 16) ≡ after_one)
    × ((whole_read N 1 of_two (room 27)).answer ≡ done_with 27)
unfolding if then behind none_left any all joined tabulate lowest_from same references is_choice universal constructed kind members rising body_below
    tags_below siblings runs_on tags_at numbers_at members_at every_at body_at record_at counted_end enumerated_end members_end own_end record_end scan_from scan look round
    rounds found dangling wrong_tags reach_step circular same_tag first_begins first_step first_of_both share reached pair sharing finite_body finite_step infinite
    judge_choices judge verdict leading following identifier unsigned digits length_octets item negative pile integer_of spare minimal eight fewest unused
    masked read_following read_identifier fit read_long read_length at_end read_header inside read_constructed contents read_primitive read_carried slots bag leaf_octets
    count presence octets listed segmented identifier_of last before explicit_tags own_tag explicit allowed encode element alternatives form_members form_elements
    form_body wrap form_at need flags own_members own_count own_boolean own_integer own_string own_bits own_enumerated own_choice read_own read_node leaf_kind
    node_kind numbers leaf_agrees agreeing counts agrees judge_members judge_elements judge_below judge_value judge_whole begins_body begins_item begins_in
    begins is_listed decode passes begun not_awaited nothing full unwanted read_wrapped read_sequence place_member read_set read_many choose read_body read_kind
    read_value read_message after_reading read_outcome after_judging write_outcome after_check whole_read whole_write check_answer
outcomes = (refl, refl, refl, refl, refl, refl, refl, refl, refl, refl, refl, refl, refl, refl, refl)

-- every theorem of the page, at these

module _ where
  read_octets : Octets (room 8193)
  unfolding all
  read_octets = octets_by (room 8193) refl

  cut_octets : Octets (0x31 ∷ 0x80 ∷ [])
  unfolding all
  cut_octets = octets_by (0x31 ∷ 0x80 ∷ []) refl

  value_octets_lem : Octets value_octets
  unfolding all
  value_octets_lem = octets_by value_octets refl

  none_octets : Octets []
  unfolding all
  none_octets = octets_by [] refl

pub checked : (FirstCause [] TableShape 0) × (check_answer (verdict S) ≡ done_with 0)
checked = ((page.check_refuses [] none_octets TableShape 0).0 outcomes.0, (page.check_passes S table_octets).1 accepted.no_cause)

pub reading :
    FirstCause [] TableShape 0
    × NoSuchType S 3
    × OfType S 2 (λ T. (longest_message < length (room 8193)) × (◌≡◌ {A = ℕ} 0 0))
    × OfType S 2 (λ T. MessageRefused T 2 (0x31 ∷ 0x80 ∷ []) Cut 2)
    × OfType S 2 (λ T. NoRoomForValue T 2 message (room 3))
    × OfType S 2 (λ T. Read T 2 message (room 24) 21 (value_octets ++ room 3))
reading = (
  (page.read_refuses_table [] none_octets 2 message [] message_octets TableShape 0).0 outcomes.1,
  (page.read_refuses_type S table_octets 3 message [] message_octets).0 outcomes.2,
  (page.read_refuses_length S table_octets 2 (room 8193) [] read_octets 0).0 outcomes.3,
  (page.read_refuses_message S table_octets 2 (0x31 ∷ 0x80 ∷ []) [] cut_octets Cut 2).0 outcomes.4,
  (page.read_refuses_room S table_octets 2 message (room 3) message_octets).0 outcomes.5,
  (page.read_is_done S table_octets 2 message (room 24) message_octets 21 (value_octets ++ room 3)).0 outcomes.6,
)

pub writing :
    FirstCause [] TableShape 0
    × NoSuchType S 3
    × OfType S 2 (λ T. ValueRefused T 2 [] ValueShape 0)
    × OfType S 2 (λ T. NoRoomForMessage T 2 value_octets (room 7))
    × OfType S 2 (λ T. Wrote T 2 value_octets (room 9) 8 (form ++ room 1))
writing = (
  (page.write_refuses_table [] none_octets 2 value_octets [] value_octets_lem TableShape 0).0 outcomes.7,
  (page.write_refuses_type S table_octets 3 value_octets [] value_octets_lem).0 outcomes.8,
  (page.write_refuses_value S table_octets 2 [] [] none_octets ValueShape 0).0 outcomes.9,
  (page.write_refuses_room S table_octets 2 value_octets (room 7) value_octets_lem).0 outcomes.10,
  (page.write_is_done S table_octets 2 value_octets (room 9) value_octets_lem 8 (form ++ room 1)).0 outcomes.11,
)

pub answered : Answers of_table (check_answer (verdict S)) × Answers of_message (whole_read S 2 message (room 3)).answer × Answers of_value (whole_write S 2 value_octets (room 7)).answer
answered = (page.check_answers S, page.read_answers S 2 message (room 3), page.write_answers S 2 value_octets (room 7))

pub left : ((whole_read S 2 message (room 3)).buffer ≡ room 3) × ((whole_write S 2 value_octets (room 7)).buffer ≡ room 7)
left = (
  page.read_leaves S 2 message (room 3) (of_message ValueRoom) (ap (λ (x : Outcome). x.answer) outcomes.5),
  page.write_leaves S 2 value_octets (room 7) (of_value MessageRoom) (ap (λ (x : Outcome). x.answer) outcomes.10),
)

pub is_read : Read (table records) 2 message (room 24) 21 (value_octets ++ room 3)
is_read = (page.reads_exactly S table_octets records accepted 2 (omega arith) message (room 24) message_octets 21 (value_octets ++ room 3)).0 outcomes.6

pub exactly :
    Read (table records) 2 message (room 24) 21 (value_octets ++ room 3)
    × Wrote (table records) 2 value_octets (room 9) 8 (form ++ room 1)
    × Shaped is_read.value
    × (judge_whole (table records) levels 2 (octets is_read.value) ≡ got is_read.value [])
exactly =
    let x = page.what_was_read_is_a_value S table_octets records accepted 2 (omega arith) message (room 24) message_octets 21 (value_octets ++ room 3) is_read in
    (is_read, (page.writes_exactly S table_octets records accepted 2 (omega arith) value_octets (room 9) value_octets_lem 8 (form ++ room 1)).0 outcomes.11, x.0, x.1)

low : depth value ≤ levels
unfolding slots depth
low = omega arith

small : length (octets value) ≤ 24
unfolding slots octets leaf_octets count presence eight
small = omega arith

pub arrives : Received (table records) 2 value message (room 24) (whole_read S 2 message (room 24))
arrives = page.what_was_sent_arrives S table_octets records accepted 2 (omega arith) value message (room 24) low (omega (arith, small)) message_octets permitted (omega arith) small

pub sends : Sent (table records) 2 value (room 9) (whole_write S 2 (octets value) (room 9))
sends = page.what_is_sent_is_permitted S table_octets records accepted 2 (omega arith) value (room 9) typed low shaped (omega (arith, small))

-- the same value in two messages, and a string in two: whole, and in one segment of indefinite length

abbrev in_order : List ℕ
in_order = 0x31 ∷ 0x80 ∷ (five ++ truth ++ (0 ∷ 0 ∷ []))

message_arrives : Arrives (table records) 2 value message
unfolding EncodesAt table explicit explicit_tags before own_tag identifier_of identifier leading last constructed if joined allowed
message_arrives = record {
  level = 2;
  encodes =
      bare (is_set (five ∷ truth ∷ []) (truth ∷ five ∷ []) (sent (five_permitted as_given) (sent (truth_permitted as_given) done)) refl (next (there here) (next here none)) (in_marks refl));
}

in_order_arrives : Arrives (table records) 2 value in_order
unfolding EncodesAt table explicit explicit_tags before own_tag identifier_of identifier leading last constructed if joined allowed
in_order_arrives = record {
  level = 2;
  encodes =
      bare (is_set (five ∷ truth ∷ []) (five ∷ truth ∷ []) (sent (five_permitted as_given) (sent (truth_permitted as_given) done)) refl (next here (next here none)) (in_marks refl));
}

abbrev whole : List ℕ
whole = 4 ∷ 1 ∷ 0xAA ∷ []

abbrev parted : List ℕ
parted = 0x24 ∷ 0x80 ∷ (whole ++ (0 ∷ 0 ∷ []))

whole_permitted : Encodes (table one) 0 (leaf (string (0xAA ∷ []))) whole
unfolding EncodesAt table explicit explicit_tags before own_tag identifier_of identifier leading last constructed if
whole_permitted = record { level = 1; encodes = bare (is_plain (0xAA ∷ []) c_string (in_whole (sized (1 ∷ []) (short (omega arith) refl) refl))) }

parted_permitted : Encodes (table one) 0 (leaf (string (0xAA ∷ []))) parted
unfolding EncodesAt table explicit explicit_tags before own_tag identifier_of identifier leading last constructed if segmented segment_tag in_parts in_form SegmentIn
parted_permitted = record {
  level = 1;
  encodes = bare (is_plain (0xAA ∷ []) c_string (in_segments {k = octet_string} (last_segment {c = 0xAA ∷ []} {p = whole} (primitive refl (sized (1 ∷ []) (short (omega arith) refl) refl))) (in_marks refl)));
}

pub however_sent : (whole_read S 2 message (room 24) ≡ whole_read S 2 in_order (room 24)) × (whole_read O 0 whole (room 9) ≡ whole_read O 0 parted (room 9))
however_sent = (
  page.however_it_is_sent S table_octets records accepted 2 (omega arith) value message in_order (room 24) low message_arrives in_order_arrives (omega arith) (omega arith),
  page.however_a_string_is_sent O string_table one string_accepted 0 (omega arith) (string (0xAA ∷ [])) whole parted (room 9) whole_permitted parted_permitted (omega arith) (omega arith),
)

-- a line of two messages; the values of the first and the second are not equivalent, and another value shares the second one

abbrev number : ℕ → Value
number n = leaf (integer (pos n))

abbrev numbers_of : List ℕ → Value
numbers_of ns = set_of (bag (map number ns))

abbrev alone : Value
alone = numbers_of (5 ∷ [])

abbrev both : Value
both = numbers_of (5 ∷ 7 ∷ [])

abbrev turned : Value
turned = numbers_of (7 ∷ 5 ∷ [])

abbrev item_of : ℕ → List ℕ
item_of n = 2 ∷ 1 ∷ n ∷ []

number_permitted : (n : ℕ) → EncodesAt any_order (table two) 1 0 (leaf (integer (integer_of (n ∷ [])))) (item_of n)
unfolding EncodesAt table explicit explicit_tags before own_tag identifier_of identifier leading last constructed if minimal
number_permitted n = bare (is_plain {x = integer (integer_of (n ∷ []))} (n ∷ []) (c_integer {c = n ∷ []} refl (omega arith)) (in_whole (sized (1 ∷ []) (short (omega arith) refl) refl)))

module _ where
  alone_permitted : Encodes (table two) 1 alone of_one
  unfolding EncodesAt table explicit explicit_tags before own_tag identifier_of identifier leading last constructed if joined integer_of negative pile
  alone_permitted = record { level = 2; encodes = bare (is_set_of (item_of 5 ∷ []) (item_of 5 ∷ []) (cons (number_permitted 5) nil) (permuted (next here none)) (in_marks refl)) }

  two_permitted : {vs : List Value} (ps : List (List ℕ)) → Each (EncodesAt any_order (table two) 1 0) vs ps → Perm ps (item_of 5 ∷ item_of 7 ∷ []) → Encodes (table two) 1 (set_of (bag vs)) of_two
  unfolding EncodesAt table explicit explicit_tags before own_tag identifier_of identifier leading last constructed if joined
  two_permitted ps es p = record { level = 2; encodes = bare (is_set_of ps (item_of 5 ∷ item_of 7 ∷ []) es (permuted p) (in_size (sized (6 ∷ []) (short (omega arith) refl) refl))) }

  both_permitted : Encodes (table two) 1 both of_two
  unfolding integer_of negative pile
  both_permitted = two_permitted (item_of 5 ∷ item_of 7 ∷ []) (cons (number_permitted 5) (cons (number_permitted 7) nil)) (next here (next here none))

  turned_permitted : Encodes (table two) 1 turned of_two
  unfolding integer_of negative pile
  turned_permitted = two_permitted (item_of 7 ∷ item_of 5 ∷ []) (cons (number_permitted 7) (cons (number_permitted 5) nil)) (next (there here) (next here none))

-- they have octets of two lengths
pub apart : Equivalent alone both → ⊥
unfolding bag octets leaf_octets count presence eight
apart e = let h = equivalent_length any_order e.level alone both e.equivalent in omega arith

pub shared : Equivalent both turned × ((m : List ℕ) → Encodes (table two) 1 alone m → Encodes (table two) 1 both m → ⊥)
shared =
    let share = page.what_shares_an_encoding_is_equivalent N list_table two list_accepted 1 (omega arith) in
    (share both turned of_two both_permitted turned_permitted, λ m e f. apart (share alone both m e f))

pub begins_none : (x : List ℕ) → Encodes (table two) 1 both (of_one ++ x) → x ≡ []
begins_none x = page.no_encoding_begins_another N list_table two list_accepted 1 (omega arith) alone both of_one x alone_permitted

-- however their fifteen octets are cut
pub cut_one_way : (ws : List Value) (ns : List (List ℕ)) → Each (Encodes (table two) 1) ws ns → joined (of_one ∷ of_two ∷ []) ≡ joined ns
    → ((of_one ∷ of_two ∷ []) ≡ ns) × Each Equivalent (alone ∷ both ∷ []) ws
cut_one_way ws ns =
    page.a_line_is_cut_in_one_way N list_table two list_accepted 1 (omega arith) (alone ∷ both ∷ []) ws (of_one ∷ of_two ∷ []) ns (cons alone_permitted (cons both_permitted nil))

pub cut_alike : Each Equivalent (alone ∷ both ∷ []) (alone ∷ turned ∷ [])
cut_alike = (cut_one_way (alone ∷ turned ∷ []) (of_one ∷ of_two ∷ []) (cons alone_permitted (cons turned_permitted nil)) refl).1

low_set : depth alone ≤ levels
unfolding bag depth
low_set = omega arith

one_octets : Octets of_one
unfolding all
one_octets = octets_by of_one refl

pub cut_found : (whole_read N 1 (of_one ++ of_two) (room 16) ≡ refuse (of_message (message_cause Trailing 7)) (room 16)) × (of_one ≡ take 7 (of_one ++ of_two))
cut_found = (
  page.the_cut_is_found N list_table two list_accepted 1 (omega arith) alone of_one of_two (room 16) low_set alone_permitted (omega arith) (omega arith),
  page.no_other_cut_is_found N list_table two list_accepted 1 (omega arith) alone (take 7 (of_one ++ of_two)) of_two of_one of_two (room 16) alone_permitted refl one_octets 16 after_one.buffer outcomes.13,
)
