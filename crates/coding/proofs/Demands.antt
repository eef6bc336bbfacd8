-- The three demands, for every table, type, value, message and buffer, and that no message hides in another: the page to read of what is promised.
-- What its words mean is in `specs/Demands`. That the functions' answers are these outcomes is in their contracts (`engine`), and for C in
-- `link/proofs/Boundary`.
-- Assumes nothing.
use Rattle.std.specs.Prelude.{Ok, Err}
use mathlib.Core.List.{List, [], ◌++◌, append-nil}
use mathlib.Core.Logic.{◌↔◌}
use mathlib.Core.Path.{◌≡◌, refl, sym, ap, subst, ◌∙◌}
use Prim.Native.Nat.{ℕ, ◌+◌, ◌≤◌, ◌<◌}
use native.Mathlib.Omega.{arith}
use lib.ListN.{length, length-append}
use Rattle.x690.specs.declared.ReadingCause.{ReadingCause}
use Rattle.x690.specs.declared.ReadingCause.TheVariants.{Trailing}
use Rattle.octets.specs.Answer.{got}
use Rattle.octets.specs.Lists.{joined}
use Rattle.octets.specs.Numbers.{Octets}
use Rattle.octets.specs.Permutations.{Each, any_order}
use Rattle.octets.proofs.Permutations.{all_octets}
use Rattle.table.specs.Syntax.{Record, Table, table}
use Rattle.table.specs.declared.CheckCause.{CheckCause}
use Rattle.table.specs.Cause.{Breaks, FirstCause}
use Rattle.table.specs.Passes.{Passes}
use Rattle.table.specs.Verdict.{verdict, Verdict}
use Rattle.table.proofs.Theorems.{rules_kept, named_first, first_named, passed_none, none_passed}
use Rattle.coding.specs.Value.{Leaf, Value, leaf, octets, depth}
use Rattle.coding.specs.Encodes.{Encodes, Arrives}
use Rattle.coding.specs.Typed.{WellTyped}
use Rattle.coding.specs.Shaped.{Shaped}
use Rattle.coding.specs.Equivalent.{Equivalent}
use Rattle.coding.specs.Judging.{judge_whole}
use Rattle.coding.specs.declared.JudgingCause.{JudgingCause}
use Rattle.coding.specs.Outcome.{levels, longest_value, longest_message, Unknown, table_cause, MessageRoom, value_cause, MessageLength, ValueRoom, message_cause}
use Rattle.coding.specs.Outcome.{Refusal, of_table, of_value, of_message, done, refusal, Outcome, refuse}
use Rattle.coding.specs.Calls.{read_outcome, write_outcome, whole_read, whole_write, check_answer}
use Rattle.coding.specs.Demands.{Answers, is_done, of_the_table, Accepted, NoSuchType, OfType, MessageRefused, NoRoomForValue, Read, ValueRefused, NoRoomForMessage, Wrote, Received, Sent}
use Rattle.coding.proofs.FirstTags.{Good, good}
use Rattle.coding.proofs.Levels.{retype}
use Rattle.coding.proofs.Judging.{judge_octets}
use Rattle.coding.proofs.Messages.{accepts_as_given, accepts_a_leaf, refuses_behind, unique, cut_once}
use Rattle.coding.proofs.Shaped.{Limited, limited, encodes_shaped}
use Rattle.coding.proofs.Causes.{same_table}
use Rattle.coding.proofs.Outcomes as outcomes
use Rattle.coding.proofs.Outcomes.{Beyond, reading, writing, long_exactly, refused_exactly, lacks_exactly, read_exactly, received, read_alike, read_refuses, read_beyond}
use Rattle.coding.proofs.Outcomes.{read_unchanged, judged_exactly}
use Rattle.coding.proofs.Outcomes.{full_exactly, written_exactly, sent, write_beyond, write_unchanged, done≢refusal, message_beyond}
use Rattle.coding.proofs.Outcomes.{value_beyond, done_beyond}
use Rattle.coding.proofs.Stages.{call, call_found, found_exactly, table_exactly, type_exactly, call_unchanged, call_answers}

-- both outcomes are those of a call: the table is judged, the type is looked for, then it is read or written

read_call : (b : List ℕ) (t : ℕ) (m buf : List ℕ) → whole_read b t m buf ≡ call b t buf (λ T. reading T t m buf)
unfolding whole_read read_outcome
read_call b t m buf = refl

write_call : (b : List ℕ) (t : ℕ) (v buf : List ℕ) → whole_write b t v buf ≡ call b t buf (λ T. writing T t v buf)
unfolding whole_write write_outcome
write_call b t v buf = refl

along : {x y z : Outcome} {Q : Type 0} → x ≡ y → (y ≡ z) ↔ Q → (x ≡ z) ↔ Q
along q e = (λ z. e.0 (sym q ∙ z), λ r. q ∙ e.1 r)

module _ {b : List ℕ} (o : Octets b) where
  kept : {rs : List Record} → Accepted b rs → Passes b (table rs) (length rs)
  kept a = rules_kept b o a.spells a.no_cause

  good_of : {rs : List Record} → Accepted b rs → Good (table rs)
  good_of {rs} a = good b (table rs) (length rs) (kept a)

  limits_of : {rs : List Record} → Accepted b rs → (u : ℕ) → Limited (table rs u).body
  limits_of {rs} a = limited b (table rs) (length rs) (kept a)

  -- an answer behind the table's: what it says of the records for g, it says of the call
  later : (t : ℕ) (buf : List ℕ) (g : Table → Outcome) (x : Outcome) {P : Table → Type 0} → Beyond x → ((rs : List Record) → Accepted b rs → (g (table rs) ≡ x) ↔ P (table rs))
      → (call b t buf g ≡ x) ↔ OfType b t P
  later t buf g x far f =
      let e = found_exactly b t buf g o x far in (
        λ z. let r = e.0 z in record { records = r.records; accepted = r.accepted; there = r.there; holds = (f r.records r.accepted).0 r.holds },
        λ r. e.1 (record { records = r.records; accepted = r.accepted; there = r.there; holds = (f r.records r.accepted).1 r.holds }),
      )

  read_later : (t : ℕ) (m buf : List ℕ) (x : Outcome) {P : Table → Type 0} → Beyond x → ((rs : List Record) → Accepted b rs → (reading (table rs) t m buf ≡ x) ↔ P (table rs))
      → (whole_read b t m buf ≡ x) ↔ OfType b t P
  read_later t m buf x far f = along (read_call b t m buf) (later t buf (λ T. reading T t m buf) x far f)

  write_later : (t : ℕ) (v buf : List ℕ) (x : Outcome) {P : Table → Type 0} → Beyond x → ((rs : List Record) → Accepted b rs → (writing (table rs) t v buf ≡ x) ↔ P (table rs))
      → (whole_write b t v buf ≡ x) ↔ OfType b t P
  write_later t v buf x far f = along (write_call b t v buf) (later t buf (λ T. writing T t v buf) x far f)

-- Demand 1. Which answer is given when, from the octets alone: one equivalence a stage, in the order of the stages.

module _ (b : List ℕ) (o : Octets b) where
  -- check, 1 to 6: the first cause is named
  pub check_refuses : (c : CheckCause) (p : ℕ) → (check_answer (verdict b) ≡ refusal (of_table (table_cause c p))) ↔ FirstCause b c p
  unfolding check_answer
  check_refuses c p = (λ e. by (verdict b) refl e, λ x. ap check_answer (first_named b o c p x))
    where
      by : (v : Verdict) → verdict b ≡ v → check_answer v ≡ refusal (of_table (table_cause c p)) → FirstCause b c p
      by (Ok u) q e = done≢refusal e
      by (Err x) q e =
          let z : table_cause x.cause x.place ≡ table_cause c p = cc in
          let s = same_table x.cause c x.place p z in
          rw (← s.0, ← s.1) (named_first b o x.cause x.place q)

  -- check: the table passes where no cause holds
  pub check_passes : (check_answer (verdict b) ≡ done 0) ↔ ((c : CheckCause) (p : ℕ) → Breaks b p c → ⊥)
  unfolding check_answer
  check_passes = (λ e. by (verdict b) refl e, λ h. ap check_answer (none_passed b o h))
    where
      by : (v : Verdict) → verdict b ≡ v → check_answer v ≡ done 0 → (c : CheckCause) (p : ℕ) → Breaks b p c → ⊥
      by (Ok u) q e = passed_none b o q
      by (Err x) q e = done≢refusal (sym e)

  module _ (t : ℕ) (m buf : List ℕ) (o' : Octets m) where
    -- read, 1 to 6
    pub read_refuses_table : (c : CheckCause) (p : ℕ) → (whole_read b t m buf ≡ refuse (of_table (table_cause c p)) buf) ↔ FirstCause b c p
    read_refuses_table c p = along (read_call b t m buf) (table_exactly b t buf (λ T. reading T t m buf) o (λ T. read_beyond T t m buf) c p)

    -- 7
    pub read_refuses_type : (whole_read b t m buf ≡ refuse (of_table Unknown) buf) ↔ NoSuchType b t
    read_refuses_type = along (read_call b t m buf) (type_exactly b t buf (λ T. reading T t m buf) o (λ T. read_beyond T t m buf))

    -- 21
    pub read_refuses_length : (p : ℕ) → (whole_read b t m buf ≡ refuse (of_message (MessageLength p)) buf) ↔ OfType b t (λ T. (longest_message < length m) × (p ≡ 0))
    read_refuses_length p =
        read_later o t m buf (refuse (of_message (MessageLength p)) buf) (message_beyond (MessageLength p) buf) λ rs a. long_exactly (table rs) t m buf o' p

    -- 22 to 26, 28, 29
    pub read_refuses_message : (c : ReadingCause) (p : ℕ) → (whole_read b t m buf ≡ refuse (of_message (message_cause c p)) buf) ↔ OfType b t (λ T. MessageRefused T t m c p)
    read_refuses_message c p =
        read_later o t m buf (refuse (of_message (message_cause c p)) buf) (message_beyond (message_cause c p) buf) λ rs a. refused_exactly (table rs) t m buf o' c p

    -- 27
    pub read_refuses_room : (whole_read b t m buf ≡ refuse (of_message ValueRoom) buf) ↔ OfType b t (λ T. NoRoomForValue T t m buf)
    read_refuses_room =
        read_later o t m buf (refuse (of_message ValueRoom) buf) (message_beyond ValueRoom buf) λ rs a. lacks_exactly (table rs) t m buf o' (good_of o a)

    -- done
    pub read_is_done : (k : ℕ) (after : List ℕ) → (whole_read b t m buf ≡ record { answer = done k; buffer = after }) ↔ OfType b t (λ T. Read T t m buf k after)
    read_is_done k after = read_later o t m buf (record { answer = done k; buffer = after }) (done_beyond k after) λ rs a. read_exactly (table rs) t m buf o' (good_of o a) k after

  module _ (t : ℕ) (v buf : List ℕ) (o' : Octets v) where
    -- write, 1 to 6
    pub write_refuses_table : (c : CheckCause) (p : ℕ) → (whole_write b t v buf ≡ refuse (of_table (table_cause c p)) buf) ↔ FirstCause b c p
    write_refuses_table c p = along (write_call b t v buf) (table_exactly b t buf (λ T. writing T t v buf) o (λ T. write_beyond T t v buf) c p)

    -- 7
    pub write_refuses_type : (whole_write b t v buf ≡ refuse (of_table Unknown) buf) ↔ NoSuchType b t
    write_refuses_type = along (write_call b t v buf) (type_exactly b t buf (λ T. writing T t v buf) o (λ T. write_beyond T t v buf))

    -- 11 to 13
    pub write_refuses_value : (c : JudgingCause) (p : ℕ) → (whole_write b t v buf ≡ refuse (of_value (value_cause c p)) buf) ↔ OfType b t (λ T. ValueRefused T t v c p)
    write_refuses_value c p =
        write_later o t v buf (refuse (of_value (value_cause c p)) buf) (value_beyond (value_cause c p) buf) λ rs a. judged_exactly (table rs) t v buf o' c p

    -- 14
    pub write_refuses_room : (whole_write b t v buf ≡ refuse (of_value MessageRoom) buf) ↔ OfType b t (λ T. NoRoomForMessage T t v buf)
    write_refuses_room = write_later o t v buf (refuse (of_value MessageRoom) buf) (value_beyond MessageRoom buf) λ rs a. full_exactly (table rs) t v buf o'

    -- done
    pub write_is_done : (k : ℕ) (after : List ℕ) → (whole_write b t v buf ≡ record { answer = done k; buffer = after }) ↔ OfType b t (λ T. Wrote T t v buf k after)
    write_is_done k after = write_later o t v buf (record { answer = done k; buffer = after }) (done_beyond k after) λ rs a. written_exactly (table rs) t v buf o' k after

-- there are no other answers: a refusal of `check` is of the table, one of `read` of the table or the message, one of `write` of the table or the value

pub check_answers : (b : List ℕ) → Answers of_table (check_answer (verdict b))
unfolding check_answer
check_answers b = by (verdict b)
  where
    by : (v : Verdict) → Answers of_table (check_answer v)
    by (Ok u) = is_done 0
    by (Err x) = of_the_table (table_cause x.cause x.place)

pub read_answers : (b : List ℕ) (t : ℕ) (m buf : List ℕ) → Answers of_message (whole_read b t m buf).answer
unfolding whole_read read_outcome
read_answers b t m buf = call_answers b t buf (λ T. reading T t m buf) of_message (λ T. outcomes.read_answers T t m buf)

pub write_answers : (b : List ℕ) (t : ℕ) (v buf : List ℕ) → Answers of_value (whole_write b t v buf).answer
unfolding whole_write write_outcome
write_answers b t v buf = call_answers b t buf (λ T. writing T t v buf) of_value (λ T. outcomes.write_answers T t v buf)

-- a refusal leaves the buffer as it was

pub read_leaves : (b : List ℕ) (t : ℕ) (m buf : List ℕ) (r : Refusal) → (whole_read b t m buf).answer ≡ refusal r → (whole_read b t m buf).buffer ≡ buf
unfolding whole_read read_outcome
read_leaves b t m buf = call_unchanged b t buf (λ T. reading T t m buf) (λ T. read_unchanged T t m buf)

pub write_leaves : (b : List ℕ) (t : ℕ) (v buf : List ℕ) (r : Refusal) → (whole_write b t v buf).answer ≡ refusal r → (whole_write b t v buf).buffer ≡ buf
unfolding whole_write write_outcome
write_leaves b t v buf = call_unchanged b t buf (λ T. writing T t v buf) (λ T. write_unchanged T t v buf)

-- Demands 2 and 3, for a table that is not refused and a type in it.

module _ (b : List ℕ) (o : Octets b) (rs : List Record) (a : Accepted b rs) (t : ℕ) (lt : t < length rs) where
  read_found : (m buf : List ℕ) → whole_read b t m buf ≡ reading (table rs) t m buf
  read_found m buf = read_call b t m buf ∙ call_found b t buf (λ T. reading T t m buf) o a lt

  write_found : (v buf : List ℕ) → whole_write b t v buf ≡ writing (table rs) t v buf
  write_found v buf = write_call b t v buf ∙ call_found b t buf (λ T. writing T t v buf) o a lt

  -- Demand 2: the reader accepts exactly what X.690 permits for the type within the limits, and yields the value that it carries.
  pub reads_exactly : (m buf : List ℕ) → Octets m → (k : ℕ) (after : List ℕ) → (whole_read b t m buf ≡ record { answer = done k; buffer = after }) ↔ Read (table rs) t m buf k after
  reads_exactly m buf p k after = along (read_found m buf) (read_exactly (table rs) t m buf p (good_of o a) k after)

  -- Demand 2: the writer yields the one form fixed for the value, and for nothing else.
  pub writes_exactly : (v buf : List ℕ) → Octets v → (k : ℕ) (after : List ℕ) → (whole_write b t v buf ≡ record { answer = done k; buffer = after }) ↔ Wrote (table rs) t v buf k after
  writes_exactly v buf p k after = along (write_found v buf) (written_exactly (table rs) t v buf p k after)

  -- Demand 3, the receiver.
  pub what_was_sent_arrives : (v : Value) (m buf : List ℕ) → depth v ≤ levels → length (octets v) ≤ longest_value → Octets m → Encodes (table rs) t v m → length m ≤ longest_message
      → length (octets v) ≤ length buf → Received (table rs) t v m buf (whole_read b t m buf)
  what_was_sent_arrives v m buf d l p e h k =
      subst (λ (x : Outcome). Received (table rs) t v m buf x) (sym (read_found m buf)) (received (table rs) t m buf p (good_of o a) (limits_of o a) v d l e h k)

  -- Demand 3: however a value is sent, with strings whole or in segments, the lengths in any form and the members of SETs in any order, every
  -- buffer gets the same.
  pub however_it_is_sent : (v : Value) (m n buf : List ℕ) → depth v ≤ levels → Arrives (table rs) t v m → Arrives (table rs) t v n → length m ≤ longest_message → length n ≤ longest_message
      → whole_read b t m buf ≡ whole_read b t n buf
  however_it_is_sent v m n buf d e f h k =
      read_found m buf
      ∙ read_alike (table rs) t m buf v n h k (accepts_as_given (table rs) (good_of o a) levels t v m e d) (accepts_as_given (table rs) (good_of o a) levels t v n f d)
      ∙ sym (read_found n buf)

  -- Of a simple value alone, so of a string: any two permitted encodings.
  pub however_a_string_is_sent : (x : Leaf) (m n buf : List ℕ) → Encodes (table rs) t (leaf x) m → Encodes (table rs) t (leaf x) n → length m ≤ longest_message → length n ≤ longest_message
      → whole_read b t m buf ≡ whole_read b t n buf
  unfolding depth
  however_a_string_is_sent x m n buf e f h k =
      read_found m buf
      ∙ read_alike (table rs) t m buf (leaf x) n h k (accepts_a_leaf (table rs) (good_of o a) levels t x m e (omega arith)) (accepts_a_leaf (table rs) (good_of o a) levels t x n f (omega arith))
      ∙ sym (read_found n buf)

  -- Demand 3, the sender.
  pub what_is_sent_is_permitted : (v : Value) (buf : List ℕ) → WellTyped (table rs) t v → depth v ≤ levels → Shaped v → length (octets v) ≤ longest_value
      → Sent (table rs) t v buf (whole_write b t (octets v) buf)
  what_is_sent_is_permitted v buf w d s h =
      subst (λ (x : Outcome). Sent (table rs) t v buf x) (sym (write_found (octets v) buf)) (sent (table rs) t buf v w d s h)

  -- What the reader left at the start of the buffer is a value: judged again, it is that value.
  pub what_was_read_is_a_value : (m buf : List ℕ) → Octets m → (k : ℕ) (after : List ℕ) → (x : Read (table rs) t m buf k after)
      → Shaped x.value × (judge_whole (table rs) levels t (octets x.value) ≡ got x.value [])
  what_was_read_is_a_value m buf p k after x =
      let e = x.encodes in
      let w = x.typed in
      let h = encodes_shaped any_order (table rs) (limits_of o a) e.level t x.value m (all_octets m p) x.within e.encodes in
      (h, judge_octets (table rs) levels t x.value (retype (table rs) w.level levels t x.value x.deep w.typed) h)

  -- No message hides in another: the permitted encodings of the type. What octets encode is well-typed (`well_typed` in `Levels`), and it takes no limit of
  -- levels or octets to tell encodings apart: what is asked of those within the limits is said of all.

  -- Values that share an encoding are equivalent.
  pub what_shares_an_encoding_is_equivalent : (v w : Value) (m : List ℕ) → Encodes (table rs) t v m → Encodes (table rs) t w m → Equivalent v w
  what_shares_an_encoding_is_equivalent v w m e f = (unique (table rs) (good_of o a) t [] [] e f refl).2

  -- No encoding is the beginning of a longer one.
  pub no_encoding_begins_another : (v w : Value) (m x : List ℕ) → Encodes (table rs) t v m → Encodes (table rs) t w (m ++ x) → x ≡ []
  no_encoding_begins_another v w m x e f = (unique (table rs) (good_of o a) t x [] e f (sym (append-nil (m ++ x)))).1

  -- A line of encodings is cut in one way: into the same ones, so into as many, of equivalent values.
  pub a_line_is_cut_in_one_way : (vs ws : List Value) (ms ns : List (List ℕ)) → Each (Encodes (table rs) t) vs ms → Each (Encodes (table rs) t) ws ns → joined ms ≡ joined ns
      → (ms ≡ ns) × Each Equivalent vs ws
  a_line_is_cut_in_one_way vs ws ms ns es fs q = cut_once (table rs) (good_of o a) t es fs q

  -- Reading from the front finds the cut: if anything stands behind the first message, 26 is said where that ends.
  pub the_cut_is_found : (v : Value) (m x buf : List ℕ) → depth v ≤ levels → Encodes (table rs) t v m → 1 ≤ length x → length (m ++ x) ≤ longest_message
      → whole_read b t (m ++ x) buf ≡ refuse (of_message (message_cause Trailing (length m))) buf
  the_cut_is_found v m x buf d e k h =
      let h' : length m + length x ≡ length (m ++ x) = sym (length-append m x) in
      read_found (m ++ x) buf
      ∙ read_refuses (table rs) t (m ++ x) buf Trailing (length m) (record {
        within = h;
        left = length x;
        inside = omega arith;
        reading = refuses_behind (table rs) (good_of o a) levels t v m x e d k;
        place = omega arith;
      })

  -- And of all that the line begins with, the reader is done with the first message alone.
  pub no_other_cut_is_found : (v : Value) (m x p y buf : List ℕ) → Encodes (table rs) t v m → p ++ y ≡ m ++ x → Octets p → (k : ℕ) (after : List ℕ)
      → whole_read b t p buf ≡ record { answer = done k; buffer = after } → p ≡ m
  no_other_cut_is_found v m x p y buf e q h k after z = (unique (table rs) (good_of o a) t y x ((reads_exactly p buf h k after).0 z).encodes e q).0
