-- The causes of each stage: which one a cause of the check, the judging or the reading becomes at a place, and that no two refusals share a
-- number and a place.
-- Assumes nothing.
use mathlib.Core.Path.{◌≡◌, refl, sym, ap, subst, ◌∙◌}
use Prim.Native.Nat.{ℕ}
use native.Mathlib.Omega.{arith}
use lib.Dec.{eqb}
use Rattle.octets.specs.Answer.{if}
use Rattle.x690.specs.declared.ReadingCause.{ReadingCause}
use Rattle.table.specs.declared.CheckCause.{CheckCause}
use Rattle.table.specs.Cause.{cause_number}
use Rattle.coding.specs.declared.JudgingCause.{JudgingCause}
use Rattle.coding.specs.declared.Report.{Report}
use Rattle.coding.specs.Outcome.{TableCause, Unknown, ValueCause, MessageRoom, MessageCause, MessageLength, ValueRoom, table_cause, value_cause, message_cause}
use Rattle.coding.specs.Outcome.{Refusal, of_table, of_value, of_message, report, table_report, number_of, place_of}

-- the check's numbers are the table's
pub table_number : (c : CheckCause) (p : ℕ) → table_report (table_cause c p) ≡ report (cause_number c) p
table_number CheckCause.TableShape p = refl
table_number CheckCause.NoRecord p = refl
table_number CheckCause.WrongTag p = refl
table_number CheckCause.ChoiceLoop p = refl
table_number CheckCause.SharedTag p = refl
table_number CheckCause.NoValue p = refl

-- their places are those at which they were refused

pub table_place : (c : CheckCause) (p : ℕ) → place_of (of_table (table_cause c p)) ≡ p
table_place c p = ap (λ (r : Report). r.place) (table_number c p)

pub value_place : (c : JudgingCause) (p : ℕ) → place_of (of_value (value_cause c p)) ≡ p
value_place JudgingCause.ValueShape p = refl
value_place JudgingCause.IllTyped p = refl
value_place JudgingCause.ValueLevel p = refl

pub message_place : (c : ReadingCause) (p : ℕ) → place_of (of_message (message_cause c p)) ≡ p
message_place ReadingCause.Cut p = refl
message_place ReadingCause.Forbidden p = refl
message_place ReadingCause.NotAwaited p = refl
message_place ReadingCause.Contents p = refl
message_place ReadingCause.Trailing p = refl
message_place ReadingCause.MessageLevel p = refl
message_place ReadingCause.LengthField p = refl

-- the cause and the place that the check, the judging or the reading gave, or neither
data Origin (K : Type 0) : Type 0 where
  given : K → ℕ → Origin K
  apart : Origin K

unfoldable IsGiven : {K : Type 0} → Origin K → Type 0
IsGiven (given k p) = Unit {0}
IsGiven apart = ⊥

unfoldable checked : TableCause → Origin CheckCause
checked (TableCause.TableShape p) = given CheckCause.TableShape p
checked (TableCause.NoRecord p) = given CheckCause.NoRecord p
checked (TableCause.WrongTag p) = given CheckCause.WrongTag p
checked (TableCause.ChoiceLoop p) = given CheckCause.ChoiceLoop p
checked (TableCause.SharedTag p) = given CheckCause.SharedTag p
checked (TableCause.NoValue p) = given CheckCause.NoValue p
checked Unknown = apart

checked_back : (c : CheckCause) (p : ℕ) → checked (table_cause c p) ≡ given c p
unfolding checked
checked_back CheckCause.TableShape p = refl
checked_back CheckCause.NoRecord p = refl
checked_back CheckCause.WrongTag p = refl
checked_back CheckCause.ChoiceLoop p = refl
checked_back CheckCause.SharedTag p = refl
checked_back CheckCause.NoValue p = refl

unfoldable judged : ValueCause → Origin JudgingCause
judged (ValueCause.ValueShape p) = given JudgingCause.ValueShape p
judged (ValueCause.IllTyped p) = given JudgingCause.IllTyped p
judged (ValueCause.ValueLevel p) = given JudgingCause.ValueLevel p
judged MessageRoom = apart

judged_back : (c : JudgingCause) (p : ℕ) → judged (value_cause c p) ≡ given c p
unfolding judged
judged_back JudgingCause.ValueShape p = refl
judged_back JudgingCause.IllTyped p = refl
judged_back JudgingCause.ValueLevel p = refl

unfoldable read : MessageCause → Origin ReadingCause
read (MessageLength p) = apart
read (MessageCause.Cut p) = given ReadingCause.Cut p
read (MessageCause.Forbidden p) = given ReadingCause.Forbidden p
read (MessageCause.NotAwaited p) = given ReadingCause.NotAwaited p
read (MessageCause.Contents p) = given ReadingCause.Contents p
read (MessageCause.Trailing p) = given ReadingCause.Trailing p
read ValueRoom = apart
read (MessageCause.MessageLevel p) = given ReadingCause.MessageLevel p
read (MessageCause.LengthField p) = given ReadingCause.LengthField p

read_back : (c : ReadingCause) (p : ℕ) → read (message_cause c p) ≡ given c p
unfolding read
read_back ReadingCause.Cut p = refl
read_back ReadingCause.Forbidden p = refl
read_back ReadingCause.NotAwaited p = refl
read_back ReadingCause.Contents p = refl
read_back ReadingCause.Trailing p = refl
read_back ReadingCause.MessageLevel p = refl
read_back ReadingCause.LengthField p = refl

-- so it is one cause at one place, and none that has no place

module _ {K C : Type 0} (at : K → ℕ → C) (of : C → Origin K) (back : (k : K) (p : ℕ) → of (at k p) ≡ given k p) where
  same : (c d : K) (p q : ℕ) → at c p ≡ at d q → (c ≡ d) × (p ≡ q)
  same c d p q e = let z : given c p ≡ given d q = sym (back c p) ∙ ap of e ∙ back d q in (cc, cc)

  other : (c : K) (p : ℕ) (x : C) → of x ≡ apart → at c p ≡ x → ⊥
  unfolding IsGiven
  other c p x n e = subst IsGiven (sym (back c p) ∙ ap of e ∙ n) tt

pub same_table : (c d : CheckCause) (p q : ℕ) → table_cause c p ≡ table_cause d q → (c ≡ d) × (p ≡ q)
same_table = same table_cause checked checked_back

pub not_unknown : (c : CheckCause) (p : ℕ) → table_cause c p ≡ Unknown → ⊥
unfolding checked
not_unknown c p = other table_cause checked checked_back c p Unknown refl

pub same_value : (c d : JudgingCause) (p q : ℕ) → value_cause c p ≡ value_cause d q → (c ≡ d) × (p ≡ q)
same_value = same value_cause judged judged_back

pub not_message_room : (c : JudgingCause) (p : ℕ) → value_cause c p ≡ MessageRoom → ⊥
unfolding judged
not_message_room c p = other value_cause judged judged_back c p MessageRoom refl

pub same_message : (c d : ReadingCause) (p q : ℕ) → message_cause c p ≡ message_cause d q → (c ≡ d) × (p ≡ q)
same_message = same message_cause read read_back

pub not_message_length : (c : ReadingCause) (p q : ℕ) → message_cause c p ≡ MessageLength q → ⊥
unfolding read
not_message_length c p q = other message_cause read read_back c p (MessageLength q) refl

pub not_value_room : (c : ReadingCause) (p : ℕ) → message_cause c p ≡ ValueRoom → ⊥
unfolding read
not_value_room c p = other message_cause read read_back c p ValueRoom refl

-- the refusal with a number and a place
unfoldable numbered : ℕ → ℕ → Refusal
numbered n p =
    if (eqb n 1) (of_table (TableCause.TableShape p)) λ _.
    if (eqb n 2) (of_table (TableCause.NoRecord p)) λ _.
    if (eqb n 3) (of_table (TableCause.WrongTag p)) λ _.
    if (eqb n 4) (of_table (TableCause.ChoiceLoop p)) λ _.
    if (eqb n 5) (of_table (TableCause.SharedTag p)) λ _.
    if (eqb n 6) (of_table (TableCause.NoValue p)) λ _.
    if (eqb n 7) (of_table Unknown) λ _.
    if (eqb n 11) (of_value (ValueCause.ValueShape p)) λ _.
    if (eqb n 12) (of_value (ValueCause.IllTyped p)) λ _.
    if (eqb n 13) (of_value (ValueCause.ValueLevel p)) λ _.
    if (eqb n 14) (of_value MessageRoom) λ _.
    if (eqb n 21) (of_message (MessageLength p)) λ _.
    if (eqb n 22) (of_message (MessageCause.Cut p)) λ _.
    if (eqb n 23) (of_message (MessageCause.Forbidden p)) λ _.
    if (eqb n 24) (of_message (MessageCause.NotAwaited p)) λ _.
    if (eqb n 25) (of_message (MessageCause.Contents p)) λ _.
    if (eqb n 26) (of_message (MessageCause.Trailing p)) λ _.
    if (eqb n 27) (of_message ValueRoom) λ _.
    if (eqb n 28) (of_message (MessageCause.MessageLevel p)) λ _.
    of_message (MessageCause.LengthField p)

numbered_back : (r : Refusal) → numbered (number_of r) (place_of r) ≡ r
unfolding numbered if
numbered_back (of_table (TableCause.TableShape p)) = refl
numbered_back (of_table (TableCause.NoRecord p)) = refl
numbered_back (of_table (TableCause.WrongTag p)) = refl
numbered_back (of_table (TableCause.ChoiceLoop p)) = refl
numbered_back (of_table (TableCause.SharedTag p)) = refl
numbered_back (of_table (TableCause.NoValue p)) = refl
numbered_back (of_table Unknown) = refl
numbered_back (of_value (ValueCause.ValueShape p)) = refl
numbered_back (of_value (ValueCause.IllTyped p)) = refl
numbered_back (of_value (ValueCause.ValueLevel p)) = refl
numbered_back (of_value MessageRoom) = refl
numbered_back (of_message (MessageLength p)) = refl
numbered_back (of_message (MessageCause.Cut p)) = refl
numbered_back (of_message (MessageCause.Forbidden p)) = refl
numbered_back (of_message (MessageCause.NotAwaited p)) = refl
numbered_back (of_message (MessageCause.Contents p)) = refl
numbered_back (of_message (MessageCause.Trailing p)) = refl
numbered_back (of_message ValueRoom) = refl
numbered_back (of_message (MessageCause.MessageLevel p)) = refl
numbered_back (of_message (MessageCause.LengthField p)) = refl

-- no two refusals share a number and a place
pub same_refusal : (r s : Refusal) → number_of r ≡ number_of s → place_of r ≡ place_of s → r ≡ s
same_refusal r s e f = sym (numbered_back r) ∙ rw (e, f) (numbered_back s)

-- and none has the number 0
pub never_0 : (r : Refusal) → number_of r ≡ 0 → ⊥
unfolding numbered if
never_0 r e =
    let s : of_message (MessageCause.LengthField (place_of r)) ≡ r = sym (ap (λ (n : ℕ). numbered n (place_of r)) e) ∙ numbered_back r in
    let h : 29 ≡ number_of r = ap number_of s in
    omega arith
