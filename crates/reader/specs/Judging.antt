-- What judging requires of the octets that it is handed, and of the entry by which it judges them.
-- Assumes nothing.
use Rattle.std.specs.Prelude.{true, false, List, ◌≡◌, ℕ, ◌≤◌, ◌<◌, length}
use Rattle.records.specs.Descriptors.{described}
use Rattle.reader.specs.Codes.{either}
use Rattle.reader.specs.Items.{manner, is_single}
use Rattle.reader.specs.Records.{Known, record_in, IsRecord}
use Rattle.reader.specs.Sought.{held}
use Rattle.reader.specs.Wraps.{Headed}

-- for the items in w: a CHOICE and a message hold one, which is there
pub record ToJudge (b index : List ℕ) (w : ℕ) (m : List ℕ) (level : ℕ) : Type 0 where
  pub known : Known b index w
  pub holds : (described w).simple ≡ false
  pub some : is_single (manner (held b w)) ≡ true → 0 < length m
  pub short : length m ≤ 8192
  pub levels : level < 25

-- for a value of w, the entry of a record, at a place of m: its first identifier ends at `from`
pub record ToJudgeValue (b index : List ℕ) (w : ℕ) (m : List ℕ) (at from level : ℕ) : Type 0 where
  pub is : IsRecord b index w
  pub headed : Headed m at from (either (record_in b (described w))) (described w).code
  pub short : length m ≤ 8192
  pub levels : level < 24
