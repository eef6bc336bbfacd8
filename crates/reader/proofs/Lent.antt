-- What those rely on who look among the parts of w, with what the type of the table says: the facts that the laws take together.
-- Assumes nothing.
use Rattle.std.proofs.Common.{List, ◌≡◌, ℕ, get_or}
use Rattle.checker.proofs.Ready.{Ready}
use Rattle.reader.specs.Items.{manner, each_once}
use Rattle.reader.specs.Records.{Known}
use Rattle.reader.specs.Sought.{held, Sound}

pub record Seeks (b index : List ℕ) (w : ℕ) (came : List ℕ) : Type 0 where
  pub ready : Ready b index
  pub known : Known b index w
  pub clear : (manner (held b w) ≡ each_once → ⊥) → (p : ℕ) → get_or came p 0 ≡ 0

pub seeks : {b index : List ℕ} {w : ℕ} {came : List ℕ} → Ready b index → Sound b index w came → Seeks b index w came
seeks r s = record { ready = r; known = s.known; clear = s.clear }
