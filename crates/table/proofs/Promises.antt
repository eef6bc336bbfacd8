-- What the crates above may use of tables beside the theorems (`Theorems`). No other law of this crate is for them.
-- Assumes nothing.
use mathlib.Core.Bool.{Bool, true, false}
use mathlib.Core.List.{List}
use mathlib.Core.Path.{◌≡◌}
use Prim.Native.Nat.{ℕ, ◌+◌, ◌-◌, ◌≤◌, ◌<◌}
use lib.Dec.{leb}
use lib.ListN.{length, get_or}
use Rattle.octets.specs.Lists.{all}
use Rattle.table.specs.declared.CheckCause.{CheckCause}
use Rattle.table.specs.Syntax.{Record, constructed}
use Rattle.table.specs.Octets.{record_shaped, body_shaped}
use Rattle.table.specs.Reading.{members_at, every_at, body_at}
use Rattle.table.specs.Fields.{constructed_of}
use Rattle.table.specs.Verdict.{no_flaw, flawed, verdict}
use Rattle.table.proofs.Pieces as pieces
use Rattle.table.proofs.Reading as reading
use Rattle.table.proofs.Fields as fields
use Rattle.table.proofs.Loops as loops
use Rattle.table.proofs.Places as places

-- The verdict, of any list: the place of a refusal, and the length of what passes.

pub place_small : (b : List ℕ) (c : CheckCause) (p : ℕ) → verdict b ≡ flawed c p → p ≤ 128
place_small = places.place_small

pub passed_short : (b : List ℕ) → verdict b ≡ no_flaw → length b ≤ 8192
passed_short = places.passed_short

-- The body of kind k whose own part begins at p: the constructed bit goes by the kind alone.

pub constructed_of_lem : (b : List ℕ) (k p : ℕ) → constructed (body_at b k p) ≡ constructed_of k
constructed_of_lem = fields.constructed_of_lem

-- A shaped record: the classes of its tags, and its body.

pub shaped_classes : (r : Record) → record_shaped r ≡ true → all (λ g. leb g.class 3) r.tags ≡ true
shaped_classes r e = (reading.limits r e).classed

pub shaped_body : (r : Record) → record_shaped r ≡ true → body_shaped r.body ≡ true
shaped_body r e = (reading.limits r e).shaped

-- Lists that are read from a place on: how many members there are, and a loop through octets.

pub length_members : (b : List ℕ) (p n : ℕ) → length (members_at b p n) ≡ n
length_members = pieces.length_members

module _ (f : ℕ → Bool) (step : ℕ) (b : List ℕ) (p n : ℕ) (w : Bool) where
  pub all_stops : all f (every_at step b p n) ≡ w → 0 < n → f (get_or b p 0) ≡ false → false ≡ w
  all_stops = loops.all_stops f step b p n w

  pub all_goes : all f (every_at step b p n) ≡ w → 0 < n → f (get_or b p 0) ≡ true → all f (every_at step b (p + step) (n - 1)) ≡ w
  all_goes = loops.all_goes f step b p n w

  pub all_ends : all f (every_at step b p n) ≡ w → n ≤ 0 → true ≡ w
  all_ends = loops.all_ends f step b p n w
