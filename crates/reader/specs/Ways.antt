-- Ways through CHOICEs without tags, from a type to the record that an item begins (X.690, 8.13).
-- Assumes nothing.
use Rattle.std.specs.Prelude.{List, ◌≡◌, ℕ, zero, suc, ◌+◌, ◌*◌, ◌%◌, ◌<◌, length, get_or, None}
use Rattle.table.specs.Syntax.{Table}
use Rattle.table.specs.Rules.{siblings}
use Rattle.coding.specs.Value.{Value, choice}
use Rattle.reader.specs.Codes.{first_of, untagged, search_in}

-- From t on, d CHOICEs without tags lead to x. For each of them 16 is noted for each unit of its number, and which alternative is taken;
-- under those in front of that one no record begins with the code.
pub data Leads (T : Table) (code : ℕ) (way : List ℕ) (t : ℕ) : ℕ → ℕ → Type 0 where
  here : Leads T code way t zero t
  through : {d x : ℕ} (j : ℕ) → Leads T code way t d x → first_of (T x) ≡ untagged → get_or way d 0 ≡ 16 * x + j → j < 16 → j < length (siblings (T x).body)
      → ((i : ℕ) → i < j → search_in T 129 (get_or (siblings (T x).body) i 0) code ≡ None)
      → Leads T code way t (suc d) (get_or (siblings (T x).body) j 0)

-- the value under the first d CHOICEs of a way
unfoldable pub wrapped : List ℕ → ℕ → Value → Value
wrapped way zero v = v
wrapped way (suc d) v = wrapped way d (choice (get_or way d 0 % 16) v)
