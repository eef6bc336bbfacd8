-- What placing requires of a message that was accepted and of the buffer, and what it leaves (FORMATS, "Values").
-- Placing counts no levels: its contracts name one number of them, 24. What is accepted with fewer is accepted with 24, and is the same.
-- Assumes nothing.
use Rattle.std.specs.Prelude.{Bool, false, List, ◌≡◌, ℕ, ◌+◌, ◌≤◌, ◌<◌, length, get_or, drop}
use Rattle.std.proofs.lemmas.List.Edits.{sets}
use Rattle.x690.specs.declared.ReadingCause.{ReadingCause}
use Rattle.octets.specs.Answer.{Answer, got}
use Rattle.ber.specs.Told.{mode}
use Rattle.table.specs.Reading.{table_in, count_in}
use Rattle.records.specs.Descriptors.{described}
use Rattle.coding.specs.Value.{Value, octets}
use Rattle.coding.specs.Reading.{read_value}
use Rattle.reader.specs.Codes.{first_of, untagged, either}
use Rattle.reader.specs.Items.{Holder, read_held}
use Rattle.reader.specs.Records.{Known, record_in, read_record}
use Rattle.reader.specs.Sought.{held}
use Rattle.reader.specs.Wraps.{Headed}
use Rattle.reader.specs.declared.node.Placed.{Placed}

-- x is accepted, and its octets have room
pub record Fits (x : Answer ReadingCause Value) (to : ℕ) (buf : List ℕ) : Type 0 where
  pub value : Value
  pub rest : List ℕ
  pub is : x ≡ got value rest
  pub room : to + length (octets value) ≤ length buf

-- the octets of v stand there, and nothing else was written; what follows in m begins at `end`
pub record Final (v : Value) (rest m first : List ℕ) (to : ℕ) (buf : List ℕ) (end next : ℕ) : Type 0 where
  pub ends : next ≡ to + length (octets v)
  pub buffer : buf ≡ sets first to (octets v)
  pub within : end ≤ length m
  pub behind : rest ≡ drop end m

abbrev pub IsPlaced : Answer ReadingCause Value → List ℕ → ℕ → List ℕ → List ℕ → Placed → Type 0
IsPlaced x m to first buf r = (v : Value) (rest : List ℕ) → x ≡ got v rest → Final v rest m first to buf r.end r.next

-- the items in the contents m of h
abbrev pub held_in : List ℕ → Holder → Bool → List ℕ → Answer ReadingCause Value
held_in b h indefinite m = read_held (table_in b) (read_value (table_in b) 24) h (mode indefinite) m

-- a value of an entry
abbrev pub value_in : List ℕ → ℕ → List ℕ → Answer ReadingCause Value
value_in b w s = read_record (table_in b) 24 (record_in b (described w)) s

-- what the placing of the items in w requires
pub record ToPlace (b index : List ℕ) (w : ℕ) (m : List ℕ) (indefinite : Bool) (buf : List ℕ) (to : ℕ) : Type 0 where
  pub known : Known b index w
  pub holds : (described w).simple ≡ false
  pub short : length m ≤ 8192
  pub fits : Fits (held_in b (held b w) indefinite m) to buf

-- what the placing of a value of w requires: w is the entry of a record that begins with an identifier of its own, which ends at `from`
pub record ToPlaceValue (b index : List ℕ) (w : ℕ) (m : List ℕ) (at from : ℕ) (buf : List ℕ) (to : ℕ) : Type 0 where
  pub type : ℕ
  pub low : type < count_in b
  pub entry : w ≡ get_or index type 0
  pub tagged : first_of (table_in b type) ≡ untagged → ⊥
  pub short : length m ≤ 8192
  pub headed : Headed m at from (either (record_in b (described w))) (described w).code
  pub fits : Fits (value_in b w (drop at m)) to buf

-- the first member from the j-th on that came; n if none did
pub record Following (ns : List ℕ) (j n k : ℕ) : Type 0 where
  pub least : j ≤ k
  pub most : k ≤ n
  pub none : (i : ℕ) → j ≤ i → i < k → get_or ns i 0 ≡ 0
  pub came : k < n → get_or ns k 0 ≡ 0 → ⊥
