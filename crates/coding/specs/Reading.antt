-- The reading of a message, with every refusal of the message stage from 22 on and its place (FORMATS, "Messages" and "Order of refusals").
-- A refusal carries the number of octets that are left from its place to the end of what was given.
-- Assumes nothing.
use Rattle.std.specs.Prelude.{Bool, true, false, not, List, [], ◌∷◌, ◌++◌, ℕ, zero, suc, length, get_or, drop, leb, eqb, ℤ, pos, negsuc}
use Rattle.std.proofs.Math.Option.{Option, some, none}
use Rattle.x690.specs.declared.ReadingCause.{ReadingCause}
use Rattle.x690.specs.declared.ReadingCause.TheVariants.{Cut, NotAwaited, Contents, Trailing, MessageLevel}
use Rattle.octets.specs.Answer.{Answer, got, refused, then, if, none_left}
use Rattle.x690.specs.Reading.{read_identifier, Mode, at_end, read_constructed}
unfoldable pub use Rattle.x690.specs.Reading.{passes}
use Rattle.x690.specs.Segments.{read_carried}
use Rattle.x690.specs.Integer.{integer_of, minimal}
use Rattle.x690.specs.BitString.{unused, masked}
use Rattle.x690.specs.Time.{time_of, is_time}
use Rattle.table.specs.Syntax.{Member, Body, Plain, Sequence, Set, SequenceOf, SetOf, Choice, Table, Simple, Boolean, Integer, BitString, OctetString, Null, Enumerated, Time}
use Rattle.coding.specs.Value.{Value, leaf, sequence, set, sequence_of, set_of, choice, slots, bag, Leaf, boolean, integer, bits, string, null, enumerated, time}
use Rattle.coding.specs.Content.{listed, segmented}
use Rattle.coding.specs.Encodes.{allowed}
use Rattle.coding.specs.Tags.{own_tag, explicit}
use Rattle.coding.specs.Awaited.{begins}

unfoldable pub is_listed : List ℕ → ℤ → Bool
is_listed ns (pos k) = listed ns k
is_listed ns (negsuc k) = false

abbrev pub natural : ℤ → ℕ
natural (pos k) = k
natural (negsuc k) = 0

-- the leaf that contents carry, else 25; s stands behind the contents, and l octets are left where the item begins
unfoldable pub decode : Simple → ℕ → List ℕ → List ℕ → Answer ReadingCause Leaf
decode Boolean l c s = if (not (eqb (length c) 1)) (refused Contents l) λ _. got (boolean (not (eqb (get_or c 0 0) 0))) s
decode Integer l c s =
    if (not (minimal c)) (refused Contents l) λ _.
    if (not (leb (length c) 8)) (refused Contents l) λ _.
    got (integer (integer_of c)) s
decode BitString l c s =
    if (none_left c) (refused Contents l) λ _.
    if (not (unused (get_or c 0 0) (drop 1 c))) (refused Contents l) λ _.
    got (bits (get_or c 0 0) (masked (get_or c 0 0) (drop 1 c))) s
decode OctetString l c s = got (string c) s
decode Null l c s = if (not (none_left c)) (refused Contents l) λ _. got null s
decode (Enumerated ns) l c s =
    if (not (minimal c)) (refused Contents l) λ _.
    if (not (leb (length c) 8)) (refused Contents l) λ _.
    if (not (is_listed ns (integer_of c))) (refused Contents l) λ _.
    got (enumerated (natural (integer_of c))) s
decode (Time k) l c s = if (not (is_time k c)) (refused Contents l) λ _. got (time k (time_of k c)) s

-- the next item begins a value of the type
unfoldable pub begun : Table → ℕ → List ℕ → Bool
begun T t s = passes (begins T t) (read_identifier s)

-- an item that is not awaited: 24, once its identifier octets are whole (22) and in form (23)
unfoldable pub not_awaited : {A : Type 0} → List ℕ → Answer ReadingCause A
not_awaited s = then (read_identifier s) λ i s₁. refused NotAwaited (length s)

-- none of the members
unfoldable pub nothing : List Member → List (Option Value)
nothing [] = []
nothing (m ∷ ms) = none ∷ nothing ms

-- every member is there
unfoldable pub full : List (Option Value) → Bool
full [] = true
full (none ∷ os) = false
full (some v ∷ os) = full os

-- an item where those are awaited that the test says, or where nothing is
unfoldable pub unwanted : {A : Type 0} → Bool → List ℕ → Answer ReadingCause A
unwanted true s = not_awaited s
unwanted false s = refused Trailing (length s)

-- under an explicit tag stands one item, and nothing behind it
unfoldable pub read_wrapped : {A : Type 0} → List (List ℕ) → (List ℕ → Answer ReadingCause A) → List ℕ → Answer ReadingCause A
read_wrapped [] r s = r s
read_wrapped (i ∷ is) r s =
    read_constructed i (λ mode u.
    at_end mode u (λ _. refused NotAwaited (length u)) λ _.
    then (read_wrapped is r u) λ v w.
    at_end mode w (λ y. got v y) λ _. refused Trailing (length w)) s

module _ (T : Table) (r : ℕ → List ℕ → Answer ReadingCause Value) where
  -- the members in the table's order; what comes may pass over optional ones, up to the next mandatory one. w: some were passed over
  unfoldable pub read_sequence : List Member → List (Option Value) → Bool → Mode → List ℕ → Answer ReadingCause (List (Option Value))
  read_sequence [] os w mode s = at_end mode s (λ u. got os u) λ _. unwanted w s
  read_sequence (m ∷ ms) os w mode s =
      if (begun T m.type s) (then (r m.type s) λ v s₁. read_sequence ms (os ++ (some v ∷ [])) false mode s₁) λ _.
      if m.optional (read_sequence ms (os ++ (none ∷ [])) true mode s) λ _.
      at_end mode s (λ u. refused NotAwaited (length s)) λ _. not_awaited s

  -- one member of a SET, put where it belongs
  unfoldable pub place_member : List Member → List (Option Value) → List ℕ → Answer ReadingCause (List (Option Value))
  place_member [] os s = not_awaited s
  place_member (m ∷ ms) [] s = not_awaited s
  place_member (m ∷ ms) (none ∷ os) s =
      if (begun T m.type s) (then (r m.type s) λ v s₁. got (some v ∷ os) s₁) λ _.
      then (place_member ms os s) λ us s₁. got (none ∷ us) s₁
  place_member (m ∷ ms) (some v ∷ os) s = then (place_member ms os s) λ us s₁. got (some v ∷ us) s₁

  -- at most so many members in the order in which they come, each one once; os are those in hand
  unfoldable pub read_set : ℕ → List Member → List (Option Value) → Mode → List ℕ → Answer ReadingCause (List (Option Value))
  read_set zero ms os mode s = refused Trailing (length s)
  read_set (suc k) ms os mode s =
      at_end mode s (λ u. if (allowed ms os) (got os u) λ _. refused NotAwaited (length s)) λ _.
      if (full os) (refused Trailing (length s)) λ _.
      then (place_member ms os s) λ us s₁. read_set k ms us mode s₁

  -- at most so many elements after those in hand: in a list one more is always awaited
  unfoldable pub read_many : ℕ → ℕ → Mode → List Value → List ℕ → Answer ReadingCause (List Value)
  read_many zero t mode vs s = refused Trailing (length s)
  read_many (suc k) t mode vs s =
      at_end mode s (λ u. got vs u) λ _.
      if (not (begun T t s)) (not_awaited s) λ _.
      then (r t s) λ v s₁. read_many k t mode (vs ++ (v ∷ [])) s₁

  -- the alternative that begins as the octets do; n were passed over
  unfoldable pub choose : List ℕ → ℕ → List ℕ → Answer ReadingCause Value
  choose [] n s = not_awaited s
  choose (t ∷ ts) n s =
      if (begun T t s) (then (r t s) λ v s₁. got (choice n v) s₁) λ _.
      choose ts (suc n) s

  -- The contents of a constructed kind: there are no more items than octets. Other kinds await no item.
  unfoldable pub read_body : Body → Mode → List ℕ → Answer ReadingCause Value
  read_body (Plain k) mode s = refused Trailing (length s)
  read_body (Sequence ms) mode s = then (read_sequence ms [] false mode s) λ os s₁. got (sequence (slots os)) s₁
  read_body (Set ms) mode s = then (read_set (suc (length s)) ms (nothing ms) mode s) λ os s₁. got (set (slots os)) s₁
  read_body (SequenceOf t) mode s = then (read_many (suc (length s)) t mode [] s) λ vs s₁. got (sequence_of (bag vs)) s₁
  read_body (SetOf t) mode s = then (read_many (suc (length s)) t mode [] s) λ vs s₁. got (set_of (bag vs)) s₁
  read_body (Choice ts) mode s = refused Trailing (length s)

  -- the item of a kind, with the identifier octets i
  unfoldable pub read_kind : List ℕ → Body → List ℕ → Answer ReadingCause Value
  read_kind i (Plain k) s = then (read_carried (segmented k) i s) λ c s₁. then (decode k (length s) c s₁) λ x s₂. got (leaf x) s₂
  read_kind i (Sequence ms) s = read_constructed i (read_body (Sequence ms)) s
  read_kind i (Set ms) s = read_constructed i (read_body (Set ms)) s
  read_kind i (SequenceOf t) s = read_constructed i (read_body (SequenceOf t)) s
  read_kind i (SetOf t) s = read_constructed i (read_body (SetOf t)) s
  read_kind i (Choice ts) s = choose ts 0 s

-- A value of a type where n levels are left. Its item has begun as its type does, so 28 comes after 24 and before the length.
unfoldable pub read_value : Table → ℕ → ℕ → List ℕ → Answer ReadingCause Value
read_value T zero t s = refused MessageLevel (length s)
read_value T (suc n) t s = read_wrapped (explicit (T t)) (read_kind T (λ u w. read_value T n u w) (own_tag (T t)) (T t).body) s

-- the message is one value: 22 if it is empty, 26 for octets behind the value
unfoldable pub read_message : Table → ℕ → ℕ → List ℕ → Answer ReadingCause Value
read_message T n t s =
    if (none_left s) (refused Cut 0) λ _.
    if (not (begun T t s)) (not_awaited s) λ _.
    then (read_value T n t s) λ v r.
    if (not (none_left r)) (refused Trailing (length r)) λ _. got v r
