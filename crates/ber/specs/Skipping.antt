-- Items passed over by their headers alone: where an item ends, with nothing read of its contents but the headers of what stands in an indefinite one.
-- Assumes nothing.
use Rattle.std.specs.Prelude.{List, [], ◌∷◌, ◌≡◌, ℕ, zero, suc, ◌-◌, ◌<◌, eqb, length, drop}
use Rattle.x690.specs.declared.ReadingCause.{ReadingCause}
use Rattle.octets.specs.Answer.{Answer, got, refused, then, if}
use Rattle.x690.specs.Reading.{read_identifier, Size, definite, indefinite, read_length}

-- identifier octets, whichever, and length octets
unfoldable pub headed : List ℕ → Answer ReadingCause Size
headed s = then (read_identifier s) λ i s₁. read_length (length s) s₁

-- s goes on inside k indefinite items, and w is left behind the end of the outermost
pub data Passed : ℕ → List ℕ → List ℕ → Type 0 where
  behind_all : {w : List ℕ} → Passed zero w w
  closes : {k : ℕ} {s w : List ℕ} → Passed k s w → Passed (suc k) (0 ∷ 0 ∷ s) w
  jumps : {k b n : ℕ} {s r w : List ℕ} → 0 < b → headed (b ∷ s) ≡ got (definite n) r → Passed (suc k) (drop n r) w → Passed (suc k) (b ∷ s) w
  opens : {k b : ℕ} {s r w : List ℕ} → 0 < b → headed (b ∷ s) ≡ got indefinite r → Passed (suc (suc k)) r w → Passed (suc k) (b ∷ s) w

-- an item whose identifier ends at a place of m is passed over, and w is left
pub data Skips (m : List ℕ) (from : ℕ) : List ℕ → Type 0 where
  sized : (l n : ℕ) (r : List ℕ) → read_length l (drop from m) ≡ got (definite n) r → Skips m from (drop n r)
  unsized : (l : ℕ) {r w : List ℕ} → read_length l (drop from m) ≡ got indefinite r → Passed 1 r w → Skips m from w

-- What is left after an item in k indefinite ones, by its length; `go` goes on, in one more if the item is indefinite itself. Nothing is left if
-- the length cannot be read.
abbrev pub after : (ℕ → List ℕ → List ℕ) → ℕ → Answer ReadingCause Size → List ℕ
after go k (got (definite n) s) = go k (drop n s)
after go k (got indefinite s) = go (suc k) s
after go k (refused c l) = []

-- What is left of s after the end of the outermost of the k indefinite items around it (X.690, 8.1.5). Nothing is left if a header cannot be
-- read. Of 00 00 only the first octet is looked at. Each turn takes an octet, so more turns than octets are enough.
unfoldable pub left_open : ℕ → ℕ → List ℕ → List ℕ
left_open zero k s = s
left_open (suc turns) zero s = s
left_open (suc turns) (suc k) [] = []
left_open (suc turns) (suc k) (b ∷ s) =
    if (eqb b 0) (left_open turns k (drop 1 s)) λ _.
    after (left_open turns) (suc k) (headed (b ∷ s))

-- where indefinite contents of m end that begin at a place
unfoldable pub open_end : List ℕ → ℕ → ℕ
open_end m start = length m - length (left_open (suc (length m)) 1 (drop start m))

-- where the item ends that m begins with, by headers alone; its identifier ends at a place (X.690, 8.1.1)
unfoldable pub item_end : List ℕ → ℕ → ℕ
item_end m from = length m - length (after (left_open (suc (length m))) 0 (read_length 0 (drop from m)))
