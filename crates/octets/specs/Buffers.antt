-- What a buffer holds after octets were put into it.
-- Assumes nothing.
use Rattle.std.specs.Prelude.{Bool, List, ℕ, ◌+◌, leb, eqb, length}
use Rattle.std.proofs.lemmas.List.Edits.{sets}
use Rattle.octets.specs.Tests.{if}

-- octets have room in a buffer, from a place on
abbrev pub roomy : List ℕ → ℕ → List ℕ → Bool
roomy buf to w = leb (to + length w) (length buf)

-- the buffer with octets put at a place, or as it was if they have no room there
abbrev pub put : List ℕ → ℕ → List ℕ → List ℕ
put buf to w = if (roomy buf to w) (sets buf to w) λ _. buf

-- where they then end
abbrev pub put_end : List ℕ → ℕ → List ℕ → ℕ
put_end buf to w = if (roomy buf to w) (to + length w) λ _. to

-- octets in place of a part, if they are as many
abbrev pub filled : List ℕ → List ℕ → List ℕ
filled part w = if (eqb (length w) (length part)) w λ _. part
