-- The reading of items: identifier octets, length octets, contents and their end, with the refusals 22, 23, 24 and 29 and their places
-- (X.690, 8.1; FORMATS, "Order of refusals").
-- Assumes nothing.
use Rattle.std.specs.Prelude.{List, [], ◌∷◌, ◌++◌, Bool, false, not, ℕ, suc, ◌%◌, ◌-◌, ltb, eqb, leb, length, get_or, take, drop}
use Rattle.x690.specs.declared.ReadingCause.{ReadingCause}
use Rattle.x690.specs.declared.ReadingCause.TheVariants.{Cut, Forbidden, NotAwaited, LengthField}
use Rattle.octets.specs.Answer.{Answer, got, refused, then, if, behind, none_left}
use Rattle.x690.specs.Length.{unsigned, longest_field}
use Rattle.octets.specs.Lists.{same}

-- the octets up to and with the first below 128, after those in hand; l octets are left where the item begins
unfoldable pub read_following : ℕ → List ℕ → List ℕ → Answer ReadingCause (List ℕ)
read_following l ds [] = refused Cut l
read_following l ds (d ∷ s) = if (ltb d 128) (got (ds ++ (d ∷ [])) s) λ _. read_following l (ds ++ (d ∷ [])) s

-- whole (22), then in a form that X.690 has (23): the long form begins with no 80, and its number is over 30
unfoldable pub read_identifier : List ℕ → Answer ReadingCause (List ℕ)
read_identifier [] = refused Cut 0
read_identifier (b ∷ s) =
    if (ltb (b % 32) 31) (got (b ∷ []) s) λ _.
    then (read_following (suc (length s)) [] s) λ ds s₁.
    if (eqb (get_or ds 0 0) 128) (refused Forbidden (suc (length s))) λ _.
    if (ltb (get_or ds 0 0) 31) (refused Forbidden (suc (length s))) λ _.
    got (b ∷ ds) s₁

-- the identifier octets that come next pass a test
unfoldable pub passes : (List ℕ → Bool) → Answer ReadingCause (List ℕ) → Bool
passes f (got i s) = f i
passes f (refused c l) = false

pub data Size : Type 0 where
  definite : ℕ → Size
  indefinite : Size

-- no longer than what is left around it (22); l octets are left where the item begins
unfoldable pub fit : ℕ → ℕ → List ℕ → Answer ReadingCause Size
fit l n s = if (leb n (length s)) (got (definite n) s) λ _. refused Cut l

unfoldable pub read_long : ℕ → ℕ → List ℕ → Answer ReadingCause Size
read_long l k s = if (leb k (length s)) (fit l (unsigned 0 (take k s)) (drop k s)) λ _. refused Cut l

-- the length octets are there (22); a first octet FF (23), or one that says more octets than may follow (29), is refused as soon as it is read
unfoldable pub read_length : ℕ → List ℕ → Answer ReadingCause Size
read_length l [] = refused Cut l
read_length l (b ∷ s) =
    if (ltb b 128) (fit l b s) λ _.
    if (eqb b 128) (got indefinite s) λ _.
    if (leb (b - 128) longest_field) (read_long l (b - 128) s) λ _.
    if (ltb b 255) (refused LengthField l) λ _.
    refused Forbidden l

-- contents that end where their octets do, or contents that 00 00 closes
pub data Mode : Type 0 where
  closed open_ended : Mode

-- Go on with f behind the end of the contents, with x where they go on.
-- Contents of indefinite length end with 00 00: with no octet left, or none behind the first 00, it is 22; 00 with another octet behind it is 23.
unfoldable pub at_end : {A : Type 0} → Mode → List ℕ → (List ℕ → Answer ReadingCause A) → (Unit {0} → Answer ReadingCause A) → Answer ReadingCause A
at_end closed s f x = if (none_left s) (f []) x
at_end open_ended s f x =
    if (none_left s) (refused Cut 0) λ _.
    if (not (eqb (get_or s 0 0) 0)) (x tt) λ _.
    if (none_left (drop 1 s)) (refused Cut (length s)) λ _.
    if (not (eqb (get_or s 1 0) 0)) (refused Forbidden (length s)) λ _.
    f (drop 2 s)

-- the identifier octets (22, 23), awaited (24), the length octets (22, 23, 29)
unfoldable pub read_header : List ℕ → List ℕ → Answer ReadingCause Size
read_header i s =
    then (read_identifier s) λ j s₁.
    if (not (same i j)) (refused NotAwaited (length s)) λ _.
    read_length (length s) s₁

-- contents of definite length are read as a part of their own; a place inside counts what stands behind that part
unfoldable pub inside : {A : Type 0} → (Mode → List ℕ → Answer ReadingCause A) → Size → List ℕ → Answer ReadingCause A
inside body (definite n) s = then (behind (length s - n) (body closed (take n s))) λ v r. got v (drop n s)
inside body indefinite s = body open_ended s

unfoldable pub read_constructed : {A : Type 0} → List ℕ → (Mode → List ℕ → Answer ReadingCause A) → List ℕ → Answer ReadingCause A
read_constructed i body s = then (read_header i s) (inside body)

-- a primitive item has no indefinite form (23); l octets are left where the item begins
unfoldable pub contents : ℕ → Size → List ℕ → Answer ReadingCause (List ℕ)
contents l (definite n) s = got (take n s) (drop n s)
contents l indefinite s = refused Forbidden l

unfoldable pub read_primitive : List ℕ → List ℕ → Answer ReadingCause (List ℕ)
read_primitive i s = then (read_header i s) (contents (length s))
