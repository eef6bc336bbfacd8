-- Strings in segments: the constructed form of a BIT STRING and of an OCTET STRING, as a sender may send it and as it is read, with the
-- refusals and their places (X.690, 8.6.4 and 8.7.3; FORMATS, "Messages" and "Order of refusals").
-- Assumes nothing.
use Rattle.std.specs.Prelude.{Bool, true, false, not, ◌&&◌, ◌||◌, List, [], ◌∷◌, ◌++◌, ◌≡◌, ℕ, zero, suc, ◌+◌, ◌-◌, eqb, length, get_or, drop}
use Rattle.std.proofs.Math.Option.{Option, some, none}
use Rattle.x690.specs.declared.ReadingCause.{ReadingCause}
use Rattle.x690.specs.declared.ReadingCause.TheVariants.{NotAwaited, Contents, Trailing, MessageLevel}
use Rattle.octets.specs.Answer.{Answer, got, refused, then, if, none_left}
use Rattle.octets.specs.Lists.{same}
use Rattle.x690.specs.Identifier.{identifier}
use Rattle.x690.specs.Item.{Definite, Constructed}
use Rattle.x690.specs.BitString.{unused}
use Rattle.x690.specs.Reading.{read_identifier, passes, Mode, at_end, read_constructed, read_primitive}

-- the kinds that have segments
pub data Kind : Type 0 where
  bit_string octet_string : Kind

abbrev pub universal : Kind → ℕ
universal bit_string = 3
universal octet_string = 4

-- 8.6.4, 8.7.3: segments have the kind's UNIVERSAL tag, whatever tag the string has; each is primitive or constructed
unfoldable pub segment_tag : Kind → Bool → List ℕ
segment_tag k constructed = identifier 0 constructed (universal k)

-- the identifier octets of the constructed form, from those of the primitive one: bit 6 is 1
unfoldable pub in_parts : List ℕ → List ℕ
in_parts [] = []
in_parts (b ∷ s) = (b + 32) ∷ s

-- a kind that may come so
abbrev pub in_either : Option Kind → Bool
in_either none = false
in_either (some k) = true

-- Segments join to contents that the primitive form could have. Of no segment; of c and then d:
unfoldable pub empty : Kind → List ℕ
empty bit_string = 0 ∷ []
empty octet_string = []

unfoldable pub join : Kind → List ℕ → List ℕ → List ℕ
join bit_string c d = get_or d 0 0 ∷ (drop 1 c ++ drop 1 d)
join octet_string c d = c ++ d

-- 8.6.2: the contents that a primitive segment may have
unfoldable pub in_form : Kind → List ℕ → Bool
in_form bit_string c = not (none_left c) && unused (get_or c 0 0) (drop 1 c)
in_form octet_string c = true

-- 8.6.4: before a further segment a whole number of octets, with no bit unused
unfoldable pub whole : Kind → List ℕ → Bool
whole bit_string c = eqb (get_or c 0 0) 0
whole octet_string c = true

-- segments one after another, each of which S permits, and the contents that they join to
pub data Joined (k : Kind) (S : List ℕ → List ℕ → Type 0) : List ℕ → List ℕ → Type 0 where
  no_segment : Joined k S (empty k) []
  last : {c p : List ℕ} → S c p → Joined k S c p
  further : {c d p q : List ℕ} → S c p → whole k c ≡ true → Joined k S d q → Joined k S (join k c d) (p ++ q)

-- one segment: primitive, or constructed of what R permits
pub data Segment (k : Kind) (R : List ℕ → List ℕ → Type 0) (c p : List ℕ) : Type 0 where
  primitive : in_form k c ≡ true → Definite (segment_tag k false) c p → Segment k R c p
  constructed : {q : List ℕ} → R c q → Constructed (segment_tag k true) q p → Segment k R c p

-- a segment where they nest d deep at most
unfoldable pub SegmentIn : Kind → ℕ → List ℕ → List ℕ → Type 0
SegmentIn k zero c p = ⊥
SegmentIn k (suc d) c p = Segment k (Joined k (SegmentIn k d)) c p

-- FORMATS, "Messages" (8.6, 8.7): segments nest at most four deep
abbrev pub deepest : ℕ
deepest = 4

-- m is an item that carries the contents c: a primitive one or, of a string, one in segments
pub data Carries (i c m : List ℕ) : Option Kind → Type 0 where
  in_whole : {k : Option Kind} → Definite i c m → Carries i c m k
  in_segments : {k : Kind} {q : List ℕ} → Joined k (SegmentIn k deepest) c q → Constructed (in_parts i) q m → Carries i c m (some k)

-- Reading. What segments carry, and how many octets back the last primitive one begins.
abbrev pub Gathered : Type 0
Gathered = List ℕ × ℕ

-- the next item has the identifier octets i
abbrev pub heads : List ℕ → List ℕ → Bool
heads i s = passes (same i) (read_identifier s)

-- At most n segments after those that join to c, the last primitive one of which begins b octets back; r reads one. At each its identifier
-- (22, 23) is awaited (24); then one before it that has unused bits is 25, placed there.
module _ (k : Kind) (r : List ℕ → Answer ReadingCause Gathered) where
  unfoldable pub read_joined : ℕ → List ℕ → ℕ → Mode → List ℕ → Answer ReadingCause Gathered
  read_joined zero c b mode s = refused Trailing (length s)
  read_joined (suc n) c b mode s =
      at_end mode s (λ u. got (c, b + (length s - length u)) u) λ _.
      then (read_identifier s) λ i s₁.
      if (not (same (segment_tag k false) i || same (segment_tag k true) i)) (refused NotAwaited (length s)) λ _.
      if (not (whole k c)) (refused Contents (length s + b)) λ _.
      then (r s) λ g s₂. read_joined n (join k c g.0) g.1 mode s₂

  -- all of them; there are no more than octets
  abbrev pub read_all : Mode → List ℕ → Answer ReadingCause Gathered
  read_all mode s = read_joined (suc (length s)) (empty k) 0 mode s

-- a segment where d more depths are left: 28, then its length, what fits, and its contents (25)
unfoldable pub read_segment : Kind → ℕ → List ℕ → Answer ReadingCause Gathered
read_segment k zero s = refused MessageLevel (length s)
read_segment k (suc d) s =
    if (heads (segment_tag k true) s) (read_constructed (segment_tag k true) (λ mode u. read_all k (read_segment k d) mode u) s) λ _.
    then (read_primitive (segment_tag k false) s) λ c u.
    if (not (in_form k c)) (refused Contents (length s)) λ _. got (c, length s - length u) u

-- the contents of an item with the identifier octets i, or of a string that has them with either bit 6
unfoldable pub read_carried : Option Kind → List ℕ → List ℕ → Answer ReadingCause (List ℕ)
read_carried none i s = read_primitive i s
read_carried (some k) i s =
    if (heads (in_parts i) s) (then (read_constructed (in_parts i) (read_all k (read_segment k deepest)) s) λ g u. got g.0 u) λ _.
    read_primitive i s
