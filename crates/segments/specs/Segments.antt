-- Strings in segments, as the code answers: what is read of them, and what is gathered of them by headers alone, in the order in which the
-- octets stand (X.690, 8.6.4 and 8.7.3).
-- Assumes nothing.
use Rattle.std.specs.Prelude.{Bool, true, false, not, ◌||◌, List, [], ◌∷◌, ◌≡◌, ℕ, zero, suc, ◌+◌, ◌-◌, ◌≤◌, length, get_or, take, drop, ltb, eqb, Result, Ok, Err}
use Rattle.std.proofs.lemmas.List.Edits.{sets}
use Rattle.x690.specs.declared.ReadingCause.{ReadingCause}
use Rattle.x690.specs.declared.ReadingCause.TheVariants.{NotAwaited, Contents}
use Rattle.octets.specs.Answer.{Answer, got, refused, then, if, none_left}
use Rattle.octets.specs.Buffers.{put, put_end}
use Rattle.octets.specs.Lists.{same}
use Rattle.x690.specs.Reading.{read_identifier, Size, definite, indefinite, read_length}
use Rattle.x690.specs.Segments.{Kind, bit_string, octet_string, universal, segment_tag, join, in_form, Gathered}
use Rattle.x690.specs.declared.Unread.{Unread}
use Rattle.segments.specs.declared.Gathered.{Gathered as Gathering}
use Rattle.segments.specs.declared.Joined.{Joined}

abbrev pub kind_of : Bool → Kind
kind_of true = bit_string
kind_of false = octet_string

-- the bits of the last octet that are unused
unfoldable pub unused_in : Kind → List ℕ → ℕ
unused_in bit_string c = get_or c 0 0
unused_in octet_string c = 0

-- the octets of the string itself
unfoldable pub carried : Kind → List ℕ → List ℕ
carried bit_string c = drop 1 c
carried octet_string c = c

-- n octets were lent
unfoldable pub told_segments : Kind → ℕ → Answer ReadingCause Gathered → Result Gathering Unread
told_segments k n (got g u) = Ok (record { end = n - length u; size = length g.0; unused = unused_in k g.0; back = g.1 })
told_segments k n (refused c l) = Err (record { cause = c; left = l })

-- a primitive segment with the contents c, which ends at a place; l octets are left where it begins
unfoldable pub told_primitive : Kind → List ℕ → ℕ → ℕ → Result Gathering Unread
told_primitive k c end l =
    if (not (in_form k c)) (Err (record { cause = Contents; left = l })) λ _.
    Ok (record { end = end; size = length c; unused = unused_in k c; back = end })

-- the identifier octets (22, 23) of a segment (24)
unfoldable pub read_tag : Kind → List ℕ → Answer ReadingCause (List ℕ)
read_tag k s =
    then (read_identifier s) λ i s₁.
    if (not (same (segment_tag k false) i || same (segment_tag k true) i)) (refused NotAwaited (length s)) λ _. got i s₁

-- Where a was gathered before, s goes on inside n strings or segments that 00 00 closes, or in the outermost one, whose octets may also end;
-- it makes c of a, and w is left behind the end of the outermost. What is definite and constructed is gone into, and its end is not seen.
pub data Gathers (k : Kind) : ℕ → List ℕ → List ℕ → List ℕ → List ℕ → Type 0 where
  behind_all : {a w : List ℕ} → Gathers k zero a w a w
  at_the_end : {a : List ℕ} → Gathers k 1 a [] a []
  closes : {n : ℕ} {a s c w : List ℕ} → Gathers k n a s c w → Gathers k (suc n) a (0 ∷ 0 ∷ s) c w
  enters : {n z : ℕ} {a s r c w : List ℕ} → ((l : ℕ) → read_length l s ≡ got (definite z) r) → Gathers k (suc n) a r c w
      → Gathers k (suc n) a ((universal k + 32) ∷ s) c w
  opens : {n : ℕ} {a s r c w : List ℕ} → ((l : ℕ) → read_length l s ≡ got indefinite r) → Gathers k (suc (suc n)) a r c w
      → Gathers k (suc n) a ((universal k + 32) ∷ s) c w
  adds : {n z : ℕ} {a s r c w : List ℕ} → ((l : ℕ) → read_length l s ≡ got (definite z) r)
      → Gathers k (suc n) (join k a (take z r)) (drop z r) c w → Gathers k (suc n) a (universal k ∷ s) c w

-- Joining on its way: the octets that are left, the buffer, where what was put into it ends, and how many bits of the last octet are unused.
pub record Way : Type 0 where
  pub left : List ℕ
  pub buffer : List ℕ
  pub next : ℕ
  pub unused : ℕ

-- the octets s are left
abbrev pub on_to : List ℕ → Way → Way
on_to s x = record { left = s; buffer = x.buffer; next = x.next; unused = x.unused }

-- what the contents c carry is put, if it has room, and s is left
abbrev pub with_put : Kind → List ℕ → List ℕ → Way → Way
with_put k c s x = record {
  left = s;
  buffer = put x.buffer x.next (carried k c);
  next = put_end x.buffer x.next (carried k c);
  unused = unused_in k c;
}

-- how many octets of s are contents; indefinite ones may go to its end
abbrev pub reach : Size → List ℕ → ℕ
reach (definite z) s = z
reach indefinite s = length s

-- how many strings or segments that 00 00 closes are around contents in n of them
abbrev pub around : ℕ → Size → ℕ
around n (definite z) = n
around n indefinite = suc n

-- After the length octets of a segment in n others, with the leading octet b: what a primitive one carries is put, and a constructed one is gone
-- into (X.690, 8.6.4 and 8.7.3). If the length cannot be read, nothing is left.
abbrev pub enter : Kind → (ℕ → Way → Way) → ℕ → ℕ → Way → Answer ReadingCause Size → Way
enter k go b n x (refused c l) = on_to [] x
enter k go b n x (got z s) =
    if (ltb b 32) (go n (with_put k (take (reach z s) s) (drop (reach z s) s) x)) λ _.
    go (around n z) (on_to s x)

-- Segments are joined by headers alone, in n strings or segments that 00 00 closes, up to the end of the outermost one or of the octets. Of 00 00
-- only the first octet is looked at. Each turn takes an octet, so more turns than octets are enough.
unfoldable pub walk : Kind → ℕ → ℕ → Way → Way
walk k zero n x = x
walk k (suc turns) zero x = x
walk k (suc turns) (suc n) x =
    if (none_left x.left) x λ _.
    if (eqb (get_or x.left 0 0) 0) (walk k turns n (on_to (drop 2 x.left) x)) λ _.
    enter k (walk k turns) (get_or x.left 0 0) (suc n) x (read_length 0 (drop 1 x.left))

-- the segments in the contents m, joined at a place of a buffer
unfoldable pub joining : Kind → List ℕ → List ℕ → ℕ → Way
joining k m buf to = walk k (suc (length m)) 1 (record { left = m; buffer = buf; next = to; unused = 0 })

-- n octets were lent
abbrev pub told_joined : ℕ → Way → Joined
told_joined n x = record { end = n - length x.left; next = x.next; unused = x.unused }

-- what is gathered of the octets m stands at a place in the buffer
pub record IsJoined (k : Kind) (m buf : List ℕ) (to : ℕ) (c w last : List ℕ) (r : Joined) : Type 0 where
  pub within : r.end ≤ length m
  pub behind : drop r.end m ≡ w
  pub next : r.next ≡ to + length (carried k c)
  pub unused : r.unused ≡ unused_in k c
  pub put : last ≡ sets buf to (carried k c)
