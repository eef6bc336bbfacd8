-- Laws of strings in segments: what may be sent is read, and what is read may be sent; and what is read of some, with the refusals.
-- Assumes nothing.
use borrow.Author.Tests.{eqb-true, lt-ltb, ne_eqb, not-false}
use mathlib.Core.Bool.{Bool, true, false, not, ◌||◌, true≢false}
use mathlib.Core.List.{List, [], ◌∷◌, ◌++◌, append_assoc, append-nil}
use mathlib.Core.Option.{Option, some, none}
use mathlib.Core.Path.{◌≡◌, refl, sym, ap, ◌∙◌}
use native.Mathlib.Omega.{arith}
use Prim.Native.Nat.{ℕ, zero, suc, ◌+◌, ◌-◌, ◌≤◌, ◌<◌}
use lib.Dec.{ltb}
use lib.ListN.{length, get_or, drop, length-append}
use Rattle.x690.specs.declared.ReadingCause.{ReadingCause}
use Rattle.x690.specs.declared.ReadingCause.TheVariants.{NotAwaited, Contents}
use Rattle.octets.specs.Answer.{Answer, got, refused, then, if, none_left}
use Rattle.octets.specs.Lists.{same}
use Rattle.octets.specs.Permutations.{AllOctets, every_nil, every_cons}
use Rattle.octets.proofs.Answer.{Holds, yields, refuses, if_holds, if_cases, then_holds, map_holds, got_holds, then_alike, refused≢got, run, Reads, Taken}
use Rattle.octets.proofs.Lists.{same_refl}
use Rattle.octets.proofs.Permutations.{every_left, every_right, every_append, every_drop}
use Rattle.x690.specs.Identifier.{leading, following, identifier}
use Rattle.x690.specs.BitString.{unused}
use Rattle.x690.specs.Reading.{read_identifier, passes, Mode, closed, at_end, read_primitive}
use Rattle.x690.specs.Segments.{Kind, bit_string, octet_string, universal, segment_tag, in_parts, in_either, empty, join, in_form, whole, Joined, no_segment, last, further}
use Rattle.x690.specs.Segments.{primitive, constructed, SegmentIn, deepest, Carries, in_whole, in_segments, Gathered, heads, read_joined, read_all, read_segment, read_carried}
use Rattle.x690.proofs.Identifiers.{identifier_sound, identifier_complete, identifier_begun, Begun}
use Rattle.x690.proofs.Items.{Ends, no_more, mark, at_end_end, at_end_holds, definite_octets, constructed_octets, definite_fits, constructed_fits, definite_head, constructed_head, begun_more, begun_longer, Readable}
use Rattle.x690.proofs.Segmented.{awaits, other_bit, whole_empty}
use Rattle.x690.proofs.Items.{primitive_complete, constructed_complete, primitive_sound, constructed_sound, Body}

-- contents have the octet that tells of unused bits
unfoldable Told : Kind → List ℕ → Type 0
Told bit_string c = 0 < length c
Told octet_string c = Unit {0}

told_empty : (k : Kind) → Told k (empty k)
unfolding Told empty
told_empty bit_string = omega arith
told_empty octet_string = tt

told_join : (k : Kind) (c d : List ℕ) → Told k (join k c d)
unfolding Told join
told_join bit_string c d = omega arith
told_join octet_string c d = tt

told_form : (k : Kind) (c : List ℕ) → in_form k c ≡ true → Told k c
unfolding Told in_form none_left
told_form bit_string [] e = absurd (true≢false (sym e))
told_form bit_string (x ∷ c) e = omega arith
told_form octet_string c e = tt

-- joining
whole_join : (k : Kind) (c d : List ℕ) → whole k (join k c d) ≡ whole k d
unfolding whole join
whole_join bit_string c d = refl
whole_join octet_string c d = refl

pub join_assoc : (k : Kind) (a b c : List ℕ) → join k (join k a b) c ≡ join k a (join k b c)
unfolding join
join_assoc bit_string a b c = ap (λ (l : List ℕ). get_or c 0 0 ∷ l) (append_assoc (drop 1 a) (drop 1 b) (drop 1 c))
join_assoc octet_string a b c = append_assoc a b c

join_left : (k : Kind) (c : List ℕ) → Told k c → join k (empty k) c ≡ c
unfolding Told join empty
join_left bit_string [] h = absurd (omega arith)
join_left bit_string (x ∷ c) h = refl
join_left octet_string c h = refl

join_right : (k : Kind) (c : List ℕ) → Told k c → whole k c ≡ true → join k c (empty k) ≡ c
unfolding Told join empty whole
join_right bit_string [] h e = absurd (omega arith)
join_right bit_string (x ∷ c) h e = rw (eqb-true x 0 e, append-nil) refl
join_right octet_string c h e = append-nil c

join_octets : (k : Kind) {c d : List ℕ} → AllOctets c → AllOctets d → AllOctets (join k c d)
unfolding join
join_octets bit_string {c = c} {d = []} o p = every_cons {x = 0} (omega arith) (every_append (every_drop 1 o) every_nil)
join_octets bit_string {c = c} {d = x ∷ d} o (every_cons h p) = every_cons h (every_append (every_drop 1 o) p)
join_octets octet_string o p = every_append o p

empty_octets : (k : Kind) → AllOctets (empty k)
unfolding empty
empty_octets bit_string = every_cons {x = 0} (omega arith) every_nil
empty_octets octet_string = every_nil

-- what holds of each segment holds of what they join to
joined_told : {k : Kind} {S : List ℕ → List ℕ → Type 0} → ((c p : List ℕ) → S c p → Told k c) → {d q : List ℕ} → Joined k S d q → Told k d
joined_told {k = k} f no_segment = told_empty k
joined_told f (last {c = c} {p = p} s) = f c p s
joined_told {k = k} f (further {c = c} {d = d} s w j) = told_join k c d

segment_told : (k : Kind) (d : ℕ) (c p : List ℕ) → SegmentIn k d c p → Told k c
unfolding SegmentIn
segment_told k zero c p s = absurd s
segment_told k (suc d) c p (primitive e x) = told_form k c e
segment_told k (suc d) c p (constructed j x) = joined_told (segment_told k d) j

joined_octets : {k : Kind} {S : List ℕ → List ℕ → Type 0} → ((c p : List ℕ) → S c p → AllOctets p → AllOctets c) → {d q : List ℕ} → Joined k S d q → AllOctets q → AllOctets d
joined_octets {k = k} f no_segment o = empty_octets k
joined_octets f (last {c = c} {p = p} s) o = f c p s o
joined_octets {k = k} f (further {c = c} {p = p} {q = q} s w j) o = join_octets k (f c p s (every_left p q o)) (joined_octets f j (every_right p o))

segment_octets : (k : Kind) (d : ℕ) (c p : List ℕ) → SegmentIn k d c p → AllOctets p → AllOctets c
unfolding SegmentIn
segment_octets k zero c p s o = absurd s
segment_octets k (suc d) c p (primitive e x) o = definite_octets x o
segment_octets k (suc d) c p (constructed j x) o = joined_octets (segment_octets k d) j (constructed_octets x o)

pub carried_octets : {k : Option Kind} {i c m : List ℕ} → Carries i c m k → AllOctets m → AllOctets c
carried_octets (in_whole x) o = definite_octets x o
carried_octets (in_segments {k = k} j x) o = joined_octets (segment_octets k deepest) j (constructed_octets x o)

-- and are no longer than what was sent
join_fits : (k : Kind) (c d : List ℕ) {p q : ℕ} → Told k c → length c ≤ p → length d ≤ suc q → length (join k c d) ≤ suc (p + q)
unfolding Told join
join_fits bit_string (x ∷ c) [] t h l = simp length-append (omega arith)
join_fits bit_string (x ∷ c) (y ∷ d) t h l = simp length-append (omega arith)
join_fits bit_string [] d t h l = absurd (omega arith)
join_fits octet_string c d t h l = simp length-append (omega arith)

empty_fits : (k : Kind) → length (empty k) ≤ 1
unfolding empty
empty_fits bit_string = omega arith
empty_fits octet_string = omega arith

joined_fits : {k : Kind} {S : List ℕ → List ℕ → Type 0} → ((c p : List ℕ) → S c p → Told k c) → ((c p : List ℕ) → S c p → length c ≤ length p) → {d q : List ℕ} → Joined k S d q
    → length d ≤ suc (length q)
joined_fits {k = k} t f no_segment = let h = empty_fits k in omega arith
joined_fits t f (last {c = c} {p = p} s) = let h = f c p s in omega arith
joined_fits {k = k} t f (further {c = c} {d = d} {p = p} {q = q} s w j) = rw length-append (join_fits k c d (t c p s) (f c p s) (joined_fits t f j))

segment_fits : (k : Kind) (d : ℕ) (c p : List ℕ) → SegmentIn k d c p → length c ≤ length p
unfolding SegmentIn
segment_fits k zero c p s = absurd s
segment_fits k (suc d) c p (primitive e x) = let h = definite_fits x in omega arith
segment_fits k (suc d) c p (constructed j x) = let h = constructed_fits x in let g = joined_fits (segment_told k d) (segment_fits k d) j in omega arith

pub carried_fits : {k : Option Kind} {i c m : List ℕ} → Carries i c m k → length c ≤ length m
carried_fits (in_whole x) = let h = definite_fits x in omega arith
carried_fits (in_segments {k = k} j x) = let h = constructed_fits x in let g = joined_fits (segment_told k deepest) (segment_fits k deepest) j in omega arith

-- Sound: what is read may be sent.

-- what follows c: nothing, or segments, and then no bit of c is unused
data Onto (k : Kind) (S : List ℕ → List ℕ → Type 0) (c : List ℕ) : List ℕ → List ℕ → Type 0 where
  at_the_end : Onto k S c c []
  goes_on : {d q : List ℕ} → whole k c ≡ true → Joined k S d q → Onto k S c (join k c d) q

onto_more : (k : Kind) (S : List ℕ → List ℕ → Type 0) (c d p : List ℕ) {e q : List ℕ} → whole k c ≡ true → S d p → Onto k S (join k c d) e q → Onto k S c e (p ++ q)
onto_more k S c d p w s at_the_end = rw append-nil (goes_on w (last s))
onto_more k S c d p w s (goes_on {d = f} v j) = rw (join_assoc k c d f) (goes_on w (further s (sym (whole_join k c d) ∙ v) j))

onto_all : {k : Kind} {S : List ℕ → List ℕ → Type 0} {e q : List ℕ} → ((c p : List ℕ) → S c p → Told k c) → Onto k S (empty k) e q → Joined k S e q
onto_all f at_the_end = no_segment
onto_all {k = k} f (goes_on {d = d} w j) = rw (join_left k d (joined_told f j)) j

module _ (k : Kind) (S : List ℕ → List ℕ → Type 0) (r : List ℕ → Answer ReadingCause Gathered) (sound : (s : List ℕ) → Holds (Taken (λ g p. S g.0 p) s) (r s)) (told : (c p : List ℕ) → S c p → Told k c) where
  joined_sound : (n : ℕ) (c : List ℕ) (b : ℕ) (mode : Mode) (s : List ℕ) → Holds (Body (λ g q. Onto k S c g.0 q) mode s) (read_joined k r n c b mode s)
  unfolding read_joined
  joined_sound zero c b mode s = refuses
  joined_sound (suc n) c b mode s =
      at_end_holds mode s (λ u z. yields (record { content = []; tail = s; cut = refl; ends = z; has = at_the_end })) λ _.
      then_holds (identifier_sound s) λ i s₁ e.
      if_holds _ (λ f. refuses) λ f _.
      if_holds _ (λ w. refuses) λ w _.
      then_holds (sound s) λ g s₂ x.
      map_holds (joined_sound n (join k c g.0) g.1 mode s₂) λ h u y.
      record {
        content = x.piece ++ y.content;
        tail = y.tail;
        cut = x.cut ∙ ap (λ (l : List ℕ). x.piece ++ l) y.cut ∙ sym (append_assoc x.piece y.content y.tail);
        ends = y.ends;
        has = onto_more k S c g.0 x.piece (not-false (whole k c) w) x.has y.has;
      }

  all_sound : (mode : Mode) (s : List ℕ) → Holds (Body (λ g q. Joined k S g.0 q) mode s) (read_all k r mode s)
  all_sound mode s =
      map_holds (joined_sound _ (empty k) 0 mode s) λ g u y.
      record { content = y.content; tail = y.tail; cut = y.cut; ends = y.ends; has = onto_all told y.has }

pub segment_sound : (k : Kind) (d : ℕ) (s : List ℕ) → Holds (Taken (λ g p. SegmentIn k d g.0 p) s) (read_segment k d s)
unfolding read_segment SegmentIn
segment_sound k zero s = refuses
segment_sound k (suc d) s =
    if_holds _
    (λ h.
    map_holds (constructed_sound (λ g q. Joined k (SegmentIn k d) g.0 q) _ (all_sound k (SegmentIn k d) (read_segment k d) (segment_sound k d) (segment_told k d)) (segment_tag k true) s) λ g u x.
    record { piece = x.item; cut = x.cut; has = constructed x.has x.framed })
    λ h _.
    then_holds (primitive_sound (segment_tag k false) s) λ c u x.
    if_holds _ (λ f. refuses) λ f _.
    yields (record { piece = x.item; cut = x.cut; has = primitive (not-false (in_form k c) f) (rw x.has at x.framed) })

-- a segment is not empty
segment_some : (k : Kind) (d : ℕ) (c p : List ℕ) → SegmentIn k d c p → 0 < length p
unfolding SegmentIn
segment_some k zero c p s = absurd s
segment_some k (suc d) c p (primitive e x) = let h = definite_fits x in omega arith
segment_some k (suc d) c p (constructed j x) = let h = constructed_fits x in omega arith

pub segment_shorter : (k : Kind) (d : ℕ) (s : List ℕ) → Holds (λ g u. length u < length s) (read_segment k d s)
segment_shorter k d s = map_holds (segment_sound k d s) λ g u x. let h = segment_some k d g.0 x.piece x.has in rw (x.cut, length-append) (omega arith)

-- a segment takes an octet at least, so more turns than octets change nothing
pub joined_turns : (k : Kind) (d n : ℕ) (c : List ℕ) (b : ℕ) (mode : Mode) (s : List ℕ) → length s < n
    → read_joined k (read_segment k d) n c b mode s ≡ read_joined k (read_segment k d) (suc n) c b mode s
unfolding read_joined
joined_turns k d zero c b mode s h = absurd (omega arith)
joined_turns k d (suc n) c b mode s h =
    ap (λ (y : Answer ReadingCause Gathered).
    at_end mode s (λ u. got (c, b + (length s - length u)) u) λ _.
    then (read_identifier s) λ i s₁.
    if (not (same (segment_tag k false) i || same (segment_tag k true) i)) (refused NotAwaited (length s)) λ _.
    if (not (whole k c)) (refused Contents (length s + b)) λ _. y)
    (then_alike (read_segment k d s) λ g s₂ e. let x = got_holds (segment_shorter k d s) e in joined_turns k d n (join k c g.0) g.1 mode s₂ (omega arith))

-- what segments join to is in form: the primitive form could carry it
unused_join : (n : ℕ) (c d : List ℕ) → unused n d ≡ true → unused n (c ++ d) ≡ true
unfolding unused
unused_join n [] d e = e
unused_join n (x ∷ c) [] e = lt-ltb n 8 (omega (arith, eqb-true n 0 e))
unused_join n (x ∷ c) (y ∷ d) e = e

join_form : (k : Kind) (c d : List ℕ) → in_form k d ≡ true → in_form k (join k c d) ≡ true
unfolding in_form join none_left
join_form bit_string c [] e = absurd (true≢false (sym e))
join_form bit_string c (n ∷ d) e = unused_join n (drop 1 c) d e
join_form octet_string c d e = refl

empty_form : (k : Kind) → in_form k (empty k) ≡ true
unfolding in_form empty none_left unused
empty_form bit_string = refl
empty_form octet_string = refl

joined_form : {k : Kind} {S : List ℕ → List ℕ → Type 0} → ((c p : List ℕ) → S c p → in_form k c ≡ true) → {d q : List ℕ} → Joined k S d q → in_form k d ≡ true
joined_form {k = k} f no_segment = empty_form k
joined_form f (last {c = c} {p = p} s) = f c p s
joined_form {k = k} f (further {c = c} {d = d} s w j) = join_form k c d (joined_form f j)

segment_form : (k : Kind) (d : ℕ) (c p : List ℕ) → SegmentIn k d c p → in_form k c ≡ true
unfolding SegmentIn
segment_form k zero c p s = absurd s
segment_form k (suc d) c p (primitive e x) = e
segment_form k (suc d) c p (constructed j x) = joined_form (segment_form k d) j

pub all_form : (k : Kind) (d : ℕ) (mode : Mode) (s : List ℕ) → Holds (λ g u. in_form k g.0 ≡ true) (read_all k (read_segment k d) mode s)
all_form k d mode s =
    map_holds (all_sound k (SegmentIn k d) (read_segment k d) (segment_sound k d) (segment_told k d) mode s) λ g u y. joined_form (segment_form k d) y.has

-- what is left behind segments is the end of what was given; nothing, where no 00 00 closes them
ends_rest : {mode : Mode} {t r : List ℕ} → Ends mode t r → (n : List ℕ) × (t ≡ n ++ r)
ends_rest no_more = ([], refl)
ends_rest mark = (0 ∷ 0 ∷ [], refl)

pub all_rest : (k : Kind) (d : ℕ) (mode : Mode) (s : List ℕ) → Holds (λ g u. (p : List ℕ) × (s ≡ p ++ u)) (read_all k (read_segment k d) mode s)
all_rest k d mode s =
    map_holds (all_sound k (SegmentIn k d) (read_segment k d) (segment_sound k d) (segment_told k d) mode s) λ g u y.
    let (n, e) = ends_rest y.ends in
    (y.content ++ n, y.cut ∙ ap (λ (l : List ℕ). y.content ++ l) e ∙ sym (append_assoc y.content n u))

ends_closed : {t r : List ℕ} → Ends closed t r → r ≡ []
ends_closed no_more = refl

pub all_closed : (k : Kind) (d : ℕ) (s : List ℕ) → Holds (λ g u. u ≡ []) (read_all k (read_segment k d) closed s)
all_closed k d s = map_holds (all_sound k (SegmentIn k d) (read_segment k d) (segment_sound k d) (segment_told k d) closed s) λ g u y. ends_closed y.ends

pub all_fits : (k : Kind) (d : ℕ) (mode : Mode) (s : List ℕ) → Holds (λ g u. length g.0 ≤ suc (length s)) (read_all k (read_segment k d) mode s)
all_fits k d mode s =
    map_holds (all_sound k (SegmentIn k d) (read_segment k d) (segment_sound k d) (segment_told k d) mode s) λ g u y.
    let h = joined_fits (segment_told k d) (segment_fits k d) y.has in
    let e : length s ≡ length y.content + length y.tail = ap length y.cut ∙ length-append y.content y.tail in
    omega arith

whole_sound : (k : Option Kind) (i s : List ℕ) → Holds (Taken (λ c m. Carries i c m k) s) (read_primitive i s)
whole_sound k i s = map_holds (primitive_sound i s) λ c u x. record { piece = x.item; cut = x.cut; has = in_whole (rw x.has at x.framed) }

pub carried_sound : (k : Option Kind) (i s : List ℕ) → Holds (Taken (λ c m. Carries i c m k) s) (read_carried k i s)
unfolding read_carried
carried_sound none i s = whole_sound none i s
carried_sound (some k) i s =
    if_holds _
    (λ h.
    then_holds (constructed_sound (λ g q. Joined k (SegmentIn k deepest) g.0 q) _ (all_sound k (SegmentIn k deepest) (read_segment k deepest)
    (segment_sound k deepest) (segment_told k deepest)) (in_parts i) s) λ g u x.
    yields (record { piece = x.item; cut = x.cut; has = in_segments x.has x.framed }))
    λ h _. whole_sound (some k) i s

-- Complete: what may be sent is read.

tag_readable : (k : Kind) (t : Bool) → Readable (segment_tag k t)
unfolding segment_tag
tag_readable k t s = identifier_complete 0 t (universal k) s

tag_begun : (k : Kind) (t : Bool) → Begun (segment_tag k t)
unfolding segment_tag
tag_begun bit_string t = identifier_begun 0 t 3 (λ e z. omega arith)
tag_begun octet_string t = identifier_begun 0 t 4 (λ e z. omega arith)

tag_read : (k : Kind) (t : Bool) {p : List ℕ} (n s : List ℕ) → p ≡ segment_tag k t ++ n → read_identifier (p ++ s) ≡ got (segment_tag k t) (n ++ s)
tag_read k t n s e = rw (e, append_assoc (segment_tag k t) n s) (tag_readable k t (n ++ s))

pub heads_is : (i : List ℕ) {j m : List ℕ} (n s : List ℕ) → Readable j → m ≡ j ++ n → heads i (m ++ s) ≡ same i j
unfolding passes
heads_is i {j = j} n s g e = rw (e, append_assoc j n s, g (n ++ s))

-- a segment begins with one of its kind's identifiers
abbrev Headed : Kind → List ℕ → Type 0
Headed k p = (t : Bool) × (n : List ℕ) × (p ≡ segment_tag k t ++ n)

segment_headed : (k : Kind) (d : ℕ) (c p : List ℕ) → SegmentIn k d c p → Headed k p
unfolding SegmentIn
segment_headed k zero c p s = absurd s
segment_headed k (suc d) c p (primitive e x) = let (n, h) = definite_head x in (false, n, h)
segment_headed k (suc d) c p (constructed j x) = let (n, h) = constructed_head x in (true, n, h)

abbrev Alike : Gathered → Gathered → Type 0
Alike g h = g.0 ≡ h.0

module _ (k : Kind) (S : List ℕ → List ℕ → Type 0) (r : List ℕ → Answer ReadingCause Gathered) (told : (c p : List ℕ) → S c p → Told k c) (headed : (c p : List ℕ) → S c p → Headed k p)
    (reads : (c p s : List ℕ) → S c p → (b : ℕ) × (r (p ++ s) ≡ got (c, b) s)) where
  one_more : (n : ℕ) (c : List ℕ) (b : ℕ) (mode : Mode) {d p : List ℕ} (s : List ℕ) (x : S d p) → whole k c ≡ true
      → read_joined k r (suc n) c b mode (p ++ s) ≡ read_joined k r n (join k c d) (reads d p s x).0 mode s
  unfolding read_joined
  one_more n c b mode {d = d} {p = p} s x w =
      let (t, m, e) = headed d p x in
      begun_more m s mode _ _ (tag_begun k t) e ∙ simp (run, tag_read k t m s e, awaits k t, w, (reads d p s x).1)

  longer : {d p : List ℕ} (s : List ℕ) → S d p → length s < length (p ++ s)
  longer {d = d} {p = p} s x = let (t, m, e) = headed d p x in begun_longer m s (tag_begun k t) e

  ends : (n : ℕ) (c : List ℕ) (b : ℕ) (mode : Mode) (t u : List ℕ) → length t < n → Ends mode t u → (b₁ : ℕ) × (read_joined k r n c b mode t ≡ got (c, b₁) u)
  unfolding read_joined
  ends zero c b mode t u h z = absurd (omega arith)
  ends (suc n) c b mode t u h z = (_, at_end_end _ _ z)

  joined_complete : (n : ℕ) (c : List ℕ) (b : ℕ) (mode : Mode) {d q : List ℕ} (t u : List ℕ) → Told k c → whole k c ≡ true → Joined k S d q → length (q ++ t) < n → Ends mode t u
      → (b₁ : ℕ) × (read_joined k r n c b mode (q ++ t) ≡ got (join k c d, b₁) u)
  joined_complete n c b mode t u h w no_segment l z =
      let (b₁, e) = ends n c b mode t u l z in (b₁, e ∙ ap (λ (x : List ℕ). got (x, b₁) u) (sym (join_right k c h w)))
  joined_complete zero c b mode t u h w (last s) l z = absurd (omega arith)
  joined_complete (suc n) c b mode t u h w (last {c = d} {p = p} s) l z =
      let v = longer t s in
      let (b₁, e) = ends n (join k c d) (reads d p t s).0 mode t u (omega arith) z in
      (b₁, one_more n c b mode t s w ∙ e)
  joined_complete zero c b mode t u h w (further s v j) l z = absurd (omega arith)
  joined_complete (suc n) c b mode t u h w (further {c = d} {d = f} {p = p} {q = q} s v j) l z =
      let a : (p ++ q) ++ t ≡ p ++ (q ++ t) = append_assoc p q t in
      let y = longer (q ++ t) s in
      let g : length (q ++ t) < n = omega (arith, rw a at l) in
      let (b₁, e) = joined_complete n (join k c d) (reads d p (q ++ t) s).0 mode t u (told_join k c d) (whole_join k c d ∙ v) j g z in
      (b₁, ap (read_joined k r (suc n) c b mode) a ∙ one_more n c b mode (q ++ t) s w ∙ e ∙ ap (λ (x : List ℕ). got (x, b₁) u) (join_assoc k c d f))

  all_complete : {d q : List ℕ} → Joined k S d q → (mode : Mode) (t u : List ℕ) → Ends mode t u → Reads Alike (read_all k r mode) (d, 0) (q ++ t) u
  all_complete {d = d} {q = q} j mode t u z =
      let (b, e) = joined_complete (suc (length (q ++ t))) (empty k) 0 mode t u (told_empty k) (whole_empty k) j (omega arith) z in
      record { value = (d, b); answer = e ∙ ap (λ (x : List ℕ). got (x, b) u) (join_left k d (joined_told told j)); alike = refl }

segment_complete : (k : Kind) (d : ℕ) (c p s : List ℕ) → SegmentIn k d c p → (b : ℕ) × (read_segment k d (p ++ s) ≡ got (c, b) s)
unfolding SegmentIn read_segment
segment_complete k zero c p s x = absurd x
segment_complete k (suc d) c p s (primitive e x) =
    let (n, h) = definite_head x in
    (length (p ++ s) - length s, simp (run, heads_is (segment_tag k true) n s (tag_readable k false) h ∙ other_bit k, primitive_complete s (tag_readable k false) x, e))
segment_complete k (suc d) c p s (constructed j x) =
    let (n, h) = constructed_head x in
    let y = constructed_complete {Q = Alike} _ s (tag_readable k true) (all_complete k (SegmentIn k d) (read_segment k d) (segment_told k d) (segment_headed k d) (segment_complete k d) j) x in
    let v = y.value in
    (v.1, simp (run, heads_is (segment_tag k true) n s (tag_readable k true) h ∙ same_refl (segment_tag k true)) (y.answer ∙ ap (λ (z : List ℕ). got (z, v.1) s) (sym y.alike)))

no_empty : Readable [] → ⊥
unfolding read_identifier
no_empty g = refused≢got (g [])

pub parts_differ : (i : List ℕ) → 0 < length i → same (in_parts i) i ≡ false
unfolding in_parts same
parts_differ [] h = absurd (omega arith)
parts_differ (b ∷ i) h = rw (ne_eqb (b + 32) b (λ e. omega arith)) refl

readable_some : (i : List ℕ) → Readable i → 0 < length i
readable_some [] g = absurd (no_empty g)
readable_some (b ∷ i) g = omega arith

pub carried_complete : {k : Option Kind} {i c m : List ℕ} (s : List ℕ) → Readable i → Readable (in_parts i) → Carries i c m k → read_carried k i (m ++ s) ≡ got c s
unfolding read_carried
carried_complete {k = none} s g h (in_whole x) = primitive_complete s g x
carried_complete {k = some k} {i = i} s g h (in_whole x) =
    let (n, e) = definite_head x in
    simp (run, heads_is (in_parts i) n s g e ∙ parts_differ i (readable_some i g), primitive_complete s g x)
carried_complete {i = i} {c = c} s g h (in_segments {k = k} j x) =
    let (n, e) = constructed_head x in
    let y = constructed_complete {Q = Alike} _ s h (all_complete k (SegmentIn k deepest) (read_segment k deepest) (segment_told k deepest) (segment_headed k deepest) (segment_complete k deepest) j) x in
    simp (run, heads_is (in_parts i) n s h e ∙ same_refl (in_parts i), y.answer, y.alike)

-- the identifier octets that an item may begin with
pub data Heading (i : List ℕ) (k : Option Kind) (x : List ℕ) : Type 0 where
  as_whole : x ≡ i → Heading i k x
  as_parts : in_either k ≡ true → x ≡ in_parts i → Heading i k x

pub carried_begins : {k : Option Kind} {i c m : List ℕ} → Carries i c m k → (x : List ℕ) × (n : List ℕ) × (m ≡ x ++ n) × Heading i k x
carried_begins {i = i} (in_whole x) = let (n, e) = definite_head x in (i, n, e, as_whole refl)
carried_begins {i = i} (in_segments j x) = let (n, e) = constructed_head x in (in_parts i, n, e, as_parts refl refl)

-- a tag's identifier in the constructed form
pub parts_identifier : (c n : ℕ) → in_parts (identifier c false n) ≡ identifier c true n
unfolding in_parts identifier leading if
parts_identifier c n = if_cases (λ (l : List ℕ). in_parts l ≡ if (ltb n 31) (leading c true n ∷ []) λ _. leading c true 31 ∷ following n) (ltb n 31) _ _ (λ e. rw e (ap (λ (b : ℕ). b ∷ []) (omega arith))) (λ e. rw e (ap (λ (b : ℕ). b ∷ following n) (omega arith)))
