-- What is read in segments is gathered by headers alone, and what it joins to is the same.
-- Assumes nothing.
use borrow.Author.Tests.{eqb-true, not-false}
use mathlib.Core.Bool.{true, false}
use mathlib.Core.List.{List, [], ◌∷◌, ◌++◌, append_assoc, append-nil}
use mathlib.Core.Path.{◌≡◌, refl, sym, ap, ◌∙◌}
use native.Mathlib.Omega.{arith}
use Prim.Native.Nat.{ℕ, zero, suc, ◌+◌, ◌-◌, ◌≤◌}
use lib.ListN.{length, get_or, take, drop, length-append, take-append-drop}
use lib.Seq.{take-append_seam, drop-append_seam}
use Rattle.x690.specs.declared.ReadingCause.{ReadingCause}
use Rattle.octets.specs.Answer.{Answer, got, if}
use Rattle.octets.proofs.Answer.{Holds, yields, refuses, then_holds, map_holds, behind_holds, if_holds, got_holds}
use Rattle.x690.specs.Identifier.{leading, identifier}
use Rattle.x690.specs.Item.{Definite, sized}
use Rattle.x690.specs.Length.{Length}
use Rattle.x690.specs.Reading.{Size, definite, indefinite, read_length, Mode, closed, open_ended, inside, read_constructed}
use Rattle.x690.specs.Segments.{Kind, bit_string, octet_string, universal, segment_tag, empty, join, whole, Gathered, read_joined, read_all, read_segment}
use Rattle.x690.proofs.Identifiers.{identifier_sound}
use Rattle.x690.proofs.Segments.{all_closed}
use Rattle.x690.proofs.Items.{Ends, no_more, mark, at_end_holds, Item, header_sound, primitive_sound}
use Rattle.x690.proofs.Lengths.{Shape, is_definite, is_indefinite, length_complete}
use Rattle.segments.specs.Segments.{Gathers, behind_all, at_the_end, closes, enters, opens, adds}
use Rattle.segments.proofs.Joining.{Within, takes, all_within}

tag_primitive : (k : Kind) → segment_tag k false ≡ universal k ∷ []
unfolding segment_tag identifier leading if
tag_primitive bit_string = refl
tag_primitive octet_string = refl

tag_constructed : (k : Kind) → segment_tag k true ≡ (universal k + 32) ∷ []
unfolding segment_tag identifier leading if
tag_constructed bit_string = refl
tag_constructed octet_string = refl

-- how contents join
abbrev Ready : Kind → List ℕ → Type 0
Ready k a = (whole k a ≡ true) × (length (empty k) ≤ length a)

ready_empty : (k : Kind) → Ready k (empty k)
unfolding whole empty
ready_empty bit_string = (refl, omega arith)
ready_empty octet_string = (refl, omega arith)

ready_join : (k : Kind) (a c : List ℕ) → whole k c ≡ true → Ready k (join k a c)
unfolding whole empty join
ready_join bit_string a c w = (w, omega arith)
ready_join octet_string a c w = (refl, omega arith)

join_empty : (k : Kind) (a : List ℕ) → Ready k a → join k a (empty k) ≡ a
unfolding whole empty join
join_empty bit_string [] (w, h) = absurd (omega arith)
join_empty bit_string (x ∷ a) (w, h) = rw (append-nil a, eqb-true x 0 w) refl
join_empty octet_string a (w, h) = append-nil a

empty_join : (k : Kind) (c : List ℕ) → length (empty k) ≤ length c → join k (empty k) c ≡ c
unfolding empty join
empty_join bit_string [] h = absurd (omega arith)
empty_join bit_string (x ∷ c) h = refl
empty_join octet_string c h = refl

join_assoc : (k : Kind) (a c d : List ℕ) → join k (join k a c) d ≡ join k a (join k c d)
unfolding join
join_assoc bit_string a c d = ap (λ (l : List ℕ). get_or d 0 0 ∷ l) (append_assoc (drop 1 a) (drop 1 c) (drop 1 d))
join_assoc octet_string a c d = append_assoc a c d

-- from one state of gathering to another, whatever follows
abbrev Leads : Kind → ℕ → List ℕ → List ℕ → ℕ → List ℕ → List ℕ → Type 0
Leads k n a s j d u = (c w : List ℕ) → Gathers k j d u c w → Gathers k n a s c w

-- how many are open behind contents
abbrev after : Mode → ℕ → ℕ
after closed n = suc n
after open_ended n = n

-- a segment behind a; t stands behind the octets that it is read from
abbrev Adds : Kind → List ℕ → Gathered → List ℕ → Type 0
Adds k s g u = (n : ℕ) (a t : List ℕ) → Ready k a → Leads k (suc n) a (s ++ t) (suc n) (join k a g.0) (u ++ t)

-- contents behind a, of which c is in hand
abbrev AddsAll : Kind → Mode → List ℕ → List ℕ → Gathered → List ℕ → Type 0
AddsAll k mode c s g u = (n : ℕ) (a t : List ℕ) → Ready k a → Leads k (suc n) (join k a c) (s ++ t) (after mode n) (join k a g.0) (u ++ t)

ended : (k : Kind) (c : List ℕ) (b : ℕ) {mode : Mode} {s u : List ℕ} → Ends mode s u → AddsAll k mode c s (c, b) u
ended k c b no_more n a t r d w x = x
ended k c b mark n a t r d w x = closes x

one_more : (k : Kind) (mode : Mode) (c s u v : List ℕ) (g h : Gathered) → whole k c ≡ true → Adds k s g u → AddsAll k mode (join k c g.0) u h v
    → AddsAll k mode c s h v
one_more k mode c s u v g h w x y n a t r d e z =
    x n (join k a c) t (ready_join k a c w) d e (rw (join_assoc k a c g.0) (y n a t r d e z))

module _ (k : Kind) (r : List ℕ → Answer ReadingCause Gathered) (one : (s : List ℕ) → Holds (Adds k s) (r s)) where
  joined_gathers : (n : ℕ) (c : List ℕ) (b : ℕ) (mode : Mode) (s : List ℕ) → Holds (AddsAll k mode c s) (read_joined k r n c b mode s)
  unfolding read_joined
  joined_gathers zero c b mode s = refuses
  joined_gathers (suc n) c b mode s =
      at_end_holds mode s (λ u h. yields (ended k c (b + (length s - length u)) h)) λ _.
      then_holds (identifier_sound s) λ i s₁ q.
      if_holds _ (λ _. refuses) λ _ _.
      if_holds _ (λ _. refuses) λ w _.
      then_holds (one s) λ g u x.
      map_holds (joined_gathers n (join k c g.0) g.1 mode u) λ h v y. one_more k mode c s u v g h (not-false _ w) x y

-- a segment by its octets
module _ {k : Kind} {n : ℕ} {a ls c w : List ℕ} where
  add : (d v : List ℕ) → Length (length d) ls → Gathers k (suc n) (join k a d) v c w → Gathers k (suc n) a (universal k ∷ (ls ++ (d ++ v))) c w
  add d v l x =
      let h : length d ≤ length (d ++ v) = simp length-append (omega arith) in
      adds {n = n} {z = length d} {a = a} {s = ls ++ (d ++ v)} {r = d ++ v} {c = c} {w = w} (λ i. length_complete i (d ++ v) l h) (rw (take-append_seam d v, drop-append_seam d v) x)

  enter : (z : ℕ) (v : List ℕ) → Length z ls → z ≤ length v → Gathers k (suc n) a v c w → Gathers k (suc n) a ((universal k + 32) ∷ (ls ++ v)) c w
  enter z v l h x = enters {z = z} {r = v} (λ i. length_complete i v l h) x

open_up : {k : Kind} {n : ℕ} {a v c w : List ℕ} → Gathers k (suc (suc n)) a v c w → Gathers k (suc n) a ((universal k + 32) ∷ 128 ∷ v) c w
unfolding read_length if
open_up x = opens (λ i. refl) x

primitive_adds : (k : Kind) (b : ℕ) {c s u : List ℕ} → Item Definite (segment_tag k false) (λ x. x ≡ c) s u → Adds k s (c, b) u
primitive_adds k b {c = c} {s} {u} x n a t r d w y = go x.framed
  where
    go : Definite (segment_tag k false) x.content x.item → Gathers k (suc n) a (s ++ t) d w
    go (sized ls l e) =
        let i : x.item ≡ universal k ∷ (ls ++ c) = rw (tag_primitive k, x.has) at e in
        let q : s ++ t ≡ universal k ∷ (ls ++ (c ++ (u ++ t))) =
        ap (λ (l : List ℕ). l ++ t) (x.cut ∙ ap (λ (l : List ℕ). l ++ u) i) ∙ append_assoc (universal k ∷ (ls ++ c)) u t
        ∙ ap (λ (l : List ℕ). universal k ∷ l) (append_assoc ls c (u ++ t)) in
        rw q (add c (u ++ t) (rw x.has at l) y)

module _ (k : Kind) (body : Mode → List ℕ → Answer ReadingCause Gathered) (all : (mode : Mode) (s : List ℕ) → Holds (AddsAll k mode (empty k) s) (body mode s))
    (ends : (s : List ℕ) → Holds (λ g u. u ≡ []) (body closed s)) where
  both : (s : List ℕ) {x : Answer ReadingCause Gathered} → Holds (AddsAll k closed (empty k) s) x → Holds (λ g u. u ≡ []) x
      → Holds (λ g u. (u ≡ []) × AddsAll k closed (empty k) s g u) x
  both s (yields x) (yields e) = yields (e, x)
  both s refuses e = refuses

  begins : {s u v : List ℕ} → s ≡ segment_tag k true ++ u → u ≡ v → s ≡ (universal k + 32) ∷ v
  begins {v = v} e f = e ∙ rw (tag_constructed k, f) refl

  inside_adds : {s u : List ℕ} (z : Size) (w : List ℕ) → s ≡ segment_tag k true ++ u → Shape u z w → Holds (Adds k s) (inside body z w)
  unfolding inside
  inside_adds {s} (definite z) w e (is_definite ls f l room) =
      then_holds (behind_holds _ (both (take z w) (all closed (take z w)) (ends (take z w)))) λ g v (none, x).
      yields (λ n a t r d y q.
      let h : z ≤ length (w ++ t) = simp length-append (omega arith) in
      let p : s ++ t ≡ (universal k + 32) ∷ (ls ++ (w ++ t)) =
      ap (λ (l : List ℕ). l ++ t) (begins e f) ∙ ap (λ (l : List ℕ). (universal k + 32) ∷ l) (append_assoc ls w t) in
      let o : take z w ++ (drop z w ++ t) ≡ w ++ t = sym (append_assoc (take z w) (drop z w) t) ∙ ap (λ (l : List ℕ). l ++ t) (take-append-drop z w) in
      let i = rw (o, join_empty k a r) at (x n a (drop z w ++ t) r d y (rw none q)) in
      rw p (enter z (w ++ t) l h i))
  inside_adds {s} indefinite w e (is_indefinite f) =
      map_holds (all open_ended w) λ g v x n a t r d y q.
      let p : s ++ t ≡ (universal k + 32) ∷ 128 ∷ (w ++ t) = ap (λ (l : List ℕ). l ++ t) (begins e f) in
      let i = rw (join_empty k a r) at (x (suc n) a t r d y q) in
      rw p (open_up i)

segment_adds : (k : Kind) (d : ℕ) (s : List ℕ) → Holds (Adds k s) (read_segment k d s)
unfolding read_segment read_constructed
segment_adds k zero s = refuses
segment_adds k (suc d) s =
    if_holds _
    (λ _. then_holds (header_sound (segment_tag k true) s) λ z w (u, e, h).
    inside_adds k _ (λ mode v. joined_gathers k (λ t. read_segment k d t) (segment_adds k d) (suc (length v)) (empty k) 0 mode v)
    (all_closed k d) z w e h)
    λ _ _.
    then_holds (primitive_sound (segment_tag k false) s) λ c u x.
    if_holds _ (λ _. refuses) λ f _. yields (primitive_adds k (length s - length u) x)

module _ (k : Kind) (d : ℕ) where
  least_read : (mode : Mode) (m : List ℕ) (g : Gathered) (u : List ℕ) → read_all k (read_segment k d) mode m ≡ got g u → length (empty k) ≤ length g.0
  least_read mode m g u e = by (rw e at (all_within k d mode m))
    where
      by : Within k 0 (length (empty k)) 0 m (got g u) → length (empty k) ≤ length g.0
      by (takes p q o low high back) = low

  -- the contents that segments join to are gathered
  pub all_gathers : (mode : Mode) (m : List ℕ) (g : Gathered) (u : List ℕ) → read_all k (read_segment k d) mode m ≡ got g u
      → Gathers k 1 (empty k) m g.0 u
  all_gathers mode m g u e =
      let x = got_holds (joined_gathers k (read_segment k d) (segment_adds k d) (suc (length m)) (empty k) 0 mode m) e in
      let y = x 0 (empty k) [] (ready_empty k) (join k (empty k) g.0) (u ++ []) (over mode e) in
      rw (append-nil m, append-nil u, join_empty k (empty k) (ready_empty k), empty_join k g.0 (least_read mode m g u e)) at y
    where
      over : (mode : Mode) → read_all k (read_segment k d) mode m ≡ got g u
          → Gathers k (after mode 0) (join k (empty k) g.0) (u ++ []) (join k (empty k) g.0) (u ++ [])
      over closed e = rw (got_holds (all_closed k d m) e) at_the_end
      over open_ended e = behind_all
