-- Simple contents are read alike wherever they stand: by themselves, or by their segments (X.690, 8.2 to 8.8).
-- Assumes nothing.
use mathlib.Core.Bool.{Bool, true, false, ◌&&◌, false≢true}
use mathlib.Core.List.{List, [], ◌++◌}
use mathlib.Core.Option.{Option, some, none}
use mathlib.Core.Path.{◌≡◌, refl, sym, ap, ◌∙◌}
use native.Mathlib.Omega.{arith}
use Prim.Native.Nat.{ℕ, ◌+◌, ◌-◌, ◌≤◌}
use lib.ListN.{length, take, drop, length-append}
use lib.Seq.{length-take-le, take-length, drop-append_seam}
use Rattle.x690.specs.declared.ReadingCause.{ReadingCause}
use Rattle.x690.specs.declared.ReadingCause.TheVariants.{Contents}
use Rattle.octets.specs.Answer.{Answer, got, refused, then, behind}
use Rattle.octets.proofs.Answer.{got_holds, if_cases, refused≢got}
use Rattle.octets.proofs.Lists.{same_refl}
use Rattle.x690.specs.Reading.{Mode, closed, open_ended, Size, definite, indefinite, read_identifier, read_header, passes, inside as inside_size, read_constructed, contents, read_primitive}
use Rattle.x690.specs.Segments.{Kind, Gathered, in_parts, in_either, heads, deepest, read_all, read_segment}
use Rattle.x690.proofs.Segments.{all_rest, all_closed}
use Rattle.ber.specs.Told.{mode}
use Rattle.table.specs.Syntax.{Simple, Boolean, Integer, BitString, OctetString, Null, Enumerated, Time, Body, Plain, Record, Table, is_choice}
use Rattle.coding.specs.Content.{segmented}
use Rattle.coding.specs.Tags.{own_tag}
use Rattle.coding.specs.Value.{Value, leaf, Leaf}
use Rattle.coding.specs.Reading.{decode, read_kind}
use Rattle.coding.proofs.Content.{content_sound, content_complete}
use Rattle.reader.specs.Leaves.{read_segments, read_leaf}
use Rattle.reader.specs.Codes.{own_either}
use Rattle.reader.proofs.Opening.{item_refused, item_in_parts}
use Rattle.reader.proofs.OwnForm.{Form, as_own, as_parts, same_kind, carried_own, carried_parts}
use Rattle.reader.proofs.Starts.{and_false}
use Rattle.reader.proofs.Tagging.{own_parts}

-- wrong contents are refused at the item
abbrev pub Only : ℕ → Answer ReadingCause Leaf → Type 0
Only l (got x s) = Unit {0}
Only l (refused c k) = (c ≡ Contents) × (k ≡ l)

pub decode_only : (k : Simple) (l : ℕ) (c s : List ℕ) → Only l (decode k l c s)
unfolding decode
decode_only Boolean l c s = if_cases (Only l) _ _ _ (λ e. (refl, refl)) (λ e. tt)
decode_only Integer l c s = if_cases (Only l) _ _ _ (λ e. (refl, refl)) (λ e. if_cases (Only l) _ _ _ (λ f. (refl, refl)) (λ f. tt))
decode_only BitString l c s = if_cases (Only l) _ _ _ (λ e. (refl, refl)) (λ e. if_cases (Only l) _ _ _ (λ f. (refl, refl)) (λ f. tt))
decode_only OctetString l c s = tt
decode_only Null l c s = if_cases (Only l) _ _ _ (λ e. (refl, refl)) (λ e. tt)
decode_only (Enumerated ns) l c s =
    if_cases (Only l) _ _ _ (λ e. (refl, refl)) (λ e. if_cases (Only l) _ _ _ (λ f. (refl, refl))
    (λ f. if_cases (Only l) _ _ _ (λ g. (refl, refl)) (λ g. tt)))
decode_only (Time q) l c s = if_cases (Only l) _ _ _ (λ e. (refl, refl)) (λ e. tt)

pub decode_moves : (k : Simple) (l : ℕ) (c s : List ℕ) (l₂ : ℕ) (s₂ : List ℕ) (x : Leaf) (w : List ℕ) → decode k l c s ≡ got x w
    → decode k l₂ c s₂ ≡ got x s₂
decode_moves k l c s l₂ s₂ x w e = content_complete l₂ s₂ (got_holds (content_sound k l c s) e).1

-- the same contents elsewhere: a leaf, or a refusal at the other item
pub data Elsewhere (l₂ : ℕ) (s₂ : List ℕ) : Answer ReadingCause Leaf → Answer ReadingCause Leaf → Type 0 where
  leaf_there : {x : Leaf} {s : List ℕ} → Elsewhere l₂ s₂ (got x s) (got x s₂)
  wrong_there : {l : ℕ} → Elsewhere l₂ s₂ (refused Contents l) (refused Contents l₂)

pub decode_elsewhere : (k : Simple) (l : ℕ) (c s : List ℕ) (l₂ : ℕ) (s₂ : List ℕ) → Elsewhere l₂ s₂ (decode k l c s) (decode k l₂ c s₂)
decode_elsewhere k l c s l₂ s₂ = go (decode k l c s) refl (decode k l₂ c s₂) refl
  where
    go : (x : Answer ReadingCause Leaf) → decode k l c s ≡ x → (y : Answer ReadingCause Leaf) → decode k l₂ c s₂ ≡ y → Elsewhere l₂ s₂ (decode k l c s) (decode k l₂ c s₂)
    go (got x w) e y f = rw (e, decode_moves k l c s l₂ s₂ x w e) leaf_there
    go (refused a b) e (got y w) f = refused≢got (sym e ∙ decode_moves k l₂ c s₂ l s y w f)
    go (refused a b) e (refused d i) f =
        let (p, q) = rw e at (decode_only k l c s) in
        let (g, h) = rw f at (decode_only k l₂ c s₂) in
        rw (e, f, p, g, h) wrong_there

-- k octets more behind all
there : (l₂ : ℕ) (s : List ℕ) {a : ReadingCause} {b : ℕ} (x y : Answer ReadingCause Leaf) → Elsewhere l₂ s x y → x ≡ refused a b → y ≡ refused Contents l₂
there l₂ s x y leaf_there d = refused≢got (sym d)
there l₂ s x y wrong_there d = refl

decode_shift : (q : Simple) (l n : ℕ) (c s : List ℕ) → decode q (l + n) c s ≡ behind n (decode q l c s)
unfolding behind
decode_shift q l n c s = go (decode q l c s) refl
  where
    go : (x : Answer ReadingCause Leaf) → decode q l c s ≡ x → decode q (l + n) c s ≡ behind n (decode q l c s)
    go (got x w) e = rw e (decode_moves q l c s (l + n) s x w e ∙ ap (got x) (sym (got_holds (content_sound q l c s) e).0))
    go (refused a b) e =
        let (p, h) = rw e at (decode_only q l c s) in
        there (l + n) s (decode q l c s) (decode q (l + n) c s) (decode_elsewhere q l c s (l + n) s) e ∙ rw (e, p, h) refl

behind_then : {A B : Type 0} (n : ℕ) (x : Answer ReadingCause A) (f : A → List ℕ → Answer ReadingCause B) → behind n (then x f) ≡ then (behind n x) λ a s. behind n (f a s)
unfolding behind then
behind_then n (got a s) f = refl
behind_then n (refused c l) f = refl

behind_twice : {A : Type 0} (j n : ℕ) (x : Answer ReadingCause A) → behind (j + n) x ≡ behind n (behind j x)
unfolding behind
behind_twice j n (got a s) = refl
behind_twice j n (refused c l) = ap (refused c) (omega arith)

then_shift : (q : Simple) (l j n : ℕ) (x : Answer ReadingCause (List ℕ)) → then (behind (j + n) x) (λ d u. decode q (l + n) d u) ≡ behind n (then (behind j x) λ d u. decode q l d u)
unfolding then behind
then_shift q l j n (got d u) = decode_shift q l n d u
then_shift q l j n (refused c i) = ap (refused c) (omega arith)

-- with n octets more behind all
pub leaf_shift : (q : Simple) (parts z : Bool) (l j n : ℕ) (c : List ℕ) → read_leaf q parts z (l + n) (j + n) c ≡ behind n (read_leaf q parts z l j c)
unfolding read_leaf behind
leaf_shift q true z l j n c = then_shift q l j n (read_segments (segmented q) (mode z) c)
leaf_shift q false true l j n c = refl
leaf_shift q false false l j n c = decode_shift q l n c []

-- The value of an item, by what its contents c are read to: they stand at the front of u.
abbrev pub leaf_end : List ℕ → List ℕ → Answer ReadingCause Leaf → Answer ReadingCause Value
leaf_end c u x = then x λ v w. got (leaf v) (drop (length c - length w) u)

-- a decoded leaf is followed by what was said to follow
decode_leaf : (q : Simple) (l : ℕ) (d s t u c : List ℕ) → s ≡ drop (length c - length t) u → then (decode q l d s) (λ v w. got (leaf v) w) ≡ leaf_end c u (decode q l d t)
unfolding then
decode_leaf q l d s t u c e = by (decode q l d t) refl
  where
    by : (y : Answer ReadingCause Leaf) → decode q l d t ≡ y → then (decode q l d s) (λ v w. got (leaf v) w) ≡ leaf_end c u (decode q l d t)
    by (got v w) h = let k : w ≡ t = (got_holds (content_sound q l d t) h).0 in rw (decode_moves q l d t l s v w h, h, k, e) refl
    by (refused a b) h =
        let (i, j) = rw h at (decode_only q l d t) in
        rw (there l s (decode q l d t) (decode q l d s) (decode_elsewhere q l d t l s) h, h, i, j) refl

rest_at : (p w u : List ℕ) → u ≡ p ++ w → w ≡ drop (length u - length w) u
rest_at p w u e =
    let k : length u - length w ≡ length p = omega (arith, ap length e, length-append p w) in
    rw k (sym (ap (drop (length p)) e ∙ drop-append_seam p w))

-- the size that a length gives
abbrev pub size_of : Bool → ℕ → Size
size_of true n = indefinite
size_of false n = definite n

-- The item of a simple kind with the identifier octets o: its header is read, and u follows it. Of u the n octets in front are the contents, all of
-- it where 00 00 closes them.
module _ (T : Table) (f : ℕ → List ℕ → Answer ReadingCause Value) (o : List ℕ) (y : Body) (s : List ℕ) (q : Simple) (ey : y ≡ Plain q) (z : Bool) (n : ℕ) (u v : List ℕ)
    (fits : n ≤ length u) (all : z ≡ true → n ≡ length u) where
  abbrev Read : Bool → Answer ReadingCause Value
  Read parts = leaf_end (take n u) u (read_leaf q parts z (length s) (length u - n) (take n u))

  -- primitive
  module _ (e : read_identifier s ≡ got o v) (h : read_header o s ≡ got (size_of z n) u) where
    its_contents : read_kind T f o y s ≡ then (read_primitive o s) λ c s₁. then (decode q (length s) c s₁) λ x s₂. got (leaf x) s₂
    unfolding read_kind
    its_contents = rw (ey, carried_own (segmented q) s o v e) refl

    pub leaf_own_lem : read_kind T f o y s ≡ Read false
    unfolding read_primitive contents then read_leaf
    leaf_own_lem = its_contents ∙ by z refl
      where
        by : (b : Bool) → z ≡ b → then (read_primitive o s) (λ c s₁. then (decode q (length s) c s₁) λ x s₂. got (leaf x) s₂) ≡ Read false
        by true t = let g = rw t at h in rw (t, g) refl
        by false t =
            let g = rw t at h in
            let k : n ≡ length (take n u) - 0 = omega (arith, length-take-le n u fits) in
            rw (t, g) (decode_leaf q (length s) (take n u) (drop n u) [] u (take n u) (ap (λ (i : ℕ). drop i u) k))

  -- in segments
  module _ (k : Kind) (ek : segmented q ≡ some k) (e : read_identifier s ≡ got (in_parts o) v) (h : read_header (in_parts o) s ≡ got (size_of z n) u) where
    abbrev All : Mode → List ℕ → Answer ReadingCause Gathered
    All m c = read_all k (read_segment k deepest) m c

    abbrev Then : Answer ReadingCause Gathered → Answer ReadingCause Value
    Then x = then (then x λ g w. got g.0 w) λ d w. then (decode q (length s) d w) λ x w₂. got (leaf x) w₂

    its_segments : read_kind T f o y s ≡ Then (read_constructed (in_parts o) All s)
    unfolding read_kind
    its_segments = rw (ey, ek, carried_parts k s o v e) refl

    -- contents that 00 00 closes
    by_mark : (x : Answer ReadingCause Gathered) → All open_ended u ≡ x → Then (All open_ended u) ≡ leaf_end u u (then (behind 0 (then (All open_ended u) λ g w. got g.0 w)) λ d w. decode q (length s) d w)
    unfolding then behind
    by_mark (got g w) d = let (p, r) = got_holds (all_rest k deepest open_ended u) d in rw d (decode_leaf q (length s) g.0 w w u u (rest_at p w u r))
    by_mark (refused c i) d = rw d (ap (refused c) (omega arith))

    -- contents of a size
    by_size : (x : Answer ReadingCause Gathered) → All closed (take n u) ≡ x
        → Then (then (behind (length u - n) (All closed (take n u))) λ g w. got g (drop n u))
        ≡ leaf_end (take n u) u (then (behind (length u - n) (then (All closed (take n u)) λ g w. got g.0 w)) λ d w. decode q (length s) d w)
    unfolding then behind
    by_size (got g w) d =
        let r = got_holds (all_closed k deepest (take n u)) d in
        let k : n ≡ length (take n u) - length w = omega (arith, length-take-le n u fits, ap length r) in
        rw d (decode_leaf q (length s) g.0 (drop n u) w u (take n u) (ap (λ (i : ℕ). drop i u) k))
    by_size (refused c i) d = rw d refl

    pub leaf_parts : read_kind T f o y s ≡ Read true
    unfolding read_constructed inside_size then read_leaf read_segments
    leaf_parts = its_segments ∙ by z refl
      where
        by : (b : Bool) → z ≡ b → Then (read_constructed (in_parts o) All s) ≡ Read true
        by true t =
            let g = rw t at h in
            let i : n ≡ length u = all t in
            let j : length u - length u ≡ 0 = omega arith in
            rw (t, g, ek, i, take-length u, j) (by_mark (All open_ended u) refl)
        by false t = let g = rw t at h in rw (t, g, ek) (by_size (All closed (take n u)) refl)

own_read : (r : Record) (s v : List ℕ) → read_identifier s ≡ got (own_tag r) v → (own_either r.body && heads (in_parts (own_tag r)) s) ≡ false
unfolding passes
own_read r s v e = rw (e, own_parts r) (and_false (own_either r.body))

parts_read : (r : Record) (s v : List ℕ) (k : Simple) → r.body ≡ Plain k → in_either (segmented k) ≡ true → read_identifier s ≡ got (in_parts (own_tag r)) v
    → (own_either r.body && heads (in_parts (own_tag r)) s) ≡ true
unfolding passes own_either
parts_read r s v k x y e = rw (e, same_refl (in_parts (own_tag r)), x, y) refl

-- by the form of its identifier
pub form_read : (T : Table) (f : ℕ → List ℕ → Answer ReadingCause Value) (r : Record) (s : List ℕ) (q : Simple) (ey : r.body ≡ Plain q) (z : Bool) (n : ℕ) (u v : List ℕ)
    → n ≤ length u → (z ≡ true → n ≡ length u) → (i : List ℕ) → read_identifier s ≡ got i v → {parts : Bool} → Form r i parts → read_header i s ≡ got (size_of z n) u
    → read_kind T f (own_tag r) r.body s ≡ leaf_end (take n u) u (read_leaf q parts z (length s) (length u - n) (take n u))
form_read T f r s q ey z n u v fits all i e (as_own o) h = leaf_own_lem T f (own_tag r) r.body s q ey z n u v fits all (rw o at e) (rw o at h)
form_read T f r s q ey z n u v fits all i e (as_parts k x y o) h =
    let (j, t) = a_kind (segmented q) (rw (same_kind q k (sym ey ∙ x)) y) in
    leaf_parts T f (own_tag r) r.body s q ey z n u v fits all j t (rw o at e) (rw o at h)
  where
    a_kind : (m : Option Kind) → in_either m ≡ true → (j : Kind) × (m ≡ some j)
    a_kind none g = absurd (false≢true g)
    a_kind (some j) g = (j, refl)

-- an item whose header is refused
pub form_refused : (T : Table) (f : ℕ → List ℕ → Answer ReadingCause Value) (r : Record) (s : List ℕ) (c : ReadingCause) (l : ℕ) → is_choice r.body ≡ false → (i v : List ℕ) → read_identifier s ≡ got i v
    → {parts : Bool} → Form r i parts → read_header i s ≡ refused c l → read_kind T f (own_tag r) r.body s ≡ refused c l
form_refused T f r s c l n i v e (as_own o) h = item_refused T f (own_tag r) r.body s c l n (own_read r s v (rw o at e)) (rw o at h)
form_refused T f r s c l n i v e (as_parts k x y o) h = item_in_parts T f (own_tag r) r.body s c l (parts_read r s v k x y (rw o at e)) (rw o at h)
