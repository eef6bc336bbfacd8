-- What the reading of segments takes: that it is a front of the octets, how long the contents are that they join to, and where its refusals
-- are.
-- Assumes nothing.
use borrow.Author.Tests.{ne_eqb, not-false}
use mathlib.Core.Bool.{Bool, true, false, not, false≢true}
use mathlib.Core.List.{List, [], ◌∷◌, ◌++◌, append_assoc}
use mathlib.Core.Path.{◌≡◌, refl, sym, ap, ◌∙◌}
use native.Mathlib.Omega.{arith}
use Prim.Native.Nat.{ℕ, zero, suc, ◌+◌, ◌-◌, ◌*◌, ◌≤◌}
use lib.ListN.{length, take, drop, length-append, length-drop, take-append-drop}
use lib.Seq.{length-take-le}
use Rattle.x690.specs.declared.ReadingCause.{ReadingCause}
use Rattle.x690.specs.declared.ReadingCause.TheVariants.{NotAwaited}
use Rattle.octets.specs.Answer.{Answer, got, refused, then, if, behind, none_left}
use Rattle.octets.specs.Lists.{same}
use Rattle.octets.proofs.Answer.{Holds, yields, refuses}
use Rattle.x690.specs.Identifier.{bit, leading, identifier}
use Rattle.x690.specs.Item.{Definite, sized}
use Rattle.x690.specs.Reading.{read_identifier, Size, definite, indefinite, read_length, Mode, closed, open_ended, at_end, read_header, inside}
use Rattle.x690.specs.Reading.{read_constructed, contents, read_primitive}
use Rattle.x690.specs.Segments.{Kind, bit_string, octet_string, universal, segment_tag, empty, join, in_form, Gathered, read_joined, read_all, read_segment}
use Rattle.x690.proofs.Identifiers.{identifier_sound}
use Rattle.x690.proofs.Items.{Ends, no_more, mark, Item, header_sound, primitive_sound}
use Rattle.x690.proofs.Lengths.{Shape}
use Rattle.ber.proofs.Told.{Faulty, then_faulty, identifier_faulty, length_faulty, Room, shape_some}

-- the identifier octets of a segment are one octet
pub tag_is : (k : Kind) (b : Bool) → segment_tag k b ≡ (universal k + 32 * bit b) ∷ []
unfolding segment_tag identifier leading if
tag_is bit_string true = refl
tag_is bit_string false = refl
tag_is octet_string true = refl
tag_is octet_string false = refl

-- what segments join to
pub length_join : (k : Kind) (c d : List ℕ) → length (empty k) ≤ length d → length (join k c d) ≡ length c - length (empty k) + length d
unfolding empty join
length_join bit_string c d h =
    let e = length-append (drop 1 c) (drop 1 d) in
    omega (arith, length-drop 1 c, length-drop 1 d)
length_join octet_string c d h = let e = length-append c d in omega arith

pub form_least : (k : Kind) (c : List ℕ) → in_form k c ≡ true → length (empty k) ≤ length c
unfolding empty in_form none_left
form_least bit_string [] e = absurd (false≢true e)
form_least bit_string (x ∷ c) e = omega arith
form_least octet_string c e = omega arith

-- At s, where the contents in hand have e octets and the last primitive segment begins b octets back: at least o octets are taken.
pub data Within (k : Kind) (o e b : ℕ) (s : List ℕ) : Answer ReadingCause Gathered → Type 0 where
  takes : {g : Gathered} {u : List ℕ} (p : List ℕ) → s ≡ p ++ u → o ≤ length p → length (empty k) ≤ length g.0 → length g.0 ≤ e + length p
      → g.1 ≤ b + length p → Within k o e b s (got g u)
  stops : {c : ReadingCause} {l : ℕ} → l ≤ b + length s → Within k o e b s (refused c l)

-- a refusal here
here : {k : Kind} {o e b : ℕ} {s : List ℕ} {c : ReadingCause} → Within k o e b s (refused c (length s))
here {s = s} = stops {l = length s} (omega arith)

module _ {k : Kind} {o e b : ℕ} {s : List ℕ} where
  then_within : {A : Type 0} {P : A → List ℕ → Type 0} {x : Answer ReadingCause A} {f : A → List ℕ → Answer ReadingCause Gathered} → Holds P x → Faulty (length s) x
      → ((a : A) (r : List ℕ) → P a r → Within k o e b s (f a r)) → Within k o e b s (then x f)
  unfolding then
  then_within (yields {a = a} {r = r} h) q f = f a r h
  then_within (refuses {l = l}) q f = stops {l = l} (omega arith)

  if_within : (t : Bool) {x : Answer ReadingCause Gathered} {y : Unit {0} → Answer ReadingCause Gathered} → (t ≡ true → Within k o e b s x)
      → (t ≡ false → (u : Unit {0}) → Within k o e b s (y u)) → Within k o e b s (if t x y)
  unfolding if
  if_within true h g = h refl
  if_within false h g = g refl tt

at_end_within : {k : Kind} {o e b : ℕ} (mode : Mode) (s : List ℕ) {f : List ℕ → Answer ReadingCause Gathered} {x : Unit {0} → Answer ReadingCause Gathered}
    → ((u : List ℕ) → Ends mode s u → Within k o e b s (f u)) → ((t : Unit {0}) → Within k o e b s (x t)) → Within k o e b s (at_end mode s f x)
unfolding at_end if none_left
at_end_within closed [] h g = h [] no_more
at_end_within closed (x ∷ s) h g = g tt
at_end_within open_ended [] h g = here
at_end_within open_ended (zero ∷ []) h g = here
at_end_within open_ended (zero ∷ zero ∷ s) h g = h s mark
at_end_within open_ended (zero ∷ suc c ∷ s) h g = rw (ne_eqb (suc c) 0 (λ e. omega arith)) here
at_end_within open_ended (suc c ∷ s) h g = rw (ne_eqb (suc c) 0 (λ e. omega arith)) (g tt)

ends_cut : {mode : Mode} {s u : List ℕ} → Ends mode s u → (p : List ℕ) × (s ≡ p ++ u)
ends_cut no_more = ([], refl)
ends_cut mark = (0 ∷ 0 ∷ [], refl)

-- behind a segment
further : (k : Kind) (c p s u : List ℕ) (b : ℕ) (g : Gathered) {y : Answer ReadingCause Gathered} → s ≡ p ++ u → length (empty k) ≤ length c
    → length (empty k) ≤ length g.0 → length g.0 ≤ length p → g.1 ≤ length p
    → Within k 0 (length (join k c g.0)) g.1 u y → Within k 0 (length c) b s y
further k c p s u b g e a f h i (takes {g = x} {u = v} q eq o low high back) =
    let j = length_join k c g.0 f in
    let l = length-append p q in
    takes {g = x} {u = v} (p ++ q) (e ∙ ap (λ (l : List ℕ). p ++ l) eq ∙ sym (append_assoc p q v)) (omega arith) low (omega arith) (omega arith)
further k c p s u b g e a f h i (stops {l = l} q) = let j = ap length e ∙ length-append p u in stops {l = l} (omega arith)

module _ (k : Kind) (r : List ℕ → Answer ReadingCause Gathered) (one : (s : List ℕ) → Within k 1 0 0 s (r s)) where
  pub joined_within : (n : ℕ) (c : List ℕ) (b : ℕ) (mode : Mode) (s : List ℕ) → length (empty k) ≤ length c
      → Within k 0 (length c) b s (read_joined k r n c b mode s)
  unfolding read_joined then
  joined_within zero c b mode s h = here
  joined_within (suc n) c b mode s h =
      at_end_within mode s (λ u q. ended u (ends_cut q)) λ _.
      then_within (identifier_sound s) (identifier_faulty s) λ i s₁ q.
      if_within _ (λ _. here) λ _ _.
      if_within _ (λ _. stops {l = length s + b} (omega arith)) λ _ _.
      on (one s) λ g u low. joined_within n (join k c g.0) g.1 mode u low
    where
      ended : (u : List ℕ) → (p : List ℕ) × (s ≡ p ++ u) → Within k 0 (length c) b s (got (c, b + (length s - length u)) u)
      ended u (p, e) = let l = ap length e ∙ length-append p u in takes {g = (c, b + (length s - length u))} {u = u} p e (omega arith) h (omega arith) (omega arith)

      on : {x : Answer ReadingCause Gathered} {f : Gathered → List ℕ → Answer ReadingCause Gathered} → Within k 1 0 0 s x
          → ((g : Gathered) (u : List ℕ) → length (empty k) ≤ length (join k c g.0) → Within k 0 (length (join k c g.0)) g.1 u (f g u))
          → Within k 0 (length c) b s (then x f)
      on (takes {g = g} {u = u} p e o low high back) f =
          let j = length_join k c g.0 low in
          further k c p s u b g e h low (omega arith) (omega arith) (f g u (omega arith))
      on (stops {l = l} q) f = stops {l = l} (omega arith)

-- a header, whose contents begin behind two octets or more
header_some : (k : Kind) (t : Bool) {s u w : List ℕ} {z : Size} → s ≡ segment_tag k t ++ u → Shape u z w
    → (q : List ℕ) × (s ≡ q ++ w) × (2 ≤ length q) × Room z w
header_some k t {w = w} e h =
    let (p, d, o, room) = shape_some h in
    let x = universal k + 32 * bit t in
    (x ∷ p, e ∙ rw (tag_is k t) (ap (λ (l : List ℕ). x ∷ l) d), omega arith, room)

header_faulty : (i s : List ℕ) → Faulty (length s) (read_header i s)
unfolding read_header if
header_faulty i s = then_faulty (length s) (read_identifier s) _ (identifier_faulty s) λ j s₁. behind_tag (not (same i j)) s₁
  where
    behind_tag : (t : Bool) (s₁ : List ℕ) → Faulty (length s) (if t (refused NotAwaited (length s)) λ _. read_length (length s) s₁)
    behind_tag true s₁ = refl
    behind_tag false s₁ = length_faulty (length s) s₁

primitive_faulty : (i s : List ℕ) → Faulty (length s) (read_primitive i s)
unfolding read_primitive contents
primitive_faulty i s = then_faulty (length s) (read_header i s) _ (header_faulty i s) λ z w. of_size z w
  where
    of_size : (z : Size) (w : List ℕ) → Faulty (length s) (contents (length s) z w)
    of_size (definite n) w = tt
    of_size indefinite w = refl

inside_within : (k : Kind) (body : Mode → List ℕ → Answer ReadingCause Gathered) (s q w : List ℕ) (z : Size)
    → ((mode : Mode) (u : List ℕ) → Within k 0 (length (empty k)) 0 u (body mode u)) → length (empty k) ≤ 1
    → s ≡ q ++ w → 2 ≤ length q → Room z w → Within k 1 0 0 s (inside body z w)
unfolding inside then behind
inside_within k body s q w (definite n) h one e two room = part (h closed (take n w))
  where
    part : {x : Answer ReadingCause Gathered} → Within k 0 (length (empty k)) 0 (take n w) x
        → Within k 1 0 0 s (then (behind (length w - n) x) λ v r. got v (drop n w))
    part (takes {g = g} {u = v} p d o low high back) =
        let l = length-append q (take n w) in
        let t = length-take-le n w room in
        let y = ap length d ∙ length-append p v in
        takes {g = g} {u = drop n w} (q ++ take n w) (e ∙ sym (append_assoc q (take n w) (drop n w) ∙ ap (λ (v : List ℕ). q ++ v) (take-append-drop n w)))
        (omega arith) low (omega arith) (omega arith)
    part (stops {l = l} y) =
        let t = length-take-le n w room in
        let v = ap length e ∙ length-append q w in
        stops {l = l + (length w - n)} (omega arith)
inside_within k body s q w indefinite h one e two room = all (h open_ended w)
  where
    all : {x : Answer ReadingCause Gathered} → Within k 0 (length (empty k)) 0 w x → Within k 1 0 0 s x
    all (takes {g = g} {u = u} p d o low high back) =
        let l = length-append q p in
        takes {g = g} {u = u} (q ++ p) (e ∙ ap (λ (v : List ℕ). q ++ v) d ∙ sym (append_assoc q p u)) (omega arith) low (omega arith) (omega arith)
    all (stops {l = l} y) = let v = ap length e ∙ length-append q w in stops {l = l} (omega arith)

pub empty_few : (k : Kind) → length (empty k) ≤ 1
unfolding empty
empty_few bit_string = omega arith
empty_few octet_string = omega arith

whole_item : (k : Kind) {c s u : List ℕ} → Item Definite (segment_tag k false) (λ x. x ≡ c) s u → in_form k c ≡ true
    → Within k 1 0 0 s (got (c, length s - length u) u)
whole_item k {c} {s} {u} x f = sizes x.framed
  where
    sizes : Definite (segment_tag k false) x.content x.item → Within k 1 0 0 s (got (c, length s - length u) u)
    sizes (sized ls l e) =
        let d = ap length (rw (tag_is k false) at e) in
        let y = length-append ls x.content in
        let v = ap length x.cut ∙ length-append x.item u in
        let z = ap length x.has in
        takes {g = (c, length s - length u)} {u = u} x.item x.cut (omega arith) (form_least k c f) (omega arith) (omega arith)

pub segment_within : (k : Kind) (d : ℕ) (s : List ℕ) → Within k 1 0 0 s (read_segment k d s)
unfolding read_segment read_constructed
segment_within k zero s = here
segment_within k (suc d) s =
    if_within _
    (λ _. then_within (header_sound (segment_tag k true) s) (header_faulty (segment_tag k true) s) λ z w (u, e, h).
    let (q, f, two, room) = header_some k true e h in
    inside_within k _ s q w z (λ mode v. joined_within k (λ t. read_segment k d t) (segment_within k d) (suc (length v)) (empty k) 0 mode v (omega arith))
    (empty_few k) f two room)
    λ _ _.
    then_within (primitive_sound (segment_tag k false) s) (primitive_faulty (segment_tag k false) s) λ c u x.
    if_within _ (λ _. here) λ f _. whole_item k x (not-false _ f)

pub all_within : (k : Kind) (d : ℕ) (mode : Mode) (s : List ℕ) → Within k 0 (length (empty k)) 0 s (read_all k (read_segment k d) mode s)
all_within k d mode s = joined_within k (read_segment k d) (segment_within k d) (suc (length s)) (empty k) 0 mode s (omega arith)
