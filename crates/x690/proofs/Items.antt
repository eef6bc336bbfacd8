-- Laws of items: what may be sent is read, and what is read may be sent.
-- Assumes nothing.
use borrow.Author.Tests.{ne_eqb, not-false}
use mathlib.Core.List.{List, [], ◌∷◌, ◌++◌, append_assoc, append-nil}
use mathlib.Core.Path.{◌≡◌, refl, sym, ap, ◌∙◌}
use native.Mathlib.Omega.{arith}
use Prim.Native.Nat.{ℕ, zero, suc, ◌+◌, ◌-◌, ◌^◌, ◌≤◌, ◌<◌}
use lib.ListN.{length, take, drop, length-append, take-append-drop}
use lib.Seq.{length-take-le, take-append_seam, drop-append_seam}
use Rattle.x690.specs.declared.ReadingCause.{ReadingCause}
use Rattle.x690.specs.declared.ReadingCause.TheVariants.{NotAwaited, LengthField}
use Rattle.octets.specs.Answer.{Answer, got, refused, if, then, behind, none_left}
use Rattle.octets.specs.Permutations.{AllOctets}
use Rattle.octets.specs.Lists.{same}
use Rattle.octets.proofs.Answer.{Holds, yields, refuses, if_holds, then_holds, map_holds, behind_holds, run, Reads}
use Rattle.octets.proofs.Permutations.{every_left, every_right}
use Rattle.octets.proofs.Lists.{same_refl, same_true}
use Rattle.x690.specs.Reading.{read_identifier, Size, definite, indefinite, read_length, Mode, closed, open_ended, at_end, read_header, inside, read_constructed, contents, read_primitive}
use Rattle.x690.specs.Length.{longest_field, Length, short, long, length_octets}
use Rattle.x690.specs.Item.{Definite, sized, Constructed, in_size, in_marks, item}
use Rattle.x690.proofs.Identifiers.{identifier_sound, Begun}
use Rattle.x690.proofs.Lengths.{length_complete, length_sound, length_octets_lem, Shape, is_definite, is_indefinite, Counted, shape_field}

-- an identifier that is not awaited, before a length of five octets; the same behind one that is
header_24 : read_header (0x01 ∷ []) (0x02 ∷ 0x85 ∷ []) ≡ refused NotAwaited 2
unfolding if then same read_identifier read_length read_header
header_24 = refl

header_29 : read_header (0x01 ∷ []) (0x01 ∷ 0x85 ∷ []) ≡ refused LengthField 2
unfolding if then same read_identifier read_length read_header
header_29 = refl

-- 8.1.3.6: a NULL in an item of indefinite length, as it is sent
marks_sent : Constructed (0x30 ∷ []) (0x05 ∷ 0 ∷ []) (0x30 ∷ 0x80 ∷ 0x05 ∷ 0 ∷ 0 ∷ 0 ∷ [])
marks_sent = in_marks refl

-- behind contents stands `tail`: the contents end there, and r follows
pub data Ends : Mode → List ℕ → List ℕ → Type 0 where
  no_more : Ends closed [] []
  mark : {r : List ℕ} → Ends open_ended (0 ∷ 0 ∷ r) r

ends_closed : {t r : List ℕ} → Ends closed t r → t ≡ []
ends_closed no_more = refl

ends_open : {t r : List ℕ} → Ends open_ended t r → t ≡ 0 ∷ 0 ∷ r
ends_open mark = refl

pub at_end_end : {A : Type 0} {mode : Mode} {t r : List ℕ} (f : List ℕ → Answer ReadingCause A) (x : Unit {0} → Answer ReadingCause A) → Ends mode t r → at_end mode t f x ≡ f r
unfolding at_end if none_left
at_end_end f x no_more = refl
at_end_end f x mark = refl

pub at_end_holds : {A : Type 0} {P : A → List ℕ → Type 0} (mode : Mode) (s : List ℕ) {f : List ℕ → Answer ReadingCause A} {x : Unit {0} → Answer ReadingCause A}
    → ((r : List ℕ) → Ends mode s r → Holds P (f r)) → ((u : Unit {0}) → Holds P (x u)) → Holds P (at_end mode s f x)
unfolding at_end if none_left
at_end_holds closed [] h k = h [] no_more
at_end_holds closed (b ∷ s) h k = k tt
at_end_holds open_ended [] h k = refuses
at_end_holds open_ended (zero ∷ []) h k = refuses
at_end_holds open_ended (zero ∷ zero ∷ s) h k = h s mark
at_end_holds open_ended (zero ∷ suc c ∷ s) h k = rw (ne_eqb (suc c) 0 (λ e. omega arith)) refuses
at_end_holds open_ended (suc b ∷ s) h k = rw (ne_eqb (suc b) 0 (λ e. omega arith)) (k tt)

pub at_end_more : {A : Type 0} (mode : Mode) (b : ℕ) (s : List ℕ) (f : List ℕ → Answer ReadingCause A) (x : Unit {0} → Answer ReadingCause A) → 0 < b → at_end mode (b ∷ s) f x ≡ x tt
unfolding at_end
at_end_more closed b s f x h = simp run
at_end_more open_ended b s f x h = simp (run, ne_eqb b 0 (λ e. omega arith))

pub definite_octets : {i c m : List ℕ} → Definite i c m → AllOctets m → AllOctets c
definite_octets {i = i} (sized ls l e) o = every_right ls (every_right i (rw e at o))

pub constructed_octets : {i c m : List ℕ} → Constructed i c m → AllOctets m → AllOctets c
constructed_octets (in_size p) o = definite_octets p o
constructed_octets {i = i} {c = c} (in_marks e) o = every_left c _ (every_right (128 ∷ []) (every_right i (rw e at o)))

-- the identifier octets stand first
pub definite_head : {i c m : List ℕ} → Definite i c m → (n : List ℕ) × (m ≡ i ++ n)
definite_head {c = c} (sized ls l e) = (ls ++ c, e)

pub constructed_head : {i c m : List ℕ} → Constructed i c m → (n : List ℕ) × (m ≡ i ++ n)
constructed_head (in_size p) = definite_head p
constructed_head {c = c} (in_marks e) = (128 ∷ (c ++ (0 ∷ 0 ∷ [])), e)

-- contents are shorter than their item
pub definite_fits : {i c m : List ℕ} → Definite i c m → length c < length m
definite_fits {i = i} {c = c} (sized ls (short h e) q) = rw (q, e) (simp length-append (omega arith))
definite_fits {i = i} {c = c} (sized ls (long ds h k v e) q) = rw (q, e) (simp length-append (omega arith))

pub constructed_fits : {i c m : List ℕ} → Constructed i c m → length c < length m
constructed_fits (in_size p) = definite_fits p
constructed_fits (in_marks q) = rw q (simp length-append (omega arith))

-- an item that has begun is no end
pub begun_more : {A : Type 0} {i m : List ℕ} (rest s : List ℕ) (mode : Mode) (f : List ℕ → Answer ReadingCause A) (x : Unit {0} → Answer ReadingCause A) → Begun i → m ≡ i ++ rest → at_end mode (m ++ s) f x ≡ x tt
begun_more rest s mode f x b e = rw (e, b.is) (at_end_more mode b.head ((b.rest ++ rest) ++ s) f x b.not_zero)

pub begun_longer : {i m : List ℕ} (rest s : List ℕ) → Begun i → m ≡ i ++ rest → length s < length (m ++ s)
begun_longer rest s b e = rw (e, b.is) (simp length-append (omega arith))

-- identifier octets that are read as they stand
abbrev pub Readable : List ℕ → Type 0
Readable i = (s : List ℕ) → read_identifier (i ++ s) ≡ got i s

header_complete : {n : ℕ} {i ls : List ℕ} (s : List ℕ) → Readable i → Length n ls → n ≤ length s → read_header i (i ++ (ls ++ s)) ≡ got (definite n) s
unfolding read_header
header_complete {i = i} {ls = ls} s g l h = simp (run, g (ls ++ s), same_refl i, length_complete (length (i ++ (ls ++ s))) s l h)

header_indefinite : (i s : List ℕ) → Readable i → read_header i (i ++ (128 ∷ s)) ≡ got indefinite s
unfolding read_header read_length
header_indefinite i s g = simp (run, g (128 ∷ s), same_refl i)

whole : (i ls c s : List ℕ) → (i ++ (ls ++ c)) ++ s ≡ i ++ (ls ++ (c ++ s))
whole i ls c s = append_assoc i (ls ++ c) s ∙ ap (λ (l : List ℕ). i ++ l) (append_assoc ls c s)

whole_indefinite : (i c s : List ℕ) → (i ++ (128 ∷ (c ++ (0 ∷ 0 ∷ [])))) ++ s ≡ i ++ (128 ∷ (c ++ (0 ∷ 0 ∷ s)))
whole_indefinite i c s = append_assoc i (128 ∷ (c ++ (0 ∷ 0 ∷ []))) s ∙ ap (λ (l : List ℕ). i ++ (128 ∷ l)) (append_assoc c (0 ∷ 0 ∷ []) s)

pub primitive_complete : {i c m : List ℕ} (s : List ℕ) → Readable i → Definite i c m → read_primitive i (m ++ s) ≡ got c s
unfolding read_primitive contents
primitive_complete {i} {c} s g (sized ls l e) =
    let h : length c ≤ length (c ++ s) = simp length-append (omega arith) in
    rw (e, whole i ls c s) (simp (run, header_complete (c ++ s) g l h, contents, take-append_seam c s, drop-append_seam c s))

pub constructed_complete : {A : Type 0} {Q : A → A → Type 0} (body : Mode → List ℕ → Answer ReadingCause A) {v : A} {i c m : List ℕ} (s : List ℕ) → Readable i
    → ((mode : Mode) (t u : List ℕ) → Ends mode t u → Reads Q (body mode) v (c ++ t) u)
    → Constructed i c m → Reads Q (read_constructed i body) v (m ++ s) s
unfolding read_constructed inside
constructed_complete body {i = i} {c} s g b (in_size (sized ls l e)) =
    let h : length c ≤ length (c ++ s) = simp length-append (omega arith) in
    let x = b closed [] [] no_more in
    let k : body closed c ≡ got x.value [] = rw append-nil at x.answer in
    record {
      value = x.value;
      answer = rw (e, whole i ls c s) (simp (run, header_complete (c ++ s) g l h, inside, take-append_seam c s, drop-append_seam c s, k));
      alike = x.alike;
    }
constructed_complete body {i = i} {c} s g b (in_marks e) =
    let x = b open_ended (0 ∷ 0 ∷ s) s mark in
    record { value = x.value; answer = rw (e, whole_indefinite i c s) (simp (run, header_indefinite i (c ++ (0 ∷ 0 ∷ s)) g, inside, x.answer)); alike = x.alike }

-- a refusal inside a part is at the same octet of the whole: what stands behind the part is left as well
pub part_place : {A : Type 0} (body : Mode → List ℕ → Answer ReadingCause A) {k : ReadingCause} {l : ℕ} (c s : List ℕ) → body closed c ≡ refused k l
    → inside body (definite (length c)) (c ++ s) ≡ refused k (l + length s)
unfolding inside behind then
part_place body {k} {l} c s e =
    let h : length (c ++ s) - length c ≡ length s = simp length-append (omega arith) in
    rw (take-append_seam c s, e) (ap (λ (j : ℕ). refused k (l + j)) h)

-- what a reader of the identifier and the length took
pub header_sound : (i s : List ℕ) → Holds (λ z r. (u : List ℕ) × (s ≡ i ++ u) × Shape u z r) (read_header i s)
unfolding read_header
header_sound i s =
    then_holds (identifier_sound s) λ j u e.
    if_holds _ (λ f. refuses) λ f _.
    map_holds (length_sound _ u) (λ z r h. (u, rw (same_true i j (not-false (same i j) f)) e, h))

-- FORMATS, "Limits": of a header that is accepted at most four octets stand after the first length octet, and the length is below 2^32.
pub header_field : (i s : List ℕ) → AllOctets s → Holds (λ z r. (m : List ℕ) × (s ≡ i ++ (m ++ r)) × (length m ≤ 5) × Counted z) (read_header i s)
header_field i s o =
    map_holds (header_sound i s) λ z r (u, e, h).
    let (m, q, few, small) = shape_field (every_right i (rw e at o)) h in (m, e ∙ ap (λ (x : List ℕ). i ++ x) q, few, small)

-- s is an item and then r, and its contents have C
pub record Item (F : List ℕ → List ℕ → List ℕ → Type 0) (i : List ℕ) (C : List ℕ → Type 0) (s r : List ℕ) : Type 0 where
  pub item : List ℕ
  pub content : List ℕ
  pub cut : s ≡ item ++ r
  pub framed : F i content item
  pub has : C content

-- an identifier, a length and as many octets as it says
sized_item : {i : List ℕ} {k : ℕ} {s u : List ℕ} (m w : List ℕ) → s ≡ i ++ u → u ≡ m ++ w → Length k m → k ≤ length w → {C : List ℕ → Type 0} → C (take k w) → Item Definite i C s (drop k w)
sized_item {i} {k} m w e eu l t h =
    record {
      item = i ++ (m ++ take k w);
      content = take k w;
      cut = e ∙ ap (λ (x : List ℕ). i ++ x) eu ∙ sym (whole i m (take k w) (drop k w) ∙ ap (λ (x : List ℕ). i ++ (m ++ x)) (take-append-drop k w));
      framed = sized m (rw (length-take-le k w t) l) refl;
      has = h;
    }

in_frame : {i : List ℕ} {C : List ℕ → Type 0} {s r : List ℕ} → Item Definite i C s r → Item Constructed i C s r
in_frame x = record { item = x.item; content = x.content; cut = x.cut; framed = in_size x.framed; has = x.has }

contents_sound : (l : ℕ) (i s u : List ℕ) (z : Size) (w : List ℕ) → s ≡ i ++ u → Shape u z w → Holds (λ c r. Item Definite i (λ x. x ≡ c) s r) (contents l z w)
unfolding contents
contents_sound p i s u (definite k) w e (is_definite m eu l t) = yields (sized_item m w e eu l t refl)
contents_sound l i s u indefinite w e (is_indefinite eu) = refuses

pub primitive_sound : (i s : List ℕ) → Holds (λ c r. Item Definite i (λ x. x ≡ c) s r) (read_primitive i s)
unfolding read_primitive
primitive_sound i s = then_holds (header_sound i s) (λ z w (u, e, h). contents_sound _ i s u z w e h)

-- what a reader of contents is to do: it takes contents that have C, and their end
pub record Body {A : Type 0} (C : A → List ℕ → Type 0) (mode : Mode) (s : List ℕ) (v : A) (r : List ℕ) : Type 0 where
  pub content : List ℕ
  pub tail : List ℕ
  pub cut : s ≡ content ++ tail
  pub ends : Ends mode tail r
  pub has : C v content

module _ {A : Type 0} (C : A → List ℕ → Type 0) (body : Mode → List ℕ → Answer ReadingCause A) (sound : (mode : Mode) (s : List ℕ) → Holds (Body C mode s) (body mode s)) where
  at_size : {v : A} {s r : List ℕ} → Body C closed s v r → C v s
  at_size {v} b = rw (b.cut, ends_closed b.ends, append-nil) b.has

  inside_sound : (i s u : List ℕ) (z : Size) (w : List ℕ) → s ≡ i ++ u → Shape u z w → Holds (λ v r. Item Constructed i (C v) s r) (inside body z w)
  unfolding inside
  inside_sound i s u (definite k) w e (is_definite m eu l t) =
      then_holds (behind_holds _ (sound closed (take k w))) (λ v r b. yields (in_frame (sized_item m w e eu l t (at_size b))))
  inside_sound i s u indefinite w e (is_indefinite eu) =
      map_holds (sound open_ended w) (λ v r b.
      record {
        item = i ++ (128 ∷ (b.content ++ (0 ∷ 0 ∷ [])));
        content = b.content;
        cut = e ∙ ap (λ (x : List ℕ). i ++ x) (eu ∙ ap (λ (x : List ℕ). 128 ∷ x) (b.cut ∙ ap (λ (x : List ℕ). b.content ++ x) (ends_open b.ends))) ∙ sym (whole_indefinite i b.content r);
        framed = in_marks refl;
        has = b.has;
      })

  pub constructed_sound : (i s : List ℕ) → Holds (λ v r. Item Constructed i (C v) s r) (read_constructed i body s)
  unfolding read_constructed
  constructed_sound i s = then_holds (header_sound i s) (λ z w (u, e, h). inside_sound i s u z w e h)

-- in octets that a length can count
abbrev pub Short : List ℕ → Type 0
Short m = length m < 256 ^ longest_field

pub item_content : (i c : List ℕ) → Short (item i c) → Short c
unfolding item
item_content i c h = let k = simp length-append at h in omega arith

-- what is written may be sent
pub item_definite : (i c : List ℕ) → Short (item i c) → Definite i c (item i c)
unfolding item
item_definite i c h = sized (length_octets (length c)) (length_octets_lem (length c) (item_content i c h)) refl
