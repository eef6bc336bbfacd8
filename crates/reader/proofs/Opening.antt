-- The explicit tags of a record, opened from the outermost in.
-- Assumes nothing.
use borrow.Author.Tests.{eq-eqb, ne_eqb, eqb-true, ltb-true, ltb-false}
use lib.Dec.{eqb, ltb}
use lib.ListN.{length, get_or, take, drop, set, length-take, length-drop, length-map, length-append, get_or-eq_default}
use lib.Seq.{get_or-take, get_or-drop, take-length, take-take, take-suc-set, length-take-le, take-add, drop-drop, drop-length, drop-append_seam}
use mathlib.Core.Bool.{Bool, true, false, not, ◌&&◌, true≢false, false≢true}
use mathlib.Core.List.{List, [], ◌∷◌, ◌++◌, map, append-nil}
use mathlib.Core.Logic.{◌⊎◌, inl, inr}
use mathlib.Core.Option.{Option, some, none}
use mathlib.Core.Path.{◌≡◌, refl, sym, ap, subst, ◌∙◌}
use native.Mathlib.Numerals.{add-one}
use native.Mathlib.Omega.{arith}
use Prim.Native.Nat.{ℕ, zero, suc, ◌+◌, ◌-◌, ◌/◌, ◌%◌, ◌≤◌, ◌<◌}
use Rattle.std.specs.Prelude.{Result, Ok, Err}
use Rattle.x690.specs.declared.ReadingCause.{ReadingCause}
use Rattle.x690.specs.declared.ReadingCause.TheVariants.{Cut, Forbidden, NotAwaited}
use Rattle.octets.specs.Answer.{Answer, got, refused, then, if, behind, none_left}
use Rattle.octets.specs.Lists.{same}
use Rattle.octets.specs.Numbers.{Octets}
use Rattle.octets.proofs.Tests.{test, or_false}
use Rattle.ber.specs.Codes.{code_of}
use Rattle.x690.specs.Reading.{Mode, closed, open_ended, passes, read_identifier, read_length, read_header, inside, read_constructed, read_primitive, at_end}
use Rattle.x690.specs.Segments.{Kind, in_parts, in_either, heads, read_carried}
use Rattle.ber.specs.Told.{told_length, mode}
use Rattle.ber.specs.declared.length.Extent.{Extent}
use Rattle.ber.proofs.Told.{length_definite, length_indefinite, length_refused}
use Rattle.table.specs.Syntax.{Tag, Body, Plain, Sequence, Set, SequenceOf, SetOf, Choice, Record, Table, is_choice}
use Rattle.table.specs.Reading.{table_in}
use Rattle.records.specs.Entries.{all_but_last, first_code, explicit_count}
use Rattle.records.specs.Descriptors.{described}
use Rattle.records.specs.declared.descriptor.Descriptor.{Descriptor}
use Rattle.coding.specs.Content.{segmented}
use Rattle.coding.specs.Tags.{identifier_of, before, explicit_tags, own_tag, explicit}
use Rattle.coding.specs.Value.{Value}
use Rattle.coding.specs.Reading.{read_wrapped, read_kind}
use Rattle.reader.specs.Answers.{unread}
use Rattle.reader.specs.Codes.{own_either, either_at, either as first_either}
use Rattle.reader.specs.Records.{record_in, IsRecord, read_record}
use Rattle.reader.specs.Wraps.{ended, shut, closing, note_of, Around, identifiers, Headed, read_bare, sent_as, AwaitsTag, behind_last, is_tag, no_tag}
use Rattle.reader.specs.Wraps.{must_go_on, EntersTag, goes_on, is_over, Opens}
use Rattle.reader.proofs.Starts.{and_true, and_false, coded_one}
use Rattle.reader.proofs.Begun.{Fit}
use Rattle.reader.proofs.Tagging.{first_code_lem, own_at, own_low, count_identifiers, same_at, its_entry, its_record, its_fit}
use Rattle.reader.proofs.Wrapping.{closing_last, around_more, closing_refused, note_half, note_mark}
use Rattle.checker.proofs.Ready.{Ready}

-- octets of a part
pub octets_drop : (m : List ℕ) → Octets m → (n : ℕ) → Octets (drop n m)
octets_drop m o n i = rw (get_or-drop n m i 0) (o (n + i))

pub octets_take : (m : List ℕ) → Octets m → (e : ℕ) → Octets (take e m)
octets_take m o e i =
    test (ltb i e)
    (λ t. rw (get_or-take e m i 0 (ltb-true i e t)) (o i))
    λ t. let k : length (take e m) ≤ i = omega (arith, length-take e m, ltb-false i e t) in rw (get_or-eq_default (take e m) 0 k) (omega arith)

pub part_is : (start size : ℕ) (m : List ℕ) → start + size ≤ length m → drop start (take (start + size) m) ≡ take size (drop start m)
part_is start size m h =
    let l : length (take start m) ≡ start = length-take-le start m (omega arith) in
    rw (take-add start size m) (rw l at (drop-append_seam (take start m) (take size (drop start m))))

pub slice_is : (start end : ℕ) (m : List ℕ) → start ≤ end → end ≤ length m → take (end - start) (drop start m) ≡ drop start (take end m)
slice_is start end m h k = let q : start + (end - start) ≡ end = omega arith in let w = part_is start (end - start) m (omega arith) in sym w ∙ rw q refl

-- lists of identifiers
front_at : (a c : List (List ℕ)) (j : ℕ) → j < length a → get_or (a ++ c) j [] ≡ get_or a j []
front_at [] c j l = absurd (omega arith)
front_at (x ∷ a) c zero l = refl
front_at (x ∷ a) c (suc j) l = front_at a c j (omega arith)

drop_at : (a : List (List ℕ)) (j : ℕ) → j < length a → drop j a ≡ get_or a j [] ∷ drop (suc j) a
drop_at [] j l = absurd (omega arith)
drop_at (x ∷ a) zero l = refl
drop_at (x ∷ a) (suc j) l = drop_at a j (omega arith)

-- how many are explicit
before_length : (g : Tag) (gs : List Tag) → length (before (g ∷ gs)) ≡ length gs
unfolding before
before_length g [] = refl
before_length g (h ∷ gs) = ap suc (before_length h gs)

but_one : (g : Tag) (gs : List Tag)
    → length (map (identifier_of true) (before (g ∷ gs))) ≡ all_but_last (suc (length gs))
unfolding if
but_one g gs =
    length-map (before (g ∷ gs)) (identifier_of true) ∙ before_length g gs ∙ rw (ne_eqb (suc (length gs)) 0 (λ z. omega arith)) (omega arith)

count_of : (gs : List Tag) (y : Body) → (gs ≡ [] → is_choice y ≡ true)
    → length (explicit (record { tags = gs; body = y })) ≡ explicit_count (record { tags = gs; body = y })
unfolding explicit explicit_tags is_choice explicit_count if
count_of gs (Choice ts) t = length-map gs (identifier_of true)
count_of [] (Plain k) t = absurd (false≢true (t refl))
count_of [] (Sequence ms) t = absurd (false≢true (t refl))
count_of [] (Set ms) t = absurd (false≢true (t refl))
count_of [] (SequenceOf u) t = absurd (false≢true (t refl))
count_of [] (SetOf u) t = absurd (false≢true (t refl))
count_of (g ∷ gs) (Plain k) t = but_one g gs
count_of (g ∷ gs) (Sequence ms) t = but_one g gs
count_of (g ∷ gs) (Set ms) t = but_one g gs
count_of (g ∷ gs) (SequenceOf u) t = but_one g gs
count_of (g ∷ gs) (SetOf u) t = but_one g gs

-- which may have either bit 6: none that is explicit
module _ (r : Record) (F : Fit r) where
  explicit_count_lem : explicit_count r ≡ length (explicit r)
  explicit_count_lem = sym (count_of r.tags r.body F.tagged)

  either_before : (j : ℕ) → j < length (explicit r) → either_at r j ≡ false
  unfolding either_at
  either_before j l = rw (ne_eqb (explicit_count r) j (λ z. omega (arith, explicit_count_lem, z))) (and_false (own_either r.body))

  pub either_own : (j : ℕ) → j ≡ length (explicit r) → either_at r j ≡ own_either r.body
  unfolding either_at
  either_own j q = rw (eq-eqb (explicit_count r) j (explicit_count_lem ∙ sym q)) (and_true (own_either r.body))

-- contents of a tag: they go on, or they are refused, whatever comes then
clash : {A : Type 0} (a : A) (s : List ℕ) (c : ReadingCause) (l : ℕ) → ◌≡◌ {A = Answer ReadingCause A} (got a s) (refused c l) → ⊥
clash a s c l e = let z : ◌≡◌ {A = ℕ} 0 1 = cc in omega arith

module _ (A B : Type 0) (s : List ℕ) (l : ℕ) where
  abbrev Goes : Mode → Type 0
  Goes k =
      ((x : Unit {0} → Answer ReadingCause A) → at_end k s (λ _. refused NotAwaited l) x ≡ x tt)
      × ((y : Unit {0} → Answer ReadingCause B) → at_end k s (λ _. refused NotAwaited l) y ≡ y tt)

  abbrev Stops : Mode → Type 0
  Stops k =
      (c : ReadingCause) × (n : ℕ) × ((x : Unit {0} → Answer ReadingCause A) → at_end k s (λ _. refused NotAwaited l) x ≡ refused c n)
      × ((y : Unit {0} → Answer ReadingCause B) → at_end k s (λ _. refused NotAwaited l) y ≡ refused c n)

  either : (k : Mode) → Goes k ⊎ Stops k
  unfolding at_end if
  either closed = test (none_left s) (λ a. inr (NotAwaited, l, (λ x. rw a refl), λ y. rw a refl)) λ a. inl ((λ x. rw a refl), λ y. rw a refl)
  either open_ended =
      test (none_left s) (λ a. inr (Cut, 0, (λ x. rw a refl), λ y. rw a refl)) λ a.
      test (eqb (get_or s 0 0) 0)
      (λ d.
      test (none_left (drop 1 s)) (λ f. inr (Cut, length s, (λ x. rw (a, d, f) refl), λ y. rw (a, d, f) refl)) λ f.
      test (eqb (get_or s 1 0) 0) (λ g. inr (NotAwaited, l, (λ x. rw (a, d, f, g) refl), λ y. rw (a, d, f, g) refl))
      λ g. inr (Forbidden, length s, (λ x. rw (a, d, f, g) refl), λ y. rw (a, d, f, g) refl))
      λ d. inl ((λ x. rw (a, d) refl), λ y. rw (a, d) refl)

going : {B : Type 0} (k : Mode) (s u : List ℕ) (l : ℕ) → at_end k s (λ _. refused NotAwaited l) (λ _. got u s) ≡ got u s → (y : Unit {0} → Answer ReadingCause B)
    → at_end k s (λ _. refused NotAwaited l) y ≡ y tt
going {B} k s u l e y = go (either (List ℕ) B s l k)
  where
    go : Goes (List ℕ) B s l k ⊎ Stops (List ℕ) B s l k → at_end k s (λ _. refused NotAwaited l) y ≡ y tt
    go (inl h) = h.1 y
    go (inr h) = absurd (clash u s h.0 h.1 (sym e ∙ h.2 (λ _. got u s)))

stopping : {B : Type 0} (k : Mode) (s u : List ℕ) (l : ℕ) (c : ReadingCause) (n : ℕ)
    → at_end k s (λ _. refused NotAwaited l) (λ _. got u s) ≡ refused c n → (y : Unit {0} → Answer ReadingCause B)
    → at_end k s (λ _. refused NotAwaited l) y ≡ refused c n
stopping {B} k s u l c n e y = go (either (List ℕ) B s l k)
  where
    same_refusal : (a : ReadingCause) (b : ℕ) (p : ReadingCause) (q : ℕ) → ◌≡◌ {A = Answer ReadingCause (List ℕ)} (refused a b) (refused p q) → ◌≡◌ {A = Answer ReadingCause B} (refused a b) (refused p q)
    same_refusal a b p q z = let v : a ≡ p = cc in let w : b ≡ q = cc in rw (v, w) refl

    go : Goes (List ℕ) B s l k ⊎ Stops (List ℕ) B s l k → at_end k s (λ _. refused NotAwaited l) y ≡ refused c n
    go (inl h) = absurd (clash u s c n (sym (h.0 (λ _. got u s)) ∙ e))
    go (inr h) = h.3 y ∙ same_refusal h.0 h.1 c n (sym (h.2 (λ _. got u s)) ∙ e)

-- the tag's item, where y is what was read of its contents
unfoldable sealed : {A : Type 0} → List ℕ → ℕ → ℕ → Bool → Answer ReadingCause A → Answer ReadingCause A
sealed m outer inner true y = y
sealed m outer inner false y = then (behind (outer - inner) y) λ v r. got v (drop inner (take outer m))

sealed_shut : {A : Type 0} (m : List ℕ) (outer inner : ℕ) (k : Bool) (x : Answer ReadingCause A) → sealed m outer inner k (ended (mode k) x) ≡ shut m outer inner k x
unfolding sealed shut
sealed_shut m outer inner true x = refl
sealed_shut m outer inner false x = refl

sealed_refused : {A : Type 0} (m : List ℕ) (outer inner : ℕ) (k : Bool) (c : ReadingCause) (l : ℕ) → (k ≡ true → inner ≡ outer)
    → sealed {A = A} m outer inner k (refused c l) ≡ refused c (l + (outer - inner))
unfolding sealed then behind
sealed_refused m outer inner true c l o = let q : l ≡ l + (outer - inner) = omega (arith, o refl) in ap (refused c) q
sealed_refused m outer inner false c l o = refl

-- a string whose header is refused, in whole or in segments
carried_refused : (k : Option Kind) (o s : List ℕ) (c : ReadingCause) (l : ℕ) → (in_either k && heads (in_parts o) s) ≡ false → read_header o s ≡ refused c l
    → read_carried k o s ≡ refused c l
unfolding read_carried read_primitive then if
carried_refused none o s c l p e = rw e refl
carried_refused (some k) o s c l p e = rw (p, e) refl

parts_refused : (k : Option Kind) (o s : List ℕ) (c : ReadingCause) (l : ℕ) → (in_either k && heads (in_parts o) s) ≡ true → read_header (in_parts o) s ≡ refused c l
    → read_carried k o s ≡ refused c l
unfolding read_carried read_constructed then if
parts_refused none o s c l p e = absurd (false≢true p)
parts_refused (some k) o s c l p e = rw (p, e) refl

-- an item whose header is refused
pub item_refused : (T : Table) (f : ℕ → List ℕ → Answer ReadingCause Value) (o : List ℕ) (y : Body) (s : List ℕ) (c : ReadingCause) (l : ℕ)
    → is_choice y ≡ false → (own_either y && heads (in_parts o) s) ≡ false → read_header o s ≡ refused c l → read_kind T f o y s ≡ refused c l
unfolding read_kind read_constructed then is_choice own_either
item_refused T f o (Plain k) s c l n p e = rw (carried_refused (segmented k) o s c l p e) refl
item_refused T f o (Sequence ms) s c l n p e = rw e refl
item_refused T f o (Set ms) s c l n p e = rw e refl
item_refused T f o (SequenceOf u) s c l n p e = rw e refl
item_refused T f o (SetOf u) s c l n p e = rw e refl
item_refused T f o (Choice ts) s c l n p e = absurd (true≢false n)

pub item_in_parts : (T : Table) (f : ℕ → List ℕ → Answer ReadingCause Value) (o : List ℕ) (y : Body) (s : List ℕ) (c : ReadingCause) (l : ℕ)
    → (own_either y && heads (in_parts o) s) ≡ true → read_header (in_parts o) s ≡ refused c l → read_kind T f o y s ≡ refused c l
unfolding read_kind then own_either
item_in_parts T f o (Plain k) s c l p e = rw (parts_refused (segmented k) o s c l p e) refl
item_in_parts T f o (Sequence ms) s c l p e = absurd (false≢true p)
item_in_parts T f o (Set ms) s c l p e = absurd (false≢true p)
item_in_parts T f o (SequenceOf u) s c l p e = absurd (false≢true p)
item_in_parts T f o (SetOf u) s c l p e = absurd (false≢true p)
item_in_parts T f o (Choice ts) s c l p e = absurd (false≢true p)

wrapped_refused : {A : Type 0} (i : List ℕ) (is : List (List ℕ)) (r : List ℕ → Answer ReadingCause A) (s : List ℕ) (c : ReadingCause) (l : ℕ) → read_header i s ≡ refused c l
    → read_wrapped (i ∷ is) r s ≡ refused c l
unfolding read_wrapped read_constructed then
wrapped_refused i is r s c l e = rw e refl

header_none : (b : Bool) (i s : List ℕ) (c : ReadingCause)
    → then (read_identifier s) (λ j u. if (sent_as b i j) (got j u) λ _. refused NotAwaited (length s)) ≡ refused c (length s)
    → (read_header i s ≡ refused c (length s)) × ((b && heads (in_parts i) s) ≡ false)
unfolding read_header then if passes
header_none b i s c e = go (read_identifier s) e
  where
    go : (x : Answer ReadingCause (List ℕ)) → then x (λ j u. if (sent_as b i j) (got j u) λ _. refused NotAwaited (length s)) ≡ refused c (length s)
        → (then x (λ j u. if (not (same i j)) (refused NotAwaited (length s)) λ _. read_length (length s) u) ≡ refused c (length s))
        × ((b && passes (same (in_parts i)) x) ≡ false)
    go (got j u) e =
        test (sent_as b i j)
        (λ t. absurd (clash j u c (length s) (rw t at e)))
        λ t.
        let k = rw t at e in
        let v : NotAwaited ≡ c = cc in
        let (p, q) = or_false (same i j) (b && same (in_parts i) j) t in
        (rw (p, v) refl, q)
    go (refused a n) e = let v : a ≡ c = cc in let w : n ≡ length s = cc in (rw (v, w) refl, and_false b)

-- the tags that are opened: j notes are made, and what is read next stands from `at` to `end`, with its identifier up to `from`
pub record Opening (b : List ℕ) (r : Record) (m : List ℕ) (first : ℕ) (notes : List ℕ) (at from end j : ℕ) : Type 0 where
  pub within : j ≤ length (explicit r)
  pub low : first ≤ at
  pub later : 0 < j → first < at
  pub some : at < end
  pub high : end ≤ length m
  pub around : Around (length m) (take j notes) end
  pub headed : j < length (identifiers r) → Headed (take end m) at from (either_at r j) (code_of (get_or (identifiers r) j []))
  pub whole : (n : ℕ)
      → read_record (table_in b) n r (drop first m) ≡ closing m (take j notes) end (read_wrapped (drop j (explicit r)) (read_bare b n r) (drop at (take end m)))

module _ (b : List ℕ) (r : Record) (F : Fit r) (m : List ℕ) (om : Octets m) (first : ℕ) where
  abbrev Ids : List (List ℕ)
  Ids = identifiers r

  abbrev Count : ℕ
  Count = length (explicit r)

  more_ids : Count ≤ length Ids
  more_ids = omega (arith, length-append (explicit r) (if (is_choice r.body) [] λ _. own_tag r ∷ []))

  id_explicit : (j : ℕ) → j < Count → get_or Ids j [] ≡ get_or (explicit r) j []
  id_explicit j l = front_at (explicit r) _ j l

  wraps_at : (j : ℕ) → j < Count → drop j (explicit r) ≡ get_or Ids j [] ∷ drop (suc j) (explicit r)
  wraps_at j l = drop_at (explicit r) j l ∙ ap (λ (z : List ℕ). z ∷ drop (suc j) (explicit r)) (sym (id_explicit j l))

  is_last : Count < length Ids → is_choice r.body ≡ false
  unfolding if
  is_last l = test (is_choice r.body) (λ t. absurd (short (is_choice r.body) t l)) λ t. t
    where
      short : (t : Bool) → t ≡ true → Count < length (explicit r ++ if t [] λ _. own_tag r ∷ []) → ⊥
      short true t l = let q = ap length (append-nil (explicit r)) in omega (arith, q)
      short false t l = false≢true t

  pub open_none : (notes : List ℕ) (from : ℕ) → 0 < Count → Headed m first from (first_either r) (first_code r) → Opening b r m first notes first from (length m) 0
  unfolding Around closing read_record
  open_none notes from l h =
      let k : 0 < length r.tags = omega (arith, more_ids, count_identifiers r F) in
      let c : code_of (get_or Ids 0 []) ≡ first_code r = first_code_lem r F k in
      record {
        within = omega arith;
        low = omega arith;
        later = λ z. absurd (omega arith);
        some = omega (arith, h.further, h.low);
        high = omega arith;
        around = refl;
        headed = λ z. rw (take-length m, c) h;
        whole = λ n. rw (take-length m) refl;
      }

  module _ (notes : List ℕ) (at from end j : ℕ) (S : Opening b r m first notes at from end j) where
    pub open_done : (count : ℕ) → count ≡ Count → 0 < Count → count ≤ j
        → Opens b r m first (take count notes) (Ok (record { at = at; from = from; end = end }))
    unfolding read_wrapped if
    open_done count ec l k =
        let q : j ≡ Count = omega (arith, S.within) in
        let v : count ≡ j = ec ∙ sym q in
        rw v (
          S.later (omega arith),
          S.some,
          S.high,
          S.around,
          (λ n.
              let w : get_or Ids j [] ≡ own_tag r = ap (λ (i : ℕ). get_or Ids i []) q ∙ own_at r n in
              let y = own_low r F n in let u : j < length Ids = omega (arith, q, y, count_identifiers r F) in
              rw (← w, ← either_own r F j q) (S.headed u)),
          λ n.
              S.whole n
              ∙ ap (λ (z : List (List ℕ)). closing m (take j notes) end (read_wrapped z (read_bare b n r) (drop at (take end m))))
              (ap (λ (i : ℕ). drop i (explicit r)) q ∙ drop-length (explicit r)),
        )

    module _ (l : j < Count) where
      abbrev P : List ℕ
      P = take end m

      abbrev Id : List ℕ
      Id = get_or Ids j []

      abbrev Rest : List (List ℕ)
      Rest = drop (suc j) (explicit r)

      size_part : length P ≡ end
      size_part = length-take-le end m S.high

      left_part : length (drop at P) ≡ end - at
      left_part = length-drop at P ∙ ap (λ (i : ℕ). i - at) size_part

      head : Headed P at from (either_at r j) (code_of Id)
      head = S.headed (omega (arith, more_ids))

      header_is : read_header Id (drop at P) ≡ read_length (length (drop at P)) (drop from P)
      unfolding read_header then if
      header_is =
          let k : j < length r.tags = omega (arith, more_ids, count_identifiers r F) in
          let o = octets_drop P (octets_take m om end) at in
          let c = sym (coded_one (code_of Id) (code_of head.identifier)) ∙ rw (either_before r F j l) at head.coded in
          let y = same_at r F j k (drop at P) head.identifier (drop from P) o head.is
          ∙ eq-eqb (code_of head.identifier) (code_of Id) (sym (eqb-true (code_of Id) (code_of head.identifier) c)) in
          rw (head.is, y) refl

      under : (n : ℕ) → read_record (table_in b) n r (drop first m) ≡ closing m (take j notes) end (read_wrapped (Id ∷ Rest) (read_bare b n r) (drop at P))
      under n = S.whole n ∙ ap (λ (z : List (List ℕ)). closing m (take j notes) end (read_wrapped z (read_bare b n r) (drop at P))) (wraps_at j l)

      refused_all : (c : ReadingCause) (k n₁ : ℕ) (ns : List ℕ) → ((n : ℕ) → read_wrapped (Id ∷ Rest) (read_bare b n r) (drop at P) ≡ refused c k)
          → k + (length m - end) ≡ n₁ → n₁ ≤ length m → Opens b r m first ns (unread c n₁)
      refused_all c k n₁ ns e q h =
          (h, λ n. under n ∙ ap (closing m (take j notes) end) (e n) ∙ closing_refused m (length m) (take j notes) end c k S.around ∙ ap (refused c) q)

      module _ (z : Result Extent ReadingCause) (az : (k : ℕ) → z ≡ told_length (length P) (read_length k (drop from P))) where
        pub open_unread : (c : ReadingCause) → z ≡ Err c → (ns : List ℕ)
            → Opens b r m first ns (unread c (length m - at))
        open_unread c q ns =
            let k = length (drop at P) in
            let y = header_is ∙ length_refused P from k z (az k) c q in
            refused_all c k (length m - at) ns (λ n. wrapped_refused Id Rest (read_bare b n r) (drop at P) c k y)
            (omega (arith, left_part, S.some, S.high)) (omega arith)

        module _ (x : Extent) (q : z ≡ Ok x) where
          abbrev K : ℕ
          K = length (drop at P)

          pub extent : (at < x.start) × (x.start ≤ x.end) × (x.end ≤ end) × (x.indefinite ≡ true → x.end ≡ end)
          extent =
              test x.indefinite
              (λ t.
              let y = length_indefinite P from K z (az K) x q t in
              (omega (arith, y.1, head.further), omega (arith, y.2, y.3), omega (arith, y.3, size_part), λ _. y.3 ∙ size_part))
              λ t. let y = length_definite P from K z (az K) x q t in
              (omega (arith, y.1, head.further), y.2, omega (arith, y.3, size_part), λ v. absurd (true≢false (sym v ∙ t)))

          abbrev pub U : List ℕ
          U = drop x.start (take x.end m)

          size_inside : length U ≡ x.end - x.start
          size_inside = length-drop x.start (take x.end m) ∙ ap (λ (i : ℕ). i - x.start) (length-take-le x.end m (omega (arith, extent.2, S.high)))

          abbrev Contents : Answer ReadingCause Value → Answer ReadingCause Value
          Contents y = at_end (mode x.indefinite) U (λ _. refused NotAwaited (length U)) λ _. ended (mode x.indefinite) y

          tag_inside : (f : List ℕ → Answer ReadingCause Value) → read_wrapped (Id ∷ Rest) f (drop at P) ≡ sealed m end x.end x.indefinite (Contents (read_wrapped Rest f U))
          unfolding read_wrapped read_constructed then inside sealed ended
          tag_inside f =
              test x.indefinite
              (λ t.
              let y = length_indefinite P from K z (az K) x q t in
              let v : x.end ≡ end = y.3 ∙ size_part in
              rw (header_is, y.0, t, v) refl)
              λ t.
              let y = length_definite P from K z (az K) x q t in
              let a : length (drop x.start P) - (x.end - x.start) ≡ end - x.end = omega (arith, length-drop x.start P, size_part, y.2, y.3) in
              let d : take (x.end - x.start) (drop x.start P) ≡ U
              = slice_is x.start x.end P y.2 y.3 ∙ ap (drop x.start) (take-take x.end end m (omega (arith, y.3, size_part))) in
              let g : x.start + (x.end - x.start) ≡ x.end = omega (arith, y.2) in
              let h : drop (x.end - x.start) (drop x.start P) ≡ drop x.end P = drop-drop (x.end - x.start) x.start P ∙ ap (λ (i : ℕ). drop i P) g in
              rw (header_is, y.0, t, a, d, h) refl

          -- the identifier that is awaited next
          rest_refused : (c : ReadingCause) → AwaitsTag r (suc j) U (Err c) → (n : ℕ) → read_wrapped Rest (read_bare b n r) U ≡ refused c (length U)
          unfolding read_wrapped
          rest_refused c (no_tag w e) n =
              test (ltb (suc j) Count)
              (λ t.
              let k = ltb-true (suc j) Count t in
              ap (λ (y : List (List ℕ)). read_wrapped y (read_bare b n r) U) (wraps_at (suc j) k)
              ∙ wrapped_refused (get_or Ids (suc j) []) (drop (suc (suc j)) (explicit r)) (read_bare b n r) U c (length U)
              (header_none (either_at r (suc j)) (get_or Ids (suc j) []) U c e).0)
              λ t.
              let k : suc j ≡ Count = omega (arith, ltb-false (suc j) Count t) in
              let v = is_last (omega (arith, w, k)) in
              let u : get_or Ids (suc j) [] ≡ own_tag r = ap (λ (i : ℕ). get_or Ids i []) k ∙ own_at r v in
              let (y, p) = header_none (own_either r.body) (own_tag r) U c (rw (u, either_own r F (suc j) k) at e) in
              ap (λ (a : List (List ℕ)). read_wrapped a (read_bare b n r) U) (ap (λ (i : ℕ). drop i (explicit r)) k ∙ drop-length (explicit r))
              ∙ item_refused (table_in b) _ (own_tag r) r.body U c (length U) v p y

          no_entry : (c : ReadingCause) → EntersTag r (suc j) U x.indefinite (Err c) → (n : ℕ)
              → Contents (read_wrapped Rest (read_bare b n r) U) ≡ refused c (length U)
          unfolding ended then
          no_entry c (goes_on g h a) n =
              going (mode x.indefinite) U [] (length U) g (λ _. ended (mode x.indefinite) (read_wrapped Rest (read_bare b n r) U)) ∙ rw (rest_refused c a n) refl
          no_entry c (is_over h) n =
              stopping (mode x.indefinite) U [] (length U) c (length U) h (λ _. ended (mode x.indefinite) (read_wrapped Rest (read_bare b n r) U))

          entry : (next : ℕ) → EntersTag r (suc j) U x.indefinite (Ok next)
              → (must_go_on x.indefinite U ≡ got [] U) × (0 < length U) × AwaitsTag r (suc j) U (Ok next)
          entry next (goes_on g h a) = (g, h, a)

          next_head : (next : ℕ) → AwaitsTag r (suc j) U (Ok next)
              → (suc j < length Ids → Headed U 0 next (either_at r (suc j)) (code_of (get_or Ids (suc j) []))) × (next ≤ length U)
          next_head next (behind_last k) = ((λ v. absurd (omega arith)), omega arith)
          next_head next (is_tag e v h) = ((λ _. h), h.low)

          module _ (y : Result ℕ ReadingCause) (E : EntersTag r (j + 1) (take (x.end - x.start) (drop x.start m)) x.indefinite y) where
            its : (u : Result ℕ ReadingCause) → y ≡ u → EntersTag r (suc j) U x.indefinite u
            its u e =
                let q = add-one j in
                let ep = slice_is x.start x.end m extent.1 (omega (arith, extent.2, S.high)) in
                rw (q, ep, e) at E

            pub open_refused : (c : ReadingCause) → y ≡ Err c → (ns : List ℕ) → Opens b r m first ns (unread c (length m - x.start))
            open_refused c e ns =
                let k = length U + (end - x.end) in
                refused_all c k (length m - x.start) ns
                (λ n. tag_inside (read_bare b n r) ∙ ap (sealed m end x.end x.indefinite) (no_entry c (its (Err c) e) n)
                ∙ sealed_refused m end x.end x.indefinite c (length U) extent.3)
                (omega (arith, size_inside, extent.1, extent.2, S.high)) (omega arith)

            module _ (next : ℕ) (e : y ≡ Ok next) where
              pub open_next : next ≤ length m
              open_next = let q = (next_head next (entry next (its (Ok next) e)).2).1 in omega (arith, q, size_inside, extent.2, S.high)

              pub open_turn : (note : ℕ) → note ≡ note_of end x.indefinite → j < length notes
                  → Opening b r m first (set notes j note) x.start (x.start + next) x.end (j + 1)
              open_turn note en g =
                  let (a, s, w) = entry next (its (Ok next) e) in
                  let (h, k) = next_head next w in
                  let half : note / 2 ≡ end = ap (λ (i : ℕ). i / 2) en ∙ note_half end x.indefinite in
                  let mark : eqb (note % 2) 1 ≡ x.indefinite = ap (λ (i : ℕ). eqb (i % 2) 1) en ∙ note_mark end x.indefinite in
                  let made : take (j + 1) (set notes j note) ≡ take j notes ++ (note ∷ [])
                  = ap (λ (i : ℕ). take i (set notes j note)) (add-one j) ∙ take-suc-set notes j note g in
                  let fit_end : length (take x.end m) ≡ x.end = length-take-le x.end m (omega (arith, extent.2, S.high)) in
                  let one = add-one j in
                  record {
                    within = omega arith;
                    low = omega (arith, S.low, extent.0);
                    later = λ _. omega (arith, S.low, extent.0);
                    some = omega (arith, s, size_inside);
                    high = omega (arith, extent.2, S.high);
                    around = rw made
                        (around_more (length m) (take j notes) note x.end (rw half S.around)
                        (omega (arith, half, extent.2)) (λ v. extent.3 (sym mark ∙ eq-eqb (note % 2) 1 v) ∙ sym half));
                    headed = λ v.
                        let f = h (omega arith) in
                        rw one
                        (record {
                          identifier = f.identifier;
                          is = f.is ∙ ap (got f.identifier) (drop-drop next x.start (take x.end m));
                          coded = f.coded;
                          further = omega (arith, f.further);
                          low = omega (arith, k, size_inside, fit_end, extent.1);
                        });
                    whole = λ n.
                        under n
                        ∙ ap (closing m (take j notes) end)
                        (tag_inside (read_bare b n r)
                        ∙ ap (sealed m end x.end x.indefinite)
                        (going (mode x.indefinite) U [] (length U) a (λ _. ended (mode x.indefinite) (read_wrapped Rest (read_bare b n r) U)))
                        ∙ sealed_shut m end x.end x.indefinite (read_wrapped Rest (read_bare b n r) U))
                        ∙ rw (one, rw one at made, closing_last m (take j notes) note x.end, half, mark) refl;
                  }

-- of the record of an entry
module _ {b index : List ℕ} (R : Ready b index) {w : ℕ} (I : IsRecord b index w) where
  pub its_count : (described w).explicit ≡ length (explicit (record_in b (described w)))
  its_count =
      let t = record_in b (described w) in
      (its_entry R I).entered.explicit ∙ ap explicit_count (sym (its_record R I)) ∙ sym (count_of t.tags t.body (its_fit R I).tagged)

  -- a tag is left to open
  pub tag_left : {e : Descriptor} {j : ℕ} → e ≡ described w → j < e.explicit → j < length (explicit (record_in b (described w)))
  tag_left {e} {j} q l = omega (arith, its_count, ap (λ (x : Descriptor). x.explicit) q)

  pub its_first : (described w).code ≡ first_code (record_in b (described w))
  its_first = (its_entry R I).entered.code ∙ ap (λ (x : Record). first_code x) (sym (its_record R I))

  pub its_headed : {m : List ℕ} {at from : ℕ} {either : Bool} → Headed m at from either (described w).code
      → Headed m at from either (first_code (record_in b (described w)))
  its_headed {m} {at} {from} {either} h = subst (λ (c : ℕ). Headed m at from either c) its_first h

  pub its_few : length (explicit (record_in b (described w))) ≤ 4
  its_few =
      let t = record_in b (described w) in
      omega (arith, more_few t, count_identifiers t (its_fit R I), ap (λ (x : Record). length x.tags) (its_record R I), (its_entry R I).entered.few)
    where
      more_few : (t : Record) → length (explicit t) ≤ length (identifiers t)
      more_few t = omega (arith, length-append (explicit t) (if (is_choice t.body) [] λ _. own_tag t ∷ []))
