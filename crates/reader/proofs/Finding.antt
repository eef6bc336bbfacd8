-- What the search for the part that an item begins answers.
-- Assumes nothing.
use lib.ListN.{length, get_or, drop}
use lib.Seq.{drop-drop}
use mathlib.Core.Bool.{true, false}
use mathlib.Core.List.{List, ◌∷◌}
use mathlib.Core.Option.{Option, some, none}
use mathlib.Core.Path.{◌≡◌, refl, sym, ap, ◌∙◌}
use native.Mathlib.Omega.{arith}
use Prim.Native.Nat.{ℕ, suc, ◌+◌, ◌*◌, ◌≤◌, ◌<◌}
use Rattle.std.specs.Prelude.{Result, Ok, Err}
use Rattle.x690.specs.declared.ReadingCause.{ReadingCause}
use Rattle.x690.specs.declared.ReadingCause.TheVariants.{NotAwaited}
use Rattle.octets.specs.Answer.{got, refused, if, then}
use Rattle.octets.specs.Numbers.{Octets}
use Rattle.octets.proofs.Tests.{test}
use Rattle.ber.specs.Codes.{code_of}
use Rattle.x690.specs.Reading.{read_identifier}
use Rattle.ber.specs.Told.{told_identifier}
use Rattle.ber.specs.declared.identifier.Identifier.{Identifier}
use Rattle.ber.proofs.Codes.{read_code_small}
use Rattle.ber.proofs.Told.{identifier_read, identifier_refused}
use Rattle.table.specs.Syntax.{Member, Table}
use Rattle.table.specs.Reading.{table_in, count_in}
use Rattle.kinds.specs.Kinds.{octet_of}
use Rattle.records.specs.Descriptors.{described}
use Rattle.records.specs.declared.descriptor.Descriptor.{Descriptor}
use Rattle.records.specs.declared.entry.Span.{Span}
use Rattle.coding.specs.Reading.{passes, begun, not_awaited}
use Rattle.coding.proofs.FirstTags.{good}
use Rattle.reader.specs.Codes.{under, untagged, starts_with, peeked}
use Rattle.reader.specs.Items.{Holder, manner, parts_of, Placed, awaits, remains, is_single, first, next}
use Rattle.reader.specs.Records.{Known, of_record, of_message, holder_in, Finds}
use Rattle.reader.specs.Sought.{held, place_of, tabled_count, direct, unfit, unfit_cause, Indirect, Sought}
use Rattle.reader.specs.Ways.{here}
use Rattle.reader.specs.declared.search.Choice.{Choice as Chosen}
use Rattle.reader.proofs.Begun.{fit}
use Rattle.reader.proofs.Items.{found_of, awaits_found, first_none, first_passes}
use Rattle.reader.proofs.ItemsSearch.{GoodHolder, Tells, tells, search_itself, direct_next, indirect_next}
use Rattle.reader.proofs.Searching.{Parted, spanned, type_low, clear_turn}
use Rattle.reader.proofs.Spans.{PartAt, held_body, tabled_some}
use Rattle.checker.proofs.Ready.{Ready, described_in}

-- the refusal of an item that begins no part that is awaited
pub unfit_is : (h : Holder) (i : ℕ) (came s : List ℕ) (c : ReadingCause) → not_awaited {A = List ℕ} s ≡ refused c (length s)
    → unfit {A = List ℕ} h i came s ≡ refused ((unfit_cause h i came c)) (length s)
unfolding unfit unfit_cause if
unfit_is h i came s c e =
    test (is_single (manner h)) (λ q. rw q e) λ q.
    test (remains h i came) (λ y. rw (q, y) e) λ y. rw (q, y) refl

paired : (x : Placed) (p : ℕ) (k : Member) → p ≡ x.0 → x.1 ≡ k → x ≡ (p, k)
paired (q, j) p k d v = rw (d, v) refl

-- parts of one record begin otherwise
pub good_held : {b index : List ℕ} → Ready b index → (w : ℕ) → Known b index w → GoodHolder (table_in b) (held b w)
unfolding GoodHolder holder_in if
good_held {b} R w (of_record t h q) =
    let x = described_in R t h in
    rw (q, held_body x R.listed.short) (good b (table_in b) (count_in b) R.passes t).apart
good_held R w (of_message t h q) = rw q tt

module _ {b index : List ℕ} {w : ℕ} {came : List ℕ} {e : Descriptor} {s : Span} (D : Parted b index w came e s)
    (m : List ℕ) (o : Octets m) (y : Result Identifier ReadingCause) (ey : y ≡ told_identifier (length m) (read_identifier m)) (i : ℕ) (way : List ℕ) where
  abbrev H : Holder
  H = held b w

  abbrev T : Table
  T = table_in b

  -- no identifier
  module _ (f : ReadingCause) (q : y ≡ Err f) where
    none_read : read_identifier m ≡ refused f (length m)
    none_read = identifier_refused m y ey f q

    unread : not_awaited {A = List ℕ} m ≡ refused f (length m)
    unfolding not_awaited then
    unread = rw none_read refl

    none_begun : (x : Placed) → begun T x.1.type m ≡ false
    unfolding begun passes
    none_begun x = rw none_read refl

    pub sought_unread : (r : Result Chosen ReadingCause) → r ≡ Err (unfit_cause H i came f) → Sought b H i came m way r
    sought_unread r er =
        rw er (first_none (λ x. begun T x.1.type m) (awaits H i came) none_begun, unfit_is H i came m f unread)

  -- an identifier
  module _ (code end : ℕ) (q : y ≡ Ok (record { code = code; end = end })) where
    abbrev Is : (a : List ℕ) × (read_identifier m ≡ got a (drop end m)) × (code_of a ≡ code) × (0 < end) × (end ≤ length m)
    Is = identifier_read m y ey (record { code = code; end = end }) q

    pub code_small : code < untagged
    code_small = omega (arith, read_code_small m Is.0 (drop end m) o Is.1, Is.2)

    its_tells : Tells T m code
    unfolding peeked
    its_tells = rw (Is.1, Is.2) at (tells T (fit b T (count_in b) D.sound.ready.passes) m o)

    all_unawaited : not_awaited {A = List ℕ} m ≡ refused NotAwaited (length m)
    unfolding not_awaited then
    all_unawaited = rw Is.1 refl

    -- a part that begins with the code itself
    module _ (place : ℕ) (ep : place ≡ direct b H i came code) (l : place < s.count) where
      abbrev AtPlace : PartAt b H (octet_of (described w).kind) s place
      AtPlace = (spanned D).at place l

      first_part : (z : Option Placed) → first (λ x. starts_with (T x.1.type) code) (awaits H i came) ≡ z → place ≡ place_of (tabled_count H) z
          → first (λ x. starts_with (T x.1.type) code) (awaits H i came) ≡ some (place, AtPlace.part)
      first_part none a d = let k = (spanned D).count in absurd (omega arith)
      first_part (some x) a d =
          let F = found_of came i (drop i (parts_of H)) _ x (awaits_found H i came (λ x. starts_with (T x.1.type) code)) a in
          let n : i + F.offset ≡ place = omega (arith, F.place, d) in
          let u : drop place (parts_of H) ≡ x.1 ∷ drop (suc F.offset) (drop i (parts_of H)) = rw (← n) (sym (drop-drop F.offset i (parts_of H)) ∙ F.is) in
          let v : x.1 ≡ AtPlace.part = ap (λ (z : List Member). get_or z 0 x.1) (sym u ∙ AtPlace.is) in
          a ∙ ap (λ (z : Placed). some z) (paired x place AtPlace.part d v)

      its_first : first (λ x. starts_with (T x.1.type) code) (awaits H i came) ≡ some (place, AtPlace.part)
      its_first =
          let k = (tabled_some H (omega (arith, (spanned D).count))).1 i came in
          first_part _ refl (ep ∙ ap (λ (z : List Placed). place_of (tabled_count H) (first (λ x. starts_with (T x.1.type) code) z)) k)

      begins_itself : starts_with (T AtPlace.part.type) code ≡ true
      begins_itself = first_passes (λ x. starts_with (T x.1.type) code) (awaits H i came) (place, AtPlace.part) its_first

      its_way : Finds b code way AtPlace.part.type (under AtPlace.part.type 0)
      its_way =
          let t = AtPlace.part.type in
          (search_itself T m code its_tells t begins_itself, here, begins_itself, type_low D place l t (sym AtPlace.type))

      pub sought_direct : (t : ℕ) → t ≡ get_or b (s.first + s.step * place) 0
          → (part : Member) × (a : List ℕ) × (next T H i came m ≡ some (place, part)) × (read_identifier m ≡ got a (drop end m)) × (0 < end) × (end ≤ length m)
          × Finds b (code_of a) way part.type (under t 0)
      sought_direct t et =
          let z = et ∙ AtPlace.type in (
            AtPlace.part,
            Is.0,
            direct_next T m code its_tells H (good_held D.sound.ready w D.sound.known) i came (λ p v. clear_turn D v p) (place, AtPlace.part) its_first,
            Is.1,
            Is.3,
            Is.4,
            rw (Is.2, z) its_way,
          )

    -- a part under which a record begins with the code
    pub sought_indirect : (r : Result Chosen ReadingCause) → Indirect b H i came code end way r → Sought b H i came m way r
    sought_indirect (Ok x) h =
        let d = h.2 in
        (h.0, Is.0, indirect_next T m code its_tells (awaits H i came) ∙ h.1, rw d Is.1, rw d Is.3, rw d Is.4, rw Is.2 h.3)
    sought_indirect (Err c) h = (indirect_next T m code its_tells (awaits H i came) ∙ h.0, rw h.1 (unfit_is H i came m NotAwaited all_unawaited))
