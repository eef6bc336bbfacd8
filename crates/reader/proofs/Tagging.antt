-- The identifiers of a record by its tags, and whether octets begin with the one that is awaited.
-- Assumes nothing.
use borrow.Author.Tests.{lt-ltb, le-ltb, ltb-true, ltb-false, ne_eqb, eqb-true}
use lib.Dec.{ltb, eqb}
use lib.ListN.{length, get_or, drop, length-append}
use mathlib.Core.Bool.{Bool, true, false, not, ◌||◌, false≢true}
use mathlib.Core.List.{List, [], ◌∷◌, ◌++◌, map}
use mathlib.Core.Path.{◌≡◌, refl, sym, ap, ◌∙◌}
use native.Mathlib.Omega.{arith}
use Prim.Native.Nat.{ℕ, zero, suc, ◌+◌, ◌-◌, ◌≤◌, ◌<◌}
use Rattle.std.specs.Prelude.{Option, Some, None, Result, Ok, Err}
use Rattle.x690.specs.declared.ReadingCause.{ReadingCause}
use Rattle.x690.specs.declared.ReadingCause.TheVariants.{NotAwaited}
use Rattle.octets.specs.Answer.{got, refused, then, if}
use Rattle.octets.specs.Lists.{same}
use Rattle.octets.specs.Numbers.{Octets, two}
use Rattle.octets.proofs.Tests.{test, and_left, and_right}
use Rattle.ber.specs.Codes.{code_of, code as code_by}
use Rattle.x690.specs.Identifier.{identifier}
use Rattle.x690.specs.Reading.{read_identifier}
use Rattle.x690.specs.Segments.{in_parts}
use Rattle.ber.specs.Told.{told_identifier, end_of}
use Rattle.ber.specs.declared.identifier.Identifier.{Identifier}
use Rattle.ber.proofs.Codes.{code_of_identifier, code_awaited}
use Rattle.ber.proofs.Ends.{end_more, end_over, end_broken}
use Rattle.ber.proofs.Told.{identifier_read, identifier_refused}
use Rattle.table.specs.Syntax.{Tag, Body, Plain, Sequence, Set, SequenceOf, SetOf, Choice, Record, is_choice, constructed}
use Rattle.table.specs.Reading.{table_in, count_in}
use Rattle.kinds.specs.Kinds.{octet_of}
use Rattle.records.specs.Entries.{tag_count, tag_place, all_but_last, first_code, outermost_code, explicit_count}
use Rattle.records.specs.Descriptors.{entry_of, described, Describes}
use Rattle.records.specs.declared.descriptor.Descriptor.{Descriptor}
use Rattle.records.proofs.Promises.{entered_tags, entered_tag, entered_bit}
use Rattle.coding.specs.Tags.{identifier_of, last, before, explicit_tags, own_tag, explicit}
use Rattle.reader.specs.Codes.{own_either, either_at, coded}
use Rattle.reader.specs.Records.{record_in, IsRecord}
use Rattle.reader.specs.Wraps.{identifiers, sent_as, AwaitsTag, behind_last, is_tag, no_tag, EntersTag, goes_on, is_over}
use Rattle.reader.proofs.Starts.{coded_one, coded_is, coded_parts, coded_other, either_entry, either_explicit}
use Rattle.reader.proofs.Begun.{AllFine, Fit, fit, eqb_turn, code_below, parts_tag, code_parts}
use Rattle.reader.proofs.Spans.{or_true}
use Rattle.checker.proofs.Ready.{Ready, described_in}

-- a record by its entry
pub record_is : {b : List ℕ} {e : Descriptor} {r : Record} → Describes b e r → record_in b e ≡ r
unfolding record_in
record_is {b} {e} {r} x = let z : length r.tags - 0 ≡ length r.tags = omega arith in rw (entered_tags x.entered, z, x.entered.tags, x.entered.body) refl

-- identifiers, one a tag
bit_later : (a n : ℕ) → ltb (suc a + 1) (suc n) ≡ ltb (a + 1) n
bit_later a n =
    test (ltb (a + 1) n)
    (λ q. let h = ltb-true (a + 1) n q in lt-ltb (suc a + 1) (suc n) (omega arith) ∙ sym q)
    λ q. let h = ltb-false (a + 1) n q in le-ltb (suc a + 1) (suc n) (omega arith) ∙ sym q

abbrev pub zeros : Tag
zeros = record { class = 0; number = 0 }

module _ (y : Body) (c : Bool) where
  abbrev Items : List Tag → List (List ℕ)
  Items gs = map (identifier_of true) (before gs) ++ (identifier_of c (last y gs) ∷ [])

  items_length : (g : Tag) (gs : List Tag) → length (Items (g ∷ gs)) ≡ suc (length gs)
  unfolding before last
  items_length g [] = refl
  items_length g (h ∷ gs) = ap suc (items_length h gs)

  items_at_lem : (g : Tag) (gs : List Tag) (j : ℕ) → j < suc (length gs)
      → get_or (Items (g ∷ gs)) j [] ≡ identifier_of (ltb (j + 1) (suc (length gs)) || c) (get_or (g ∷ gs) j zeros)
  unfolding before last
  items_at_lem g [] zero l = refl
  items_at_lem g [] (suc j) l = absurd (omega arith)
  items_at_lem g (h ∷ gs) zero l = rw (lt-ltb (0 + 1) (suc (suc (length gs))) (omega arith)) refl
  items_at_lem g (h ∷ gs) (suc j) l = rw (bit_later j (suc (length gs))) (items_at_lem h gs j (omega arith))

all_length : (gs : List Tag) → length (map (identifier_of true) gs ++ []) ≡ length gs
all_length [] = refl
all_length (g ∷ gs) = ap suc (all_length gs)

all_at : (gs : List Tag) (j : ℕ) → j < length gs → get_or (map (identifier_of true) gs ++ []) j [] ≡ identifier_of true (get_or gs j zeros)
all_at [] j l = absurd (omega arith)
all_at (g ∷ gs) zero l = refl
all_at (g ∷ gs) (suc j) l = all_at gs j (omega arith)

length_of_lem : (gs : List Tag) (y : Body) → (gs ≡ [] → is_choice y ≡ true) → length (identifiers (record { tags = gs; body = y })) ≡ length gs
unfolding explicit explicit_tags own_tag is_choice if
length_of_lem gs (Choice ts) t = all_length gs
length_of_lem [] (Plain k) t = absurd (false≢true (t refl))
length_of_lem [] (Sequence ms) t = absurd (false≢true (t refl))
length_of_lem [] (Set ms) t = absurd (false≢true (t refl))
length_of_lem [] (SequenceOf u) t = absurd (false≢true (t refl))
length_of_lem [] (SetOf u) t = absurd (false≢true (t refl))
length_of_lem (g ∷ gs) (Plain k) t = items_length (Plain k) _ g gs
length_of_lem (g ∷ gs) (Sequence ms) t = items_length (Sequence ms) _ g gs
length_of_lem (g ∷ gs) (Set ms) t = items_length (Set ms) _ g gs
length_of_lem (g ∷ gs) (SequenceOf u) t = items_length (SequenceOf u) _ g gs
length_of_lem (g ∷ gs) (SetOf u) t = items_length (SetOf u) _ g gs

at_of : (gs : List Tag) (y : Body) → (gs ≡ [] → is_choice y ≡ true) → (j : ℕ) → j < length gs
    → get_or (identifiers (record { tags = gs; body = y })) j [] ≡ identifier_of (ltb (j + 1) (length gs) || constructed y) (get_or gs j zeros)
unfolding explicit explicit_tags own_tag is_choice constructed if
at_of gs (Choice ts) t j l = all_at gs j l ∙ ap (λ (k : Bool). identifier_of k (get_or gs j zeros)) (sym (or_true (ltb (j + 1) (length gs))))
at_of [] (Plain k) t j l = absurd (omega arith)
at_of [] (Sequence ms) t j l = absurd (omega arith)
at_of [] (Set ms) t j l = absurd (omega arith)
at_of [] (SequenceOf u) t j l = absurd (omega arith)
at_of [] (SetOf u) t j l = absurd (omega arith)
at_of (g ∷ gs) (Plain k) t j l = items_at_lem (Plain k) false g gs j l
at_of (g ∷ gs) (Sequence ms) t j l = items_at_lem (Sequence ms) true g gs j l
at_of (g ∷ gs) (Set ms) t j l = items_at_lem (Set ms) true g gs j l
at_of (g ∷ gs) (SequenceOf u) t j l = items_at_lem (SequenceOf u) true g gs j l
at_of (g ∷ gs) (SetOf u) t j l = items_at_lem (SetOf u) true g gs j l

fine_at : (gs : List Tag) → AllFine gs → (j : ℕ) → j < length gs → ((get_or gs j zeros).class < 4) × ((get_or gs j zeros).number < 65536)
fine_at [] f j l = absurd (omega arith)
fine_at (g ∷ gs) f zero l = f.0
fine_at (g ∷ gs) f (suc j) l = fine_at gs f.1 j (omega arith)

-- the own identifier of a string is primitive
own_bit : (y : Body) → own_either y ≡ true → (constructed y ≡ false) × (is_choice y ≡ false)
unfolding own_either constructed is_choice
own_bit (Plain k) t = (refl, refl)
own_bit (Sequence ms) t = absurd (false≢true t)
own_bit (Set ms) t = absurd (false≢true t)
own_bit (SequenceOf u) t = absurd (false≢true t)
own_bit (SetOf u) t = absurd (false≢true t)
own_bit (Choice ts) t = absurd (false≢true t)

last_bit : (r : Record) (j : ℕ) → j < length r.tags → own_either r.body ≡ true → explicit_count r ≡ j
    → (ltb (j + 1) (length r.tags) || constructed r.body) ≡ false
unfolding explicit_count if
last_bit r j l t e =
    let (c, n) = own_bit r.body t in
    let q : all_but_last (length r.tags) ≡ j = rw n at e in
    let k : length r.tags - 1 ≡ j = rw (ne_eqb (length r.tags) 0 (λ z. omega arith)) at q in
    rw (le-ltb (j + 1) (length r.tags) (omega arith)) c

-- of a record that fits
module _ (r : Record) (F : Fit r) where
  pub count_identifiers : length (identifiers r) ≡ length r.tags
  count_identifiers = length_of_lem r.tags r.body F.tagged

  module _ (j : ℕ) (l : j < length r.tags) where
    abbrev Bit : Bool
    Bit = ltb (j + 1) (length r.tags) || constructed r.body

    abbrev Its : Tag
    Its = get_or r.tags j zeros

    identifier_at : get_or (identifiers r) j [] ≡ identifier_of Bit Its
    identifier_at = at_of r.tags r.body F.tagged j l

    pub code_at : code_of (get_or (identifiers r) j []) ≡ code_by Its.class Bit Its.number
    unfolding identifier_of
    code_at = ap code_of identifier_at ∙ code_of_identifier Its.class Bit Its.number (fine_at r.tags F.fine j l).1

    pub code_most : code_of (get_or (identifiers r) j []) < 16777216
    code_most =
        let f = fine_at r.tags F.fine j l in
        let z = code_below Its.class Bit Its.number f.0 f.1 in
        omega (arith, code_at, z)

    -- identifiers that are read are compared by their codes
    pub same_at : (s i u : List ℕ) → Octets s → read_identifier s ≡ got i u
        → same (get_or (identifiers r) j []) i ≡ eqb (code_of i) (code_of (get_or (identifiers r) j []))
    unfolding identifier_of
    same_at s i u o e =
        let f = fine_at r.tags F.fine j l in
        ap (λ (z : List ℕ). same z i) identifier_at ∙ code_awaited s i u o e Its.class Bit Its.number f.0 f.1 ∙ ap (λ (z : ℕ). eqb (code_of i) z) (sym code_at)

    -- or by either form, if it may have both: then it is primitive
    plain_bit : either_at r j ≡ true → Bit ≡ false
    unfolding either_at
    plain_bit t =
        let w = own_either r.body in
        last_bit r j l (and_left w (eqb (explicit_count r) j) t) (eqb-true (explicit_count r) j (and_right w (eqb (explicit_count r) j) t))

    parts_at : either_at r j ≡ true → (s i u : List ℕ) → Octets s → read_identifier s ≡ got i u
        → same (in_parts (get_or (identifiers r) j [])) i ≡ eqb (code_of (get_or (identifiers r) j []) + 32) (code_of i)
    unfolding identifier_of
    parts_at t s i u o e =
        let f = fine_at r.tags F.fine j l in
        let z = plain_bit t in
        let c = code_at ∙ ap (λ (k : Bool). code_by Its.class k Its.number) z in
        ap (λ (x : List ℕ). same (in_parts x) i) (identifier_at ∙ ap (λ (k : Bool). identifier_of k Its) z)
        ∙ ap (λ (x : List ℕ). same x i) (parts_tag Its)
        ∙ code_awaited s i u o e Its.class true Its.number f.0 f.1
        ∙ eqb_turn (code_of i) (code_by Its.class true Its.number)
        ∙ ap (λ (x : ℕ). eqb x (code_of i)) (code_parts Its.class Its.number ∙ ap (λ (x : ℕ). x + 32) (sym c))

    pub sent_at : (s i u : List ℕ) → Octets s → read_identifier s ≡ got i u
        → sent_as (either_at r j) (get_or (identifiers r) j []) i ≡ coded (either_at r j) (code_of (get_or (identifiers r) j [])) (code_of i)
    unfolding coded
    sent_at s i u o e =
        let x = get_or (identifiers r) j [] in
        let y = same_at s i u o e ∙ eqb_turn (code_of i) (code_of x) in
        test (either_at r j)
        (λ t. rw (t, y, parts_at t s i u o e) refl)
        λ t. rw (t, y) refl

-- its own identifier is the last
behind_at : (a : List (List ℕ)) (x : List ℕ) → get_or (a ++ (x ∷ [])) (length a) [] ≡ x
behind_at [] x = refl
behind_at (y ∷ a) x = behind_at a x

pub own_at : (r : Record) → is_choice r.body ≡ false → get_or (identifiers r) (length (explicit r)) [] ≡ own_tag r
unfolding if
own_at r n = rw n (behind_at (explicit r) (own_tag r))

-- and no constructed form of itself
pub own_parts : (r : Record) → same (in_parts (own_tag r)) (own_tag r) ≡ false
unfolding own_tag identifier_of identifier in_parts same if
own_parts r =
    let n = (last r.body r.tags).number in
    test (ltb n 31) (λ e. rw (e, higher _) refl) λ e. rw (e, higher _) refl
  where
    higher : (x : ℕ) → eqb (x + 32) x ≡ false
    higher x = ne_eqb (x + 32) x (λ z. omega arith)

pub own_low : (r : Record) → Fit r → is_choice r.body ≡ false → length (explicit r) < length r.tags
unfolding if
own_low r F n =
    let q : length (identifiers r) ≡ length (explicit r) + 1 = rw n (length-append (explicit r) (own_tag r ∷ [])) in
    omega (arith, count_identifiers r F)

-- and the first has the first code
first_by : (gs : List Tag) (y : Body) → 0 < length gs
    → outermost_code gs y ≡ code_by (get_or gs 0 zeros).class (ltb (0 + 1) (length gs) || constructed y) (get_or gs 0 zeros).number
unfolding outermost_code
first_by [] y l = absurd (omega arith)
first_by (g ∷ []) y l = refl
first_by (g ∷ h ∷ gs) y l = rw (lt-ltb (0 + 1) (suc (suc (length gs))) (omega arith)) refl

pub first_code_lem : (r : Record) → Fit r → 0 < length r.tags → code_of (get_or (identifiers r) 0 []) ≡ first_code r
first_code_lem r F k = code_at r F 0 k ∙ sym (first_by r.tags r.body k)

pub own_first : (r : Record) → Fit r → length (explicit r) ≡ 0 → is_choice r.body ≡ false → code_of (own_tag r) ≡ first_code r
own_first r F z n =
    let k : 0 < length r.tags = omega (arith, own_low r F n) in
    let q : get_or (identifiers r) 0 [] ≡ own_tag r = ap (λ (i : ℕ). get_or (identifiers r) i []) (sym z) ∙ own_at r n in
    ap code_of (sym q) ∙ first_code_lem r F k

-- of the record of an entry
module _ {b index : List ℕ} (R : Ready b index) {w : ℕ} (I : IsRecord b index w) where
  pub its_entry : Describes b (described w) (table_in b I.0)
  its_entry = rw I.2 (described_in R I.0 I.1)

  pub its_record : record_in b (described w) ≡ table_in b I.0
  its_record = record_is its_entry

  pub its_fit : Fit (record_in b (described w))
  its_fit = rw its_record (fit b (table_in b) (count_in b) R.passes I.0)

  abbrev r : Record
  r = record_in b (described w)

  its_tags : tag_count (entry_of (described w)) ≡ length (identifiers r)
  its_tags = entered_tags its_entry.entered ∙ ap (λ (x : Record). length x.tags) (sym its_record) ∙ sym (count_identifiers r its_fit)

  module _ (e : Descriptor) (ee : e ≡ described w) (n : ℕ) (en : n ≡ tag_count (entry_of e)) (j : ℕ) (m : List ℕ) where
    how_many : n ≡ length (identifiers r)
    how_many = en ∙ ap (λ (x : Descriptor). tag_count (entry_of x)) ee ∙ its_tags

    pub awaits_none : n ≤ j → AwaitsTag r j m (Ok 0)
    awaits_none l = behind_last (omega (arith, how_many))

    module _ (l : j < n) (o : Octets m) (y : Result Identifier ReadingCause) (ey : y ≡ told_identifier (length m) (read_identifier m)) where
      within : j < length (identifiers r)
      within = omega (arith, how_many)

      pub awaits_unread : (c : ReadingCause) → y ≡ Err c → AwaitsTag r j m (Err c)
      unfolding then
      awaits_unread c q = no_tag {c = c} within (rw (identifier_refused m y ey c q) refl)

      module _ (code end : ℕ) (q : y ≡ Ok (record { code = code; end = end })) (k : ℕ)
          (ek : k ≡ code_by (get_or b (tag_place (entry_of e) j) 0) (ltb j e.explicit || not e.simple) (two b (tag_place (entry_of e) j + 1))) where
        abbrev Is : (a : List ℕ) × (read_identifier m ≡ got a (drop end m)) × (code_of a ≡ code) × (0 < end) × (end ≤ length m)
        Is = identifier_read m y ey (record { code = code; end = end }) q

        in_tags : j < length (table_in b I.0).tags
        in_tags = omega (arith, en, ap (λ (x : Descriptor). tag_count (entry_of x)) ee, entered_tags its_entry.entered)

        its_code : k ≡ code_of (get_or (identifiers r) j [])
        its_code =
            let t = table_in b I.0 in
            let F = fit b (table_in b) (count_in b) R.passes I.0 in
            let g = entered_tag its_entry.entered zeros j in_tags in
            rw its_record
            (ek
            ∙ ap (λ (x : Descriptor). code_by (get_or b (tag_place (entry_of x) j) 0) (ltb j x.explicit || not x.simple) (two b (tag_place (entry_of x) j + 1))) ee
            ∙ ap (λ (x : Bool). code_by (get_or b (tag_place (entry_of (described w)) j) 0) x (two b (tag_place (entry_of (described w)) j + 1))) (entered_bit its_entry.entered j in_tags)
            ∙ ap (λ (x : Tag). code_by x.class (ltb (j + 1) (length t.tags) || constructed t.body) x.number) g
            ∙ sym (code_at t F j in_tags))

        pub awaits_small : k < 16777216
        awaits_small =
            let l : j < length r.tags = omega (arith, within, count_identifiers r its_fit) in
            omega (arith, its_code, code_most r its_fit j l)

        its_coded : coded (either_at r j) (code_of (get_or (identifiers r) j [])) (code_of Is.0) ≡ coded (either_at r j) k code
        its_coded = rw (← its_code, Is.2) refl

        its_sent : sent_as (either_at r j) (get_or (identifiers r) j []) Is.0 ≡ coded (either_at r j) k code
        its_sent =
            let l : j < length r.tags = omega (arith, within, count_identifiers r its_fit) in
            sent_at r its_fit j l m Is.0 (drop end m) o Is.1 ∙ its_coded

        is_awaited : coded (either_at r j) k code ≡ true → AwaitsTag r j m (Ok end)
        is_awaited z =
            is_tag end within (record { identifier = Is.0; is = Is.1; coded = its_coded ∙ z; further = Is.3; low = Is.4 })

        not_awaited_lem : coded (either_at r j) k code ≡ false → AwaitsTag r j m (Err NotAwaited)
        unfolding then if
        not_awaited_lem z = no_tag {c = NotAwaited} within (rw (Is.1, its_sent, z) refl)

        pub awaits_tag : code ≡ k → AwaitsTag r j m (Ok end)
        awaits_tag z = is_awaited (coded_is (either_at r j) k code (sym z))

        -- not the code itself
        module _ (unlike : code ≡ k → ⊥) where
          pub awaits_neither : (code ≡ k + 32 → ⊥) → AwaitsTag r j m (Err NotAwaited)
          awaits_neither z = not_awaited_lem (coded_other (either_at r j) k code (λ q. unlike (sym q)) (λ q. z (sym q)))

          exactly : either_at r j ≡ false → AwaitsTag r j m (Err NotAwaited)
          exactly q = not_awaited_lem (rw q (coded_one k code ∙ ne_eqb k code (λ z. unlike (sym z))))

          pub awaits_explicit : (e.explicit ≡ j → ⊥) → AwaitsTag r j m (Err NotAwaited)
          awaits_explicit z =
              exactly (rw its_record (either_explicit its_entry j (λ q. z (ap (λ (x : Descriptor). x.explicit) ee ∙ q))))

          module _ (z : e.explicit ≡ j) (g : Bool) (eg : g ≡ (eqb (octet_of e.kind) 3 || eqb (octet_of e.kind) 4)) where
            its_either : either_at r j ≡ g
            its_either =
                rw its_record
                (either_entry its_entry j g (eg ∙ ap (λ (x : Descriptor). eqb (octet_of x.kind) 3 || eqb (octet_of x.kind) 4) ee) (ap (λ (x : Descriptor). x.explicit) (sym ee) ∙ z))

            pub awaits_string : code ≡ k + 32 → g ≡ true → AwaitsTag r j m (Ok end)
            awaits_string q y = is_awaited (coded_parts (either_at r j) k code (its_either ∙ y) (sym q))

            pub awaits_other : g ≡ false → AwaitsTag r j m (Err NotAwaited)
            awaits_other y = exactly (its_either ∙ y)

-- in the contents of a tag
module _ (r : Record) (j : ℕ) (m : List ℕ) (indefinite : Bool) (y : Result (Option ℕ) ReadingCause) (ey : y ≡ end_of indefinite (length m) (drop 0 m)) where
  pub enters_over : (u : ℕ) → y ≡ Ok (Some u) → EntersTag r j m indefinite (Err NotAwaited)
  enters_over u q = is_over (end_over {A = List ℕ} (λ _. refused NotAwaited (length m)) (λ _. got [] m) m 0 indefinite y u (omega arith) ey q).0

  pub enters_broken : (c : ReadingCause) → y ≡ Err c → EntersTag r j m indefinite (Err c)
  enters_broken c q =
      is_over (end_broken {A = List ℕ} (λ _. refused NotAwaited (length m)) (λ _. got [] m) m 0 indefinite y c ey q)

  pub enters_more : y ≡ Ok None → (t : Result ℕ ReadingCause) → AwaitsTag r j m t → EntersTag r j m indefinite t
  enters_more q t a = let h = end_more {A = List ℕ} (λ _. refused NotAwaited (length m)) (λ _. got [] m) m 0 indefinite y ey q in goes_on h.0 h.1 a
