-- A value that was accepted, taken apart as the code places it: explicit tags that were opened, a length that was read before, contents that
-- hold one leaf or items, and the tags closed again.
-- Assumes nothing.
use borrow.Author.Tests.{eq-eqb, eqb-true}
use lib.Dec.{eqb}
use lib.ListN.{length, get_or, take, drop, length-drop}
use lib.Seq.{sets, take-length, length-take-le, drop-drop, drop-length}
use mathlib.Core.Bool.{Bool, true, false, false≢true}
use mathlib.Core.List.{List, [], ◌∷◌}
use mathlib.Core.Option.{Option, some, none}
use mathlib.Core.Path.{◌≡◌, refl, sym, ap, subst, ◌∙◌}
use native.Mathlib.Omega.{arith}
use Prim.Native.Nat.{ℕ, zero, suc, ◌+◌, ◌-◌, ◌≤◌, ◌<◌}
use Rattle.std.specs.Prelude.{Result, Ok}
use Rattle.x690.specs.declared.ReadingCause.{ReadingCause}
use Rattle.x690.specs.declared.Unread.{Unread}
use Rattle.octets.specs.Answer.{Answer, got, refused, then, if, behind}
use Rattle.octets.specs.Lists.{any}
use Rattle.octets.specs.Numbers.{Octets, two}
use Rattle.octets.specs.Permutations.{as_given}
use Rattle.octets.proofs.Answer.{got_holds, refused≢got, got_value, got_rest}
use Rattle.octets.proofs.Lists.{behind as behind_part, length_behind}
use Rattle.octets.proofs.Tests.{test}
use Rattle.x690.specs.Integer.{minimal}
use Rattle.x690.specs.Reading.{Mode, Size, read_length}
use Rattle.x690.specs.Segments.{Kind, bit_string, octet_string, universal, deepest, read_all, read_segment}
use Rattle.x690.proofs.Times.{time_read_back, time_complete}
use Rattle.ber.specs.Told.{told_length, again_at, mode}
use Rattle.ber.specs.declared.length.Extent.{Extent}
use Rattle.ber.proofs.Told.{again_told}
use Rattle.dates.specs.declared.TimeKind.TheVariants.{Utc, Generalized}
use Rattle.table.specs.Syntax.{Simple, Boolean, Integer, BitString, OctetString, Null, Enumerated, Time}
use Rattle.table.specs.Syntax.{Plain, Record, is_choice}
use Rattle.table.specs.Reading.{numbers_at, table_in, count_in}
use Rattle.table.specs.Octets.{kind}
use Rattle.kinds.specs.Kinds.{octet_of}
use Rattle.kinds.specs.declared.Kind.TheVariants.{Message}
use Rattle.records.specs.Entries.{outermost_code, explicit_count}
use Rattle.records.specs.Descriptors.{described, Describes}
use Rattle.records.specs.declared.descriptor.Descriptor.{Descriptor}
use Rattle.records.proofs.Promises.{entered_kind, entered_enumerated}
use Rattle.coding.specs.Content.{listed, segmented, Content, c_boolean, c_integer, c_bits, c_string, c_null, c_enumerated, c_time}
use Rattle.coding.specs.Value.{Leaf, time, Value, leaf, leaf_octets, octets}
use Rattle.coding.specs.Reading.{read_value}
use Rattle.coding.proofs.Content.{content_sound}
use Rattle.coding.proofs.Sound.{value_sound}
use Rattle.reader.specs.Answers.{judged, unread, told}
use Rattle.reader.specs.Items.{Holder, message, next}
use Rattle.reader.specs.Leaves.{leaf_of, Lawful, one_octet, one_to_eight, some_unused, any_octets, no_octet, small_number, a_time}
use Rattle.reader.specs.Leaves.{is_in_segments, read_segments, read_leaf, Carried, by_itself, by_segments, ToPlaceLeaf, LeafPlaced}
use Rattle.reader.specs.Placed.{ToPlace, ToPlaceValue, Fits, Final, IsPlaced, held_in, value_in}
use Rattle.reader.specs.Records.{of_record, of_message, holder_in, IsRecord, read_record}
use Rattle.reader.specs.Sought.{held}
use Rattle.reader.specs.Wraps.{closing, Around, read_bare, Opens}
use Rattle.reader.specs.declared.answer.Judged.{Judged}
use Rattle.reader.specs.declared.node.Placed.{Placed}
use Rattle.reader.specs.declared.tags.Inner.{Inner}
use Rattle.reader.proofs.Bodies.{record_of, nil_of, its_choice}
use Rattle.reader.proofs.ClosedAlike.{closing_through}
use Rattle.reader.proofs.Opening.{its_count, its_few}
use Rattle.reader.proofs.Tagging.{its_entry, its_record}
use Rattle.reader.proofs.Told.{same_judged}
use Rattle.reader.proofs.ValueParts.{Under, Within, Item, Filling, under_bare, under_tags, tags_refused, no_choice, item_unsized, contents_bare}
use Rattle.reader.proofs.ValueParts.{contents_sized, Rest as AroundRest, C, S, size_c, is_plain, leaf_read, leaf_lead}
use Rattle.reader.proofs.ValueParts.{Held, Fine, fine, reads}
use Rattle.checker.proofs.Ready.{Ready}

-- A leaf that was accepted, by the number of its kind.
minimal_some : (c : List ℕ) → minimal c ≡ true → 1 ≤ length c
unfolding minimal
minimal_some [] e = absurd (false≢true e)
minimal_some (x ∷ c) e = omega arith

abbrev Small : Simple → Type 0
Small q = (ns : List ℕ) (k : ℕ) → q ≡ Enumerated ns → listed ns k ≡ true → k < 65536

content_leaf : {q : Simple} {x : Leaf} {c : List ℕ} → Content q x c → Small q → Lawful (kind (Plain q)) c × (x ≡ leaf_of (kind (Plain q)) c)
unfolding kind leaf_of if
content_leaf c_boolean h = (one_octet refl refl, refl)
content_leaf (c_integer {c = c} e l) h = (one_to_eight refl (minimal_some c e) l, refl)
content_leaf (c_bits e) h = (some_unused refl (omega arith) e, refl)
content_leaf c_string h = (any_octets refl, refl)
content_leaf c_null h = (no_octet refl refl, refl)
content_leaf (c_enumerated {ns = ns} {c = c} {k = k} e l z g) h = (small_number refl (minimal_some c e) l k z (h ns k refl g), rw z refl)
content_leaf (c_time {k = Utc} {t = t} e) h = (a_time Utc refl (time_complete Utc t ∙ e), ap (time Utc) (sym (time_read_back Utc t)))
content_leaf (c_time {k = Generalized} {t = t} e) h =
    (a_time Generalized refl (time_complete Generalized t ∙ e), ap (time Generalized) (sym (time_read_back Generalized t)))

-- a number that is listed in a table
listed_small : (b : List ℕ) → Octets b → (p n k : ℕ) → listed (numbers_at b p n) k ≡ true → k < 65536
unfolding listed any numbers_at
listed_small b o p zero k e = absurd (false≢true e)
listed_small b o p (suc n) k e =
    test (eqb (two b p) k)
    (λ f. let g = eqb-true (two b p) k f in omega (arith, o p, o (p + 1)))
    λ f. listed_small b o (p + 2) n k (rw f at e)

entered_small : {b : List ℕ} {e : Descriptor} {r : Record} → Describes b e r → Octets b → (q : Simple) → r.body ≡ Plain q → Small q
entered_small {b} {e} x o q h ns k f g =
    let y = entered_enumerated x.entered ns (h ∙ ap Plain f) in
    listed_small b o (e.own + 1) (get_or b e.own 0) k (rw y.is g)

-- What was accepted was accepted up to each place.
then_through : {A B : Type 0} (x : Answer ReadingCause A) (f : A → List ℕ → Answer ReadingCause B) (b : B) (w : List ℕ) → then x f ≡ got b w
    → (a : A) × (u : List ℕ) × (x ≡ got a u) × (f a u ≡ got b w)
unfolding then
then_through (got a u) f b w e = (a, u, refl, e)
then_through (refused c l) f b w e = refused≢got e

-- a string by the number of its kind
abbrev number : Option Kind → ℕ
number none = 0
number (some j) = universal j

some_number : (j : Kind) → 0 ≡ universal j → ⊥
some_number bit_string e = omega arith
some_number octet_string e = omega arith

kind_of_lem : (k : Simple) (j : Kind) → segmented k ≡ some j → universal j ≡ kind (Plain k)
unfolding segmented kind
kind_of_lem Boolean j e = absurd (some_number j (ap number e))
kind_of_lem Integer j e = absurd (some_number j (ap number e))
kind_of_lem BitString j e = sym (ap number e)
kind_of_lem OctetString j e = sym (ap number e)
kind_of_lem Null j e = absurd (some_number j (ap number e))
kind_of_lem (Enumerated ns) j e = absurd (some_number j (ap number e))
kind_of_lem (Time q) j e = absurd (some_number j (ap number e))

-- the contents by which a leaf was accepted
behind_through : {A : Type 0} (n : ℕ) (x : Answer ReadingCause A) {a : A} {u : List ℕ} → behind n x ≡ got a u → x ≡ got a u
unfolding behind
behind_through n (got a u) e = e
behind_through n (refused c l) e = refused≢got e

segments_of : (o : Option Kind) (i : Mode) (c d u : List ℕ) → read_segments o i c ≡ got d u
    → (j : Kind) × (b : ℕ) × (o ≡ some j) × (read_all j (read_segment j deepest) i c ≡ got (d, b) u)
unfolding read_segments
segments_of none i c d u e = refused≢got e
segments_of (some j) i c d u e =
    let (g, v, f, h) = then_through (read_all j (read_segment j deepest) i c) _ d u e in
    (j, g.1, refl, f ∙ ap (λ (x : List ℕ). got (x, g.1) v) (got_value h) ∙ ap (got (d, g.1)) (got_rest h))

carried_of : (k : Simple) (parts z : Bool) (l j : ℕ) (c : List ℕ) (x : Leaf) (u : List ℕ) → read_leaf k parts z l j c ≡ got x u
    → (d : List ℕ) × Carried (kind (Plain k)) c parts d u × Content k x d
unfolding read_leaf
carried_of k true z l j c x u e =
    let (d, v, f, h) = then_through (behind j (read_segments (segmented k) (mode z) c)) _ x u e in
    let (r, y) = got_holds (content_sound k l d v) h in
    let (i, b, o, g) = segments_of (segmented k) (mode z) c d v (behind_through j _ f) in
    (d, by_segments i z b (kind_of_lem k i o) (g ∙ ap (got (d, b)) (sym r)), y)
carried_of k false true l j c x u e = refused≢got e
carried_of k false false l j c x u e =
    let (r, y) = got_holds (content_sound k l c []) e in
    (c, rw r by_itself, y)

itself : {kind : ℕ} {c d u : List ℕ} → Carried kind c false d u → (d ≡ c) × (u ≡ [])
itself by_itself = (refl, refl)

-- under the tags of a value v of w, behind which `rest` follows: the item is read with that value, and `left` follows it
pub record Accepted (b : List ℕ) (w : ℕ) (m : List ℕ) (at : ℕ) (v : Value) (rest notes : List ℕ) (at₁ from₁ end : ℕ) : Type 0 where
  pub low : at ≤ at₁
  pub deeper : is_choice (record_of b w).body ≡ true → at < at₁
  pub under : Under b (record_of b w) m at (take (described w).explicit notes) at₁ from₁ end
  pub left : List ℕ
  pub is : read_bare b 24 (record_of b w) (drop at₁ (take end m)) ≡ got v left
  pub closes : (n : ℕ) → closing m (take (described w).explicit notes) end (got n left) ≡ got n rest

-- its contents; the item begins at `lead`
pub record Contents (b : List ℕ) (w : ℕ) (m : List ℕ) (at lead end : ℕ) (v : Value) (left : List ℕ) (start stop : ℕ) (indefinite : Bool) : Type 0 where
  pub low : at < start
  pub order : start ≤ stop
  pub high : stop ≤ end
  pub simple : (described w).simple ≡ true
      → (let c = take (stop - start) (drop start m) in
      (d u : List ℕ) × Carried (octet_of (described w).kind) c (is_in_segments (get_or m lead 0)) d u × Lawful (octet_of (described w).kind) d × (v ≡ leaf (leaf_of (octet_of (described w).kind) d))
      × ((p : ℕ) → p ≤ length c → u ≡ drop p c → (start + p ≤ end) × (left ≡ drop (start + p) (take end m))))
  pub holds : (described w).simple ≡ false
      → (let c = take (stop - start) (drop start m) in
      (u : List ℕ) × (held_in b (held b w) indefinite c ≡ got v u)
      × ((p : ℕ) → p ≤ length c → u ≡ drop p c → (start + p ≤ end) × (left ≡ drop (start + p) (take end m))))

-- the value is in the buffer
pub record Stored (v : Value) (m : List ℕ) (end : ℕ) (left first : List ℕ) (to : ℕ) (buf : List ℕ) (stop next : ℕ) : Type 0 where
  pub ends : next ≡ to + length (octets v)
  pub buffer : buf ≡ sets first to (octets v)
  pub within : stop ≤ end
  pub behind : left ≡ drop stop (take end m)

module _ {b index : List ℕ} {w : ℕ} {m : List ℕ} {at from : ℕ} {buf : List ℕ} {to : ℕ} (ready : Ready b index)
    (P : ToPlaceValue b index w m at from buf to) where
  abbrev R : Record
  R = record_of b w

  abbrev Val : Value
  Val = P.fits.value

  abbrev Rest : List ℕ
  Rest = P.fits.rest

  abbrev pub its_own : IsRecord b index w
  its_own = (P.type, P.low, P.entry)

  its : Describes b (described w) (table_in b P.type)
  its = its_entry ready its_own

  same_record : R ≡ table_in b P.type
  same_record = its_record ready its_own

  same_body : R.body ≡ (table_in b P.type).body
  same_body = ap (λ (r : Record). r.body) same_record

  choice_is : eqb (octet_of (described w).kind) 50 ≡ is_choice R.body
  choice_is = its_choice ready its_own (described w) refl

  accepted : {notes : List ℕ} {at₁ from₁ end : ℕ} → at ≤ at₁ → (is_choice R.body ≡ true → at < at₁)
      → Under b R m at (take (described w).explicit notes) at₁ from₁ end → Accepted b w m at Val Rest notes at₁ from₁ end
  accepted {notes} {at₁} {from₁} {end} low d U =
      let y = read_bare b 24 R (drop at₁ (take end m)) in
      let g = closing_through m (length m) (take (described w).explicit notes) end U.around y Val Rest (sym (U.whole 24) ∙ P.fits.is) in
      record { low = low; deeper = d; under = U; left = g.0; is = g.1; closes = g.2 }

  -- no tag is explicit
  module _ (none : (described w).explicit ≤ 0) where
    none_choice : is_choice R.body ≡ true → ⊥
    unfolding explicit_count if outermost_code
    none_choice c =
        let T = table_in b P.type in
        let y : is_choice T.body ≡ true = ap is_choice (sym same_body) ∙ c in
        let q : explicit_count T ≡ length T.tags = rw y refl in
        let z = nil_of T.tags (omega (arith, q, its.entered.explicit)) in
        P.tagged (rw z refl)

    pub under_none : (notes : List ℕ) → Accepted b w m at Val Rest notes at from (length m)
    under_none notes =
        accepted (omega arith) (λ c. absurd (none_choice c)) (under_bare ready its_own (described w) refl m at from none P.headed notes)

  -- explicit tags were opened
  module _ (notes : List ℕ) (y : Result Inner Unread) (O : Opens b R m at (take (described w).explicit notes) y) where
    pub must_open : (c : ReadingCause) (l : ℕ) → y ≡ unread c l → ⊥
    must_open c l e = refused≢got (sym (tags_refused ready its_own m at _ y O c l e 24) ∙ P.fits.is)

    pub under_open : (x : Inner) → y ≡ Ok x → Accepted b w m at Val Rest notes x.at x.from x.end
    under_open x e =
        let q : Opens b R m at (take (described w).explicit notes) (Ok x) = rw e at O in
        accepted (omega (arith, q.0)) (λ _. q.0) (under_tags ready its_own m at _ y O x e)

  module _ {notes : List ℕ} {at₁ from₁ end : ℕ} (U : Accepted b w m at Val Rest notes at₁ from₁ end) where
    -- where its contents stand
    module _ (om : Octets m) (ob : Octets b) where
      abbrev item : Item b index w m at 24
      item =
          record {
            ready = ready;
            known = its_own;
            all_octets = om;
            short = P.short;
            entry = described w;
            entered = refl;
            notes = notes;
            at = at₁;
            from = from₁;
            end = end;
            under = U.under;
          }

      module _ (start stop : ℕ) (indefinite : Bool) (W : Within R (take end m) at₁ end start stop indefinite) where
        abbrev Y : Filling b index w m at 24
        Y = record { item = item; start = start; stop = stop; indefinite = indefinite; within = W }

        simple_part : (described w).simple ≡ true
            → (d u : List ℕ) × Carried (octet_of (described w).kind) (C Y) (is_in_segments (get_or m at₁ 0)) d u × Lawful (octet_of (described w).kind) d × (Val ≡ leaf (leaf_of (octet_of (described w).kind) d))
            × ((p : ℕ) → p ≤ length (C Y) → u ≡ drop p (C Y) → (start + p ≤ end) × (U.left ≡ drop (start + p) (take end m)))
        simple_part s =
            let (k, q) = is_plain Y s in
            let l = length (S Y) in
            let (x, u, e, f) = then_through (read_leaf k W.parts indefinite l (end - stop) (C Y)) _ Val U.left (sym (leaf_read Y s k q) ∙ U.is) in
            let (d, a, c) = carried_of k W.parts indefinite l (end - stop) (C Y) x u e in
            let i : (octet_of (described w).kind) ≡ kind (Plain k) = entered_kind its.entered ∙ ap kind (sym same_body ∙ q) in
            let y = content_leaf c (entered_small its ob k (sym same_body ∙ q)) in (
              d,
              u,
              subst (λ (n : ℕ). Carried n (C Y) (is_in_segments (get_or m at₁ 0)) d u) (sym i)
                  (subst (λ (p : Bool). Carried (kind (Plain k)) (C Y) p d u) (sym (leaf_lead Y s k q)) a),
              subst (λ (n : ℕ). Lawful n d) (sym i) y.0,
              sym (got_value f) ∙ ap leaf (y.1 ∙ ap (λ (j : ℕ). leaf_of j d) (sym i)),
              λ p h z.
                  let j : length (C Y) - length u ≡ p = omega (arith, ap length z, length-drop p (C Y)) in (
                    omega (arith, size_c Y, W.ordered, W.high),
                    sym (got_rest f) ∙ drop-drop (length (C Y) - length u) start (take end m) ∙ ap (λ (i : ℕ). drop (start + i) (take end m)) j,
                  ),
            )

        items_part : (described w).simple ≡ false
            → (u : List ℕ) × (held_in b (held b w) indefinite (C Y) ≡ got Val u)
            × ((p : ℕ) → p ≤ length (C Y) → u ≡ drop p (C Y) → (start + p ≤ end) × (U.left ≡ drop (start + p) (take end m)))
        items_part n = go (Held Y n) refl (fine Y n)
          where
            go : (x : Answer ReadingCause Value) → Held Y n ≡ x → Fine Y n x
                → (u : List ℕ) × (Held Y n ≡ got Val u)
                × ((p : ℕ) → p ≤ length (C Y) → u ≡ drop p (C Y) → (start + p ≤ end) × (U.left ≡ drop (start + p) (take end m)))
            go (refused c l) d f = refused≢got (sym (reads Y n (refused c l) d f) ∙ U.is)
            go (got v u) d f =
                let q = sym (reads Y n (got v u) d f) ∙ U.is in (
                  u,
                  d ∙ ap (λ (z : Value). got z u) (got_value q),
                  λ p l z.
                      let i : length (C Y) - length u ≡ p = omega (arith, ap length z, length-drop p (C Y)) in (
                        omega (arith, size_c Y, W.ordered, W.high),
                        sym (got_rest q) ∙ ap (λ (j : ℕ). drop (start + j) (take end m)) i,
                      ),
                )

        contents_at : at < start → Contents b w m at at₁ end Val U.left start stop indefinite
        contents_at low = record { low = low; order = W.ordered; high = W.high; simple = simple_part; holds = items_part }

      -- a CHOICE stands in no item of its own
      pub choice_contents : (octet_of (described w).kind) ≡ 50 → Contents b w m at at₁ end Val U.left at₁ end false
      choice_contents k = contents_at at₁ end false (contents_bare item k) (U.deeper (sym choice_is ∙ eq-eqb (octet_of (described w).kind) 50 k))

      -- an item whose length is read again
      pub read_contents : (octet_of (described w).kind ≡ 50 → ⊥) → (x : Extent)
          → x ≡ again_at (take end m) from₁
          → Contents b w m at at₁ end Val U.left x.start x.end x.indefinite
      read_contents k x again =
          let n = no_choice item k in
          let W = contents_sized item k (Ok x) (its_length n (read_length (length (AroundRest item)) (drop from₁ (take end m))) refl) x refl in
          contents_at x.start x.end x.indefinite W (omega (arith, U.low, W.further n))
        where
          its_length : is_choice R.body ≡ false → (y : Answer ReadingCause Size) → read_length (length (AroundRest item)) (drop from₁ (take end m)) ≡ y
              → Ok x ≡ told_length (length (take end m)) (read_length (length (AroundRest item)) (drop from₁ (take end m)))
          its_length n (got z u) e =
              again_told (take end m) from₁ (length (AroundRest item)) x z u again e
          its_length n (refused c l) e =
              refused≢got (sym (item_unsized item n c l e) ∙ U.is)

    -- what is placed of the contents
    module _ {start stop : ℕ} {indefinite : Bool} (X : Contents b w m at at₁ end Val U.left start stop indefinite) where
      abbrev Part : List ℕ
      Part = take (stop - start) (drop start m)

      part_size : length Part ≡ stop - start
      part_size = length-take-le (stop - start) (drop start m) (omega (arith, length-drop start m, X.order, X.high, U.under.high))

      pub part_less : length Part < length m
      part_less = omega (arith, part_size, X.low, X.order, X.high, U.under.high)

      pub part_high : stop ≤ length m
      part_high = omega (arith, X.high, U.under.high)

      -- a leaf
      module _ (e : Descriptor) (ee : e ≡ described w) (simple : e.simple ≡ true) where
        its_simple : (described w).simple ≡ true
        its_simple = ap (λ (x : Descriptor). x.simple) (sym ee) ∙ simple

        abbrev Its : List ℕ
        Its = (X.simple its_simple).0

        abbrev LeftIn : List ℕ
        LeftIn = (X.simple its_simple).1

        its_kind : (octet_of e.kind) ≡ (octet_of (described w).kind)
        its_kind = ap (λ (x : Descriptor). octet_of x.kind) ee

        its_carried : Carried (octet_of e.kind) Part (is_in_segments (get_or m at₁ 0)) Its LeftIn
        its_carried = subst (λ (i : ℕ). Carried i Part (is_in_segments (get_or m at₁ 0)) Its LeftIn) (sym its_kind) (X.simple its_simple).2

        its_value : Val ≡ leaf (leaf_of (octet_of e.kind) Its)
        its_value = (X.simple its_simple).4 ∙ ap (λ (i : ℕ). leaf (leaf_of i Its)) (sym its_kind)

        its_lawful : Lawful (octet_of e.kind) Its
        its_lawful = subst (λ (i : ℕ). Lawful i Its) (sym its_kind) (X.simple its_simple).3

        its_room : to + length (leaf_octets (leaf_of (octet_of e.kind) Its)) ≤ length buf
        unfolding octets
        its_room = subst (λ (v : Value). to + length (octets v) ≤ length buf) its_value P.fits.room

        -- the value is in the buffer, and its contents end at a place of the part
        its_stored : (buf₁ : List ℕ) (p next : ℕ) → p ≤ length Part → LeftIn ≡ drop p Part → next ≡ to + length (leaf_octets (leaf_of (octet_of e.kind) Its))
            → buf₁ ≡ sets buf to (leaf_octets (leaf_of (octet_of e.kind) Its)) → Stored Val m end U.left buf to buf₁ (start + p) next
        unfolding octets
        its_stored buf₁ p next h z en eb =
            let q = (X.simple its_simple).5 p h z in
            record {
              ends = en ∙ ap (λ (v : Value). to + length (octets v)) (sym its_value);
              buffer = eb ∙ ap (λ (v : Value). sets buf to (octets v)) (sym its_value);
              within = q.0;
              behind = q.1;
            }

        -- in segments
        module _ (parts : is_in_segments (get_or m at₁ 0) ≡ true) where
          pub parts_ask : ToPlaceLeaf (octet_of e.kind) Part true (length buf) to
          parts_ask =
              record {
                contents = Its;
                rest = LeftIn;
                carried = subst (λ (t : Bool). Carried (octet_of e.kind) Part t Its LeftIn) parts its_carried;
                lawful = its_lawful;
                short = omega (arith, part_less, P.short);
                fits = its_room;
              }

          module _ (buf₁ : List ℕ) (r : Placed)
              (placed : (p : ToPlaceLeaf (octet_of e.kind) Part true (length buf) to) → LeafPlaced (octet_of e.kind) p.contents p.rest Part buf to buf₁ r) where
            its_placed : LeafPlaced (octet_of e.kind) Its LeftIn Part buf to buf₁ r
            unfolding parts_ask
            its_placed = placed parts_ask

            pub parts_stored : Stored Val m end U.left buf to buf₁ (start + r.end) r.next
            parts_stored = its_stored buf₁ r.end r.next its_placed.within its_placed.left its_placed.next its_placed.buffer

            pub parts_end : start + r.end ≤ 8192
            parts_end = omega (arith, parts_stored.within, U.under.high, P.short)

        -- by themselves
        module _ (whole : is_in_segments (get_or m at₁ 0) ≡ false) where
          its_own_contents : (Its ≡ Part) × (LeftIn ≡ [])
          its_own_contents = itself (subst (λ (t : Bool). Carried (octet_of e.kind) Part t Its LeftIn) whole its_carried)

          abbrev LeafOf : Leaf
          LeafOf = leaf_of (octet_of e.kind) Part

          same_leaf : leaf_of (octet_of e.kind) Its ≡ LeafOf
          same_leaf = ap (leaf_of (octet_of e.kind)) its_own_contents.0

          pub leaf_asks : Lawful (octet_of e.kind) Part × (length Part ≤ 8192) × (to + length (leaf_octets LeafOf) ≤ length buf)
          leaf_asks = (
            subst (Lawful (octet_of e.kind)) its_own_contents.0 its_lawful,
            omega (arith, part_less, P.short),
            subst (λ (x : Leaf). to + length (leaf_octets x) ≤ length buf) same_leaf its_room,
          )

          pub leaf_stored : (buf₁ : List ℕ) (next : ℕ) → next ≡ to + length (leaf_octets LeafOf) → buf₁ ≡ sets buf to (leaf_octets LeafOf)
              → Stored Val m end U.left buf to buf₁ stop next
          leaf_stored buf₁ next en eb =
              let h : start + length Part ≡ stop = omega (arith, part_size, X.order) in
              subst (λ (j : ℕ). Stored Val m end U.left buf to buf₁ j next) h
              (its_stored buf₁ (length Part) next (omega arith) (its_own_contents.1 ∙ sym (drop-length Part))
              (en ∙ ap (λ (x : Leaf). to + length (leaf_octets x)) (sym same_leaf)) (eb ∙ ap (λ (x : Leaf). sets buf to (leaf_octets x)) (sym same_leaf)))

      -- items
      module _ (holds : (described w).simple ≡ false) where
        pub items_ask : ToPlace b index w Part indefinite buf to
        items_ask =
            let (u, e, f) = X.holds holds in
            record {
              known = of_record P.type P.low P.entry;
              holds = holds;
              short = omega (arith, part_less, P.short);
              fits = record { value = Val; rest = u; is = e; room = P.fits.room };
            }

        module _ (buf₁ : List ℕ) (r : Placed) (placed : IsPlaced (held_in b (held b w) indefinite Part) Part to buf buf₁ r) where
          abbrev ItsFinal : Final Val (X.holds holds).0 Part buf to buf₁ r.end r.next
          ItsFinal = placed Val (X.holds holds).0 (X.holds holds).1

          pub items_end : start + r.end ≤ 8192
          items_end = omega (arith, ((X.holds holds).2 r.end ItsFinal.within ItsFinal.behind).0, U.under.high, P.short)

          pub items_stored : Stored Val m end U.left buf to buf₁ (start + r.end) r.next
          items_stored =
              let q = (X.holds holds).2 r.end ItsFinal.within ItsFinal.behind in
              record { ends = ItsFinal.ends; buffer = ItsFinal.buffer; within = q.0; behind = q.1 }

    -- the value's end
    module _ {buf₁ : List ℕ} {stop next : ℕ} (S : Stored Val m end U.left buf to buf₁ stop next) where
      ended_placed : (e : ℕ) → e ≤ length m → Rest ≡ drop e m → IsPlaced (value_in b w (drop at m)) m to buf buf₁ (record { end = e; next = next })
      ended_placed e l q v rest z =
          let k = sym P.fits.is ∙ z in
          record {
            ends = S.ends ∙ ap (λ (x : Value). to + length (octets x)) (got_value k);
            buffer = S.buffer ∙ ap (λ (x : Value). sets buf to (octets x)) (got_value k);
            within = l;
            behind = sym (got_rest k) ∙ q;
          }

      pub bare_placed : (described w).explicit ≤ 0 → IsPlaced (value_in b w (drop at m)) m to buf buf₁ (record { end = stop; next = next })
      unfolding Around closing
      bare_placed l =
          let z : (described w).explicit ≡ 0 = omega arith in
          let n : length m ≡ end = subst (λ (i : ℕ). Around (length m) (take i notes) end) z U.under.around in
          let r : ◌≡◌ {A = Answer ReadingCause ℕ} (got 0 U.left) (got 0 Rest)
          = subst (λ (i : ℕ). ◌≡◌ {A = Answer ReadingCause ℕ} (closing m (take i notes) end (got 0 U.left)) (got 0 Rest)) z (U.closes 0) in
          let q : Rest ≡ drop stop m = sym (got_rest r) ∙ S.behind ∙ ap (drop stop) (ap (λ (i : ℕ). take i m) (sym n) ∙ take-length m) in
          ended_placed stop (omega (arith, S.within)) q

      pub close_asks : (e : Descriptor) → e ≡ described w
          → (e.explicit ≤ 4) × (stop ≤ end) × (length m ≤ 8192) × (0 < 16386) × Around (length m) (take e.explicit notes) end
      close_asks e ee =
          let k : e.explicit ≡ (described w).explicit = ap (λ (x : Descriptor). x.explicit) ee in (
            omega (arith, its_count ready its_own, its_few ready its_own),
            S.within,
            P.short,
            omega arith,
            subst (λ (i : ℕ). Around (length m) (take i notes) end) (sym k) U.under.around,
          )

      module _ (e : Descriptor) (ee : e ≡ described w) (y : Result Judged Unread)
          (ey : y ≡ told m (λ (n : ℕ). n) (closing m (take e.explicit notes) end (got 0 (drop stop (take end m))))) where
        closed_told : y ≡ told m (λ (n : ℕ). n) (got 0 Rest)
        closed_told =
            ey ∙ ap (λ (x : Descriptor). told m (λ (n : ℕ). n) (closing m (take x.explicit notes) end (got 0 (drop stop (take end m))))) ee
            ∙ ap (λ (u : List ℕ). told m (λ (n : ℕ). n) (closing m (take (described w).explicit notes) end (got 0 u))) (sym S.behind)
            ∙ ap (told m (λ (n : ℕ). n)) (U.closes 0)

        pub must_close : (c : ReadingCause) (l : ℕ) → y ≡ unread c l → ⊥
        unfolding told
        must_close c l d = let q = sym d ∙ closed_told in let z : ◌≡◌ {A = ℕ} 0 1 = cc in omega arith

        rest_behind : Rest ≡ drop (length m - length Rest) m
        unfolding read_record read_value
        rest_behind =
            let e : read_value (table_in b) 25 P.type (drop at m) ≡ got Val Rest
            = subst (λ (r : Record). read_record (table_in b) 24 r (drop at m) ≡ got Val Rest) same_record P.fits.is in
            let q = got_holds (value_sound as_given (table_in b) 25 P.type (drop at m)) e in
            let low : at ≤ length m = omega (arith, P.headed.further, P.headed.low) in
            let f = behind_part m at q.piece Rest q.cut in
            let g = length_behind m at q.piece Rest low q.cut in
            let u : at + length q.piece ≡ length m - length Rest = omega (arith, length-drop (at + length q.piece) m, ap length f) in
            sym f ∙ ap (λ (i : ℕ). drop i m) u

        pub closed_placed : (last n : ℕ) → y ≡ judged last n → IsPlaced (value_in b w (drop at m)) m to buf buf₁ (record { end = last; next = next })
        unfolding told
        closed_placed last n d =
            let z : last ≡ length m - length Rest = ap (λ (x : Judged). x.end) (same_judged (sym d ∙ closed_told)) in
            ended_placed last (omega arith) (rest_behind ∙ ap (λ (i : ℕ). drop i m) (sym z))

-- a whole message
module _ (b : List ℕ) (w t : ℕ) (whole : described w ≡ record { code = 0; own = t; kind = Message; explicit = 0; simple = false }) (m : List ℕ) where
  whole_held : held b w ≡ message t
  unfolding holder_in if
  whole_held = rw whole refl

  pub whole_asks : {index buf : List ℕ} {to : ℕ} → t < count_in b → length m ≤ 8192 → Fits (held_in b (message t) false m) to buf
      → ToPlace b index w m false buf to
  whole_asks {buf = buf} {to = to} h l F =
      record {
        known = of_message t h whole;
        holds = ap (λ (e : Descriptor). e.simple) whole;
        short = l;
        fits = subst (λ (x : Holder). Fits (held_in b x false m) to buf) (sym whole_held) F;
      }

  pub whole_placed : {buf buf₁ : List ℕ} {to : ℕ} {r : Placed} → IsPlaced (held_in b (held b w) false m) m to buf buf₁ r
      → (v : Value) (rest : List ℕ) → held_in b (message t) false m ≡ got v rest → buf₁ ≡ sets buf to (octets v)
  whole_placed placed v rest e = (placed v rest (ap (λ (x : Holder). held_in b x false m) whole_held ∙ e)).buffer
