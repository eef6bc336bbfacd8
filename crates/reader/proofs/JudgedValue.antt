-- A value of a record in a message: under its explicit tags, its length, its contents, simple ones or items, and what stands behind them.
-- Assumes nothing.
use borrow.Author.Tests.{eqb-true, eqb-false}
use lib.Dec.{eqb}
use lib.ListN.{length, get_or, take, drop, length-drop}
use lib.Seq.{drop-drop}
use mathlib.Core.Bool.{Bool, true, false, not, false≢true}
use mathlib.Core.List.{List, [], ◌∷◌}
use mathlib.Core.Logic.{◌⊎◌, inl, inr}
use mathlib.Core.Path.{◌≡◌, refl, sym, ap, subst, ◌∙◌}
use native.Mathlib.Omega.{arith}
use Prim.Native.Nat.{ℕ, ◌+◌, ◌-◌, ◌≤◌, ◌<◌}
use Rattle.std.specs.Prelude.{Option, Some, None, Result, Ok, Err}
use Rattle.x690.specs.declared.ReadingCause.{ReadingCause}
use Rattle.x690.specs.declared.Unread.{Unread}
use Rattle.x690.specs.declared.ReadingCause.TheVariants.{Cut, Trailing}
use Rattle.octets.specs.Answer.{Answer, got, refused, then, if, behind, none_left}
use Rattle.octets.proofs.Answer.{refused≢got}
use Rattle.octets.proofs.Tests.{test}
use Rattle.x690.specs.Reading.{closed, read_length}
use Rattle.x690.specs.Segments.{in_either}
use Rattle.octets.specs.Numbers.{Octets, unless_zero}
use Rattle.ber.specs.Told.{told_length}
use Rattle.ber.specs.declared.length.Extent.{Extent}
use Rattle.ber.proofs.Told.{length_refused}
use Rattle.table.specs.Syntax.{Simple, Boolean, Integer, BitString, OctetString, Null, Enumerated, Time, Body, Plain}
use Rattle.table.specs.Syntax.{Record, Table}
use Rattle.table.specs.Octets.{kind}
use Rattle.table.specs.Reading.{body_at, table_in, count_in}
use Rattle.kinds.specs.Kinds.{octet_of}
use Rattle.kinds.specs.declared.Kind.TheVariants.{Message}
use Rattle.records.specs.Descriptors.{described, Describes}
use Rattle.records.specs.declared.descriptor.Descriptor.{Descriptor}
use Rattle.checker.proofs.Ready.{Ready, ready_by}
use Rattle.coding.specs.Content.{segmented}
use Rattle.coding.specs.Value.{Value, leaf, Leaf, octets}
use Rattle.coding.specs.Reading.{read_value, read_message}
use Rattle.reader.specs.Answers.{judged, unread, cap, told, size}
use Rattle.reader.specs.Items.{Holder, message}
use Rattle.reader.specs.Items.{read_held}
use Rattle.reader.specs.Records.{IsRecord, Known, of_message, holder_in, read_record}
use Rattle.reader.specs.Sought.{held}
use Rattle.reader.specs.Leaves.{is_in_segments, read_leaf, read_leaf_in, leaf_size}
use Rattle.reader.specs.Weights.{size_by}
use Rattle.reader.specs.Judging.{ToJudgeValue}
use Rattle.reader.specs.Wraps.{closing, Around, read_bare, Opens}
use Rattle.reader.specs.declared.answer.Judged.{Judged}
use Rattle.reader.specs.declared.tags.Inner.{Inner}
use Rattle.reader.proofs.ItemsKinds.{message_whole}
use Rattle.reader.proofs.Bodies.{record_of, its_body, its_kind}
use Rattle.reader.proofs.LeafReading.{leaf_end, leaf_shift}
use Rattle.reader.proofs.LeafCode.{whole_done}
use Rattle.reader.proofs.Tagging.{its_entry}
use Rattle.reader.proofs.Weighing.{by_whole, by_parts}
use Rattle.reader.proofs.Opening.{its_count, its_few}
use Rattle.reader.proofs.Tails.{Sane, leaves, stops, tail_less, Closes, held_sane, not_none}
use Rattle.reader.proofs.Told.{told_refused, told_done, tell_refused}
use Rattle.reader.proofs.ValueParts.{Under, Within, contents_sized, contents_bare, Item, Filling, Part, Rest, Bare, left_part, item_unsized, no_choice, P, S, C}
use Rattle.reader.proofs.ValueParts.{size_c, size_part}
use Rattle.reader.proofs.ValueParts.{contents_within, is_plain, leaf_read, leaf_lead, leaf_string, Held, Fine, fine, reads, its_notes}
use Rattle.reader.proofs.ValueParts.{no_notes, tags_refused}
use Rattle.reader.proofs.Wrapping.{closing_refused}
use Rattle.reader.proofs.ClosedAlike.{closing_size}
use Rattle.checker.specs.declared.passed.Passed.{Passed}

-- the item is read, its value has `count` octets, and what follows begins at `stop`
pub record Over (b : List ℕ) (r : Record) (n : ℕ) (p : List ℕ) (at end stop count : ℕ) : Type 0 where
  pub within : stop ≤ end
  pub small : count < 16386
  pub value : Value
  pub is : read_bare b n r (drop at p) ≡ got value (drop stop p)
  pub sized : count ≡ cap (length (octets value))

-- contents that have a size by themselves
sized_by : {n i : ℕ} {x : Option ℕ} → x ≡ unless_zero n → x ≡ Some i → (i ≡ n) × (n ≡ 0 → ⊥)
unfolding if
sized_by {n} {i} e f =
    test (eqb n 0)
    (λ t. let q : ◌≡◌ {A = Option ℕ} (Some i) None = sym f ∙ e ∙ rw t refl in let z : ◌≡◌ {A = ℕ} 0 1 = cc in absurd (omega arith))
    λ t. let q : ◌≡◌ {A = Option ℕ} (Some i) (Some n) = sym f ∙ e ∙ rw t refl in (cc, eqb-false n 0 t)

pub unsized_by : {n : ℕ} {x : Option ℕ} → x ≡ unless_zero n → x ≡ None → n ≡ 0
unfolding if
unsized_by {n} e f =
    test (eqb n 0) (λ t. eqb-true n 0 t)
    λ t. let q : ◌≡◌ {A = Option ℕ} None (Some n) = sym f ∙ e ∙ rw t refl in let z : ◌≡◌ {A = ℕ} 0 1 = cc in absurd (omega arith)

module _ {b : List ℕ} {e : Descriptor} {r : Record} (X : Describes b e r) (lead : ℕ) (c : List ℕ) (f : is_in_segments lead ≡ true → (octet_of e.kind ≡ 3) ⊎ (octet_of e.kind ≡ 4)) where
  by_itself : {n : ℕ} → n ≡ size_by (body_at b (octet_of e.kind) e.own) lead c → (n ≡ 0 → ⊥) → is_in_segments lead ≡ false
  by_itself en some = test (is_in_segments lead) (λ t. absurd (some (en ∙ by_parts b (octet_of e.kind) e.own lead c (f t) t))) (λ t. t)

  pub sized_done : e.simple ≡ true → {z : Bool} → z ≡ false → (l j i : ℕ) {x : Option ℕ} → x ≡ unless_zero (size_by (body_at b (octet_of e.kind) e.own) lead c)
      → size_by (body_at b (octet_of e.kind) e.own) lead c < 16386 → x ≡ Some i
      → judged (length c) i ≡ told c leaf_size (read_leaf_in (body_at b (octet_of e.kind) e.own) (is_in_segments lead) z l j c)
  sized_done s {z} o l j i q h g =
      let (en, some) = sized_by q g in
      let w = by_itself en (λ v. some (sym en ∙ v)) in
      rw w (whole_done X s z l j c o (en ∙ by_whole _ lead c w) (λ v. some (sym en ∙ v)) (omega arith))

-- a string by the number of its kind
string_kind : (k : Simple) → in_either (segmented k) ≡ true → {n : ℕ} → n ≡ kind (Plain k) → (n ≡ 3) ⊎ (n ≡ 4)
unfolding segmented kind
string_kind Boolean e h = absurd (false≢true e)
string_kind Integer e h = absurd (false≢true e)
string_kind BitString e h = inl h
string_kind OctetString e h = inr h
string_kind Null e h = absurd (false≢true e)
string_kind (Enumerated ns) e h = absurd (false≢true e)
string_kind (Time q) e h = absurd (false≢true e)

-- tags that were not opened
pub value_unopened : {b index : List ℕ} (R : Ready b index) {w : ℕ} (I : IsRecord b index w) (m : List ℕ) (first : ℕ) (ns : List ℕ) (y : Result Inner Unread)
    → Opens b (record_of b w) m first ns y → (c : ReadingCause) (l : ℕ) → y ≡ unread c l → (n : ℕ)
    → unread c l ≡ told m size (read_record (table_in b) n (record_of b w) (drop first m))
value_unopened {b} R {w} I m first ns y o c l e n =
    tell_refused m size (read_record (table_in b) n (record_of b w) (drop first m)) c l (tags_refused R I m first ns y o c l e n)

same_extent : {x y : Extent} → ◌≡◌ {A = Result Extent ReadingCause} (Ok x) (Ok y) → x ≡ y
same_extent e = cc

module _ {b index : List ℕ} {w : ℕ} {m : List ℕ} {first level : ℕ} (X : Item b index w m first level) where
  -- what the answer has to be
  abbrev pub Wanted : Result Judged Unread
  Wanted = told m size (read_record (table_in b) level (record_of b w) (drop first m))

  -- a refusal of the item is one of the value
  under_refused : (c : ReadingCause) (l : ℕ) → Bare X ≡ refused c l → unread c (l + (length m - X.end)) ≡ Wanted
  unfolding told
  under_refused c l e =
      rw (
        X.under.whole level,
        e,
        closing_refused {A = Value} m (length m) (take (described w).explicit X.notes) X.end c l
            X.under.around,
      ) refl

  item_unfit : (c : ReadingCause) → Bare X ≡ refused c (length (Rest X)) → unread c (length m - X.at) ≡ Wanted
  item_unfit c e =
      let z : length m - X.at ≡ length (Rest X) + (length m - X.end) = omega (arith, left_part X, X.under.some, X.under.high) in
      rw z (under_refused c (length (Rest X)) e)

  pub value_unread : (octet_of X.entry.kind ≡ 50 → ⊥) → (z : Result Extent ReadingCause) → z ≡ told_length (length (Part X)) (read_length (length (Rest X)) (drop X.from (Part X)))
      → (c : ReadingCause) → z ≡ Err c → unread c (length m - X.at) ≡ Wanted
  value_unread k z az c q =
      item_unfit c (item_unsized X (no_choice X k) c (length (Rest X)) (length_refused (Part X) X.from (length (Rest X)) z az c q))

  -- as the code tells where its contents are: a CHOICE has no length of its own
  abbrev pub Told : Result Extent ReadingCause → Type 0
  Told r =
      (octet_of X.entry.kind ≡ 50 → r ≡ Ok (record { start = X.at; end = X.end; indefinite = false }))
      × ((octet_of X.entry.kind ≡ 50 → ⊥) → (l : ℕ) → r ≡ told_length (length (Part X)) (read_length l (drop X.from (Part X))))

  module _ (r : Result Extent ReadingCause) (t : Told r) where
    pub extent_refused : (c : ReadingCause) → r ≡ Err c → unread c (length m - X.at) ≡ Wanted
    extent_refused c e =
        test (eqb (octet_of X.entry.kind) 50)
        (λ k. let q = sym (t.0 (eqb-true (octet_of X.entry.kind) 50 k)) ∙ e in let z : ◌≡◌ {A = ℕ} 0 1 = cc in absurd (omega arith))
        λ k. let n = eqb-false (octet_of X.entry.kind) 50 k in value_unread n r (t.1 n _) c e

    pub extent_read : (x : Extent) → r ≡ Ok x → Within (record_of b w) (Part X) X.at X.end x.start x.end x.indefinite
    extent_read x e =
        test (eqb (octet_of X.entry.kind) 50)
        (λ k.
        let n = eqb-true (octet_of X.entry.kind) 50 k in
        let q = same_extent (sym (t.0 n) ∙ e) in
        subst (λ (y : Extent). Within (record_of b w) (Part X) X.at X.end y.start y.end y.indefinite) q (contents_bare X n))
        λ k. let n = eqb-false (octet_of X.entry.kind) 50 k in contents_sized X n r (t.1 n _) x e

abbrev pub item_of : (p : Passed) {w at from level : ℕ} {m : List ℕ} {e : Descriptor} → ToJudgeValue p.octets.now p.index.now w m at from level → e ≡ described w
    → Octets m → (notes : List ℕ) (x : Inner)
    → Under p.octets.now (record_of p.octets.now w) m at (take (described w).explicit notes) x.at x.from x.end → Item p.octets.now p.index.now w m at level
item_of p {e = e} q ee o notes x u =
    record {
      ready = ready_by p;
      known = q.is;
      all_octets = o;
      short = q.short;
      entry = e;
      entered = ee;
      notes = notes;
      at = x.at;
      from = x.from;
      end = x.end;
      under = u;
    }

abbrev pub filling_of : {b index : List ℕ} {w : ℕ} {m : List ℕ} {first level : ℕ} (X : Item b index w m first level) {r : Result Extent ReadingCause} → Told X r
    → {x : Extent} → r ≡ Ok x → Filling b index w m first level
filling_of X {r} t {x} e = record { item = X; start = x.start; stop = x.end; indefinite = x.indefinite; within = extent_read X r t x e }

module _ {b index : List ℕ} {w : ℕ} {m : List ℕ} {first level : ℕ} (Y : Filling b index w m first level) where
  -- simple contents
  module _ (simple : Y.item.entry.simple ≡ true) where
    abbrev Lead : ℕ
    Lead = get_or m Y.item.at 0

    pub leaf_kind_lem : is_in_segments Lead ≡ true → (octet_of Y.item.entry.kind ≡ 3) ⊎ (octet_of Y.item.entry.kind ≡ 4)
    leaf_kind_lem t =
        let (k, q) = is_plain Y simple in
        let e = ap (λ (x : Descriptor). octet_of x.kind) Y.item.entered ∙ its_kind Y.item.ready Y.item.known ∙ ap kind q in
        string_kind k (leaf_string Y simple k q (sym (leaf_lead Y simple k q) ∙ t)) e

    its_entered : Describes b Y.item.entry (table_in b Y.item.known.0)
    its_entered = rw Y.item.entered (its_entry Y.item.ready Y.item.known)

    module _ (y : Result Judged Unread) (ey : y ≡ told (C Y) leaf_size (read_leaf_in (body_at b (octet_of Y.item.entry.kind) Y.item.entry.own) (is_in_segments Lead) Y.indefinite
        (length m - Y.item.at) (length m - Y.stop) (C Y))) where
      -- the same in the octets around the item, with what stands behind those
      record Local : Type 0 where
        answer : Answer ReadingCause Leaf
        told_so : y ≡ told (C Y) leaf_size (behind (length m - Y.item.end) answer)
        reads_so : Bare Y.item ≡ leaf_end (C Y) (drop Y.start (P Y)) answer

      local : Local
      unfolding read_leaf_in
      local =
          let (k, q) = is_plain Y simple in
          let n = length m - Y.item.end in
          let i : length m - Y.item.at ≡ length (S Y) + n = omega (arith, left_part Y.item, Y.item.under.some, Y.item.under.high) in
          let j : length m - Y.stop ≡ Y.item.end - Y.stop + n = omega (arith, Y.within.high, Y.item.under.high) in
          let e = ey ∙ ap (λ (x : Descriptor). told (C Y) leaf_size (read_leaf_in (body_at b (octet_of x.kind) x.own) (is_in_segments Lead) Y.indefinite
          (length m - Y.item.at) (length m - Y.stop) (C Y))) Y.item.entered
          ∙ ap (λ (x : Body). told (C Y) leaf_size (read_leaf_in x (is_in_segments Lead) Y.indefinite (length m - Y.item.at) (length m - Y.stop) (C Y)))
          (its_body Y.item.ready Y.item.known ∙ q) in
          record {
            answer = read_leaf k Y.within.parts Y.indefinite (length (S Y)) (Y.item.end - Y.stop) (C Y);
            told_so = e ∙ ap (told (C Y) leaf_size)
                (ap (λ (p : Bool). read_leaf k p Y.indefinite (length m - Y.item.at) (length m - Y.stop) (C Y)) (leaf_lead Y simple k q)
                ∙ ap (λ (x : ℕ × ℕ). read_leaf k Y.within.parts Y.indefinite x.0 x.1 (C Y)) (λ h. (i h, j h))
                ∙ leaf_shift k Y.within.parts Y.indefinite (length (S Y)) (Y.item.end - Y.stop) n (C Y));
            reads_so = leaf_read Y simple k q;
          }

      pub value_wrong : (c : ReadingCause) (l : ℕ) → y ≡ unread c l → unread c l ≡ Wanted Y.item
      unfolding behind then
      value_wrong c l d = go local.answer local.reads_so (told_refused (C Y) leaf_size (behind (length m - Y.item.end) local.answer) y local.told_so c l d)
        where
          go : (x : Answer ReadingCause Leaf) → Bare Y.item ≡ leaf_end (C Y) (drop Y.start (P Y)) x → behind (length m - Y.item.end) x ≡ refused c l → unread c l ≡ Wanted Y.item
          go (got x s) r e = refused≢got (sym e)
          go (refused a j) r e =
              let z : a ≡ c = cc in
              let v : j + (length m - Y.item.end) ≡ l = cc in
              rw (← z, ← v) (under_refused Y.item a j r)

      module _ (u i : ℕ) (d : y ≡ judged u i) where
        pub over_leaf : Over b (record_of b w) level (P Y) Y.item.at Y.item.end (Y.start + u) i
        unfolding behind then octets
        over_leaf =
            let (x, s, e, f, g) = told_done (C Y) leaf_size (behind (length m - Y.item.end) local.answer) y local.told_so u i d in
            let r = its local.answer local.reads_so x s e in
            record {
              within = omega (arith, size_c Y, Y.within.ordered, Y.within.high);
              small = omega arith;
              value = leaf x;
              is = r ∙ ap (got (leaf x)) (drop-drop (length (C Y) - length s) Y.start (P Y) ∙ ap (λ (j : ℕ). drop (Y.start + j) (P Y)) (sym f));
              sized = g;
            }
          where
            its : (z : Answer ReadingCause Leaf) → Bare Y.item ≡ leaf_end (C Y) (drop Y.start (P Y)) z → (x : Leaf) (s : List ℕ) → behind (length m - Y.item.end) z ≡ got x s
                → Bare Y.item ≡ got (leaf x) (drop (length (C Y) - length s) (drop Y.start (P Y)))
            its (got a t) r x s e = let p : a ≡ x = cc in let q : t ≡ s = cc in rw (← p, ← q) r
            its (refused c l) r x s e = refused≢got e

  -- items
  module _ (plain : Y.item.entry.simple ≡ false) where
    few_left : (c : ReadingCause) (l : ℕ) (x : Answer ReadingCause Value) → Fine Y plain x → x ≡ refused c l → l ≤ length (C Y)
    few_left c l (got v u) s q = refused≢got (sym q)
    few_left c l (refused a i) (stops h) q = let z : i ≡ l = cc in omega arith

    module _ (y : Result Judged Unread) (ey : y ≡ told (C Y) size (Held Y plain)) where
      module _ (c : ReadingCause) (l : ℕ) (d : y ≡ unread c l) where
        its_refusal : Held Y plain ≡ refused c l
        its_refusal = told_refused (C Y) size (Held Y plain) y ey c l d

        pub items_low : l + (length m - Y.stop) ≤ 8192
        items_low = omega (arith, few_left c l (Held Y plain) (fine Y plain) its_refusal, size_c Y, contents_within Y, Y.item.short)

        pub value_unheld : unread c (l + (length m - Y.stop)) ≡ Wanted Y.item
        value_unheld =
            let q : l + (length m - Y.stop) ≡ l + (Y.item.end - Y.stop) + (length m - Y.item.end)
            = omega (arith, Y.within.high, Y.item.under.high) in
            rw q
            (under_refused Y.item c (l + (Y.item.end - Y.stop))
            (reads Y plain (refused c l) its_refusal (rw its_refusal at (fine Y plain))))

      module _ (u i : ℕ) (d : y ≡ judged u i) where
        pub over_items : Over b (record_of b w) level (P Y) Y.item.at Y.item.end (Y.start + u) i
        over_items =
            let (v, s, x, f, g) = told_done (C Y) size (Held Y plain) y ey u i d in
            record {
              within = omega (arith, size_c Y, Y.within.ordered, Y.within.high);
              small = omega arith;
              value = v;
              is = reads Y plain (got v s) x (rw x at (fine Y plain)) ∙ ap (λ (j : ℕ). got v (drop (Y.start + j) (P Y))) (sym f);
              sized = g;
            }

-- its end, where its contents are judged
pub record Ended (b index : List ℕ) (w : ℕ) (m : List ℕ) (first level : ℕ) : Type 0 where
  pub item : Item b index w m first level
  pub stop : ℕ
  pub count : ℕ
  pub over : Over b (record_of b w) level (take item.end m) item.at item.end stop count

abbrev pub ended_of : {b index : List ℕ} {w : ℕ} {m : List ℕ} {first level : ℕ} (X : Item b index w m first level) (stop count : ℕ)
    → Over b (record_of b w) level (take X.end m) X.at X.end stop count → Ended b index w m first level
ended_of X stop count o = record { item = X; stop = stop; count = count; over = o }

module _ {b index : List ℕ} {w : ℕ} {m : List ℕ} {first level : ℕ} (Z : Ended b index w m first level) where
  abbrev It : Item b index w m first level
  It = Z.item

  abbrev Behind : ℕ → Answer ReadingCause ℕ
  Behind n = got n (drop Z.stop (take It.end m))

  abbrev AllNotes : List ℕ
  AllNotes = take It.entry.explicit It.notes

  notes_same : AllNotes ≡ take (described w).explicit It.notes
  notes_same = its_notes It.ready It.known It.entry It.entered It.notes

  pub item_tags : It.entry.explicit ≤ 4
  item_tags = omega (arith, ap (λ (x : Descriptor). x.explicit) It.entered, its_count It.ready It.known, its_few It.ready It.known)

  pub item_closes : (It.entry.explicit ≤ 4) × (Z.stop ≤ It.end) × (length m ≤ 8192) × (Z.count < 16386)
      × Around (length m) AllNotes It.end
  item_closes = (item_tags, Z.over.within, It.short, Z.over.small, rw notes_same It.under.around)

  closed_is : Wanted It ≡ told m (λ (i : ℕ). i) (closing m (take (described w).explicit It.notes) It.end (Behind Z.count))
  closed_is =
      let ns = take (described w).explicit It.notes in
      let v = Z.over.value in
      let q : cap (length (octets v)) ≡ cap Z.count = omega (arith, Z.over.sized, Z.over.small) in
      ap (told m size) (It.under.whole level ∙ ap (closing m ns It.end) Z.over.is)
      ∙ closing_size m ns It.end v Z.count (drop Z.stop (take It.end m)) size (λ (i : ℕ). i) q

  pub value_closed : (y : Result Judged Unread) → y ≡ told m (λ (i : ℕ). i) (closing m AllNotes It.end (Behind Z.count)) → y ≡ Wanted It
  value_closed y e = e ∙ ap (λ (l : List ℕ). told m (λ (i : ℕ). i) (closing m l It.end (Behind Z.count))) notes_same ∙ sym closed_is

  pub value_over : It.entry.explicit ≤ 0 → judged Z.stop Z.count ≡ Wanted It
  unfolding told closing Around
  value_over l =
      let z = no_notes It.ready It.known It.entry It.entered l It.notes in
      let a : length m ≡ It.end = rw z at It.under.around in
      let e = It.end in
      let q : length m - length (drop Z.stop (take e m)) ≡ Z.stop = omega
      (arith, length-drop Z.stop (take e m), size_part It, Z.over.within) in
      let g : cap Z.count ≡ Z.count = omega (arith, Z.over.small) in
      sym (closed_is ∙ rw (z, q, g) refl)

-- a whole message of type t
pub message_known : {b index : List ℕ} (w t : ℕ) → t < count_in b → described w ≡ record { code = 0; own = t; kind = Message; explicit = 0; simple = false }
    → Known b index w × ((described w).simple ≡ false)
message_known w t h q = (of_message t h q, ap (λ (x : Descriptor). x.simple) q)

pub message_empty : (T : Table) (n t : ℕ) (m : List ℕ) → length m ≡ 0 → unread Cut 0 ≡ told m size (read_message T n t m)
unfolding told read_message none_left if
message_empty T n t [] z = refl
message_empty T n t (x ∷ m) z = absurd (omega arith)

module _ (b m : List ℕ) (n t : ℕ) (some : length m ≡ 0 → ⊥) (w : ℕ)
    (q : described w ≡ record { code = 0; own = t; kind = Message; explicit = 0; simple = false })
    (y : Result Judged Unread) (ey : y ≡ told m size (read_held (table_in b) (read_value (table_in b) n) (held b w) closed m)) where
  abbrev Root : Answer ReadingCause Value
  Root = read_held (table_in b) (read_value (table_in b) n) (message t) closed m

  abbrev Whole : Result Judged Unread
  Whole = told m size (read_message (table_in b) n t m)

  its_root : held b w ≡ message t
  unfolding holder_in if
  its_root = rw q refl

  its_answer : y ≡ told m size Root
  its_answer = ey ∙ ap (λ (h : Holder). told m size (read_held (table_in b) (read_value (table_in b) n) h closed m)) its_root

  its_whole : read_message (table_in b) n t m ≡ then Root λ v r. if (not (none_left r)) (refused Trailing (length r)) λ _. got v r
  unfolding if
  its_whole = message_whole (table_in b) n t closed m ∙ rw (not_none m some) refl

  pub message_refused : (c : ReadingCause) (l : ℕ) → y ≡ unread c l → unread c l ≡ Whole
  unfolding told then
  message_refused c l d = rw (its_whole, told_refused m size Root y its_answer c l d) refl

  module _ (u i : ℕ) (d : y ≡ judged u i) where
    rest_length : (v : Value) (s : List ℕ) → Root ≡ got v s → length s ≤ length m
    rest_length v s x = go (got v s) (rw x at (held_sane (table_in b) n (message t) closed m)) refl
      where
        go : (z : Answer ReadingCause Value) → Sane (Closes (table_in b) n (message t) closed) m z → z ≡ got v s → length s ≤ length m
        go (got a r) (leaves h p) e = let k : r ≡ s = cc in omega (arith, tail_less h, ap length k)
        go (refused c l) h e = refused≢got e

    pub message_trailing : u < length m → unread Trailing (length m - u) ≡ Whole
    unfolding told then if none_left
    message_trailing l =
        let (v, s, x, f, g) = told_done m size Root y its_answer u i d in
        let k : length m - u ≡ length s = omega (arith, rest_length v s x) in
        rw (its_whole, x, k) (go v s (omega arith))
      where
        go : (v : Value) (s : List ℕ) → 0 < length s → unread Trailing (length s) ≡ told m size
            (if (not (none_left s)) (refused Trailing (length s)) λ _. got v s)
        go v [] l = absurd (omega arith)
        go v (a ∷ s) l = refl

    pub message_done : length m ≤ u → judged u i ≡ Whole
    unfolding told then if none_left
    message_done l =
        let (v, s, x, f, g) = told_done m size Root y its_answer u i d in
        rw (its_whole, x) (go v s (omega (arith, rest_length v s x)) f g)
      where
        go : (v : Value) (s : List ℕ) → length s ≡ 0 → u ≡ length m - length s → i ≡ cap (length (octets v))
            → judged u i ≡ told m size (if (not (none_left s)) (refused Trailing (length s)) λ _. got v s)
        go v [] z f g = rw (f, g) refl
        go v (a ∷ s) z f g = absurd (omega arith)
