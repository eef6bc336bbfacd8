-- A value of a record in a message, taken apart: what stands under its explicit tags, its length, and its contents, simple ones or items.
-- Assumes nothing.
use borrow.Author.Tests.{eq-eqb, ne_eqb, not-true, not-false}
use lib.ListN.{length, get_or, take, drop, length-drop}
use lib.Seq.{take-length, take-take, length-take-le, drop-drop, get_or-take, get_or-drop}
use mathlib.Core.Bool.{Bool, true, false, not, true≢false, false≢true}
use mathlib.Core.List.{List, [], ◌∷◌, ◌++◌}
use mathlib.Core.Path.{◌≡◌, refl, sym, ap, ◌∙◌}
use native.Mathlib.Omega.{arith}
use Prim.Native.Nat.{ℕ, ◌+◌, ◌-◌, ◌≤◌, ◌<◌}
use Rattle.std.specs.Prelude.{Result, Ok}
use Rattle.x690.specs.declared.ReadingCause.{ReadingCause}
use Rattle.x690.specs.declared.Unread.{Unread}
use Rattle.octets.specs.Answer.{Answer, got, refused, then, behind}
use Rattle.octets.specs.Numbers.{Octets}
use Rattle.octets.proofs.Answer.{got_holds}
use Rattle.octets.proofs.Tests.{test}
use Rattle.ber.specs.Codes.{code_of}
use Rattle.x690.specs.Reading.{Mode, closed, open_ended, read_length, read_header, inside as inside_size}
use Rattle.x690.specs.Reading.{read_constructed, read_identifier}
use Rattle.x690.specs.Segments.{in_either}
use Rattle.x690.proofs.Identifiers.{identifier_sound, identifier_some}
use Rattle.ber.specs.Told.{told_length, mode}
use Rattle.ber.specs.declared.length.Extent.{Extent}
use Rattle.ber.proofs.Told.{length_definite, length_indefinite}
use Rattle.table.specs.Syntax.{Simple, Body, Plain}
use Rattle.table.specs.Syntax.{Record, is_choice, constructed}
use Rattle.table.specs.Reading.{table_in}
use Rattle.kinds.specs.Kinds.{octet_of}
use Rattle.records.specs.Descriptors.{described}
use Rattle.records.specs.declared.descriptor.Descriptor.{Descriptor}
use Rattle.coding.specs.Tags.{own_tag, explicit}
use Rattle.coding.specs.Content.{segmented}
use Rattle.coding.specs.Value.{Value}
use Rattle.coding.specs.Reading.{read_wrapped, read_value}
use Rattle.reader.specs.Answers.{unread}
use Rattle.reader.specs.Codes.{own_either, either}
use Rattle.reader.specs.Items.{Holder, inside, manner, is_single}
use Rattle.reader.specs.Items.{read_held}
use Rattle.reader.specs.Records.{IsRecord, Known, of_record, read_record}
use Rattle.reader.specs.Leaves.{is_in_segments, read_leaf}
use Rattle.reader.specs.Sought.{held}
use Rattle.reader.specs.Wraps.{closing, Around, Headed, read_bare, Opens}
use Rattle.reader.specs.declared.tags.Inner.{Inner}
use Rattle.reader.proofs.Bodies.{record_of, nil_of, plain_of, no_alternatives, single_kind, Built, its_holder, its_built}
use Rattle.reader.proofs.Bodies.{its_choice, its_simple}
use Rattle.reader.proofs.Opening.{octets_drop, octets_take, slice_is, its_count, its_first, either_own}
use Rattle.reader.proofs.Tagging.{own_at, own_low, own_first, sent_at, its_fit}
use Rattle.reader.proofs.OwnForm.{Form, form_of, form_lead, form_own, form_string, lead_header}
use Rattle.reader.proofs.LeafReading.{leaf_end, size_of, form_read, form_refused}
use Rattle.reader.proofs.Tails.{Sane, leaves, stops, tail_at, Closes, held_sane}
use Rattle.checker.proofs.Ready.{Ready}

-- Under the explicit tags of r, the item of r stands from `at` on, in octets that end at `end`; its identifier, if it has one, ends at `from`.
-- The value of r is what closing the tags makes of what is read there.
pub record Under (b : List ℕ) (r : Record) (m : List ℕ) (first : ℕ) (ns : List ℕ) (at from end : ℕ) : Type 0 where
  pub some : at < end
  pub high : end ≤ length m
  pub around : Around (length m) ns end
  pub headed : is_choice r.body ≡ false → Headed (take end m) at from (own_either r.body) (code_of (own_tag r))
  pub whole : (n : ℕ) → read_record (table_in b) n r (drop first m) ≡ closing m ns end (read_bare b n r (drop at (take end m)))

-- where the contents of that item stand, behind the identifier octets `lead`, of which bit 6 is set if `parts`
pub record Within (r : Record) (p : List ℕ) (at end start stop : ℕ) (indefinite : Bool) : Type 0 where
  pub ordered : start ≤ stop
  pub high : stop ≤ end
  pub unsized : indefinite ≡ true → stop ≡ end
  pub further : is_choice r.body ≡ false → at < start
  pub bare : is_choice r.body ≡ true → (start ≡ at) × (stop ≡ end)
  pub lead : List ℕ
  pub parts : Bool
  pub form : is_choice r.body ≡ false → Form r lead parts
  pub leads : is_choice r.body ≡ false → (u : List ℕ) × (read_identifier (drop at p) ≡ got lead u)
  pub header : is_choice r.body ≡ false → read_header lead (drop at p) ≡ got (size_of indefinite (stop - start)) (drop start p)

-- the item of a constructed kind, by its header
module _ (i : List ℕ) (s : List ℕ) (z : Bool) (n : ℕ) (u : List ℕ) (h : read_header i s ≡ got (size_of z n) u)
    (body : Mode → List ℕ → Answer ReadingCause Value) where
  built_open : z ≡ true → read_constructed i body s ≡ body open_ended u
  unfolding read_constructed then inside_size
  built_open t = let g = rw t at h in rw g refl

  built_sized : z ≡ false → read_constructed i body s ≡ then (behind (length u - n) (body closed (take n u))) λ v w. got v (drop n u)
  unfolding read_constructed then inside_size
  built_sized t = let g = rw t at h in rw g refl

-- the notes of the explicit tags of an entry
module _ {b index : List ℕ} (R : Ready b index) {w : ℕ} (I : IsRecord b index w) where
  abbrev r : Record
  r = record_of b w

  module _ (e : Descriptor) (ee : e ≡ described w) where
    pub its_notes : (notes : List ℕ) → take e.explicit notes ≡ take (described w).explicit notes
    its_notes notes = ap (λ (x : Descriptor). take x.explicit notes) ee

    pub no_notes : e.explicit ≤ 0 → (notes : List ℕ) → take (described w).explicit notes ≡ []
    no_notes l notes = let z : e.explicit ≡ 0 = omega arith in sym (its_notes notes) ∙ ap (λ (i : ℕ). take i notes) z

    -- without tags
    pub under_bare : (m : List ℕ) (first from : ℕ) → e.explicit ≤ 0 → Headed m first from (either r) (described w).code → (notes : List ℕ)
        → Under b r m first (take (described w).explicit notes) first from (length m)
    unfolding Around closing read_record read_wrapped
    under_bare m first from l h notes =
        let z : length (explicit r) ≡ 0 = omega (arith, ap (λ (x : Descriptor). x.explicit) ee, its_count R I) in
        rw (no_notes l notes)
        (record {
          some = omega (arith, h.further, h.low);
          high = omega arith;
          around = refl;
          headed = λ n. rw (take-length m, own_first r (its_fit R I) z n, ← its_first R I, ← either_own r (its_fit R I) 0 (sym z)) h;
          whole = λ n. rw (nil_of (explicit r) z, take-length m) refl;
        })

  -- with tags
  module _ (m : List ℕ) (first : ℕ) (ns : List ℕ) (y : Result Inner Unread) (o : Opens b r m first ns y) where
    pub tags_refused : (c : ReadingCause) (l : ℕ) → y ≡ unread c l → (n : ℕ) → read_record (table_in b) n r (drop first m) ≡ refused c l
    tags_refused c l e = let (_, q) : Opens b r m first ns (unread c l) = rw e at o in q

    pub under_tags : (x : Inner) → y ≡ Ok x → Under b r m first ns x.at x.from x.end
    under_tags x e =
        let (_, i, h, a, g, q) : Opens b r m first ns (Ok x) = rw e at o in
        record { some = i; high = h; around = a; headed = g; whole = q }

-- An item of a record where its tags are opened: what the value stands in, and where. The values in it have `level` levels.
pub record Item (b index : List ℕ) (w : ℕ) (m : List ℕ) (first level : ℕ) : Type 0 where
  pub ready : Ready b index
  pub known : IsRecord b index w
  pub all_octets : Octets m
  pub short : length m ≤ 8192
  pub entry : Descriptor
  pub entered : entry ≡ described w
  pub notes : List ℕ
  pub at : ℕ
  pub from : ℕ
  pub end : ℕ
  pub under : Under b (record_of b w) m first (take (described w).explicit notes) at from end

module _ {b index : List ℕ} {w : ℕ} {m : List ℕ} {first level : ℕ} (X : Item b index w m first level) where
  abbrev pub Rec : Record
  Rec = record_of b w

  -- the octets around the item, and those from its first on
  abbrev pub Part : List ℕ
  Part = take X.end m

  abbrev pub Rest : List ℕ
  Rest = drop X.at Part

  abbrev pub Bare : Answer ReadingCause Value
  Bare = read_bare b level Rec Rest

  pub size_part : length Part ≡ X.end
  size_part = length-take-le X.end m X.under.high

  pub left_part : length Rest ≡ X.end - X.at
  left_part = length-drop X.at Part ∙ ap (λ (i : ℕ). i - X.at) size_part

  pub item_within : X.at ≤ length m
  item_within = omega (arith, X.under.some, X.under.high)

  pub item_inside : X.at < length m
  item_inside = omega (arith, X.under.some, X.under.high)

  pub item_around : X.end ≡ length Part
  item_around = sym size_part

  -- its identifier, and the length behind it
  own_form : (n : is_choice Rec.body ≡ false) → (parts : Bool) × Form Rec (X.under.headed n).identifier parts
  own_form n =
      let h = X.under.headed n in
      let o = octets_drop Part (octets_take m X.all_octets X.end) X.at in
      let F = its_fit X.ready X.known in
      let y = sent_at Rec F (length (explicit Rec)) (own_low Rec F n) Rest h.identifier (drop X.from Part) o h.is in
      form_of Rec h.identifier (rw (own_at Rec n, either_own Rec F (length (explicit Rec)) refl) at y ∙ h.coded)

  own_header : (n : is_choice Rec.body ≡ false) → read_header (X.under.headed n).identifier Rest ≡ read_length (length Rest) (drop X.from Part)
  own_header n = let h = X.under.headed n in lead_header Rest h.identifier (drop X.from Part) h.is

  -- an item whose length is refused
  pub item_unsized : is_choice Rec.body ≡ false → (c : ReadingCause) (l : ℕ) → read_length (length Rest) (drop X.from Part) ≡ refused c l → Bare ≡ refused c l
  item_unsized n c l e = form_refused (table_in b) _ Rec Rest c l n (X.under.headed n).identifier _ (X.under.headed n).is (own_form n).1 (own_header n ∙ e)

  pub no_choice : (octet_of X.entry.kind ≡ 50 → ⊥) → is_choice Rec.body ≡ false
  no_choice n = sym (its_choice X.ready X.known X.entry X.entered) ∙ ne_eqb (octet_of X.entry.kind) 50 n

  is_chosen : (octet_of X.entry.kind) ≡ 50 → is_choice Rec.body ≡ true
  is_chosen y = sym (its_choice X.ready X.known X.entry X.entered) ∙ eq-eqb (octet_of X.entry.kind) 50 y

  pub contents_bare : (octet_of X.entry.kind) ≡ 50 → Within Rec Part X.at X.end X.at X.end false
  contents_bare y =
      record {
        ordered = omega (arith, X.under.some);
        high = omega arith;
        unsized = λ e. absurd (false≢true e);
        further = λ n. absurd (true≢false (sym (is_chosen y) ∙ n));
        bare = λ _. (refl, refl);
        lead = [];
        parts = false;
        form = λ n. absurd (true≢false (sym (is_chosen y) ∙ n));
        leads = λ n. absurd (true≢false (sym (is_chosen y) ∙ n));
        header = λ n. absurd (true≢false (sym (is_chosen y) ∙ n));
      }

  module _ (k : (octet_of X.entry.kind) ≡ 50 → ⊥) (z : Result Extent ReadingCause) (az : z ≡ told_length (length Part) (read_length (length Rest) (drop X.from Part))) where
    pub contents_sized : (x : Extent) → z ≡ Ok x → Within Rec Part X.at X.end x.start x.end x.indefinite
    contents_sized x q =
        let n = no_choice k in
        test x.indefinite
        (λ t.
        let y = length_indefinite Part X.from (length Rest) z az x q t in
        record {
          ordered = omega (arith, y.2, y.3);
          high = omega (arith, y.3, size_part);
          unsized = λ _. y.3 ∙ size_part;
          further = λ _. omega (arith, y.1, (X.under.headed n).further);
          bare = λ c. absurd (true≢false (sym c ∙ n));
          lead = (X.under.headed n).identifier;
          parts = (own_form n).0;
          form = λ _. (own_form n).1;
          leads = λ _. (_, (X.under.headed n).is);
          header = λ _. own_header n ∙ rw t y.0;
        })
        λ t.
        let y = length_definite Part X.from (length Rest) z az x q t in
        record {
          ordered = y.2;
          high = omega (arith, y.3, size_part);
          unsized = λ e. absurd (true≢false (sym e ∙ t));
          further = λ _. omega (arith, y.1, (X.under.headed n).further);
          bare = λ c. absurd (true≢false (sym c ∙ n));
          lead = (X.under.headed n).identifier;
          parts = (own_form n).0;
          form = λ _. (own_form n).1;
          leads = λ _. (_, (X.under.headed n).is);
          header = λ _. own_header n ∙ rw t y.0;
        }

first_of : (i u : List ℕ) → 0 < length i → get_or (i ++ u) 0 0 ≡ get_or i 0 0
first_of [] u h = absurd (omega arith)
first_of (x ∷ i) u h = refl

-- its contents, by the length
pub record Filling (b index : List ℕ) (w : ℕ) (m : List ℕ) (first level : ℕ) : Type 0 where
  pub item : Item b index w m first level
  pub start : ℕ
  pub stop : ℕ
  pub indefinite : Bool
  pub within : Within (record_of b w) (take item.end m) item.at item.end start stop indefinite

module _ {b index : List ℕ} {w : ℕ} {m : List ℕ} {first level : ℕ} (Y : Filling b index w m first level) where
  abbrev pub X : Item b index w m first level
  X = Y.item

  abbrev pub U : Under b (record_of b w) m first (take (described w).explicit X.notes) X.at X.from X.end
  U = X.under

  abbrev pub W : Within (record_of b w) (take X.end m) X.at X.end Y.start Y.stop Y.indefinite
  W = Y.within

  abbrev pub Kept : Body
  Kept = (record_of b w).body

  abbrev pub Own : List ℕ
  Own = own_tag (record_of b w)

  abbrev pub SizeOf : ℕ
  SizeOf = Y.stop - Y.start

  abbrev pub P : List ℕ
  P = Part X

  abbrev pub S : List ℕ
  S = drop X.at P

  abbrev pub C : List ℕ
  C = take SizeOf (drop Y.start m)

  pub contents_within : (Y.start ≤ Y.stop) × (Y.stop ≤ length m)
  contents_within = (W.ordered, omega (arith, W.high, U.high))

  slice_c : drop Y.start (take Y.stop m) ≡ C
  slice_c = sym (slice_is Y.start Y.stop m W.ordered contents_within.1)

  pub size_c : length C ≡ SizeOf
  size_c = length-take-le SizeOf (drop Y.start m) (omega (arith, length-drop Y.start m, contents_within))

  pub contents_short : length C ≤ 8192
  contents_short = omega (arith, size_c, contents_within, X.short)

  part_c : take SizeOf (drop Y.start P) ≡ C
  part_c =
      slice_is Y.start Y.stop P W.ordered (omega (arith, size_part X, W.high))
      ∙ ap (drop Y.start) (take-take Y.stop X.end m W.high) ∙ slice_c

  rest_c : drop SizeOf (drop Y.start P) ≡ drop Y.stop P
  rest_c =
      let q : Y.start + SizeOf ≡ Y.stop = omega (arith, W.ordered) in
      drop-drop SizeOf Y.start P ∙ ap (λ (i : ℕ). drop i P) q

  all_c : Y.stop ≡ X.end → drop Y.start P ≡ C
  all_c z = ap (λ (i : ℕ). drop Y.start (take i m)) (sym z) ∙ slice_c

  kept_simple : X.entry.simple ≡ not (constructed Kept)
  kept_simple = its_simple X.ready X.known X.entry X.entered

  -- simple ones
  module _ (simple : X.entry.simple ≡ true) where
    pub is_plain : (k : Simple) × (Kept ≡ Plain k)
    is_plain = plain_of Kept (not-true (constructed Kept) (sym kept_simple ∙ simple))

    -- what the contents give, the item gives
    pub leaf_read : (k : Simple) → Kept ≡ Plain k → Bare X ≡ leaf_end C (drop Y.start P) (read_leaf k W.parts Y.indefinite (length S) (X.end - Y.stop) C)
    leaf_read k q =
        let n = no_alternatives Kept k q in
        let u = drop Y.start P in
        let fits : SizeOf ≤ length u = omega (arith, length-drop Y.start P, size_part X, W.ordered, W.high) in
        let all : Y.indefinite ≡ true → SizeOf ≡ length u = λ t. let z = W.unsized t in omega (arith, length-drop Y.start P, size_part X) in
        let g : length u - SizeOf ≡ X.end - Y.stop = omega (arith, length-drop Y.start P, size_part X, W.ordered, W.high) in
        form_read (table_in b) (read_value (table_in b) level) (record_of b w) S k q Y.indefinite SizeOf u (W.leads n).0 fits all
        W.lead (W.leads n).1 (W.form n) (W.header n)
        ∙ rw (part_c, g) refl

    pub leaf_lead : (k : Simple) → Kept ≡ Plain k → is_in_segments (get_or m X.at 0) ≡ W.parts
    leaf_lead k q =
        let n = no_alternatives Kept k q in
        let e = got_holds (identifier_sound S) (W.leads n).1 in
        let i = got_holds (identifier_some S) (W.leads n).1 in
        let z : X.at + 0 ≡ X.at = omega arith in
        let s : get_or S 0 0 ≡ get_or m X.at 0 = get_or-drop X.at P 0 0 ∙ ap (λ (j : ℕ). get_or P j 0) z ∙ get_or-take X.end m X.at 0 U.some in
        ap is_in_segments (sym s ∙ ap (λ (l : List ℕ). get_or l 0 0) e ∙ first_of W.lead (W.leads n).0 i)
        ∙ form_lead (record_of b w) k q W.lead (W.form n)

    pub leaf_string : (k : Simple) → Kept ≡ Plain k → W.parts ≡ true → in_either (segmented k) ≡ true
    leaf_string k q t = form_string (record_of b w) k q W.lead W.parts (W.form (no_alternatives Kept k q)) t

  -- items
  module _ (plain : X.entry.simple ≡ false) where
    abbrev pub Held : Answer ReadingCause Value
    Held = read_held (table_in b) (read_value (table_in b) level) (held b w) (mode Y.indefinite) C

    abbrev HeldIn : Mode → List ℕ → Answer ReadingCause Value
    HeldIn k s = read_held (table_in b) (read_value (table_in b) level) (inside Kept) k s

    is_built : constructed Kept ≡ true
    is_built = not-false (constructed Kept) (sym kept_simple ∙ plain)

    kept_built : Built (table_in b) (read_value (table_in b) level) Own S Kept (Bare X)
    kept_built = its_built X.ready X.known level S is_built

    own_lead : is_choice Kept ≡ false → read_header Own S ≡ got (size_of Y.indefinite SizeOf) (drop Y.start P)
    own_lead n = ap (λ (i : List ℕ). read_header i S) (sym (form_own (record_of b w) is_built (W.form n))) ∙ W.header n

    its_held : Held ≡ HeldIn (mode Y.indefinite) C
    its_held = ap (λ (h : Holder). read_held (table_in b) (read_value (table_in b) level) h (mode Y.indefinite) C) (its_holder X.ready X.known)

    pub items_known : Known b index w × ((described w).simple ≡ false)
    items_known = let (t, h, q) = X.known in (of_record t h q, sym (ap (λ (e : Descriptor). e.simple) X.entered) ∙ plain)

    pub items_some : is_single (manner (held b w)) ≡ true → 0 < length C
    items_some q =
        let z = sym (single_kind Kept is_built) ∙ ap (λ (h : Holder). is_single (manner h)) (sym (its_holder X.ready X.known)) ∙ q in
        let y = W.bare z in
        omega (arith, size_c, y.0, y.1, U.some)

    abbrev pub Fine : Answer ReadingCause Value → Type 0
    Fine x = Sane (Closes (table_in b) level (inside Kept) (mode Y.indefinite)) C x

    pub fine : Fine Held
    fine = rw its_held (held_sane (table_in b) level (inside Kept) (mode Y.indefinite) C)

    -- what the items give, the item gives
    abbrev Reads : Answer ReadingCause Value → Type 0
    Reads (refused c l) = Bare X ≡ refused c (l + (X.end - Y.stop))
    Reads (got v u) = Bare X ≡ got v (drop (Y.start + (length C - length u)) P)

    -- a CHOICE and contents that 00 00 closes go on to the end of what is around them
    reads_open : Y.stop ≡ X.end → Bare X ≡ Held → (x : Answer ReadingCause Value) → Held ≡ x → Fine x → Reads x
    reads_open z y (got v u) d (leaves t q) =
        let k = length C - length u in
        y ∙ d ∙ ap (got v) (tail_at C u t ∙ ap (drop k) (sym (all_c z)) ∙ drop-drop k Y.start P)
    reads_open z y (refused c l) d (stops h) = let v : l ≡ l + (X.end - Y.stop) = omega arith in y ∙ d ∙ ap (refused c) v

    reads_sized : is_choice Kept ≡ false → Y.indefinite ≡ false → (x : Answer ReadingCause Value) → Held ≡ x → Fine x → Reads x
    unfolding then behind
    reads_sized k z x d y =
        let a = kept_built.0 k ∙ built_sized Own S Y.indefinite SizeOf (drop Y.start P) (own_lead k) HeldIn z in
        let g : length (drop Y.start P) - SizeOf ≡ X.end - Y.stop = omega (arith, length-drop Y.start P, size_part X, W.ordered, W.high) in
        let i : HeldIn closed C ≡ x = ap (λ (t : Bool). HeldIn (mode t) C) (sym z) ∙ sym its_held ∙ d in
        go x y (a ∙ rw (part_c, rest_c, g, i) refl)
      where
        go : (x : Answer ReadingCause Value) → Fine x → Bare X ≡ then (behind (X.end - Y.stop) x) (λ v w. got v (drop Y.stop P)) → Reads x
        go (got v u) (leaves t q) y =
            let o = q (single_kind Kept is_built ∙ k) (ap mode z) in
            let f : Y.start + (length C - length u) ≡ Y.stop = omega (arith, size_c, ap length o, W.ordered) in
            rw f y
        go (refused c l) (stops h) y = y

    pub reads : (x : Answer ReadingCause Value) → Held ≡ x → Fine x → Reads x
    reads x d y =
        test (is_choice Kept)
        (λ k.
        let (a, z) = W.bare k in
        let g : S ≡ C = ap (λ (i : ℕ). drop i P) (sym a) ∙ all_c z in
        reads_open z (kept_built.1 k (mode Y.indefinite) ∙ ap (HeldIn (mode Y.indefinite)) g ∙ sym its_held) x d y)
        λ k.
        test Y.indefinite
        (λ t.
        let z = W.unsized t in
        let i : HeldIn open_ended (drop Y.start P) ≡ Held = rw (all_c z) (ap (λ (t : Bool). HeldIn (mode t) C) (sym t) ∙ sym its_held) in
        reads_open z (kept_built.0 k ∙ built_open Own S Y.indefinite SizeOf (drop Y.start P) (own_lead k) HeldIn t ∙ i) x d y)
        λ t. reads_sized k t x d y
