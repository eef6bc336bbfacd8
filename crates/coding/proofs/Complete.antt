-- Whatever a sender may send is read to its end, and what is read is equivalent to what was meant.
-- Assumes nothing.
use mathlib.Core.Bool.{Bool, true, false, ◌&&◌, ◌||◌, false≢true, true≢false}
use mathlib.Core.List.{List, [], ◌∷◌, ◌++◌, append_assoc, append-nil}
use mathlib.Core.Option.{Option, some, none}
use mathlib.Core.Path.{◌≡◌, refl, sym, ap, ◌∙◌}
use native.Mathlib.Nat.{add-zero, zero-add}
use native.Mathlib.Omega.{arith}
use Prim.Native.Nat.{ℕ, zero, suc, ◌+◌, ◌<◌}
use lib.ListN.{length, get_or}
use lib.Seq.{append_snoc}
use Rattle.x690.specs.declared.ReadingCause.{ReadingCause}
use Rattle.x690.specs.declared.ReadingCause.TheVariants.{NotAwaited, Trailing}
use Rattle.octets.specs.Answer.{Answer, got, refused, then, if, none_left}
use Rattle.octets.specs.Lists.{any, joined}
use Rattle.octets.specs.Permutations.{Sel, Sel.here, Sel.there, Perm, Perm.none as none_p, Perm.next, Each, nil, cons, Order, Arranged, Every, every_cons}
use Rattle.octets.proofs.Answer.{run, Reads}
use Rattle.octets.proofs.Permutations.{flat, joined_flat, arranged_each}
use Rattle.octets.proofs.Tests.{or_by, and_left, and_right}
use Rattle.x690.specs.Reading.{read_identifier, Mode, closed, at_end}
use Rattle.x690.proofs.Identifiers.{Begun}
use Rattle.x690.specs.Segments.{Kind, in_parts}
use Rattle.x690.proofs.Items.{Ends, no_more, mark, at_end_end, constructed_head, begun_more, begun_longer, Readable, constructed_complete}
use Rattle.x690.proofs.Segments.{Heading, as_whole, as_parts, carried_complete, carried_begins}
use Rattle.table.specs.Syntax.{Member, Body, Sequence, Set, SequenceOf, SetOf, Table, is_choice, constructed}
use Rattle.coding.specs.Value.{Value, leaf, sequence, set, sequence_of, set_of, choice, slots, bag}
use Rattle.coding.specs.Tags.{own_tag, explicit}
use Rattle.coding.specs.Awaited.{types, further, awaited}
use Rattle.coding.specs.Encodes.{allowed, Coding, Pieces, done, left, sent, At, first, later, Codes, is_plain, is_sequence, is_set}
use Rattle.coding.specs.Encodes.{is_sequence_of, is_set_of, is_chosen, Wrapped, bare, tagged, EncodesAt}
use Rattle.coding.specs.Equivalent.{Slot, Alike, same_leaf, same_sequence, same_set, same_sequence_of, same_set_of, same_choice, EquivalentAt}
use Rattle.coding.specs.Reading.{passes, begun, nothing, full, read_wrapped, read_sequence, place_member, read_set, read_many, choose, read_body, read_kind, read_value}
use Rattle.coding.proofs.Content.{content_complete}
use Rattle.coding.specs.Awaited.{begins}
use Rattle.coding.proofs.FirstTags.{begins_any, Distinct, Apart, GoodBody, Proper, proper_readable, proper_begun, Begins, Good}
use Rattle.coding.proofs.Sound.{Pending, p_done, p_left, p_sent, p_have}

-- a list of no elements
no_elements : (T : Table) (r : ℕ → List ℕ → Answer ReadingCause Value) (t : ℕ) → read_body T r (SequenceOf t) closed [] ≡ got (sequence_of (bag [])) []
unfolding if then none_left at_end read_many read_body
no_elements T r t = refl

-- m begins with identifier octets with which encodings of the type t begin; of one of the types ts
pub record Starts (T : Table) (t : ℕ) (m : List ℕ) : Type 0 where
  pub ident : List ℕ
  pub rest : List ℕ
  pub is : m ≡ ident ++ rest
  pub begins : begins T t ident ≡ true

record StartsAny (T : Table) (ts : List ℕ) (m : List ℕ) : Type 0 where
  ident : List ℕ
  rest : List ℕ
  is : m ≡ ident ++ rest
  begins : begins_any T ident ts ≡ true

or_left : (a b : Bool) → a ≡ true → (a || b) ≡ true
or_left true b e = refl
or_left false b e = absurd (false≢true e)

or_right : (a b : Bool) → b ≡ true → (a || b) ≡ true
or_right true b e = refl
or_right false b e = e

pub never : (a : Bool) → (a ≡ true → ⊥) → a ≡ false
never true h = absurd (h refl)
never false h = refl

-- a test that would refute a known test fails
fails : (a b : Bool) → (a ≡ true → b ≡ false) → b ≡ true → a ≡ false
fails true b h e = absurd (true≢false (sym e ∙ h refl))
fails false b h e = refl

-- the first piece begins as one of the types does
data Heads (T : Table) (ts : List ℕ) : List (List ℕ) → Type 0 where
  no_piece : Heads T ts []
  a_piece : {p : List ℕ} {ps : List (List ℕ)} → StartsAny T ts p → Heads T ts (p ∷ ps)

-- the identifier octets that come next
pub next_is : (T : Table) (t : ℕ) {i m : List ℕ} (rest s : List ℕ) → Readable i → m ≡ i ++ rest → begun T t (m ++ s) ≡ begins T t i
unfolding begun passes
next_is T t {i = i} rest s r e = rw (e, append_assoc i rest s, r (rest ++ s))

module _ {T : Table} where
  starts_here : {t : ℕ} (ts : List ℕ) {m : List ℕ} → Starts T t m → StartsAny T (t ∷ ts) m
  unfolding any
  starts_here ts x = record { ident = x.ident; rest = x.rest; is = x.is; begins = or_left _ _ x.begins }

  starts_there : (t : ℕ) {ts m : List ℕ} → StartsAny T ts m → StartsAny T (t ∷ ts) m
  unfolding any
  starts_there t x = record { ident = x.ident; rest = x.rest; is = x.is; begins = or_right (begins T t x.ident) _ x.begins }

  at_starts : {t n : ℕ} {ts m : List ℕ} → At t ts n → Starts T t m → StartsAny T ts m
  at_starts (first {l = ts}) s = starts_here ts s
  at_starts (later {y = t} a) s = starts_there t (at_starts a s)

  heads_there : (t : ℕ) {ts : List ℕ} {ps : List (List ℕ)} → Heads T ts ps → Heads T (t ∷ ts) ps
  heads_there t no_piece = no_piece
  heads_there t (a_piece h) = a_piece (starts_there t h)

any_proper : (T : Table) → Good T → (ts i : List ℕ) → begins_any T i ts ≡ true → Proper i
unfolding any
any_proper T good [] i e = absurd (false≢true e)
any_proper T good (t ∷ ts) i e = or_by (begins T t i) _ e ((good t).first i) (any_proper T good ts i)

no_zero : Proper (0 ∷ []) → ⊥
no_zero p = let b = proper_begun p in let e : 0 ≡ b.head = ap (λ (l : List ℕ). get_or l 0 0) b.is in let z = b.not_zero in omega arith

module _ (o : Order) (T : Table) (good : Good T) (E : Coding) (Q : Value → Value → Type 0) (r : ℕ → List ℕ → Answer ReadingCause Value)
    (begin : (t : ℕ) (v : Value) (m : List ℕ) → E t v m → Starts T t m)
    (read : (t : ℕ) (v : Value) (m s : List ℕ) → E t v m → Reads Q (r t) v (m ++ s) s) where
  starts : {t : ℕ} {v : Value} {m : List ℕ} → E t v m → Starts T t m
  starts {t} {v} {m} e = begin t v m e

  reads : {t : ℕ} {v : Value} {m : List ℕ} (s : List ℕ) → E t v m → Reads Q (r t) v (m ++ s) s
  reads {t} {v} {m} s e = read t v m s e

  proper : {ts m : List ℕ} → (x : StartsAny T ts m) → Proper x.ident
  proper {ts} x = any_proper T good ts x.ident x.begins

  begun_yes : {t : ℕ} {m : List ℕ} (s : List ℕ) → Starts T t m → begun T t (m ++ s) ≡ true
  begun_yes {t} s x = next_is T t x.rest s (proper_readable ((good t).first x.ident x.begins)) x.is ∙ x.begins

  begun_no : (t : ℕ) {ts m : List ℕ} (s : List ℕ) → ((i : List ℕ) → begins T t i ≡ true → begins_any T i ts ≡ false) → StartsAny T ts m → begun T t (m ++ s) ≡ false
  begun_no t s d x = next_is T t x.rest s (proper_readable (proper x)) x.is ∙ fails _ _ (d x.ident) x.begins

  not_end : {A : Type 0} {ts m : List ℕ} (mode : Mode) (s : List ℕ) (f : List ℕ → Answer ReadingCause A) (x : Unit {0} → Answer ReadingCause A) → StartsAny T ts m → at_end mode (m ++ s) f x ≡ x tt
  not_end mode s f x h = begun_more h.rest s mode f x (proper_begun (proper h)) h.is

  shorter : {ts m : List ℕ} (s : List ℕ) → StartsAny T ts m → length s < length (m ++ s)
  shorter s x = begun_longer x.rest s (proper_begun (proper x)) x.is

  many_complete : (k t : ℕ) (mode : Mode) (acc : List Value) {vs : List Value} {ps : List (List ℕ)} (tail u : List ℕ) → Each (E t) vs ps → length (flat ps tail) < k → Ends mode tail u
      → (ws : List Value) × (read_many T r k t mode acc (flat ps tail) ≡ got (acc ++ ws) u) × Each Q vs ws
  unfolding read_many flat
  many_complete zero t mode acc tail u es h z = absurd (omega arith)
  many_complete (suc k) t mode acc tail u nil h z = ([], at_end_end _ _ z ∙ rw append-nil refl, nil)
  many_complete (suc k) t mode acc tail u (cons {b = p} {r = ps} e es) h z =
      let x = reads (flat ps tail) e in
      let l = shorter (flat ps tail) (starts_here [] (starts e)) in
      let (ws, y, q) = many_complete k t mode (acc ++ (x.value ∷ [])) tail u es (omega arith) z in
      (x.value ∷ ws, not_end mode (flat ps tail) _ _ (starts_here [] (starts e)) ∙ simp (run, begun_yes (flat ps tail) (starts e), x.answer) (rw append_snoc at y), cons x.alike q)

  starts_any : {ms : List Member} {us os : List (Option Value)} {p : List ℕ} {ps qs : List (List ℕ)} → Pending E Q ms us os ps → Sel p ps qs → StartsAny T (types ms) p
  starts_any p_done s = elim s [ ]
  starts_any (p_left {m = m} d) s = starts_there m.type (starts_any d s)
  starts_any (p_have {m = m} q d) s = starts_there m.type (starts_any d s)
  starts_any (p_sent {m = m} {ms = ms} e d) here = starts_here (types ms) (starts e)
  starts_any (p_sent {m = m} e d) (there s) = starts_there m.type (starts_any d s)

  place_complete : (ms : List Member) {us os : List (Option Value)} {p : List ℕ} {ps qs : List (List ℕ)} (s : List ℕ)
      → Distinct T (types ms) → Pending E Q ms us os ps → Sel p ps qs
      → (ws : List (Option Value)) × (place_member T r ms us (p ++ s) ≡ got ws s) × Pending E Q ms ws os qs
  unfolding place_member Distinct
  place_complete ms s d p_done c = elim c [ ]
  place_complete ms s d (p_left {m = m} {ms = ms'} p) c =
      let (ws, e, x) = place_complete ms' s d.1 p c in
      (none ∷ ws, simp (run, begun_no m.type s d.0 (starts_any p c), e), p_left x)
  place_complete ms s d (p_have {m = m} {ms = ms'} {w = w} q p) c =
      let (ws, e, x) = place_complete ms' s d.1 p c in
      (some w ∷ ws, simp (run, e), p_have q x)
  place_complete ms s d (p_sent {m = m} {us = us} e p) here =
      let x = reads s e in
      (some x.value ∷ us, simp (run, begun_yes s (starts e), x.answer), p_have x.alike p)
  place_complete ms s d (p_sent {m = m} {ms = ms'} h p) (there c) =
      let (ws, e, x) = place_complete ms' s d.1 p c in
      (none ∷ ws, simp (run, begun_no m.type s d.0 (starts_any p c), e), p_sent h x)

  all_pending : {ms : List Member} {os : List (Option Value)} {ps : List (List ℕ)} → Pieces E ms os ps → Pending E Q ms (nothing ms) os ps
  unfolding nothing
  all_pending done = p_done
  all_pending (left p) = p_left (all_pending p)
  all_pending (sent e p) = p_sent e (all_pending p)

  all_read : {ms : List Member} {us os : List (Option Value)} → Pending E Q ms us os [] → Each (Slot Q) os us × (allowed ms us ≡ allowed ms os)
  unfolding allowed
  all_read p_done = (nil, refl)
  all_read (p_left {m = m} p) = let (x, e) = all_read p in (cons tt x, ap (λ (b : Bool). m.optional && b) e)
  all_read (p_have q p) = let (x, e) = all_read p in (cons q x, e)

  not_full : {ms : List Member} {us os : List (Option Value)} {p : List ℕ} {ps qs : List (List ℕ)} → Pending E Q ms us os ps → Sel p ps qs → full us ≡ false
  unfolding full
  not_full p_done s = elim s [ ]
  not_full (p_left d) s = refl
  not_full (p_sent e d) s = refl
  not_full (p_have q d) s = not_full d s

  set_complete : (k : ℕ) (ms : List Member) (mode : Mode) {us os : List (Option Value)} {ps qs : List (List ℕ)} (tail u : List ℕ)
      → Distinct T (types ms) → Pending E Q ms us os ps → Perm ps qs → allowed ms os ≡ true → length (flat qs tail) < k → Ends mode tail u
      → Reads (Each (Slot Q)) (read_set T r k ms us mode) os (flat qs tail) u
  unfolding read_set flat
  set_complete zero ms mode tail u d p c a h z = absurd (omega arith)
  set_complete (suc k) ms mode {us = us} tail u d p none_p a h z =
      let (x, e) = all_read p in
      record { value = us; answer = at_end_end _ _ z ∙ simp (run, e, a); alike = x }
  set_complete (suc k) ms mode {us = us} tail u d p (next {x = q} {r = qs} c cs) a h z =
      let s = flat qs tail in
      let b = starts_any p c in
      let (ws, e, p') = place_complete ms s d p c in
      let l = shorter s b in
      let y = set_complete k ms mode tail u d p' cs a (omega arith) z in
      record { value = y.value; answer = not_end mode s _ _ b ∙ simp (run, not_full p c, e, y.answer); alike = y.alike }

  -- what stands before the end begins no encoding, and neither does a piece of a member that is awaited too
  heads : {ms : List Member} {os : List (Option Value)} {ps : List (List ℕ)} → Pieces E ms os ps → allowed ms os ≡ true → Heads T (awaited ms) ps
  unfolding awaited allowed
  heads done a = no_piece
  heads (left {m = m} p) a = rw (and_left m.optional _ a) (heads_there m.type (heads p (and_right m.optional _ a)))
  heads (sent {m = m} {ms = ms} e p) a = a_piece (starts_here (further m.optional (awaited ms)) (starts e))

  end_begun : (t : ℕ) {mode : Mode} {tail u : List ℕ} → Ends mode tail u → begun T t tail ≡ false
  unfolding begun passes read_identifier if
  end_begun t no_more = refl
  end_begun t mark = never _ (λ e. no_zero ((good t).first (0 ∷ []) e))

  not_begun : (t : ℕ) {ts : List ℕ} {mode : Mode} {ps : List (List ℕ)} (tail u : List ℕ)
      → ((i : List ℕ) → begins T t i ≡ true → begins_any T i ts ≡ false) → Heads T ts ps → Ends mode tail u → begun T t (flat ps tail) ≡ false
  unfolding flat
  not_begun t tail u d no_piece z = end_begun t z
  not_begun t tail u d (a_piece {ps = ps} h) z = begun_no t (flat ps tail) d h

  sequence_complete : (ms : List Member) (acc : List (Option Value)) (w : Bool) {mode : Mode} {os : List (Option Value)} {ps : List (List ℕ)} (tail u : List ℕ)
      → Apart T ms → Pieces E ms os ps → allowed ms os ≡ true → Ends mode tail u
      → (us : List (Option Value)) × (read_sequence T r ms acc w mode (flat ps tail) ≡ got (acc ++ us) u) × Each (Slot Q) os us
  unfolding read_sequence flat Apart allowed
  sequence_complete ms acc w tail u d done a z = ([], at_end_end _ _ z ∙ rw append-nil refl, nil)
  sequence_complete ms acc w tail u d (left {m = m} {ms = ms'} p) a z =
      let op : m.optional ≡ true = and_left m.optional _ a in
      let a' = and_right m.optional _ a in
      let (us, y, q) = sequence_complete ms' (acc ++ (none ∷ [])) true tail u d.1 p a' z in
      (none ∷ us, simp (run, not_begun m.type tail u (λ i. d.0 i op) (heads p a') z, op) (rw append_snoc at y), cons tt q)
  sequence_complete ms acc w tail u d (sent {m = m} {ms = ms'} {ps = ps} e p) a z =
      let x = reads (flat ps tail) e in
      let (us, y, q) = sequence_complete ms' (acc ++ (some x.value ∷ [])) false tail u d.1 p a z in
      (some x.value ∷ us, simp (run, begun_yes (flat ps tail) (starts e), x.answer) (rw append_snoc at y), cons x.alike q)

  choose_complete : {t : ℕ} (ts : List ℕ) (k : ℕ) {n : ℕ} {v : Value} {m : List ℕ} (s : List ℕ) → Distinct T ts → At t ts n → E t v m
      → (w : Value) × (choose T r ts k (m ++ s) ≡ got (choice (k + n) w) s) × Q v w
  unfolding choose Distinct
  choose_complete ts k s d first e = let x = reads s e in (x.value, simp (run, begun_yes s (starts e), x.answer, add-zero), x.alike)
  choose_complete ts k s d (later {y = t} {l = ts'} {n = n} a) e =
      let (w, x, q) = choose_complete ts' (suc k) s d.1 a e in
      (w, simp (run, begun_no t s d.0 (at_starts a (starts e))) (x ∙ ap (λ (j : ℕ). got (choice j w) s) (omega arith)), q)

  -- a reader of contents, at pieces
  at_pieces : {A : Type 0} {R : A → A → Type 0} (f : List ℕ → Answer ReadingCause A) {v : A} (ps : List (List ℕ)) (t u : List ℕ) → Reads R f v (flat ps t) u → Reads R f v (joined ps ++ t) u
  at_pieces f ps t u x = rw (joined_flat ps t) x

  sequence_body : {ms : List Member} {os : List (Option Value)} {ps : List (List ℕ)} → Apart T ms → Pieces E ms os ps → allowed ms os ≡ true → (mode : Mode) (t u : List ℕ) → Ends mode t u
      → Reads (Alike o Q) (read_body T r (Sequence ms) mode) (sequence (slots os)) (flat ps t) u
  unfolding read_body
  sequence_body {ms} d p a mode t u z =
      let (us, y, q) = sequence_complete ms [] false t u d p a z in
      record { value = sequence (slots us); answer = simp (run, y); alike = same_sequence q }

  set_body : {ms : List Member} {os : List (Option Value)} {ps qs : List (List ℕ)} → Distinct T (types ms) → Pieces E ms os ps
      → allowed ms os ≡ true → Perm ps qs → (mode : Mode) (t u : List ℕ) → Ends mode t u
      → Reads (Alike o Q) (read_body T r (Set ms) mode) (set (slots os)) (flat qs t) u
  unfolding read_body
  set_body {ms} {qs = qs} d p a c mode t u z =
      let y = set_complete (suc (length (flat qs t))) ms mode t u d (all_pending p) c a (omega arith) z in
      record { value = set (slots y.value); answer = simp (run, y.answer); alike = same_set y.alike }

  many_body : {t : ℕ} {vs : List Value} {ps : List (List ℕ)} → Each (E t) vs ps → (mode : Mode) (tail u : List ℕ) → Ends mode tail u
      → Reads (Alike o Q) (read_body T r (SequenceOf t) mode) (sequence_of (bag vs)) (flat ps tail) u
  unfolding read_body
  many_body {t} {ps = ps} es mode tail u z =
      let (ws, y, q) = many_complete (suc (length (flat ps tail))) t mode [] tail u es (omega arith) z in
      record { value = sequence_of (bag ws); answer = simp (run, y); alike = same_sequence_of q }

  of_body : {t : ℕ} {vs : List Value} {ps qs : List (List ℕ)} → Each (E t) vs ps → Arranged o ps qs → (mode : Mode) (tail u : List ℕ) → Ends mode tail u
      → Reads (Alike o Q) (read_body T r (SetOf t) mode) (set_of (bag vs)) (flat qs tail) u
  unfolding read_body
  of_body {t} {qs = qs} es c mode tail u z =
      let (us, c', es') = arranged_each es c in
      let (ws, y, q) = many_complete (suc (length (flat qs tail))) t mode [] tail u es' (omega arith) z in
      record { value = set_of (bag ws); answer = simp (run, y); alike = same_set_of us c' q }

  pub kind_complete : (i : List ℕ) (k : Body) {v : Value} {m : List ℕ} (s : List ℕ) → (is_choice k ≡ false → Proper i) → (constructed k ≡ false → Proper (in_parts i)) → GoodBody T k
      → Codes o E i k v m → Reads (Alike o Q) (read_kind T r i k) v (m ++ s) s
  unfolding read_kind GoodBody is_choice constructed
  kind_complete i k {m = m} s g w d (is_plain {x = x} c h p) = record {
    value = leaf x;
    answer = simp (
      run,
      carried_complete s (proper_readable (g refl)) (proper_readable (w refl)) p,
      content_complete (length (m ++ s)) s h,
    );
    alike = same_leaf;
  }
  kind_complete i k s g w d (is_sequence ps p a f) = constructed_complete _ s (proper_readable (g refl)) (λ mode t u z. at_pieces _ ps t u (sequence_body d p a mode t u z)) f
  kind_complete i k s g w d (is_set ps qs p a c f) = constructed_complete _ s (proper_readable (g refl)) (λ mode t u z. at_pieces _ qs t u (set_body d p a c mode t u z)) f
  kind_complete i k s g w d (is_sequence_of ps es f) = constructed_complete _ s (proper_readable (g refl)) (λ mode t u z. at_pieces _ ps t u (many_body es mode t u z)) f
  kind_complete i k s g w d (is_set_of ps qs es c f) = constructed_complete _ s (proper_readable (g refl)) (λ mode t u z. at_pieces _ qs t u (of_body es c mode t u z)) f
  kind_complete i k s g w d (is_chosen {ts = ts} {n = n} a e) =
      let (w, x, q) = choose_complete ts 0 s d a e in record { value = choice n w; answer = rw zero-add at x; alike = same_choice q }

heading_begun : {i x : List ℕ} {k : Option Kind} → Begun i → Begun (in_parts i) → Heading i k x → Begun x
heading_begun b w (as_whole e) = rw e b
heading_begun b w (as_parts h e) = rw e w

module _ (o : Order) (T : Table) (E : Coding) (begin : (t : ℕ) (v : Value) (m : List ℕ) → E t v m → Starts T t m) where
  kind_starts : (i : List ℕ) (k : Body) {v : Value} {m : List ℕ} → Codes o E i k v m → (x : List ℕ) × (n : List ℕ) × (m ≡ x ++ n) × Begins T [] i k x
  unfolding Begins
  kind_starts i k (is_plain c x p) = carried_begins p
  kind_starts i k (is_sequence ps p a f) = let (n, h) = constructed_head f in (i, n, h, refl)
  kind_starts i k (is_set ps qs p a c f) = let (n, h) = constructed_head f in (i, n, h, refl)
  kind_starts i k (is_sequence_of ps es f) = let (n, h) = constructed_head f in (i, n, h, refl)
  kind_starts i k (is_set_of ps qs es c f) = let (n, h) = constructed_head f in (i, n, h, refl)
  kind_starts i k (is_chosen {ts = ts} {t = t} a c) = let x = at_starts a (begin t _ _ c) in (x.ident, x.rest, x.is, x.begins)

  -- identifier octets of an item that is no end stand first
  kind_opened : Good T → (i : List ℕ) (k : Body) {v : Value} {m : List ℕ} → (is_choice k ≡ false → Proper i) → (constructed k ≡ false → Proper (in_parts i)) → Codes o E i k v m → (x : List ℕ) × (n : List ℕ) × (m ≡ x ++ n) × Begun x
  unfolding is_choice constructed
  kind_opened good i k g w (is_plain c x p) = let (y, n, e, h) = carried_begins p in (y, n, e, heading_begun (proper_begun (g refl)) (proper_begun (w refl)) h)
  kind_opened good i k g w (is_sequence ps p a f) = let (n, h) = constructed_head f in (i, n, h, proper_begun (g refl))
  kind_opened good i k g w (is_set ps qs p a c f) = let (n, h) = constructed_head f in (i, n, h, proper_begun (g refl))
  kind_opened good i k g w (is_sequence_of ps es f) = let (n, h) = constructed_head f in (i, n, h, proper_begun (g refl))
  kind_opened good i k g w (is_set_of ps qs es c f) = let (n, h) = constructed_head f in (i, n, h, proper_begun (g refl))
  kind_opened good i k g w (is_chosen {ts = ts} {t = t} a c) = let x = at_starts a (begin t _ _ c) in (x.ident, x.rest, x.is, proper_begun (any_proper T good ts x.ident x.begins))

wrapped_starts : (T : Table) {C X : List ℕ → Type 0} {m : List ℕ} (es : List (List ℕ)) (o : List ℕ) (b : Body) → ((i : List ℕ) → Begins T es o b i → X i)
    → ((m : List ℕ) → C m → (i : List ℕ) × (n : List ℕ) × (m ≡ i ++ n) × Begins T [] o b i) → Wrapped C es m → (i : List ℕ) × (n : List ℕ) × (m ≡ i ++ n) × X i
unfolding Begins
wrapped_starts T {m = m} es o b f k (bare c) = let (i, n, e, q) = k m c in (i, n, e, f i q)
wrapped_starts T es o b f k (tagged {i = i} w h) = let (n, e) = constructed_head h in (i, n, e, f i refl)

pub starts_at : (o : Order) (T : Table) → Good T → (n t : ℕ) (v : Value) (m : List ℕ) → EncodesAt o T n t v m → Starts T t m
unfolding EncodesAt
starts_at o T good zero t v m e = absurd e
starts_at o T good (suc n) t v m e =
    let (i, r, h, b) = wrapped_starts T {X = λ i. begins T t i ≡ true} (explicit (T t)) (own_tag (T t)) (T t).body (good t).begin
    (λ m c. kind_starts o T (EncodesAt o T n) (starts_at o T good n) (own_tag (T t)) (T t).body c) e in
    record { ident = i; rest = r; is = h; begins = b }

abbrev Opened : List ℕ → Type 0
Opened m = (i : List ℕ) × (n : List ℕ) × (m ≡ i ++ n) × Begun i

wrapped_opened : {C : List ℕ → Type 0} {is : List (List ℕ)} {m : List ℕ} → ((m : List ℕ) → C m → Opened m) → Every Proper is → Wrapped C is m → Opened m
wrapped_opened {m = m} f ps (bare c) = f m c
wrapped_opened f (every_cons p ps) (tagged {i = i} w h) = let (n, e) = constructed_head h in (i, n, e, proper_begun p)

wrapped_complete : {A : Type 0} {Q : A → A → Type 0} {v : A} {C : List ℕ → Type 0} (r : List ℕ → Answer ReadingCause A) → ((m s : List ℕ) → C m → Reads Q r v (m ++ s) s) → ((m : List ℕ) → C m → Opened m)
    → {is : List (List ℕ)} {m : List ℕ} (s : List ℕ) → Every Proper is → Wrapped C is m → Reads Q (read_wrapped is r) v (m ++ s) s
unfolding read_wrapped
wrapped_complete r f o {m = m} s ps (bare c) = let x = f m s c in record { value = x.value; answer = x.answer; alike = x.alike }
wrapped_complete {Q = Q} {v = v} r f o s (every_cons p ps) (tagged {is = is} {c = c} w h) =
    let x = constructed_complete _ s (proper_readable p) (body (λ t. wrapped_complete r f o t ps w) (wrapped_opened o ps w)) h in record { value = x.value; answer = x.answer; alike = x.alike }
  where
    body : ((t : List ℕ) → Reads Q (read_wrapped is r) v (c ++ t) t) → Opened c → (mode : Mode) (t u : List ℕ) → Ends mode t u
        → Reads Q (λ y. at_end mode y (λ _. refused NotAwaited (length y)) λ _. then (read_wrapped is r y) (λ v w. at_end mode w (λ z. got v z) λ _. refused Trailing (length w))) v (c ++ t) u
    body g (i, n, e, b) mode t u z = let x = g t in record { value = x.value; answer = begun_more n t mode _ _ b e ∙ simp (run, x.answer) (at_end_end _ _ z); alike = x.alike }

-- A permitted encoding with at most n levels, followed by anything, is read to its end, and what is read is equivalent to what was meant.
pub value_complete : (o : Order) (T : Table) → Good T → (n t : ℕ) (v : Value) (m s : List ℕ) → EncodesAt o T n t v m → Reads (EquivalentAt o n) (read_value T n t) v (m ++ s) s
unfolding EncodesAt EquivalentAt read_value
value_complete o T good zero t v m s e = absurd e
value_complete o T good (suc n) t v m s e =
    let x = wrapped_complete _
    (λ c u. kind_complete o T good (EncodesAt o T n) (EquivalentAt o n) (λ u w. read_value T n u w) (starts_at o T good n)
    (value_complete o T good n) (own_tag (T t)) (T t).body u (good t).item (good t).parts (good t).apart)
    (λ c. kind_opened o T (EncodesAt o T n) (starts_at o T good n) good (own_tag (T t)) (T t).body (good t).item (good t).parts) s (good t).inner e in
    record { value = x.value; answer = x.answer; alike = x.alike }

-- what begins as a type does is not empty
pub started_some : (T : Table) → Good T → (t : ℕ) (m s : List ℕ) → Starts T t m → none_left (m ++ s) ≡ false
unfolding none_left
started_some T good t m s x =
    let b = proper_begun ((good t).first x.ident x.begins) in
    rw (x.is, b.is)
