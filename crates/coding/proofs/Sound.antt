-- What reading accepts is permitted for the value that it yields.
-- Assumes nothing.
use mathlib.Core.Bool.{Bool, true, false, false≢true}
use mathlib.Core.List.{List, [], ◌∷◌, ◌++◌, append-nil}
use mathlib.Core.Option.{Option, some, none}
use mathlib.Core.Path.{◌≡◌, refl, sym, ap, ◌∙◌}
use native.Mathlib.Nat.{add-zero, zero-add}
use native.Mathlib.Omega.{arith}
use Prim.Native.Nat.{ℕ, zero, suc, ◌+◌, ◌≤◌}
use lib.ListN.{length, length-append}
use lib.Seq.{append_snoc}
use Rattle.x690.specs.declared.ReadingCause.{ReadingCause}
use Rattle.octets.specs.Answer.{Answer}
use Rattle.octets.specs.Lists.{joined}
use Rattle.octets.specs.Permutations.{Sel, Sel.here, Sel.there, Perm, Perm.none as none_p, Each, nil, cons, Order, as_given}
use Rattle.octets.proofs.Answer.{Holds, yields, refuses, if_holds, then_holds, map_holds, Taken}
use Rattle.octets.proofs.Permutations.{flat, joined_flat, arranged_refl}
use Rattle.octets.proofs.Tests.{and_right}
use Rattle.x690.specs.Reading.{Mode}
use Rattle.x690.proofs.Identifiers.{identifier_sound}
use Rattle.x690.proofs.Items.{Ends, no_more, mark, at_end_holds, Body as Contents, constructed_sound}
use Rattle.x690.proofs.Segments.{carried_sound}
use Rattle.table.specs.Syntax.{Member, Body, Plain, Sequence, Set, SequenceOf, SetOf, Choice, Table}
use Rattle.coding.specs.Value.{Value, sequence, set, sequence_of, set_of, choice, slots, bag}
use Rattle.coding.specs.Content.{segmented}
use Rattle.coding.specs.Tags.{own_tag, explicit}
use Rattle.coding.specs.Encodes.{allowed, Coding, Pieces, done, left, sent, At, first, later, Codes, is_plain, is_sequence, is_set}
use Rattle.coding.specs.Encodes.{is_sequence_of, is_set_of, is_chosen, Wrapped, bare, tagged, EncodesAt}
use Rattle.coding.specs.Reading.{not_awaited, unwanted, nothing, read_wrapped, read_sequence, place_member, read_set, read_many, choose, read_body, read_kind, read_value}
use Rattle.coding.proofs.Content.{content_sound}

pub not_awaited_lem : {A : Type 0} {P : A → List ℕ → Type 0} (s : List ℕ) → Holds P (not_awaited s)
unfolding not_awaited
not_awaited_lem s = then_holds (identifier_sound s) λ i r e. refuses

unwanted_holds : {A : Type 0} {P : A → List ℕ → Type 0} (w : Bool) (s : List ℕ) → Holds P (unwanted w s)
unfolding unwanted
unwanted_holds true s = not_awaited_lem s
unwanted_holds false s = refuses

pub wrapped_sound : {A : Type 0} (C : A → List ℕ → Type 0) (r : List ℕ → Answer ReadingCause A) → ((s : List ℕ) → Holds (Taken C s) (r s)) → (is : List (List ℕ)) (s : List ℕ)
    → Holds (Taken (λ v. Wrapped (C v) is) s) (read_wrapped is r s)
unfolding read_wrapped
wrapped_sound C r f [] s = map_holds (f s) (λ v u x. record { piece = x.piece; cut = x.cut; has = bare x.has })
wrapped_sound C r f (i ∷ is) s =
    map_holds
    (constructed_sound (λ v. Wrapped (C v) is) _
    (λ mode u. at_end_holds mode u (λ y z. refuses) λ _.
    then_holds (wrapped_sound C r f is u) λ v w x.
    at_end_holds mode w (λ y z. yields (record { content = x.piece; tail = w; cut = x.cut; ends = z; has = x.has })) λ _. refuses)
    i s)
    (λ v u x. record { piece = x.item; cut = x.cut; has = tagged x.has x.framed })

-- s is pieces that C relates to a, and then the tail
pub record Run {A : Type 0} (C : A → List (List ℕ) → Type 0) (s : List ℕ) (a : A) (tail : List ℕ) : Type 0 where
  pub pieces : List (List ℕ)
  pub cut : s ≡ flat pieces tail
  pub has : C a pieces

pub record Closed {A : Type 0} (C : A → List (List ℕ) → Type 0) (mode : Mode) (s : List ℕ) (a : A) (r : List ℕ) : Type 0 where
  pub tail : List ℕ
  pub body : Run C s a tail
  pub ends : Ends mode tail r

-- pieces as contents
abbrev pub Together : {A : Type 0} → (A → List (List ℕ) → Type 0) → A → List ℕ → Type 0
Together C a c = (ps : List (List ℕ)) × (c ≡ joined ps) × C a ps

together : {A : Type 0} {C : A → List (List ℕ) → Type 0} {mode : Mode} {s : List ℕ} {a : A} {r : List ℕ} → Closed C mode s a r → Contents (Together C) mode s a r
together c =
    record {
      content = joined c.body.pieces;
      tail = c.tail;
      cut = c.body.cut ∙ sym (joined_flat c.body.pieces c.tail);
      ends = c.ends;
      has = (c.body.pieces, refl, c.body.has);
    }

one_more : {A B : Type 0} {C : A → List ℕ → Type 0} {D : B → List (List ℕ) → Type 0} {F : B → List (List ℕ) → Type 0} {s s₁ tail : List ℕ} {a : A} {b b' : B}
    → (x : Taken C s a s₁) → (y : Run D s₁ b tail) → F b' (x.piece ∷ y.pieces) → Run F s b' tail
unfolding flat
one_more x y h = record { pieces = x.piece ∷ y.pieces; cut = rw (x.cut, y.cut); has = h }

-- what is left to send: those of `os` that are not in `us`; the others are in both
pub data Pending (E : Coding) (Q : Value → Value → Type 0) : List Member → List (Option Value) → List (Option Value) → List (List ℕ) → Type 0 where
  p_done : Pending E Q [] [] [] []
  p_left : {m : Member} {ms : List Member} {us os : List (Option Value)} {ps : List (List ℕ)} → Pending E Q ms us os ps → Pending E Q (m ∷ ms) (none ∷ us) (none ∷ os) ps
  p_sent : {m : Member} {ms : List Member} {us os : List (Option Value)} {v : Value} {p : List ℕ} {ps : List (List ℕ)}
      → E m.type v p → Pending E Q ms us os ps → Pending E Q (m ∷ ms) (none ∷ us) (some v ∷ os) (p ∷ ps)
  p_have : {m : Member} {ms : List Member} {us os : List (Option Value)} {v w : Value} {ps : List (List ℕ)}
      → Q v w → Pending E Q ms us os ps → Pending E Q (m ∷ ms) (some w ∷ us) (some v ∷ os) ps

pending_none : {E : Coding} {Q : Value → Value → Type 0} {ms : List Member} {us os : List (Option Value)} {ps : List (List ℕ)}
    → Pending E Q ms us os ps → us ≡ nothing ms → Pieces E ms os ps
unfolding nothing
pending_none p_done i = done
pending_none (p_left p) i = left (pending_none p cc)
pending_none (p_sent e p) i = sent e (pending_none p cc)
pending_none (p_have q p) i = absurd cc

pub pending_nothing : {E : Coding} {Q : Value → Value → Type 0} {ms : List Member} {os : List (Option Value)} {ps : List (List ℕ)} → Pending E Q ms (nothing ms) os ps → Pieces E ms os ps
pending_nothing p = pending_none p refl

all_there : {E : Coding} (ms : List Member) (os : List (Option Value)) → allowed ms os ≡ true → Pending E ◌≡◌ ms os os []
unfolding allowed
all_there [] [] e = p_done
all_there [] (o ∷ os) e = absurd (false≢true e)
all_there (m ∷ ms) [] e = absurd (false≢true e)
all_there (m ∷ ms) (none ∷ os) e = p_left (all_there ms os (and_right m.optional _ e))
all_there (m ∷ ms) (some v ∷ os) e = p_have refl (all_there ms os e)

-- one member put into its place
pub data Placed (E : Coding) : List Member → List (Option Value) → List (Option Value) → List ℕ → Type 0 where
  put : {m : Member} {ms : List Member} {os : List (Option Value)} {v : Value} {p : List ℕ} → E m.type v p → Placed E (m ∷ ms) (none ∷ os) (some v ∷ os) p
  pass : {m : Member} {ms : List Member} {o : Option Value} {os us : List (Option Value)} {p : List ℕ} → Placed E ms os us p → Placed E (m ∷ ms) (o ∷ os) (o ∷ us) p

placed_back : {E : Coding} {ms : List Member} {os us fin : List (Option Value)} {p : List ℕ} {ps : List (List ℕ)}
    → Placed E ms os us p → Pending E ◌≡◌ ms us fin ps → (qs : List (List ℕ)) × Pending E ◌≡◌ ms os fin qs × Sel p qs ps
placed_back {p = p} {ps = ps} (put {m = m} e) (p_have {v = v} q d) = (p ∷ ps, p_sent {m = m} {v = v} {p = p} (rw q e) d, here)
placed_back (pass x) (p_left d) = let (qs, d', s) = placed_back x d in (qs, p_left d', s)
placed_back (pass x) (p_sent {p = p} e d) = let (qs, d', s) = placed_back x d in (p ∷ qs, p_sent e d', there s)
placed_back (pass x) (p_have q d) = let (qs, d', s) = placed_back x d in (qs, p_have q d', s)

module _ (o : Order) (T : Table) (E : Coding) (r : ℕ → List ℕ → Answer ReadingCause Value) (sound : (t : ℕ) (s : List ℕ) → Holds (Taken (E t) s) (r t s)) where
  -- C of what came after vs
  abbrev pub Onto : {X : Type 0} → List X → (List X → List (List ℕ) → Type 0) → List X → List (List ℕ) → Type 0
  Onto {X} vs C ws ps = (us : List X) × (ws ≡ vs ++ us) × C us ps

  pub many_sound : (k t : ℕ) (mode : Mode) (vs : List Value) (s : List ℕ) → Holds (Closed (Onto vs (Each (E t))) mode s) (read_many T r k t mode vs s)
  unfolding read_many flat
  many_sound zero t mode vs s = refuses
  many_sound (suc k) t mode vs s =
      at_end_holds mode s (λ u h. yields (record { tail = s; body = record { pieces = []; cut = refl; has = ([], sym (append-nil vs), nil) }; ends = h }))
      (λ _. if_holds _ (λ e. not_awaited_lem s) λ e _.
      then_holds (sound t s) λ v s₁ x.
      map_holds (many_sound k t mode (vs ++ (v ∷ [])) s₁) λ ws s₂ y.
      let (us, h, d) = y.body.has in
      record { tail = y.tail; body = one_more x y.body (v ∷ us, h ∙ append_snoc vs v us, cons x.has d); ends = y.ends })

  abbrev Members : List Member → List (Option Value) → List (List ℕ) → Type 0
  Members ms os ps = Pieces E ms os ps × (allowed ms os ≡ true)

  sequence_sound : (ms : List Member) (os : List (Option Value)) (w : Bool) (mode : Mode) (s : List ℕ) → Holds (Closed (Onto os (Members ms)) mode s) (read_sequence T r ms os w mode s)
  unfolding read_sequence flat allowed
  sequence_sound [] os w mode s = at_end_holds mode s (λ u h. yields (record {
    tail = s;
    body = record {
      pieces = [];
      cut = refl;
      has = (
        [],
        sym
            (append-nil os),
        (done, refl),
      );
    };
    ends = h;
  })) λ _. unwanted_holds w s
  sequence_sound (m ∷ ms) os w mode s =
      if_holds _
      (λ b.
      then_holds (sound m.type s) λ v s₁ x.
      map_holds (sequence_sound ms (os ++ (some v ∷ [])) false mode s₁) λ ws s₂ y.
      let (us, h, d) = y.body.has in
      record { tail = y.tail; body = one_more x y.body (some v ∷ us, h ∙ append_snoc os (some v) us, (sent x.has d.0, d.1)); ends = y.ends })
      λ b _.
      if_holds _
      (λ op.
      map_holds (sequence_sound ms (os ++ (none ∷ [])) true mode s) λ ws s₂ y.
      let (us, h, d) = y.body.has in
      record { tail = y.tail; body = record { pieces = y.body.pieces; cut = y.body.cut; has = (none ∷ us, h ∙ append_snoc os none us, (left d.0, rw op d.1)) }; ends = y.ends })
      λ op _. at_end_holds mode s (λ u h. refuses) λ _. not_awaited_lem s

  place_sound : (ms : List Member) (os : List (Option Value)) (s : List ℕ) → Holds (Taken (Placed E ms os) s) (place_member T r ms os s)
  unfolding place_member
  place_sound [] os s = not_awaited_lem s
  place_sound (m ∷ ms) [] s = not_awaited_lem s
  place_sound (m ∷ ms) (none ∷ os) s =
      if_holds _
      (λ b. then_holds (sound m.type s) λ v s₁ x. yields (record { piece = x.piece; cut = x.cut; has = put x.has }))
      (λ b _. then_holds (place_sound ms os s) λ us s₁ x. yields (record { piece = x.piece; cut = x.cut; has = pass x.has }))
  place_sound (m ∷ ms) (some v ∷ os) s =
      then_holds (place_sound ms os s) λ us s₁ x. yields (record { piece = x.piece; cut = x.cut; has = pass x.has })

  abbrev Rest : List Member → List (Option Value) → List (Option Value) → List (List ℕ) → Type 0
  Rest ms os fin qs = (ps : List (List ℕ)) × Pending E ◌≡◌ ms os fin ps × Perm ps qs × (allowed ms fin ≡ true)

  set_sound : (k : ℕ) (ms : List Member) (os : List (Option Value)) (mode : Mode) (s : List ℕ) → Holds (Closed (Rest ms os) mode s) (read_set T r k ms os mode s)
  unfolding read_set flat
  set_sound zero ms os mode s = refuses
  set_sound (suc k) ms os mode s =
      at_end_holds mode s
      (λ u h. if_holds _ (λ a. yields (record { tail = s; body = record { pieces = []; cut = refl; has = ([], all_there ms os a, none_p, a) }; ends = h })) (λ a _. refuses))
      (λ _. if_holds _ (λ e. refuses) λ e _.
      then_holds (place_sound ms os s) λ us s₁ x.
      map_holds (set_sound k ms us mode s₁) λ fin s₂ y.
      let (ps, d, p, a) = y.body.has in
      let (qs, d', q) = placed_back x.has d in
      record { tail = y.tail; body = one_more x y.body (qs, d', Perm.next q p, a); ends = y.ends })

  choose_sound : (ts : List ℕ) (n : ℕ) (s : List ℕ) → Holds (Taken (λ v p. (t k : ℕ) × (w : Value) × At t ts k × E t w p × (v ≡ choice (n + k) w)) s) (choose T r ts n s)
  unfolding choose
  choose_sound [] n s = not_awaited_lem s
  choose_sound (t ∷ ts) n s =
      if_holds _
      (λ b. then_holds (sound t s) λ v s₁ x. yields (record { piece = x.piece; cut = x.cut; has = (t, 0, v, first, x.has, rw add-zero) }))
      λ b _. map_holds (choose_sound ts (suc n) s) λ v s₁ x.
      let (u, k, w, a, e, h) = x.has in
      record { piece = x.piece; cut = x.cut; has = (u, suc k, w, later a, e, h ∙ ap (λ (j : ℕ). choice j w) (omega arith)) }

  -- the pieces of a kind's contents
  unfoldable Parts : Body → Value → List (List ℕ) → Type 0
  Parts (Plain k) v ps = ⊥
  Parts (Sequence ms) v ps = (os : List (Option Value)) × (v ≡ sequence (slots os)) × Members ms os ps
  Parts (Set ms) v qs = (os : List (Option Value)) × (v ≡ set (slots os)) × (ps : List (List ℕ)) × Pieces E ms os ps × (allowed ms os ≡ true) × Perm ps qs
  Parts (SequenceOf t) v ps = (vs : List Value) × (v ≡ sequence_of (bag vs)) × Each (E t) vs ps
  Parts (SetOf t) v ps = (vs : List Value) × (v ≡ set_of (bag vs)) × Each (E t) vs ps
  Parts (Choice ts) v ps = ⊥

  with_body : {A B : Type 0} {C : A → List (List ℕ) → Type 0} {D : B → List (List ℕ) → Type 0} {mode : Mode} {s : List ℕ} {a : A} {b : B} {u : List ℕ}
      → ((ps : List (List ℕ)) → C a ps → D b ps) → Closed C mode s a u → Contents (Together D) mode s b u
  with_body f y = together (record { tail = y.tail; body = record { pieces = y.body.pieces; cut = y.body.cut; has = f y.body.pieces y.body.has }; ends = y.ends })

  body_sound : (k : Body) (mode : Mode) (s : List ℕ) → Holds (Contents (Together (Parts k)) mode s) (read_body T r k mode s)
  unfolding read_body Parts
  body_sound (Plain k) mode s = refuses
  body_sound (Sequence ms) mode s = then_holds (sequence_sound ms [] false mode s) λ os u y. yields (with_body (λ ps h. (os, refl, rw (← h.1) at h.2)) y)
  body_sound (Set ms) mode s = then_holds (set_sound _ ms (nothing ms) mode s) λ os u y. yields (with_body (λ qs h. let (ps, d, p, a) = h in (os, refl, ps, pending_nothing d, a, p)) y)
  body_sound (SequenceOf t) mode s = then_holds (many_sound _ t mode [] s) λ vs u y. yields (with_body (λ ps h. (vs, refl, rw (← h.1) at h.2)) y)
  body_sound (SetOf t) mode s = then_holds (many_sound _ t mode [] s) λ vs u y. yields (with_body (λ ps h. (vs, refl, rw (← h.1) at h.2)) y)
  body_sound (Choice ts) mode s = refuses

  pub kind_sound : (i : List ℕ) (k : Body) (s : List ℕ) → Holds (Taken (Codes o E i k) s) (read_kind T r i k s)
  unfolding read_kind Parts
  kind_sound i (Plain k) s =
      then_holds (carried_sound (segmented k) i s) λ c s₁ x.
      then_holds (content_sound k _ c s₁) λ y s₂ h.
      yields (record { piece = x.piece; cut = rw h.0 x.cut; has = is_plain c h.1 x.has })
  kind_sound i (Sequence ms) s =
      map_holds (constructed_sound (Together (Parts (Sequence ms))) _ (body_sound (Sequence ms)) i s) λ v s₁ x.
      let (ps, e, h) = x.has in let (os, q, g) = h in record { piece = x.item; cut = x.cut; has = rw q (is_sequence ps g.0 g.1 (rw e at x.framed)) }
  kind_sound i (Set ms) s =
      map_holds (constructed_sound (Together (Parts (Set ms))) _ (body_sound (Set ms)) i s) λ v s₁ x.
      let (qs, e, h) = x.has in let (os, q, ps, p, a, c) = h in record { piece = x.item; cut = x.cut; has = rw q (is_set ps qs p a c (rw e at x.framed)) }
  kind_sound i (SequenceOf t) s =
      map_holds (constructed_sound (Together (Parts (SequenceOf t))) _ (body_sound (SequenceOf t)) i s) λ v s₁ x.
      let (ps, e, k) = x.has in let (vs, q, h) = k in record { piece = x.item; cut = x.cut; has = rw q (is_sequence_of ps h (rw e at x.framed)) }
  kind_sound i (SetOf t) s =
      map_holds (constructed_sound (Together (Parts (SetOf t))) _ (body_sound (SetOf t)) i s) λ v s₁ x.
      let (ps, e, k) = x.has in let (vs, q, h) = k in record { piece = x.item; cut = x.cut; has = rw q (is_set_of ps ps h (arranged_refl o ps) (rw e at x.framed)) }
  kind_sound i (Choice ts) s =
      map_holds (choose_sound ts 0 s) λ v s₁ x.
      let (t, k, w, a, e, h) = x.has in record { piece = x.piece; cut = x.cut; has = rw (h, zero-add) (is_chosen a e) }

-- What reading accepts is an encoding of the value that it yields, at the level that it was given. It needs nothing of the table.
pub value_sound : (o : Order) (T : Table) (n t : ℕ) (s : List ℕ) → Holds (Taken (EncodesAt o T n t) s) (read_value T n t s)
unfolding read_value EncodesAt
value_sound o T zero t s = refuses
value_sound o T (suc n) t s =
    wrapped_sound (Codes o (EncodesAt o T n) (own_tag (T t)) (T t).body) _ (λ u. kind_sound o T (EncodesAt o T n) (λ u w. read_value T n u w) (value_sound o T n) _ _ u) (explicit (T t)) s

ends_short : {mode : Mode} {t r : List ℕ} → Ends mode t r → length r ≤ length t
ends_short no_more = omega arith
ends_short mark = omega arith

-- what is left behind contents is no longer than what was given
pub body_short : (T : Table) (n : ℕ) (k : Body) (mode : Mode) (s : List ℕ) → Holds (λ v r. length r ≤ length s) (read_body T (read_value T n) k mode s)
body_short T n k mode s =
    map_holds (body_sound as_given T (EncodesAt as_given T n) (read_value T n) (value_sound as_given T n) k mode s) (λ v r y. let h = ends_short y.ends in rw (y.cut, length-append) (omega arith))
