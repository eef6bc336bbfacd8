-- The row that the code finds in a node is the row of the definitions.
-- Assumes nothing.
use mathlib.Core.Bool.{true, false, ◌||◌}
use mathlib.Core.List.Memᴰ.{head as first_of}
use mathlib.Core.List.Memᴰ.{tail as later}
use mathlib.Core.List.{List, [], ◌∷◌, Memᴰ as In}
use mathlib.Core.Path.{◌≡◌, refl, sym, ap, subst, ◌∙◌}
use Prim.Native.Nat.{ℕ, zero, suc, ◌+◌, ◌*◌, ◌≤◌, ◌<◌}
use native.Mathlib.Nat.{mul-suc}
use native.Mathlib.Omega.{arith}
use borrow.Author.Tests.{ne_eqb, eqb-true, eqb-false, ltb-true, ltb-false, lt-ltb}
use lib.Dec.{ltb, eqb}
use lib.ListN.{length, get_or, replicate}
use Rattle.octets.proofs.Tests.{test, at, or_by, or_false}
use Rattle.octets.specs.Numbers.{Octets, two}
use Rattle.table.specs.Syntax.{Record, references}
use Rattle.table.specs.Rules.{members}
use Rattle.table.specs.Reading.{members_at, every_at, body_at, table_in, count_in}
use Rattle.table.specs.Passes.{Passes}
use Rattle.table.specs.Fields.{constructed_of}
use Rattle.kinds.specs.Kinds.{octet_of}
use Rattle.records.specs.Entries.{span_of, counted}
use Rattle.records.specs.declared.descriptor.Descriptor.{Descriptor}
use Rattle.records.specs.declared.entry.Span.{Span}
use Rattle.records.proofs.Promises.{entered_kind, entered_span, part_inside}
use Rattle.coding.specs.Form.{element, alternatives}
use Rattle.coding.specs.Judging.{flags, agrees}
use Rattle.writer.specs.Nodes.{own_end, end_at, node_of, node_at}
use Rattle.writer.specs.Known.{record_in, Known}
use Rattle.writer.specs.Rows.{present_of, row_of}
use Rattle.writer.specs.Standing.{start_at, count_at, parts_of, place_of, part_of, below_at, row_from, row_in, Standing}
use Rattle.writer.proofs.Nodes.{own_end_is, own_shaped, node_kind_lem, fixed_is, members_is, not_simple}
use Rattle.writer.proofs.Forms.{agreed_kind}
use Rattle.writer.proofs.Agreement.{WithMembers, with_members, with_choice, same_count}
use Rattle.writer.proofs.Standing.{start_message, start_members, count_members, part_members, below_missing, below_member, start_choice, part_choice}
use Rattle.writer.proofs.Standing.{below_choice, below_message, count_one, start_list, count_list, part_list, below_list}

every_get : (b : List ℕ) (p n i : ℕ) → i < n → get_or (every_at 1 b p n) i 0 ≡ get_or b (p + 1 * i) 0
unfolding every_at
every_get b p zero i h = absurd (omega arith)
every_get b p (suc n) zero h = let e : p + 1 * 0 ≡ p = omega arith in rw e refl
every_get b p (suc n) (suc i) h = let e : p + 1 * suc i ≡ p + 1 + 1 * i = omega arith in rw e (every_get b (p + 1) n i (omega arith))

-- an entry before a node of its kind that is shaped and agrees
module _ (b : List ℕ) (o : Octets b) (e : Descriptor) (v : List ℕ) (p : ℕ) (shaped : 0 < own_end (octet_of e.kind) v p) (ag : agrees (record_in b e).body (node_of (octet_of e.kind)
    v p) ≡ true) where
  abbrev Row : List ℕ
  Row = row_of (record_in b e).body (node_of (octet_of e.kind) v p)

  pub record Found : Type 0 where
    pub start : start_at e v p ≡ own_end (octet_of e.kind) v p
    pub row : row_in b e v p ≡ Row
    pub part : (i : ℕ) → i < count_at e v p → part_of e v p i < (parts_of b e).count

  -- members
  module _ (h : (eqb (octet_of e.kind) 16 || eqb (octet_of e.kind) 17) ≡ true) where
    ended : (own_end (octet_of e.kind) v p ≡ p + 1 + get_or v p 0) × (p + 1 + get_or v p 0 ≤ length v)
    unfolding own_end
    ended =
        or_by (eqb (octet_of e.kind) 16) (eqb (octet_of e.kind) 17) h
        (λ a. let k = eqb-true (octet_of e.kind) 16 a in let z = members_is v p (rw k at shaped) in rw k (z.0, z.1))
        (λ a. let k = eqb-true (octet_of e.kind) 17 a in let z = members_is v p (rw k at shaped) in rw k (z.0, z.1))

    members_of : WithMembers b v e.own p (octet_of e.kind)
    members_of = with_members b v e.own p (octet_of e.kind) h

    as_many : get_or v p 0 ≡ get_or b e.own 0
    as_many = same_count b (e.own + 1) (get_or b e.own 0) v (p + 1) (get_or v p 0) (sym members_of.0 ∙ ag)

    row_members : (i m : ℕ) → row_from b e v p i m ≡ present_of (members_at b (e.own + 1 + 2 * i) m) (flags (every_at 1 v (p + 1 + i) m))
    unfolding row_from present_of members_at every_at flags
    row_members i zero = refl
    row_members i (suc m) =
        let next = row_members (i + 1) m in
        let q : e.own + 1 + 2 * (i + 1) ≡ e.own + 1 + 2 * i + 2 = omega arith in
        let z : p + 1 + (i + 1) ≡ p + 1 + i + 1 = omega arith in
        test (eqb (get_or v (p + 1 + i) 0) 1)
        (λ a.
        let x : get_or b (e.own + 1 + 2 * i) 0 ≡ below_at b e v p i = subst (λ (s : Span). get_or b (place_of s i) 0 ≡ below_at b e v p i) members_of.1
        (below_member e v p true (sym h) refl b i (eqb-true _ _ a)) in
        rw (a, ← x, lt-ltb (get_or b (e.own + 1 + 2 * i) 0) 256 (o (e.own + 1 + 2 * i)), next, q, z) refl)
        (λ a.
        let x = below_missing e v p true (sym h) refl b i (eqb-false _ _ a) in
        rw (a, ← x, next, q, z) refl)

    row_of_lem : present_of (members_at b (e.own + 1) (get_or b e.own 0)) (flags (every_at 1 v (p + 1) (get_or v p 0))) ≡ Row
    unfolding row_of body_at node_of members
    row_of_lem = or_by (eqb (octet_of e.kind) 16) (eqb (octet_of e.kind) 17) h (λ a. rw (eqb-true (octet_of e.kind) 16 a) refl) λ a. rw (eqb-true (octet_of e.kind) 17 a) refl

    found_members : Found
    found_members =
        let c = count_members e v p true (sym h) refl in
        let q : e.own + 1 + 2 * 0 ≡ e.own + 1 = omega arith in
        let z : p + 1 + 0 ≡ p + 1 = omega arith in
        record {
          start = sym (start_members e v p true (sym h) refl) ∙ sym ended.0;
          row = rw (← c) (row_members 0 (get_or v p 0) ∙ rw (q, z)
              (ap (λ (n : ℕ). present_of (members_at b (e.own + 1) n) (flags (every_at 1 v (p + 1) (get_or v p 0)))) as_many ∙ row_of_lem));
          part = λ i k. rw (← part_members e v p true (sym h) refl i, members_of.1) (let m = as_many in omega arith);
        }

  module _ (h : (eqb (octet_of e.kind) 16 || eqb (octet_of e.kind) 17) ≡ false) where
    -- an alternative
    module _ (f : (octet_of e.kind) ≡ 50) where
      choice_of : (agrees (body_at b (octet_of e.kind) e.own) (node_of (octet_of e.kind) v p) ≡ ltb (get_or v p 0) (get_or b e.own 0)) × (span_of b (octet_of e.kind) e.own ≡
          counted b e.own 1)
      choice_of = with_choice b v e.own p (octet_of e.kind) f

      listed : get_or v p 0 < get_or b e.own 0
      listed = ltb-true _ _ (sym choice_of.0 ∙ ag)

      choice_ended : own_end (octet_of e.kind) v p ≡ p + 1
      unfolding own_end
      choice_ended = rw f (fixed_is v (p + 1) (rw f at shaped)).0

      choice_type : get_or b (e.own + 1 + 1 * get_or v p 0) 0 ≡ below_at b e v p 0
      choice_type = subst (λ (s : Span). get_or b (place_of s (get_or v p 0)) 0 ≡ below_at b e v p 0) choice_of.1 (below_choice e v p false (sym h) refl f b 0)

      choice_one : 1 ≡ count_at e v p
      choice_one = count_one e v p false (sym h) refl true (rw f refl) refl

      choice_row : row_from b e v p 0 1 ≡ get_or b (e.own + 1 + 1 * get_or v p 0) 0 ∷ []
      unfolding row_from
      choice_row = rw (← choice_type, lt-ltb (get_or b (e.own + 1 + 1 * get_or v p 0) 0) 256 (o (e.own + 1 + 1 * get_or v p 0))) refl

      choice_row_of : get_or b (e.own + 1 + 1 * get_or v p 0) 0 ∷ [] ≡ Row
      unfolding row_of body_at node_of alternatives
      choice_row_of = rw (← every_get b (e.own + 1) (get_or b e.own 0) (get_or v p 0) listed, f) refl

      found_choice : Found
      found_choice =
          record {
            start = sym (start_choice e v p false (sym h) refl f) ∙ sym choice_ended;
            row = rw (← choice_one) (choice_row ∙ choice_row_of);
            part = λ i k. rw (← part_choice e v p false (sym h) refl f i, choice_of.1) listed;
          }

    -- elements
    module _ (f : (eqb (octet_of e.kind) 48 || eqb (octet_of e.kind) 49) ≡ true) where
      not_choice : (octet_of e.kind) ≡ 50 → ⊥
      not_choice z = or_by (eqb (octet_of e.kind) 48) (eqb (octet_of e.kind) 49) f (λ a. let k = eqb-true (octet_of e.kind) 48 a in omega arith) λ a. let k = eqb-true (octet_of e.kind) 49 a
          in omega arith

      not_message : (octet_of e.kind) ≡ 51 → ⊥
      not_message z = or_by (eqb (octet_of e.kind) 48) (eqb (octet_of e.kind) 49) f (λ a. let k = eqb-true (octet_of e.kind) 48 a in omega arith) λ a. let k = eqb-true (octet_of e.kind) 49 a
          in omega arith

      list_ended : own_end (octet_of e.kind) v p ≡ p + 2
      unfolding own_end
      list_ended =
          or_by (eqb (octet_of e.kind) 48) (eqb (octet_of e.kind) 49) f
          (λ a. let k = eqb-true (octet_of e.kind) 48 a in rw k (fixed_is v (p + 2) (rw k at shaped)).0)
          (λ a. let k = eqb-true (octet_of e.kind) 49 a in rw k (fixed_is v (p + 2) (rw k at shaped)).0)

      list_span : span_of b (octet_of e.kind) e.own ≡ record { first = e.own; count = 1; step = 0 }
      unfolding span_of
      list_span = rw (h, ne_eqb (octet_of e.kind) 50 not_choice, f) refl

      list_type : (i : ℕ) → get_or b e.own 0 ≡ below_at b e v p i
      list_type i =
          let q : e.own + 0 * 0 ≡ e.own = omega arith in
          rw q at (subst (λ (s : Span). get_or b (place_of s 0) 0 ≡ below_at b e v p i) list_span (below_list e v p false (sym h) refl not_choice not_message b i))

      row_list : (i m : ℕ) → row_from b e v p i m ≡ replicate m (get_or b e.own 0)
      unfolding row_from
      row_list i zero = refl
      row_list i (suc m) = rw (← list_type i, lt-ltb (get_or b e.own 0) 256 (o e.own), row_list (i + 1) m) refl

      list_row_of : replicate (two v p) (get_or b e.own 0) ≡ Row
      unfolding row_of body_at node_of element
      list_row_of = or_by (eqb (octet_of e.kind) 48) (eqb (octet_of e.kind) 49) f (λ a. rw (eqb-true (octet_of e.kind) 48 a) refl) λ a. rw (eqb-true (octet_of e.kind) 49 a) refl

      found_list : Found
      found_list =
          record {
            start = sym (start_list e v p false (sym h) refl not_choice not_message) ∙ sym list_ended;
            row = rw (← count_list e v p false (sym h) refl not_choice not_message) (row_list 0 (two v p) ∙ list_row_of);
            part = λ i k. rw (← part_list e v p false (sym h) refl not_choice not_message i, list_span) (omega arith);
          }

  abbrev Forms : ℕ → Type 0
  Forms k = constructed_of k ≡ true → 0 < own_end k v p → (eqb k 16 || eqb k 17) ≡ false → (k ≡ 50 → ⊥) → (eqb k 48 || eqb k 49) ≡ true

  forms : (k : ℕ) → Forms k
  unfolding own_end
  forms k =
      at k 48 Forms (λ g s a f. refl) λ e₄₈.
      at k 49 Forms (λ g s a f. refl) λ e₄₉ g s a f.
      let (e₁, e₂, e₃, e₄, e₅, e₁₀, e₂₃, e₂₄) = not_simple k g in
      let z = or_false (eqb k 16) (eqb k 17) a in
      absurd (omega (arith, rw (e₁, e₂, e₃, e₄, e₅, e₁₀, e₂₃, e₂₄, z.0, z.1, e₄₈, e₄₉, ne_eqb k 50 f) at s))

  found : constructed_of (octet_of e.kind) ≡ true → Found
  found g =
      test (eqb (octet_of e.kind) 16 || eqb (octet_of e.kind) 17) found_members λ h.
      test (eqb (octet_of e.kind) 50) (λ a. found_choice h (eqb-true (octet_of e.kind) 50 a)) λ a. found_list h (forms (octet_of e.kind) g shaped h (eqb-false (octet_of e.kind) 50 a))

-- what is there is a record's number
every_in : (step : ℕ) (b : List ℕ) (p n j : ℕ) → j < n → In (get_or b (p + step * j) 0) (every_at step b p n)
unfolding every_at
every_in step b p zero j h = absurd (omega arith)
every_in step b p (suc n) zero h = let e : p + step * 0 ≡ p = omega arith in first_of (ap (λ (q : ℕ). get_or b q 0) e)
every_in step b p (suc n) (suc j) h = let e : p + step * suc j ≡ p + step + step * j = simp mul-suc (omega arith) in rw e (later (every_in step b (p + step) n
    j (omega arith)))

below_part : (b : List ℕ) (e : Descriptor) (v : List ℕ) (p i : ℕ) → (octet_of e.kind ≡ 51 → ⊥) → below_at b e v p i < 256
    → get_or b (place_of (parts_of b e) (part_of e v p i)) 0 ≡ below_at b e v p i
unfolding below_at
below_part b e v p i m h =
    test (eqb (octet_of e.kind) 16 || eqb (octet_of e.kind) 17)
    (λ a. test (eqb (get_or v (p + 1 + i) 0) 1) (λ c. rw (a, c) refl) λ c. absurd (omega (arith, rw (a, c) at h)))
    (λ a. rw (a, ne_eqb (octet_of e.kind) 51 m) refl)

-- the node of record t of a table that passes, at a place of its own part
module _ (b : List ℕ) (o : Octets b) (e : Descriptor) (K : Known b e) (v : List ℕ) (p : ℕ) (shaped : 0 < own_end (octet_of e.kind) v p)
    (ag : agrees (record_in b e).body (node_of (octet_of e.kind) v p) ≡ true) (built : constructed_of (octet_of e.kind) ≡ true) (in_v : own_end (octet_of e.kind) v p ≤ length v)
    (P : Passes b (table_in b) (count_in b)) (t : ℕ) (h : t < count_in b) (is : record_in b e ≡ table_in b t) where
  F : Found b o e v p shaped ag
  F = found b o e v p shaped ag built

  known_type : (i : ℕ) → i < count_at e v p → (octet_of e.kind ≡ 51 → ⊥) → below_at b e v p i < 256 → below_at b e v p i < count_in b
  known_type i k m l =
      let s = parts_of b e in
      let q : In (get_or b (place_of s (part_of e v p i)) 0) (references (record_in b e).body) = subst (λ (x : List ℕ). In (get_or b (place_of s (part_of e v p i)) 0)
      x) (entered_span K.entered) (every_in s.step b s.first s.count (part_of e v p i) (F.part i k)) in
      let n : In (below_at b e v p i) (references (table_in b t).body) = rw (← is, ← below_part b e v p i m l) q in
      test (ltb (below_at b e v p i) (count_in b)) (λ a. ltb-true _ _ a) λ a. absurd (P.there t h (record {
        type = below_at b e v p i;
        named = n;
        beyond =
            ltb-false _ _ a;
      }))

  no_message : (octet_of e.kind) ≡ 51 → ⊥
  unfolding own_end
  no_message z = omega (arith, rw z at shaped)

  stand : Standing b v e p
  stand =
      record {
        starts = rw F.start in_v;
        part = λ i k m. part_inside K.entered (part_of e v p i) (F.part i k);
        types = λ i k l. known_type i k no_message l;
      }

  stand_start : start_at e v p ≡ own_end (octet_of e.kind) v p
  stand_start = F.start

  stand_row : row_in b e v p ≡ row_of (table_in b t).body (node_of (octet_of e.kind) v p)
  stand_row = F.row ∙ ap (λ (r : Record). row_of r.body (node_of (octet_of e.kind) v p)) is

-- the node at a place, which is shaped and agrees with record t
module _ (b : List ℕ) (e : Descriptor) (K : Known b e) (v : List ℕ) (at : ℕ) (shaped : 0 < end_at v at) (t : ℕ) (is : record_in b e ≡ table_in b t) (ag : agrees
    (table_in b t).body (node_at v at) ≡ true) where
  at_own : 0 < own_end (get_or v (at + 2) 0) v (at + 3)
  at_own = own_shaped v at shaped

  agreed : agrees (record_in b e).body (node_at v at) ≡ true
  agreed = subst (λ (r : Record). agrees r.body (node_at v at) ≡ true) (sym is) ag

  pub at_kind : (octet_of e.kind) ≡ get_or v (at + 2) 0
  at_kind = entered_kind K.entered ∙ sym (agreed_kind (record_in b e).body (node_at v at) agreed) ∙ node_kind_lem (get_or v (at + 2) 0) v (at + 3) at_own

  pub at_shaped : 0 < own_end (octet_of e.kind) v (at + 3)
  at_shaped = rw at_kind at_own

  agreed_there : agrees (record_in b e).body (node_of (octet_of e.kind) v (at + 3)) ≡ true
  agreed_there = subst (λ (k : ℕ). agrees (record_in b e).body (node_of k v (at + 3)) ≡ true) (sym at_kind) agreed

  end_is : own_end (octet_of e.kind) v (at + 3) ≡ end_at v at
  end_is = ap (λ (k : ℕ). own_end k v (at + 3)) at_kind ∙ sym (own_end_is v at shaped)

  module _ (o : Octets b) (built : constructed_of (get_or v (at + 2) 0) ≡ true) (in_v : end_at v at ≤ length v) (P : Passes b (table_in b) (count_in b)) (h : t < count_in b) where
    pub at_stands : Standing b v e (at + 3)
    at_stands = stand b o e K v (at + 3) at_shaped agreed_there (rw at_kind built) (rw end_is in_v) P t h is

    pub at_start : start_at e v (at + 3) ≡ end_at v at
    at_start = stand_start b o e K v (at + 3) at_shaped agreed_there (rw at_kind built) (rw end_is in_v) P t h is ∙ end_is

    pub at_row : row_in b e v (at + 3) ≡ row_of (table_in b t).body (node_at v at)
    at_row = stand_row b o e K v (at + 3) at_shaped agreed_there (rw at_kind built) (rw end_is in_v) P t h is
        ∙ ap (λ (k : ℕ). row_of (table_in b t).body (node_of k v (at + 3))) at_kind

-- a message of type t
module _ (b v : List ℕ) (e : Descriptor) (t p : ℕ) (k : (octet_of e.kind) ≡ 51) (w : e.own ≡ t) where
  pub message_start : start_at e v p ≡ p
  message_start = sym (start_message e v p k)

  no_members : (eqb (octet_of e.kind) 16 || eqb (octet_of e.kind) 17) ≡ false
  no_members = rw k refl

  message_type : (i : ℕ) → below_at b e v p i ≡ t
  message_type i = sym (below_message e v p false (sym no_members) refl b i k) ∙ w

  message_one : count_at e v p ≡ 1
  message_one = sym (count_one e v p false (sym no_members) refl true (rw k refl) refl)

  pub message_row : t < 256 → row_in b e v p ≡ t ∷ []
  unfolding row_from
  message_row h = rw (message_one, message_type 0, lt-ltb t 256 h) refl

  pub message_stand : p ≤ length v → t < count_in b → Standing b v e p
  message_stand h l =
      record {
        starts = rw message_start h;
        part = λ i c m. absurd (m k);
        types = λ i c g. rw (message_type i) l;
      }
