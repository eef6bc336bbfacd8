-- A SET that was accepted: its members come in any order, are located by their headers, and are placed in the table's order.
-- Assumes nothing.
use mathlib.Core.Bool.{true}
use mathlib.Core.List.{List, [], ◌∷◌, ◌++◌, append-nil, append_assoc}
use mathlib.Core.Option.{Option, some, none}
use mathlib.Core.Path.{◌≡◌, refl, sym, ap, ◌∙◌}
use Prim.Native.Nat.{ℕ, zero, suc, ◌+◌, ◌-◌, ◌≤◌, ◌<◌}
use native.Mathlib.Numerals.{sub-one}
use native.Mathlib.Omega.{arith}
use lib.ListN.{length, get_or, take, drop, set, replicate, length-append, replicate-append-replicate, take-append-drop}
use lib.Seq.{sets, length-sets, take-suc, take_all, drop-cons}
use Rattle.octets.specs.Answer.{got}
use Rattle.table.specs.Syntax.{Member, Set, Table}
use Rattle.coding.specs.Value.{Value, slots, octets, slot_octets}
use Rattle.coding.specs.Value as ValueOf
use Rattle.coding.specs.Reading.{nothing, read_value}
use Rattle.reader.specs.Items.{inside, parts_of, Hand, filled, assemble, node_size}
use Rattle.reader.specs.Placing.{Noted, over, free, came}
use Rattle.reader.specs.Placing.{bodies, kind_of, said, absent_in, has_members}
use Rattle.reader.proofs.ItemsSizes.{presence_length}
use Rattle.reader.proofs.PlacedNodes.{slots_parts, nothing_is, Row, row_turned, Standing, stands_first, stands_absent}
use Rattle.reader.proofs.PlacedNodes.{whole_members}
use Rattle.reader.proofs.Items.{no_cons}

-- a member that came
pub record There (T : Table) (n : ℕ) (m : List ℕ) (ms : List Member) (ns : List ℕ) (os : List (Option Value)) (i : ℕ) : Type 0 where
  pub member : Member
  pub is : drop i ms ≡ member ∷ drop (suc i) ms
  pub value : Value
  pub behind : List ℕ
  pub low : get_or ns i 0 - 1 ≤ length m
  pub read : read_value T n member.type (drop (get_or ns i 0 - 1) m) ≡ got value behind
  pub has : get_or os i none ≡ some value

-- notes by their places
module _ {T : Table} {n : ℕ} {m : List ℕ} where
  pub noted_none : (ms : List Member) (j : ℕ) → length ms ≤ j → Noted T n m ms (replicate j 0) (nothing ms)
  unfolding nothing
  noted_none [] j h = over
  noted_none (k ∷ ms) zero h = absurd (omega arith)
  noted_none (k ∷ ms) (suc j) h = free (noted_none ms j (omega arith))

  noted_length : {ms : List Member} {ns : List ℕ} {os : List (Option Value)} → Noted T n m ms ns os → length os ≡ length ms
  noted_length over = refl
  noted_length (free d) = ap suc (noted_length d)
  noted_length (came p l e d) = ap suc (noted_length d)

  noted_free : {ms : List Member} {ns : List ℕ} {os : List (Option Value)} → Noted T n m ms ns os → (i : ℕ) → i < length ms → get_or ns i 0 ≡ 0
      → get_or os i none ≡ none
  noted_free over i h e = absurd (omega arith)
  noted_free (free d) zero h e = refl
  noted_free (free d) (suc i) h e = noted_free d i (omega arith) e
  noted_free (came p l q d) zero h e = absurd (omega arith)
  noted_free (came p l q d) (suc i) h e = noted_free d i (omega arith) e

  pub noted_came : {ms : List Member} {ns : List ℕ} {os : List (Option Value)} → Noted T n m ms ns os → (i : ℕ) → i < length ms
      → (get_or ns i 0 ≡ 0 → ⊥) → There T n m ms ns os i
  noted_came over i h e = absurd (omega arith)
  noted_came (free d) zero h e = absurd (e refl)
  noted_came (free d) (suc i) h e =
      let t = noted_came d i (omega arith) e in
      record { member = t.member; is = t.is; value = t.value; behind = t.behind; low = t.low; read = t.read; has = t.has }
  noted_came (came {k = k} {v = v} {w = w} p l q d) zero h e =
      record { member = k; is = refl; value = v; behind = w; low = rw sub-one l; read = rw sub-one q; has = refl }
  noted_came (came p l q d) (suc i) h e =
      let t = noted_came d i (omega arith) e in
      record { member = t.member; is = t.is; value = t.value; behind = t.behind; low = t.low; read = t.read; has = t.has }

  -- one more came
  pub noted_set : {ms : List Member} {ns : List ℕ} {os : List (Option Value)} → Noted T n m ms ns os → (i : ℕ) (k : Member) (rest : List Member)
      → drop i ms ≡ k ∷ rest
      → (p : ℕ) → p ≤ length m → (v : Value) (w : List ℕ) → read_value T n k.type (drop p m) ≡ got v w → Noted T n m ms (set ns i (suc p)) (set os i (some v))
  noted_set over zero k rest z p l v w e = absurd (no_cons k rest z)
  noted_set over (suc i) k rest z p l v w e = absurd (no_cons k rest z)
  noted_set (free {k = a} {ms = ms} d) zero k rest z p l v w e = came {k = a} {v = v} {w = w} p l (rw (first_is z) e) d
    where
      first_is : a ∷ ms ≡ k ∷ rest → a ≡ k
      first_is z = cc
  noted_set (free d) (suc i) k rest z p l v w e = free (noted_set d i k rest z p l v w e)
  noted_set (came {k = a} {ms = ms} q l' f d) zero k rest z p l v w e = came {k = a} {v = v} {w = w} p l (rw (first_is z) e) d
    where
      first_is : a ∷ ms ≡ k ∷ rest → a ≡ k
      first_is z = cc
  noted_set (came q l' f d) (suc i) k rest z p l v w e = came q l' f (noted_set d i k rest z p l v w e)

-- members that are missing, one after another
take_free : (os : List (Option Value)) (j d : ℕ) → j + d ≤ length os → ((i : ℕ) → j ≤ i → i < j + d → get_or os i none ≡ none)
    → take (j + d) os ≡ take j os ++ replicate d none
take_free os j zero l h = let e : j + 0 ≡ j = omega arith in rw (e, append-nil) refl
take_free os j (suc d) l h =
    let e : j + suc d ≡ suc (j + d) = omega arith in
    let f : d + 1 ≡ suc d = omega arith in
    let x = take_free os j d (omega arith) (λ i a b. h i a (omega arith)) in
    let y : get_or os (j + d) none ≡ none = h (j + d) (omega arith) (omega arith) in
    let z : replicate d none ++ (none ∷ []) ≡ replicate (suc d) none = replicate-append-replicate d 1 none ∙ ap (λ (k : ℕ). replicate k none) f in
    ap (λ (k : ℕ). take k os) e
    ∙ take-suc os (j + d) none (omega arith)
    ∙ rw (y, x) (append_assoc (take j os) (replicate d none) (none ∷ []) ∙ ap (λ (l : List (Option Value)). take j os ++ l) z)

-- how many octets those have that came
some_parts : (os : List (Option Value)) (j : ℕ) (v : Value) → j < length os → get_or os j none ≡ some v
    → length (slot_octets (slots (take j os))) + length (octets v) ≤ length (slot_octets (slots os))
unfolding slots slot_octets
some_parts os j v l e =
    let d : os ≡ take j os ++ (some v ∷ drop (suc j) os) =
    sym (take-append-drop j os) ∙ ap (λ (r : List (Option Value)). take j os ++ r)
    (drop-cons os j none l ∙ ap (λ (o : Option Value). o ∷ drop (suc j) os) e) in
    let x = ap (λ (r : List (Option Value)). length (slot_octets (slots r))) d
    ∙ ap length (slots_parts (take j os) (some v ∷ drop (suc j) os))
    ∙ length-append (slot_octets (slots (take j os))) (octets v ++ slot_octets (slots (drop (suc j) os))) in
    omega (arith, x, length-append (octets v) (slot_octets (slots (drop (suc j) os))))

-- The loop that places the members of a SET in the table's order. By the notes ns they begin at places of m, and `os` are their values;
-- the first j are in hand, or did not come.
pub record Filling (T : Table) (n : ℕ) (ms : List Member) (m ns : List ℕ) (os : List (Option Value)) (first : List ℕ) (to : ℕ) (buf : List ℕ)
    (next j : ℕ) : Type 0 where
  pub hand : Hand
  pub noted : Noted T n m ms ns os
  pub stands : Standing (inside (Set ms)) first to hand [] j buf next
  pub so_far : filled hand (replicate j none) ≡ take j os
  pub room : to + length (octets (ValueOf.set (slots os))) ≤ length buf

pub filling_first : {T : Table} {n : ℕ} {ms : List Member} {m ns : List ℕ} {os : List (Option Value)} {first : List ℕ} {to : ℕ} {buf : List ℕ} {next : ℕ}
    → Noted T n m ms ns os
    → to + length (octets (ValueOf.set (slots os))) ≤ length first → buf ≡ sets first to (said (inside (Set ms)) 0 []) → next ≡ to + node_size (inside (Set ms))
    → Filling T n ms m ns os first to buf next 0
unfolding filled
filling_first {ms = ms} {first = first} {to = to} N l eb en =
    record {
      hand = [];
      noted = N;
      stands = rw (eb, en) (stands_first (inside (Set ms)) first to);
      so_far = refl;
      room = rw eb (omega (arith, length-sets first to (said (inside (Set ms)) 0 [])));
    }

module _ {T : Table} {n : ℕ} {ms : List Member} {m ns : List ℕ} {os : List (Option Value)} {first : List ℕ} {to : ℕ} {buf : List ℕ} {next j : ℕ}
    (S : Filling T n ms m ns os first to buf next j) where
  the_kind : has_members (kind_of (inside (Set ms))) ≡ true
  unfolding kind_of
  the_kind = refl

  the_row : Row S.hand j
  the_row = S.stands.row the_kind

  -- up to the k-th none came
  pub filling_skip : (k : ℕ) → j ≤ k → k ≤ length ms → ((i : ℕ) → j ≤ i → i < k → get_or ns i 0 ≡ 0) → (last : List ℕ) → last ≡ absent_in j k buf to
      → Filling T n ms m ns os first to last next k
  unfolding parts_of
  filling_skip k l u h last e =
      let q : j + (k - j) ≡ k = omega arith in
      let f = take_free os j (k - j) (omega (arith, noted_length S.noted)) (λ i a b. noted_free S.noted i (omega arith) (h i a (omega arith))) in
      let w = the_row.whole (k - j) in
      record {
        hand = S.hand;
        noted = S.noted;
        stands = stands_absent S.stands the_kind k l u last e;
        so_far = rw q at (w ∙ ap (λ (r : List (Option Value)). r ++ replicate (k - j) none) S.so_far ∙ sym f);
        room = rw e (omega (arith, length-sets buf (to + 4 + j) (replicate (k - j) 0), S.room));
      }

  -- the j-th came
  pub filling_there : j < length ms → (get_or ns j 0 ≡ 0 → ⊥) → There T n m ms ns os j
  filling_there l e = noted_came S.noted j l e

  module _ (l : j < length ms) (t : There T n m ms ns os j) where
    pub filling_room : next + length (octets t.value) ≤ length buf
    unfolding octets node_size
    filling_room =
        let x = some_parts os j t.value (omega (arith, noted_length S.noted)) t.has in
        let y : bodies S.hand ≡ slot_octets (slots (take j os)) = sym the_row.parts ∙ ap (λ (r : List (Option Value)). slot_octets (slots r)) S.so_far in
        let z = length-append (ValueOf.presence (slots os)) (slot_octets (slots os)) in
        omega (arith, S.room, rw append-nil at S.stands.reaches, ap length y, presence_length os, noted_length S.noted)

    pub filling_next : {last : List ℕ} {next₁ : ℕ} → Standing (inside (Set ms)) first to (S.hand ++ ((j, t.value) ∷ [])) [] (suc j) last next₁
        → length last ≡ length buf
        → Filling T n ms m ns os first to last next₁ (suc j)
    filling_next stands e =
        record {
          hand = S.hand ++ ((j, t.value) ∷ []);
          noted = S.noted;
          stands = stands;
          so_far =
              row_turned the_row t.value
              ∙ rw S.so_far (sym (take-suc os j none (omega (arith, noted_length S.noted)) ∙ ap (λ (o : Option Value). take j os ++ (o ∷ [])) t.has));
          room = rw e S.room;
        }

  -- all were told of
  pub filling_end : j ≡ length ms → (next ≡ to + length (octets (ValueOf.set (slots os)))) × (buf ≡ sets first to (octets (ValueOf.set (slots os))))
  unfolding parts_of assemble
  filling_end e =
      let W = whole_members the_kind S.stands e in
      let z : filled S.hand (nothing ms) ≡ os =
      ap (filled S.hand) (nothing_is ms ∙ ap (λ (k : ℕ). replicate k none) (sym e)) ∙ S.so_far ∙ take_all j os
      (omega (arith, noted_length S.noted)) in
      let o : assemble (inside (Set ms)) S.hand ≡ ValueOf.set (slots os) = ap (λ (r : List (Option Value)). ValueOf.set (slots r)) z in
      (rw o at W.ends, rw o at W.buffer)
