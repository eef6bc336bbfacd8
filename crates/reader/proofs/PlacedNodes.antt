-- The buffer while items are placed: the node grows by what it says of each, and behind it the values stand one after another.
-- Assumes nothing.
use mathlib.Core.Bool.{true, false, false≢true, true≢false}
use mathlib.Core.List.{List, [], ◌∷◌, ◌++◌, append-nil, append_assoc}
use mathlib.Core.Option.{Option, some, none}
use mathlib.Core.Path.{◌≡◌, refl, sym, ap, ◌∙◌}
use Prim.Native.Nat.{ℕ, zero, suc, ◌+◌, ◌-◌, ◌≤◌, ◌<◌}
use native.Mathlib.Omega.{arith}
use lib.ListN.{length, set, replicate, length-replicate, length-append, replicate-append-replicate}
use lib.Seq.{append_snoc, sets, set_at}
use Rattle.octets.specs.Answer.{if}
use Rattle.octets.specs.Numbers.{octets_of}
use Rattle.octets.proofs.Tests.{test}
use Rattle.table.specs.Syntax.{Member, Plain, Sequence, Set, SequenceOf, SetOf, Choice}
use Rattle.coding.specs.Value.{Value, slots, bag, octets, count, presence, slot_octets}
use Rattle.coding.specs.Reading.{nothing}
use Rattle.reader.specs.Items.{Holder, inside, message, parts_of, Hand, filled}
use Rattle.reader.specs.Items.{values, only, assemble, node_size, sizes_of}
use Rattle.reader.specs.Sought.{tabled_count}
use Rattle.reader.specs.Placing.{bodies, flags, kind_of, has_members, is_list, holds_one, onward, node_of, opening_of, noted_in, absent_in}
use Rattle.reader.specs.Placing.{finished_in, said}
use Rattle.reader.proofs.ItemsInTurn.{filled_snoc, filled_length}
use Rattle.reader.proofs.Stores.{sets_append, sets_later}
use Rattle.reader.proofs.ItemsSizes.{presence_length}

-- members in a row
pub slots_parts : (os us : List (Option Value)) → slot_octets (slots (os ++ us)) ≡ slot_octets (slots os) ++ slot_octets (slots us)
unfolding slots slot_octets
slots_parts [] us = refl
slots_parts (none ∷ os) us = slots_parts os us
slots_parts (some v ∷ os) us = rw (slots_parts os us) (sym (append_assoc (octets v) (slot_octets (slots os)) (slot_octets (slots us))))

slots_presence : (os us : List (Option Value)) → presence (slots (os ++ us)) ≡ presence (slots os) ++ presence (slots us)
unfolding slots presence
slots_presence [] us = refl
slots_presence (none ∷ os) us = ap (λ (l : List ℕ). 0 ∷ l) (slots_presence os us)
slots_presence (some v ∷ os) us = ap (λ (l : List ℕ). 1 ∷ l) (slots_presence os us)

pub slots_count : (os : List (Option Value)) → count (slots os) ≡ length os
unfolding slots count
slots_count [] = refl
slots_count (none ∷ os) = ap suc (slots_count os)
slots_count (some v ∷ os) = ap suc (slots_count os)

none_parts : (k : ℕ) → slot_octets (slots (replicate k none)) ≡ []
unfolding slots slot_octets
none_parts zero = refl
none_parts (suc k) = none_parts k

none_presence : (k : ℕ) → presence (slots (replicate k none)) ≡ replicate k 0
unfolding slots presence
none_presence zero = refl
none_presence (suc k) = ap (λ (l : List ℕ). 0 ∷ l) (none_presence k)

pub nothing_is : (ms : List Member) → nothing ms ≡ replicate (length ms) none
unfolding nothing
nothing_is [] = refl
nothing_is (m ∷ ms) = ap (λ (l : List (Option Value)). none ∷ l) (nothing_is ms)

-- values in hand
pub bodies_append : (hand more : Hand) → bodies (hand ++ more) ≡ bodies hand ++ bodies more
unfolding bodies
bodies_append [] more = refl
bodies_append (x ∷ hand) more = rw (bodies_append hand more) (sym (append_assoc (octets x.1) (bodies hand) (bodies more)))

pub bodies_snoc : (hand : Hand) (p : ℕ) (v : Value) → bodies (hand ++ ((p, v) ∷ [])) ≡ bodies hand ++ octets v
unfolding bodies
bodies_snoc hand p v = bodies_append hand ((p, v) ∷ []) ∙ ap (λ (l : List ℕ). bodies hand ++ l) (append-nil (octets v))

pub bodies_long : (hand : Hand) → length (bodies hand) ≡ sizes_of hand
unfolding bodies sizes_of
bodies_long [] = refl
bodies_long (x ∷ hand) = length-append (octets x.1) (bodies hand) ∙ ap (λ (k : ℕ). length (octets x.1) + k) (bodies_long hand)

pub row_length : (hand : Hand) (j : ℕ) → length (filled hand (replicate j none)) ≡ j
row_length hand j = filled_length hand (replicate j none) ∙ length-replicate j none

-- members in hand in the table's order, all before the j-th
pub record Row (hand : Hand) (j : ℕ) : Type 0 where
  pub whole : (k : ℕ) → filled hand (replicate (j + k) none) ≡ filled hand (replicate j none) ++ replicate k none
  pub parts : slot_octets (slots (filled hand (replicate j none))) ≡ bodies hand

pub row_none : Row [] 0
unfolding filled bodies slots slot_octets
row_none = record { whole = λ k. let e : 0 + k ≡ k = omega arith in rw e refl; parts = refl }

module _ {hand : Hand} {j : ℕ} (R : Row hand j) where
  row_more : (k : ℕ) → Row hand (j + k)
  row_more k =
      record {
        whole = λ i.
            let e : j + k + i ≡ j + (k + i) = omega arith in
            rw (e, R.whole (k + i), R.whole k, ← replicate-append-replicate k i)
            (sym (append_assoc (filled hand (replicate j none)) (replicate k none) (replicate i none)));
        parts = rw (R.whole k, slots_parts (filled hand (replicate j none)) (replicate k none), none_parts k, append-nil) R.parts;
      }

  -- some were passed over
  pub row_later : (k : ℕ) → j ≤ k → Row hand k
  row_later k h = let e : j + (k - j) ≡ k = omega arith in rw e at (row_more (k - j))

  flags_later : (k : ℕ) → j ≤ k → flags hand k ≡ flags hand j ++ replicate (k - j) 0
  unfolding flags
  flags_later k h =
      let e : k ≡ j + (k - j) = omega arith in
      ap (λ (i : ℕ). presence (slots (filled hand (replicate i none)))) e
      ∙ ap (λ (l : List (Option Value)). presence (slots l)) (R.whole (k - j))
      ∙ slots_presence (filled hand (replicate j none)) (replicate (k - j) none)
      ∙ ap (λ (l : List ℕ). presence (slots (filled hand (replicate j none))) ++ l) (none_presence (k - j))

  row_with : (v : Value) (k : ℕ) → filled (hand ++ ((j, v) ∷ [])) (replicate (suc j + k) none) ≡ filled hand (replicate j none) ++ (some v ∷ replicate k none)
  row_with v k =
      let e : suc j + k ≡ j + suc k = omega arith in
      rw (filled_snoc hand j v (replicate (suc j + k) none), e, R.whole (suc k))
      (set_at (filled hand (replicate j none)) none (replicate k none) (some v) j (row_length hand j))

  pub row_turned : (v : Value) → filled (hand ++ ((j, v) ∷ [])) (replicate (suc j) none) ≡ filled hand (replicate j none) ++ (some v ∷ [])
  row_turned v = let e : suc j ≡ suc j + 0 = omega arith in ap (λ (i : ℕ). filled (hand ++ ((j, v) ∷ [])) (replicate i none)) e ∙ row_with v 0

  -- the j-th came
  pub row_turn : (v : Value) → Row (hand ++ ((j, v) ∷ [])) (suc j)
  unfolding slots slot_octets
  row_turn v =
      record {
        whole = λ k. rw (row_with v k, row_turned v) (sym (append_snoc (filled hand (replicate j none)) (some v) (replicate k none)));
        parts = rw (row_turned v, slots_parts (filled hand (replicate j none)) (some v ∷ []), append-nil, R.parts, bodies_snoc hand j v) refl;
      }

  flags_turn : (v : Value) → flags (hand ++ ((j, v) ∷ [])) (suc j) ≡ flags hand j ++ (1 ∷ [])
  unfolding flags slots presence
  flags_turn v = ap (λ (l : List (Option Value)). presence (slots l)) (row_turned v) ∙ slots_presence (filled hand (replicate j none)) (some v ∷ [])

flags_length : (hand : Hand) (j : ℕ) → length (flags hand j) ≡ j
unfolding flags
flags_length hand j = presence_length (filled hand (replicate j none)) ∙ row_length hand j

flags_none : flags [] 0 ≡ []
unfolding flags filled slots presence
flags_none = refl

-- stores that go on where others ended
head_grows : (first : List ℕ) (to size : ℕ) (P R Q : List ℕ) → length P + length R ≤ size
    → sets (sets (sets first to P) (to + size) Q) (to + length P) R ≡ sets (sets first to (P ++ R)) (to + size) Q
head_grows first to size P R Q h =
    sets_later R Q (sets first to P) (to + length P) (to + size) (omega arith) ∙ ap (λ (b : List ℕ). sets b (to + size) Q) (sym (sets_append P first to R))

-- a node's head is full
head_full : (first : List ℕ) (to size : ℕ) (P Q : List ℕ) → length P ≡ size → sets (sets first to P) (to + size) Q ≡ sets first to (P ++ Q)
head_full first to size P Q e = rw (← e) (sym (sets_append P first to Q))

-- a holder that has members
by_members : (P : Holder → Type 0) → ((ms : List Member) → P (inside (Sequence ms))) → ((ms : List Member) → P (inside (Set ms))) → (h : Holder)
    → has_members (kind_of h) ≡ true → P h
unfolding kind_of
by_members P f g (inside (Plain k)) e = absurd (false≢true e)
by_members P f g (inside (Sequence ms)) e = f ms
by_members P f g (inside (Set ms)) e = g ms
by_members P f g (inside (SequenceOf t)) e = absurd (false≢true e)
by_members P f g (inside (SetOf t)) e = absurd (false≢true e)
by_members P f g (inside (Choice ts)) e = absurd (false≢true e)
by_members P f g (message t) e = absurd (false≢true e)

pub members_size : (h : Holder) → has_members (kind_of h) ≡ true → node_size h ≡ 4 + length (parts_of h)
unfolding node_size parts_of
members_size = by_members (λ h. node_size h ≡ 4 + length (parts_of h)) (λ ms. refl) (λ ms. refl)

module _ (hand : Hand) (j : ℕ) where
  said_length : (h : Holder) → has_members (kind_of h) ≡ true → length (said h j hand) ≡ 4 + j
  unfolding said
  said_length =
      let e = ap (λ (k : ℕ). 4 + k) (flags_length hand j) in
      by_members (λ h. length (said h j hand) ≡ 4 + j) (λ ms. omega (arith, flags_length hand j)) (λ ms. omega (arith, flags_length hand j))

  module _ (R : Row hand j) where
    said_later : (k : ℕ) → j ≤ k → (h : Holder) → has_members (kind_of h) ≡ true → said h k hand ≡ said h j hand ++ replicate (k - j) 0
    unfolding said
    said_later k l = by_members (λ h. said h k hand ≡ said h j hand ++ replicate (k - j) 0) (λ ms. rw (flags_later R k l) refl)
        (λ ms. rw (flags_later R k l) refl)

    said_turn : (v : Value) (h : Holder) → has_members (kind_of h) ≡ true → said h (suc j) (hand ++ ((j, v) ∷ [])) ≡ said h j hand ++ (1 ∷ [])
    unfolding said
    said_turn v = by_members (λ h. said h (suc j) (hand ++ ((j, v) ∷ [])) ≡ said h j hand ++ (1 ∷ [])) (λ ms. rw (flags_turn R v) refl)
        (λ ms. rw (flags_turn R v) refl)

pub members_octets : (hand : Hand) (h : Holder) → has_members (kind_of h) ≡ true → Row hand (length (parts_of h))
    → octets (assemble h hand) ≡ said h (length (parts_of h)) hand ++ bodies hand
unfolding assemble octets said flags parts_of
members_octets hand =
    by_members (λ h. Row hand (length (parts_of h)) → octets (assemble h hand) ≡ said h (length (parts_of h)) hand ++ bodies hand)
    (λ ms R. rw (slots_count (filled hand (nothing ms)), nothing_is ms, row_length hand (length ms), R.parts) refl)
    (λ ms R. rw (slots_count (filled hand (nothing ms)), nothing_is ms, row_length hand (length ms), R.parts) refl)

-- What stands in the buffer, which was `first`: from `to` on the node, as far as it is told, and behind it the values in hand and what is
-- there of the next. Of members the first j were told of.
pub record Standing (h : Holder) (first : List ℕ) (to : ℕ) (hand : Hand) (more : List ℕ) (j : ℕ) (buf : List ℕ) (next : ℕ) : Type 0 where
  pub row : has_members (kind_of h) ≡ true → Row hand j
  pub within : j ≤ length (parts_of h)
  pub reaches : next ≡ to + node_size h + length (bodies hand ++ more)
  pub buffer : buf ≡ sets (sets first to (said h j hand)) (to + node_size h) (bodies hand ++ more)

-- the node was begun
pub stands_first : (h : Holder) (first : List ℕ) (to : ℕ) → Standing h first to [] [] 0 (sets first to (said h 0 [])) (to + node_size h)
unfolding bodies
stands_first h first to = record { row = λ e. row_none; within = omega arith; reaches = omega arith; buffer = refl }

module _ {h : Holder} {first : List ℕ} {to : ℕ} {hand : Hand} {more : List ℕ} {j : ℕ} {buf : List ℕ} {next : ℕ}
    (S : Standing h first to hand more j buf next) where
  -- more of the next value
  pub stands_more : (w last : List ℕ) → last ≡ sets buf next w → Standing h first to hand (more ++ w) j last (next + length w)
  stands_more w last e =
      let q = append_assoc (bodies hand) more w in
      record {
        row = S.row;
        within = S.within;
        reaches = rw (← q, length-append) (omega (arith, S.reaches));
        buffer = rw (← q) (e ∙ rw (S.buffer, S.reaches) (sym (sets_append (bodies hand ++ more) (sets first to (said h j hand)) (to + node_size h) w)));
      }

  -- members that did not come
  pub stands_absent : has_members (kind_of h) ≡ true → (k : ℕ) → j ≤ k → k ≤ length (parts_of h) → (last : List ℕ) → last ≡ absent_in j k buf to
      → Standing h first to hand more k last next
  stands_absent e k l u last b =
      let z = said_length hand j h e in
      let q : to + 4 + j ≡ to + length (said h j hand) = omega arith in
      let none_came : List ℕ = replicate (k - j) 0 in
      let r : length (said h j hand) + length none_came ≤ node_size h = omega (arith, length-replicate {A = ℕ} (k - j) 0, members_size h e) in
      record {
        row = λ e. row_later (S.row e) k l;
        within = u;
        reaches = S.reaches;
        buffer = b ∙ rw (S.buffer, q, said_later hand j (S.row e) k l h e)
            (head_grows first to (node_size h) (said h j hand) none_came (bodies hand ++ more) r);
      }

-- where there are no members, nothing is told of those that did not come
said_apart : (j k : ℕ) (hand : Hand) (h : Holder) → has_members (kind_of h) ≡ false → said h k hand ≡ said h j hand
unfolding kind_of said
said_apart j k hand (inside (Plain q)) e = refl
said_apart j k hand (inside (Sequence ms)) e = absurd (true≢false e)
said_apart j k hand (inside (Set ms)) e = absurd (true≢false e)
said_apart j k hand (inside (SequenceOf t)) e = refl
said_apart j k hand (inside (SetOf t)) e = refl
said_apart j k hand (inside (Choice ts)) e = refl
said_apart j k hand (message t) e = refl

module _ {h : Holder} {first : List ℕ} {to : ℕ} {hand : Hand} {more : List ℕ} {j : ℕ} {buf : List ℕ} {next : ℕ}
    (S : Standing h first to hand more j buf next) where
  pub stands_elsewhere : has_members (kind_of h) ≡ false → (k : ℕ) → k ≤ length (parts_of h) → Standing h first to hand more k buf next
  stands_elsewhere e k l =
      record { row = λ d. absurd (true≢false (sym d ∙ e)); within = l; reaches = S.reaches; buffer = rw (said_apart j k hand h e) S.buffer }

  -- the node says that the member at place j came
  tells_member : (v : Value) → has_members (kind_of h) ≡ true → j < length (parts_of h)
      → set buf (to + 4 + j) 1 ≡ sets (sets first to (said h (suc j) (hand ++ ((j, v) ∷ [])))) (to + node_size h) (bodies hand ++ more)
  tells_member v e l =
      let z = said_length hand j h e in
      let q : to + 4 + j ≡ to + length (said h j hand) = omega arith in
      rw (S.buffer, q, said_turn hand j (S.row e) v h e)
      (head_grows first to (node_size h) (said h j hand) (1 ∷ []) (bodies hand ++ more) (omega (arith, members_size h e)))

tells : (first : List ℕ) (to : ℕ) (hand : Hand) (more : List ℕ) (j : ℕ) (buf : List ℕ) (next : ℕ) (v : Value) (h : Holder)
    → (holds_one (kind_of h) ≡ true → hand ≡ []) → j < length (parts_of h)
    → Standing h first to hand more j buf next
    → noted_in (kind_of h) j buf to ≡ sets (sets first to (said h (onward (kind_of h) j) (hand ++ ((j, v) ∷ [])))) (to + node_size h) (bodies hand ++ more)
unfolding noted_in kind_of onward parts_of said node_size if
tells first to hand more j buf next v (inside (Plain k)) o l S = absurd (omega arith)
tells first to hand more j buf next v (inside (Sequence ms)) o l S = tells_member S v refl l
tells first to hand more j buf next v (inside (Set ms)) o l S = tells_member S v refl l
tells first to hand more j buf next v (inside (SequenceOf t)) o l S = S.buffer
tells first to hand more j buf next v (inside (SetOf t)) o l S = S.buffer
tells first to hand more j buf next v (inside (Choice ts)) o l S =
    let e = o refl in
    rw e (rw (S.buffer, e) (head_grows first to 4 (86 ∷ 65 ∷ 50 ∷ []) (j ∷ []) (bodies [] ++ more) (omega arith)))
tells first to hand more j buf next v (message t) o l S = S.buffer

onward_within : (h : Holder) (j : ℕ) → j < length (parts_of h) → onward (kind_of h) j ≤ length (parts_of h)
unfolding onward if
onward_within h j l = test (has_members (kind_of h)) (λ e. rw e l) λ e. rw e (omega arith)

module _ {h : Holder} {first : List ℕ} {to : ℕ} {hand : Hand} {more : List ℕ} {j : ℕ} {buf : List ℕ} {next : ℕ} (S : Standing h first to hand more j buf next)
    (alone : holds_one (kind_of h) ≡ true → hand ≡ []) (low : j < length (parts_of h)) where
  -- the part at place j came, and the rest of its value is w
  pub stands_turn : (v : Value) (w last : List ℕ) → octets v ≡ more ++ w → last ≡ sets (noted_in (kind_of h) j buf to) next w
      → Standing h first to (hand ++ ((j, v) ∷ [])) [] (onward (kind_of h) j) last (next + length w)
  unfolding onward if
  stands_turn v w last o e =
      let q : bodies (hand ++ ((j, v) ∷ [])) ++ [] ≡ (bodies hand ++ more) ++ w = append-nil _ ∙ bodies_snoc hand j v ∙ ap
      (λ (l : List ℕ). bodies hand ++ l) o ∙ sym (append_assoc (bodies hand) more w) in
      record {
        row = λ d. rw d (row_turn (S.row d) v);
        within = onward_within h j low;
        reaches = rw (q, length-append) (omega (arith, S.reaches));
        buffer = rw q (e ∙ rw (tells first to hand more j buf next v h alone low S, S.reaches)
            (sym (sets_append (bodies hand ++ more) (sets first to (said h (onward (kind_of h) j) (hand ++ ((j, v) ∷ [])))) (to + node_size h) w)));
      }

-- elements in a row
bag_parts : (hand : Hand) → slot_octets (bag (values hand)) ≡ bodies hand
unfolding bag slot_octets bodies
bag_parts [] = refl
bag_parts (x ∷ hand) = ap (λ (l : List ℕ). octets x.1 ++ l) (bag_parts hand)

bag_count : (hand : Hand) → count (bag (values hand)) ≡ length hand
unfolding count bag
bag_count [] = refl
bag_count (x ∷ hand) = ap suc (bag_count hand)

-- the value's octets were placed, and nothing else was
pub record Whole (h : Holder) (first : List ℕ) (to : ℕ) (hand : Hand) (buf : List ℕ) (next : ℕ) : Type 0 where
  pub ends : next ≡ to + length (octets (assemble h hand))
  pub buffer : buf ≡ sets first to (octets (assemble h hand))

module _ {h : Holder} {first : List ℕ} {to : ℕ} {hand : Hand} {buf : List ℕ} {next : ℕ} where
  -- all members were told of
  pub whole_members : has_members (kind_of h) ≡ true → {j : ℕ} → Standing h first to hand [] j buf next → j ≡ length (parts_of h) → Whole h first to hand buf next
  whole_members e {j} S d =
      let z = said_length hand (length (parts_of h)) h e in
      let R = rw d at (S.row e) in
      let o = members_octets hand h e R in
      let b = rw (append-nil, d) at S.buffer in
      record {
        ends = rw (o, length-append) (omega (arith, rw append-nil at S.reaches, members_size h e));
        buffer = rw o (b ∙ head_full first to (node_size h) (said h (length (parts_of h)) hand) (bodies hand) (z ∙ sym (members_size h e)));
      }

-- a list, once it says how many there are
record Listed (h : Holder) (j : ℕ) (hand : Hand) : Type 0 where
  size : node_size h ≡ 5
  long : length (said h j hand) ≡ 3
  octets : octets (assemble h hand) ≡ said h j hand ++ (octets_of (length hand) ++ bodies hand)

listed : (j : ℕ) (hand : Hand) (h : Holder) → is_list (kind_of h) ≡ true → Listed h j hand
unfolding kind_of node_size said assemble octets
listed j hand (inside (Plain k)) e = absurd (false≢true e)
listed j hand (inside (Sequence ms)) e = absurd (false≢true e)
listed j hand (inside (Set ms)) e = absurd (false≢true e)
listed j hand (inside (SequenceOf t)) e = record { size = refl; long = refl; octets = rw (bag_count hand, bag_parts hand) refl }
listed j hand (inside (SetOf t)) e = record { size = refl; long = refl; octets = rw (bag_count hand, bag_parts hand) refl }
listed j hand (inside (Choice ts)) e = absurd (false≢true e)
listed j hand (message t) e = absurd (false≢true e)

-- a CHOICE or a message, once its item is there
record Lone (h : Holder) (j : ℕ) (hand : Hand) : Type 0 where
  long : length (said h j hand) ≡ node_size h
  octets : octets (assemble h hand) ≡ said h j hand ++ bodies hand

lone : (j : ℕ) (x : ℕ × Value) (h : Holder) → holds_one (kind_of h) ≡ true → Lone h j (x ∷ [])
unfolding kind_of node_size said assemble octets only bodies
lone j x (inside (Plain k)) e = absurd (false≢true e)
lone j x (inside (Sequence ms)) e = absurd (false≢true e)
lone j x (inside (Set ms)) e = absurd (false≢true e)
lone j x (inside (SequenceOf t)) e = absurd (false≢true e)
lone j x (inside (SetOf t)) e = absurd (false≢true e)
lone j x (inside (Choice ts)) e = record { long = refl; octets = rw append-nil refl }
lone j x (message t) e = record { long = refl; octets = rw append-nil refl }

module _ {h : Holder} {first : List ℕ} {to : ℕ} {hand : Hand} {buf : List ℕ} {next j : ℕ} (S : Standing h first to hand [] j buf next) where
  pub whole_list : is_list (kind_of h) ≡ true → (last : List ℕ) → last ≡ sets buf (to + 3) (octets_of (length hand)) → Whole h first to hand last next
  whole_list e last l =
      let L = listed j hand h e in
      let P = said h j hand in
      let O = octets_of (length hand) in
      let q : to + 3 ≡ to + length P = omega (arith, L.long) in
      let z : length (P ++ O) ≡ node_size h = length-append P O ∙ omega (arith, L.long, L.size) in
      let a = sym (append_assoc P O (bodies hand)) in
      record {
        ends = rw (L.octets, a, length-append) (omega (arith, rw append-nil at S.reaches, z));
        buffer = rw (L.octets, a) (l ∙ rw (S.buffer, append-nil, q)
            (head_grows first to (node_size h) P O (bodies hand) (omega (arith, L.long, L.size))) ∙ head_full first to (node_size h) (P ++ O) (bodies hand) z);
      }

  pub whole_one : holds_one (kind_of h) ≡ true → (x : ℕ × Value) → hand ≡ x ∷ [] → Whole h first to hand buf next
  whole_one e x i =
      let L : Lone h j hand = rw i (lone j x h e) in
      record {
        ends = rw (L.octets, length-append) (omega (arith, rw append-nil at S.reaches, L.long));
        buffer = rw L.octets (rw append-nil at S.buffer ∙ head_full first to (node_size h) (said h j hand) (bodies hand) L.long);
      }

  -- contents are over
  pub whole_finished : (count : ℕ) (last : List ℕ) → holds_one (kind_of h) ≡ false → (kind_of h ≡ 0 → ⊥) → count ≡ length hand
      → last ≡ finished_in (kind_of h) j (length (parts_of h)) count buf to → Whole h first to hand last next
  unfolding finished_in if kind_of
  whole_finished count last o k c l =
      test (has_members (kind_of h))
      (λ e. whole_members e (stands_absent S e (length (parts_of h)) S.within (omega arith) last (rw e at l)) refl)
      λ e. whole_list (lists h e o k) last (rw (← c) (rw e at l))
    where
      lists : (h : Holder) → has_members (kind_of h) ≡ false → holds_one (kind_of h) ≡ false → (kind_of h ≡ 0 → ⊥) → is_list (kind_of h) ≡ true
      lists (inside (Plain k)) e o n = absurd (n refl)
      lists (inside (Sequence ms)) e o n = absurd (true≢false e)
      lists (inside (Set ms)) e o n = absurd (true≢false e)
      lists (inside (SequenceOf t)) e o n = refl
      lists (inside (SetOf t)) e o n = refl
      lists (inside (Choice ts)) e o n = absurd (true≢false o)
      lists (message t) e o n = absurd (true≢false o)

-- by the number of the kind
pub opening_is : (h : Holder) → (kind_of h ≡ 0 → ⊥) → opening_of (kind_of h) (tabled_count h) ≡ said h 0 []
unfolding kind_of tabled_count parts_of opening_of said if
opening_is (inside (Plain k)) n = absurd (n refl)
opening_is (inside (Sequence ms)) n = rw flags_none refl
opening_is (inside (Set ms)) n = rw flags_none refl
opening_is (inside (SequenceOf t)) n = refl
opening_is (inside (SetOf t)) n = refl
opening_is (inside (Choice ts)) n = refl
opening_is (message t) n = refl

pub node_is : (h : Holder) → (kind_of h ≡ 0 → ⊥) → node_of (kind_of h) (tabled_count h) ≡ node_size h
unfolding kind_of tabled_count parts_of node_of node_size if
node_is (inside (Plain k)) n = absurd (n refl)
node_is (inside (Sequence ms)) n = refl
node_is (inside (Set ms)) n = refl
node_is (inside (SequenceOf t)) n = refl
node_is (inside (SetOf t)) n = refl
node_is (inside (Choice ts)) n = refl
node_is (message t) n = refl

-- how long the octets of a value are, by what is in hand
pub members_long : (hand : Hand) (h : Holder) → has_members (kind_of h) ≡ true → Row hand (length (parts_of h))
    → length (octets (assemble h hand)) ≡ node_size h + length (bodies hand)
members_long hand h e R =
    rw (members_octets hand h e R, length-append) (omega (arith, said_length hand (length (parts_of h)) h e, members_size h e))

pub list_long : (j : ℕ) (hand : Hand) (h : Holder) → is_list (kind_of h) ≡ true → length (octets (assemble h hand)) ≡ node_size h + length (bodies hand)
list_long j hand h e =
    let L = listed j hand h e in
    rw (L.octets, length-append, length-append) (omega (arith, L.long, L.size))

pub one_long : (j : ℕ) (x : ℕ × Value) (h : Holder) → holds_one (kind_of h) ≡ true → length (octets (assemble h (x ∷ []))) ≡ node_size h + length (bodies (x ∷ []))
one_long j x h e = let L = lone j x h e in rw (L.octets, length-append) (omega (arith, L.long))
