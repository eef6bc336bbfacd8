-- The runs of a SEQUENCE, one behind another: what clashes in one of them, or behind it, clashes in the whole, and nothing else does.
-- Assumes nothing.
use mathlib.Core.Bool.{Bool, true, false, not, true≢false, false≢true}
use mathlib.Core.List.Memᴰ.{append_left as in_left}
use mathlib.Core.List.Memᴰ.{append_right as in_right}
use mathlib.Core.List.{List, [], ◌∷◌, ◌++◌, map, Memᴰ as In}
use mathlib.Core.Logic.Iff
use mathlib.Core.Logic.{◌↔◌, inl}
use mathlib.Core.Path.{◌≡◌, refl, sym, ap, ◌∙◌}
use Prim.Native.Nat.{ℕ, zero, suc, ◌+◌, ◌-◌, ◌*◌, ◌≤◌, ◌<◌}
use native.Mathlib.Omega.{arith}
use lib.Dec.{ltb}
use lib.ListN.{length, get_or, length-append, get_or-append}
use lib.Seq.{get_or-append-add}
use borrow.Author.Tests.{ltb-true, ltb-false, not-true, not-false}
use Rattle.octets.specs.Lists.{lowest}
use Rattle.octets.proofs.Tests.{test}
use Rattle.octets.proofs.Search.{lowest_most, lowest_passes, before_lowest}
use Rattle.table.specs.Syntax.{Member, Body, Plain, Sequence, Set, SequenceOf, SetOf, Choice, Record, Table, references}
use Rattle.table.specs.Octets.{kind}
use Rattle.table.specs.Rules.{siblings, runs_on, Clash}
use Rattle.table.specs.Reading.{members_at, every_at, table_in, count_in}
use Rattle.table.proofs.Pieces.{length_every, types_every}
use Rattle.records.specs.Entries.{has_members, span_of, Entered, WithMembers}
use Rattle.records.specs.declared.entry.Entry.{Entry}
use Rattle.records.specs.declared.entry.Span.{Span}
use Rattle.records.proofs.Entries.{entered_kind, kind_members, entered_members, entered_span}
use Rattle.checker.specs.Gathering.{Compares, optional_in}

-- one question, asked of the table's octets and of the record
pub asked : {A B : Type 0} {r : Bool} → A ↔ B → (r ≡ true → A) × (r ≡ false → A → ⊥) → (r ≡ true → B) × (r ≡ false → B → ⊥)
asked s x = (λ e. s.0 (x.0 e), λ e y. x.1 e (s.1 y))

-- runs that agree wherever a part stands
clash_same : {T : Table} {ps : List ℕ} {on to : ℕ → Bool} → ((k : ℕ) → k < length ps → on k ≡ to k) → Clash T ps on → Clash T ps to
clash_same h x =
    record {
      i = x.i;
      j = x.j;
      apart = x.apart;
      within = x.within;
      one_run = λ k g l. sym (h k (omega (arith, l, x.within))) ∙ x.one_run k g l;
      tag = x.tag;
      first = x.first;
      second = x.second;
    }

-- one alone clashes with none
lone_clash : {T : Table} (ps : List ℕ) {on : ℕ → Bool} → length ps < 2 → Clash T ps on → ⊥
lone_clash ps h x = omega (arith, h, x.apart, x.within)

pub lone_part : {T : Table} {on : ℕ → Bool} (step : ℕ) (b : List ℕ) (p n : ℕ) → n < 2 → Clash T (every_at step b p n) on → ⊥
lone_part step b p n h = lone_clash (every_at step b p n) (omega (arith, h, length_every step b p n))

-- the parts xs, and ys behind them
module _ (T : Table) (xs ys : List ℕ) (on : ℕ → Bool) where
  both_lengths : length (xs ++ ys) ≡ length xs + length ys
  both_lengths = length-append xs ys

  at_front : (i : ℕ) → i < length xs → get_or (xs ++ ys) i 0 ≡ get_or xs i 0
  at_front i h = get_or-append xs ys 0 i h

  at_back : (i : ℕ) → length xs ≤ i → get_or (xs ++ ys) i 0 ≡ get_or ys (i - length xs) 0
  at_back i h = let q : length xs + (i - length xs) ≡ i = omega arith in rw q at (get_or-append-add xs ys (i - length xs) 0)

  -- what clashes in front, if that is one run
  clash_front : ((k : ℕ) → suc k < length xs → on k ≡ true) → Clash T xs (λ k. true) → Clash T (xs ++ ys) on
  clash_front run x =
      let h : x.i < length xs = omega (arith, x.apart, x.within) in
      record {
        i = x.i;
        j = x.j;
        apart = x.apart;
        within = omega (arith, both_lengths, x.within);
        one_run = λ k _ l. run k (omega (arith, l, x.within));
        tag = x.tag;
        first = rw (at_front x.i h) x.first;
        second = rw (at_front x.j x.within) x.second;
      }

  -- what clashes behind
  clash_back : Clash T ys (λ k. on (length xs + k)) → Clash T (xs ++ ys) on
  clash_back x =
      record {
        i = length xs + x.i;
        j = length xs + x.j;
        apart = omega (arith, x.apart);
        within = omega (arith, both_lengths, x.within);
        one_run = λ k g l.
            let q : length xs + (k - length xs) ≡ k = omega arith in
            rw q at (x.one_run (k - length xs) (omega arith) (omega arith));
        tag = x.tag;
        first = rw (get_or-append-add xs ys x.i 0) x.first;
        second = rw (get_or-append-add xs ys x.j 0) x.second;
      }

  -- and nothing else, if a run ends between them
  clash_split : (0 < length ys → (k : ℕ) → suc k ≡ length xs → on k ≡ false) → 0 < length xs → (Clash T xs (λ k. true) → ⊥) → Clash T (xs ++ ys) on
      → Clash T ys (λ k. on (length xs + k))
  clash_split ends some none x =
      test (ltb x.j (length xs))
      (λ e.
      let j : x.j < length xs = ltb-true x.j (length xs) e in
      let i : x.i < length xs = omega (arith, j, x.apart) in
      absurd (none (record {
        i = x.i;
        j = x.j;
        apart = x.apart;
        within = j;
        one_run = λ k _ _. refl;
        tag = x.tag;
        first = rw (at_front x.i i) at x.first;
        second = rw (at_front x.j j) at x.second;
      }))) λ e.
      let j : length xs ≤ x.j = ltb-false x.j (length xs) e in
      test (ltb x.i (length xs))
      (λ d.
      let i : x.i < length xs = ltb-true x.i (length xs) d in
      let k = length xs - 1 in
      let c = ends (omega (arith, both_lengths, j, x.within)) k (omega arith) in
      absurd (true≢false (sym (x.one_run k (omega (arith, i)) (omega (arith, j, some))) ∙ c))) λ d.
      let i : length xs ≤ x.i = ltb-false x.i (length xs) d in
      record {
        i = x.i - length xs;
        j = x.j - length xs;
        apart = omega (arith, i, j, x.apart);
        within = omega (arith, both_lengths, j, x.within);
        one_run = λ k g l. x.one_run (length xs + k) (omega (arith, i, g)) (omega (arith, j, l));
        tag = x.tag;
        first = rw (at_back x.i i) at x.first;
        second = rw (at_back x.j j) at x.second;
      }

every_split : (b : List ℕ) (p n m : ℕ) → every_at 2 b p (n + m) ≡ every_at 2 b p n ++ every_at 2 b (p + 2 * n) m
unfolding every_at
every_split b p zero m = let q : 0 + m ≡ m = omega arith in let r : p + 2 * 0 ≡ p = omega arith in rw (q, r)
every_split b p (suc n) m =
    let q : suc n + m ≡ suc (n + m) = omega arith in
    let r : p + 2 * suc n ≡ p + 2 + 2 * n = omega arith in
    rw (q, r) (ap (λ (l : List ℕ). get_or b p 0 ∷ l) (every_split b (p + 2) n m))

-- the first run of the members that are left, and those behind it
module _ (T : Table) (b : List ℕ) (p left n : ℕ) (some : 0 < left) (e : n ≡ suc (lowest (λ k. not (optional_in b p k)) (left - 1))) where
  run_few : n ≤ left
  run_few = omega (arith, e, lowest_most (λ k. not (optional_in b p k)) (left - 1))

  run_some : 0 < n
  run_some = omega (arith, e)

  left_split : every_at 2 b p left ≡ every_at 2 b p n ++ every_at 2 b (p + 2 * n) (left - n)
  left_split = let q : n + (left - n) ≡ left = omega (arith, run_few) in rw q at (every_split b p n (left - n))

  inside_run : (k : ℕ) → suc k < n → optional_in b p k ≡ true
  inside_run k h = not-false _ (before_lowest (λ k. not (optional_in b p k)) (left - 1) k (omega (arith, e, h)))

  behind_run : (k : ℕ) → suc k ≡ n → n < left → optional_in b p k ≡ false
  behind_run k q h =
      let r : lowest (λ k. not (optional_in b p k)) (left - 1) ≡ k = omega (arith, e, q) in
      not-true _ (rw r at (lowest_passes (λ k. not (optional_in b p k)) (left - 1) (omega (arith, r, q, h))))

  length_run : length (every_at 2 b p n) ≡ n
  length_run = length_every 2 b p n

  onwards : (k : ℕ) → optional_in b p (length (every_at 2 b p n) + k) ≡ optional_in b (p + 2 * n) k
  onwards k = let q : p + 2 * (n + k) + 1 ≡ p + 2 * n + 2 * k + 1 = omega arith in rw (length_run, q)

  run_clash : Clash T (every_at 2 b p n) (λ k. true) → Clash T (every_at 2 b p left) (optional_in b p)
  run_clash x =
      rw left_split (clash_front T (every_at 2 b p n) (every_at 2 b (p + 2 * n) (left - n)) (optional_in b p) (λ k h. inside_run k (omega (arith, h, length_run))) x)

  rest_clash : Clash T (every_at 2 b (p + 2 * n) (left - n)) (optional_in b (p + 2 * n)) → Clash T (every_at 2 b p left) (optional_in b p)
  rest_clash x =
      rw left_split (clash_back T (every_at 2 b p n) (every_at 2 b (p + 2 * n) (left - n)) (optional_in b p) (clash_same (λ k _. sym (onwards k)) x))

  clash_rest : (Clash T (every_at 2 b p n) (λ k. true) → ⊥) → Clash T (every_at 2 b p left) (optional_in b p)
      → Clash T (every_at 2 b (p + 2 * n) (left - n)) (optional_in b (p + 2 * n))
  clash_rest none x =
      clash_same (λ k _. onwards k) (clash_split T (every_at 2 b p n) (every_at 2 b (p + 2 * n) (left - n)) (optional_in b p)
      (λ h k q. behind_run k (omega (arith, q, length_run)) (omega (arith, h, length_every 2 b (p + 2 * n) (left - n))))
      (omega (arith, length_run, run_some)) none (rw left_split at x))

-- the runs before the place `at` are compared: of the members from `from` on, `left` are left
pub record Remaining (b : List ℕ) (from all at left : ℕ) : Type 0 where
  pub near : at + 3 * left ≤ 100000
  pub few : left ≤ 16
  pub there : (a : ℕ) → In a (every_at 2 b at left) → a < count_in b
  pub same : Clash (table_in b) (every_at 2 b at left) (optional_in b at) ↔ Clash (table_in b) (every_at 2 b from all) (optional_in b from)

pub remaining_all : {b : List ℕ} {s : Span} → Compares b s → s.step ≡ 2 → Remaining b s.first s.count s.first s.count
remaining_all x e = record { near = x.near; few = x.few; there = rw e at x.there; same = Iff.rfl }

module _ {b : List ℕ} {from all at left n : ℕ} (x : Remaining b from all at left) (some : 0 < left)
    (e : n ≡ suc (lowest (λ k. not (optional_in b at k)) (left - 1))) where
  pub its_count : (n ≤ left) × (0 < n)
  its_count = (run_few (table_in b) b at left n some e, run_some (table_in b) b at left n some e)

  pub compares_run : {s : Span} → Compares b s → Compares b (record { first = at; count = n; step = 2 })
  compares_run y =
      record {
        straight = y.straight;
        there = λ a i. x.there a (rw (left_split (table_in b) b at left n some e) (in_left _ i));
        few = omega (arith, x.few, its_count.0);
        near = omega (arith, x.near, its_count.0);
        close = omega arith;
      }

  module _ {r : Bool} (y : let C = Clash (table_in b) (every_at 2 b at n) (λ k. true) in (r ≡ true → C) × (r ≡ false → C → ⊥)) where
    pub remaining_clash : r ≡ true → Clash (table_in b) (every_at 2 b from all) (optional_in b from)
    remaining_clash z = x.same.0 (run_clash (table_in b) b at left n some e (y.0 z))

    pub remaining_next : r ≡ false → Remaining b from all (at + 2 * n) (left - n)
    remaining_next z =
        record {
          near = omega (arith, x.near, its_count.0);
          few = omega (arith, x.few);
          there = λ a i. x.there a (rw (left_split (table_in b) b at left n some e) (in_right (every_at 2 b at n) i));
          same = (
            λ c. x.same.0 (rest_clash (table_in b) b at left n some e c),
            λ c. clash_rest (table_in b) b at left n some e (y.1 z) (x.same.1 c),
          );
        }

pub remaining_none : {b : List ℕ} {from all at left : ℕ} → Remaining b from all at left → left ≤ 0 → Clash (table_in b) (every_at 2 b from all) (optional_in b from) → ⊥
remaining_none {b} {from} {all} {at} {left} x h c = lone_part 2 b at left (omega (arith, h)) (x.same.1 c)

-- the members' flags in the table
optional_every : (b : List ℕ) (p n k : ℕ) → k < n → get_or (map (λ m. m.optional) (members_at b p n)) k false ≡ optional_in b p k
unfolding members_at
optional_every b p zero k h = absurd (omega arith)
optional_every b p (suc n) zero h = let q : p + 2 * 0 + 1 ≡ p + 1 = omega arith in rw q refl
optional_every b p (suc n) (suc k) h = let q : p + 2 + 2 * k + 1 ≡ p + 2 * suc k + 1 = omega arith in optional_every b (p + 2) n k (omega arith) ∙ rw q refl

-- what is named is the parts, of which all are one run but in a SEQUENCE; or one type of elements
named_clash : (T : Table) (y : Body) → (kind y ≡ 16 → ⊥) → Clash T (references y) (λ k. true) ↔ Clash T (siblings y) (runs_on y)
unfolding references siblings runs_on kind
named_clash T (Plain s) h = (clash_same (λ k _. refl), clash_same (λ k _. refl))
named_clash T (Sequence ms) h = absurd (h refl)
named_clash T (Set ms) h = (clash_same (λ k _. refl), clash_same (λ k _. refl))
named_clash T (SequenceOf t) h = (λ x. absurd (lone_clash (t ∷ []) (omega arith) x), λ x. absurd (lone_clash [] (omega arith) x))
named_clash T (SetOf t) h = (λ x. absurd (lone_clash (t ∷ []) (omega arith) x), λ x. absurd (lone_clash [] (omega arith) x))
named_clash T (Choice ts) h = (clash_same (λ k _. refl), clash_same (λ k _. refl))

module _ (T : Table) {b : List ℕ} {e : Entry} {r : Record} (x : Entered b e r) where
  abbrev its : Span
  its = span_of b e.kind e.own

  abbrev Its : Type 0
  Its = Clash T (siblings r.body) (runs_on r.body)

  pub other_clash : (e.kind ≡ 16 → ⊥) → Clash T (every_at its.step b its.first its.count) (λ k. true) ↔ Its
  other_clash h = rw (entered_span x) (named_clash T r.body (λ q. h (entered_kind x ∙ q)))

  -- a SEQUENCE has its members in the table
  its_members : e.kind ≡ 16 → (ms : List Member) × (r.body ≡ Sequence ms) × WithMembers b e ms
  unfolding kind has_members
  its_members h = by r.body refl
    where
      k : has_members r.body ≡ true
      k = sym (kind_members x) ∙ rw h refl

      by : (y : Body) → r.body ≡ y → (ms : List Member) × (r.body ≡ Sequence ms) × WithMembers b e ms
      by (Plain s) q = absurd (false≢true (rw q at k))
      by (Sequence ms) q = (ms, q, entered_members x ms (inl q))
      by (Set ms) q = absurd (let z = entered_kind x ∙ ap kind q in omega (arith, h, z))
      by (SequenceOf t) q = absurd (false≢true (rw q at k))
      by (SetOf t) q = absurd (false≢true (rw q at k))
      by (Choice ts) q = absurd (false≢true (rw q at k))

  pub sequence_step : e.kind ≡ 16 → its.step ≡ 2
  sequence_step h = let (ms, q, w) = its_members h in rw w.span

  pub sequence_clash : e.kind ≡ 16 → Clash T (every_at 2 b its.first its.count) (optional_in b its.first) ↔ Its
  unfolding siblings references runs_on
  sequence_clash h =
      let (ms, q, w) = its_members h in
      let p = e.own + 1 in
      let n = get_or b e.own 0 in
      let t : every_at 2 b p n ≡ map (λ m. m.type) ms = sym (types_every b p n) ∙ ap (map (λ m. m.type)) w.is in
      let f : (j : ℕ) → j < length (every_at 2 b p n) → optional_in b p j ≡ get_or (map (λ m. m.optional) ms) j false =
      λ j l. rw w.is at (sym (optional_every b p n j (omega (arith, l, length_every 2 b p n)))) in
      rw (w.span, q) (λ c. rw t at (clash_same f c), λ c. clash_same (λ j l. sym (f j l)) (rw (← t) at c))
