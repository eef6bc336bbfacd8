-- The ways through the code that judges circles and shared first tags.
-- Assumes nothing.
use mathlib.Core.Bool.{Bool, true, false, not, true≢false, false≢true}
use mathlib.Core.List.Memᴰ.{head as first_of}
use mathlib.Core.List.{List, [], ◌∷◌, ◌++◌, append_assoc, append-nil, Memᴰ as In}
use mathlib.Core.List.Memᴰ.{append_right as in_right}
use mathlib.Core.List.Memᴰ.{eq_of_singleton as in_one}
use mathlib.Core.List.Memᴰ.{not-nil as not_in_nil}
use mathlib.Core.Path.{◌≡◌, refl, sym, ap, ◌∙◌}
use Prim.Native.Nat.{ℕ, suc, ◌+◌, ◌-◌, ◌≤◌, ◌<◌}
use native.Mathlib.Nat.{not-suc-le-zero}
use native.Mathlib.Omega.{arith}
use lib.Dec.{eqb, ltb, leb}
use lib.ListN.{length, get_or, set, take, length-append, length-map, get_or-append}
use lib.Seq.{get_or-append_seam, get_or-take}
use borrow.Author.Tests.{ltb-true, ltb-false, leb-true, eq-eqb}
use Rattle.octets.specs.Lists.{any}
use Rattle.octets.specs.Numbers.{Octets}
use Rattle.octets.proofs.Tests.{test}
use Rattle.octets.proofs.Lists.{both}
use Rattle.octets.proofs.Members.{place_in}
use Rattle.table.specs.Syntax.{Tag, Table, Body, Plain, Sequence, Set, SequenceOf, SetOf, Choice, Record, references, constructed}
use Rattle.table.specs.Octets.{record_shaped, body_shaped}
use Rattle.table.specs.Rules.{below, tags_below, siblings, Circular, Clash, Sharing}
use Rattle.table.specs.Reading.{every_at, table_in, count_in}
use Rattle.table.specs.Decide.{circular, pair, sharing}
use Rattle.table.specs.Walk.{like, Hits, Walks, Straight}
use Rattle.table.proofs.Nodes.{hits_reaches, reaches_hits, first_record, first_hits}
use Rattle.table.proofs.Walk.{Kept, kept, newly, keeps, complete}
use Rattle.kinds.specs.Kinds.{octet_of}
use Rattle.records.specs.Entries.{unpacked, span_of}
use Rattle.records.specs.Descriptors.{described, Listed}
use Rattle.records.specs.declared.descriptor.Descriptor.{Descriptor}
use Rattle.records.specs.declared.entry.Span.{Span}
use Rattle.checker.specs.Gathering.{Met, GatheredUnder, Compares, optional_in}
use Rattle.checker.proofs.Rules.{entry_at, span_near, span_named}
use Rattle.checker.proofs.Runs.{asked, other_clash, sequence_step, sequence_clash}
use Rattle.checker.proofs.Flags.{walked_low, met_low}
use Rattle.table.proofs.Pieces.{length_every}
use Rattle.table.proofs.Reading.{limits}
use Rattle.table.proofs.Straight.{share_tag, named_there}
use Rattle.table.proofs.Loops.{every_step}

abbrev pub Zero : List ℕ → Type 0
Zero v = (j : ℕ) → get_or v j 0 ≡ 0

-- a record that has something below it has no tags
untagged : (gs : List Tag) (b : Body) (a : ℕ) → In a (tags_below gs b) → gs ≡ []
unfolding tags_below
untagged [] b a i = refl
untagged (g ∷ gs) b a i = absurd (not_in_nil i)

-- whether a walk from the alternatives comes back to the record
circle_by : (T : Table) (t : ℕ) {v w : List ℕ} (r : Bool) → Zero v → Walks T 1 v (below T t) w → r ≡ not (eqb (get_or w t 0) 0)
    → (r ≡ true → Circular T t) × (r ≡ false → Circular T t → ⊥)
circle_by T t {v} {w} r z y e = (λ f. yes f (keeps y t), λ f c. none f c)
  where
    yes : r ≡ true → Kept T 1 v (below T t) w t → Circular T t
    yes f (kept q) = absurd (false≢true (sym (rw (eq-eqb (get_or w t 0) 0 (q ∙ z t)) at e) ∙ f))
    yes f (newly o q k i hit) = record { alternative = k; of = i; back = hits_reaches T (untagged (T t).tags (T t).body k i) hit }

    none : r ≡ false → Circular T t → ⊥
    none f c =
        let g = untagged (T t).tags (T t).body c.alternative c.of in
        let q = complete {m = 1} (λ j o. omega (arith, z j, o)) y c.alternative c.of (reaches_hits T g c.back) in
        true≢false (sym (rw q at e) ∙ f)

module _ {T : Table} {n : ℕ} (few : n ≤ 128) (there : (s a : ℕ) → s < n → In a (below T s) → a < n) (t : ℕ) (h : t < n)
    (v : List ℕ) (l : length v ≡ 129) (z : Zero (take 128 v)) {w : List ℕ} {q : Bool}
    (x : GatheredUnder T (get_or (set v 128 1) 128 0) (set v 128 1) t q w) where
  -- with one mark alone, no other is met
  one_mark : q ≡ false
  one_mark = test q (λ e. let (a, i, y) = x.met e in let k = met_low v 1 l y in absurd (k.some (z k.node))) (λ e. e)

  pub circle_end : (r : Bool) → r ≡ not (eqb (get_or w t 0) 0) → (r ≡ true → Circular T t) × (r ≡ false → Circular T t → ⊥)
  circle_end r e =
      circle_by T t r z (walked_low v 1 l few there (λ a. there t a h) (x.walked one_mark)) (rw (← get_or-take 128 w t 0 (omega arith)) at e)

-- a record with tags is in no circle
pub no_circle : (T : Table) (n t : ℕ) → below T t ≡ [] → circular T n t ≡ false
unfolding circular any
no_circle T n t e = rw e

-- the members so far, each node that one of them hits marked with its place, counted from 1; m is the next mark, and the rest is still to come
pub record Owned (T : Table) (ps w : List ℕ) (m : ℕ) (rest : List ℕ) : Type 0 where
  pub past : List ℕ
  pub mark : m ≡ suc (length past)
  pub whole : ps ≡ past ++ rest
  pub own : (i q : ℕ) → i < length past → Hits T q (get_or past i 0) → get_or w q 0 ≡ suc i
  pub from : (q : ℕ) → (get_or w q 0 ≡ 0 → ⊥) → (i : ℕ) × (i < length past) × (get_or w q 0 ≡ suc i) × Hits T q (get_or past i 0)

pub owned_start : {T : Table} (v : List ℕ) {ps l : List ℕ} → Zero v → ps ≡ l → Owned T ps v 1 l
owned_start v {ps} {l} z e =
    record { past = []; mark = refl; whole = e; own = λ i q h. absurd (not-suc-le-zero h); from = λ q n. absurd (n (z q)) }

module _ (T : Table) (m : ℕ) (ps w u rest : List ℕ) (a : ℕ) (x : Owned T ps w m (a ∷ rest)) where
  e : m ≡ suc (length x.past)
  e = x.mark

  fresh_mark : (j : ℕ) → get_or w j 0 ≡ m → ⊥
  fresh_mark j f = let (i, l, g, h) = x.from j (λ z. omega (arith, e, f, z)) in omega (arith, e, f, l, g)

  size : length (x.past ++ (a ∷ [])) ≡ length x.past + 1
  size = length-append x.past (a ∷ [])

  module _ (y : Walks T m w (a ∷ []) u) where
    own_next : (i q : ℕ) → i < length (x.past ++ (a ∷ [])) → Hits T q (get_or (x.past ++ (a ∷ [])) i 0) → get_or u q 0 ≡ suc i
    own_next i q l h =
        test (ltb i (length x.past))
        (λ t. let k = ltb-true i (length x.past) t in before k (x.own i q k (rw (get_or-append x.past (a ∷ []) 0 i k) at h)) (keeps y q))
        (λ t. let k : i ≡ length x.past = omega (arith, ltb-false i (length x.past) t, size) in
        complete fresh_mark y a (first_of refl) (rw get_or-append_seam at (rw k at h)) ∙ e ∙ ap suc (sym k))
      where
        before : i < length x.past → get_or w q 0 ≡ suc i → Kept T m w (a ∷ []) u q → get_or u q 0 ≡ suc i
        before k f (kept p) = p ∙ f
        before k f (newly z p b j g) = absurd (omega (arith, f, z))

    from_next : (q : ℕ) → (get_or u q 0 ≡ 0 → ⊥) → (i : ℕ) × (i < length (x.past ++ (a ∷ []))) × (get_or u q 0 ≡ suc i) × Hits T q (get_or (x.past ++ (a ∷ [])) i 0)
    from_next q n = by (keeps y q)
      where
        by : Kept T m w (a ∷ []) u q → (i : ℕ) × (i < length (x.past ++ (a ∷ []))) × (get_or u q 0 ≡ suc i) × Hits T q (get_or (x.past ++ (a ∷ [])) i 0)
        by (kept p) =
            let (i, l, g, h) = x.from q (λ z. n (p ∙ z)) in
            (i, omega (arith, l, size), p ∙ g, rw (get_or-append x.past (a ∷ []) 0 i l) h)
        by (newly z p b j g) =
            (length x.past, omega (arith, size), p ∙ e, rw get_or-append_seam (rw (in_one j) at g))

    pub owned_turn : Owned T ps u (m + 1) rest
    owned_turn =
        record {
          past = x.past ++ (a ∷ []);
          mark = omega (arith, e, size);
          whole = x.whole ∙ sym (append_assoc x.past (a ∷ []) rest);
          own = own_next;
          from = from_next;
        }

module _ (T : Table) (n : ℕ) (c : Straight T n) (there : (s a : ℕ) → s < n → In a (below T s) → a < n) (ps : List ℕ) (named : (a : ℕ) → In a ps → a < n) where
  -- a node that two members hit
  pub owned_met : (m : ℕ) (w : List ℕ) {rest : List ℕ} {a : ℕ} → Owned T ps w m (a ∷ rest) → Met T m w a → Clash T ps (λ k. true)
  owned_met m w {rest} {a} x y = by (x.from y.node y.some)
    where
      here : get_or ps (length x.past) 0 ≡ a
      here = rw x.whole (get_or-append_seam x.past a rest 0)

      inside : length x.past < length ps
      inside = rw x.whole (omega (arith, length-append x.past (a ∷ rest)))

      by : ((i : ℕ) × (i < length x.past) × (get_or w y.node 0 ≡ suc i) × Hits T y.node (get_or x.past i 0)) → Clash T ps (λ k. true)
      by (i, l, f, g) =
          let same : get_or ps i 0 ≡ get_or x.past i 0 = rw x.whole (get_or-append x.past (a ∷ rest) 0 i l) in
          let k : i < length ps = omega (arith, l, inside) in
          let (tag, p, q) = share_tag T n c there y.node (get_or ps i 0) (get_or ps (length x.past) 0)
          (named (get_or ps i 0) (place_in ps i 0 k)) (named (get_or ps (length x.past) 0) (place_in ps (length x.past) 0 inside))
          (rw same g) (rw here y.hit) in
          record { i = i; j = length x.past; apart = l; within = inside; one_run = λ k _ _. refl; tag = tag; first = p; second = q }

-- no two members share a first tag
pub owned_end : (T : Table) (ps : List ℕ) (m : ℕ) (w : List ℕ) → Owned T ps w m [] → Clash T ps (λ k. true) → ⊥
owned_end T ps m w x y =
    let (u, gs, f) = first_record T y.first in
    let p : x.past ≡ ps = sym (x.whole ∙ append-nil x.past) in
    let k : y.j < length x.past = rw p y.within in
    let a = x.own y.i (like T u) (omega (arith, y.apart, k)) (rw p (first_hits T u y.tag gs f y.first)) in
    let b = x.own y.j (like T u) k (rw p (first_hits T u y.tag gs f y.second)) in
    omega (arith, a, b, y.apart)

-- a simple kind has no parts
pub no_sharing : (T : Table) (n t : ℕ) → constructed (T t).body ≡ false → sharing T n t ≡ false
unfolding sharing pair siblings constructed
no_sharing T n t e = by (T t).body refl
  where
    by : (y : Body) → (T t).body ≡ y → sharing T n t ≡ false
    by (Plain k) q = rw q
    by (Sequence ms) q = absurd (true≢false (rw q at e))
    by (Set ms) q = absurd (true≢false (rw q at e))
    by (SequenceOf u) q = absurd (true≢false (rw q at e))
    by (SetOf u) q = absurd (true≢false (rw q at e))
    by (Choice ts) q = absurd (true≢false (rw q at e))

-- the next member, read from the table
pub owned_next : {T : Table} {m : ℕ} {ps w : List ℕ} (step : ℕ) (b : List ℕ) (p n a : ℕ) → Owned T ps w m (every_at step b p n) → 0 < n → a ≡ get_or b p 0
    → Owned T ps w m (a ∷ every_at step b (p + step) (n - 1))
owned_next step b p n a x h e = rw e (rw (every_step b p n h step) at x)

pub owned_in : {T : Table} {m a : ℕ} {ps w rest : List ℕ} → Owned T ps w m (a ∷ rest) → In a ps
owned_in x = rw x.whole (in_right x.past (first_of refl))

-- a well-formed record names at most 16 others
few_named : (b : Body) → body_shaped b ≡ true → length (references b) ≤ 16
unfolding body_shaped references
few_named (Plain k) e = omega arith
few_named (Sequence ms) e = rw length-map (leb-true (length ms) 16 e)
few_named (Set ms) e = rw length-map (leb-true (length ms) 16 e)
few_named (SequenceOf t) e = omega arith
few_named (SetOf t) e = omega arith
few_named (Choice ts) e = leb-true (length ts) 16 (both (leb 1 (length ts)) (leb (length ts) 16) e).1

pub named_few : (r : Record) (step : ℕ) (b : List ℕ) (p n : ℕ) → record_shaped r ≡ true → every_at step b p n ≡ references r.body → n ≤ 16
named_few r step b p n s e = omega (arith, few_named r.body (limits r s).shaped, ap length e, length_every step b p n)

-- the parts of record t, in the code's hands: what comparing them needs, and what it says of the record
module _ {b index : List ℕ} (x : Listed b index (count_in b)) {t : ℕ} (h : t < count_in b) {e : Descriptor} (d : e ≡ described (get_or index t 0)) {s : Span}
    (q : s ≡ span_of b (octet_of e.kind) e.own) where
  pub compares : Octets b → Straight (table_in b) (count_in b) → Compares b s
  compares o y =
      let near = span_near x t h d o q in
      let named = span_named x t h d q in
      record {
        straight = y;
        there = λ a i. named_there (table_in b) (count_in b) y.named t a h (rw named at i);
        few = named_few (table_in b t) s.step b s.first s.count (x.shaped t h) named;
        near = omega (arith, near.near, near.few);
        close = near.close;
      }

  pub members_two_apart : octet_of e.kind ≡ 16 → s.step ≡ 2
  members_two_apart k = rw q (sequence_step (table_in b) (entry_at x t h d).entered k)

  pub of_sequence : octet_of e.kind ≡ 16 → {z : Bool}
      → (let C = Clash (table_in b) (every_at 2 b s.first s.count) (optional_in b s.first) in (z ≡ true → C) × (z ≡ false → C → ⊥))
      → (z ≡ true → Sharing (table_in b) t) × (z ≡ false → Sharing (table_in b) t → ⊥)
  of_sequence k = asked (rw q (sequence_clash (table_in b) (entry_at x t h d).entered k))

  pub of_other : ((octet_of e.kind) ≡ 16 → ⊥) → {z : Bool}
      → (let C = Clash (table_in b) (every_at s.step b s.first s.count) (λ k. true) in (z ≡ true → C) × (z ≡ false → C → ⊥))
      → (z ≡ true → Sharing (table_in b) t) × (z ≡ false → Sharing (table_in b) t → ⊥)
  of_other k = asked (rw q (other_clash (table_in b) (entry_at x t h d).entered k))
