-- The ways through the code that gathers first tags.
-- Assumes nothing.
use mathlib.Core.Bool.{Bool, true, false, true≢false, false≢true}
use mathlib.Core.List.Memᴰ.{append_right as in_right}
use mathlib.Core.List.Memᴰ.{head as first_of}
use mathlib.Core.List.{List, [], ◌∷◌, ◌++◌, append_assoc, append-nil, Memᴰ as In}
use mathlib.Core.Path.{◌≡◌, refl, sym, ◌∙◌}
use Prim.Native.Nat.{ℕ, zero, suc, ◌+◌, ◌-◌, ◌≤◌, ◌<◌}
use native.Mathlib.Omega.{arith}
use lib.Dec.{eqb}
use lib.ListN.{length, get_or, set, length-set}
use lib.Seq.{get_or-set_same, get_or-set_other}
use borrow.Author.Tests.{eqb-true, eqb-false}
use Rattle.octets.proofs.Tests.{test}
use Rattle.octets.specs.Numbers.{Octets}
use Rattle.table.specs.Syntax.{Table}
use Rattle.table.specs.Rules.{below}
use Rattle.table.specs.Reading.{every_at, table_in, count_in}
use Rattle.table.specs.Walk.{like, free, at, under, Walks, done, seen, down, Named}
use Rattle.table.proofs.Loops.{every_step}
use Rattle.table.proofs.Nodes.{like_low}
use Rattle.records.specs.Entries.{unpacked, untagged, counted}
use Rattle.records.specs.Descriptors.{described, Listed}
use Rattle.records.specs.declared.descriptor.Descriptor.{Descriptor}
use Rattle.records.specs.declared.entry.Span.{Span}
use Rattle.checker.specs.Gathering.{Met, Gathered, GatheredUnder, StandIns}
use Rattle.checker.proofs.Rules.{entered_below, entry_at}
use Rattle.checker.proofs.Alike.{code_none}
use Rattle.table.proofs.Walk.{walks_append, Kept, kept, newly, keeps, stays, one_fewer}

-- no octet is left
pub every_none : (step : ℕ) (b : List ℕ) (p n : ℕ) → n ≤ 0 → every_at step b p n ≡ []
unfolding every_at
every_none step b p zero h = refl
every_none step b p (suc n) h = absurd (omega arith)

-- some of the records ks are walked, from the marks v to w, and the rest is still to come
pub record Going (T : Table) (m : ℕ) (v ks w rest : List ℕ) : Type 0 where
  pub past : List ℕ
  pub whole : ks ≡ past ++ rest
  pub walked : Walks T m v past w

module _ {T : Table} {m : ℕ} where
  pub going_next : (v ks w : List ℕ) {a : ℕ} {rest : List ℕ} → Going T m v ks w (a ∷ rest) → In a ks
  going_next v ks w x = rw x.whole (in_right x.past (first_of refl))

  pub going_turn : {v ks w u : List ℕ} {a : ℕ} {rest : List ℕ} → Going T m v ks w (a ∷ rest) → Walks T m w (a ∷ []) u → Going T m v ks u rest
  going_turn {a = a} {rest = rest} x y =
      record { past = x.past ++ (a ∷ []); whole = x.whole ∙ sym (append_assoc x.past (a ∷ []) rest); walked = walks_append (a ∷ []) x.walked y }

  pub going_done : {v ks w : List ℕ} → Going T m v ks w [] → Walks T m v ks w
  going_done x = rw (x.whole, append-nil) x.walked

-- a node that carries another mark in the midst of a walk carried it before
met_before : {T : Table} {m : ℕ} {v ks w : List ℕ} (j : ℕ) → Kept T m v ks w j → (get_or w j 0 ≡ m → ⊥) → get_or w j 0 ≡ get_or v j 0
met_before j (kept e) n = e
met_before j (newly z e a i h) n = absurd (n e)

met_midst : {T : Table} {m : ℕ} (v : List ℕ) {ks w rest : List ℕ} {a : ℕ} → Going T m v ks w rest → Met T m w a → Met T m v a
met_midst v x y =
    let e = met_before {v = v} y.node (keeps x.walked y.node) y.other in
    record { node = y.node; hit = y.hit; some = λ z. y.some (e ∙ z); other = λ z. y.other (e ∙ z) }

-- and one that carries it under a record that was marked carried it before
met_down : (T : Table) (m : ℕ) (v : List ℕ) (k : ℕ) {a : ℕ} → like T k < length v → In a (below T k) → Met T m (set v (like T k) m) a → Met T m v k
met_down T m v k {a} h i y =
    let j = y.node in
    test (eqb j (like T k))
    (λ q. absurd (y.other (rw (eqb-true j (like T k) q) (get_or-set_same v (like T k) m 0 h))))
    (λ n. let f = get_or-set_other v (like T k) j m 0 (eqb-false j (like T k) n) in
    record { node = j; hit = under a i y.hit; some = λ z. y.some (f ∙ z); other = λ z. y.other (f ∙ z) })

pub going_from : {T : Table} {m : ℕ} (v : List ℕ) {ks l : List ℕ} → ks ≡ l → Going T m v ks v l
going_from v {ks} {l} e = record { past = []; whole = e; walked = done }

-- the next record to walk, read from the table
module _ {T : Table} {m : ℕ} {v ks w : List ℕ} (step : ℕ) (b : List ℕ) (p n a : ℕ)
    (x : Going T m v ks w (every_at step b p n)) (h : 0 < n) (e : a ≡ get_or b p 0) where
  next_is : Going T m v ks w (a ∷ every_at step b (p + step) (n - 1))
  next_is = rw e (rw (every_step b p n h step) at x)

  pub next_in : In a ks
  next_in = going_next v ks w next_is

  pub next_turn : {u : List ℕ} {r : Bool} → Gathered T m w a r u → r ≡ false → Going T m v ks u (every_at step b (p + step) (n - 1))
  next_turn y f = going_turn next_is (y.walked f)

-- the mark behind the marks of the records stays
pub going_mark : {T : Table} {v ks w rest : List ℕ} → Going T (get_or v 128 0) v ks w rest → get_or w 128 0 ≡ get_or v 128 0
going_mark x = stays x.walked 128 refl

-- the four ways out of `gather`; q stands for record k
module _ (T : Table) (m : ℕ) (v : List ℕ) (k q : ℕ) (e : q ≡ like T k) where
  pub gathered_seen : get_or v q 0 ≡ m → Gathered T m v k false v
  gathered_seen f = record { met = λ z. absurd (false≢true z); walked = λ _. seen (rw e at f) done; fewer = omega arith }

  pub gathered_met : (get_or v q 0 ≡ 0 → ⊥) → (get_or v q 0 ≡ m → ⊥) → Gathered T m v k true v
  gathered_met n o =
      record { met = λ _. record { node = q; hit = at e; some = n; other = o }; walked = λ z. absurd (true≢false z); fewer = omega arith }

  module _ (l : q < length v) (f : get_or v q 0 ≡ 0) (g : m ≡ 0 → ⊥) where
    -- with tags nothing stands below
    pub gathered_alone : below T k ≡ [] → Gathered T m v k false (set v q m)
    gathered_alone b =
        record {
          met = λ z. absurd (false≢true z);
          walked = λ _. down {v = v} {u = set v q m} (rw e at l) (rw e at f) (rw (b, e) done) done;
          fewer = omega (arith, one_fewer v q m l f g);
        }

    pub gathered_under : {w : List ℕ} {r : Bool} → GatheredUnder T m (set v q m) k r w → Gathered T m v k r w
    gathered_under {w} {r} x =
        record {
          met = λ z. let (a, i, y) = x.met z in met_down T m v k (rw e at l) i (rw e at y);
          walked = λ z. down (rw e at l) (rw e at f) (rw e at (x.walked z)) done;
          fewer = omega (arith, one_fewer v q m l f g, x.fewer);
        }

-- the two ways out of `gather_under`
module _ (T : Table) (m : ℕ) (v : List ℕ) (k : ℕ) {w : List ℕ} (b : List ℕ) (p n : ℕ) (x : Going T m v (below T k) w (every_at 1 b p n)) where
  pub under_met : {u : List ℕ} {r : Bool} (a : ℕ) → 0 < n → a ≡ get_or b p 0 → free w ≤ free v → Gathered T m w a r u → r ≡ true → GatheredUnder T m v k true u
  under_met {u} {r} a h d g y f =
      record {
        met = λ _. (a, next_in 1 b p n a x h d, met_midst v x (y.met f));
        walked = λ z. absurd (true≢false z);
        fewer = omega (arith, g, y.fewer);
      }

  pub under_done : n ≤ 0 → free w ≤ free v → GatheredUnder T m v k false w
  under_done h g =
      record { met = λ z. absurd (false≢true z); walked = λ _. going_done (rw (every_none 1 b p n h) at x); fewer = g }

-- what a walk from t needs: the index, what stands for each record, and the marks of 128 records with the one that is put behind them
pub record Gathers (b index nodes flags : List ℕ) (t : ℕ) : Type 0 where
  pub filled : Listed b index (count_in b)
  pub ready : StandIns (table_in b) (count_in b) nodes
  pub named : Named (table_in b) (count_in b)
  pub marks : length flags ≡ 129
  pub there : t < count_in b

-- what a walk from t needs, in the code's hands
module _ {b index nodes v : List ℕ} {t : ℕ} (x : Gathers b index nodes v t) where
  pub stand_in : get_or nodes t 0 ≡ like (table_in b) t
  stand_in = x.ready.right t x.there

  pub stand_in_small : get_or nodes t 0 < 128
  stand_in_small = omega (arith, stand_in, like_low (table_in b) t, x.there, x.filled.few)

  pub stand_in_within : get_or nodes t 0 < length v
  stand_in_within = omega (arith, stand_in_small, x.marks)

  pub gathers_at : {w : List ℕ} (a : ℕ) → length w ≡ 129 → a < count_in b → Gathers b index nodes w a
  gathers_at a l h = record { filled = x.filled; ready = x.ready; named = x.named; marks = l; there = h }

  -- the mark behind the marks of the records, put on the record that stands for t
  abbrev pub put : List ℕ
  put = set v (get_or nodes t 0) (get_or v 128 0)

  pub put_fewer : get_or v (get_or nodes t 0) 0 ≡ 0 → (get_or v 128 0 ≡ 0 → ⊥) → free put < free v
  put_fewer e z = omega (arith, one_fewer v (get_or nodes t 0) (get_or v 128 0) stand_in_within e z)

  pub put_mark : get_or put 128 0 ≡ get_or v 128 0
  put_mark = get_or-set_other v (get_or nodes t 0) 128 (get_or v 128 0) 0 (λ z. omega (arith, stand_in_small, z))

  pub put_gathers : Gathers b index nodes put t
  put_gathers = gathers_at t (length-set v (get_or nodes t 0) (get_or v 128 0) ∙ x.marks) x.there

  module _ {e : Descriptor} (d : e ≡ described (get_or index t 0)) {s : Span} (q : s ≡ counted b e.own 1) (o : Octets b) where
    pub alternatives_below : (unpacked (get_or index t 0)).code ≡ untagged → below (table_in b) t ≡ every_at 1 b s.first s.count
    unfolding described
    alternatives_below c =
        let y = (entry_at x.filled t x.there d).entered in
        rw q (entered_below y (code_none o y (x.filled.shaped t x.there) (rw d c)) (x.named.tagged t x.there))

pub gathers_of : {b index nodes flags : List ℕ} {t : ℕ} → Listed b index (count_in b) → StandIns (table_in b) (count_in b) nodes → Named (table_in b) (count_in b)
    → length flags ≡ 129 → t < count_in b → Gathers b index nodes flags t
gathers_of x r m l h = record { filled = x; ready = r; named = m; marks = l; there = h }
