-- The item at a place of a message: the part that it begins, the record under that part which begins with its code, and what is read of it.
-- Assumes nothing.
use borrow.Author.Tests.{eqb-true, eqb-false, lt-ltb, ltb-true, ltb-false}
use lib.Dec.{eqb, ltb}
use lib.ListN.{length, get_or, take, drop, length-drop}
use lib.Seq.{drop-drop, get_or-drop}
use mathlib.Core.Bool.{Bool, true, ◌||◌, true≢false}
use mathlib.Core.List.{List, [], ◌∷◌}
use mathlib.Core.Option.{some}
use mathlib.Core.Path.{◌≡◌, refl, sym, ap, ◌∙◌}
use native.Mathlib.Omega.{arith}
use Prim.Native.Nat.{ℕ, zero, suc, ◌+◌, ◌-◌, ◌*◌, ◌%◌, ◌≤◌, ◌<◌}
use Rattle.std.specs.Prelude.{Option, Some, Ok}
use Rattle.x690.specs.declared.ReadingCause.TheVariants.{MessageLevel}
use Rattle.octets.specs.Answer.{got, refused, then, if}
use Rattle.octets.specs.Numbers.{Octets}
use Rattle.octets.proofs.Tests.{test}
use Rattle.ber.specs.Codes.{code_of}
use Rattle.x690.specs.Reading.{read_identifier}
use Rattle.ber.proofs.Codes.{code_short, code_long, read_code_small}
use Rattle.ber.proofs.Places.{some_at}
use Rattle.table.specs.Syntax.{Tag, Member, Body, Record, Table, constructed}
use Rattle.table.specs.Reading.{table_in, count_in}
use Rattle.table.specs.Passes.{Nested}
use Rattle.kinds.specs.Kinds.{octet_of}
use Rattle.records.specs.Entries.{untagged, more, outermost_code}
use Rattle.records.specs.Descriptors.{described}
use Rattle.records.specs.declared.descriptor.Descriptor.{Descriptor}
use Rattle.records.specs.declared.entry.Span.{Span}
use Rattle.coding.specs.Reading.{begun, read_value}
use Rattle.reader.specs.Codes.{first_of, either, starts_with, peeked, hit}
use Rattle.reader.specs.Items.{Holder, Manner, in_turn, each_once, repeated, single, manner, parts_of, Placed}
use Rattle.reader.specs.Items.{pending, within, since, first, next}
use Rattle.reader.specs.Records.{record_in}
use Rattle.reader.specs.Sought.{held, Sought}
use Rattle.reader.specs.Ways.{Leads, here, wrapped}
use Rattle.reader.specs.Wraps.{Headed}
use Rattle.reader.specs.declared.search.Choice.{Choice as Chosen}
use Rattle.reader.proofs.Among.{code_is}
use Rattle.reader.proofs.Begun.{Fit, fit, nested_all}
use Rattle.reader.proofs.Starts.{coded_is, coded_least}
use Rattle.reader.proofs.Items.{first_hit, first_miss, pending_free, pending_come, no_cons}
use Rattle.reader.proofs.ItemsSearch.{Lone, GoodHolder, lone_awaits, Tells, tells, search_itself, first_any}
use Rattle.reader.proofs.ItemsWay.{way_level, way_value}
use Rattle.reader.proofs.Searching.{Parted, spanned, type_low, clear_turn}
use Rattle.reader.proofs.Finding.{good_held}
use Rattle.reader.proofs.Spans.{PartAt, awaits_hit}
use Rattle.reader.proofs.Opening.{octets_drop}
use Rattle.reader.proofs.Tagging.{record_is}
use Rattle.checker.proofs.Ready.{Ready, described_in}

-- the part at hand, which has not come, is the one that the item begins, if the item begins it
module _ (f : Placed → Bool) (came : List ℕ) (k : Member) where
  pending_first : (p i : ℕ) (ms : List Member) (d : ℕ) (rest : List Member) → drop d ms ≡ k ∷ rest → p ≡ i + d → get_or came p 0 ≡ 0 → f (p, k) ≡ true
      → Lone f (pending came i ms) → first f (pending came i ms) ≡ some (p, k)
  unfolding Lone
  pending_first p i [] zero rest e q z g u = absurd (no_cons k rest e)
  pending_first p i [] (suc d) rest e q z g u = absurd (no_cons k rest e)
  pending_first p i (m ∷ ms) zero rest e q z g u =
      let y : m ≡ k = ap (λ (l : List Member). get_or l 0 k) e in
      let x : i ≡ p = omega arith in
      rw (x, y, pending_free came p k ms z) (first_hit f (p, k) (pending came (suc p) ms) g)
  pending_first p i (m ∷ ms) (suc d) rest e q z g u =
      test (eqb (get_or came i 0) 0)
      (λ v.
      let free = pending_free came i m ms (eqb-true (get_or came i 0) 0 v) in
      let L : Lone f ((i, m) ∷ pending came (suc i) ms) = rw free at u in
      let G = pending_first p (suc i) ms d rest e (omega arith) z g L.1 in
      rw free
      (test (f (i, m))
      (λ t. absurd (true≢false (sym (first_any f (pending came (suc i) ms) (p, k) G) ∙ L.0 t)))
      λ t. first_miss f (i, m) (pending came (suc i) ms) t ∙ G))
      λ v.
      let come = pending_come came i m ms (eqb-false (get_or came i 0) 0 v) in
      rw come (pending_first p (suc i) ms d rest e (omega arith) z g (rw come at u))

since_turn : (v : Manner) (j : ℕ) → v ≡ in_turn → since v j ≡ j
unfolding since
since_turn v j e = rw e refl

since_other : (v : Manner) (j : ℕ) → (v ≡ in_turn → ⊥) → since v j ≡ 0
unfolding since
since_other in_turn j n = absurd (n refl)
since_other each_once j n = refl
since_other repeated j n = refl
since_other single j n = refl

within_other : (v : Manner) (l : List Placed) → (v ≡ in_turn → ⊥) → within v l ≡ l
unfolding within
within_other in_turn l n = absurd (n refl)
within_other each_once l n = refl
within_other repeated l n = refl
within_other single l n = refl

by_turn : {X : Type 0} (v : Manner) → (v ≡ in_turn → X) → ((v ≡ in_turn → ⊥) → X) → X
by_turn in_turn f g = f refl
by_turn each_once f g = g (λ e. no_turn e)
  where
    no_turn : each_once ≡ in_turn → ⊥
    no_turn e = let z : ◌≡◌ {A = ℕ} 0 1 = cc in omega arith
by_turn repeated f g = g (λ e. no_turn e)
  where
    no_turn : repeated ≡ in_turn → ⊥
    no_turn e = let z : ◌≡◌ {A = ℕ} 0 1 = cc in omega arith
by_turn single f g = g (λ e. no_turn e)
  where
    no_turn : single ≡ in_turn → ⊥
    no_turn e = let z : ◌≡◌ {A = ℕ} 0 1 = cc in omega arith

module _ (T : Table) (h : Holder) (good : GoodHolder T h) (came s : List ℕ) (clear : (p : ℕ) → manner h ≡ in_turn → get_or came p 0 ≡ 0) where
  pub next_at : (j : ℕ) (k : Member) → drop j (parts_of h) ≡ k ∷ drop (suc j) (parts_of h) → get_or came j 0 ≡ 0 → begun T k.type s ≡ true
      → next T h (since (manner h) j) came s ≡ some (j, k)
  next_at j k e z b =
      by_turn (manner h)
      (λ t. rw (since_turn (manner h) j t) (awaits_hit h came j (λ x. begun T x.1.type s) k e z b))
      λ n.
      let w = within_other (manner h) (pending came 0 (parts_of h)) n in
      let L = lone_awaits T s h good 0 came clear in
      rw (since_other (manner h) j n, w)
      (pending_first (λ x. begun T x.1.type s) came k j 0 (parts_of h) j (drop (suc j) (parts_of h)) e (omega arith) z b (rw w at L))

-- a first code of one octet is of a short form, and is read from one octet
short_first : (r : Record) → first_of r < 256 → first_of r % 32 < 31
unfolding outermost_code
short_first r = go r.tags r.body
  where
    go : (gs : List Tag) (y : Body) → outermost_code gs y < 256 → outermost_code gs y % 32 < 31
    go [] y h = absurd (omega arith)
    go (g ∷ gs) y h =
        let c = g.class in
        let d = more gs || constructed y in
        let n = g.number in
        test (ltb n 31)
        (λ q. let z = code_short c d n (ltb-true n 31 q) in omega (arith, ltb-true n 31 q))
        λ q. let z = code_long c d n (ltb-false n 31 q) in absurd (omega (arith, ltb-false n 31 q))

read_one : (m : List ℕ) → 0 < length m → get_or m 0 0 % 32 < 31 → read_identifier m ≡ got (get_or m 0 0 ∷ []) (drop 1 m)
unfolding read_identifier if
read_one m h k = rw (some_at m 0 h, lt-ltb (get_or m 0 0 % 32) 31 k) refl

-- whose code tells what begins so
code_tells : {b index : List ℕ} → Ready b index → (s : List ℕ) → Octets s → (i u : List ℕ) → read_identifier s ≡ got i u → Tells (table_in b) s (code_of i)
unfolding peeked
code_tells {b} R s o i u e = rw e at (tells (table_in b) (fit b (table_in b) (count_in b) R.passes) s o)

-- the item at a place of m: the part that it begins, and the record under that part which begins with its code
pub record AtItem (b : List ℕ) (h : Holder) (m : List ℕ) (at i : ℕ) (came way : List ℕ) (place number depth from : ℕ) : Type 0 where
  pub part : Member
  pub identifier : List ℕ
  pub found : next (table_in b) h i came (drop at m) ≡ some (place, part)
  pub read : read_identifier (drop at m) ≡ got identifier (drop from m)
  pub further : at < from
  pub low : from ≤ length m
  pub leads : Leads (table_in b) (code_of identifier) way part.type depth number
  pub its : starts_with (table_in b number) (code_of identifier) ≡ true
  pub there : number < count_in b

-- what was sought
pub item_sought : {b : List ℕ} {h : Holder} {m : List ℕ} {at i : ℕ} {came way : List ℕ} (x : Chosen) → at ≤ length m
    → Sought b h i came (drop at m) way (Ok x)
    → AtItem b h m at i came way x.place x.record x.depth (at + x.from)
item_sought {m = m} {at = at} x low q =
    record {
      part = q.0;
      identifier = q.1;
      found = q.2;
      read = rw (← drop-drop x.from at m) q.3;
      further = omega (arith, q.4);
      low = omega (arith, q.5, length-drop at m);
      leads = q.6.1;
      its = q.6.2;
      there = q.6.3;
    }

-- of the rest of m, as a callee sees it
abbrev pub rest_of : List ℕ → ℕ → List ℕ
rest_of m at = take (length m - at) (drop at m)

-- the part at hand, which begins with the first octet
module _ {b index : List ℕ} {w : ℕ} {came : List ℕ} {e : Descriptor} {s : Span} (D : Parted b index w came e s)
    (m : List ℕ) (o : Octets m) (here_is : 0 < length m) (j : ℕ) (l : j < s.count) (z : get_or came j 0 ≡ 0)
    (t f : ℕ) (et : t ≡ get_or b (s.first + s.step * j) 0) (ef : f ≡ (described (get_or index t 0)).code) (q : f ≡ get_or m 0 0) where
  abbrev Records : Table
  Records = table_in b

  abbrev Held : Holder
  Held = held b w

  its_number : t < count_in b
  its_number = type_low D j l t et

  its_code : get_or m 0 0 ≡ first_of (Records t)
  its_code = sym q ∙ code_is D.sound.ready t f its_number ef

  its_read : read_identifier m ≡ got (get_or m 0 0 ∷ []) (drop 1 m)
  its_read = let k = o 0 in let c = its_code in read_one m here_is (rw c (short_first (Records t) (omega arith)))

  its_first : starts_with (Records t) (code_of (get_or m 0 0 ∷ [])) ≡ true
  unfolding code_of
  its_first = coded_is _ (first_of (Records t)) (get_or m 0 0) (sym its_code)

  its_tells : Tells Records m (code_of (get_or m 0 0 ∷ []))
  its_tells = code_tells D.sound.ready m (o) (get_or m 0 0 ∷ []) (drop 1 m) its_read

  its_begun : begun Records t m ≡ true
  its_begun =
      let c = code_of (get_or m 0 0 ∷ []) in
      its_tells t ∙ ap hit (search_itself Records m c its_tells t its_first)

  abbrev PartJ : PartAt b Held (octet_of (described w).kind) s j
  PartJ = (spanned D).at j l

  sought_fits : (way : List ℕ) → Sought b Held (since (manner Held) j) came m way (Ok (record { place = j; «record» = t; depth = 0; from = 1 }))
  sought_fits way =
      let y : t ≡ PartJ.part.type = et ∙ PartJ.type in
      let i = get_or m 0 0 ∷ [] in (
        PartJ.part,
        i,
        next_at Records Held (good_held D.sound.ready w D.sound.known) came m (λ p v. clear_turn D v p) j PartJ.part PartJ.is z (rw (← y) its_begun),
        its_read,
        omega arith,
        omega arith,
        (rw (← y) (search_itself Records m (code_of i) its_tells t its_first), rw (← y) here, its_first, its_number),
      )

-- as it is answered, of an item at a place of m
pub turn_fits : {b index : List ℕ} {w : ℕ} {came : List ℕ} {e : Descriptor} {s : Span} (D : Parted b index w came e s) (m : List ℕ) → Octets m → (at : ℕ) → at < length m
    → (j : ℕ) → j < s.count → get_or came j 0 ≡ 0 → (t f : ℕ) → t ≡ get_or b (s.first + s.step * j) 0 → f ≡ (described (get_or index t 0)).code
    → f ≡ get_or m at 0 → (x : Chosen) → ◌≡◌ {A = Option Chosen} (Some (record { place = j; «record» = t; depth = 0; from = 1 })) (Some x)
    → (x.place ≡ j) × (x.depth ≡ 0) × ((way : List ℕ) → Sought b (held b w) (since (manner (held b w)) j) came (drop at m) way (Ok x))
turn_fits D m o at l j k z t f et ef q x ex =
    let y : record { place = j; «record» = t; depth = 0; from = 1 } ≡ x = cc in
    let g : get_or (drop at m) 0 0 ≡ get_or m at 0 = get_or-drop at m 0 0 ∙ ap (λ (i : ℕ). get_or m i 0) (omega arith) in
    rw (← y) (refl, refl, λ way. sought_fits D (drop at m) (octets_drop m o at) (omega (arith, length-drop at m)) j k z t f et ef (q ∙ sym g) way)

-- what is read of it
module _ {b index : List ℕ} (R : Ready b index) {h : Holder} {m : List ℕ} (o : Octets m) {at i : ℕ} {came way : List ℕ} {place number depth from : ℕ}
    (X : AtItem b h m at i came way place number depth from) where
  abbrev Code : ℕ
  Code = code_of X.identifier

  code_small : Code < untagged
  code_small = omega (arith, read_code_small (drop at m) X.identifier (drop from m) (octets_drop m o at) X.read)

  pub item_tagged : first_of (table_in b number) ≡ untagged → ⊥
  item_tagged z = omega (arith, code_small, coded_least _ (first_of (table_in b number)) Code X.its)

  not_bare : Code ≡ untagged → ⊥
  not_bare z = omega (arith, code_small)

  its_told : Tells (table_in b) (drop at m) Code
  its_told = code_tells R (drop at m) (octets_drop m o at) X.identifier (drop from m) X.read

  all_fit : (t : ℕ) → Fit (table_in b t)
  all_fit = fit b (table_in b) (count_in b) R.passes

  all_nested : (t : ℕ) → Nested (table_in b) 128 t
  all_nested = nested_all b (table_in b) (count_in b) R.passes

  pub item_level : (n : ℕ) → n ≤ depth → read_value (table_in b) n X.part.type (drop at m) ≡ refused MessageLevel (length (drop at m))
  item_level n l = way_level (table_in b) all_fit all_nested Code not_bare (drop at m) its_told X.leads X.its n l

  pub item_value : (n : ℕ) → depth ≤ n → read_value (table_in b) n X.part.type (drop at m)
      ≡ then (read_value (table_in b) (n - depth) number (drop at m)) λ v u. got (wrapped way depth v) u
  item_value n l = way_value (table_in b) all_fit all_nested Code not_bare (drop at m) its_told X.leads X.its n l

  pub item_headed : let e = described (get_or index number 0) in Headed m at from (either (record_in b e)) e.code
  item_headed =
      record {
        identifier = X.identifier;
        is = X.read;
        coded = let x = described_in R number X.there in rw (record_is x, x.entered.code) X.its;
        further = X.further;
        low = X.low;
      }
