-- Where the members of an accepted SET begin: they are passed over by their headers, in the order in which they come.
-- Assumes nothing.
use mathlib.Core.Bool.{Bool, true, false, not}
use mathlib.Core.List.{List, [], ◌∷◌, ◌++◌}
use mathlib.Core.Option.{some, none, some-injective}
use mathlib.Core.Path.{◌≡◌, refl, sym, ap, ◌∙◌, fun_ext}
use Prim.Native.Nat.{ℕ, zero, suc, ◌+◌, ◌-◌, ◌≤◌}
use native.Mathlib.Numerals.{add-one}
use native.Mathlib.Omega.{arith}
use borrow.Author.Tests.{ne_eqb}
use lib.Dec.{eqb}
use lib.ListN.{length, get_or, drop, set, length-drop}
use lib.Seq.{drop-drop}
use Rattle.x690.specs.declared.ReadingCause.{ReadingCause}
use Rattle.x690.specs.declared.ReadingCause.TheVariants.{NotAwaited, Trailing}
use Rattle.octets.specs.Answer.{Answer, got, refused, then, if}
use Rattle.octets.proofs.Answer.{got_holds}
use Rattle.octets.specs.Permutations.{Each, nil, cons}
use Rattle.octets.specs.Lists.{any}
use Rattle.x690.specs.Reading.{read_identifier, Mode, at_end}
use Rattle.table.specs.Syntax.{Member, Set, Table}
use Rattle.coding.specs.Value.{Value}
use Rattle.coding.specs.Reading.{begun, nothing, read_value}
use Rattle.coding.proofs.FirstTags.{Good}
use Rattle.ber.specs.Told.{mode}
use Rattle.reader.specs.Items.{Holder, inside, Manner, in_turn, each_once, repeated, single, manner, parts_of, Placed, pending, within, left}
use Rattle.reader.specs.Items.{awaits, some_of, following, noted, is_single, first, Hand, read_part, read_items, filled, blank}
use Rattle.reader.specs.Placing.{Noted}
use Rattle.reader.specs.Placing.{end_at, Spotted}
use Rattle.ber.specs.Skipping.{headed, Skips, sized, unsized}
use Rattle.reader.proofs.Skipped as Skipping
use Rattle.reader.proofs.Skipped.{value_skips}
use Rattle.reader.proofs.ItemsInTurn.{filled_snoc}
use Rattle.reader.proofs.PlacedTurns.{over_at, Turn, turn, over as items_over, awaited, some_fuel, end_at_lem}
use Rattle.reader.proofs.PlacedSets.{noted_none, noted_set}

-- notes of the same members, whatever else they say
abbrev Alike : List ℕ → List ℕ → Type 0
Alike = Each (λ (a b : ℕ). eqb a 0 ≡ eqb b 0)

alike_refl : (l : List ℕ) → Alike l l
alike_refl [] = nil
alike_refl (a ∷ l) = cons refl (alike_refl l)

alike_set : {l r : List ℕ} → Alike l r → (i a b : ℕ) → Alike (set l i (suc a)) (set r i (suc b))
alike_set nil i a b = nil
alike_set (cons e h) zero a b = cons (ne_eqb (suc a) 0 (λ z. omega arith) ∙ sym (ne_eqb (suc b) 0 (λ z. omega arith))) h
alike_set (cons e h) (suc i) a b = cons e (alike_set h i a b)

alike_at : {l r : List ℕ} → Alike l r → (i : ℕ) → eqb (get_or l i 0) 0 ≡ eqb (get_or r i 0) 0
alike_at nil i = refl
alike_at (cons e h) zero = e
alike_at (cons e h) (suc i) = alike_at h i

pending_alike : {l r : List ℕ} → Alike l r → (k : ℕ) (ms : List Member) → pending l k ms ≡ pending r k ms
unfolding pending
pending_alike h k [] = refl
pending_alike h k (m ∷ ms) = rw (alike_at h k, pending_alike h (suc k) ms) refl

noted_alike : {l r : List ℕ} → Alike l r → (k : Manner) (p : ℕ) → Alike (noted k l p) (noted k r p)
unfolding noted
noted_alike h in_turn p = h
noted_alike h each_once p = alike_set h p 0 0
noted_alike h repeated p = h
noted_alike h single p = h

-- one step of reading items, by the parts that are left and what goes on
abbrev Step : Table → (ℕ → List ℕ → Answer ReadingCause Value) → Holder → Hand → Mode → List ℕ → List Placed → (ℕ × Value → List ℕ → Answer ReadingCause Hand) → Answer ReadingCause Hand
Step T r h hand md s l f =
    if (is_single (manner h)) (then (read_part T r (first (λ x. begun T x.1.type s) (within (manner h) l)) s) λ x s₁. got (hand ++ (x ∷ [])) s₁) λ _.
    at_end md s (λ u. if (any (λ x. not x.1.optional) l) (refused NotAwaited (length s)) λ _. got hand u) λ _.
    if (not (some_of l)) (refused Trailing (length s)) λ _.
    then (read_part T r (first (λ x. begun T x.1.type s) (within (manner h) l)) s) f

items_alike : (T : Table) (r : ℕ → List ℕ → Answer ReadingCause Value) (h : Holder) (k j : ℕ) {l q : List ℕ} → Alike l q → (hand : Hand) (md : Mode) (s : List ℕ)
    → read_items T r h k j l hand md s ≡ read_items T r h k j q hand md s
unfolding read_items
items_alike T r h zero j a hand md s = refl
items_alike T r h (suc k) j {l} {q} a hand md s =
    ap (λ z. Step T r h hand md s z (λ x s₁. read_items T r h k (following (manner h) x.0) (noted (manner h) l x.0) (hand ++ (x ∷ [])) md s₁))
    (pending_alike a j (drop j (parts_of h)))
    ∙ ap (Step T r h hand md s (left h j q))
    (fun_ext λ x. fun_ext λ s₁.
    items_alike T r h k (following (manner h) x.0) {l = noted (manner h) l x.0} {q = noted (manner h) q x.0} (noted_alike a (manner h) x.0)
    (hand ++ (x ∷ [])) md s₁)

-- what was read is passed over by its headers
skips_from : {s w i : List ℕ} (from : ℕ) → read_identifier s ≡ got i (drop from s) → Skipping.Skips s w → Skips s from w
unfolding headed then
skips_from {s = s} from d (Skipping.sized {n = k} {r = r} x) = sized (length s) k r (rw d at x)
skips_from {s = s} from d (Skipping.unsized x p) = unsized (length s) (rw d at x) p

pub value_passed : (T : Table) → Good T → (n t : ℕ) (s : List ℕ) (v : Value) (w i : List ℕ) (from : ℕ) → read_value T n t s ≡ got v w
    → read_identifier s ≡ got i (drop from s) → Skips s from w
value_passed T good n t s v w i from e d = skips_from from d (got_holds (value_skips T good n t s) e)

-- the items of a SET so far, if they are accepted
pub record Spot (T : Table) (n : ℕ) (ms : List Member) (b : Bool) (m : List ℕ) (all : Hand) (last ns : List ℕ) (at : ℕ) : Type 0 where
  pub hand : Hand
  pub fuel : ℕ
  pub whole : read_items T (read_value T n) (inside (Set ms)) (suc fuel) 0 ns hand (mode b) (drop at m) ≡ got all last
  pub noted : Noted T n m ms ns (filled hand (nothing ms))

abbrev pub Spotting : Table → List Member → Bool → List ℕ → List ℕ → ℕ → Type 0
Spotting T ms b m ns at =
    (n : ℕ) (all : Hand) (last : List ℕ) → read_items T (read_value T n) (inside (Set ms)) (suc (length m)) 0 blank [] (mode b) m ≡ got all last
    → Spot T n ms b m all last ns at

pub spotting_first : (T : Table) (ms : List Member) (b : Bool) (m ns : List ℕ) → length ms ≤ 16 → ns ≡ blank → Spotting T ms b m ns 0
unfolding filled
spotting_first T ms b m ns l e n all last W = record { hand = []; fuel = length m; whole = rw e W; noted = rw e (noted_none ms 16 l) }

module _ (T : Table) (ms : List Member) (b : Bool) (m ns : List ℕ) (at : ℕ) (low : at ≤ length m) (F : Spotting T ms b m ns at) where
  the_manner : is_single (manner (inside (Set ms))) ≡ false
  unfolding manner is_single
  the_manner = refl

  end_low : (b : Bool) → (b ≡ true → 2 ≤ length (drop at m)) → end_at b at ≤ length m
  end_low true h = omega (arith, h refl, length-drop at m)
  end_low false h = low

  -- contents are over
  pub spotted : over_at b (drop at m) ≡ true → Spotted T ms b m ns (end_at b at)
  spotted v n all last W =
      let S = F n all last W in
      let (e, f, g) = items_over T (read_value T n) (inside (Set ms)) 0 ns S.hand (drop at m) all last S.fuel b S.whole the_manner v in
      (end_low b g, f ∙ sym (end_at_lem m at b), rw e S.noted)

  module _ (v : over_at b (drop at m) ≡ false) where
    abbrev Its : (n : ℕ) (all : Hand) (last : List ℕ)
        → read_items T (read_value T n) (inside (Set ms)) (suc (length m)) 0 blank [] (mode b) m ≡ got all last → Type 0
    Its n all last W = Turn T (read_value T n) (inside (Set ms)) (F n all last W).fuel 0 ns (F n all last W).hand (mode b) (drop at m) all last

    its : (n : ℕ) (all : Hand) (last : List ℕ) (W : read_items T (read_value T n) (inside (Set ms)) (suc (length m)) 0 blank [] (mode b) m ≡ got all last)
        → Its n all last W
    its n all last W =
        let S = F n all last W in
        turn T (read_value T n) (inside (Set ms)) 0 ns S.hand (drop at m) all last S.fuel b S.whole (λ z. v)

    -- no member is begun
    pub spotted_none : first (λ x. begun T x.1.type (drop at m)) (awaits (inside (Set ms)) 0 ns) ≡ none → (e : ℕ) → Spotted T ms b m ns e
    spotted_none z e n all last W = absurd (apart (its n all last W).part (sym z ∙ (its n all last W).is))
      where
        apart : (x : Placed) → none ≡ some x → ⊥
        apart x e = let q : ◌≡◌ {A = ℕ} 0 1 = cc in omega arith

    -- one is, and is passed over
    pub spotting_turn : Good T → (x : Placed) → first (λ x. begun T x.1.type (drop at m)) (awaits (inside (Set ms)) 0 ns) ≡ some x
        → (i : List ℕ) (from : ℕ) → read_identifier (drop at m) ≡ got i (drop from (drop at m)) → (end : ℕ)
        → ((w : List ℕ) → Skips (drop at m) from w → drop end (drop at m) ≡ w)
        → Spotting T ms b m (set ns x.0 (at + 1)) (at + end)
    unfolding manner following noted parts_of
    spotting_turn good x z i from d end skips n all last W =
        let S = F n all last W in
        let t = its n all last W in
        let q : t.part ≡ x = some-injective t.part x (sym t.is ∙ z) in
        let A = awaited T (read_value T n) (inside (Set ms)) 0 ns (drop at m) t.part (omega arith) t.is in
        let e = sym (drop-drop end at m) ∙ skips t.behind (value_passed T good n t.part.1.type (drop at m) t.value t.behind i from t.read d) in
        let P = rw (← e) at (t.goes_on the_manner) in
        let k = some_fuel T (read_value T n) (inside (Set ms)) S.fuel 0 (set ns t.part.0 1) (S.hand ++ ((t.part.0, t.value) ∷ [])) (mode b)
        (drop (at + end) m) all last P in
        let U = sym (items_alike T (read_value T n) (inside (Set ms)) S.fuel 0 (alike_set (alike_refl ns) t.part.0 0 at)
        (S.hand ++ ((t.part.0, t.value) ∷ [])) (mode b) (drop (at + end) m)) ∙ P in
        rw (← q, add-one) (record {
          hand = S.hand ++ ((t.part.0, t.value) ∷ []);
          fuel = S.fuel - 1;
          whole = rw (← k) U;
          noted = rw (filled_snoc S.hand t.part.0 t.value (nothing ms))
              (noted_set S.noted t.part.0 t.part.1 (drop (suc t.part.0) ms) A.is at low t.value t.behind t.read);
        })
