-- The search under CHOICEs without tags as a loop that notes its way: what holds at each turn, how many turns are left, and the value at the end of a way.
-- Assumes nothing.
use borrow.Author.Tests.{eq-eqb, ne_eqb, eqb-true, eqb-false}
use lib.Dec.{eqb}
use lib.ListN.{length, get_or, drop, set as set_at, drop_of_length-le}
use lib.Seq.{get_or-set_same, get_or-set_other, drop-cons}
use mathlib.Core.Bool.{true, false}
use mathlib.Core.List.Memᴰ
use mathlib.Core.List.{List, [], ◌∷◌, Memᴰ as In}
use mathlib.Core.Path.{◌≡◌, refl, sym, ap, ◌∙◌}
use native.Mathlib.Omega.{arith}
use Prim.Native.Nat.{ℕ, zero, suc, ◌+◌, ◌-◌, ◌*◌, ◌/◌, ◌%◌, ◌≤◌, ◌<◌}
use Rattle.std.specs.Prelude.{Option, None}
use Rattle.x690.specs.declared.ReadingCause.{ReadingCause}
use Rattle.x690.specs.declared.ReadingCause.TheVariants.{MessageLevel}
use Rattle.octets.specs.Answer.{Answer, got, refused, then, if}
use Rattle.octets.proofs.Members.{place_in}
use Rattle.octets.proofs.Tests.{test}
use Rattle.table.specs.Syntax.{Table}
use Rattle.table.specs.Rules.{siblings, below}
use Rattle.table.specs.Passes.{Nested}
use Rattle.coding.specs.Value.{Value, choice, octets}
use Rattle.coding.specs.Reading.{begun, read_wrapped, read_kind, choose, read_value}
use Rattle.reader.specs.Codes.{under, first_of, untagged, starts_with, hit, pick, among, search_in}
use Rattle.reader.specs.declared.search.Under.{Under as Found}
use Rattle.reader.proofs.Begun.{Fit}
use Rattle.reader.specs.Ways.{Leads, here, through, wrapped}
use Rattle.reader.proofs.Begun.{search_step, bare, bare_either}
use Rattle.reader.proofs.Starts.{coded_one}
use Rattle.reader.proofs.Items.{then_self, then_same, then_then}
use Rattle.reader.proofs.ItemsSearch.{Tells}

-- among alternatives
module _ (f : ℕ → Option Found) where
  abbrev Missed : List ℕ → ℕ → Type 0
  Missed l j = (i : ℕ) → i < j → f (get_or l i 0) ≡ None

  among_at : (l : List ℕ) (j : ℕ) → j < length l → Missed l j → (u e : ℕ) → f (get_or l j 0) ≡ under u e → among f l ≡ under u (suc e)
  unfolding among pick
  among_at [] j h m u e g = absurd (omega arith)
  among_at (a ∷ l) zero h m u e g = rw g refl
  among_at (a ∷ l) (suc j) h m u e g = rw (m 0 (omega arith)) (among_at l j (omega arith) (λ i k. m (suc i) (omega arith)) u e g)

  among_none : (l : List ℕ) → Missed l (length l) → among f l ≡ None
  unfolding among pick
  among_none [] m = refl
  among_none (a ∷ l) m = rw (m 0 (omega arith)) (among_none l (λ i k. m (suc i) (omega arith)))

-- The state of the loop: the way leads to the CHOICE x, and under its first j alternatives no record begins with the code.
pub record Looking (T : Table) (code : ℕ) (way : List ℕ) (t d x j : ℕ) : Type 0 where
  pub led : Leads T code way t d x
  pub bare : first_of (T x) ≡ untagged
  pub missed : (i : ℕ) → i < j → search_in T 129 (get_or (siblings (T x).body) i 0) code ≡ None

module _ (T : Table) (F : (t : ℕ) → Fit (T t)) (N : (t : ℕ) → Nested T 128 t) (code : ℕ) (tag : code ≡ untagged → ⊥) where
  abbrev Search : ℕ → Option Found
  Search a = search_in T 129 a code

  abbrev Parts : ℕ → List ℕ
  Parts x = siblings (T x).body

  -- one record
  pub search_here : (a : ℕ) → starts_with (T a) code ≡ true → Search a ≡ under a 0
  unfolding search_in if
  search_here a e = rw e refl

  pub search_other : (a : ℕ) → starts_with (T a) code ≡ false → (first_of (T a) ≡ untagged → ⊥) → Search a ≡ None
  unfolding search_in if
  search_other a e g = rw (e, ne_eqb (first_of (T a)) untagged g) refl

  bare_starts : (x : ℕ) → first_of (T x) ≡ untagged → starts_with (T x) code ≡ false
  bare_starts x e =
      rw (bare_either (T x) (bare (T x) (F x) e)) (coded_one (first_of (T x)) code ∙ ne_eqb (first_of (T x)) code (λ q. tag (sym q ∙ e)))

  pub search_bare : (x : ℕ) → first_of (T x) ≡ untagged → Search x ≡ among Search (Parts x)
  unfolding if
  search_bare x e = search_step T F x code (N x) ∙ rw (bare_starts x e, eq-eqb (first_of (T x)) untagged e) refl

  -- what is found at the end of a way is found from its beginning
  pub leads_found : {way : List ℕ} {t d x : ℕ} → Leads T code way t d x → (u e : ℕ) → Search x ≡ under u e → Search t ≡ under u (d + e)
  leads_found here u e g = g ∙ ap (under u) (omega arith)
  leads_found (through {d} {x} j l b n s h m) u e g =
      leads_found l u (suc e) (search_bare x b ∙ among_at Search (Parts x) j h m u e g) ∙ ap (under u) (omega arith)

  -- notes behind the way do not matter
  pub leads_set : {way : List ℕ} {t d x : ℕ} (p v : ℕ) → d ≤ p → Leads T code way t d x → Leads T code (set_at way p v) t d x
  leads_set p v h here = here
  leads_set {way} p v h (through {d} {x} j l b n s k m) = through j (leads_set p v (omega arith) l) b (get_or-set_other way p d v 0 (λ e. omega arith) ∙ n) s k m

  pub look_first : (way : List ℕ) (t : ℕ) → first_of (T t) ≡ untagged → Looking T code way t 0 t 0
  look_first way t b = record { led = here; bare = b; missed = λ i h. absurd (omega arith) }

  missed_next : (l : List ℕ) (j : ℕ) → ((i : ℕ) → i < j → Search (get_or l i 0) ≡ None) → Search (get_or l j 0) ≡ None → (i : ℕ) → i < suc j
      → Search (get_or l i 0) ≡ None
  missed_next l j m e i h = test (eqb i j) (λ q. rw (eqb-true i j q) e) λ q. m i (omega (arith, eqb-false i j q))

  module _ (way : List ℕ) (t d x j : ℕ) (S : Looking T code way t d x j) where
    -- an alternative, whose way is noted
    module _ (h : j < length (Parts x)) (s : j < 16) (room : d < length way) where
      abbrev Alternative : ℕ
      Alternative = get_or (Parts x) j 0

      abbrev Noted : List ℕ
      Noted = set_at way d (16 * x + j)

      look_led : Leads T code Noted t (suc d) Alternative
      look_led = through j (leads_set d (16 * x + j) (omega arith) S.led) S.bare (get_or-set_same way d (16 * x + j) 0 room) s h S.missed

      pub look_found : starts_with (T Alternative) code ≡ true → (Search t ≡ under Alternative (suc d)) × Leads T code Noted t (suc d) Alternative
      look_found e = (leads_found look_led Alternative 0 (search_here Alternative e) ∙ ap (under Alternative) (omega arith), look_led)

      pub look_down : first_of (T Alternative) ≡ untagged → Looking T code Noted t (suc d) Alternative 0
      look_down e = record { led = look_led; bare = e; missed = λ i k. absurd (omega arith) }

      pub look_next : starts_with (T Alternative) code ≡ false → (first_of (T Alternative) ≡ untagged → ⊥) → Looking T code Noted t d x (suc j)
      look_next e g =
          record {
            led = leads_set d (16 * x + j) (omega arith) S.led;
            bare = S.bare;
            missed = missed_next (Parts x) j S.missed (search_other Alternative e g);
          }

    -- no alternative is left
    module _ (h : length (Parts x) ≤ j) where
      none_under : Search x ≡ None
      none_under = search_bare x S.bare ∙ among_none Search (Parts x) (λ i k. S.missed i (omega arith))

      pub look_none : d ≡ 0 → Search t ≡ None
      look_none z = at_start S.led z none_under
        where
          at_start : {d x : ℕ} → Leads T code way t d x → d ≡ 0 → Search x ≡ None → Search t ≡ None
          at_start here z e = e
          at_start (through j l b n s k m) z e = absurd (omega arith)

      -- back to the CHOICE above, whose next alternative is looked at
      pub look_back : (c : ℕ) → d ≡ suc c → Looking T code way t c (get_or way c 0 / 16) (suc (get_or way c 0 % 16))
      look_back c z = back S.led z none_under
        where
          back : {d x : ℕ} → Leads T code way t d x → d ≡ suc c → Search x ≡ None → Looking T code way t c (get_or way c 0 / 16) (suc (get_or way c 0 % 16))
          back here z e = absurd (omega arith)
          back (through {d} {x} j l b n s k m) z e =
              let q : d ≡ c = omega arith in
              let p = rw q at n in
              let y : get_or way c 0 / 16 ≡ x = omega arith in
              let w : get_or way c 0 % 16 ≡ j = omega arith in
              rw (y, w) (record { led = rw q at l; bare = b; missed = missed_next (Parts x) j m e })

      pub look_above : (c : ℕ) → d ≡ suc c → get_or way c 0 % 16 < length (Parts (get_or way c 0 / 16))
      look_above c z = above S.led z
        where
          above : {d x : ℕ} → Leads T code way t d x → d ≡ suc c → get_or way c 0 % 16 < length (Parts (get_or way c 0 / 16))
          above here z = absurd (omega arith)
          above (through {d} {x} j l b n s k m) z =
              let q : d ≡ c = omega arith in
              let p = rw q at n in
              let y : get_or way c 0 / 16 ≡ x = omega arith in
              let w : get_or way c 0 % 16 ≡ j = omega arith in
              rw (y, w) k

  -- a way is no longer than CHOICEs are nested
  nested_below : (k x a : ℕ) → Nested T k x → In a (below T x) → (i : ℕ) × (k ≡ suc i) × Nested T i a
  unfolding Nested
  nested_below zero x a d m = absurd (Memᴰ.not-nil (rw d at m))
  nested_below (suc k) x a d m = (k, refl, d a m)

  part_below : (x j : ℕ) → first_of (T x) ≡ untagged → j < length (Parts x) → In (get_or (Parts x) j 0) (below T x)
  part_below x j b h = let y = bare (T x) (F x) b in rw y.under (place_in (Parts x) j 0 h)

  leads_nested : (n : ℕ) {way : List ℕ} {t d x : ℕ} → Nested T n t → Leads T code way t d x → (k : ℕ) × (n ≡ d + k) × Nested T k x
  leads_nested n z here = (n, omega arith, z)
  leads_nested n z (through {d} {x} j l b e s h m) =
      let (k, q, y) = leads_nested n z l in
      let (i, p, w) = nested_below k x (get_or (Parts x) j 0) y (part_below x j b h) in
      (i, omega arith, w)

  pub look_deep : (n : ℕ) {way : List ℕ} {t d x j : ℕ} → Nested T n t → Looking T code way t d x j → j < length (Parts x) → d < n
  look_deep n {x = x} {j = j} z S h =
      let (k, q, y) = leads_nested n z S.led in
      let (i, p, w) = nested_below k x (get_or (Parts x) j 0) y (part_below x j S.bare h) in
      omega arith

-- How many turns the loop has left: one for each alternative that it has not looked at, with those below it, and one for each CHOICE that it goes back from.
-- CHOICEs are nested at most n deep.
unfoldable pub turns_over : (ℕ → ℕ) → List ℕ → ℕ
turns_over f [] = 1
turns_over f (a ∷ l) = suc (f a + turns_over f l)

unfoldable pub turns : Table → ℕ → List ℕ → ℕ
turns T zero l = turns_over (λ a. 0) l
turns T (suc k) l = turns_over (λ a. turns T k (siblings (T a).body)) l

-- in the CHOICEs of the way
unfoldable pub turns_back : Table → ℕ → List ℕ → ℕ → ℕ
turns_back T n way zero = 0
turns_back T n way (suc d) = turns T (n - d) (drop (suc (get_or way d 0 % 16)) (siblings (T (get_or way d 0 / 16)).body)) + turns_back T n way d

abbrev pub turns_left : Table → ℕ → List ℕ → ℕ → ℕ → ℕ → ℕ
turns_left T n way d x j = turns T (n - d) (drop j (siblings (T x).body)) + turns_back T n way d

module _ (T : Table) (n : ℕ) where
  back_set : (way : List ℕ) (d p v : ℕ) → d ≤ p → turns_back T n (set_at way p v) d ≡ turns_back T n way d
  unfolding turns_back
  back_set way zero p v h = refl
  back_set way (suc d) p v h = rw (get_or-set_other way p d v 0 (λ e. omega arith), back_set way d p v (omega arith)) refl

  turns_step : (k a : ℕ) (l : List ℕ) → turns T (suc k) (a ∷ l) ≡ suc (turns T k (siblings (T a).body) + turns T (suc k) l)
  unfolding turns turns_over
  turns_step k a l = refl

  turns_end : (k : ℕ) → turns T k [] ≡ 1
  unfolding turns turns_over
  turns_end zero = refl
  turns_end (suc k) = refl

  module _ (way : List ℕ) (d x j : ℕ) where
    module _ (h : j < length (siblings (T x).body)) (deep : d < n) where
      turns_now : turns_left T n way d x j
          ≡ suc (turns T (n - suc d) (siblings (T (get_or (siblings (T x).body) j 0)).body)
          + turns T (n - d) (drop (suc j) (siblings (T x).body))) + turns_back T n way d
      turns_now =
          let q : n - d ≡ suc (n - suc d) = omega arith in
          rw (drop-cons (siblings (T x).body) j 0 h, q, turns_step) refl

      pub fewer_down : j < 16 → d < length way → turns_left T n (set_at way d (16 * x + j)) (suc d) (get_or (siblings (T x).body) j 0) 0 < turns_left T n way d x j
      unfolding turns_back
      fewer_down s room =
          let y : (16 * x + j) / 16 ≡ x = omega arith in
          let w : (16 * x + j) % 16 ≡ j = omega arith in
          rw (turns_now, get_or-set_same way d (16 * x + j) 0 room, y, w, back_set way d d (16 * x + j) (omega arith)) (omega arith)

      pub fewer_next : turns_left T n (set_at way d (16 * x + j)) d x (suc j) < turns_left T n way d x j
      fewer_next = rw (turns_now, back_set way d d (16 * x + j) (omega arith)) (omega arith)

    pub fewer_back : length (siblings (T x).body) ≤ j → (c : ℕ) → d ≡ suc c
        → turns_left T n way c (get_or way c 0 / 16) (suc (get_or way c 0 % 16)) < turns_left T n way d x j
    unfolding turns_back
    fewer_back h c e = rw (e, drop_of_length-le (siblings (T x).body) h, turns_end) (omega arith)

-- the value at the end of a way
wrapped_on : (way : List ℕ) (d j : ℕ) (v : Value) (u : List ℕ)
    → ◌≡◌ {A = Answer ReadingCause Value} (then (got (choice (0 + j) v) u) (λ v s₁. got (wrapped way d v) s₁)) (got (wrapped way d (choice j v)) u)
unfolding then
wrapped_on way d j v u = let q : 0 + j ≡ j = omega arith in rw q refl

pub wrapped_size : (way : List ℕ) (d : ℕ) (v : Value) → length (octets (wrapped way d v)) ≡ 4 * d + length (octets v)
unfolding wrapped octets
wrapped_size way zero v = omega arith
wrapped_size way (suc d) v = wrapped_size way d (choice (get_or way d 0 % 16) v) ∙ omega arith

module _ (T : Table) (F : (t : ℕ) → Fit (T t)) (N : (t : ℕ) → Nested T 128 t) (code : ℕ) (tag : code ≡ untagged → ⊥) (s : List ℕ)
    (known : Tells T s code) where
  hit_begun : (a u e : ℕ) → search_in T 129 a code ≡ under u e → begun T a s ≡ true
  hit_begun a u e g = known a ∙ ap hit g

  miss_begun : (a : ℕ) → search_in T 129 a code ≡ None → begun T a s ≡ false
  miss_begun a g = known a ∙ ap hit g

  choose_at : (r : ℕ → List ℕ → Answer ReadingCause Value) (ts : List ℕ) (n j : ℕ) → j < length ts → ((i : ℕ) → i < j → search_in T 129 (get_or ts i 0) code ≡ None)
      → begun T (get_or ts j 0) s ≡ true
      → choose T r ts n s ≡ then (r (get_or ts j 0) s) λ v s₁. got (choice (n + j) v) s₁
  unfolding choose if
  choose_at r [] n j h m b = absurd (omega arith)
  choose_at r (t ∷ ts) n zero h m b = let q : n + 0 ≡ n = omega arith in rw (b, q) refl
  choose_at r (t ∷ ts) n (suc j) h m b =
      let q : n + suc j ≡ suc n + j = omega arith in
      rw (miss_begun t (m 0 (omega arith)), q) (choose_at r ts (suc n) j (omega arith) (λ i k. m (suc i) (omega arith)) b)

  bare_value : (k x : ℕ) → first_of (T x) ≡ untagged → read_value T (suc k) x s ≡ choose T (read_value T k) (siblings (T x).body) 0 s
  unfolding read_value read_wrapped read_kind siblings
  bare_value k x e = let b = bare (T x) (F x) e in rw (b.untold, b.is) refl

  -- k levels are left at the end of the way
  leads_value : {way : List ℕ} {t d x : ℕ} → Leads T code way t d x → (u e : ℕ) → search_in T 129 x code ≡ under u e → (k : ℕ)
      → read_value T (d + k) t s ≡ then (read_value T k x s) λ v s₁. got (wrapped way d v) s₁
  unfolding wrapped
  leads_value {t = t} here u e g k = let q : 0 + k ≡ k = omega arith in rw q (sym (then_self (read_value T k t s)))
  leads_value {way} {t} (through {d} {x} j l b n w h m) u e g k =
      let a = get_or (siblings (T x).body) j 0 in
      let q : suc d + k ≡ d + suc k = omega arith in
      let p : get_or way d 0 % 16 ≡ j = omega arith in
      let y = search_bare T F N code tag x b ∙ among_at (λ a. search_in T 129 a code) (siblings (T x).body) j h m u e g in
      let z = bare_value k x b ∙ choose_at (read_value T k) (siblings (T x).body) 0 j h m (hit_begun a u e g) in
      rw (q, p)
      (leads_value l u (suc e) y (suc k)
      ∙ ap (λ (o : Answer ReadingCause Value). then o λ v s₁. got (wrapped way d v) s₁) z
      ∙ then_then (read_value T k a s) (λ v s₁. got (choice (0 + j) v) s₁) (λ v s₁. got (wrapped way d v) s₁)
      ∙ then_same (read_value T k a s) _ _ (λ v s₁ _. wrapped_on way d j v s₁))

  leads_prefix : {way : List ℕ} {t d x : ℕ} → Leads T code way t d x → (u e : ℕ) → search_in T 129 x code ≡ under u e → (n : ℕ) → n ≤ d
      → (y : ℕ) × (i : ℕ) × Leads T code way t n y × (search_in T 129 y code ≡ under u i)
  leads_prefix {way} {t} {d} {x} l u e g n h = test (eqb n d) (λ q. (x, e, rw (eqb-true n d q) l, g)) λ q. shorter l e g (omega (arith, eqb-false n d q))
    where
      shorter : {d x : ℕ} → Leads T code way t d x → (e : ℕ) → search_in T 129 x code ≡ under u e → n < d
          → (y : ℕ) × (i : ℕ) × Leads T code way t n y × (search_in T 129 y code ≡ under u i)
      shorter here e g h = absurd (omega arith)
      shorter (through {d} {x} j l b a w k m) e g h =
          let y = search_bare T F N code tag x b ∙ among_at (λ a. search_in T 129 a code) (siblings (T x).body) j k m u e g in
          test (eqb n d) (λ q. (x, suc e, rw (eqb-true n d q) l, y)) λ q. shorter l (suc e) y (omega (arith, eqb-false n d q))

  -- the value of t, under d CHOICEs of which each takes a level
  module _ {way : List ℕ} {t d u : ℕ} (l : Leads T code way t d u) (its : starts_with (T u) code ≡ true) where
    pub way_level : (n : ℕ) → n ≤ d → read_value T n t s ≡ refused MessageLevel (length s)
    unfolding read_value then
    way_level n h =
        let (y, i, m, g) = leads_prefix l u 0 (search_here T F N code tag u its) n h in
        let q : n + 0 ≡ n = omega arith in
        rw q at (leads_value m u i g 0)

    pub way_value : (n : ℕ) → d ≤ n → read_value T n t s ≡ then (read_value T (n - d) u s) λ v s₁. got (wrapped way d v) s₁
    way_value n h = let q : d + (n - d) ≡ n = omega arith in rw q at (leads_value l u 0 (search_here T F N code tag u its) (n - d))
