-- Laws for the code of times: what the octets of contents spell, and how the octets of a time are put.
-- Assumes nothing.
use borrow.Author.Tests.{ltb-true, leb-true, lt-ltb, le-leb, eqb-false, eq-eqb, ne_eqb}
use mathlib.Core.Bool.{true, false, true≢false}
use mathlib.Core.List.{List, [], ◌∷◌, ◌++◌}
use mathlib.Core.Path.{◌≡◌, refl, sym, ap, ◌∙◌}
use native.Mathlib.Omega.{arith}
use Prim.Native.Nat.{ℕ, ◌+◌, ◌-◌, ◌*◌, ◌/◌, ◌%◌, ◌≤◌, ◌<◌}
use lib.Dec.{ltb, leb, eqb}
use lib.ListN.{length, get_or, drop, drop_of_length-le}
use lib.Seq.{sets}
use Rattle.octets.specs.Buffers.{filled}
use Rattle.octets.proofs.Buffers.{sets_all}
use Rattle.octets.proofs.Lists.{both, drop_one, drop_two}
use Rattle.octets.proofs.Tests.{test}
use Rattle.dates.specs.declared.DateTime.{DateTime}
use Rattle.dates.specs.declared.TimeKind.{TimeKind}
use Rattle.dates.specs.declared.TimeKind.TheVariants.{Utc, Generalized}
use Rattle.dates.specs.Calendar.{years, in_range}
use Rattle.dates.proofs.Ranges.{in_range_lem}
use Rattle.x690.specs.Time.{two_digits, year_digits, later_digits, time_digits, time_size, digits_at, time_of, is_time}
use Rattle.x690.proofs.Times.{time_complete, time_sound, length_time}
use Rattle.digits.specs.Times.{is_digit, pair_at, year_size, year_in, time_from, time_in, no_time, time_read, last_digits}

pub digit_true : (x : ℕ) → is_digit x ≡ true → (0x30 ≤ x) × (x < 0x3A)
unfolding is_digit
digit_true x e = let (a, b) = both (leb 0x30 x) (ltb x 0x3A) e in (leb-true _ _ a, ltb-true _ _ b)

digit_is : (x : ℕ) → 0x30 ≤ x → x < 0x3A → is_digit x ≡ true
unfolding is_digit
digit_is x h k = rw (le-leb 0x30 x h, lt-ltb x 0x3A k) refl

-- two octets: the first is no digit, the second is none, or both are
module _ (c : List ℕ) (p : ℕ) where
  pub pair_first : is_digit (get_or c p 0) ≡ false → pair_at c p ≡ 100
  unfolding pair_at
  pair_first e = rw e refl

  pub pair_second : is_digit (get_or c p 0) ≡ true → is_digit (get_or c (p + 1) 0) ≡ false → pair_at c p ≡ 100
  unfolding pair_at
  pair_second e f = rw (e, f) refl

  pub pair_digits : is_digit (get_or c p 0) ≡ true → is_digit (get_or c (p + 1) 0) ≡ true → pair_at c p ≡ digits_at c p
  unfolding pair_at
  pair_digits e f = rw (e, f) refl

  pub pair_most : pair_at c p ≤ 100
  pair_most =
      test (is_digit (get_or c p 0)) (λ e.
      test (is_digit (get_or c (p + 1) 0))
      (λ f.
      let (a, b) = digit_true (get_or c p 0) e in
      let (d, g) = digit_true (get_or c (p + 1) 0) f in
      rw (pair_digits e f) (omega arith))
      (λ f. rw (pair_second e f) (omega arith)))
      (λ e. rw (pair_first e) (omega arith))

  -- octets that are read as a number below 100 are its digits
  pair_told : (q : ℕ) → p + 2 ≡ q → q ≤ length c → pair_at c p < 100 → drop p c ≡ two_digits (pair_at c p) ++ drop q c
  unfolding two_digits
  pair_told q w l h =
      test (is_digit (get_or c p 0)) (λ e.
      test (is_digit (get_or c (p + 1) 0))
      (λ f.
      let (a, b) = digit_true (get_or c p 0) e in
      let (d, g) = digit_true (get_or c (p + 1) 0) f in
      let x : 0x30 + digits_at c p / 10 ≡ get_or c p 0 = omega arith in
      let y : 0x30 + digits_at c p % 10 ≡ get_or c (p + 1) 0 = omega arith in
      rw (pair_digits e f, x, y, ← w) (drop_two c p (omega arith)))
      (λ f. absurd (omega (arith, pair_second e f))))
      (λ e. absurd (omega (arith, pair_first e)))

  -- and a number below 100 is read from its digits
  pair_of : (n : ℕ) → get_or c p 0 ≡ 0x30 + n / 10 → get_or c (p + 1) 0 ≡ 0x30 + n % 10 → n < 100 → pair_at c p ≡ n
  pair_of n e f h =
      let a = digit_is (get_or c p 0) (omega arith) (omega arith) in
      let b = digit_is (get_or c (p + 1) 0) (omega arith) (omega arith) in
      rw (pair_digits a b) (omega arith)

-- a year in range, and what stands behind it
year_told : (k : TimeKind) (c : List ℕ) → length c ≡ time_size k → year_in k c < years k → c ≡ year_digits k (year_in k c) ++ drop (year_size k) c
unfolding time_size years year_digits year_size year_in two_digits
year_told Utc c l h = pair_told c 0 2 refl (omega arith) h
year_told Generalized c l h =
    test (eqb (pair_at c 2) 100) (λ e. let w = rw e at h in absurd (omega arith)) λ e.
    let w = rw e at h in
    let low : pair_at c 2 < 100 = omega (arith, pair_most c 2, eqb-false (pair_at c 2) 100 e) in
    let a : (pair_at c 0 * 100 + pair_at c 2) / 100 ≡ pair_at c 0 = omega arith in
    let b : (pair_at c 0 * 100 + pair_at c 2) % 100 ≡ pair_at c 2 = omega arith in
    rw (e, a, b) (pair_told c 0 2 refl (omega arith) (omega arith) ∙ rw (pair_told c 2 4 refl (omega arith) low) refl)

later_told : (y : ℕ) (c : List ℕ) (p : ℕ) → length c ≡ p + 11 → get_or c (p + 10) 0 ≡ 0x5A → (k : TimeKind) → in_range k (time_from y c p) ≡ true
    → drop p c ≡ later_digits (time_from y c p)
unfolding time_from later_digits two_digits
later_told y c p l z k e =
    let (_, m, d, h, n, s) = in_range_lem k (time_from y c p) e in
    let none : drop (p + 10 + 1) c ≡ [] = drop_of_length-le c {i = p + 10 + 1} (omega arith) in
    let last : drop (p + 10) c ≡ 0x5A ∷ [] = drop_one c (p + 10) (omega arith) ∙ rw (z, none) refl in
    rw (
      pair_told c p (p + 2) refl (omega arith) (omega arith),
      pair_told c (p + 2) (p + 4) (omega arith) (omega arith) (omega arith),
      pair_told c (p + 4) (p + 6) (omega arith) (omega arith) (omega arith),
      pair_told c (p + 6) (p + 8) (omega arith) (omega arith) (omega arith),
      pair_told c (p + 8) (p + 10) (omega arith) (omega arith) (omega arith),
      last,
    )
    refl

pub size_sum : (k : TimeKind) → time_size k ≡ year_size k + 11
unfolding time_size year_size
size_sum Utc = refl
size_sum Generalized = refl

-- contents as long as those of a time, with a Z at their end, that spell one in range are its digits
digits_told : (k : TimeKind) (c : List ℕ) → length c ≡ time_size k → get_or c (time_size k - 1) 0 ≡ 0x5A → in_range k (time_in k c) ≡ true
    → c ≡ time_digits k (time_in k c)
unfolding time_digits time_from
digits_told k c l z e =
    let (y, _, _, _, _, _) = in_range_lem k (time_in k c) e in
    let q : time_size k - 1 ≡ year_size k + 10 = omega (arith, size_sum k) in
    let r : get_or c (year_size k + 10) 0 ≡ 0x5A = ap (λ (i : ℕ). get_or c i 0) (sym q) ∙ z in
    year_told k c l y ∙ ap (λ (w : List ℕ). year_digits k (year_in k c) ++ w) (later_told (year_in k c) c (year_size k) (l ∙ size_sum k) r k e)

-- the digits of a time in range spell it
fields_same : (t : DateTime) {y m d h n x : ℕ} → y ≡ t.year → m ≡ t.month → d ≡ t.day → h ≡ t.hour → n ≡ t.minute → x ≡ t.second
    → ◌≡◌ {A = DateTime} (record { year = y; month = m; day = d; hour = h; minute = n; second = x }) t
fields_same t y m d h n x = rw (y, m, d, h, n, x) refl

year_back : (k : TimeKind) (t : DateTime) → t.year < years k → year_in k (time_digits k t) ≡ t.year
unfolding years year_in time_digits year_digits later_digits two_digits
year_back Utc t h = pair_of (time_digits Utc t) 0 t.year refl refl h
year_back Generalized t h =
    let a = pair_of (time_digits Generalized t) 0 (t.year / 100) refl refl (omega arith) in
    let b = pair_of (time_digits Generalized t) 2 (t.year % 100) refl refl (omega arith) in
    rw (a, b, ne_eqb (t.year % 100) 100 (λ e. omega arith)) (omega arith)

time_back : (k : TimeKind) (t : DateTime) → in_range k t ≡ true → time_in k (time_digits k t) ≡ t
unfolding time_from year_size time_digits year_digits later_digits two_digits
time_back Utc t e =
    let (y, m, d, h, n, s) = in_range_lem Utc t e in
    let c = time_digits Utc t in
    fields_same t (year_back Utc t y) (pair_of c 2 t.month refl refl (omega arith)) (pair_of c 4 t.day refl refl (omega arith))
    (pair_of c 6 t.hour refl refl (omega arith)) (pair_of c 8 t.minute refl refl (omega arith)) (pair_of c 10 t.second refl refl (omega arith))
time_back Generalized t e =
    let (y, m, d, h, n, s) = in_range_lem Generalized t e in
    let c = time_digits Generalized t in
    fields_same t (year_back Generalized t y) (pair_of c 4 t.month refl refl (omega arith)) (pair_of c 6 t.day refl refl (omega arith))
    (pair_of c 8 t.hour refl refl (omega arith)) (pair_of c 10 t.minute refl refl (omega arith)) (pair_of c 12 t.second refl refl (omega arith))

z_back : (k : TimeKind) (t : DateTime) → get_or (time_digits k t) (time_size k - 1) 0 ≡ 0x5A
unfolding time_size time_digits year_digits later_digits two_digits
z_back Utc t = refl
z_back Generalized t = refl

-- what the code tests of contents of a time
module _ (k : TimeKind) (c : List ℕ) where
  module _ (e : is_time k c ≡ true) where
    pub its_length : length c ≡ time_size k
    its_length = let (r, q) = time_sound k c e in ap length q ∙ length_time k (time_of k c)

    its_z : get_or c (time_size k - 1) 0 ≡ 0x5A
    its_z = let (r, q) = time_sound k c e in ap (λ (w : List ℕ). get_or w (time_size k - 1) 0) q ∙ z_back k (time_of k c)

    its_time : time_in k c ≡ time_of k c
    its_time = let (r, q) = time_sound k c e in ap (time_in k) q ∙ time_back k (time_of k c) r

  pub from_read : length c ≡ time_size k → {y p : ℕ} → y ≡ year_in k c → p ≡ year_size k → time_from y c p ≡ time_read k c
  unfolding time_read
  from_read l e f = rw (eq-eqb (length c) (time_size k) l, e, f) refl

  pub none_read : (length c ≡ time_size k → ⊥) → no_time ≡ time_read k c
  unfolding time_read
  none_read h = rw (ne_eqb (length c) (time_size k) h) refl

  read_in : length c ≡ time_size k → time_read k c ≡ time_in k c
  unfolding time_read
  read_in l = rw (eq-eqb (length c) (time_size k) l) refl

  pub its_read : is_time k c ≡ true → time_read k c ≡ time_of k c
  its_read e = read_in (its_length e) ∙ its_time e

  -- what the code promises of a time that it reads so
  pub reads : {t : DateTime} → t ≡ time_read k c → (t ≡ time_read k c) × (is_time k c ≡ true → t ≡ time_of k c)
  reads e = (e, λ h. e ∙ its_read h)

  pub no_length : (length c ≡ time_size k → ⊥) → false ≡ is_time k c
  no_length h = test (is_time k c) (λ e. absurd (h (its_length e))) λ e. sym e

  pub no_z : (get_or c (time_size k - 1) 0 ≡ 0x5A → ⊥) → false ≡ is_time k c
  no_z h = test (is_time k c) (λ e. absurd (h (its_z e))) λ e. sym e

  pub told : length c ≡ time_size k → get_or c (time_size k - 1) 0 ≡ 0x5A → in_range k (time_read k c) ≡ is_time k c
  told l z =
      ap (in_range k) (read_in l)
      ∙ test (in_range k (time_in k c)) (λ e. sym (ap (is_time k) (digits_told k c l z e) ∙ time_complete k (time_in k c))) λ e.
      test (is_time k c) (λ f. let (r, q) = time_sound k c f in absurd (true≢false (sym r ∙ ap (in_range k) (sym (its_time f)) ∙ e))) λ f. e ∙ sym f

-- a year, and what stands after it, put over a part
year_put : (k : TimeKind) (p q : List ℕ) (y : ℕ) (w : List ℕ) → q ≡ sets p 0 (year_digits k y) → sets q (year_size k) w ≡ sets p 0 (year_digits k y ++ w)
unfolding year_size year_digits two_digits
year_put Utc p q y w e = rw e refl
year_put Generalized p q y w e = rw e refl

year_same : (k : TimeKind) (y : ℕ) → y < years k → y % years k ≡ y
unfolding years
year_same Utc y h = omega arith
year_same Generalized y h = omega arith

-- a part of another length stays; one of this length is stored over
pub time_stays : (k : TimeKind) (t : DateTime) (p : List ℕ) → (length p ≡ time_size k → ⊥) → p ≡ filled p (time_digits k t)
time_stays k t p h = rw (length_time, ne_eqb (time_size k) (length p) λ e. h (sym e)) refl

time_filled : (k : TimeKind) (t : DateTime) (p : List ℕ) → length p ≡ time_size k → sets p 0 (time_digits k t) ≡ filled p (time_digits k t)
time_filled k t p h =
    let l : length p ≡ length (time_digits k t) = h ∙ sym (length_time k t) in
    rw (eq-eqb (length (time_digits k t)) (length p) (sym l)) (sets_all (time_digits k t) p l)

pub time_put : (k : TimeKind) (t : DateTime) (p : List ℕ) {n : ℕ} {q r : List ℕ} → length p ≡ time_size k → n ≡ year_size k
    → q ≡ sets p 0 (year_digits k (t.year % years k)) → r ≡ sets q n (later_digits t) → r ≡ filled p (time_digits k (last_digits k t))
unfolding time_digits later_digits last_digits
time_put k t p {n} {q} {r} l e f g =
    g ∙ ap (λ (i : ℕ). sets q i (later_digits t)) e ∙ year_put k p q (t.year % years k) (later_digits t) f ∙ time_filled k (last_digits k t) p l

-- the last digits of a time in range are all it has
pub all_digits : (k : TimeKind) (t : DateTime) → in_range k t ≡ true → last_digits k t ≡ t
unfolding last_digits
all_digits k t h =
    let (y, _, _, _, _, _) = in_range_lem k t h in
    ap (λ (z : ℕ). record { year = z; month = t.month; day = t.day; hour = t.hour; minute = t.minute; second = t.second }) (year_same k t.year y)

-- the tests of contents of a time
pub ruleset tested = (told, no_length, no_z)

-- what the code promises of a part that it puts a time over
pub puts : (k : TimeKind) (t : DateTime) (p : List ℕ) {q : List ℕ} → q ≡ filled p (time_digits k (last_digits k t))
    → (q ≡ filled p (time_digits k (last_digits k t))) × (in_range k t ≡ true → q ≡ filled p (time_digits k t))
puts k t p e = (e, λ h. e ∙ ap (λ (u : DateTime). filled p (time_digits k u)) (all_digits k t h))
