-- Laws of length octets: what may be sent is read, what is read may be sent, what is written may be sent and is the shortest form; of those that
-- are read at most four stand behind the first, and the length is below 2^32.
-- Assumes nothing.
use borrow.Author.Tests.{ltb-true, ltb-false, leb-true, eqb-true, eqb-false, lt-ltb, le-ltb, le-leb, eq-eqb, ne_eqb}
use mathlib.Core.Bool.{false}
use mathlib.Core.List.{List, [], ◌∷◌, ◌++◌}
use mathlib.Core.Path.{◌≡◌, refl, sym, ap, ◌∙◌}
use native.Mathlib.Nat.{pow-suc, div-add-mod', div-lt_iff_lt-mul, lt_of_lt_of_le, pow-le-pow_right}
use native.Mathlib.Omega.{arith}
use Prim.Native.Nat.{ℕ, zero, suc, ◌+◌, ◌-◌, ◌*◌, ◌/◌, ◌%◌, ◌^◌, ◌≤◌, ◌<◌}
use lib.Dec.{ltb, eqb}
use lib.ListN.{length, take, length-append, take-append-drop}
use lib.Seq.{length-take-le, take-append_seam, drop-append_seam}
use Rattle.x690.specs.declared.ReadingCause.TheVariants.{Cut, Forbidden, LengthField}
use Rattle.octets.specs.Answer.{got, refused, if}
use Rattle.octets.specs.Permutations.{AllOctets, every_cons}
use Rattle.octets.proofs.Answer.{Holds, yields, refuses, if_holds, map_holds, if_cases, run}
use Rattle.octets.proofs.Permutations.{every_left, every_right}
use Rattle.x690.specs.Length.{unsigned, longest_field, Length, short, long, digits, length_octets}
use Rattle.x690.specs.Reading.{Size, definite, indefinite, fit, read_long, read_length}

-- 8.1.3: a length that fits, in both forms, and one that does not; the indefinite form; 84 and 85 with all that they say, and cut; FE, FF
length_fits : read_length 3 (0x01 ∷ 7 ∷ []) ≡ got (definite 1) (7 ∷ [])
unfolding if fit read_length
length_fits = refl

long_length_fits : read_length 4 (0x81 ∷ 0x01 ∷ 7 ∷ []) ≡ got (definite 1) (7 ∷ [])
unfolding if unsigned fit read_long read_length
long_length_fits = refl

length_over : read_length 3 (0x02 ∷ 7 ∷ []) ≡ refused Cut 3
unfolding if fit read_length
length_over = refl

length_80 : read_length 2 (0x80 ∷ []) ≡ got indefinite []
unfolding if read_length
length_80 = refl

length_84 : read_length 7 (0x84 ∷ 0 ∷ 0 ∷ 0 ∷ 1 ∷ 7 ∷ []) ≡ got (definite 1) (7 ∷ [])
unfolding if unsigned fit read_long read_length
length_84 = refl

length_84_cut : read_length 5 (0x84 ∷ 0 ∷ 0 ∷ 0 ∷ []) ≡ refused Cut 5
unfolding if read_long read_length
length_84_cut = refl

length_85 : read_length 8 (0x85 ∷ 0 ∷ 0 ∷ 0 ∷ 0 ∷ 1 ∷ 7 ∷ []) ≡ refused LengthField 8
unfolding if unsigned fit read_long read_length
length_85 = refl

length_85_cut : read_length 2 (0x85 ∷ []) ≡ refused LengthField 2
unfolding if read_long read_length
length_85_cut = refl

length_fe : read_length 2 (0xFE ∷ []) ≡ refused LengthField 2
unfolding if read_long read_length
length_fe = refl

length_ff : read_length 2 (0xFF ∷ []) ≡ refused Forbidden 2
unfolding if read_long read_length
length_ff = refl

-- what may be sent is read
pub length_complete : {n : ℕ} {m : List ℕ} (l : ℕ) (s : List ℕ) → Length n m → n ≤ length s → read_length l (m ++ s) ≡ got (definite n) s
unfolding read_length read_long fit
length_complete {n} l s (short h e) f = rw e (simp (run, lt-ltb n 128 h, fit, le-leb n (length s) f))
length_complete {n} l s (long ds h k v e) f =
    let b = 128 + length ds in
    let i : length ds ≤ length (ds ++ s) = simp length-append (omega arith) in
    let d : b - 128 ≡ length ds = omega arith in
    rw e
    (simp (
      run,
      le-ltb b 128 (omega arith),
      ne_eqb b 128 (λ z. omega arith),
      d,
      le-leb (length ds) longest_field k,
      read_long,
      le-leb _ _ i,
      take-append_seam ds s,
      drop-append_seam ds s,
      v,
      fit,
      le-leb n (length s) f,
    ))

-- what a reader of length octets took from s
pub data Shape (s : List ℕ) : Size → List ℕ → Type 0 where
  is_definite : {n : ℕ} {r : List ℕ} (m : List ℕ) → s ≡ m ++ r → Length n m → n ≤ length r → Shape s (definite n) r
  is_indefinite : {r : List ℕ} → s ≡ 128 ∷ r → Shape s indefinite r

fit_sound : {s : List ℕ} (p n : ℕ) (m r : List ℕ) → s ≡ m ++ r → Length n m → Holds (Shape s) (fit p n r)
unfolding fit
fit_sound p n m r e l = if_holds _ (λ t. yields (is_definite m e l (leb-true n (length r) t))) (λ t _. refuses)

long_sound : (p b : ℕ) (s : List ℕ) → 128 < b → b - 128 ≤ longest_field → Holds (Shape (b ∷ s)) (read_long p (b - 128) s)
unfolding read_long
long_sound p b s h k =
    if_holds _
    (λ e.
    let l : length (take (b - 128) s) ≡ b - 128 = length-take-le (b - 128) s (leb-true _ _ e) in
    fit_sound p _ (b ∷ take (b - 128) s) _ (ap (λ (l : List ℕ). b ∷ l) (sym (take-append-drop (b - 128) s))) (long (take (b - 128) s) (omega arith)
    (omega arith) refl (ap (λ (n : ℕ). n ∷ take (b - 128) s) (omega arith)))) (λ e _. refuses)

-- what is read may be sent
pub length_sound : (p : ℕ) (s : List ℕ) → Holds (Shape s) (read_length p s)
unfolding read_length
length_sound p [] = refuses
length_sound p (b ∷ s) =
    if_holds _ (λ e. fit_sound p b (b ∷ []) s refl (short (ltb-true b 128 e) refl))
    λ n128 _. if_holds _ (λ e. yields (is_indefinite {r = s} (rw (eqb-true b 128 e) refl)))
    λ e128 _. if_holds _ (λ e. long_sound p b s (above e128 (ltb-false b 128 n128)) (leb-true (b - 128) longest_field e))
    λ few _. if_holds _ (λ e. refuses)
    λ e255 _. refuses
  where
    above : eqb b 128 ≡ false → 128 ≤ b → 128 < b
    above e h = let n : (b ≡ 128 → ⊥) = eqb-false b 128 e in omega arith

digits_unsigned : (k n : ℕ) (l : List ℕ) → n < 256 ^ k → unsigned 0 (digits k n l) ≡ unsigned n l
unfolding digits unsigned
digits_unsigned zero n l h = ap (λ (x : ℕ). unsigned x l) (omega arith)
digits_unsigned (suc k) n l h =
    if_cases (λ x. unsigned 0 x ≡ unsigned n l) _ _ _ (λ e. ap (λ (x : ℕ). unsigned x l) (sym (eqb-true n 0 e)))
    (λ e. digits_unsigned k (n / 256) (n % 256 ∷ l) ((div-lt_iff_lt-mul (omega arith)).1 (rw pow-suc at h)) ∙ ap (λ (x : ℕ). unsigned x l) (div-add-mod' n 256))

digits_few : (k j n : ℕ) (l : List ℕ) → n < 256 ^ j → length (digits k n l) ≤ j + length l
unfolding digits
digits_few zero j n l h = omega arith
digits_few (suc k) zero n l h = rw (eq-eqb n 0 (omega arith)) (simp run (omega arith))
digits_few (suc k) (suc j) n l h =
    if_cases (λ x. length x ≤ suc j + length l) _ l (λ _. digits k (n / 256) (n % 256 ∷ l)) (λ e. omega arith)
    (λ e. let f = digits_few k j (n / 256) (n % 256 ∷ l) ((div-lt_iff_lt-mul (omega arith)).1 (rw pow-suc at h)) in omega arith)

unsigned_below : (i n : ℕ) (ds : List ℕ) → n < 256 ^ i → AllOctets ds → unsigned n ds < 256 ^ (i + length ds)
unfolding unsigned
unsigned_below i n [] h o = let e : i + 0 ≡ i = omega arith in rw e h
unsigned_below i n (d ∷ ds) h (every_cons b o) =
    let f : n * 256 + d < 256 ^ suc i = rw pow-suc (omega arith) in
    let e : suc i + length ds ≡ i + suc (length ds) = omega arith in
    rw e at (unsigned_below (suc i) (n * 256 + d) ds f o)

all_below : (ds : List ℕ) → AllOctets ds → unsigned 0 ds < 256 ^ length ds
all_below ds o = let z : 0 + length ds ≡ length ds = omega arith in rw z at (unsigned_below 0 0 ds (omega arith) o)

-- four octets count to 2^32
pub counts : (ds : List ℕ) → length ds ≤ longest_field → AllOctets ds → unsigned 0 ds < 4294967296
counts ds k o = lt_of_lt_of_le (all_below ds o) (pow-le-pow_right (omega arith) k)

length_field : {n : ℕ} {m : List ℕ} → Length n m → AllOctets m → (length m ≤ 5) × (n < 4294967296)
length_field (short h e) o = rw e (omega arith, omega arith)
length_field (long ds h k v e) o = rw (e, ← v) (omega arith, counts ds k (every_right ((128 + length ds) ∷ []) (rw e at o)))

-- a definite length is below 2^32
abbrev pub Counted : Size → Type 0
Counted (definite n) = n < 4294967296
Counted indefinite = Unit {0}

pub shape_field : {s : List ℕ} {z : Size} {r : List ℕ} → AllOctets s → Shape s z r → (m : List ℕ) × (s ≡ m ++ r) × (length m ≤ 5) × Counted z
shape_field {r = r} o (is_definite m e l t) = let (few, small) = length_field l (every_left m r (rw e at o)) in (m, e, few, small)
shape_field o (is_indefinite e) = (128 ∷ [], e, omega arith, tt)

-- FORMATS, "Limits": of length octets that are read at most four stand after the first, and the length is below 2^32.
pub field : (l : ℕ) (s : List ℕ) → AllOctets s → Holds (λ z r. (m : List ℕ) × (s ≡ m ++ r) × (length m ≤ 5) × Counted z) (read_length l s)
field l s o = map_holds (length_sound l s) λ z r h. shape_field o h

-- what is written is the shortest form that may be sent
pub length_shortest : (n : ℕ) (m : List ℕ) → Length n m → AllOctets m → length (length_octets n) ≤ length m
unfolding length_octets
length_shortest n m (short h e) o = rw (e, lt-ltb n 128 h) (simp run (omega arith))
length_shortest n m (long ds h k v e) o =
    let b : n < 256 ^ length ds = rw v at (all_below ds (every_right ((128 + length ds) ∷ []) (rw e at o))) in
    let f = digits_few 8 (length ds) n [] b in
    rw e (if_cases (λ (x : List ℕ). length x ≤ suc (length ds)) (ltb n 128) _ _ (λ t. omega arith) (λ t. omega arith))

digits_least : (k n : ℕ) (l : List ℕ) → length l ≤ length (digits k n l)
unfolding digits
digits_least zero n l = omega arith
digits_least (suc k) n l = if_cases (λ x. length l ≤ length x) _ l (λ _. digits k (n / 256) (n % 256 ∷ l)) (λ e. omega arith) (λ e. let h = digits_least k (n / 256) (n % 256 ∷ l) in omega arith)

some_digit : (n : ℕ) → 128 ≤ n → 1 ≤ length (digits 8 n [])
unfolding digits
some_digit n l = if_cases (λ (x : List ℕ). 1 ≤ length x) (eqb n 0) [] (λ _. digits 7 (n / 256) (n % 256 ∷ []))
    (λ e. let z = eqb-true n 0 e in absurd (omega arith)) (λ e. digits_least 7 (n / 256) (n % 256 ∷ []))

-- what is written may be sent
pub length_octets_lem : (n : ℕ) → n < 256 ^ longest_field → Length n (length_octets n)
unfolding length_octets unsigned
length_octets_lem n h =
    if_cases (λ m. Length n m) _ _ _ (λ e. short (ltb-true n 128 e) refl)
    (λ e. long (digits 8 n []) (some_digit n (ltb-false n 128 e)) (let k = digits_few 8 longest_field n [] h in omega arith) (digits_unsigned 8 n [] (omega arith)) refl)
