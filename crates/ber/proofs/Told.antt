-- Laws of the answers of the code that reads identifier and length octets: each answer, and what it says of the reading of items.
-- Assumes nothing.
use borrow.Author.Tests.{ltb-true, ltb-false, leb-true, leb-false, lt-ltb, le-ltb, le-leb, lt-leb, eq-eqb, ne_eqb}
use lib.Dec.{ltb, leb, eqb}
use lib.ListN.{length, get_or, take, drop, length-append, length-drop, length-take, take-append-drop}
use lib.Seq.{append_snoc, drop-append_seam, drop-drop}
use mathlib.Core.Bool.{true, false, true≢false, false≢true}
use mathlib.Core.List.{List, [], ◌∷◌, ◌++◌}
use mathlib.Core.Path.{◌≡◌, refl, sym, ap, ◌∙◌}
use native.Mathlib.Omega.{arith}
use Prim.Native.Nat.{ℕ, suc, ◌+◌, ◌-◌, ◌*◌, ◌%◌, ◌≤◌, ◌<◌, min}
use Rattle.std.specs.Prelude.{Result, Ok, Err}
use Rattle.std.specs.Result.{result_unwrap_or}
use Rattle.x690.specs.declared.ReadingCause.{ReadingCause}
use Rattle.x690.specs.declared.ReadingCause.TheVariants.{Cut, Forbidden, LengthField}
use Rattle.octets.specs.Answer.{Answer, got, refused, then, if}
use Rattle.octets.specs.Permutations.{AllOctets}
use Rattle.octets.proofs.Answer.{got_holds, if_cases, refused≢got}
use Rattle.octets.proofs.Tests.{test}
use Rattle.octets.proofs.Permutations.{every_left, every_right, all_octets}
use Rattle.octets.proofs.Lists.{behind, length_behind}
use Rattle.ber.specs.Codes.{spelled, code_of}
use Rattle.x690.specs.Length.{unsigned, longest_field, Length, short, long}
use Rattle.x690.specs.Reading.{read_following, read_identifier, Size, definite, indefinite, read_length, read_long, fit}
use Rattle.ber.specs.Told.{told_identifier, told_length, no_extent, again_at}
use Rattle.ber.specs.declared.identifier.Identifier.{Identifier}
use Rattle.ber.specs.declared.length.Extent.{Extent}
use Rattle.x690.proofs.Identifiers.{identifier_sound, identifier_some}
use Rattle.x690.proofs.Lengths.{counts, field, length_sound, length_complete, Shape, is_definite, is_indefinite}
use Rattle.ber.proofs.Places.{left_at, none_at, some_at, from_before}

-- m is an identifier, as the code answers
abbrev Identified : List ℕ → Result Identifier ReadingCause → Type 0
Identified m r = r ≡ told_identifier (length m) (read_identifier m)

pub identifier_none : (m : List ℕ) → length m ≡ 0 → Identified m (Err Cut)
unfolding told_identifier read_identifier if
identifier_none [] h = refl
identifier_none (b ∷ s) h = absurd (omega arith)

pub identifier_short : (m : List ℕ) → 0 < length m → get_or m 0 0 % 32 < 31 → Identified m (Ok (record { code = get_or m 0 0; end = 1 }))
unfolding told_identifier read_identifier code_of if
identifier_short [] h k = absurd (omega arith)
identifier_short (b ∷ s) h k = let e : suc (length s) - length s ≡ 1 = omega arith in rw (lt-ltb (b % 32) 31 k, e)

-- the octets that follow a leading octet: those from the first up to i are in hand, n is what they spell
pub record Following (m : List ℕ) (i n : ℕ) : Type 0 where
  pub hand : List ℕ
  pub whole : (l : ℕ) → read_following l [] (drop 1 m) ≡ read_following l hand (drop i m)
  pub spells : (ds : List ℕ) → spelled 0 (hand ++ ds) ≡ spelled n ds
  pub starts : get_or (hand ++ (get_or m i 0 ∷ [])) 0 0 ≡ get_or m 1 0

head_keeps : (ds : List ℕ) (d : ℕ) (xs : List ℕ) → get_or ((ds ++ (d ∷ [])) ++ xs) 0 0 ≡ get_or (ds ++ (d ∷ [])) 0 0
head_keeps [] d xs = refl
head_keeps (x ∷ ds) d xs = refl

code_long : (b : ℕ) (ds : List ℕ) (d : ℕ) → code_of (b ∷ (ds ++ (d ∷ []))) ≡ b + 256 * spelled 0 (ds ++ (d ∷ []))
unfolding code_of
code_long b [] d = refl
code_long b (x ∷ ds) d = refl

pub follow_next : (m : List ℕ) (i n : ℕ) → Following m i n → i < length m → 128 ≤ get_or m i 0 → Following m (i + 1) (min 65536 (n * 128 + get_or m i 0 % 128))
unfolding read_following spelled if
follow_next m i n F h k =
    let d = get_or m i 0 in
    record {
      hand = F.hand ++ (d ∷ []);
      whole = λ l. F.whole l ∙ rw (some_at m i h, le-ltb d 128 k);
      spells = λ ds. ap (spelled 0) (append_snoc F.hand d ds) ∙ F.spells (d ∷ ds);
      starts = head_keeps F.hand d _ ∙ F.starts;
    }

module _ (i n : ℕ) where
  pub long_cut : (m : List ℕ) → 0 < length m → 31 ≤ get_or m 0 0 % 32 → Following m i n → length m ≤ i → Identified m (Err Cut)
  unfolding told_identifier read_identifier read_following if then
  long_cut [] h low F k = absurd (omega arith)
  long_cut (b ∷ s) h low F k = rw (le-ltb (b % 32) 31 low, F.whole _, none_at (b ∷ s) i k)

  pub long_zero : (m : List ℕ) → 0 < length m → 31 ≤ get_or m 0 0 % 32 → Following m i n → i < length m → get_or m i 0 < 128 → get_or m 1 0 ≡ 128
      → Identified m (Err Forbidden)
  unfolding told_identifier read_identifier read_following if then
  long_zero [] h low F k z e = absurd (omega arith)
  long_zero (b ∷ s) h low F k z e =
      rw (le-ltb (b % 32) 31 low, F.whole _, some_at (b ∷ s) i k, lt-ltb (get_or (b ∷ s) i 0) 128 z, F.starts, eq-eqb (get_or (b ∷ s) 1 0) 128 e)

  pub long_few : (m : List ℕ) → 0 < length m → 31 ≤ get_or m 0 0 % 32 → Following m i n → i < length m → get_or m i 0 < 128 → (get_or m 1 0 ≡ 128 → ⊥)
      → get_or m 1 0 < 31 → Identified m (Err Forbidden)
  unfolding told_identifier read_identifier read_following if then
  long_few [] h low F k z e f = absurd (omega arith)
  long_few (b ∷ s) h low F k z e f =
      rw (
        le-ltb (b % 32) 31 low,
        F.whole _,
        some_at (b ∷ s) i k,
        lt-ltb (get_or (b ∷ s) i 0) 128 z,
        F.starts,
        ne_eqb (get_or (b ∷ s) 1 0) 128 e,
        lt-ltb (get_or (b ∷ s) 1 0) 31 f,
      )

  pub long_read : (m : List ℕ) → 0 < length m → 31 ≤ get_or m 0 0 % 32 → Following m i n → i < length m → get_or m i 0 < 128 → (get_or m 1 0 ≡ 128 → ⊥)
      → 31 ≤ get_or m 1 0 → Identified m (Ok (record { code = get_or m 0 0 + 256 * min 65536 (n * 128 + get_or m i 0 % 128); end = i + 1 }))
  unfolding told_identifier read_identifier read_following if then spelled
  long_read [] h low F k z e f = absurd (omega arith)
  long_read (b ∷ s) h low F k z e f =
      rw (
        le-ltb (b % 32) 31 low,
        F.whole _,
        some_at (b ∷ s) i k,
        lt-ltb (get_or (b ∷ s) i 0) 128 z,
        F.starts,
        ne_eqb (get_or (b ∷ s) 1 0) 128 e,
        le-ltb (get_or (b ∷ s) 1 0) 31 f,
        code_long b F.hand (get_or (b ∷ s) i 0),
        F.spells (get_or (b ∷ s) i 0 ∷ []),
        left_at (b ∷ s) (i + 1) (omega arith),
      )

-- lengths
unsigned_least : (n : ℕ) (l : List ℕ) → n ≤ unsigned n l
unfolding unsigned
unsigned_least n [] = omega arith
unsigned_least n (d ∷ l) = let h = unsigned_least (n * 256 + d) l in omega arith

-- length octets are at a place of m, as the code answers
abbrev Here : List ℕ → ℕ → Result Extent ReadingCause → Type 0
Here m at r = (l : ℕ) → r ≡ told_length (length m) (read_length l (drop at m))

-- n octets of contents, from `start` on
module _ (m : List ℕ) (start n l : ℕ) where
  fits : start + n ≤ length m → Ok (record { start = start; end = start + n; indefinite = false }) ≡ told_length (length m) (fit l n (drop start m))
  unfolding told_length fit if
  fits h =
      let g : n ≤ length (drop start m) = rw length-drop (omega arith) in
      rw (le-leb n (length (drop start m)) g, left_at m start (omega arith))

  fits_not : length m < start + n → start ≤ length m → Err Cut ≡ told_length (length m) (fit l n (drop start m))
  unfolding told_length fit if
  fits_not h k =
      let g : length (drop start m) < n = rw length-drop (omega arith) in
      rw (lt-leb n (length (drop start m)) g)

module _ (m : List ℕ) (at : ℕ) where
  pub length_none : length m ≤ at → Here m at (Err Cut)
  unfolding told_length read_length if
  length_none k l = rw (none_at m at k)

  short_form : at < length m → get_or m at 0 < 128 → (l : ℕ) → read_length l (drop at m) ≡ fit l (get_or m at 0) (drop (at + 1) m)
  unfolding read_length if
  short_form h s l = rw (some_at m at h, lt-ltb (get_or m at 0) 128 s)

  pub length_short : at < length m → get_or m at 0 < 128 → at + 1 + get_or m at 0 ≤ length m
      → Here m at (Ok (record { start = at + 1; end = at + 1 + get_or m at 0; indefinite = false }))
  length_short h l f p = rw (short_form h l p) (fits m (at + 1) (get_or m at 0) p f)

  pub length_short_no : at < length m → get_or m at 0 < 128 → length m < at + 1 + get_or m at 0 → Here m at (Err Cut)
  length_short_no h l f p = rw (short_form h l p) (fits_not m (at + 1) (get_or m at 0) p f (omega arith))

octets_from : (m : List ℕ) (at : ℕ) → AllOctets m → AllOctets (drop at m)
octets_from m at o = every_right (take at m) (rw (take-append-drop at m) o)

-- The k octets of a number that stand at a place: those before p are read, and spell n.
abbrev pub Digits : List ℕ → ℕ → ℕ → ℕ → ℕ → Type 0
Digits m at k n p = unsigned 0 (take k (drop at m)) ≡ unsigned n (take (at + k - p) (drop p m))

module _ (m : List ℕ) (at k : ℕ) where
  pub no_digit : Digits m at k 0 at
  no_digit = let e : at + k - at ≡ k = omega arith in rw e refl

  pub one_digit : (n p : ℕ) → p < at + k → p < length m → Digits m at k n p → Digits m at k (n * 256 + get_or m p 0) (p + 1)
  unfolding unsigned
  one_digit n p h t d = let e : at + k - p ≡ suc (at + k - (p + 1)) = omega arith in d ∙ rw (e, some_at m p t) refl

  pub all_digits : (n p : ℕ) → at + k ≤ p → Digits m at k n p → unsigned 0 (take k (drop at m)) ≡ n
  unfolding unsigned
  all_digits n p h d = let e : at + k - p ≡ 0 = omega arith in d ∙ rw e refl

  -- what is in hand is no more than the length, and that is below 2^32
  pub digits_small : (n p : ℕ) → k ≤ longest_field → AllOctets m → Digits m at k n p → n < 4294967296
  digits_small n p few o d =
      let ds = take k (drop at m) in
      let octets : AllOctets ds = every_left ds (drop k (drop at m)) (rw (take-append-drop k (drop at m)) (octets_from m at o)) in
      let t : length ds ≤ longest_field = simp length-take (omega arith) in
      omega (arith, unsigned_least n (take (at + k - p) (drop p m)), counts ds t octets)

-- behind a first octet of another form
module _ (m : List ℕ) (at : ℕ) (some : 0 < at) (there : at ≤ length m) where
  pub length_open : get_or m (at - 1) 0 ≡ 128 → Here m (at - 1) (Ok (record { start = at; end = length m; indefinite = true }))
  unfolding told_length read_length if
  length_open e p = rw (from_before m at some there, e, left_at m at there)

  module _ (over : longest_field < get_or m (at - 1) 0 - 128) where
    over_field : (l : ℕ) → read_length l (drop (at - 1) m) ≡ if (ltb (get_or m (at - 1) 0) 255) (refused LengthField l) λ _. refused Forbidden l
    unfolding read_length if
    over_field l =
        let b = get_or m (at - 1) 0 in
        rw (from_before m at some there, le-ltb b 128 (omega arith), ne_eqb b 128 (λ e. omega arith), lt-leb (b - 128) longest_field over)

    pub length_over : get_or m (at - 1) 0 < 255 → Here m (at - 1) (Err LengthField)
    unfolding told_length if
    length_over h l = rw (over_field l, lt-ltb (get_or m (at - 1) 0) 255 h)

    pub length_reserved : 255 ≤ get_or m (at - 1) 0 → Here m (at - 1) (Err Forbidden)
    unfolding told_length if
    length_reserved h l = rw (over_field l, le-ltb (get_or m (at - 1) 0) 255 h)

  module _ (k : ℕ) (k_some : 0 < k) (k_few : k ≤ longest_field) (says : get_or m (at - 1) 0 ≡ 128 + k) where
    long_form : (l : ℕ) → read_length l (drop (at - 1) m) ≡ read_long l k (drop at m)
    unfolding read_length if
    long_form l =
        let z : 128 + k - 128 ≡ k = omega arith in
        rw (
          from_before m at some there,
          says,
          le-ltb (128 + k) 128 (omega arith),
          ne_eqb (128 + k) 128 (λ e. omega arith),
          z,
          le-leb k longest_field k_few,
        )

    pub length_few : length m < at + k → Here m (at - 1) (Err Cut)
    unfolding told_length read_long if
    length_few f l =
        let g : length (drop at m) < k = rw length-drop (omega arith) in
        rw (long_form l, lt-leb k (length (drop at m)) g)

    module _ (f : at + k ≤ length m) (n : ℕ) (spells : unsigned 0 (take k (drop at m)) ≡ n) where
      whole_form : (l : ℕ) → read_length l (drop (at - 1) m) ≡ fit l n (drop (at + k) m)
      unfolding read_long if
      whole_form l =
          let g : k ≤ length (drop at m) = rw length-drop (omega arith) in
          rw (long_form l, le-leb k (length (drop at m)) g, spells, drop-drop k at m)

      pub length_long : at + k + n ≤ length m → Here m (at - 1) (Ok (record { start = at + k; end = at + k + n; indefinite = false }))
      length_long g l = rw (whole_form l) (fits m (at + k) n l g)

      pub length_long_no : length m < at + k + n → Here m (at - 1) (Err Cut)
      length_long_no g l = rw (whole_form l) (fits_not m (at + k) n l g f)

-- the place of a refusal is where l octets are left
abbrev pub Faulty : {A : Type 0} → ℕ → Answer ReadingCause A → Type 0
Faulty l (got a s) = Unit {0}
Faulty l (refused c k) = k ≡ l

pub then_faulty : {A B : Type 0} (l : ℕ) (x : Answer ReadingCause A) (f : A → List ℕ → Answer ReadingCause B)
    → Faulty l x → ((a : A) (s : List ℕ) → Faulty l (f a s)) → Faulty l (then x f)
unfolding then
then_faulty l (got a s) f h k = k a s
then_faulty l (refused c j) f h k = h

following_faulty : (l : ℕ) (ds s : List ℕ) → Faulty l (read_following l ds s)
unfolding read_following if
following_faulty l ds [] = refl
following_faulty l ds (d ∷ s) = if_cases (Faulty l) (ltb d 128) _ _ (λ e. tt) λ e. following_faulty l (ds ++ (d ∷ [])) s

pub identifier_faulty : (m : List ℕ) → Faulty (length m) (read_identifier m)
unfolding read_identifier if
identifier_faulty [] = refl
identifier_faulty (b ∷ s) =
    let l = suc (length s) in
    if_cases (Faulty l) (ltb (b % 32) 31) _ _ (λ e. tt) λ e.
    then_faulty l (read_following l [] s) _ (following_faulty l [] s) λ ds s₁.
    if_cases (Faulty l) (eqb (get_or ds 0 0) 128) _ _ (λ e. refl) λ e.
    if_cases (Faulty l) (ltb (get_or ds 0 0) 31) _ _ (λ e. refl) λ e. tt

fit_faulty : (l n : ℕ) (s : List ℕ) → Faulty l (fit l n s)
unfolding fit if
fit_faulty l n s = if_cases (Faulty l) (leb n (length s)) _ _ (λ e. tt) λ e. refl

long_faulty : (l k : ℕ) (s : List ℕ) → Faulty l (read_long l k s)
unfolding read_long if
long_faulty l k s = if_cases (Faulty l) (leb k (length s)) _ _ (λ e. fit_faulty l _ _) λ e. refl

pub length_faulty : (l : ℕ) (s : List ℕ) → Faulty l (read_length l s)
unfolding read_length if
length_faulty l [] = refl
length_faulty l (b ∷ s) =
    if_cases (Faulty l) (ltb b 128) _ _ (λ e. fit_faulty l b s) λ e.
    if_cases (Faulty l) (eqb b 128) _ _ (λ e. tt) λ e.
    if_cases (Faulty l) (leb (b - 128) longest_field) _ _ (λ e. long_faulty l (b - 128) s) λ e.
    if_cases (Faulty l) (ltb b 255) _ _ (λ e. refl) λ e. refl

pub the_refusal : {A : Type 0} {c : ReadingCause} {l k : ℕ} (x : Answer ReadingCause A) → Faulty l x → x ≡ refused c k → x ≡ refused c l
the_refusal {A} {c} {l} {k} x h e = let q : Faulty {A = A} l (refused c k) = rw e at h in e ∙ rw q

-- what an answer says of an identifier
module _ (n : ℕ) where
  abbrev pub Says : Answer ReadingCause (List ℕ) → Result Identifier ReadingCause → Type 0
  Says x (Ok y) = (i : List ℕ) × (w : List ℕ) × (x ≡ got i w) × (code_of i ≡ y.code) × (n - length w ≡ y.end)
  Says x (Err c) = (l : ℕ) × (x ≡ refused c l)

  pub says : (x : Answer ReadingCause (List ℕ)) → Says x (told_identifier n x)
  unfolding told_identifier
  says (got i w) = (i, w, refl, refl, refl)
  says (refused c l) = (l, refl)

module _ (m : List ℕ) (r : Result Identifier ReadingCause) (a : r ≡ told_identifier (length m) (read_identifier m)) where
  its_some : (i w : List ℕ) → read_identifier m ≡ got i w → 0 < length i
  its_some i w x = got_holds (identifier_some m) x

  pub identifier_read : (z : Identifier) → r ≡ Ok z
      → (i : List ℕ) × (read_identifier m ≡ got i (drop z.end m)) × (code_of i ≡ z.code) × (0 < z.end) × (z.end ≤ length m)
  identifier_read z d =
      let (i, w, x, k, q) : Says (length m) (read_identifier m) (Ok z) = rw (← a, d) at (says (length m) (read_identifier m)) in
      let y = got_holds (identifier_sound m) x in
      let o = its_some i w x in
      let l = rw length-append at (ap length y) in
      let n : length i ≡ z.end = omega arith in
      let b : drop (length i) m ≡ w = ap (drop (length i)) y ∙ drop-append_seam i w in
      (i, x ∙ rw (← b, n), k, omega arith, omega arith)

  pub identifier_refused : (f : ReadingCause) → r ≡ Err f → read_identifier m ≡ refused f (length m)
  identifier_refused f d =
      let (l, x) : Says (length m) (read_identifier m) (Err f) = rw (← a, d) at (says (length m) (read_identifier m)) in
      the_refusal (read_identifier m) (identifier_faulty m) x

-- what an answer says of a length
module _ (n : ℕ) (e : Extent) where
  pub says_definite : (x : Answer ReadingCause Size) → Ok e ≡ told_length n x → e.indefinite ≡ false
      → (k : ℕ) × (w : List ℕ) × (x ≡ got (definite k) w) × (e.start ≡ n - length w) × (e.end ≡ n - length w + k)
  unfolding told_length
  says_definite (got (definite k) w) p q =
      let h : e ≡ record { start = n - length w; end = n - length w + k; indefinite = false } = cc in
      (k, w, refl, ap (λ (x : Extent). x.start) h, ap (λ (x : Extent). x.end) h)
  says_definite (got indefinite w) p q =
      let h : e ≡ record { start = n - length w; end = n; indefinite = true } = cc in
      absurd (true≢false (sym (ap (λ (x : Extent). x.indefinite) h) ∙ q))
  says_definite (refused c l) p q = let z : ◌≡◌ {A = ℕ} 0 1 = cc in absurd (omega arith)

  pub says_open : (x : Answer ReadingCause Size) → Ok e ≡ told_length n x → e.indefinite ≡ true
      → (w : List ℕ) × (x ≡ got indefinite w) × (e.start ≡ n - length w) × (e.end ≡ n)
  unfolding told_length
  says_open (got (definite k) w) p q =
      let h : e ≡ record { start = n - length w; end = n - length w + k; indefinite = false } = cc in
      absurd (false≢true (sym (ap (λ (x : Extent). x.indefinite) h) ∙ q))
  says_open (got indefinite w) p q =
      let h : e ≡ record { start = n - length w; end = n; indefinite = true } = cc in
      (w, refl, ap (λ (x : Extent). x.start) h, ap (λ (x : Extent). x.end) h)
  says_open (refused c l) p q = let z : ◌≡◌ {A = ℕ} 0 1 = cc in absurd (omega arith)

pub says_no : (n : ℕ) (x : Answer ReadingCause Size) (f : ReadingCause) → Err f ≡ told_length n x → (l : ℕ) × (x ≡ refused f l)
unfolding told_length
says_no n (got (definite k) w) f e = let z : ◌≡◌ {A = ℕ} 0 1 = cc in absurd (omega arith)
says_no n (got indefinite w) f e = let z : ◌≡◌ {A = ℕ} 0 1 = cc in absurd (omega arith)
says_no n (refused c l) f e = let q : f ≡ c = cc in (l, rw q)

octets_some : {n : ℕ} {m : List ℕ} → Length n m → 0 < length m
octets_some (short h e) = rw e (omega arith)
octets_some (long ds a b c e) = rw e (omega arith)

-- the contents have room behind the length octets
abbrev pub Room : Size → List ℕ → Type 0
Room (definite n) w = n ≤ length w
Room indefinite w = Unit {0}

pub shape_some : {s : List ℕ} {z : Size} {w : List ℕ} → Shape s z w → (p : List ℕ) × (s ≡ p ++ w) × (0 < length p) × Room z w
shape_some (is_definite m e l h) = (m, e, octets_some l, h)
shape_some (is_indefinite e) = (128 ∷ [], e, omega arith, tt)

module _ (m : List ℕ) (at l : ℕ) where
  pub length_rest : (z : Size) (w : List ℕ) → read_length l (drop at m) ≡ got z w → (p : ℕ) × (w ≡ drop p m) × (at < p) × (p ≤ length m) × Room z w
  length_rest z w x =
      let (q, k, o, room) = shape_some (got_holds (length_sound l (drop at m)) x) in
      let h : at ≤ length m = omega (arith, length-drop at m, rw length-append at (ap length k)) in
      let y = length_behind m at q w h k in
      (at + length q, sym (behind m at q w k), omega arith, y, room)

  module _ (r : Result Extent ReadingCause) (a : r ≡ told_length (length m) (read_length l (drop at m))) where
    module _ (e : Extent) (d : r ≡ Ok e) where
      pub length_definite : e.indefinite ≡ false
          → (read_length l (drop at m) ≡ got (definite (e.end - e.start)) (drop e.start m)) × (at < e.start) × (e.start ≤ e.end) × (e.end ≤ length m)
      length_definite q =
          let (k, w, x, s, t) = says_definite (length m) e (read_length l (drop at m)) (sym d ∙ a) q in
          let (p, y, low, high, room) = length_rest (definite k) w x in
          let z = ap length y ∙ length-drop p m in
          let es : e.start ≡ p = omega arith in
          let ek : k ≡ e.end - e.start = omega arith in
          let ew : w ≡ drop e.start m = y ∙ ap (λ (j : ℕ). drop j m) (sym es) in
          (x ∙ rw (ek, ew), omega arith, omega arith, omega arith)

      pub length_indefinite : e.indefinite ≡ true
          → (read_length l (drop at m) ≡ got indefinite (drop e.start m)) × (at < e.start) × (e.start ≤ length m) × (e.end ≡ length m)
      length_indefinite q =
          let (w, x, s, t) = says_open (length m) e (read_length l (drop at m)) (sym d ∙ a) q in
          let (p, y, low, high, room) = length_rest indefinite w x in
          let z = ap length y ∙ length-drop p m in
          let es : e.start ≡ p = omega arith in
          let ew : w ≡ drop e.start m = y ∙ ap (λ (j : ℕ). drop j m) (sym es) in
          (x ∙ rw ew, omega arith, omega arith, t)

      -- FORMATS, "Limits": at most four octets stand between the first length octet and the contents, and a definite length is below 2^32.
      pub extent_field : AllOctets m → (e.start ≤ at + 5) × (e.indefinite ≡ false → e.end - e.start < 4294967296)
      extent_field o = test e.indefinite (λ t. (few (length_indefinite t).0 (length_indefinite t).2, λ f. absurd (true≢false (sym t ∙ f))))
          λ t. let (x, low, mid, high) = length_definite t in (few x (omega arith), λ _. small x)
        where
          few : {z : Size} → read_length l (drop at m) ≡ got z (drop e.start m) → e.start ≤ length m → e.start ≤ at + 5
          few x h =
              let (p, q, k, c) = got_holds (field l (drop at m) (octets_from m at o)) x in
              omega (arith, k, length-drop at m, length-drop e.start m, rw length-append at (ap length q))

          small : {n : ℕ} → read_length l (drop at m) ≡ got (definite n) (drop e.start m) → n < 4294967296
          small x = let (p, q, k, c) = got_holds (field l (drop at m) (octets_from m at o)) x in c

    pub length_refused : (f : ReadingCause) → r ≡ Err f → read_length l (drop at m) ≡ refused f l
    length_refused f d =
        let (j, x) = says_no (length m) (read_length l (drop at m)) f (sym d ∙ a) in
        the_refusal (read_length l (drop at m)) (length_faulty l (drop at m)) x

-- whatever is read at a place keeps the rule
pub length_ruled : (m : List ℕ) (at : ℕ) (r : Result Extent ReadingCause) → AllOctets m → Here m at r
    → Here m at r × ((x : Extent) → r ≡ Ok x → x.start ≤ at + 1 + longest_field)
    × ((x : Extent) → r ≡ Ok x → x.indefinite ≡ false → x.end - x.start < 4294967296)
length_ruled m at r o h = (h, (λ x e. omega (arith, (extent_field m at 0 r (h 0) x e o).0)), λ x e. (extent_field m at 0 r (h 0) x e o).1)

-- the length octets of contents that were read before
pub length_anywhere : (l k : ℕ) (s : List ℕ) {z : Size} {w : List ℕ} → read_length l s ≡ got z w → read_length k s ≡ got z w
unfolding read_length if
length_anywhere l k s x = of_shape (got_holds (length_sound l s) x)
  where
    of_shape : {z : Size} {w : List ℕ} → Shape s z w → read_length k s ≡ got z w
    of_shape {w = w} (is_definite m e o h) = rw e (length_complete k w o h)
    of_shape (is_indefinite e) = rw e

module _ (m : List ℕ) (at : ℕ) where
  pub again_none : length m ≤ at → no_extent ≡ again_at m at
  unfolding again_at if
  again_none h = rw (le-leb (length m) at h)

  module _ (h : at < length m) where
    pub again_short : get_or m at 0 < 128 → record { start = at + 1; end = at + 1 + get_or m at 0; indefinite = false } ≡ again_at m at
    unfolding again_at if
    again_short k = rw (lt-leb (length m) at h, lt-ltb (get_or m at 0) 128 k)

    module _ (k : 128 ≤ get_or m at 0) (r : Result Extent ReadingCause) (a : Here m at r) where
      pub again_other : again_at m at ≡ result_unwrap_or r no_extent
      unfolding again_at if
      again_other = rw (lt-leb (length m) at h, le-ltb (get_or m at 0) 128 k, ← a 0)

  -- it is the extent of what was read
  pub again_told : (l : ℕ) (x : Extent) (z : Size) (w : List ℕ) → x ≡ again_at m at → read_length l (drop at m) ≡ got z w
      → Ok x ≡ told_length (length m) (read_length l (drop at m))
  unfolding read_length told_length
  again_told l x z w e q =
      rw e
      (test (leb (length m) at) (λ t. refused≢got (rw (none_at m at (leb-true (length m) at t)) at q))
      λ t. let h : at < length m = leb-false (length m) at t in
      test (ltb (get_or m at 0) 128)
      (λ s. short h (ltb-true (get_or m at 0) 128 s))
      λ s. rw (again_other h (ltb-false (get_or m at 0) 128 s) (told_length (length m) (got z w)) λ k. rw (length_anywhere l k (drop at m) q), q) (told z))
    where
      told : (z : Size) → Ok (result_unwrap_or (told_length (length m) (got z w)) no_extent) ≡ told_length (length m) (got z w)
      told (definite n) = refl
      told indefinite = refl

      short : at < length m → get_or m at 0 < 128 → Ok (again_at m at) ≡ told_length (length m) (read_length l (drop at m))
      short h s =
          let e = at + 1 + get_or m at 0 in
          test (leb e (length m)) (λ t. rw (← again_short h s) (length_short m at h s (leb-true e (length m) t) l))
          λ t. let (k, g) = says_no (length m) (read_length l (drop at m)) Cut (length_short_no m at h s (leb-false e (length m) t) l) in
          refused≢got (sym g ∙ q)

-- for the code that reads, by what it reads
pub ruleset identifiers = (identifier_none, identifier_short)

pub ruleset long_identifiers = (follow_next, long_zero, long_few, long_read)

pub ruleset lengths = (length_ruled, length_none, length_short, length_short_no, all_octets)

pub ruleset other_lengths = (length_open, length_over, length_reserved)

pub ruleset again = (again_none, again_short)
