-- The last octets of a number to the base 256, by which integers are put: eight are all that 64 bits have, and the fewest are the last.
-- Assumes nothing.
use mathlib.Core.Path.{◌≡◌, refl, sym, ap, ◌∙◌}
use mathlib.Core.List.{List, [], ◌∷◌}
use native.Mathlib.Omega.{arith}
use Prim.Native.Nat.{ℕ, zero, suc, ◌/◌, ◌%◌, ◌<◌}
use lib.IntN.{ℤ}
use lib.ListN.{length, drop}
use mir.Syntax.{w64}
use mir.Val.{SFits, of_z}
use mir.Facts.{Fits-of_z}
use Rattle.octets.specs.Permutations.{AllOctets, every_nil, every_cons}
use Rattle.octets.proofs.Answer.{if_cases}
use Rattle.x690.specs.Integer.{minimal, eight, fewest, fewest_of}
use Rattle.simple.specs.Integers.{last_before, last_octets}
use Rattle.x690.proofs.Integers.{eight_length}

-- the last octets of a number: one octet less is the same without the first
last_behind : (n u : ℕ) (l : List ℕ) → drop 1 (last_before (suc n) u l) ≡ last_before n u l
unfolding last_before
last_behind zero u l = refl
last_behind (suc n) u l = last_behind n (u / 256) (u % 256 ∷ l)

-- eight of them are all that 64 bits have
pub last_eight : (u : ℕ) → u < 18446744073709551616 → eight u ≡ last_octets 8 u
unfolding eight last_before
last_eight u h =
    let d2 : u / 256 / 256 ≡ u / 65536 = omega arith in
    let d3 : u / 65536 / 256 ≡ u / 16777216 = omega arith in
    let d4 : u / 16777216 / 256 ≡ u / 4294967296 = omega arith in
    let d5 : u / 4294967296 / 256 ≡ u / 1099511627776 = omega arith in
    let d6 : u / 1099511627776 / 256 ≡ u / 281474976710656 = omega arith in
    let d7 : u / 281474976710656 / 256 ≡ u / 72057594037927936 = omega arith in
    let d8 : u / 72057594037927936 % 256 ≡ u / 72057594037927936 = omega arith in
    rw (d2, d3, d4, d5, d6, d7, d8)

pub last_octets_lem : (n u : ℕ) {l : List ℕ} → AllOctets l → AllOctets (last_before n u l)
unfolding last_before
last_octets_lem zero u o = o
last_octets_lem (suc n) u o = last_octets_lem n (u / 256) (every_cons {x = u % 256} (omega arith) o)

pub eight_octets : (u : ℕ) → u < 18446744073709551616 → AllOctets (eight u)
eight_octets u h = rw (last_eight u h) (last_octets_lem 8 u every_nil)

last_fewer : (u : ℕ) (s : List ℕ) → s ≡ last_octets (length s) u → last_octets (length (fewest s)) u ≡ fewest s
unfolding fewest
last_fewer u [] e = sym e
last_fewer u (a ∷ s) e =
    if_cases (λ x. last_octets (length x) u ≡ x) (minimal (a ∷ s)) (a ∷ s) (λ _. fewest s) (λ t. sym e)
    (λ t. last_fewer u s (ap (drop 1) e ∙ last_behind (length s) u []))

-- the fewest octets of an integer are the last of its bits
pub last_fewest_bits : (u : ℕ) → u < 18446744073709551616 → last_octets (length (fewest (eight u))) u ≡ fewest (eight u)
last_fewest_bits u h = last_fewer u (eight u) (rw eight_length (last_eight u h))

pub last_fewest : (z : ℤ) → SFits w64 z → last_octets (length (fewest_of z)) (of_z w64 z) ≡ fewest_of z
last_fewest z f = last_fewest_bits (of_z w64 z) (Fits-of_z {w = w64} {z = z} f).fits
