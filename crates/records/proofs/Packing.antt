-- An entry as one number: each part is below the unit of the next, so that quotients and remainders give the parts back.
-- Assumes nothing.
use mathlib.Core.Bool.{Bool, true, false}
use mathlib.Core.Path.{◌≡◌, refl, sym, ◌∙◌, ap}
use Prim.Native.Nat.{ℕ, ◌+◌, ◌*◌, ◌/◌, ◌%◌, ◌<◌}
use native.Mathlib.Omega.{arith}
use native.Mathlib.Nat.{mul-add-div_right, div-eq_of_lt, mul-add-mod_self_right, mod-eq_of_lt, div-div-eq-div-mul}
use lib.Dec.{leb}
use borrow.Author.Tests.{le-leb, lt-leb, leb-true, leb-false}
use Rattle.octets.proofs.Tests.{test}
use Rattle.kinds.specs.Kinds.{octet_of, place_of, kind_at, kind_of}
use Rattle.kinds.proofs.Same.{place_low, kind_back}
use Rattle.records.specs.Entries.{unpacked, high_octet, packed}
use Rattle.records.specs.Descriptors.{descriptor_of, described, number_of, entry_number_of}
use Rattle.records.specs.declared.entry.Entry.{Entry}

-- what stands above a unit m, and what below it
module _ (a m r : ℕ) (h : r < m) where
  upper : (a * m + r) / m ≡ a
  upper = mul-add-div_right (omega arith) a r ∙ rw (div-eq_of_lt h) (omega arith)

  lower : (a * m + r) % m ≡ r
  lower = mul-add-mod_self_right a m r ∙ mod-eq_of_lt h

pub high_octet_below : (s : Bool) (x : ℕ) → x < 128 → high_octet s x < 256
high_octet_below true x h = omega arith
high_octet_below false x h = omega arith

high_explicit : (s : Bool) (x : ℕ) → x < 128 → high_octet s x % 128 ≡ x
high_explicit true x h = omega arith
high_explicit false x h = omega arith

abbrev number : ℕ → ℕ → ℕ → ℕ → ℕ
number high kind own code = ((high * 256 + kind) * 65536 + own) * 4294967296 + code

high_simple : (s : Bool) (x kind own code : ℕ) → x < 128 → kind < 256 → own < 65536 → code < 4294967296
    → leb 9223372036854775808 (number (high_octet s x) kind own code) ≡ s
high_simple true x kind own code h h₁ h₂ h₃ = le-leb 9223372036854775808 (number (x + 128) kind own code) (omega arith)
high_simple false x kind own code h h₁ h₂ h₃ = lt-leb 9223372036854775808 (number x kind own code) (omega arith)

module _ (high kind own code : ℕ) (h₁ : kind < 256) (h₂ : own < 65536) (h₃ : code < 4294967296) where
  above_code : number high kind own code / 4294967296 ≡ (high * 256 + kind) * 65536 + own
  above_code = upper ((high * 256 + kind) * 65536 + own) 4294967296 code h₃

  above_own : number high kind own code / 281474976710656 ≡ high * 256 + kind
  above_own =
      sym (div-div-eq-div-mul (number high kind own code) 4294967296 65536) ∙ rw above_code (upper (high * 256 + kind) 65536 own h₂)

  above_kind : number high kind own code / 72057594037927936 ≡ high
  above_kind =
      sym (div-div-eq-div-mul (number high kind own code) 281474976710656 256) ∙ rw above_own (upper high 256 kind h₁)

pub unpacks : (e : Entry) → e.explicit < 128 → e.kind < 256 → e.own < 65536 → e.code < 4294967296 → unpacked (packed e) ≡ e
unfolding unpacked packed
unpacks e h h₁ h₂ h₃ =
    let high = high_octet e.simple e.explicit in
    let p : number high e.kind e.own e.code % 4294967296 ≡ e.code = lower ((high * 256 + e.kind) * 65536 + e.own) 4294967296 e.code h₃ in
    let q : number high e.kind e.own e.code / 4294967296 % 65536 ≡ e.own =
    rw (above_code high e.kind e.own e.code h₁ h₂ h₃) (lower (high * 256 + e.kind) 65536 e.own h₂) in
    let r : number high e.kind e.own e.code / 281474976710656 % 256 ≡ e.kind =
    rw (above_own high e.kind e.own e.code h₁ h₂ h₃) (lower high 256 e.kind h₁) in
    let t : number high e.kind e.own e.code / 72057594037927936 % 128 ≡ e.explicit =
    rw (above_kind high e.kind e.own e.code h₁ h₂ h₃) (high_explicit e.simple e.explicit h) in
    let u = high_simple e.simple e.explicit e.kind e.own e.code h h₁ h₂ h₃ in
    λ i. record { code = p i; own = q i; kind = r i; explicit = t i; simple = u i }

-- the parts of a number, and each with another kind in the place of its own
module _ (w : ℕ) where
  parted : w ≡ number (w / 72057594037927936) (w / 281474976710656 % 256) (w / 4294967296 % 65536) (w % 4294967296)
  parted = omega arith

simple_by : (high kind own code : ℕ) → kind < 256 → own < 65536 → code < 4294967296
    → leb 9223372036854775808 (number high kind own code) ≡ leb 128 high
simple_by high kind own code h₁ h₂ h₃ =
    test (leb 128 high) (λ e. le-leb 9223372036854775808 (number high kind own code) (let f = leb-true 128 high e in omega arith) ∙ sym e)
    λ e. lt-leb 9223372036854775808 (number high kind own code) (let f = leb-false 128 high e in omega arith) ∙ sym e

pub describes_number : (high kind own code : ℕ) → kind < 256 → own < 65536 → code < 4294967296
    → described (number high kind own code) ≡ record { code = code; own = own; kind = kind_at kind; explicit = high % 128; simple = leb 128 high }
unfolding described unpacked
describes_number high kind own code h₁ h₂ h₃ =
    let p : number high kind own code % 4294967296 ≡ code = lower ((high * 256 + kind) * 65536 + own) 4294967296 code h₃ in
    let q : number high kind own code / 4294967296 % 65536 ≡ own = rw (above_code high kind own code h₁ h₂ h₃) (lower (high * 256 + kind) 65536 own h₂) in
    let r : number high kind own code / 281474976710656 % 256 ≡ kind = rw (above_own high kind own code h₁ h₂ h₃) (lower high 256 kind h₁) in
    let t : number high kind own code / 72057594037927936 % 128 ≡ high % 128 = rw (above_kind high kind own code h₁ h₂ h₃) refl in
    let u = simple_by high kind own code h₁ h₂ h₃ in
    λ i. record { code = p i; own = q i; kind = kind_at (r i); explicit = t i; simple = u i }

-- a number with the place of the kind for its octet
module _ (w : ℕ) where
  pub renumbered : described (number_of w) ≡ descriptor_of (unpacked w)
  unfolding unpacked number_of
  renumbered =
      let high = w / 72057594037927936 in
      let own = w / 4294967296 % 65536 in
      let code = w % 4294967296 in
      let k = kind_of (w / 281474976710656 % 256) in
      let n : (high * 256 + place_of k) * 281474976710656 + w % 281474976710656 ≡ number high (place_of k) own code = omega arith in
      let s : leb 9223372036854775808 w ≡ leb 128 high
      = ap (leb 9223372036854775808) (parted w) ∙ simple_by high (w / 281474976710656 % 256) own code (omega arith) (omega arith) (omega arith) in
      let d = describes_number high (place_of k) own code (place_low k) (omega arith) (omega arith) in
      ap (λ (x : ℕ). described x) n ∙ d ∙ λ i. record { code = code; own = own; kind = kind_back k i; explicit = high % 128; simple = sym s i }

  -- where the octet is a kind's, it comes back
  pub number_back : octet_of (kind_of (unpacked w).kind) ≡ (unpacked w).kind → entry_number_of (number_of w) ≡ w
  unfolding unpacked number_of entry_number_of
  number_back q =
      let high = w / 72057594037927936 in
      let k = kind_of (w / 281474976710656 % 256) in
      let own = w / 4294967296 % 65536 in
      let code = w % 4294967296 in
      let n : (high * 256 + place_of k) * 281474976710656 + w % 281474976710656 ≡ number high (place_of k) own code = omega arith in
      let h : number high (place_of k) own code / 72057594037927936 ≡ high = above_kind high (place_of k) own code (place_low k) (omega arith) (omega arith) in
      let p : number high (place_of k) own code / 281474976710656 % 256 ≡ place_of k
      = rw (above_own high (place_of k) own code (place_low k) (omega arith) (omega arith)) (lower high 256 (place_of k) (place_low k)) in
      let l : number high (place_of k) own code % 281474976710656 ≡ w % 281474976710656 = omega arith in
      rw (n, h, p, l, kind_back k, q) (omega arith)
