-- What the judge's answers say, and how they are said.
-- Assumes nothing.
use lib.ListN.{length, drop}
use mathlib.Core.List.{List}
use mathlib.Core.Path.{◌≡◌, refl, sym, ap, ◌∙◌}
use native.Mathlib.Omega.{arith}
use Prim.Native.Nat.{ℕ, ◌-◌, ◌≤◌}
use Rattle.std.specs.Prelude.{Result, Ok, Err}
use Rattle.x690.specs.declared.ReadingCause.{ReadingCause}
use Rattle.x690.specs.declared.Unread.{Unread}
use Rattle.octets.specs.Answer.{Answer, got, refused}
use Rattle.ber.proofs.Places.{left_at}
use Rattle.reader.specs.Answers.{cap, judged, unread, told}
use Rattle.reader.specs.declared.answer.Judged.{Judged}

same_unread : {a b : Unread} → ◌≡◌ {A = Result Judged Unread} (Err a) (Err b) → a ≡ b
same_unread e = cc

pub same_judged : {a b : Judged} → ◌≡◌ {A = Result Judged Unread} (Ok a) (Ok b) → a ≡ b
same_judged e = cc

module _ {A : Type 0} (m : List ℕ) (f : A → ℕ) where
  pub told_refused : (x : Answer ReadingCause A) (y : Result Judged Unread) → y ≡ told m f x → (c : ReadingCause) (l : ℕ) → y ≡ unread c l → x ≡ refused c l
  unfolding told
  told_refused (got a u) y e c l d = let z : ◌≡◌ {A = ℕ} 0 1 = cc in absurd (omega arith)
  told_refused (refused k i) y e c l d =
      let h = same_unread (sym e ∙ d) in
      let q : k ≡ c = ap (λ (x : Unread). x.cause) h in
      let z : i ≡ l = ap (λ (x : Unread). x.left) h in
      rw (q, z) refl

  pub told_done : (x : Answer ReadingCause A) (y : Result Judged Unread) → y ≡ told m f x → (e n : ℕ) → y ≡ judged e n
      → (a : A) × (u : List ℕ) × (x ≡ got a u) × (e ≡ length m - length u) × (n ≡ cap (f a))
  unfolding told
  told_done (got a u) y q e n d =
      let h = same_judged (sym d ∙ q) in
      (a, u, refl, ap (λ (x : Judged). x.end) h, ap (λ (x : Judged). x.size) h)
  told_done (refused k i) y q e n d = let z : ◌≡◌ {A = ℕ} 0 1 = cc in absurd (omega arith)

  pub tell_refused : (x : Answer ReadingCause A) (c : ReadingCause) (l : ℕ) → x ≡ refused c l → unread c l ≡ told m f x
  unfolding told
  tell_refused x c l e = rw e refl

  pub tell_done : (x : Answer ReadingCause A) (a : A) (u n : ℕ) → x ≡ got a (drop u m) → u ≤ length m → n ≡ cap (f a) → judged u n ≡ told m f x
  unfolding told
  tell_done x a u n e h k = rw (e, left_at m u h, k) refl
