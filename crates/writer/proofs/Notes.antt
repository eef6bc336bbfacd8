-- The notes: what is judged part by part stays noted, and what is noted is what is put.
-- Assumes nothing.
use mathlib.Core.Bool.{true, false, false≢true}
use mathlib.Core.List.{List, [], ◌∷◌}
use mathlib.Core.Path.{◌≡◌, refl, sym, ap, ◌∙◌}
use Prim.Native.Nat.{ℕ, zero, suc, ◌+◌, ◌-◌, ◌*◌, ◌/◌, ◌≤◌, ◌<◌}
use native.Mathlib.Omega.{arith}
use lib.ListN.{length, get_or, drop, set, length-set, length-drop}
use lib.Seq.{get_or-set_same, get_or-set_other}
use Rattle.octets.proofs.Answer.{got_holds}
use Rattle.coding.specs.declared.JudgingCause.{JudgingCause}
use Rattle.table.specs.Syntax.{Table, constructed}
use Rattle.table.specs.Fields.{constructed_of}
use Rattle.coding.specs.Value.{Value}
use Rattle.coding.specs.Judging.{judge_value}
use Rattle.writer.specs.Nodes.{end_at}
use Rattle.writer.specs.Frames.{cap}
use Rattle.writer.specs.Rows.{row_of, judge_row, row_form}
use Rattle.writer.specs.Told.{Ruling, fit, unfit, told, written, ended, IsDone}
use Rattle.writer.specs.Notes.{note_at, EachRow, ends_at, row_at, length_of, Noted, NotedRow, Same, Noting}
use Rattle.writer.proofs.Rows.{row_behind}
use Rattle.writer.proofs.Judging.{apart, fits_alike, done, Came, JudgedRow}
use Rattle.writer.proofs.Nodes.{constructed_node, leaf_node, built_long}
use Rattle.writer.proofs.Below.{accepted}

-- nothing was noted, and it was refused
pub noting_none : (at : ℕ) (l : List ℕ) (c : JudgingCause) (q : ℕ) (N : List ℕ → Type 0) → Noting at l l (unfit c q) N
noting_none at l c q N = record { long = refl; kept = λ i h. refl; noted = λ e k d m s. apart (sym d) }

-- notes of what begins farther on, which is refused
pub noting_refused : (at next : ℕ) (first last : List ℕ) (r : Ruling) (c : JudgingCause) (q : ℕ) (M N : List ℕ → Type 0) → at ≤ next → Noting next first last r M
    → Noting at first last (unfit c q) N
noting_refused at next first last r c q M N h x = record { long = x.long; kept = λ i k. x.kept i (omega arith); noted = λ e k d m s. apart (sym d) }

-- a loop: of what was to be noted from `at` on, W, all is noted that comes before `next`; R is what is left
pub record Going (at : ℕ) (first : List ℕ) (next : ℕ) (l : List ℕ) (R W : List ℕ → Type 0) : Type 0 where
  pub onward : at ≤ next
  pub long : length l ≡ length first
  pub kept : (i : ℕ) → 4 * i + 4 ≤ at → get_or l i 0 ≡ get_or first i 0
  pub whole : (m : List ℕ) → Same at next l m → R m → W m

pub going_begin : (at : ℕ) (first : List ℕ) (W : List ℕ → Type 0) → Going at first at first W W
going_begin at first W = record { onward = omega arith; long = refl; kept = λ i h. refl; whole = λ m s w. w }

module _ {at : ℕ} {first : List ℕ} {next : ℕ} {l : List ℕ} {R W : List ℕ → Type 0} (G : Going at first next l R W) where
  pub going_turn : {Q N : List ℕ → Type 0} (last : List ℕ) (r : Ruling) (e k : ℕ) → Noting next l last r N → r ≡ fit e k → next ≤ e
      → ((m : List ℕ) → N m → Q m → R m) → Going at first e last Q W
  going_turn last r e k x d h f =
      let o = G.onward in
      record {
        onward = omega arith;
        long = x.long ∙ G.long;
        kept = λ i j. x.kept i (omega arith) ∙ G.kept i j;
        whole = λ m s w. G.whole m (λ i a b. s i a (omega arith) ∙ x.kept i b) (f m (x.noted e k d m (λ i a b. s i (omega arith) b)) w);
      }

  pub going_refused : {N : List ℕ → Type 0} (last : List ℕ) (r : Ruling) (c : JudgingCause) (q : ℕ) → Noting next l last r N → Noting at first last (unfit c q) W
  going_refused last r c q x =
      let o = G.onward in
      record { long = x.long ∙ G.long; kept = λ i j. x.kept i (omega arith) ∙ G.kept i j; noted = λ e k d m s. apart (sym d) }

  pub going_stopped : (c : JudgingCause) (q : ℕ) → Noting at first l (unfit c q) W
  going_stopped c q = record { long = G.long; kept = G.kept; noted = λ e k d m s. apart (sym d) }

  pub going_end : (k : ℕ) → ((m : List ℕ) → R m) → Noting at first l (fit next k) W
  going_end k f = record { long = G.long; kept = G.kept; noted = λ e i d m s. G.whole m (rw (fits_alike d).0 s) (f m) }

module _ (T : Table) (v : List ℕ) (n : ℕ) where
  -- where a value ends that came
  came_ends : (t at e k : ℕ) → Came T n t v at e k → ends_at T v n t at ≡ e
  unfolding ended
  came_ends t at e k z = let l = length-drop e v in let h = z.within in ap (ended v) z.is ∙ omega arith

  -- the first of a row, then the others
  pub row_noted : (t : ℕ) (ts : List ℕ) (from e k : ℕ) → Came T n t v from e k → (m : List ℕ) → Noted T v m n t from → NotedRow T v m n ts e
      → NotedRow T v m n (t ∷ ts) from
  unfolding EachRow
  row_noted t ts from e k z m x y = (x, rw (came_ends t from e k z) y)

  pub none_noted : (from : ℕ) (m : List ℕ) → NotedRow T v m n [] from
  unfolding EachRow
  none_noted from m = tt

  pub first_noted : (t : ℕ) (ts : List ℕ) (from : ℕ) (m : List ℕ) → NotedRow T v m n (t ∷ ts) from → Noted T v m n t from
  unfolding EachRow
  first_noted t ts from m x = x.0

  pub rest_noted : (t : ℕ) (ts : List ℕ) (from : ℕ) (m : List ℕ) → NotedRow T v m n (t ∷ ts) from → (e : ℕ) → e ≡ ends_at T v n t from → NotedRow T v m n ts e
  unfolding EachRow
  rest_noted t ts from m x e q = rw q x.1

-- a leaf: nothing is noted of it
leaf_noted : (T : Table) (v : List ℕ) (n t at : ℕ) → constructed_of (get_or v (at + 2) 0) ≡ false → constructed (T t).body ≡ false → (m : List ℕ) → Noted T v m n t at
unfolding Noted EachRow row_of
leaf_noted T v zero t at h c m = tt
leaf_noted T v (suc n) t at h c m = ((λ e. absurd (false≢true (sym c ∙ e))), rw (leaf_node (get_or v (at + 2) 0) v (at + 3) h) tt)

module _ (T : Table) (v : List ℕ) (n t at : ℕ) (h : at ≤ length v) where
  pub leaf_noting : constructed_of (get_or v (at + 2) 0) ≡ false → (f : Value → List ℕ) (r : Ruling) → r ≡ told f v (judge_value T n t (drop at v)) → (l : List ℕ)
      → Noting at l l r (λ m. Noted T v m n t at)
  unfolding IsDone
  leaf_noting g f r a l =
      record {
        long = refl;
        kept = λ i j. refl;
        noted = λ e k d m s.
            let (x, w, y, q, z) = done f v (judge_value T n t (drop at v)) r e k a d in
            let o = accepted T n t v at h (rw y tt) in
            leaf_noted T v n t at g (constructed_node (T t).body v at o.shaped o.agreed ∙ g) m;
      }

  module _ (z : n ≡ 0 → ⊥) where
    above : n ≡ suc (n - 1)
    above = omega arith

    value_noted : (m : List ℕ) → note_at m at ≡ cap (length_of T v (n - 1) (row_at T v t at) (end_at v at))
        → NotedRow T v m (n - 1) (row_at T v t at) (end_at v at) → Noted T v m n t at
    unfolding Noted
    value_noted m x y = rw above ((λ e. x), y)

    module _ (m : List ℕ) (x : Noted T v m n t at) where
      value_at : Noted T v m (suc (n - 1)) t at
      value_at = rw above at x

      pub value_note : constructed (T t).body ≡ true → note_at m at ≡ cap (length_of T v (n - 1) (row_at T v t at) (end_at v at))
      unfolding Noted
      value_note c = value_at.0 c

      pub value_below : NotedRow T v m (n - 1) (row_at T v t at) (end_at v at)
      unfolding Noted
      value_below = value_at.1

    -- the judge of a constructed node writes its note after the notes below
    module _ (shaped : 0 < end_at v at) (built : constructed_of (get_or v (at + 2) 0) ≡ true) (within : end_at v at ≤ length v) (first last : List ℕ) (r : Ruling) (u s : ℕ)
        (is : r ≡ JudgedRow T (n - 1) v (row_at T v t at) (end_at v at)) (d : r ≡ fit u s) (N : Noting (end_at v at) first last r (λ m. NotedRow T v m (n - 1)
        (row_at T v t at) (end_at v at)))
        (long : length v ≤ 4 * length last) where
      below_onward : (end_at v at ≤ u) × (s ≡ cap (length_of T v (n - 1) (row_at T v t at) (end_at v at))) × (u ≤ length v)
      unfolding written
      below_onward =
          let (x, w, y, q, c) = done (row_form T (n - 1) (row_at T v t at)) v (judge_row T (n - 1) (row_at T v t at) (drop (end_at v at) v)) r u s is d in
          let f = got_holds (row_behind T (n - 1) v (row_at T v t at) (end_at v at) within) y in
          let g = length-drop f.to v in
          let i = ap length f.is in
          (omega (arith, f.onward, f.within), rw y (sym c), omega (arith, f.onward, f.within))

      pub value_noting : Noting at first (set last (at / 4) s) (fit u s) (λ m. Noted T v m n t at)
      value_noting =
          let w = below_onward.0 in
          let e = built_long v at shaped built in
          record {
            long = length-set last (at / 4) s ∙ N.long;
            kept = λ i j. get_or-set_other last (at / 4) i s 0 (λ q. omega arith) ∙ N.kept i (omega arith);
            noted = λ e₁ k₁ d₁ m y.
                let q = (fits_alike d₁).0 in
                value_noted m
                (y (at / 4) (omega arith) (omega arith) ∙ get_or-set_same last (at / 4) s 0 (omega arith) ∙ below_onward.1)
                (N.noted u s d m (λ i a c. y i (omega arith) (omega arith) ∙ get_or-set_other last (at / 4) i s 0 (λ q. omega arith)));
          }
