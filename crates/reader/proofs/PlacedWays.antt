-- A value through CHOICEs without tags: the nodes of these, and then the value of the record to which the way leads.
-- Assumes nothing.
use mathlib.Core.List.{List, [], ◌∷◌, ◌++◌, append_assoc}
use mathlib.Core.Path.{◌≡◌, refl, sym, ap, ◌∙◌}
use Prim.Native.Nat.{ℕ, zero, suc, ◌-◌, ◌*◌, ◌%◌, ◌≤◌, ◌<◌}
use native.Mathlib.Omega.{arith}
use lib.ListN.{length, get_or, take}
use lib.Seq.{take-suc}
use Rattle.x690.specs.declared.ReadingCause.{ReadingCause}
use Rattle.octets.specs.Answer.{Answer, got, refused, then}
use Rattle.octets.proofs.Answer.{refused≢got, got_value, got_rest}
use Rattle.table.specs.Syntax.{Table}
use Rattle.coding.specs.Value.{Value, choice, octets}
use Rattle.coding.specs.Reading.{read_value}
use Rattle.reader.specs.Ways.{wrapped}
use Rattle.reader.specs.Placing.{way_octets}
use Rattle.reader.proofs.PlacedLevels.{kept_got, value_kept}

pub way_length : (way : List ℕ) → length (way_octets way) ≡ 4 * length way
unfolding way_octets
way_length [] = refl
way_length (a ∷ way) = let e = way_length way in omega arith

way_append : (a b : List ℕ) → way_octets (a ++ b) ≡ way_octets a ++ way_octets b
unfolding way_octets
way_append [] b = refl
way_append (x ∷ a) b = ap (λ (l : List ℕ). 86 ∷ 65 ∷ 50 ∷ x % 16 ∷ l) (way_append a b)

-- one more
pub way_turn : (way : List ℕ) (d : ℕ) → d < length way → way_octets (take (suc d) way) ≡ way_octets (take d way) ++ (86 ∷ 65 ∷ 50 ∷ get_or way d 0 % 16 ∷ [])
unfolding way_octets
way_turn way d h = ap way_octets (take-suc way d 0 h) ∙ way_append (take d way) (get_or way d 0 ∷ [])

-- the nodes of a way stand in front of the value at its end
pub wrapped_octets : (way : List ℕ) (d : ℕ) (v : Value) → d ≤ length way → octets (wrapped way d v) ≡ way_octets (take d way) ++ octets v
unfolding wrapped octets way_octets
wrapped_octets way zero v h = refl
wrapped_octets way (suc d) v h =
    wrapped_octets way d (choice (get_or way d 0 % 16) v) (omega arith)
    ∙ sym (rw (way_turn way d h) (append_assoc (way_octets (take d way)) (86 ∷ 65 ∷ 50 ∷ get_or way d 0 % 16 ∷ []) (octets v)))

-- the value that stands there, and the octets of the whole
pub record Inner (T : Table) (n : ℕ) (s way : List ℕ) (u : ℕ) (v : Value) (w : List ℕ) : Type 0 where
  pub value : Value
  pub read : read_value T n u s ≡ got value w
  pub octets : octets v ≡ way_octets way ++ octets value

-- on the first d of a way, which leads to u
pub inner_under : (T : Table) (n t : ℕ) (s way : List ℕ) (d u : ℕ) (v : Value) (w : List ℕ) → d ≤ length way
    → read_value T n t s ≡ (then (read_value T (n - d) u s) λ v s₁. got (wrapped way d v) s₁) → read_value T n t s ≡ got v w → Inner T n s (take d way) u v w
unfolding then
inner_under T n t s way d u v w h e f = go (read_value T (n - d) u s) refl (sym e ∙ f)
  where
    go : (x : Answer ReadingCause Value) → read_value T (n - d) u s ≡ x → then x (λ v s₁. got (wrapped way d v) s₁) ≡ got v w → Inner T n s (take d way) u v w
    go (got y z) q g =
        record {
          value = y;
          read = kept_got (value_kept T (n - d) n u s (omega arith)) (q ∙ ap (got y) (got_rest g));
          octets = sym (ap octets (got_value g)) ∙ wrapped_octets way d y h;
        }
    go (refused c l) q g = refused≢got g
