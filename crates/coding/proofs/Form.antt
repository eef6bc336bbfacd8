-- The written form of a well-typed value is one of its permitted encodings.
-- Assumes nothing.
use mathlib.Core.List.{List, [], ◌∷◌, ◌++◌}
use mathlib.Core.Option.{Option}
use mathlib.Core.Path.{◌≡◌, refl}
use native.Mathlib.Omega.{arith}
use Prim.Native.Nat.{ℕ, zero, suc}
use lib.ListN.{get_or, length-append}
use Rattle.octets.specs.Lists.{joined}
use Rattle.octets.specs.Permutations.{Each, nil, cons, Every, every_nil, every_cons, Order}
use Rattle.octets.proofs.Permutations.{Perm_refl, arranged_refl}
use Rattle.x690.specs.Item.{in_size}
use Rattle.x690.proofs.Items.{Short, item_content, item_definite}
use Rattle.x690.specs.Segments.{in_whole}
use Rattle.table.specs.Syntax.{Member, Body, Table}
use Rattle.table.specs.Rules.{members}
use Rattle.coding.specs.Value.{Value, slots, bag}
use Rattle.coding.specs.Form.{encode, element, alternatives, form_members, form_elements, form_body, wrap, form_at}
use Rattle.coding.specs.Tags.{explicit}
use Rattle.coding.specs.Encodes.{Coding, Pieces, done, left, sent, At, first, later, Codes, is_plain, is_sequence, is_set, is_sequence_of, is_set_of, is_chosen, Wrapped, bare, tagged, EncodesAt}
use Rattle.coding.specs.Typed.{MembersTyped, f_done, f_left, f_sent, Typed, t_plain, t_sequence, t_set, t_sequence_of, t_set_of, t_choice, WellTypedAt}
use Rattle.coding.proofs.Content.{encode_content}

short_left : (p s : List ℕ) → Short (p ++ s) → Short p
short_left p s h = omega (arith, simp length-append at h)

short_right : (p s : List ℕ) → Short (p ++ s) → Short s
short_right p s h = omega (arith, simp length-append at h)

pub at_index : {t n : ℕ} {ts : List ℕ} → At t ts n → get_or ts n 0 ≡ t
at_index first = refl
at_index (later a) = at_index a

module _ (o : Order) (W : ℕ → Value → Type 0) (E : Coding) (w : ℕ → Value → List ℕ) (writes : (t : ℕ) (v : Value) → W t v → Short (w t v) → E t v (w t v)) where
  fits_written : {ms : List Member} {os : List (Option Value)} → MembersTyped W ms os → Short (joined (form_members w ms (slots os))) → Pieces E ms os (form_members w ms (slots os))
  unfolding form_members slots joined
  fits_written f_done h = done
  fits_written (f_left f) h = left (fits_written f h)
  fits_written (f_sent {m = m} {v = v} x f) h = sent (writes _ _ x (short_left (w m.type v) _ h)) (fits_written f (short_right (w m.type v) _ h))

  all_written : {t : ℕ} {vs : List Value} → Every (W t) vs → Short (joined (form_elements w t (bag vs))) → Each (E t) vs (form_elements w t (bag vs))
  unfolding form_elements bag joined
  all_written every_nil h = nil
  all_written {t} (every_cons {x = v} x a) h = cons (writes _ _ x (short_left (w t v) _ h)) (all_written a (short_right (w t v) _ h))

  kind_written : (i : List ℕ) (k : Body) {v : Value} → Typed W k v → Short (form_body w i k v) → Codes o E i k v (form_body w i k v)
  unfolding form_body members element alternatives
  kind_written i k (t_plain {x = x} l) h = is_plain (encode x) (encode_content l) (in_whole (item_definite i _ h))
  kind_written i k (t_sequence f a) h = is_sequence _ (fits_written f (item_content i _ h)) a (in_size (item_definite i _ h))
  kind_written i k (t_set f a) h = is_set _ _ (fits_written f (item_content i _ h)) a (Perm_refl _) (in_size (item_definite i _ h))
  kind_written i k (t_sequence_of f) h = is_sequence_of _ (all_written f (item_content i _ h)) (in_size (item_definite i _ h))
  kind_written i k (t_set_of f) h = is_set_of _ _ (all_written f (item_content i _ h)) (arranged_refl o _) (in_size (item_definite i _ h))
  kind_written i k (t_choice {v = v} a x) h = let e = at_index a in rw e (is_chosen a (writes _ v x (rw e at h)))

wrapped_written : {C : List ℕ → Type 0} (is : List (List ℕ)) (m : List ℕ) → (Short m → C m) → Short (wrap is m) → Wrapped C is (wrap is m)
unfolding wrap
wrapped_written [] m f h = bare (f h)
wrapped_written (i ∷ is) m f h = tagged (wrapped_written is m f (item_content _ _ h)) (in_size (item_definite _ _ h))

-- The written form of a well-typed value is a permitted encoding, and its elements are as the value gives them.
pub form_encodes : (o : Order) (T : Table) (n t : ℕ) (v : Value) → WellTypedAt T n t v → Short (form_at T n t v) → EncodesAt o T n t v (form_at T n t v)
unfolding WellTypedAt form_at EncodesAt
form_encodes o T zero t v h l = h
form_encodes o T (suc n) t v h l = wrapped_written (explicit (T t)) _ (λ k. kind_written o (WellTypedAt T n) (EncodesAt o T n) (λ u c. form_at T n u c) (form_encodes o T n) _ _ h k) l
