-- An encoding, and a type, at one level is one at every level that the value's depth allows; what is encoded is well_typed.
-- Assumes nothing.
use mathlib.Core.List.{List}
use mathlib.Core.Option.{Option}
use native.Mathlib.Omega.{arith}
use Prim.Native.Nat.{ℕ, zero, suc, ◌≤◌}
use Rattle.octets.specs.Permutations.{Each, nil, cons, Every, every_nil, every_cons, AllOctets, Order, any_order, permuted}
use Rattle.octets.proofs.Permutations.{every_perm, joined_octets, arranged_perm}
use Rattle.x690.proofs.Items.{constructed_octets}
use Rattle.x690.proofs.Segments.{carried_octets}
use Rattle.table.specs.Syntax.{Member, Body, Table}
use Rattle.coding.specs.Value.{Value, leaf, sequence, set, sequence_of, set_of, choice, slots, bag, depth, depths}
use Rattle.coding.specs.Encodes.{Coding, Pieces, done, left, sent, Codes, is_plain, is_sequence, is_set, is_sequence_of, is_set_of, is_chosen, Wrapped, bare, tagged, EncodesAt}
use Rattle.coding.specs.Typed.{MembersTyped, f_done, f_left, f_sent, Typed, t_plain, t_sequence, t_set, t_sequence_of, t_set_of, t_choice, WellTypedAt}
use Rattle.coding.proofs.Content.{content_typed}

pub wrapped_map : {C D : List ℕ → Type 0} {is : List (List ℕ)} {m : List ℕ} → ((c : List ℕ) → C c → D c) → Wrapped C is m → Wrapped D is m
wrapped_map f (bare c) = bare (f _ c)
wrapped_map f (tagged w h) = tagged (wrapped_map f w) h

pub wrapped_core : {C : List ℕ → Type 0} {is : List (List ℕ)} {m : List ℕ} → AllOctets m → Wrapped C is m → (c : List ℕ) × AllOctets c × C c
wrapped_core o (bare {m = m} c) = (m, o, c)
wrapped_core o (tagged w h) = wrapped_core (constructed_octets h o) w

module _ {E F : Coding} where
  pieces_map : {ms : List Member} {os : List (Option Value)} {ps : List (List ℕ)} (n : ℕ) → depths (slots os) ≤ n → ((t : ℕ) (v : Value) (m : List ℕ) → depth v ≤ n → E t v m → F t v m)
      → Pieces E ms os ps → Pieces F ms os ps
  unfolding slots depth
  pieces_map n h f done = done
  pieces_map n h f (left p) = left (pieces_map n h f p)
  pieces_map n h f (sent e p) = sent (f _ _ _ (omega arith) e) (pieces_map n (omega arith) f p)

  each_coded : {t : ℕ} {vs : List Value} {ps : List (List ℕ)} (n : ℕ) → depths (bag vs) ≤ n → ((t : ℕ) (v : Value) (m : List ℕ) → depth v ≤ n → E t v m → F t v m)
      → Each (E t) vs ps → Each (F t) vs ps
  unfolding bag depth
  each_coded n h f nil = nil
  each_coded n h f (cons e es) = cons (f _ _ _ (omega arith) e) (each_coded n (omega arith) f es)

  codes_map : {o : Order} {i : List ℕ} {k : Body} {v : Value} {m : List ℕ} (n : ℕ) → depth v ≤ suc n → ((t : ℕ) (c : Value) (p : List ℕ) → depth c ≤ n → E t c p → F t c p)
      → Codes o E i k v m → Codes o F i k v m
  unfolding depth
  codes_map n h f (is_plain c x p) = is_plain c x p
  codes_map n h f (is_sequence ps p a r) = is_sequence ps (pieces_map n (omega arith) f p) a r
  codes_map n h f (is_set ps qs p a c r) = is_set ps qs (pieces_map n (omega arith) f p) a c r
  codes_map n h f (is_sequence_of ps p r) = is_sequence_of ps (each_coded n (omega arith) f p) r
  codes_map n h f (is_set_of ps qs p c r) = is_set_of ps qs (each_coded n (omega arith) f p) c r
  codes_map n h f (is_chosen a e) = is_chosen a (f _ _ _ (omega arith) e)

module _ {E : Coding} {W : ℕ → Value → Type 0} (typed : (t : ℕ) (v : Value) (m : List ℕ) → AllOctets m → E t v m → W t v) where
  pieces_typed : {ms : List Member} {os : List (Option Value)} {ps : List (List ℕ)} → Every (λ p. AllOctets p) ps → Pieces E ms os ps → MembersTyped W ms os
  pieces_typed o done = f_done
  pieces_typed o (left p) = f_left (pieces_typed o p)
  pieces_typed (every_cons h o) (sent e p) = f_sent (typed _ _ _ h e) (pieces_typed o p)

  each_typed : {t : ℕ} {vs : List Value} {ps : List (List ℕ)} → Every (λ p. AllOctets p) ps → Each (E t) vs ps → Every (W t) vs
  each_typed o nil = every_nil
  each_typed (every_cons h o) (cons e es) = every_cons (typed _ _ _ h e) (each_typed o es)

  codes_typed : {o : Order} {i : List ℕ} {k : Body} {v : Value} {m : List ℕ} → AllOctets m → Codes o E i k v m → Typed W k v
  codes_typed o (is_plain c x p) = t_plain (content_typed (carried_octets p o) x)
  codes_typed o (is_sequence ps p a r) = t_sequence (pieces_typed (joined_octets ps (constructed_octets r o)) p) a
  codes_typed o (is_set ps qs p a c r) = t_set (pieces_typed (every_perm c (joined_octets qs (constructed_octets r o))) p) a
  codes_typed o (is_sequence_of ps p r) = t_sequence_of (each_typed (joined_octets ps (constructed_octets r o)) p)
  codes_typed o (is_set_of ps qs p c r) = t_set_of (each_typed (every_perm (arranged_perm c) (joined_octets qs (constructed_octets r o))) p)
  codes_typed o (is_chosen a e) = t_choice a (typed _ _ _ o e)

module _ {W : ℕ → Value → Type 0} (n : ℕ) (within : (t : ℕ) (v : Value) → W t v → depth v ≤ n) where
  fits_depth : {ms : List Member} {os : List (Option Value)} → MembersTyped W ms os → depths (slots os) ≤ n
  unfolding slots depth
  fits_depth f_done = omega arith
  fits_depth (f_left f) = fits_depth f
  fits_depth (f_sent h f) = let a = within _ _ h in let b = fits_depth f in omega arith

  all_depth : {t : ℕ} {vs : List Value} → Every (W t) vs → depths (bag vs) ≤ n
  unfolding bag depth
  all_depth every_nil = omega arith
  all_depth (every_cons h a) = let x = within _ _ h in let y = all_depth a in omega arith

  typed_depth : {k : Body} {v : Value} → Typed W k v → depth v ≤ suc n
  unfolding depth
  typed_depth (t_plain x) = omega arith
  typed_depth (t_sequence f a) = let h = fits_depth f in omega arith
  typed_depth (t_set f a) = let h = fits_depth f in omega arith
  typed_depth (t_sequence_of f) = let h = all_depth f in omega arith
  typed_depth (t_set_of f) = let h = all_depth f in omega arith
  typed_depth (t_choice a h) = let k = within _ _ h in omega arith

pub well_typed : (o : Order) (T : Table) (n t : ℕ) (v : Value) (m : List ℕ) → AllOctets m → EncodesAt o T n t v m → WellTypedAt T n t v
unfolding EncodesAt WellTypedAt
well_typed r T zero t v m o e = e
well_typed r T (suc n) t v m o e = let (c, o', x) = wrapped_core o e in codes_typed (well_typed r T n) o' x

pub deep : (T : Table) (n t : ℕ) (v : Value) → WellTypedAt T n t v → depth v ≤ n
unfolding WellTypedAt
deep T zero t v h = absurd h
deep T (suc n) t v h = typed_depth n (deep T n) h

pub shallow : (v : Value) → depth v ≤ 0 → ⊥
unfolding depth
shallow (leaf x) h = omega arith
shallow (sequence s) h = omega arith
shallow (set s) h = omega arith
shallow (sequence_of s) h = omega arith
shallow (set_of s) h = omega arith
shallow (choice n v) h = omega arith

pub relevel : (o : Order) (T : Table) (n k t : ℕ) (v : Value) (m : List ℕ) → depth v ≤ k → EncodesAt o T n t v m → EncodesAt o T k t v m
unfolding EncodesAt
relevel o T zero k t v m h e = absurd e
relevel o T (suc n) zero t v m h e = absurd (shallow v h)
relevel o T (suc n) (suc k) t v m h e = wrapped_map (λ c. codes_map k h (λ t c p l. relevel o T n k t c p l)) e

module _ {U W : ℕ → Value → Type 0} (n : ℕ) (f : (t : ℕ) (v : Value) → depth v ≤ n → U t v → W t v) where
  fits_map : {ms : List Member} {os : List (Option Value)} → depths (slots os) ≤ n → MembersTyped U ms os → MembersTyped W ms os
  unfolding slots depth
  fits_map h f_done = f_done
  fits_map h (f_left p) = f_left (fits_map h p)
  fits_map h (f_sent e p) = f_sent (f _ _ (omega arith) e) (fits_map (omega arith) p)

  all_map : {t : ℕ} {vs : List Value} → depths (bag vs) ≤ n → Every (U t) vs → Every (W t) vs
  unfolding bag depth
  all_map h every_nil = every_nil
  all_map h (every_cons e p) = every_cons (f _ _ (omega arith) e) (all_map (omega arith) p)

  typed_map : {k : Body} {v : Value} → depth v ≤ suc n → Typed U k v → Typed W k v
  unfolding depth
  typed_map h (t_plain x) = t_plain x
  typed_map h (t_sequence p a) = t_sequence (fits_map (omega arith) p) a
  typed_map h (t_set p a) = t_set (fits_map (omega arith) p) a
  typed_map h (t_sequence_of p) = t_sequence_of (all_map (omega arith) p)
  typed_map h (t_set_of p) = t_set_of (all_map (omega arith) p)
  typed_map h (t_choice a e) = t_choice a (f _ _ (omega arith) e)

pub retype : (T : Table) (n k t : ℕ) (v : Value) → depth v ≤ k → WellTypedAt T n t v → WellTypedAt T k t v
unfolding WellTypedAt
retype T zero k t v h e = absurd e
retype T (suc n) zero t v h e = absurd (shallow v h)
retype T (suc n) (suc k) t v h e = typed_map k (λ t c l. retype T n k t c l) h e

module _ {E F : Coding} (f : (t : ℕ) (v : Value) (m : List ℕ) → E t v m → F t v m) where
  pieces_any : {ms : List Member} {os : List (Option Value)} {ps : List (List ℕ)} → Pieces E ms os ps → Pieces F ms os ps
  pieces_any done = done
  pieces_any (left p) = left (pieces_any p)
  pieces_any (sent e p) = sent (f _ _ _ e) (pieces_any p)

  each_any : {t : ℕ} {vs : List Value} {ps : List (List ℕ)} → Each (E t) vs ps → Each (F t) vs ps
  each_any nil = nil
  each_any (cons e es) = cons (f _ _ _ e) (each_any es)

  codes_any : {o : Order} {i : List ℕ} {k : Body} {v : Value} {m : List ℕ} → Codes o E i k v m → Codes any_order F i k v m
  codes_any (is_plain c x p) = is_plain c x p
  codes_any (is_sequence ps p a r) = is_sequence ps (pieces_any p) a r
  codes_any (is_set ps qs p a c r) = is_set ps qs (pieces_any p) a c r
  codes_any (is_sequence_of ps p r) = is_sequence_of ps (each_any p) r
  codes_any (is_set_of ps qs p c r) = is_set_of ps qs (each_any p) (permuted (arranged_perm c)) r
  codes_any (is_chosen a e) = is_chosen a (f _ _ _ e)

-- what is sent as the value gives it is sent in one of the orders
pub in_some_order : (o : Order) (T : Table) (n t : ℕ) (v : Value) (m : List ℕ) → EncodesAt o T n t v m → EncodesAt any_order T n t v m
unfolding EncodesAt
in_some_order o T zero t v m e = e
in_some_order o T (suc n) t v m e = wrapped_map (λ c. codes_any (in_some_order o T n)) e
