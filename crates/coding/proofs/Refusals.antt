-- Every refusal in reading and judging has a place within what was handed in.
-- Assumes nothing.
use mathlib.Core.Bool.{Bool, true, false, not}
use mathlib.Core.List.{List, [], ◌∷◌, ◌++◌}
use mathlib.Core.Option.{Option, some, none}
use mathlib.Core.Path.{◌≡◌, refl, ap, subst, ◌∙◌}
use native.Mathlib.Omega.{arith}
use Prim.Native.Nat.{ℕ, zero, suc, ◌+◌, ◌-◌, ◌≤◌, ◌<◌}
use lib.ListN.{length, take, drop, length-append, length-drop}
use lib.Seq.{length-take-le}
use Rattle.x690.specs.declared.ReadingCause.{ReadingCause}
use Rattle.x690.specs.declared.ReadingCause.TheVariants.{NotAwaited, Trailing}
use Rattle.coding.specs.declared.JudgingCause.{JudgingCause}
use Rattle.octets.specs.Answer.{Answer, got, refused, then, if, behind}
use Rattle.octets.specs.Permutations.{AllOctets, Order, as_given}
use Rattle.octets.proofs.Answer.{Holds, yields, refuses, if_holds, then_holds, map_holds, behind_holds, got_holds, then_alike, Taken}
use Rattle.octets.proofs.Permutations.{every_right}
use Rattle.x690.specs.Reading.{read_following, read_identifier, Size, definite, indefinite, fit, read_long, read_length, Mode, closed, open_ended, at_end}
use Rattle.x690.specs.Reading.{read_header, inside, read_constructed, contents, read_primitive}
use Rattle.x690.specs.Length.{short, long}
use Rattle.x690.specs.Item.{Definite, sized, Constructed, in_size, in_marks}
use Rattle.x690.specs.Segments.{Kind, segment_tag, in_parts, empty, join, Carries, in_whole, in_segments, deepest, Gathered, read_joined, read_all, read_segment, read_carried}
use Rattle.x690.proofs.Identifiers.{identifier_sound}
use Rattle.x690.proofs.Lengths.{Shape, is_definite, is_indefinite}
use Rattle.x690.proofs.Items.{Ends, no_more, mark, at_end_holds, header_sound, primitive_sound}
use Rattle.table.specs.Syntax.{Member, Simple, Boolean, Integer, BitString, OctetString, Null, Enumerated, Time, Body, Plain, Sequence, Set, SequenceOf, SetOf, Choice, Table}
use Rattle.coding.specs.Value.{Value, octets}
use Rattle.coding.specs.Reading.{begun, full, decode, not_awaited, unwanted, nothing, read_wrapped, read_sequence, place_member, read_set, read_many, choose, read_body, read_kind, read_value, read_message}
use Rattle.coding.specs.Content.{segmented}
use Rattle.coding.specs.Tags.{own_tag, explicit}
use Rattle.coding.specs.Encodes.{allowed, Coding, Codes, is_plain, is_sequence, is_set, is_sequence_of, is_set_of, is_chosen, Wrapped, bare, tagged, EncodesAt}
use Rattle.coding.specs.Judging.{Node, a_leaf, a_sequence, a_set, a_sequence_of, a_set_of, a_choice, need, own_members, own_count, own_boolean}
use Rattle.coding.specs.Judging.{own_integer, own_string, own_bits, own_enumerated, own_time, own_choice, read_own, read_node, judge_members, judge_elements}
use Rattle.coding.specs.Judging.{judge_below, judge_value, judge_whole}
use Rattle.coding.proofs.Sound.{wrapped_sound, kind_sound, value_sound, not_awaited_lem}
use Rattle.coding.proofs.Nodes.{node_octets, node_sound}
use Rattle.coding.proofs.Judging.{judge_sound}

-- An answer that refuses does so at a place where at most n octets are left.
pub data Within {K A : Type 0} (n : ℕ) : Answer K A → Type 0 where
  answers : {a : A} {r : List ℕ} → Within n (got a r)
  names : {c : K} {l : ℕ} → l ≤ n → Within n (refused c l)

module _ {K : Type 0} where
  then_says : {A B : Type 0} {n : ℕ} {x : Answer K A} {f : A → List ℕ → Answer K B} → Within n x → ((a : A) (r : List ℕ) → x ≡ got a r → Within n (f a r)) → Within n (then x f)
  unfolding then
  then_says (answers {a = a} {r = r}) k = k a r refl
  then_says (names h) k = names h

  if_says : {A : Type 0} {n : ℕ} (b : Bool) {x : Answer K A} {y : Unit {0} → Answer K A} → (b ≡ true → Within n x) → (b ≡ false → (u : Unit {0}) → Within n (y u)) → Within n (if b x y)
  unfolding if
  if_says true h k = h refl
  if_says false h k = k refl tt

  behind_says : {A : Type 0} {n : ℕ} {x : Answer K A} (k : ℕ) → Within n x → Within (n + k) (behind k x)
  unfolding behind
  behind_says k answers = answers
  behind_says k (names {l = l} h) = names {l = l + k} (omega arith)

  wider : {A : Type 0} {n m : ℕ} {x : Answer K A} → Within n x → n ≤ m → Within m x
  wider answers h = answers
  wider (names {l = l} k) h = names {l = l} (omega arith)

  -- at the place itself
  here : {A : Type 0} {n : ℕ} {c : K} → Within {A = A} n (refused c n)
  here {n = n} = names {l = n} (omega arith)

-- an encoding is not empty

definite_some : {i c m : List ℕ} → Definite i c m → 0 < length m
definite_some {i = i} {c = c} (sized ls (short h e) q) = rw (q, e) (simp length-append (omega arith))
definite_some {i = i} {c = c} (sized ls (long ds h k v e) q) = rw (q, e) (simp length-append (omega arith))

constructed_some : {i c m : List ℕ} → Constructed i c m → 0 < length m
constructed_some (in_size p) = definite_some p
constructed_some (in_marks q) = rw q (simp length-append (omega arith))

carried_some : {k : Option Kind} {i c m : List ℕ} → Carries i c m k → 0 < length m
carried_some (in_whole p) = definite_some p
carried_some (in_segments j p) = constructed_some p

kind_some : {o : Order} {E : Coding} {i : List ℕ} {k : Body} {v : Value} {m : List ℕ} → ((t : ℕ) (v : Value) (m : List ℕ) → E t v m → 0 < length m) → Codes o E i k v m → 0 < length m
kind_some f (is_plain c x p) = carried_some p
kind_some f (is_sequence ps p a c) = constructed_some c
kind_some f (is_set ps qs p a c d) = constructed_some d
kind_some f (is_sequence_of ps es c) = constructed_some c
kind_some f (is_set_of ps qs es c d) = constructed_some d
kind_some f (is_chosen a c) = f _ _ _ c

wrapped_some : {C : List ℕ → Type 0} {is : List (List ℕ)} {m : List ℕ} → ((m : List ℕ) → C m → 0 < length m) → Wrapped C is m → 0 < length m
wrapped_some {m = m} f (bare c) = f m c
wrapped_some f (tagged w h) = constructed_some h

pub encodes_some : (o : Order) (T : Table) (n t : ℕ) (v : Value) (m : List ℕ) → EncodesAt o T n t v m → 0 < length m
unfolding EncodesAt
encodes_some o T zero t v m e = absurd e
encodes_some o T (suc n) t v m e = wrapped_some (λ m. kind_some (encodes_some o T n)) e

-- what is left behind a value is shorter than what was given
pub value_shorter : (T : Table) (n t : ℕ) (s : List ℕ) → Holds (λ v u. length u < length s) (read_value T n t s)
value_shorter T n t s =
    map_holds (value_sound as_given T n t s) λ v u x.
    let h = encodes_some as_given T n t v x.piece x.has in
    rw (x.cut, length-append) (omega arith)

-- identifier and length octets

following_says : (n l : ℕ) (ds s : List ℕ) → l ≤ n → Within n (read_following l ds s)
unfolding read_following
following_says n l ds [] h = names h
following_says n l ds (d ∷ s) h = if_says _ (λ e. answers) λ e _. following_says n l (ds ++ (d ∷ [])) s h

identifier_says : (s : List ℕ) → Within (length s) (read_identifier s)
unfolding read_identifier
identifier_says [] = here
identifier_says (b ∷ s) =
    if_says _ (λ e. answers) λ e _.
    then_says (following_says (suc (length s)) (suc (length s)) [] s (omega arith)) λ ds s₁ q.
    if_says _ (λ f. here) λ f _.
    if_says _ (λ f. here) λ f _. answers

not_awaited_says : {A : Type 0} {n : ℕ} (s : List ℕ) → length s ≤ n → Within {A = A} n (not_awaited s)
unfolding not_awaited
not_awaited_says s h = wider (then_says (identifier_says s) λ i r e. here) h

unwanted_says : {A : Type 0} {n : ℕ} (w : Bool) (s : List ℕ) → length s ≤ n → Within {A = A} n (unwanted w s)
unfolding unwanted
unwanted_says true s h = not_awaited_says s h
unwanted_says false s h = names h

fit_says : (n l k : ℕ) (s : List ℕ) → l ≤ n → Within n (fit l k s)
unfolding fit
fit_says n l k s h = if_says _ (λ e. answers) λ e _. names h

length_says : (n l : ℕ) (s : List ℕ) → l ≤ n → Within n (read_length l s)
unfolding read_length read_long
length_says n l [] h = names h
length_says n l (b ∷ s) h =
    if_says _ (λ e. fit_says n l b s h) λ e _.
    if_says _ (λ e. answers) λ e _.
    if_says _ (λ e. if_says _ (λ f. fit_says n l _ _ h) λ f _. names h) λ e _.
    if_says _ (λ e. names h) λ e _. names h

header_says : (i s : List ℕ) → Within (length s) (read_header i s)
unfolding read_header
header_says i s =
    then_says (identifier_says s) λ j s₁ e.
    if_says _ (λ f. here) λ f _. length_says (length s) (length s) s₁ (omega arith)

-- items

shape_shorter : {u : List ℕ} {z : Size} {w : List ℕ} → Shape u z w → length w ≤ length u
shape_shorter (is_definite m e l t) = rw (e, length-append) (omega arith)
shape_shorter {w = w} (is_indefinite e) = rw e (omega arith)

same_size : {n k : ℕ} → definite n ≡ definite k → n ≡ k
same_size e = cc

unfoldable IsOpen : Size → Type 0
IsOpen (definite n) = ⊥
IsOpen indefinite = Unit {0}

not_definite : {n : ℕ} {C : Type 0} → indefinite ≡ definite n → C
unfolding IsOpen
not_definite e = absurd (subst IsOpen e tt)

fits : {u : List ℕ} {z : Size} {w : List ℕ} → Shape u z w → (n : ℕ) → z ≡ definite n → n ≤ length w
fits (is_definite {n = k} m e l t) n q = let d : k ≡ n = same_size q in omega arith
fits (is_indefinite e) n q = not_definite q

header_shorter : (i s : List ℕ) → Holds (λ z w. (length w ≤ length s) × ((n : ℕ) → z ≡ definite n → n ≤ length w)) (read_header i s)
header_shorter i s =
    map_holds (header_sound i s) (λ z w (u, e, h).
    let k = shape_shorter h in
    (rw (e, length-append) (omega arith), fits h))

inside_says : {A : Type 0} (body : Mode → List ℕ → Answer ReadingCause A) → ((mode : Mode) (s : List ℕ) → Within (length s) (body mode s))
    → (z : Size) (w : List ℕ) → ((n : ℕ) → z ≡ definite n → n ≤ length w) → Within (length w) (inside body z w)
unfolding inside
inside_says body f (definite n) w h =
    let k : n ≤ length w = h n refl in
    let e : length (take n w) ≡ n = length-take-le n w k in
    let q : length (take n w) + (length w - n) ≡ length w = omega arith in
    then_says (wider (behind_says (length w - n) (f closed (take n w))) (omega arith)) λ v r g. answers
inside_says body f indefinite w h = f open_ended w

constructed_says : {A : Type 0} (i : List ℕ) (body : Mode → List ℕ → Answer ReadingCause A) → ((mode : Mode) (s : List ℕ) → Within (length s) (body mode s))
    → (s : List ℕ) → Within (length s) (read_constructed i body s)
unfolding read_constructed
constructed_says i body f s =
    then_says (header_says i s) λ z w e.
    let h = got_holds (header_shorter i s) e in
    wider (inside_says body f z w h.1) h.0

contents_says : (n l : ℕ) (z : Size) (s : List ℕ) → l ≤ n → Within n (contents l z s)
unfolding contents
contents_says n l (definite k) s h = answers
contents_says n l indefinite s h = names h

primitive_says : (i s : List ℕ) → Within (length s) (read_primitive i s)
unfolding read_primitive
primitive_says i s = then_says (header_says i s) λ z w e. contents_says (length s) (length s) z w (omega arith)

decode_says : (n : ℕ) (k : Simple) (l : ℕ) (c s : List ℕ) → l ≤ n → Within n (decode k l c s)
unfolding decode
decode_says n Boolean l c s h = if_says _ (λ e. names h) λ e _. answers
decode_says n Integer l c s h = if_says _ (λ e. names h) λ e _. if_says _ (λ e. names h) λ e _. answers
decode_says n BitString l c s h = if_says _ (λ e. names h) λ e _. if_says _ (λ e. names h) λ e _. answers
decode_says n OctetString l c s h = answers
decode_says n Null l c s h = if_says _ (λ e. names h) λ e _. answers
decode_says n (Enumerated ns) l c s h =
    if_says _ (λ e. names h) λ e _. if_says _ (λ e. names h) λ e _. if_says _ (λ e. names h) λ e _. answers
decode_says n (Time k) l c s h = if_says _ (λ e. names h) λ e _. answers

ends_shorter : {mode : Mode} {t r : List ℕ} → Ends mode t r → length r ≤ length t
ends_shorter no_more = omega arith
ends_shorter mark = omega arith

end_says : {A : Type 0} (n : ℕ) (mode : Mode) (s : List ℕ) {f : List ℕ → Answer ReadingCause A} {x : Unit {0} → Answer ReadingCause A} → length s ≤ n
    → ((r : List ℕ) → Within n (f r)) → ((u : Unit {0}) → Within n (x u)) → Within n (at_end mode s f x)
unfolding at_end
end_says n closed s h f x = if_says _ (λ e. f []) λ e. x
end_says n open_ended s h f x =
    if_says _ (λ e. names {l = 0} (omega arith)) λ e _.
    if_says _ (λ e. x tt) λ e _.
    if_says _ (λ e. names h) λ e _.
    if_says _ (λ e. names h) λ e _. f (drop 2 s)

-- strings in segments: the one that has unused bits begins no more octets back than were read

inside_back : (body : Mode → List ℕ → Answer ReadingCause Gathered) → ((mode : Mode) (s : List ℕ) → Holds (λ g u. length u + g.1 ≤ length s) (body mode s))
    → (z : Size) (w : List ℕ) → ((n : ℕ) → z ≡ definite n → n ≤ length w) → Holds (λ g u. length u + g.1 ≤ length w) (inside body z w)
unfolding inside
inside_back body f (definite n) w h =
    let e : length (take n w) ≡ n = length-take-le n w (h n refl) in
    let d = length-drop n w in
    let k = h n refl in
    then_holds (behind_holds _ (f closed (take n w))) λ g r x. yields (omega arith)
inside_back body f indefinite w h = f open_ended w

constructed_back : (i : List ℕ) (body : Mode → List ℕ → Answer ReadingCause Gathered) → ((mode : Mode) (s : List ℕ) → Holds (λ g u. length u + g.1 ≤ length s) (body mode s))
    → (s : List ℕ) → Holds (λ g u. length u + g.1 ≤ length s) (read_constructed i body s)
unfolding read_constructed
constructed_back i body f s = then_holds (header_shorter i s) λ z w x. map_holds (inside_back body f z w x.1) λ g u y. omega (arith, x.0)

module _ (k : Kind) (r : List ℕ → Answer ReadingCause Gathered) (back : (s : List ℕ) → Holds (λ g u. length u + g.1 ≤ length s) (r s)) where
  joined_back : (n : ℕ) (c : List ℕ) (b : ℕ) (mode : Mode) (s : List ℕ) → Holds (λ g u. length u + g.1 ≤ length s + b) (read_joined k r n c b mode s)
  unfolding read_joined
  joined_back zero c b mode s = refuses
  joined_back (suc n) c b mode s =
      at_end_holds mode s (λ u z. let h = ends_shorter z in yields (omega arith)) λ _.
      then_holds (identifier_sound s) λ i s₁ e.
      if_holds _ (λ a. refuses) λ a _.
      if_holds _ (λ w. refuses) λ w _.
      then_holds (back s) λ g s₂ x.
      map_holds (joined_back n (join k c g.0) g.1 mode s₂) λ h u y. omega arith

segment_back : (k : Kind) (d : ℕ) (s : List ℕ) → Holds (λ g u. length u + g.1 ≤ length s) (read_segment k d s)
unfolding read_segment
segment_back k zero s = refuses
segment_back k (suc d) s =
    if_holds _ (λ h. constructed_back (segment_tag k true) _ (λ mode u. map_holds (joined_back k (read_segment k d) (segment_back k d) _ (empty k) 0 mode u) λ g w y. omega arith) s) λ h _.
    then_holds (primitive_sound (segment_tag k false) s) λ c u x.
    if_holds _ (λ f. refuses) λ f _.
    let e : length s ≡ length x.item + length u = ap length x.cut ∙ length-append x.item u in
    yields (omega arith)

module _ (k : Kind) (r : List ℕ → Answer ReadingCause Gathered) (says : (s : List ℕ) → Within (length s) (r s))
    (back : (s : List ℕ) → Holds (λ g u. length u + g.1 ≤ length s) (r s)) where
  joined_says : (l n : ℕ) (c : List ℕ) (b : ℕ) (mode : Mode) (s : List ℕ) → length s + b ≤ l → Within l (read_joined k r n c b mode s)
  unfolding read_joined
  joined_says l zero c b mode s h = names {l = length s} (omega arith)
  joined_says l (suc n) c b mode s h =
      end_says l mode s (omega arith) (λ u. answers) λ _.
      then_says (wider (identifier_says s) (omega arith)) λ i s₁ e.
      if_says _ (λ a. names {l = length s} (omega arith)) λ a _.
      if_says _ (λ w. names {l = length s + b} h) λ w _.
      then_says (wider (says s) (omega arith)) λ g s₂ q.
      let x = got_holds (back s) q in
      joined_says l n (join k c g.0) g.1 mode s₂ (omega arith)

  all_says : (mode : Mode) (s : List ℕ) → Within (length s) (read_all k r mode s)
  all_says mode s = joined_says (length s) (suc (length s)) (empty k) 0 mode s (omega arith)

segment_says : (k : Kind) (d : ℕ) (s : List ℕ) → Within (length s) (read_segment k d s)
unfolding read_segment
segment_says k zero s = here
segment_says k (suc d) s =
    if_says _ (λ h. constructed_says (segment_tag k true) _ (all_says k (read_segment k d) (segment_says k d) (segment_back k d)) s) λ h _.
    then_says (primitive_says (segment_tag k false) s) λ c u e.
    if_says _ (λ f. here) λ f _. answers

carried_says : (k : Option Kind) (i s : List ℕ) → Within (length s) (read_carried k i s)
unfolding read_carried
carried_says none i s = primitive_says i s
carried_says (some k) i s =
    if_says _
    (λ h. then_says (constructed_says (in_parts i) _ (all_says k (read_segment k deepest) (segment_says k deepest) (segment_back k deepest)) s) λ g u e. answers)
    λ h _. primitive_says i s

wrapped_says : {A : Type 0} (C : A → List ℕ → Type 0) (r : List ℕ → Answer ReadingCause A) → ((s : List ℕ) → Within (length s) (r s)) → ((s : List ℕ) → Holds (Taken C s) (r s)) → (is : List (List ℕ)) (s : List ℕ)
    → Within (length s) (read_wrapped is r s)
unfolding read_wrapped
wrapped_says C r f g [] s = f s
wrapped_says C r f g (i ∷ is) s =
    constructed_says i _ (λ mode u.
    end_says (length u) mode u (omega arith) (λ _. here) λ _.
    then_says (wrapped_says C r f g is u) λ v w e.
    let x = got_holds (wrapped_sound C r g is u) e in
    let h : length w ≤ length u = rw (x.cut, length-append) (omega arith) in
    end_says (length u) mode w h (λ y. answers) λ _. names h) s

-- the structure

module _ (T : Table) (r : ℕ → List ℕ → Answer ReadingCause Value) (says : (t : ℕ) (s : List ℕ) → Within (length s) (r t s)) (shorter : (t : ℕ) (s : List ℕ) → Holds (λ v u. length u < length s) (r t s)) where
  sequence_says : (n : ℕ) (ms : List Member) (os : List (Option Value)) (w : Bool) (mode : Mode) (s : List ℕ) → length s ≤ n → Within n (read_sequence T r ms os w mode s)
  unfolding read_sequence
  sequence_says n [] os w mode s h = end_says n mode s h (λ u. answers) λ _. unwanted_says w s h
  sequence_says n (m ∷ ms) os w mode s h =
      if_says _ (λ b.
      then_says (wider (says m.type s) h) λ v s₁ e.
      let k = got_holds (shorter m.type s) e in
      sequence_says n ms (os ++ (some v ∷ [])) false mode s₁ (omega arith)) λ b _.
      if_says _ (λ o. sequence_says n ms (os ++ (none ∷ [])) true mode s h) λ o _.
      end_says n mode s h (λ u. names h) λ _. not_awaited_says s h

  place_says : (n : ℕ) (ms : List Member) (os : List (Option Value)) (s : List ℕ) → length s ≤ n → Within n (place_member T r ms os s)
  unfolding place_member
  place_says n [] os s h = not_awaited_says s h
  place_says n (m ∷ ms) [] s h = not_awaited_says s h
  place_says n (m ∷ ms) (none ∷ os) s h =
      if_says _ (λ b. then_says (wider (says m.type s) h) λ v s₁ e. answers) λ b _.
      then_says (place_says n ms os s h) λ us s₁ e. answers
  place_says n (m ∷ ms) (some v ∷ os) s h = then_says (place_says n ms os s h) λ us s₁ e. answers

  place_shorter : (ms : List Member) (os : List (Option Value)) (s : List ℕ) → Holds (λ us u. length u < length s) (place_member T r ms os s)
  unfolding place_member
  place_shorter [] os s = not_awaited_lem s
  place_shorter (m ∷ ms) [] s = not_awaited_lem s
  place_shorter (m ∷ ms) (none ∷ os) s =
      if_holds _ (λ b. then_holds (shorter m.type s) λ v s₁ k. yields k) λ b _.
      then_holds (place_shorter ms os s) λ us s₁ k. yields k
  place_shorter (m ∷ ms) (some v ∷ os) s = then_holds (place_shorter ms os s) λ us s₁ k. yields k

  set_says : (n k : ℕ) (ms : List Member) (os : List (Option Value)) (mode : Mode) (s : List ℕ) → length s ≤ n → Within n (read_set T r k ms os mode s)
  unfolding read_set
  set_says n zero ms os mode s h = names h
  set_says n (suc k) ms os mode s h =
      end_says n mode s h (λ u. if_says _ (λ a. answers) λ a _. names h) λ _.
      if_says _ (λ a. names h) λ a _.
      then_says (place_says n ms os s h) λ us s₁ e.
      let g = got_holds (place_shorter ms os s) e in
      set_says n k ms us mode s₁ (omega arith)

  -- a member or an element takes an octet at least, so more turns than octets change nothing
  pub set_turns : (k : ℕ) (ms : List Member) (os : List (Option Value)) (mode : Mode) (s : List ℕ) → length s < k → read_set T r k ms os mode s ≡ read_set T r (suc k) ms os mode s
  unfolding read_set
  set_turns zero ms os mode s h = absurd (omega arith)
  set_turns (suc k) ms os mode s h =
      ap (λ (y : Answer ReadingCause (List (Option Value))). at_end mode s (λ u. if (allowed ms os) (got os u) λ _. refused NotAwaited (length s)) λ _. if (full os) (refused Trailing (length s)) λ _. y)
      (then_alike (place_member T r ms os s) λ us s₁ e. let g = got_holds (place_shorter ms os s) e in set_turns k ms us mode s₁ (omega arith))

  pub many_turns : (k t : ℕ) (mode : Mode) (vs : List Value) (s : List ℕ) → length s < k → read_many T r k t mode vs s ≡ read_many T r (suc k) t mode vs s
  unfolding read_many
  many_turns zero t mode vs s h = absurd (omega arith)
  many_turns (suc k) t mode vs s h =
      ap (λ (y : Answer ReadingCause (List Value)). at_end mode s (λ u. got vs u) λ _. if (not (begun T t s)) (not_awaited s) λ _. y)
      (then_alike (r t s) λ v s₁ e. let g = got_holds (shorter t s) e in many_turns k t mode (vs ++ (v ∷ [])) s₁ (omega arith))

  many_says : (n k t : ℕ) (mode : Mode) (vs : List Value) (s : List ℕ) → length s ≤ n → Within n (read_many T r k t mode vs s)
  unfolding read_many
  many_says n zero t mode vs s h = names h
  many_says n (suc k) t mode vs s h =
      end_says n mode s h (λ u. answers) λ _.
      if_says _ (λ a. not_awaited_says s h) λ a _.
      then_says (wider (says t s) h) λ v s₁ e.
      let g = got_holds (shorter t s) e in
      many_says n k t mode (vs ++ (v ∷ [])) s₁ (omega arith)

  choose_says : (ts : List ℕ) (n : ℕ) (s : List ℕ) → Within (length s) (choose T r ts n s)
  unfolding choose
  choose_says [] n s = not_awaited_says s (omega arith)
  choose_says (t ∷ ts) n s = if_says _ (λ b. then_says (says t s) λ v s₁ e. answers) λ b _. choose_says ts (suc n) s

  -- the body of a constructed kind
  kind_says : (i : List ℕ) (k : Body) (s : List ℕ) → Within (length s) (read_kind T r i k s)
  unfolding read_kind read_body
  kind_says i (Plain k) s = then_says (carried_says (segmented k) i s) λ c s₁ e. then_says (decode_says (length s) k (length s) c s₁ (omega arith)) λ x s₂ g. answers
  kind_says i (Sequence ms) s = constructed_says i _ (λ mode u. then_says (sequence_says (length u) ms [] false mode u (omega arith)) λ os s₁ e. answers) s
  kind_says i (Set ms) s = constructed_says i _ (λ mode u. then_says (set_says (length u) (suc (length u)) ms (nothing ms) mode u (omega arith)) λ os s₁ e. answers) s
  kind_says i (SequenceOf t) s = constructed_says i _ (λ mode u. then_says (many_says (length u) (suc (length u)) t mode [] u (omega arith)) λ vs s₁ e. answers) s
  kind_says i (SetOf t) s = constructed_says i _ (λ mode u. then_says (many_says (length u) (suc (length u)) t mode [] u (omega arith)) λ vs s₁ e. answers) s
  kind_says i (Choice ts) s = choose_says ts 0 s

-- every refusal in the reading of a value is at a place within the octets
pub value_says : (T : Table) (n t : ℕ) (s : List ℕ) → Within (length s) (read_value T n t s)
unfolding read_value
value_says T zero t s = here
value_says T (suc n) t s =
    wrapped_says (Codes as_given (EncodesAt as_given T n) (own_tag (T t)) (T t).body) (read_kind T (λ u w. read_value T n u w) (own_tag (T t)) (T t).body)
    (kind_says T (λ u w. read_value T n u w) (value_says T n) (value_shorter T n) (own_tag (T t)) (T t).body)
    (kind_sound as_given T (EncodesAt as_given T n) (λ u w. read_value T n u w) (value_sound as_given T n) (own_tag (T t)) (T t).body)
    (explicit (T t)) s

-- and in the reading of a message
pub message_says : (T : Table) (n t : ℕ) (m : List ℕ) → Within (length m) (read_message T n t m)
unfolding read_message
message_says T n t m =
    if_says _ (λ e. names {l = 0} (omega arith)) λ e _.
    if_says _ (λ e. not_awaited_says m (omega arith)) λ e _.
    then_says (value_says T n t m) λ v r e.
    let h = got_holds (value_shorter T n t m) e in
    if_says _ (λ f. names {l = length r} (omega arith)) λ f _. answers

need_says : {A : Type 0} (n l k : ℕ) (s : List ℕ) {x : Unit {0} → Answer JudgingCause A} → l ≤ n → ((u : Unit {0}) → Within n (x u)) → Within n (need l k s x)
unfolding need
need_says n l k s h f = if_says _ (λ e. names h) λ e. f

own_says : (n l k : ℕ) (s : List ℕ) → l ≤ n → Within n (read_own l k s)
unfolding read_own own_boolean own_integer own_bits own_string own_enumerated own_time own_members own_count own_choice
own_says n l k s h =
    if_says _ (λ e. need_says n l _ _ h λ _. if_says _ (λ f. names h) λ f _. answers) λ _ _.
    if_says _ (λ e. need_says n l _ _ h λ _. answers) λ _ _.
    if_says _ (λ e. need_says n l _ _ h λ _. need_says n l _ _ h λ _. if_says _ (λ f. names h) λ f _. answers) λ _ _.
    if_says _ (λ e. need_says n l _ _ h λ _. need_says n l _ _ h λ _. answers) λ _ _.
    if_says _ (λ e. answers) λ _ _.
    if_says _ (λ e. need_says n l _ _ h λ _. answers) λ _ _.
    if_says _ (λ e. need_says n l _ _ h λ _. if_says _ (λ f. names h) λ f _. answers) λ _ _.
    if_says _ (λ e. need_says n l _ _ h λ _. if_says _ (λ f. names h) λ f _. answers) λ _ _.
    if_says _ (λ e. need_says n l _ _ h λ _. need_says n l _ _ h λ _. if_says _ (λ f. names h) λ f _. answers) λ _ _.
    if_says _ (λ e. need_says n l _ _ h λ _. need_says n l _ _ h λ _. if_says _ (λ f. names h) λ f _. answers) λ _ _.
    if_says _ (λ e. need_says n l _ _ h λ _. answers) λ _ _.
    if_says _ (λ e. need_says n l _ _ h λ _. answers) λ _ _.
    if_says _ (λ e. need_says n l _ _ h λ _. answers) λ _ _.
    names h

node_says : (s : List ℕ) → Within (length s) (read_node s)
unfolding read_node
node_says s =
    need_says (length s) (length s) 3 s (omega arith) λ _.
    if_says _ (λ e. here) λ e _.
    if_says _ (λ e. here) λ e _. own_says (length s) (length s) _ _ (omega arith)

suffix : {s : List ℕ} (a u : List ℕ) → s ≡ a ++ u → AllOctets s → AllOctets u × (length u ≤ length s)
suffix a u e o = (every_right a (rw e at o), rw (e, length-append) (omega arith))

module _ (r : ℕ → List ℕ → Answer JudgingCause Value) (says : (t : ℕ) (s : List ℕ) → AllOctets s
    → Within (length s) (r t s)) (cut : (t : ℕ) (s : List ℕ) → AllOctets s → Holds (λ v u. s ≡ octets v ++ u) (r t s)) where
  judge_members_says : (n : ℕ) (ms : List Member) (bs : List Bool) (os : List (Option Value)) (s : List ℕ) → AllOctets s → length s ≤ n → Within n (judge_members r ms bs os s)
  unfolding judge_members
  judge_members_says n [] bs os s o h = answers
  judge_members_says n (m ∷ ms) [] os s o h = answers
  judge_members_says n (m ∷ ms) (true ∷ bs) os s o h =
      then_says (wider (says m.type s o) h) λ v s₁ e.
      let x = suffix (octets v) s₁ (got_holds (cut m.type s o) e) o in
      let k = x.1 in
      judge_members_says n ms bs (os ++ (some v ∷ [])) s₁ x.0 (omega arith)
  judge_members_says n (m ∷ ms) (false ∷ bs) os s o h = judge_members_says n ms bs (os ++ (none ∷ [])) s o h

  judge_elements_says : (n k t : ℕ) (vs : List Value) (s : List ℕ) → AllOctets s → length s ≤ n → Within n (judge_elements r k t vs s)
  unfolding judge_elements
  judge_elements_says n zero t vs s o h = answers
  judge_elements_says n (suc k) t vs s o h =
      then_says (wider (says t s o) h) λ v s₁ e.
      let x = suffix (octets v) s₁ (got_holds (cut t s o) e) o in
      let l = x.1 in
      judge_elements_says n k t (vs ++ (v ∷ [])) s₁ x.0 (omega arith)

  judge_below_says : (n : ℕ) (b : Body) (x : Node) (s : List ℕ) → AllOctets s → length s ≤ n → Within n (judge_below r b x s)
  unfolding judge_below
  judge_below_says n b (a_leaf x) s o h = answers
  judge_below_says n b (a_sequence bs) s o h = then_says (judge_members_says n _ bs [] s o h) λ os u e. answers
  judge_below_says n b (a_set bs) s o h = then_says (judge_members_says n _ bs [] s o h) λ os u e. answers
  judge_below_says n b (a_sequence_of k) s o h = then_says (judge_elements_says n k _ [] s o h) λ os u e. answers
  judge_below_says n b (a_set_of k) s o h = then_says (judge_elements_says n k _ [] s o h) λ os u e. answers
  judge_below_says n b (a_choice i) s o h = then_says (wider (says _ s o) h) λ v u e. answers

-- every refusal in the judging of a value is at a place within the octets
pub judge_says : (T : Table) (n t : ℕ) (s : List ℕ) → AllOctets s → Within (length s) (judge_value T n t s)
unfolding judge_value
judge_says T zero t s o = then_says (node_says s) λ x s₁ e. here
judge_says T (suc n) t s o =
    then_says (node_says s) λ x s₁ e.
    if_says _ (λ f. here) λ f _.
    let y = suffix (node_octets x) s₁ (got_holds (node_sound s o) e).0 o in
    judge_below_says (λ u w. judge_value T n u w) (judge_says T n) (λ t s p. map_holds (judge_sound T n t s p) (λ v u z. z.cut)) (length s) (T t).body x s₁ y.0 y.1

pub whole_says : (T : Table) (n t : ℕ) (b : List ℕ) → AllOctets b → Within (length b) (judge_whole T n t b)
unfolding judge_whole
whole_says T n t b o =
    then_says (judge_says T n t b o) λ v r e.
    let y = suffix (octets v) r (got_holds (judge_sound T n t b o) e).cut o in
    if_says _ (λ f. names {l = length r} y.1) λ f _. answers
