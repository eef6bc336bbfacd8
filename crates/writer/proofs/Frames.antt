-- The items around the contents of a value: their length and their octets, by the tags of the record.
-- Assumes nothing.
use mathlib.Core.Bool.{Bool, true, false, ◌||◌, false≢true}
use mathlib.Core.List.{List, [], ◌∷◌, ◌++◌, map, append_assoc}
use mathlib.Core.Path.{◌≡◌, refl, sym, ap, ◌∙◌}
use Prim.Native.Nat.{ℕ, ◌+◌, ◌≤◌, ◌<◌}
use native.Mathlib.Omega.{arith}
use borrow.Author.Tests.{ltb-true, ltb-false}
use lib.Dec.{ltb}
use lib.ListN.{length, length-append}
use Rattle.octets.proofs.Tests.{test}
use Rattle.x690.specs.Identifier.{identifier}
use Rattle.x690.specs.Item.{item}
use Rattle.table.specs.Syntax.{Tag, Body, Plain, Sequence, Set, SequenceOf, SetOf, Choice, Record, Table, is_choice, constructed}
use Rattle.coding.specs.Tags.{identifier_of, last, before, explicit_tags, explicit}
use Rattle.coding.specs.Form.{wrap}
use Rattle.writer.specs.Frames.{cap, identifier_size, length_size, framed, some, heads}
use Rattle.writer.proofs.Headers.{identifier_length}

cap_small : (n : ℕ) → n ≤ 8192 → cap n ≡ n
cap_small n h = omega arith

pub cap_below : (n : ℕ) → cap n < 8194
cap_below n = omega arith

pub cap_sum : (a b : ℕ) → cap (cap a + cap b) ≡ cap (a + b)
cap_sum a b = omega arith

-- the length of one item
cap_item : (i k : ℕ) → cap (i + length_size (cap k) + cap k) ≡ cap (i + (length_size k + k))
cap_item i k =
    test (ltb k 8193) (λ e. let h : k < 8193 = ltb-true k 8193 e in let c : cap k ≡ k = omega arith in rw (c) (omega arith)) λ e.
    let h : 8193 ≤ k = ltb-false k 8193 e in
    let c : cap k ≡ 8193 = omega arith in
    rw c (omega arith)

-- identifier octets by the tags, outermost first; the innermost is constructed as c says, all before it are
unfoldable pub frames : Bool → List Tag → List (List ℕ)
frames c [] = []
frames c (g ∷ []) = identifier_of c g ∷ []
frames c (g ∷ h ∷ gs) = identifier_of true g ∷ frames c (h ∷ gs)

all_built : (gs : List Tag) → map (identifier_of true) gs ≡ frames true gs
unfolding frames
all_built [] = refl
all_built (g ∷ []) = refl
all_built (g ∷ h ∷ gs) = ap (λ (l : List (List ℕ)). identifier_of true g ∷ l) (all_built (h ∷ gs))

innermost : (b : Body) (c : Bool) (g : Tag) (gs : List Tag) (x : List ℕ)
    → wrap (map (identifier_of true) (before (g ∷ gs))) (item (identifier_of c (last b (g ∷ gs))) x) ≡ wrap (frames c (g ∷ gs)) x
unfolding frames before last wrap
innermost b c g [] x = refl
innermost b c g (h ∷ gs) x = ap (item (identifier_of true g)) (innermost b c h gs x)

choice_frames : (b : Body) (gs : List Tag) → is_choice b ≡ true → map (identifier_of true) (explicit_tags b gs) ≡ frames (constructed b) gs
unfolding is_choice explicit_tags constructed
choice_frames (Plain k) gs e = absurd (false≢true e)
choice_frames (Sequence ms) gs e = absurd (false≢true e)
choice_frames (Set ms) gs e = absurd (false≢true e)
choice_frames (SequenceOf t) gs e = absurd (false≢true e)
choice_frames (SetOf t) gs e = absurd (false≢true e)
choice_frames (Choice ts) gs e = all_built gs

explicit_before : (b : Body) (gs : List Tag) → is_choice b ≡ false → explicit_tags b gs ≡ before gs
unfolding is_choice explicit_tags
explicit_before (Plain k) gs e = refl
explicit_before (Sequence ms) gs e = refl
explicit_before (Set ms) gs e = refl
explicit_before (SequenceOf t) gs e = refl
explicit_before (SetOf t) gs e = refl
explicit_before (Choice ts) gs e = absurd (false≢true (sym e))

-- what the check of a table promises: a kind other than CHOICE has a tag
abbrev pub Tagged : Table → Type 0
Tagged T = (t : ℕ) → (T t).tags ≡ [] → is_choice (T t).body ≡ true

-- around contents x: a CHOICE has no item of its own, all others have
pub wrapped_choice : (r : Record) (x : List ℕ) → is_choice r.body ≡ true → wrap (explicit r) x ≡ wrap (frames (constructed r.body) r.tags) x
unfolding explicit
wrapped_choice r x e = rw (choice_frames r.body r.tags e) refl

pub wrapped_item : (b : Body) (gs : List Tag) (x : List ℕ) → is_choice b ≡ false → (gs ≡ [] → is_choice b ≡ true)
    → wrap (map (identifier_of true) (explicit_tags b gs)) (item (identifier_of (constructed b) (last b gs)) x) ≡ wrap (frames (constructed b) gs) x
wrapped_item b [] x e h = absurd (false≢true (sym e ∙ h refl))
wrapped_item b (g ∷ gs) x e h = rw (explicit_before b (g ∷ gs) e) (innermost b (constructed b) g gs x)

wrap_cons : (c : Bool) (g : Tag) (gs : List Tag) (x : List ℕ)
    → wrap (frames c (g ∷ gs)) x ≡ item (identifier g.class (some gs || c) g.number) (wrap (frames c gs) x)
unfolding frames wrap some identifier_of
wrap_cons c g [] x = refl
wrap_cons c g (h ∷ gs) x = refl

item_length : (i x : List ℕ) → length (item i x) ≡ length i + (length_size (length x) + length x)
unfolding item
item_length i x = rw (length-append, length-append) refl

-- the judge's length
pub framed_length : (c : Bool) (gs : List Tag) (x : List ℕ) → framed gs (cap (length x)) ≡ cap (length (wrap (frames c gs) x))
unfolding framed frames wrap
framed_length c [] x = refl
framed_length c (g ∷ gs) x =
    rw (framed_length c gs x)
    (cap_item (identifier_size g.number) (length (wrap (frames c gs) x))
    ∙ ap cap (sym (rw (wrap_cons c g gs x, item_length, identifier_length) refl)))

-- what stands in front of the contents
pub heads_wrap : (c : Bool) (gs : List Tag) (x : List ℕ) → length (wrap (frames c gs) x) ≤ 8192 → wrap (frames c gs) x ≡ heads c gs (cap (length x)) ++ x
unfolding heads frames wrap item
heads_wrap c [] x h = refl
heads_wrap c (g ∷ gs) x h =
    let k = rw (wrap_cons c g gs x, item_length) at h in
    let s : length (wrap (frames c gs) x) ≤ 8192 = omega arith in
    let e : framed gs (cap (length x)) ≡ length (wrap (frames c gs) x) = framed_length c gs x ∙ cap_small _ s in
    wrap_cons c g gs x
    ∙ rw (e, append_assoc, append_assoc, ← heads_wrap c gs x s) refl
