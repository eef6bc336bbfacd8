-- Laws of the contents of simple kinds: what may be sent is read, what is read may be sent and is a leaf of the kind, what is written may be sent.
-- Assumes nothing.
use borrow.Author.Tests.{leb-true, le-leb, ne_eqb, not-false}
use mathlib.Core.Bool.{true, false, true≢false, false≢true}
use mathlib.Core.List.{List, [], ◌∷◌}
use mathlib.Core.Path.{◌≡◌, refl, sym, subst, ◌∙◌}
use native.Mathlib.Omega.{arith}
use Prim.Native.Nat.{ℕ, suc}
use lib.Dec.{leb}
use lib.IntN.{ℤ, pos, negsuc}
use lib.ListN.{length}
use Rattle.x690.specs.declared.ReadingCause.TheVariants.{Contents}
use Rattle.octets.specs.Answer.{got, refused, if, none_left}
use Rattle.octets.specs.Lists.{any}
use Rattle.octets.specs.Permutations.{AllOctets, every_cons}
use Rattle.octets.proofs.Answer.{Holds, yields, refuses, if_holds, run}
use Rattle.x690.specs.Integer.{negative, pile, integer_of, minimal, fewest_of}
use Rattle.x690.specs.BitString.{unused}
use Rattle.x690.proofs.Integers.{fewest_written, integer_fits}
use Rattle.x690.proofs.BitString.{masked_masked, masked_unused, masked_octets}
use Rattle.x690.specs.Time.{time_of, is_time}
use Rattle.x690.proofs.Times.{time_read_back, time_complete, time_sound}
use Rattle.table.specs.Syntax.{Simple, Boolean, Integer, BitString, OctetString, Null, Enumerated, Time}
use Rattle.coding.specs.Value.{Leaf, enumerated, time}
use Rattle.coding.specs.Content.{listed, Content, c_boolean, c_integer, c_bits, c_string, c_null, c_enumerated, c_time}
use Rattle.coding.specs.Typed.{TypedLeaf, l_boolean, l_integer, l_bits, l_string, l_null, l_enumerated, l_time}
use Rattle.coding.specs.Form.{encode}
use Rattle.coding.specs.Reading.{is_listed, natural, decode}

-- a number that is listed, and one that is not
number_listed : decode (Enumerated (1 ∷ [])) 3 (0x01 ∷ []) [] ≡ got (enumerated 1) []
unfolding if negative pile integer_of minimal any listed is_listed decode
number_listed = refl

number_unlisted : decode (Enumerated (1 ∷ [])) 3 (0x02 ∷ []) [] ≡ refused Contents 3
unfolding if negative pile integer_of minimal any listed is_listed decode
number_unlisted = refl

pub content_complete : {k : Simple} {x : Leaf} {c : List ℕ} (l : ℕ) (s : List ℕ) → Content k x c → decode k l c s ≡ got x s
unfolding decode is_listed
content_complete l s (c_boolean {x = x}) = simp run
content_complete l s (c_integer {c = c} e h) = simp (run, e, le-leb (length c) 8 h)
content_complete l s (c_bits {n = n} {c = c} e) = simp (run, e)
content_complete l s c_string = refl
content_complete l s c_null = simp run
content_complete l s (c_enumerated {ns = ns} {c = c} {k = k} e h z g) = rw z (simp (run, e, le-leb (length c) 8 h, g))
content_complete l s (c_time {k = k} {t = t} e) = simp (run, time_complete k t, e, time_read_back k t)

is_listed_lem : (ns : List ℕ) (z : ℤ) → is_listed ns z ≡ true → (z ≡ pos (natural z)) × (listed ns (natural z) ≡ true)
unfolding is_listed
is_listed_lem ns (pos k) e = (refl, e)
is_listed_lem ns (negsuc k) e = absurd (false≢true e)

pub content_sound : (k : Simple) (l : ℕ) (c s : List ℕ) → Holds (λ x r. (r ≡ s) × Content k x c) (decode k l c s)
unfolding decode none_left
content_sound Boolean l [] s = if_holds _ (λ e. refuses) λ e _. absurd (true≢false e)
content_sound Boolean l (x ∷ []) s = if_holds _ (λ e. refuses) λ e _. yields (refl, c_boolean)
content_sound Boolean l (x ∷ y ∷ c) s = if_holds _ (λ e. refuses) λ e _. absurd (true≢false (rw (ne_eqb (suc (suc (length c))) 1 (λ f. omega arith)) at e))
content_sound Integer l c s =
    if_holds _ (λ e. refuses) λ e _.
    if_holds _ (λ h. refuses) λ h _.
    yields (refl, c_integer (not-false (minimal c) e) (leb-true (length c) 8 (not-false (leb (length c) 8) h)))
content_sound BitString l [] s = if_holds _ (λ e. refuses) λ e _. absurd (true≢false e)
content_sound BitString l (n ∷ c) s =
    if_holds _ (λ e. refuses) λ e _.
    if_holds _ (λ h. refuses) λ h _.
    yields (refl, c_bits (not-false (unused n c) h))
content_sound OctetString l c s = yields (refl, c_string)
content_sound Null l [] s = if_holds _ (λ e. refuses) λ e _. yields (refl, c_null)
content_sound Null l (x ∷ c) s = if_holds _ (λ e. refuses) λ e _. absurd (true≢false e)
content_sound (Enumerated ns) l c s =
    if_holds _ (λ e. refuses) λ e _.
    if_holds _ (λ h. refuses) λ h _.
    if_holds _ (λ g. refuses) λ g _.
    let q = is_listed_lem ns (integer_of c) (not-false (is_listed ns (integer_of c)) g) in
    yields (refl, c_enumerated (not-false (minimal c) e) (leb-true (length c) 8 (not-false (leb (length c) 8) h)) q.0 q.1)
content_sound (Time k) l c s =
    if_holds _ (λ e. refuses) λ e _.
    let (r, q) = time_sound k c (not-false (is_time k c) e) in
    yields (refl, subst (λ (d : List ℕ). Content (Time k) (time k (time_of k c)) d) (sym q) (c_time r))

pub content_typed : {k : Simple} {x : Leaf} {c : List ℕ} → AllOctets c → Content k x c → TypedLeaf k x
content_typed o c_boolean = l_boolean
content_typed o (c_integer {c = c} e h) = l_integer (integer_fits c o h)
content_typed (every_cons h o) (c_bits {n = n} {c = c} e) = l_bits (masked_octets n o) (masked_unused n c ∙ e) (masked_masked n c)
content_typed o c_string = l_string o
content_typed o c_null = l_null
content_typed o (c_enumerated {c = c} {k = k} e h z g) = l_enumerated (rw z at (integer_fits c o h)) g
content_typed o (c_time e) = l_time e

pub encode_content : {k : Simple} {x : Leaf} → TypedLeaf k x → Content k x (encode x)
unfolding encode
encode_content (l_boolean {b = true}) = c_boolean {x = 255}
encode_content (l_boolean {b = false}) = c_boolean {x = 0}
encode_content (l_integer {z = z} f) =
    let w = fewest_written z f in
    rw w.back at (c_integer {c = fewest_of z} w.is_minimal w.few)
encode_content (l_bits {n = n} {c = c} o u e) = rw e at (c_bits {n = n} {c = c} u)
encode_content (l_string o) = c_string
encode_content l_null = c_null
encode_content (l_enumerated {k = k} f g) =
    let w = fewest_written (pos k) f in
    c_enumerated {c = fewest_of (pos k)} w.is_minimal w.few w.back g
encode_content (l_time e) = c_time e
