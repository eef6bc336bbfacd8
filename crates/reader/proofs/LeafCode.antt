-- What the code answers of simple contents, and what it places of them: by themselves, or by their segments (X.690, 8.2 to 8.8).
-- Assumes nothing.
use mathlib.Core.Bool.{Bool, true, false, not}
use mathlib.Core.List.{List, [], ◌∷◌, ◌++◌, append_assoc}
use mathlib.Core.Logic.{◌⊎◌, inl, inr}
use mathlib.Core.Option.{some}
use mathlib.Core.Path.{◌≡◌, refl, sym, ap, ◌∙◌}
use native.Mathlib.Omega.{arith}
use Prim.Native.Nat.{ℕ, ◌+◌, ◌-◌, ◌*◌, ◌%◌, ◌≤◌, ◌<◌}
use borrow.Author.Tests.{not-true}
use denote.Enum.Bare.{sameb}
use lib.ListN.{length, get_or, take, drop, length-append, length-drop, take-append-drop}
use lib.Seq.{sets, sets-eq, length-sets, length-take-le, take_at, drop_at}
use Rattle.std.specs.Prelude.{Result, Ok, Err}
use Rattle.x690.specs.declared.ReadingCause.{ReadingCause}
use Rattle.x690.specs.declared.Unread.{Unread}
use Rattle.x690.specs.declared.ReadingCause.TheVariants.{Forbidden, Contents}
use Rattle.octets.specs.Answer.{Answer, got, refused, then, if, behind, none_left}
use Rattle.octets.specs.Numbers.{octets_of}
use Rattle.octets.proofs.Answer.{got_holds}
use Rattle.octets.proofs.Lists.{both}
use Rattle.octets.proofs.Tests.{test}
use Rattle.x690.specs.BitString.{unused, masked}
use Rattle.x690.specs.Reading.{Size, read_length}
use Rattle.x690.specs.Segments.{Kind as Segments, bit_string, octet_string, universal, empty, in_form, Gathered, deepest, read_all, read_segment}
use Rattle.x690.proofs.BitString.{length_masked}
use Rattle.x690.proofs.Lengths.{length_sound}
use Rattle.x690.proofs.Segments.{all_form}
use Rattle.segments.specs.Segments.{kind_of, unused_in, carried, told_segments, Gathers, behind_all, at_the_end, closes, enters, opens, adds, IsJoined, joining, told_joined}
use Rattle.ber.specs.Told.{mode}
use Rattle.segments.specs.declared.Gathered.{Gathered as Extents}
use Rattle.segments.specs.declared.Joined.{Joined}
use Rattle.segments.proofs.Gathering.{all_gathers}
use Rattle.segments.proofs.JoinCode.{carried_empty, carried_join, join_is}
use Rattle.segments.proofs.Joining.{empty_few}
use Rattle.segments.proofs.SegmentCode.{Came, all_came, all_refused}
use Rattle.ber.proofs.Told.{shape_some}
use Rattle.table.specs.Syntax.{Simple, BitString, OctetString, Plain, Record, constructed}
use Rattle.table.specs.Reading.{body_at}
use Rattle.kinds.specs.contracts.Kind.{the_type}
use Rattle.kinds.specs.declared.Kind.{Kind}
use Rattle.kinds.specs.declared.Kind.TheVariants.{BitString as Bits, OctetString as Octets}
use Rattle.kinds.specs.Kinds.{octet_of}
use Rattle.kinds.proofs.Same.{is_kind, not_kind, same_kind}
use Rattle.records.specs.Descriptors.{Describes}
use Rattle.records.specs.declared.descriptor.Descriptor.{Descriptor}
use Rattle.coding.specs.Content.{segmented}
use Rattle.coding.specs.Value.{Leaf, bits, string, leaf_octets}
use Rattle.coding.specs.Reading.{decode}
use Rattle.reader.specs.Answers.{judged, unread, told, cap}
use Rattle.reader.specs.Leaves.{leaf_of, read_segments, read_leaf, read_leaf_in, leaf_size, Carried, by_segments, ToPlaceLeaf, LeafPlaced}
use Rattle.reader.specs.Weights.{weight, leaf_weight}
use Rattle.reader.specs.declared.answer.Judged.{Judged}
use Rattle.reader.proofs.Bodies.{plain_of}
use Rattle.reader.proofs.LeafKinds.{leaf_three, right, leaf_is, leaf_placed}
use Rattle.reader.proofs.LeafReading.{decode_only, decode_moves}
use Rattle.reader.proofs.Stores.{sets_append, sets_later}
use Rattle.reader.proofs.Tails.{some_left}

-- A string, by its kind: its value has some octets more than its contents.
record IsString (b : List ℕ) (kind : Kind) (own : ℕ) (bits : Bool) : Type 0 where
  pub simple : Simple
  pub more : ℕ
  pub few : more ≤ 5
  pub body : body_at b (octet_of kind) own ≡ Plain simple
  pub segments : segmented simple ≡ some (kind_of bits)
  pub size : (n r : ℕ) → (octet_of kind ≡ 3 → r ≡ n + 4) → (octet_of kind ≡ 4 → r ≡ n + 5) → r ≡ n + more
  pub is : (l : ℕ) (d u : List ℕ) → in_form (kind_of bits) d ≡ true
      → (x : Leaf) × (decode simple l d u ≡ got x u) × (leaf_size x ≡ length d + more)

bits_there : (l : ℕ) (d u : List ℕ) → in_form bit_string d ≡ true → (x : Leaf) × (decode BitString l d u ≡ got x u) × (leaf_size x ≡ length d + 4)
unfolding in_form decode if leaf_octets
bits_there l d u h =
    let (s, t) = both (not (none_left d)) (unused (get_or d 0 0) (drop 1 d)) h in
    let y = not-true (none_left d) s in
    let o = some_left d y in
    (bits (get_or d 0 0) (masked (get_or d 0 0) (drop 1 d)), rw (y, t) refl, omega (arith, length_masked (get_or d 0 0) (drop 1 d), length-drop 1 d))

string_there : (l : ℕ) (d u : List ℕ) → (x : Leaf) × (decode OctetString l d u ≡ got x u) × (leaf_size x ≡ length d + 5)
unfolding decode leaf_octets
string_there l d u = (string d, refl, omega arith)

is_string : (b : List ℕ) (kind : Kind) (own : ℕ) {bits : Bool} → (octet_of kind ≡ 3) ⊎ (octet_of kind ≡ 4) → bits ≡ sameb the_type kind Bits → IsString b kind own bits
unfolding body_at if segmented
is_string b kind own (inl e) q =
    rw (q, same_kind kind Bits e) (record {
      simple = BitString;
      more = 4;
      few = omega arith;
      body = refl;
      segments = refl;
      size = λ n r f g. f refl;
      is = bits_there;
    })
is_string b kind own (inr e) q =
    rw (q, same_kind kind Octets e) (record {
      simple = OctetString;
      more = 5;
      few = omega arith;
      body = refl;
      segments = refl;
      size = λ n r f g. g refl;
      is = λ l d u h. string_there l d u;
    })

-- Contents in segments, by what the code answers of those.
module _ (bits z : Bool) (c : List ℕ) where
  abbrev all_in : Answer ReadingCause Gathered
  all_in = read_all (kind_of bits) (read_segment (kind_of bits) deepest) (mode z) c

  module _ {r : Result Extents Unread} (a : r ≡ told_segments (kind_of bits) (length c) all_in) where
    parts_stop : (y : Unread) → r ≡ Err y → (all_in ≡ refused y.cause y.left) × (y.left ≤ length c)
    parts_stop y e = all_refused (kind_of bits) deepest c r z a y e

    pub parts_left : (y : Unread) → r ≡ Err y → y.left ≤ length c
    parts_left y e = (parts_stop y e).1

    parts_came : (y : Extents) → r ≡ Ok y → Came (kind_of bits) 0 (length (empty (kind_of bits))) c all_in y
    parts_came y e = all_came (kind_of bits) deepest c r z a y e

    pub parts_few : (y : Extents) → r ≡ Ok y → y.size ≤ length c + 1
    parts_few y e = let C = parts_came y e in omega (arith, empty_few (kind_of bits), C.high, C.inside)

    -- those of a string: l octets are left where the item begins, and j behind c
    module _ (kind : Kind) (q : bits ≡ sameb the_type kind Bits) (b : List ℕ) (own l j : ℕ) (s : (octet_of kind ≡ 3) ⊎ (octet_of kind ≡ 4)) where
      its_string : IsString b kind own bits
      its_string = is_string b kind own s q

      abbrev Told : Result Judged Unread
      Told = told c leaf_size (read_leaf_in (body_at b (octet_of kind) own) true z l j c)

      pub parts_refused : (y : Unread) → r ≡ Err y → unread y.cause (y.left + j) ≡ Told
      unfolding read_leaf_in read_leaf read_segments then behind told
      parts_refused y e = rw (its_string.body, its_string.segments, (parts_stop y e).0) refl

      pub parts_done : (y : Extents) → r ≡ Ok y → {n : ℕ} → (octet_of kind ≡ 3 → n ≡ y.size + 4) × (octet_of kind ≡ 4 → n ≡ y.size + 5) → length c ≤ 8192
          → judged y.end n ≡ Told
      unfolding read_leaf_in read_leaf read_segments then behind told
      parts_done y e {n} f h =
          let I = its_string in
          let C = parts_came y e in
          let d = C.gathered.0 in
          let (x, i, k) = I.is l d (drop y.end c) (got_holds (all_form (kind_of bits) deepest (mode z) c) C.is) in
          let p : length c - length (drop y.end c) ≡ y.end = omega (arith, length-drop y.end c, C.inside) in
          let w : cap (leaf_size x) ≡ n = omega (arith, I.size y.size n f.0 f.1, I.few, C.sized, parts_few y e) in
          rw (I.body, I.segments, C.is, i, p, w) refl

-- Contents by themselves, by the size that the code gives.
module _ (k : Simple) (c : List ℕ) (l : ℕ) (n : ℕ) (en : n ≡ weight (decode k 0 c [])) where
  weight_none : n ≡ 0 → decode k l c [] ≡ refused Contents l
  unfolding weight
  weight_none z = go (decode k l c []) refl
    where
      go : (y : Answer ReadingCause Leaf) → decode k l c [] ≡ y → y ≡ refused Contents l
      go (got x w) e = let q = rw (decode_moves k l c [] 0 [] x w e) at en in absurd (omega (arith, leaf_three x))
      go (refused a b) e = let (i, j) = rw e at (decode_only k l c []) in rw (i, j) refl

  weight_some : (n ≡ 0 → ⊥) → (x : Leaf) × (decode k l c [] ≡ got x []) × (n ≡ leaf_size x)
  unfolding weight
  weight_some z = go (decode k 0 c []) refl
    where
      go : (y : Answer ReadingCause Leaf) → decode k 0 c [] ≡ y → (x : Leaf) × (decode k l c [] ≡ got x []) × (n ≡ leaf_size x)
      go (got x w) e = (x, decode_moves k 0 c [] l [] x w e, rw e at en)
      go (refused a b) e = absurd (z (rw e at en))

module _ {b : List ℕ} {e : Descriptor} {r : Record} (X : Describes b e r) (s : e.simple ≡ true) (z : Bool) (l j : ℕ) (c : List ℕ) where
  its_simple : (k : Simple) × (body_at b (octet_of e.kind) e.own ≡ Plain k)
  its_simple = let (k, p) = plain_of r.body (not-true (constructed r.body) (sym X.entered.simple ∙ s)) in (k, X.entered.body ∙ p)

  pub whole_open : z ≡ true → unread Forbidden l ≡ told c leaf_size (read_leaf_in (body_at b (octet_of e.kind) e.own) false z l j c)
  unfolding read_leaf_in read_leaf told
  whole_open f = rw (its_simple.1, f) refl

  module _ (f : z ≡ false) {n : ℕ} (a : n ≡ leaf_weight (body_at b (octet_of e.kind) e.own) c) where
    pub whole_wrong : n ≡ 0 → unread Contents l ≡ told c leaf_size (read_leaf_in (body_at b (octet_of e.kind) e.own) false z l j c)
    unfolding read_leaf_in read_leaf leaf_weight told
    whole_wrong h = go its_simple.0 its_simple.1
      where
        go : (k : Simple) → body_at b (octet_of e.kind) e.own ≡ Plain k → unread Contents l ≡ told c leaf_size (read_leaf_in (body_at b (octet_of e.kind) e.own) false z l j c)
        go k p = let g = rw p at a in rw (p, f, weight_none k c l n g h) refl

    pub whole_done : (n ≡ 0 → ⊥) → n < 16386 → judged (length c) n ≡ told c leaf_size (read_leaf_in (body_at b (octet_of e.kind) e.own) false z l j c)
    unfolding read_leaf_in read_leaf leaf_weight told
    whole_done h i = go its_simple.0 its_simple.1
      where
        go : (k : Simple) → body_at b (octet_of e.kind) e.own ≡ Plain k → judged (length c) n ≡ told c leaf_size (read_leaf_in (body_at b (octet_of e.kind) e.own) false z l j c)
        go k p =
            let g = rw p at a in
            let (x, d, o) = weight_some k c l n g h in
            let u : length c - 0 ≡ length c = omega arith in
            let v : cap (leaf_size x) ≡ n = omega arith in
            rw (p, f, d, u, v) refl

-- Placing. Segments carry less than they take: each has a header.
carried_less : (k : Segments) (c : List ℕ) → length (carried k c) ≤ length c
unfolding carried
carried_less bit_string c = omega (arith, length-drop 1 c)
carried_less octet_string c = omega arith

rest_less : (s : List ℕ) {z : Size} {r : List ℕ} → ((l : ℕ) → read_length l s ≡ got z r) → length r ≤ length s
rest_less s {r = r} e =
    let (p, q, o, h) = shape_some (got_holds (length_sound 0 s) (e 0)) in
    omega (arith, ap length q ∙ length-append p r)

gathers_less : {k : Segments} {n : ℕ} {a s c w : List ℕ} → Gathers k n a s c w → length (carried k c) ≤ length (carried k a) + (length s - 1)
gathers_less behind_all = omega arith
gathers_less at_the_end = omega arith
gathers_less (closes p) = omega (arith, gathers_less p)
gathers_less (enters {s = s} e p) = omega (arith, gathers_less p, rest_less s e)
gathers_less (opens {s = s} e p) = omega (arith, gathers_less p, rest_less s e)
gathers_less {k} {a = a} (adds {z = z} {s = s} {r = r} e p) =
    let l = ap length (carried_join k a (take z r)) ∙ length-append (carried k a) (carried k (take z r)) in
    let t = sym (length-append (take z r) (drop z r)) ∙ ap length (take-append-drop z r) in
    omega (arith, gathers_less p, rest_less s e, carried_less k (take z r))

-- the octets behind a number, stored before it
joined_placed : (b b₁ b₂ b₃ X : List ℕ) (to k n : ℕ) → b₁ ≡ sets b to (86 ∷ 65 ∷ k ∷ []) → b₂ ≡ sets b₁ (to + 5) X → b₃ ≡ sets b₂ (to + 3) (octets_of n)
    → b₃ ≡ sets b to (86 ∷ 65 ∷ k ∷ (octets_of n ++ X))
joined_placed b b₁ b₂ b₃ X to k n e₁ e₂ e₃ =
    let q : to + 3 + 2 ≡ to + 5 = omega arith in
    let y : sets (sets b₁ (to + 3) (octets_of n)) (to + 5) X ≡ sets b₁ (to + 3) (octets_of n ++ X) = sym (rw q at (sets_append (octets_of n) b₁ (to + 3) X)) in
    let z : b₃ ≡ sets b₁ (to + 3) (octets_of n ++ X) = e₃ ∙ rw e₂ (sets_later (octets_of n) X b₁ (to + 3) (to + 5) (omega arith)) ∙ y in
    (leaf_placed {k = k} {X = octets_of n ++ X} refl b to e₁ (refl, z)).1

-- octets that were stored, and then masked where they stand
masked_there : (b₁ b₂ d p : List ℕ) (s n u : ℕ) → b₂ ≡ sets b₁ s d → n ≡ length d → s + n ≤ length b₁ → p ≡ masked u (take n (drop s b₂))
    → take s b₂ ++ (p ++ drop n (drop s b₂)) ≡ sets b₁ s (masked u d)
masked_there b₁ b₂ d p s n u e en h ep =
    let R = drop (s + length d) b₁ in
    let f : b₂ ≡ take s b₁ ++ (d ++ R) = e ∙ sets-eq d b₁ s (omega arith) ∙ append_assoc (take s b₁) d R in
    let t : length (take s b₁) ≡ s = length-take-le s b₁ (omega arith) in
    let g : drop s b₂ ≡ d ++ R = ap (drop s) f ∙ drop_at (take s b₁) (d ++ R) s t in
    let i : take s b₂ ≡ take s b₁ = ap (take s) f ∙ take_at (take s b₁) (d ++ R) s t in
    let j : take n (drop s b₂) ≡ d = ap (take n) g ∙ take_at d R n (sym en) in
    let k : drop n (drop s b₂) ≡ R = ap (drop n) g ∙ drop_at d R n (sym en) in
    let m = length_masked u d in
    let v : sets b₁ s (masked u d) ≡ take s b₁ ++ (masked u d ++ drop (s + length (masked u d)) b₁)
    = sets-eq (masked u d) b₁ s (omega arith) ∙ append_assoc (take s b₁) (masked u d) (drop (s + length (masked u d)) b₁) in
    rw (i, k, ep, j) (sym (rw m at v))

-- a string in segments that is to be placed in the buffer b
module _ (kind : Kind) {c : List ℕ} {to : ℕ} (b : List ℕ) (P : ToPlaceLeaf (octet_of kind) c true (length b) to) {bits : Bool} (q : bits ≡ sameb the_type kind Bits) where
  abbrev its : List ℕ
  its = carried (kind_of bits) P.contents

  gathered : Gathers (kind_of bits) 1 (empty (kind_of bits)) c P.contents P.rest
  gathered = by P.contents P.rest P.carried
    where
      by : (d u : List ℕ) → Carried (octet_of kind) c true d u → Gathers (kind_of bits) 1 (empty (kind_of bits)) c d u
      by d u (by_segments k z b e f) = rw (its_kind k e) (all_gathers k deepest (mode z) c (d, b) u f)
        where
          its_kind : (k : Segments) → universal k ≡ octet_of kind → kind_of bits ≡ k
          its_kind bit_string e = rw (q, same_kind kind Bits (sym e)) refl
          its_kind octet_string e = rw (q, same_kind kind Octets (sym e)) refl

  its_bits : bits ≡ true → kind ≡ Bits
  its_bits h = same_kind kind Bits (is_kind kind Bits q h)

  its_octets : bits ≡ false → kind ≡ Octets
  its_octets h = by P.contents P.rest P.carried
    where
      by : (d u : List ℕ) → Carried (octet_of kind) c true d u → kind ≡ Octets
      by d u (by_segments bit_string z b e f) = absurd (not_kind kind Bits q h (sym e))
      by d u (by_segments octet_string z b e f) = same_kind kind Octets (sym e)

  parts_length : length (leaf_octets (leaf_of (octet_of kind) P.contents)) ≡ 5 + length its
  unfolding carried
  parts_length =
      test bits
      (λ t. rw t (omega (arith, ap length (leaf_is (its_bits t) P.lawful), length_masked (get_or P.contents 0 0) (drop 1 P.contents))))
      λ f. rw f (omega (arith, ap length (leaf_is (its_octets f) P.lawful)))

  parts_room : to + 5 + length its ≤ length b
  parts_room = omega (arith, parts_length, P.fits)

  parts_number : length its < 8192
  parts_number = omega (arith, gathers_less gathered, ap length (carried_empty (kind_of bits)), P.short)

  -- the code has joined them behind the mark and the kind
  module _ {b₁ b₂ : List ℕ} {x : Joined} (e₁ : b₁ ≡ sets b to (86 ∷ 65 ∷ octet_of kind ∷ []))
      (f : let y = joining (kind_of bits) c b₁ (to + 5) in (x ≡ told_joined (length c) y) × (b₂ ≡ y.buffer)) where
    marked : length b₁ ≡ length b
    marked = ap length e₁ ∙ length-sets b to (86 ∷ 65 ∷ octet_of kind ∷ [])

    joined : IsJoined (kind_of bits) c b₁ (to + 5) P.contents P.rest b₂ x
    joined = join_is f P.contents P.rest gathered (omega (arith, parts_room, marked))

    kept : length b₂ ≡ length b
    kept = ap length joined.put ∙ length-sets b₁ (to + 5) its ∙ marked

    pub parts_fit : (to + 5 ≤ x.next) × (x.next ≤ length b) × (x.next - (to + 5) < 8192) × (length b₂ ≡ length b)
    parts_fit = let n = joined.next in (omega arith, omega (arith, parts_room), omega (arith, parts_number), kept)

    pub octets_placed : bits ≡ false → {b₃ : List ℕ} → b₃ ≡ sets b₂ (to + 3) (octets_of (x.next - (to + 5)))
        → LeafPlaced (octet_of kind) P.contents P.rest c b to b₃ (record { end = x.end; next = x.next })
    unfolding carried
    octets_placed h {b₃} e₃ =
        let p : b₂ ≡ sets b₁ (to + 5) P.contents = rw h at joined.put in
        let n : x.next ≡ to + 5 + length P.contents = rw h at joined.next in
        let m : x.next - (to + 5) ≡ length P.contents = omega arith in
        let o = leaf_is (its_octets h) P.lawful in
        record {
          next = n ∙ omega (arith, ap length o);
          buffer = rw o (joined_placed b b₁ b₂ b₃ P.contents to (octet_of kind) (length P.contents) e₁ p (rw m at e₃));
          within = joined.within;
          left = sym joined.behind;
        }

    module _ (h : bits ≡ true) where
      bits_next : x.next ≡ to + 5 + length (drop 1 P.contents)
      unfolding carried
      bits_next = rw h at joined.next

      bits_unused : x.unused ≡ get_or P.contents 0 0
      unfolding unused_in
      bits_unused = rw h at joined.unused

      pub bits_few : (x.unused < 8) × (x.unused ≤ 8 * (x.next - (to + 5)))
      bits_few = let (o, i, j) = right (its_bits h) P.lawful in (omega (arith, bits_unused), omega (arith, bits_unused, bits_next))

      -- the unused bits are cleared
      module _ {p : List ℕ} (ep : p ≡ masked (x.unused % 8) (take (x.next - (to + 5)) (drop (to + 5) b₂))) where
        abbrev cleared : List ℕ
        cleared = take (to + 5) b₂ ++ (p ++ drop (x.next - (to + 5)) (drop (to + 5) b₂))

        bits_cleared : cleared ≡ sets b₁ (to + 5) (masked (get_or P.contents 0 0) (drop 1 P.contents))
        unfolding carried
        bits_cleared =
            let d = drop 1 P.contents in
            let u = get_or P.contents 0 0 in
            let s : b₂ ≡ sets b₁ (to + 5) d = rw h at joined.put in
            let r : to + 5 + length d ≤ length b = rw h at parts_room in
            let w : x.unused % 8 ≡ u = omega (arith, bits_few.0, bits_unused) in
            masked_there b₁ b₂ d p (to + 5) (x.next - (to + 5)) u s (omega (arith, bits_next)) (omega (arith, marked, bits_next)) (rw w at ep)

        pub bits_kept : length cleared ≡ length b
        bits_kept =
            ap length bits_cleared ∙ length-sets b₁ (to + 5) (masked (get_or P.contents 0 0) (drop 1 P.contents)) ∙ marked

        pub bits_placed : {b₃ : List ℕ} → b₃ ≡ sets cleared (to + 3) (octets_of (8 * (x.next - (to + 5)) - x.unused))
            → LeafPlaced (octet_of kind) P.contents P.rest c b to b₃ (record { end = x.end; next = x.next })
        bits_placed {b₃} e₃ =
            let d = drop 1 P.contents in
            let u = get_or P.contents 0 0 in
            let m : x.next - (to + 5) ≡ length d = omega (arith, bits_next) in
            let o = leaf_is (its_bits h) P.lawful in
            let y : b₃ ≡ sets cleared (to + 3) (octets_of (8 * length d - u)) = e₃ ∙ rw (m, bits_unused) refl in
            record {
              next = bits_next ∙ omega (arith, ap length o, length_masked u d);
              buffer = rw o (joined_placed b b₁ cleared b₃ (masked u d) to (octet_of kind) (8 * length d - u) e₁ bits_cleared y);
              within = joined.within;
              left = sym joined.behind;
            }
