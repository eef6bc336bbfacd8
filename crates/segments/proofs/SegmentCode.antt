-- Laws of the code that reads segments and joins them: each answer, turn by turn.
-- Assumes nothing.
use borrow.Author.Tests.{eq-eqb, ne_eqb}
use mathlib.Core.Bool.{Bool, true, false, not, ◌||◌}
use mathlib.Core.List.{List, []}
use mathlib.Core.Path.{◌≡◌, refl, sym, ap, ◌∙◌}
use native.Mathlib.Nat.{add-zero}
use native.Mathlib.Omega.{arith}
use Prim.Native.Nat.{ℕ, suc, ◌+◌, ◌-◌, ◌*◌, ◌≤◌, ◌<◌}
use lib.Dec.{eqb, leb}
use lib.ListN.{length, get_or, take, drop, length-append, length-drop, drop_of_length-le}
use lib.Seq.{drop-drop, drop-append_seam, length-take-le}
use Rattle.std.specs.Prelude.{Option, Some, None, Result, Ok, Err}
use Rattle.std.specs.Result.{MatchResult, IsErrAnd}
use Rattle.x690.specs.declared.ReadingCause.{ReadingCause}
use Rattle.x690.specs.declared.ReadingCause.TheVariants.{NotAwaited, Contents, MessageLevel, Forbidden}
use Rattle.octets.specs.Answer.{Answer, got, refused, then, if, behind}
use Rattle.octets.specs.Buffers.{put, put_end}
use Rattle.octets.specs.Lists.{same}
use Rattle.octets.specs.Numbers.{Octets}
use Rattle.octets.proofs.Answer.{got_holds, got_value, refused≢got, run}
use Rattle.octets.proofs.Lists.{same_refl, same_true}
use Rattle.octets.proofs.Tests.{test, or_by}
use Rattle.x690.specs.Identifier.{bit, leading, identifier}
use Rattle.x690.specs.Reading.{read_identifier, definite, indefinite, read_length, closed, open_ended, passes, read_header, inside}
use Rattle.x690.specs.Reading.{read_constructed, contents, read_primitive}
use Rattle.x690.specs.Segments.{Kind, bit_string, octet_string, universal, segment_tag, empty, join, in_form, whole, Gathered, read_joined, read_all}
use Rattle.x690.specs.Segments.{read_segment}
use Rattle.x690.proofs.Identifiers.{identifier_sound}
use Rattle.x690.proofs.Segments.{all_closed}
use Rattle.ber.specs.Codes.{code, code_of}
use Rattle.ber.specs.Told.{told_identifier, told_length, mode, end_of}
use Rattle.segments.specs.Segments.{unused_in, carried, told_segments, told_primitive, read_tag}
use Rattle.ber.specs.declared.identifier.Identifier.{Identifier}
use Rattle.ber.specs.declared.length.Extent.{Extent}
use Rattle.x690.specs.declared.Unread.{Unread}
use Rattle.segments.specs.declared.Gathered.{Gathered as Extents}
use Rattle.ber.proofs.Places.{left_at, part_to_end}
use Rattle.ber.proofs.Codes.{code_awaited}
use Rattle.ber.proofs.Ends.{end_more, end_over, end_broken}
use Rattle.ber.proofs.Told.{Says, says, the_refusal, Faulty, then_faulty, identifier_faulty, identifier_read, identifier_refused}
use Rattle.ber.proofs.Told.{length_definite, length_indefinite, length_refused}
use Rattle.segments.proofs.Joining.{length_join, Within, takes, stops, segment_within, all_within}

-- what was given to `map_err`, by what it answers
pub mapped_ok : {T E D : Type 0} (P : E → D → Type 0) (r : Result T E) {q : Result T D} {x : T} → q ≡ Ok x
    → MatchResult r (λ x. q ≡ Ok x) (λ e. IsErrAnd q (λ d. P e d)) → r ≡ Ok x
mapped_ok P (Ok y) {q = q} {x = x} e h = let f : y ≡ x = cc in ap Ok f
mapped_ok P (Err y) e h = absurd (rw e at h)

pub mapped_err : {T E D : Type 0} (P : E → D → Type 0) (r : Result T E) {q : Result T D} {d : D} → q ≡ Err d
    → MatchResult r (λ x. q ≡ Ok x) (λ e. IsErrAnd q (λ d. P e d)) → (e : E) × (r ≡ Err e) × P e d
mapped_err P (Ok y) e h = let o : ◌≡◌ {A = ℕ} 0 1 = cc in absurd (omega arith)
mapped_err P (Err y) e h = (y, refl, rw e at h)

-- the identifier of a segment, by its code
tag_code : (k : Kind) (b : Bool) → code 0 b (universal k) ≡ universal k + 32 * bit b
unfolding code leading if
tag_code bit_string true = refl
tag_code bit_string false = refl
tag_code octet_string true = refl
tag_code octet_string false = refl

tag_high : (k : Kind) (b : Bool) → leb 32 (code_of (segment_tag k b)) ≡ b
unfolding code_of segment_tag identifier leading if
tag_high bit_string true = refl
tag_high bit_string false = refl
tag_high octet_string true = refl
tag_high octet_string false = refl

tag_low : (k : Kind) → universal k < 65536
tag_low bit_string = omega arith
tag_low octet_string = omega arith

abbrev is_tag_of : Kind → List ℕ → Bool
is_tag_of k i = same (segment_tag k false) i || same (segment_tag k true) i

module _ (k : Kind) (m : List ℕ) (r : Result Identifier ReadingCause) (a : r ≡ told_identifier (length m) (read_identifier m)) where
  pub tag_none : (f : ReadingCause) → r ≡ Err f → Err f ≡ told_identifier (length m) (read_tag k m)
  unfolding read_tag then told_identifier
  tag_none f d = rw (identifier_refused m r a f d) refl

  module _ (o : Octets m) (z : Identifier) (d : r ≡ Ok z) (t : ℕ) (h : t ≡ universal k) where
    tag_told : told_identifier (length m) (read_tag k m) ≡ if (not (eqb z.code t || eqb z.code (t + 32))) (Err NotAwaited) λ _. Ok z
    unfolding read_tag told_identifier segment_tag then if
    tag_told =
        let (i, x, y, low, high) = identifier_read m r a z d in
        let p = code_awaited m i _ o x 0 false (universal k) (omega arith) (tag_low k) in
        let q = code_awaited m i _ o x 0 true (universal k) (omega arith) (tag_low k) in
        let u : universal k + 32 * bit false ≡ t = omega arith in
        let v : universal k + 32 * bit true ≡ t + 32 = omega arith in
        rw (x, p, q, tag_code k false, tag_code k true, u, v, y)
        (test (eqb z.code t || eqb z.code (t + 32)) (λ g. rw g (rw (left_at m z.end high, y) refl)) λ g. rw g refl)

    pub tag_primitive : z.code ≡ t → Ok z ≡ told_identifier (length m) (read_tag k m)
    unfolding if
    tag_primitive e = sym (tag_told ∙ rw (eq-eqb z.code t e) refl)

    pub tag_constructed : z.code ≡ t + 32 → Ok z ≡ told_identifier (length m) (read_tag k m)
    unfolding if
    tag_constructed e = sym (tag_told ∙ test (eqb z.code t) (λ g. rw g refl) λ g. rw (g, eq-eqb z.code (t + 32) e) refl)

    pub tag_other : (z.code ≡ t → ⊥) → (z.code ≡ t + 32 → ⊥) → Err NotAwaited ≡ told_identifier (length m) (read_tag k m)
    unfolding if
    tag_other e f = sym (tag_told ∙ rw (ne_eqb z.code t e, ne_eqb z.code (t + 32) f) refl)

-- for the code that reads an identifier
pub ruleset tags = (tag_none, tag_primitive, tag_constructed, tag_other)

-- what its answer says
tag_faulty : (k : Kind) (s : List ℕ) → Faulty (length s) (read_tag k s)
unfolding read_tag if
tag_faulty k s = then_faulty (length s) (read_identifier s) _ (identifier_faulty s) λ i s₁. by (not (is_tag_of k i)) i s₁
  where
    by : (t : Bool) (i s₁ : List ℕ) → Faulty (length s) (if t (refused NotAwaited (length s)) λ _. got i s₁)
    by true i s₁ = refl
    by false i s₁ = tt

abbrev IsTag : Kind → List ℕ → Type 0
IsTag k i = (b : Bool) × (i ≡ segment_tag k b)

tag_got : (k : Kind) (x : Answer ReadingCause (List ℕ)) (l : ℕ) (j w : List ℕ)
    → then x (λ i s₁. if (not (is_tag_of k i)) (refused NotAwaited l) λ _. got i s₁) ≡ got j w → (x ≡ got j w) × IsTag k j
unfolding then if
tag_got k (refused c n) l j w e = refused≢got e
tag_got k (got i s₁) l j w e =
    test (is_tag_of k i)
    (λ t. let f : got i s₁ ≡ got j w = rw t at e in
    let q = got_value f in (
      f,
      or_by (same (segment_tag k false) i) (same (segment_tag k true) i) t
          (λ u. (false, sym (same_true (segment_tag k false) i u ∙ q)))
          λ u. (true, sym (same_true (segment_tag k true) i u ∙ q)),
    ))
    λ t. refused≢got (rw t at e)

module _ (k : Kind) (s : List ℕ) (r : Result Identifier ReadingCause) (a : r ≡ told_identifier (length s) (read_tag k s)) where
  tag_refused : (f : ReadingCause) → r ≡ Err f → read_tag k s ≡ refused f (length s)
  tag_refused f d =
      let (l, x) : Says (length s) (read_tag k s) (Err f) = rw (← a, d) at (says (length s) (read_tag k s)) in
      the_refusal (read_tag k s) (tag_faulty k s) x

  pub tag_read : (q : Identifier) → r ≡ Ok q
      → (read_identifier s ≡ got (segment_tag k (leb 32 q.code)) (drop q.end s)) × (read_tag k s ≡ got (segment_tag k (leb 32 q.code)) (drop q.end s))
  unfolding read_tag
  tag_read q d =
      let (i, w, x, y, z) : Says (length s) (read_tag k s) (Ok q) = rw (← a, d) at (says (length s) (read_tag k s)) in
      let t = tag_got k (read_identifier s) (length s) i w x in
      go i w x y z t.0 t.1.0 t.1.1
    where
      go : (i w : List ℕ) → read_tag k s ≡ got i w → code_of i ≡ q.code → length s - length w ≡ q.end → read_identifier s ≡ got i w → (b : Bool) → i ≡ segment_tag k b
          → (read_identifier s ≡ got (segment_tag k (leb 32 q.code)) (drop q.end s)) × (read_tag k s ≡ got (segment_tag k (leb 32 q.code)) (drop q.end s))
      go i w x y z f b j =
          let p : leb 32 q.code ≡ b = sym (ap (leb 32) (sym (ap code_of j) ∙ y)) ∙ tag_high k b in
          let u = got_holds (identifier_sound s) f in
          let l = ap length u ∙ length-append i w in
          let n : length i ≡ q.end = omega arith in
          let v : drop q.end s ≡ w = rw n at (ap (drop (length i)) u ∙ drop-append_seam i w) in
          let t : segment_tag k (leb 32 q.code) ≡ i = rw p (sym j) in
          (rw (t, v) f, rw (t, v) x)

-- what an answer says of segments
module _ (k : Kind) (n : ℕ) where
  segments_refused : (x : Answer ReadingCause Gathered) (y : Unread) → Err y ≡ told_segments k n x → x ≡ refused y.cause y.left
  unfolding told_segments
  segments_refused (got g u) y e = let z : ◌≡◌ {A = ℕ} 0 1 = cc in absurd (omega arith)
  segments_refused (refused c l) y e = let h : y ≡ record { cause = c; left = l } = cc in rw h refl

  segments_read : (x : Answer ReadingCause Gathered) (y : Extents) → Ok y ≡ told_segments k n x
      → (g : Gathered) × (u : List ℕ) × (x ≡ got g u) × (y.end ≡ n - length u) × (y.size ≡ length g.0) × (y.unused ≡ unused_in k g.0) × (y.back ≡ g.1)
  unfolding told_segments
  segments_read (got g u) y e =
      let h : y ≡ record { end = n - length u; size = length g.0; unused = unused_in k g.0; back = g.1 } = cc in
      (g, u, refl, ap (λ (x : Extents). x.end) h, ap (λ (x : Extents). x.size) h, ap (λ (x : Extents). x.unused) h, ap (λ (x : Extents). x.back) h)
  segments_read (refused c l) y e = let z : ◌≡◌ {A = ℕ} 0 1 = cc in absurd (omega arith)

-- segments that were read from s, by the code's answer
pub record Came (k : Kind) (o e : ℕ) (s : List ℕ) (x : Answer ReadingCause Gathered) (y : Extents) : Type 0 where
  pub gathered : Gathered
  pub is : x ≡ got gathered (drop y.end s)
  pub sized : y.size ≡ length gathered.0
  pub left : y.unused ≡ unused_in k gathered.0
  pub back : y.back ≡ gathered.1
  pub some : o ≤ y.end
  pub inside : y.end ≤ length s
  pub low : length (empty k) ≤ y.size
  pub high : y.size ≤ e + y.end
  pub near : y.back ≤ y.end

came : (k : Kind) (o e : ℕ) (s : List ℕ) (x : Answer ReadingCause Gathered) → Within k o e 0 s x → (y : Extents) → Ok y ≡ told_segments k (length s) x → Came k o e s x y
came k o e s x h y q =
    let (g, u, d, i, j, l, b) = segments_read k (length s) x y q in
    go g u d i j l b (rw d at h)
  where
    go : (g : Gathered) (u : List ℕ) → x ≡ got g u → y.end ≡ length s - length u → y.size ≡ length g.0 → y.unused ≡ unused_in k g.0 → y.back ≡ g.1
        → Within k o e 0 s (got g u) → Came k o e s x y
    go g u d i j l b (takes p c f low high near) =
        let n = ap length c ∙ length-append p u in
        let v : length p ≡ y.end = omega arith in
        let w : drop y.end s ≡ u = rw v at (ap (drop (length p)) c ∙ drop-append_seam p u) in
        record {
          gathered = g;
          is = d ∙ rw w refl;
          sized = j;
          left = l;
          back = b;
          some = omega arith;
          inside = omega arith;
          low = omega arith;
          high = omega arith;
          near = omega arith;
        }

module _ (k : Kind) (d : ℕ) (s : List ℕ) (r : Result Extents Unread) where
  pub segment_came : r ≡ told_segments k (length s) (read_segment k d s) → (y : Extents) → r ≡ Ok y → Came k 1 0 s (read_segment k d s) y
  segment_came a y e = came k 1 0 s (read_segment k d s) (segment_within k d s) y (sym e ∙ a)

  module _ (i : Bool) (a : r ≡ told_segments k (length s) (read_all k (read_segment k d) (mode i) s)) where
    pub all_came : (y : Extents) → r ≡ Ok y → Came k 0 (length (empty k)) s (read_all k (read_segment k d) (mode i) s) y
    all_came y e = came k 0 (length (empty k)) s _ (all_within k d (mode i) s) y (sym e ∙ a)

    pub all_refused : (y : Unread) → r ≡ Err y → (read_all k (read_segment k d) (mode i) s ≡ refused y.cause y.left) × (y.left ≤ length s)
    all_refused y e =
        let q = segments_refused k (length s) _ y (sym e ∙ a) in
        (q, go (rw q at (all_within k d (mode i) s)))
      where
        go : Within k 0 (length (empty k)) 0 s (refused y.cause y.left) → y.left ≤ length s
        go (stops h) = omega arith

-- a segment whose identifier was read
tag_same : (k : Kind) (b : Bool) → same (segment_tag k true) (segment_tag k b) ≡ b
unfolding segment_tag identifier leading if same
tag_same bit_string true = refl
tag_same bit_string false = refl
tag_same octet_string true = refl
tag_same octet_string false = refl

abbrev part : List ℕ → Extent → List ℕ
part m y = take (y.end - y.start) (drop y.start m)

pub segment_deep : (k : Kind) (m : List ℕ) (d : ℕ) → d ≡ 0 → Err (record { cause = MessageLevel; left = length m }) ≡ told_segments k (length m) (read_segment k d m)
unfolding read_segment told_segments
segment_deep k m d e = rw e refl

-- m begins with the identifier of a segment, at a depth where there may be one
pub record Begun (k : Kind) (m : List ℕ) (d : ℕ) : Type 0 where
  pub from : ℕ
  pub constructed : Bool
  pub is : read_identifier m ≡ got (segment_tag k constructed) (drop from m)
  pub deep : d ≡ 0 → ⊥

abbrev pub begun : {k : Kind} {m : List ℕ} {d : ℕ} (from : ℕ) (constructed : Bool)
    → read_identifier m ≡ got (segment_tag k constructed) (drop from m) → (d ≡ 0 → ⊥) → Begun k m d
begun from constructed e h = record { from = from; constructed = constructed; is = e; deep = h }

module _ {k : Kind} {m : List ℕ} {d : ℕ} (B : Begun k m d) where
  header_is : read_header (segment_tag k B.constructed) m ≡ read_length (length m) (drop B.from m)
  unfolding read_header
  header_is = simp (run, B.is, same_refl (segment_tag k B.constructed))

  heads_is : passes (same (segment_tag k true)) (read_identifier m) ≡ B.constructed
  unfolding passes
  heads_is = rw B.is (tag_same k B.constructed)

  one_less : d ≡ suc (d - 1)
  one_less = omega (arith, B.deep)

  is_constructed : B.constructed ≡ true
      → read_segment k d m ≡ then (read_length (length m) (drop B.from m)) (inside λ mode u. read_all k (read_segment k (d - 1)) mode u)
  unfolding read_segment read_constructed if
  is_constructed e =
      let x : passes (same (segment_tag k true)) (read_identifier m) ≡ true = heads_is ∙ e in
      let y : read_header (segment_tag k true) m ≡ read_length (length m) (drop B.from m) = rw e at header_is in
      ap (λ (i : ℕ). read_segment k i m) one_less ∙ rw (x, y) refl

  is_primitive : B.constructed ≡ false → read_segment k d m ≡
      then (then (read_length (length m) (drop B.from m)) (contents (length m))) λ c u.
      if (not (in_form k c)) (refused Contents (length m)) λ _. got (c, length m - length u) u
  unfolding read_segment read_primitive if
  is_primitive e =
      let x : passes (same (segment_tag k true)) (read_identifier m) ≡ false = heads_is ∙ e in
      let y : read_header (segment_tag k false) m ≡ read_length (length m) (drop B.from m) = rw e at header_is in
      ap (λ (i : ℕ). read_segment k i m) one_less ∙ rw (x, y) refl

  module _ {x : Result Extent ReadingCause} (a : (l : ℕ) → x ≡ told_length (length m) (read_length l (drop B.from m))) where
    pub segment_unread : {f : ReadingCause} → x ≡ Err f → Err (record { cause = f; left = length m }) ≡ told_segments k (length m) (read_segment k d m)
    unfolding told_segments then
    segment_unread {f} e =
        let l = length_refused m B.from (length m) x (a (length m)) f e in
        test B.constructed (λ q. rw (is_constructed q, l) refl) λ q. rw (is_primitive q, l) refl

    module _ {y : Extent} (g : x ≡ Ok y) where
      sized_at : y.indefinite ≡ false
          → (read_length (length m) (drop B.from m) ≡ got (definite (y.end - y.start)) (drop y.start m)) × (y.start ≤ y.end) × (y.end ≤ length m)
      sized_at e = let (p, o, i, j) = length_definite m B.from (length m) x (a (length m)) y g e in (p, i, j)

      open_at : y.indefinite ≡ true
          → (read_length (length m) (drop B.from m) ≡ got indefinite (drop y.start m)) × (y.start ≤ length m) × (y.end ≡ length m)
      open_at e = let (p, o, i, j) = length_indefinite m B.from (length m) x (a (length m)) y g e in (p, i, j)

      pub segment_part : (y.start ≤ y.end) × (y.end ≤ length m)
      segment_part =
          test y.indefinite (λ e. let (p, i, j) = open_at e in (omega arith, omega arith)) λ e. let (p, i, j) = sized_at e in (i, j)

      pub segment_open : B.constructed ≡ false → y.indefinite ≡ true → Err (record { cause = Forbidden; left = length m }) ≡ told_segments k (length m) (read_segment k d m)
      unfolding told_segments then contents
      segment_open q e = rw (is_primitive q, (open_at e).0) refl

      pub segment_whole : B.constructed ≡ false → y.indefinite ≡ false → {r : Result Extents Unread} → r ≡ told_primitive k (part m y) y.end (length m)
          → r ≡ told_segments k (length m) (read_segment k d m)
      unfolding told_segments told_primitive then contents if
      segment_whole q e v =
          let (p, i, j) = sized_at e in
          let n : drop (y.end - y.start) (drop y.start m) ≡ drop y.end m =
          let f : y.start + (y.end - y.start) ≡ y.end = omega arith in rw f at (drop-drop (y.end - y.start) y.start m) in
          v ∙ rw (is_primitive q, p, n)
          (test (in_form k (part m y)) (λ t. rw (t, left_at m y.end j) refl) λ t. rw t refl)

      abbrev inner : Answer ReadingCause Gathered
      inner = read_all k (read_segment k (d - 1)) (mode y.indefinite) (part m y)

      module _ (q : B.constructed ≡ true) {z : Result Extents Unread} (v : z ≡ told_segments k (length (part m y)) inner) where
        part_size : length (part m y) ≡ y.end - y.start
        part_size = let (i, j) = segment_part in length-take-le (y.end - y.start) (drop y.start m) (omega (arith, length-drop y.start m))

        refused_open : {c : ReadingCause} {l : ℕ} → inner ≡ refused c l → y.indefinite ≡ true
            → Err (record { cause = c; left = l + (length m - y.end) }) ≡ told_segments k (length m) (read_segment k d m)
        unfolding told_segments then inside
        refused_open {c} {l} p t =
            let (o, f, n) = open_at t in
            let w : part m y ≡ drop y.start m = rw (← n) at (part_to_end m y.start) in
            let none : l + (length m - y.end) ≡ l = omega arith in
            let r : read_all k (read_segment k (d - 1)) open_ended (drop y.start m) ≡ refused c l = rw (t, w) at p in
            rw (is_constructed q, o, r, none) refl

        refused_sized : {c : ReadingCause} {l : ℕ} → inner ≡ refused c l → y.indefinite ≡ false
            → Err (record { cause = c; left = l + (length m - y.end) }) ≡ told_segments k (length m) (read_segment k d m)
        unfolding told_segments then inside behind
        refused_sized {c} {l} p t =
            let (o, f, n) = sized_at t in
            let w : length (drop y.start m) - (y.end - y.start) ≡ length m - y.end = omega (arith, length-drop y.start m) in
            let r : read_all k (read_segment k (d - 1)) closed (part m y) ≡ refused c l = rw t at p in
            rw (is_constructed q, o, r, w) refl

        pub segment_refused : {w : Unread} → z ≡ Err w
            → (w.left + (length m - y.end) ≤ length m)
            × (Err (record { cause = w.cause; left = w.left + (length m - y.end) }) ≡ told_segments k (length m) (read_segment k d m))
        segment_refused {w} e =
            let (i, j) = segment_part in
            let s = part_size in
            let (p, u) = all_refused k (d - 1) (part m y) z y.indefinite v w e in
            (omega arith, test y.indefinite (λ t. refused_open p t) λ t. refused_sized p t)

        module _ {w : Extents} (e : z ≡ Ok w) where
          at_inner : Came k 0 (length (empty k)) (part m y) inner w
          at_inner = all_came k (d - 1) (part m y) z y.indefinite v w e

          in_m : y.start + w.end ≤ length m
          in_m = let (i, j) = segment_part in omega (arith, part_size, at_inner.inside)

          abbrev Whole : Type 0
          Whole = Ok (record { end = y.start + w.end; size = w.size; unused = w.unused; back = w.back }) ≡ told_segments k (length m) (read_segment k d m)

          read_open : (C : Came k 0 (length (empty k)) (part m y) inner w) → y.indefinite ≡ true → Whole
          unfolding told_segments then inside
          read_open C t =
              let (o, f, n) = open_at t in
              let h = in_m in
              let u : part m y ≡ drop y.start m = rw (← n) at (part_to_end m y.start) in
              let r : read_all k (read_segment k (d - 1)) open_ended (drop y.start m) ≡ got C.gathered (drop w.end (drop y.start m)) = rw (t, u) at C.is in
              rw (is_constructed q, o, r, drop-drop w.end y.start m, left_at m (y.start + w.end) h, ← C.sized, ← C.left, ← C.back) refl

          read_sized : (C : Came k 0 (length (empty k)) (part m y) inner w) → y.indefinite ≡ false → Whole
          unfolding told_segments then inside behind
          read_sized C t =
              let (o, f, n) = sized_at t in
              let h = in_m in
              let r : read_all k (read_segment k (d - 1)) closed (part m y) ≡ got C.gathered (drop w.end (part m y)) = rw t at C.is in
              let l = sym (length-drop w.end (part m y)) ∙ ap length (got_holds (all_closed k (d - 1) (part m y)) r) in
              let g : w.end ≡ y.end - y.start = omega (arith, part_size, C.inside) in
              rw (is_constructed q, o, r, ← g, drop-drop w.end y.start m, left_at m (y.start + w.end) h, ← C.sized, ← C.left, ← C.back) refl

          pub segment_read : (y.start + w.end ≤ length m) × Whole
          segment_read = let C = at_inner in (in_m, test y.indefinite (λ t. read_open C t) λ t. read_sized C t)

-- what a segment carries, in the buffer
pub carried_is : (k : Kind) (c : List ℕ) (one : ℕ) → one ≡ length (empty k) → take (length c - one) (drop one c) ≡ carried k c
unfolding carried empty
carried_is bit_string c one e = rw e (part_to_end c 1)
carried_is octet_string c one e = rw e (part_to_end c 0)

pub carried_none : (k : Kind) (c : List ℕ) (one : ℕ) → one ≡ length (empty k) → length c < one → (buf : List ℕ) (to : ℕ)
    → (to ≡ put_end buf to (carried k c)) × (buf ≡ put buf to (carried k c))
carried_none k c one e h buf to =
    let z : carried k c ≡ [] = sym (carried_is k c one e) ∙ part_to_end c one ∙ drop_of_length-le c {i = one} (omega arith) in
    rw z (test (leb (to + 0) (length buf)) (λ t. rw t (sym (add-zero to), refl)) λ t. rw t (refl, refl))

-- The segments in contents, one after another. How answers are said:
tell_refused : (k : Kind) (n : ℕ) (x : Answer ReadingCause Gathered) (c : ReadingCause) (l : ℕ) → x ≡ refused c l → Err (record { cause = c; left = l }) ≡ told_segments k n x
unfolding told_segments
tell_refused k n x c l e = rw e refl

tell_read : (k : Kind) (m : List ℕ) (x : Answer ReadingCause Gathered) (c : List ℕ) (b u size unused : ℕ) → x ≡ got (c, b) (drop u m) → u ≤ length m → size ≡ length c
    → unused ≡ unused_in k c → Ok (record { end = u; size = size; unused = unused; back = b }) ≡ told_segments k (length m) x
unfolding told_segments
tell_read k m x c b u size unused e h s f = rw (e, left_at m u h, s, f) refl

tag_then : (k : Kind) (x : Answer ReadingCause (List ℕ)) (l : ℕ) (y : Answer ReadingCause Gathered)
    → then x (λ i s₁. if (not (is_tag_of k i)) (refused NotAwaited l) λ _. y)
    ≡ then (then x λ i s₁. if (not (is_tag_of k i)) (refused NotAwaited l) λ _. got i s₁) λ i s₁. y
unfolding then if
tag_then k (refused c n) l y = refl
tag_then k (got i w) l y = test (is_tag_of k i) (λ t. rw t refl) λ t. rw t refl

pub unused_none : (k : Kind) → unused_in k (empty k) ≡ 0
unfolding unused_in empty
unused_none bit_string = refl
unused_none octet_string = refl

pub unused_join : (k : Kind) (c d : List ℕ) → unused_in k (join k c d) ≡ unused_in k d
unfolding unused_in join
unused_join bit_string c d = refl
unused_join octet_string c d = refl

unused_some : (k : Kind) (c : List ℕ) → 0 < unused_in k c → not (whole k c) ≡ true
unfolding unused_in whole
unused_some bit_string c h = rw (ne_eqb (get_or c 0 0) 0 (λ e. omega arith)) refl
unused_some octet_string c h = absurd (omega arith)

unused_whole : (k : Kind) (c : List ℕ) → unused_in k c ≤ 0 → not (whole k c) ≡ false
unfolding unused_in whole
unused_whole bit_string c h = rw (eq-eqb (get_or c 0 0) 0 (omega arith)) refl
unused_whole octet_string c h = refl

-- before the segment at a place of m
pub record Going (k : Kind) (d : ℕ) (i : Bool) (m : List ℕ) (at size unused back : ℕ) : Type 0 where
  pub hand : List ℕ
  pub fuel : ℕ
  pub enough : length (drop at m) ≤ fuel
  pub is : read_all k (read_segment k d) (mode i) m ≡ read_joined k (read_segment k d) (suc fuel) hand back (mode i) (drop at m)
  pub sized : size ≡ length hand
  pub left : unused ≡ unused_in k hand

-- after a segment that was read there
abbrev pub Turned : Kind → ℕ → Bool → List ℕ → ℕ → ℕ → ℕ → Extents → Type 0
Turned k d i m one at size y = (1 ≤ y.end) × (at + y.end ≤ length m) × (one ≤ y.size) × (y.size ≤ y.end) × (y.back ≤ y.end)
    × Going k d i m (at + y.end) (size - one + y.size) y.unused y.back

pub going_first : (k : Kind) (d : ℕ) (i : Bool) (m : List ℕ) (one : ℕ) → one ≡ length (empty k) → Going k d i m 0 one 0 0
going_first k d i m one e = record { hand = empty k; fuel = length m; enough = omega arith; is = refl; sized = e; left = sym (unused_none k) }

module _ {k : Kind} {d : ℕ} {i : Bool} {m : List ℕ} {at size unused back : ℕ} (G : Going k d i m at size unused back) {r : Result (Option ℕ) ReadingCause}
    (e : r ≡ end_of i (length m) (drop at m)) where
  abbrev it : Answer ReadingCause Gathered
  it = read_all k (read_segment k d) (mode i) m

  abbrev s : List ℕ
  s = drop at m

  pub going_broken : {c : ReadingCause} → r ≡ Err c → Err (record { cause = c; left = length m - at }) ≡ told_segments k (length m) it
  unfolding read_joined
  going_broken {c} f = tell_refused k (length m) it c (length m - at) (G.is ∙ end_broken _ _ m at i r c e f ∙ rw (length-drop at m) refl)

  pub going_over : at ≤ length m → {u : ℕ} → r ≡ Ok (Some u)
      → (at ≤ u) × (u ≤ length m) × (Ok (record { end = u; size = size; unused = unused; back = back + (u - at) }) ≡ told_segments k (length m) it)
  unfolding read_joined
  going_over h {u} f =
      let (x, low, high) = end_over _ _ m at i r u h e f in
      let l : length (drop at m) - length (drop u m) ≡ u - at = rw (length-drop at m, length-drop u m) (omega arith) in
      (low, high, tell_read k m it G.hand (back + (u - at)) u size unused (G.is ∙ x ∙ rw l refl) high G.sized G.left)

  abbrev behind_tag : Answer ReadingCause Gathered
  behind_tag =
      if (not (whole k G.hand)) (refused Contents (length s + back)) λ _.
      then (read_segment k d s) λ g s₂. read_joined k (read_segment k d) G.fuel (join k G.hand g.0) g.1 (mode i) s₂

  module _ (f : r ≡ Ok None) where
    pub going_on : at < length m
    going_on = (end_more {A = Gathered} (λ u. refused NotAwaited 0) (λ _. refused NotAwaited 0) m at i r e f).1

    at_tag : it ≡ then (read_tag k s) λ _ _. behind_tag
    unfolding read_joined read_tag
    at_tag = G.is ∙ (end_more _ _ m at i r e f).0 ∙ tag_then k (read_identifier s) (length s) (behind_tag)

    module _ {t : Result Identifier ReadingCause} (a : t ≡ told_identifier (length s) (read_tag k s)) where
      pub going_untagged : {c : ReadingCause} → t ≡ Err c → Err (record { cause = c; left = length m - at }) ≡ told_segments k (length m) it
      unfolding then
      going_untagged {c} b = tell_refused k (length m) it c (length m - at) (at_tag ∙ rw (tag_refused k s t a c b, length-drop at m) refl)

      module _ {z : Identifier} (b : t ≡ Ok z) where
        is_tagged : it ≡ behind_tag
        unfolding then
        is_tagged = at_tag ∙ rw (tag_read k s t a z b).1 refl

        pub going_unused : 0 < unused → Err (record { cause = Contents; left = length m - at + back }) ≡ told_segments k (length m) it
        unfolding if
        going_unused h =
            let n = unused_some k G.hand (rw G.left at h) in
            tell_refused k (length m) it Contents (length m - at + back) (is_tagged ∙ rw (n, length-drop at m) refl)

        module _ (h : unused ≤ 0) where
          is_whole : it ≡ then (read_segment k d s) λ g s₂. read_joined k (read_segment k d) G.fuel (join k G.hand g.0) g.1 (mode i) s₂
          unfolding if
          is_whole = is_tagged ∙ rw (unused_whole k G.hand (rw G.left at h)) refl

          turned : (g : Gathered) (u b : ℕ) → read_segment k d s ≡ got g (drop u s) → b ≡ g.1 → 0 < G.fuel
              → it ≡ read_joined k (read_segment k d) (suc (G.fuel - 1)) (join k G.hand g.0) b (mode i) (drop (at + u) m)
          unfolding then
          turned g u b x q o =
              let n : suc (G.fuel - 1) ≡ G.fuel = omega arith in
              is_whole ∙ rw (x, n, drop-drop u at m, q) refl

          module _ {x : Result Extents Unread} (v : x ≡ told_segments k (length s) (read_segment k d s)) where
            pub going_refused : {y : Unread} → x ≡ Err y → Err y ≡ told_segments k (length m) it
            unfolding then
            going_refused {y} w =
                tell_refused k (length m) it y.cause y.left (is_whole ∙ rw (segments_refused k (length s) (read_segment k d s) y (sym w ∙ v)) refl)

            pub going_turn : {one : ℕ} → one ≡ length (empty k) → {y : Extents} → x ≡ Ok y → Turned k d i m one at size y
            going_turn o {y} w =
                let C = segment_came k d s x v y w in
                let l = length-drop at m in
                let more = going_on in (
                  C.some,
                  omega (arith, C.inside),
                  omega (arith, C.low),
                  omega (arith, C.high),
                  C.near,
                  record {
                    hand = join k G.hand C.gathered.0;
                    fuel = G.fuel - 1;
                    enough = rw (length-drop (at + y.end) m) (omega (arith, G.enough, C.some, C.inside));
                    is = turned C.gathered y.end y.back C.is C.back (omega (arith, G.enough));
                    sized =
                        let q = length_join k G.hand C.gathered.0 (rw C.sized at C.low) in
                        rw (q, ← o, ← C.sized, ← G.sized) refl;
                    left = C.left ∙ sym (unused_join k G.hand C.gathered.0);
                  },
                )
