-- The items around contents, by the tags that an entry leads to: their length from the innermost out, their octets from the outermost in.
-- Assumes nothing.
use mathlib.Core.Bool.{Bool, true, not, ◌||◌}
use mathlib.Core.List.{List, [], ◌∷◌, ◌++◌, append_assoc}
use mathlib.Core.Path.{◌≡◌, refl, sym, ap, ◌∙◌}
use Prim.Native.Nat.{ℕ, zero, suc, ◌+◌, ◌-◌, ◌*◌, ◌%◌, ◌≤◌, ◌<◌}
use native.Mathlib.Omega.{arith}
use borrow.Author.Tests.{leb-true, ltb-true, ltb-false}
use lib.Dec.{ltb, leb, eqb}
use lib.ListN.{length, get_or, length-append}
use lib.Seq.{sets}
use Rattle.octets.proofs.Tests.{test}
use Rattle.octets.specs.Lists.{all}
use Rattle.octets.specs.Numbers.{Octets, two}
use Rattle.octets.specs.Buffers.{put, put_end}
use Rattle.octets.proofs.Lists.{both}
use Rattle.octets.proofs.Buffers.{put_roomy, put_end_lem}
use Rattle.x690.specs.Identifier.{identifier}
use Rattle.x690.specs.Length.{length_octets}
use Rattle.ber.specs.Codes.{code, code_octets}
use Rattle.ber.proofs.Codes.{code_octets_lem, octets_one}
use Rattle.ber.proofs.Headers.{length_one, length_two, length_three, sets_append}
use Rattle.table.specs.Syntax.{Tag, constructed}
use Rattle.table.specs.Reading.{tags_at}
use Rattle.table.proofs.Promises.{shaped_classes}
use Rattle.kinds.specs.Kinds.{octet_of}
use Rattle.records.specs.Entries.{outermost_code, tag_count, tag_place}
use Rattle.records.specs.Descriptors.{entry_of}
use Rattle.records.specs.declared.descriptor.Descriptor.{Descriptor}
use Rattle.records.proofs.Promises.{entered_tags, entered_bit}
use Rattle.writer.specs.Frames.{cap, identifier_size, length_size, framed, some, heads}
use Rattle.writer.specs.Known.{tags_from, record_in, Known, Short}
use Rattle.writer.proofs.Headers.{identifier_length, identifier_small}

-- how many octets a length takes
length_small : (k : ℕ) → k < 65536 → length_size k ≤ 3
length_small k h =
    test (ltb k 128) (λ e. rw (length_one k (ltb-true k 128 e)) (omega arith)) λ e.
    let f : 128 ≤ k = ltb-false k 128 e in
    test (ltb k 256) (λ e. rw (length_two k f (ltb-true k 256 e)) (omega arith)) λ e. rw (length_three k (ltb-false k 256 e) h) (omega arith)

-- the j-th of n tags
all_tags : (f : Tag → Bool) (b : List ℕ) (q n j : ℕ) → all f (tags_at b q n) ≡ true → j < n
    → f (record { class = get_or b (q + 3 * j) 0; number = two b (q + 3 * j + 1) }) ≡ true
unfolding all tags_at
all_tags f b q zero j a h = absurd (omega arith)
all_tags f b q (suc n) zero a h = let e : q + 3 * 0 ≡ q = omega arith in rw e (both (f (record { class = get_or b q 0; number = two b (q + 1) })) (all f (tags_at
    b (q + 3) n)) a).0
all_tags f b q (suc n) (suc j) a h =
    let e : q + 3 + 3 * j ≡ q + 3 * suc j = omega arith in
    rw (← e) (all_tags f b (q + 3) n j (both (f (record { class = get_or b q 0; number = two b (q + 1) })) (all f (tags_at b (q + 3) n)) a).1 (omega arith))

some_tags : (b : List ℕ) (q i n : ℕ) → some (tags_at b q (n - (i + 1))) ≡ ltb (i + 1) n
unfolding some tags_at
some_tags b q i n =
    test (ltb (i + 1) n) (λ e. let h : i + 1 < n = ltb-true _ _ e in let m : n - (i + 1) ≡ suc (n - (i + 1) - 1) = omega arith in rw (e, m) refl) λ e.
    let h : n ≤ i + 1 = ltb-false _ _ e in let m : n - (i + 1) ≡ 0 = omega arith in rw (e, m) refl

framed_last : (b : List ℕ) (q m k : ℕ) → framed (tags_at b q (suc m)) k ≡ framed (tags_at b q m) (cap (identifier_size (two b (q + 3 * m + 1)) + length_size k + k))
unfolding framed tags_at
framed_last b q zero k = let e : q + 3 * 0 + 1 ≡ q + 1 = omega arith in rw e refl
framed_last b q (suc m) k =
    let e : q + 3 + 3 * m + 1 ≡ q + 3 * suc m + 1 = omega arith in
    ap (λ (y : ℕ). cap (identifier_size (two b (q + 1)) + length_size y + y)) (rw (← e) (framed_last b (q + 3) m k))

pub framed_end : (b : List ℕ) (w q i j k : ℕ) → i ≤ j → w ≡ framed (tags_at b q (i - j)) k → k ≡ w
unfolding framed tags_at
framed_end b w q i j k h e = let m : i - j ≡ 0 = omega arith in sym (rw m at e)

module _ (b : List ℕ) (o : Octets b) (e : Descriptor) (K : Known b e) where
  count_is : tag_count (entry_of e) ≡ length (record_in b e).tags
  count_is = entered_tags K.entered

  far : 3 * tag_count (entry_of e) ≤ e.own
  far = let h = K.entered.behind in let c = count_is in omega arith

  place : (j : ℕ) → j ≤ tag_count (entry_of e) → tag_place (entry_of e) j ≡ e.own - 3 * tag_count (entry_of e) + 3 * j
  place j h = let f = far in omega arith

  -- the octets of the j-th tag
  module _ (j : ℕ) (h : j < tag_count (entry_of e)) where
    class_small : get_or b (tag_place (entry_of e) j) 0 < 4
    class_small =
        let c = leb-true (get_or b (e.own - 3 * tag_count (entry_of e) + 3 * j) 0) 3 (all_tags (λ g. leb g.class 3) b (e.own - 3 * tag_count (entry_of e)) (tag_count (entry_of e)) j
        (shaped_classes (record_in b e) K.shaped) h) in
        rw (place j (omega arith)) (omega arith)

    number_small : two b (tag_place (entry_of e) j + 1) < 65536
    number_small = omega (arith, o (tag_place (entry_of e) j + 1), o (tag_place (entry_of e) j + 1 + 1))

    tag_octets_lem : (c : Bool) → code_octets (code (get_or b (tag_place (entry_of e) j) 0) c (two b (tag_place (entry_of e) j + 1))) ≡ identifier (get_or b (tag_place (entry_of e) j) 0) c (two b
        (tag_place (entry_of e) j + 1))
    tag_octets_lem c = code_octets_lem _ c _ class_small number_small

    -- an item's identifier and length octets, where c is the code of that tag
    module _ (c k s : ℕ) (ec : c ≡ code (get_or b (tag_place (entry_of e) j) 0) (ltb j e.explicit || not e.simple) (two b (tag_place (entry_of e) j + 1))) (es : s ≡ length
        (code_octets c ++ length_octets k)) where
      header_size : s ≡ identifier_size (two b (tag_place (entry_of e) j + 1)) + length_size k
      header_size = es ∙ length-append (code_octets c) (length_octets k)
          ∙ rw (
            ec,
            tag_octets_lem (ltb j e.explicit || not e.simple),
            identifier_length (get_or b (tag_place (entry_of e) j) 0) (ltb j e.explicit || not e.simple)
                (two b (tag_place (entry_of e) j + 1)),
          ) refl

      pub header_small : k < 65536 → s < 8
      header_small g = let l = header_size in omega (arith, length_small k g, identifier_small (two b (tag_place (entry_of e) j + 1)))

  -- the loop that measures
  pub framed_turn : (w i j k c s : ℕ) → j < i → i ≤ tag_count (entry_of e) → w ≡ framed (tags_at b (tag_place (entry_of e) j) (i - j)) k
      → c ≡ code (get_or b (tag_place (entry_of e) (i - 1)) 0) (ltb (i - 1) e.explicit || not e.simple) (two b (tag_place (entry_of e) (i - 1) + 1))
      → s ≡ length (code_octets c ++ length_octets k)
      → w ≡ framed (tags_at b (tag_place (entry_of e) j) (i - 1 - j)) (cap (s + k))
  framed_turn w i j k c s h g q ec es =
      let l : i - 1 < tag_count (entry_of e) = omega arith in
      let m : i - j ≡ suc (i - 1 - j) = omega arith in
      let d : j + (i - 1 - j) ≡ i - 1 = omega arith in
      let p : tag_place (entry_of e) j + 3 * (i - 1 - j) + 1 ≡ tag_place (entry_of e) (i - 1) + 1 = rw (place j (omega arith), place (i - 1) (omega arith), ← d) (omega arith) in
      q ∙ rw (m, framed_last, p, ← header_size (i - 1) l c k s ec es) refl

  -- one tag of one octet, and a length of one octet
  module _ (n : ℕ) (S : Short e n) where
    code_is : (m : ℕ) → tag_count (entry_of e) ≡ m → e.code ≡ outermost_code (tags_at b (e.own - 3 * m) m) (record_in b e).body
    code_is m q = K.entered.code ∙ ap (λ (i : ℕ). outermost_code (tags_at b (e.own - 3 * i) i) (record_in b e).body) q

    one_tag : tag_count (entry_of e) ≡ 1
    unfolding tag_count outermost_code tags_at
    one_tag =
        let z = S.one in
        test (eqb (octet_of e.kind) 50)
        (λ t. let q : tag_count (entry_of e) ≡ 0 = rw (t, z) refl in absurd (omega (arith, code_is 0 q, S.low)))
        (λ t. rw (t, z) refl)

    abbrev class : ℕ
    class = get_or b (e.own - 3 * 1) 0

    abbrev number : ℕ
    number = two b (e.own - 3 * 1 + 1)

    first_octets : identifier class (constructed (record_in b e).body) number ≡ e.code ∷ []
    unfolding outermost_code tags_at
    first_octets =
        let q = code_is 1 one_tag in
        let t : 1 - 0 ≡ 1 = omega arith in
        let f = rw (one_tag, t) at (tag_octets_lem 0 (rw one_tag (omega arith)) (constructed (record_in b e).body)) in
        let l = S.low in
        let m : e.code % 256 ≡ e.code = omega arith in
        sym f ∙ ap code_octets (sym q) ∙ octets_one e.code l ∙ rw m refl

    tags_are : (record_in b e).tags ≡ record { class = class; number = number } ∷ []
    unfolding tags_at
    tags_are = rw one_tag refl

    pub short_size : n + 2 ≡ framed (record_in b e).tags n
    unfolding framed
    short_size =
        let i : identifier_size number ≡ 1 = sym (identifier_length class (constructed (record_in b e).body) number) ∙ ap length first_octets in
        let l : length_size n ≡ 1 = ap length (length_one n S.little) in
        let h = S.little in
        rw (tags_are, i, l) (omega arith)

    pub short_heads : heads (constructed (record_in b e).body) (record_in b e).tags n ≡ e.code ∷ n ∷ []
    unfolding heads some framed
    short_heads = rw (tags_are, first_octets, length_one n S.little) refl

-- the loop that puts them, from the outermost in
heads_first : (b : List ℕ) (c : Bool) (k q m : ℕ) → heads c (tags_at b q (suc m)) k
    ≡ identifier (get_or b q 0) (some (tags_at b (q + 3) m) || c) (two b (q + 1)) ++ (length_octets (framed (tags_at b (q + 3) m) k) ++ heads c (tags_at b (q + 3)
    m) k)
unfolding heads tags_at
heads_first b c k q m = refl

pub record Heads (b : List ℕ) (e : Descriptor) (k : ℕ) (first : List ℕ) (to : ℕ) (buf : List ℕ) (i at : ℕ) : Type 0 where
  pub long : to + length (heads (constructed (record_in b e).body) (record_in b e).tags k) ≡ at + length (heads (constructed (record_in b e).body) (tags_from b
      e i) k)
  pub target : sets first to (heads (constructed (record_in b e).body) (record_in b e).tags k) ≡ sets buf at (heads (constructed (record_in b e).body)
      (tags_from b e i) k)

module _ (b : List ℕ) (o : Octets b) (e : Descriptor) (K : Known b e) (k : ℕ) (first : List ℕ) (to : ℕ) (buf : List ℕ) (i at : ℕ) (S : Heads b e k first to buf i at)
    (room : to + length (heads (constructed (record_in b e).body) (record_in b e).tags k) ≤ length buf) where
  abbrev Body : Bool
  Body = constructed (record_in b e).body

  pub heads_end : tag_count (entry_of e) ≤ i → (at ≡ to + length (heads Body (record_in b e).tags k)) × (buf ≡ sets first to (heads Body (record_in b e).tags k))
  unfolding heads tags_at
  heads_end h =
      let m : tag_count (entry_of e) - i ≡ 0 = omega arith in
      let l = rw m at S.long in
      (omega arith, sym (rw m at S.target))

  module _ (h : i < tag_count (entry_of e)) (c inside : ℕ) (ec : c ≡ code (get_or b (tag_place (entry_of e) i) 0) (ltb i e.explicit || not e.simple) (two b (tag_place (entry_of e) i + 1)))
      (ei : inside ≡ framed (tags_from b e (i + 1)) k) where
    abbrev Item : List ℕ
    Item = code_octets c ++ length_octets inside

    header : Item ≡ identifier (get_or b (tag_place (entry_of e) i) 0) (ltb (i + 1) (tag_count (entry_of e)) || Body) (two b (tag_place (entry_of e) i + 1)) ++ length_octets (framed (tags_from b e
        (i + 1)) k)
    header =
        let q = entered_tags K.entered in
        let d : (ltb i e.explicit || not e.simple) ≡ (ltb (i + 1) (tag_count (entry_of e)) || Body) = entered_bit K.entered i (rw (← q) h)
        ∙ ap (λ (n : ℕ). ltb (i + 1) n || Body) (sym q) in
        rw (ec, tag_octets_lem b o e K i h (ltb i e.explicit || not e.simple), d, ei) refl

    heads_step : heads Body (tags_from b e i) k ≡ Item ++ heads Body (tags_from b e (i + 1)) k
    heads_step =
        let m : tag_count (entry_of e) - i ≡ suc (tag_count (entry_of e) - (i + 1)) = omega arith in
        let q : tag_place (entry_of e) i + 3 ≡ tag_place (entry_of e) (i + 1) = rw (place b o e K i (omega arith), place b o e K (i + 1) (omega arith)) (omega arith) in
        ap (λ (n : ℕ). heads Body (tags_at b (tag_place (entry_of e) i) n) k) m
        ∙ heads_first b Body k (tag_place (entry_of e) i) (tag_count (entry_of e) - (i + 1))
        ∙ rw (header, q, some_tags b (tag_place (entry_of e) (i + 1)) i (tag_count (entry_of e)), append_assoc) refl

    lengths : length (heads Body (tags_from b e i) k) ≡ length Item + length (heads Body (tags_from b e (i + 1)) k)
    lengths = ap length heads_step ∙ length-append Item (heads Body (tags_from b e (i + 1)) k)

    fits : at + length Item ≤ length buf
    fits = let l = lengths in let s = S.long in omega arith

    pub heads_turn : (next : ℕ) (last : List ℕ) → next ≡ put_end buf at Item → last ≡ put buf at Item → Heads b e k first to last (i + 1) next
    heads_turn next last en el =
        let l = lengths in
        let s = S.long in
        let a : next ≡ at + length Item = en ∙ put_end_lem buf at Item fits in
        let t : last ≡ sets buf at Item = el ∙ put_roomy buf at Item fits in
        record { long = omega arith; target = S.target ∙ rw (heads_step, sets_append, a, t) refl }
