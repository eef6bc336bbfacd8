-- The loop over items, by ways out: what holds before each item, and what it gives where the contents end, where an item is refused, and where one more is read.
-- Assumes nothing.
use lib.ListN.{length, drop, length-drop}
use mathlib.Core.Bool.{true, false}
use mathlib.Core.List.{List, [], ◌∷◌, ◌++◌}
use mathlib.Core.Option.{some, none}
use mathlib.Core.Path.{◌≡◌, refl, sym, ap, ◌∙◌}
use native.Mathlib.Omega.{arith}
use Prim.Native.Nat.{ℕ, suc, ◌+◌, ◌-◌, ◌≤◌, ◌<◌}
use Rattle.x690.specs.declared.ReadingCause.{ReadingCause}
use Rattle.x690.specs.declared.ReadingCause.TheVariants.{NotAwaited, Trailing}
use Rattle.octets.specs.Answer.{Answer, got, refused, then}
use Rattle.x690.specs.Reading.{Mode}
use Rattle.table.specs.Syntax.{Table}
use Rattle.coding.specs.Value.{Value, octets}
use Rattle.coding.specs.Reading.{begun, not_awaited}
use Rattle.reader.specs.Answers.{cap}
use Rattle.reader.specs.Items.{Holder, Manner, in_turn, each_once, repeated, single, manner, parts_of, Placed, remains, lacks, since, following}
use Rattle.reader.specs.Items.{noted, is_single, next, Hand, read_items, assemble, node_size, sizes_of, blank, read_held}
use Rattle.reader.proofs.Items.{Over, Broken, More, unawaited_on, found_of, awaits_found, items_over, items_lacking, items_broken, items_full}
use Rattle.reader.proofs.Items.{items_unawaited, items_refused, items_turn, single_unawaited, single_refused, single_done}
use Rattle.reader.proofs.ItemsSizes.{SoFar, sofar_none, sofar_over, sofar_one, sofar_turn, sizes_snoc, assemble_size, is_plain}

pub since_first : (w : Manner) → since w 0 ≡ 0
unfolding since
since_first in_turn = refl
since_first each_once = refl
since_first repeated = refl
since_first single = refl

-- before the item at a place of m: W is all the items give, in terms of those in hand and what is left
pub record Going (W : Answer ReadingCause Value) (T : Table) (r : ℕ → List ℕ → Answer ReadingCause Value) (h : Holder) (mode : Mode) (m : List ℕ) (at j : ℕ)
    (came : List ℕ) (total : ℕ) : Type 0 where
  pub hand : Hand
  pub fuel : ℕ
  pub enough : length (drop at m) ≤ fuel
  pub whole : W ≡ then (read_items T r h (suc fuel) j came hand mode (drop at m)) λ hand u. got (assemble h hand) u
  pub sized : total ≡ cap (node_size h + sizes_of hand)
  pub sofar : SoFar h j came hand

pub going_first : (T : Table) (r : ℕ → List ℕ → Answer ReadingCause Value) (h : Holder) (mode : Mode) (m : List ℕ) (total : ℕ) → is_plain h ≡ false → length (parts_of h) ≤ 16
    → total ≡ cap (node_size h)
    → Going (read_held T r h mode m) T r h mode m 0 0 blank total
unfolding read_held sizes_of
going_first T r h mode m total p few e =
    let q : node_size h + 0 ≡ node_size h = omega arith in
    record { hand = []; fuel = length m; enough = omega arith; whole = refl; sized = rw q e; sofar = sofar_none h p few }

module _ (W : Answer ReadingCause Value) (T : Table) (r : ℕ → List ℕ → Answer ReadingCause Value) (h : Holder) (mode : Mode) (m : List ℕ) (at j : ℕ) (came : List ℕ) (total : ℕ)
    (S : Going W T r h mode m at j came total) where
  abbrev Rest : List ℕ
  Rest = drop at m

  abbrev Items : Answer ReadingCause Hand
  Items = read_items T r h (suc S.fuel) j came S.hand mode Rest

  gives_refused : (c : ReadingCause) (l : ℕ) → Items ≡ refused c l → W ≡ refused c l
  unfolding then
  gives_refused c l e = S.whole ∙ rw e refl

  gives_got : (hand : Hand) (u : List ℕ) → Items ≡ got hand u → W ≡ got (assemble h hand) u
  unfolding then
  gives_got hand u e = S.whole ∙ rw e refl

  gives_unawaited : Items ≡ not_awaited Rest → W ≡ not_awaited Rest
  gives_unawaited e = S.whole ∙ rw e (unawaited_on Rest _)

  -- the value that is done, and its size
  pub record Gives (u : List ℕ) (n : ℕ) : Type 0 where
    pub value : Value
    pub is : W ≡ got value u
    pub size : n ≡ cap (length (octets value))

  grown : (hand : Hand) (p : ℕ) (v : Value) (i n : ℕ) → total ≡ cap (node_size h + sizes_of hand) → i ≡ cap (length (octets v)) → n ≡ cap (total + i)
      → n ≡ cap (node_size h + sizes_of (hand ++ ((p, v) ∷ [])))
  grown hand p v i n e f g = rw (sizes_snoc hand (p, v)) (omega arith)

  -- a CHOICE or a message
  module _ (one : is_single (manner h) ≡ true) where
    pub one_unawaited : next T h j came Rest ≡ none → W ≡ not_awaited Rest
    one_unawaited e = gives_unawaited (single_unawaited T r h S.fuel j came S.hand mode Rest one e)

    module _ (x : Placed) (e : next T h j came Rest ≡ some x) where
      pub one_refused : (c : ReadingCause) (l : ℕ) → r x.1.type Rest ≡ refused c l → W ≡ refused c l
      one_refused c l d = gives_refused c l (single_refused T r h S.fuel j came S.hand mode Rest one x e c l d)

      pub one_done : (v : Value) (u : List ℕ) (i n : ℕ) → r x.1.type Rest ≡ got v u → i ≡ cap (length (octets v)) → n ≡ cap (total + i) → Gives u n
      one_done v u i n d f g =
          let hand = S.hand ++ ((x.0, v) ∷ []) in
          record {
            value = assemble h hand;
            is = gives_got hand u (single_done T r h S.fuel j came S.hand mode Rest one x e v u d);
            size = grown S.hand x.0 v i n S.sized f g ∙ ap cap (sym (assemble_size h hand (sofar_one h j came S.hand (x.0, v) one S.sofar)));
          }

  -- the others
  module _ (many : is_single (manner h) ≡ false) where
    pub going_over : (u : List ℕ) → Over mode Rest u → lacks h j came ≡ false → Gives u total
    going_over u end e =
        record {
          value = assemble h S.hand;
          is = gives_got S.hand u (items_over T r h S.fuel j came S.hand mode Rest many u end e);
          size = S.sized ∙ ap cap (sym (assemble_size h S.hand (sofar_over h j came S.hand many S.sofar)));
        }

    pub going_lacking : (u : List ℕ) → Over mode Rest u → lacks h j came ≡ true → W ≡ refused NotAwaited (length Rest)
    going_lacking u end e = gives_refused NotAwaited (length Rest) (items_lacking T r h S.fuel j came S.hand mode Rest many u end e)

    pub going_broken : (c : ReadingCause) (l : ℕ) → Broken mode Rest c l → W ≡ refused c l
    going_broken c l end = gives_refused c l (items_broken T r h S.fuel j came S.hand mode Rest many c l end)

    module _ (end : More mode Rest) where
      pub going_full : remains h j came ≡ false → W ≡ refused Trailing (length Rest)
      going_full e = gives_refused Trailing (length Rest) (items_full T r h S.fuel j came S.hand mode Rest many end e)

      pub going_unawaited : remains h j came ≡ true → next T h j came Rest ≡ none → W ≡ not_awaited Rest
      going_unawaited e f = gives_unawaited (items_unawaited T r h S.fuel j came S.hand mode Rest many end e f)

      -- an item of a part that is left
      module _ (e : remains h j came ≡ true) (x : Placed) (f : next T h j came Rest ≡ some x) where
        pub going_refused : (c : ReadingCause) (l : ℕ) → r x.1.type Rest ≡ refused c l → W ≡ refused c l
        going_refused c l d = gives_refused c l (items_refused T r h S.fuel j came S.hand mode Rest many end e x f c l d)

        pub going_turn : (v : Value) (end i n : ℕ) → r x.1.type Rest ≡ got v (drop end m) → at < end → end ≤ length m → i ≡ cap (length (octets v))
            → n ≡ cap (total + i)
            → Going W T r h mode m end (following (manner h) x.0) (noted (manner h) came x.0) n
        going_turn v stop i n d further low g k =
            let q : S.fuel ≡ suc (S.fuel - 1) = omega (arith, S.enough, length-drop at m) in
            let y = found_of came j (drop j (parts_of h)) (next T h j came Rest) x (awaits_found h j came (λ x. begun T x.1.type Rest)) f in
            record {
              hand = S.hand ++ ((x.0, v) ∷ []);
              fuel = S.fuel - 1;
              enough = omega (arith, S.enough, length-drop at m, length-drop stop m);
              whole =
                  S.whole
                  ∙ ap (λ (a : Answer ReadingCause Hand). then a λ hand u. got (assemble h hand) u)
                  (items_turn T r h S.fuel j came S.hand mode Rest many end e x f v (drop stop m) d
                  ∙ ap (λ (k : ℕ). read_items T r h k (following (manner h) x.0) (noted (manner h) came x.0) (S.hand ++ ((x.0, v) ∷ [])) mode (drop stop m)) q);
              sized = grown S.hand x.0 v i n S.sized g k;
              sofar = sofar_turn h j came S.hand x v many y S.sofar;
            }
