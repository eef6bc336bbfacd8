-- The items of a record or of a message, judged one after another: what holds before each, and one law for each way out.
-- Assumes nothing.
use lib.Dec.{eqb}
use lib.ListN.{length, get_or, drop, set as set_at, length-drop, length-append}
use lib.Seq.{drop-drop, drop-append_seam}
use mathlib.Core.Bool.{Bool, true, false, not, ◌||◌, true≢false}
use mathlib.Core.List.{List, [], ◌∷◌}
use mathlib.Core.Logic.{◌⊎◌, inl, inr}
use mathlib.Core.Option.{some, none, none-ne-some}
use mathlib.Core.Path.{◌≡◌, refl, sym, ap, ◌∙◌}
use native.Mathlib.Omega.{arith}
use Prim.Native.Nat.{ℕ, suc, ◌+◌, ◌-◌, ◌*◌, ◌/◌, ◌≤◌, ◌<◌}
use Rattle.std.specs.Prelude.{Option, Some, None, Result, Ok, Err}
use Rattle.x690.specs.declared.ReadingCause.{ReadingCause}
use Rattle.x690.specs.declared.Unread.{Unread}
use Rattle.x690.specs.declared.ReadingCause.TheVariants.{Cut, NotAwaited, Trailing, MessageLevel}
use Rattle.octets.specs.Answer.{Answer, got, refused, then, if}
use Rattle.octets.specs.Numbers.{Octets}
use Rattle.octets.proofs.Answer.{got_holds}
use Rattle.octets.proofs.Tests.{test}
use Rattle.ber.specs.Told.{end_of, mode}
use Rattle.ber.proofs.Ends.{end_more, end_over, end_broken}
use Rattle.ber.proofs.Places.{part_to_end}
use Rattle.table.specs.Syntax.{Plain, Sequence, Set, SequenceOf, SetOf, Choice, Record, Table}
use Rattle.table.specs.Reading.{table_in}
use Rattle.kinds.specs.Kinds.{octet_of}
use Rattle.records.specs.Entries.{span_of}
use Rattle.records.specs.Descriptors.{described}
use Rattle.records.specs.declared.descriptor.Descriptor.{Descriptor}
use Rattle.records.specs.declared.entry.Span.{Span}
use Rattle.octets.specs.Permutations.{as_given}
use Rattle.checker.proofs.Ready.{Ready, ready_by}
use Rattle.coding.specs.Value.{Value, octets}
use Rattle.coding.specs.Reading.{begun, not_awaited, read_value}
use Rattle.coding.proofs.Refusals.{value_shorter}
use Rattle.coding.proofs.Sound.{value_sound}
use Rattle.reader.specs.Answers.{judged, unread, cap, told, size}
use Rattle.reader.specs.Items.{Holder, inside, message, Manner, in_turn, each_once, repeated, single, manner, parts_of, Placed}
use Rattle.reader.specs.Items.{up_to_mandatory, within, left, some_of, remains, lacks, since, following, noted, is_single, first, next}
use Rattle.reader.specs.Items.{node_size, blank, read_held}
use Rattle.reader.specs.Placing.{kind_of, onward, node_of}
use Rattle.reader.specs.Codes.{either}
use Rattle.reader.specs.Records.{Known, IsRecord, record_in, read_record}
use Rattle.reader.specs.Sought.{held, unfit, Sound, Sought}
use Rattle.reader.specs.Judging.{ToJudge}
use Rattle.reader.specs.Standing.{at_ending, standing}
use Rattle.reader.specs.Ways.{wrapped}
use Rattle.reader.specs.Wraps.{Headed}
use Rattle.reader.specs.declared.answer.Judged.{Judged}
use Rattle.reader.specs.declared.search.Choice.{Choice as Chosen}
use Rattle.reader.proofs.Items.{More, unawaited_on, found_of, awaits_found}
use Rattle.reader.proofs.ItemsGoing.{Going, since_first, going_first, going_over, going_lacking, going_broken}
use Rattle.reader.proofs.ItemsGoing.{going_full, going_unawaited, going_refused, going_turn, one_unawaited, one_refused, one_done}
use Rattle.reader.proofs.ItemsKinds.{blank_clear}
use Rattle.reader.proofs.ItemsSizes.{is_plain}
use Rattle.reader.proofs.ItemsWay.{wrapped_size}
use Rattle.reader.proofs.ItemsFound.{AtItem, item_sought, rest_of, item_level, item_value, item_headed}
use Rattle.reader.proofs.Held.{held_some, held_kind, held_one, held_span, held_few, held_node, held_onward, onward_most}
use Rattle.reader.proofs.PlacedTurns.{since_onward}
use Rattle.reader.proofs.Spans.{Spanned}
use Rattle.reader.proofs.Tagging.{its_record}
use Rattle.reader.proofs.Told.{told_refused, told_done, tell_refused, tell_done}
use Rattle.checker.specs.declared.passed.Passed.{Passed}

node_small : (h : Holder) → length (parts_of h) ≤ 16 → node_size h ≤ 20
unfolding node_size parts_of
node_small (inside (Plain k)) l = omega arith
node_small (inside (Sequence ms)) l = omega arith
node_small (inside (Set ms)) l = omega arith
node_small (inside (SequenceOf t)) l = omega arith
node_small (inside (SetOf t)) l = omega arith
node_small (inside (Choice ts)) l = omega arith
node_small (message t) l = omega arith

-- what is noted of a part
abbrev Notes : ℕ → List ℕ → ℕ → List ℕ → Type 0
Notes k came place last = ((k ≡ 17) × (last ≡ set_at came place 1)) ⊎ ((k ≡ 17 → ⊥) × (last ≡ came))

notes_are : (h : Holder) (came : List ℕ) (place : ℕ) (last : List ℕ) → Notes (kind_of h) came place last → last ≡ noted (manner h) came place
unfolding kind_of manner noted
notes_are (inside (Plain k)) came place last (inl x) = absurd (omega (arith, x.0))
notes_are (inside (Plain k)) came place last (inr x) = x.1
notes_are (inside (Sequence ms)) came place last (inl x) = absurd (omega (arith, x.0))
notes_are (inside (Sequence ms)) came place last (inr x) = x.1
notes_are (inside (Set ms)) came place last (inl x) = x.1
notes_are (inside (Set ms)) came place last (inr x) = absurd (x.0 refl)
notes_are (inside (SequenceOf t)) came place last (inl x) = absurd (omega (arith, x.0))
notes_are (inside (SequenceOf t)) came place last (inr x) = x.1
notes_are (inside (SetOf t)) came place last (inl x) = absurd (omega (arith, x.0))
notes_are (inside (SetOf t)) came place last (inr x) = x.1
notes_are (inside (Choice ts)) came place last (inl x) = absurd (omega (arith, x.0))
notes_are (inside (Choice ts)) came place last (inr x) = x.1
notes_are (message t) came place last (inl x) = absurd (omega (arith, x.0))
notes_are (message t) came place last (inr x) = x.1

noted_clear : (v : Manner) (came : List ℕ) (p : ℕ) → (v ≡ each_once → ⊥) → noted v came p ≡ came
unfolding noted
noted_clear in_turn came p n = refl
noted_clear each_once came p n = absurd (n refl)
noted_clear repeated came p n = refl
noted_clear single came p n = refl

-- where contents end, or go on
module _ (h : Holder) (i : ℕ) (came : List ℕ) where
  ends_over : (x : Result (Option ℕ) ReadingCause) (u : ℕ) → at_ending h i came x ≡ Ok (Some u) → (x ≡ Ok (Some u)) × (lacks h i came ≡ false)
  unfolding at_ending if
  ends_over (Ok None) u e = let z : ◌≡◌ {A = ℕ} 0 1 = cc in absurd (omega arith)
  ends_over (Ok (Some v)) u e =
      test (lacks h i came)
      (λ l. let d : ◌≡◌ {A = Result (Option ℕ) ReadingCause} (Err NotAwaited) (Ok (Some u)) = rw l at e in let z : ◌≡◌ {A = ℕ} 0 1 = cc in absurd (omega arith))
      λ l. let d : ◌≡◌ {A = Result (Option ℕ) ReadingCause} (Ok (Some v)) (Ok (Some u)) = rw l at e in let q : v ≡ u = cc in (ap (λ (y : ℕ). Ok (Some y)) q, l)
  ends_over (Err f) u e = let z : ◌≡◌ {A = ℕ} 0 1 = cc in absurd (omega arith)

  abbrev Stopped : Result (Option ℕ) ReadingCause → ReadingCause → Type 0
  Stopped x c =
      ((u : ℕ) × (x ≡ Ok (Some u)) × (lacks h i came ≡ true) × (c ≡ NotAwaited)) ⊎ ((f : ReadingCause) × (x ≡ Err f) × (c ≡ f))

  ends_stopped : (x : Result (Option ℕ) ReadingCause) (c : ReadingCause) → at_ending h i came x ≡ Err c → Stopped x c
  unfolding at_ending if
  ends_stopped (Ok None) c e = let z : ◌≡◌ {A = ℕ} 0 1 = cc in absurd (omega arith)
  ends_stopped (Ok (Some v)) c e =
      test (lacks h i came)
      (λ l. let d : ◌≡◌ {A = Result (Option ℕ) ReadingCause} (Err NotAwaited) (Err c) = rw l at e in let q : NotAwaited ≡ c = cc in inl (v, refl, l, sym q))
      λ l. let d : ◌≡◌ {A = Result (Option ℕ) ReadingCause} (Ok (Some v)) (Err c) = rw l at e in let z : ◌≡◌ {A = ℕ} 0 1 = cc in absurd (omega arith)
  ends_stopped (Err f) c e = let q : f ≡ c = cc in inr (f, refl, sym q)

  ends_item : (x : Result (Option ℕ) ReadingCause) → at_ending h i came x ≡ Ok None → x ≡ Ok None
  unfolding at_ending if
  ends_item (Ok None) e = refl
  ends_item (Ok (Some v)) e =
      test (lacks h i came)
      (λ l. let d : ◌≡◌ {A = Result (Option ℕ) ReadingCause} (Err NotAwaited) (Ok None) = rw l at e in let z : ◌≡◌ {A = ℕ} 0 1 = cc in absurd (omega arith))
      λ l. let d : ◌≡◌ {A = Result (Option ℕ) ReadingCause} (Ok (Some v)) (Ok None) = rw l at e in let z : ◌≡◌ {A = ℕ} 0 1 = cc in absurd (omega arith)
  ends_item (Err f) e = let z : ◌≡◌ {A = ℕ} 0 1 = cc in absurd (omega arith)

  module _ (x : Result (Option ℕ) ReadingCause) where
    many_stands : is_single (manner h) ≡ false → standing h i came x ≡ at_ending h i came x
    unfolding standing if
    many_stands n = rw n refl

    one_stands : is_single (manner h) ≡ true → standing h i came x ≡ Ok None
    unfolding standing if
    one_stands n = rw n refl

    over_many : (u : ℕ) → standing h i came x ≡ Ok (Some u) → is_single (manner h) ≡ false
    over_many u e =
        test (is_single (manner h))
        (λ q. let d : ◌≡◌ {A = Result (Option ℕ) ReadingCause} (Ok None) (Ok (Some u)) = sym (one_stands q) ∙ e in let z : ◌≡◌ {A = ℕ} 0 1 = cc in absurd (omega arith))
        λ q. q

    stopped_many : (c : ReadingCause) → standing h i came x ≡ Err c → is_single (manner h) ≡ false
    stopped_many c e =
        test (is_single (manner h))
        (λ q. let d : ◌≡◌ {A = Result (Option ℕ) ReadingCause} (Ok None) (Err c) = sym (one_stands q) ∙ e in let z : ◌≡◌ {A = ℕ} 0 1 = cc in absurd (omega arith))
        λ q. q

-- before the item at a place of m
pub record Judging (b : List ℕ) (w : ℕ) (m : List ℕ) (indefinite : Bool) (level : ℕ) (came : List ℕ) (total at j : ℕ) : Type 0 where
  pub one : is_single (manner (held b w)) ≡ true → at < length m
  pub clear : (manner (held b w) ≡ each_once → ⊥) → (p : ℕ) → get_or came p 0 ≡ 0
  pub going : Going (read_held (table_in b) (read_value (table_in b) level) (held b w) (mode indefinite) m) (table_in b) (read_value (table_in b) level) (held b w)
      (mode indefinite) m at (since (manner (held b w)) j) came total

-- a refusal that an item is not awaited says the same of whatever was to be read
unfit_alike : {A B : Type 0} (h : Holder) (i : ℕ) (came s : List ℕ) (c : ReadingCause) (l : ℕ) → unfit {A = A} h i came s ≡ refused c l
    → unfit {A = B} h i came s ≡ refused c l
unfolding unfit if then
unfit_alike {A} {B} h i came s c l e =
    test (is_single (manner h)) (λ q. rw q (other (rw q at e))) λ q.
    test (not (remains h i came)) (λ r. rw (q, r) (trailing (rw (q, r) at e))) λ r. rw (q, r) (other (rw (q, r) at e))
  where
    other : not_awaited {A = A} s ≡ refused c l → not_awaited {A = B} s ≡ refused c l
    other d = sym (unawaited_on {A = A} {B = B} s (λ a u. refused Cut 0)) ∙ rw d refl

    trailing : ◌≡◌ {A = Answer ReadingCause A} (refused Trailing (length s)) (refused c l) → ◌≡◌ {A = Answer ReadingCause B} (refused Trailing (length s)) (refused c l)
    trailing d = let x : Trailing ≡ c = cc in let y : length s ≡ l = cc in rw (← x, ← y) refl

-- where one is found, some are left
within_some : (v : Manner) (f : Placed → Bool) (l : List Placed) (x : Placed) → first f (within v l) ≡ some x → some_of l ≡ true
unfolding within up_to_mandatory first some_of
within_some v f (y ∷ l) x e = refl
within_some v f [] x e = absurd (none-ne-some x (sym (none_within v) ∙ e))
  where
    none_within : (v : Manner) → first f (within v []) ≡ none
    none_within in_turn = refl
    none_within each_once = refl
    none_within repeated = refl
    none_within single = refl

-- what is left behind a value begins further on
value_behind : (T : Table) (n t : ℕ) (m : List ℕ) (at : ℕ) → at ≤ length m → (v : Value) (u : List ℕ) → read_value T n t (drop at m) ≡ got v u
    → (u ≡ drop (length m - length u) m) × (at < length m - length u)
value_behind T n t m at low v u e =
    let x = got_holds (value_sound as_given T n t (drop at m)) e in
    let h = got_holds (value_shorter T n t (drop at m)) e in
    let p = x.piece in
    let l : length m - at ≡ length p + length u = sym (length-drop at m) ∙ ap length x.cut ∙ length-append p u in
    let q : length m - length u ≡ at + length p = omega arith in
    let k : length (drop at m) ≡ length m - at = length-drop at m in
    (sym (drop-append_seam p u) ∙ ap (drop (length p)) (sym x.cut) ∙ drop-drop (length p) at m ∙ ap (λ (i : ℕ). drop i m) (sym q), omega arith)

value_step : (T : Table) (n t : ℕ) (s : List ℕ) → read_record T n (T t) s ≡ read_value T (suc n) t s
unfolding read_record read_value
value_step T n t s = refl

-- The ways through a turn. What an entry that is not simple stands for, and where its parts are:
pub record Setting : Type 0 where
  pub b : List ℕ
  pub index : List ℕ
  pub w : ℕ
  pub e : Descriptor
  pub s : Span
  pub ready : Ready b index
  pub known : Known b index w
  pub holds : (described w).simple ≡ false
  pub entry : e ≡ described w
  pub span : s ≡ span_of b (octet_of e.kind) e.own

abbrev T : Setting → Table
T Q = table_in Q.b

abbrev H : Setting → Holder
H Q = held Q.b Q.w

module _ (Q : Setting) where
  no_plain : is_plain (H Q) ≡ false
  no_plain = held_some Q.ready Q.known Q.holds

  kind_is : (octet_of Q.e.kind) ≡ kind_of (H Q)
  kind_is = held_kind Q.ready Q.known Q.holds Q.e Q.entry

  its_span : Spanned Q.b (H Q) (octet_of (described Q.w).kind) Q.s
  its_span = held_span Q.ready Q.known Q.holds Q.e Q.entry Q.s Q.span

  few : length (parts_of (H Q)) ≤ 16
  few = held_few Q.ready Q.known Q.holds Q.e Q.entry Q.s Q.span

  onward_is : (place : ℕ) → place + Q.s.step / 2 ≡ onward (kind_of (H Q)) place
  onward_is = held_onward Q.ready Q.known Q.holds Q.e Q.entry Q.s Q.span

  pub count_few : Q.s.count ≤ 16
  count_few = its_span.few

  one_is : (g : Bool) → g ≡ (eqb (octet_of Q.e.kind) 50 || eqb (octet_of Q.e.kind) 51) → is_single (manner (H Q)) ≡ g
  one_is g eg = sym (eg ∙ held_one Q.ready Q.known Q.holds Q.e Q.entry)

  module _ (n : ℕ) (en : n ≡ node_of (octet_of Q.e.kind) Q.s.count) where
    node_total : n ≡ node_size (H Q)
    node_total = en ∙ held_node Q.ready Q.known Q.holds Q.e Q.entry Q.s Q.span

    node_few : n ≤ 20
    node_few = omega (arith, node_total, node_small (H Q) few)

    -- before the first item
    pub judging_first : (m : List ℕ) (indefinite : Bool) (level : ℕ) → (is_single (manner (H Q)) ≡ true → 0 < length m)
        → Judging Q.b Q.w m indefinite level blank n 0 0
    judging_first m indefinite level one_item =
        let q : n ≡ cap (node_size (H Q)) = omega (arith, node_total, node_few) in
        record {
          one = one_item;
          clear = λ _. blank_clear;
          going = rw (since_first (manner (H Q))) (going_first (T Q) (read_value (T Q) level) (H Q) (mode indefinite) m n no_plain few q);
        }

  pub judging_sound : {m : List ℕ} {indefinite : Bool} {level : ℕ} {came : List ℕ} {total at j : ℕ} → Judging Q.b Q.w m indefinite level came total at j
      → Sound Q.b Q.index Q.w came
  judging_sound S = record { known = Q.known; clear = S.clear }

-- what stands at a place of m
pub record Turn (Q : Setting) : Type 0 where
  pub m : List ℕ
  pub indefinite : Bool
  pub level : ℕ
  pub came : List ℕ
  pub total : ℕ
  pub at : ℕ
  pub j : ℕ
  pub octets : Octets m
  pub short : length m ≤ 8192
  pub levels : level < 25
  pub low : at ≤ length m
  pub so_far : Judging Q.b Q.w m indefinite level came total at j
  pub y : Result (Option ℕ) ReadingCause
  pub stands : y ≡ standing (H Q) (since (manner (H Q)) j) came (end_of indefinite (length m) (drop at m))

abbrev pub setting_of : (x : Passed) {w level : ℕ} {m : List ℕ} {e : Descriptor} {s : Span} → ToJudge x.octets.now x.index.now w m level → e ≡ described w
    → s ≡ span_of x.octets.now (octet_of e.kind) e.own → Setting
setting_of x {w} {e = e} {s = s} q ee es =
    record { b = x.octets.now; index = x.index.now; w = w; e = e; s = s; ready = ready_by x; known = q.known; holds = q.holds; entry = ee; span = es }

abbrev pub turn_of : (x : Passed) {w level : ℕ} {m : List ℕ} {e : Descriptor} {s : Span} (q : ToJudge x.octets.now x.index.now w m level) (ee : e ≡ described w)
    (es : s ≡ span_of x.octets.now (octet_of e.kind) e.own)
    → {indefinite : Bool} {came : List ℕ} {total at j : ℕ} {y : Result (Option ℕ) ReadingCause} → Octets m → at ≤ length m
    → Judging x.octets.now w m indefinite level came total at j
    → (let h = held x.octets.now w in y ≡ standing h (since (manner h) j) came (end_of indefinite (length m) (drop at m)))
    → Turn (setting_of x q ee es)
turn_of x {level = level} {m} q ee es {indefinite} {came} {total} {at} {j} {y} o l s d =
    record {
      m = m;
      indefinite = indefinite;
      level = level;
      came = came;
      total = total;
      at = at;
      j = j;
      octets = o;
      short = q.short;
      levels = q.levels;
      low = l;
      so_far = s;
      y = y;
      stands = d;
    }

module _ {Q : Setting} (P : Turn Q) where
  -- from which part on others are left; what is left of m; how values are read; all that is judged; and whether contents end here
  abbrev I : ℕ
  I = since (manner (H Q)) P.j

  abbrev Rest : List ℕ
  Rest = drop P.at P.m

  abbrev R : ℕ → List ℕ → Answer ReadingCause Value
  R = read_value (T Q) P.level

  abbrev W : Answer ReadingCause Value
  W = read_held (T Q) (read_value (T Q) P.level) (H Q) (mode P.indefinite) P.m

  abbrev E : Result (Option ℕ) ReadingCause
  E = end_of P.indefinite (length P.m) (drop P.at P.m)

  refused_here : (c : ReadingCause) → W ≡ refused c (length Rest) → unread c (length P.m - P.at) ≡ told P.m size W
  refused_here c x = tell_refused P.m size W c (length P.m - P.at) (x ∙ ap (refused c) (length-drop P.at P.m))

  total_few : P.total < 16386
  total_few = omega (arith, P.so_far.going.sized)

  -- contents that are over
  pub judged_over : (u : ℕ) → P.y ≡ Ok (Some u) → judged u P.total ≡ told P.m size W
  judged_over u d =
      let n = over_many (H Q) I P.came E u (sym P.stands ∙ d) in
      let (a, l) = ends_over (H Q) I P.came E u (sym (many_stands (H Q) I P.came E n) ∙ sym P.stands ∙ d) in
      let g =
      going_over W (T Q) R (H Q) (mode P.indefinite) P.m P.at I P.came P.total P.so_far.going n (drop u P.m)
      (λ A f z. (end_over {A = A} f z P.m P.at P.indefinite E u P.low refl a).0) l in
      tell_done P.m size W g.value u P.total g.is
      (end_over {A = ℕ} (λ z. got 0 z) (λ z. refused Cut 0) P.m P.at P.indefinite E u P.low refl a).2 g.size

  -- that lack a part, or are broken
  pub judged_stopped : (c : ReadingCause) → P.y ≡ Err c → unread c (length P.m - P.at) ≡ told P.m size W
  unfolding if
  judged_stopped c d = go (ends_stopped (H Q) I P.came E c (sym (many_stands (H Q) I P.came E N) ∙ sym P.stands ∙ d))
    where
      N : is_single (manner (H Q)) ≡ false
      N = stopped_many (H Q) I P.came E c (sym P.stands ∙ d)

      go : Stopped (H Q) I P.came E c → unread c (length P.m - P.at) ≡ told P.m size W
      go (inl (u, a, l, q)) =
          rw q (refused_here NotAwaited
          (going_lacking W (T Q) R (H Q) (mode P.indefinite) P.m P.at I P.came P.total P.so_far.going N (drop u P.m)
          (λ A f z. (end_over {A = A} f z P.m P.at P.indefinite E u P.low refl a).0) l))
      go (inr (f, a, q)) =
          rw q (refused_here f
          (going_broken W (T Q) R (H Q) (mode P.indefinite) P.m P.at I P.came P.total P.so_far.going N f (length Rest)
          (λ A g z. end_broken {A = A} g z P.m P.at P.indefinite E f refl a)))

  -- an item
  module _ (d : P.y ≡ Ok None) where
    goes_on : is_single (manner (H Q)) ≡ false → E ≡ Ok None
    goes_on n = ends_item (H Q) I P.came E (sym (many_stands (H Q) I P.came E n) ∙ sym P.stands ∙ d)

    its_more : is_single (manner (H Q)) ≡ false → More (mode P.indefinite) Rest
    its_more n = λ A f z. (end_more {A = A} f z P.m P.at P.indefinite E refl (goes_on n)).0

    -- what is asked of the part next in turn
    pub turn_asks : Sound Q.b Q.index Q.w P.came × (Q.s ≡ span_of Q.b (octet_of (described Q.w).kind) (described Q.w).own) × (P.at < length P.m)
    turn_asks = (judging_sound Q P.so_far, Q.span ∙ ap (λ (x : Descriptor). span_of Q.b (octet_of x.kind) x.own) Q.entry, there)
      where
        there : P.at < length P.m
        there =
            test (is_single (manner (H Q))) (λ q. P.so_far.one q)
            λ q. (end_more {A = ℕ} (λ z. got 0 z) (λ z. refused Cut 0) P.m P.at P.indefinite E refl (goes_on q)).1

    -- of no part that is awaited
    pub judged_unfit : (way : List ℕ) (c : ReadingCause) (r : Result Chosen ReadingCause) → Sought Q.b (H Q) I P.came (rest_of P.m P.at) way r → r ≡ Err c
        → unread c (length P.m - P.at) ≡ told P.m size W
    unfolding unfit if
    judged_unfit way c r q₀ ec =
        let q : Sought Q.b (H Q) I P.came Rest way (Err c) = rw (part_to_end P.m P.at, ec) at q₀ in
        let x = unfit_alike {A = List ℕ} {B = Value} (H Q) I P.came Rest c (length Rest) q.1 in
        refused_here c (whole q.0 ∙ x)
      where
        whole : next (T Q) (H Q) I P.came Rest ≡ none → W ≡ unfit (H Q) I P.came Rest
        whole q =
            test (is_single (manner (H Q)))
            (λ n. rw n (one_unawaited W (T Q) R (H Q) (mode P.indefinite) P.m P.at I P.came P.total P.so_far.going n q))
            λ n.
            test (remains (H Q) I P.came)
            (λ r. rw (n, r)
            (going_unawaited W (T Q) R (H Q) (mode P.indefinite) P.m P.at I P.came P.total P.so_far.going n (its_more n) r q))
            λ r. rw (n, r) (going_full W (T Q) R (H Q) (mode P.indefinite) P.m P.at I P.came P.total P.so_far.going n (its_more n) r)

-- an item of a part
pub record Comes {Q : Setting} (P : Turn Q) : Type 0 where
  pub item : P.y ≡ Ok None
  pub way : List ℕ
  pub place : ℕ
  pub type : ℕ
  pub depth : ℕ
  pub from : ℕ
  pub is : AtItem Q.b (H Q) P.m P.at (I P) P.came way place type depth from

-- as it was found
abbrev pub comes_of : {Q : Setting} (P : Turn Q) → P.y ≡ Ok None → (x : Chosen) (way : List ℕ)
    → Sought Q.b (H Q) (I P) P.came (Rest P) way (Ok x) → Comes P
comes_of P d x way s =
    record {
      item = d;
      way = way;
      place = x.place;
      type = x.«record»;
      depth = x.depth;
      from = P.at + x.from;
      is = item_sought x P.low s;
    }

module _ {Q : Setting} {P : Turn Q} (X : Comes P) where
  abbrev TypeOf : ℕ
  TypeOf = X.is.part.type

  abbrev Begins : Placed → Bool
  Begins x = begun (T Q) x.1.type (Rest P)

  some_remain : remains (H Q) (I P) P.came ≡ true
  some_remain = within_some (manner (H Q)) Begins (left (H Q) (I P) P.came) (X.place, X.is.part) X.is.found

  pub place_few : X.place < 16
  place_few =
      let F =
      found_of P.came (I P) (drop (I P) (parts_of (H Q))) _ (X.place, X.is.part) (awaits_found (H Q) (I P) P.came Begins) X.is.found in
      omega (arith, F.place, F.low, length-drop (I P) (parts_of (H Q)), few Q)

  pub behind_few : X.place + Q.s.step / 2 ≤ 16
  behind_few = omega (arith, place_few, onward_is Q X.place, onward_most (kind_of (H Q)) X.place)

  part_refused : (c : ReadingCause) (l : ℕ) → R P TypeOf (Rest P) ≡ refused c l → W P ≡ refused c l
  part_refused c l q =
      test (is_single (manner (H Q)))
      (λ n. one_refused (W P) (T Q) (R P) (H Q) (mode P.indefinite) P.m P.at (I P) P.came P.total P.so_far.going n
      (X.place, X.is.part) X.is.found c l q)
      λ n.
      going_refused (W P) (T Q) (R P) (H Q) (mode P.indefinite) P.m P.at (I P) P.came P.total P.so_far.going n
      (its_more P X.item n) some_remain (X.place, X.is.part) X.is.found c l q

  -- under more CHOICEs than there are levels
  pub judged_level : P.level ≤ X.depth → unread MessageLevel (length P.m - P.at) ≡ told P.m size (W P)
  unfolding if
  judged_level h =
      refused_here P MessageLevel (part_refused MessageLevel (length (Rest P)) (item_level Q.ready P.octets X.is P.level h))

  -- the entry of its record
  abbrev EntryOf : ℕ
  EntryOf = get_or Q.index X.type 0

  abbrev pub is_record : IsRecord Q.b Q.index EntryOf
  is_record = (X.type, X.is.there, refl)

  pub is_headed : Headed P.m P.at X.from (either (record_in Q.b (described EntryOf))) (described EntryOf).code
  is_headed = item_headed Q.ready P.octets X.is

-- whose value was judged
pub record Valued {Q : Setting} {P : Turn Q} (X : Comes P) : Type 0 where
  pub deep : X.depth < P.level
  pub r : Result Judged Unread
  pub said : r ≡ told P.m size (read_record (T Q) (P.level - X.depth - 1) (record_in Q.b (described (EntryOf X))) (Rest P))

module _ {Q : Setting} {P : Turn Q} {X : Comes P} (Y : Valued X) where
  abbrev Below : Answer ReadingCause Value
  Below = read_value (T Q) (P.level - X.depth) X.type (Rest P)

  record_value : read_record (T Q) (P.level - X.depth - 1) (record_in Q.b (described (EntryOf X))) (Rest P) ≡ Below
  record_value =
      let q : P.level - X.depth ≡ suc (P.level - X.depth - 1) = omega (arith, Y.deep) in
      ap (λ (x : Record). read_record (T Q) (P.level - X.depth - 1) x (Rest P)) (its_record Q.ready (is_record X))
      ∙ value_step (T Q) (P.level - X.depth - 1) X.type (Rest P)
      ∙ ap (λ (k : ℕ). read_value (T Q) k X.type (Rest P)) (sym q)

  abbrev Through : Answer ReadingCause Value → Answer ReadingCause Value
  Through z = then z λ v u. got (wrapped X.way X.depth v) u

  through_way : R P (TypeOf X) (Rest P) ≡ Through Below
  through_way = item_value Q.ready P.octets X.is P.level (omega (arith, Y.deep))

  is_said : Y.r ≡ told P.m size Below
  is_said = Y.said ∙ ap (told P.m size) record_value

  -- and refused
  pub judged_refused : (c : ReadingCause) (l : ℕ) → Y.r ≡ unread c l → unread c l ≡ told P.m size (W P)
  unfolding then
  judged_refused c l q =
      tell_refused P.m size (W P) c l (part_refused X c l (through_way ∙ ap Through (told_refused P.m size Below Y.r is_said c l q)))

  -- or accepted
  module _ (end n : ℕ) (q : Y.r ≡ judged end n) where
    abbrev Its : (v : Value) × (u : List ℕ) × (Below ≡ got v u) × (end ≡ length P.m - length u) × (n ≡ cap (length (octets v)))
    Its = told_done P.m size Below Y.r is_said end n q

    its_behind : (Its.1 ≡ drop (length P.m - length Its.1) P.m) × (P.at < length P.m - length Its.1)
    its_behind = value_behind (T Q) (P.level - X.depth) X.type P.m P.at P.low Its.0 Its.1 Its.2

    pub sizes_few : (P.total < 65536) × (n + 4 * X.depth < 65536)
    sizes_few = (omega (arith, total_few P), omega (arith, Its.4, Y.deep, P.levels))

    pub value_further : P.at < end
    value_further = omega (arith, Its.3, its_behind.1)

    pub value_low : end ≤ length P.m
    value_low = omega (arith, Its.3)

    abbrev Whole : Value
    Whole = wrapped X.way X.depth Its.0

    its_value : R P (TypeOf X) (Rest P) ≡ got Whole (drop end P.m)
    unfolding then
    its_value = through_way ∙ ap Through Its.2 ∙ ap (got Whole) (its_behind.0 ∙ ap (λ (k : ℕ). drop k P.m) (sym Its.3))

    module _ (last : ℕ) (el : last ≡ cap (P.total + (n + 4 * X.depth))) where
      grown : last ≡ cap (P.total + cap (length (octets Whole)))
      grown = omega (arith, el, Its.4, wrapped_size X.way X.depth Its.0)

      module _ (k : Bool) (ek : k ≡ (eqb (octet_of Q.e.kind) 50 || eqb (octet_of Q.e.kind) 51)) where
        -- the only one
        pub judged_one : k ≡ true → judged end last ≡ told P.m size (W P)
        judged_one z =
            let g =
            one_done (W P) (T Q) (R P) (H Q) (mode P.indefinite) P.m P.at (I P) P.came P.total P.so_far.going (one_is Q k ek ∙ z)
            (X.place, X.is.part) X.is.found Whole (drop end P.m) (cap (length (octets Whole))) last its_value refl grown in
            tell_done P.m size (W P) g.value end last g.is value_low g.size

        -- before the next one
        pub judged_turn : k ≡ false → (came' : List ℕ) → Notes (octet_of Q.e.kind) P.came X.place came'
            → Judging Q.b Q.w P.m P.indefinite P.level came' last end (X.place + Q.s.step / 2)
        judged_turn z came' ec =
            let y = one_is Q k ek ∙ z in
            let a : came' ≡ noted (manner (H Q)) P.came X.place = notes_are (H Q) P.came X.place came' (rw (← kind_is Q) ec) in
            let f : since (manner (H Q)) (X.place + Q.s.step / 2) ≡ following (manner (H Q)) X.place =
            ap (λ (k : ℕ). since (manner (H Q)) k) (onward_is Q X.place) ∙ since_onward (H Q) X.place in
            record {
              one = λ z. absurd (true≢false (sym z ∙ y));
              clear = λ z p. ap (λ (l : List ℕ). get_or l p 0) (a ∙ noted_clear (manner (H Q)) P.came X.place z) ∙ P.so_far.clear z p;
              going = rw (f, a)
                  (going_turn (W P) (T Q) (R P) (H Q) (mode P.indefinite) P.m P.at (I P) P.came P.total P.so_far.going y
                  (its_more P X.item y) (some_remain X) (X.place, X.is.part) X.is.found Whole end (cap (length (octets Whole))) last its_value
                  value_further value_low refl grown);
            }
