-- The outcome of reading and of writing once the type is found: each stage gives its answer exactly where its rule holds.
-- Assumes nothing.
use borrow.Author.Tests.{leb-true, leb-false, le-leb, lt-leb, not-true, not-false}
use mathlib.Core.Bool.{true, not}
use mathlib.Core.List.{List, [], ◌∷◌, ◌++◌}
use mathlib.Core.Logic.{◌↔◌}
use mathlib.Core.Path.{◌≡◌, refl, sym, ap, ◌∙◌}
use native.Mathlib.Omega.{arith}
use Prim.Native.Nat.{ℕ, ◌-◌, ◌≤◌, ◌<◌, min}
use lib.Dec.{leb}
use lib.ListN.{length, drop}
use Rattle.x690.specs.declared.ReadingCause.{ReadingCause}
use Rattle.coding.specs.declared.JudgingCause.{JudgingCause}
use Rattle.coding.specs.declared.JudgingCause.TheVariants.{ValueShape}
use Rattle.octets.specs.Answer.{Answer, got, refused, if}
use Rattle.octets.specs.Numbers.{Octets}
use Rattle.octets.specs.Permutations.{any_order}
use Rattle.octets.proofs.Answer.{run, if_cases, got_holds}
use Rattle.octets.proofs.Permutations.{all_octets}
use Rattle.table.specs.Syntax.{Table}
use Rattle.coding.specs.Value.{boolean, Value, leaf, leaf_octets, octets, depth}
use Rattle.coding.specs.Encodes.{Encodes}
use Rattle.coding.specs.Typed.{WellTypedAt, WellTyped}
use Rattle.coding.specs.Shaped.{Shaped}
use Rattle.coding.specs.Form.{form_at}
use Rattle.coding.specs.Judging.{judge_whole}
use Rattle.coding.specs.Reading.{read_message}
use Rattle.coding.specs.Calls.{after_reading, read_outcome, after_judging}
use Rattle.coding.specs.Outcome.{levels, longest_value, longest_message, TableCause, ValueCause, MessageRoom, value_cause, MessageCause, MessageLength, ValueRoom, message_cause}
use Rattle.coding.specs.Outcome.{message_report, Refusal, of_table, of_value, of_message, Told, done, refusal, Outcome, refuse, write_at_start}
use Rattle.coding.specs.Demands.{Answers, is_done, of_the_stage, MessageRefused, NoRoomForValue, Read, ValueRefused, over_long, as_judged, NoRoomForMessage, Wrote, Received, Sent}
use Rattle.coding.proofs.FirstTags.{Good}
use Rattle.coding.proofs.Levels.{retype, deep}
use Rattle.coding.proofs.Form.{form_encodes}
use Rattle.coding.proofs.Judging.{judge_whole_lem, judge_octets}
use Rattle.coding.proofs.Shaped.{Limited, encodes_shaped}
use Rattle.coding.proofs.Equivalence.{equivalent_length}
use Rattle.coding.proofs.Causes.{same_value, not_message_room, same_message, not_message_length, not_value_room}
use Rattle.coding.proofs.Refusals.{Within, names, message_says, whole_says}
use Rattle.coding.proofs.Messages.{sound, at_level, message_complete, accepts_as_given}

-- a value of four octets, of a message of three, in a buffer of four and of three
room_for_four : (m : List ℕ) → after_reading m (7 ∷ 7 ∷ 7 ∷ 7 ∷ []) (got (leaf (boolean true)) []) ≡ write_at_start (0x56 ∷ 0x41 ∷ 1 ∷ 1 ∷ []) (7 ∷ 7 ∷ 7 ∷ 7 ∷ [])
unfolding if leaf_octets octets after_reading
room_for_four m = refl

room_for_three : after_reading (0x01 ∷ 0x01 ∷ 0xFF ∷ []) (7 ∷ 7 ∷ 7 ∷ []) (got (leaf (boolean true)) []) ≡ refuse (of_message ValueRoom) (7 ∷ 7 ∷ 7 ∷ [])
unfolding if leaf_octets octets after_reading
room_for_three = refl

-- one octet more than a message may have
one_too_many : (T : Table) (m buf : List ℕ) → length m ≡ 8193 → read_outcome T 1 0 m buf ≡ refuse (of_message (MessageLength 0)) buf
unfolding if read_outcome
one_too_many T m buf e = rw e refl

-- the outcome is no refusal of the table or the type
abbrev pub Beyond : Outcome → Type 0
Beyond x = (c : TableCause) → x.answer ≡ refusal (of_table c) → ⊥

-- where an outcome refuses, the buffer is as it was
abbrev pub Unchanged : List ℕ → Outcome → Type 0
Unchanged buf x = (r : Refusal) → x.answer ≡ refusal r → x.buffer ≡ buf

-- the stage of an answer: done, of the table, of the value, of the message
abbrev stage_of : Told → ℕ
stage_of (done k) = 0
stage_of (refusal (of_table c)) = 1
stage_of (refusal (of_value c)) = 2
stage_of (refusal (of_message c)) = 3

pub message_beyond : (c : MessageCause) (buf : List ℕ) → Beyond (refuse (of_message c) buf)
message_beyond c buf d e = let h : ◌≡◌ {A = ℕ} 3 1 = ap stage_of e in omega arith

pub value_beyond : (c : ValueCause) (buf : List ℕ) → Beyond (refuse (of_value c) buf)
value_beyond c buf d e = let h : ◌≡◌ {A = ℕ} 2 1 = ap stage_of e in omega arith

pub done_beyond : (k : ℕ) (after : List ℕ) → Beyond (record { answer = done k; buffer = after })
done_beyond k after c e = let h : ◌≡◌ {A = ℕ} 0 1 = ap stage_of e in omega arith

abbrev is_refusal : Told → ℕ
is_refusal (done k) = 0
is_refusal (refusal r) = 1

pub done≢refusal : {C : Type 0} {r : Refusal} {k : ℕ} → done k ≡ refusal r → C
done≢refusal e = let h : ◌≡◌ {A = ℕ} 0 1 = ap is_refusal e in absurd (omega arith)

answers : {x y : Outcome} → x ≡ y → x.answer ≡ y.answer
answers e = ap (λ (o : Outcome). o.answer) e

of_one_message : {c d : MessageCause} {b w : List ℕ} → refuse (of_message c) b ≡ refuse (of_message d) w → c ≡ d
of_one_message {c} {d} e = let z : refusal (of_message c) ≡ refusal (of_message d) = answers e in cc

abbrev numbered : MessageCause → ℕ
numbered c = (message_report c).number

of_one_value : {c d : ValueCause} {b w : List ℕ} → refuse (of_value c) b ≡ refuse (of_value d) w → c ≡ d
of_one_value {c} {d} e = let z : refusal (of_value c) ≡ refusal (of_value d) = answers e in cc

same_length : {j k : ℕ} {b c : List ℕ} → ◌≡◌ {A = Outcome} (record { answer = done j; buffer = b }) (record { answer = done k; buffer = c }) → j ≡ k
same_length e = let z : done _ ≡ done _ = ap (λ (o : Outcome). o.answer) e in cc

same_buffer : {j k : ℕ} {b c : List ℕ} → ◌≡◌ {A = Outcome} (record { answer = done j; buffer = b }) (record { answer = done k; buffer = c }) → b ≡ c
same_buffer e = ap (λ (o : Outcome). o.buffer) e

-- Reading.

abbrev pub reading : Table → ℕ → List ℕ → List ℕ → Outcome
reading T t m buf = if (not (leb (length m) longest_message)) (refuse (of_message (MessageLength 0)) buf) λ _. after_reading m buf (read_message T levels t m)

-- the stages of reading, each with its rule and its answer
pub data ReadStage (T : Table) (t : ℕ) (m buf : List ℕ) (x : Outcome) : Type 0 where
  too_long_lem : longest_message < length m → x ≡ refuse (of_message (MessageLength 0)) buf → ReadStage T t m buf x
  refused_at : (c : ReadingCause) (p : ℕ) → MessageRefused T t m c p → x ≡ refuse (of_message (message_cause c p)) buf → ReadStage T t m buf x
  no_room : NoRoomForValue T t m buf → x ≡ refuse (of_message ValueRoom) buf → ReadStage T t m buf x
  is_read : (k : ℕ) (after : List ℕ) → Read T t m buf k after → x ≡ record { answer = done k; buffer = after } → ReadStage T t m buf x

module _ (T : Table) (t : ℕ) (m buf : List ℕ) where
  after_read : Octets m → length m ≤ longest_message → (x : Answer ReadingCause Value) → read_message T levels t m ≡ x → Within (length m) x → ReadStage T t m buf (after_reading m buf x)
  unfolding after_reading
  after_read o h (refused c l) e (names q) =
      refused_at c (length m - l) (record { within = h; left = l; inside = q; reading = e; place = refl }) refl
  after_read o h (got v r) e q =
      let s = sound T levels t m v r o e in
      if_cases (ReadStage T t m buf) (not (leb (length (octets v)) (min longest_value (length buf)))) _ _
      (λ f. no_room (record { within = h; value = v; arrives = s.arrives; deep = s.deep; over = leb-false (length (octets v)) (min longest_value (length buf)) (not-true _ f) }) refl)
      λ f.
      let room : length (octets v) ≤ min longest_value (length buf) = leb-true (length (octets v)) (min longest_value (length buf)) (not-false _ f) in
      is_read (length (octets v)) (octets v ++ drop (length (octets v)) buf)
      (record { within = h; value = v; arrives = s.arrives; encodes = s.encodes; typed = s.typed; deep = s.deep; short = omega arith; room = omega arith; its_length = refl; buffer = refl })
      refl

  -- every outcome is that of a stage whose rule holds; nothing is asked of the table
  pub read_stage : Octets m → ReadStage T t m buf (reading T t m buf)
  read_stage o =
      if_cases (ReadStage T t m buf) (not (leb (length m) longest_message)) _ _
      (λ f. too_long_lem (leb-false (length m) longest_message (not-true _ f)) refl)
      λ f. after_read o (leb-true (length m) longest_message (not-false _ f)) (read_message T levels t m) refl (message_says T levels t m)

  pub read_within : length m ≤ longest_message → (x : Answer ReadingCause Value) → read_message T levels t m ≡ x → reading T t m buf ≡ after_reading m buf x
  read_within h x e = simp (run, le-leb (length m) longest_message h, e)

  read_long_lem : longest_message < length m → reading T t m buf ≡ refuse (of_message (MessageLength 0)) buf
  read_long_lem h = simp (run, lt-leb (length m) longest_message h)

  pub read_refuses : (c : ReadingCause) (p : ℕ) → MessageRefused T t m c p → reading T t m buf ≡ refuse (of_message (message_cause c p)) buf
  unfolding after_reading
  read_refuses c p x = read_within x.within (refused c x.left) x.reading ∙ ap (λ (j : ℕ). refuse (of_message (message_cause c j)) buf) (sym x.place)

  -- 21
  pub long_exactly : Octets m → (p : ℕ) → (reading T t m buf ≡ refuse (of_message (MessageLength p)) buf) ↔ ((longest_message < length m) × (p ≡ 0))
  long_exactly o p = (λ e. from (read_stage o) e, λ h. read_long_lem h.0 ∙ ap (λ (j : ℕ). refuse (of_message (MessageLength j)) buf) (sym h.1))
    where
      from : {x : Outcome} → ReadStage T t m buf x → x ≡ refuse (of_message (MessageLength p)) buf → (longest_message < length m) × (p ≡ 0)
      from (too_long_lem h z) e = let q : MessageLength 0 ≡ MessageLength p = of_one_message (sym z ∙ e) in (h, cc)
      from (refused_at c q x z) e = absurd (not_message_length c q p (of_one_message (sym z ∙ e)))
      from (no_room x z) e = let q : ◌≡◌ {A = ℕ} 27 21 = ap numbered (of_one_message (sym z ∙ e)) in absurd (omega arith)
      from (is_read k after x z) e = done≢refusal (answers (sym z ∙ e))

  -- 22 to 26, 28, 29
  pub refused_exactly : Octets m → (c : ReadingCause) (p : ℕ) → (reading T t m buf ≡ refuse (of_message (message_cause c p)) buf) ↔ MessageRefused T t m c p
  refused_exactly o c p = (λ e. from (read_stage o) e, read_refuses c p)
    where
      from : {x : Outcome} → ReadStage T t m buf x → x ≡ refuse (of_message (message_cause c p)) buf → MessageRefused T t m c p
      from (too_long_lem h z) e = absurd (not_message_length c p 0 (sym (of_one_message (sym z ∙ e))))
      from (refused_at d q x z) e = let s = same_message d c q p (of_one_message (sym z ∙ e)) in rw (← s.0, ← s.1) x
      from (no_room x z) e = absurd (not_value_room c p (sym (of_one_message (sym z ∙ e))))
      from (is_read j after x z) e = done≢refusal (answers (sym z ∙ e))

  read_lacks : Good T → NoRoomForValue T t m buf → reading T t m buf ≡ refuse (of_message ValueRoom) buf
  unfolding after_reading
  read_lacks good x =
      read_within x.within (got x.value []) (accepts_as_given T good levels t x.value m x.arrives x.deep)
      ∙ simp (run, lt-leb (length (octets x.value)) (min longest_value (length buf)) x.over)

  read_fits : (v : Value) → length m ≤ longest_message → read_message T levels t m ≡ got v [] → length (octets v) ≤ longest_value → length (octets v) ≤ length buf
      → reading T t m buf ≡ write_at_start (octets v) buf
  unfolding after_reading
  read_fits v h e k l = read_within h (got v []) e ∙ simp (run, le-leb (length (octets v)) (min longest_value (length buf)) (omega arith))

  -- what is read to the same value has the same outcome
  pub read_alike : (v : Value) (w : List ℕ) → length m ≤ longest_message → length w ≤ longest_message → read_message T levels t m ≡ got v [] → read_message T levels t w ≡ got v []
      → reading T t m buf ≡ reading T t w buf
  unfolding after_reading
  read_alike v w h k d e = simp (run, le-leb (length m) longest_message h, le-leb (length w) longest_message k, d, e)

  module _ (o : Octets m) (good : Good T) where
    -- 27
    pub lacks_exactly : (reading T t m buf ≡ refuse (of_message ValueRoom) buf) ↔ NoRoomForValue T t m buf
    lacks_exactly = (λ e. from (read_stage o) e, read_lacks good)
      where
        from : {x : Outcome} → ReadStage T t m buf x → x ≡ refuse (of_message ValueRoom) buf → NoRoomForValue T t m buf
        from (too_long_lem h z) e = let q : ◌≡◌ {A = ℕ} 21 27 = ap numbered (of_one_message (sym z ∙ e)) in absurd (omega arith)
        from (refused_at c q x z) e = absurd (not_value_room c q (of_one_message (sym z ∙ e)))
        from (no_room x z) e = x
        from (is_read j after x z) e = done≢refusal (answers (sym z ∙ e))

    -- done
    pub read_exactly : (k : ℕ) (after : List ℕ) → (reading T t m buf ≡ record { answer = done k; buffer = after }) ↔ Read T t m buf k after
    read_exactly k after = (
      λ e. from (read_stage o) e,
      λ r. read_fits r.value r.within (accepts_as_given T good levels t r.value m r.arrives r.deep) r.short r.room ∙ done_same r.its_length r.buffer,
    )
      where
        refused_done : {r : Refusal} {x : Outcome} → x ≡ refuse r buf → x ≡ record { answer = done k; buffer = after } → Read T t m buf k after
        refused_done z e = done≢refusal (ap (λ (o : Outcome). o.answer) (sym e ∙ z))

        from : {x : Outcome} → ReadStage T t m buf x → x ≡ record { answer = done k; buffer = after } → Read T t m buf k after
        from (too_long_lem h z) e = refused_done z e
        from (refused_at c p x z) e = refused_done z e
        from (no_room x z) e = refused_done z e
        from (is_read j w x z) e = let q = sym z ∙ e in rw (← same_length q, ← same_buffer q) x

        done_same : {j : ℕ} {w : List ℕ} → k ≡ j → after ≡ w → ◌≡◌ {A = Outcome} (record { answer = done j; buffer = w }) (record { answer = done k; buffer = after })
        done_same x y = rw (x, y)

    -- what was sent arrives
    pub received : ((u : ℕ) → Limited (T u).body) → (v : Value) → depth v ≤ levels → length (octets v) ≤ longest_value → Encodes T t v m → length m ≤ longest_message
        → length (octets v) ≤ length buf → Received T t v m buf (reading T t m buf)
    received few v d k e h l =
        let x = message_complete any_order T good levels t v m (at_level levels e d) in
        let y = sound T levels t m x.value [] o x.answer in
        let q : length (octets v) ≡ length (octets x.value) = equivalent_length any_order levels v x.value x.alike in
        let r = read_fits x.value h x.answer (omega arith) (omega arith) in
        let a = y.encodes in
        record {
          value = x.value;
          equivalent = record { level = levels; equivalent = x.alike };
          arrives = y.arrives;
          answer = ap (λ (o : Outcome). o.answer) r ∙ ap done (sym q);
          start = ap (λ (o : Outcome). o.buffer) r ∙ ap (λ (j : ℕ). octets x.value ++ drop j buf) (sym q);
          size = sym q;
          shaped = encodes_shaped any_order T few a.level t x.value m (all_octets m o) h a.encodes;
          typed = y.typed;
          deep = y.deep;
        }

  after_read_beyond : (x : Answer ReadingCause Value) → Beyond (after_reading m buf x)
  unfolding after_reading
  after_read_beyond (refused c l) = message_beyond _ buf
  after_read_beyond (got v r) = if_cases Beyond (not (leb (length (octets v)) (min longest_value (length buf)))) _ _ (λ f. message_beyond ValueRoom buf) λ f. done_beyond _ buf

  pub read_beyond : Beyond (reading T t m buf)
  read_beyond = if_cases Beyond (not (leb (length m) longest_message)) _ _ (λ f. message_beyond (MessageLength 0) buf) λ f. after_read_beyond (read_message T levels t m)

  after_read_answers : (x : Answer ReadingCause Value) → Answers of_message (after_reading m buf x).answer
  unfolding after_reading
  after_read_answers (refused c l) = of_the_stage _
  after_read_answers (got v r) = if_cases (λ (x : Outcome). Answers of_message x.answer) (not (leb (length (octets v)) (min longest_value (length buf)))) _ _ (λ f. of_the_stage ValueRoom) λ f. is_done _

  pub read_answers : Answers of_message (reading T t m buf).answer
  read_answers =
      if_cases (λ (x : Outcome). Answers of_message x.answer) (not (leb (length m) longest_message)) _ _ (λ f. of_the_stage (MessageLength 0)) λ f. after_read_answers (read_message T levels t m)

  after_read_unchanged : (x : Answer ReadingCause Value) → Unchanged buf (after_reading m buf x)
  unfolding after_reading
  after_read_unchanged (refused c l) = λ r z. refl
  after_read_unchanged (got v r) = if_cases (Unchanged buf) (not (leb (length (octets v)) (min longest_value (length buf)))) _ _ (λ f r z. refl) λ f r z. done≢refusal z

  pub read_unchanged : Unchanged buf (reading T t m buf)
  read_unchanged = if_cases (Unchanged buf) (not (leb (length m) longest_message)) _ _ (λ f r z. refl) λ f. after_read_unchanged (read_message T levels t m)

-- Writing.

abbrev pub writing : Table → ℕ → List ℕ → List ℕ → Outcome
writing T t v buf = if (not (leb (length v) longest_value)) (refuse (of_value (value_cause ValueShape 0)) buf) λ _. after_judging (form_at T levels t) v buf (judge_whole T levels t v)

-- the stages of writing, each with its rule and its answer
pub data WriteStage (T : Table) (t : ℕ) (v buf : List ℕ) (x : Outcome) : Type 0 where
  refused_at : (c : JudgingCause) (p : ℕ) → ValueRefused T t v c p → x ≡ refuse (of_value (value_cause c p)) buf → WriteStage T t v buf x
  no_room : NoRoomForMessage T t v buf → x ≡ refuse (of_value MessageRoom) buf → WriteStage T t v buf x
  is_written : (k : ℕ) (after : List ℕ) → Wrote T t v buf k after → x ≡ record { answer = done k; buffer = after } → WriteStage T t v buf x

form_permitted : (T : Table) (t : ℕ) (v : Value) → WellTypedAt T levels t v → length (form_at T levels t v) ≤ longest_message → Encodes T t v (form_at T levels t v)
form_permitted T t v w h = record { level = levels; encodes = form_encodes any_order T levels t v w (omega arith) }

module _ (T : Table) (t : ℕ) (v buf : List ℕ) where
  after_judged : Octets v → length v ≤ longest_value → (x : Answer JudgingCause Value) → judge_whole T levels t v ≡ x → Within (length v) x
      → WriteStage T t v buf (after_judging (form_at T levels t) v buf x)
  unfolding after_judging
  after_judged o h (refused c l) e (names q) =
      WriteStage.refused_at c (length v - l) (as_judged l h q e refl) refl
  after_judged o h (got w r) e q =
      let s = got_holds (judge_whole_lem T levels t v (all_octets v o)) e in
      let f = form_at T levels t w in
      let typed : WellTyped T t w = record { level = levels; typed = s.2 } in
      let low : depth w ≤ levels = deep T levels t w s.2 in
      if_cases (WriteStage T t v buf) (not (leb (length f) (min longest_message (length buf)))) _ _
      (λ g. WriteStage.no_room (record {
        short = h;
        value = w;
        is = s.1;
        shaped = s.3;
        typed = typed;
        deep = low;
        over = leb-false (length f)
            (min longest_message (length buf)) (not-true _ g);
      }) refl)
      λ g.
      let room : length f ≤ min longest_message (length buf) = leb-true (length f) (min longest_message (length buf)) (not-false _ g) in
      let within : length f ≤ longest_message = omega arith in
      is_written (length f) (f ++ drop (length f) buf)
      (record {
        value = w;
        is = s.1;
        shaped = s.3;
        typed = typed;
        deep = low;
        short = h;
        within = within;
        room = omega arith;
        its_length = refl;
        buffer = refl;
        encodes = form_permitted T t w s.2 within;
      })
      refl

  pub write_stage : Octets v → WriteStage T t v buf (writing T t v buf)
  write_stage o =
      if_cases (WriteStage T t v buf) (not (leb (length v) longest_value)) _ _
      (λ f. WriteStage.refused_at ValueShape 0 (over_long (leb-false (length v) longest_value (not-true _ f)) refl refl) refl)
      λ f. after_judged o (leb-true (length v) longest_value (not-false _ f)) (judge_whole T levels t v) refl (whole_says T levels t v (all_octets v o))

  write_within : length v ≤ longest_value → (x : Answer JudgingCause Value) → judge_whole T levels t v ≡ x → writing T t v buf ≡ after_judging (form_at T levels t) v buf x
  write_within h x e = simp (run, le-leb (length v) longest_value h, e)

  write_refuses : (c : JudgingCause) (p : ℕ) → ValueRefused T t v c p → writing T t v buf ≡ refuse (of_value (value_cause c p)) buf
  unfolding after_judging
  write_refuses c p (over_long h q r) = rw (q, r) (simp (run, lt-leb (length v) longest_value h))
  write_refuses c p (as_judged l h g e r) = write_within h (refused c l) e ∙ ap (λ (j : ℕ). refuse (of_value (value_cause c j)) buf) (sym r)

  -- 11 to 13
  pub judged_exactly : Octets v → (c : JudgingCause) (p : ℕ) → (writing T t v buf ≡ refuse (of_value (value_cause c p)) buf) ↔ ValueRefused T t v c p
  judged_exactly o c p = (λ e. from (write_stage o) e, write_refuses c p)
    where
      from : {x : Outcome} → WriteStage T t v buf x → x ≡ refuse (of_value (value_cause c p)) buf → ValueRefused T t v c p
      from (WriteStage.refused_at d q x z) e = let s = same_value d c q p (of_one_value (sym z ∙ e)) in rw (← s.0, ← s.1) x
      from (WriteStage.no_room x z) e = absurd (not_message_room c p (sym (of_one_value (sym z ∙ e))))
      from (is_written j after x z) e = done≢refusal (answers (sym z ∙ e))

  after_judged_beyond : (x : Answer JudgingCause Value) → Beyond (after_judging (form_at T levels t) v buf x)
  unfolding after_judging
  after_judged_beyond (refused c l) = value_beyond _ buf
  after_judged_beyond (got w r) =
      if_cases Beyond (not (leb (length (form_at T levels t w)) (min longest_message (length buf)))) _ _ (λ f. value_beyond MessageRoom buf) λ f. done_beyond _ buf

  pub write_beyond : Beyond (writing T t v buf)
  write_beyond = if_cases Beyond (not (leb (length v) longest_value)) _ _ (λ f. value_beyond _ buf) λ f. after_judged_beyond (judge_whole T levels t v)

  after_judged_answers : (x : Answer JudgingCause Value) → Answers of_value (after_judging (form_at T levels t) v buf x).answer
  unfolding after_judging
  after_judged_answers (refused c l) = of_the_stage _
  after_judged_answers (got w r) =
      if_cases (λ (x : Outcome). Answers of_value x.answer) (not (leb (length (form_at T levels t w)) (min longest_message (length buf)))) _ _ (λ f. of_the_stage MessageRoom) λ f. is_done _

  pub write_answers : Answers of_value (writing T t v buf).answer
  write_answers =
      if_cases (λ (x : Outcome). Answers of_value x.answer) (not (leb (length v) longest_value)) _ _ (λ f. of_the_stage _) λ f. after_judged_answers (judge_whole T levels t v)

  after_judged_unchanged : (x : Answer JudgingCause Value) → Unchanged buf (after_judging (form_at T levels t) v buf x)
  unfolding after_judging
  after_judged_unchanged (refused c l) = λ r z. refl
  after_judged_unchanged (got w r) = if_cases (Unchanged buf) (not (leb (length (form_at T levels t w)) (min longest_message (length buf)))) _ _ (λ f r z. refl) λ f r z. done≢refusal z

  pub write_unchanged : Unchanged buf (writing T t v buf)
  write_unchanged = if_cases (Unchanged buf) (not (leb (length v) longest_value)) _ _ (λ f r z. refl) λ f. after_judged_unchanged (judge_whole T levels t v)

-- the octets of a value of the type: what is written for them
module _ (T : Table) (t : ℕ) (buf : List ℕ) (w : Value) (typed : WellTyped T t w) (low : depth w ≤ levels) (shaped : Shaped w) (h : length (octets w) ≤ longest_value) where
  at_levels : WellTypedAt T levels t w
  at_levels = retype T typed.level levels t w low typed.typed

  written : writing T t (octets w) buf ≡ after_judging (form_at T levels t) (octets w) buf (got w [])
  written = write_within T t (octets w) buf h (got w []) (judge_octets T levels t w at_levels shaped)

  write_fits : length (form_at T levels t w) ≤ longest_message → length (form_at T levels t w) ≤ length buf → writing T t (octets w) buf ≡ write_at_start (form_at T levels t w) buf
  unfolding after_judging
  write_fits k l = written ∙ simp (run, le-leb (length (form_at T levels t w)) (min longest_message (length buf)) (omega arith))

  write_lacks : min longest_message (length buf) < length (form_at T levels t w) → writing T t (octets w) buf ≡ refuse (of_value MessageRoom) buf
  unfolding after_judging
  write_lacks k = written ∙ simp (run, lt-leb (length (form_at T levels t w)) (min longest_message (length buf)) k)

  -- what is sent is permitted
  pub sent : Sent T t w buf (writing T t (octets w) buf)
  sent = record { when_it_fits = write_fits; else_14 = write_lacks; encodes = form_permitted T t w at_levels }

module _ (T : Table) (t : ℕ) (v buf : List ℕ) (o : Octets v) where
  -- 14
  pub full_exactly : (writing T t v buf ≡ refuse (of_value MessageRoom) buf) ↔ NoRoomForMessage T t v buf
  full_exactly = (λ e. from (write_stage T t v buf o) e, to)
    where
      from : {x : Outcome} → WriteStage T t v buf x → x ≡ refuse (of_value MessageRoom) buf → NoRoomForMessage T t v buf
      from (WriteStage.refused_at d q x z) e = absurd (not_message_room d q (of_one_value (sym z ∙ e)))
      from (WriteStage.no_room x z) e = x
      from (is_written j after x z) e = done≢refusal (answers (sym z ∙ e))

      to : NoRoomForMessage T t v buf → writing T t v buf ≡ refuse (of_value MessageRoom) buf
      to x =
          let s : length (octets x.value) ≤ longest_value = rw (← x.is) x.short in
          ap (λ (l : List ℕ). writing T t l buf) x.is ∙ write_lacks T t buf x.value x.typed x.deep x.shaped s x.over

  -- done
  pub written_exactly : (k : ℕ) (after : List ℕ) → (writing T t v buf ≡ record { answer = done k; buffer = after }) ↔ Wrote T t v buf k after
  written_exactly k after = (λ e. from (write_stage T t v buf o) e, to)
    where
      refused_done : {r : Refusal} {x : Outcome} → x ≡ refuse r buf → x ≡ record { answer = done k; buffer = after } → Wrote T t v buf k after
      refused_done z e = done≢refusal (ap (λ (o : Outcome). o.answer) (sym e ∙ z))

      from : {x : Outcome} → WriteStage T t v buf x → x ≡ record { answer = done k; buffer = after } → Wrote T t v buf k after
      from (WriteStage.refused_at d q x z) e = refused_done z e
      from (WriteStage.no_room x z) e = refused_done z e
      from (is_written j w x z) e = let q = sym z ∙ e in rw (← same_length q, ← same_buffer q) x

      done_same : {j : ℕ} {w : List ℕ} → k ≡ j → after ≡ w → ◌≡◌ {A = Outcome} (record { answer = done j; buffer = w }) (record { answer = done k; buffer = after })
      done_same x y = rw (x, y)

      to : Wrote T t v buf k after → writing T t v buf ≡ record { answer = done k; buffer = after }
      to x =
          let s : length (octets x.value) ≤ longest_value = rw (← x.is) x.short in
          ap (λ (l : List ℕ). writing T t l buf) x.is ∙ write_fits T t buf x.value x.typed x.deep x.shaped s x.within x.room ∙ done_same x.its_length x.buffer
