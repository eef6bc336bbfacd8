-- The ways through the reading of a whole message.
-- Assumes nothing.
use mathlib.Core.Bool.{true, false, not}
use mathlib.Core.List.{List, ◌++◌}
use mathlib.Core.Path.{◌≡◌, sym, ap, ◌∙◌}
use Prim.Native.Nat.{ℕ, ◌+◌, ◌-◌, ◌≤◌, ◌<◌, min}
use native.Mathlib.Nat.{zero-add}
use native.Mathlib.Omega.{arith}
use borrow.Author.Tests.{lt-ltb, le-ltb, le-leb, lt-leb}
use lib.Dec.{ltb, leb}
use lib.ListN.{length, take, drop}
use lib.Seq.{sets, sets-eq}
use Rattle.std.specs.Prelude.{Result, Ok as done, Err as refusal}
use Rattle.x690.specs.declared.ReadingCause.{ReadingCause}
use Rattle.x690.specs.declared.Unread.{Unread}
use Rattle.x690.specs.declared.ReadingCause.TheVariants.{Trailing}
use Rattle.octets.specs.Answer.{Answer, got, refused, then, if, none_left}
use Rattle.octets.proofs.Answer.{run, refused≢got}
use Rattle.octets.proofs.Tests.{test}
use Rattle.ber.specs.Told.{mode}
use Rattle.table.specs.Syntax.{Table}
use Rattle.coding.specs.Value.{Value, octets}
use Rattle.coding.specs.Reading.{read_value, read_message}
use Rattle.coding.specs.declared.TableCause.TheVariants.{Unknown}
use Rattle.coding.specs.declared.MessageCause.TheVariants.{MessageLength, ValueRoom}
use Rattle.coding.specs.Outcome.{message_cause}
use Rattle.coding.specs.declared.Refusal.TheVariants.{Table as of_table, Message as of_message}
use Rattle.coding.specs.Calls.{after_reading, read_outcome}
use Rattle.coding.proofs.Checked.{Says}
use Rattle.coding.proofs.Refusals.{Within, answers, names, message_says}
use Rattle.reader.specs.Answers.{cap, judged, unread, told, size}
use Rattle.reader.specs.Items.{message, read_held}
use Rattle.reader.specs.Placed.{Fits}
use Rattle.reader.specs.declared.answer.Judged.{Judged}
use Rattle.reader.proofs.ItemsKinds.{message_whole}
use Rattle.reader.proofs.Told.{told_refused, told_done}

-- a message that is accepted holds one item of its type
accepted_held : (T : Table) (n t : ℕ) (m : List ℕ) (v : Value) (w : List ℕ) → read_message T n t m ≡ got v w
    → read_held T (read_value T n) (message t) (mode false) m ≡ got v w
unfolding then if
accepted_held T n t m v w e =
    let z = sym (message_whole T n t (mode false) m) ∙ e in
    test (none_left m) (λ y. absurd (refused≢got (rw y at z))) λ y. go (read_held T (read_value T n) (message t) (mode false) m) (rw y at z)
  where
    go : (x : Answer ReadingCause Value) → then x (λ a r. if (not (none_left r)) (refused Trailing (length r)) λ _. got a r) ≡ got v w → x ≡ got v w
    go (got a r) z = test (none_left r) (λ y. rw y at z) λ y. absurd (refused≢got (rw y at z))
    go (refused c l) z = absurd (refused≢got z)

-- the place of a refusal lies in the message
within_low : {n : ℕ} (x : Answer ReadingCause Value) → Within n x → (c : ReadingCause) (l : ℕ) → x ≡ refused c l → l ≤ n
within_low (got a r) answers c l e = absurd (refused≢got (sym e))
within_low (refused d k) (names h) c l e = let q : k ≡ l = cc in omega arith

module _ (T : Table) (n t : ℕ) (m buf : List ℕ) where
  pub out_type : n ≤ t → Says (read_outcome T n t m buf) (refusal (of_table Unknown)) buf
  unfolding read_outcome
  out_type h = let e : ltb t n ≡ false = le-ltb t n h in (simp (run, e), simp (run, e))

  pub out_long : t < n → 8192 < length m → Says (read_outcome T n t m buf) (refusal (of_message (MessageLength 0))) buf
  unfolding read_outcome
  out_long h l =
      let e : ltb t n ≡ true = lt-ltb t n h in
      let f : leb (length m) 8192 ≡ false = lt-leb (length m) 8192 l in
      (simp (run, e, f), simp (run, e, f))

module _ (T : Table) (t : ℕ) (m : List ℕ) (r : Result Judged Unread) (p : r ≡ told m size (read_message T 24 t m)) where
  pub refused_within : (c : ReadingCause) (l : ℕ) → r ≡ unread c l → l ≤ length m
  refused_within c l e =
      within_low (read_message T 24 t m) (message_says T 24 t m) c l (told_refused m size (read_message T 24 t m) r p c l e)

  module _ (n : ℕ) (buf : List ℕ) (h : t < n) (l : length m ≤ 8192) where
    -- the outcome once the message is read
    whole : (x : Answer ReadingCause Value) → read_message T 24 t m ≡ x → read_outcome T n t m buf ≡ after_reading m buf x
    unfolding read_outcome
    whole x q =
        let e : ltb t n ≡ true = lt-ltb t n h in
        let f : leb (length m) 8192 ≡ true = le-leb (length m) 8192 l in
        simp (run, e, f, q)

    pub out_refused : (c : ReadingCause) (i : ℕ) → r ≡ unread c i → Says (read_outcome T n t m buf) (refusal (of_message (message_cause c (length m - i)))) buf
    unfolding after_reading
    out_refused c i e =
        let o = whole (refused c i) (told_refused m size (read_message T 24 t m) r p c i e) in
        (rw o, rw o)

    module _ (e s : ℕ) (d : r ≡ judged e s) where
      -- the value that was read, and how many octets it has
      record Accepted : Type 0 where
        value : Value
        rest : List ℕ
        is : read_message T 24 t m ≡ got value rest
        size : s ≡ cap (size value)

      accepted : Accepted
      accepted = let (v, w, x, _, y) = told_done m size (read_message T 24 t m) r p e s d in record { value = v; rest = w; is = x; size = y }

      lacks : min 16384 (length buf) < size accepted.value → Says (read_outcome T n t m buf) (refusal (of_message ValueRoom)) buf
      unfolding after_reading
      lacks k =
          let o = whole (got accepted.value accepted.rest) accepted.is in
          let f : leb (size accepted.value) (min 16384 (length buf)) ≡ false = lt-leb _ _ k in
          (rw o (simp (run, f)), rw o (simp (run, f)))

      pub out_over : 16384 < s → Says (read_outcome T n t m buf) (refusal (of_message ValueRoom)) buf
      out_over k = lacks (omega (arith, accepted.size))

      pub out_room : s ≤ 16384 → length buf < s → Says (read_outcome T n t m buf) (refusal (of_message ValueRoom)) buf
      out_room j k = lacks (omega (arith, accepted.size))

      module _ (j : s ≤ 16384) (k : s ≤ length buf) where
        size_is : size accepted.value ≡ s
        size_is = omega (arith, accepted.size)

        held_is : read_held T (read_value T 24) (message t) (mode false) m ≡ got accepted.value accepted.rest
        held_is = accepted_held T 24 t m accepted.value accepted.rest accepted.is

        pub fits : Fits (read_held T (read_value T 24) (message t) (mode false) m) 0 buf
        fits = record { value = accepted.value; rest = accepted.rest; is = held_is; room = omega (arith, size_is) }

        pub out_done : (w : List ℕ)
            → ((v : Value) → (rest : List ℕ) → read_held T (read_value T 24) (message t) (mode false) m ≡ got v rest → w ≡ sets buf 0 (octets v))
            → Says (read_outcome T n t m buf) (done s) w
        unfolding after_reading
        out_done w a =
            let v = octets accepted.value in
            let o = whole (got accepted.value accepted.rest) accepted.is in
            let f : leb (length v) (min 16384 (length buf)) ≡ true = le-leb (length v) (min 16384 (length buf)) (omega (arith, size_is)) in
            let b : w ≡ sets buf 0 v = a accepted.value accepted.rest held_is in
            let z : sets buf 0 v ≡ take 0 buf ++ v ++ drop (0 + length v) buf = sets-eq v buf 0 (omega (arith, size_is)) in
            (rw o (simp (run, f) (ap done (sym size_is))), b ∙ z ∙ rw o (simp (run, f, zero-add)))
