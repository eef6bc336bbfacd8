-- The ways through the search for where the members of a SET begin.
-- Assumes nothing.
use mathlib.Core.Bool.{Bool, true, false, ◌&&◌, ◌||◌, true≢false}
use mathlib.Core.List.{List}
use mathlib.Core.Path.{◌≡◌, refl, sym, ap, ◌∙◌}
use Prim.Native.Nat.{ℕ, ◌+◌, ◌≤◌, ◌<◌, min}
use native.Mathlib.Omega.{arith}
use lib.Dec.{eqb}
use lib.ListN.{length, get_or, drop, set}
use Rattle.std.specs.Prelude.{Result, Ok, Err}
use Rattle.x690.specs.declared.ReadingCause.{ReadingCause}
use Rattle.octets.specs.Answer.{none_left}
use Rattle.ber.specs.Skipping.{Skips}
use Rattle.table.specs.Syntax.{Member, Plain, Sequence, Set, SequenceOf, SetOf, Choice, Table}
use Rattle.table.specs.Reading.{table_in, count_in}
use Rattle.kinds.specs.Kinds.{octet_of}
use Rattle.records.specs.Descriptors.{described}
use Rattle.coding.specs.Reading.{read_value}
use Rattle.coding.proofs.FirstTags.{good}
use Rattle.reader.specs.Items.{Holder, inside, message, Manner, in_turn, each_once, repeated, single, manner, parts_of, since, next, blank}
use Rattle.reader.specs.Records.{Known}
use Rattle.reader.specs.Sought.{held, Sound, tabled_count, Sought}
use Rattle.reader.specs.Placing.{end_at, Spotted}
use Rattle.reader.specs.declared.search.Choice.{Choice as Chosen}
use Rattle.reader.proofs.Spans.{turns_by, by_member, EntryOf, entry_of}
use Rattle.reader.proofs.PlacedTurns.{over_at, awaited, over_at_lem}
use Rattle.reader.proofs.PlacedSpots.{Spotting, spotting_first, spotted, spotted_none, spotting_turn}
use Rattle.checker.proofs.Ready.{Ready}

-- what an entry of the kind of a SET stands for
once_is : (k : Manner) → turns_by k ≡ false → by_member k ≡ true → k ≡ each_once
once_is in_turn e f = absurd (true≢false e)
once_is each_once e f = refl
once_is repeated e f = absurd (true≢false (sym f))
once_is single e f = absurd (true≢false (sym f))

-- it has members
the_members : (h : Holder) → manner h ≡ each_once → (ms : List Member) × (h ≡ inside (Set ms))
unfolding manner
the_members (inside (Plain k)) e = absurd (true≢false (ap is_single_lem e))
  where
    is_single_lem : Manner → Bool
    is_single_lem single = true
    is_single_lem in_turn = false
    is_single_lem each_once = false
    is_single_lem repeated = false
the_members (inside (Sequence ms)) e = absurd (true≢false (ap turns_by e))
the_members (inside (Set ms)) e = (ms, refl)
the_members (inside (SequenceOf t)) e = absurd (true≢false (sym (ap by_member e)))
the_members (inside (SetOf t)) e = absurd (true≢false (sym (ap by_member e)))
the_members (inside (Choice ts)) e = absurd (true≢false (sym (ap by_member e)))
the_members (message t) e = absurd (true≢false (sym (ap by_member e)))

module _ {b index : List ℕ} (R : Ready b index) {w : ℕ} (known : Known b index w) where
  its : EntryOf b (described w)
  its = entry_of R w known

  pub set_once : (octet_of (described w).kind) ≡ 17 → manner (held b w) ≡ each_once
  set_once k =
      once_is (manner (held b w)) (sym its.sequence ∙ ap (λ (n : ℕ). eqb n 16) k) (sym its.members ∙ ap (λ (n : ℕ). eqb n 16 || eqb n 17) k)

  pub set_members : (octet_of (described w).kind) ≡ 17 → (ms : List Member) × (held b w ≡ inside (Set ms))
  set_members k = the_members (held b w) (set_once k)

  -- what the search relies on
  pub set_sound : (octet_of (described w).kind) ≡ 17 → (came : List ℕ) → Sound b index w came
  set_sound k came = record { known = known; clear = λ f p. absurd (f (set_once k)) }

  pub set_few : (ms : List Member) → held b w ≡ inside (Set ms) → length ms ≤ 16
  unfolding tabled_count parts_of
  set_few ms e = let n : tabled_count (held b w) ≡ length ms = ap tabled_count e in omega (arith, its.spanned.few, its.spanned.count)

next_is : (b ns s : List ℕ) (h : Holder) (ms : List Member) → h ≡ inside (Set ms)
    → next (table_in b) h (since (manner h) 0) ns s ≡ next (table_in b) (inside (Set ms)) 0 ns s
unfolding manner since
next_is b ns s h ms q = ap (λ (h : Holder). next (table_in b) h (since (manner h) 0) ns s) q

-- a member that begins
module _ {b index : List ℕ} (R : Ready b index) {w : ℕ} (known : Known b index w) (ns s way : List ℕ) (r : Result Chosen ReadingCause)
    (S : Sought b (held b w) (since (manner (held b w)) 0) ns s way r) (x : Chosen) (q : r ≡ Ok x) where
  found_is : Sought b (held b w) (since (manner (held b w)) 0) ns s way (Ok x)
  found_is = rw q at S

  pub place_low : (octet_of (described w).kind) ≡ 17 → x.place < 16
  unfolding parts_of
  place_low k =
      let (ms, h) = set_members R known k in
      let (part, i, n, d, f, g, y) = found_is in
      let z = sym (next_is b ns s (held b w) ms h) ∙ n in
      let A = awaited (table_in b) (read_value (table_in b) 24) (inside (Set ms)) 0 ns s (x.place, part) (omega arith) z in
      omega (arith, A.most, set_few R known ms h)

  pub end_further : (end : ℕ) → min x.from (length s) ≤ end → 0 < end
  end_further end l = let (part, i, n, d, f, g, y) = found_is in omega arith

module _ {b index : List ℕ} (R : Ready b index) {w : ℕ} (known : Known b index w) (m : List ℕ) (indefinite : Bool) where
  abbrev T : Table
  T = table_in b

  -- whatever its members, they are known so far
  abbrev pub Located : List ℕ → ℕ → Type 0
  Located ns at = (ms : List Member) → held b w ≡ inside (Set ms) → Spotting T ms indefinite m ns at

  pub located_first : (ns : List ℕ) → ns ≡ blank → Located ns 0
  located_first ns e ms h = spotting_first T ms indefinite m ns (set_few R known ms h) e

  module _ (ns : List ℕ) (at : ℕ) (low : at ≤ length m) (L : Located ns at) (over : Bool)
      (eo : over ≡ (none_left (drop at m) || (indefinite && eqb (get_or m at 0) 0))) where
    over_is : over ≡ over_at indefinite (drop at m)
    over_is = over_at_lem m at indefinite over eo

    -- contents are over
    pub located_over : over ≡ true → (e : ℕ) → e ≡ end_at indefinite at → (ms : List Member) → held b w ≡ inside (Set ms) → Spotted T ms indefinite m ns e
    located_over t e ee ms h = rw ee (spotted T ms indefinite m ns at low (L ms h) (sym over_is ∙ t))

    module _ (more : over ≡ false) (way : List ℕ) (r : Result Chosen ReadingCause) (S : Sought b (held b w) (since (manner (held b w)) 0) ns (drop at m) way r) where
      -- no member begins
      pub located_none : (c : ReadingCause) → r ≡ Err c → (e : ℕ) (ms : List Member) → held b w ≡ inside (Set ms) → Spotted T ms indefinite m ns e
      located_none c q e ms h =
          let n = (rw q at S).0 in
          spotted_none T ms indefinite m ns at low (L ms h) (sym over_is ∙ more) (sym (next_is b ns (drop at m) (held b w) ms h) ∙ n) e

      -- one does, and is passed over
      pub located_turn : (x : Chosen) → r ≡ Ok x → (end : ℕ) → ((w : List ℕ) → Skips (drop at m) x.from w → drop end (drop at m) ≡ w)
          → Located (set ns x.place (at + 1)) (at + end)
      located_turn x q end skips ms h =
          let (part, i, n, d, f, g, y) = found_is R known ns (drop at m) way r S x q in
          spotting_turn T ms indefinite m ns at low (L ms h) (sym over_is ∙ more) (good b T (count_in b) R.passes) (x.place, part)
          (sym (next_is b ns (drop at m) (held b w) ms h) ∙ n) i x.from d end skips
