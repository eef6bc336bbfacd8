-- The places and lengths of answers fit 16 bits.
-- Assumes nothing.
use mathlib.Core.Bool.{not}
use mathlib.Core.List.{List}
use mathlib.Core.Path.{◌≡◌, refl, ap}
use Prim.Native.Nat.{ℕ, ◌<◌}
use native.Mathlib.Omega.{arith}
use lib.Dec.{ltb}
use lib.ListN.{length}
use Rattle.table.specs.Syntax.{Table}
use Rattle.table.specs.Reading.{scan, look}
use Rattle.std.specs.Prelude.{Ok, Err}
use Rattle.table.specs.Verdict.{verdict, Verdict}
use Rattle.table.proofs.Promises.{place_small}
use Rattle.octets.specs.Numbers.{Octets}
use Rattle.octets.proofs.Permutations.{all_octets}
use Rattle.dates.specs.declared.TimeKind.{TimeKind}
use Rattle.coding.specs.declared.Refusal.{Refusal}
use Rattle.coding.specs.declared.JudgingCause.{JudgingCause}
use Rattle.coding.specs.Outcome.{Told, done, refusal, Outcome, place_of}
use Rattle.coding.specs.Conversion.{other_kind, whole_conversion, Refuses, no_version, no_node, no_time, no_room}
use Rattle.coding.proofs.Conversion.{converts_exactly, refuses_exactly}
use Rattle.coding.proofs.Reckoning.{time_short}
use Rattle.coding.specs.Calls.{read_outcome, write_outcome, after_check, whole_read, whole_write, check_answer}
use Rattle.coding.specs.Demands.{ValueRefused, over_long, as_judged}
use Rattle.coding.proofs.Causes.{table_place, value_place, message_place}
use Rattle.coding.proofs.Outcomes.{reading, ReadStage, too_long_lem, is_read, read_stage, writing, WriteStage, is_written, write_stage}
use Rattle.coding.proofs.Stages.{step}
use Rattle.octets.proofs.Answer.{if_cases}
use Rattle.link.specs.Pack.{low_part}

pub check_within : (b : List ℕ) → low_part (check_answer (verdict b)) < 65536
unfolding check_answer
check_within b = by (verdict b) refl
  where
    by : (v : Verdict) → verdict b ≡ v → low_part (check_answer v) < 65536
    by (Ok u) e = omega arith
    by (Err x) e = omega (arith, table_place x.cause x.place, place_small b x.cause x.place e)

-- the place of a refusal in reading, and the length of what was read

placed : {a b : Told} → a ≡ b → low_part b < 65536 → low_part a < 65536
placed e h = rw e h

read_place : (T : Table) (t : ℕ) (m buf : List ℕ) {x : Outcome} → ReadStage T t m buf x → low_part x.answer < 65536
read_place T t m buf (too_long_lem h e) = placed (ap (λ (o : Outcome). o.answer) e) (omega arith)
read_place T t m buf (ReadStage.refused_at c p x e) = placed (ap (λ (o : Outcome). o.answer) e) (omega (arith, message_place c p, x.place, x.within))
read_place T t m buf (ReadStage.no_room x e) = placed (ap (λ (o : Outcome). o.answer) e) (omega arith)
read_place T t m buf (is_read k after x e) = placed (ap (λ (o : Outcome). o.answer) e) (omega (arith, x.its_length, x.short))

judged_place : (T : Table) (t : ℕ) (v : List ℕ) (c : JudgingCause) (p : ℕ) → ValueRefused T t v c p → p < 65536
judged_place T t v c p (over_long h q r) = omega arith
judged_place T t v c p (as_judged l h g e r) = omega arith

write_place : (T : Table) (t : ℕ) (v buf : List ℕ) {x : Outcome} → WriteStage T t v buf x → low_part x.answer < 65536
write_place T t v buf (WriteStage.refused_at c p x e) = placed (ap (λ (o : Outcome). o.answer) e) (omega (arith, value_place c p, judged_place T t v c p x))
write_place T t v buf (WriteStage.no_room x e) = placed (ap (λ (o : Outcome). o.answer) e) (omega arith)
write_place T t v buf (is_written k after x e) = placed (ap (λ (o : Outcome). o.answer) e) (omega (arith, x.its_length, x.within))

module _ (b : List ℕ) (t : ℕ) (buf : List ℕ) (g : Table → Outcome) (h : (T : Table) → low_part (g T).answer < 65536) where
  step_place : (T : Table) (n : ℕ) → low_part (step b t buf g T n).answer < 65536
  step_place T n = if_cases (λ (x : Outcome). low_part x.answer < 65536) (not (ltb t n)) _ _ (λ e. omega arith) λ e. h T

  after_check_lem : (v : Verdict) → verdict b ≡ v → low_part (after_check b buf (step b t buf g) v).answer < 65536
  unfolding after_check
  after_check_lem (Ok u) e = step_place (look b (scan b).offsets) (length (scan b).offsets)
  after_check_lem (Err x) e = omega (arith, table_place x.cause x.place, place_small b x.cause x.place e)

pub read_small : (b : List ℕ) (t : ℕ) (m buf : List ℕ) → Octets m → low_part (whole_read b t m buf).answer < 65536
unfolding whole_read read_outcome
read_small b t m buf o = after_check_lem b t buf (λ T. reading T t m buf) (λ T. read_place T t m buf (read_stage T t m buf o)) (verdict b) refl

pub write_small : (b : List ℕ) (t : ℕ) (v buf : List ℕ) → Octets v → low_part (whole_write b t v buf).answer < 65536
unfolding whole_write write_outcome
write_small b t v buf o = after_check_lem b t buf (λ T. writing T t v buf) (λ T. write_place T t v buf (write_stage T t v buf o)) (verdict b) refl

-- conversions of times
module _ (k : TimeKind) (v : ℕ) (s buf : List ℕ) (o : Octets s) where
  refused_small : {r : Refusal} → Refuses k v s buf r → place_of r < 65536
  refused_small (no_version i) = omega arith
  refused_small (no_node i l) = omega arith
  refused_small (no_time i l n) = omega arith
  refused_small (no_room i c l) = omega arith

  answered : (a : Told) (after : List ℕ) → whole_conversion k v s buf ≡ record { answer = a; buffer = after } → low_part a < 65536
  answered (done n) after e =
      let c = (converts_exactly k v s buf (all_octets s o) n after).0 e in
      placed (ap (λ (x : Outcome). x.answer) c.is) (omega (arith, time_short (other_kind k) c.to))
  answered (refusal r) after e = refused_small ((refuses_exactly k v s buf (all_octets s o) r after).0 e).0

  pub conversion_small : low_part (whole_conversion k v s buf).answer < 65536
  conversion_small = answered (whole_conversion k v s buf).answer (whole_conversion k v s buf).buffer refl
