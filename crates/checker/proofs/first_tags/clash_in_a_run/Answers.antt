-- One run more.
use Rattle.std.proofs.Common.{arith}
use Rattle.std.proofs.lemmas.Bool.{true≢false, false≢true}
use Rattle.checker.proofs.Runs.{remaining_all, its_count, compares_run, remaining_clash, remaining_next, remaining_none}
use Rattle.checker.proofs.first_tags.clash_in_a_run.Goals as goal

pub loop-left-init : goal.loop-left-init
loop-left-init c = remaining_all c.requires.0 c.requires.1

pub clash-requires : goal.clash-requires
clash-requires c = compares_run c.loop-left.invariant c.loop-left-test.true c.run_length-count.ensures c.requires.0

pub returns-then-clash : goal.returns-then-clash
returns-then-clash c = (
  λ _. remaining_clash c.loop-left.invariant c.loop-left-test.true c.run_length-count.ensures c.clash.ensures c.if-clash.true,
  λ z. absurd (true≢false z),
)

pub overflow_mul-first : goal.overflow_mul-first
overflow_mul-first c = omega (arith, c.loop-left.invariant.few, (its_count c.loop-left.invariant c.loop-left-test.true c.run_length-count.ensures).0)

pub overflow_add-first : goal.overflow_add-first
overflow_add-first c = omega (arith, c.loop-left.invariant.near, (its_count c.loop-left.invariant c.loop-left-test.true c.run_length-count.ensures).0)

pub overflow_sub-left : goal.overflow_sub-left
overflow_sub-left c = omega (arith, (its_count c.loop-left.invariant c.loop-left-test.true c.run_length-count.ensures).0)

pub loop-left-preserved : goal.loop-left-preserved
loop-left-preserved c = remaining_next c.loop-left.invariant c.loop-left-test.true c.run_length-count.ensures c.clash.ensures c.if-clash.false

pub loop-left-smaller : goal.loop-left-smaller
loop-left-smaller c = let n = its_count c.loop-left.invariant c.loop-left-test.true c.run_length-count.ensures in omega (arith, n.0, n.1)

pub returns : goal.returns
returns c = (λ z. absurd (false≢true z), λ _. remaining_none c.loop-left.invariant c.loop-left-test.false)
