-- By the bounds of what is counted.
-- Assumes nothing.
use Rattle.std.proofs.Common.{w64, arith}
use mir.ValLaws.{to_z-of_z}
use Rattle.simple.proofs.Sizes.{size_is}
use Rattle.simple.proofs.integer.size.Goals as goal

pub returns-then-n-lt128 : goal.returns-then-n-lt128
returns-then-n-lt128 c = size_is 0 _ c.ranges.z c.magnitude-n.ensures (omega arith) (omega arith) (omega arith)

pub returns-then-n-lt32768 : goal.returns-then-n-lt32768
returns-then-n-lt32768 c = size_is 1 _ c.ranges.z c.magnitude-n.ensures (omega arith) (omega arith) (omega arith)

pub returns-then-n-lt8388608 : goal.returns-then-n-lt8388608
returns-then-n-lt8388608 c = size_is 2 _ c.ranges.z c.magnitude-n.ensures (omega arith) (omega arith) (omega arith)

pub returns-then-n-lt2147483648 : goal.returns-then-n-lt2147483648
returns-then-n-lt2147483648 c = size_is 3 _ c.ranges.z c.magnitude-n.ensures (omega arith) (omega arith) (omega arith)

pub returns-then-n-lt549755813888 : goal.returns-then-n-lt549755813888
returns-then-n-lt549755813888 c = size_is 4 _ c.ranges.z c.magnitude-n.ensures (omega arith) (omega arith) (omega arith)

pub returns-then-n-lt140737488355328 : goal.returns-then-n-lt140737488355328
returns-then-n-lt140737488355328 c = size_is 5 _ c.ranges.z c.magnitude-n.ensures (omega arith) (omega arith) (omega arith)

pub returns-then-n-lt36028797018963968 : goal.returns-then-n-lt36028797018963968
returns-then-n-lt36028797018963968 c = size_is 6 _ c.ranges.z c.magnitude-n.ensures (omega arith) (omega arith) (omega arith)

pub returns : goal.returns
returns c =
    let e = rw (to_z-of_z w64 c.args.z c.ranges.z) at c.magnitude-n.ensures in
    size_is 7 _ c.ranges.z c.magnitude-n.ensures (omega arith) (omega arith) (omega arith)
