-- `times::conversion::convert`: the version, then the node, then its counterpart, then the room.
-- Assumes nothing.
use Rattle.std.proofs.Common.{refl, ap, Err}
use Rattle.std.proofs.lemmas.Result.{err_from_is_err_and}
use Rattle.coding.proofs.Conversion.{version_refused, node_refused, time_refused, counterpart_put, outcome_is}
use Rattle.times.proofs.Alone.{time_of, refused_of}
use Rattle.times.proofs.conversion.convert.Goals as goal

pub returns-then-not-is_version : goal.returns-then-not-is_version
returns-then-not-is_version c =
    let a = c.args in
    outcome_is (version_refused a.kind a.version a.time.now a.buf.now c.is_version.ensures c.if-not-is_version.true) refl refl

pub returns-in_err-t : goal.returns-in_err-t
returns-in_err-t c =
    let a = c.args in
    let p = err_from_is_err_and c.from_residual.result c.from_residual.ensures.1 in
    let (k, q, e) = refused_of _ c.in_err-t.ensures in
    rw (p.1, p.2)
    (outcome_is (node_refused a.kind a.version a.time.now a.buf.now c.is_version.ensures c.if-not-is_version.false refl q) (ap Err e) refl)

pub returns-in_err-u : goal.returns-in_err-u
returns-in_err-u c =
    let a = c.args in
    let p = err_from_is_err_and c.from_residual-in_err-u.result c.from_residual-in_err-u.ensures.1 in
    let (k, q, e) = refused_of _ c.in_err-u.ensures in
    rw (p.1, p.2)
    (outcome_is (time_refused a.kind a.version a.time.now a.buf.now c.is_version.ensures c.if-not-is_version.false refl (time_of _ c.in_ok-t.ensures) refl q) (ap Err e) refl)

pub returns : goal.returns
returns c =
    let a = c.args in
    let w = rw c.other_kind.ensures at c.put.ensures in
    outcome_is (counterpart_put a.kind a.version a.time.now a.buf.now c.is_version.ensures c.if-not-is_version.false refl (time_of _ c.in_ok-t.ensures) refl (time_of _ c.in_ok-u.ensures)) w.0 w.1
