use Rattle.std.proofs.Common.{◌<◌, length, arith, below_more}
use Rattle.trial.proofs.Bytes.{byte_kept, byte_set}
use Rattle.trial.proofs.rows.write_row.Goals as goal

pub loop-state-preserved : goal.loop-state-preserved
loop-state-preserved g c =
    let i = c.loop-state.state in
    let taken = c.loop-state-test.true in
    let lt : i < length c.loop-state.row = omega arith in
    -- an earlier byte is as it was, and this one is the number of its verdict
    below_more _ _
    (λ s h. let old = c.loop-state.invariant s h in (old.0, old.1, byte_kept c.loop-state.row i c.number.result s _ h old.2))
    (c.verdict.result, c.verdict.ensures, byte_set c.loop-state.row i c.number.result _ lt c.number.ensures)

pub returns-clause-written : goal.returns-clause-written
returns-clause-written g c = let all = c.loop-state-test.false in λ s h. c.loop-state.invariant s (omega arith)
