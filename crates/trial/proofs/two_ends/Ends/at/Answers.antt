use Rattle.std.proofs.Common.{arith}
use Rattle.trial.proofs.PathRows.{ends_there, ends_past}
use Rattle.trial.proofs.two_ends.Ends.at.Goals as goal

pub returns-then-state-self : goal.returns-then-state-self
returns-then-state-self c = λ n lo hi x. let so_many = x.so_many in let past = c.if-state-self.true in ends_past n lo hi c.args.state (omega arith)

pub returns : goal.returns
returns c = λ n lo hi x.
    let so_many = x.so_many in
    let inside = c.if-state-self.false in
    ends_there n lo hi c.args.self.now x c.args.state (omega arith) c.at.result c.at-2.result c.at.ensures c.at-2.ensures
