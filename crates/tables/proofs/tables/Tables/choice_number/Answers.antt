use Rattle.std.proofs.Common.{arith, rules}
use Rattle.tables.proofs.Spans.{begins, stands}
use Rattle.tables.proofs.tables.Tables.choice_number.Goals as goal

pub index-requires : goal.index-requires
index-requires c =
    let inside = begins c.args.self.now c.args.state c.args.choice (omega (arith, c.choices.ensures, c.if-choice-choices.true)) in
    search rules

pub overflow_add-result : goal.overflow_add-result
overflow_add-result c =
    let there = stands c.args.self.now c.args.state c.args.choice (omega (arith, c.choices.ensures, c.if-choice-choices.true)) c.index.result.now c.index.ensures in
    search rules

pub returns-then-choice-choices : goal.returns-then-choice-choices
returns-then-choice-choices c = stands c.args.self.now c.args.state c.args.choice (omega (arith, c.choices.ensures, c.if-choice-choices.true)) c.index.result.now c.index.ensures
