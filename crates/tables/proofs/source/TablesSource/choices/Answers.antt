use Rattle.std.proofs.Common.{◌+◌, ◌<◌, length, vec_items, arith, rules}
use Rattle.std.proofs.lemmas.List.{get_or_read}
use Rattle.tables.proofs.Spans.{choices_here, state_past}
use Rattle.tables.proofs.source.TablesSource.choices.Goals as goal

pub returns-then-state-len : goal.returns-then-state-len
returns-then-state-len c =
    let f = c.args.self.now.kept in
    let here : c.args.state < length (vec_items f.labels) = search rules in
    let long = c.args.self.now.long in
    let past = get_or_read (vec_items f.starts) (c.args.state + 1) c.index.result.now (omega arith) c.index.ensures 0 in
    let first = get_or_read (vec_items f.starts) c.args.state c.index-then-state-len.result.now (omega arith) c.index-then-state-len.ensures 0 in
    omega (arith, past, first, choices_here f c.args.state here)

pub returns-else-state-len : goal.returns-else-state-len
returns-else-state-len c = search (rules, state_past)
