use Rattle.std.proofs.Common.{rules}
use Rattle.tables.proofs.Spans.{states_count}
use Rattle.tables.proofs.source.TablesSource.states.Goals as goal

pub returns : goal.returns
returns c = search (rules, states_count)
