use Rattle.tables.proofs.Spans.{labels_got}
use Rattle.tables.proofs.source.TablesSource.labels.Goals as goal

pub returns : goal.returns
returns c = labels_got c.args.self.now.kept c.args.state _ _ _ c.unwrap_or_default.ensures c.copied.ensures c.get.ensures.lookup c.deref.ensures.value
