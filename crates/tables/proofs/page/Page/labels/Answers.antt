use Rattle.std.proofs.Common.{true, false, sym, ◌∙◌}
use Rattle.text.proofs.Flags.{labels_are}
use Rattle.tables.proofs.Pages.{put_same}
use Rattle.tables.proofs.page.Page.labels.Goals as goal

pub returns-then-contains : goal.returns-then-contains
returns-then-contains c = put_same (labels_are c.args.labels.now.letters true (sym c.if-contains.true ∙ c.contains.ensures.value)) c.letters.ensures

pub returns-else-contains : goal.returns-else-contains
returns-else-contains c = put_same (labels_are c.args.labels.now.letters false (sym c.if-contains.false ∙ c.contains.ensures.value)) c.byte.ensures
