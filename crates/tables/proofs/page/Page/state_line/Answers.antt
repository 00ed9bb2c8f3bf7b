use Rattle.tables.proofs.Pages.{put_then}
use Rattle.tables.proofs.page.Page.state_line.Goals as goal

pub returns : goal.returns
returns c = put_then c.bytes.ensures (put_then c.labels.ensures c.byte.ensures)
