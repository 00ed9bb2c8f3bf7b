use Rattle.std.proofs.Common.{decimal, sym}
use Rattle.tables.proofs.Pages.{put_same, put_then}
use Rattle.tables.proofs.Pieces.{line_fields}
use Rattle.tables.proofs.page.Page.pair.Goals as goal

pub returns : goal.returns
returns c =
    put_same (sym (line_fields c.args.word.now (decimal c.args.first) (decimal c.args.second)))
    (put_then c.bytes.ensures (put_then c.field.ensures (put_then c.field-2.ensures c.byte.ensures)))
