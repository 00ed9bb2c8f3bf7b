use Rattle.std.proofs.Common.{rules}
use Rattle.text.specs.Texts.{text_of}
use Rattle.flat.specs.Flats.{content}
use Rattle.tables.proofs.Pages.{page_wrote}
use Rattle.tables.proofs.tables.Tables.write.Goals as goal

pub returns : goal.returns
returns c =
    let t = c.args.self.now in
    let wrote = page_wrote (text_of (content t.kept)) c.args.out.now c.new.result c.put_text.new.page t.size c.new.ensures.blank c.new.ensures.empty c.put_text.ensures t.sized c.if-self-out.false in
    search rules
