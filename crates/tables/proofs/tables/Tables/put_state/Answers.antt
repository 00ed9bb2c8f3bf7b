use Rattle.std.proofs.Common.{[], get_or, sym, ap, arith}
use Rattle.text.specs.Contents.{no_state}
use Rattle.text.specs.Texts.{state_line}
use Rattle.flat.specs.Flats.{content}
use Rattle.tables.specs.Pages.{line_text, choice_text}
use Rattle.tables.proofs.Pages.{put_same, put_then, put_more, put_all}
use Rattle.tables.proofs.Pieces.{state_is}
use Rattle.tables.proofs.tables.Tables.put_state.Goals as goal

pub loop-choice-preserved : goal.loop-choice-preserved
loop-choice-preserved c =
    let state = get_or (content c.args.self.now.kept).states c.args.state no_state in
    put_more choice_text state.choices c.loop-choice.choice [] (omega (arith, c.loop-choice-test.true, c.choices-choice-end.ensures)) c.loop-choice.invariant (put_same (ap choice_text c.row.ensures) c.choice.ensures)

pub returns : goal.returns
returns c =
    let state = get_or (content c.args.self.now.kept).states c.args.state no_state in
    let line = put_same (ap (λ flags. line_text (state_line flags)) c.labels.ensures) c.state_line.ensures in
    let choices = put_all choice_text state.choices c.loop-choice.choice (omega (arith, c.loop-choice-test.false, c.choices-choice-end.ensures)) c.loop-choice.invariant in
    put_same (sym (state_is state)) (put_then line choices)
