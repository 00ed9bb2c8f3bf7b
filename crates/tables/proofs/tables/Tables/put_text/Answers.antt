use Rattle.std.proofs.Common.{length, sym, ap, ◌∙◌, arith}
use Rattle.text.specs.Contents.{no_state}
use Rattle.text.specs.Texts.{header_line}
use Rattle.flat.specs.Flats.{content}
use Rattle.tables.specs.Pages.{line_text, state_text}
use Rattle.tables.proofs.Pages.{put_same, put_then, put_more, put_all}
use Rattle.tables.proofs.Pieces.{text_is}
use Rattle.tables.proofs.tables.Tables.put_text.Goals as goal

pub loop-state-preserved : goal.loop-state-preserved
loop-state-preserved c =
    let states = (content c.args.self.now.kept).states in
    put_more state_text states c.loop-state.state no_state (omega (arith, c.loop-state-test.true, c.states-state-end.ensures)) c.loop-state.invariant c.put_state.ensures

pub returns : goal.returns
returns c =
    let states = (content c.args.self.now.kept).states in
    let head = ap (λ n. line_text (header_line n c.denominator.result)) c.states.ensures ∙ ap (λ d. line_text (header_line (length states) d)) c.denominator.ensures in
    let body = put_all state_text states c.loop-state.state (omega (arith, c.loop-state-test.false, c.states-state-end.ensures)) c.loop-state.invariant in
    put_same (sym (text_is (content c.args.self.now.kept))) (put_then (put_same head c.pair.ensures) (put_then body c.bytes.ensures))
