use Rattle.std.proofs.Common.{◌≡◌, ◌+◌, Err, sym, ap, ◌∙◌, eqb, rules, tests}
use Rattle.std.proofs.lemmas.Iterator.Consumers.{YieldsList-from_enumerate, YieldsList-at}
use Rattle.std.proofs.lemmas.Iterator.Splits.{YieldsList-from_slice_split}
use Rattle.std.proofs.lemmas.List.{length_push}
use Rattle.std.specs.Result.{result_map_both}
use Rattle.std.specs.Iterator.Adapters.{enumerate_source}
use Rattle.calls_text.specs.Words.{text_lines}
use Rattle.calls_text.specs.Texts.{line_asks, contents_asked}
use Rattle.calls_text.specs.Readings.{begun}
use Rattle.calls_text.proofs.Reading.{read_none, read_wrong, read_more, read_all, replays_read_off, next_line, no_line}
use Rattle.calls_text.proofs.read.read_lines.Goals as goal

-- no line is read, and the loop's parts are those of the text
pub loop-index-init : goal.loop-index-init
loop-index-init c = record {
  read = read_none _ (text_lines c.args.text.now) c.new-script.result c.new-script.ensures.holds c.new-script.ensures.calls;
  parts = YieldsList-from_enumerate (YieldsList-at (let e : enumerate_source c.into_iter-index-iterator.result ≡ c.split.result = cc in e) (YieldsList-from_slice_split _ (λ b. eqb b 10) c.args.text.now c.split.ensures.rest c.split.ensures.done c.split.ensures.closure (λ x r q k. search (rules, tests)))) (cc);
}

-- the line that is read is the next, and with it one more is read
pub loop-index-preserved : goal.loop-index-preserved
loop-index-preserved c =
    let k = c.loop-index.invariant in
    let next = next_line c.args.text.now k.parts c.loop-index.yielded _ c.loop-index.yielded_by _ _ c.next.ensures.steps c.in-Some.index c.in-Some.bytes c.in-Some.is in
    let added = rw c.in_default.is at c.in_ok-wrong.ensures in
    record {
      read = rw (length_push c.loop-index.yielded (c.in-Some.index, c.in-Some.bytes)) (read_more _ _ _ _ k.read _ next.1 next.2 _ added.0 added.1 added.2);
      parts = k.parts;
    }

-- a line that is wrong is the first mistake
pub returns-in-Err-clause-read : goal.returns-in-Err-clause-read
returns-in-Err-clause-read c =
    let k = c.loop-index.invariant in
    let next = next_line c.args.text.now k.parts c.loop-index.yielded _ c.loop-index.yielded_by _ _ c.next.ensures.steps c.in-Some.index c.in-Some.bytes c.in-Some.is in
    let wrong : line_asks c.args.states (begun c.loop-index.script) c.in-Some.bytes.now ≡ Err c.in-Err.wrong = rw c.in-Err.is at c.in_ok-wrong.ensures in
    sym (ap (result_map_both contents_asked (λ m. m)) (read_wrong _ _ _ _ k.read _ next.1 next.2 _ wrong) ∙ ap (λ i. Err (record { line = i + 1; wrong = c.in-Err.wrong })) (sym next.0))

-- all lines are read
pub returns-clause-read : goal.returns-clause-read
returns-clause-read c =
    let k = c.loop-index.invariant in
    read_all _ c.args.text.now _ _ k.read (no_line c.args.text.now k.parts c.loop-index.yielded _ c.loop-index.yielded_by _ _ c.next.ensures.steps c.in-None.is)

-- and each verdict is read off the ends before it
pub returns-clause-verdicts : goal.returns-clause-verdicts
returns-clause-verdicts c = replays_read_off _ _ _ _ c.loop-index.invariant.read
