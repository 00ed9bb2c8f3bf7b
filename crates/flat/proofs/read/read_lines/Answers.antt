use Rattle.std.proofs.Common.{◌≡◌, ◌++◌, [], ◌∷◌, eqb, false, true, rules, ◌∙◌, refl, Some}
use borrow.Author.Tests.{tests}
use Rattle.std.proofs.lemmas.Iterator.Consumers.{YieldsList-from_enumerate, YieldsList-at}
use Rattle.std.proofs.lemmas.Iterator.Splits.{YieldsList-from_slice_split}
use Rattle.std.proofs.lemmas.List.{length_push}
use Rattle.std.specs.Iterator.Adapters.{enumerate_source}
use Rattle.text.specs.declared.word.Word.TheVariants as word
use Rattle.text.specs.Cuts.{lines}
use Rattle.text.specs.Words.{one_of}
use Rattle.text.specs.Refusals.{lines_refusal}
use Rattle.flat.specs.Drafts.{Closed}
use Rattle.flat.proofs.Rows.{last-push}
use Rattle.flat.proofs.Reading.{read_none, next_line, no_line, read_fault, read_more, read_end, read_all}
use Rattle.flat.proofs.read.read_lines.Goals as goal

-- no line is read, and the loop's parts are those of what stands before the last LF
pub loop-i-init : goal.loop-i-init
loop-i-init c = record {
  read = read_none (lines (c.args.body.now ++ (10 ∷ []))) c.new-loader.result c.new-loader.ensures.begun;
  same_reference = refl;
  parts = YieldsList-from_enumerate (YieldsList-at (let e : enumerate_source c.into_iter-i-iterator.result ≡ c.split.result = cc in e) (YieldsList-from_slice_split _ (λ b. eqb b 10) c.args.body.now c.split.ensures.rest c.split.ensures.done c.split.ensures.closure (λ x r q k. search (rules, tests)))) (cc);
}

-- the line that is read is the next, and with it one more is read
pub loop-i-preserved : goal.loop-i-preserved
loop-i-preserved c =
    let k = c.loop-i.invariant in
    let next = next_line c.args.body.now k.parts c.loop-i.yielded _ c.loop-i.yielded_by _ _ c.next.ensures.steps c.in-Some.i c.in-Some.line c.in-Some.is in
    let more = read_more _ _ _ c.loop-i.loader k.read _ next c.read_step.new.self (c.in_ok-read_step.ensures.read k.read.before k.read.follows) in
    record {
      read = rw (length_push c.loop-i.yielded (c.in-Some.i, c.in-Some.line)) more;
      same_reference = c.read_step.ensures.same_reference ∙ k.same_reference;
      parts = k.parts;
    }

-- a line that is refused refuses the text
pub returns-in_err-read_step : goal.returns-in_err-read_step
returns-in_err-read_step c =
    let k = c.loop-i.invariant in
    let next = next_line c.args.body.now k.parts c.loop-i.yielded _ c.loop-i.yielded_by _ _ c.next.ensures.steps c.in-Some.i c.in-Some.line c.in-Some.is in
    let refused : lines_refusal [] 1 (lines (c.args.body.now ++ (10 ∷ []))) ≡ Some c.in_err-read_step.field-0.0 = read_fault _ _ _ c.loop-i.loader k.read _ next _ (c.in_err-read_step.ensures.read k.read.before k.read.follows) in
    search rules

-- all lines are read, and the last is no end
pub returns-then-ne : goal.returns-then-ne
returns-then-ne c =
    let k = c.loop-i.invariant in
    let all = no_line c.args.body.now k.parts c.loop-i.yielded _ c.loop-i.yielded_by _ _ c.next.ensures.steps c.in-None.is in
    let no_end : one_of (word.End ∷ []) c.loop-i.loader.last ≡ false = search rules in
    read_end (c.args.body.now ++ (10 ∷ [])) _ c.loop-i.loader k.read all false no_end

-- all lines are read, the last is an end, and the arrays are closed
pub returns : goal.returns
returns c =
    let k = c.loop-i.invariant in
    let body = c.args.body.now in
    let text = body ++ (10 ∷ []) in
    let all = no_line body k.parts c.loop-i.yielded _ c.loop-i.yielded_by _ _ c.next.ensures.steps c.in-None.is in
    let end : one_of (word.End ∷ []) c.loop-i.loader.last ≡ true = search rules in
    let closed : Closed c.loop-i.loader.header.denominator c.loop-i.loader.flat.now c.close.new.self = search rules in
    (read_end text _ c.loop-i.loader k.read all true end, read_all text _ c.loop-i.loader k.read all c.requires.short (last-push body 10 0) end c.close.new.self closed)
