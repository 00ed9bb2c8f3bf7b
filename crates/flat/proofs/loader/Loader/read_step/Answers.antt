use Rattle.std.proofs.Common.{◌≡◌, true, Ok, sym, ◌∙◌, subst, rules}
use Rattle.text.specs.Cuts.{fields}
use Rattle.flat.specs.Readings.{LineRead, all_there}
use Rattle.text_laws.proofs.CompleteFits.{not_refused}
use Rattle.flat.proofs.Following.{there}
use Rattle.flat.proofs.loader.Loader.read_step.Goals as goal

-- the line has no fault, all states are there if it is the end, and what it says is put
pub returns-clause-read : goal.returns-clause-read
returns-clause-read c = λ before k.
    let line = fields c.args.line.now in
    let said = c.in_ok-record.record in
    let was : c.read_line.result ≡ Ok said = search rules in
    let all : all_there c.args.self.now said ≡ true = sym c.states_there.ensures ∙ c.if-not-states_there.false in
    let read : LineRead before line (Ok said) = subst (LineRead before line) was (c.read_line.ensures.read before k) in
    (not_refused before c.args.number line read.0 (there line before c.args.self.now said k read.1 ∙ all), record { said = said; says = read.1; put = c.put.ensures.put })
