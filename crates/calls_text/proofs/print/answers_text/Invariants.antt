use Rattle.std.proofs.Common.{◌≡◌, ◌++◌, drop, None, string_bytes}
use Rattle.calls_text.specs.Prints.{printed}
use Rattle.calls_text.proofs.print.answers_text.Given as goal

-- what is printed so far, and what is printed of the calls that are left, are what is printed of all
abbrev pub invariant-loop-call : goal.invariant-loop-call
invariant-loop-call g l =
    let n = (g.S.Source.model l.source).states in
    string_bytes l.printer.out ++ printed n l.printer.kept (drop l.call-index l.calls) ≡ printed n None l.calls
