use Rattle.std.proofs.Common.{map}
use Rattle.limits_text.proofs.Reporting.{ReportedTo}
use Rattle.limits_text.proofs.list.report_list.Given as goal

-- the lines before this one are reported
abbrev pub invariant-loop-index : goal.invariant-loop-index
invariant-loop-index g l =
    ReportedTo (g.S.Source.model l.source) l.formulas (map (λ p. p.now) l.line-items) l.index (g.W.Write.contents l.fn.out) (g.W.Write.contents l.out) (g.P.Write.contents l.fn.progress) (g.P.Write.contents l.progress) l.outcomes.items
