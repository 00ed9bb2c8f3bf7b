use Rattle.std.proofs.Common.{string_bytes}
use Rattle.printing.proofs.Laying.{Left}
use Rattle.formula_text.specs.Tables.{heading, record_line}
use Rattle.formula_text.proofs.table.records_table.Given as goal

-- what is written and what is left are the whole table
abbrev pub invariant-loop-index : goal.invariant-loop-index
invariant-loop-index l = Left record_line heading l.records (string_bytes l.out) l.index
