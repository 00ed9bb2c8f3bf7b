use Rattle.std.proofs.Common.{length, string_bytes, Option}
use Rattle.std.specs.Option.{option_map}
use Rattle.printing.proofs.Laying.{Left}
use Rattle.theory.specs.Found.{TwoEnds}
use Rattle.trial.specs.PathEnds.{Told}
use Rattle.limits_text.specs.Tables.{state_line, heading, units_at}
use Rattle.limits_text.proofs.table.table.Given as goal

-- what is written and what is left are the whole table, of whatever ends are told
abbrev pub invariant-loop-state : goal.invariant-loop-state
invariant-loop-state l =
    (two : Option TwoEnds) → Told (length l.row) two (option_map (λ x. x.now) l.ends) → Left (λ s b. state_line s b (units_at two s)) (heading two) l.row (string_bytes l.out) l.state
