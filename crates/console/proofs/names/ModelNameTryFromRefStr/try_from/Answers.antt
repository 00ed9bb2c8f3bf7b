use Rattle.std.proofs.Common.{codes, ok_or, sym, ap, ◌∙◌, ◌++◌}
use Rattle.console.specs.declared.command.Mistake.TheVariants.{NoLadder}
use Rattle.console.proofs.Ladders.{begun_named, other_named}
use Rattle.console.proofs.names.ModelNameTryFromRefStr.try_from.Goals as goal

-- what `strip_prefix` leaves are the numbers of a ladder
pub returns-in-Some : goal.returns-in-Some
returns-in-Some c =
    let left = c.in-Some.ensures.cases in
    c.ok_or.ensures.value ∙ ap (λ o. ok_or o NoLadder) c.ladder_named.ensures ∙ sym (begun_named c.args.name.now c.in-Some.numbers.now (left.1.1 ∙ ap (λ l. codes "ladder:" ++ l) (sym left.2)))

-- where it finds no beginning, the name is a path
pub returns-in-None : goal.returns-in-None
returns-in-None c = sym (other_named c.args.name.now c.in-None.ensures.cases)
