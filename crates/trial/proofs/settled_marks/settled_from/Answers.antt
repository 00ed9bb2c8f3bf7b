use Rattle.std.proofs.Common.{drop}
use Rattle.trial.proofs.SettledMarks.{front_settled}
use Rattle.trial.proofs.settled_marks.settled_from.Goals as goal

pub returns : goal.returns
returns g c =
    let x = c.args.source.now in
    let n = c.states-states.result in
    let marks = c.args.marks.values in
    let settled = rw c.unwrap.ensures at c.settle.ensures in
    -- the settled front of the list is that of the whole list
    front_settled c.args.preference (g.S.Source.model x) (g.S.Source.lawful x) n c.states-states.ensures marks c.requires
    _ _ _ (drop n marks) c.unwrap.result settled
