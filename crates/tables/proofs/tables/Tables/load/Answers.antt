use Rattle.std.proofs.Common.{length, sym, refl, ap, subst, rules}
use Rattle.text_laws.proofs.Complete.{unique}
use Rattle.flat.specs.Reads.{Holds}
use Rattle.flat.proofs.Reading.{refused_none}
use Rattle.tables.specs.Loads.{Rejected}
use Rattle.tables.proofs.Keeping.{within_keeps}
use Rattle.tables.proofs.tables.Tables.load.Goals as goal

pub returns-in_err-read : goal.returns-in_err-read
returns-in_err-read c =
    let text = c.args.text.now in
    let fault = c.in_err-read.field-0.0 in
    let e = c.in_err-read.ensures.0 in
    let r : Rejected text fault c.args.self.now.kept c.args.self.now.kept = record { first = e; unchanged = refl; none = refused_none text fault e } in
    search rules

pub invariant_of-self-2 : goal.invariant_of-self-2
invariant_of-self-2 c =
    let h = subst (Holds c.args.text.now) (sym c.swap.ensures.x_after) c.in_ok-read.ensures.1 in
    record { within = within_keeps _ h.describes.within; long = h.long; rising = h.rising; spanned = h.spanned; sized = ap length h.describes.is }

pub returns : goal.returns
returns c =
    let text = c.args.text.now in
    let read = c.in_ok-read.ensures in
    let h = subst (Holds text) (sym c.swap.ensures.x_after) read.1 in
    record { passed = read.0; describes = h.describes; only = λ e d. unique text e _ d h.describes }
