use Rattle.tables.proofs.FreshLaws.{fresh_within, fresh_long, fresh_rising, fresh_spanned, fresh_sized}
use Rattle.tables.proofs.tables.Tables.new.Goals as goal

pub invariant_of-result : goal.invariant_of-result
invariant_of-result c =
    let f = c.in_ok-kept.kept in
    let e = c.in_ok-kept.ensures in
    record { within = fresh_within f e; long = fresh_long f e; rising = fresh_rising f e; spanned = fresh_spanned f e; sized = fresh_sized f e }
