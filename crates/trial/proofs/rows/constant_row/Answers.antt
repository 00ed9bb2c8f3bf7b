use Rattle.std.proofs.Common.{ℕ, length, replicate, ap, ◌∙◌}
use Rattle.std.specs.List.{range_with_len}
use Rattle.std.proofs.lemmas.List.FromFn.{length-range_with_len}
use Rattle.std.proofs.lemmas.Simd.{splat_is_map}
use Rattle.trial.specs.VerdictBytes.{verdict_number, verdict_by}
use Rattle.trial.proofs.rows.constant_row.Goals as goal

pub returns : goal.returns
returns c =
    let n = length c.args.row.now in
    let holds = c.args.holds in
    -- the row has one byte n times, as a map that gives it for each state does
    c.fill.ensures.after (λ y e. e)
    ∙ ap (λ (b : ℕ). replicate n b) (c.number.ensures ∙ ap verdict_number c.by.ensures)
    ∙ splat_is_map (range_with_len 0 n) n (verdict_number (verdict_by holds holds)) (length-range_with_len 0 n)
