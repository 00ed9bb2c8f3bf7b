use Rattle.std.proofs.Common.{◌≡◌, ◌+◌, ◌++◌, min, take, drop, length, get_or, sym, ap, ap₂, ◌∙◌, append_assoc, string_bytes, rules}
use Rattle.std.proofs.lemmas.List.{at_drop_more, take_min, drop_min}
use Rattle.calls_text.specs.Requests.{blank}
use Rattle.calls_text.specs.RecordTexts.{record_line, record_lines}
use Rattle.calls_text.proofs.record_text.record_lines.Goals as goal

-- one line more is written, of the front of what is left of the scratch
pub loop-index-preserved : goal.loop-index-preserved
loop-index-preserved c =
    let n = c.args.states in
    let i = c.loop-index.index in
    let rs = c.args.records.now in
    let rest = c.loop-index.rest.now in
    let out = string_bytes c.loop-index.text in
    let line = record_line i (get_or rs i blank) (take n rest) in
    let within = c.loop-index-test.true in
    let size : min n (length rest) ≡ c.min.result = search rules in
    let row : c.split_at.result.0.now ≡ take n rest = c.split_at.ensures.front ∙ ap (λ k. take k rest) (sym size) ∙ take_min n rest in
    let after : c.split_at.result.1.now ≡ drop n rest = c.split_at.ensures.back ∙ ap (λ k. drop k rest) (sym size) ∙ drop_min n rest in
    let pushed : string_bytes c.write.new.self ≡ out ++ line = search rules in
    ap₂ (λ t left. t ++ record_lines n (i + 1) (drop (i + 1) rs) left) pushed after
    ∙ append_assoc out line (record_lines n (i + 1) (drop (i + 1) rs) (drop n rest))
    ∙ ap (λ t. out ++ t) (sym (at_drop_more (λ xs. record_lines n i xs rest) rs i blank within))
    ∙ c.loop-index.invariant
