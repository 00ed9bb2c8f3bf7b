use Rattle.std.proofs.Common.{◌≡◌, ◌++◌, length, drop, None, map, ap, ◌∙◌, subst, string_bytes, arith}
use Rattle.std.proofs.lemmas.List.{take_at}
use Rattle.replay.specs.Replays.{Replayed}
use Rattle.calls_text.specs.Requests.{given}
use Rattle.calls_text.specs.Holdings.{holds_text, all_held}
use Rattle.calls_text.specs.Prints.{printed as calls_printed}
use Rattle.console.specs.Replies.{printed}
use Rattle.console.proofs.trial_reply.trialed.Goals as goal

-- the layer stands for the model with the states held, so the calls were replayed over that; what is printed are the two texts, the second of the calls
-- as the replay left them
pub returns : goal.returns
returns g c =
    let m = g.S.Source.model c.args.source.now in
    let holds = c.args.script.holds.items in
    let calls = c.args.script.calls in
    let before = c.as_mut_slice.result.now in
    let after = c.replay.new.calls in
    let held = c.in_ok-text.ensures.model ∙ ap (all_held c.as_slice.result.now) c.over-layer.ensures.model ∙ ap (λ l. all_held l m) c.as_slice.ensures.value in
    let played = subst (λ k. Replayed k before after) held c.replay.ensures in
    let states_text : string_bytes c.in_ok-text.text ≡ holds_text m.states holds =
    c.in_ok-text.ensures.text ∙ ap (λ b. holds_text (g.S.Source.model b.now).states c.as_slice.result.now) c.over-layer.ensures.source ∙ ap (holds_text m.states) c.as_slice.ensures.value in
    let as_many : length after ≡ calls.len = omega (arith, c.replay.ensures.number, c.as_mut_slice.ensures.len) in
    let below = c.in_ok-text.ensures.source ∙ c.over-layer.ensures.source in
    let left = c.as_slice-2.ensures.value ∙ take_at after (drop (length after) calls.items) calls.len as_many in
    let calls_text = c.as_str.ensures.value ∙ c.in_ok-answers.ensures ∙ ap (λ b. calls_printed (g.S.Source.model b.now).states None c.as_slice-2.result.now) below ∙ ap (calls_printed m.states None) left in
    record {
      before = before;
      after = after;
      asked = ap (map given) c.as_mut_slice.ensures.value;
      replayed = played;
      verdicts = c.requires (all_held holds m) after (subst (λ l. Replayed (all_held holds m) l after) c.as_mut_slice.ensures.value played);
      answer = c.printed.ensures ∙ ap printed (c.in_ok-push_str.ensures.bytes ∙ ap (λ l. l ++ c.as_str.result.now) states_text ∙ ap (λ l. holds_text m.states holds ++ l) calls_text);
    }
