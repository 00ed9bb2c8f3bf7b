use Rattle.std.proofs.Common.{◌≡◌, take, string_bytes}
use Rattle.layers.specs.Holds.{held_model}
use Rattle.calls_text.specs.Holdings.{holds_text, all_held}
use Rattle.calls_text.proofs.hold.hold_states.Given as goal

-- the states so far are held, and what came of them is printed
abbrev pub invariant-loop-state : goal.invariant-loop-state
invariant-loop-state g l =
    let m = g.S.Source.model l.fn.layer.below in
    record {
      told : string_bytes l.out ≡ holds_text m.states (take l.state-index l.states);
      below : l.layer.below ≡ l.fn.layer.below;
      model : held_model (g.S.Source.model l.layer.below) l.layer.held ≡ all_held (take l.state-index l.states) (held_model m l.fn.layer.held);
    }
