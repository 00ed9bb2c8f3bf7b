use Rattle.std.proofs.Common.{◌≡◌, [], ◌++◌, string_bytes, arith, rules}
use Rattle.std.proofs.lemmas.List.FromFn.{length-map-range_with_len}
use Rattle.printing.specs.Layouts.{state_of, laid_state}
use Rattle.printing.proofs.Laying.{left_made, left_none}
use Rattle.printing.proofs.lay.Laid.states.Goals as goal

pub loop-state-preserved : goal.loop-state-preserved
loop-state-preserved g c =
    let m = g.S.Source.model c.args.self.now.source.now in
    let s = c.loop-state.state in
    let pushed : string_bytes c.push_str.new.self ≡ string_bytes c.loop-state.out ++ laid_state (g.L.Style.layout c.args.self.now.style) s (state_of m s) = search rules in
    left_made _ [] (state_of m) _ _ _ s (omega arith) pushed c.loop-state.invariant

pub returns : goal.returns
returns g c =
    let m = g.S.Source.model c.args.self.now.source.now in
    left_none _ [] _ _ c.loop-state.state (omega (arith, length-map-range_with_len (state_of m) 0 m.states)) c.loop-state.invariant
