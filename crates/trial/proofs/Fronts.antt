-- Rounds on the front of a list that is longer than there are states.
use Rattle.std.proofs.Common.{◌≡◌, ℕ, ◌<◌, Bool, List, ◌++◌, map, length, get_or, take, sym, ap, ◌∙◌, arith, get_or-take}
use Rattle.std.proofs.lemmas.List.{get_or_append_left, get_or_default, length-map, map-append, take-map}
use Rattle.model.specs.Mdp.{Mdp, Lawful}
use Rattle.theory.specs.Rules.{RuleLaws}
use Rattle.theory.specs.Rounds.{rounds}
use Rattle.theory.proofs.Bridge.{rounds_same}
use Rattle.rules.specs.Values.{told}
use Rattle.rounds.specs.Runs.{values_after}
use Rattle.rounds.proofs.Lists.{told_after}

-- the values of the states after k rounds are those of rounds from the whole list
pub front_rounds : {V : Type 0} (preferred : V → V → Bool) (mix : ℕ → List (ℕ × V) → V) → RuleLaws preferred mix → (m : Mdp) → Lawful m → (n : ℕ) → n ≡ m.states →
    (values new rest : List V) (d : V) (k s : ℕ) → s < m.states → length new ≡ m.states → new ≡ values_after preferred mix m (take n values) d k →
    get_or (new ++ rest) s d ≡ rounds preferred mix k m (told values d) s
front_rounds preferred mix laws m l n e values new rest d k s h long f =
    get_or_append_left new rest d s (omega arith) ∙ ap (λ vs. get_or vs s d) f ∙ told_after preferred mix laws m l (take n values) d k s h
    ∙ rounds_same preferred mix laws m l (told (take n values) d) (told values d) (λ t q. get_or-take n values t d (omega arith)) k s h

-- the same of rounds of what f gives for each value, on the front of the list
pub front_mapped : {V W : Type 0} (f : V → W) (preferred : W → W → Bool) (mix : ℕ → List (ℕ × W) → W) → RuleLaws preferred mix → (m : Mdp) → Lawful m → (n : ℕ) → n ≡ m.states →
    (values new rest : List V) (d e : W) (k s : ℕ) → s < m.states → length new ≡ m.states → map f new ≡ values_after preferred mix m (map f (take n values)) d k →
    get_or (map f (new ++ rest)) s e ≡ rounds preferred mix k m (told (map f values) d) s
front_mapped f preferred mix laws m l n same values new rest d e k s h long ran =
    let mapped : length (map f new) ≡ m.states = length-map new f ∙ long in
    let below : s < length (map f new) = omega arith in
    rw (map-append f new rest) (get_or_append_left (map f new) (map f rest) e s below ∙ get_or_default (map f new) s e d below ∙ sym (get_or_append_left (map f new) (map f rest) d s below)
    ∙ front_rounds preferred mix laws m l n same (map f values) (map f new) (map f rest) d k s h mapped (ran ∙ ap (λ vs. values_after preferred mix m vs d k) (sym (take-map f n values))))
