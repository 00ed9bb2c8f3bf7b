-- Chapter 1. Paths and adversaries: who makes the choices.
-- A path that has been walked is the list of its states, newest first, so that one more step is one more element in front.
use Rattle.std.specs.Prelude.{ℕ, ◌<◌, List, ◌∷◌, length}
use Rattle.model.specs.Mdp.{Mdp, Row, Lawful, row}

-- an adversary names, for every path, a choice of the path's last state; it may use all that the path tells
abbrev pub Adversary : Type 0
Adversary = List ℕ → ℕ

-- it is allowed in a model if it always names a choice that the last state has
abbrev pub Allowed : Mdp → Adversary → Type 0
Allowed m σ = (h : List ℕ) (s : ℕ) → s < m.states → σ (s ∷ h) < length (m.choices s)

-- the row that the adversary takes in the state s after the path h
abbrev pub chosen : Mdp → Adversary → List ℕ → ℕ → Row
chosen m σ h s = row m s (σ (s ∷ h))

-- the first theorem: a lawful model has an allowed adversary, so that what is said of all of them is not said of none
abbrev pub AnAdversaryExists : Type 0
AnAdversaryExists = (m : Mdp) → Lawful m → (σ : Adversary) × Allowed m σ
