-- What comes of the states that a text of calls asks to be held.
use Rattle.std.specs.Prelude.{◌≡◌, ℕ, ◌≤◌, List, [], ◌∷◌, ◌++◌, length, take, cond, Ok, Err, Result, codes, nat_lt}
use Rattle.std.specs.List.{flat_map}
use Rattle.model.specs.Mdp.{Mdp}
use Rattle.layers.specs.declared.fault.HoldFault.{HoldFault}
use Rattle.layers.specs.declared.fault.HoldFault.TheVariants.{Held}
use Rattle.layers.specs.Holds.{held}
use Rattle.printing.specs.Words.{hold_refusal}
use Rattle.calls_text.specs.AnswerTexts.{done_text}

-- what is printed of holding a state, by the answer
abbrev pub hold_text : Result (Unit {0}) HoldFault → List ℕ
hold_text a = done_text (λ e. hold_refusal e ++ codes "\n") a

-- what holding the state s of n answers: is there such a state?
abbrev pub hold_answer : ℕ → ℕ → Result (Unit {0}) HoldFault
hold_answer n s = cond (nat_lt s n) (Ok tt) (Err Held)

-- what is printed of holding states of n in turn
abbrev pub holds_text : ℕ → List ℕ → List ℕ
holds_text n states = flat_map (λ s. hold_text (hold_answer n s)) states

-- the model with those of the states held that there are
abbrev pub all_held : List ℕ → Mdp → Mdp
all_held [] m = m
all_held (s ∷ states) m = all_held states (cond (nat_lt s m.states) (held s m) m)

-- the model after is the one before with the states of some beginning of the list held, those of them that there are
pub record HoldsFront (before after : Mdp) (states : List ℕ) : Type 0 where
  pub number : ℕ
  pub within : number ≤ length states
  pub model : after ≡ all_held (take number states) before
