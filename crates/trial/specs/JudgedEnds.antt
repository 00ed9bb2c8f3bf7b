-- What is told of the ends that a judged formula's verdicts were read off.
use Rattle.std.specs.Prelude.{◌≡◌, ℕ, ◌<◌, List, Ok, Err, Result, slice_index_or}
use Rattle.model.specs.Mdp.{Mdp}
use Rattle.theory.specs.Formulas.{Formula}
use Rattle.theory.specs.Found.{ends_of, BoundsFormula}
use Rattle.rules.specs.declared.part.Part.{Part}
use Rattle.rules.specs.Parts.{units_of}
use Rattle.grammar.specs.Spelling.{print, Spelled}
use Rattle.records.specs.declared.fault.JudgeFault.{JudgeFault}
use Rattle.trial.specs.declared.judge.Judged.{Judged}
use Rattle.trial.specs.declared.two_ends.Ends.{Ends}
use Rattle.trial.specs.PathEnds.{Told}

-- how many records there are, or the fault
abbrev pub records_of : Result Judged JudgeFault → Result ℕ JudgeFault
records_of (Ok j) = Ok j.records
records_of (Err e) = Err e

-- where a text is judged, the ends that are told are those of the formula that it spells
abbrev pub EndsTold : Mdp → List ℕ → Result Judged JudgeFault → Type 0
EndsTold m text (Ok j) = (f : Formula) → Spelled f → text ≡ print f → Told m.states (ends_of m f) j.ends
EndsTold m text (Err e) = Unit {0}

-- what ends that are told of a text mean: at every state the two bound all adversaries, for the formula that the text spells
abbrev pub BoundFormulaOf : Mdp → List ℕ → Ends → Type 0
BoundFormulaOf m text e = (f : Formula) → Spelled f → text ≡ print f → (d : Part) (s : ℕ) → s < m.states →
    BoundsFormula m f s (units_of (slice_index_or e.lower.values s d)) (units_of (slice_index_or e.upper.values s d))
