-- What a verdict that `check` prints promises. Whoever doubts a printed `yes` begins here.
--
-- The program hands the words of its command line, and the bytes of the files that they name, to one function, `reply` in
-- src/promise.rt, with its standard output to write to, and then prints what that answers. `Promised`, below, is a clause of that
-- function's contract: it speaks of all bytes that are printed. These are the definitions that it is made of, from the bytes down
-- to adversaries:
--
--   what is read off the bytes          Promise, HasRow, RowPromise            limits_text/specs/Promise.antt
--   which formula a line spells         print, Spelled                         grammar/specs/Spelling.antt
--   what a formula says of a state      Holds, SetOf, Fits                     theory/specs/Formulas.antt
--   what two ends say                   BoundsFormula, BoundsBest              theory/specs/Found.antt, Ends.antt
--   untils without steps                Positive, Never, Certain               theory/specs/WithoutSteps.antt
--   what an adversary's paths weigh     runs, meets, tally, Sure               theory/specs/Tallies.antt
--   who chooses                         Adversary, Allowed                     theory/specs/Adversaries.antt
--   what a model is                     Mdp, Lawful, row                       model/specs/Mdp.antt
--   which model a text describes        Describes, text_of, model_of           text/specs/Texts.antt, Contents.antt
--   which model a word names            model_named                            specs/Commands.antt
use Rattle.std.specs.Prelude.{◌≡◌, ℕ, ◌≤◌, ◌⊎◌, List, [], ◌∷◌, ◌++◌, codes, Some, Ok, Option}
use Rattle.model.specs.Mdp.{Mdp}
use Rattle.text.specs.Contents.{Content, model_of}
use Rattle.text.specs.Texts.{Describes}
use Rattle.ladder.specs.Ladders.{ladder_model}
use Rattle.limits_text.specs.Promise.{Promise}
use Rattle.console.specs.declared.command.LadderNumbers.{LadderNumbers}
use Rattle.console.specs.declared.command.ModelName.{ModelName}
use Rattle.console.specs.declared.command.ModelName.TheVariants.{File, Ladder}
use Rattle.console.specs.Commands.{model_named}
use Rattle.console.specs.Replies.{Answer, printed, refused, wrong}

-- m is the model that a text describes: that of the only content which the text is the text of
pub record IsDescribed (text : List ℕ) (m : Mdp) : Type 0 where
  pub content : Content
  pub describes : Describes text content
  pub only : (other : Content) → Describes text other → other ≡ content
  pub model : m ≡ model_of content

-- m is the ladder of three numbers, which are in their ranges
pub record IsLadder (n : LadderNumbers) (m : Mdp) : Type 0 where
  pub rungs : (1 ≤ n.rungs) × (n.rungs ≤ 511)
  pub denominator : (1 ≤ n.denominator) × (n.denominator ≤ 1000000)
  pub weight : (1 ≤ n.weight) × (n.weight ≤ n.denominator)
  pub model : m ≡ ladder_model n.rungs n.denominator n.weight

-- m is the model that is named: that which the bytes of its file describe, or a ladder
abbrev pub IsNamed : ModelName → Option (List ℕ) → Mdp → Type 0
IsNamed File file m = (text : List ℕ) × (file ≡ Some text) × IsDescribed text m
IsNamed (Ladder n) file m = IsLadder n m

-- bytes keep their promise over the model that is named
pub record ChecksTruly (name : ModelName) (file : Option (List ℕ)) (bytes : List ℕ) : Type 0 where
  pub model : Mdp
  pub named : IsNamed name file model
  pub promise : Promise model bytes

-- no model is named, since the text or the numbers break a rule, and bytes refuse it: they begin with that word
pub record IsRefused (name : ModelName) (file : Option (List ℕ)) (bytes : List ℕ) : Type 0 where
  pub no_model : (m : Mdp) → ¬ (IsNamed name file m)
  pub refusal : (rest : List ℕ) × (bytes ≡ codes "refused " ++ rest)

-- what an answer prints to standard output; a sentence on what is wrong goes to standard error
abbrev pub printed_by : Answer → List ℕ
printed_by (printed bytes) = bytes
printed_by (refused bytes) = bytes
printed_by (wrong bytes) = []

-- the promise of `check MODEL LIMITS`, given the words of the command line, the bytes of the model's file, if that could be read, and
-- all bytes that are printed: they keep their promise over the model that is named; or none is, and they refuse it; or there are none
abbrev pub Promised : List (List ℕ) → Option (List ℕ) → List ℕ → Type 0
Promised args file bytes = (model limits : List ℕ) (name : ModelName) →
    args ≡ codes "check" ∷ model ∷ limits ∷ [] → model_named model ≡ Ok name →
    ChecksTruly name file bytes ⊎ (IsRefused name file bytes ⊎ (bytes ≡ []))
