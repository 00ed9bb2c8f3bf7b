-- What is written of a list of limits, line by line.
use Rattle.std.specs.Prelude.{◌≡◌, ℕ, ◌+◌, ◌⊎◌, Bool, true, false, cond, List, [], ◌∷◌, ◌++◌, length, count_by, codes, decimal, Option, option_to_list, nat_lt}
use Rattle.std.specs.Io.{StartsWith}
use Rattle.std.specs.Io.KnownBytes.{Appends}
use Rattle.model.specs.Mdp.{Mdp}
use Rattle.limits_text.specs.declared.item.Item.{Item}
use Rattle.limits_text.specs.declared.item.Item.TheVariants.{Nothing, Heading, Formula}
use Rattle.limits_text.specs.declared.outcome.Outcome.{Outcome}
use Rattle.limits_text.specs.Lines.{list_lines, item_of}
use Rattle.limits_text.specs.Promise.{Promise}
use Rattle.limits_text.specs.Reports.{LineAnswer}

-- is it a formula?
abbrev pub formula_item : Item → Bool
formula_item Nothing = false
formula_item Heading = false
formula_item Formula = true

-- is a line a formula?
abbrev pub is_formula : List ℕ → Bool
is_formula line = formula_item (item_of line)

-- how many lines of a list are formulas
abbrev pub formula_count : List ℕ → ℕ
formula_count list = count_by is_formula (list_lines list)

-- what is told before formula i of n, counted from 1, where there are several
abbrev pub progress_line : ℕ → ℕ → List ℕ
progress_line i n = cond (nat_lt 1 n) (codes "kavzhubo: formula " ++ (decimal i ++ (codes " of " ++ (decimal n ++ codes "\n")))) []

-- what is told before a line, if it is formula i of n
abbrev pub progress_before : ℕ → ℕ → List ℕ → List ℕ
progress_before i n line = cond (is_formula line) (progress_line i n) []

-- what is written of some lines: what is told of the progress, the reports, and the outcomes of their formulas
pub record Written : Type 0 where
  pub progress : List ℕ
  pub reports : List ℕ
  pub outcomes : List Outcome

-- nothing is written
abbrev pub nothing : Written
nothing = record { progress = []; reports = []; outcomes = [] }

-- what is written, and then more
abbrev pub and_more : Written → Written → Written
and_more w v = record { progress = w.progress ++ v.progress; reports = w.reports ++ v.reports; outcomes = w.outcomes ++ v.outcomes }

-- what is written of line k where i formulas of n came before it: its progress, and its report with the outcome if it is a formula
pub record LineWritten (m : Mdp) (n i k : ℕ) (line : List ℕ) (w : Written) : Type 0 where
  pub outcome : Option Outcome
  pub report : LineAnswer m k line w.reports outcome
  pub outcomes : w.outcomes ≡ option_to_list outcome
  pub progress : w.progress ≡ progress_before (i + 1) n line

-- what is written of the lines from number k on, one after the other
abbrev pub LinesWritten : Mdp → ℕ → ℕ → ℕ → List (List ℕ) → Written → Type 0
LinesWritten m n i k [] w = w ≡ nothing
LinesWritten m n i k (l ∷ ls) w = (first : Written) × (rest : Written) × LineWritten m n i k l first × LinesWritten m n (i + length first.outcomes) (k + 1) ls rest × (w ≡ and_more first rest)

-- what is written of a list
abbrev pub ListWritten : Mdp → List ℕ → Written → Type 0
ListWritten m list w = LinesWritten m (formula_count list) 0 1 (list_lines list) w

-- what is written of a list, whose formulas have these outcomes; its reports keep the promise
pub record ListReported (m : Mdp) (list : List ℕ) (outcomes : List Outcome) (w : Written)
    : Type 0 where
  pub lines : ListWritten m list w
  pub promise : Promise m w.reports
  pub outcomes_are : outcomes ≡ w.outcomes

-- what has a property is written to two writers, which had the bytes o and p if these are known, and have o' and p' now
pub record Writes (says : Written → Type 0) (o o' p p' : Option (List ℕ)) : Type 0 where
  pub written : Written
  pub said : says written
  pub out : Appends o o' written.reports
  pub progress : Appends p p' written.progress

-- known bytes grow by a beginning of the text
pub record AppendsFront (old new : Option (List ℕ)) (text : List ℕ) : Type 0 where
  pub front : List ℕ
  pub begins : StartsWith text front
  pub appended : Appends old new front

-- the bytes begin the report of line k
pub record BeginsReport (m : Mdp) (k : ℕ) (line bytes : List ℕ) : Type 0 where
  pub report : List ℕ
  pub outcome : Option Outcome
  pub answer : LineAnswer m k line report outcome
  pub begins : StartsWith report bytes

-- a beginning of the report of line k was written to a writer, or nothing
pub record LineTorn (m : Mdp) (k : ℕ) (line : List ℕ) (o o' : Option (List ℕ)) : Type 0 where
  pub bytes : List ℕ
  pub said : (bytes ≡ []) ⊎ BeginsReport m k line bytes
  pub out : Appends o o' bytes

-- a beginning of what is written of line k, where i formulas of n came before it: of what is told before it, or else all of
-- that and a beginning of its report
pub record LineBegun (m : Mdp) (n i k : ℕ) (line : List ℕ) (w : Written) : Type 0 where
  pub told : StartsWith (progress_before (i + 1) n line) w.progress
  pub said : (w.reports ≡ []) ⊎
      ((w.progress ≡ progress_before (i + 1) n line) × BeginsReport m k line w.reports)
  pub outcomes : w.outcomes ≡ []

-- a beginning of what is written of the lines from number k on: of the first, or all of the first and a beginning of the rest
abbrev pub LinesBegun : Mdp → ℕ → ℕ → ℕ → List (List ℕ) → Written → Type 0
LinesBegun m n i k [] w = w ≡ nothing
LinesBegun m n i k (l ∷ ls) w = LineBegun m n i k l w ⊎
    ((first : Written) × (rest : Written) × LineWritten m n i k l first
    × LinesBegun m n (i + length first.outcomes) (k + 1) ls rest × (w ≡ and_more first rest))

-- a beginning of what is written of a list: the reports of lines from the first on, and a beginning of the next; they keep the promise
pub record ListBegun (m : Mdp) (list : List ℕ) (w : Written) : Type 0 where
  pub lines : LinesBegun m (formula_count list) 0 1 (list_lines list) w
  pub promise : Promise m w.reports

-- a line was reported to a writer
pub record LineReported (m : Mdp) (k : ℕ) (line : List ℕ) (o o' : Option (List ℕ)) (outcome : Option Outcome) : Type 0 where
  pub report : List ℕ
  pub answer : LineAnswer m k line report outcome
  pub out : Appends o o' report
