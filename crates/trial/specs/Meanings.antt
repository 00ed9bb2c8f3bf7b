-- What the answers of a trial mean for all adversaries of the source's model: said of the values that are answered, and of the
-- bytes and records that are left in the buffers.
use Rattle.std.specs.Prelude.{◌≡◌, ◌≢◌, ℕ, ◌-◌, ◌*◌, ◌^◌, ◌<◌, ◌≤◌, List, All, length, Some, Option, IsSomeAnd, ◌==◌, slice_get, slice_index}
use Rattle.std.specs.List.{count_by}
use Rattle.model.specs.Mdp.{Mdp}
use Rattle.theory.specs.Adversaries.{Adversary, Allowed}
use Rattle.theory.specs.Mixes.{whole}
use Rattle.theory.specs.Formulas.{Comparison, Formula, Fits, Holds, HasOneSet}
use Rattle.theory.specs.Verdicts.{VerdictSets, Judged}
use Rattle.theory.specs.Distances.{ValueWithin, NearBound, Undecided}
use Rattle.grammar.specs.Spelling.{print, Spelled}
use Rattle.rules.specs.declared.part.Part.{Part}
use Rattle.rules.specs.Parts.{units_of}
use Rattle.records.specs.declared.comparison.Comparison.{Comparison as Code}
use Rattle.records.specs.declared.record.Record.{Record}
use Rattle.formula.specs.Records.{parts}
use Rattle.formula.specs.Tokens.{meant}
use Rattle.trial.specs.declared.verdict.Verdict.{Verdict}
use Rattle.trial.specs.declared.verdict.Verdict.TheVariants as verdict
use Rattle.trial.specs.Queries.{Query, query_tally, EndsOf}
use Rattle.trial.specs.Judging.{Buffers}
use Rattle.trial.specs.Evaluation.{row_at}

-- two parts and a number of rounds are the ends of a query at a state: the rounds are the query's, and the units of the parts
-- bound the tallies of all adversaries over as many steps
pub record AreEnds (m : Mdp) (q : Query) (s : ℕ) (lower upper : Part) (j : ℕ) : Type 0 where
  pub rounds : j ≡ q.rounds
  pub bounds : EndsOf m q s (units_of lower) (units_of upper)

-- what answered ends mean: a query stands, and they are its ends
abbrev pub EndsMean : Mdp → Option Query → ℕ → Part × Part × ℕ → Type 0
EndsMean m o s r = IsSomeAnd o (λ q. AreEnds m q s r.0 r.1 r.2)

-- what a verdict says of a query at a state, under a comparison and a bound b: a yes, that every allowed adversary's tally fits;
-- a no, that some allowed one's does not; an undecided one, that the state's value lies within as many units of the bound as the
-- query has had rounds
abbrev pub VerdictSays : Verdict → Comparison → ℕ → Mdp → Query → ℕ → Type 0
VerdictSays verdict.Yes c b m q s =
    (σ : Adversary) → Allowed m σ → Fits c (query_tally m q s σ * whole) (b * m.denominator ^ q.rounds)
VerdictSays verdict.No c b m q s =
    (σ : Adversary) × Allowed m σ × ¬ (Fits c (query_tally m q s σ * whole) (b * m.denominator ^ q.rounds))
VerdictSays verdict.Undecided c b m q s =
    ValueWithin q.rounds c b (m.denominator ^ q.rounds) m (query_tally m q s)

-- what an answered verdict means: a query stands, and the verdict says what is so of it
abbrev pub VerdictMeans : Mdp → Option Query → ℕ → Code → ℕ → Verdict → Type 0
VerdictMeans m o s c b v = IsSomeAnd o (λ q. VerdictSays v (meant c) b m q s)

-- g is one of the formulas, and there is no 2 in its row; the rows of n bytes stand in the order of the formulas
pub record DecidedRow (n : ℕ) (fs : List Formula) (rows : List ℕ) (g : Formula) : Type 0 where
  pub number : ℕ
  pub there : slice_get fs number ≡ Some g
  pub decided : All (λ b. b ≢ 2) (row_at n rows number)

-- the formula is undecided at the state, by the verdicts that it is judged by
abbrev pub IsUndecided : Mdp → Formula → ℕ → Type 0
IsUndecided m f s = (v : VerdictSets) × Judged m f v × Undecided v s

-- what the byte of a formula at a state means: it is 0, 1 or 2; 1 only where the formula holds over all adversaries, 0 only where
-- it does not hold, and 2 only where it is undecided, and near its bound if its parts have decided rows
pub record ByteMeans (m : Mdp) (HasDecided : Formula → Type 0) (f : Formula) (s byte : ℕ)
    : Type 0 where
  pub one_of_three : byte ≤ 2
  pub yes_holds : byte ≡ 1 → Holds m f s
  pub no_fails : byte ≡ 0 → ¬ (Holds m f s)
  pub undecided : byte ≡ 2 → IsUndecided m f s
  pub near : byte ≡ 2 → NearBound m HasDecided f s

-- what the row of a formula means: it has a byte for each state, and each byte means what it says
pub record RowMeans (m : Mdp) (HasDecided : Formula → Type 0) (f : Formula) (row : List ℕ)
    : Type 0 where
  pub long : length row ≡ m.states
  pub byte : (s : ℕ) → s < m.states → ByteMeans m HasDecided f s (slice_index row s)

-- the record's counts are the numbers of the 1s and of the 2s in the row
pub record HasCounts (row : List ℕ) (r : Record) : Type 0 where
  pub yes : r.yes ≡ count_by (λ b. b == 1) row
  pub undecided : r.undecided ≡ count_by (λ b. b == 2) row

-- what an accepted judge of a text means, which answers n: the text spells exactly one formula; that has n parts and is the last of
-- them; in the scratch the row with a part's number means what it says of that part, and the record with that number has its counts;
-- the output is the last row; and every formula has exactly one set of states, so that nothing here is said of no set
pub record JudgeMeans (m : Mdp) (text : List ℕ) (left : Buffers) (n : ℕ) : Type 0 where
  pub formula : Formula
  pub spelled : Spelled formula
  pub spells : text ≡ print formula
  pub only : (other : Formula) → Spelled other → text ≡ print other → other ≡ formula
  pub number : n ≡ length (parts formula)
  pub last : slice_get (parts formula) (n - 1) ≡ Some formula
  pub row : (i : ℕ) (p : Formula) → slice_get (parts formula) i ≡ Some p →
      RowMeans m (DecidedRow m.states (parts formula) left.scratch) p
      (row_at m.states left.scratch i)
  pub counts : (i : ℕ) (p : Formula) → slice_get (parts formula) i ≡ Some p →
      IsSomeAnd (slice_get left.records i) (HasCounts (row_at m.states left.scratch i))
  pub out : left.out ≡ row_at m.states left.scratch (n - 1)
  pub one_set : (p : Formula) → HasOneSet m p
