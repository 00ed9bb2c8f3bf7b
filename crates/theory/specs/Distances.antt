-- Chapter 10. Undecided states: a state's value, and how near it lies to the bound.
use Rattle.std.specs.Prelude.{◌≡◌, ℕ, ◌+◌, ◌*◌, ◌^◌, ◌<◌, ◌≤◌, Bool, true, false}
use Rattle.model.specs.Mdp.{Mdp, Lawful}
use Rattle.theory.specs.Adversaries.{Adversary, Allowed}
use Rattle.theory.specs.Tallies.{tally, next_tally}
use Rattle.theory.specs.Mixes.{whole}
use Rattle.theory.specs.Ends.{lower, upper}
use Rattle.theory.specs.Formulas.{Comparison, below, at_most, above, at_least, Formula, truth, label, negation, conjunction, probability, next, until_within, until, Fits, SetOf, Holds}
use Rattle.theory.specs.Verdicts.{VerdictSets, asked, read_off, Judged}

-- whatever bound x fits, y fits too
abbrev pub Harder : Comparison → ℕ → ℕ → Type 0
Harder below x y = y ≤ x
Harder at_most x y = y ≤ x
Harder above x y = x ≤ y
Harder at_least x y = x ≤ y

-- a state's value is the tally that is hardest to fit, its worst for `>` and `>=`, else its best: some adversary has it and none is harder
pub record StateValue (c : Comparison) (m : Mdp) (tallied : Adversary → ℕ) (x : ℕ) : Type 0 where
  pub attained : (σ : Adversary) × Allowed m σ × (tallied σ ≡ x)
  pub kept : (σ : Adversary) → Allowed m σ → Harder c x (tallied σ)

-- the tally x, out of `all`, lies within u units of b
pub record WithinUnits (u b all x : ℕ) : Type 0 where
  pub not_over : x * whole ≤ b * all + u * all
  pub not_under : b * all ≤ x * whole + u * all

-- the adversaries' tallies, out of `all`, have a value that the comparison is decided by, and it lies within u units of the bound b
abbrev pub ValueWithin : ℕ → Comparison → ℕ → ℕ → Mdp → (Adversary → ℕ) → Type 0
ValueWithin u c b all m tallied = (x : ℕ) × StateValue c m tallied x × WithinUnits u b all x

-- no state is undecided
abbrev pub Decided : Mdp → VerdictSets → Type 0
Decided m v = (s : ℕ) → s < m.states → v.sure s ≡ v.possible s

-- the state s is undecided
pub record Undecided (v : VerdictSets) (s : ℕ) : Type 0 where
  pub not_sure : v.sure s ≡ false
  pub is_possible : v.possible s ≡ true

-- an undecided until with k steps over decided parts: the state has a value, and it lies within k units of the bound
abbrev pub UntilNear : Type 0
UntilNear = (m : Mdp) → Lawful m → (c : Comparison) (b k : ℕ) (f g : Formula) (v w u : VerdictSets) →
    Judged m f v → Judged m g w → Judged m (probability c b (until_within k f g)) u → Decided m v → Decided m w →
    (s : ℕ) → s < m.states → Undecided u s →
    (left right : ℕ → Bool) → SetOf m (Holds m f) left → SetOf m (Holds m g) right →
    ValueWithin k c b (m.denominator ^ k) m (λ σ. tally left right k m σ s)

-- what is known of a formula where it is undecided, if its parts are decided in some sense: it is a next, and its value lies within one
-- unit of the bound, or an until with k steps, and its value lies within k units; no other formula is undecided then
abbrev pub NearBound : Mdp → (Formula → Type 0) → Formula → ℕ → Type 0
NearBound m IsDecided truth s = ⊥
NearBound m IsDecided (label i) s = ⊥
NearBound m IsDecided (negation f) s = IsDecided f → ⊥
NearBound m IsDecided (conjunction f g) s = IsDecided f → IsDecided g → ⊥
NearBound m IsDecided (probability c b (next f)) s =
    IsDecided f → (set : ℕ → Bool) → SetOf m (Holds m f) set →
    ValueWithin 1 c b (m.denominator ^ 1) m (λ σ. next_tally set m σ s)
NearBound m IsDecided (probability c b (until_within k f g)) s =
    IsDecided f → IsDecided g →
    (left right : ℕ → Bool) → SetOf m (Holds m f) left → SetOf m (Holds m g) right →
    ValueWithin k c b (m.denominator ^ k) m (λ σ. tally left right k m σ s)
NearBound m IsDecided (probability c b (until f g)) s = IsDecided f → IsDecided g → ⊥

-- an undecided next over a decided part: the same within one unit
abbrev pub NextNear : Type 0
NextNear = (m : Mdp) → Lawful m → (c : Comparison) (b : ℕ) (f : Formula) (v u : VerdictSets) →
    Judged m f v → Judged m (probability c b (next f)) u → Decided m v →
    (s : ℕ) → s < m.states → Undecided u s →
    (set : ℕ → Bool) → SetOf m (Holds m f) set →
    ValueWithin 1 c b (m.denominator ^ 1) m (λ σ. next_tally set m σ s)

-- an until without steps over decided parts is decided
abbrev pub WithoutStepsDecided : Type 0
WithoutStepsDecided = (m : Mdp) → Lawful m → (c : Comparison) (b : ℕ) (f g : Formula) (v w u : VerdictSets) →
    Judged m f v → Judged m g w → Judged m (probability c b (until f g)) u → Decided m v → Decided m w → Decided m u

-- the verdicts of one query with the sets left and right, read off its own ends after k rounds
abbrev pub query_verdicts : Comparison → ℕ → ℕ → (ℕ → Bool) → (ℕ → Bool) → Mdp → VerdictSets
query_verdicts c b k left right m = read_off c b (lower (asked c) left right k m) (upper (asked c) left right k m)

-- what such a verdict at s tells: a yes holds of every adversary, a no fails for some adversary, and an undecided state's value lies within k units of the bound
pub record QueryVerdict (c : Comparison) (b k : ℕ) (left right : ℕ → Bool) (m : Mdp) (s : ℕ) : Type 0 where
  pub yes_holds : (query_verdicts c b k left right m).sure s ≡ true → (σ : Adversary) → Allowed m σ → Fits c (tally left right k m σ s * whole) (b * m.denominator ^ k)
  pub no_fails : (query_verdicts c b k left right m).possible s ≡ false → (σ : Adversary) × Allowed m σ × ¬ (Fits c (tally left right k m σ s * whole) (b * m.denominator ^ k))
  pub undecided_near : Undecided (query_verdicts c b k left right m) s →
      ValueWithin k c b (m.denominator ^ k) m (λ σ. tally left right k m σ s)

-- the theorem of a query's verdicts
abbrev pub QueriesCorrect : Type 0
QueriesCorrect = (c : Comparison) (b k : ℕ) (left right : ℕ → Bool) (m : Mdp) → Lawful m → (s : ℕ) → s < m.states → QueryVerdict c b k left right m s
