-- The figures, worked out by the definitions themselves.
use Rattle.std.proofs.Common.{◌≡◌, ℕ, ◌<◌, ◌≤◌, List, length, Some, None, codes, sym, refl, arith}
use Rattle.std.specs.Fmt.{digits}
use Rattle.model.specs.Mdp.{Mdp, Lawful}
use Rattle.theory.specs.Mixes.{whole}
use Rattle.theory.specs.WithoutSteps.{Extremal, over_none, at_most_none, at_least_whole}
use Rattle.theory.specs.Formulas.{Comparison, at_most, above, at_least, Formula, truth, label, probability, until, extremal}
use Rattle.theory.specs.Found.{VerdictMeans}
use Rattle.theory.proofs.Judged.{all_judged_rightly}
use Rattle.text.specs.Cuts.{lines}
use Rattle.text.specs.Contents.{model_of}
use Rattle.text.specs.Refusals.{refusal}
use Rattle.text_laws.proofs.Nest.{content_of}
use Rattle.text_laws.proofs.Sound.{describes}
use Rattle.text_laws.proofs.Complete.{described}
use Rattle.grammar.specs.Spelling.{FewDigits, print}
use Rattle.trial.specs.declared.verdict.Verdict.TheVariants.{No, Yes}
use Rattle.trial.specs.Judging.{Reads}
use Rattle.figures.specs.Figures.{thirds, retry, OfText, Judges, OfThirds, OfRetry, OfLadder, Figures}

-- what is so of the content that a text's lines tell is so of the text, unless it is refused
of_text : (text : List ℕ) (P : Mdp → Type 0) → refusal text ≡ None → P (model_of (content_of (lines text))) → OfText text P
of_text text P e p = record { content = content_of (lines text); described = describes text e; only = λ c h. sym (described text c h); holds = p }

-- T is read
thirds_read : refusal thirds ≡ None
thirds_read = refl

-- and R
retry_read : refusal retry ≡ None
retry_read = refl

-- the model of the text of T
abbrev T : Mdp
T = model_of (content_of (lines thirds))

-- of R
abbrev R : Mdp
R = model_of (content_of (lines retry))

-- the figures on T
of_t : OfThirds T
of_t = record {
  tally_1 = refl;
  tally_2 = refl;
  best_first = refl;
  worst_first = refl;
  best_1 = refl;
  worst_1 = refl;
  best_2 = refl;
  worst_2 = refl;
  at_least_lower = refl;
  at_least_upper = refl;
  above_upper = refl;
}

-- R keeps the laws of a model
r_lawful : Lawful R
r_lawful = (describes retry retry_read).within.lawful

-- until a, reached from any state
abbrev until_a : Comparison → ℕ → Formula
until_a c b = probability c b (until truth (label 0))

-- a text that is spelled so is read
reads : (text : List ℕ) (c : Comparison) (b : ℕ) → (1 ≤ length text) × (length text ≤ 1024) → FewDigits b → text ≡ print (until_a c b) →
    (b ≤ whole) → (o : Extremal) × (extremal c b ≡ Some o) → Reads text 3 (until_a c b)
reads text c b long few same small bound = record {
  readable = long;
  spelled = (few, (tt, omega arith));
  spells = same;
  within = record { lawful = (small, (bound, tt, omega arith)); shallow = omega arith; few = omega arith; room = omega arith };
}

-- what the verdict on that formula at a state of R means
means : (c : Comparison) (b s : ℕ) → s < 3 → VerdictMeans R (until_a c b) s
means c b s p = (all_judged_rightly R r_lawful (until_a c b)).meant s p

-- a is not certain from 0
not_certain : Judges R (codes "P>=1000000000[trueUa]") 0 No
unfolding digits
not_certain = record {
  formula = until_a at_least whole;
  reads = reads _ at_least whole (omega arith, omega arith) (omega arith) refl (omega arith) (at_least_whole, refl);
  found = refl;
  tells = (means at_least whole 0 (omega arith)).no_fails refl;
}

-- it is positive there
positive : Judges R (codes "P>0[trueUa]") 0 Yes
unfolding digits
positive = record {
  formula = until_a above 0;
  reads = reads _ above 0 (omega arith, omega arith) (omega arith) refl (omega arith) (over_none, refl);
  found = refl;
  tells = (means above 0 0 (omega arith)).yes_holds refl;
}

-- and never from 2
never : Judges R (codes "P<=0[trueUa]") 2 Yes
unfolding digits
never = record {
  formula = until_a at_most 0;
  reads = reads _ at_most 0 (omega arith, omega arith) (omega arith) refl (omega arith) (at_most_none, refl);
  found = refl;
  tells = (means at_most 0 2 (omega arith)).yes_holds refl;
}

-- the figures on R
of_r : OfRetry R
of_r = record { best_0 = refl; best_1 = refl; best_2 = refl; not_certain = not_certain; positive = positive; never = never }

-- and on the ladder
of_ladder : OfLadder
of_ladder = record { made = refl; best_2 = refl; worst_2 = refl }

-- all of them
pub figures : Figures
figures = record { of_thirds = of_text thirds OfThirds thirds_read of_t; of_retry = of_text retry OfRetry retry_read of_r; of_ladder = of_ladder }
