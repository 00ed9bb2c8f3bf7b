-- The query that a trial keeps: its ends after more rounds, what they mean, and how the query is told by the fields.
use Rattle.std.proofs.Common.{◌≡◌, ℕ, zero, suc, ◌+◌, ◌<◌, ◌≤◌, Bool, true, ltb, leb, List, map, get_or, Some, Ok, Option, Result, sym, refl, ap, ◌∙◌, subst, inl, inr, add-zero, add-suc, arith}
use Rattle.std.proofs.lemmas.Bool.{cond-true, cond-false, le-leb, lt-ltb, ltb-true, cases_Bool}
use Rattle.model.specs.Mdp.{Mdp, Lawful}
use Rattle.theory.specs.Rounds.{round, rounds}
use Rattle.theory.specs.Mixes.{whole}
use Rattle.theory.specs.Ends.{lower, upper}
use Rattle.theory.proofs.Bridge.{rounds_same}
use Rattle.theory.proofs.Ends.{ends_bound}
use Rattle.rules.specs.declared.part.Part.{Part}
use Rattle.rules.specs.declared.preference.Preference.{Preference}
use Rattle.rules.specs.declared.rounding.Rounding.{Rounding}
use Rattle.rules.specs.Parts.{part_of, units_of, prefers_number, prefers_part, mix_rounded, in_parts}
use Rattle.rules.specs.PartsLemmas.{part_same, numbers_lawful, parts_rounds}
use Rattle.rules.specs.Values.{told}
use Rattle.rounds.specs.Ends.{lower_of, upper_of}
use Rattle.records.specs.declared.comparison.Comparison.{Comparison}
use Rattle.formula.specs.Tokens.{meant}
use Rattle.trial.specs.declared.aim.Aim.{Aim}
use Rattle.trial.specs.declared.aim.Aim.TheVariants.{Best, Worst}
use Rattle.trial.specs.declared.fault.TrialFault.{TrialFault}
use Rattle.trial.specs.Aims.{preference_of, aim_for}
use Rattle.trial.specs.VerdictBytes.{read_verdict}
use Rattle.trial.specs.declared.state.QueryState.{QueryState}
use Rattle.trial.specs.Queries.{Query, marked, lower_end, upper_end, EndsFor}
use Rattle.trial.specs.Answers.{ends_answer, same_aim, verdict_answer}
use Rattle.trial.specs.Keeping.{query_in, Keeps, Kept}

-- k rounds after j rounds are j + k rounds
pub rounds_add : {V : Type 0} (preferred : V → V → Bool) (mix : ℕ → List (ℕ × V) → V) (m : Mdp) (v : ℕ → V) (j k : ℕ) → rounds preferred mix k m (rounds preferred mix j m v) ≡ rounds preferred mix (j + k) m v
rounds_add preferred mix m v j zero = rw (add-zero j)
rounds_add preferred mix m v j (suc k) = rw (add-suc j k) (ap (round preferred mix m) (rounds_add preferred mix m v j k))

-- an end of a query: the list holds it after j rounds, and after k more it holds that after j + k; the rounds are those of the same preference and model under other names
pub end_more : (r : Rounding) (p p' : Preference) → p' ≡ p → (m m' : Mdp) → Lawful m → m' ≡ m → (v : ℕ → ℕ) (j k : ℕ) (old new : List Part) (d : Part) →
    ((s : ℕ) → s < m.states → units_of (get_or old s d) ≡ rounds (prefers_number p) (mix_rounded r) j m v s) →
    ((s : ℕ) → s < m'.states → get_or new s d ≡ rounds (prefers_part p') (in_parts (mix_rounded r)) k m' (told old d) s) →
    (s : ℕ) → s < m.states → units_of (get_or new s d) ≡ rounds (prefers_number p) (mix_rounded r) (j + k) m v s
end_more r p p' e m m' l f v j k old new d before after s h =
    ap units_of (after s (omega (arith, ap (λ (y : Mdp). y.states) f))
    ∙ ap (λ (y : Preference). rounds (prefers_part y) (in_parts (mix_rounded r)) k m' (told old d) s) e
    ∙ ap (λ (y : Mdp). rounds (prefers_part p) (in_parts (mix_rounded r)) k y (told old d) s) f)
    ∙ parts_rounds r p m l (told old d) k s h
    ∙ rounds_same (prefers_number p) (mix_rounded r) (numbers_lawful r p) m l (λ t. units_of (told old d t)) (rounds (prefers_number p) (mix_rounded r) j m v) before k s h
    ∙ ap (λ (g : ℕ → ℕ). g s) (rounds_add (prefers_number p) (mix_rounded r) m v j k)

module _ (m : Mdp) (flags : List Bool) (t : QueryState) where
  -- a trial that keeps its query is kept
  pub query_kept : Keeps m flags t (query_in m.states t) → Kept m flags (Some t)
  query_kept keeps t' e = let same : t ≡ t' = cc in subst (λ (x : QueryState). Keeps m flags x (query_in m.states x)) same keeps

module _ (m : Mdp) (l : Lawful m) where
  -- what the ends of a query mean for all adversaries
  pub bounds_for : (a : Aim) (q : Query) (s : ℕ) → s < m.states →
      EndsFor a m q s (lower (prefers_number (preference_of a)) (marked q.left) (marked q.right) q.rounds m s) (upper (prefers_number (preference_of a)) (marked q.left) (marked q.right) q.rounds m s)
  bounds_for Best q s h = (ends_bound (marked q.left) (marked q.right) m l q.rounds s h).0
  bounds_for Worst q s h = (ends_bound (marked q.left) (marked q.right) m l q.rounds s h).1

-- both ends of the query at a state are what is answered there
pub ends_answered : (m : Mdp) (o : Option Query) (q : Query) → o ≡ Some q → (s : ℕ) → s < m.states → (lo hi : Part) → units_of lo ≡ lower_end m q s → units_of hi ≡ upper_end m q s →
    Ok (lo, hi, q.rounds) ≡ ends_answer m o s
ends_answered m o q e s h lo hi f g =
    let low : lo ≡ part_of (lower_end m q s) = part_same lo (part_of (lower_end m q s)) (omega (arith, lo.within)) in
    let high : hi ≡ part_of (upper_end m q s) = part_same hi (part_of (upper_end m q s)) (omega (arith, hi.within)) in
    let made : Part → Part → Result (Part × Part × ℕ) TrialFault = λ a b. Ok (a, b, q.rounds) in
    ap (λ (a : Part). made a hi) low ∙ ap (made (part_of (lower_end m q s))) high
    ∙ sym (ap (λ (x : Option Query). ends_answer m x s) e ∙ cond-true (ltb s m.states) _ _ (lt-ltb s m.states h))

-- the ends of a query that a trial keeps are parts of the whole
pub ends_small : (m : Mdp) (flags : List Bool) (t : QueryState) (q : Query) → Keeps m flags t q → (s : ℕ) → s < m.states → (lower_end m q s ≤ whole) × (upper_end m q s ≤ whole)
ends_small m flags t q keeps s h =
    let d = part_of 0 in
    let lo = get_or (map lower_of t.ends.values) s d in
    let hi = get_or (map upper_of t.ends.values) s d in
    (omega (arith, keeps.lower d s h, lo.within), omega (arith, keeps.upper d s h, hi.within))

-- the ends that a trial answers for the query that it keeps, at a state that exists
pub record Answered (m : Mdp) (q : Query) (s : ℕ) (lo hi : Part) : Type 0 where
  pub there : s < m.states
  pub lower : units_of lo ≡ lower_end m q s
  pub upper : units_of hi ≡ upper_end m q s

-- what is answered where ends are is that
pub kept_answered : (m : Mdp) (flags : List Bool) (t : QueryState) (q : Query) → Keeps m flags t q → (o : Option Query) → o ≡ Some q → (s : ℕ) (lo hi : Part) (j : ℕ) (r : Result (Part × Part × ℕ) TrialFault) → r ≡ ends_answer m o s → r ≡ Ok (lo, hi, j) → Answered m q s lo hi
kept_answered m flags t q keeps o e s lo hi j r a b = elim (cases_Bool (ltb s m.states)) [
  | inl there ↦
      let f : ends_answer m (Some q) s ≡ Ok (lo, hi, j) = ap (λ (p : Option Query). ends_answer m p s) (sym e) ∙ sym a ∙ b in
      let h = ltb-true s m.states there in
      let few = ends_small m flags t q keeps s h in
      let both : (part_of (lower_end m q s), part_of (upper_end m q s), q.rounds) ≡ (lo, hi, j) = ok_same (sym (cond-true (ltb s m.states) _ _ there) ∙ f) in
      record {
        there = h;
        lower = omega (arith, ap (λ (x : Part × Part × ℕ). units_of x.0) both, few.0);
        upper = omega (arith, ap (λ (x : Part × Part × ℕ). units_of x.1) both, few.1);
      }
  | inr past ↦
      let f : ends_answer m (Some q) s ≡ Ok (lo, hi, j) = ap (λ (p : Option Query). ends_answer m p s) (sym e) ∙ sym a ∙ b in
      let z : ◌≡◌ {A = ℕ} 0 1 = cc (sym f ∙ cond-false (ltb s m.states) _ _ past) in absurd (omega arith)
]
  where
    ok_same : {x y : Part × Part × ℕ} → ◌≡◌ {A = Result (Part × Part × ℕ) TrialFault} (Ok x) (Ok y) → x ≡ y
    ok_same e = cc

module _ (m : Mdp) (s : ℕ) (c : Comparison) (b : ℕ) where
  -- one with a comparison that goes with the query is read off both ends
  pub verdict_answered : (o : Option Query) (q : Query) → o ≡ Some q → s < m.states → b ≤ whole → same_aim (aim_for c) q.aim ≡ true → (lo hi : ℕ) → lo ≡ lower_end m q s → hi ≡ upper_end m q s →
      Ok (read_verdict (meant c) b lo hi) ≡ verdict_answer m o s c b
  verdict_answered o q e h k same lo hi f g =
      sym (ap (λ (x : Option Query). verdict_answer m x s c b) e ∙ cond-true (ltb s m.states) _ _ (lt-ltb s m.states h) ∙ cond-true (leb b whole) _ _ (le-leb b whole k) ∙ cond-true (same_aim (aim_for c) q.aim) _ _ same
      ∙ ap (λ (x : ℕ). Ok (read_verdict (meant c) b x (upper_end m q s))) (sym f) ∙ ap (λ (x : ℕ). Ok (read_verdict (meant c) b lo x)) (sym g))

-- an aim agrees with itself
pub same_aims : (a b : Aim) → a ≡ b → same_aim a b ≡ true
same_aims a b e = rw e (each b)
  where
    each : (a : Aim) → same_aim a a ≡ true
    each Best = refl
    each Worst = refl
