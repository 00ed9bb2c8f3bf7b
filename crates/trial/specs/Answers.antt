-- What each call on a trial answers, and which query stands afterwards: functions of the model, of the query that stood, and of what
-- the call is given.
use Rattle.std.specs.Prelude.{ℕ, ◌+◌, Bool, true, false, cond, ◌&&◌, ◌||◌, List, [], ◌∷◌, length, Some, None, Ok, Err, Option, Result, ◌==◌, nat_le, nat_lt}
use Rattle.model.specs.Mdp.{Mdp}
use Rattle.theory.specs.Mixes.{whole}
use Rattle.rules.specs.declared.part.Part.{Part}
use Rattle.rules.specs.Parts.{part_of}
use Rattle.rounds.specs.Refusals.{most_rounds}
use Rattle.records.specs.declared.comparison.Comparison.{Comparison}
use Rattle.formula.specs.Tokens.{meant}
use Rattle.trial.specs.declared.aim.Aim.{Aim}
use Rattle.trial.specs.declared.aim.Aim.TheVariants.{Best, Worst}
use Rattle.trial.specs.declared.fault.TrialFault.{TrialFault}
use Rattle.trial.specs.declared.fault.TrialFault.TheVariants as fault
use Rattle.trial.specs.declared.verdict.Verdict.{Verdict}
use Rattle.trial.specs.Aims.{aim_for}
use Rattle.trial.specs.VerdictBytes.{read_verdict}
use Rattle.trial.specs.Queries.{Query, lower_end, upper_end}

-- is every byte 0 or 1?
abbrev pub all_marks : List ℕ → Bool
all_marks [] = true
all_marks (b ∷ bs) = (b == 0 || b == 1) && all_marks bs

-- start: have both lists a byte for each state, and is every byte 0 or 1? The first no
abbrev pub start_fault : ℕ → List ℕ → List ℕ → Option TrialFault
start_fault n left right = cond (length left == n && length right == n) (cond (all_marks left && all_marks right) None (Some fault.Marks)) (Some fault.Lengths)

-- a call that only may be refused answers nothing else
abbrev pub answer : Option TrialFault → Result (Unit {0}) TrialFault
answer None = Ok tt
answer (Some e) = Err e

-- a call that is not refused leaves the second query, a refused one the first
abbrev pub unless : Option TrialFault → Option Query → Option Query → Option Query
unless None before after = after
unless (Some e) before after = before

-- after a start the new query stands, with no round made
abbrev pub started : ℕ → List ℕ → List ℕ → Aim → Option Query → Option Query
started n left right aim q = unless (start_fault n left right) q (Some (record { left = left; right = right; aim = aim; rounds = 0 }))

-- advance: does a query stand, and are its rounds and the count together at most the limit? The first no
abbrev pub advance_fault : Option Query → ℕ → Option TrialFault
advance_fault None k = Some fault.NoQuery
advance_fault (Some q) k = cond (nat_le (q.rounds + k) most_rounds) None (Some fault.Rounds)

-- the same query with k rounds more
abbrev pub with_rounds : ℕ → Query → Query
with_rounds k q = record { left = q.left; right = q.right; aim = q.aim; rounds = q.rounds + k }

-- after an advance the query has k rounds more
abbrev pub advanced : Option Query → ℕ → Option Query
advanced None k = None
advanced (Some q) k = unless (advance_fault (Some q) k) (Some q) (Some (with_rounds k q))

-- ends: does a query stand, and is there such a state? Then both ends of the query there, and its rounds
abbrev pub ends_answer : Mdp → Option Query → ℕ → Result (Part × Part × ℕ) TrialFault
ends_answer m None s = Err fault.NoQuery
ends_answer m (Some q) s = cond (nat_lt s m.states) (Ok (part_of (lower_end m q s), part_of (upper_end m q s), q.rounds)) (Err fault.State)

-- do two aims agree?
abbrev pub same_aim : Aim → Aim → Bool
same_aim Best Best = true
same_aim Best Worst = false
same_aim Worst Best = false
same_aim Worst Worst = true

-- verdict: does a query stand, is there such a state, is the bound at most the whole, and does the comparison go with what the query
-- asks for? Then the verdict that is read off both ends there
abbrev pub verdict_answer : Mdp → Option Query → ℕ → Comparison → ℕ → Result Verdict TrialFault
verdict_answer m None s c b = Err fault.NoQuery
verdict_answer m (Some q) s c b =
    cond (nat_lt s m.states) (cond (nat_le b whole) (cond (same_aim (aim_for c) q.aim) (Ok (read_verdict (meant c) b (lower_end m q s) (upper_end m q s))) (Err fault.Aim)) (Err fault.Bound)) (Err fault.State)
