-- In a script that was read, ends stand before each verdict, and where it is replayed, the verdict is read off them.
use Rattle.std.proofs.Common.{◌≡◌, ℕ, zero, suc, ◌+◌, ◌<◌, min, Bool, true, false, cond, nat_lt, nat_le, List, [], ◌∷◌, map, length, take, get_or, Some, None, Ok, Err, Option, Result, sym, refl, ap, ap₂, ◌∙◌, subst, arith}
use Rattle.std.specs.Prelude.{slice_get}
use Rattle.std.specs.List.{flat_map}
use Rattle.std.specs.Option.{option_map}
use borrow.Author.Tests.{ltb-true}
use Rattle.std.proofs.lemmas.Option.{slice_get-map, slice_get-get_or, slice_get_within}
use Rattle.std.proofs.lemmas.List.{take_more}
use Rattle.model.specs.Mdp.{Mdp}
use Rattle.rules.specs.declared.part.Part.{Part}
use Rattle.theory.specs.Mixes.{whole}
use Rattle.rules.specs.Parts.{part_of, units_of}
use Rattle.records.specs.declared.comparison.Comparison.{Comparison}
use Rattle.formula.specs.Tokens.{meant}
use Rattle.trial.specs.declared.verdict.Verdict.{Verdict}
use Rattle.trial.specs.declared.fault.TrialFault.{TrialFault}
use Rattle.trial.specs.declared.fault.TrialFault.TheVariants as fault
use Rattle.trial.specs.Aims.{aim_for}
use Rattle.trial.specs.Queries.{Query, lower_end, upper_end}
use Rattle.trial.specs.Answers.{same_aim, ends_answer, verdict_answer}
use Rattle.trial.specs.VerdictBytes.{read_verdict}
use Rattle.replay.specs.declared.call.Call.{Call}
use Rattle.replay.specs.declared.call.Call.TheVariants as call
use Rattle.replay.specs.Standing.{Stands}
use Rattle.replay.specs.Replays.{Played, Pair, Replayed}
use Rattle.replay.proofs.StandingQuery.{query_from, stands, after_ends}
use Rattle.calls_text.specs.Requests.{Given, Asked, given, start, advance, ends, verdict, judge, hold, play}
use Rattle.calls_text.specs.Texts.{played_calls}
use Rattle.calls_text.specs.VerdictEnds.{ReadOff, VerdictsReadOff}

-- just before place i are given the ends of the state s
pub record Before (calls : List Given) (i s : ℕ) : Type 0 where
  pub place : ℕ
  pub before : i ≡ place + 1
  pub there : slice_get calls place ≡ Some (ends s)

-- one call further on
further : (g : Given) (calls : List Given) (i s : ℕ) → Before calls i s → Before (g ∷ calls) (suc i) s
further g calls i s b = record { place = suc b.place; before = omega (arith, b.before); there = b.there }

-- before each verdict that lines ask for
pub asked_before : (asks : List Asked) (i s b : ℕ) (c : Comparison) → slice_get (flat_map played_calls asks) i ≡ Some (verdict s c b) → Before (flat_map played_calls asks) i s
asked_before [] i s b c e = absurd (cc)
asked_before (hold t ∷ asks) i s b c e = asked_before asks i s b c e
asked_before (play (start left right aim) ∷ asks) zero s b c e = absurd (cc)
asked_before (play (start left right aim) ∷ asks) (suc i) s b c e = further _ _ i s (asked_before asks i s b c e)
asked_before (play (advance k) ∷ asks) zero s b c e = absurd (cc)
asked_before (play (advance k) ∷ asks) (suc i) s b c e = further _ _ i s (asked_before asks i s b c e)
asked_before (play (ends t) ∷ asks) zero s b c e = absurd (cc)
asked_before (play (ends t) ∷ asks) (suc i) s b c e = further _ _ i s (asked_before asks i s b c e)
asked_before (play (verdict t d a) ∷ asks) zero s b c e = absurd (cc)
asked_before (play (verdict t d a) ∷ asks) (suc zero) s b c e =
    let same : t ≡ s = cc in
    record { place = 0; before = refl; there = ap (λ x. Some (ends x)) same }
asked_before (play (verdict t d a) ∷ asks) (suc (suc i)) s b c e = further _ _ (suc i) s (further _ _ i s (asked_before asks i s b c e))
asked_before (play (judge text buffers) ∷ asks) zero s b c e = absurd (cc)
asked_before (play (judge text buffers) ∷ asks) (suc i) s b c e = further _ _ i s (asked_before asks i s b c e)

-- what a call that answered a verdict was before it was played
was_verdict : (m : Mdp) (o : Option Query) (before : Call) (s b : ℕ) (c : Comparison) (v : Verdict) → Played m o before (call.Verdict s c b (Some (Ok v))) → (given before ≡ verdict s c b) × (verdict_answer m o s c b ≡ Ok v)
was_verdict m o (call.Start left right aim a) s b c v p = absurd (cc)
was_verdict m o (call.Advance count a) s b c v p = absurd (cc)
was_verdict m o (call.Ends state a) s b c v p = absurd (cc)
was_verdict m o (call.Verdict state comparison bound a) s b c v p =
    let at : state ≡ s = cc in
    let by : comparison ≡ c = cc in
    let over : bound ≡ b = cc in
    let told : Some (Ok v) ≡ Some (verdict_answer m o state comparison bound) = cc in
    (cc, cc)
was_verdict m o (call.Judge text records scratch out a) s b c v p = absurd p

-- what a call that asks for ends is after it was played
ends_played : (m : Mdp) (o : Option Query) (before after : Call) (s : ℕ) → given before ≡ ends s → Played m o before after → after ≡ call.Ends s (Some (ends_answer m o s))
ends_played m o (call.Start left right aim a) after s e p = absurd (cc)
ends_played m o (call.Advance count a) after s e p = absurd (cc)
ends_played m o (call.Ends state a) after s e p = let same : state ≡ s = cc in p ∙ ap (λ t. call.Ends t (Some (ends_answer m o t))) same
ends_played m o (call.Verdict state comparison bound a) after s e p = absurd (cc)
ends_played m o (call.Judge text records scratch out a) after s e p = absurd (cc)

-- the ends that a verdict is read off are answered where it is
pub record EndsOf (m : Mdp) (o : Option Query) (s : ℕ) (c : Comparison) (b : ℕ) (v : Verdict) : Type 0 where
  pub ends : Part × Part × ℕ
  pub answered : ends_answer m o s ≡ Ok ends
  pub read : v ≡ read_verdict (meant c) b (units_of ends.0) (units_of ends.1)

-- an answer that is not refused
unrefused : {F : Type 0} (x y z : Bool) (f g h : F) (u v : Verdict) → cond x (cond y (cond z (Ok u) (Err f)) (Err g)) (Err h) ≡ Ok v → (x ≡ true) × (v ≡ u)
unrefused true true true f g h u v e = (refl, cc)
unrefused true true false f g h u v e = absurd (cc)
unrefused true false z f g h u v e = absurd (cc)
unrefused false y z f g h u v e = absurd (cc)

-- a verdict that is answered is read off the ends that the same query has there
read_off : (m : Mdp) (o : Option Query) (s : ℕ) (c : Comparison) (b : ℕ) (v : Verdict) → ((q : Query) → o ≡ Some q → s < m.states → Pair m q s) → verdict_answer m o s c b ≡ Ok v → EndsOf m o s c b v
read_off m None s c b v pair e = absurd (cc)
read_off m (Some q) s c b v pair e =
    let passed = unrefused (nat_lt s m.states) (nat_le b whole) (same_aim (aim_for c) q.aim) _ _ _ _ v e in
    let within = pair q refl (ltb-true s m.states passed.0) in
    let lower : lower_end m q s ≡ min (lower_end m q s) whole = omega (arith, within.lower_within) in
    let upper : upper_end m q s ≡ min (upper_end m q s) whole = omega (arith, within.upper_within) in
    record {
      ends = (part_of (lower_end m q s), part_of (upper_end m q s), q.rounds);
      answered = ap (λ t. cond t (Ok (part_of (lower_end m q s), part_of (upper_end m q s), q.rounds)) (Err fault.State)) passed.0;
      read = passed.1 ∙ ap₂ (λ x y. read_verdict (meant c) b x y) lower upper;
    }

-- the query that stands before ends stands after them
stands_on : (calls : List Call) (i j s : ℕ) (a : Option (Result (Part × Part × ℕ) TrialFault)) (d : Call) (o : Option Query) → i ≡ j + 1 → j < length calls → get_or calls j d ≡ call.Ends s a → Stands (take j calls) o → Stands (take i calls) o
stands_on calls i j s a d o e h are stood = rw (e, take_more calls j d h, are) (after_ends s a o (take j calls) stood)

-- where calls are replayed
module _ (m : Mdp) (before after : List Call) (r : Replayed m before after) where
  -- there is a call before it was played where there is one after, and what was given to it
  was : (i : ℕ) (d : Call) → i < length after → slice_get before i ≡ Some (get_or before i d)
  was i d h = slice_get-get_or before i d (omega (arith, h, r.number))

  given_was : (i : ℕ) (d : Call) → i < length after → slice_get (map given before) i ≡ Some (given (get_or before i d))
  given_was i d h = slice_get-map given before i ∙ ap (option_map given) (was i d h)

  -- a verdict was asked for where one was answered
  verdict_asked : (i s b : ℕ) (c : Comparison) (v : Verdict) → slice_get after i ≡ Some (call.Verdict s c b (Some (Ok v))) → slice_get (map given before) i ≡ Some (verdict s c b)
  verdict_asked i s b c v e =
      let d = call.Verdict s c b (Some (Ok v)) in
      let h = slice_get_within after i d e in
      given_was i d h ∙ ap Some (was_verdict m _ _ s b c v (r.played i _ (stands (take i after)) _ d (was i d h) e)).0

  -- it is read off the ends that were asked for just before
  read_at : (i j s b : ℕ) (c : Comparison) (v : Verdict) → i ≡ j + 1 → slice_get after i ≡ Some (call.Verdict s c b (Some (Ok v))) → slice_get (map given before) j ≡ Some (ends s) → ReadOff after i s c b v
  read_at i j s b c v next e asked =
      let d = call.Verdict s c b (Some (Ok v)) in
      let h = slice_get_within after i d e in
      let there : j < length after = omega (arith, h, next) in
      let o = query_from None (take j after) in
      let stood = stands (take j after) in
      let same : Some (given (get_or before j d)) ≡ Some (ends s) = sym (given_was j d there) ∙ asked in
      let ends_asked : given (get_or before j d) ≡ ends s = cc in
      let are = slice_get-get_or after j d there in
      let answered = ends_played m o (get_or before j d) (get_or after j d) s ends_asked (r.played j o stood _ _ (was j d there) are) in
      let then = stands_on after i j s _ d o next there answered stood in
      let read = read_off m o s c b v (λ q f. r.pairs i q (subst (Stands (take i after)) f then) s) (was_verdict m o _ s b c v (r.played i o then _ d (was i d h) e)).1 in
      record {
        place = j;
        before = next;
        ends = read.ends;
        answered = are ∙ ap Some answered ∙ ap (λ x. Some (call.Ends s (Some x))) read.answered;
        read = read.read;
      }

-- where a script is replayed, each verdict is read off the ends before it
pub verdicts_read_off : (m : Mdp) (before after : List Call) (asks : List Asked) → map given before ≡ flat_map played_calls asks → Replayed m before after → VerdictsReadOff after
verdicts_read_off m before after asks told r i s b c v e =
    let k = asked_before asks i s b c (ap (λ gs. slice_get gs i) (sym told) ∙ verdict_asked m before after r i s b c v e) in
    read_at m before after r i k.place s b c v k.before e (ap (λ gs. slice_get gs k.place) told ∙ k.there)
