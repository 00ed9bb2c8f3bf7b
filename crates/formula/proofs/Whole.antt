-- From what is read at the start of a text to the whole text.
use Rattle.std.proofs.Common.{◌≡◌, ℕ, zero, suc, Bool, true, false, ◌+◌, ◌-◌, ◌<◌, ◌≤◌, List, [], ◌∷◌, ◌++◌, length, take, drop, None, Some, Ok, Err, Option, Result, sym, refl, ap, ◌∙◌, subst, append_assoc, append-nil, arith, length-append, length-drop}
use Rattle.std.specs.Result.{IsOk}
use Rattle.std.proofs.Math.Seq.{take-append-add}
use Rattle.std.proofs.lemmas.List.{drop_all, set_at, take_all}
use Rattle.std.proofs.lemmas.Option.{none-some}
use Rattle.model.specs.Mdp.{over}
use Rattle.text.specs.Refusals.{ask, first}
use Rattle.theory.specs.Formulas.{Formula}
use Rattle.grammar.specs.Words.{Language, Shut, Stands, Refused}
use Rattle.grammar.specs.Spelling.{print, Spelled}
use Rattle.grammar.specs.Languages.{StateWord}
use Rattle.grammar.proofs.Readings.{only, one_reading}
use Rattle.records.specs.declared.record.Record.{Record}
use Rattle.records.specs.declared.fault.FormulaFault.{FormulaFault}
use Rattle.records.specs.declared.fault.FormulaFault.TheVariants as fault
use Rattle.records.specs.declared.fault.JudgeFault.{JudgeFault}
use Rattle.records.specs.declared.fault.JudgeFault.TheVariants as judge
use Rattle.formula.specs.declared.reading.Reading.{Reading}
use Rattle.formula.specs.Records.{size, records}
use Rattle.formula.specs.Questions.{first_large, first_unbounded, placed, fault_by, formula_fault}
use Rattle.formula.specs.Places.{LargeNumber, UnboundedUntil}
use Rattle.formula.specs.Readings.{overlaid, StateRead, StateReads}
use Rattle.formula.specs.Answers.{Begins, NoFormula, WholeRead, PlaceIsFirst, Accepted, Faulty, FormulaAnswer, JudgeAnswer}
use Rattle.formula.proofs.Forms.{state_word, length_records}
use Rattle.formula.proofs.Limits.{limits}
use Rattle.formula.proofs.Places.{FirstIfAny, places}

-- the beginning of a list that goes past its front
take_past : (u v : List ℕ) (m n : ℕ) → n ≡ length u + m → take n (u ++ v) ≡ u ++ take m v
take_past u v m n e = ap (λ z. take z (u ++ v)) e ∙ take-append-add u v m

-- a front that the next byte shuts begins no word with more of the rest
shut_more : (L : Language) (front rest : List ℕ) → Shut L front rest → (m : ℕ) → 0 < m → m ≤ length rest → (r : List ℕ) → L (front ++ (take m rest ++ r)) → ⊥
shut_more L front [] h m some l r w = omega (arith, some, l)
shut_more L front (d ∷ rest) h zero some l r w = omega (arith, some)
shut_more L front (d ∷ rest) h (suc m) some l r w = h (take m rest ++ r) w

-- a front of the text that begins a formula, that the next byte shuts, and that is not the whole text and a formula
no_formula : (text front : List ℕ) (p : ℕ) → Stands front text 0 p → Shut StateWord front (drop p text) → Begins front → (length text ≤ p → StateWord front → ⊥) → NoFormula text p
no_formula text front p s shut begun whole = record {
  none = λ w. none (drop p text) refl w;
  within = s.within;
  begins = subst Begins (sym exact) begun;
  longest = λ n more l b.
      let m = n - p in
      let split : take n text ≡ front ++ take m (drop p text) =
      ap (take n) s.splits ∙ take_past front (drop p text) m n (omega (arith, more, place)) in
      shut_more StateWord front (drop p text) shut m (omega (arith, more)) (omega (arith, l, length-drop p text)) b.0
      (subst StateWord (ap (λ z. z ++ b.0) split ∙ append_assoc front (take m (drop p text)) b.0) b.1);
}
  where
    place : p ≡ length front
    place = omega (arith, s.place)

    exact : take p text ≡ front
    exact = ap (take p) s.splits ∙ take_past front (drop p text) 0 p (omega (arith, place)) ∙ append-nil front

    none : (rest : List ℕ) → drop p text ≡ rest → StateWord text → ⊥
    none [] e w = whole (omega (arith, ap length e, length-drop p text)) (subst StateWord (s.splits ∙ ap (λ z. front ++ z) e ∙ append-nil front) w)
    none (d ∷ rest) e w =
        let never : Shut StateWord front (d ∷ rest) = subst (Shut StateWord front) e shut in
        never rest (subst StateWord (s.splits ∙ ap (λ z. front ++ z) e) w)

-- where reading breaks off, the text is no formula
pub broken_off : (text : List ℕ) (p : ℕ) → Refused StateWord text 0 p → NoFormula text p
broken_off text p s = no_formula text s.front p s.stands s.shuts (let (c, r, w) = s.opens in (c ∷ r, w)) (λ _. s.none)

module _ {text : List ℕ} {lent left : List Record} {r : Reading} (s : StateRead text 0 0 lent left r) where
  -- where more stands behind a formula, it is none either
  pub more_behind : (r.end ≡ length text → ⊥) → NoFormula text r.end
  more_behind short =
      no_formula text (print s.formula) r.end s.stands (state_word s).ends ([], (s.formula, s.spelled, append-nil (print s.formula)))
      (λ l. absurd (short (omega (arith, l, s.within))))

  -- else it is the formula
  whole_text : r.end ≡ length text → text ≡ print s.formula
  whole_text e = s.stands.splits ∙ ap (λ z. print s.formula ++ z) (drop_all r.end text (omega (arith, e))) ∙ append-nil (print s.formula)

  -- and what is known of it is so of the whole text
  pub whole_read : r.end ≡ length text → WholeRead text r
  whole_read e = record {
    formula = s.formula;
    spelled = s.spelled;
    spells = whole_text e;
    counts = omega (arith, s.counts);
    deep = s.deep;
    large = s.large;
    unbounded = s.unbounded;
  }

  -- what is read again is the same formula
  pub same_formula : (f : Formula) → Spelled f → text ≡ print f → s.formula ≡ f
  same_formula f l e = only s.formula s.spelled f (drop r.end text) [] l (sym s.stands.splits ∙ e ∙ sym (append-nil (print f)))

-- the fault that is found by what is known is the formula's
pub same_fault : {text : List ℕ} {r : Reading} (n : ℕ) (s : WholeRead text r) → fault_by r.large r.depth r.count n r.unbounded ≡ formula_fault n s.formula
same_fault {text} {r} n s = rw (s.large, s.deep, s.counts, s.unbounded) refl

-- no question gives the fault of a text that is no formula
no_question : (large : Option ℕ) (deep few : Bool) (unbounded : Option ℕ) (p : ℕ) → first (placed fault.Number large ∷ ask deep fault.Depth ∷ ask few fault.Records ∷ placed fault.Until unbounded ∷ []) ≡ Some (fault.NoFormula p) → ⊥
no_question (Some q) deep few unbounded p e = absurd cc
no_question None false few unbounded p e = absurd cc
no_question None true false unbounded p e = absurd cc
no_question None true true (Some q) p e = absurd cc
no_question None true true None p e = absurd cc

-- the fault of a large number tells the place of the first
number_told : (large : Option ℕ) (deep few : Bool) (unbounded : Option ℕ) (p : ℕ) → first (placed fault.Number large ∷ ask deep fault.Depth ∷ ask few fault.Records ∷ placed fault.Until unbounded ∷ []) ≡ Some (fault.Number p) → large ≡ Some p
number_told (Some q) deep few unbounded p e = cc
number_told None false few unbounded p e = absurd cc
number_told None true false unbounded p e = absurd cc
number_told None true true (Some q) p e = absurd cc
number_told None true true None p e = absurd cc

-- that of an until under a bound that it may not have tells the place of the first
until_told : (large : Option ℕ) (deep few : Bool) (unbounded : Option ℕ) (p : ℕ) → first (placed fault.Number large ∷ ask deep fault.Depth ∷ ask few fault.Records ∷ placed fault.Until unbounded ∷ []) ≡ Some (fault.Until p) → unbounded ≡ Some p
until_told (Some q) deep few unbounded p e = absurd cc
until_told None false few unbounded p e = absurd cc
until_told None true false unbounded p e = absurd cc
until_told None true true (Some q) p e = cc
until_told None true true None p e = absurd cc

-- so the place of a formula's fault is the first of its kind
fault_placed : (f : Formula) → Spelled f → (n : ℕ) (e : FormulaFault) → formula_fault n f ≡ Some e → PlaceIsFirst (print f) e
fault_placed f l n (fault.NoFormula p) x = tt
fault_placed f l n (fault.Number p) x = subst (FirstIfAny (LargeNumber (print f))) (number_told (first_large 0 f) _ _ (first_unbounded 0 f) p x) (places f l).0
fault_placed f l n fault.Depth x = tt
fault_placed f l n fault.Records x = tt
fault_placed f l n (fault.Until p) x = subst (FirstIfAny (UnboundedUntil (print f))) (until_told (first_large 0 f) _ _ (first_unbounded 0 f) p x) (places f l).1

-- a text spells no other formula
pub only_spelled : (text : List ℕ) (f : Formula) → Spelled f → text ≡ print f → (other : Formula) → Spelled other → text ≡ print other → other ≡ f
only_spelled text f spelled spells other s e = one_reading other f s spelled (sym e ∙ spells)

-- a text whose formula has this fault is refused with it
pub faulty : {text : List ℕ} {r : Reading} (n : ℕ) (s : WholeRead text r) (e : FormulaFault) → fault_by r.large r.depth r.count n r.unbounded ≡ Some e → (lent : List Record) → length lent ≡ n → FormulaAnswer text lent lent (Err e)
faulty {text} {r} n s e x lent l = each e (record {
  formula = s.formula;
  spelled = s.spelled;
  spells = s.spells;
  only = only_spelled text s.formula s.spelled s.spells;
  beyond = λ within. let clear = (limits (length lent) s.formula s.spelled).1 within in none-some e (sym clear ∙ found);
  refused = found;
  first = subst (λ z. PlaceIsFirst z e) (sym s.spells) (fault_placed s.formula s.spelled n e (sym (same_fault n s) ∙ x));
  kept = refl;
}) x
  where
    found : formula_fault (length lent) s.formula ≡ Some e
    found = ap (λ k. formula_fault k s.formula) l ∙ sym (same_fault n s) ∙ x

    each : (e : FormulaFault) → Faulty text lent lent e → fault_by r.large r.depth r.count n r.unbounded ≡ Some e → FormulaAnswer text lent lent (Err e)
    each (fault.NoFormula p) f x = absurd (no_question r.large _ _ r.unbounded p x)
    each (fault.Number p) f x = f
    each fault.Depth f x = f
    each fault.Records f x = f
    each (fault.Until p) f x = f

-- a refusal changes no record
pub refusal_keeps : (text : List ℕ) (lent left : List Record) (e : JudgeFault) → JudgeAnswer text lent left (Err e) → left ≡ lent
refusal_keeps text lent left judge.Length x = x.1
refusal_keeps text lent left (judge.Formula (fault.NoFormula p)) x = x.1.1
refusal_keeps text lent left (judge.Formula (fault.Number p)) x = x.1.kept
refusal_keeps text lent left (judge.Formula fault.Depth) x = x.1.kept
refusal_keeps text lent left (judge.Formula fault.Records) x = x.1.kept
refusal_keeps text lent left (judge.Formula (fault.Until p)) x = x.1.kept
refusal_keeps text lent left judge.Scratch x = absurd x
refusal_keeps text lent left judge.Out x = absurd x

-- what is written over the front of a list stands there, and what is beyond it is as it was
overlaid_at : (u v rs : List Record) (k : ℕ) → k ≡ length u → length rs ≤ length v → overlaid (u ++ v) k rs ≡ u ++ (rs ++ drop (length rs) v)
overlaid_at u v [] k e l = refl
overlaid_at u [] (r ∷ rs) k e l = absurd (omega (arith, l))
overlaid_at u (x ∷ v) (r ∷ rs) k e l =
    ap (λ z. overlaid z (k + 1) rs) (set_at u x v r k (sym e) ∙ sym (append_assoc u (r ∷ []) v))
    ∙ overlaid_at (u ++ (r ∷ [])) v rs (k + 1) (omega (arith, e, length-append u (r ∷ []))) (omega (arith, l))
    ∙ append_assoc u (r ∷ []) (rs ++ drop (length rs) v)

-- where so many records are lent, a text whose formula has no fault is accepted
pub accepted : {text : List ℕ} {r : Reading} (n : ℕ) (s : WholeRead text r) → fault_by r.large r.depth r.count n r.unbounded ≡ None → (lent : List Record) → length lent ≡ n → Accepted text lent (over (records 0 s.formula) lent) r.count
accepted n s clear lent l = record {
  formula = s.formula;
  spelled = s.spelled;
  spells = s.spells;
  only = only_spelled _ s.formula s.spelled s.spells;
  within = (limits (length lent) s.formula s.spelled).0 (ap (λ k. formula_fault k s.formula) l ∙ sym (same_fault n s) ∙ clear);
  number = s.counts;
  written = refl;
}

-- and where it is read again, its records are filled
pub filled : {text : List ℕ} {lent left left' : List Record} {n : ℕ} {r : Reading} (s : Accepted text lent left n) → StateRead text 0 0 lent left' r → Accepted text lent left' n
filled {text} {lent} {left} {left'} {n} {r} s again = record {
  formula = s.formula;
  spelled = s.spelled;
  spells = s.spells;
  only = s.only;
  within = s.within;
  number = s.number;
  written =
      again.written
      ∙ ap (λ z. overlaid lent 0 (records 0 z)) (same_formula again s.formula s.spelled s.spells)
      ∙ overlaid_at [] lent (records 0 s.formula) 0 refl (omega (arith, all, s.within.room))
      ∙ ap (λ z. z ++ drop (length (records 0 s.formula)) lent) (sym (take_all (length lent) (records 0 s.formula) (omega (arith, all, s.within.room))));
}
  where
    all : length (records 0 s.formula) ≡ size s.formula
    all = length_records s.formula 0

-- a text that spells a formula is read
pub is_read : {text : List ℕ} (lent left : List Record) (r : Result Reading ℕ) → StateReads text 0 0 lent left r → StateWord text → IsOk r
is_read lent left (Ok q) s w = refl
is_read lent left (Err p) s w = absurd ((broken_off _ _ s).none w)
