-- What a line has passed where no question refuses it.
use Rattle.std.proofs.Common.{◌≡◌, ℕ, ◌+◌, Bool, true, List, ◌∷◌, Some, None, Option, sym, refl}
use Rattle.std.proofs.lemmas.Option.{none-some}
use Rattle.text.specs.declared.fault.LineFault.{LineFault}
use Rattle.text.specs.Cuts.{Line}
use Rattle.text.specs.Questions.{states_there}
use Rattle.text_laws.proofs.Fits.{Fits}
use Rattle.text.specs.Refusals.{ask, or_next, numbered, line_fault, line_refusal, lines_refusal}
use Rattle.text.proofs.Asking.{ask_none}

-- where two have no fault in turn, neither has one
pub or_next_none : {F : Type 0} (x y : Option F) → or_next x y ≡ None → (x ≡ None) × (y ≡ None)
or_next_none None y e = (refl, e)
or_next_none (Some fault) y e = absurd (none-some fault (sym e))

-- a question and what comes after it
pub ask_next_none : {F : Type 0} (answer : Bool) (fault : F) (y : Option F) → or_next (ask answer fault) y ≡ None → (answer ≡ true) × (y ≡ None)
ask_next_none answer fault y e = let p = or_next_none (ask answer fault) y e in (ask_none answer fault p.0, p.1)

-- a number is given to faults alone
pub numbered_none : (n : ℕ) (f : Option LineFault) → numbered n f ≡ None → f ≡ None
numbered_none n None e = refl
numbered_none n (Some f) e = absurd (none-some _ (sym e))

-- a line with no fault has passed
passes_line : (before : List Line) (line : Line) → line_fault before line ≡ None → states_there before line ≡ true → Fits before line
passes_line before line e there =
    let a = ask_next_none _ _ _ e in
    let b = ask_next_none _ _ _ a.1 in
    let c = ask_next_none _ _ _ b.1 in
    let d = ask_next_none _ _ _ c.1 in
    let f = ask_next_none _ _ _ d.1 in
    let g = ask_next_none _ _ _ f.1 in
    let h = ask_next_none _ _ _ g.1 in
    let i = ask_next_none _ _ _ h.1 in
    let j = ask_next_none _ _ _ i.1 in
    let k = ask_next_none _ _ _ j.1 in
    let l = ask_next_none _ _ _ k.1 in
    record {
      word = a.0;
      fields = b.0;
      first_number = c.0;
      second_number = d.0;
      range = f.0;
      labels = g.0;
      order = h.0;
      sum = i.0;
      states = j.0;
      choices = k.0;
      branches = l.0;
      complete = there;
    }

-- lines that are not refused: the first has passed, and those after it are not refused
pub passes : (before : List Line) (n : ℕ) (l : Line) (ls : List Line) → lines_refusal before n (l ∷ ls) ≡ None → Fits before l × (lines_refusal (l ∷ before) (n + 1) ls ≡ None)
passes before n l ls e =
    let p = or_next_none (line_refusal before n l) _ e in
    let q = or_next_none (numbered n (line_fault before l)) _ p.0 in
    (passes_line before l (numbered_none n (line_fault before l) q.0) (ask_next_none _ _ _ q.1).0, p.1)
