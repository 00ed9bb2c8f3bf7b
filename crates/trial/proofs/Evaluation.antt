-- The records of a formula are evaluated to the rows of its parts.
use Rattle.std.proofs.Common.{◌≡◌, ℕ, suc, ◌+◌, ◌*◌, ◌<◌, ◌≤◌, List, [], ◌∷◌, ◌++◌, length, take, None, Some, Option, sym, refl, ap, ◌∙◌, subst, get_or, set, append_assoc, append-nil, arith, length-append}
use Rattle.std.proofs.Math.Seq.{take-append_seam, drop-append_seam}
use Rattle.std.proofs.lemmas.List.{get_or_at, set_at, nil_from_length}
use Rattle.std.proofs.lemmas.Grind.{flat_map-append}
use Rattle.std.proofs.lemmas.List.FromFn.{length-map-range_with_len}
use Rattle.model.specs.Mdp.{Mdp, Lawful}
use Rattle.theory.specs.Formulas.{Comparison, below, at_most, above, at_least, Formula, truth, label, negation, conjunction, probability, PathFormula, next, until_within, until, LawfulFormula, LawfulPath, extremal}
use Rattle.theory.specs.Verdicts.{VerdictSets, asked, negated, joined, next_verdicts, until_within_verdicts}
use Rattle.theory.specs.Found.{verdicts, until_verdicts, TwoEnds, ends_of}
use Rattle.theory.specs.Ends.{lower, upper, next_lower, next_upper}
use Rattle.theory.specs.Mixes.{mix_down, mix_up}
use Rattle.theory.proofs.Alike.{held_alike, next_alike}
use Rattle.theory.proofs.Compare.{asked_laws}
use Rattle.theory.proofs.RuleLaws.{down_greater, down_lesser, up_greater, up_lesser}
use Rattle.records.specs.declared.record.Record.{Record}
use Rattle.formula.specs.Records.{size, path_size, own, parts, path_parts, records, path_records, coded, line, path_kind, path_first, path_second, path_steps}
use Rattle.formula.specs.Tokens.{meant}
use Rattle.trial.specs.Rows.{sets, bytes}
use Rattle.trial.specs.Judging.{row_of, rows_of, counted, counted_each}
use Rattle.trial.specs.Evaluation.{row_at, HasRow, Needs, row_by, ends_by, RecordOf, Chained}
use Rattle.trial.specs.declared.two_ends.Ends.{Ends}
use Rattle.trial.specs.PathEnds.{ends_of_last, Told, EndsAgree}
use Rattle.trial.proofs.FormulaRows.{formula_sets, negation_row, conjunction_row, next_row, until_within_row, until_row}

-- the comparison that is coded is the one that is meant
coded_meant : (c : Comparison) → meant (coded c) ≡ c
coded_meant below = refl
coded_meant at_most = refl
coded_meant above = refl
coded_meant at_least = refl

-- the parts of a formula that come before itself
abbrev pub parts_before : Formula → List Formula
parts_before truth = []
parts_before (label i) = []
parts_before (negation f) = parts f
parts_before (conjunction f g) = parts f ++ parts g
parts_before (probability c b p) = path_parts p

-- a formula is the last of its parts
pub parts_last : (f : Formula) → parts f ≡ parts_before f ++ (f ∷ [])
parts_last truth = refl
parts_last (label i) = refl
parts_last (negation f) = refl
parts_last (conjunction f g) = sym (append_assoc (parts f) (parts g) (conjunction f g ∷ []))
parts_last (probability c b p) = refl

-- there are as many parts as state formulas
mutual
  pub length_parts : (f : Formula) → length (parts f) ≡ size f
  length_parts truth = refl
  length_parts (label i) = refl
  length_parts (negation f) = length-append (parts f) (negation f ∷ []) ∙ ap (λ k. k + 1) (length_parts f)
  length_parts (conjunction f g) =
      let a = length-append (parts f) (parts g ++ (conjunction f g ∷ [])) in
      let b = length-append (parts g) (conjunction f g ∷ []) in
      let x = length_parts f in
      let y = length_parts g in
      omega arith
  length_parts (probability c b p) = length-append (path_parts p) (probability c b p ∷ []) ∙ ap (λ k. k + 1) (length_path_parts p)

  length_path_parts : (p : PathFormula) → length (path_parts p) ≡ path_size p
  length_path_parts (next f) = length_parts f
  length_path_parts (until_within k f g) = let x = length_parts f in let y = length_parts g in let a = length-append (parts f) (parts g) in omega arith
  length_path_parts (until f g) = let x = length_parts f in let y = length_parts g in let a = length-append (parts f) (parts g) in omega arith

module _ (m : Mdp) where
  -- a row has a byte for each state
  pub row_length : (f : Formula) → length (row_of m f) ≡ m.states
  row_length f = length-map-range_with_len _ 0 m.states

  -- and several rows as many bytes together
  pub rows_length : (fs : List Formula) → length (rows_of m fs) ≡ length fs * m.states
  rows_length [] = omega arith
  rows_length (f ∷ fs) = length-append (row_of m f) (rows_of m fs) ∙ rw (row_length f, rows_length fs) (omega arith)

  -- a row that stands after i rows is the one with the number i
  pub row_after : (before row behind : List ℕ) (i : ℕ) → length before ≡ i * m.states → length row ≡ m.states → row_at m.states (before ++ (row ++ behind)) i ≡ row
  row_after before row behind i e n =
      rw (sym e, drop-append_seam before (row ++ behind), sym n) (take-append_seam row behind)

  -- and it is there
  has_row : (before row behind : List ℕ) (i : ℕ) → length before ≡ i * m.states → length row ≡ m.states → HasRow m.states (before ++ (row ++ behind)) i
  has_row before row behind i e n = let a = length-append before (row ++ behind) in let b = length-append row behind in omega (arith, a, b, e, n)

  -- the rows of a formula's parts end in its own
  pub rows_last : (f : Formula) → rows_of m (parts f) ≡ rows_of m (parts_before f) ++ row_of m f
  rows_last f = ap (rows_of m) (parts_last f) ∙ flat_map-append (row_of m) (parts_before f) (f ∷ []) ∙ ap (λ r. rows_of m (parts_before f) ++ r) (append-nil (row_of m f))

  -- the row of a formula stands among the rows of its parts under the number of its own record
  module _ (f : Formula) (k : ℕ) (rows behind : List ℕ) (e : length rows ≡ k * m.states) where
    -- the rows up to it
    abbrev rows_up : List ℕ
    rows_up = rows ++ rows_of m (parts_before f)

    rows_split : rows ++ (rows_of m (parts f) ++ behind) ≡ rows_up ++ (row_of m f ++ behind)
    rows_split =
        ap (λ r. rows ++ (r ++ behind)) (rows_last f)
        ∙ ap (λ r. rows ++ r) (append_assoc (rows_of m (parts_before f)) (row_of m f) behind)
        ∙ sym (append_assoc rows (rows_of m (parts_before f)) (row_of m f ++ behind))

    up_length : length rows_up ≡ own k f * m.states
    up_length =
        let a = length-append (parts_before f) (f ∷ []) in
        let b = ap length (parts_last f) in
        let c = length_parts f in
        let i : k + length (parts_before f) ≡ own k f = omega (arith, a, b, c) in
        length-append rows (rows_of m (parts_before f)) ∙ rw (e, rows_length (parts_before f)) (omega arith) ∙ ap (λ j. j * m.states) i

    pub own_row : row_at m.states (rows ++ (rows_of m (parts f) ++ behind)) (own k f) ≡ row_of m f
    own_row = ap (λ r. row_at m.states r (own k f)) rows_split ∙ row_after rows_up (row_of m f) behind (own k f) up_length (row_length f)

    pub own_there : HasRow m.states (rows ++ (rows_of m (parts f) ++ behind)) (own k f)
    own_there = subst (λ r. HasRow m.states r (own k f)) (sym rows_split) (has_row rows_up (row_of m f) behind (own k f) up_length (row_length f))

  -- records of more formulas, from the rows of the first ones on
  chained_append : (rows : List ℕ) (fs gs : List Formula) (rs qs : List Record) → Chained m rows fs rs → Chained m (rows ++ rows_of m fs) gs qs → Chained m rows (fs ++ gs) (rs ++ qs)
  chained_append rows [] gs [] qs x y = subst (λ r. Chained m r gs qs) (append-nil rows) y
  chained_append rows [] gs (r ∷ rs) qs x y = absurd x
  chained_append rows (f ∷ fs) gs [] qs x y = absurd x
  chained_append rows (f ∷ fs) gs (r ∷ rs) qs x y = (x.0, chained_append (rows ++ row_of m f) fs gs rs qs x.1 (subst (λ r. Chained m r gs qs) (sym (append_assoc rows (row_of m f) (rows_of m fs))) y))

  -- the row of a formula, where no rows stand behind those of its parts
  module _ (f : Formula) (k : ℕ) (rows : List ℕ) (e : length rows ≡ k * m.states) where
    -- nothing stands behind them
    nothing_behind : rows ++ (rows_of m (parts f) ++ []) ≡ rows ++ rows_of m (parts f)
    nothing_behind = ap (λ r. rows ++ r) (append-nil (rows_of m (parts f)))

    pub last_row : row_at m.states (rows ++ rows_of m (parts f)) (own k f) ≡ row_of m f
    last_row = subst (λ r. row_at m.states r (own k f) ≡ row_of m f) nothing_behind (own_row f k rows [] e)

    pub last_there : HasRow m.states (rows ++ rows_of m (parts f)) (own k f)
    last_there = subst (λ r. HasRow m.states r (own k f)) nothing_behind (own_there f k rows [] e)

    -- the rows of the parts fill as many places as there are parts
    pub rows_on : length (rows ++ rows_of m (parts f)) ≡ (k + size f) * m.states
    rows_on = length-append rows (rows_of m (parts f)) ∙ rw (e, rows_length (parts f), length_parts f) (omega arith)

  -- the rows of two parts, one after the other
  module _ (f g : Formula) (k : ℕ) (rows : List ℕ) (e : length rows ≡ k * m.states) where
    -- all of them
    abbrev pub both_rows : List ℕ
    both_rows = (rows ++ rows_of m (parts f)) ++ rows_of m (parts g)

    -- those of the first stand first
    first_first : rows ++ (rows_of m (parts f) ++ rows_of m (parts g)) ≡ both_rows
    first_first = sym (append_assoc rows (rows_of m (parts f)) (rows_of m (parts g)))

    pub first_row : row_at m.states both_rows (own k f) ≡ row_of m f
    first_row = subst (λ r. row_at m.states r (own k f) ≡ row_of m f) first_first (own_row f k rows (rows_of m (parts g)) e)

    pub first_there : HasRow m.states both_rows (own k f)
    first_there = subst (λ r. HasRow m.states r (own k f)) first_first (own_there f k rows (rows_of m (parts g)) e)

    pub second_row : row_at m.states both_rows (own (k + size f) g) ≡ row_of m g
    second_row = last_row g (k + size f) (rows ++ rows_of m (parts f)) (rows_on f k rows e)

    pub second_there : HasRow m.states both_rows (own (k + size f) g)
    second_there = last_there g (k + size f) (rows ++ rows_of m (parts f)) (rows_on f k rows e)

    -- what is made of both rows is made of the rows of the two formulas
    pub two_rows : {A : Type 0} (made : VerdictSets → VerdictSets → A) →
        made (sets (row_at m.states both_rows (own k f))) (sets (row_at m.states both_rows (own (k + size f) g))) ≡ made (sets (row_of m f)) (sets (row_of m g))
    two_rows made =
        ap (λ r. made (sets r) (sets (row_at m.states both_rows (own (k + size f) g)))) first_row
        ∙ ap (λ r. made (sets (row_of m f)) (sets r)) second_row

    -- they are the rows of all parts of both
    pub rows_of_both : rows ++ rows_of m (parts f ++ parts g) ≡ both_rows
    rows_of_both = ap (λ r. rows ++ r) (flat_map-append (row_of m) (parts f) (parts g)) ∙ first_first

module _ (m : Mdp) (l : Lawful m) where
  -- the record of a probability
  abbrev own_line : Comparison → ℕ → PathFormula → ℕ → Record
  own_line c b p k = line (path_kind p) (path_first k p) (path_second k p) (Some (coded c)) b (path_steps p)

  -- the ends over the verdicts that the rows of the parts tell are those over the parts' own
  next_told : (c : Comparison) (f : Formula) (s : ℕ) → s < m.states →
      (next_lower (asked c) (sets (row_of m f)).sure m s ≡ next_lower (asked c) (verdicts m f).sure m s) × (next_upper (asked c) (sets (row_of m f)).possible m s ≡ next_upper (asked c) (verdicts m f).possible m s)
  next_told c f s h =
      let same = formula_sets m l f in (
        next_alike m l s h (asked c) mix_down (asked_laws mix_down down_greater down_lesser c) (sets (row_of m f)).sure (verdicts m f).sure same.sures,
        next_alike m l s h (asked c) mix_up (asked_laws mix_up up_greater up_lesser c) (sets (row_of m f)).possible (verdicts m f).possible same.possibles,
      )

  -- the same of an until with steps
  within_told : (c : Comparison) (n : ℕ) (f g : Formula) (s : ℕ) → s < m.states →
      (lower (asked c) (sets (row_of m f)).sure (sets (row_of m g)).sure n m s ≡ lower (asked c) (verdicts m f).sure (verdicts m g).sure n m s)
      × (upper (asked c) (sets (row_of m f)).possible (sets (row_of m g)).possible n m s ≡ upper (asked c) (verdicts m f).possible (verdicts m g).possible n m s)
  within_told c n f g s h =
      let x = formula_sets m l f in
      let y = formula_sets m l g in (
        held_alike m l s h (asked c) mix_down (asked_laws mix_down down_greater down_lesser c) (sets (row_of m f)).sure (verdicts m f).sure (sets (row_of m g)).sure (verdicts m g).sure x.sures y.sures n,
        held_alike m l s h (asked c) mix_up (asked_laws mix_up up_greater up_lesser c) (sets (row_of m f)).possible (verdicts m f).possible (sets (row_of m g)).possible (verdicts m g).possible x.possibles y.possibles n,
      )

  -- the record of a probability is that of its formula, over the rows of its parts
  path_record : (c : Comparison) (b : ℕ) (p : PathFormula) → LawfulPath c b p → (k : ℕ) (rows : List ℕ) → length rows ≡ k * m.states →
      RecordOf m (rows ++ rows_of m (path_parts p)) (probability c b p) (own_line c b p k)
  path_record c b (next f) w k rows e = record {
    needs = ((coded c, refl), last_there m f k rows e);
    row = ap (λ r. bytes m.states (next_verdicts (meant (coded c)) b m (sets r))) (last_row m f k rows e)
        ∙ ap (λ d. bytes m.states (next_verdicts d b m (sets (row_of m f)))) (coded_meant c)
        ∙ next_row m l c b f;
    ends = λ s h.
        let told = next_told c f s h in (
          ap (λ r. next_lower (asked (meant (coded c))) (sets r).sure m s) (last_row m f k rows e) ∙ ap (λ d. next_lower (asked d) (sets (row_of m f)).sure m s) (coded_meant c) ∙ told.0,
          ap (λ r. next_upper (asked (meant (coded c))) (sets r).possible m s) (last_row m f k rows e) ∙ ap (λ d. next_upper (asked d) (sets (row_of m f)).possible m s) (coded_meant c) ∙ told.1,
        );
  }
  path_record c b (until_within n f g) w k rows e = subst (λ r. RecordOf m r (probability c b (until_within n f g)) (own_line c b (until_within n f g) k)) (sym (rows_of_both m f g k rows e)) (record {
    needs = ((coded c, refl), first_there m f g k rows e, second_there m f g k rows e, w.0);
    row = two_rows m f g k rows e (λ x y. bytes m.states (until_within_verdicts (meant (coded c)) b n m x y))
        ∙ ap (λ d. bytes m.states (until_within_verdicts d b n m (sets (row_of m f)) (sets (row_of m g)))) (coded_meant c)
        ∙ until_within_row m l c b n f g;
    ends = λ s h.
        let told = within_told c n f g s h in (
          two_rows m f g k rows e (λ x y. lower (asked (meant (coded c))) x.sure y.sure n m s) ∙ ap (λ d. lower (asked d) (sets (row_of m f)).sure (sets (row_of m g)).sure n m s) (coded_meant c) ∙ told.0,
          two_rows m f g k rows e (λ x y. upper (asked (meant (coded c))) x.possible y.possible n m s) ∙ ap (λ d. upper (asked d) (sets (row_of m f)).possible (sets (row_of m g)).possible n m s) (coded_meant c) ∙ told.1,
        );
  })
  path_record c b (until f g) w k rows e = subst (λ r. RecordOf m r (probability c b (until f g)) (own_line c b (until f g) k)) (sym (rows_of_both m f g k rows e)) (record {
    needs = ((coded c, refl), first_there m f g k rows e, second_there m f g k rows e);
    row = two_rows m f g k rows e (λ x y. bytes m.states (until_verdicts (extremal (meant (coded c)) b) m x y))
        ∙ ap (λ d. bytes m.states (until_verdicts (extremal d b) m (sets (row_of m f)) (sets (row_of m g)))) (coded_meant c)
        ∙ until_row m l c b f g;
    ends = tt;
  })

  mutual
    -- the records of a formula are chained with its parts
    pub chained : (f : Formula) → LawfulFormula f → (k : ℕ) (rows : List ℕ) → length rows ≡ k * m.states → Chained m rows (parts f) (records k f)
    chained truth w k rows e = (record { needs = tt; row = refl; ends = tt }, tt)
    chained (label i) w k rows e = (record { needs = w; row = refl; ends = tt }, tt)
    chained (negation f) w k rows e =
        chained_append m rows (parts f) (negation f ∷ []) (records k f) _ (chained f w k rows e)
        (record { needs = last_there m f k rows e; row = ap (λ r. bytes m.states (negated (sets r))) (last_row m f k rows e) ∙ negation_row m l f; ends = tt }, tt)
    chained (conjunction f g) w k rows e =
        chained_append m rows (parts f) (parts g ++ (conjunction f g ∷ [])) (records k f) _ (chained f w.0 k rows e)
        (chained_append m (rows ++ rows_of m (parts f)) (parts g) (conjunction f g ∷ []) (records (k + size f) g) _ (chained g w.1 (k + size f) (rows ++ rows_of m (parts f)) (rows_on m f k rows e)) (
          record {
            needs = (first_there m f g k rows e, second_there m f g k rows e);
            row = two_rows m f g k rows e (λ x y. bytes m.states (joined x y)) ∙ conjunction_row m l f g;
            ends = tt;
          },
          tt,
        ))
    chained (probability c b p) w k rows e =
        chained_append m rows (path_parts p) (probability c b p ∷ []) (path_records k p) _ (path_chained c b p w.1 k rows e) (path_record c b p w.1 k rows e, tt)

    -- those of the parts of a path formula
    path_chained : (c : Comparison) (b : ℕ) (p : PathFormula) → LawfulPath c b p → (k : ℕ) (rows : List ℕ) → length rows ≡ k * m.states → Chained m rows (path_parts p) (path_records k p)
    path_chained c b (next f) w k rows e = chained f w k rows e
    path_chained c b (until_within n f g) w k rows e =
        chained_append m rows (parts f) (parts g) (records k f) (records (k + size f) g) (chained f w.1 k rows e) (chained g w.2 (k + size f) (rows ++ rows_of m (parts f)) (rows_on m f k rows e))
    path_chained c b (until f g) w k rows e =
        chained_append m rows (parts f) (parts g) (records k f) (records (k + size f) g) (chained f w.1 k rows e) (chained g w.2 (k + size f) (rows ++ rows_of m (parts f)) (rows_on m f k rows e))

-- a formula and its record are the next of those that are left
pub record NextOne (m : Mdp) (rows : List ℕ) (more : List Formula) (rest : List Record) : Type 0 where
  pub formula : Formula
  pub formulas : List Formula
  pub line : Record
  pub lines : List Record
  pub more_is : more ≡ formula ∷ formulas
  pub rest_is : rest ≡ line ∷ lines
  pub own : RecordOf m rows formula line
  pub chain : Chained m (rows ++ row_of m formula) formulas lines

-- while a record is left there is such a one
next_one : (m : Mdp) (rows : List ℕ) (more : List Formula) (rest : List Record) → Chained m rows more rest → 0 < length rest → NextOne m rows more rest
next_one m rows [] [] c h = absurd (omega (arith, h))
next_one m rows [] (r ∷ rs) c h = absurd c
next_one m rows (f ∷ fs) [] c h = absurd c
next_one m rows (f ∷ fs) (r ∷ rs) c h = record { formula = f; formulas = fs; line = r; lines = rs; more_is = refl; rest_is = refl; own = c.0; chain = c.1 }

-- records are counted one by one
counted_more : (m : Mdp) (fs : List Formula) (f : Formula) (rs : List Record) (r : Record) → length fs ≡ length rs → counted_each m (fs ++ (f ∷ [])) (rs ++ (r ∷ [])) ≡ counted_each m fs rs ++ (counted (row_of m f) r ∷ [])
counted_more m [] f [] r e = refl
counted_more m [] f (q ∷ rs) r e = absurd (omega (arith, e))
counted_more m (g ∷ fs) f [] r e = absurd (omega (arith, e))
counted_more m (g ∷ fs) f (q ∷ rs) r e = ap (λ qs. counted (row_of m g) q ∷ qs) (counted_more m fs f rs r (omega (arith, e)))

-- and stay as many
pub counted_length : (m : Mdp) (fs : List Formula) (rs : List Record) → length fs ≡ length rs → length (counted_each m fs rs) ≡ length rs
counted_length m [] rs e = refl
counted_length m (f ∷ fs) [] e = absurd (omega (arith, e))
counted_length m (f ∷ fs) (r ∷ rs) e = ap suc (counted_length m fs rs (omega (arith, e)))

-- ends that agree with those that are told are told too
told_agree : (n : ℕ) (x y : Option TwoEnds) (o : Option Ends) → Told n x o → EndsAgree n x y → Told n y o
told_agree n None None None t a = tt
told_agree n None None (Some e) t a = absurd t
told_agree n None (Some y) o t a = absurd a
told_agree n (Some x) None o t a = absurd a
told_agree n (Some x) (Some y) None t a = absurd t
told_agree n (Some x) (Some y) (Some e) t a = record { so_many = t.so_many; lower = λ d s h. t.lower d s h ∙ (a s h).0; upper = λ d s h. t.upper d s h ∙ (a s h).1 }

-- the ends of the last of several formulas are those of the one behind the others
pub ends_last : (m : Mdp) (fs : List Formula) (f : Formula) → ends_of_last m (fs ++ (f ∷ [])) ≡ ends_of m f
ends_last m [] f = refl
ends_last m (g ∷ []) f = refl
ends_last m (g ∷ h ∷ fs) f = ends_last m (h ∷ fs) f

-- the first i of these records are evaluated: they have their counts, their rows stand at the front of the scratch, and the ends are those of the last
pub record Evaluated (m : Mdp) (fs : List Formula) (given : List Record) (i : ℕ) (left : List Record) (scratch : List ℕ) (ends : Option Ends) : Type 0 where
  pub done : List Formula
  pub more : List Formula
  pub first : List Record
  pub rest : List Record
  pub behind : List ℕ
  pub formulas : fs ≡ done ++ more
  pub records : given ≡ first ++ rest
  pub so_many : length done ≡ i
  pub as_many : length first ≡ i
  pub counts : left ≡ counted_each m done first ++ rest
  pub rows : scratch ≡ rows_of m done ++ behind
  pub chain : Chained m (rows_of m done) more rest
  pub told : Told m.states (ends_of_last m done) ends

-- none is, to begin with
pub none_evaluated : (m : Mdp) (fs : List Formula) (given : List Record) (scratch : List ℕ) → Chained m [] fs given → Evaluated m fs given 0 given scratch None
none_evaluated m fs given scratch c = record { done = []; more = fs; first = []; rest = given; behind = scratch; formulas = refl; records = refl; so_many = refl; as_many = refl; counts = refl; rows = refl; chain = c; told = tt }

module _ (m : Mdp) (fs : List Formula) (given : List Record) (i : ℕ) (left : List Record) (scratch : List ℕ) (ends : Option Ends) (x : Evaluated m fs given i left scratch ends) where
  module _ (h : i < length given) (d : Record) where
    -- the next one
    there : NextOne m (rows_of m x.done) x.more x.rest
    there = next_one m (rows_of m x.done) x.more x.rest x.chain (omega (arith, h, ap length x.records, length-append x.first x.rest, x.as_many))

    -- its record is the one with this number
    found : get_or left i d ≡ there.line
    found =
        ap (λ l. get_or l i d) (x.counts ∙ ap (λ r. counted_each m x.done x.first ++ r) there.rest_is)
        ∙ get_or_at (counted_each m x.done x.first) there.line there.lines d i (counted_length m x.done x.first (x.so_many ∙ sym x.as_many) ∙ x.as_many)

    module _ (rows : List ℕ) (e : rows ≡ take (i * m.states) scratch) where
      -- the rows up to it are those of the formulas before
      rows_before : rows ≡ rows_of m x.done
      rows_before =
          e ∙ ap (take (i * m.states)) x.rows
          ∙ ap (λ k. take k (rows_of m x.done ++ x.behind)) (sym (rows_length m x.done ∙ ap (λ k. k * m.states) x.so_many))
          ∙ take-append_seam (rows_of m x.done) x.behind

      -- it has what it needs
      pub next_needs : Needs (get_or left i d).kind m.states rows (get_or left i d)
      next_needs = rw (found, rows_before) there.own.needs

      -- and with its row and its counts one more is evaluated
      pub one_evaluated : (row behind : List ℕ) (own_ends : Option Ends) → row ≡ row_by m rows (get_or left i d) → Told m.states (ends_by (get_or left i d).kind m rows (get_or left i d)) own_ends →
          Evaluated m fs given (i + 1) (set left i (counted row (get_or left i d))) (rows ++ (row ++ behind)) own_ends
      one_evaluated row behind own_ends f t =
          let own : row ≡ row_of m there.formula = f ∙ rw (found, rows_before) there.own.row in
          let split : rows_of m (x.done ++ (there.formula ∷ [])) ≡ rows_of m x.done ++ row_of m there.formula =
          flat_map-append (row_of m) x.done (there.formula ∷ []) ∙ ap (λ r. rows_of m x.done ++ r) (append-nil (row_of m there.formula)) in
          record {
            done = x.done ++ (there.formula ∷ []);
            more = there.formulas;
            first = x.first ++ (there.line ∷ []);
            rest = there.lines;
            behind = behind;
            formulas = x.formulas ∙ ap (λ r. x.done ++ r) there.more_is ∙ sym (append_assoc x.done (there.formula ∷ []) there.formulas);
            records = x.records ∙ ap (λ r. x.first ++ r) there.rest_is ∙ sym (append_assoc x.first (there.line ∷ []) there.lines);
            so_many = length-append x.done (there.formula ∷ []) ∙ ap (λ k. k + 1) x.so_many;
            as_many = length-append x.first (there.line ∷ []) ∙ ap (λ k. k + 1) x.as_many;
            counts =
                ap (λ r. set left i (counted r (get_or left i d))) own
                ∙ ap (λ r. set left i (counted (row_of m there.formula) r)) found
                ∙ ap (λ l. set l i (counted (row_of m there.formula) there.line)) (x.counts ∙ ap (λ r. counted_each m x.done x.first ++ r) there.rest_is)
                ∙ set_at (counted_each m x.done x.first) there.line there.lines (counted (row_of m there.formula) there.line) i (counted_length m x.done x.first (x.so_many ∙ sym x.as_many) ∙ x.as_many)
                ∙ sym (append_assoc (counted_each m x.done x.first) (counted (row_of m there.formula) there.line ∷ []) there.lines)
                ∙ ap (λ r. r ++ there.lines) (sym (counted_more m x.done there.formula x.first there.line (x.so_many ∙ sym x.as_many)));
            rows =
                sym (append_assoc rows row behind)
                ∙ ap (λ r. (r ++ row) ++ behind) rows_before
                ∙ ap (λ r. (rows_of m x.done ++ r) ++ behind) own
                ∙ ap (λ r. r ++ behind) (sym split);
            chain = subst (λ r. Chained m r there.formulas there.lines) (sym split) there.chain;
            told = rw (ends_last m x.done there.formula) (told_agree m.states (ends_by there.line.kind m (rows_of m x.done) there.line) (ends_of m there.formula) own_ends (rw (found, rows_before) at t) there.own.ends);
          }

  -- where all are evaluated, the records have their counts and the scratch has the rows
  pub all_evaluated : length given ≤ i → length scratch ≡ length given * m.states → (left ≡ counted_each m fs given) × (scratch ≡ rows_of m fs) × Told m.states (ends_of_last m fs) ends
  all_evaluated h long = each x.more x.rest x.chain refl refl
    where
      -- none is left
      none_left : length x.rest ≡ 0
      none_left = omega (arith, h, ap length x.records, length-append x.first x.rest, x.as_many)

      each : (more : List Formula) (rest : List Record) → Chained m (rows_of m x.done) more rest → x.more ≡ more → x.rest ≡ rest → (left ≡ counted_each m fs given) × (scratch ≡ rows_of m fs) × Told m.states (ends_of_last m fs) ends
      each [] [] c e f =
          let all : fs ≡ x.done = x.formulas ∙ ap (λ r. x.done ++ r) e ∙ append-nil x.done in
          let given_all : given ≡ x.first = x.records ∙ ap (λ r. x.first ++ r) f ∙ append-nil x.first in
          let counts : left ≡ counted_each m x.done x.first = x.counts ∙ ap (λ r. counted_each m x.done x.first ++ r) f ∙ append-nil (counted_each m x.done x.first) in
          let a = rows_length m x.done in
          let b = length-append (rows_of m x.done) x.behind in
          let c = ap length x.rows in
          let g : length x.done * m.states ≡ length given * m.states = ap (λ k. k * m.states) (x.so_many ∙ sym x.as_many ∙ sym (ap length given_all)) in
          let nothing : length x.behind ≡ 0 = omega (arith, a, b, c, g, long) in (
            counts ∙ ap (λ z. counted_each m z x.first) (sym all) ∙ ap (counted_each m fs) (sym given_all),
            x.rows ∙ ap (λ r. rows_of m x.done ++ r) (nil_from_length x.behind nothing) ∙ append-nil (rows_of m x.done) ∙ ap (rows_of m) (sym all),
            subst (λ z. Told m.states (ends_of_last m z) ends) (sym all) x.told,
          )
      each [] (r ∷ rs) c e f = absurd c
      each (g ∷ gs) [] c e f = absurd c
      each (g ∷ gs) (r ∷ rs) c e f = let z = ap length f in absurd (omega (arith, none_left, z))
