-- What a trial answers, and what judging leaves, means what it says.
use Rattle.std.proofs.Common.{◌≡◌, ◌≢◌, ℕ, zero, suc, ◌+◌, ◌-◌, ◌*◌, ◌<◌, ◌≤◌, Bool, true, false, List, [], ◌∷◌, ◌++◌, length, drop, get_or, None, Some, Option, sym, refl, ap, ◌∙◌, subst, append_assoc, length-append, add-zero, arith}
use Rattle.std.specs.Prelude.{slice_get, slice_index_or, IsSomeAnd, IfSome}
use Rattle.model.specs.Mdp.{Mdp, Lawful}
use Rattle.model.proofs.Copies.{over_front}
use Rattle.theory.specs.Ends.{lower, upper}
use Rattle.theory.specs.Formulas.{Comparison as Compared, Formula, truth, label, negation, conjunction, probability, next, until_within, until}
use Rattle.theory.specs.Verdicts.{asked, fits, harder_end, easier_end}
use Rattle.theory.specs.Distances.{Decided, Undecided, NearBound}
use Rattle.theory.specs.Found.{verdicts, TwoEnds, ends_of, BoundsFormula}
use Rattle.theory.proofs.Near.{one_set, queries_correct}
use Rattle.theory.proofs.Judge.{sound, formula_ends_bound}
use Rattle.theory.proofs.Judged.{all_judged_rightly}
use Rattle.rounds.proofs.Lists.{told_listed}
use Rattle.rules.specs.declared.part.Part.{Part}
use Rattle.rules.specs.Parts.{units_of, prefers_number}
use Rattle.records.specs.declared.comparison.Comparison.{Comparison}
use Rattle.records.specs.declared.comparison.Comparison.TheVariants.{Below, AtMost, Above, AtLeast}
use Rattle.records.specs.declared.record.Record.{Record}
use Rattle.grammar.specs.Spelling.{print, Spelled}
use Rattle.grammar.proofs.Readings.{one_reading}
use Rattle.formula.specs.Records.{size, parts, records}
use Rattle.formula.specs.Tokens.{meant}
use Rattle.formula.proofs.Forms.{length_records}
use Rattle.trial.specs.declared.aim.Aim.{Aim}
use Rattle.trial.specs.declared.aim.Aim.TheVariants.{Best, Worst}
use Rattle.trial.specs.declared.verdict.Verdict.{Verdict}
use Rattle.trial.specs.declared.verdict.Verdict.TheVariants as verdict
use Rattle.trial.specs.Aims.{preference_of, aim_for}
use Rattle.trial.specs.Answers.{same_aim}
use Rattle.trial.specs.Queries.{Query, marked, lower_end, upper_end, EndsOf}
use Rattle.trial.specs.VerdictBytes.{verdict_number, verdict_by, read_verdict}
use Rattle.trial.specs.Rows.{byte_at}
use Rattle.trial.specs.Judging.{Buffers, Accepted, counted_each, row_of, rows_of, judged}
use Rattle.trial.specs.declared.two_ends.Ends.{Ends}
use Rattle.trial.specs.PathEnds.{Told}
use Rattle.trial.specs.JudgedEnds.{BoundFormulaOf}
use Rattle.trial.specs.Evaluation.{row_at}
use Rattle.trial.specs.Meanings.{EndsMean, VerdictSays, VerdictMeans, DecidedRow, ByteMeans, RowMeans, HasCounts, JudgeMeans}
use Rattle.trial.proofs.Queries.{bounds_for}
use Rattle.trial.proofs.Evaluation.{row_after, row_length, rows_length, parts_before, parts_last, length_parts, counted_length}

-- of a verdict by two tests it is enough to know what each case tells
by_tests : (P : Verdict → Type 0) (sure possible : Bool) → (sure ≡ true → P verdict.Yes) → (possible ≡ false → P verdict.No) → (sure ≡ false → possible ≡ true → P verdict.Undecided) → P (verdict_by sure possible)
by_tests P true y holds fails neither = holds refl
by_tests P false true holds fails neither = neither refl refl
by_tests P false false holds fails neither = fails refl

module _ (m : Mdp) (l : Lawful m) (s : ℕ) (h : s < m.states) where
  -- numbers that are the ends of a query bound it
  bound_ends : (q : Query) (lo hi : ℕ) → lo ≡ lower_end m q s → hi ≡ upper_end m q s → EndsOf m q s lo hi
  bound_ends q lo hi e f = rw (e, f) (bounds_for m l q.aim q s h)

  -- so two parts of the ends of the query that stands mean what they say
  pub ends_mean : (o : Option Query) (q : Query) → o ≡ Some q → (lo hi : Part) → units_of lo ≡ lower_end m q s → units_of hi ≡ upper_end m q s → EndsMean m o s (lo, hi, q.rounds)
  ends_mean o q e lo hi f g = rw e (record { rounds = refl; bounds = bound_ends q (units_of lo) (units_of hi) f g })

  -- a verdict that is read off the ends for a comparison says what is so
  read_says : (c : Compared) (b : ℕ) (q : Query) →
      VerdictSays (read_verdict c b (lower (asked c) (marked q.left) (marked q.right) q.rounds m s) (upper (asked c) (marked q.left) (marked q.right) q.rounds m s)) c b m q s
  read_says c b q =
      let x = queries_correct c b q.rounds (marked q.left) (marked q.right) m l s h in
      let lo = lower (asked c) (marked q.left) (marked q.right) q.rounds m s in
      let hi = upper (asked c) (marked q.left) (marked q.right) q.rounds m s in
      by_tests (λ v. VerdictSays v c b m q s) (fits c (harder_end c lo hi) b) (fits c (easier_end c lo hi) b) x.yes_holds x.no_fails (λ e f. x.undecided_near (record { not_sure = e; is_possible = f }))

  -- a comparison asks for what a query does whose aim goes with it
  asked_aim : (c : Comparison) (a : Aim) → same_aim (aim_for c) a ≡ true → prefers_number (preference_of a) ≡ asked (meant c)
  asked_aim Below Best e = refl
  asked_aim Below Worst e = absurd cc
  asked_aim AtMost Best e = refl
  asked_aim AtMost Worst e = absurd cc
  asked_aim Above Best e = absurd cc
  asked_aim Above Worst e = refl
  asked_aim AtLeast Best e = absurd cc
  asked_aim AtLeast Worst e = refl

  -- so a verdict that is read off the ends of the query that stands means what it says
  pub verdict_means : (o : Option Query) (q : Query) → o ≡ Some q → (c : Comparison) (b : ℕ) → same_aim (aim_for c) q.aim ≡ true → (lo hi : ℕ) → lo ≡ lower_end m q s → hi ≡ upper_end m q s →
      VerdictMeans m o s c b (read_verdict (meant c) b lo hi)
  verdict_means o q e c b same lo hi f g =
      let left = marked q.left in
      let right = marked q.right in
      let p = asked_aim c q.aim same in
      let low : lo ≡ lower (asked (meant c)) left right q.rounds m s = f ∙ ap (λ (prefer : ℕ → ℕ → Bool). lower prefer left right q.rounds m s) p in
      let high : hi ≡ upper (asked (meant c)) left right q.rounds m s = g ∙ ap (λ (prefer : ℕ → ℕ → Bool). upper prefer left right q.rounds m s) p in
      rw (e, low, high) (read_says (meant c) b q)

-- the byte of a verdict is one of three
three_bytes : (x y : Bool) → verdict_number (verdict_by x y) ≤ 2
three_bytes true y = omega arith
three_bytes false true = omega arith
three_bytes false false = omega arith

-- it is 1 only where that is sure
one_sure : (x y : Bool) → verdict_number (verdict_by x y) ≡ 1 → x ≡ true
one_sure true y e = refl
one_sure false true e = absurd (omega arith)
one_sure false false e = absurd (omega arith)

-- 0 only where it is impossible
pub none_possible : (x y : Bool) → verdict_number (verdict_by x y) ≡ 0 → y ≡ false
none_possible true y e = absurd (omega arith)
none_possible false true e = absurd (omega arith)
none_possible false false e = refl

-- 2 only where it is possible and not sure
pub two_open : (x y : Bool) → verdict_number (verdict_by x y) ≡ 2 → (x ≡ false) × (y ≡ true)
two_open true y e = absurd (omega arith)
two_open false true e = (refl, refl)
two_open false false e = absurd (omega arith)

-- and where it is not 2, both tests agree, if what is sure is possible
not_two : (x y : Bool) → (x ≡ true → y ≡ true) → verdict_number (verdict_by x y) ≢ 2 → x ≡ y
not_two true y within other = sym (within refl)
not_two false true within other = absurd (other refl)
not_two false false within other = refl

module _ (m : Mdp) where
  -- the row of one of several formulas stands among their rows, which stand behind i others
  row_among : (fs : List Formula) (j : ℕ) (g : Formula) → slice_get fs j ≡ Some g → (before : List ℕ) (i : ℕ) → length before ≡ i * m.states → (behind : List ℕ) →
      row_at m.states (before ++ (rows_of m fs ++ behind)) (i + j) ≡ row_of m g
  row_among [] j g e before i n behind = absurd cc
  row_among (f ∷ fs) zero g e before i n behind =
      let same : f ≡ g = cc in
      ap (λ (r : List ℕ). row_at m.states (before ++ r) (i + 0)) (append_assoc (row_of m f) (rows_of m fs) behind)
      ∙ ap (λ (k : ℕ). row_at m.states (before ++ (row_of m f ++ (rows_of m fs ++ behind))) k) (add-zero i)
      ∙ row_after m before (row_of m f) (rows_of m fs ++ behind) i n (row_length m f)
      ∙ ap (row_of m) same
  row_among (f ∷ fs) (suc j) g e before i n behind =
      let more : length (before ++ row_of m f) ≡ (i + 1) * m.states = omega (arith, n, length-append before (row_of m f), row_length m f) in
      let on : i + suc j ≡ (i + 1) + j = omega arith in
      ap (λ (r : List ℕ). row_at m.states (before ++ r) (i + suc j)) (append_assoc (row_of m f) (rows_of m fs) behind)
      ∙ ap (λ (r : List ℕ). row_at m.states r (i + suc j)) (sym (append_assoc before (row_of m f) (rows_of m fs ++ behind)))
      ∙ ap (λ (k : ℕ). row_at m.states ((before ++ row_of m f) ++ (rows_of m fs ++ behind)) k) on
      ∙ row_among fs j g e (before ++ row_of m f) (i + 1) more behind

  -- the row of one of several formulas stands among their rows under its number
  row_found : (fs : List Formula) (i : ℕ) (g : Formula) → slice_get fs i ≡ Some g → (behind : List ℕ) → row_at m.states (rows_of m fs ++ behind) i ≡ row_of m g
  row_found fs i g e behind =
      let own : 0 + i ≡ i = omega arith in
      subst (λ (k : ℕ). row_at m.states (rows_of m fs ++ behind) k ≡ row_of m g) own (row_among fs i g e [] 0 (omega arith) behind)

  -- the record of one of several formulas has the counts of its row
  counted_among : (fs : List Formula) (rs : List Record) → length fs ≡ length rs → (behind : List Record) (i : ℕ) (p : Formula) → slice_get fs i ≡ Some p →
      IsSomeAnd (slice_get (counted_each m fs rs ++ behind) i) (HasCounts (row_of m p))
  counted_among [] rs n behind i p e = absurd cc
  counted_among (f ∷ fs) [] n behind i p e = absurd (omega (arith, n))
  counted_among (f ∷ fs) (r ∷ rs) n behind zero p e = let same : p ≡ f = cc in rw same (record { yes = refl; undecided = refl })
  counted_among (f ∷ fs) (r ∷ rs) n behind (suc i) p e = counted_among fs rs (omega (arith, n)) behind i p e

-- the last of several formulas
last_of : (fs : List Formula) (f : Formula) → slice_get (fs ++ (f ∷ [])) (length fs) ≡ Some f
last_of [] f = refl
last_of (g ∷ fs) f = last_of fs f

module _ (m : Mdp) (l : Lawful m) where
  -- ends that are told of a formula bound it at every state
  bound_told : (f : Formula) (two : Option TwoEnds) (e : Ends) → ends_of m f ≡ two → Told m.states two (Some e) → (d : Part) (s : ℕ) → s < m.states →
      BoundsFormula m f s (units_of (slice_index_or e.lower.values s d)) (units_of (slice_index_or e.upper.values s d))
  bound_told f None e own told d s h = absurd told
  bound_told f (Some two) e own told d s h = rw (told.lower d s h, told.upper d s h) (formula_ends_bound m l f two own s h)

  -- so those that are told of a text bound its formula
  pub told_bound : (text : List ℕ) (ends : Option Ends) → ((f : Formula) → Spelled f → text ≡ print f → Told m.states (ends_of m f) ends) → IfSome ends (BoundFormulaOf m text)
  told_bound text None told = tt
  told_bound text (Some e) told = λ f spelled spells. bound_told f (ends_of m f) e refl (told f spelled spells)

  -- the byte of a state in the row of a formula
  own_byte : (f : Formula) (s : ℕ) → s < m.states → get_or (row_of m f) s 0 ≡ byte_at (verdicts m f) s
  own_byte f s h = told_listed m.states (byte_at (verdicts m f)) 0 s h

  -- a sure state is possible
  within : (f : Formula) (s : ℕ) → s < m.states → (verdicts m f).sure s ≡ true → (verdicts m f).possible s ≡ true
  within f s h e = (sound m l f s h).holds_possible ((sound m l f s h).yes_holds e)

  -- where no byte of its row is 2, a formula is decided
  row_decided : (f : Formula) (row : List ℕ) → row ≡ row_of m f → ((k d : ℕ) → k < length row → get_or row k d ≢ 2) → Decided m (verdicts m f)
  row_decided f row e none s h =
      let long : s < length row = omega (arith, ap (λ (r : List ℕ). length r) e, row_length m f) in
      not_two ((verdicts m f).sure s) ((verdicts m f).possible s) (within f s h) (λ two. none s 0 long (ap (λ (r : List ℕ). get_or r s 0) e ∙ own_byte f s h ∙ two))

  -- so what is known of an undecided state where the parts of a formula are decided is known where their rows have no 2
  near_bound : (HasDecided : Formula → Type 0) → ((g : Formula) → HasDecided g → Decided m (verdicts m g)) → (f : Formula) (s : ℕ) →
      NearBound m (λ g. Decided m (verdicts m g)) f s → NearBound m HasDecided f s
  near_bound D d truth s n = n
  near_bound D d (label i) s n = n
  near_bound D d (negation f) s n = λ x. n (d f x)
  near_bound D d (conjunction f g) s n = λ x y. n (d f x) (d g y)
  near_bound D d (probability c b (next f)) s n = λ x. n (d f x)
  near_bound D d (probability c b (until_within k f g)) s n = λ x y. n (d f x) (d g y)
  near_bound D d (probability c b (until f g)) s n = λ x y. n (d f x) (d g y)

  -- the row of a formula means what it says
  pub row_means : (HasDecided : Formula → Type 0) → ((g : Formula) → HasDecided g → Decided m (verdicts m g)) → (f : Formula) (row : List ℕ) → row ≡ row_of m f → RowMeans m HasDecided f row
  row_means D d f row e = rw e (record { long = row_length m f; byte = λ s h. byte_means s h (get_or (row_of m f) s 0) (own_byte f s h) })
    where
      byte_means : (s : ℕ) → s < m.states → (b : ℕ) → b ≡ byte_at (verdicts m f) s → ByteMeans m D f s b
      byte_means s h b e =
          let x = (verdicts m f).sure s in
          let y = (verdicts m f).possible s in
          let means = (all_judged_rightly m l f).meant s h in
          let open_at : b ≡ 2 → Undecided (verdicts m f) s = λ two. let both = two_open x y (sym e ∙ two) in record { not_sure = both.0; is_possible = both.1 } in
          record {
            one_of_three = let few = three_bytes x y in omega (arith, e, few);
            yes_holds = λ one. means.yes_holds (one_sure x y (sym e ∙ one));
            no_fails = λ none. means.no_fails (none_possible x y (sym e ∙ none));
            undecided = λ two. (verdicts m f, (all_judged_rightly m l f).defined, open_at two);
            near = λ two. near_bound D d f s (means.undecided_near (open_at two));
          }

  -- a formula is the last of its parts
  last_part : (f : Formula) (n : ℕ) → n ≡ size f → slice_get (parts f) (n - 1) ≡ Some f
  last_part f n e =
      let a = ap (λ (fs : List Formula). length fs) (parts_last f) in
      let own : n - 1 ≡ length (parts_before f) = omega (arith, e, a, length-append (parts_before f) (f ∷ []), length_parts f) in
      ap (λ (fs : List Formula). slice_get fs (n - 1)) (parts_last f) ∙ ap (slice_get (parts_before f ++ (f ∷ []))) own ∙ last_of (parts_before f) f

  -- so an accepted judge means what it says
  pub judge_means : (text : List ℕ) (before after : Buffers) (n : ℕ) → Accepted m text before after n → JudgeMeans m text after n
  judge_means text before after n a =
      let f = a.formula in
      let left = judged m f before in
      let all_rows = rows_length m (parts f) in
      let so_many : length (parts f) * m.states ≡ size f * m.states = ap (λ (k : ℕ). k * m.states) (length_parts f) in
      let scratch : left.scratch ≡ rows_of m (parts f) ++ drop (length (rows_of m (parts f))) before.scratch = over_front (rows_of m (parts f)) before.scratch (omega (arith, all_rows, so_many, a.scratch_long)) in
      let rows : (i : ℕ) (p : Formula) → slice_get (parts f) i ≡ Some p → row_at m.states left.scratch i ≡ row_of m p =
      λ i p e. rw scratch (row_found m (parts f) i p e (drop (length (rows_of m (parts f))) before.scratch)) in
      let lines = counted_each m (parts f) (records 0 f) in
      let as_many : length (parts f) ≡ length (records 0 f) = length_parts f ∙ sym (length_records f 0) in
      let long : length lines ≡ size f = counted_length m (parts f) (records 0 f) as_many ∙ length_records f 0 in
      let filled : left.records ≡ lines ++ drop (length lines) before.records = over_front lines before.records (omega (arith, long, a.reads.within.room)) in
      let decided : (g : Formula) → DecidedRow m.states (parts f) left.scratch g → Decided m (verdicts m g) =
      λ g x. row_decided g (row_at m.states left.scratch x.number) (rows x.number g x.there) x.decided in
      subst (λ (b : Buffers). JudgeMeans m text b n) (sym a.left) (record {
        formula = f;
        spelled = a.reads.spelled;
        spells = a.reads.spells;
        only = λ other x y. one_reading other f x a.reads.spelled (sym y ∙ a.reads.spells);
        number = a.number ∙ sym (length_parts f);
        last = last_part f n a.number;
        row = λ i p e. row_means (DecidedRow m.states (parts f) left.scratch) decided p (row_at m.states left.scratch i) (rows i p e);
        counts = λ i p e. rw (filled, rows i p e) (counted_among m (parts f) (records 0 f) as_many (drop (length lines) before.records) i p e);
        out = sym (rows (n - 1) f (last_part f n a.number));
        one_set = one_set m l;
      })
