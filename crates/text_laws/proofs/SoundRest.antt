-- What the lines that are left tell, where no question refuses one: by one more line in front.
use Rattle.std.proofs.Common.{◌≡◌, ℕ, ◌+◌, ◌-◌, ◌<◌, ◌≤◌, Bool, true, false, cond, eqb, List, [], ◌∷◌, ◌++◌, length, Some, None, sym, refl, ap, ◌∙◌, subst, ap₂, ⊎_elim, append_assoc, arith, lit<, length-append}
use Rattle.std.proofs.lemmas.Bool.{both_ways, eqb-true, or_cases}
use Rattle.model.specs.Mdp.{Row, total, Ascends, LawfulRow, Each}
use Rattle.text.specs.declared.word.Word.{Word}
use Rattle.text.specs.declared.word.Word.TheVariants as word
use Rattle.text.specs.Cuts.{Line, field}
use Rattle.text.specs.Words.{followers, rank, listed, one_of}
use Rattle.text.specs.Contents.{all_choices, all_branches}
use Rattle.text.specs.Texts.{end_line, row_lines, choices_lines, states_lines}
use Rattle.text.specs.Questions.{word, number, states_given, denominator_given, count, row_sum, closed}
use Rattle.text.specs.Refusals.{lines_refusal}
use Rattle.text.proofs.Asking.{ask_none}
use Rattle.text.proofs.Joining.{branches_append}
use Rattle.text_laws.proofs.Nest.{Nested, nest_line, nest, branch_of}
use Rattle.text_laws.proofs.States.{LawfulState}
use Rattle.text_laws.proofs.Fits.{Fits}
use Rattle.text_laws.proofs.SoundAsks.{passes}
use Rattle.text_laws.proofs.SoundFields.{length_flags}
use Rattle.text_laws.proofs.SoundLines.{some_word, on_true, lowest, is_state, is_choice, is_branch, is_end}

-- the branches that come first, by the word before: none, or what the open row lacks
abbrev pub RowFits : Word → List Line → Row → Type 0
RowFits word.Mdp before row = row ≡ []
RowFits word.State before row = row ≡ []
RowFits word.Choice before row = row_sum before + total row ≡ denominator_given before
RowFits word.Branch before row = row_sum before + total row ≡ denominator_given before
RowFits word.End before row = Unit {0}

-- the choices that come next, by the word before: none outside a state, one at least in a state that has none
abbrev pub RowsFit : Word → List Row → Type 0
RowsFit word.Mdp rows = rows ≡ []
RowsFit word.State rows = 1 ≤ length rows
RowsFit word.Choice rows = Unit {0}
RowsFit word.Branch rows = Unit {0}
RowsFit word.End rows = Unit {0}

-- the lines `ls` that are left after the lines before, whose last has the word w, tell n, and lawfully
pub record Rest (w : Word) (before ls : List Line) (n : Nested) : Type 0 where
  pub told : ls ≡ row_lines n.row ++ (choices_lines n.rows ++ (states_lines n.states ++ (end_line ∷ [])))
  pub all_states : count word.State before + length n.states ≡ states_given before
  pub few_choices : length n.rows + length (all_choices n.states) ≤ 2048 - count word.Choice before
  pub few_branches : length n.row + (length (all_branches n.rows) + length (all_branches (all_choices n.states))) ≤ 4096 - count word.Branch before
  pub ascends : Ascends (states_given before) (lowest before) n.row
  pub row_fits : RowFits w before n.row
  pub rows_fit : RowsFit w n.rows
  pub rows : Each (LawfulRow (states_given before) (denominator_given before)) n.rows
  pub states : Each (LawfulState (states_given before) (denominator_given before)) n.states

-- a line k with the word v that has passed after l with the word w
pub record After (w : Word) (l : Line) (before : List Line) (v : Word) (k : Line) : Type 0 where
  pub last : word l ≡ Some w
  pub this : word k ≡ Some v
  pub follows : listed v (followers (Some w)) ≡ true
  pub passed : Fits (l ∷ before) k

-- how a count goes on with one line more
pub count_more : (w v : Word) (k : Line) (before : List Line) → word k ≡ Some v → count w (k ∷ before) ≡ cond (listed v (w ∷ [])) (count w before + 1) (count w before)
count_more w v k before e = ap (λ o. cond (one_of (w ∷ []) o) (count w before + 1) (count w before)) e

-- how the sum of the open row goes on
pub row_sum_more : (v : Word) (k : Line) (before : List Line) → word k ≡ Some v → row_sum (k ∷ before) ≡ cond (listed v (word.Branch ∷ [])) (number 2 k + row_sum before) 0
row_sum_more v k before e = ap (λ o. cond (one_of (word.Branch ∷ []) o) (number 2 k + row_sum before) 0) e

-- how the least target goes on
pub lowest_more : (v : Word) (k : Line) (before : List Line) → word k ≡ Some v → lowest (k ∷ before) ≡ cond (listed v (word.Branch ∷ [])) (number 1 k + 1) 0
lowest_more v k before e = ap (λ o. cond (one_of (word.Branch ∷ []) o) (number 1 k + 1) 0) e

-- what cannot follow, does not
never : {A : Type 0} (t : Bool) → t ≡ true → t ≡ false → A
never t e f = absurd (both_ways t f e)

-- a line that is no branch closes the open row, or finds none open
row_closed : (w : Word) (l : Line) (before : List Line) (v : Word) (k : Line) → After w l before v k → listed v (word.State ∷ word.Choice ∷ word.End ∷ []) ≡ true → listed v (word.Branch ∷ []) ≡ false → RowFits w (l ∷ before) []
row_closed word.Mdp l before v k a closes other = refl
row_closed word.State l before v k a closes other = refl
row_closed word.Choice l before v k a closes other = never _ a.follows other
row_closed word.Branch l before v k a closes other =
    let h = on_true (word.State ∷ word.Choice ∷ word.End ∷ []) k (closed (l ∷ before)) v a.this closes a.passed.sum in
    let sum = eqb-true (row_sum (l ∷ before)) (denominator_given (l ∷ before)) (ap (λ o. cond (one_of (word.Branch ∷ []) o) (eqb (row_sum (l ∷ before)) (denominator_given (l ∷ before))) true) (sym a.last) ∙ h) in
    omega arith
row_closed word.End l before v k a closes other = tt

-- no choices come where a line other than a choice follows
rows_none : (w v : Word) → listed v (followers (Some w)) ≡ true → listed v (word.Choice ∷ []) ≡ false → RowsFit w []
rows_none word.Mdp v follows other = refl
rows_none word.State v follows other = never _ follows other
rows_none word.Choice v follows other = tt
rows_none word.Branch v follows other = tt
rows_none word.End v follows other = tt

-- a choice comes where one may
rows_some : (w : Word) (r : Row) (rs : List Row) → listed word.Choice (followers (Some w)) ≡ true → RowsFit w (r ∷ rs)
rows_some word.Mdp r rs follows = never _ follows refl
rows_some word.State r rs follows = omega arith
rows_some word.Choice r rs follows = tt
rows_some word.Branch r rs follows = tt
rows_some word.End r rs follows = tt

-- any choices may come after a branch of an open row
rows_any : (w : Word) (rs : List Row) → listed word.Branch (followers (Some w)) ≡ true → RowsFit w rs
rows_any word.Mdp rs follows = never _ follows refl
rows_any word.State rs follows = never _ follows refl
rows_any word.Choice rs follows = tt
rows_any word.Branch rs follows = tt
rows_any word.End rs follows = tt

-- a branch more in front of those that the open row lacks
row_open : (w : Word) (l : Line) (before : List Line) (k : Line) (r : Row) → After w l before word.Branch k → RowFits word.Branch (k ∷ l ∷ before) r → RowFits w (l ∷ before) (branch_of k ∷ r)
row_open word.Mdp l before k r a fits = never _ a.follows refl
row_open word.State l before k r a fits = never _ a.follows refl
row_open word.Choice l before k r a fits = let sum = row_sum_more word.Branch k (l ∷ before) a.this in omega arith
row_open word.Branch l before k r a fits = let sum = row_sum_more word.Branch k (l ∷ before) a.this in omega arith
row_open word.End l before k r a fits = tt

-- the end, and no line after it
end_rest : (w : Word) (l : Line) (before : List Line) (k : Line) → After w l before word.End k → Rest w (l ∷ before) (k ∷ []) (nest [])
end_rest w l before k a =
    let i = is_end (l ∷ before) k a.this a.passed in
    record {
      told = ap (λ e. e ∷ []) i.line;
      all_states = omega (arith, i.all);
      few_choices = omega arith;
      few_branches = omega arith;
      ascends = tt;
      row_fits = row_closed w l before word.End k a refl refl;
      rows_fit = rows_none w word.End a.follows refl;
      rows = tt;
      states = tt;
    }

-- a state's line in front
state_rest : (w : Word) (l : Line) (before : List Line) (k : Line) (ks : List Line) (n : Nested) → After w l before word.State k → Rest word.State (k ∷ l ∷ before) ks n → Rest w (l ∷ before) (k ∷ ks) (nest_line (Some word.State) k n)
state_rest w l before k ks n a r =
    let i = is_state (l ∷ before) k a.this a.passed in
    let states = count_more word.State word.State k (l ∷ before) a.this in
    let choices = count_more word.Choice word.State k (l ∷ before) a.this in
    let branches = count_more word.Branch word.State k (l ∷ before) a.this in
    let more_choices = length-append n.rows (all_choices n.states) in
    let more_branches = branches_append n.rows (all_choices n.states) in
    record {
      told = ap₂ (λ x xs. x ∷ xs) i.line (r.told ∙ ap (λ row. row_lines row ++ (choices_lines n.rows ++ (states_lines n.states ++ (end_line ∷ [])))) r.row_fits ∙ sym (append_assoc (choices_lines n.rows) (states_lines n.states) (end_line ∷ [])));
      all_states = omega (arith, r.all_states);
      few_choices = omega (arith, r.few_choices);
      few_branches = omega (arith, r.few_branches);
      ascends = tt;
      row_fits = row_closed w l before word.State k a refl refl;
      rows_fit = rows_none w word.State a.follows refl;
      rows = tt;
      states = (record { labels = length_flags 97 16 (field 1 k); some_choice = r.rows_fit; rows = r.rows }, r.states);
    }

-- a choice's line in front
choice_rest : (w : Word) (l : Line) (before : List Line) (k : Line) (ks : List Line) (n : Nested) → After w l before word.Choice k → Rest word.Choice (k ∷ l ∷ before) ks n → Rest w (l ∷ before) (k ∷ ks) (nest_line (Some word.Choice) k n)
choice_rest w l before k ks n a r =
    let i = is_choice (l ∷ before) k a.this a.passed in
    let states = count_more word.State word.Choice k (l ∷ before) a.this in
    let choices = count_more word.Choice word.Choice k (l ∷ before) a.this in
    let branches = count_more word.Branch word.Choice k (l ∷ before) a.this in
    let more_branches = length-append n.row (all_branches n.rows) in
    let sum = row_sum_more word.Choice k (l ∷ before) a.this in
    record {
      told = ap₂ (λ x xs. x ∷ xs) i.line (r.told ∙ sym (append_assoc (row_lines n.row) (choices_lines n.rows) (states_lines n.states ++ (end_line ∷ []))));
      all_states = omega (arith, r.all_states);
      few_choices = omega (arith, r.few_choices, i.few);
      few_branches = omega (arith, r.few_branches);
      ascends = tt;
      row_fits = row_closed w l before word.Choice k a refl refl;
      rows_fit = rows_some w n.row n.rows a.follows;
      rows = (record { ascends = subst (λ low. Ascends (states_given (l ∷ before)) low n.row) (lowest_more word.Choice k (l ∷ before) a.this) r.ascends; sums = omega (arith, r.row_fits) }, r.rows);
      states = r.states;
    }

-- a branch's line in front
branch_rest : (w : Word) (l : Line) (before : List Line) (k : Line) (ks : List Line) (n : Nested) → After w l before word.Branch k → Rest word.Branch (k ∷ l ∷ before) ks n → Rest w (l ∷ before) (k ∷ ks) (nest_line (Some word.Branch) k n)
branch_rest w l before k ks n a r =
    let i = is_branch (l ∷ before) k a.this a.passed in
    let states = count_more word.State word.Branch k (l ∷ before) a.this in
    let choices = count_more word.Choice word.Branch k (l ∷ before) a.this in
    let branches = count_more word.Branch word.Branch k (l ∷ before) a.this in
    record {
      told = ap₂ (λ x xs. x ∷ xs) i.line r.told;
      all_states = omega (arith, r.all_states);
      few_choices = omega (arith, r.few_choices);
      few_branches = omega (arith, r.few_branches, i.few);
      ascends = (i.above, i.state, i.some, subst (λ low. Ascends (states_given (l ∷ before)) low n.row) (lowest_more word.Branch k (l ∷ before) a.this) r.ascends);
      row_fits = row_open w l before k n.row a r.row_fits;
      rows_fit = rows_any w n.rows a.follows;
      rows = r.rows;
      states = r.states;
    }

-- a header follows nothing
no_header : (w : Word) → listed word.Mdp (followers (Some w)) ≡ true → ⊥
no_header word.Mdp h = both_ways false refl h
no_header word.State h = both_ways false refl h
no_header word.Choice h = both_ways false refl h
no_header word.Branch h = both_ways false refl h
no_header word.End h = both_ways false refl h

-- a word before the end is not the end
no_end : (w : Word) → rank w < 4 → listed w (word.End ∷ []) ≡ true → ⊥
no_end w h e = ⊎_elim (λ t. let q = eqb-true (rank w) 4 t in omega arith) (both_ways false refl) (or_cases (eqb (rank w) 4) false e)

-- nothing follows an end
end_last : (k : Line) (before : List Line) (n : ℕ) (ks : List Line) → word k ≡ Some word.End → lines_refusal (k ∷ before) n ks ≡ None → ks ≡ []
end_last k before n [] e f = refl
end_last k before n (j ∷ js) e f =
    let s = some_word (followers (word k)) (word j) (passes (k ∷ before) n j js f).0.word in
    absurd (both_ways false refl (ap (λ o. listed s.0 (followers o)) (sym e) ∙ s.2))

-- any line in front of lines of which the same is known
more_rest : (w : Word) (l : Line) (before : List Line) (v : Word) (k : Line) (ks : List Line) → After w l before v k → (rank v < 4 → Rest v (k ∷ l ∷ before) ks (nest ks)) → (v ≡ word.End → ks ≡ []) → Rest w (l ∷ before) (k ∷ ks) (nest_line (Some v) k (nest ks))
more_rest w l before word.Mdp k ks a r ends = absurd (no_header w a.follows)
more_rest w l before word.State k ks a r ends = state_rest w l before k ks (nest ks) a (r (lit< tt))
more_rest w l before word.Choice k ks a r ends = choice_rest w l before k ks (nest ks) a (r (lit< tt))
more_rest w l before word.Branch k ks a r ends = branch_rest w l before k ks (nest ks) a (r (lit< tt))
more_rest w l before word.End k ks a r ends = subst (λ xs. Rest w (l ∷ before) (k ∷ xs) (nest xs)) (sym (ends refl)) (end_rest w l before k a)

-- lines that are not refused tell lawfully what they tell
pub rest : (w : Word) (l : Line) (before : List Line) (n : ℕ) (ls : List Line) → word l ≡ Some w → rank w < 4 → lines_refusal (l ∷ before) n ls ≡ None → Rest w (l ∷ before) ls (nest ls)
rest w l before n [] e h f = absurd (no_end w h (ap (one_of (word.End ∷ [])) (sym e) ∙ ask_none _ _ f))
rest w l before n (k ∷ ks) e h f =
    let p = passes (l ∷ before) n k ks f in
    let s = some_word (followers (word l)) (word k) p.0.word in
    let a : After w l before s.0 k = record { last = e; this = s.1; follows = ap (λ o. listed s.0 (followers o)) (sym e) ∙ s.2; passed = p.0 } in
    subst (λ o. Rest w (l ∷ before) (k ∷ ks) (nest_line o k (nest ks))) (sym s.1)
    (more_rest w l before s.0 k ks a (λ goes. rest s.0 k (l ∷ before) (n + 1) ks s.1 goes p.1) (λ end. end_last k (l ∷ before) (n + 1) ks (s.1 ∙ ap (λ v. Some v) end) p.1))
