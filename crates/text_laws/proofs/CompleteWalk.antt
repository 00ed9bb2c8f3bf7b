-- No question refuses the lines of a content within the limits.
use Rattle.std.proofs.Common.{◌≡◌, ℕ, suc, ◌+◌, ◌<◌, ◌≤◌, Bool, List, [], ◌∷◌, ◌++◌, length, None, refl, ap, ◌∙◌, arith}
use Rattle.std.proofs.lemmas.List.{append_assoc, length-append}
use Rattle.std.proofs.lemmas.Bool.{eq-eqb, lt-ltb, and_from}
use Rattle.model.specs.declared.branch.Branch.{Branch}
use Rattle.model.specs.Mdp.{Row, Each, LawfulRow, Ascends, total}
use Rattle.text.specs.declared.word.Word.TheVariants as word
use Rattle.text.specs.Cuts.{Line}
use Rattle.text.specs.Fields.{between}
use Rattle.text.specs.Contents.{State, Content, all_choices, all_branches}
use Rattle.text.specs.Texts.{header_line, state_line, choice_line, branch_line, end_line, row_lines, choices_lines, states_lines, content_lines, Within}
use Rattle.text.specs.Questions.{number, states_given, denominator_given, count}
use Rattle.text.specs.Refusals.{lines_refusal}
use Rattle.text_laws.proofs.States.{LawfulState, lawful_states, Small}
use Rattle.text_laws.proofs.CompleteFields.{amount_decimal, lawful_text, between_from}
use Rattle.text_laws.proofs.Fits.{Fits}
use Rattle.text_laws.proofs.CompleteFits.{Passes, passes_more}
use Rattle.text_laws.proofs.CompletePlaces.{Room, room_more, Open, open_row, open_more, Ready, Ended, ready, row_ended}
use Rattle.text.proofs.Digits.{numeral_decimal}
use Rattle.text.proofs.Joining.{branches_append}

-- the lines pass at the end of each row that leaves so much to come
abbrev Next : ℕ → ℕ → ℕ → ℕ → ℕ → List Line → Type 0
Next n d s c b rest = (before : List Line) → Room n d s c b before → Ended before → Passes before rest

-- a branch fits an open row
branch_fits : {n d s c b low sum : ℕ} {before : List Line} (x : Branch) → Room n d s c (suc b) before → Open low sum before → Small x → low ≤ x.target → x.target < n → 1 ≤ x.weight → x.weight ≤ d → Fits before (branch_line x)
branch_fits {before} x room o small above under some most =
    let target = amount_decimal x.target small.target in
    let weight = amount_decimal x.weight small.weight in
    let in_range = lt-ltb (number 1 (branch_line x)) (states_given before) (omega (arith, room.states_given)) in
    let fair = between_from 1 (denominator_given before) (number 2 (branch_line x)) (omega arith) (omega (arith, room.denominator)) in
    record {
      word = o.follows;
      fields = refl;
      first_number = numeral_decimal 7 x.target (omega arith) (omega arith) small.target;
      second_number = numeral_decimal 7 x.weight (omega arith) (omega arith) small.weight;
      range = and_from _ _ in_range fair;
      labels = refl;
      order = o.above (number 1 (branch_line x)) (omega arith);
      sum = refl;
      states = refl;
      choices = refl;
      branches = lt-ltb (count word.Branch before) 4096 (omega (arith, room.branches));
      complete = refl;
    }

-- a choice fits where it may stand
choice_fits : {n d s c b : ℕ} {before : List Line} → Room n d s (suc c) b before → Ready word.Choice before → Fits before choice_line
choice_fits {before} room at =
    record {
      word = at.follows;
      fields = refl;
      first_number = refl;
      second_number = refl;
      range = refl;
      labels = refl;
      order = refl;
      sum = at.closes;
      states = refl;
      choices = lt-ltb (count word.Choice before) 2048 (omega (arith, room.choices));
      branches = refl;
      complete = refl;
    }

-- a state fits where it may stand
state_fits : {n d s c b : ℕ} {before : List Line} (flags : List Bool) → Room n d (suc s) c b before → Ready word.State before → length flags ≡ 16 → Fits before (state_line flags)
state_fits {before} flags room at sixteen =
    record {
      word = at.follows;
      fields = refl;
      first_number = refl;
      second_number = refl;
      range = refl;
      labels = lawful_text flags sixteen;
      order = refl;
      sum = at.closes;
      states = lt-ltb (count word.State before) (states_given before) (omega (arith, room));
      choices = refl;
      branches = refl;
      complete = refl;
    }

-- the end fits where no state is missing
end_fits : {n d c b : ℕ} {before : List Line} → Room n d 0 c b before → Ready word.End before → Fits before end_line
end_fits {before} room at =
    record {
      word = at.follows;
      fields = refl;
      first_number = refl;
      second_number = refl;
      range = refl;
      labels = refl;
      order = refl;
      sum = at.closes;
      states = refl;
      choices = refl;
      branches = refl;
      complete = eq-eqb (count word.State before) (states_given before) (omega (arith, room));
    }

-- a header within the limits fits
header_fits : (n d : ℕ) → 1 ≤ n → n ≤ 512 → 1 ≤ d → d ≤ 1000000 → Fits [] (header_line n d)
header_fits n d some_state few_states some_unit few_units =
    let states = ap (between 1 512) (amount_decimal n (omega arith)) ∙ between_from 1 512 n some_state few_states in
    let units = ap (between 1 1000000) (amount_decimal d (omega arith)) ∙ between_from 1 1000000 d some_unit few_units in
    record {
      word = refl;
      fields = refl;
      first_number = numeral_decimal 7 n (omega arith) (omega arith) (omega arith);
      second_number = numeral_decimal 7 d (omega arith) (omega arith) (omega arith);
      range = and_from _ _ (and_from _ _ states units) refl;
      labels = refl;
      order = refl;
      sum = refl;
      states = refl;
      choices = refl;
      branches = refl;
      complete = refl;
    }

module _ (n d : ℕ) (few_states : n ≤ 512) (some_unit : 1 ≤ d) (few_units : d ≤ 1000000) where
  -- the branches of a lawful row pass
  row_passes : (bs : Row) (s c b low sum : ℕ) (before rest : List Line) → Room n d s c (length bs + b) before → Open low sum before → Ascends n low bs → sum + total bs ≡ d → Next n d s c b rest → Passes before (row_lines bs ++ rest)
  row_passes [] s c b low sum before rest room o h sums next =
      let whole : sum ≡ d = omega arith in
      let left : Room n d s c b before = omega (arith, room) in
      next before left (row_ended before some_unit left (rw whole at o))
  row_passes (x ∷ bs) s c b low sum before rest room o h sums next =
      let small : Small x = omega arith in
      let left : Room n d s c (suc (length bs + b)) before = omega (arith, room) in
      let fits = branch_fits x left o small h.0 h.1 h.2 (omega arith) in
      let after = room_more (branch_line x) s c (length bs + b) left refl (omega arith) (omega arith) in
      passes_more before (branch_line x) (row_lines bs ++ rest) fits
      (row_passes bs s c b (x.target + 1) (sum + x.weight) (branch_line x ∷ before) rest after (open_more x small o) h.3 (omega arith) next)

  -- a choice with its row passes
  choice_passes : (r : Row) (s c b : ℕ) (before rest : List Line) → LawfulRow n d r → Room n d s (suc c) (length r + b) before → Ready word.Choice before → Next n d s c b rest → Passes before (choice_line ∷ (row_lines r ++ rest))
  choice_passes r s c b before rest h room at next =
      let after = room_more choice_line s c (length r + b) room refl (omega arith) (omega arith) in
      passes_more before choice_line (row_lines r ++ rest) (choice_fits room at)
      (row_passes r s c b 0 0 (choice_line ∷ before) rest after (open_row before) h.ascends (omega (arith, h.sums)) next)

  -- the choices of a lawful state pass
  choices_pass : (rs : List Row) (s c b : ℕ) (before rest : List Line) → Each (LawfulRow n d) rs → Room n d s (length rs + c) (length (all_branches rs) + b) before → Ready word.Choice before → (length rs ≡ 0 → Ended before) → Next n d s c b rest → Passes before (choices_lines rs ++ rest)
  choices_pass [] s c b before rest h room at end next =
      let left : Room n d s c b before = omega (arith, room) in
      next before left (end refl)
  choices_pass (r ∷ rs) s c b before rest h room at end next =
      let left : Room n d s (suc (length rs + c)) (length r + (length (all_branches rs) + b)) before = omega (arith, room, length-append r (all_branches rs)) in
      let more : Next n d s (length rs + c) (length (all_branches rs) + b) (choices_lines rs ++ rest) = λ after room' ended. choices_pass rs s c b after rest h.1 room' (ready word.Choice refl ended) (λ _. ended) next in
      rw (append_assoc (row_lines r) (choices_lines rs) rest)
      (choice_passes r s (length rs + c) (length (all_branches rs) + b) before (choices_lines rs ++ rest) h.0 left at more)

  -- a state with its choices passes
  state_passes : (x : State) (s c b : ℕ) (before rest : List Line) → LawfulState n d x → Room n d (suc s) (length x.choices + c) (length (all_branches x.choices) + b) before → Ready word.State before → Next n d s c b rest → Passes before (state_line x.labels ∷ (choices_lines x.choices ++ rest))
  state_passes x s c b before rest h room at next =
      let after = room_more (state_line x.labels) s (length x.choices + c) (length (all_branches x.choices) + b) room (omega arith) (omega arith) (omega arith) in
      passes_more before (state_line x.labels) (choices_lines x.choices ++ rest) (state_fits x.labels room at h.labels)
      (choices_pass x.choices s c b (state_line x.labels ∷ before) rest h.rows after (record { follows = refl; closes = refl }) (λ none. absurd (omega (arith, h.some_choice))) next)

  -- lawful states pass, and the end after them
  states_pass : (ss : List State) (before : List Line) → Each (LawfulState n d) ss → Room n d (length ss) (length (all_choices ss)) (length (all_branches (all_choices ss))) before → Ready word.State before → (length ss ≡ 0 → Ended before) → Passes before (states_lines ss ++ (end_line ∷ []))
  states_pass [] before h room at end = passes_more before end_line [] (end_fits room (ready word.End refl (end refl))) (λ _. refl)
  states_pass (x ∷ ss) before h room at end =
      let c = length (all_choices ss) in
      let b = length (all_branches (all_choices ss)) in
      let left : Room n d (suc (length ss)) (length x.choices + c) (length (all_branches x.choices) + b) before = omega (arith, room, length-append x.choices (all_choices ss), branches_append x.choices (all_choices ss)) in
      let more : Next n d (length ss) c b (states_lines ss ++ (end_line ∷ [])) = λ after room' ended. states_pass ss after h.1 room' (ready word.State refl ended) (λ _. ended) in
      rw (append_assoc (choices_lines x.choices) (states_lines ss) (end_line ∷ []))
      (state_passes x (length ss) c b before (states_lines ss ++ (end_line ∷ [])) h.0 left at more)

-- no question refuses the lines of a content within the limits
pub passes : (c : Content) → Within c → lines_refusal [] 1 (content_lines c) ≡ None
passes c h =
    let n = length c.states in
    let d = c.denominator in
    let m = h.lawful in
    let states = amount_decimal n (omega (arith, m.few_states)) in
    let units = amount_decimal d (omega (arith, m.few_units)) in
    let room : Room n d n (length (all_choices c.states)) (length (all_branches (all_choices c.states))) (header_line n d ∷ []) = omega (arith, states, units, h.few_choices, h.few_branches) in
    passes_more [] (header_line n d) (states_lines c.states ++ (end_line ∷ [])) (header_fits n d m.some_state m.few_states m.some_unit m.few_units)
    (states_pass n d m.few_states m.some_unit m.few_units c.states (header_line n d ∷ []) (lawful_states c m) room (record { follows = refl; closes = refl }) (λ none. absurd (omega (arith, m.some_state))))
    1
