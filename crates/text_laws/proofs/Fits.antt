-- What is asked of a line after the lines before it, the newest first.
use Rattle.std.proofs.Common.{◌≡◌, true, List}
use Rattle.text.specs.Cuts.{Line}
use Rattle.text.specs.Questions.{word_fits, fields_fit, number_fits, range_fits, labels_fit, order_fits, sum_fits, states_left, choices_left, branches_left, states_there}

-- every question that is asked of the line is answered by yes
pub record Fits (before : List Line) (line : Line) : Type 0 where
  pub word : word_fits before line ≡ true
  pub fields : fields_fit line ≡ true
  pub first_number : number_fits 1 line ≡ true
  pub second_number : number_fits 2 line ≡ true
  pub range : range_fits before line ≡ true
  pub labels : labels_fit line ≡ true
  pub order : order_fits before line ≡ true
  pub sum : sum_fits before line ≡ true
  pub states : states_left before line ≡ true
  pub choices : choices_left before line ≡ true
  pub branches : branches_left before line ≡ true
  pub complete : states_there before line ≡ true
