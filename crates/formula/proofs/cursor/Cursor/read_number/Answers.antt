use Rattle.std.proofs.Common.{◌≡◌, Some, None, ap, sym, ◌∙◌, rules}
use Rattle.std.proofs.lemmas.List.{take_rest}
use Rattle.text.specs.Fields.{leading_number_read}
use Rattle.formula.proofs.Numbers.{number_read, number_refused}
use Rattle.formula.proofs.cursor.Cursor.read_number.Goals as goal

-- `number_refused`: where the rest begins with no number, none is read there
pub returns-in_err-value : goal.returns-in_err-value
returns-in_err-value c =
    let text = c.args.self.text.now in
    let at = c.args.self.at in
    let none : c.leading_number.result ≡ None = search rules in
    let refused = number_refused text at c.args.self.inside (ap leading_number_read (sym (take_rest text at)) ∙ sym c.leading_number.ensures ∙ none) in
    search rules

-- `number_read`: where it begins with one, that is read there
pub returns : goal.returns
returns c =
    let text = c.args.self.text.now in
    let at = c.args.self.at in
    let some : c.leading_number.result ≡ Some (c.in_ok-value.value, c.in_ok-value.length) = search rules in
    number_read text at c.in_ok-value.value c.in_ok-value.length c.args.self.inside (ap leading_number_read (sym (take_rest text at)) ∙ sym c.leading_number.ensures ∙ some)
