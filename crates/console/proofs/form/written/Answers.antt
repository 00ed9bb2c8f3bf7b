use Rattle.std.proofs.Common.{◌≡◌, length, take, drop, vec_items, Err, sym, ap, ◌∙◌, subst, arith}
use Rattle.std.proofs.lemmas.List.{take_at}
use Rattle.tables.specs.Copies.{Copied}
use Rattle.console.specs.declared.command.Form.TheVariants.{Text}
use Rattle.console.specs.Replies.{printed, refused, Gives, form_answer}
use Rattle.console.proofs.Returning.{accepted_content, refused_text}
use Rattle.console.proofs.form.written.Goals as goal

pub returns-in-Ok : goal.returns-in-Ok
returns-in-Ok c =
    let text = c.args.text.now in
    let done = c.in-Ok.ensures in
    let n = c.in-Ok.length in
    let new = c.load_and_write.new.out in
    let room : length new ≡ c.in_ok-out.out.len = omega (arith, c.load_and_write.auto.out, c.as_mut_slice.ensures.len) in
    let front : take n new ≡ text = ap (take n) done.1.is ∙ take_at text (drop n c.as_mut_slice.result.now) n (sym done.1.count) in
    let cut : vec_items c.truncate.new.self ≡ text = c.truncate.ensures.items ∙ ap (take n) (take_at new (drop (length new) c.in_ok-out.out.items) c.in_ok-out.out.len room) ∙ front in
    accepted_content Text text _ (printed (vec_items c.truncate.new.self)) done.0.passed done.0.describes (ap printed (cut ∙ done.0.describes.is))

-- a refused text is answered by its refusal
pub returns-in-Err-Load : goal.returns-in-Err-Load
returns-in-Err-Load c =
    let text = c.args.text.now in
    let told = subst (λ f. Copied text c.in_ok-tables.tables.kept c.load_and_write.new.self.kept c.as_mut_slice.result.now c.load_and_write.new.out (Err f)) c.in-Err-Load.field-0-is c.in-Err-Load.ensures in
    refused_text (Gives (form_answer Text)) text c.in-Err-Load.fault _ told.0.first (ap refused c.in_ok-refusal_text-in-Err-Load.ensures)
