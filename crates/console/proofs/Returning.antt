-- The answer on a text comes from the model that it describes, and commands that write nothing leave the writers.
use Rattle.std.proofs.Common.{◌≡◌, ℕ, ◌+◌, inr, List, [], ◌∷◌, map, length, Option, None, Some, Result, Ok, Err, sym, refl, ap, ◌∙◌, subst, MatchOption}
use Rattle.std.specs.List.{range_with_len}
use Rattle.std.proofs.lemmas.List.FromFn.{fill_by_all}
use Rattle.std.proofs.KnownBytes.{Appends-nil}
use Rattle.model.specs.Mdp.{Mdp}
use Rattle.text.specs.Contents.{State, Content, model_of, no_state}
use Rattle.text.specs.declared.fault.FileFault.{FileFault}
use Rattle.text.specs.Refusals.{refusal}
use Rattle.text.specs.Texts.{Describes}
use Rattle.printing.specs.Carets.{refusal_text}
use Rattle.printing.specs.Layouts.{state_of, model_content}
use Rattle.console.specs.declared.command.Form.{Form}
use Rattle.limits_text.specs.declared.outcome.Outcome.{Outcome}
use Rattle.limits_text.specs.Lines.{list_lines}
use Rattle.limits_text.specs.Lists.{Written, nothing, LinesWritten, LinesBegun, ListReported, Writes, formula_count}
use Rattle.console.specs.Replies.{Answer, printed, refused, Gives, in_form, form_answer, TextFound, TextAnswer, LimitsBegun}

-- what the model of a content has is that content
content_back : (c : Content) → model_content (model_of c) ≡ c
content_back c =
    let same : c.states ≡ map (state_of (model_of c)) (range_with_len 0 (length c.states)) = fill_by_all (state_of (model_of c)) c.states (length c.states) no_state refl (λ k h. refl) in
    ap (λ (ss : List State). let back : Content = record { denominator = c.denominator; states = ss } in back) (sym same)

-- an accepted text gives the model of the content that it describes
accepted : (text : List ℕ) (c : Content) → refusal text ≡ None → Describes text c → TextFound text (Ok (model_of c))
accepted text c passed d =
    let r : Result Mdp Answer = Ok (model_of c) in
    subst (λ f. MatchOption f ((k : Content) × Describes text k × (r ≡ Ok (model_of k))) (λ e. r ≡ Err (refused (refusal_text e text)))) (sym passed) (c, d, refl)

-- the answer on it where the content itself is printed
pub accepted_content : (form : Form) (text : List ℕ) (c : Content) (a : Answer) → refusal text ≡ None → Describes text c → a ≡ printed (in_form form c) → TextAnswer (Gives (form_answer form)) text a
accepted_content form text c a passed d e = (Ok (model_of c), accepted text c passed d, e ∙ sym (ap (λ k. printed (in_form form k)) (content_back c)))

-- the answer on a refused text is its refusal
pub refused_text : (on : Mdp → Answer → Type 0) (text : List ℕ) (f : FileFault) (a : Answer) → refusal text ≡ Some f → a ≡ refused (refusal_text f text) → TextAnswer on text a
refused_text on text f a is e =
    let r : Result Mdp Answer = Err (refused (refusal_text f text)) in
    (r, subst (λ g. MatchOption g ((k : Content) × Describes text k × (r ≡ Ok (model_of k))) (λ h. r ≡ Err (refused (refusal_text h text)))) (sym is) refl, e)

-- where nothing is written, the writers have what they had
pub writes_nothing : (says : Written → Type 0) (o p : Option (List ℕ)) → says nothing → Writes says o o p p
writes_nothing says o p said = record { written = nothing; said = said; out = Appends-nil o; progress = Appends-nil p }

-- what is written of some lines is a beginning of it
lines_begun : (m : Mdp) (n i k : ℕ) (ls : List (List ℕ)) (w : Written) → LinesWritten m n i k ls w → LinesBegun m n i k ls w
lines_begun m n i k [] w h = h
lines_begun m n i k (l ∷ ls) w (first, rest, this, others, e) = inr (first, rest, this, lines_begun m n (i + length first.outcomes) (k + 1) ls rest others, e)

-- so is what is written of a list
pub whole_begun : (m : Mdp) (limits : Option (List ℕ)) (list : List ℕ) (outcomes : List Outcome) (o o' p p' : Option (List ℕ)) → limits ≡ Some list → Writes (ListReported m list outcomes) o o' p p' → Writes (LimitsBegun limits m) o o' p p'
whole_begun m limits list outcomes o o' p p' given w = record {
  written = w.written;
  said = inr (list, given, record { lines = lines_begun m (formula_count list) 0 1 (list_lines list) w.written w.said.lines; promise = w.said.promise });
  out = w.out;
  progress = w.progress;
}
