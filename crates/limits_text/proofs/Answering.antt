-- From what judging a text answers to what is answered of its report.
use Rattle.std.proofs.Common.{◌≡◌, ℕ, ◌*◌, ◌≤◌, List, length, Err, Ok, Result, Option, map, sym, refl, ap, ◌∙◌, subst, arith, ltb, mul-le-mul_right, IfOk, String, string_bytes}
use Rattle.std.specs.declared.alloc.Global.{Global}
use Rattle.std.specs.declared.alloc.AllocError.{AllocError}
use Rattle.std.proofs.lemmas.List.FromFn.{length-map-range_with_len}
use Rattle.std.proofs.lemmas.Bool.{cond_both}
use Rattle.model.specs.Mdp.{Mdp, Lawful}
use Rattle.theory.specs.Formulas.{Formula}
use Rattle.theory.specs.Found.{verdicts, TwoEnds, ends_of}
use Rattle.theory.proofs.Judged.{all_judged_rightly}
use Rattle.grammar.specs.Spelling.{print, Spelled}
use Rattle.records.specs.declared.fault.JudgeFault.{JudgeFault}
use Rattle.records.specs.declared.fault.JudgeFault.TheVariants as judge
use Rattle.formula.specs.Records.{size}
use Rattle.formula.specs.Answers.{JudgeAnswer, CountAnswer}
use Rattle.trial.specs.Judging as judging
use Rattle.trial.specs.Rows.{byte_at}
use Rattle.trial.specs.PathEnds.{Told}
use Rattle.trial.specs.declared.two_ends.Ends.{Ends}
use Rattle.printing.specs.Carets.{shown}
use Rattle.formula_text.specs.Answers.{lent_records}
use Rattle.formula_text.proofs.Answering.{for_any}
use Rattle.limits_text.specs.declared.outcome.Outcome.{Outcome}
use Rattle.limits_text.specs.declared.outcome.Counts.{Counts}
use Rattle.limits_text.specs.declared.outcome.Outcome.TheVariants as outcome
use Rattle.limits_text.specs.Outcomes.{counts_of, outcome_of}
use Rattle.limits_text.specs.Reports.{formula_report, JudgedReport, ReportAnswer}
use Rattle.limits_text.proofs.Outcomes.{outcome_means}
use Rattle.limits_text.specs.Promise.{Promise}
use Rattle.limits_text.proofs.Printable.{print_shown}
use Rattle.limits_text.proofs.Promising.{report_promise}

-- buffers that have room for every formula within the limits
pub record Roomy (m : Mdp) (b : judging.Buffers) : Type 0 where
  pub records : length b.records ≡ lent_records
  pub scratch : length b.scratch ≡ 64 * m.states
  pub out : length b.out ≡ m.states

-- with them only the text itself can be refused
refused : (m : Mdp) (text : List ℕ) (b : judging.Buffers) (e : JudgeFault) → Roomy m b → judging.Refused m text b e → JudgeAnswer text b.records b.records (Err e)
refused m text b judge.Length room r = (r, refl)
refused m text b (judge.Formula e) room r = r
refused m text b judge.Scratch room r =
    let few : size r.0 * m.states ≤ 64 * m.states = mul-le-mul_right m.states r.1.within.few in
    absurd (omega (arith, room.scratch, r.2))
refused m text b judge.Out room r = absurd (r.3 room.out)

-- so for any records of that number it is
pub refused_text : (m : Mdp) (text : List ℕ) (b : judging.Buffers) (e : JudgeFault) → Roomy m b → judging.Refused m text b e → CountAnswer text lent_records (Err e)
refused_text m text b e room r = λ other long. (other, for_any text b.records b.records other e (long ∙ sym room.records) (refused m text b e room r))

-- a judged outcome is none of a refusal
judged_answer : (m : Mdp) (text bytes : List ℕ) (c : Counts) → JudgedReport m text bytes (outcome_of c) → ReportAnswer m text bytes (outcome_of c)
judged_answer m text bytes c =
    let P : Outcome → Type 0 = λ o. JudgedReport m text bytes o → ReportAnswer m text bytes o in
    cond_both (ltb 0 c.no) outcome.Fails _ P (λ e j. j) (λ e. cond_both (ltb 0 c.undecided) outcome.Undecided outcome.Holds P (λ e j. j) (λ e j. j))

-- what is printed of a text that is judged is its report, with its outcome
pub judged_text : (m : Mdp) (text : List ℕ) (before after : judging.Buffers) (n : ℕ) (row : List ℕ) (ends : Option Ends) (result : Result (String Global × Outcome) AllocError)
    → Roomy m before → judging.Accepted m text before after n → Lawful m
    → ((f : Formula) → Spelled f → text ≡ print f → Told m.states (ends_of m f) ends)
    → row ≡ after.out
    → ((two : Option TwoEnds) → Told (length row) two ends → IfOk result (λ r. string_bytes r.0 ≡ formula_report (map shown text) row two))
    → IfOk result (λ r. r.1 ≡ outcome_of (counts_of row))
    → IfOk result (λ r. ReportAnswer m text (string_bytes r.0) r.1)
judged_text m text before after n row ends (Err e) room a l told last report outcome = tt
judged_text m text before after n row ends (Ok r) room a l told last report outcome =
    let f = a.formula in
    let own : row ≡ judging.row_of m f = last ∙ ap (λ b. b.out) a.left in
    let long : length row ≡ m.states = ap length own ∙ length-map-range_with_len (byte_at (verdicts m f)) 0 m.states in
    let shown_text : map shown text ≡ print f = ap (map shown) a.reads.spells ∙ print_shown f a.reads.spelled in
    let bytes = report (ends_of m f) (subst (λ k. Told k (ends_of m f) ends) (sym long) (told f a.reads.spelled a.reads.spells)) in
    let printed = bytes ∙ ap (λ t. formula_report t row (ends_of m f)) shown_text ∙ ap (λ xs. formula_report (print f) xs (ends_of m f)) own in
    let same : r.1 ≡ outcome_of (counts_of (judging.row_of m f)) = outcome ∙ ap (λ xs. outcome_of (counts_of xs)) own in
    subst (ReportAnswer m text (string_bytes r.0)) (sym same) (judged_answer m text (string_bytes r.0) (counts_of (judging.row_of m f)) (record {
      formula = f;
      reads = subst (λ k. judging.Reads text k f) room.records a.reads;
      report = printed;
      promise = subst (Promise m) (sym printed) (report_promise m l f a.reads.spelled);
      outcome = refl;
      means = outcome_means m f (all_judged_rightly m l f);
    }))
