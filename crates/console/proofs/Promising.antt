-- What `check` prints keeps its promise.
use Rattle.std.proofs.Common.{◌≡◌, ℕ, ◌⊎◌, inl, inr, ⊎_elim, Bool, true, false, cond, eqb, List, [], ◌∷◌, ◌++◌, Option, None, Some, Result, Ok, Err, OnErr, IfOk, MatchOption, codes, sym, refl, ap, ◌∙◌, subst}
use Rattle.std.specs.Result.{result_map_both}
use Rattle.std.proofs.lemmas.Bool.{cond_both}
use Rattle.model.specs.Mdp.{Mdp}
use Rattle.text.specs.Contents.{Content, model_of}
use Rattle.text.specs.declared.fault.FileFault.{FileFault}
use Rattle.text.specs.Refusals.{refusal}
use Rattle.text.specs.Texts.{Describes}
use Rattle.text.proofs.Ranges.{between_true, between_from}
use Rattle.text_laws.proofs.Complete.{accepted, unique}
use Rattle.ladder.specs.declared.fault.LadderFault.{LadderFault}
use Rattle.ladder.specs.declared.fault.LadderFault.TheVariants.{Rungs, Denominator, Weight}
use Rattle.ladder.specs.Refusals.{ladder_fault, within}
use Rattle.printing.specs.Words.{ladder_refusal}
use Rattle.printing.specs.Carets.{refusal_text}
use Rattle.limits_text.specs.declared.summary.Summary.{Summary}
use Rattle.limits_text.specs.Summaries.{summary_of, summary_text}
use Rattle.limits_text.specs.Lines.{list_lines}
use Rattle.limits_text.specs.Promise.{Promise}
use Rattle.limits_text.specs.Lists.{Written, Writes, formula_count}
use Rattle.limits_text.proofs.KeptPromises.{both_kept, lines_kept, summary_kept, kept_begins, promised}
use Rattle.console.specs.declared.command.Command.TheVariants.{Check}
use Rattle.console.specs.declared.command.LadderNumbers.{LadderNumbers}
use Rattle.console.specs.declared.command.ModelName.{ModelName}
use Rattle.console.specs.declared.command.ModelName.TheVariants.{File, Ladder}
use Rattle.console.specs.declared.reply.Reply.{Reply}
use Rattle.console.specs.Commands.{model_named, command_of, word_at}
use Rattle.console.specs.Helps.{no_file_text}
use Rattle.console.specs.Replies.{Answer, answer_of, printed, refused, wrong, summary_answer, ladder_found, TextFound, ModelFound, LimitsAnswer, CommandAnswer, Answers, CommandBegun, Begun}
use Rattle.console.specs.Promise.{IsNamed, IsLadder, ChecksTruly, IsRefused, printed_by, Promised}

-- a text gives only the model of a content that it describes
text_named : (text : List ℕ) (m : Mdp) → TextFound text (Ok m) → IsNamed File (Some text) m
text_named text m found = by_refusal (refusal text) found
  where
    r : Result Mdp Answer
    r = Ok m

    by_refusal : (o : Option FileFault) → MatchOption o ((c : Content) × Describes text c × (r ≡ Ok (model_of c))) (λ f. r ≡ Err (refused (refusal_text f text))) → IsNamed File (Some text) m
    by_refusal None x = (text, refl, record { content = x.0; describes = x.1; only = λ other d. unique text other x.0 d x.1; model = let e = x.2 in cc })
    by_refusal (Some f) e = absurd cc

-- the first no of three questions is none exactly where each is answered yes
all_asked : (a b c : Bool) → cond a (cond b (cond c None (Some Weight)) (Some Denominator)) (Some Rungs) ≡ None → (a ≡ true) × (b ≡ true) × (c ≡ true)
all_asked true true true e = (refl, refl, refl)
all_asked true true false e = absurd cc
all_asked true false c e = absurd cc
all_asked false b c e = absurd cc

-- three numbers that pass are in their ranges, and make only their ladder
ladder_named : (n : LadderNumbers) (o : Option LadderFault) (m : Mdp) → ladder_fault n.rungs n.denominator n.weight ≡ o → ◌≡◌ {A = Result Mdp Answer} (Ok m) (ladder_found n.rungs n.denominator n.weight o) → IsLadder n m
ladder_named n None m none e =
    let asked = all_asked (within 1 511 n.rungs) (within 1 1000000 n.denominator) (within 1 n.denominator n.weight) none in
    record {
      rungs = between_true 1 511 n.rungs asked.0;
      denominator = between_true 1 1000000 n.denominator asked.1;
      weight = between_true 1 n.denominator n.weight asked.2;
      model = cc;
    }
ladder_named n (Some f) m some e = absurd cc

-- three numbers in their ranges pass
ladder_passes : (n : LadderNumbers) (m : Mdp) → IsLadder n m → ladder_fault n.rungs n.denominator n.weight ≡ None
ladder_passes n m is =
    let rungs = between_from 1 511 n.rungs is.rungs.0 is.rungs.1 in
    let denominator = between_from 1 1000000 n.denominator is.denominator.0 is.denominator.1 in
    let weight = between_from 1 n.denominator n.weight is.weight.0 is.weight.1 in
    rw (rungs, denominator, weight) refl

-- the model that is found is the one that is named
found_named : (name : ModelName) (path : List ℕ) (file : Option (List ℕ)) (m : Mdp) → ModelFound name path file (Ok m) → IsNamed name file m
found_named File path None m e = absurd cc
found_named File path (Some text) m found = text_named text m found
found_named (Ladder n) path file m e = ladder_named n (ladder_fault n.rungs n.denominator n.weight) m refl e

-- what is printed where no verdict is
abbrev pub IsQuiet : ModelName → Option (List ℕ) → List ℕ → Type 0
IsQuiet name file bytes = IsRefused name file bytes ⊎ (bytes ≡ [])

-- a text that is refused describes no model
none_described : (text : List ℕ) (f : FileFault) → refusal text ≡ Some f → (m : Mdp) → ¬ (IsNamed File (Some text) m)
none_described text f some m named =
    let same : named.0 ≡ text = cc in
    let none : refusal text ≡ None = subst (λ t. refusal t ≡ None) same (accepted named.0 named.2.content named.2.describes) in
    absurd cc

-- where a text is refused, the refusal is printed
text_quiet : (text : List ℕ) (b : Answer) → TextFound text (Err b) → IsQuiet File (Some text) (printed_by b)
text_quiet text b found = by_refusal (refusal text) refl found
  where
    r : Result Mdp Answer
    r = Err b

    by_refusal : (o : Option FileFault) → refusal text ≡ o → MatchOption o ((c : Content) × Describes text c × (r ≡ Ok (model_of c))) (λ f. r ≡ Err (refused (refusal_text f text))) → IsQuiet File (Some text) (printed_by b)
    by_refusal None none x = absurd (let e = x.2 in cc)
    by_refusal (Some f) some e =
        let same : b ≡ refused (refusal_text f text) = cc in
        subst (λ a. IsQuiet File (Some text) (printed_by a)) (sym same) (inl (record { no_model = none_described text f some; refusal = (_, refl) }))

-- so is that of three numbers that make no ladder
ladder_quiet : (n : LadderNumbers) (file : Option (List ℕ)) (o : Option LadderFault) (b : Answer) → ladder_fault n.rungs n.denominator n.weight ≡ o → ◌≡◌ {A = Result Mdp Answer} (Err b) (ladder_found n.rungs n.denominator n.weight o) → IsQuiet (Ladder n) file (printed_by b)
ladder_quiet n file None b none e = absurd cc
ladder_quiet n file (Some f) b some e =
    let same : b ≡ refused (ladder_refusal f ++ codes "\n") = cc in
    let no_model : (m : Mdp) → ¬ (IsNamed (Ladder n) file m) = λ m is. let none = ladder_passes n m is in absurd cc in
    subst (λ a. IsQuiet (Ladder n) file (printed_by a)) (sym same) (inl (record { no_model = no_model; refusal = (_, refl) }))

-- and where there is no file, nothing is printed
model_quiet : (name : ModelName) (path : List ℕ) (file : Option (List ℕ)) (b : Answer) → ModelFound name path file (Err b) → IsQuiet name file (printed_by b)
model_quiet File path None b e = let same : b ≡ wrong (no_file_text path) = cc in subst (λ a. IsQuiet File None (printed_by a)) (sym same) (inr refl)
model_quiet File path (Some text) b found = text_quiet text b found
model_quiet (Ladder n) path file b e = ladder_quiet n file (ladder_fault n.rungs n.denominator n.weight) b refl e

-- the answer after a list prints the summary
summary_printed : (s : Summary) → printed_by (summary_answer s) ≡ summary_text s
summary_printed s = cond_both (eqb s.refused 0) (printed (summary_text s)) (refused (summary_text s)) (λ a. printed_by a ≡ summary_text s) (λ e. refl) (λ e. refl)

-- where nothing is written, what is printed is what the answer prints
quietly : (name : ModelName) (file : Option (List ℕ)) (reports bytes : List ℕ) → reports ≡ [] → IsQuiet name file bytes → ChecksTruly name file (reports ++ bytes) ⊎ IsQuiet name file (reports ++ bytes)
quietly name file reports bytes e quiet = inr (subst (λ r. IsQuiet name file (r ++ bytes)) (sym e) quiet)

-- what is printed of a list over what was found keeps its promise
limits_promised : (name : ModelName) (path : List ℕ) (file : Option (List ℕ)) (limits : List ℕ) (list : Option (List ℕ)) (r : Result Mdp Answer) (w : Written) (a : Answer) →
    ModelFound name path file r → LimitsAnswer limits list r w a →
    ChecksTruly name file (w.reports ++ printed_by a) ⊎ IsQuiet name file (w.reports ++ printed_by a)
limits_promised name path file limits list (Err b) w a found x =
    quietly name file w.reports (printed_by a) (ap (λ v. v.reports) x.0) (subst (λ c. IsQuiet name file (printed_by c)) (sym x.1) (model_quiet name path file b found))
limits_promised name path file limits None (Ok m) w a found x =
    quietly name file w.reports (printed_by a) (ap (λ v. v.reports) x.0) (subst (λ c. IsQuiet name file (printed_by c)) (sym x.1) (inr refl))
limits_promised name path file limits (Some list) (Ok m) w a found x =
    let lawful = x.1.promise.lawful in
    let summary = summary_of x.0 in
    let all = both_kept m w.reports (summary_text summary) (lines_kept m lawful (formula_count list) 0 1 (list_lines list) w x.1.lines) (summary_kept m summary) in
    let same : printed_by a ≡ summary_text summary = ap printed_by x.2 ∙ summary_printed summary in
    inl (record {
      model = m;
      named = found_named name path file m found;
      promise = subst (λ t. Promise m (w.reports ++ t)) (sym same) (promised m lawful (w.reports ++ summary_text summary) (kept_begins m lawful (w.reports ++ summary_text summary) all));
    })

-- the words `check MODEL LIMITS` ask for a check of the model that is named
asked_check : (args : List (List ℕ)) (model limits : List ℕ) (name : ModelName) → args ≡ codes "check" ∷ model ∷ limits ∷ [] → model_named model ≡ Ok name → command_of args ≡ Ok (Check name)
asked_check args model limits name words named = ap command_of words ∙ ap (result_map_both Check (λ e. e)) named

-- so does what is printed of the words of the command line
answers_promised : (args : List (List ℕ)) (file second : Option (List ℕ)) (w : Written) (a : Answer) → Answers args file second w a → Promised args file (w.reports ++ printed_by a)
answers_promised args file second w a x = λ model limits name words named.
    let check = subst (λ c. CommandAnswer c args file second w a) (asked_check args model limits name words named) x in
    limits_promised name (word_at 1 args) file (word_at 2 args) second check.0 w a check.1 check.2

-- and what was begun where an error came
begun_promised : (args : List (List ℕ)) (file second : Option (List ℕ)) (w : Written) → Begun args file second w → Promised args file w.reports
begun_promised args file second w x = λ model limits name words named.
    let quiet : w.reports ≡ [] → ChecksTruly name file w.reports ⊎ IsQuiet name file w.reports = λ none. inr (inr none) in
    ⊎_elim (λ none. quiet (ap (λ v. v.reports) none))
    (λ y. ⊎_elim (λ none. quiet (ap (λ v. v.reports) none))
    (λ z. inl (record { model = y.0; named = found_named name (word_at 1 args) file y.0 y.1; promise = z.2.promise })) y.2)
    (subst (λ c. CommandBegun c args file second w) (asked_check args model limits name words named) x)

-- so the clauses of a reply follow from what it answers
pub reply_promised : {E : Type 0} (args : List (List ℕ)) (file second : Option (List ℕ)) (o o' p p' : Option (List ℕ)) (r : Result Reply E) →
    IfOk r (λ a. Writes (λ w. Answers args file second w (answer_of a)) o o' p p') → IfOk r (λ a. Writes (λ w. Promised args file (w.reports ++ printed_by (answer_of a))) o o' p p')
reply_promised args file second o o' p p' (Err e) x = tt
reply_promised args file second o o' p p' (Ok a) x =
    record { written = x.written; said = answers_promised args file second x.written (answer_of a) x.said; out = x.out; progress = x.progress }

-- also after an error
pub error_promised : {A E : Type 0} (args : List (List ℕ)) (file second : Option (List ℕ)) (o o' p p' : Option (List ℕ)) (r : Result A E) →
    OnErr r (Writes (Begun args file second) o o' p p') → OnErr r (Writes (λ w. Promised args file w.reports) o o' p p')
error_promised args file second o o' p p' (Ok a) x = tt
error_promised args file second o o' p p' (Err e) x =
    record { written = x.written; said = begun_promised args file second x.written x.said; out = x.out; progress = x.progress }
