-- What is written of a line is made of lines that keep the promise, and so is what is written of a list.
use Rattle.std.proofs.Common.{◌≡◌, ◌≢◌, ℕ, ◌+◌, ◌-◌, ◌<◌, inl, inr, ⊎_elim, true, false, eqb, leb, ◌||◌, List, [], ◌∷◌, ◌++◌, length, get_or, take, drop, replicate, map, Option, codes, decimal, sym, refl, ap, ◌∙◌, subst, append_assoc, append-nil, arith}
use Rattle.std.proofs.lemmas.List.{take-append-drop}
use Rattle.std.proofs.lemmas.Bool.{cases_Bool, cond-false, cond_both, eqb-true, and_parts, leb-true, both_ways}
use Rattle.std.proofs.lemmas.List.Elements.{All-nil, All-head, All-tail, All-map, All-get_or}
use Rattle.std.proofs.lemmas.List.Sums.{AllPass-from_list_all}
use Rattle.model.specs.Mdp.{Mdp, Lawful, Each}
use Rattle.model.proofs.Lists.{each_append}
use Rattle.text.specs.Fields.{between}
use Rattle.grammar.specs.Spelling.{print}
use Rattle.records.specs.declared.fault.FormulaFault.{FormulaFault}
use Rattle.records.specs.declared.fault.FormulaFault.TheVariants.{NoFormula, Number, Depth, Records, Until}
use Rattle.records.specs.declared.fault.JudgeFault.{JudgeFault}
use Rattle.records.specs.declared.fault.JudgeFault.TheVariants as judge
use Rattle.records.specs.Faults.{formula_fault_place, judge_fault_number, judge_fault_place}
use Rattle.trial.specs.Judging.{row_of}
use Rattle.theory.specs.Found.{ends_of}
use Rattle.printing.specs.Carets.{shown, under, marked}
use Rattle.formula_text.specs.Words.{formula_words, judge_words, judge_line, judge_mark}
use Rattle.limits_text.specs.declared.summary.Summary.{Summary}
use Rattle.limits_text.specs.Summaries.{summary_line, summary_text}
use Rattle.limits_text.specs.declared.item.Item.{Item}
use Rattle.limits_text.specs.declared.item.Item.TheVariants as item
use Rattle.limits_text.specs.declared.outcome.Outcome.{Outcome}
use Rattle.limits_text.specs.declared.outcome.Outcome.TheVariants as outcome
use Rattle.limits_text.specs.Lines.{item_of}
use Rattle.limits_text.specs.Promise.{IsHeading, Promise}
use Rattle.limits_text.specs.Reports.{refusal_report, JudgedReport, ReportAnswer, ItemAnswer, LineAnswer, numbered}
use Rattle.limits_text.specs.Lists.{Written, BeginsReport, LinesWritten, LineBegun, LinesBegun}
use Rattle.limits_text.proofs.Printable.{is_graphic, print_graphic}
use Rattle.limits_text.proofs.Pieces.{Lacks, ended, ended-append}
use Rattle.limits_text.proofs.StateLines.{lacks_low, number_lacks, tested_lacks, both_lack, blanks_lack, heading_line, lines_behind, report_ended, report_lacks}
use Rattle.limits_text.proofs.Promising.{may_begin, IsPlain, plain_by_first, Keeps, keeps_plain, keeps_unheaded, keeps_none, report_keeps, covered}

-- bytes that are lines, and in front of lines that keep the promise keep it
pub record AreKept (m : Mdp) (bytes : List ℕ) : Type 0 where
  pub lines : List (List ℕ)
  pub same : bytes ≡ ended lines
  pub none : Each (Lacks 10) lines
  pub keeps : (rest : List (List ℕ)) → Keeps m rest → Keeps m (lines ++ rest)

-- nothing is
pub none_kept : (m : Mdp) → AreKept m []
none_kept m = record { lines = []; same = refl; none = tt; keeps = λ rest k. k }

-- and bytes behind bytes
pub both_kept : (m : Mdp) (xs ys : List ℕ) → AreKept m xs → AreKept m ys → AreKept m (xs ++ ys)
both_kept m xs ys a b = record {
  lines = a.lines ++ b.lines;
  same = ap (λ t. t ++ ys) a.same ∙ ap (λ t. ended a.lines ++ t) b.same ∙ sym (ended-append a.lines b.lines);
  none = each_append (Lacks 10) a.lines b.lines a.none b.none;
  keeps = λ rest k. subst (Keeps m) (sym (append_assoc a.lines b.lines rest)) (a.keeps (b.lines ++ rest) (b.keeps rest k));
}

-- a shown byte is no line feed
shown_no_feed : (b : ℕ) → shown b ≢ 10
shown_no_feed b =
    cond_both (eqb b 9 || between 32 126 b) b 63 (λ c. c ≢ 10)
    (λ seen e. both_ways false refl (subst (λ c. (eqb c 9 || between 32 126 c) ≡ true) e seen))
    (λ unseen e. absurd (omega arith))

-- so a shown text has none
shown_lacks : (text : List ℕ) → Lacks 10 (map shown text)
shown_lacks text = All-map (λ b. b ≢ 10) shown text (λ k d h. shown_no_feed (get_or text k d))

-- nor has the byte under one
under_no_feed : (b : ℕ) → under b ≢ 10
under_no_feed b = cond_both (eqb b 9) 9 32 (λ c. c ≢ 10) (λ e h. absurd (omega arith)) (λ e h. absurd (omega arith))

-- nor has the line with the caret
caret_lacks : (text : List ℕ) → Lacks 10 (map under text ++ codes "^")
caret_lacks text =
    both_lack 10 (map under text) (codes "^") (All-map (λ b. b ≢ 10) under text (λ k d h. under_no_feed (get_or text k d))) (tested_lacks 10 (codes "^") refl)

-- no formula's text is that line
caret_plain : (m : Mdp) (text : List ℕ) → IsPlain m (map under text ++ codes "^")
caret_plain m [] = plain_by_first m (codes "^") refl
caret_plain m (b ∷ text) = plain_by_first m (map under (b ∷ text) ++ codes "^")
    (cond_both (eqb b 9) 9 32 (λ c. may_begin c ≡ false) (λ e. refl) (λ e. refl))

-- a text that ends with a caret (94) has one
has_caret : (text : List ℕ) → Lacks 94 (text ++ codes "^") → ⊥
has_caret [] none = All-head (λ b. b ≢ 94) 94 [] none refl
has_caret (b ∷ text) none = has_caret text (All-tail (λ c. c ≢ 94) b (text ++ codes "^") none)

-- so it is no heading
caret_unheaded : (text : List ℕ) → ¬ (IsHeading (text ++ codes "^"))
caret_unheaded text heading =
    has_caret text (⊎_elim
    (λ e. subst (Lacks 94) (sym e) (tested_lacks 94 (codes "  state  verdict") refl))
    (λ e. subst (Lacks 94) (sym e) (tested_lacks 94 (codes "  state  verdict         lower       upper") refl))
    heading)

-- a text is shown with a caret in two lines, which keep the promise
pub marked_kept : (m : Mdp) (place : ℕ) (text : List ℕ) → AreKept m (marked place text)
marked_kept m place text = record {
  lines = map shown text ∷ (map under (take place text) ++ codes "^") ∷ [];
  same = ap (λ t. map shown text ++ (10 ∷ t)) (sym (append_assoc (map under (take place text)) (codes "^") (10 ∷ [])));
  none = (shown_lacks text, (caret_lacks (take place text), tt));
  keeps = λ rest k.
      let caret = map under (take place text) ++ codes "^" in
      keeps_unheaded m (map shown text) caret rest (caret_unheaded (map under (take place text))) (keeps_plain m caret rest (caret_plain m (take place text)) k);
}

-- a line that is no formula's text
pub line_kept : (m : Mdp) (line : List ℕ) → Lacks 10 line → IsPlain m line → AreKept m (line ++ (10 ∷ []))
line_kept m line none plain = record { lines = line ∷ []; same = refl; none = (none, tt); keeps = λ rest k. keeps_plain m line rest plain k }

-- the words on a formula's fault are one line
formula_words_lack : (e : FormulaFault) → Lacks 10 (formula_words e)
formula_words_lack (NoFormula p) = tested_lacks 10 (formula_words (NoFormula p)) refl
formula_words_lack (Number p) = tested_lacks 10 (formula_words (Number p)) refl
formula_words_lack Depth = tested_lacks 10 (formula_words Depth) refl
formula_words_lack Records = tested_lacks 10 (formula_words Records) refl
formula_words_lack (Until p) = tested_lacks 10 (formula_words (Until p)) refl

-- and those on a judge's fault
judge_words_lack : (e : JudgeFault) → Lacks 10 (judge_words e)
judge_words_lack judge.Length = tested_lacks 10 (judge_words judge.Length) refl
judge_words_lack (judge.Formula e) = formula_words_lack e
judge_words_lack judge.Scratch = tested_lacks 10 (judge_words judge.Scratch) refl
judge_words_lack judge.Out = tested_lacks 10 (judge_words judge.Out) refl

-- so is the line of a refusal
judge_line_lacks : (e : JudgeFault) → Lacks 10 (judge_line e)
judge_line_lacks e =
    let number = decimal (judge_fault_number e) in
    let place = decimal (judge_fault_place e) in
    both_lack 10 (codes "refused " ++ (number ++ (codes " place " ++ place))) (codes ": " ++ judge_words e)
    (both_lack 10 (codes "refused ") (number ++ (codes " place " ++ place)) (tested_lacks 10 (codes "refused ") refl)
    (both_lack 10 number (codes " place " ++ place) (number_lacks 10 (omega arith) (judge_fault_number e))
    (both_lack 10 (codes " place ") place (tested_lacks 10 (codes " place ") refl) (number_lacks 10 (omega arith) (judge_fault_place e)))))
    (both_lack 10 (codes ": ") (judge_words e) (tested_lacks 10 (codes ": ") refl) (judge_words_lack e))

-- a text that begins with the word `line` and a blank is not that of a formula
named_plain : (m : Mdp) (rest : List ℕ) → IsPlain m (codes "line " ++ rest)
named_plain m rest f s e =
    let fifth : get_or (print f) 4 0 ≡ 32 = ap (λ t. get_or t 4 0) e in
    let long : 4 < length (print f) = omega (arith, ap length e) in
    let graphic : is_graphic (get_or (print f) 4 0) ≡ true = All-get_or (λ b. is_graphic b ≡ true) (print f) 4 0 long (AllPass-from_list_all is_graphic (print f) (print_graphic f s)) in
    let least = leb-true 33 (get_or (print f) 4 0) (and_parts (leb 33 (get_or (print f) 4 0)) (leb (get_or (print f) 4 0) 126) graphic).0 in
    absurd (omega arith)

-- what is shown of the text of a fault keeps the promise
mark_kept : (m : Mdp) (e : JudgeFault) (text : List ℕ) → AreKept m (judge_mark e text)
mark_kept m judge.Length text = none_kept m
mark_kept m (judge.Formula e) text = marked_kept m (formula_fault_place e) text
mark_kept m judge.Scratch text = none_kept m
mark_kept m judge.Out text = none_kept m

-- so does the refusal of a line
refusal_kept : (m : Mdp) (k : ℕ) (e : JudgeFault) (text : List ℕ) → AreKept m (codes "line " ++ (decimal k ++ (codes ": " ++ refusal_report e text)))
refusal_kept m k e text =
    let line = codes "line " ++ (decimal k ++ (codes ": " ++ judge_line e)) in
    let lacks = both_lack 10 (codes "line ") (decimal k ++ (codes ": " ++ judge_line e)) (tested_lacks 10 (codes "line ") refl)
    (both_lack 10 (decimal k) (codes ": " ++ judge_line e) (number_lacks 10 (omega arith) k)
    (both_lack 10 (codes ": ") (judge_line e) (tested_lacks 10 (codes ": ") refl) (judge_line_lacks e))) in
    let whole : codes "line " ++ (decimal k ++ (codes ": " ++ refusal_report e text)) ≡ (line ++ (10 ∷ [])) ++ (judge_mark e text ++ (10 ∷ [])) = simp append_assoc refl in
    subst (AreKept m) (sym whole)
    (both_kept m (line ++ (10 ∷ [])) (judge_mark e text ++ (10 ∷ [])) (line_kept m line lacks (named_plain m (decimal k ++ (codes ": " ++ judge_line e))))
    (both_kept m (judge_mark e text) (10 ∷ []) (mark_kept m e text) (line_kept m [] (All-nil (λ b. b ≢ 10)) (plain_by_first m [] refl))))

-- a line of the summary keeps the promise
summary_line_kept : (m : Mdp) (n : ℕ) (what : List ℕ) → Lacks 10 what → AreKept m (summary_line n what)
summary_line_kept m n what none =
    let padding = replicate (5 - length (decimal n)) 32 in
    let line = codes "  " ++ ((padding ++ decimal n) ++ (codes "  " ++ what)) in
    let lacks = both_lack 10 (codes "  ") ((padding ++ decimal n) ++ (codes "  " ++ what)) (tested_lacks 10 (codes "  ") refl)
    (both_lack 10 (padding ++ decimal n) (codes "  " ++ what) (both_lack 10 padding (decimal n) (blanks_lack (5 - length (decimal n))) (number_lacks 10 (omega arith) n))
    (both_lack 10 (codes "  ") what (tested_lacks 10 (codes "  ") refl) none)) in
    let whole : summary_line n what ≡ line ++ (10 ∷ []) = simp append_assoc refl in
    subst (AreKept m) (sym whole) (line_kept m line lacks (plain_by_first m line refl))

-- so does the summary
pub summary_kept : (m : Mdp) (s : Summary) → AreKept m (summary_text s)
summary_kept m s =
    both_kept m (codes "summary\n") _ (line_kept m (codes "summary") (tested_lacks 10 (codes "summary") refl) (plain_by_first m (codes "summary") refl))
    (both_kept m (summary_line s.formulas (codes "formulas")) (holds ++ (fails ++ (open_ ++ refused))) (summary_line_kept m s.formulas (codes "formulas") (tested_lacks 10 (codes "formulas") refl))
    (both_kept m holds (fails ++ (open_ ++ refused)) (summary_line_kept m s.hold (codes "hold at every state") (tested_lacks 10 (codes "hold at every state") refl))
    (both_kept m fails (open_ ++ refused) (summary_line_kept m s.fail (codes "fail somewhere") (tested_lacks 10 (codes "fail somewhere") refl))
    (both_kept m open_ refused (summary_line_kept m s.undecided (codes "undecided somewhere and fail nowhere") (tested_lacks 10 (codes "undecided somewhere and fail nowhere") refl))
    (summary_line_kept m s.refused (codes "refused") (tested_lacks 10 (codes "refused") refl))))))
  where
    holds : List ℕ
    holds = summary_line s.hold (codes "hold at every state")

    fails : List ℕ
    fails = summary_line s.fail (codes "fail somewhere")

    open_ : List ℕ
    open_ = summary_line s.undecided (codes "undecided somewhere and fail nowhere")

    refused : List ℕ
    refused = summary_line s.refused (codes "refused")

module _ (m : Mdp) (l : Lawful m) where
  -- the report of a formula keeps the promise
  judged_kept : (text bytes : List ℕ) (o : Outcome) → JudgedReport m text bytes o → AreKept m bytes
  judged_kept text bytes o j =
      let f = j.formula in
      let s = j.reads.spelled in
      subst (AreKept m) (sym j.report) (record {
        lines = print f ∷ heading_line (ends_of m f) ∷ lines_behind (ends_of m f) (row_of m f);
        same = report_ended (ends_of m f) (print f) (row_of m f);
        none = report_lacks (ends_of m f) (print f) (row_of m f) (lacks_low 10 (omega arith) (print f) (print_graphic f s));
        keeps = report_keeps m l f s;
      })

  -- so does what is written of a line of a formula
  numbered_kept : (k : ℕ) (line report : List ℕ) (o : Outcome) → ReportAnswer m line report o → AreKept m (numbered k o report)
  numbered_kept k line report outcome.Holds a = judged_kept line report outcome.Holds a
  numbered_kept k line report outcome.Fails a = judged_kept line report outcome.Fails a
  numbered_kept k line report outcome.Undecided a = judged_kept line report outcome.Undecided a
  numbered_kept k line report outcome.Refused a =
      subst (λ r. AreKept m (codes "line " ++ (decimal k ++ (codes ": " ++ r)))) (sym a.report) (refusal_kept m k a.fault line)

  -- a heading of a list is no formula's text
  heading_kept : (line : List ℕ) → item_of line ≡ item.Heading → AreKept m (map shown line ++ (10 ∷ []))
  heading_kept [] e = absurd cc
  heading_kept (b ∷ line) e = elim (cases_Bool (eqb b 35)) [
    | inl sign ↦ line_kept m (map shown (b ∷ line)) (shown_lacks (b ∷ line))
        (plain_by_first m (map shown (b ∷ line)) (ap (λ c. may_begin (shown c)) (eqb-true b 35 sign)))
    | inr other ↦ absurd (let no : item.Formula ≡ item.Heading = sym (cond-false (eqb b 35) item.Heading item.Formula other) ∙ e in cc)
  ]

  -- what is written of any line keeps the promise
  line_answer_kept : (k : ℕ) (line bytes : List ℕ) (o : Option Outcome) → LineAnswer m k line bytes o → AreKept m bytes
  line_answer_kept k line bytes o a = by_item (item_of line) refl a
    where
      by_item : (i : Item) → item_of line ≡ i → ItemAnswer i m k line bytes o → AreKept m bytes
      by_item item.Nothing e x = subst (AreKept m) (sym x.0) (none_kept m)
      by_item item.Heading e x = subst (AreKept m) (sym x.0) (heading_kept line e)
      by_item item.Formula e x = subst (AreKept m) (sym x.4) (numbered_kept k line x.1 x.0 x.3)

  -- so does what is written of several
  pub lines_kept : (n i k : ℕ) (ls : List (List ℕ)) (w : Written) → LinesWritten m n i k ls w → AreKept m w.reports
  lines_kept n i k [] w e = subst (AreKept m) (sym (ap (λ v. v.reports) e)) (none_kept m)
  lines_kept n i k (line ∷ ls) w (first, rest, this, others, e) =
      subst (AreKept m) (sym (ap (λ v. v.reports) e))
      (both_kept m first.reports rest.reports (line_answer_kept k line first.reports this.outcome this.report)
      (lines_kept n (i + length first.outcomes) (k + 1) ls rest others))

  -- bytes that something may follow which keeps the promise with them
  pub record BeginKept (bytes : List ℕ) : Type 0 where
    pub more : List ℕ
    pub kept : AreKept m (bytes ++ more)

  -- what is kept begins itself
  pub kept_begins : (bytes : List ℕ) → AreKept m bytes → BeginKept bytes
  kept_begins bytes kept = record { more = []; kept = subst (AreKept m) (sym (append-nil bytes)) kept }

  -- a beginning of the report of a line
  torn_kept : (k : ℕ) (line bytes : List ℕ) → BeginsReport m k line bytes → BeginKept bytes
  torn_kept k line bytes b =
      let whole : bytes ++ drop (length bytes) b.report ≡ b.report = ap (λ t. t ++ drop (length bytes) b.report) (sym b.begins) ∙ take-append-drop (length bytes) b.report in
      record { more = drop (length bytes) b.report; kept = subst (AreKept m) (sym whole) (line_answer_kept k line b.report b.outcome b.answer) }

  -- what is begun of a line
  line_begun_kept : (n i k : ℕ) (line : List ℕ) (w : Written) → LineBegun m n i k line w → BeginKept w.reports
  line_begun_kept n i k line w b =
      ⊎_elim (λ e. subst BeginKept (sym e) (kept_begins [] (none_kept m))) (λ x. torn_kept k line w.reports x.1) b.said

  -- what is begun of several lines
  pub lines_begun_kept : (n i k : ℕ) (ls : List (List ℕ)) (w : Written) → LinesBegun m n i k ls w → BeginKept w.reports
  lines_begun_kept n i k [] w e = subst BeginKept (sym (ap (λ v. v.reports) e)) (kept_begins [] (none_kept m))
  lines_begun_kept n i k (line ∷ ls) w b =
      ⊎_elim (line_begun_kept n i k line w)
      (λ x.
      let first = x.0 in
      let later = lines_begun_kept n (i + length first.outcomes) (k + 1) ls x.1 x.3 in
      let whole = both_kept m first.reports (x.1.reports ++ later.more) (line_answer_kept k line first.reports x.2.outcome x.2.report) later.kept in
      record {
        more = later.more;
        kept = subst (AreKept m) (sym (append_assoc first.reports x.1.reports later.more) ∙ ap (λ v. v.reports ++ later.more) (sym x.4)) whole;
      }) b

  -- bytes that begin what is kept keep the promise
  pub promised : (bytes : List ℕ) → BeginKept bytes → Promise m bytes
  promised bytes b = covered m l bytes (record {
    lines = b.kept.lines;
    none = b.kept.none;
    keeps = subst (Keeps m) (append-nil b.kept.lines) (b.kept.keeps [] (keeps_none m));
    more = b.more;
    begins = sym b.kept.same;
  })
