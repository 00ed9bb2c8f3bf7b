-- A text that is not refused describes the content that its lines tell.
use Rattle.std.proofs.Common.{◌≡◌, ℕ, ◌+◌, ◌-◌, ◌≤◌, true, false, eqb, leb, List, [], ◌∷◌, ◌++◌, length, get_or, Some, None, sym, refl, ap, ◌∙◌, subst, ap₂, arith, lit<}
use Rattle.std.proofs.lemmas.Bool.{both_ways, eqb-true, leb-true}
use Rattle.std.proofs.lemmas.Option.{none-some}
use Rattle.model.specs.Mdp.{Each, Lawful}
use Rattle.text.specs.declared.word.Word.{Word}
use Rattle.text.specs.declared.word.Word.TheVariants as word
use Rattle.text.specs.Cuts.{Line, lines, spelled}
use Rattle.text.specs.Words.{listed}
use Rattle.text.specs.Contents.{Content, model_of, all_choices, all_branches}
use Rattle.text.specs.Texts.{end_line, row_lines, choices_lines, states_lines, content_lines, text_of, header_line, Describes}
use Rattle.text.specs.Questions.{word, number}
use Rattle.text.specs.Refusals.{lines_refusal, refusal}
use Rattle.text_laws.proofs.Nest.{Nested, nest_line, nest, content_of}
use Rattle.text_laws.proofs.States.{LawfulState, lawful_content}
use Rattle.text_laws.proofs.SoundAsks.{ask_next_none, or_next_none, passes}
use Rattle.text_laws.proofs.SoundCuts.{spelled_lines}
use Rattle.text_laws.proofs.SoundLines.{some_word, IsHeader, is_header}
use Rattle.text_laws.proofs.SoundRest.{Rest, count_more, rest}

-- what is said of lines that tell a content: they are its lines, and it is within the limits
abbrev pub Told : List Line → Content → Type 0
Told ls c = (ls ≡ content_lines c) × Lawful (model_of c) × (length (all_choices c.states) ≤ 2048) × (length (all_branches (all_choices c.states)) ≤ 4096)

-- a header and lines after it that tell states
told_from : (l : Line) (ls : List Line) (n : Nested) → word l ≡ Some word.Mdp → IsHeader l → Rest word.Mdp (l ∷ []) ls n → Told (l ∷ ls) (record { denominator = number 2 l; states = n.states })
told_from l ls n e h r =
    let none : 0 + length n.states ≡ number 1 l = ap (λ k. k + length n.states) (sym (count_more word.State word.Mdp l [] e)) ∙ r.all_states in
    let all : number 1 l ≡ length n.states = omega (arith, none) in
    let few : length (all_choices n.states) ≤ 2048 = omega (arith, r.few_choices) in (
      ap₂ (λ x xs. x ∷ xs) (h.line ∙ ap (λ k. header_line k (number 2 l)) all) (r.told ∙ ap₂ (λ row rows. row_lines row ++ (choices_lines rows ++ (states_lines n.states ++ (end_line ∷ [])))) r.row_fits r.rows_fit),
      lawful_content (record { denominator = number 2 l; states = n.states }) (omega (arith, h.states)) h.denominator few (subst (λ k. Each (LawfulState k (number 2 l)) n.states) all r.states),
      few,
      omega (arith, r.few_branches),
    )

-- the first word is `mdp`
first_word : (w : Word) → listed w (word.Mdp ∷ []) ≡ true → w ≡ word.Mdp
first_word word.Mdp h = refl
first_word word.State h = absurd (both_ways false refl h)
first_word word.Choice h = absurd (both_ways false refl h)
first_word word.Branch h = absurd (both_ways false refl h)
first_word word.End h = absurd (both_ways false refl h)

-- lines that no question refuses are the lines of the content that they tell, and that is within the limits
pub sound : (ls : List Line) → lines_refusal [] 1 ls ≡ None → Told ls (content_of ls)
sound [] f = absurd (none-some _ (sym f))
sound (l ∷ ls) f =
    let p = passes [] 1 l ls f in
    let s = some_word (word.Mdp ∷ []) (word l) p.0.word in
    let e : word l ≡ Some word.Mdp = s.1 ∙ ap (λ w. Some w) (first_word s.0 s.2) in
    subst (λ n. Told (l ∷ ls) (record { denominator = number 2 l; states = n.states })) (ap (λ o. nest_line o l (nest ls)) (sym e))
    (told_from l ls (nest ls) e (is_header [] l e p.0) (rest word.Mdp l [] 2 ls e (lit< tt) p.1))

-- a text that is not refused describes the content that its lines tell
pub describes : (text : List ℕ) → refusal text ≡ None → Describes text (content_of (lines text))
describes text e =
    let short = ask_next_none (leb (length text) 65536) _ _ e in
    let ended = ask_next_none (eqb (get_or text (length text - 1) 0) 10) _ _ short.1 in
    let t = sound (lines text) (or_next_none (lines_refusal [] 1 (lines text)) None ended.1).0 in
    let same : text ≡ text_of (content_of (lines text)) = sym (spelled_lines text (eqb-true _ 10 ended.0)) ∙ ap spelled t.0 in
    record {
      within = record { lawful = t.1; few_choices = t.2; few_branches = t.3; short = subst (λ bytes. length bytes ≤ 65536) same (leb-true _ _ short.0) };
      is = same;
    }
