-- Cutting the text of a content gives its lines back.
use Rattle.std.proofs.Common.{◌≡◌, ℕ, ◌-◌, ◌^◌, ◌<◌, ◌≤◌, eqb, List, [], ◌∷◌, ◌++◌, length, get_or, sym, refl, ap, ◌∙◌, ap₂, arith}
use Rattle.std.proofs.lemmas.List.{append_assoc, get_or_push, length_push}
use Rattle.std.proofs.lemmas.Bool.{cond-true, cond-false, eq-eqb, ne_eqb}
use Rattle.model.specs.Mdp.{Row, Each}
use Rattle.model.proofs.Lists.{each_map, each_append}
use Rattle.std.specs.List.{onto_first}
use Rattle.text.specs.Cuts.{Line, cut, fields, each_fields, lines, parted, spelled}
use Rattle.text.specs.Contents.{State, Content}
use Rattle.text.specs.Texts.{end_line, row_lines, choices_lines, states_lines, content_lines, text_of, Within}
use Rattle.text_laws.proofs.States.{LawfulState, lawful_states, Small, small_rows}
use Rattle.text_laws.proofs.CompleteFields.{Visible, visible_decimal, visible_labels}

-- the bytes do not contain this one
abbrev Lacks : ℕ → List ℕ → Type 0
Lacks sep bytes = Each (λ c. c ≡ sep → ⊥) bytes

-- a piece before a separator is cut off
cut_front : (sep : ℕ) (last : List (List ℕ)) (xs rest : List ℕ) → Lacks sep xs → cut sep last (xs ++ (sep ∷ rest)) ≡ xs ∷ cut sep last rest
cut_front sep last [] rest h = cond-true (eqb sep sep) _ _ (eq-eqb sep sep refl)
cut_front sep last (x ∷ xs) rest h = cond-false (eqb x sep) _ _ (ne_eqb x sep h.0) ∙ ap (onto_first x) (cut_front sep last xs rest h.1)

-- what has no separator is one piece
cut_none : (sep : ℕ) (xs : List ℕ) → Lacks sep xs → cut sep ([] ∷ []) xs ≡ xs ∷ []
cut_none sep [] h = refl
cut_none sep (x ∷ xs) h = cond-false (eqb x sep) _ _ (ne_eqb x sep h.0) ∙ ap (onto_first x) (cut_none sep xs h.1)

-- a line with at least one field, each of which is visible
abbrev pub Clean : Line → Type 0
Clean line = (1 ≤ length line) × Each (Each Visible) line

-- visible bytes are neither a tab nor an LF
visible_lacks : (sep : ℕ) (bytes : List ℕ) → sep ≤ 10 → Each Visible bytes → Lacks sep bytes
visible_lacks sep bytes h v = each_map Visible (λ c. c ≡ sep → ⊥) (λ c k. omega arith) bytes v

-- the bytes of a clean line give its fields back
fields_parted : (l : Line) → Clean l → fields (parted l) ≡ l
fields_parted [] h = absurd (omega (arith, h.0))
fields_parted (f ∷ []) h = cut_none 9 f (visible_lacks 9 f (omega arith) h.1.0)
fields_parted (f ∷ g ∷ fs) h =
    cut_front 9 ([] ∷ []) f (parted (g ∷ fs)) (visible_lacks 9 f (omega arith) h.1.0) ∙ ap (λ z. f ∷ z) (fields_parted (g ∷ fs) (omega arith, h.1.1))

-- the bytes of a clean line have no LF
parted_lacks : (l : Line) → Each (Each Visible) l → Lacks 10 (parted l)
parted_lacks [] h = tt
parted_lacks (f ∷ []) h = visible_lacks 10 f (omega arith) h.0
parted_lacks (f ∷ g ∷ fs) h =
    each_append (λ c. c ≡ 10 → ⊥) f (9 ∷ parted (g ∷ fs)) (visible_lacks 10 f (omega arith) h.0) (omega arith, parted_lacks (g ∷ fs) h.1)

-- the bytes of clean lines give the lines back
pub lines_clean : (ls : List Line) → Each Clean ls → lines (spelled ls) ≡ ls
lines_clean [] h = refl
lines_clean (l ∷ ls) h =
    ap each_fields (cut_front 10 [] (parted l) (spelled ls) (parted_lacks l h.0.1)) ∙ ap₂ ◌∷◌ (fields_parted l h.0) (lines_clean ls h.1)

-- the lines of a row of small branches are clean
clean_row : (r : Row) → Each Small r → Each Clean (row_lines r)
clean_row [] h = tt
clean_row (b ∷ bs) h =
    let letter : Each Visible (98 ∷ []) = (omega arith, tt) in
    ((omega arith, (letter, (visible_decimal b.target h.0.target, (visible_decimal b.weight h.0.weight, tt)))), clean_row bs h.1)

-- so are the lines of a state's choices
clean_choices : (rs : List Row) → Each (Each Small) rs → Each Clean (choices_lines rs)
clean_choices [] h = tt
clean_choices (r ∷ rs) h = (omega arith, each_append Clean (row_lines r) (choices_lines rs) (clean_row r h.0) (clean_choices rs h.1))

-- and those of states
clean_states : (n d : ℕ) (ss : List State) → n < 10 ^ 7 → d < 10 ^ 7 → Each (LawfulState n d) ss → Each Clean (states_lines ss)
clean_states n d [] few_states few_units h = tt
clean_states n d (s ∷ ss) few_states few_units h =
    let letter : Each Visible (115 ∷ []) = (omega arith, tt) in
    ((omega arith, (letter, (visible_labels s.labels, tt))), each_append Clean (choices_lines s.choices) (states_lines ss) (clean_choices s.choices (small_rows n d s few_states few_units h.0)) (clean_states n d ss few_states few_units h.1))

-- the lines of a content within the limits are clean
clean_content : (c : Content) → Within c → Each Clean (content_lines c)
clean_content c h =
    let few_states : length c.states < 10 ^ 7 = omega (arith, h.lawful.few_states) in
    let few_units : c.denominator < 10 ^ 7 = omega (arith, h.lawful.few_units) in
    let letters : Each Visible (109 ∷ 100 ∷ 112 ∷ []) = omega arith in
    let states = clean_states (length c.states) c.denominator c.states few_states few_units (lawful_states c h.lawful) in
    ((omega arith, (letters, (visible_decimal (length c.states) few_states, (visible_decimal c.denominator few_units, tt)))), each_append Clean (states_lines c.states) (end_line ∷ []) states (omega arith))

-- the text of a content within the limits is cut into its lines
pub lines_spelled : (c : Content) → Within c → lines (text_of c) ≡ content_lines c
lines_spelled c h = lines_clean (content_lines c) (clean_content c h)

-- the bytes of lines end with an LF
ended : (ls : List Line) → 1 ≤ length ls → (front : List ℕ) × (spelled ls ≡ front ++ (10 ∷ []))
ended [] h = absurd (omega (arith, h))
ended (l ∷ []) h = (parted l, refl)
ended (l ∷ k ∷ ls) h =
    let more = ended (k ∷ ls) (omega arith) in
    (parted l ++ (10 ∷ more.0), ap (λ z. parted l ++ (10 ∷ z)) more.1 ∙ sym (append_assoc (parted l) (10 ∷ more.0) (10 ∷ [])))

-- so the last byte of a content's text is an LF
pub text_ended : (c : Content) → get_or (text_of c) (length (text_of c) - 1) 0 ≡ 10
text_ended c =
    let whole = ended (content_lines c) (omega arith) in
    let front = whole.0 in
    ap (λ t. get_or t (length t - 1) 0) whole.1 ∙ get_or_push front 10 0 (length (front ++ (10 ∷ [])) - 1) (omega (arith, length_push front 10))
