-- A content that is laid out as model text is its text.
use Rattle.std.proofs.Common.{◌≡◌, ℕ, ◌+◌, List, [], ◌∷◌, ◌++◌, length, codes, sym, refl, ap, ◌∙◌, append_assoc, append-nil}
use Rattle.model.specs.Mdp.{Row}
use Rattle.text.specs.Cuts.{spelled}
use Rattle.text.specs.Contents.{State}
use Rattle.text.specs.Texts.{row_lines, choices_lines, states_lines, end_line, text_of}
use Rattle.text.proofs.Joining.{spelled_append}
use Rattle.std.proofs.lemmas.List.FromFn.{length-map-range_with_len}
use Rattle.model.specs.Mdp.{Mdp}
use Rattle.printing.specs.Layouts.{laid, laid_choice, laid_state, laid_states, state_of, model_content}
use Rattle.printing.specs.Listings.{model_text, framed}

-- the branches of a row
row_text : (r : Row) (i : ℕ) → laid model_text.branch i r ≡ spelled (row_lines r)
row_text [] i = refl
row_text (b ∷ bs) i = ap (λ t. model_text.branch i b ++ t) (row_text bs (i + 1)) ∙ simp append_assoc

-- the choices of a state
choices_text : (rs : List Row) (i : ℕ) → laid (laid_choice model_text) i rs ≡ spelled (choices_lines rs)
choices_text [] i = refl
choices_text (r ∷ rs) i = simp (row_text, choices_text rs (i + 1), spelled_append)

-- the states
states_text : (ss : List State) (i : ℕ) → laid (laid_state model_text) i ss ≡ spelled (states_lines ss)
states_text [] i = refl
states_text (s ∷ ss) i = simp (choices_text, states_text ss (i + 1), spelled_append, append_assoc, append-nil)

-- the whole text of a model
pub whole_text : (m : Mdp) (n d : ℕ) (lines : List ℕ) → n ≡ m.states → d ≡ m.denominator → lines ≡ laid_states model_text (model_content m).states → framed n d lines ≡ text_of (model_content m)
whole_text m n d lines e f h =
    let c = model_content m in
    let count : n ≡ length c.states = e ∙ sym (length-map-range_with_len (state_of m) 0 m.states) in
    let body : laid_states model_text c.states ++ codes "end\n" ≡ spelled (states_lines c.states ++ (end_line ∷ [])) = ap (λ t. t ++ codes "end\n") (states_text c.states 0) ∙ sym (spelled_append (states_lines c.states) (end_line ∷ [])) in
    ap (λ k. framed k d lines) count ∙ ap (λ k. framed (length c.states) k lines) f ∙ ap (λ t. framed (length c.states) c.denominator t) h
    ∙ simp (body, append_assoc)
