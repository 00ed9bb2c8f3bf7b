-- What a line that has passed is, by its word.
use Rattle.std.proofs.Common.{◌≡◌, ℕ, ◌+◌, ◌<◌, ◌≤◌, Bool, true, false, cond, ltb, List, [], ◌∷◌, length, Some, None, decimal, Option, sym, refl, ap, ◌∙◌, arith}
use Rattle.std.proofs.lemmas.Bool.{and_parts, both_ways, eqb-true, ltb-true, cond-true}
use Rattle.text.specs.declared.word.Word.{Word}
use Rattle.text.specs.declared.word.Word.TheVariants.{Mdp, State, Choice, Branch, End}
use Rattle.text.specs.Cuts.{Line, field}
use Rattle.text.specs.Fields.{between, labels_of}
use Rattle.text.specs.Words.{spelling, listed, one_of, arity}
use Rattle.text.specs.Texts.{header_line, state_line, choice_line, branch_line, end_line}
use Rattle.text.specs.Questions.{word, number, is, on, states_given, count, above_last, counted, fields_fit}
use Rattle.text_laws.proofs.Nest.{branch_of}
use Rattle.text_laws.proofs.Fits.{Fits}
use Rattle.text_laws.proofs.SoundFields.{between_true, word_spelling, labels_text_of}
use Rattle.text.proofs.Digits.{decimal_amount}

-- what is one of some words is a word, and among them
pub some_word : (ws : List Word) (o : Option Word) → one_of ws o ≡ true → (w : Word) × (o ≡ Some w) × (listed w ws ≡ true)
some_word ws None e = absurd (both_ways false refl e)
some_word ws (Some w) e = (w, refl, e)

-- the answer to a question that concerns the line
pub on_true : (ws : List Word) (l : Line) (answer : Bool) (w : Word) → word l ≡ Some w → listed w ws ≡ true → on ws l answer ≡ true → answer ≡ true
on_true ws l answer w e h t = sym (cond-true (is ws l) answer true (ap (one_of ws) e ∙ h)) ∙ t

-- a line of one field is the list of it
one_field : (l : Line) → length l ≡ 1 → l ≡ field 0 l ∷ []
one_field [] e = absurd (omega arith)
one_field (a ∷ []) e = refl
one_field (a ∷ b ∷ l) e = absurd (omega arith)

-- a line of two fields is the list of them
two_fields : (l : Line) → length l ≡ 2 → l ≡ field 0 l ∷ field 1 l ∷ []
two_fields [] e = absurd (omega arith)
two_fields (a ∷ []) e = absurd (omega arith)
two_fields (a ∷ b ∷ []) e = refl
two_fields (a ∷ b ∷ c ∷ l) e = absurd (omega arith)

-- a line of three fields is the list of them
three_fields : (l : Line) → length l ≡ 3 → l ≡ field 0 l ∷ field 1 l ∷ field 2 l ∷ []
three_fields [] e = absurd (omega arith)
three_fields (a ∷ []) e = absurd (omega arith)
three_fields (a ∷ b ∷ []) e = absurd (omega arith)
three_fields (a ∷ b ∷ c ∷ []) e = refl
three_fields (a ∷ b ∷ c ∷ d ∷ l) e = absurd (omega arith)

-- a line has as many fields as its word asks
fields_of : (l : Line) (w : Word) → word l ≡ Some w → fields_fit l ≡ true → length l ≡ arity w
fields_of l w e t = eqb-true (length l) (arity w) (ap (λ o. counted o (length l)) (sym e) ∙ t)

-- a line of a word and two numbers is written from them
two_numbers : (before : List Line) (l : Line) (w : Word) → word l ≡ Some w → listed w (Mdp ∷ Branch ∷ []) ≡ true → arity w ≡ 3 → Fits before l → l ≡ spelling w ∷ decimal (number 1 l) ∷ decimal (number 2 l) ∷ []
two_numbers before l w e h three p =
    let f0 = word_spelling (field 0 l) w e in
    let f1 = decimal_amount 7 (field 1 l) (omega arith) (on_true (Mdp ∷ Branch ∷ []) l _ w e h p.first_number) in
    let f2 = decimal_amount 7 (field 2 l) (omega arith) (on_true (Mdp ∷ Branch ∷ []) l _ w e h p.second_number) in
    let f = three_fields l (fields_of l w e p.fields ∙ three) in
    cc

-- the least target that the open row may go on with: one above the last
abbrev pub lowest : List Line → ℕ
lowest [] = 0
lowest (l ∷ before) = cond (is (Branch ∷ []) l) (number 1 l + 1) 0

-- a target above the last is at least the lowest that may come
above_lowest : (before : List Line) (target : ℕ) → above_last before target ≡ true → lowest before ≤ target
above_lowest [] target e = omega arith
above_lowest (l ∷ before) target e = go (is (Branch ∷ []) l) e
  where
    go : (b : Bool) → cond b (ltb (number 1 l) target) true ≡ true → cond b (number 1 l + 1) 0 ≤ target
    go true t = omega (arith, ltb-true (number 1 l) target t)
    go false t = omega arith

-- a header: its line, and that its numbers are in range
pub record IsHeader (l : Line) : Type 0 where
  pub line : l ≡ header_line (number 1 l) (number 2 l)
  pub states : (1 ≤ number 1 l) × (number 1 l ≤ 512)
  pub denominator : (1 ≤ number 2 l) × (number 2 l ≤ 1000000)

-- a header that has passed is one
pub is_header : (before : List Line) (l : Line) → word l ≡ Some Mdp → Fits before l → IsHeader l
is_header before l e p =
    let r = and_parts (between 1 512 (number 1 l)) _ (on_true (Mdp ∷ []) l _ Mdp e refl (and_parts (on (Mdp ∷ []) l _) _ p.range).0) in
    record {
      line = two_numbers before l Mdp e refl refl p;
      states = between_true 1 512 (number 1 l) r.0;
      denominator = between_true 1 1000000 (number 2 l) r.1;
    }

-- a line that opens a state, while the header has states left
pub record IsState (before : List Line) (l : Line) : Type 0 where
  pub line : l ≡ state_line (labels_of (field 1 l))
  pub left : count State before < states_given before

-- a state's line that has passed is one
pub is_state : (before : List Line) (l : Line) → word l ≡ Some State → Fits before l → IsState before l
is_state before l e p =
    let f0 = word_spelling (field 0 l) State e in
    let f1 = labels_text_of (field 1 l) (on_true (State ∷ []) l _ State e refl p.labels) in
    let f = two_fields l (fields_of l State e p.fields) in
    record {
      line = cc;
      left = ltb-true _ _ (on_true (State ∷ []) l _ State e refl p.states);
    }

-- a line that opens a choice, of which there are few
pub record IsChoice (before : List Line) (l : Line) : Type 0 where
  pub line : l ≡ choice_line
  pub few : count Choice before < 2048

-- a choice's line that has passed is one
pub is_choice : (before : List Line) (l : Line) → word l ≡ Some Choice → Fits before l → IsChoice before l
is_choice before l e p = record {
  line = one_field l (fields_of l Choice e p.fields) ∙ ap (λ f. f ∷ []) (word_spelling (field 0 l) Choice e);
  few = ltb-true _ _ (on_true (Choice ∷ []) l _ Choice e refl p.choices);
}

-- a branch, of which there are few: its target is a state and above the last, and its weight is something
pub record IsBranch (before : List Line) (l : Line) : Type 0 where
  pub line : l ≡ branch_line (branch_of l)
  pub state : number 1 l < states_given before
  pub above : lowest before ≤ number 1 l
  pub some : 1 ≤ number 2 l
  pub few : count Branch before < 4096

-- a branch's line that has passed is one
pub is_branch : (before : List Line) (l : Line) → word l ≡ Some Branch → Fits before l → IsBranch before l
is_branch before l e p =
    let r = and_parts (ltb (number 1 l) (states_given before)) _ (on_true (Branch ∷ []) l _ Branch e refl (and_parts (on (Mdp ∷ []) l _) _ p.range).1) in
    record {
      line = two_numbers before l Branch e refl refl p;
      state = ltb-true _ _ r.0;
      above = above_lowest before (number 1 l) (on_true (Branch ∷ []) l _ Branch e refl p.order);
      some = (between_true 1 _ (number 2 l) r.1).0;
      few = ltb-true _ _ (on_true (Branch ∷ []) l _ Branch e refl p.branches);
    }

-- the end, with all states there
pub record IsEnd (before : List Line) (l : Line) : Type 0 where
  pub line : l ≡ end_line
  pub all : count State before ≡ states_given before

-- an end that has passed is one
pub is_end : (before : List Line) (l : Line) → word l ≡ Some End → Fits before l → IsEnd before l
is_end before l e p = record {
  line = one_field l (fields_of l End e p.fields) ∙ ap (λ f. f ∷ []) (word_spelling (field 0 l) End e);
  all = eqb-true _ _ (on_true (End ∷ []) l _ End e refl p.complete);
}
