-- Lawful fields are what is written of what they say: words, numbers and labels.
use Rattle.std.proofs.Common.{◌≡◌, ℕ, zero, suc, ◌+◌, ◌<◌, Bool, true, false, cond, ◌&&◌, ◌||◌, eqb, leb, ◌⊎◌, List, [], ◌∷◌, length, Some, Option, sym, refl, ap, ◌∙◌, ap₂, inl, inr, ⊎_elim, arith}
use Rattle.std.proofs.lemmas.List.{nil_from_length}
use Rattle.std.proofs.lemmas.Option.{none-some}
use Rattle.std.proofs.lemmas.Bool.{and_parts, or_cases, both_ways, eqb-true, eqb-false, ne_eqb, le-leb, cond-true, cond-false, cases_Bool, and_from, or_from}
use Rattle.text.specs.declared.word.Word.{Word}
use Rattle.text.specs.declared.word.Word.TheVariants.{Mdp, State, Choice, Branch, End}
use Rattle.text.specs.Fields.{between, ascending, dash, lawful_labels, among, letters_from, or_else, labels_text, flags_from, labels_of}
use Rattle.text.specs.Words.{same, spelling, word_of}
pub use Rattle.text.proofs.Ranges.{between_true}

-- bytes that the test calls the same are the same
pub same_true : (xs ys : List ℕ) → same xs ys ≡ true → xs ≡ ys
same_true [] [] e = refl
same_true [] (y ∷ ys) e = absurd (both_ways false refl e)
same_true (x ∷ xs) [] e = absurd (both_ways false refl e)
same_true (x ∷ xs) (y ∷ ys) e =
    let p = and_parts (eqb x y) (same xs ys) e in
    let q = eqb-true x y p.0 in
    let r = same_true xs ys p.1 in
    cc

-- a chain of tests that finds w: the first test passes and gives w, or the rest finds it
some_of : {A : Type 0} (test : Bool) (v w : A) (rest : Option A) → cond test (Some v) rest ≡ Some w → ((test ≡ true) × (v ≡ w)) ⊎ (rest ≡ Some w)
some_of true v w rest e = inl (refl, cc)
some_of false v w rest e = inr e

-- bytes that a word is found in are its spelling
pub word_spelling : (f : List ℕ) (w : Word) → word_of f ≡ Some w → f ≡ spelling w
word_spelling f w e = either Mdp _ (either State _ (either Choice _ (either Branch _ (either End _ (λ n. absurd (none-some w n)))))) e
  where
    either : (v : Word) (rest : Option Word) → (rest ≡ Some w → f ≡ spelling w) → cond (same f (spelling v)) (Some v) rest ≡ Some w → f ≡ spelling w
    either v rest more h = ⊎_elim (λ p. same_true f (spelling v) p.0 ∙ ap spelling p.1) more (some_of _ v w rest h)

-- a letter below ascending ones is not among them
pub not_among : (letter low : ℕ) (cs : List ℕ) → letter < low → ascending low cs ≡ true → among letter cs ≡ false
not_among letter low [] l e = refl
not_among letter low (c ∷ cs) l e =
    let p = and_parts (between low 112 c) _ e in
    let q = between_true low 112 c p.0 in
    or_from (eqb c letter) _ (ne_eqb c letter (omega arith)) (not_among letter (c + 1) cs (omega arith) p.1)

-- a letter below those that are asked for changes no flag
pub flags_below : (letter count c : ℕ) (cs : List ℕ) → c < letter → flags_from letter count (c ∷ cs) ≡ flags_from letter count cs
flags_below letter zero c cs l = refl
flags_below letter (suc count) c cs l =
    let here : among letter (c ∷ cs) ≡ among letter cs = ap (λ t. t || among letter cs) (ne_eqb c letter (omega arith)) in
    let there = flags_below (letter + 1) count c cs (omega arith) in
    cc

-- the flags of ascending letters, up to p, give back the letters
pub letters_flags : (low count : ℕ) (cs : List ℕ) → low + count ≡ 113 → ascending low cs ≡ true → letters_from low (flags_from low count cs) ≡ cs
letters_flags low zero [] e a = refl
letters_flags low (suc count) [] e a = letters_flags (low + 1) count [] (omega arith) refl
letters_flags low zero (c ∷ cs) e a =
    let p = between_true low 112 c (and_parts (between low 112 c) _ a).0 in
    absurd (omega arith)
letters_flags low (suc count) (c ∷ cs) e a =
    let p = and_parts (between low 112 c) _ a in
    let q = between_true low 112 c p.0 in
    elim (cases_Bool (eqb c low)) [
      | inl t ↦
          let h = eqb-true c low t in
          let here : among low (c ∷ cs) ≡ true = ap (λ t. t || among low cs) t in
          let rest : letters_from (low + 1) (flags_from (low + 1) count cs) ≡ cs = letters_flags (low + 1) count cs (omega arith) (ap (λ x. ascending (x + 1) cs) (sym h) ∙ p.1) in
          let skip = flags_below (low + 1) count c cs (omega arith) in
          cond-true (among low (c ∷ cs)) _ _ here ∙ (cc)
      | inr f ↦
          let h = eqb-false c low f in
          let here : among low (c ∷ cs) ≡ false = or_from (eqb c low) _ f (not_among low (c + 1) cs (omega arith) p.1) in
          let above : ascending (low + 1) (c ∷ cs) ≡ true = and_from (between (low + 1) 112 c) _ (and_from (leb (low + 1) c) _ (le-leb _ _ (omega arith)) (le-leb _ _ q.1)) p.1 in
          cond-false (among low (c ∷ cs)) _ _ here ∙ letters_flags (low + 1) count (c ∷ cs) (omega arith) above
    ]

-- there are as many flags as letters that are asked for
pub length_flags : (letter count : ℕ) (bytes : List ℕ) → length (flags_from letter count bytes) ≡ count
length_flags letter zero bytes = refl
length_flags letter (suc count) bytes = ap suc (length_flags (letter + 1) count bytes)

-- a lawful set of labels is the writing of its flags
pub labels_text_of : (w : List ℕ) → lawful_labels w ≡ true → labels_text (labels_of w) ≡ w
labels_text_of [] e = absurd (both_ways false refl e)
labels_text_of (c ∷ cs) e =
    ⊎_elim
    (λ d.
    let p = and_parts (eqb c 45) _ d in
    let bytes : dash ≡ c ∷ cs = ap₂ (λ x xs. x ∷ xs) (sym (eqb-true c 45 p.0)) (sym (nil_from_length cs (eqb-true (length cs) 0 p.1))) in
    ap (λ w. labels_text (labels_of w)) (sym bytes) ∙ bytes)
    (λ a. ap (λ z. or_else z dash) (letters_flags 97 16 (c ∷ cs) refl a))
    (or_cases (eqb c 45 && eqb (length cs) 0) _ e)
