-- Bytes that are cut: at a byte, into lines, and into words between blanks.
use Rattle.std.proofs.Common.{◌≡◌, ◌≢◌, ℕ, zero, suc, ◌+◌, ◌<◌, eqb, ltb, inl, inr, List, [], ◌∷◌, ◌++◌, length, get_or, replicate, sym, refl, ap, ◌∙◌, append_assoc, append-nil, arith}
use Rattle.std.specs.Prelude.{All, filter}
use Rattle.std.specs.List.{onto_first}
use Rattle.std.proofs.lemmas.Bool.{cases_Bool, cond-true, cond-false, ne_eqb, eq-eqb, lt-ltb}
use Rattle.std.proofs.lemmas.List.Elements.{All-head, All-tail}
use Rattle.model.specs.Mdp.{Each}
use Rattle.text.specs.Cuts.{pieces, piece}
use Rattle.text.proofs.Cutting.{some_piece}
use Rattle.limits_text.specs.Promise.{words}

-- a text has no byte of this value
abbrev pub Lacks : ℕ → List ℕ → Type 0
Lacks sep text = All (λ b. b ≢ sep) text

module _ (sep : ℕ) where
  -- a byte that does not part goes onto the first piece
  onto : (b : ℕ) (bytes : List ℕ) → b ≢ sep → pieces sep (b ∷ bytes) ≡ onto_first b (pieces sep bytes)
  onto b bytes other = cond-false (eqb b sep) _ _ (ne_eqb b sep other)

  -- the piece before the first byte that parts is the first one
  pub pieces_parted : (front bytes : List ℕ) → Lacks sep front → pieces sep (front ++ (sep ∷ bytes)) ≡ front ∷ pieces sep bytes
  pieces_parted [] bytes none = cond-true (eqb sep sep) _ _ (eq-eqb sep sep refl)
  pieces_parted (b ∷ front) bytes none =
      onto b (front ++ (sep ∷ bytes)) (All-head (λ x. x ≢ sep) b front none)
      ∙ ap (onto_first b) (pieces_parted front bytes (All-tail (λ x. x ≢ sep) b front none))

  -- where none parts, all is one piece
  pub pieces_whole : (bytes : List ℕ) → Lacks sep bytes → pieces sep bytes ≡ bytes ∷ []
  pieces_whole [] none = refl
  pieces_whole (b ∷ bytes) none =
      onto b bytes (All-head (λ x. x ≢ sep) b bytes none) ∙ ap (onto_first b) (pieces_whole bytes (All-tail (λ x. x ≢ sep) b bytes none))

  -- a byte onto the first piece leaves how many there are, and those behind it
  onto_length : (b : ℕ) (ps : List (List ℕ)) → 0 < length ps → length (onto_first b ps) ≡ length ps
  onto_length b [] some = absurd (omega arith)
  onto_length b (p ∷ ps) some = refl

  onto_behind : (b i : ℕ) (ps : List (List ℕ)) → get_or (onto_first b ps) (suc i) [] ≡ get_or ps (suc i) []
  onto_behind b i [] = refl
  onto_behind b i (p ∷ ps) = refl

  -- onto equal first pieces it gives equal ones
  onto_first_piece : (b : ℕ) (ps qs : List (List ℕ)) → 0 < length ps → 0 < length qs → get_or ps 0 [] ≡ get_or qs 0 [] → get_or (onto_first b ps) 0 [] ≡ get_or (onto_first b qs) 0 []
  onto_first_piece b [] qs some some' e = absurd (omega arith)
  onto_first_piece b (p ∷ ps) [] some some' e = absurd (omega arith)
  onto_first_piece b (p ∷ ps) (q ∷ qs) some some' e = ap (λ x. b ∷ x) e

  -- a piece that is ended stays the same where more follows, and there are no fewer pieces
  pub record StaysPiece (bytes more : List ℕ) (i : ℕ) : Type 0 where
    pub same : piece sep i (bytes ++ more) ≡ piece sep i bytes
    pub ended : i + 1 < length (pieces sep (bytes ++ more))

  pub piece_stays : (bytes more : List ℕ) (i : ℕ) → i + 1 < length (pieces sep bytes) → StaysPiece bytes more i
  piece_stays [] more i ended = absurd (omega arith)
  piece_stays (b ∷ bytes) more i ended = elim (cases_Bool (eqb b sep)) [
    | inl parts ↦ parted i ended (cond-true (eqb b sep) _ _ parts) (cond-true (eqb b sep) _ _ parts) (λ j h. piece_stays bytes more j h)
    | inr other ↦ carried i ended (cond-false (eqb b sep) _ _ other) (cond-false (eqb b sep) _ _ other) (λ j h. piece_stays bytes more j h)
  ]
    where
      parted : (j : ℕ) → j + 1 < length (pieces sep (b ∷ bytes)) → pieces sep (b ∷ bytes) ≡ [] ∷ pieces sep bytes → pieces sep (b ∷ (bytes ++ more)) ≡ [] ∷ pieces sep (bytes ++ more) →
          ((k : ℕ) → k + 1 < length (pieces sep bytes) → StaysPiece bytes more k) → StaysPiece (b ∷ bytes) more j
      parted zero h e f rest = record {
        same = ap (λ ps. get_or ps 0 []) f ∙ sym (ap (λ ps. get_or ps 0 []) e);
        ended = omega (arith, ap length f, some_piece sep (bytes ++ more));
      }
      parted (suc k) h e f rest =
          let stays = rest k (omega (arith, h, ap length e)) in
          record {
            same = ap (λ ps. get_or ps (suc k) []) f ∙ stays.same ∙ sym (ap (λ ps. get_or ps (suc k) []) e);
            ended = omega (arith, ap length f, stays.ended);
          }

      carried : (j : ℕ) → j + 1 < length (pieces sep (b ∷ bytes)) → pieces sep (b ∷ bytes) ≡ onto_first b (pieces sep bytes) → pieces sep (b ∷ (bytes ++ more)) ≡ onto_first b (pieces sep (bytes ++ more)) →
          ((k : ℕ) → k + 1 < length (pieces sep bytes) → StaysPiece bytes more k) → StaysPiece (b ∷ bytes) more j
      carried j h e f rest =
          let own = onto_length b (pieces sep bytes) (some_piece sep bytes) in
          let all = onto_length b (pieces sep (bytes ++ more)) (some_piece sep (bytes ++ more)) in
          let stays = rest j (omega (arith, h, ap length e, own)) in
          record {
            same = ap (λ ps. get_or ps j []) f ∙ here j stays.same ∙ sym (ap (λ ps. get_or ps j []) e);
            ended = omega (arith, ap length f, all, stays.ended);
          }
        where
          here : (k : ℕ) → piece sep k (bytes ++ more) ≡ piece sep k bytes → get_or (onto_first b (pieces sep (bytes ++ more))) k [] ≡ get_or (onto_first b (pieces sep bytes)) k []
          here zero same = onto_first_piece b (pieces sep (bytes ++ more)) (pieces sep bytes) (some_piece sep (bytes ++ more)) (some_piece sep bytes) same
          here (suc k) same = onto_behind b k (pieces sep (bytes ++ more)) ∙ same ∙ sym (onto_behind b k (pieces sep bytes))

-- lines, each ended by an LF
abbrev pub ended : List (List ℕ) → List ℕ
ended [] = []
ended (line ∷ lines) = line ++ (10 ∷ ended lines)

-- lines behind lines
pub ended-append : (ls ks : List (List ℕ)) → ended (ls ++ ks) ≡ ended ls ++ ended ks
ended-append [] ks = refl
ended-append (l ∷ ls) ks = ap (λ t. l ++ (10 ∷ t)) (ended-append ls ks) ∙ sym (append_assoc l (10 ∷ ended ls) (ended ks))

-- they are the pieces of their bytes, and what follows is cut on its own
pub pieces_ended : (ls : List (List ℕ)) (bytes : List ℕ) → Each (Lacks 10) ls → pieces 10 (ended ls ++ bytes) ≡ ls ++ pieces 10 bytes
pieces_ended [] bytes none = refl
pieces_ended (l ∷ ls) bytes none =
    ap (pieces 10) (append_assoc l (10 ∷ ended ls) bytes) ∙ pieces_parted 10 l (ended ls ++ bytes) none.0 ∙ ap (λ ps. l ∷ ps) (pieces_ended ls bytes none.1)

-- a word that no blank is part of, and a blank behind it
pub word_parted : (word bytes : List ℕ) → Lacks 32 word → 0 < length word → words (word ++ (32 ∷ bytes)) ≡ word ∷ words bytes
word_parted word bytes none some =
    ap (filter (λ w. ltb 0 (length w))) (pieces_parted 32 word bytes none)
    ∙ cond-true (ltb 0 (length word)) _ _ (lt-ltb 0 (length word) some)

-- a word that stands alone
pub word_alone : (word : List ℕ) → Lacks 32 word → 0 < length word → words word ≡ word ∷ []
word_alone word none some =
    ap (filter (λ w. ltb 0 (length w))) (pieces_whole 32 word none)
    ∙ cond-true (ltb 0 (length word)) _ _ (lt-ltb 0 (length word) some)

-- blanks in front are passed over
pub words_after_blanks : (n : ℕ) (bytes : List ℕ) → words (replicate n 32 ++ bytes) ≡ words bytes
words_after_blanks zero bytes = refl
words_after_blanks (suc n) bytes = words_after_blanks n bytes

-- a word, blanks, and more behind them
pub word_and_blanks : (word : List ℕ) (n : ℕ) (bytes : List ℕ) → Lacks 32 word → 0 < length word →
    words ((word ++ replicate n 32) ++ (32 ∷ bytes)) ≡ word ∷ words bytes
word_and_blanks word zero bytes none some = ap (λ w. words (w ++ (32 ∷ bytes))) (append-nil word) ∙ word_parted word bytes none some
word_and_blanks word (suc n) bytes none some =
    ap words (append_assoc word (32 ∷ replicate n 32) (32 ∷ bytes))
    ∙ word_parted word (replicate n 32 ++ (32 ∷ bytes)) none some
    ∙ ap (λ ws. word ∷ ws) (words_after_blanks n (32 ∷ bytes))
