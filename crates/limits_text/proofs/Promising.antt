-- Lines that keep the promise: each row of a formula's table among them means what it says.
use Rattle.std.proofs.Common.{◌≡◌, ◌≢◌, ℕ, inl, inr, zero, suc, ◌+◌, ◌<◌, ◌≤◌, Bool, true, false, eqb, leb, ◌&&◌, ◌||◌, List, [], ◌∷◌, ◌++◌, length, get_or, Some, None, Option, codes, decimal, sym, refl, ap, ◌∙◌, subst, append-nil, zero-add, length-append, arith}
use Rattle.std.proofs.lemmas.Bool.{cases_Bool, cond_both, both_ways, eqb-true, or_right, and_from, le-leb}
use Rattle.std.proofs.lemmas.Fmt.{decimal_injective}
use Rattle.std.proofs.lemmas.List.{get_or_append_left}
use Rattle.model.specs.Mdp.{Mdp, Lawful, Each}
use Rattle.model.proofs.Lists.{each_append}
use Rattle.theory.specs.Mixes.{whole}
use Rattle.theory.specs.Ends.{held, lower, upper, next_lower, next_upper}
use Rattle.theory.specs.Formulas.{Comparison, below, at_most, above, at_least, Formula, truth, label, negation, conjunction, probability, next, until_within, until}
use Rattle.theory.specs.Verdicts.{asked}
use Rattle.theory.proofs.WithoutSteps.{held_lawful}
use Rattle.theory.specs.Found.{verdicts, TwoEnds, ends_of, BoundsFormula}
use Rattle.theory.proofs.Judge.{formula_ends_bound}
use Rattle.theory.proofs.Near.{one_set}
use Rattle.theory.proofs.Rounds.{first_allowed}
use Rattle.text.specs.Cuts.{pieces}
use Rattle.grammar.specs.Spelling.{print, Spelled}
use Rattle.grammar.proofs.Readings.{one_reading}
use Rattle.trial.specs.Judging.{row_of}
use Rattle.trial.specs.Meanings.{ByteMeans}
use Rattle.trial.proofs.Meanings.{row_means}
use Rattle.trial.proofs.Evaluation.{row_length}
use Rattle.trial.proofs.PathRows.{end_within}
use Rattle.rules.specs.declared.preference.Preference.{Preference}
use Rattle.rules.specs.declared.preference.Preference.TheVariants.{Greater, Lesser}
use Rattle.rules.specs.declared.rounding.Rounding.TheVariants.{Down, Up}
use Rattle.rules.specs.Parts.{prefers_number}
use Rattle.limits_text.specs.Outcomes.{counts_of}
use Rattle.limits_text.specs.Tables.{verdict_word, units_at}
use Rattle.limits_text.specs.Reports.{formula_report}
use Rattle.limits_text.proofs.Printable.{print_graphic}
use Rattle.limits_text.specs.Promise.{IsHeading, HasLine, RowPromise, Promise}
use Rattle.limits_text.proofs.Pieces.{Lacks, piece_stays, ended, pieces_ended}
use Rattle.limits_text.proofs.StateLines.{end_words, row_of_state, row_words, heading_line, counts_line, rows_from, rows_length, row_there, lines_behind, report_ended, report_lacks, lacks_low}

-- two texts with another first byte are two
others : (xs ys : List ℕ) → get_or xs 0 0 ≢ get_or ys 0 0 → xs ≢ ys
others xs ys other e = other (ap (λ text. get_or text 0 0) e)

-- the word `yes` is that of the byte 1 alone
yes_byte : (b : ℕ) → verdict_word b ≡ codes "yes" → b ≡ 1
yes_byte b e =
    elim (cases_Bool (eqb b 1)) [
      | inl one ↦ eqb-true b 1 one
      | inr other ↦ absurd (cond_both (eqb b 0) _ _ (λ word. word ≢ codes "yes")
          (λ none. others _ _ (omega arith))
          (λ some. cond_both (eqb b 1) _ _ (λ word. word ≢ codes "yes") (λ one. absurd (both_ways (eqb b 1) other one)) (λ two. others _ _ (omega arith))) e)
    ]

-- the word `no` is that of the byte 0 alone
no_byte : (b : ℕ) → verdict_word b ≡ codes "no" → b ≡ 0
no_byte b e =
    elim (cases_Bool (eqb b 0)) [
      | inl none ↦ eqb-true b 0 none
      | inr other ↦ absurd (cond_both (eqb b 0) _ _ (λ word. word ≢ codes "no")
          (λ none. absurd (both_ways (eqb b 0) other none))
          (λ some. cond_both (eqb b 1) _ _ (λ word. word ≢ codes "no") (λ one. others _ _ (omega arith)) (λ two. others _ _ (omega arith))) e)
    ]

-- two ends are parts of the whole, if there are any
abbrev pub FewUnits : Option (ℕ × ℕ) → Type 0
FewUnits None = Unit {0}
FewUnits (Some ends) = (ends.0 ≤ whole) × (ends.1 ≤ whole)

-- the preference that a comparison is decided by
preferred : Comparison → Preference
preferred below = Greater
preferred at_most = Greater
preferred above = Lesser
preferred at_least = Lesser

-- it is the one that is asked for
asked_preferred : (c : Comparison) → prefers_number (preferred c) ≡ asked c
unfolding preferred
asked_preferred below = refl
asked_preferred at_most = refl
asked_preferred above = refl
asked_preferred at_least = refl

-- the ends of a formula are parts of the whole
ends_few : (m : Mdp) → Lawful m → (f : Formula) (s : ℕ) → s < m.states → FewUnits (units_at (ends_of m f) s)
ends_few m l truth s h = tt
ends_few m l (label i) s h = tt
ends_few m l (negation f) s h = tt
ends_few m l (conjunction f g) s h = tt
ends_few m l (probability c b (next f)) s h =
    let v = verdicts m f in
    subst (λ (prefer : ℕ → ℕ → Bool). (next_lower prefer v.sure m s ≤ whole) × (next_upper prefer v.possible m s ≤ whole)) (asked_preferred c)
    (end_within Down (preferred c) m l v.sure 1 s h, end_within Up (preferred c) m l v.possible 1 s h)
ends_few m l (probability c b (until_within k f g)) s h =
    let v = verdicts m f in
    let w = verdicts m g in
    subst (λ (prefer : ℕ → ℕ → Bool). (lower prefer v.sure w.sure k m s ≤ whole) × (upper prefer v.possible w.possible k m s ≤ whole)) (asked_preferred c) (
      end_within Down (preferred c) (held v.sure w.sure m) (held_lawful v.sure w.sure m l) w.sure k s h,
      end_within Up (preferred c) (held v.possible w.possible m) (held_lawful v.possible w.possible m l) w.possible k s h,
    )
ends_few m l (probability c b (until f g)) s h = tt

-- the ends that a row tells are those of the formula there
ends_told : (two : Option TwoEnds) (s lo hi : ℕ) → FewUnits (units_at two s) → lo ≤ whole → hi ≤ whole → (a b c d : List ℕ) →
    ◌≡◌ {A = List (List ℕ)} (a ∷ b ∷ end_words (units_at two s)) (c ∷ d ∷ decimal lo ∷ decimal hi ∷ []) →
    (ends : TwoEnds) × (two ≡ Some ends) × (ends.0 s ≡ lo) × (ends.1 s ≡ hi)
ends_told None s lo hi few low high a b c d e = absurd (let h : ◌≡◌ {A = ℕ} 2 4 = ap length e in omega arith)
ends_told (Some ends) s lo hi few low high a b c d e = (
  ends,
  refl,
  decimal_injective (ends.0 s) lo (omega (arith, few.0)) (omega arith) (ap (λ ws. get_or ws 2 []) e),
  decimal_injective (ends.1 s) hi (omega (arith, few.1)) (omega arith) (ap (λ ws. get_or ws 3 []) e),
)

-- may a formula's text begin with this byte: `!` (33), `(` (40), `P` (80), a letter from a (97) to p, or the t of `true` (116)?
abbrev pub may_begin : ℕ → Bool
may_begin b = eqb b 33 || (eqb b 40 || (eqb b 80 || (eqb b 116 || (leb 97 b && leb b 112))))

-- a formula's text begins with one of these
print_begins : (f : Formula) → Spelled f → may_begin (get_or (print f) 0 0) ≡ true
print_begins truth s = refl
print_begins (label i) s =
    let b = 97 + i in
    let low : leb 97 b ≡ true = le-leb 97 b (omega arith) in
    let high : leb b 112 ≡ true = le-leb b 112 (omega arith) in
    or_right (eqb b 33) _ (or_right (eqb b 40) _ (or_right (eqb b 80) _ (or_right (eqb b 116) _ (and_from (leb 97 b) (leb b 112) low high))))
print_begins (negation f) s = refl
print_begins (conjunction f g) s = refl
print_begins (probability c b p) s = refl

module _ (m : Mdp) where
  -- a line is not the text of a formula
  abbrev pub IsPlain : List ℕ → Type 0
  IsPlain line = (f : Formula) → Spelled f → print f ≡ line → ⊥

  -- none that begins with another byte is
  pub plain_by_first : (line : List ℕ) → may_begin (get_or line 0 0) ≡ false → IsPlain line
  plain_by_first line other f spelled e = both_ways (may_begin (get_or line 0 0)) other (ap (λ text. may_begin (get_or text 0 0)) (sym e) ∙ print_begins f spelled)

  -- some lines keep the promise: where one is the text of a formula and the next a heading, the rows behind mean what they say
  abbrev pub Keeps : List (List ℕ) → Type 0
  Keeps lines = (f : Formula) (s i : ℕ) → Spelled f → s < m.states → i + 2 + s < length lines →
      print f ≡ get_or lines i [] → IsHeading (get_or lines (i + 1) []) → RowPromise m f s (get_or lines (i + 2 + s) [])

  -- so do none
  pub keeps_none : Keeps []
  keeps_none f s i spelled h there e heading = absurd (omega arith)

  -- one line more in front
  pub keeps_more : (line : List ℕ) (lines : List (List ℕ)) →
      ((f : Formula) (s : ℕ) → Spelled f → s < m.states → 1 + s < length lines → print f ≡ line → IsHeading (get_or lines 0 []) → RowPromise m f s (get_or lines (1 + s) [])) →
      Keeps lines → Keeps (line ∷ lines)
  keeps_more line lines first rest f s zero spelled h there e heading =
      let index : zero + 2 + s ≡ suc (1 + s) = omega arith in
      let next : zero + 1 ≡ suc 0 = omega arith in
      subst (λ k. RowPromise m f s (get_or (line ∷ lines) k [])) (sym index)
      (first f s spelled h (omega arith) e (subst (λ k. IsHeading (get_or (line ∷ lines) k [])) next heading))
  keeps_more line lines first rest f s (suc i) spelled h there e heading =
      let index : suc i + 2 + s ≡ suc (i + 2 + s) = omega arith in
      let next : suc i + 1 ≡ suc (i + 1) = omega arith in
      subst (λ k. RowPromise m f s (get_or (line ∷ lines) k [])) (sym index)
      (rest f s i spelled h (omega arith) e (subst (λ k. IsHeading (get_or (line ∷ lines) k [])) next heading))

  -- one that is no formula's text
  pub keeps_plain : (line : List ℕ) (lines : List (List ℕ)) → IsPlain line → Keeps lines → Keeps (line ∷ lines)
  keeps_plain line lines plain = keeps_more line lines (λ f s spelled h there e heading. absurd (plain f spelled e))

  -- several such
  pub keeps_all_plain : (front lines : List (List ℕ)) → Each IsPlain front → Keeps lines → Keeps (front ++ lines)
  keeps_all_plain [] lines plain rest = rest
  keeps_all_plain (line ∷ front) lines plain rest = keeps_plain line (front ++ lines) plain.0 (keeps_all_plain front lines plain.1 rest)

  -- one whose next is no heading
  pub keeps_unheaded : (line behind : List ℕ) (lines : List (List ℕ)) → ¬ (IsHeading behind) → Keeps (behind ∷ lines) → Keeps (line ∷ behind ∷ lines)
  keeps_unheaded line behind lines other = keeps_more line (behind ∷ lines) (λ f s spelled h there e heading. absurd (other heading))

-- lines that keep the promise, and of whose bytes these are a beginning
pub record Covers (m : Mdp) (bytes : List ℕ) : Type 0 where
  pub lines : List (List ℕ)
  pub none : Each (Lacks 10) lines
  pub keeps : Keeps m lines
  pub more : List ℕ
  pub begins : ended lines ≡ bytes ++ more

module _ (m : Mdp) (l : Lawful m) where
  -- bytes that begin such lines keep the promise
  pub covered : (bytes : List ℕ) → Covers m bytes → Promise m bytes
  covered bytes c = record {
    rows = λ f s row spelled h x.
        let at_text = line_there x.at (print f) x.formula in
        let at_heading = line_there (x.at + 1) x.heading x.headed in
        let at_row = line_there (x.at + 2 + s) row x.line in
        subst (RowPromise m f s) at_row.1 (c.keeps f s x.at spelled h at_row.0 (sym at_text.1) (subst IsHeading (sym at_heading.1) x.is_heading));
    lawful = l;
    some_adversary = first_allowed m l;
    one_set = one_set m l;
  }
    where
      all_pieces : pieces 10 (bytes ++ c.more) ≡ c.lines ++ ([] ∷ [])
      all_pieces = ap (pieces 10) (sym c.begins ∙ sym (append-nil (ended c.lines))) ∙ pieces_ended c.lines [] c.none

      line_there : (i : ℕ) (line : List ℕ) → HasLine bytes i line → (i < length c.lines) × (get_or c.lines i [] ≡ line)
      line_there i line has =
          let stays = piece_stays 10 bytes c.more i has.ended in
          let within : i < length c.lines = omega (arith, stays.ended, ap (λ ps. length ps) all_pieces, length-append c.lines ([] ∷ [])) in
          (within, sym (get_or_append_left c.lines ([] ∷ []) [] i within) ∙ sym (ap (λ ps. get_or ps i []) all_pieces) ∙ stays.same ∙ has.same)

  module _ (f : Formula) (spelled : Spelled f) where
    -- the row of a state in the table of the formula means what it says
    own_row : (s : ℕ) → s < m.states → (b : ℕ) → ByteMeans m (λ g. ⊥) f s b → RowPromise m f s (row_of_state s b (units_at (ends_of m f) s))
    own_row s h b means = record {
      yes_holds = λ tells. means.yes_holds (yes_byte b (ap (λ ws. get_or ws 1 []) (sym (row_words s b (units_at (ends_of m f) s)) ∙ tells.1)));
      no_fails = λ tells. means.no_fails (no_byte b (ap (λ ws. get_or ws 1 []) (sym (row_words s b (units_at (ends_of m f) s)) ∙ tells.1)));
      ends_bound = λ lo hi tells.
          let ends = ends_told (ends_of m f) s lo hi (ends_few m l f s h) tells.lower_within tells.upper_within _ _ _ _ (sym (row_words s b (units_at (ends_of m f) s)) ∙ tells.line) in
          subst (λ x. BoundsFormula m f s x hi) ends.2 (subst (λ x. BoundsFormula m f s (ends.0.0 s) x) ends.3 (formula_ends_bound m l f ends.0 ends.1 s h));
    }

    -- the lines of its report, in front of lines that keep the promise, keep it
    pub report_keeps : (lines : List (List ℕ)) → Keeps m lines →
        Keeps m ((print f ∷ heading_line (ends_of m f) ∷ lines_behind (ends_of m f) (row_of m f)) ++ lines)
    report_keeps lines rest =
        let two = ends_of m f in
        let row = row_of m f in
        let behind = lines_behind two row ++ lines in
        keeps_more m (print f) (heading_line two ∷ behind) (λ g s other h there e heading.
        let same : g ≡ f = one_reading g f other spelled e in
        let long : s < length row = omega (arith, h, row_length m f) in
        let among : s < length (lines_behind two row) = omega (arith, long, rows_length two 0 row, length-append (rows_from two 0 row) (counts_line (counts_of row) ∷ [] ∷ [])) in
        let early : s < length (rows_from two 0 row) = omega (arith, long, rows_length two 0 row) in
        let index : 1 + s ≡ suc s = omega arith in
        let own : get_or (heading_line two ∷ behind) (1 + s) [] ≡ row_of_state s (get_or row s 0) (units_at two s) =
        ap (λ k. get_or (heading_line two ∷ behind) k []) index
        ∙ get_or_append_left (lines_behind two row) lines [] s among
        ∙ get_or_append_left (rows_from two 0 row) (counts_line (counts_of row) ∷ [] ∷ []) [] s early
        ∙ row_there two 0 row s long
        ∙ ap (λ k. row_of_state k (get_or row s 0) (units_at two k)) (zero-add s) in
        subst (λ x. RowPromise m x s (get_or (heading_line two ∷ behind) (1 + s) [])) (sym same)
        (subst (RowPromise m f s) (sym own) (own_row s h (get_or row s 0) ((row_means m l (λ g. ⊥) (λ g none. absurd none) f row refl).byte s h))))
        (keeps_plain m (heading_line two) behind (heading_plain two) (keeps_all_plain m (lines_behind two row) lines (behind_plain two row) rest))
      where
        heading_plain : (two : Option TwoEnds) → IsPlain m (heading_line two)
        heading_plain None = plain_by_first m (heading_line {A = TwoEnds} None) refl
        heading_plain (Some ends) = plain_by_first m (heading_line (Some ends)) refl

        rows_plain : (two : Option TwoEnds) (i : ℕ) (bytes : List ℕ) → Each (IsPlain m) (rows_from two i bytes)
        rows_plain two i [] = tt
        rows_plain two i (b ∷ bytes) = (plain_by_first m (row_of_state i b (units_at two i)) refl, rows_plain two (i + 1) bytes)

        behind_plain : (two : Option TwoEnds) (row : List ℕ) → Each (IsPlain m) (lines_behind two row)
        behind_plain two row = each_append (IsPlain m) (rows_from two 0 row) (counts_line (counts_of row) ∷ [] ∷ []) (rows_plain two 0 row)
            (plain_by_first m (counts_line (counts_of row)) refl, (plain_by_first m [] refl, tt))

  -- so the report of a formula keeps the promise
  pub report_promise : (f : Formula) → Spelled f → Promise m (formula_report (print f) (row_of m f) (ends_of m f))
  report_promise f spelled =
      let lines = print f ∷ heading_line (ends_of m f) ∷ lines_behind (ends_of m f) (row_of m f) in
      let report = formula_report (print f) (row_of m f) (ends_of m f) in
      covered report (record {
        lines = lines;
        none = report_lacks (ends_of m f) (print f) (row_of m f) (lacks_low 10 (omega arith) (print f) (print_graphic f spelled));
        keeps = subst (Keeps m) (append-nil lines) (report_keeps f spelled [] (keeps_none m));
        more = [];
        begins = sym (report_ended (ends_of m f) (print f) (row_of m f)) ∙ sym (append-nil report);
      })
