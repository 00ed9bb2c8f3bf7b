-- The lines of a content tell its flat arrays.
use Rattle.std.proofs.Common.{◌≡◌, ℕ, ◌+◌, ◌^◌, ◌<◌, List, [], ◌∷◌, ◌++◌, map, length, vec_items, sym, refl, ap, ◌∙◌, ap₂, arith}
use Rattle.std.proofs.lemmas.List.{append_assoc, length-map}
use Rattle.model.specs.Mdp.{Row, Each}
use Rattle.model.proofs.Lists.{each_map}
use Rattle.text.specs.Cuts.{Line}
use Rattle.text.specs.Contents.{State, Content, all_choices, all_branches}
use Rattle.text.specs.Texts.{row_lines, choices_lines, states_lines, content_lines, end_line, Within}
use Rattle.text_laws.proofs.CompleteFields.{labels_read}
use Rattle.text_laws.proofs.CompleteTold.{branch_told}
use Rattle.text_laws.proofs.States.{LawfulState, lawful_states, Small, small_rows}
use Rattle.flat.specs.declared.flat.Flat.{Flat}
use Rattle.flat.specs.Flats.{content, StartsOk, OffsetsOk, sums, labels_in, starts_of, offsets_of, branches_of, LaidOut}
use Rattle.flat.proofs.Told.{told_labels, told_starts, told_offsets, told_branches, arrays, told}
use Rattle.flat.proofs.Flattening.{unflat, starts_ok, offsets_ok, length_starts}

-- the line that ends all
abbrev last : List Line
last = end_line ∷ []

-- a state with sixteen labels and small branches
record Tellable (s : State) : Type 0 where
  labels : length s.labels ≡ 16
  choices : Each (Each Small) s.choices

-- each state of a content within the limits is such
tellable : (c : Content) → Within c → Each Tellable c.states
tellable c w =
    let few_states : length c.states < 10 ^ 7 = omega (arith, w.lawful.few_states) in
    let few_units : c.denominator < 10 ^ 7 = omega (arith, w.lawful.few_units) in
    let small = λ (s : State). small_rows (length c.states) c.denominator s few_states few_units in
    each_map (LawfulState (length c.states) c.denominator) Tellable (λ s h. record { labels = h.labels; choices = small s h }) c.states (lawful_states c w.lawful)

-- what is told of some lines and then others, where the first are those of a choice and of further ones
regroup : {A : Type 0} (f : List Line → A) (r : Row) (rs : List Row) (rest : List Line) → f ((row_lines r ++ choices_lines rs) ++ rest) ≡ f (row_lines r ++ (choices_lines rs ++ rest))
regroup f r rs rest = ap f (append_assoc (row_lines r) (choices_lines rs) rest)

-- the lines of a state's choices tell no labels
row_labels : (r : Row) (rest : List Line) → told_labels (row_lines r ++ rest) ≡ told_labels rest
row_labels [] rest = refl
row_labels (b ∷ bs) rest = row_labels bs rest

choices_labels : (rs : List Row) (rest : List Line) → told_labels (choices_lines rs ++ rest) ≡ told_labels rest
choices_labels [] rest = refl
choices_labels (r ∷ rs) rest = regroup told_labels r rs rest ∙ row_labels r (choices_lines rs ++ rest) ∙ choices_labels rs rest

-- the lines of states tell their labels
states_labels : (ss : List State) → Each Tellable ss → told_labels (states_lines ss ++ last) ≡ labels_in ss
states_labels [] h = refl
states_labels (s ∷ ss) h =
    ap₂ ◌∷◌ (labels_read s.labels h.0.labels) (ap told_labels (append_assoc (choices_lines s.choices) (states_lines ss) last) ∙ choices_labels s.choices (states_lines ss ++ last) ∙ states_labels ss h.1)

-- the lines of a row count no choice, and those of a state's choices count these
row_starts : (k : ℕ) (r : Row) (rest : List Line) → told_starts k (row_lines r ++ rest) ≡ told_starts k rest
row_starts k [] rest = refl
row_starts k (b ∷ bs) rest = row_starts k bs rest

choices_starts : (k : ℕ) (rs : List Row) (rest : List Line) → told_starts k (choices_lines rs ++ rest) ≡ told_starts (k + length rs) rest
choices_starts k [] rest = ap (λ j. told_starts j rest) (omega arith)
choices_starts k (r ∷ rs) rest =
    regroup (told_starts (k + 1)) r rs rest ∙ row_starts (k + 1) r (choices_lines rs ++ rest) ∙ choices_starts (k + 1) rs rest ∙ ap (λ j. told_starts j rest) (omega arith)

-- the lines of states tell their first choices
states_starts : (k : ℕ) (ss : List State) → told_starts k (states_lines ss ++ last) ≡ sums k (map (λ s. length s.choices) ss)
states_starts k [] = refl
states_starts k (s ∷ ss) =
    ap (λ ks. k ∷ ks) (ap (told_starts k) (append_assoc (choices_lines s.choices) (states_lines ss) last) ∙ choices_starts k s.choices (states_lines ss ++ last) ∙ states_starts (k + length s.choices) ss)

-- the lines of a row count its branches
row_offsets : (k : ℕ) (r : Row) (rest : List Line) → told_offsets k (row_lines r ++ rest) ≡ told_offsets (k + length r) rest
row_offsets k [] rest = ap (λ j. told_offsets j rest) (omega arith)
row_offsets k (b ∷ bs) rest = row_offsets (k + 1) bs rest ∙ ap (λ j. told_offsets j rest) (omega arith)

-- the lines of choices, before lines that tell the first branches of more, tell those of all
choices_offsets : (k : ℕ) (rs more : List Row) (rest : List Line) → ((j : ℕ) → told_offsets j rest ≡ sums j (map (λ r. length r) more)) → told_offsets k (choices_lines rs ++ rest) ≡ sums k (map (λ r. length r) (rs ++ more))
choices_offsets k [] more rest e = e k
choices_offsets k (r ∷ rs) more rest e =
    ap (λ ks. k ∷ ks) (regroup (told_offsets k) r rs rest ∙ row_offsets k r (choices_lines rs ++ rest) ∙ choices_offsets (k + length r) rs more rest e)

-- the lines of states tell the first branches of their choices
states_offsets : (ss : List State) (k : ℕ) → told_offsets k (states_lines ss ++ last) ≡ sums k (map (λ r. length r) (all_choices ss))
states_offsets [] k = refl
states_offsets (s ∷ ss) k =
    ap (told_offsets k) (append_assoc (choices_lines s.choices) (states_lines ss) last) ∙ choices_offsets k s.choices (all_choices ss) (states_lines ss ++ last) (states_offsets ss)

-- the lines of a row tell its branches
row_branches : (r : Row) (rest : List Line) → Each Small r → told_branches (row_lines r ++ rest) ≡ r ++ told_branches rest
row_branches [] rest h = refl
row_branches (b ∷ bs) rest h = ap₂ ◌∷◌ (branch_told b h.0) (row_branches bs rest h.1)

-- the lines of choices, before lines that tell the branches of more, tell those of all
choices_branches : (rs more : List Row) (rest : List Line) → Each (Each Small) rs → told_branches rest ≡ all_branches more → told_branches (choices_lines rs ++ rest) ≡ all_branches (rs ++ more)
choices_branches [] more rest h e = e
choices_branches (r ∷ rs) more rest h e =
    regroup told_branches r rs rest ∙ row_branches r (choices_lines rs ++ rest) h.0 ∙ ap (λ bs. r ++ bs) (choices_branches rs more rest h.1 e)

-- the lines of states tell their branches
states_branches : (ss : List State) → Each Tellable ss → told_branches (states_lines ss ++ last) ≡ all_branches (all_choices ss)
states_branches [] h = refl
states_branches (s ∷ ss) h =
    ap told_branches (append_assoc (choices_lines s.choices) (states_lines ss) last) ∙ choices_branches s.choices (all_choices ss) (states_lines ss ++ last) h.0.choices (states_branches ss h.1)

-- the lines of a content within the limits tell the arrays of its states
module _ (c : Content) where
  pub labels_told : Within c → told_labels (content_lines c) ≡ labels_in c.states
  labels_told w = states_labels c.states (tellable c w)

  pub starts_told : told_starts 0 (content_lines c) ≡ starts_of c.states
  starts_told = states_starts 0 c.states

  pub offsets_told : told_offsets 0 (content_lines c) ≡ offsets_of c.states
  offsets_told = states_offsets c.states 0

  pub branches_told : Within c → told_branches (content_lines c) ≡ branches_of c.states
  branches_told w = states_branches c.states (tellable c w)

-- the arrays hold the states of the content, and their numbers are in order
pub record Filled (c : Content) (f : Flat) : Type 0 where
  pub states : (content f).states ≡ c.states
  pub laid_out : LaidOut c.states f
  pub long : length (vec_items f.starts) ≡ length (vec_items f.labels) + 1
  pub rising : StartsOk (length (vec_items f.labels)) (length (vec_items f.offsets)) (vec_items f.starts)
  pub spanned : OffsetsOk (length (vec_items f.branches)) (vec_items f.offsets)

-- arrays that are what the lines of a content within the limits tell hold its states
pub loaded : (c : Content) → Within c → (f : Flat) → arrays f ≡ told (content_lines c) → Filled c f
loaded c w f e =
    let flags = ap (λ a. a.labels) e ∙ labels_told c w in
    let firsts = ap (λ a. a.starts) e ∙ starts_told c in
    let fronts = ap (λ a. a.offsets) e ∙ offsets_told c in
    let all = ap (λ a. a.branches) e ∙ branches_told c w in
    let count : length (vec_items f.labels) ≡ length c.states = sym (length-map (vec_items f.labels) (λ l. l.letters)) ∙ ap length flags ∙ length-map c.states (λ s. s.labels) in
    record {
      states = rw (flags, firsts, fronts, all) (unflat c.states);
      laid_out = record { labels = flags; starts = firsts; offsets = fronts; branches = all };
      long = rw (firsts, count) (length_starts c.states);
      rising = rw (firsts, fronts, count) (starts_ok c.states);
      spanned = rw (fronts, all) (offsets_ok c.states);
    }
