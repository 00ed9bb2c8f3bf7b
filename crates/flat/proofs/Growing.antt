-- With each line, what the arrays become with what the lines left tell stays the same.
use Rattle.std.proofs.Common.{◌≡◌, ℕ, ◌+◌, cond, List, [], ◌∷◌, ◌++◌, length, Some, vec_items, sym, ap, ◌∙◌, ap₂, append_assoc, length-append, add-zero}
use Rattle.std.proofs.lemmas.List.{map-append}
use Rattle.model.specs.declared.branch.Branch.{Branch}
use Rattle.model.specs.declared.labels.Labels.{Labels}
use Rattle.text.specs.declared.word.Word.{Word}
use Rattle.text.specs.declared.word.Word.TheVariants as word
use Rattle.text.specs.Cuts.{Line, field}
use Rattle.text.specs.Fields.{labels_of}
use Rattle.text.specs.Words.{listed, one_of}
use Rattle.text.specs.Questions.{word}
use Rattle.text_laws.proofs.Nest.{branch_of}
use Rattle.flat.specs.declared.flat.Flat.{Flat}
use Rattle.flat.specs.declared.loader.Record.{Record}
use Rattle.flat.specs.declared.loader.Record.TheVariants as record_of
use Rattle.flat.specs.Drafts.{Added}
use Rattle.flat.specs.Flats.{letters}
use Rattle.flat.specs.Readings.{Says, Recorded}
use Rattle.flat.proofs.Told.{told_labels, told_starts, told_offsets, told_branches, same_arrays, completed}

-- some elements between two lists stand at the end of the first or at the front of the second
joined : {X : Type 0} (xs ys zs rest : List X) → rest ≡ ys ++ zs → (xs ++ ys) ++ zs ≡ xs ++ rest
joined xs ys zs rest e = append_assoc xs ys zs ∙ ap (λ l. xs ++ l) (sym e)

module _ (line : Line) (ls : List Line) (f g : Flat) where
  -- where the line tells what is put at the ends of the arrays, they become the same with what is left to tell
  tells_added : {labels : List Labels} {starts offsets : List ℕ} {branches : List Branch} → Added labels starts offsets branches f g → told_labels (line ∷ ls) ≡ letters labels ++ told_labels ls → told_starts (length (vec_items f.offsets)) (line ∷ ls) ≡ starts ++ told_starts (length (vec_items f.offsets) + length offsets) ls → told_offsets (length (vec_items f.branches)) (line ∷ ls) ≡ offsets ++ told_offsets (length (vec_items f.branches) + length branches) ls → told_branches (line ∷ ls) ≡ branches ++ told_branches ls → completed g ls ≡ completed f (line ∷ ls)
  tells_added {labels} {starts} {offsets} {branches} put tl ts to tb =
      same_arrays
      (ap (λ xs. letters xs ++ told_labels ls) put.labels ∙ ap (λ xs. xs ++ told_labels ls) (map-append (λ l. l.letters) (vec_items f.labels) labels) ∙ joined _ _ _ _ tl)
      (ap₂ (λ xs os. xs ++ told_starts (length os) ls) put.starts put.offsets ∙ ap (λ n. (vec_items f.starts ++ starts) ++ told_starts n ls) (length-append (vec_items f.offsets) offsets) ∙ joined _ _ _ _ ts)
      (ap₂ (λ xs bs. xs ++ told_offsets (length bs) ls) put.offsets put.branches ∙ ap (λ n. (vec_items f.offsets ++ offsets) ++ told_offsets n ls) (length-append (vec_items f.branches) branches) ∙ joined _ _ _ _ to)
      (ap (λ xs. xs ++ told_branches ls) put.branches ∙ joined _ _ _ _ tb)

  -- the labels that the line tells in front of the others, by its word
  labels_by : (v : Word) → word line ≡ Some v → told_labels (line ∷ ls) ≡ cond (listed v (word.State ∷ [])) (labels_of (field 1 line) ∷ told_labels ls) (told_labels ls)
  labels_by v e = ap (λ o. cond (one_of (word.State ∷ []) o) (labels_of (field 1 line) ∷ told_labels ls) (told_labels ls)) e

  -- the starts, with k choices before it
  starts_by : (v : Word) → word line ≡ Some v → (k : ℕ) → told_starts k (line ∷ ls) ≡ cond (listed v (word.State ∷ [])) (k ∷ told_starts (k + 0) ls) (cond (listed v (word.Choice ∷ [])) (told_starts (k + 1) ls) (told_starts (k + 0) ls))
  starts_by v e k = ap₂ (λ o n. cond (one_of (word.State ∷ []) o) (k ∷ told_starts n ls) (cond (one_of (word.Choice ∷ []) o) (told_starts (k + 1) ls) (told_starts n ls))) e (sym (add-zero k))

  -- the offsets, with k branches before it
  offsets_by : (v : Word) → word line ≡ Some v → (k : ℕ) → told_offsets k (line ∷ ls) ≡ cond (listed v (word.Choice ∷ [])) (k ∷ told_offsets (k + 0) ls) (cond (listed v (word.Branch ∷ [])) (told_offsets (k + 1) ls) (told_offsets (k + 0) ls))
  offsets_by v e k = ap₂ (λ o n. cond (one_of (word.Choice ∷ []) o) (k ∷ told_offsets n ls) (cond (one_of (word.Branch ∷ []) o) (told_offsets (k + 1) ls) (told_offsets n ls))) e (sym (add-zero k))

  -- the branches
  branches_by : (v : Word) → word line ≡ Some v → told_branches (line ∷ ls) ≡ cond (listed v (word.Branch ∷ [])) (branch_of line ∷ told_branches ls) (told_branches ls)
  branches_by v e = ap (λ o. cond (one_of (word.Branch ∷ []) o) (branch_of line ∷ told_branches ls) (told_branches ls)) e

  -- with a line that is put into the arrays, they become the same
  pub tells_on : (said : Record) → Says line said → Recorded said f g → completed g ls ≡ completed f (line ∷ ls)
  tells_on (record_of.Header new) s put = tells_added put (labels_by word.Mdp s.0) (starts_by word.Mdp s.0 _) (offsets_by word.Mdp s.0 _) (branches_by word.Mdp s.0)
  tells_on (record_of.State labels) s put = tells_added put (labels_by word.State s.0 ∙ ap (λ l. l ∷ told_labels ls) (sym s.1)) (starts_by word.State s.0 _) (offsets_by word.State s.0 _) (branches_by word.State s.0)
  tells_on record_of.Choice s put = tells_added put (labels_by word.Choice s) (starts_by word.Choice s _) (offsets_by word.Choice s _) (branches_by word.Choice s)
  tells_on (record_of.Branch branch) s put =
      let told : branch_of line ≡ branch = ap₂ (λ t w. record { target = t; weight = w }) (sym s.1) (sym s.2) in
      tells_added put (labels_by word.Branch s.0) (starts_by word.Branch s.0 _) (offsets_by word.Branch s.0 _) (branches_by word.Branch s.0 ∙ ap (λ b. b ∷ told_branches ls) told)
  tells_on record_of.End s put = tells_added put (labels_by word.End s) (starts_by word.End s _) (offsets_by word.End s _) (branches_by word.End s)
