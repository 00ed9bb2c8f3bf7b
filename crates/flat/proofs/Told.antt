-- The flat arrays that lines tell: what each array gets from the lines that are left.
use Rattle.std.proofs.Common.{◌≡◌, ℕ, ◌+◌, Bool, cond, List, [], ◌∷◌, ◌++◌, length, vec_items}
use Rattle.model.specs.declared.branch.Branch.{Branch}
use Rattle.text.specs.declared.word.Word.TheVariants as word
use Rattle.text.specs.Cuts.{Line, field}
use Rattle.text.specs.Fields.{labels_of}
use Rattle.text.specs.Questions.{is}
use Rattle.text_laws.proofs.Nest.{branch_of}
use Rattle.flat.specs.declared.flat.Flat.{Flat}
use Rattle.flat.specs.Flats.{letters}

-- the labels of each `s` line
abbrev pub told_labels : List Line → List (List Bool)
told_labels [] = []
told_labels (l ∷ ls) = cond (is (word.State ∷ []) l) (labels_of (field 1 l) ∷ told_labels ls) (told_labels ls)

-- for each `s` line the number of `c` lines before it, k being before all lines; then the number of all
abbrev pub told_starts : ℕ → List Line → List ℕ
told_starts k [] = k ∷ []
told_starts k (l ∷ ls) = cond (is (word.State ∷ []) l) (k ∷ told_starts k ls) (cond (is (word.Choice ∷ []) l) (told_starts (k + 1) ls) (told_starts k ls))

-- for each `c` line the number of `b` lines before it, k being before all lines; then the number of all
abbrev pub told_offsets : ℕ → List Line → List ℕ
told_offsets k [] = k ∷ []
told_offsets k (l ∷ ls) = cond (is (word.Choice ∷ []) l) (k ∷ told_offsets k ls) (cond (is (word.Branch ∷ []) l) (told_offsets (k + 1) ls) (told_offsets k ls))

-- the branch of each `b` line
abbrev pub told_branches : List Line → List Branch
told_branches [] = []
told_branches (l ∷ ls) = cond (is (word.Branch ∷ []) l) (branch_of l ∷ told_branches ls) (told_branches ls)

-- what flat arrays hold, the labels as flags
pub record Arrays : Type 0 where
  pub labels : List (List Bool)
  pub starts : List ℕ
  pub offsets : List ℕ
  pub branches : List Branch

-- arrays that hold the same are the same
pub same_arrays : {a b : Arrays} → a.labels ≡ b.labels → a.starts ≡ b.starts → a.offsets ≡ b.offsets → a.branches ≡ b.branches → a ≡ b
same_arrays l s o b = λ i. record { labels = l i; starts = s i; offsets = o i; branches = b i }

-- these of a model in flat arrays
abbrev pub arrays : Flat → Arrays
arrays f = record { labels = letters (vec_items f.labels); starts = vec_items f.starts; offsets = vec_items f.offsets; branches = vec_items f.branches }

-- what all lines tell
abbrev pub told : List Line → Arrays
told ls = record { labels = told_labels ls; starts = told_starts 0 ls; offsets = told_offsets 0 ls; branches = told_branches ls }

-- what the arrays become with what the lines left tell
abbrev pub completed : Flat → List Line → Arrays
completed f ls = record {
  labels = letters (vec_items f.labels) ++ told_labels ls;
  starts = vec_items f.starts ++ told_starts (length (vec_items f.offsets)) ls;
  offsets = vec_items f.offsets ++ told_offsets (length (vec_items f.branches)) ls;
  branches = vec_items f.branches ++ told_branches ls;
}
