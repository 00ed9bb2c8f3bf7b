-- The two ways in which models are laid out: as model text, and as a listing to read.
use Rattle.std.specs.Prelude.{ℕ, cond, List, [], ◌++◌, length, codes, decimal, ◌==◌}
use Rattle.text.specs.Fields.{labels_text}
use Rattle.text.specs.Contents.{Content, all_choices, all_branches}
use Rattle.printing.specs.Layouts.{Layout, laid_states}
use Rattle.printing.specs.declared.totals.Totals.{Totals}

-- model text: a line `s` with the labels, a line `c` for each choice, a line `b` with target and weight for each branch
abbrev pub model_text : Layout
model_text = record {
  state = λ _ labels. codes "s\t" ++ (labels_text labels ++ codes "\n");
  choice = λ _. codes "c\n";
  branch = λ _ b. codes "b\t" ++ (decimal b.target ++ (codes "\t" ++ (decimal b.weight ++ codes "\n")));
  close = [];
}

-- what stands before the first of several, and before each later one
abbrev pub lead : List ℕ → List ℕ → ℕ → List ℕ
lead first later i = cond (i == 0) first later

-- a listing: a line for each state, with its labels and its choices, each choice with its branches
abbrev pub listing : Layout
listing = record {
  state = λ s labels. codes "state " ++ (decimal s ++ (codes " labels " ++ labels_text labels));
  choice = λ i. lead (codes ": choice ") (codes "; choice ") i ++ decimal i;
  branch = λ i b. lead (codes ": ") (codes ", ") i ++ (decimal b.target ++ (codes " with " ++ decimal b.weight));
  close = codes "\n";
}

-- a whole model text: the header, the lines of the states, the end
abbrev pub framed : ℕ → ℕ → List ℕ → List ℕ
framed n d lines = codes "mdp\t" ++ (decimal n ++ (codes "\t" ++ (decimal d ++ (codes "\n" ++ (lines ++ codes "end\n")))))

-- the totals of a content whose text has so many bytes
abbrev pub totals_of : ℕ → Content → Totals
totals_of bytes c = record {
  bytes = bytes;
  states = length c.states;
  denominator = c.denominator;
  choices = length (all_choices c.states);
  branches = length (all_branches (all_choices c.states));
}

-- totals in words, a line for each
abbrev pub totals_text : Totals → List ℕ
totals_text t =
    codes "bytes " ++ (decimal t.bytes
    ++ (codes "\nstates " ++ (decimal t.states
    ++ (codes "\ndenominator " ++ (decimal t.denominator
    ++ (codes "\nchoices " ++ (decimal t.choices
    ++ (codes "\nbranches " ++ (decimal t.branches ++ codes "\n")))))))))

-- what `show` prints of a content whose text has so many bytes: the totals, and a line for each state
abbrev pub show_text : ℕ → Content → List ℕ
show_text bytes c = totals_text (totals_of bytes c) ++ laid_states listing c.states
