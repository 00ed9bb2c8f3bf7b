-- What is printed of rounds.
use Rattle.std.specs.Prelude.{◌≡◌, ℕ, Bool, List, ◌++◌, map, Some, None, Ok, Err, string_bytes, codes, decimal, Option, Result, String}
use Rattle.std.specs.List.{join_with_byte}
use Rattle.std.specs.declared.alloc.Global.{Global}
use Rattle.model.specs.Mdp.{Mdp}
use Rattle.theory.specs.Mixes.{mix_marks}
use Rattle.rules.specs.declared.preference.Preference.{Preference}
use Rattle.rules.specs.Parts.{prefers_part, in_parts, mix_rounded}
use Rattle.rules.specs.Marks.{prefers_mark}
use Rattle.rounds.specs.Runs.{listed, values_after, spare_after}
use Rattle.rounds_text.specs.declared.kind.Kind.{Kind}
use Rattle.rounds_text.specs.declared.kind.Kind.TheVariants.{Parts, Marks}
use Rattle.rounds_text.specs.declared.request.Request.{Request}
use Rattle.rounds_text.specs.Numberings.{Numbering, parts_numbering, marks_numbering}

-- numbers parted by commas (44)
abbrev pub numbers_text : List ℕ → List ℕ
numbers_text numbers = join_with_byte 44 (map decimal numbers)

-- two lists of numbers, a line for each
abbrev pub lists_text : List ℕ → List ℕ → List ℕ
lists_text first second = codes "first " ++ (numbers_text first ++ (codes "\nsecond " ++ (numbers_text second ++ codes "\n")))

module _ {V : Type 0} (v : Numbering V) (preferred : V → V → Bool) (mix : ℕ → List (ℕ × V) → V) (m : Mdp) (k : ℕ) (numbers : List ℕ) where
  -- the first list after k rounds, by its numbers: the values after them, from those that the numbers stand for
  abbrev pub first_numbers : List ℕ
  first_numbers = map v.number (values_after preferred mix m (map v.value numbers) (v.value 0) k)

  -- the second list: the values after one round less; with no round it stays as it was made, with a 0 for each state
  abbrev pub second_numbers : List ℕ
  second_numbers = map v.number (spare_after preferred mix m (map v.value numbers) (listed m.states (λ s. v.value 0)) (v.value 0) k)

  -- what is printed of k rounds
  abbrev pub rounds_text : List ℕ
  rounds_text = lists_text first_numbers second_numbers

-- what is printed of rounds of each kind
abbrev pub kind_text : Kind → Preference → Mdp → ℕ → List ℕ → List ℕ
kind_text (Parts r) p m k numbers = rounds_text parts_numbering (prefers_part p) (in_parts (mix_rounded r)) m k numbers
kind_text Marks p m k numbers = rounds_text marks_numbering (prefers_mark p) mix_marks m k numbers

-- what is printed of a request
abbrev pub request_text : Request → Mdp → List ℕ → List ℕ
request_text r m numbers = kind_text r.kind r.preference m r.count numbers

-- what is answered: a text where there is no fault, and else the fault
abbrev pub Answered : {E : Type 0} → Option E → List ℕ → Result (String Global) E → Type 0
Answered fault text (Ok s) = (fault ≡ None) × (string_bytes s ≡ text)
Answered fault text (Err e) = fault ≡ Some e
