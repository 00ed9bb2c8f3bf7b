-- Where a line may stand among the lines of a content: what the lines before it leave to come.
use Rattle.std.proofs.Common.{◌≡◌, ℕ, ◌+◌, ◌≤◌, true, List, [], ◌∷◌, length, Some, refl, ap, ◌∙◌, arith}
use Rattle.std.proofs.lemmas.Bool.{eq-eqb, lt-ltb, cond_both}
use Rattle.model.specs.declared.branch.Branch.{Branch}
use Rattle.text.specs.declared.word.Word.{Word}
use Rattle.text.specs.declared.word.Word.TheVariants as word
use Rattle.text.specs.Cuts.{Line}
use Rattle.text.specs.Words.{followers, listed, one_of}
use Rattle.text.specs.Texts.{choice_line, branch_line}
use Rattle.text.specs.Questions.{number, last_word, header, states_given, denominator_given, count, row_sum, above_last, closed}
use Rattle.text_laws.proofs.States.{Small}
use Rattle.text_laws.proofs.CompleteFields.{amount_decimal}

-- lines after a header of n states and the denominator d, which leave just s states to come, and room for c choices and b branches
pub record Room (n d s c b : ℕ) (before : List Line) : Type 0 where
  pub some : 1 ≤ length before
  pub states_given : states_given before ≡ n
  pub denominator : denominator_given before ≡ d
  pub states : count word.State before + s ≡ n
  pub choices : count word.Choice before + c ≤ 2048
  pub branches : count word.Branch before + b ≤ 4096

-- the header stays the first line as further lines come
header_more : (line : Line) (before : List Line) → 1 ≤ length before → header (line ∷ before) ≡ header before
header_more line [] h = absurd (omega (arith, h))
header_more line (k ∷ before) h = refl

-- the room that a line leaves, if its word is counted
pub room_more : {n d s c b : ℕ} {before : List Line} (line : Line) (t e a : ℕ) → Room n d s c b before → count word.State (line ∷ before) + t ≡ count word.State before + s → count word.Choice (line ∷ before) + e ≤ count word.Choice before + c → count word.Branch (line ∷ before) + a ≤ count word.Branch before + b → Room n d t e a (line ∷ before)
room_more {before} line t e a room states choices branches =
    let same = header_more line before room.some in
    omega (arith, room, ap (number 1) same, ap (number 2) same)

-- an open row, whose weights sum to `sum` so far, and whose next target may be `low` or above
pub record Open (low sum : ℕ) (before : List Line) : Type 0 where
  pub follows : listed word.Branch (followers (last_word before)) ≡ true
  pub sums : row_sum before ≡ sum
  pub above : (target : ℕ) → low ≤ target → above_last before target ≡ true
  pub started : 1 ≤ sum → last_word before ≡ Some word.Branch

-- a choice opens a row
pub open_row : (before : List Line) → Open 0 0 (choice_line ∷ before)
open_row before = record { follows = refl; sums = refl; above = λ target h. refl; started = λ h. absurd (omega (arith, h)) }

-- a branch leaves it open
pub open_more : {low sum : ℕ} {before : List Line} (b : Branch) → Small b → Open low sum before → Open (b.target + 1) (sum + b.weight) (branch_line b ∷ before)
open_more b small o =
    let target = amount_decimal b.target small.target in
    let weight = amount_decimal b.weight small.weight in
    record { follows = refl; sums = omega (arith, o.sums); above = λ t h. lt-ltb (number 1 (branch_line b)) t (omega arith); started = λ h. refl }

-- a place where a line with this word may stand
pub record Ready (w : Word) (before : List Line) : Type 0 where
  pub follows : listed w (followers (last_word before)) ≡ true
  pub closes : closed before ≡ true

-- the end of a row
pub record Ended (before : List Line) : Type 0 where
  pub last : last_word before ≡ Some word.Branch
  pub closes : closed before ≡ true

-- after the end of a row may stand each word that follows a branch
pub ready : {before : List Line} (w : Word) → listed w (followers (Some word.Branch)) ≡ true → Ended before → Ready w before
ready w h e = record { follows = ap (λ l. listed w (followers l)) e.last ∙ h; closes = e.closes }

-- an open row ends where it sums to the denominator
pub row_ended : {n d s c b low : ℕ} (before : List Line) → 1 ≤ d → Room n d s c b before → Open low d before → Ended before
row_ended before some room o =
    let sums : row_sum before ≡ denominator_given before = omega (arith, room.denominator, o.sums) in
    record { last = o.started some; closes = cond_both (one_of (word.Branch ∷ []) (last_word before)) _ true (λ t. t ≡ true) (λ h. eq-eqb _ _ sums) (λ h. refl) }
