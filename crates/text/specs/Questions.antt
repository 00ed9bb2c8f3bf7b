-- The questions that are asked of a line. Each is a test of the line and of the lines before it, the newest first,
-- and its answer is yes on a line that it does not concern.
use Rattle.std.specs.Prelude.{ℕ, ◌+◌, Bool, true, false, cond, ◌&&◌, List, [], ◌∷◌, length, Some, None, Option, ◌==◌, nat_lt}
use Rattle.text.specs.declared.word.Word.{Word}
use Rattle.text.specs.declared.word.Word.TheVariants.{Mdp, State, Choice, Branch, End}
use Rattle.text.specs.Cuts.{Line, field}
use Rattle.text.specs.Fields.{between, lawful_number, lawful_labels, amount}
use Rattle.text.specs.Words.{word_of, followers, one_of, arity}

-- the word of a line
abbrev pub word : Line → Option Word
word line = word_of (field 0 line)

-- the number that field k of a line writes
abbrev pub number : ℕ → Line → ℕ
number k line = amount (field k line)

-- is the line one with one of these words?
abbrev pub is : List Word → Line → Bool
is ws line = one_of ws (word line)

-- the answer, where the question concerns just the lines with one of these words
abbrev pub on : List Word → Line → Bool → Bool
on ws line answer = cond (is ws line) answer true

-- the word of the line before
abbrev pub last_word : List Line → Option Word
last_word [] = None
last_word (l ∷ before) = word l

-- the first line of the text, its header
abbrev pub header : List Line → Line
header [] = []
header (l ∷ []) = l
header (l ∷ k ∷ before) = header (k ∷ before)

-- the number of states that the header gives
abbrev pub states_given : List Line → ℕ
states_given before = number 1 (header before)

-- the denominator that the header gives
abbrev pub denominator_given : List Line → ℕ
denominator_given before = number 2 (header before)

-- how many of the lines have this word
abbrev pub count : Word → List Line → ℕ
count w [] = 0
count w (l ∷ before) = cond (is (w ∷ []) l) (count w before + 1) (count w before)

-- the sum of the weights of the row that the newest lines give
abbrev pub row_sum : List Line → ℕ
row_sum [] = 0
row_sum (l ∷ before) = cond (is (Branch ∷ []) l) (number 2 l + row_sum before) 0

-- is the target above that of the line before, if that is a branch of the same row?
abbrev pub above_last : List Line → ℕ → Bool
above_last [] target = true
above_last (l ∷ before) target = cond (is (Branch ∷ []) l) (nat_lt (number 1 l) target) true

-- do the lines before leave no row open that sums to anything but the denominator?
abbrev pub closed : List Line → Bool
closed before = cond (one_of (Branch ∷ []) (last_word before)) (row_sum before == denominator_given before) true

-- 3: may this word stand here?
abbrev pub word_fits : List Line → Line → Bool
word_fits before line = is (followers (last_word before)) line

-- does a word ask for so many fields?
abbrev pub counted : Option Word → ℕ → Bool
counted None n = false
counted (Some w) n = n == arity w

-- 4: has the line so many fields as its word asks?
abbrev pub fields_fit : Line → Bool
fields_fit line = counted (word line) (length line)

-- 5: is field k, where it is to be a number, a lawful one?
abbrev pub number_fits : ℕ → Line → Bool
number_fits k line = on (Mdp ∷ Branch ∷ []) line (lawful_number (field k line))

-- 6: are states, denominator and target in range, and the weight 1 to the denominator?
abbrev pub range_fits : List Line → Line → Bool
range_fits before line =
    on (Mdp ∷ []) line (between 1 512 (number 1 line) && between 1 1000000 (number 2 line))
    && on (Branch ∷ []) line (nat_lt (number 1 line) (states_given before) && between 1 (denominator_given before) (number 2 line))

-- 7: are the labels lawful?
abbrev pub labels_fit : Line → Bool
labels_fit line = on (State ∷ []) line (lawful_labels (field 1 line))

-- 8: is the target above the one before in its row?
abbrev pub order_fits : List Line → Line → Bool
order_fits before line = on (Branch ∷ []) line (above_last before (number 1 line))

-- 9: does the row that this line closes sum to the denominator?
abbrev pub sum_fits : List Line → Line → Bool
sum_fits before line = on (State ∷ Choice ∷ End ∷ []) line (closed before)

-- 10: has the header states left?
abbrev pub states_left : List Line → Line → Bool
states_left before line = on (State ∷ []) line (nat_lt (count State before) (states_given before))

-- 11: are there at most 2,048 choices, with this one?
abbrev pub choices_left : List Line → Line → Bool
choices_left before line = on (Choice ∷ []) line (nat_lt (count Choice before) 2048)

-- 12: are there at most 4,096 branches, with this one?
abbrev pub branches_left : List Line → Line → Bool
branches_left before line = on (Branch ∷ []) line (nat_lt (count Branch before) 4096)

-- 13: are all states there at the end?
abbrev pub states_there : List Line → Line → Bool
states_there before line = on (End ∷ []) line (count State before == states_given before)
