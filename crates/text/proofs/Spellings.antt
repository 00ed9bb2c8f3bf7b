-- Which word some bytes spell, by their number and each of them.
use Rattle.std.proofs.Common.{◌≡◌, ℕ, cond, ◌&&◌, eqb, List, [], ◌∷◌, length, get_or, Some, None, Option, refl, arith}
use Rattle.std.proofs.lemmas.Bool.Decides.{nat_tests}
use Rattle.text.specs.declared.word.Word.{Word}
use Rattle.text.specs.declared.word.Word.TheVariants.{Mdp, State, Choice, Branch, End}
use Rattle.text.specs.Words.{word_of}

-- the word that n bytes spell, of which the first three are a, b and c
abbrev pub word_by : ℕ → ℕ → ℕ → ℕ → Option Word
word_by n a b c =
    cond (eqb n 3 && eqb a 109 && eqb b 100 && eqb c 112) (Some Mdp)
    (cond (eqb n 1 && eqb a 115) (Some State) (cond (eqb n 1 && eqb a 99) (Some Choice) (cond (eqb n 1 && eqb a 98) (Some Branch) (cond (eqb n 3 && eqb a 101 && eqb b 110 && eqb c 100) (Some End) None))))

-- bytes spell the word that their number and the first three tell
pub word_at : (xs : List ℕ) → word_of xs ≡ word_by (length xs) (get_or xs 0 0) (get_or xs 1 0) (get_or xs 2 0)
word_at [] = refl
word_at (a ∷ []) = grind (arith, nat_tests)
word_at (a ∷ b ∷ []) = grind (arith, nat_tests)
word_at (a ∷ b ∷ c ∷ []) = grind (arith, nat_tests)
word_at (a ∷ b ∷ c ∷ d ∷ xs) = grind (arith, nat_tests)

-- which word some bytes spell, and what the tests of numbers say
pub ruleset spellings = (word_at, nat_tests)
