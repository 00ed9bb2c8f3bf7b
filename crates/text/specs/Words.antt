-- The words that lines begin with, and which may follow which.
use Rattle.std.specs.Prelude.{ℕ, Bool, true, false, cond, ◌&&◌, ◌||◌, List, [], ◌∷◌, Some, None, codes, ok_or, Option, Result, ◌==◌}
use Rattle.text.specs.declared.fault.LineFault.{LineFault}
use Rattle.text.specs.declared.fault.LineFault.TheVariants as fault
use Rattle.text.specs.declared.word.Word.{Word}
use Rattle.text.specs.declared.word.Word.TheVariants.{Mdp, State, Choice, Branch, End}

-- are two lists of bytes the same?
abbrev pub same : List ℕ → List ℕ → Bool
same [] [] = true
same [] (y ∷ ys) = false
same (x ∷ xs) [] = false
same (x ∷ xs) (y ∷ ys) = x == y && same xs ys

-- the spelling of a word
abbrev pub spelling : Word → List ℕ
spelling Mdp = codes "mdp"
spelling State = codes "s"
spelling Choice = codes "c"
spelling Branch = codes "b"
spelling End = codes "end"

-- the word that some bytes spell, if any
abbrev pub word_of : List ℕ → Option Word
word_of f =
    cond (same f (spelling Mdp)) (Some Mdp)
    (cond (same f (spelling State)) (Some State) (cond (same f (spelling Choice)) (Some Choice) (cond (same f (spelling Branch)) (Some Branch) (cond (same f (spelling End)) (Some End) None))))

-- what reading a word answers
abbrev pub word_read : List ℕ → Result Word LineFault
word_read f = ok_or (word_of f) fault.Word

-- which words may come next after a word, or at the start of the text
abbrev pub followers : Option Word → List Word
followers None = Mdp ∷ []
followers (Some Mdp) = State ∷ []
followers (Some State) = Choice ∷ []
followers (Some Choice) = Branch ∷ []
followers (Some Branch) = Branch ∷ Choice ∷ State ∷ End ∷ []
followers (Some End) = []

-- a number for each word, to tell words apart
abbrev pub rank : Word → ℕ
rank Mdp = 0
rank State = 1
rank Choice = 2
rank Branch = 3
rank End = 4

-- is the word in the list?
abbrev pub listed : Word → List Word → Bool
listed w [] = false
listed w (v ∷ vs) = rank w == rank v || listed w vs

-- is it a word, and in the list?
abbrev pub one_of : List Word → Option Word → Bool
one_of ws None = false
one_of ws (Some w) = listed w ws

-- how many fields a line with this word has
abbrev pub arity : Word → ℕ
arity Mdp = 3
arity State = 2
arity Choice = 1
arity Branch = 3
arity End = 1
