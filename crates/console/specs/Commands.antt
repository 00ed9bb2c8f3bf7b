-- What the words of the command line ask for.
use Rattle.std.specs.Prelude.{ℕ, Bool, cond, ◌&&◌, List, [], ◌∷◌, length, Some, None, Ok, Err, codes, Option, Result, ◌==◌, nat_lt, slice_index_or, ok_or}
use Rattle.std.specs.Result.{result_map_both}
use Rattle.std.specs.Str.{bytes_eq}
use Rattle.rules.specs.declared.preference.Preference.{Preference}
use Rattle.rules.specs.declared.preference.Preference.TheVariants.{Greater, Lesser}
use Rattle.rules.specs.declared.rounding.Rounding.TheVariants.{Down, Up}
use Rattle.text.specs.Cuts.{piece, pieces}
use Rattle.text.specs.Fields.{lawful_number, amount, long_number_read}
use Rattle.text.specs.Words.{same}
use Rattle.rounds_text.specs.declared.kind.Kind.{Kind}
use Rattle.rounds_text.specs.declared.kind.Kind.TheVariants.{Parts, Marks}
use Rattle.console.specs.declared.command.Form.{Form}
use Rattle.console.specs.declared.command.Form.TheVariants.{Listing, Text}
use Rattle.console.specs.declared.command.Verb.{Verb}
use Rattle.console.specs.declared.command.Verb.TheVariants as verb
use Rattle.console.specs.declared.command.ModelName.{ModelName}
use Rattle.console.specs.declared.command.ModelName.TheVariants.{File, Ladder}
use Rattle.console.specs.declared.command.Mistake.{Mistake}
use Rattle.console.specs.declared.command.Mistake.TheVariants.{NoCommand, NoSuchCommand, NoModel, NoFormula, NoCalls, NoLimits, TooMany, NoLadder}
use Rattle.console.specs.declared.command.Mistake.TheVariants as mistake
use Rattle.console.specs.declared.command.RoundsMistake.TheVariants.{TooFew, NoRule, NoPreference, NoCount}
use Rattle.console.specs.declared.command.Command.{Command}
use Rattle.console.specs.declared.command.Command.TheVariants.{Help, Print, Rounds, Formula, Trial, Check}

-- the command that a word spells, if it spells one: `show` prints a listing, and `write` the model text
abbrev pub verb_of : List ℕ → Result Verb Mistake
verb_of w =
    cond (bytes_eq w (codes "show")) (Ok (verb.Print Listing))
    (cond (bytes_eq w (codes "write")) (Ok (verb.Print Text))
    (cond (bytes_eq w (codes "rounds")) (Ok verb.Rounds)
    (cond (bytes_eq w (codes "formula")) (Ok verb.Formula)
    (cond (bytes_eq w (codes "trial")) (Ok verb.Trial)
    (cond (bytes_eq w (codes "check")) (Ok verb.Check) (cond (bytes_eq w (codes "help")) (Ok verb.Help) (Err NoSuchCommand)))))))

-- is a model's name that of a ladder? It begins with `ladder:` (a colon is 58)
abbrev pub names_ladder : List ℕ → Bool
names_ladder name = same (piece 58 0 name) (codes "ladder") && nat_lt 1 (length (pieces 58 name))

-- the number that a word writes, if it is one
abbrev pub number_of : List ℕ → Option ℕ
number_of word = cond (lawful_number word) (Some (amount word)) None

-- the number that part k of a name writes, if it is one
abbrev pub part : ℕ → List ℕ → Option ℕ
part k name = number_of (piece 58 k name)

-- the ladder of three numbers, if they are there
abbrev pub ladder_of : Option ℕ → Option ℕ → Option ℕ → Option ModelName
ladder_of None d w = None
ladder_of (Some r) None w = None
ladder_of (Some r) (Some d) None = None
ladder_of (Some r) (Some d) (Some w) = Some (Ladder (record { rungs = r; denominator = d; weight = w }))

-- the ladder that a name gives, if it is `ladder:` and three numbers, parted by colons
abbrev pub ladder_named : List ℕ → Option ModelName
ladder_named name = cond (length (pieces 58 name) == 4) (ladder_of (part 1 name) (part 2 name) (part 3 name)) None

-- the model that a name gives, if it gives one: a ladder, or the file at this path
abbrev pub model_named : List ℕ → Result ModelName Mistake
model_named name = cond (names_ladder name) (ok_or (ladder_named name) NoLadder) (Ok File)

-- the rule that a word names
abbrev pub kind_of : List ℕ → Option Kind
kind_of w = cond (bytes_eq w (codes "down")) (Some (Parts Down)) (cond (bytes_eq w (codes "up")) (Some (Parts Up)) (cond (bytes_eq w (codes "marks")) (Some Marks) None))

-- the preference that a word names
abbrev pub preference_of : List ℕ → Option Preference
preference_of w = cond (bytes_eq w (codes "greater")) (Some Greater) (cond (bytes_eq w (codes "lesser")) (Some Lesser) None)

-- a word of several, from 0; empty where there is none
abbrev pub word_at : ℕ → List (List ℕ) → List ℕ
word_at k words = slice_index_or words k []

-- what the words after `help` ask for
abbrev pub help_asked : List (List ℕ) → Result Command Mistake
help_asked [] = Ok Help
help_asked (w ∷ ws) = Err TooMany

-- the printing of a model that is named
abbrev pub print_of : Form → Result ModelName Mistake → Result Command Mistake
print_of form (Err e) = Err e
print_of form (Ok m) = Ok (Print form m)

-- what the words after `show` or `write` ask for: MODEL
abbrev pub print_asked : Form → List (List ℕ) → Result Command Mistake
print_asked form [] = Err NoModel
print_asked form (name ∷ []) = print_of form (model_named name)
print_asked form (name ∷ w ∷ ws) = Err TooMany

-- rounds on a model, by a rule, a preference and a number, if they are there
abbrev pub rounds_of : Result ModelName Mistake → Option Kind → Option Preference → Option ℕ → Result Command Mistake
rounds_of (Err e) kind p k = Err e
rounds_of (Ok m) None p k = Err (mistake.Rounds NoRule)
rounds_of (Ok m) (Some kind) None k = Err (mistake.Rounds NoPreference)
rounds_of (Ok m) (Some kind) (Some p) None = Err (mistake.Rounds NoCount)
rounds_of (Ok m) (Some kind) (Some p) (Some k) = Ok (Rounds m (record { kind = kind; preference = p; count = k }))

-- what the words after `rounds` ask for: MODEL, RULE, PREFERENCE and COUNT; VALUES are read later
abbrev pub rounds_asked : List (List ℕ) → Result Command Mistake
rounds_asked words =
    cond (nat_lt (length words) 5) (Err (mistake.Rounds TooFew))
    (cond (nat_lt 5 (length words)) (Err TooMany) (rounds_of (model_named (word_at 0 words)) (kind_of (word_at 1 words)) (preference_of (word_at 2 words)) (long_number_read (word_at 3 words))))

-- what the words after `formula` ask for: TEXT
abbrev pub formula_asked : List (List ℕ) → Result Command Mistake
formula_asked [] = Err NoFormula
formula_asked (text ∷ []) = Ok Formula
formula_asked (text ∷ w ∷ ws) = Err TooMany

-- the model that words name which are to be MODEL and the path of a file
abbrev pub model_and_file : Mistake → List (List ℕ) → Result ModelName Mistake
model_and_file missing words =
    cond (length words == 0) (Err NoModel)
    (cond (length words == 1) (Err missing) (cond (nat_lt 2 (length words)) (Err TooMany) (model_named (word_at 0 words))))

-- what a command and the words after it ask for
abbrev pub asked : Verb → List (List ℕ) → Result Command Mistake
asked verb.Help words = help_asked words
asked (verb.Print form) words = print_asked form words
asked verb.Rounds words = rounds_asked words
asked verb.Formula words = formula_asked words
asked verb.Trial words = result_map_both Trial (λ m. m) (model_and_file NoCalls words)
asked verb.Check words = result_map_both Check (λ m. m) (model_and_file NoLimits words)

-- the same of a word that may spell no command
abbrev pub asked_by : Result Verb Mistake → List (List ℕ) → Result Command Mistake
asked_by (Err e) words = Err e
asked_by (Ok v) words = asked v words

-- what the words of the command line, after the program's name, ask for
abbrev pub command_of : List (List ℕ) → Result Command Mistake
command_of [] = Err NoCommand
command_of (word ∷ words) = asked_by (verb_of word) words
