-- What `help` prints, and the sentences on a wrong command line.
use Rattle.std.specs.Prelude.{ℕ, List, ◌++◌, codes}
use Rattle.console.specs.declared.command.Mistake.{Mistake}
use Rattle.console.specs.declared.command.Mistake.TheVariants.{NoCommand, NoSuchCommand, NoModel, NoFormula, NoCalls, NoLimits, TooMany, NoLadder, Rounds}
use Rattle.console.specs.declared.command.RoundsMistake.TheVariants.{TooFew, NoRule, NoPreference, NoCount, NoValues, NoMarks}
use Rattle.console.specs.Commands.{word_at}

-- the page that `help` prints
abbrev pub help_text : List ℕ
help_text =
    codes "kavzhubo shows and writes Markov decision processes, runs rounds on them, reads\n"
    ++ (codes "formulas, replays calls on trials, and checks lists of limits.\n"
    ++ (codes "\n"
    ++ (codes "  kavzhubo show MODEL     print the size of a model and a line for each state\n"
    ++ (codes "  kavzhubo write MODEL    print the text of a model, byte for byte\n"
    ++ (codes "  kavzhubo rounds MODEL RULE PREFERENCE COUNT VALUES\n"
    ++ (codes "                          print the values of the states after rounds\n"
    ++ (codes "  kavzhubo formula TEXT   print the records that a formula is read into\n"
    ++ (codes "  kavzhubo trial MODEL CALLS\n"
    ++ (codes "                          make calls on a trial of a model, print their answers\n"
    ++ (codes "  kavzhubo check MODEL LIMITS\n"
    ++ (codes "                          judge every formula of a list on a model\n"
    ++ (codes "  kavzhubo help           print this page\n"
    ++ (codes "\n"
    ++ (codes "MODEL is the path of a model text, or ladder:RUNGS:DENOMINATOR:WEIGHT for a\n"
    ++ (codes "ladder, as ladder:2:4:3. Write ./ladder:x for a file whose name begins so.\n"
    ++ (codes "\n"
    ++ (codes "In a round each state gets the greatest, or the least, of the mixes of its\n"
    ++ (codes "choices: PREFERENCE is greater or lesser. RULE is down or up for values in parts,\n"
    ++ (codes "1000000000 being the whole, whose mix is the weighted mean, rounded so; or marks\n"
    ++ (codes "for values 0 and 1, whose mix is 1 where a branch leads to a 1. COUNT is 0 to\n"
    ++ (codes "100000. VALUES has a number for each state, parted by commas. The first line has\n"
    ++ (codes "the values after COUNT rounds, the second those after one round less.\n"
    ++ (codes "\n"
    ++ (codes "TEXT is a formula, with no blanks: true, a letter from a to p, !f, (f&g), or P,\n"
    ++ (codes "a comparison (< <= > >=), a bound out of 1000000000 and [Xf], [fUg] or\n"
    ++ (codes "[fU<=STEPSg]. An until without steps stands under >0, <=0 or >=1000000000. Put\n"
    ++ (codes "TEXT in quotes: '(a&P>=500000000[trueU<=10b])'. A record has its number, the\n"
    ++ (codes "number of its kind (0 true, 1 a letter, 2 !, 3 &, 4 X, 5 U<=, 6 U), the records\n"
    ++ (codes "of its parts, its comparison (1 to 4, in the order above), its letter (0 for a)\n"
    ++ (codes "or its bound, and its steps; what it has not is 0.\n"
    ++ (codes "\n"
    ++ (codes "CALLS is the path of a text of calls, a line for each, that are made in turn on a\n"
    ++ (codes "trial of the model. Empty lines and those that begin with # are passed over.\n"
    ++ (codes "\n"
    ++ (codes "  hold STATE              hold a state; such lines come before all others\n"
    ++ (codes "  start AIM LEFT RIGHT    begin a query for left until right; AIM is best or worst,\n"
    ++ (codes "                          LEFT and RIGHT have a digit for each state, 1 for those\n"
    ++ (codes "                          in the set and 0 for the others\n"
    ++ (codes "  advance COUNT           run so many rounds of the query\n"
    ++ (codes "  ends STATE              print its two ends at a state, and its rounds\n"
    ++ (codes "  verdict STATE COMPARISON BOUND\n"
    ++ (codes "                          compare the probability with a bound out of 1000000000\n"
    ++ (codes "  judge FORMULA           judge a formula at every state; this ends the query\n"
    ++ (codes "\n"
    ++ (codes "A call that is refused has its refusal for an answer.\n"
    ++ (codes "\n"
    ++ (codes "LIMITS is the path of a list of formulas, one a line. Empty lines are passed\n"
    ++ (codes "over, and lines that begin with # are printed as headings. For each formula the\n"
    ++ (codes "verdict at every state is printed, and at the end how many hold at every state.\n"
    ++ (codes "Standard error tells which of several formulas comes next. One that is refused\n"
    ++ (codes "does not stop the list, and makes the exit status 1; a no does not.\n"
    ++ (codes "\n"
    ++ (codes "A model text has one record on each line. One tab parts two fields of a line,\n"
    ++ (codes "and a line feed ends each line, the last one too:\n"
    ++ (codes "\n"
    ++ (codes "  mdp STATES DENOMINATOR  comes first; 1 to 512 states, denominator 1 to 1000000\n"
    ++ (codes "  s LABELS                a state, from 0; letters a to p, ascending, or - for none\n"
    ++ (codes "  c                       a choice of the state\n"
    ++ (codes "  b TARGET WEIGHT         a branch of the choice; targets ascend, and the weights\n"
    ++ (codes "                          of a choice add up to the denominator\n"
    ++ (codes "  end                     comes last\n"
    ++ (codes "\n"
    ++ (codes "A text that breaks a rule is refused. The answer then begins with the word\n"
    ++ (codes "refused, the number of the rule and the line, or the place in a formula, from 0;\n"
    ++ (codes "for a wrong field come its number, the word being field 0, and the length of its\n"
    ++ (codes "lawful beginning. A caret stands under the place. The exit status is 0, or 1\n"
    ++ (codes "where something is refused or wrong.\n")))))))))))))))))))))))))))))))))))))))))))))))))))))))))))))))))))

-- which word of the command line a sentence on a mistake names
abbrev pub mistaken : Mistake → ℕ
mistaken NoCommand = 0
mistaken NoSuchCommand = 0
mistaken NoModel = 0
mistaken NoFormula = 0
mistaken NoCalls = 1
mistaken NoLimits = 1
mistaken TooMany = 0
mistaken NoLadder = 1
mistaken (Rounds TooFew) = 0
mistaken (Rounds NoRule) = 2
mistaken (Rounds NoPreference) = 3
mistaken (Rounds NoCount) = 4
mistaken (Rounds NoValues) = 5
mistaken (Rounds NoMarks) = 5

-- what the sentence says before that word
abbrev pub before_word : Mistake → List ℕ
before_word NoCommand = codes "kavzhubo: there is no command"
before_word NoSuchCommand = codes "kavzhubo: there is no command "
before_word NoModel = codes "kavzhubo: which model? Write its path, or ladder:RUNGS:DENOMINATOR:WEIGHT, after "
before_word NoFormula = codes "kavzhubo: which formula? Write its text after "
before_word NoCalls = codes "kavzhubo: which calls? Write the path of their text after "
before_word NoLimits = codes "kavzhubo: which limits? Write the path of their list after "
before_word TooMany = codes "kavzhubo: there are too many words after "
before_word NoLadder = codes "kavzhubo: this names no ladder: "
before_word (Rounds TooFew) = codes "kavzhubo: there are too few words after "
before_word (Rounds NoRule) = codes "kavzhubo: there is no rule "
before_word (Rounds NoPreference) = codes "kavzhubo: there is no preference "
before_word (Rounds NoCount) = codes "kavzhubo: this is no number of rounds: "
before_word (Rounds NoValues) = codes "kavzhubo: these are no values: "
before_word (Rounds NoMarks) = codes "kavzhubo: these are no marks: "

-- what the sentence says after that word
abbrev pub after_word : Mistake → List ℕ
after_word NoCommand = codes "; kavzhubo help lists the commands\n"
after_word NoSuchCommand = codes "; kavzhubo help lists the commands\n"
after_word NoModel = codes "\n"
after_word NoFormula = codes ", in quotes, as 'P>=500000000[trueU<=10a]'\n"
after_word NoCalls = codes "\n"
after_word NoLimits = codes "\n"
after_word TooMany = codes "; kavzhubo help says what may follow it\n"
after_word NoLadder = codes "; write ladder:RUNGS:DENOMINATOR:WEIGHT with three numbers of one to seven digits, as ladder:2:4:3\n"
after_word (Rounds TooFew) = codes "; write MODEL RULE PREFERENCE COUNT VALUES, as ladder:2:4:3 down greater 10 0,0,1000000000\n"
after_word (Rounds NoRule) = codes "; write down, up or marks\n"
after_word (Rounds NoPreference) = codes "; write greater or lesser\n"
after_word (Rounds NoCount) = codes "; write 0, or one to ten digits that do not start with 0\n"
after_word (Rounds NoValues) = codes "; write numbers parted by commas, each 0, or one to ten digits that do not start with 0\n"
after_word (Rounds NoMarks) = codes "; write 0 for no and 1 for yes, parted by commas\n"

-- what is said of a wrong command line, given its words
abbrev pub mistake_text : Mistake → List (List ℕ) → List ℕ
mistake_text m args = before_word m ++ (word_at (mistaken m) args ++ after_word m)

-- what is said where no file can be read at a path
abbrev pub no_file_text : List ℕ → List ℕ
no_file_text path = codes "kavzhubo: no file can be read at " ++ (path ++ codes "; see that it is there, that it is a file and that you may read it\n")

-- what is said of a line that is wrong of the file at a path, given what the mistake says
abbrev pub wrong_line_text : List ℕ → List ℕ → List ℕ
wrong_line_text path mistake = codes "kavzhubo: " ++ (path ++ (codes ", " ++ (mistake ++ codes "\n")))
