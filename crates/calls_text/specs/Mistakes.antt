-- What is told of a mistake in a text of calls.
use Rattle.std.specs.Prelude.{ℕ, List, ◌++◌, codes, decimal}
use Rattle.calls_text.specs.declared.kind.LineKind.TheVariants.{Hold, Start, Advance, Ends, Verdict, Judge}
use Rattle.calls_text.specs.declared.mistake.Wrong.{Wrong}
use Rattle.calls_text.specs.declared.mistake.Wrong.TheVariants.{Word, Late, Form}
use Rattle.calls_text.specs.declared.mistake.Mistake.{Mistake}

-- the words on a wrong line: what is wrong, and what to write
abbrev pub wrong_words : Wrong → List ℕ
wrong_words Word = codes "no line begins with this word; write hold, start, advance, ends, verdict or judge, or # before a remark"
wrong_words Late = codes "a state cannot be held after a call; write all hold lines before the first call"
wrong_words (Form Hold) = codes "this holds no state; write hold STATE, as hold 3"
wrong_words (Form Start) = codes "this starts no query; write start best LEFT RIGHT or start worst LEFT RIGHT with a digit for each state, 1 for one in the set and 0 for any other, or - for none, as start best 111 010"
wrong_words (Form Advance) = codes "this advances by no count; write advance COUNT, a number of one to ten digits that does not start with a needless 0, as advance 100"
wrong_words (Form Ends) = codes "this asks for the ends at no state; write ends STATE, as ends 0"
wrong_words (Form Verdict) = codes "this asks for no verdict; write verdict STATE COMPARISON BOUND, where COMPARISON is <, <=, > or >=, as verdict 0 >= 900000000"
wrong_words (Form Judge) = codes "this asks for no judge; write judge FORMULA, as judge P>0[Xa], or judge FORMULA RECORDS SCRATCH OUT with at most 64 records and at most 65536 bytes of scratch and of output"

-- what is told of a mistake: the number of the line, from 1, and the words
abbrev pub mistake_text : Mistake → List ℕ
mistake_text m = codes "line " ++ (decimal m.line ++ (codes ": " ++ wrong_words m.wrong))
