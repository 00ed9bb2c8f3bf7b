-- What the reader knows of what it has read, and that it is so of the formula that stands there.
use Rattle.std.specs.Prelude.{◌≡◌, ℕ, ◌+◌, ◌-◌, ◌<◌, ◌≤◌, max, List, [], ◌∷◌, length, is_some, Some, None, Ok, Err, Option, Result, nat_le, slice_set}
use Rattle.std.specs.Option.{option_or}
use Rattle.text.specs.Refusals.{ask}
use Rattle.theory.specs.Mixes.{whole}
use Rattle.theory.specs.Formulas.{Comparison, Formula, PathFormula, extremal, most_steps}
use Rattle.grammar.specs.Words.{Stands, Refused}
use Rattle.grammar.specs.Spelling.{print, print_path, Spelled, SpelledPath}
use Rattle.grammar.specs.Languages.{StateWord, PathWord, AtomWord}
use Rattle.formula.specs.declared.token.Number.{Number}
use Rattle.formula.specs.declared.token.Bound.{Bound}
use Rattle.records.specs.declared.record.Kind.{Kind}
use Rattle.records.specs.declared.record.Kind.TheVariants.{Truth, Label, Negation, Conjunction, Next, UntilWithin, Until}
use Rattle.records.specs.declared.record.Record.{Record}
use Rattle.formula.specs.declared.reading.Reading.{Reading}
use Rattle.formula.specs.declared.reading.Path.{Path}
use Rattle.formula.specs.Tokens.{meant}
use Rattle.formula.specs.Records.{size, path_size, line, records, path_records, path_kind, path_first, path_second, path_steps}
use Rattle.formula.specs.Questions.{first_large, path_first_large, first_unbounded, path_first_unbounded, depth, path_depth}

-- a formula without parts
abbrev pub atom : ℕ → ℕ → Reading
atom end count = record { end = end; count = count + 1; depth = 1; large = None; unbounded = None }

-- a part and the next one together
abbrev pub joined : Reading → Reading → Reading
joined l r = record {
  end = r.end;
  count = r.count;
  depth = max l.depth r.depth;
  large = option_or l.large r.large;
  unbounded = option_or l.unbounded r.unbounded;
}

-- the formula that has these parts and ends there
abbrev pub entire : Reading → ℕ → Reading
entire r end = record { end = end; count = r.count + 1; depth = r.depth + 1; large = r.large; unbounded = r.unbounded }

-- the same with what was found before it in the text
abbrev pub preceded : Option ℕ → Option ℕ → Reading → Reading
preceded large unbounded r = record {
  end = r.end;
  count = r.count;
  depth = r.depth;
  large = option_or large r.large;
  unbounded = option_or unbounded r.unbounded;
}

-- a next over a part
abbrev pub next_path : Reading → Path
next_path r = record { kind = Next; first = r.count - 1; second = 0; steps = 0; parts = r }

-- an until of two parts with its steps
abbrev pub until_path : Reading → Option Number → Reading → Path
until_path l None r = record { kind = Until; first = l.count - 1; second = r.count - 1; steps = 0; parts = joined l (preceded None None r) }
until_path l (Some n) r = record {
  kind = UntilWithin;
  first = l.count - 1;
  second = r.count - 1;
  steps = n.value;
  parts = joined l (preceded (ask (nat_le n.value most_steps) n.place) None r);
}

-- the place, if a probability of this kind is an until without steps under a bound that is none of its three
abbrev pub kind_unbounded : Kind → Comparison → ℕ → ℕ → Option ℕ
kind_unbounded Truth c b at = None
kind_unbounded Label c b at = None
kind_unbounded Negation c b at = None
kind_unbounded Conjunction c b at = None
kind_unbounded Next c b at = None
kind_unbounded UntilWithin c b at = None
kind_unbounded Until c b at = ask (is_some (extremal c b)) at

-- the probability over a path, from `at` to the end
abbrev pub probability : ℕ → Bound → Path → ℕ → Reading
probability at b p end = entire (preceded (ask (nat_le b.number.value whole) b.number.place) (kind_unbounded p.kind (meant b.comparison) b.number.value at) p.parts) end

-- its record
abbrev pub path_record : Path → Bound → Record
path_record p b = line p.kind p.first p.second (Some b.comparison) b.number.value p.steps

-- a list with others written over it from place k on, as far as it goes
abbrev pub overlaid : {A : Type 0} → List A → ℕ → List A → List A
overlaid under k [] = under
overlaid under k (x ∷ xs) = overlaid (slice_set under k x) (k + 1) xs

-- a state formula stands in the text from `at` on, what is known of it is so, and its records are written from number `count` on
pub record StateRead (text : List ℕ) (at count : ℕ) (lent left : List Record) (r : Reading) : Type 0 where
  pub formula : Formula
  pub spelled : Spelled formula
  pub stands : Stands (print formula) text at r.end
  pub counts : r.count ≡ count + size formula
  pub deep : r.depth ≡ depth formula
  pub large : r.large ≡ first_large at formula
  pub unbounded : r.unbounded ≡ first_unbounded at formula
  pub written : left ≡ overlaid lent count (records count formula)
  pub some : count < r.count
  pub held : r.count + at ≤ r.end + count
  pub short : r.depth + at ≤ r.end
  pub ahead : at < r.end
  pub within : r.end ≤ length text

-- the same of a path formula
pub record PathRead (text : List ℕ) (at count : ℕ) (lent left : List Record) (r : Path) : Type 0 where
  pub path : PathFormula
  pub spelled : SpelledPath path
  pub stands : Stands (print_path path) text at r.parts.end
  pub counts : r.parts.count ≡ count + path_size path
  pub deep : r.parts.depth ≡ path_depth path
  pub large : r.parts.large ≡ path_first_large at path
  pub unbounded : r.parts.unbounded ≡ path_first_unbounded at path
  pub kind : r.kind ≡ path_kind path
  pub first : r.first ≡ path_first count path
  pub second : r.second ≡ path_second count path
  pub steps : r.steps ≡ path_steps path
  pub written : left ≡ overlaid lent count (path_records count path)
  pub some : count < r.parts.count
  pub held : r.parts.count + at ≤ r.parts.end + count
  pub short : r.parts.depth + at ≤ r.parts.end
  pub ahead : at < r.parts.end
  pub within : r.parts.end ≤ length text

-- what reading a state formula answers: what is known of it, or the place where every beginning of one breaks off
abbrev pub StateReads : List ℕ → ℕ → ℕ → List Record → List Record → Result Reading ℕ → Type 0
StateReads text at count lent left (Ok r) = StateRead text at count lent left r
StateReads text at count lent left (Err p) = Refused StateWord text at p

-- the same of a path formula
abbrev pub PathReads : List ℕ → ℕ → ℕ → List Record → List Record → Result Path ℕ → Type 0
PathReads text at count lent left (Ok r) = PathRead text at count lent left r
PathReads text at count lent left (Err p) = Refused PathWord text at p

-- the same of a formula without parts
abbrev pub AtomReads : List ℕ → ℕ → ℕ → List Record → List Record → Result Reading ℕ → Type 0
AtomReads text at count lent left (Ok r) = StateRead text at count lent left r
AtomReads text at count lent left (Err p) = Refused AtomWord text at p
