-- Numbers that stand for values of a rule.
use Rattle.std.specs.Prelude.{ℕ, Bool, true, cond, List, map, Ok, Err, Result, ◌==◌, nat_le}
use Rattle.std.specs.List.{list_all}
use Rattle.theory.specs.Mixes.{whole}
use Rattle.rules.specs.declared.fault.PartFault.{PartFault}
use Rattle.rules.specs.declared.fault.PartFault.TheVariants.{Units}
use Rattle.rules.specs.declared.part.Part.{Part}
use Rattle.rules.specs.Parts.{part_of, units_of}

-- which numbers stand for a value of V, the value that a number stands for, and the number that stands for a value
pub record Numbering (V : Type 0) : Type 0 where
  pub lawful : ℕ → Bool
  pub value : ℕ → V
  pub number : V → ℕ

-- making the value that a number stands for
abbrev pub value_made : {V : Type 0} → Numbering V → ℕ → Result V PartFault
value_made v n = cond (v.lawful n) (Ok (v.value n)) (Err Units)

-- making those that numbers stand for
abbrev pub values_made : {V : Type 0} → Numbering V → List ℕ → Result (List V) PartFault
values_made v numbers = cond (list_all v.lawful numbers) (Ok (map v.value numbers)) (Err Units)

-- numbers up to the whole stand for parts, by their units
abbrev pub parts_numbering : Numbering Part
parts_numbering = record { lawful = λ n. nat_le n whole; value = part_of; number = units_of }

-- 1 stands for the mark yes, and any other number for no; no is told as 0
abbrev pub marks_numbering : Numbering Bool
marks_numbering = record { lawful = λ n. true; value = λ n. n == 1; number = λ mark. cond mark 1 0 }
