use Rattle.std.proofs.Common.{◌≡◌, take}
use Rattle.text.specs.Fields.{amount}
use Rattle.text.proofs.Digits.{Number}
use Rattle.text.proofs.number.amount.Given as goal

-- what is read so far is the number that the digits before write
abbrev pub invariant-loop-digit : goal.invariant-loop-digit
invariant-loop-digit l = Number 10 l.digits × (l.value ≡ amount (take l.digit-index l.digits))
