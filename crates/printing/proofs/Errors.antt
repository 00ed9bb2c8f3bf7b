-- What holds where a call ends in an error.
use Rattle.std.proofs.Common.{Result, Ok, Err, OnErr}

-- what holds anyway holds after an error
pub after_error : {A E : Type 0} {P : Type 0} (r : Result A E) → P → OnErr r P
after_error (Ok x) p = tt
after_error (Err e) p = p
