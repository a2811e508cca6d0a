-- What holds of a call where it ends in an error.
use Rattle.std.specs.Prelude.{Result, Ok, Err, OnErr}

-- a fact holds where a call ended in an error, whatever the call answered
pub at_err : {T E : Type 0} (result : Result T E) {P : Type 0} → P → OnErr result P
at_err (Ok x) p = tt
at_err (Err e) p = p
