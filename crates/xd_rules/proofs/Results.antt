-- Results of calls.
use Rattle.std.proofs.Common.{Result, Ok, Err, IsErr, OnOk}

pub OnOk-from_err : {T E : Type 0} (r : Result T E) (P : Type 0) → IsErr r → OnOk r P
OnOk-from_err (Ok x) P e = absurd (cc)
OnOk-from_err (Err x) P e = tt
