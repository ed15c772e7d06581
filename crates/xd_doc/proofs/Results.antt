-- On results.
use Rattle.std.proofs.Common.{◌-◌, Result, Ok, Err, OnErr, OnOk}
use Rattle.std.specs.Result.{IfOk}

pub OnErr-holds : {T E : Type 0} (r : Result T E) (P : Type 0) → P → OnErr r P
OnErr-holds (Ok x) P h = tt
OnErr-holds (Err e) P h = h

pub on_err : {T E P : Type 0} (r : Result T E) → P → OnErr r P
on_err (Ok x) p = tt
on_err (Err e) p = p

pub ok_both : {V E : Type 0} (r : Result V E) (P Q R : V → Type 0) → ((v : V) → P v → Q v → R v) → IfOk r P → IfOk r Q → IfOk r R
ok_both (Ok v) P Q R h p q = h v p q
ok_both (Err e) P Q R h p q = tt

pub on_ok : {T E : Type 0} (r : Result T E) (P : Type 0) → P → OnOk r P
on_ok (Ok x) P h = h
on_ok (Err e) P h = tt

pub OnOk-map : {T E P Q : Type 0} (r : Result T E) → (P → Q) → OnOk r P → OnOk r Q
OnOk-map (Ok x) f h = f h
OnOk-map (Err e) f h = tt
