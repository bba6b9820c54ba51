-- What holds of a result holds of what follows from it.
use Rattle.std.proofs.Common.{Result, Ok, Err, IfOk}

pub ok_then : {A E : Type 0} (r : Result A E) {P Q : A → Type 0} → ((a : A) → P a → Q a) → IfOk r P → IfOk r Q
ok_then (Ok a) f h = f a h
ok_then (Err e) f h = tt
