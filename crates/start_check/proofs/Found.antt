-- What two facts say together of a value that is found.
use Rattle.std.proofs.Common.{Option, Some, None, Result, Ok, Err}
use Rattle.std.specs.Prelude.{IfOk, IfSome}

pub both_found : {E X : Type 0} (r : Result (Option X) E) (P Q R : X → Type 0) → ((x : X) → P x → Q x → R x) → IfOk r (λ found. IfSome found P) → IfOk r (λ found. IfSome found Q) → IfOk r (λ found. IfSome found R)
both_found (Ok (Some x)) P Q R f h k = f x h k
both_found (Ok None) P Q R f h k = h
both_found (Err e) P Q R f h k = h
