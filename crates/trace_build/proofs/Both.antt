-- Two clauses of one answer.
use Rattle.std.proofs.Common.{Ok, Err}
use Rattle.std.specs.Prelude.{Result, IfOk}

pub both_ok : {A E : Type 0} (P Q R : A → Type 0) → ((x : A) → P x → Q x → R x) → (r : Result A E) → IfOk r P → IfOk r Q → IfOk r R
both_ok P Q R f (Ok x) p q = f x p q
both_ok P Q R f (Err e) p q = tt
