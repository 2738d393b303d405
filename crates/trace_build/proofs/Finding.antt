-- What an answer has, where it is there.
use Rattle.std.proofs.Common.{◌≡◌, Option, Some, None, Ok, Err, subst}
use Rattle.std.specs.Prelude.{Result, IfOk, IfSome}

pub found_at : {E A : Type 0} (P : A → Type 0) (r : Result (Option A) E) (o : Option A) (x : A) → r ≡ Ok o → o ≡ Some x → IfOk r (λ found. IfSome found P) → P x
found_at P (Ok None) o x is at h = let same : None ≡ o = cc in cc
found_at P (Ok (Some y)) o x is at h = (let same : y ≡ x = (let there : Some y ≡ o = cc in cc) in subst P same h)
found_at P (Err e) o x is at h = cc
