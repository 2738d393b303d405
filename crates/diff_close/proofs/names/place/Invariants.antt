-- The terms below i are others.
use Rattle.std.proofs.Common.{◌≡◌, ℕ, ◌<◌, false, get_or}
use Rattle.cub_proto.specs.declared.literal.Term.TheVariants.{Global}
use Rattle.diff_close.specs.Names.{term_eq}
use Rattle.diff_close.proofs.names.place.Given as goal

abbrev pub invariant-loop-i : goal.invariant-loop-i
invariant-loop-i l = (k : ℕ) → k < l.i → term_eq (get_or l.terms k (Global 0)) l.term ≡ false
