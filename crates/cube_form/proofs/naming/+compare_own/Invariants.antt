use Rattle.std.proofs.Common.{length}
use Rattle.cube_form.proofs.naming.+compare_own.Given as goal

abbrev pub decreases-compare_own : goal.decreases-compare_own
decreases-compare_own l = length l.lits.now
