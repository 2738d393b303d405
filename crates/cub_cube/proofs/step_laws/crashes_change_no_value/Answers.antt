use Rattle.std.proofs.Common.{sym, subst}
use Rattle.cub_cube.specs.Crashes.{IsCrashed}
use Rattle.cub_cube.proofs.CrashLemmas.{after_crashes, killed_all_crashed, crashed_satisfies, kept_satisfies}
use Rattle.cub_cube.proofs.step_laws.crashes_change_no_value.Goals as goal

pub returns-clause-crashed : goal.returns-clause-crashed
returns-clause-crashed c p s processes = subst (IsCrashed s) (sym (after_crashes p s processes)) (killed_all_crashed s processes)

pub returns-clause-before : goal.returns-clause-before
returns-clause-before c = crashed_satisfies

pub returns-clause-behind : goal.returns-clause-behind
returns-clause-behind c = kept_satisfies
