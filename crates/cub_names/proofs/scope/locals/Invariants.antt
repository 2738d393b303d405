use Rattle.std.proofs.Common.{◌≡◌, ◌++◌, true, drop, length, nat_lt, ◌≤◌}
use Rattle.std.specs.List.{list_all}
use Rattle.cub_names.specs.Scope.{locals_from, scope_fits}
use Rattle.cub_names.proofs.scope.locals.Given as goal

abbrev pub invariant-loop-place : goal.invariant-loop-place
invariant-loop-place l = record {
  few : length l.few ≤ 255;
  value : l.scope ++ locals_from l.place (drop l.place l.few) ≡ locals_from 0 l.few;
  fits : scope_fits (length l.few) l.scope ≡ true;
}
