use Rattle.std.proofs.Common.{◌≡◌, drop}
use Rattle.cub_names.specs.Scope.{place_of}
use Rattle.cub_names.proofs.scope.place_of.Given as goal

abbrev pub invariant-loop-local : goal.invariant-loop-local
invariant-loop-local l = place_of l.text (drop l.local-index l.scope) l.name ≡ place_of l.text l.scope l.name
