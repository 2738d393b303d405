use Rattle.std.proofs.Common.{◌≡◌, ◌++◌, take}
use Rattle.log_form.specs.Log.{added_cubes}
use Rattle.log_steps.proofs.committing.push_cubes.Given as goal

abbrev pub invariant-loop-one : goal.invariant-loop-one
invariant-loop-one g l = record {
  serves : g.F.Finder.serves l.finder l.protocol;
  list : g.F.Finder.list l.finder ≡ g.F.Finder.list l.initial.finder ++ added_cubes (take l.one-index l.added);
}
