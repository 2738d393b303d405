use Rattle.std.proofs.Common.{◌≡◌, take}
use Rattle.log_steps.specs.Admitted.{AreAdmitted}
use Rattle.log_steps.proofs.admitting.admit_list.Given as goal

abbrev pub invariant-loop-piece : goal.invariant-loop-piece
invariant-loop-piece g l = record {
  made : g.S.MadeFor.made_for l.scratch l.protocol;
  serves : g.F.Finder.serves l.finder l.protocol;
  same : g.F.Finder.list l.finder ≡ g.F.Finder.list l.initial.finder;
  so : AreAdmitted l.protocol (g.F.Finder.list l.initial.finder) l.items l.room (take l.piece-index l.list) l.picks l.ended;
}
