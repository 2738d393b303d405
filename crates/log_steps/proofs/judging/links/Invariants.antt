use Rattle.std.proofs.Common.{◌≡◌, ◌++◌, ◌-◌, List, length}
use Rattle.log_steps.specs.declared.judgement.Under.{Under}
use Rattle.log_steps.specs.Judged.{AreUnder}
use Rattle.log_steps.proofs.judging.links.Given as goal

abbrev pub invariant-loop-under : goal.invariant-loop-under
invariant-loop-under g l = record {
  made : g.S.MadeFor.made_for l.scratch l.protocol;
  serves : g.F.Finder.serves l.finder l.protocol;
  same : g.F.Finder.list l.finder ≡ g.F.Finder.list l.initial.finder;
  rest : (rest : List Under) → AreUnder l.protocol (g.F.Finder.list l.initial.finder) l.at l.cube rest
      → AreUnder l.protocol (g.F.Finder.list l.initial.finder) 0 l.cube (l.under ++ rest);
}

abbrev pub decreases-loop-under : goal.decreases-loop-under
decreases-loop-under g l = length (g.F.Finder.list l.finder) - l.at
