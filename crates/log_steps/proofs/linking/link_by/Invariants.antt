use Rattle.std.proofs.Common.{◌≡◌, ◌-◌, ◌≤◌, length}
use Rattle.log_steps.specs.Commits.{AreLinked, AreMade}
use Rattle.log_steps.proofs.linking.link_by.Given as goal

abbrev pub invariant-loop-link : goal.invariant-loop-link
invariant-loop-link g l = record {
  made : g.S.MadeFor.made_for l.scratch l.protocol;
  serves : g.F.Finder.serves l.finder l.protocol;
  same : g.F.Finder.list l.finder ≡ g.F.Finder.list l.initial.finder;
  begun : l.start ≤ l.at;
  few : l.at ≤ length l.initial.nodes;
  linked : AreLinked l.protocol l.cube l.by l.start l.at l.initial.nodes l.nodes;
  tally : AreMade l.initial.nodes l.nodes l.links;
}

abbrev pub decreases-loop-link : goal.decreases-loop-link
decreases-loop-link g l = length (g.F.Finder.list l.finder) - l.at
