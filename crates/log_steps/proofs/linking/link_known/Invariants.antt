use Rattle.std.proofs.Common.{◌≡◌, drop}
use Rattle.log_steps.specs.Commits.{AreMade}
use Rattle.log_steps.proofs.LinkLemmas.{AreLeft}
use Rattle.log_steps.proofs.linking.link_known.Given as goal

abbrev pub invariant-loop-link : goal.invariant-loop-link
invariant-loop-link g l = record {
  serves : g.F.Finder.serves l.finder l.protocol;
  same : g.F.Finder.list l.finder ≡ g.F.Finder.list l.initial.finder;
  left : AreLeft l.protocol (g.F.Finder.list l.initial.finder) l.pick.cube l.by l.seen (drop l.link-index l.pick.under) l.initial.nodes l.nodes;
  made : AreMade l.initial.nodes l.nodes l.links;
}
