use Rattle.std.proofs.Common.{◌≡◌, drop}
use Rattle.log_steps.proofs.KeepLemmas.{AreKeptOf}
use Rattle.log_steps.proofs.keeping.kept.Given as goal

abbrev pub invariant-loop-pick : goal.invariant-loop-pick
invariant-loop-pick g l = record {
  made : g.S.MadeFor.made_for l.scratch l.protocol;
  serves : g.F.Finder.serves l.finder l.protocol;
  same : g.F.Finder.list l.finder ≡ g.F.Finder.list l.initial.finder;
  count : l.number ≡ l.pick-index;
  kept : AreKeptOf l.protocol (drop l.seen (g.F.Finder.list l.initial.finder)) l.picks l.pick-index l.which;
}
