use Rattle.std.proofs.Common.{◌≡◌, ℕ, ◌+◌, ◌<◌, length}
use Rattle.log_form.specs.Log.{node_at, cubes_of}
use Rattle.log_steps.specs.Commits.{IsLinkedUpTo, AreMade}
use Rattle.log_steps.proofs.linking.link_all.Given as goal

abbrev pub invariant-loop-number : goal.invariant-loop-number
invariant-loop-number g l = record {
  made : g.S.MadeFor.made_for l.scratch l.protocol;
  serves : g.F.Finder.serves l.finder l.protocol;
  same : g.F.Finder.list l.finder ≡ g.F.Finder.list l.initial.finder;
  count : l.by ≡ l.first + l.number-index;
  linked : (i : ℕ) → i < length l.initial.nodes → IsLinkedUpTo l.protocol (cubes_of l.initial.nodes) l.first l.by i (node_at l.initial.nodes i) (node_at l.nodes i);
  tally : AreMade l.initial.nodes l.nodes l.links;
}
