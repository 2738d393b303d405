use Rattle.std.proofs.Common.{◌≡◌, ◌+◌, ◌≤◌, None, length}
use Rattle.log_form.specs.Log.{cubes_of}
use Rattle.journal_text.specs.Ready.{KeepsReady}
use Rattle.journal_text.proofs.reader.read_expansions.Given as goal

abbrev pub invariant-loop-expanded : goal.invariant-loop-expanded
invariant-loop-expanded g l = record {
  made : g.S.MadeFor.made_for l.scratch l.protocol;
  serves : g.F.Finder.serves l.finder l.protocol;
  protocol : l.protocol ≡ l.log.protocol;
  cubes : g.F.Finder.list l.finder ≡ cubes_of l.log.nodes;
  room : l.at + length l.rest ≤ l.line + length l.text;
  keeps : KeepsReady g.M.PreImages.pieces l.protocol None l.initial.log l.line l.text l.node l.log l.at l.rest;
}

abbrev pub decreases-loop-expanded : goal.decreases-loop-expanded
decreases-loop-expanded g l = length l.rest
