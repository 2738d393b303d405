use Rattle.std.proofs.Common.{◌≡◌, take}
use Rattle.theory.specs.Made.{IsFor}
use Rattle.cover_lines.specs.Added.{AddsGoalLines}
use Rattle.cover_lines.proofs.goals.push_goal_lines.Given as goal

abbrev pub invariant-loop-number : goal.invariant-loop-number
invariant-loop-number g l = record {
  made : IsFor l.protocol l.scratch;
  serves : g.F.Finder.serves l.finder l.protocol;
  same : g.F.Finder.list l.finder ≡ g.F.Finder.list l.initial.finder;
  lines : AddsGoalLines l.protocol (g.F.Finder.list l.initial.finder) (take l.number l.protocol.goals) l.initial.lines l.lines;
}
