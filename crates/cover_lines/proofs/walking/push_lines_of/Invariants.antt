use Rattle.std.proofs.Common.{◌≡◌, take}
use Rattle.theory.specs.Made.{IsFor}
use Rattle.cover_lines.specs.Obligations.{piece_obligations}
use Rattle.cover_lines.specs.Added.{AddsLines}
use Rattle.cover_lines.proofs.walking.push_lines_of.Given as goal

abbrev pub invariant-loop-number : goal.invariant-loop-number
invariant-loop-number g l = record {
  made : IsFor l.protocol l.scratch;
  serves : g.F.Finder.serves l.finder l.protocol;
  same : g.F.Finder.list l.finder ≡ g.F.Finder.list l.initial.finder;
  lines : AddsLines l.protocol (g.F.Finder.list l.initial.finder) (piece_obligations l.of (take l.number l.list)) l.initial.lines l.lines;
}
