use Rattle.std.proofs.Common.{◌≡◌, take}
use Rattle.theory.specs.Made.{IsFor}
use Rattle.cover_lines.specs.Added.{AddsPieceLines}
use Rattle.cover_lines.proofs.walking.push_piece_lines.Given as goal

abbrev pub invariant-loop-of : goal.invariant-loop-of
invariant-loop-of g l = record {
  made : IsFor l.protocol l.scratch;
  serves : g.F.Finder.serves l.finder l.protocol;
  same : g.F.Finder.list l.finder ≡ g.F.Finder.list l.initial.finder;
  lines : AddsPieceLines l.protocol (g.F.Finder.list l.initial.finder) (take l.of (g.F.Finder.list l.initial.finder)) l.initial.lines l.lines;
}
