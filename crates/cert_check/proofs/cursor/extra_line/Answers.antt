use Rattle.cert_check.specs.Obligations.{IsOwed}
use Rattle.cert_check.proofs.Walking.{ended_extra, ended_none}
use Rattle.cert_check.proofs.cursor.extra_line.Goals as goal

pub returns-then-cursor-lines : goal.returns-then-cursor-lines
returns-then-cursor-lines c p cubes ended = ended_extra (IsOwed p cubes) c.args.lines.now c.args.cursor.now ended c.in-None.is c.if-cursor-lines.true

pub returns-else-cursor-lines : goal.returns-else-cursor-lines
returns-else-cursor-lines c p cubes ended = ended_none (IsOwed p cubes) c.args.lines.now c.args.cursor.now ended c.in-None.is c.if-cursor-lines.false
