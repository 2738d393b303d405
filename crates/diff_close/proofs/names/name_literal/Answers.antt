use Rattle.std.proofs.Common.{◌≡◌, ℕ, ◌≤◌, sym, subst, List, length, arith}
use Rattle.cub_proto.specs.declared.literal.Term.{Term}
use Rattle.cub_proto.specs.declared.literal.Lit.{Lit}
use Rattle.diff_close.specs.Literals.{IsAmong, MentionsOnly}
use Rattle.diff_close.specs.AreNames.{AreNames}
use Rattle.diff_close.proofs.names.name_literal.Goals as goal

pub name_side-requires-in-Diff : goal.name_side-requires-in-Diff
name_side-requires-in-Diff c =
    let both : IsAmong c.requires.room.0 c.in-Diff.a × IsAmong c.requires.room.0 c.in-Diff.b = subst (λ (l : Lit). MentionsOnly c.requires.room.0 l) c.in-Diff.is c.requires.room.3 in
    record { room = (c.requires.room.0, omega (arith, c.requires.room.1, c.name_side.ensures.capacity), c.name_side.ensures.kept c.requires.room.0 c.requires.room.2 both.0, both.1) }

pub returns-in-Diff-clause-kept : goal.returns-in-Diff-clause-kept
returns-in-Diff-clause-kept c all are only =
    let both : IsAmong all c.in-Diff.a × IsAmong all c.in-Diff.b = subst (λ (l : Lit). MentionsOnly all l) c.in-Diff.is only in
    c.name_side-in-Diff.ensures.kept all (c.name_side.ensures.kept all are both.0) both.1
