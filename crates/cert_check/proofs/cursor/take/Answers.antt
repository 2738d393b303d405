use Rattle.std.proofs.Common.{sym, ◌∙◌}
use Rattle.std.proofs.lemmas.Bool.{true≢false}
use Rattle.cert_check.specs.Obligations.{IsOwed}
use Rattle.cert_check.proofs.Walking.{take_line, take_none, none_about}
use Rattle.cert_check.proofs.cursor.take.Goals as goal

pub returns-then-not-is_reached-clause-taken : goal.returns-then-not-is_reached-clause-taken
returns-then-not-is_reached-clause-taken c p cubes come owed =
    take_none (IsOwed p cubes) c.args.lines.now c.args.key c.pass_over.new.cursor c.requires.rise c.pass_over.ensures.stops
    (λ line e h. true≢false (sym (c.is_reached.ensures.1 (line, e, h)) ∙ c.if-not-is_reached.true)) (c.pass_over.ensures.come p cubes come)

pub returns-then-not-is_reached-clause-line : goal.returns-then-not-is_reached-clause-line
returns-then-not-is_reached-clause-line c =
    none_about (λ x. Unit {0}) c.args.lines.now c.args.key c.pass_over.new.cursor c.requires.rise c.pass_over.ensures.stops
    (λ line e h. true≢false (sym (c.is_reached.ensures.1 (line, e, h)) ∙ c.if-not-is_reached.true)) c.pass_over.ensures.past

pub returns-clause-taken : goal.returns-clause-taken
returns-clause-taken c p cubes come owed =
    let found = c.is_reached.ensures.0 c.if-not-is_reached.false in
    take_line (IsOwed p cubes) c.args.lines.now c.args.key c.pass_over.new.cursor c.requires.rise found.0 found.1 (c.pass_over.ensures.stops found.0 found.1) found.2 (c.pass_over.ensures.come p cubes come) owed
