use Rattle.std.proofs.Common.{ℕ, ◌+◌, Option, sym, subst}
use Rattle.cert_check.specs.Obligations.{IsOwed}
use Rattle.cert_check.specs.Walked.{HasCome}
use Rattle.cert_check.proofs.Walking.{past_more, come_more}
use Rattle.cert_check.proofs.cursor.pass_over.Goals as goal

pub loop-key-preserved : goal.loop-key-preserved
loop-key-preserved c =
    let found = c.is_passed.ensures.0 c.loop-key-test.true in
    record {
      past = past_more (λ x. Unit {0}) c.args.lines.now c.args.key c.loop-key.cursor found.0 found.1 found.2 c.first_extra-cursor.result c.loop-key.invariant.past;
      come = λ p cubes come.
          subst (λ (e : Option ℕ). HasCome (IsOwed p cubes) c.args.lines.now c.args.key (record { at = c.loop-key.cursor.at + 1; extra = e })) (sym c.first_extra-cursor.ensures)
          (come_more (IsOwed p cubes) c.args.lines.now c.args.key c.loop-key.cursor found.0 found.1 found.2 (c.loop-key.invariant.come p cubes come));
    }
