use Rattle.std.proofs.Common.{◌+◌, drop, subst, sym, ap, ◌∙◌}
use Rattle.std.proofs.lemmas.List.{at_drop_more}
use Rattle.replay.specs.Writes.{SameShape, written, written_at}
use Rattle.replay.proofs.Shapes.{written_at_shape}
use Rattle.replay.proofs.effect.write_updates.Goals as goal

pub loop-update-preserved : goal.loop-update-preserved
loop-update-preserved c =
    let s = c.args.state.now in
    let params = c.args.params.now in
    let us = c.args.updates.now in
    let u = c.update-item.result in
    let i = c.loop-update.update-index in
    let next = c.loop-update.next in
    let inv = c.loop-update.invariant in
    record {
      rest =
          ap (λ t. written s params t (drop (i + 1) us)) c.write_update.ensures
          ∙ ap (λ v. written s params (written_at s params v next v.target) (drop (i + 1) us)) c.update-item.is
          ∙ sym (at_drop_more (written s params next) us i u c.loop-update-test.true) ∙ inv.rest;
      shape = subst (SameShape s) (sym c.write_update.ensures) (written_at_shape s next params u u.target inv.shape);
    }
