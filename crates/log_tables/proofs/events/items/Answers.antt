use Rattle.std.proofs.Common.{All, subst, sym}
use Rattle.std.proofs.lemmas.List.Elements.{All-push}
use Rattle.log_form.specs.declared.event.Added.{Added}
use Rattle.log_steps.specs.Readable.{IsReadable}
use Rattle.log_tables.proofs.events.items.Goals as goal

pub returns-then-is_empty : goal.returns-then-is_empty
returns-then-is_empty c =
    subst (All (λ (a : Added). IsReadable c.args.protocol.now a.cube)) (sym c.in_ok-push.ensures.ok)
    (All-push (λ (a : Added). IsReadable c.args.protocol.now a.cube) c.loop-turn.list c.in_ok-one.one c.loop-turn.invariant c.in_ok-one.ensures)

pub loop-turn-preserved : goal.loop-turn-preserved
loop-turn-preserved c =
    subst (All (λ (a : Added). IsReadable c.args.protocol.now a.cube)) (sym c.in_ok-push.ensures.ok)
    (All-push (λ (a : Added). IsReadable c.args.protocol.now a.cube) c.loop-turn.list c.in_ok-one.one c.loop-turn.invariant c.in_ok-one.ensures)
