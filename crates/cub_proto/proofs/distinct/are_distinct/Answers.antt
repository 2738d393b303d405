use Rattle.std.proofs.Common.{refl, ◌<◌, length, sym, ◌∙◌, arith}
use Rattle.cub_proto.proofs.NamesSeen.{stops, goes_on, holds_next}
use Rattle.cub_proto.proofs.distinct.are_distinct.Goals as goal

-- a name seen before: the names are not distinct
pub returns-then-not-branch : goal.returns-then-not-branch
returns-then-not-branch c =
    let inside : c.loop-name.name-index < length c.args.names.now = omega arith in
    sym (sym c.loop-name.invariant.0
    ∙ stops c.args.names.now c.loop-name.name-index _ inside refl _ (c.loop-name.invariant.1 _) (sym c.in_ok-insert_name.ensures.added ∙ c.if-not-branch.true))

-- a new name: the set has one more, and the others are to come
pub loop-name-preserved : goal.loop-name-preserved
loop-name-preserved c =
    let inside : c.loop-name.name-index < length c.args.names.now = omega arith in (
      goes_on c.args.names.now c.loop-name.name-index _ inside refl _ (c.loop-name.invariant.1 _) (sym c.in_ok-insert_name.ensures.added ∙ c.if-not-branch.false) ∙ c.loop-name.invariant.0,
      λ q. c.in_ok-insert_name.ensures.after q ∙ holds_next c.args.names.now c.loop-name.name-index _ inside refl q _ (c.loop-name.invariant.1 q),
    )
