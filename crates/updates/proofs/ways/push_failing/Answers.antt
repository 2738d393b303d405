use Rattle.std.proofs.Common.{◌++◌, ◌+◌, ◌<◌, [], ◌∷◌, drop, length, get_or, true, sym, ap, subst, ◌∙◌}
use Rattle.std.specs.Prelude.{slice_index_or}
use Rattle.cub_proto.specs.StateOf.{signature_of}
use Rattle.cub_proto.specs.Negation.{negated}
use Rattle.cub_cube.specs.Rename.{renamed, renamed_all}
use Rattle.cub_cube.specs.Replace.{constant}
use Rattle.updates.specs.Ways.{failing}
use Rattle.updates.proofs.Pushing.{fails_at, push_more}
use Rattle.updates.proofs.ways.push_failing.Goals as goal

pub bounds-fails-at : goal.bounds-fails-at
bounds-fails-at c =
    (fails_at (signature_of c.args.protocol.now) c.args.branches.now c.args.fails.now c.loop-at.at c.index-branches-at.result c.loop-at-test.true c.loop-at.invariant.left).there

pub failing_literal-requires-clause-within : goal.failing_literal-requires-clause-within
failing_literal-requires-clause-within c =
    subst (λ b. get_or c.args.fails.now c.loop-at.at 0 < length b.cond) (sym c.index-branches-at.is)
    (fails_at (signature_of c.args.protocol.now) c.args.branches.now c.args.fails.now c.loop-at.at c.index-branches-at.result c.loop-at-test.true c.loop-at.invariant.left).below

pub loop-at-preserved : goal.loop-at-preserved
loop-at-preserved c =
    let sig = signature_of c.args.protocol.now in
    let step = fails_at sig c.args.branches.now c.args.fails.now c.loop-at.at c.index-branches-at.result c.loop-at-test.true c.loop-at.invariant.left in
    let l = negated sig (slice_index_or (get_or c.args.branches.now c.loop-at.at c.index-branches-at.result).cond (get_or c.args.fails.now c.loop-at.at 0) (constant true)) in
    let made = c.failing_literal.ensures ∙ ap (λ b. renamed c.args.places.now (negated sig (slice_index_or b.cond (get_or c.args.fails.now c.loop-at.at 0) (constant true)))) c.index-branches-at.is in
    record {
      left = step.rest;
      so_far =
          ap (λ ls. ls ++ renamed_all c.args.places.now (failing sig (drop (c.loop-at.at + 1) c.args.branches.now) (drop (c.loop-at.at + 1) c.args.fails.now)))
          (c.in_ok-push.ensures.ok ∙ ap (λ m. c.loop-at.lits ++ m ∷ []) made)
          ∙ push_more c.args.places.now c.loop-at.lits l (failing sig (drop c.loop-at.at c.args.branches.now) (drop c.loop-at.at c.args.fails.now))
          (failing sig (drop (c.loop-at.at + 1) c.args.branches.now) (drop (c.loop-at.at + 1) c.args.fails.now))
          (c.args.lits.now ++ renamed_all c.args.places.now (failing sig c.args.branches.now c.args.fails.now)) step.is c.loop-at.invariant.so_far;
    }
