use Rattle.std.proofs.Common.{◌≡◌, ◌+◌, ◌∙◌, [], ◌∷◌, Ok, drop, sym, ap, subst, arith}
use Rattle.std.specs.Prelude.{if◌then◌else◌}
use Rattle.cub_proto.specs.StateOf.{signature_of}
use Rattle.piece_choices.specs.Pieces.{IsPossible}
use Rattle.pieces.specs.Options.{option_at}
use Rattle.pieces.specs.Jobs.{step_at}
use Rattle.pieces.specs.Handed.{Hands}
use Rattle.pieces.proofs.Refuting.{never_met}
use Rattle.pieces.proofs.Walking.{gives_up, given_up_hands, one_more, all_handed, some_step, kept_then}
use Rattle.pieces.proofs.walk.+walk.Goals as goal

pub attempt-returns-then-not-is_open-clause-handed : goal.attempt-returns-then-not-is_open-clause-handed
attempt-returns-then-not-is_open-clause-handed g t c =
    let j = c.args.job.now in
    let e = c.take_option.new.work in
    let at = c.args.at in
    let taken = c.if-not-branch.false in
    let stands = c.take_option.ensures.stands (c.in_ok-take_option.was ∙ ap Ok taken) in
    let drafts = option_at (signature_of j.protocol) j.transition j.cube.width (step_at j at) c.args.work.now c.args.k in
    let is : drafts ≡ e ∷ [] = c.in_ok-take_option.ensures.option ∙ ap (λ b. if b then e ∷ [] else []) taken in
    let none = never_met j.protocol e.width c.mark_at-mark.result.lits e.lits stands.fits.fits (sym c.is_open.ensures ∙ c.if-not-is_open.true) in
    given_up_hands g.R.Receiver.takes j (drop (at + 1) j.steps) drafts e c.args.receiver.now is (gives_up j (drop (at + 1) j.steps) e stands none)

pub walk-loop-k-preserved : goal.walk-loop-k-preserved
walk-loop-k-preserved g t c = record {
  kept = kept_then c.args.scratch.now c.loop-k.scratch c.attempt.new.scratch c.loop-k.invariant.kept c.in_ok-attempt.ensures.kept;
  made = c.in_ok-attempt.ensures.made;
  same = c.in_ok-attempt.ensures.same ∙ c.loop-k.invariant.same;
  handed = one_more g.R.Receiver.takes c.args.job.now c.next_choice-next.result c.args.work.now c.loop-k.work c.loop-k.k c.args.receiver.now c.loop-k.receiver c.attempt.new.receiver c.loop-k.invariant.same c.loop-k.invariant.handed c.in_ok-attempt.ensures.handed;
}

pub walk-returns-clause-handed : goal.walk-returns-clause-handed
walk-returns-clause-handed g t c =
    let all : c.loop-k.k ≡ c.option_count-count.result = omega (arith, c.loop-k.auto.k-end, c.loop-k-test.false) in
    let next = c.next_choice-next.result in
    let j = c.args.job.now in
    subst (λ xs. Hands (IsPossible j.protocol) g.R.Receiver.takes xs c.args.receiver.now c.loop-k.receiver) (sym c.next_choice-next.ensures.same)
    (all_handed g.R.Receiver.takes j next c.args.work.now c.option_count-count.result c.loop-k.k c.args.receiver.now c.loop-k.receiver (some_step c.is_end.result next _ c.is_end.ensures c.if-is_end.false c.next_choice-next.ensures.there)
    c.option_count-count.ensures all c.loop-k.invariant.handed)
