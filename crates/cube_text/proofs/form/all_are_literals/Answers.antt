use Rattle.std.proofs.Common.{◌-◌, ◌+◌, take, drop, map, ap, sym, ◌∙◌}
use Rattle.std.specs.List.{list_all}
use Rattle.cube_text.specs.Form.{parted, is_and, is_literal}
use Rattle.cube_text.specs.Groups.{groups_from}
use Rattle.cube_text.proofs.GroupLaws.{mapped_slice, false_group, true_group}
use Rattle.cube_text.proofs.form.all_are_literals.Goals as goal

pub returns-then-not-branch : goal.returns-then-not-branch
returns-then-not-branch c =
    let ws = map (λ w. w.now) c.args.words.now in
    let n = c.group_end-end.result - c.loop-at.at in
    let here = ap is_literal (sym (mapped_slice (λ w. w.now) c.args.words.now c.loop-at.at n)) ∙ sym c.in_ok-is_literal.ensures ∙ c.if-not-branch.true in
    false_group (take n (drop c.loop-at.at ws)) (groups_from ws c.loop-at.at) (groups_from ws (c.group_end-end.result + 1)) c.group_end-end.ensures.group
    (list_all is_literal (parted is_and ws)) c.loop-at.invariant here

pub loop-at-preserved : goal.loop-at-preserved
loop-at-preserved c =
    let ws = map (λ w. w.now) c.args.words.now in
    let n = c.group_end-end.result - c.loop-at.at in
    let here = ap is_literal (sym (mapped_slice (λ w. w.now) c.args.words.now c.loop-at.at n)) ∙ sym c.in_ok-is_literal.ensures ∙ c.if-not-branch.false in
    true_group (take n (drop c.loop-at.at ws)) (groups_from ws c.loop-at.at) (groups_from ws (c.group_end-end.result + 1)) c.group_end-end.ensures.group
    (list_all is_literal (parted is_and ws)) c.loop-at.invariant here
