use Rattle.std.proofs.Common.{◌-◌, ◌+◌, [], take, drop, map, ap, sym, ◌∙◌}
use Rattle.cube_text.specs.Form.{parted, is_and}
use Rattle.cube_text.specs.Groups.{groups_from}
use Rattle.cube_text.specs.Meaning.{literal_in, literals_from}
use Rattle.cube_text.proofs.GroupLaws.{mapped_slice, none_group, some_group}
use Rattle.cube_text.proofs.meaning.literals_from.Goals as goal

pub returns-in_default : goal.returns-in_default
returns-in_default c =
    let ws = map (λ w. w.now) c.args.words.now in
    let n = c.group_end-end.result - c.loop-at.at in
    none_group (take n (drop c.loop-at.at ws)) (groups_from ws c.loop-at.at) (groups_from ws (c.group_end-end.result + 1)) c.group_end-end.ensures.group
    c.args.protocol.now c.args.width c.loop-at.lits (literals_from c.args.protocol.now c.args.width [] (parted is_and ws)) c.loop-at.invariant
    (ap (literal_in c.args.protocol.now c.args.width) (sym (mapped_slice (λ w. w.now) c.args.words.now c.loop-at.at n)) ∙ sym c.in_ok-lit.ensures ∙ c.in_default.is)

pub loop-at-preserved : goal.loop-at-preserved
loop-at-preserved c =
    let ws = map (λ w. w.now) c.args.words.now in
    let n = c.group_end-end.result - c.loop-at.at in
    ap (λ lits. literals_from c.args.protocol.now c.args.width lits (groups_from ws (c.group_end-end.result + 1))) c.in_ok-push.ensures.ok
    ∙ some_group (take n (drop c.loop-at.at ws)) (groups_from ws c.loop-at.at) (groups_from ws (c.group_end-end.result + 1)) c.group_end-end.ensures.group
    c.args.protocol.now c.args.width c.loop-at.lits (literals_from c.args.protocol.now c.args.width [] (parted is_and ws)) c.loop-at.invariant
    c.in-Some.lit (ap (literal_in c.args.protocol.now c.args.width) (sym (mapped_slice (λ w. w.now) c.args.words.now c.loop-at.at n)) ∙ sym c.in_ok-lit.ensures ∙ c.in-Some.is)
