use Rattle.std.proofs.Common.{◌≡◌, ◌++◌, ◌∙◌, ap, subst, append_assoc}
use Rattle.std.specs.Prelude.{OnOk, codes}
use Rattle.cub_print.specs.Mark.{spelled}
use Rattle.cub_print.specs.Printed.{formula_marks, grouped_marks, universal_marks}
use Rattle.cub_print.proofs.updates.put_universal.Goals as goal

pub returns : goal.returns
unfolding universal_marks
returns c =
    let others = spelled (grouped_marks (formula_marks c.args.protocol.now c.args.transition.now.params c.args.transition.now.others)) in
    subst (λ x. OnOk c.put_group.result (c.put_group.new.out ≡ x))
    (ap (λ x. x ++ others) c.in_ok-extend.ensures.ok ∙ append_assoc c.args.out.now (codes "forall_other _0. ") others)
    (subst (λ x. OnOk c.put_group.result (c.put_group.new.out ≡ c.extend.new.self ++ spelled (grouped_marks (formula_marks c.args.protocol.now c.args.transition.now.params x)))) c.as_slice.ensures c.put_group.ensures)
