use Rattle.std.proofs.Common.{◌∙◌, sym, ap}
use Rattle.std.specs.Prelude.{◌==◌}
use Rattle.std.specs.Ordering.{ordering_index}
use Rattle.std.proofs.lemmas.Cmp.{is_eq_index}
use Rattle.cub_proto.specs.Order.{lit_cmp}
use Rattle.cube_form.proofs.Literals.{is_equal}
use Rattle.cube_form.proofs.forms.is_same.Goals as goal

pub returns : goal.returns
returns c = is_equal c.args.lit.now c.args.other.now c.eq.result
    (c.eq.ensures ∙ ap (λ o. ordering_index o == 1) c.compare_lits.ensures ∙ sym (is_eq_index (lit_cmp c.args.lit.now c.args.other.now)))
