use Rattle.std.proofs.Common.{◌-◌, sym, ap, ◌∙◌}
use Rattle.std.proofs.lemmas.Bool.{ltb-true}
use Rattle.cub_proto.specs.Truth.{has_bit}
use Rattle.fin_dom.proofs.Masks.{first_bits}
use Rattle.cover_index.proofs.columns.below.Goals as goal

pub returns : goal.returns
returns c k h = ltb-true k c.args.number (sym (first_bits c.args.number k) ∙ sym (ap (λ w. has_bit (w - 1) k) c.power.ensures) ∙ h)
