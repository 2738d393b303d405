use Rattle.cub_proto.specs.Fits.{literal_fits, is_bounded, greatest_bound}
use Rattle.cub_dnf.specs.Lists.{list_of}
use Rattle.cub_dnf.proofs.Fitting.{each_of_each, literals_fit, bounds_fit}
use Rattle.cub_dnf.proofs.laws.normal_forms_fit.Goals as goal

pub returns-clause-literals : goal.returns-clause-literals
returns-clause-literals c = λ sig width holds f ready.
    each_of_each (literal_fits sig width) (list_of sig holds f) (literals_fit sig width holds f ready)

pub returns-clause-bounds : goal.returns-clause-bounds
returns-clause-bounds c = λ sig holds f bounds.
    each_of_each (is_bounded greatest_bound) (list_of sig holds f) (bounds_fit sig holds f bounds)
