use Rattle.std.proofs.Common.{◌≡◌, true, subst, sym, ap, ◌∙◌}
use Rattle.std.specs.Prelude.{IfSome}
use Rattle.cub_names.specs.Meaning.{Frame, stands_for, what_fits}
use Rattle.cub_names.specs.Sides.{what_is_small}
use Rattle.cub_names.proofs.StandsFits.{stands_fits, stands_small}
use Rattle.cub_proto.specs.StateOf.{signature_of}
use Rattle.cub_names.proofs.names.Names.stands_for.Goals as goal

pub returns-clause-fits : goal.returns-clause-fits
returns-clause-fits c =
    subst (λ r. IfSome r (λ what. what_fits c.args.self.now.sig what ≡ true))
    (sym (c.found.ensures ∙ c.self.invariant c.args.name.now ∙ ap (λ (f : Frame). stands_for f.sig c.args.name.now) c.self.view_is))
    (stands_fits c.args.self.now.sig c.args.name.now)

pub returns-clause-small : goal.returns-clause-small
returns-clause-small c =
    subst (λ r. IfSome r (λ what. what_is_small what ≡ true)) (sym (c.found.ensures ∙ c.self.invariant c.args.name.now))
    (stands_small (signature_of c.self.inside.base) c.args.name.now c.self.inside.base.sorts_fit)
