use Rattle.std.proofs.Common.{subst}
use Rattle.cub_cube.specs.declared.cube.Cube.{Cube}
use Rattle.cube_form.specs.Name.{IsNamed}
use Rattle.cube_form.proofs.Simplifying.{simplified_one}
use Rattle.cube_form.proofs.PlaceOrder.{order_one, named_one}
use Rattle.cube_form.proofs.Given.{given_is_admitted}
use Rattle.cube_form.proofs.laws.given_forms_are_admitted.Goals as goal

pub returns-clause-admitted : goal.returns-clause-admitted
returns-clause-admitted c p widest limit cube given places fit h = given_is_admitted p cube h.simple given places fit.fits fit.normal h.simplified h.named

pub returns-clause-one_renaming : goal.returns-clause-one_renaming
returns-clause-one_renaming c p cube a b q r h k =
    let named : IsNamed p h.simple r b = subst (λ (x : Cube). IsNamed p x r b) (simplified_one p cube k.simple h.simple k.simplified h.simplified) k.named in
    order_one h.simple.lits h.simple.width q r h.named.order named.order

pub returns-clause-one_cube : goal.returns-clause-one_cube
returns-clause-one_cube c p cube a b q r h k =
    named_one p h.simple a b q r h.named (subst (λ (x : Cube). IsNamed p x r b) (simplified_one p cube k.simple h.simple k.simplified h.simplified) k.named)
