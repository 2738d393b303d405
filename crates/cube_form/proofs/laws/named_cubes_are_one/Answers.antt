use Rattle.cube_form.proofs.PlaceOrder.{order_one, named_one}
use Rattle.cube_form.proofs.laws.named_cubes_are_one.Goals as goal

pub returns-clause-places : goal.returns-clause-places
returns-clause-places c p cube a b q r h k = order_one cube.lits cube.width q r h.order k.order

pub returns-clause-cube : goal.returns-clause-cube
returns-clause-cube c p cube a b q r h k = named_one p cube a b q r h k
