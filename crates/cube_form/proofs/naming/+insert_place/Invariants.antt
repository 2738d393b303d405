use Rattle.std.proofs.Common.{length}
use Rattle.cube_form.proofs.naming.+insert_place.Given as goal

abbrev pub decreases-insert_place : goal.decreases-insert_place
decreases-insert_place l = length l.places.now
