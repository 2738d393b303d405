-- Equal lists are parts of a protocol alike.
use Rattle.std.proofs.Common.{◌≡◌, List}
use Rattle.cub_proto.specs.declared.literal.Lit.{Lit}
use Rattle.cub_proto.specs.declared.protocol.SortDecl.{SortDecl}
use Rattle.cub_proto.specs.declared.protocol.Decl.{Decl}
use Rattle.cub_proto.specs.declared.protocol.Goal.{Goal}
use Rattle.cub_proto.specs.declared.protocol.Protocol.{Protocol}
use Rattle.cub_proto.specs.declared.transition.Transition.{Transition}
use Rattle.cub_proto.specs.Parts.{AreParts}

-- what a protocol keeps, as one record
pub parts_of : (p : Protocol) → AreParts p.sorts p.globals p.arrays p.start p.goals p.transitions
parts_of p = record {
  few = p.few;
  sorts = p.sorts_fit;
  distinct = p.distinct;
  globals = p.globals_fit;
  arrays = p.arrays_fit;
  start = p.start_fits;
  goals = p.goals_fit;
  transitions = p.transitions_fit;
}

-- lists that equal a protocol's are the parts of one
pub equal_parts : (p : Protocol) (sorts : List SortDecl) (globals arrays : List Decl) (start : List (List Lit)) (goals : List Goal) (transitions : List Transition)
    → sorts ≡ p.sorts → globals ≡ p.globals → arrays ≡ p.arrays → start ≡ p.start → goals ≡ p.goals → transitions ≡ p.transitions
    → AreParts sorts globals arrays start goals transitions
equal_parts p sorts globals arrays start goals transitions es eg ea et eo er = rw (es, eg, ea, et, eo, er) (parts_of p)
