-- What the typing makes of the start formula and the goals of a printed protocol.
use Rattle.std.specs.Prelude.{◌≡◌, IsTrue}
use Rattle.cub_names.specs.Checked.{sound}
use Rattle.cub_names.specs.Meaning.{Frame}
use Rattle.cub_types.specs.Bodies.{start, goals_from}
use Rattle.cub_types.specs.Typing.{frame_of}
use Rattle.cub_proto.specs.declared.protocol.Protocol.{Protocol}
use Rattle.print_laws.specs.Tree.{tree_of}
use Rattle.print_words.specs.Writable.{is_writable}
use Rattle.print_names.specs.Plain.{declares_plain_names}
use Rattle.print_names.specs.Declaring.{text_of}
use Rattle.print_formulas.specs.Normal.{has_normal_bodies}

-- what the names of the printed text stand for
abbrev pub printed_frame : Protocol → Frame
printed_frame p = frame_of (text_of p) (tree_of p)

-- without a fault they are those of the protocol
abbrev pub BodiesAreRead : Type 0
BodiesAreRead = (p : Protocol) → IsTrue (is_writable p) → IsTrue (declares_plain_names p) → IsTrue (has_normal_bodies p)
    → (start (printed_frame p) (tree_of p).init ≡ sound p.start) × (goals_from (printed_frame p) 0 (tree_of p).rests ≡ sound p.goals)
