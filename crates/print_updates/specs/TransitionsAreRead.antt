-- What the typing makes of printed transitions.
use Rattle.std.specs.Prelude.{◌≡◌, IsTrue}
use Rattle.cub_names.specs.Checked.{sound}
use Rattle.cub_types.specs.Typing.{transitions_of}
use Rattle.cub_proto.specs.declared.protocol.Protocol.{Protocol}
use Rattle.print_laws.specs.Tree.{tree_of}
use Rattle.print_words.specs.Writable.{is_writable}
use Rattle.print_names.specs.Plain.{declares_plain_names}
use Rattle.print_formulas.specs.BodiesAreRead.{printed_frame}
use Rattle.print_transitions.specs.Normal.{has_normal_guards}
use Rattle.print_updates.specs.Normal.{has_normal_updates}

-- they are those of the protocol, in order, and no fault stands in them
abbrev pub TransitionsAreRead : Type 0
TransitionsAreRead = (p : Protocol) → IsTrue (is_writable p) → IsTrue (declares_plain_names p) → IsTrue (has_normal_guards p) → IsTrue (has_normal_updates p)
    → transitions_of (printed_frame p) (tree_of p).rests ≡ sound p.transitions
