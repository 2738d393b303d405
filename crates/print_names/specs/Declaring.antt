-- What the typing makes of the declarations of a printed protocol.
use Rattle.std.specs.Prelude.{◌≡◌, IsTrue, List, [], ℕ}
use Rattle.cub_names.specs.Declarations.{declared, declared_faults}
use Rattle.cub_proto.specs.declared.protocol.Protocol.{Protocol}
use Rattle.cub_proto.specs.StateOf.{signature_of}
use Rattle.cub_print.specs.Mark.{spelled}
use Rattle.cub_print.specs.Printed.{protocol_marks}
use Rattle.print_laws.specs.Tree.{tree_of}
use Rattle.print_names.specs.Plain.{declares_plain_names}

-- the printed text
abbrev pub text_of : Protocol → List ℕ
text_of p = spelled (protocol_marks p)

-- its declarations declare what the protocol does, without a fault
abbrev pub DeclarationsAreRead : Type 0
DeclarationsAreRead = (p : Protocol) → IsTrue (declares_plain_names p)
    → (declared (text_of p) (tree_of p).decls ≡ signature_of p) × (declared_faults (text_of p) (tree_of p).decls ≡ [])
