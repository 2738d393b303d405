-- What the lexer makes of the text of a protocol.
use Rattle.std.specs.Prelude.{◌≡◌, IsTrue, Ok}
use Rattle.cub_lexer.specs.Reading.{Outcome, Reads}
use Rattle.cub_proto.specs.declared.protocol.Protocol.{Protocol}
use Rattle.cub_print.specs.Mark.{spelled}
use Rattle.cub_print.specs.Printed.{protocol_marks}
use Rattle.cub_print.specs.Tokens.{tokens_from, StandApart}
use Rattle.print_words.specs.Writable.{is_writable}

-- its words stand apart
abbrev pub WordsStandApart : Type 0
WordsStandApart = (p : Protocol) → IsTrue (is_writable p) → StandApart (protocol_marks p)

-- its words are read
abbrev pub WordsAreRead : Type 0
WordsAreRead = (p : Protocol) → IsTrue (is_writable p) → Reads 0 (spelled (protocol_marks p)) (Ok (tokens_from 0 (protocol_marks p)))

-- and nothing else
abbrev pub NothingElseIsRead : Type 0
NothingElseIsRead = (p : Protocol) (o : Outcome) → IsTrue (is_writable p) → Reads 0 (spelled (protocol_marks p)) o → o ≡ Ok (tokens_from 0 (protocol_marks p))
