-- What becomes of the printed text of a protocol that some text reads as.
use Rattle.std.specs.Prelude.{◌≡◌, ℕ, List, IsTrue}
use Rattle.cub_proto.specs.declared.protocol.Protocol.{Protocol}
use Rattle.cub_types.specs.Laws.{SameParts}
use Rattle.protocol_text.specs.Meaning.{IsProtocolOf}
use Rattle.print_names.specs.Declaring.{text_of}
use Rattle.print_reads.specs.Normal.{is_normal_protocol}

-- the protocol is of normal form
abbrev pub TextsAreNormal : Type 0
TextsAreNormal = (text : List ℕ) (p : Protocol) → IsProtocolOf text p → IsTrue (is_normal_protocol p)

-- so its printed text reads as the protocol
abbrev pub PrintedTextReads : Type 0
PrintedTextReads = (text : List ℕ) (p : Protocol) → IsProtocolOf text p → IsProtocolOf (text_of p) p

-- and as nothing else
abbrev pub NothingElseReads : Type 0
NothingElseReads = (text : List ℕ) (p q : Protocol) → IsProtocolOf text p → IsProtocolOf (text_of p) q → SameParts q p

-- so protocols of texts with one printed text are one
abbrev pub OneTextEach : Type 0
OneTextEach = (first second : List ℕ) (p q : Protocol) → IsProtocolOf first p → IsProtocolOf second q → text_of p ≡ text_of q → SameParts p q
