-- What becomes of the printed text of the sample protocol of the levels 0 to `top`.
use Rattle.std.specs.Prelude.{ℕ, ◌≤◌, IsTrue}
use Rattle.cub_proto.specs.declared.protocol.Protocol.{Protocol}
use Rattle.cub_types.specs.Laws.{SameParts}
use Rattle.protocol_text.specs.Meaning.{IsProtocolOf}
use Rattle.print_names.specs.Declaring.{text_of}
use Rattle.print_reads.specs.Normal.{is_normal_protocol}
use Rattle.sample_gen.specs.Sample.{IsSample}

-- the protocol is of normal form
abbrev pub SamplesAreNormal : Type 0
SamplesAreNormal = (top : ℕ) (p : Protocol) → 2 ≤ top → IsSample top p → IsTrue (is_normal_protocol p)

-- so its printed text reads as the protocol
abbrev pub SampleTextReads : Type 0
SampleTextReads = (top : ℕ) (p : Protocol) → 2 ≤ top → IsSample top p → IsProtocolOf (text_of p) p

-- and as nothing else
abbrev pub NothingElseReads : Type 0
NothingElseReads = (top : ℕ) (p q : Protocol) → 2 ≤ top → IsSample top p → IsProtocolOf (text_of p) q → SameParts q p
