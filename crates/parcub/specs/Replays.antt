-- What `replay` answers to a protocol and the name of a trace.
use Rattle.std.specs.Prelude.{◌≡◌, ◌⊎◌, ℕ, List}
use Rattle.io_edge.specs.Shelf.{IsOver}
use Rattle.cub_proto.specs.declared.protocol.Protocol.{Protocol}
use Rattle.answer_lines.specs.Codes.{trace_code}
use Rattle.answer_lines.specs.Lines.{form_line}
use Rattle.answer_laws.specs.Replays as of_bytes
use Rattle.parcub.specs.Files.{Told, Answers, Gave, result_limit}

-- status 9: the text is above the limit
abbrev pub IsLongTrace : Told → ℕ → List ℕ → Answers
IsLongTrace told taken name status text =
    IsOver (told name) taken result_limit × (status ≡ 9) × (text ≡ form_line (trace_code 0) 1)

-- the answer to the bytes that the shelf gave
pub record IsReplayed (told : Told) (name : List ℕ) (p : Protocol) (status : ℕ) (text : List ℕ) : Type 0 where
  pub bytes : List ℕ
  pub gave : Gave told name result_limit bytes
  pub answer : of_bytes.AnswersTrace p bytes status text

-- the answer of `replay` to a protocol and the name of a trace
abbrev pub AnswersTrace : Told → ℕ → List ℕ → Protocol → Answers
AnswersTrace told taken name p status text = IsLongTrace told taken name status text ⊎ IsReplayed told name p status text
