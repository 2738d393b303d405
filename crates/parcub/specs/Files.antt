-- What a command answers to its first file, the text of a protocol.
use Rattle.std.specs.Prelude.{◌≡◌, ◌⊎◌, ℕ, ◌≤◌, List, length, codes, Option, IfSome}
use Rattle.io_edge.specs.Shelf.{IsOver}
use Rattle.cub_lexer.specs.Place.{line_at, column_at}
use Rattle.cub_proto.specs.declared.protocol.Protocol.{Protocol}
use Rattle.protocol_text.specs.declared.fault.TextCode.{TextCode}
use Rattle.protocol_text.specs.Meaning.{IsProtocolOf, IsFaultAt}
use Rattle.answer_lines.specs.Codes.{text_code}
use Rattle.answer_lines.specs.Lines.{place_line}

-- what is told of the bytes of each name, where something is told
abbrev pub Told : Type 0
Told = List ℕ → Option (List ℕ)

-- the greatest number of bytes of a protocol, and of a certificate, a trace or a journal
abbrev pub protocol_limit : ℕ
protocol_limit = 1048576

abbrev pub result_limit : ℕ
result_limit = 268435456

-- the shelf gave these bytes for the name: within the limit, and the told ones where they are told
abbrev pub Gave : Told → List ℕ → ℕ → List ℕ → Type 0
Gave told name limit bytes = (length bytes ≤ limit) × IfSome (told name) (λ these. bytes ≡ these)

-- a status and a text that a command answers
abbrev pub Answers : Type 1
Answers = ℕ → List ℕ → Type 0

-- status 4: the text is no protocol, and this is its first fault with its place
pub record IsTextFault (bytes : List ℕ) (status : ℕ) (text : List ℕ) : Type 0 where
  pub code : TextCode
  pub at : ℕ
  pub fault : IsFaultAt bytes code at
  pub status_is : status ≡ 4
  pub line : text ≡ place_line (text_code code) (line_at bytes at) (column_at bytes at)

-- the text is a protocol, to which the command answers further
pub record IsRead (bytes : List ℕ) (next : Protocol → Answers) (status : ℕ) (text : List ℕ) : Type 0 where
  pub protocol : Protocol
  pub read : IsProtocolOf bytes protocol
  pub answer : next protocol status text

-- status 4: the text is above the limit
abbrev pub IsLongProtocol : Told → ℕ → List ℕ → Answers
IsLongProtocol told taken name status text =
    IsOver (told name) taken protocol_limit × (status ≡ 4) × (text ≡ place_line (codes "L0") 1 1)

-- the bytes that the shelf gave are no protocol, or one to which the command answers further
pub record IsGiven (told : Told) (name : List ℕ) (next : Protocol → Answers) (status : ℕ) (text : List ℕ) : Type 0 where
  pub bytes : List ℕ
  pub gave : Gave told name protocol_limit bytes
  pub answer : IsTextFault bytes status text ⊎ IsRead bytes next status text

-- the answer of a command to its first file
abbrev pub AnswersFile : Told → ℕ → List ℕ → (Protocol → Answers) → Answers
AnswersFile told taken name next status text = IsLongProtocol told taken name status text ⊎ IsGiven told name next status text
