-- What the program answers to its words.
use Rattle.std.specs.Prelude.{◌≡◌, ℕ, List, [], ◌∷◌, Result, Ok, Err}
use Rattle.cub_proto.specs.declared.protocol.Protocol.{Protocol}
use Rattle.cub_words.specs.declared.request.WordsFault.{WordsFault}
use Rattle.cub_words.specs.declared.request.Command.{Command}
use Rattle.cub_words.specs.Asked.{asked_by, HasLevels}
use Rattle.cub_words.specs.Reading.{Request, reading}
use Rattle.cub_words.specs.Reading.Request.{Check, Verify, Replay, Print, Sample}
use Rattle.cub_print.specs.Mark.{spelled}
use Rattle.cub_print.specs.Printed.{protocol_marks}
use Rattle.answer_lines.specs.Codes.{words_code}
use Rattle.answer_lines.specs.Lines.{words_line}
use Rattle.parcub.specs.Files.{Told, Answers, AnswersFile}
use Rattle.parcub.specs.Replays.{AnswersTrace}
use Rattle.parcub.specs.Verifies.{AnswersNamed}
use Rattle.parcub.specs.Checks.{AnswersCheckBy, AnswersSampleBy}

-- `print` answers status 0 and the canonical text
abbrev pub AnswersPrint : Protocol → Answers
AnswersPrint p status text = (status ≡ 0) × (text ≡ spelled (protocol_marks p))

-- status 5, at a fault of the words
abbrev pub AnswersWords : List ℕ → ℕ → Answers
AnswersWords code number status text = (status ≡ 5) × (text ≡ words_line code number)

-- what a command answers, with what the shelf tells of names, and how many bytes the last load took
abbrev pub AnswersRequest : Told → ℕ → Request → Answers
AnswersRequest told taken (Print file) = AnswersFile told taken file AnswersPrint
AnswersRequest told taken (Replay file trace) = AnswersFile told taken file (AnswersTrace told taken trace)
AnswersRequest told taken (Check file cubes width workers format) = AnswersFile told taken file (AnswersCheckBy cubes width format)
AnswersRequest told taken (Verify file cert) = AnswersFile told taken file (AnswersNamed told taken cert)
AnswersRequest told taken (Sample levels cubes width workers) = AnswersSampleBy levels cubes width

abbrev pub AnswersReading : Told → ℕ → Result Request WordsFault → Answers
AnswersReading told taken (Ok request) = AnswersRequest told taken request
AnswersReading told taken (Err fault) = AnswersWords (words_code fault.kind) fault.word

-- the answer to words
abbrev pub IsAnswer : Told → ℕ → List (List ℕ) → Answers
IsAnswer told taken words = AnswersReading told taken (reading words)

-- whichever command was read, its number of levels is one that there may be
abbrev pub HaveLevels : Result Request WordsFault → Type 0
HaveLevels read = (command : Command) → read ≡ Ok (asked_by command) → HasLevels command

-- the files of a command, in their order
abbrev pub files_named : Request → List (List ℕ)
files_named (Print file) = file ∷ []
files_named (Replay file trace) = file ∷ trace ∷ []
files_named (Check file cubes width workers format) = file ∷ []
files_named (Verify file cert) = file ∷ cert ∷ []
files_named (Sample levels cubes width workers) = []

abbrev pub files_read : Result Request WordsFault → List (List ℕ)
files_read (Ok request) = files_named request
files_read (Err fault) = []

-- the files that the words name
abbrev pub files_of : List (List ℕ) → List (List ℕ)
files_of words = files_read (reading words)
