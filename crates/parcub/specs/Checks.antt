-- What `check` and `sample` answer, with the numbers of the words. More than one worker is answered by the search of one.
use Rattle.std.specs.Prelude.{◌≡◌, ℕ}
use Rattle.cub_proto.specs.declared.budget.Budget.{Budget}
use Rattle.cub_proto.specs.declared.protocol.Protocol.{Protocol}
use Rattle.check_answers.specs.Checked.{AnswersCheck}
use Rattle.check_answers.specs.Sampled.{AnswersSample}
use Rattle.parcub.specs.Files.{Answers}

-- the budget has these numbers
abbrev pub IsBudget : ℕ → ℕ → Budget → Type 0
IsBudget cubes width b = (b.cubes ≡ cubes) × (b.width ≡ width)

-- `check` within these numbers
abbrev pub AnswersCheckBy : ℕ → ℕ → ℕ → Protocol → Answers
AnswersCheckBy cubes width format p status text = (b : Budget) × IsBudget cubes width b × AnswersCheck b format p status text

-- `sample` within these numbers
abbrev pub AnswersSampleBy : ℕ → ℕ → ℕ → Answers
AnswersSampleBy levels cubes width status text = (b : Budget) × IsBudget cubes width b × AnswersSample levels b status text
