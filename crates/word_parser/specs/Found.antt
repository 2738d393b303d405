-- The request that the found texts make.
use Rattle.std.specs.Prelude.{◌≡◌, ℕ, true, List, [], Option, Some, Ok, codes, unwrap_or, option_and_then}
use Rattle.clap.specs.Words.{Row, first_of, matches_of, takes}
use Rattle.cub_words.specs.declared.table.CommandName.{CommandName}
use Rattle.cub_words.specs.declared.table.OptionName.{OptionName}
use Rattle.cub_words.specs.Table.{command_named, least_of, greatest_of, usual_of}
use Rattle.cub_words.specs.Words.{number_within}
use Rattle.cub_words.specs.Reading.{Request, Check, Verify, Replay, Print, Sample, reading}
use Rattle.word_parser.specs.Line.{line}

-- a text, or the empty one
abbrev pub text_or_empty : Option (List ℕ) → List ℕ
text_or_empty text = unwrap_or text []

-- the number that a text is within its range, or the usual one
abbrev pub number_or : ℕ → ℕ → ℕ → Option (List ℕ) → ℕ
number_or least greatest usual text = unwrap_or (option_and_then (number_within least greatest) text) usual

-- the name of an option in the command line
abbrev pub name_of : OptionName → List ℕ
name_of OptionName.Workers = codes "workers"
name_of OptionName.Cubes = codes "cubes"
name_of OptionName.Width = codes "width"
name_of OptionName.Format = codes "format"

-- the value of an option
abbrev pub value_found : OptionName → List Row → ℕ
value_found option rows = number_or (least_of option) (greatest_of option) (usual_of option) (first_of (name_of option) rows)

-- a name, or the empty text
abbrev pub name_found : List ℕ → List Row → List ℕ
name_found name rows = text_or_empty (first_of name rows)

-- the request of a command
abbrev pub request_with : CommandName → List Row → Request
request_with CommandName.Check rows =
    Check (name_found (codes "first") rows) (value_found OptionName.Cubes rows) (value_found OptionName.Width rows)
    (value_found OptionName.Workers rows) (value_found OptionName.Format rows)
request_with CommandName.Verify rows = Verify (name_found (codes "first") rows) (name_found (codes "second") rows)
request_with CommandName.Replay rows = Replay (name_found (codes "first") rows) (name_found (codes "second") rows)
request_with CommandName.Print rows = Print (name_found (codes "first") rows)
request_with CommandName.Sample rows =
    Sample (number_or 2 63 2 (first_of (codes "first") rows)) (value_found OptionName.Cubes rows) (value_found OptionName.Width rows)
    (value_found OptionName.Workers rows)

-- what was found names a command, and makes that request
pub record IsFound (rows : List Row) (request : Request) : Type 0 where
  pub command : CommandName
  pub named : command_named (name_found (codes "command") rows) ≡ Some command
  pub makes : request_with command rows ≡ request

-- every command that the words ask for is one whose words the command line takes
abbrev pub AcceptedWordsAreTaken : Type 0
AcceptedWordsAreTaken = (words : List (List ℕ)) (request : Request) → reading words ≡ Ok request → takes line words ≡ true

-- and what it finds is that command
abbrev pub AcceptedWordsAreFound : Type 0
AcceptedWordsAreFound = (words : List (List ℕ)) (request : Request) → reading words ≡ Ok request → IsFound (matches_of line words) request
