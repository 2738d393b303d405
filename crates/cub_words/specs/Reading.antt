-- The meaning of the words: from left to right, the command that they ask for or the first fault.
use Rattle.std.specs.Prelude.{ℕ, ◌+◌, ◌-◌, Bool, false, not, nat_lt, List, [], ◌∷◌, Option, Some, None, Result, Ok, Err, is_some, get_or, unwrap_or, if◌then◌else◌}
use Rattle.cub_words.specs.declared.table.CommandName.{CommandName}
use Rattle.cub_words.specs.declared.table.OptionName.{OptionName}
use Rattle.cub_words.specs.declared.request.WordsFault.{WordsFault}
use Rattle.cub_words.specs.declared.request.WordsKind.{WordsKind}
use Rattle.cub_words.specs.declared.request.WordsKind.TheVariants.{U1, U2, U3, U4, U5, U6, U7, U8, U9}
use Rattle.cub_words.specs.declared.given.Given.{Given}
use Rattle.cub_words.specs.Table.{command_named, option_named, has_option, least_of, greatest_of, usual_of}
use Rattle.cub_words.specs.Words.{number_within, is_marked, name_part, value_part}
use Rattle.cub_words.specs.Given.{nothing_given, is_full, value_given, with_value, with_file}

-- a refusal at that word
abbrev pub fault : {A : Type 0} → ℕ → WordsKind → Result A WordsFault
fault number kind = Err (record { word = number; kind = kind })

-- what follows where there was no fault
abbrev pub then_read : {A B : Type 0} → Result A WordsFault → (A → Result B WordsFault) → Result B WordsFault
then_read (Ok given) next = next given
then_read (Err e) next = Err e

-- the value of an option
abbrev pub taken : OptionName → ℕ → Option ℕ → Given → Result Given WordsFault
taken option number (Some value) given = Ok (with_value option value given)
taken option number None given = fault number U7

abbrev pub valued : OptionName → ℕ → List ℕ → Given → Result Given WordsFault
valued option number word given = taken option number (number_within (least_of option) (greatest_of option) word) given

-- an option that the command has: its value stands in the word, or is to come
abbrev pub given_option : OptionName → ℕ → Option (List ℕ) → Given → Result Given WordsFault
given_option option number (Some value) given = valued option number value given
given_option option number None given = Ok (record given { waiting = Some option })

-- an option: of this command, and for the first time
abbrev pub with_option : CommandName → OptionName → ℕ → Option (List ℕ) → Given → Result Given WordsFault
with_option command option number value given =
    if not (has_option command option) then fault number U9
    else if is_some (value_given option given) then fault number U8
    else given_option option number value given

-- an option of the table, or none
abbrev pub named_option : CommandName → Option OptionName → ℕ → Option (List ℕ) → Given → Result Given WordsFault
named_option command (Some option) number value given = with_option command option number value given
named_option command None number value given = fault number U5

-- a word that is empty or begins with a dash
abbrev pub with_marked : CommandName → ℕ → List ℕ → Given → Result Given WordsFault
with_marked command number word given = named_option command (option_named (name_part word)) number (value_part word) given

-- the number of levels
abbrev pub with_levels : ℕ → Option ℕ → Given → Result Given WordsFault
with_levels number (Some levels) given = Ok (record given { levels = Some levels })
with_levels number None given = fault number U7

-- a name that is wanted
abbrev pub wanted_name : CommandName → ℕ → List ℕ → Given → Result Given WordsFault
wanted_name CommandName.Sample number word given = with_levels number (number_within 2 63 word) given
wanted_name CommandName.Check number word given = Ok (with_file number given)
wanted_name CommandName.Verify number word given = Ok (with_file number given)
wanted_name CommandName.Replay number word given = Ok (with_file number given)
wanted_name CommandName.Print number word given = Ok (with_file number given)

-- a name
abbrev pub with_name : CommandName → ℕ → List ℕ → Given → Result Given WordsFault
with_name command number word given = if is_full command given then fault number U4 else wanted_name command number word given

-- a word: the value that an option awaits, an option, or a name
abbrev pub step_of : Option OptionName → CommandName → ℕ → List ℕ → Given → Result Given WordsFault
step_of (Some option) command number word given = valued option number word given
step_of None command number word given = if is_marked word then with_marked command number word given else with_name command number word given

abbrev pub step : CommandName → ℕ → List ℕ → Given → Result Given WordsFault
step command number word given = step_of given.waiting command number word given

-- the end of the words, at the number of the word that is not there
abbrev pub ended : CommandName → ℕ → Given → Result Given WordsFault
ended command number given =
    if is_some given.waiting then fault (number - 1) U6
    else if is_full command given then Ok given
    else fault number U3

-- the words from that number on
abbrev pub read_from : CommandName → ℕ → List (List ℕ) → Given → Result Given WordsFault
read_from command number [] given = ended command number given
read_from command number (word ∷ words) given =
    then_read (step command number word given) (λ more. read_from command (number + 1) words more)

-- what the words ask for, in plain values
pub data Request : Type 0 where
  Check : (file : List ℕ) (cubes width workers format : ℕ) → Request
  Verify : (file cert : List ℕ) → Request
  Replay : (file trace : List ℕ) → Request
  Print : (file : List ℕ) → Request
  Sample : (levels cubes width workers : ℕ) → Request

-- the word with the number of a name
abbrev pub word_at : List (List ℕ) → Option ℕ → List ℕ
word_at words None = []
word_at words (Some number) = get_or words (number - 1) []

-- the value of an option, or the usual one
abbrev pub value_of : OptionName → Given → ℕ
value_of option given = unwrap_or (value_given option given) (usual_of option)

-- the request of a command with what was given
abbrev pub request_of : CommandName → List (List ℕ) → Given → Request
request_of CommandName.Check words given =
    Check (word_at words given.first) (value_of OptionName.Cubes given) (value_of OptionName.Width given)
    (value_of OptionName.Workers given) (value_of OptionName.Format given)
request_of CommandName.Verify words given = Verify (word_at words given.first) (word_at words given.second)
request_of CommandName.Replay words given = Replay (word_at words given.first) (word_at words given.second)
request_of CommandName.Print words given = Print (word_at words given.first)
request_of CommandName.Sample words given =
    Sample (unwrap_or given.levels 2) (value_of OptionName.Cubes given) (value_of OptionName.Width given) (value_of OptionName.Workers given)

abbrev pub named_command : Option CommandName → List (List ℕ) → List (List ℕ) → Result Request WordsFault
named_command None words rest = fault 1 U2
named_command (Some command) words rest = then_read (read_from command 2 rest nothing_given) (λ given. Ok (request_of command words given))

-- the meaning of the words
abbrev pub reading : List (List ℕ) → Result Request WordsFault
reading [] = fault 1 U1
reading (word ∷ rest) = named_command (command_named word) (word ∷ rest) rest

-- a search with more than one worker
abbrev pub has_several : Request → Bool
has_several (Check file cubes width workers format) = nat_lt 1 workers
has_several (Sample levels cubes width workers) = nat_lt 1 workers
has_several (Verify file cert) = false
has_several (Replay file trace) = false
has_several (Print file) = false

abbrev pub waits_at : Result Request WordsFault → Bool
waits_at (Ok request) = has_several request
waits_at (Err e) = false

abbrev pub does_wait : List (List ℕ) → Bool
does_wait words = waits_at (reading words)
