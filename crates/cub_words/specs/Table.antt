-- The table of commands and options.
use Rattle.std.specs.Prelude.{ℕ, Bool, true, false, List, Option, Some, None, bytes_eq, codes, if◌then◌else◌}
use Rattle.cub_words.specs.declared.table.CommandName.{CommandName}
use Rattle.cub_words.specs.declared.table.OptionName.{OptionName}

-- the command with that name
abbrev pub command_named : List ℕ → Option CommandName
command_named word =
    if bytes_eq word (codes "check") then Some CommandName.Check
    else if bytes_eq word (codes "verify") then Some CommandName.Verify
    else if bytes_eq word (codes "replay") then Some CommandName.Replay
    else if bytes_eq word (codes "print") then Some CommandName.Print
    else if bytes_eq word (codes "sample") then Some CommandName.Sample
    else None

-- the option with that name
abbrev pub option_named : List ℕ → Option OptionName
option_named word =
    if bytes_eq word (codes "--workers") then Some OptionName.Workers
    else if bytes_eq word (codes "--cubes") then Some OptionName.Cubes
    else if bytes_eq word (codes "--width") then Some OptionName.Width
    else if bytes_eq word (codes "--format") then Some OptionName.Format
    else None

-- the command has the option
abbrev pub has_option : CommandName → OptionName → Bool
has_option CommandName.Check option = true
has_option CommandName.Sample OptionName.Format = false
has_option CommandName.Sample OptionName.Workers = true
has_option CommandName.Sample OptionName.Cubes = true
has_option CommandName.Sample OptionName.Width = true
has_option CommandName.Verify option = false
has_option CommandName.Replay option = false
has_option CommandName.Print option = false

-- the least value of the option
abbrev pub least_of : OptionName → ℕ
least_of OptionName.Workers = 1
least_of OptionName.Cubes = 1
least_of OptionName.Width = 1
least_of OptionName.Format = 1

-- the greatest
abbrev pub greatest_of : OptionName → ℕ
greatest_of OptionName.Workers = 16
greatest_of OptionName.Cubes = 65536
greatest_of OptionName.Width = 8
greatest_of OptionName.Format = 2

-- the value where the words give none
abbrev pub usual_of : OptionName → ℕ
usual_of OptionName.Workers = 1
usual_of OptionName.Cubes = 4096
usual_of OptionName.Width = 6
usual_of OptionName.Format = 1
