-- The command line as one simple command.
use Rattle.std.specs.Prelude.{ℕ, true, List, Some, codes}
use Rattle.clap.specs.Words.{App, Rule, new_app, new_rule, with_rule}

-- a name, by its place
abbrev pub name_rule : List ℕ → Rule
name_rule name = new_rule name

-- an option with one value, `--name value` or `--name=value`
abbrev pub option_rule : List ℕ → Rule
option_rule name = record (new_rule name) { long = Some name }

-- before any argument: the first word is no program's name, and no word asks for help
abbrev pub bare_line : App
bare_line =
    let new = new_app (codes "parcub") in
    record new { top = record new.top { no_binary_name = true; disable_help_flag = true } }

-- the command, up to two names, and the options
abbrev pub line : App
line =
    with_rule (with_rule (with_rule (with_rule (with_rule (with_rule (with_rule bare_line (name_rule (codes "command")))
    (name_rule (codes "first"))) (name_rule (codes "second"))) (option_rule (codes "workers"))) (option_rule (codes "cubes")))
    (option_rule (codes "width"))) (option_rule (codes "format"))
