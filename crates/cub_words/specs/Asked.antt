-- What a command asks for, in plain values.
use Rattle.std.specs.Prelude.{◌≤◌, Result, Ok, Err}
use Rattle.cub_words.specs.declared.request.Command.{Command}
use Rattle.cub_words.specs.declared.request.WordsFault.{WordsFault}
use Rattle.cub_words.specs.Reading.{Request, Check, Verify, Replay, Print, Sample}

abbrev pub asked_by : Command → Request
asked_by (Command.Check file budget workers format) = Check file.now budget.cubes budget.width workers format
asked_by (Command.Verify file cert) = Verify file.now cert.now
asked_by (Command.Replay file trace) = Replay file.now trace.now
asked_by (Command.Print file) = Print file.now
asked_by (Command.Sample levels budget workers) = Sample levels budget.cubes budget.width workers

abbrev pub asked : Result Command WordsFault → Result Request WordsFault
asked (Ok command) = Ok (asked_by command)
asked (Err e) = Err e

-- the number of levels is one that there may be
abbrev pub HasLevels : Command → Type 0
HasLevels (Command.Check file budget workers format) = Unit {0}
HasLevels (Command.Verify file cert) = Unit {0}
HasLevels (Command.Replay file trace) = Unit {0}
HasLevels (Command.Print file) = Unit {0}
HasLevels (Command.Sample levels budget workers) = (2 ≤ levels) × (levels ≤ 63)
