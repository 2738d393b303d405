-- Words that are read twice ask for one command.
use Rattle.std.proofs.Common.{◌≡◌, ◌≤◌, List, [], ◌∷◌, ℕ, true, Option, Result, Ok, Err, is_ok, sym, ap, ◌∙◌, subst}
use Rattle.std.specs.Prelude.{IfOk, IsErrOf}
use Rattle.io_edge.specs.Shelf.{AsksFor}
use Rattle.io_edge.proofs.Asked.{asks_none}
use Rattle.cub_words.specs.declared.request.Command.{Command}
use Rattle.cub_words.specs.declared.request.WordsFault.{WordsFault}
use Rattle.cub_words.specs.Asked.{asked, asked_by, HasLevels}
use Rattle.cub_words.specs.Reading.{Request}
use Rattle.cub_words.specs.Reading.Request.{Check, Verify, Replay, Print, Sample}
use Rattle.parcub.specs.Files.{Told}
use Rattle.parcub.specs.Answer.{AnswersRequest, AnswersReading, HaveLevels, files_named, files_read}

-- the levels of a request
abbrev HaveNumber : Request → Type 0
HaveNumber (Check file cubes width workers format) = Unit {0}
HaveNumber (Verify file cert) = Unit {0}
HaveNumber (Replay file trace) = Unit {0}
HaveNumber (Print file) = Unit {0}
HaveNumber (Sample levels cubes width workers) = (2 ≤ levels) × (levels ≤ 63)

number_of : (c : Command) → HasLevels c → HaveNumber (asked_by c)
number_of (Command.Check file budget workers format) h = tt
number_of (Command.Verify file cert) h = tt
number_of (Command.Replay file trace) h = tt
number_of (Command.Print file) h = tt
number_of (Command.Sample levels budget workers) h = h

levels_of : (c : Command) → HaveNumber (asked_by c) → HasLevels c
levels_of (Command.Check file budget workers format) h = tt
levels_of (Command.Verify file cert) h = tt
levels_of (Command.Replay file trace) h = tt
levels_of (Command.Print file) h = tt
levels_of (Command.Sample levels budget workers) h = h

one_request : (a b : Request) → ◌≡◌ {A = Result Request WordsFault} (Ok a) (Ok b) → a ≡ b
one_request a b h = cc

-- a command that was read has its levels, and so has each that asks for the same
pub have_levels : (read : Result Request WordsFault) (c : Command) → Ok (asked_by c) ≡ read → HasLevels c → HaveLevels read
have_levels read c is levels command same = levels_of command (subst HaveNumber (one_request (asked_by c) (asked_by command) (is ∙ same)) (number_of c levels))

pub is_accepted : (read : Result Request WordsFault) (c : Command) → Ok (asked_by c) ≡ read → is_ok read ≡ true
is_accepted read c is = sym (ap is_ok is)

-- no file is asked for yet
pub asked_nothing : (before : Option (List (List ℕ))) (names : List (List ℕ)) → AsksFor before before names
asked_nothing = asks_none
