use Rattle.std.proofs.Common.{◌≡◌, ◌∙◌, ℕ, List, Some, Ok, map, ap, sym, Bor}
use Rattle.std.specs.Prelude.{is_some}
use Rattle.clap.specs.Words.{found_of, rows_of}
use Rattle.cub_words.specs.declared.table.CommandName.{CommandName}
use Rattle.cub_words.specs.Table.{command_named}
use Rattle.word_parser.specs.Found.{request_with}
use Rattle.word_parser.proofs.Outcome.{read_ok}
use Rattle.word_parser.proofs.parser.parse.Goals as goal

pub command_named-command-requires : goal.command_named-command-requires
command_named-command-requires c =
    let read = read_ok (map (λ (word : Bor (List ℕ)). word.now) c.args.words.now) (rows_of (found_of c.in-Ok.matches)) c.requires c.in-Ok.ensures.found in
    ap (λ (name : List ℕ). is_some (command_named name)) c.name_found.ensures ∙ ap is_some read.found.named

pub returns-in-Ok : goal.returns-in-Ok
returns-in-Ok c =
    let rows = rows_of (found_of c.in-Ok.matches) in
    let read = read_ok (map (λ (word : Bor (List ℕ)). word.now) c.args.words.now) rows c.requires c.in-Ok.ensures.found in
    let named : Some c.command_named-command.result ≡ Some read.found.command = sym c.command_named-command.ensures ∙ ap command_named c.name_found.ensures ∙ read.found.named in
    let same : c.command_named-command.result ≡ read.found.command = cc in
    read.is ∙ ap Ok (sym (c.request_with.ensures ∙ ap (λ (command : CommandName). request_with command rows) same ∙ read.found.makes))
