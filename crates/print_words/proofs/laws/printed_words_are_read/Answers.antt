use Rattle.cub_lexer.proofs.OneReadingLaws.{one}
use Rattle.cub_print.specs.Printed.{protocol_marks}
use Rattle.cub_print.proofs.TokenLaws.{marks_are_read}
use Rattle.print_words.specs.ReadBack.{WordsStandApart}
use Rattle.print_words.proofs.Seams.{free}
use Rattle.print_words.proofs.TokenFacts.{fit_apart}
use Rattle.print_words.proofs.LawfulMarks.{lawful_protocol}
use Rattle.print_words.proofs.Fitting.{protocol_lines}
use Rattle.print_words.proofs.laws.printed_words_are_read.Goals as goal

apart : WordsStandApart
apart p writable = fit_apart free free (protocol_marks p) (lawful_protocol p writable) (protocol_lines p)

pub returns-clause-apart : goal.returns-clause-apart
returns-clause-apart c = apart

pub returns-clause-read : goal.returns-clause-read
returns-clause-read c = λ p writable. marks_are_read (protocol_marks p) (apart p writable)

pub returns-clause-alone : goal.returns-clause-alone
returns-clause-alone c = λ p o writable reads. one reads (marks_are_read (protocol_marks p) (apart p writable))
