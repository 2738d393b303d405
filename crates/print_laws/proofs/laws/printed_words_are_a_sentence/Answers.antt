use Rattle.cub_parse.specs.Sentence.{numbered}
use Rattle.cub_parse.proofs.Sentences.{tree_once, none_in_sentence}
use Rattle.cub_print.specs.Printed.{protocol_marks}
use Rattle.cub_print.specs.Tokens.{tokens_from}
use Rattle.print_laws.specs.Tree.{tree_of}
use Rattle.print_laws.proofs.Whole.{protocol_sentence}
use Rattle.print_laws.proofs.laws.printed_words_are_a_sentence.Goals as goal

pub returns-clause-sentence : goal.returns-clause-sentence
returns-clause-sentence c = protocol_sentence

pub returns-clause-alone : goal.returns-clause-alone
returns-clause-alone c = λ p tree h. tree_once (numbered 0 (tokens_from 0 (protocol_marks p))) tree (tree_of p) h (protocol_sentence p)

pub returns-clause-lawful : goal.returns-clause-lawful
returns-clause-lawful c = λ p at kind fault. none_in_sentence (numbered 0 (tokens_from 0 (protocol_marks p))) (tree_of p) at kind (protocol_sentence p) fault
