use Rattle.print_reads.proofs.TreeReads.{normal_parts, tree_reads}
use Rattle.print_reads.proofs.StagesRead.{stages_read, text_read, nothing_else}
use Rattle.print_reads.proofs.laws.printed_text_reads_as_its_protocol.Goals as goal

pub returns-clause-tree : goal.returns-clause-tree
returns-clause-tree c = λ p normal.
    tree_reads p normal c.printed_declarations_are_read.ensures c.printed_bodies_are_read.ensures c.printed_guards_are_read.ensures c.printed_transitions_are_read.ensures

pub returns-clause-text : goal.returns-clause-text
returns-clause-text c = λ p normal.
    text_read p (normal_parts p normal).writable c.printed_words_are_read.ensures.read c.printed_words_are_read.ensures.alone c.printed_words_are_a_sentence.ensures.sentence
    c.printed_words_are_a_sentence.ensures.alone c.one_protocol.ensures (returns-clause-tree c p normal)

pub returns-clause-alone : goal.returns-clause-alone
returns-clause-alone c = λ p q normal.
    nothing_else p (normal_parts p normal).writable c.printed_words_are_read.ensures.read c.printed_words_are_read.ensures.alone c.printed_words_are_a_sentence.ensures.sentence
    c.printed_words_are_a_sentence.ensures.alone c.one_protocol.ensures (returns-clause-tree c p normal) q

pub returns-clause-stages : goal.returns-clause-stages
returns-clause-stages c = λ p normal.
    stages_read p (normal_parts p normal).writable c.printed_words_are_read.ensures.read c.printed_words_are_read.ensures.alone c.printed_words_are_a_sentence.ensures.sentence
    c.printed_words_are_a_sentence.ensures.alone c.one_protocol.ensures (returns-clause-tree c p normal)
