use Rattle.sample_text.proofs.Normal.{is_normal}
use Rattle.sample_text.proofs.laws.sample_is_what_its_text_reads_as.Goals as goal

pub returns-clause-normal : goal.returns-clause-normal
returns-clause-normal c top p low sample = is_normal top p low sample

pub returns-clause-reads : goal.returns-clause-reads
returns-clause-reads c top p low sample = c.printed_text_reads_as_its_protocol.ensures.text p (is_normal top p low sample)

pub returns-clause-alone : goal.returns-clause-alone
returns-clause-alone c top p q low sample found = c.printed_text_reads_as_its_protocol.ensures.alone p q (is_normal top p low sample) found
