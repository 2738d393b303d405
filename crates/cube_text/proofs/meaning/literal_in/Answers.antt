use Rattle.cube_text.proofs.WordCounts.{no_few_mapped, no_four_mapped, no_many_mapped}
use Rattle.cube_text.proofs.meaning.literal_in.Goals as goal

pub returns-in-empty : goal.returns-in-empty
returns-in-empty c = no_few_mapped c.args.protocol.now c.args.width (λ w. w.now) c.args.words.now c.in-empty.len_below

pub returns-in-empty-2 : goal.returns-in-empty-2
returns-in-empty-2 c = no_four_mapped c.args.protocol.now c.args.width (λ w. w.now) c.args.words.now c.in-empty.len_at_least c.in-empty.len_below

pub returns-in-empty-3 : goal.returns-in-empty-3
returns-in-empty-3 c = no_many_mapped c.args.protocol.now c.args.width (λ w. w.now) c.args.words.now c.in-empty.len_at_least
