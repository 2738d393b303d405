use Rattle.cube_text.proofs.WordCounts.{few_mapped, four_mapped, many_mapped}
use Rattle.cube_text.proofs.form.is_literal.Goals as goal

pub returns-in-empty : goal.returns-in-empty
returns-in-empty c = few_mapped (λ w. w.now) c.args.words.now c.in-empty.len_below

pub returns-in-empty-2 : goal.returns-in-empty-2
returns-in-empty-2 c = four_mapped (λ w. w.now) c.args.words.now c.in-empty.len_at_least c.in-empty.len_below

pub returns-in-empty-3 : goal.returns-in-empty-3
returns-in-empty-3 c = many_mapped (λ w. w.now) c.args.words.now c.in-empty.len_at_least
