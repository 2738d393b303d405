use Rattle.cube_text.proofs.WordCounts.{no_cube_mapped}
use Rattle.cube_text.proofs.form.is_cube.Goals as goal

pub returns-in-len1 : goal.returns-in-len1
returns-in-len1 c = (no_cube_mapped (λ w. w.now) c.args.words.now c.in-len1.len_below).0
