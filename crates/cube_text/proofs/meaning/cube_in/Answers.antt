use Rattle.cube_text.proofs.WordCounts.{no_cube_mapped}
use Rattle.cube_text.proofs.meaning.cube_in.Goals as goal

pub returns-in_default : goal.returns-in_default
returns-in_default c = (no_cube_mapped (λ w. w.now) c.args.words.now c.in_default.len_below).1 c.args.protocol.now c.args.widest
