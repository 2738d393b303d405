use Rattle.std.proofs.Common.{◌&&◌, not, ap, ◌∙◌}
use Rattle.cub_proto.specs.Truth.{has_bit}
use Rattle.subsume.proofs.Bits.{all_bits}
use Rattle.cover_index.proofs.summaries.lacks_key.Goals as goal

pub returns : goal.returns
returns c b below =
    c.beyond.ensures b ∙ ap (λ full. full && not (has_bit c.offers_key.result b)) (all_bits b below) ∙ ap (λ key. not (has_bit key b)) c.offers_key.ensures
