use Rattle.std.proofs.Common.{refl, sym, ap, ◌∙◌}
use Rattle.std.proofs.lemmas.Bool.{true≢false}
use Rattle.cub_proto.specs.Truth.{has_bit}
use Rattle.subsume.proofs.Bits.{no_bits}
use Rattle.cover_index.proofs.Columned.{no_columns}
use Rattle.cover_index.proofs.columns.filled.Goals as goal

pub loop-b-init : goal.loop-b-init
loop-b-init c = record {
  all = refl;
  only = λ k i h. absurd (true≢false (sym h ∙ ap (λ w. has_bit w i) (no_columns k) ∙ no_bits i));
}
