-- The cells of an array written one after another.
use Rattle.std.proofs.Common.{◌≡◌, ℕ, ◌+◌, ◌<◌, ◌≤◌, List, ◌++◌, length, get_or, take, drop, sym, ap, subst, ◌∙◌, arith}
use Rattle.cub_proto.specs.declared.state.Slot.TheVariants as Slot
use Rattle.cub_proto.specs.declared.state.Val.{Val}
use Rattle.cub_proto.specs.declared.state.Val.TheVariants.{Con}
use Rattle.cub_proto.specs.Configuration.{Configuration, cells_of, HasSlot, put}
use Rattle.replay.specs.Writes.{with_cells}
use Rattle.cub_base.proofs.Mixed.{length_mix, mix_more, mix_whole}
use Rattle.replay.proofs.Shapes.{put_cell, has_cell_there}

module _ (t : Configuration) (a i : ℕ) (ys : List Val) (there : a < length t.arrays) (same : length (cells_of t a) ≡ length ys) where
  pub cells_there : (u : Configuration) → u ≡ with_cells t a (take i ys ++ drop i (cells_of t a)) → i < length ys → HasSlot u (Slot.Cell a i)
  cells_there u is h =
      let e = length_mix ys (cells_of t a) i (omega arith) same in
      subst (λ c. HasSlot c (Slot.Cell a i)) (sym is)
      (has_cell_there t a i (take i ys ++ drop i (cells_of t a)) there (omega (arith, e)))

  pub cells_more : (u : Configuration) (v : Val) → u ≡ with_cells t a (take i ys ++ drop i (cells_of t a)) → i < length ys → v ≡ get_or ys i (Con 0) → put u (Slot.Cell a i) v ≡ with_cells t a (take (i + 1) ys ++ drop (i + 1) (cells_of t a))
  cells_more u v is h value =
      ap (λ c. put c (Slot.Cell a i) v) is ∙ put_cell t a i (take i ys ++ drop i (cells_of t a)) v there
      ∙ ap (with_cells t a) (mix_more ys (cells_of t a) i v (Con 0) h same value)

  pub cells_whole : (u : Configuration) → u ≡ with_cells t a (take i ys ++ drop i (cells_of t a)) → length ys ≤ i → u ≡ with_cells t a ys
  cells_whole u is h = is ∙ ap (with_cells t a) (mix_whole ys (cells_of t a) i same h)
