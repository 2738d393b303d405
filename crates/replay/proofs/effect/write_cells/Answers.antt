use Rattle.std.proofs.Common.{◌≡◌, ℕ, ◌<◌, List, Some, None, length, arith, sym, ◌∙◌}
use Rattle.cub_proto.specs.declared.state.Val.TheVariants.{Con}
use Rattle.cub_proto.specs.declared.transition.Update.{Update}
use Rattle.cub_proto.specs.declared.transition.Target.TheVariants as Target
use Rattle.cub_proto.specs.Configuration.{Configuration, cells_of}
use Rattle.cub_proto.specs.Effect.{cell_after}
use Rattle.replay.specs.Writes.{SameShape, HasTarget, new_cells}
use Rattle.cub_base.proofs.Numbered.{length-map_from, get_or-map_from_zero}
use Rattle.replay.proofs.Cells.{cells_there, cells_more, cells_whole}
use Rattle.replay.proofs.effect.write_cells.Goals as goal

module _ (s t : Configuration) (params : List ℕ) (u : Update) (a : ℕ) (target : HasTarget s (Target.Array a)) (shape : SameShape s t) where
  new_length : length (new_cells s params u a) ≡ length s.living
  new_length = length-map_from (cell_after s params (Some u) (λ _. None) a) 0 (cells_of s a) ∙ target.1

  same_length : length (cells_of t a) ≡ length (new_cells s params u a)
  same_length = shape.cells a ∙ target.1 ∙ sym new_length

  array_there : a < length t.arrays
  array_there = let e = shape.arrays in omega (arith, target.0)

pub set-requires : goal.set-requires
set-requires c =
    let s = c.args.state.now in
    let t = c.args.next.now in
    let params = c.args.params.now in
    let u = c.args.update.now in
    let a = c.args.array in
    let n = c.processes-process-end.ensures in
    let e = new_length s t params u a c.requires.target c.requires.shape in
    cells_there t a c.loop-process.process (new_cells s params u a) (array_there s t params u a c.requires.target c.requires.shape)
    (same_length s t params u a c.requires.target c.requires.shape) c.loop-process.next c.loop-process.invariant (omega arith)

pub loop-process-preserved : goal.loop-process-preserved
loop-process-preserved c =
    let s = c.args.state.now in
    let t = c.args.next.now in
    let params = c.args.params.now in
    let u = c.args.update.now in
    let a = c.args.array in
    let i = c.loop-process.process in
    let n = c.processes-process-end.ensures in
    let e = new_length s t params u a c.requires.target c.requires.shape in
    let old : i < length (cells_of s a) = omega (arith, c.requires.target.1) in
    c.set.ensures
    ∙ cells_more t a i (new_cells s params u a) (array_there s t params u a c.requires.target c.requires.shape)
    (same_length s t params u a c.requires.target c.requires.shape) c.loop-process.next c.cell_after-val.result c.loop-process.invariant (omega arith)
    (c.cell_after-val.ensures ∙ sym (get_or-map_from_zero (cell_after s params (Some u) (λ _. None) a) (cells_of s a) i (Con 0) (Con 0) old))

pub returns : goal.returns
returns c =
    let s = c.args.state.now in
    let t = c.args.next.now in
    let params = c.args.params.now in
    let u = c.args.update.now in
    let a = c.args.array in
    let n = c.processes-process-end.ensures in
    let e = new_length s t params u a c.requires.target c.requires.shape in
    cells_whole t a c.loop-process.process (new_cells s params u a) (array_there s t params u a c.requires.target c.requires.shape)
    (same_length s t params u a c.requires.target c.requires.shape) c.loop-process.next c.loop-process.invariant (omega arith)
