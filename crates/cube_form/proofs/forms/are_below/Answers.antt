use Rattle.std.proofs.Common.{◌<◌, ℕ, arith}
use Rattle.std.specs.Prelude.{All}
use Rattle.std.proofs.lemmas.List.Elements.{All-more}
use Rattle.cube_form.proofs.Loops.{all_end, yes}
use Rattle.cube_form.proofs.forms.are_below.Goals as goal

pub loop-place-preserved : goal.loop-place-preserved
loop-place-preserved c =
    All-more (λ (p : ℕ). p < c.args.width) c.args.places.now c.loop-place.place-index 0 (omega arith) c.loop-place.invariant c.if-place-width.false

pub returns : goal.returns
returns c =
    yes (All (λ (p : ℕ). p < c.args.width) c.args.places.now) (all_end (λ (p : ℕ). p < c.args.width) c.args.places.now c.loop-place.place-index (omega arith) c.loop-place.invariant)
