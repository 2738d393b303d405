use Rattle.std.proofs.Common.{◌≡◌, drop, map}
use Rattle.cube_text.specs.Meaning.{mask_from}
use Rattle.cube_text.proofs.meaning.mask_of.Given as goal

abbrev pub invariant-loop-name : goal.invariant-loop-name
invariant-loop-name l =
    mask_from l.cons l.mask (map (λ w. w.now) (drop l.name-index l.names)) ≡ mask_from l.cons 0 (map (λ w. w.now) l.names)
