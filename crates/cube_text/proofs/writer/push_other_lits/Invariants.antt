use Rattle.std.proofs.Common.{◌≡◌, ◌++◌, take, flat_map, codes}
use Rattle.cube_text.specs.Text.{lit_text}
use Rattle.cube_text.proofs.writer.push_other_lits.Given as goal

abbrev pub invariant-loop-lit : goal.invariant-loop-lit
invariant-loop-lit l =
    l.out.items ≡ l.initial.out.items ++ flat_map (λ x. codes " && " ++ lit_text l.protocol x) (take l.lit-index l.lits)
