use Rattle.std.proofs.Common.{◌≡◌, ◌++◌, take, codes}
use Rattle.std.specs.List.{join_by}
use Rattle.cube_text.specs.Text.{marked}
use Rattle.cube_text.proofs.Marking.{is_some}
use Rattle.cube_text.proofs.writer.push_marked.Given as goal

abbrev pub invariant-loop-number : goal.invariant-loop-number
invariant-loop-number l =
    (l.out.items ≡ l.initial.out.items ++ join_by (λ n. n) (codes ",") (marked l.mask 0 (take l.number l.names)))
    × (l.some ≡ is_some (marked l.mask 0 (take l.number l.names)))
