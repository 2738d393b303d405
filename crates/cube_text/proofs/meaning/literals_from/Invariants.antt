use Rattle.std.proofs.Common.{◌≡◌, ◌+◌, ◌-◌, [], length, map}
use Rattle.cube_text.specs.Form.{parted, is_and}
use Rattle.cube_text.specs.Groups.{groups_from}
use Rattle.cube_text.specs.Meaning.{literals_from}
use Rattle.cube_text.proofs.meaning.literals_from.Given as goal

abbrev pub invariant-loop-at : goal.invariant-loop-at
invariant-loop-at l =
    literals_from l.protocol l.width l.lits (groups_from (map (λ w. w.now) l.words) l.at)
    ≡ literals_from l.protocol l.width [] (parted is_and (map (λ w. w.now) l.words))

abbrev pub decreases-loop-at : goal.decreases-loop-at
decreases-loop-at l = length l.words + 1 - l.at
