use Rattle.std.proofs.Common.{◌≡◌, ◌+◌, ◌-◌, length, map}
use Rattle.std.specs.List.{list_all}
use Rattle.cube_text.specs.Form.{parted, is_and, is_literal}
use Rattle.cube_text.specs.Groups.{groups_from}
use Rattle.cube_text.proofs.form.all_are_literals.Given as goal

abbrev pub invariant-loop-at : goal.invariant-loop-at
invariant-loop-at l =
    list_all is_literal (groups_from (map (λ w. w.now) l.words) l.at) ≡ list_all is_literal (parted is_and (map (λ w. w.now) l.words))

abbrev pub decreases-loop-at : goal.decreases-loop-at
decreases-loop-at l = length l.words + 1 - l.at
