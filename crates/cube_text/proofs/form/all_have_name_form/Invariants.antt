use Rattle.std.proofs.Common.{◌≡◌, drop, map}
use Rattle.std.specs.List.{list_all}
use Rattle.cub_base.specs.Name.{has_name_form}
use Rattle.cube_text.proofs.form.all_have_name_form.Given as goal

abbrev pub invariant-loop-word : goal.invariant-loop-word
invariant-loop-word l =
    list_all has_name_form (map (λ w. w.now) (drop l.word-index l.words)) ≡ list_all has_name_form (map (λ w. w.now) l.words)
