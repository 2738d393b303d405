use Rattle.std.proofs.Common.{◌≡◌, drop, map}
use Rattle.std.specs.List.{list_all}
use Rattle.cube_text.specs.Form.{is_place}
use Rattle.journal_text.proofs.form.all_are_places.Given as goal

abbrev pub invariant-loop-word : goal.invariant-loop-word
invariant-loop-word l = list_all is_place (map (λ w. w.now) (drop l.word-index l.words)) ≡ list_all is_place (map (λ w. w.now) l.words)
