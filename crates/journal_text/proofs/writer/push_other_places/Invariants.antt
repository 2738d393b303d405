use Rattle.std.proofs.Common.{◌≡◌, [], ◌∷◌, ◌++◌, take, flat_map}
use Rattle.text_lines.specs.Spelling.{process_text}
use Rattle.journal_text.proofs.writer.push_other_places.Given as goal

abbrev pub invariant-loop-place : goal.invariant-loop-place
invariant-loop-place l = l.out.items ≡ l.fn.out.items ++ flat_map (λ i. (32 ∷ []) ++ process_text i) (take l.place-index l.places)
