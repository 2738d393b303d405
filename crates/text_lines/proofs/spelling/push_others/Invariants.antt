use Rattle.std.proofs.Common.{◌≡◌, [], ◌∷◌, ◌++◌, take, flat_map}
use Rattle.text_lines.specs.Spelling.{process_text}
use Rattle.text_lines.proofs.spelling.push_others.Given as goal

abbrev pub invariant-loop-process : goal.invariant-loop-process
invariant-loop-process l = l.out.items ≡ l.fn.out.items ++ flat_map (λ i. (32 ∷ []) ++ process_text i) (take l.process-index l.processes)
