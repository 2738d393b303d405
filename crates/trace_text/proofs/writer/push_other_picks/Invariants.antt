use Rattle.std.proofs.Common.{◌≡◌, ◌++◌, take, flat_map, codes}
use Rattle.trace_text.specs.Text.{pick_text}
use Rattle.trace_text.proofs.writer.push_other_picks.Given as goal

abbrev pub invariant-loop-pick : goal.invariant-loop-pick
invariant-loop-pick l = l.out.items ≡ l.fn.out.items ++ flat_map (λ c. codes " && " ++ pick_text l.protocol c) (take l.pick-index l.picks)
