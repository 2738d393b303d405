use Rattle.std.proofs.Common.{◌≡◌, ◌+◌, ◌-◌, ◌*◌, ◌≤◌, ◌<◌, length, drop}
use Rattle.cub_lexer.specs.Comment.{end_of, comment_len}
use Rattle.cub_lexer.proofs.comments.comment_len.Given as goal

abbrev pub invariant-loop-depth : goal.invariant-loop-depth
invariant-loop-depth l = (end_of l.depth l.at (drop l.at l.bytes) ≡ comment_len l.bytes) × (2 ≤ l.at) × (l.at ≤ length l.bytes) × (l.depth < l.at)

abbrev pub decreases-loop-depth : goal.decreases-loop-depth
decreases-loop-depth l = length l.initial.bytes - l.at
