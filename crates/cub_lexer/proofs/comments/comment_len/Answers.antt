use Rattle.std.proofs.Common.{◌≡◌, ◌+◌, ◌-◌, ◌<◌, ◌≤◌, length, drop, get_or, Some, None, refl, sym, ap, ◌∙◌, arith, true, false}
use Rattle.std.proofs.lemmas.List.{length-drop}
use Rattle.cub_lexer.specs.Comment.{end_of, comment_len, is_opening, is_closing}
use Rattle.cub_lexer.proofs.CommentLaws.{end_of_opening, end_of_closing, end_of_other, end_of_short}
use Rattle.cub_lexer.proofs.comments.comment_len.Goals as goal

pub returns-then-bytes-at-lt2-clause-value : goal.returns-then-bytes-at-lt2-clause-value
returns-then-bytes-at-lt2-clause-value c =
    let xs = c.args.bytes.now in
    let at = c.loop-depth.at in
    sym (end_of_short (drop at xs) c.loop-depth.depth at (omega arith) (omega (arith, length-drop at xs))) ∙ c.loop-depth.invariant.0

pub loop-depth-preserved-then-is_opening : goal.loop-depth-preserved-then-is_opening
loop-depth-preserved-then-is_opening c =
    (sym (end_of_opening c.args.bytes.now c.loop-depth.depth c.loop-depth.at (omega arith) (omega arith) (sym c.is_opening.ensures ∙ c.if-is_opening.true)) ∙ c.loop-depth.invariant.0, omega arith, omega arith, omega arith)

pub loop-depth-preserved-then-is_closing : goal.loop-depth-preserved-then-is_closing
loop-depth-preserved-then-is_closing c =
    (sym (end_of_closing c.args.bytes.now c.loop-depth.depth c.loop-depth.at (omega arith) (omega arith) (sym c.is_opening.ensures ∙ c.if-is_opening.false) (sym c.is_closing.ensures ∙ c.if-is_closing.true)) ∙ c.loop-depth.invariant.0, omega arith, omega arith, omega arith)

pub loop-depth-preserved : goal.loop-depth-preserved
loop-depth-preserved c =
    (sym (end_of_other c.args.bytes.now c.loop-depth.depth c.loop-depth.at (omega arith) (omega arith) (sym c.is_opening.ensures ∙ c.if-is_opening.false) (sym c.is_closing.ensures ∙ c.if-is_closing.false)) ∙ c.loop-depth.invariant.0, omega arith, omega arith, omega arith)

pub returns-clause-value : goal.returns-clause-value
unfolding end_of
returns-clause-value c =
    let done : c.loop-depth.depth ≡ 0 = omega arith in
    sym (ap (λ d. end_of d c.loop-depth.at (drop c.loop-depth.at c.args.bytes.now)) done) ∙ c.loop-depth.invariant.0
