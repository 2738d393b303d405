use Rattle.std.proofs.Common.{◌<◌, ◌≤◌, ◌+◌, ◌==◌, ◌∷◌, take, drop, length, ap, sym, ◌∙◌, subst}
use Rattle.cube_text.specs.Form.{parted}
use Rattle.cube_text.proofs.PartLaws.{first_part, only_part}
use Rattle.cube_text.proofs.parts.cut.Goals as goal

pub returns-then-len-bytes-clause-some : goal.returns-then-len-bytes-clause-some
returns-then-len-bytes-clause-some c =
    first_part (λ b. b == c.args.kind) c.args.bytes.now (subst (λ k. k < length c.args.bytes.now) c.first_at-len.ensures.value c.if-len-bytes.true)
    ∙ ap (λ n. take n c.args.bytes.now ∷ parted (λ b. b == c.args.kind) (drop (n + 1) c.args.bytes.now)) (sym c.first_at-len.ensures.value)
    ∙ ap (λ x. x ∷ parted (λ b. b == c.args.kind) (drop (c.first_at-len.result + 1) c.args.bytes.now)) (sym c.split_at.ensures.front)
    ∙ ap (λ y. c.split_at.result.0.now ∷ parted (λ b. b == c.args.kind) y) (sym c.split_at-then-len-bytes.ensures.back)

pub returns-else-len-bytes-clause-none : goal.returns-else-len-bytes-clause-none
returns-else-len-bytes-clause-none c =
    only_part (λ b. b == c.args.kind) c.args.bytes.now (subst (λ k. length c.args.bytes.now ≤ k) c.first_at-len.ensures.value c.if-len-bytes.false)
