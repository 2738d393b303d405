use Rattle.std.proofs.Common.{◌∙◌, sym}
use Rattle.std.proofs.lemmas.Bool.{true≢false}
use Rattle.subsume.proofs.Summarized.{passed_over, is_candidate}
use Rattle.subsume.proofs.summary.may_cover.Goals as goal

pub returns-clause-none : goal.returns-clause-none
returns-clause-none c h p d x of_d of_x asked given consistent =
    passed_over p d x c.args.big.now c.args.small.now of_d of_x asked given consistent (λ among. true≢false (sym (c.are_among.ensures.1 among) ∙ h))

pub returns-clause-candidate : goal.returns-clause-candidate
returns-clause-candidate c h p d x own_d own_x asked = is_candidate p d x c.args.big.now c.args.small.now asked own_d own_x (c.are_among.ensures.0 h)
