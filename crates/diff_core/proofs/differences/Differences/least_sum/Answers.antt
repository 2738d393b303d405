use Rattle.std.proofs.Common.{◌≡◌, ℤ, subst, sym, ap}
use Rattle.std.proofs.lemmas.Int.{to_z-of_z}
use Rattle.diff_core.specs.Constraints.{IsLeastSum}
use Rattle.diff_core.specs.Closing.{Closing}
use Rattle.diff_core.specs.Table.{Table, IsClosureOf}
use Rattle.diff_core.proofs.differences.Differences.least_sum.Goals as goal
use mir.Val.{SFits, to_z, of_z}
use mir.Syntax.{w64}

pub returns-clause-least : goal.returns-clause-least
returns-clause-least c cs is =
    let f : SFits w64 c.least_sum.result = record { sfits = c.least_sum.type_inv } in
    let plain : to_z w64 (of_z w64 c.least_sum.result) ≡ c.least_sum.result = to_z-of_z w64 c.least_sum.result f in
    let table_is : c.self.inside.closure ≡ c.args.self.now.table = ap (λ (x : Closing). x.table) c.self.view_is in
    subst (λ (z : ℤ). IsLeastSum cs c.args.a z) (sym plain) (c.least_sum.ensures.least cs (subst (λ (t : Table). IsClosureOf cs t) (sym table_is) is))
