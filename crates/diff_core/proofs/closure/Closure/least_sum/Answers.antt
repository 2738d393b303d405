use Rattle.std.proofs.Common.{◌≡◌, ℕ, ◌<◌, ℤ, ◌≤ℤ◌, List, arith, subst, sym}
use Rattle.std.proofs.lemmas.Int.{ints, to_z-of_z}
use Rattle.diff_core.specs.Constraints.{IsLeastSum}
use Rattle.diff_core.specs.Closure.{IsClosure}
use Rattle.diff_core.specs.Table.{Table, cell, far, IsClosureOf}
use Rattle.diff_core.proofs.Exact.{row_least_sum}
use Rattle.diff_core.proofs.Rows.{entry_at_least}
use Rattle.diff_core.proofs.Tables.{wide_enough}
use Rattle.diff_core.proofs.closure.Closure.least_sum.Goals as goal
use mir.Val.{SFits, to_z, of_z}
use mir.Syntax.{w64}

pub returns-clause-least : goal.returns-clause-least
returns-clause-least c cs is =
    let f : SFits w64 c.row_least.result = record { sfits = c.row_least.type_inv } in
    let plain : to_z w64 (of_z w64 c.row_least.result) ≡ c.row_least.result = to_z-of_z w64 c.row_least.result f in
    let a_in : c.args.a < c.self.inside.nodes = subst (λ (u : Table). c.args.a < u.nodes) (sym c.self.view_is) c.requires in
    let here : IsClosure cs c.self.inside.nodes far (cell c.self.inside.entries.items) = subst (λ (u : Table). IsClosureOf cs u) (sym c.self.view_is) is in
    let items_are : c.deref.result.now ≡ c.self.inside.entries.items = c.deref.ensures.value in
    let reached : (x : ℕ) × (x < c.self.inside.nodes) × (cell c.self.inside.entries.items c.args.a x ≡ c.row_least.result) =
    subst (λ (m : List ℤ). (x : ℕ) × (x < c.self.inside.nodes) × (cell m c.args.a x ≡ c.row_least.result)) items_are c.row_least.ensures.reached in
    let below : (x : ℕ) → x < c.self.inside.nodes → c.row_least.result ≤ℤ cell c.self.inside.entries.items c.args.a x =
    subst (λ (m : List ℤ). (x : ℕ) → x < c.self.inside.nodes → c.row_least.result ≤ℤ cell m c.args.a x) items_are c.row_least.ensures.below in
    subst (λ (z : ℤ). IsLeastSum cs c.args.a z) (sym plain)
    (row_least_sum cs c.self.inside.nodes 281474976710656 far (cell c.self.inside.entries.items) c.self.invariant.closed (wide_enough c.self.inside.nodes c.self.invariant.few) here c.args.a a_in c.row_least.result
    (reached.0, reached.1, reached.2, omega (arith, ints, c.row_least.ensures.at_most)) below)

pub returns-clause-at_least : goal.returns-clause-at_least
returns-clause-at_least c =
    let f : SFits w64 c.row_least.result = record { sfits = c.row_least.type_inv } in
    let a_in : c.args.a < c.self.inside.nodes = subst (λ (u : Table). c.args.a < u.nodes) (sym c.self.view_is) c.requires in
    let reached : (x : ℕ) × (x < c.self.inside.nodes) × (cell c.self.inside.entries.items c.args.a x ≡ c.row_least.result) =
    subst (λ (m : List ℤ). (x : ℕ) × (x < c.self.inside.nodes) × (cell m c.args.a x ≡ c.row_least.result)) c.deref.ensures.value c.row_least.ensures.reached in
    omega (arith, ints, reached.2, entry_at_least c.self.inside.nodes (cell c.self.inside.entries.items) c.self.invariant.few c.self.invariant.closed c.args.a reached.0 a_in reached.1)
