use Rattle.std.proofs.Common.{◌≡◌, ℤ, List, [], ◌++◌, length, take, drop, arith, subst, sym}
use Rattle.std.proofs.lemmas.Int.{ints}
use Rattle.diff_core.specs.Closure.{IsClosure}
use Rattle.diff_core.specs.Table.{cell, far, IsTable}
use Rattle.diff_core.proofs.Grown.{fresh_closed, fresh_closure}
use Rattle.diff_core.proofs.Tables.{written_back}
use Rattle.diff_core.proofs.closure.Closure.reset.Goals as goal

pub invariant_of-self : goal.invariant_of-self
invariant_of-self c =
    let same : take c.self.inside.entries.len (c.clear.new.entries ++ drop (length c.clear.new.entries) c.self.inside.entries.items) ≡ c.clear.new.entries =
    written_back c.clear.new.entries c.self.inside.entries.items c.self.inside.entries.len (omega arith) (omega arith) in
    subst (λ (m : List ℤ). IsTable c.args.nodes m) (sym same)
    (record { few = c.requires; size = omega arith; closed = fresh_closed c.args.nodes 281474976710656 far (cell c.clear.new.entries) (omega (arith, ints)) c.clear.ensures })

pub returns-clause-closure : goal.returns-clause-closure
returns-clause-closure c =
    let same : take c.self.inside.entries.len (c.clear.new.entries ++ drop (length c.clear.new.entries) c.self.inside.entries.items) ≡ c.clear.new.entries =
    written_back c.clear.new.entries c.self.inside.entries.items c.self.inside.entries.len (omega arith) (omega arith) in
    subst (λ (m : List ℤ). IsClosure [] c.args.nodes far (cell m)) (sym same) (fresh_closure c.args.nodes far (cell c.clear.new.entries) (omega (arith, ints)) c.clear.ensures)
