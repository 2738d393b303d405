use Rattle.std.proofs.Common.{◌≡◌, ℕ, ◌<◌, ℤ, pos, ◌+ℤ◌, ◌<ℤ◌, List, ◌++◌, length, take, drop, arith, subst, sym, ◌∙◌}
use Rattle.diff_core.specs.declared.constraint.Constraint.{Constraint}
use Rattle.diff_core.specs.Constraints.{constraint_at, IsNegativeCycle, AreProper}
use Rattle.diff_core.specs.Table.{cell, IsTable}
use Rattle.diff_core.proofs.Ways.{has_arrived}
use Rattle.diff_core.proofs.Tables.{written_back}
use Rattle.diff_core.proofs.search.CycleFinder.find.Goals as goal

pub write_cycle-self-inside-requires-clause-arrived : goal.write_cycle-self-inside-requires-clause-arrived
write_cycle-self-inside-requires-clause-arrived g c =
    let all : List Constraint = g.C.Constraints.list c.args.constraints.now in
    let rank_is : c.deref.result.now ≡ c.search.new.rank = c.deref.ensures.value ∙ written_back c.search.new.rank c.self.inside.rank.items c.self.inside.rank.len (omega arith) (omega arith) in
    let next_is : c.deref-2.result.now ≡ c.search.new.next = c.deref-2.ensures.value ∙ written_back c.search.new.next c.self.inside.next.items c.self.inside.next.len (omega arith) (omega arith) in
    let nodes_are : c.args.closure.now.nodes ≡ c.nodes-nodes.result = sym c.nodes-nodes.ensures in
    let entries_are : c.entries.result.now ≡ c.args.closure.now.entries = c.entries.ensures.entries in
    let table : IsTable c.nodes-nodes.result c.entries.result.now =
    subst (λ (n : ℕ). IsTable n c.entries.result.now) nodes_are (subst (λ (m : List ℤ). IsTable c.args.closure.now.nodes m) (sym entries_are) c.entries.ensures.table) in
    let right_in : c.get-con.result.right < c.nodes-nodes.result =
    subst (λ (n : ℕ). c.get-con.result.right < n) nodes_are (subst (λ (x : Constraint). x.right < c.args.closure.now.nodes) (sym c.get-con.ensures) (c.requires.range c.args.failed c.requires.failed_in).right_in) in
    let negative : (cell c.entries.result.now (constraint_at all c.args.failed).right (constraint_at all c.args.failed).left +ℤ (constraint_at all c.args.failed).bound) <ℤ pos 0 =
    subst (λ (m : List ℤ). (cell m (constraint_at all c.args.failed).right (constraint_at all c.args.failed).left +ℤ (constraint_at all c.args.failed).bound) <ℤ pos 0) (sym entries_are) c.requires.negative in
    has_arrived all c.nodes-nodes.result c.args.failed c.search.ensures.search.0 c.entries.result.now c.get-con.result c.search.new.rank c.search.new.next c.deref.result.now c.deref-2.result.now
    table c.get-con.ensures right_in c.search.ensures.search.1 c.search.ensures.reached negative rank_is next_is

pub returns-clause-cycle : goal.returns-clause-cycle
returns-clause-cycle g c =
    let same : take c.self.inside.cycle.len (c.write_cycle-self-inside.new.out ++ drop (length c.write_cycle-self-inside.new.out) c.self.inside.cycle.items) ≡ c.write_cycle-self-inside.new.out =
    written_back c.write_cycle-self-inside.new.out c.self.inside.cycle.items c.self.inside.cycle.len (omega arith) (omega arith) in
    subst (λ (out : List ℕ). IsNegativeCycle (g.C.Constraints.list c.args.constraints.now) (take c.write_cycle-self-inside.result out)) (sym same) c.write_cycle-self-inside.ensures.cycle

pub returns-clause-proper : goal.returns-clause-proper
returns-clause-proper g c =
    let same : take c.self.inside.cycle.len (c.write_cycle-self-inside.new.out ++ drop (length c.write_cycle-self-inside.new.out) c.self.inside.cycle.items) ≡ c.write_cycle-self-inside.new.out =
    written_back c.write_cycle-self-inside.new.out c.self.inside.cycle.items c.self.inside.cycle.len (omega arith) (omega arith) in
    subst (λ (out : List ℕ). AreProper (g.C.Constraints.list c.args.constraints.now) (take c.write_cycle-self-inside.result out)) (sym same) c.write_cycle-self-inside.ensures.proper
