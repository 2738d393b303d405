use Rattle.std.proofs.Common.{◌≡◌, ◌≢◌, ℕ, ◌<◌, ◌+◌, suc, length, set, arith, slice_index, subst, sym, ap, ◌∙◌, rules, length-set}
use Rattle.diff_core.specs.declared.constraint.Constraint.{Constraint}
use Rattle.diff_core.specs.Constraints.{constraint_at}
use Rattle.diff_core.proofs.Ways.{IsWay, way_first, way_step, way_few, way_last}
use Rattle.diff_core.proofs.search.write_cycle.Goals as goal

pub loop-node-init : goal.loop-node-init
loop-node-init g c = record {
  size = omega (arith, length-set {A = ℕ}, c.requires.out_size);
  way = λ arrived. subst (λ (x : Constraint). IsWay (g.C.Constraints.list c.args.constraints.now) c.args.nodes c.args.failed (slice_index c.args.rank.now) (slice_index c.args.next.now) arrived x.left 1 (set c.args.out.now 0 c.args.failed))
      (sym c.get-con.ensures) (way_first (g.C.Constraints.list c.args.constraints.now) c.args.nodes c.args.failed (slice_index c.args.rank.now) (slice_index c.args.next.now) arrived c.requires.range c.requires.failed_in c.args.out.now c.requires.out_size);
}

pub bounds-next-node : goal.bounds-next-node
bounds-next-node g c = omega (arith, (c.loop-node.invariant.way c.requires.arrived).at_in, c.requires.few, c.requires.next_size)

pub offset_bounds-next-node : goal.offset_bounds-next-node
offset_bounds-next-node g c =
    let node_in : c.loop-node.node < c.args.nodes = (c.loop-node.invariant.way c.requires.arrived).at_in in
    search rules

pub bounds-out-length : goal.bounds-out-length
bounds-out-length g c =
    let other : c.loop-node.node ≢ (constraint_at (g.C.Constraints.list c.args.constraints.now) c.args.failed).right = λ e. c.loop-node-test.true (e ∙ ap (λ (x : Constraint). x.right) (sym c.get-con.ensures)) in
    let go : (slice_index c.args.next.now c.loop-node.node < length (g.C.Constraints.list c.args.constraints.now)) × (c.loop-node.length < 105) × (slice_index c.args.rank.now (constraint_at (g.C.Constraints.list c.args.constraints.now) (slice_index c.args.next.now c.loop-node.node)).left < slice_index c.args.rank.now c.loop-node.node)
    × IsWay (g.C.Constraints.list c.args.constraints.now) c.args.nodes c.args.failed (slice_index c.args.rank.now) (slice_index c.args.next.now) c.requires.arrived (constraint_at (g.C.Constraints.list c.args.constraints.now) (slice_index c.args.next.now c.loop-node.node)).left (suc c.loop-node.length) (set c.loop-node.out c.loop-node.length (slice_index c.args.next.now c.loop-node.node)) =
    way_step (g.C.Constraints.list c.args.constraints.now) c.args.nodes c.args.failed (slice_index c.args.rank.now) (slice_index c.args.next.now) c.requires.arrived c.requires.range c.requires.failed_in c.loop-node.node c.loop-node.length c.loop-node.out c.loop-node.invariant.size other (c.loop-node.invariant.way c.requires.arrived) in
    omega (arith, go.1, c.loop-node.invariant.size)

pub offset_bounds-out-length : goal.offset_bounds-out-length
offset_bounds-out-length g c =
    let other : c.loop-node.node ≢ (constraint_at (g.C.Constraints.list c.args.constraints.now) c.args.failed).right = λ e. c.loop-node-test.true (e ∙ ap (λ (x : Constraint). x.right) (sym c.get-con.ensures)) in
    let go : (slice_index c.args.next.now c.loop-node.node < length (g.C.Constraints.list c.args.constraints.now)) × (c.loop-node.length < 105) × (slice_index c.args.rank.now (constraint_at (g.C.Constraints.list c.args.constraints.now) (slice_index c.args.next.now c.loop-node.node)).left < slice_index c.args.rank.now c.loop-node.node)
    × IsWay (g.C.Constraints.list c.args.constraints.now) c.args.nodes c.args.failed (slice_index c.args.rank.now) (slice_index c.args.next.now) c.requires.arrived (constraint_at (g.C.Constraints.list c.args.constraints.now) (slice_index c.args.next.now c.loop-node.node)).left (suc c.loop-node.length) (set c.loop-node.out c.loop-node.length (slice_index c.args.next.now c.loop-node.node)) =
    way_step (g.C.Constraints.list c.args.constraints.now) c.args.nodes c.args.failed (slice_index c.args.rank.now) (slice_index c.args.next.now) c.requires.arrived c.requires.range c.requires.failed_in c.loop-node.node c.loop-node.length c.loop-node.out c.loop-node.invariant.size other (c.loop-node.invariant.way c.requires.arrived) in
    let room : c.loop-node.length < 105 = go.1 in
    search rules

pub overflow_add-length : goal.overflow_add-length
overflow_add-length g c =
    let other : c.loop-node.node ≢ (constraint_at (g.C.Constraints.list c.args.constraints.now) c.args.failed).right = λ e. c.loop-node-test.true (e ∙ ap (λ (x : Constraint). x.right) (sym c.get-con.ensures)) in
    let go : (slice_index c.args.next.now c.loop-node.node < length (g.C.Constraints.list c.args.constraints.now)) × (c.loop-node.length < 105) × (slice_index c.args.rank.now (constraint_at (g.C.Constraints.list c.args.constraints.now) (slice_index c.args.next.now c.loop-node.node)).left < slice_index c.args.rank.now c.loop-node.node)
    × IsWay (g.C.Constraints.list c.args.constraints.now) c.args.nodes c.args.failed (slice_index c.args.rank.now) (slice_index c.args.next.now) c.requires.arrived (constraint_at (g.C.Constraints.list c.args.constraints.now) (slice_index c.args.next.now c.loop-node.node)).left (suc c.loop-node.length) (set c.loop-node.out c.loop-node.length (slice_index c.args.next.now c.loop-node.node)) =
    way_step (g.C.Constraints.list c.args.constraints.now) c.args.nodes c.args.failed (slice_index c.args.rank.now) (slice_index c.args.next.now) c.requires.arrived c.requires.range c.requires.failed_in c.loop-node.node c.loop-node.length c.loop-node.out c.loop-node.invariant.size other (c.loop-node.invariant.way c.requires.arrived) in
    let room : c.loop-node.length < 105 = go.1 in
    search rules

pub get-node-requires : goal.get-node-requires
get-node-requires g c =
    let other : c.loop-node.node ≢ (constraint_at (g.C.Constraints.list c.args.constraints.now) c.args.failed).right = λ e. c.loop-node-test.true (e ∙ ap (λ (x : Constraint). x.right) (sym c.get-con.ensures)) in
    let go : (slice_index c.args.next.now c.loop-node.node < length (g.C.Constraints.list c.args.constraints.now)) × (c.loop-node.length < 105) × (slice_index c.args.rank.now (constraint_at (g.C.Constraints.list c.args.constraints.now) (slice_index c.args.next.now c.loop-node.node)).left < slice_index c.args.rank.now c.loop-node.node)
    × IsWay (g.C.Constraints.list c.args.constraints.now) c.args.nodes c.args.failed (slice_index c.args.rank.now) (slice_index c.args.next.now) c.requires.arrived (constraint_at (g.C.Constraints.list c.args.constraints.now) (slice_index c.args.next.now c.loop-node.node)).left (suc c.loop-node.length) (set c.loop-node.out c.loop-node.length (slice_index c.args.next.now c.loop-node.node)) =
    way_step (g.C.Constraints.list c.args.constraints.now) c.args.nodes c.args.failed (slice_index c.args.rank.now) (slice_index c.args.next.now) c.requires.arrived c.requires.range c.requires.failed_in c.loop-node.node c.loop-node.length c.loop-node.out c.loop-node.invariant.size other (c.loop-node.invariant.way c.requires.arrived) in
    go.0

pub loop-node-smaller : goal.loop-node-smaller
loop-node-smaller g c =
    let other : c.loop-node.node ≢ (constraint_at (g.C.Constraints.list c.args.constraints.now) c.args.failed).right = λ e. c.loop-node-test.true (e ∙ ap (λ (x : Constraint). x.right) (sym c.get-con.ensures)) in
    let go : (slice_index c.args.next.now c.loop-node.node < length (g.C.Constraints.list c.args.constraints.now)) × (c.loop-node.length < 105) × (slice_index c.args.rank.now (constraint_at (g.C.Constraints.list c.args.constraints.now) (slice_index c.args.next.now c.loop-node.node)).left < slice_index c.args.rank.now c.loop-node.node)
    × IsWay (g.C.Constraints.list c.args.constraints.now) c.args.nodes c.args.failed (slice_index c.args.rank.now) (slice_index c.args.next.now) c.requires.arrived (constraint_at (g.C.Constraints.list c.args.constraints.now) (slice_index c.args.next.now c.loop-node.node)).left (suc c.loop-node.length) (set c.loop-node.out c.loop-node.length (slice_index c.args.next.now c.loop-node.node)) =
    way_step (g.C.Constraints.list c.args.constraints.now) c.args.nodes c.args.failed (slice_index c.args.rank.now) (slice_index c.args.next.now) c.requires.arrived c.requires.range c.requires.failed_in c.loop-node.node c.loop-node.length c.loop-node.out c.loop-node.invariant.size other (c.loop-node.invariant.way c.requires.arrived) in
    subst (λ (x : Constraint). slice_index c.args.rank.now x.left < slice_index c.args.rank.now c.loop-node.node) (sym c.get-node.ensures) go.2

pub loop-node-preserved : goal.loop-node-preserved
loop-node-preserved g c = record {
  size = omega (arith, length-set {A = ℕ}, c.loop-node.invariant.size);
  way = λ arrived.
      let other : c.loop-node.node ≢ (constraint_at (g.C.Constraints.list c.args.constraints.now) c.args.failed).right = λ e. c.loop-node-test.true (e ∙ ap (λ (x : Constraint). x.right) (sym c.get-con.ensures)) in
      let go : (slice_index c.args.next.now c.loop-node.node < length (g.C.Constraints.list c.args.constraints.now)) × (c.loop-node.length < 105) × (slice_index c.args.rank.now (constraint_at (g.C.Constraints.list c.args.constraints.now) (slice_index c.args.next.now c.loop-node.node)).left < slice_index c.args.rank.now c.loop-node.node)
      × IsWay (g.C.Constraints.list c.args.constraints.now) c.args.nodes c.args.failed (slice_index c.args.rank.now) (slice_index c.args.next.now) arrived (constraint_at (g.C.Constraints.list c.args.constraints.now) (slice_index c.args.next.now c.loop-node.node)).left (suc c.loop-node.length) (set c.loop-node.out c.loop-node.length (slice_index c.args.next.now c.loop-node.node)) =
      way_step (g.C.Constraints.list c.args.constraints.now) c.args.nodes c.args.failed (slice_index c.args.rank.now) (slice_index c.args.next.now) arrived c.requires.range c.requires.failed_in c.loop-node.node c.loop-node.length c.loop-node.out c.loop-node.invariant.size other (c.loop-node.invariant.way arrived) in
      let long : suc c.loop-node.length ≡ c.loop-node.length + 1 = omega arith in
      subst (λ (x : Constraint). IsWay (g.C.Constraints.list c.args.constraints.now) c.args.nodes c.args.failed (slice_index c.args.rank.now) (slice_index c.args.next.now) arrived x.left (c.loop-node.length + 1) (set c.loop-node.out c.loop-node.length (slice_index c.args.next.now c.loop-node.node))) (sym c.get-node.ensures)
      (subst (λ (m : ℕ). IsWay (g.C.Constraints.list c.args.constraints.now) c.args.nodes c.args.failed (slice_index c.args.rank.now) (slice_index c.args.next.now) arrived (constraint_at (g.C.Constraints.list c.args.constraints.now) (slice_index c.args.next.now c.loop-node.node)).left m (set c.loop-node.out c.loop-node.length (slice_index c.args.next.now c.loop-node.node))) long go.3);
}

pub returns-clause-few : goal.returns-clause-few
returns-clause-few g c =
    way_few (g.C.Constraints.list c.args.constraints.now) c.args.nodes c.args.failed (slice_index c.args.rank.now) (slice_index c.args.next.now) c.requires.arrived c.requires.range c.requires.failed_in c.loop-node.node c.loop-node.length c.loop-node.out (c.loop-node.invariant.way c.requires.arrived)

pub returns-clause-cycle : goal.returns-clause-cycle
returns-clause-cycle g c =
    way_last (g.C.Constraints.list c.args.constraints.now) c.args.nodes c.args.failed (slice_index c.args.rank.now) (slice_index c.args.next.now) c.requires.arrived c.requires.range c.requires.failed_in c.loop-node.node c.loop-node.length c.loop-node.out
    (c.loop-node-test.false ∙ ap (λ (x : Constraint). x.right) c.get-con.ensures) (c.loop-node.invariant.way c.requires.arrived)

pub returns-clause-proper : goal.returns-clause-proper
returns-clause-proper g c = (c.loop-node.invariant.way c.requires.arrived).proper
