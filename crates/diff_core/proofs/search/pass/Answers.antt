use Rattle.std.proofs.Common.{◌≡◌, ℕ, ◌<◌, ◌≤◌, ◌+◌, ℤ, List, take, arith, slice_index, true, false, below_more, subst, sym, rules}
use Rattle.diff_core.specs.declared.constraint.Constraint.{Constraint}
use Rattle.diff_core.specs.Constraints.{constraint_at}
use Rattle.diff_core.specs.Table.{cell, far}
use Rattle.diff_core.specs.Search.{IsSearch, IsDoneAt}
use Rattle.diff_core.proofs.Searching.{few_marked, pass_marks}
use Rattle.diff_core.proofs.search.pass.Goals as goal
use Rattle.diff_core.proofs.search.pass.Goals.{then-mark, else-mark}

pub mark-requires-clause-few : goal.mark-requires-clause-few
mark-requires-clause-few g c =
    omega (arith, few_marked (take c.args.tried (g.C.Constraints.list c.args.constraints.now)) (cell c.args.entries.now) c.args.nodes c.args.target c.loop-k.marked (slice_index c.loop-k.rank) (slice_index c.loop-k.next) c.loop-k.invariant.search)

pub overflow_add-marked : goal.overflow_add-marked
overflow_add-marked g c =
    let few : c.loop-k.marked ≤ c.args.nodes = few_marked (take c.args.tried (g.C.Constraints.list c.args.constraints.now)) (cell c.args.entries.now) c.args.nodes c.args.target c.loop-k.marked (slice_index c.loop-k.rank) (slice_index c.loop-k.next) c.loop-k.invariant.search in
    search rules

pub loop-k-preserved : goal.loop-k-preserved
loop-k-preserved g c =
    let all : List Constraint = g.C.Constraints.list c.args.constraints.now in
    let e : ℕ → ℕ → ℤ = cell c.args.entries.now in
    elim c.if-mark.branch [
      | then-mark w ↦
          let on : c.mark.result ≡ true = w.if-mark.true in
          let marked : IsSearch (take c.args.tried all) e c.args.nodes c.args.target (c.loop-k.marked + 1) (slice_index c.mark.new.rank) (slice_index c.mark.new.next) =
          pass_marks all e c.args.nodes c.args.target c.args.tried c.loop-k.k c.loop-k.marked c.get-con.result c.loop-k.rank c.loop-k.next c.mark.new.rank c.mark.new.next
          c.loop-k.invariant.search c.requires.table.few c.loop-k-test.true c.requires.tried_in c.requires.range c.get-con.ensures c.loop-k.invariant.rank_size c.loop-k.invariant.next_size
          (c.mark.ensures.tight on) (c.mark.ensures.marked on) (c.mark.ensures.fresh on) (c.mark.ensures.rank on) (c.mark.ensures.next on) in
          record {
            rank_size = omega arith;
            next_size = omega arith;
            search = subst (λ (s : ℕ). IsSearch (take c.args.tried all) e c.args.nodes c.args.target s (slice_index c.mark.new.rank) (slice_index c.mark.new.next)) (sym w.marked-is) marked;
            more = omega (arith, w.marked-is, c.loop-k.invariant.more);
            done = λ same. absurd (omega (arith, same, w.marked-is, c.loop-k.invariant.more));
          }
      | else-mark w ↦
          let off : c.mark.result ≡ false = w.if-mark.false in
          let rank_is : c.mark.new.rank ≡ c.loop-k.rank = c.mark.ensures.rank_kept off in
          let next_is : c.mark.new.next ≡ c.loop-k.next = c.mark.ensures.next_kept off in
          let kept : IsSearch (take c.args.tried all) e c.args.nodes c.args.target c.loop-k.marked (slice_index c.mark.new.rank) (slice_index c.mark.new.next) =
          subst (λ (r : List ℕ). IsSearch (take c.args.tried all) e c.args.nodes c.args.target c.loop-k.marked (slice_index r) (slice_index c.mark.new.next)) (sym rank_is)
          (subst (λ (m : List ℕ). IsSearch (take c.args.tried all) e c.args.nodes c.args.target c.loop-k.marked (slice_index c.loop-k.rank) (slice_index m)) (sym next_is) c.loop-k.invariant.search) in
          let here : IsDoneAt far e c.args.target (slice_index c.loop-k.rank) (constraint_at all c.loop-k.k) =
          subst (λ (x : Constraint). IsDoneAt far e c.args.target (slice_index c.loop-k.rank) x) c.get-con.ensures (c.mark.ensures.done off) in
          record {
            rank_size = omega arith;
            next_size = omega arith;
            search = subst (λ (s : ℕ). IsSearch (take c.args.tried all) e c.args.nodes c.args.target s (slice_index c.mark.new.rank) (slice_index c.mark.new.next)) (sym w.marked-is) kept;
            more = omega (arith, w.marked-is, c.loop-k.invariant.more);
            done = λ same. subst (λ (r : List ℕ). (k : ℕ) → k < c.loop-k.k + 1 → IsDoneAt far e c.args.target (slice_index r) (constraint_at all k)) (sym rank_is)
                (below_more (λ k. IsDoneAt far e c.args.target (slice_index c.loop-k.rank) (constraint_at all k)) c.loop-k.k (c.loop-k.invariant.done (omega (arith, same, w.marked-is))) here);
          }
    ]
