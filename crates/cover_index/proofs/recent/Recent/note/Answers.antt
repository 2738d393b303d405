use Rattle.std.proofs.Common.{◌≢◌, ◌/◌, ℕ, List, take, sym, subst, arith}
use Rattle.std.specs.Prelude.{AllPairs}
use Rattle.std.proofs.lemmas.List.{length-set}
use Rattle.cover_index.proofs.Fronting.{pairs_take, front_distinct, front_same, front_full, front_more}
use Rattle.cover_index.proofs.recent.Recent.note.Goals as goal
use Rattle.cover_index.proofs.recent.Recent.note.Goals.{then-other-group+then-count-lt4, else-other-group, else-other-group-via-then-other-group+else-count-lt4, else-other-group-via-else-other-group}

pub loop-other-preserved : goal.loop-other-preserved
loop-other-preserved c =
    let group = c.args.number / 64 in
    let old = c.as_slice-other-items.result.now in
    let groups = c.loop-other.groups in
    let i = c.loop-other.other-index in
    let count = c.loop-other.count in
    let before = c.loop-other.invariant in
    let below = c.loop-other-test.true in
    elim c.if-other-group.branch [
      | then-other-group+then-count-lt4 w ↦ rw (w.groups-is, w.count-is) (record {
        size = simp length-set before.size;
        few = omega arith;
        front = front_more group old groups i count below before.size before.few before.front w.if-other-group.true w.if-count-lt4.true;
      })
      | else-other-group w ↦ rw (w.groups-is, w.count-is) (record {
        size = before.size;
        few = before.few;
        front = elim w.else-other-group.branch [
          | else-other-group-via-then-other-group+else-count-lt4 v ↦ front_full group old groups i count below before.size before.few before.front v.if-count-lt4.false
          | else-other-group-via-else-other-group v ↦ front_same group old groups i count below before.size before.few before.front v.if-other-group.false
        ];
      })
    ]

pub invariant_of-self : goal.invariant_of-self
invariant_of-self c =
    let group = c.args.number / 64 in
    let old = c.as_slice-other-items.result.now in
    let i = c.loop-other.other-index in
    let distinct = subst (λ (xs : List ℕ). AllPairs (λ x y. x ≢ y) xs) (sym c.as_slice-other-items.ensures.value) c.as_slice-other-items.ensures.distinct in (
      c.loop-other.invariant.few,
      subst (λ (xs : List ℕ). AllPairs (λ x y. x ≢ y) xs) (sym c.loop-other.invariant.front) (front_distinct group (take i old) (pairs_take (λ x y. x ≢ y) i old distinct)),
    )
