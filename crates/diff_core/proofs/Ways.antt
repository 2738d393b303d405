-- The cycle as it is written: the constraint that failed, and then those by which the search goes on.
use Rattle.std.proofs.Common.{◌≡◌, ◌≢◌, ℕ, ◌<◌, ◌≤◌, ◌+◌, suc, ℤ, pos, ◌+ℤ◌, ◌<ℤ◌, List, [], ◌∷◌, ◌++◌, length, get_or, set, take, refl, arith, ap, subst, sym, ◌∙◌, length-take}
use Rattle.std.proofs.Math.Seq.{take-suc-set}
use Rattle.std.proofs.lemmas.Int.{ints}
use Rattle.std.proofs.lemmas.List.Elements.{All-cons, All-nil, All-push}
use Rattle.diff_core.specs.declared.constraint.Constraint.{Constraint}
use Rattle.diff_core.specs.Constraints.{constraint_at, IsPath, AreInRange, IsNegativeCycle, IsProper, AreProper}
use Rattle.diff_core.specs.Search.{IsTight, Onward, IsSearch, HasArrived}
use Rattle.diff_core.proofs.Paths.{path_join, path_one}
use Rattle.diff_core.specs.Table.{cell, IsTable}
use Rattle.diff_core.proofs.Searching.{constraint_taken, few_marked}

-- the first `len` numbers that are written lead from the right node of the failed constraint to node `here`, as short as can be
pub record IsWay (all : List Constraint) (n failed : ℕ) (rank next : ℕ → ℕ) (arrived : HasArrived all n failed rank next) (here len : ℕ) (out : List ℕ) : Type 0 where
  pub at_in : here < n
  pub marked : 0 < rank here
  pub room : len + rank here ≤ 1 + rank (constraint_at all failed).left
  pub total : ℤ
  pub path : IsPath all (constraint_at all failed).right (take len out) here total
  pub proper : AreProper all (take len out)
  pub rest : total +ℤ arrived.entries (constraint_at all failed).right here ≡ (constraint_at all failed).bound +ℤ arrived.entries (constraint_at all failed).right (constraint_at all failed).left

module _ (all : List Constraint) (n failed : ℕ) (rank next : ℕ → ℕ) (arrived : HasArrived all n failed rank next) (range : AreInRange n all) (failed_in : failed < length all) where
  -- the failed constraint is no tautology, since the way back makes a negative cycle with it
  proper_failed : IsProper (constraint_at all failed)
  proper_failed same =
      let around : arrived.entries (constraint_at all failed).right (constraint_at all failed).left ≡ pos 0 = subst (λ (x : ℕ). arrived.entries (constraint_at all failed).right x ≡ pos 0) (sym same) arrived.diagonal in
      omega (arith, ints, around, arrived.negative)

  -- at first it is the failed constraint
  pub way_first : (out : List ℕ) → length out ≡ 105 → IsWay all n failed rank next arrived (constraint_at all failed).left 1 (set out 0 failed)
  way_first out size = record {
    at_in = (range failed failed_in).left_in;
    marked = arrived.marked;
    room = omega arith;
    total = (constraint_at all failed).bound;
    path = subst (λ (ks : List ℕ). IsPath all (constraint_at all failed).right ks (constraint_at all failed).left (constraint_at all failed).bound) (sym (take-suc-set out 0 failed (omega (arith, size)))) (path_one all failed failed_in);
    proper = subst (λ (ks : List ℕ). AreProper all ks) (sym (take-suc-set out 0 failed (omega (arith, size)))) (All-cons (λ k. IsProper (constraint_at all k)) failed [] proper_failed (All-nil (λ k. IsProper (constraint_at all k))));
    rest = refl;
  }

  -- one constraint more
  pub way_step : (here len : ℕ) (out : List ℕ) → length out ≡ 105 → here ≢ (constraint_at all failed).right → IsWay all n failed rank next arrived here len out →
      (next here < length all) × (len < 105) × (rank (constraint_at all (next here)).left < rank here) × IsWay all n failed rank next arrived (constraint_at all (next here)).left (suc len) (set out len (next here))
  way_step here len out size other way =
      let go : Onward (take failed all) arrived.entries n (constraint_at all failed).right rank (next here) here = arrived.found.onward here way.at_in way.marked other in
      let low : next here < failed = omega (arith, go.number_in, length-take failed all) in
      let number_in : next here < length all = omega (arith, low, failed_in) in
      let same : constraint_at (take failed all) (next here) ≡ constraint_at all (next here) = constraint_taken all failed (next here) low in
      let first_rank : rank (constraint_at all failed).left ≤ arrived.steps = arrived.found.ranks (constraint_at all failed).left (range failed failed_in).left_in in
      let falls : rank (constraint_at all (next here)).left < rank here = subst (λ (c : Constraint). rank c.left < rank here) same go.before in
      let more : 0 < rank (constraint_at all (next here)).left = subst (λ (c : Constraint). 0 < rank c.left) same go.marked in
      let right_is : (constraint_at all (next here)).right ≡ here = subst (λ (c : Constraint). c.right ≡ here) same go.right_is in
      let left_in : (constraint_at all (next here)).left < n = subst (λ (c : Constraint). c.left < n) same go.left_in in
      let tight : IsTight arrived.entries (constraint_at all failed).right (constraint_at all (next here)) = subst (λ (c : Constraint). IsTight arrived.entries (constraint_at all failed).right c) same go.tight in
      let tight_at : arrived.entries (constraint_at all failed).right here ≡ (constraint_at all (next here)).bound +ℤ arrived.entries (constraint_at all failed).right (constraint_at all (next here)).left =
      ap (arrived.entries (constraint_at all failed).right) (sym right_is) ∙ tight in
      let room : len < 105 = omega (arith, way.room, first_rank, arrived.few, falls, more) in
      let one : IsPath all here (next here ∷ []) (constraint_at all (next here)).left (constraint_at all (next here)).bound = subst (λ (x : ℕ). IsPath all x (next here ∷ []) (constraint_at all (next here)).left (constraint_at all (next here)).bound) right_is (path_one all (next here) number_in) in
      let longer : IsPath all (constraint_at all failed).right (take len out ++ next here ∷ []) (constraint_at all (next here)).left (way.total +ℤ (constraint_at all (next here)).bound) =
      path_join all (constraint_at all failed).right here (constraint_at all (next here)).left (take len out) (next here ∷ []) way.total (constraint_at all (next here)).bound way.path one in
      let written : take (suc len) (set out len (next here)) ≡ take len out ++ next here ∷ [] = take-suc-set out len (next here) (omega (arith, size, room)) in (
        number_in,
        room,
        falls,
        record {
          at_in = left_in;
          marked = more;
          room = omega (arith, way.room, falls);
          total = way.total +ℤ (constraint_at all (next here)).bound;
          path = subst (λ (ks : List ℕ). IsPath all (constraint_at all failed).right ks (constraint_at all (next here)).left (way.total +ℤ (constraint_at all (next here)).bound)) (sym written) longer;
          proper = subst (λ (ks : List ℕ). AreProper all ks) (sym written) (All-push (λ k. IsProper (constraint_at all k)) (take len out) (next here) way.proper (λ same_node. absurd (omega (arith, falls, ap rank (same_node ∙ right_is)))));
          rest = omega (arith, ints, way.rest, tight_at);
        },
      )

  -- no more than all nodes are on it
  pub way_few : (here len : ℕ) (out : List ℕ) → IsWay all n failed rank next arrived here len out → len ≤ 105
  way_few here len out way =
      let first_rank : rank (constraint_at all failed).left ≤ arrived.steps = arrived.found.ranks (constraint_at all failed).left (range failed failed_in).left_in in
      omega (arith, way.room, first_rank, arrived.few, way.marked)

  -- back at the right node it is a negative cycle
  pub way_last : (here len : ℕ) (out : List ℕ) → here ≡ (constraint_at all failed).right → IsWay all n failed rank next arrived here len out → IsNegativeCycle all (take len out)
  way_last here len out home way =
      let path : IsPath all (constraint_at all failed).right (take len out) (constraint_at all failed).right way.total = subst (λ (x : ℕ). IsPath all (constraint_at all failed).right (take len out) x way.total) home way.path in
      let rest : way.total +ℤ arrived.entries (constraint_at all failed).right (constraint_at all failed).right ≡ (constraint_at all failed).bound +ℤ arrived.entries (constraint_at all failed).right (constraint_at all failed).left =
      subst (λ (x : ℕ). way.total +ℤ arrived.entries (constraint_at all failed).right x ≡ (constraint_at all failed).bound +ℤ arrived.entries (constraint_at all failed).right (constraint_at all failed).left) home way.rest in
      ((constraint_at all failed).right, way.total, path, omega (arith, ints, rest, arrived.diagonal, arrived.negative))

-- a search that has reached the left node of the failed constraint has arrived
pub has_arrived : (all : List Constraint) (n failed steps : ℕ) (entries : List ℤ) (con : Constraint) (rank next rank' next' : List ℕ) → IsTable n entries → con ≡ constraint_at all failed → con.right < n →
    IsSearch (take failed all) (cell entries) n con.right steps (λ x. get_or rank x 0) (λ x. get_or next x 0) → 0 < get_or rank con.left 0 →
    (cell entries (constraint_at all failed).right (constraint_at all failed).left +ℤ (constraint_at all failed).bound) <ℤ pos 0 → rank' ≡ rank → next' ≡ next →
    HasArrived all n failed (λ x. get_or rank' x 0) (λ x. get_or next' x 0)
has_arrived all n failed steps entries con rank next rank' next' table con_is right_in found marked negative rank_is next_is =
    let few : steps ≤ n = few_marked (take failed all) (cell entries) n con.right steps (λ x. get_or rank x 0) (λ x. get_or next x 0) found in
    let arrived : HasArrived all n failed (λ x. get_or rank x 0) (λ x. get_or next x 0) = record {
      entries = cell entries;
      steps = steps;
      few = omega (arith, few, table.few);
      found = subst (λ (c : Constraint). IsSearch (take failed all) (cell entries) n c.right steps (λ x. get_or rank x 0) (λ x. get_or next x 0)) con_is found;
      marked = subst (λ (c : Constraint). 0 < get_or rank c.left 0) con_is marked;
      diagonal = subst (λ (c : Constraint). cell entries c.right c.right ≡ pos 0) con_is (table.closed.diagonal con.right right_in);
      negative = negative;
    } in
    subst (λ (r : List ℕ). HasArrived all n failed (λ x. get_or r x 0) (λ x. get_or next' x 0)) (sym rank_is)
    (subst (λ (m : List ℕ). HasArrived all n failed (λ x. get_or rank x 0) (λ x. get_or m x 0)) (sym next_is) arrived)
