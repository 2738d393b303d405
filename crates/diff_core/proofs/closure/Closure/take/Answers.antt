use Rattle.std.proofs.Common.{◌≡◌, ℕ, ◌<◌, ℤ, pos, ◌*◌, ◌+ℤ◌, ◌-ℤ◌, ◌≤ℤ◌, ◌<ℤ◌, List, [], ◌∷◌, ◌++◌, length, take, drop, arith, rules, ap, subst, sym, ◌∙◌}
use Rattle.std.proofs.lemmas.Int.{ints}
use Rattle.diff_core.specs.declared.constraint.Constraint.{Constraint}
use Rattle.diff_core.specs.Constraints.{HasSolution}
use Rattle.diff_core.specs.Closure.{IsClosure}
use Rattle.diff_core.specs.Relaxes.{Step, Relaxes}
use Rattle.diff_core.specs.Table.{Table, cell, far, IsClosureOf, IsTable}
use Rattle.diff_core.proofs.Grown.{grown, implied, refuted}
use Rattle.diff_core.proofs.Relaxed.{relaxed_closed}
use Rattle.diff_core.proofs.Rows.{entry_at_least}
use Rattle.diff_core.proofs.Tables.{written_back, step_of, wide_enough}
use Rattle.diff_core.proofs.closure.Closure.take.Goals as goal
use mir.Val.{SFits}
use mir.Syntax.{w64}

-- the step that the contract's conditions allow, where the way back makes no negative cycle
module _ (t : Table) (n : ℕ) (entries : List ℤ) (con : Constraint) (view_is : record { nodes = n; entries = entries } ≡ t) (table : IsTable n entries)
    (left_in : con.left < t.nodes) (right_in : con.right < t.nodes) (at_least : (pos 0 -ℤ con.bound) ≤ℤ pos 281474976710656) (at_most : con.bound ≤ℤ pos 281474976710656) where
  left_here : con.left < n
  left_here = subst (λ (u : Table). con.left < u.nodes) (sym view_is) left_in

  right_here : con.right < n
  right_here = subst (λ (u : Table). con.right < u.nodes) (sym view_is) right_in

  closure_here : (cs : List Constraint) → IsClosureOf cs t → IsClosure cs n far (cell entries)
  closure_here cs is = subst (λ (u : Table). IsClosureOf cs u) (sym view_is) is

  step_here : (cell entries con.right con.left <ℤ far → pos 0 ≤ℤ (cell entries con.right con.left +ℤ con.bound)) → Step n 281474976710656 far (cell entries) con.left con.right con.bound
  step_here acyclic = step_of n entries con.left con.right con.bound table.few table.closed left_here right_here at_most at_least acyclic

  -- a constraint that is entailed already makes no negative cycle
  implied_here : (cs : List Constraint) → cell entries con.left con.right ≤ℤ con.bound → IsClosureOf cs t → IsClosureOf (cs ++ con ∷ []) t
  implied_here cs kept is =
      let few : pos (2 * (281474976710656 * n)) <ℤ far = wide_enough n table.few in
      let acyclic : cell entries con.right con.left <ℤ far → pos 0 ≤ℤ (cell entries con.right con.left +ℤ con.bound) = λ near.
      let there : cell entries con.left con.right <ℤ far = omega (arith, ints, kept, at_most) in
      omega (arith, ints, kept, table.closed.diagonal con.left left_here, table.closed.joined con.left con.right con.left left_here right_here left_here there near) in
      subst (λ (u : Table). IsClosureOf (cs ++ con ∷ []) u) view_is (implied n 281474976710656 far (cell entries) cs con (step_here acyclic) (closure_here cs is) kept)

  refuted_here : (cs : List Constraint) → cell entries con.right con.left <ℤ far → (cell entries con.right con.left +ℤ con.bound) <ℤ pos 0 → IsClosureOf cs t → HasSolution (cs ++ con ∷ []) → ⊥
  refuted_here cs near negative is = refuted n far (cell entries) cs con left_here right_here (closure_here cs is) near negative

  -- a table that is relaxed is a table, and the closure of one constraint more
  relaxed_here : (now new : List ℤ) → now ≡ entries → (cell entries con.right con.left <ℤ far → pos 0 ≤ℤ (cell entries con.right con.left +ℤ con.bound)) → length new ≡ 11025 →
      Relaxes n far (cell now) (cell new) con.left con.right con.bound → IsTable n new
  relaxed_here now new same acyclic size relaxes =
      record { few = table.few; size = size; closed = relaxed_closed n 281474976710656 far (cell entries) (cell new) con.left con.right con.bound (step_here acyclic) (subst (λ (m : List ℤ). Relaxes n far (cell m) (cell new) con.left con.right con.bound) same relaxes) }

  grown_here : (now new : List ℤ) → now ≡ entries → (cell entries con.right con.left <ℤ far → pos 0 ≤ℤ (cell entries con.right con.left +ℤ con.bound)) →
      Relaxes n far (cell now) (cell new) con.left con.right con.bound → (cs : List Constraint) → IsClosureOf cs t → IsClosure (cs ++ con ∷ []) n far (cell new)
  grown_here now new same acyclic relaxes cs is =
      grown n 281474976710656 far (cell entries) (cell new) cs con (step_here acyclic) (closure_here cs is) (subst (λ (m : List ℤ). Relaxes n far (cell m) (cell new) con.left con.right con.bound) same relaxes)

pub returns-then-entry-con-clause-taken : goal.returns-then-entry-con-clause-taken
returns-then-entry-con-clause-taken c true_is cs is =
    let f : SFits w64 c.entry.result = record { sfits = c.entry.type_inv } in
    let g : SFits w64 c.args.con.now.bound = search rules in
    let here : c.entry.result ≡ cell c.self.inside.entries.items c.args.con.now.left c.args.con.now.right =
    c.entry.ensures ∙ ap (λ (m : List ℤ). cell m c.args.con.now.left c.args.con.now.right) c.deref.ensures.value in
    implied_here c.args.self.now c.self.inside.nodes c.self.inside.entries.items c.args.con.now c.self.view_is c.self.invariant c.requires.left_in c.requires.right_in c.requires.at_least c.requires.at_most cs
    (omega (arith, ints, here, c.if-entry-con.true)) is

pub is_cycle-requires-clause-small : goal.is_cycle-requires-clause-small
is_cycle-requires-clause-small c =
    let f : SFits w64 c.entry-2.result = record { sfits = c.entry-2.type_inv } in
    let here : c.entry-2.result ≡ cell c.self.inside.entries.items c.args.con.now.right c.args.con.now.left =
    c.entry-2.ensures ∙ ap (λ (m : List ℤ). cell m c.args.con.now.right c.args.con.now.left) c.deref-2.ensures.value in
    let l_in : c.args.con.now.left < c.self.inside.nodes = left_here c.args.self.now c.self.inside.nodes c.self.inside.entries.items c.args.con.now c.self.view_is c.self.invariant c.requires.left_in c.requires.right_in c.requires.at_least c.requires.at_most in
    let r_in : c.args.con.now.right < c.self.inside.nodes = right_here c.args.self.now c.self.inside.nodes c.self.inside.entries.items c.args.con.now c.self.view_is c.self.invariant c.requires.left_in c.requires.right_in c.requires.at_least c.requires.at_most in
    omega (arith, ints, here, entry_at_least c.self.inside.nodes (cell c.self.inside.entries.items) c.self.invariant.few c.self.invariant.closed c.args.con.now.right c.args.con.now.left r_in l_in)

pub returns-then-is_cycle-clause-refuted : goal.returns-then-is_cycle-clause-refuted
returns-then-is_cycle-clause-refuted c false_is cs is =
    let f : SFits w64 c.entry-2.result = record { sfits = c.entry-2.type_inv } in
    let g : SFits w64 c.args.con.now.bound = search rules in
    let here : c.entry-2.result ≡ cell c.self.inside.entries.items c.args.con.now.right c.args.con.now.left =
    c.entry-2.ensures ∙ ap (λ (m : List ℤ). cell m c.args.con.now.right c.args.con.now.left) c.deref-2.ensures.value in
    refuted_here c.args.self.now c.self.inside.nodes c.self.inside.entries.items c.args.con.now c.self.view_is c.self.invariant c.requires.left_in c.requires.right_in c.requires.at_least c.requires.at_most cs
    (omega (arith, ints, here, c.is_cycle.ensures.near c.if-is_cycle.true)) (omega (arith, ints, here, c.is_cycle.ensures.negative c.if-is_cycle.true)) is

pub relax-requires-clause-step : goal.relax-requires-clause-step
relax-requires-clause-step c =
    let f : SFits w64 c.entry-2.result = record { sfits = c.entry-2.type_inv } in
    let g : SFits w64 c.args.con.now.bound = search rules in
    let here : c.entry-2.result ≡ cell c.self.inside.entries.items c.args.con.now.right c.args.con.now.left =
    c.entry-2.ensures ∙ ap (λ (m : List ℤ). cell m c.args.con.now.right c.args.con.now.left) c.deref-2.ensures.value in
    let acyclic : cell c.self.inside.entries.items c.args.con.now.right c.args.con.now.left <ℤ far → pos 0 ≤ℤ (cell c.self.inside.entries.items c.args.con.now.right c.args.con.now.left +ℤ c.args.con.now.bound) =
    λ near. omega (arith, ints, here, c.is_cycle.ensures.none c.if-is_cycle.false (omega (arith, ints, here, near))) in
    subst (λ (m : List ℤ). Step c.self.inside.nodes 281474976710656 far (cell m) c.args.con.now.left c.args.con.now.right c.args.con.now.bound) (sym c.deref_mut.ensures.value)
    (step_here c.args.self.now c.self.inside.nodes c.self.inside.entries.items c.args.con.now c.self.view_is c.self.invariant c.requires.left_in c.requires.right_in c.requires.at_least c.requires.at_most acyclic)

pub invariant_of-self : goal.invariant_of-self
invariant_of-self c =
    let f : SFits w64 c.entry-2.result = record { sfits = c.entry-2.type_inv } in
    let g : SFits w64 c.args.con.now.bound = search rules in
    let here : c.entry-2.result ≡ cell c.self.inside.entries.items c.args.con.now.right c.args.con.now.left =
    c.entry-2.ensures ∙ ap (λ (m : List ℤ). cell m c.args.con.now.right c.args.con.now.left) c.deref-2.ensures.value in
    let acyclic : cell c.self.inside.entries.items c.args.con.now.right c.args.con.now.left <ℤ far → pos 0 ≤ℤ (cell c.self.inside.entries.items c.args.con.now.right c.args.con.now.left +ℤ c.args.con.now.bound) =
    λ near. omega (arith, ints, here, c.is_cycle.ensures.none c.if-is_cycle.false (omega (arith, ints, here, near))) in
    let same : take c.self.inside.entries.len (c.relax.new.entries ++ drop (length c.relax.new.entries) c.self.inside.entries.items) ≡ c.relax.new.entries =
    written_back c.relax.new.entries c.self.inside.entries.items c.self.inside.entries.len (omega arith) (omega arith) in
    subst (λ (m : List ℤ). IsTable c.self.inside.nodes m) (sym same)
    (relaxed_here c.args.self.now c.self.inside.nodes c.self.inside.entries.items c.args.con.now c.self.view_is c.self.invariant c.requires.left_in c.requires.right_in c.requires.at_least c.requires.at_most
    c.deref_mut.result.now c.relax.new.entries c.deref_mut.ensures.value acyclic (omega arith) c.relax.ensures)

pub returns-clause-taken : goal.returns-clause-taken
returns-clause-taken c true_is cs is =
    let f : SFits w64 c.entry-2.result = record { sfits = c.entry-2.type_inv } in
    let g : SFits w64 c.args.con.now.bound = search rules in
    let here : c.entry-2.result ≡ cell c.self.inside.entries.items c.args.con.now.right c.args.con.now.left =
    c.entry-2.ensures ∙ ap (λ (m : List ℤ). cell m c.args.con.now.right c.args.con.now.left) c.deref-2.ensures.value in
    let acyclic : cell c.self.inside.entries.items c.args.con.now.right c.args.con.now.left <ℤ far → pos 0 ≤ℤ (cell c.self.inside.entries.items c.args.con.now.right c.args.con.now.left +ℤ c.args.con.now.bound) =
    λ near. omega (arith, ints, here, c.is_cycle.ensures.none c.if-is_cycle.false (omega (arith, ints, here, near))) in
    let same : take c.self.inside.entries.len (c.relax.new.entries ++ drop (length c.relax.new.entries) c.self.inside.entries.items) ≡ c.relax.new.entries =
    written_back c.relax.new.entries c.self.inside.entries.items c.self.inside.entries.len (omega arith) (omega arith) in
    subst (λ (m : List ℤ). IsClosure (cs ++ c.args.con.now ∷ []) c.self.inside.nodes far (cell m)) (sym same)
    (grown_here c.args.self.now c.self.inside.nodes c.self.inside.entries.items c.args.con.now c.self.view_is c.self.invariant c.requires.left_in c.requires.right_in c.requires.at_least c.requires.at_most
    c.deref_mut.result.now c.relax.new.entries c.deref_mut.ensures.value acyclic c.relax.ensures cs is)
