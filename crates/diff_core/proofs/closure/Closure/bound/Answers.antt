use Rattle.std.proofs.Common.{◌≡◌, ℕ, ◌<◌, ℤ, ◌≤ℤ◌, ◌<ℤ◌, List, arith, ap, subst, sym, ◌∙◌}
use Rattle.std.proofs.lemmas.Int.{ints, to_z-of_z}
use Rattle.diff_core.specs.declared.constraint.Constraint.{Constraint}
use Rattle.diff_core.specs.Constraints.{Entails}
use Rattle.diff_core.specs.Closure.{IsClosure}
use Rattle.diff_core.specs.Table.{Table, cell, far, IsClosureOf, IsTable}
use Rattle.diff_core.proofs.Exact.{entry_entailed, entry_least, no_entry}
use Rattle.diff_core.proofs.Tables.{wide_enough}
use Rattle.diff_core.proofs.closure.Closure.bound.Goals as goal
use mir.Val.{SFits, to_z, of_z}
use mir.Syntax.{w64}

module _ (t : Table) (n : ℕ) (entries : List ℤ) (view_is : record { nodes = n; entries = entries } ≡ t) (table : IsTable n entries)
    (a b : ℕ) (a_in : a < t.nodes) (b_in : b < t.nodes) (cs : List Constraint) (is : IsClosureOf cs t) where
  a_here : a < n
  a_here = subst (λ (u : Table). a < u.nodes) (sym view_is) a_in

  b_here : b < n
  b_here = subst (λ (u : Table). b < u.nodes) (sym view_is) b_in

  closure_here : IsClosure cs n far (cell entries)
  closure_here = subst (λ (u : Table). IsClosureOf cs u) (sym view_is) is

  exact : (r : ℤ) → r ≡ cell entries a b → r <ℤ far → Entails cs a b r × ((l : ℤ) → Entails cs a b l → r ≤ℤ l)
  exact r same near =
      let there : cell entries a b <ℤ far = omega (arith, ints, same, near) in (
        subst (λ (z : ℤ). Entails cs a b z) (sym same) (entry_entailed cs n 281474976710656 far (cell entries) table.closed (wide_enough n table.few) closure_here a b a_here b_here there),
        λ l entailed. omega (arith, ints, same, entry_least cs n 281474976710656 far (cell entries) table.closed (wide_enough n table.few) closure_here a b a_here b_here there l entailed),
      )

  nothing : (r : ℤ) → r ≡ cell entries a b → far ≤ℤ r → (l : ℤ) → Entails cs a b l → ⊥
  nothing r same none l entailed =
      no_entry cs n 281474976710656 far (cell entries) table.closed (wide_enough n table.few) closure_here a b a_here b_here (omega (arith, ints, same, none)) l entailed

pub returns-then-least-lt-FAR : goal.returns-then-least-lt-FAR
returns-then-least-lt-FAR c cs is =
    let f : SFits w64 c.entry-least.result = record { sfits = c.entry-least.type_inv } in
    let here : c.entry-least.result ≡ cell c.self.inside.entries.items c.args.a c.args.b = c.entry-least.ensures ∙ ap (λ (m : List ℤ). cell m c.args.a c.args.b) c.deref.ensures.value in
    let plain : to_z w64 (of_z w64 c.entry-least.result) ≡ c.entry-least.result = to_z-of_z w64 c.entry-least.result f in
    let both : Entails cs c.args.a c.args.b c.entry-least.result × ((l : ℤ) → Entails cs c.args.a c.args.b l → c.entry-least.result ≤ℤ l) =
    exact c.args.self.now c.self.inside.nodes c.self.inside.entries.items c.self.view_is c.self.invariant c.args.a c.args.b c.requires.a_in c.requires.b_in cs is c.entry-least.result here (omega (arith, ints, c.if-least-lt-FAR.true)) in
    subst (λ (z : ℤ). Entails cs c.args.a c.args.b z × ((l : ℤ) → Entails cs c.args.a c.args.b l → z ≤ℤ l)) (sym plain) both

pub returns-else-least-lt-FAR : goal.returns-else-least-lt-FAR
returns-else-least-lt-FAR c cs is =
    let f : SFits w64 c.entry-least.result = record { sfits = c.entry-least.type_inv } in
    let here : c.entry-least.result ≡ cell c.self.inside.entries.items c.args.a c.args.b = c.entry-least.ensures ∙ ap (λ (m : List ℤ). cell m c.args.a c.args.b) c.deref.ensures.value in
    nothing c.args.self.now c.self.inside.nodes c.self.inside.entries.items c.self.view_is c.self.invariant c.args.a c.args.b c.requires.a_in c.requires.b_in cs is c.entry-least.result here (omega (arith, ints, c.if-least-lt-FAR.false))
