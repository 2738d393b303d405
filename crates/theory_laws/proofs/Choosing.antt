-- The chosen state: its integers are there, and it satisfies the literals.
use Rattle.std.proofs.Common.{◌≡◌, ◌⊎◌, ℕ, ◌+◌, ◌<◌, ◌≤◌, true, List, [], ◌∷◌, length, map, ℤ, pos, ◌+ℤ◌, ◌-ℤ◌, ◌≤ℤ◌, ◌<ℤ◌, inl, inr, refl, sym, subst, arith}
use Rattle.std.specs.Prelude.{IsTrue, Contains}
use Rattle.std.specs.List.{list_all, list_any}
use Rattle.std.proofs.lemmas.Bool.{ltb-true, cases_Bool, cases_lt, or_cases}
use Rattle.std.proofs.lemmas.Int.{ints}
use Rattle.cub_proto.specs.declared.literal.Term.{Term}
use Rattle.cub_proto.specs.declared.literal.ISide.{ISide}
use Rattle.cub_proto.specs.declared.literal.ISide.TheVariants.{Zero, At}
use Rattle.cub_proto.specs.declared.literal.Lit.{Lit}
use Rattle.cub_proto.specs.declared.literal.Lit.TheVariants.{FinIn, FinEq, FinNe, ProcEq, ProcNe, Diff}
use Rattle.cub_proto.specs.declared.protocol.Protocol.{Protocol}
use Rattle.cub_proto.specs.Configuration.{Configuration}
use Rattle.cub_proto.specs.Signature.{Signature, sort_of, constructors_at}
use Rattle.cub_proto.specs.StateOf.{signature_of}
use Rattle.cub_proto.specs.Fits.{is_finite, literal_fits}
use Rattle.cub_base.proofs.Bools.{and_left, and_right}
use Rattle.fin_dom.specs.Solution as fin
use Rattle.proc_eq.specs.Choice.{IsLeastChoice}
use Rattle.diff_core.specs.declared.constraint.Constraint.{Constraint}
use Rattle.diff_core.specs.Constraints as core
use Rattle.diff_core.specs.Closure.{IsClosure}
use Rattle.diff_core.specs.Table.{far, cell}
use Rattle.diff_core.proofs.Exact.{low, low_is}
use Rattle.diff_core.proofs.Paths.{path_ends}
use Rattle.diff_close.specs.Literals as diff
use Rattle.diff_close.specs.Names.{index_of, node_of, constraint_of}
use Rattle.diff_close.specs.Scratch as closed
use Rattle.diff_close.proofs.Terms.{node_in, contains_index, index_found}
use Rattle.diff_close.proofs.Ways.{least_up, least_other}
use Rattle.diff_close.proofs.Chosen.{chosen_solves}
use Rattle.theory_laws.specs.Built.{Values}
use Rattle.theory_laws.specs.Solved.{AreValues, Solve, Fulfils}
use Rattle.theory_laws.specs.Chosen.{needed, IsChosenState}
use Rattle.theory_laws.proofs.Needs.{needed_room, needed_some, needed_above}
use Rattle.theory_laws.proofs.Stating.{made_state}
use Rattle.theory_laws.proofs.Parts.{some_constructor}
use Rattle.theory_laws.proofs.Domains.{same_is}

-- ---- least sums are there
sum_exists : (cs : List Constraint) (n : ℕ) (most : ℤ) (e : ℕ → ℕ → ℤ) → IsClosure cs n most e → (y : ℕ) → y < n → (s : ℤ) × core.IsLeastSum cs y s
sum_exists cs n most e is y y_in = (low most e (λ x. pos 0) n y, record { reached = by (low_is most e (λ x. pos 0) n y).reached; least = least })
  where
    by : (low most e (λ x. pos 0) n y ≡ pos 0) ⊎ ((x : ℕ) × (x < n) × (e y x <ℤ most) × (low most e (λ x. pos 0) n y ≡ pos 0 +ℤ e y x))
        → (x : ℕ) × (ks : List ℕ) × core.IsPath cs x ks y (low most e (λ x. pos 0) n y)
    by (inl own) = (y, [], (refl, own))
    by (inr (x, x_in, near, sum)) =
        let way : (ks : List ℕ) × core.IsPath cs x ks y (e y x) = is.paths y x y_in x_in near in
        let same : e y x ≡ low most e (λ x. pos 0) n y = omega (arith, ints, sum) in
        (x, way.0, subst (λ (z : ℤ). core.IsPath cs x way.0 y z) same way.1)

    least : (x : ℕ) (ks : List ℕ) (t : ℤ) → core.IsPath cs x ks y t → low most e (λ x. pos 0) n y ≤ℤ t
    least x [] t p = omega (arith, ints, (low_is most e (λ x. pos 0) n y).own, p.1)
    least x (k ∷ ks) t p =
        let x_in : x < n = (path_ends cs n is.inside x y k ks t p).0 in
        let near : e y x <ℤ most = is.near y x y_in x_in (k ∷ ks) t p in
        omega (arith, ints, (low_is most e (λ x. pos 0) n y).least x x_in near, is.least y x y_in x_in (k ∷ ks) t p)

module _ (lits : List Lit) (s : closed.Scratch) (is : closed.IsClosureOf lits s) where
  abbrev cs : List Constraint
  cs = map (constraint_of s.names) lits

  inside : core.Fits (length s.names + 1) cs
  inside = subst (λ (n : ℕ). core.Fits n cs) is.nodes is.table.inside

  named_sum : (a : ISide) → diff.IsAmong s.names a → (z : ℤ) × diff.IsLeastSum lits a z
  named_sum a among =
      let below : node_of s.names a < s.closing.table.nodes = omega (arith, is.nodes, node_in s.names a among) in
      let found : (z : ℤ) × core.IsLeastSum cs (node_of s.names a) z = sum_exists cs s.closing.table.nodes far (cell s.closing.table.entries) is.table (node_of s.names a) below in
      (found.0, least_up s.names lits is.named is.distinct inside a among found.0 found.1)

  side_sum : (a : ISide) → (z : ℤ) × diff.IsLeastSum lits a z
  side_sum Zero = named_sum Zero tt
  side_sum (At t) = elim (cases_lt (index_of s.names t) (length s.names)) [
    | inl there ↦ named_sum (At t) (contains_index s.names t there)
    | inr past ↦ (pos 0, least_other s.names lits is.named t (λ has. absurd (past_found s.names t has past)))
  ]
    where
      past_found : (xs : List Term) (u : Term) → Contains xs u → length xs ≤ index_of xs u → ⊥
      past_found xs u has far_off = omega (arith, index_found xs u has, far_off)

  -- the chosen integer of each term
  pub chosen_at : (t : Term) → (z : ℤ) × diff.IsChosen lits (At t) z
  chosen_at t =
      let here = side_sum (At t) in
      let zero = side_sum Zero in
      (here.0 -ℤ zero.0, record { here = here.0; zero = zero.0; least_here = here.1; least_zero = zero.1; difference = refl })

-- ---- least constructors are of their sorts
mentioned_one : (sig : Signature) (v : Term → ℕ) (t : Term) (lit : Lit) → fin.mentions t lit ≡ true → fin.is_inside sig v lit ≡ true → fin.has_constructor sig v t ≡ true
mentioned_one sig v t (FinIn x mask) m h = subst (λ y. fin.has_constructor sig v y ≡ true) (same_is x t m) h
mentioned_one sig v t (FinEq a b) m h = elim (or_cases (fin.same_term a t) (fin.same_term b t) m) [
  | inl e ↦ subst (λ y. fin.has_constructor sig v y ≡ true) (same_is a t e) (and_left (fin.has_constructor sig v a) (fin.has_constructor sig v b) h)
  | inr e ↦ subst (λ y. fin.has_constructor sig v y ≡ true) (same_is b t e) (and_right (fin.has_constructor sig v a) (fin.has_constructor sig v b) h)
]
mentioned_one sig v t (FinNe a b) m h = elim (or_cases (fin.same_term a t) (fin.same_term b t) m) [
  | inl e ↦ subst (λ y. fin.has_constructor sig v y ≡ true) (same_is a t e) (and_left (fin.has_constructor sig v a) (fin.has_constructor sig v b) h)
  | inr e ↦ subst (λ y. fin.has_constructor sig v y ≡ true) (same_is b t e) (and_right (fin.has_constructor sig v a) (fin.has_constructor sig v b) h)
]
mentioned_one sig v t (ProcEq a b) m h = cc
mentioned_one sig v t (ProcNe a b) m h = cc
mentioned_one sig v t (Diff a b bound) m h = cc

mentioned_inside : (sig : Signature) (v : Term → ℕ) (t : Term) (lits : List Lit) → list_any (fin.mentions t) lits ≡ true → list_all (fin.is_inside sig v) lits ≡ true → fin.has_constructor sig v t ≡ true
mentioned_inside sig v t [] m h = cc
mentioned_inside sig v t (x ∷ xs) m h = elim (or_cases (fin.mentions t x) (list_any (fin.mentions t) xs) m) [
  | inl e ↦ mentioned_one sig v t x e (and_left (fin.is_inside sig v x) (list_all (fin.is_inside sig v) xs) h)
  | inr e ↦ mentioned_inside sig v t xs e (and_right (fin.is_inside sig v x) (list_all (fin.is_inside sig v) xs) h)
]

pub least_inside : (p : Protocol) (lits : List Lit) (v : Term → ℕ) → fin.IsLeastSolution (signature_of p) lits v → (t : Term) → IsTrue (is_finite (sort_of (signature_of p) t)) → v t < constructors_at (signature_of p) t
least_inside p lits v least t finite = elim (cases_Bool (list_any (fin.mentions t) lits)) [
  | inl h ↦ ltb-true (v t) (constructors_at (signature_of p) t) (mentioned_inside (signature_of p) v t lits h least.solves.inside)
  | inr h ↦ omega (arith, least.others t h, some_constructor p t finite)
]

-- ---- the chosen state satisfies the literals
module _ (p : Protocol) (width : ℕ) (lits : List Lit) (v : Values) (c : fin.IsLeastSolution (signature_of p) lits v.constructor) (q : IsLeastChoice width lits v.process) (d : (t : Term) → diff.IsChosen lits (At t) (v.integer t)) where
  pub chosen_are : AreValues p width (needed p width v) v
  chosen_are = record {
    some = needed_some p width v;
    room = needed_room p width v;
    inside = least_inside p lits v.constructor c;
    places = q.places;
    below = needed_above p width v;
  }

  pub chosen_solve : Solve p width lits v
  chosen_solve = record { finite = c.solves; processes = q.solves; integers = chosen_solves lits v.integer d }

pub chosen_fulfils : (p : Protocol) (width : ℕ) (lits : List Lit) (s : Configuration) → IsTrue (list_all (literal_fits (signature_of p) width) lits) → IsChosenState p width lits s → Fulfils p width lits s
chosen_fulfils p width lits s fit chosen =
    subst (λ x. Fulfils p width lits x) (sym chosen.state)
    (made_state p width (needed p width chosen.values) lits chosen.values fit
    (chosen_are p width lits chosen.values chosen.constructors chosen.processes chosen.integers)
    (chosen_solve p width lits chosen.values chosen.constructors chosen.processes chosen.integers))
