-- A conjunction has one chosen state.
use Rattle.std.proofs.Common.{◌≡◌, ℕ, suc, ◌+◌, ◌<◌, ◌≤◌, max, true, List, [], ◌∷◌, length, map, replicate, refl, sym, ap, ◌∙◌, arith}
use Rattle.std.specs.Prelude.{cond}
use Rattle.std.specs.List.{range_with_len}
use Rattle.cub_base.specs.Numbered.{map_from}
use Rattle.cub_base.proofs.Numbered.{map_from_same}
use Rattle.cub_proto.specs.declared.literal.Sort.{Sort}
use Rattle.cub_proto.specs.declared.literal.Term.{Term}
use Rattle.cub_proto.specs.declared.literal.PSide.{PSide}
use Rattle.cub_proto.specs.declared.literal.ISide.TheVariants.{At}
use Rattle.cub_proto.specs.declared.literal.Lit.{Lit}
use Rattle.cub_proto.specs.declared.state.Val.{Val}
use Rattle.cub_proto.specs.declared.state.Val.TheVariants.{Con, Proc, Int}
use Rattle.cub_proto.specs.declared.protocol.Decl.{Decl}
use Rattle.cub_proto.specs.declared.protocol.Protocol.{Protocol}
use Rattle.cub_proto.specs.Configuration.{Configuration}
use Rattle.cub_proto.specs.Signature.{same_sort}
use Rattle.cub_proto.specs.StateOf.{signature_of}
use Rattle.diff_close.proofs.Chosen.{chosen_same}
use Rattle.theory_laws.specs.Built.{Values, value_of, home, global_value, cell_values, built}
use Rattle.theory_laws.specs.Chosen.{needed_from, needed, IsChosenState}
use Rattle.text_lines.proofs.LooseLaws.{few_decls}
use Rattle.answer_laws.proofs.ChosenParts.{constructors_same, processes_same}

module _ (v w : Values) (constructors : (t : Term) → v.constructor t ≡ w.constructor t) (integers : (t : Term) → v.integer t ≡ w.integer t) where
  -- the values of terms, where a global of processes has the same one
  value_same : (sort : Sort) (t : Term) → ((g : ℕ) → t ≡ Term.Global g → v.process (PSide.Global g) ≡ w.process (PSide.Global g)) → value_of v sort t ≡ value_of w sort t
  value_same (Sort.Fin k) t processes = ap Con (constructors t)
  value_same Sort.Proc (Term.Global g) processes = ap Proc (processes g refl)
  value_same Sort.Proc (Term.Cell a q) processes = refl
  value_same Sort.Int t processes = ap Int (integers t)

  cell_same : (sort : Sort) (a q : ℕ) → value_of v sort (Term.Cell a q) ≡ value_of w sort (Term.Cell a q)
  cell_same sort a q = value_same sort (Term.Cell a q) (λ g is. absurd (let no : Term.Cell a q ≡ Term.Global g = is in cc))

  cells_same : (width n a : ℕ) (d : Decl) → cell_values width n v a d ≡ cell_values width n w a d
  cells_same width n a d = ap (λ (f : ℕ → Val). map f (range_with_len 0 n)) same
    where
      same : ◌≡◌ {A = ℕ → Val} (λ q. value_of v d.sort (Term.Cell a (home width q))) (λ q. value_of w d.sort (Term.Cell a (home width q)))
      same = λ i q. cell_same d.sort a (home width q) i

  globals_same : (g : ℕ) (ds : List Decl) → ((k : ℕ) → g ≤ k → k < g + length ds → v.process (PSide.Global k) ≡ w.process (PSide.Global k)) → map_from (global_value v) g ds ≡ map_from (global_value w) g ds
  globals_same g [] processes = refl
  globals_same g (d ∷ ds) processes =
      ap (λ (x : Val). x ∷ map_from (global_value v) (g + 1) ds) (value_same d.sort (Term.Global g) (λ h is. let same : g ≡ h = cc in processes h (omega arith) (omega arith)))
      ∙ ap (λ (xs : List Val). global_value w g d ∷ xs) (globals_same (g + 1) ds (λ k low high. processes k (omega arith) (omega arith)))

  needed_same : (so_far g : ℕ) (ds : List Decl) → ((k : ℕ) → g ≤ k → k < g + length ds → v.process (PSide.Global k) ≡ w.process (PSide.Global k)) → needed_from v so_far g ds ≡ needed_from w so_far g ds
  needed_same so_far g [] processes = refl
  needed_same so_far g (d ∷ ds) processes =
      let next = λ (process : ℕ). cond (same_sort d.sort Sort.Proc) (max so_far (suc process)) so_far in
      let here : v.process (PSide.Global g) ≡ w.process (PSide.Global g) = processes g (omega arith) (omega arith) in
      ap (λ (process : ℕ). needed_from v (next process) (suc g) ds) here
      ∙ needed_same (next (w.process (PSide.Global g))) (suc g) ds (λ k low high. processes k (omega arith) (omega arith))

  built_same : (p : Protocol) (width : ℕ) → ((k : ℕ) → k < length p.globals → v.process (PSide.Global k) ≡ w.process (PSide.Global k)) → built p width (needed p width v) v ≡ built p width (needed p width w) w
  built_same p width processes =
      let count : needed p width v ≡ needed p width w = needed_same (max width 1) 0 p.globals (λ k low high. processes k (omega arith)) in
      let its_globals : map_from (global_value v) 0 p.globals ≡ map_from (global_value w) 0 p.globals = globals_same 0 p.globals (λ k low high. processes k (omega arith)) in
      let its_arrays : map_from (cell_values width (needed p width w) v) 0 p.arrays ≡ map_from (cell_values width (needed p width w) w) 0 p.arrays =
      map_from_same (cell_values width (needed p width w) w) (cell_values width (needed p width w) v) 0 p.arrays (λ a d. cells_same width (needed p width w) a d) in
      let rest : built p width (needed p width w) v ≡ built p width (needed p width w) w = λ i. record { living = replicate (needed p width w) true; globals = its_globals i; arrays = its_arrays i } in
      ap (λ n. built p width n v) count ∙ rest

pub one_chosen : (p : Protocol) (width : ℕ) (lits : List Lit) (s t : Configuration) → IsChosenState p width lits s → IsChosenState p width lits t → s ≡ t
one_chosen p width lits s t a b =
    let few = (few_decls p).0 in
    a.state
    ∙ built_same a.values b.values (constructors_same (signature_of p) lits a.values.constructor b.values.constructor a.constructors b.constructors)
    (λ u. chosen_same lits (At u) (a.values.integer u) (b.values.integer u) (a.integers u) (b.integers u)) p width
    (λ k below. processes_same width lits a.values.process b.values.process a.processes b.processes k (omega arith))
    ∙ sym b.state
