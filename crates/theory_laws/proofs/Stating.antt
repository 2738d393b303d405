-- Values that solve the three parts make a state that satisfies the conjunction.
use Rattle.std.proofs.Common.{◌≡◌, ℕ, ◌<◌, true, List, length, get_or, ℤ, ◌-ℤ◌, ◌≤ℤ◌, sym, ◌∙◌, subst, arith}
use Rattle.std.specs.Prelude.{All, IsTrue, int_le, slice_index}
use Rattle.std.specs.List.{list_all, range_with_len}
use Rattle.std.proofs.lemmas.Int.{ints}
use Rattle.std.proofs.lemmas.List.FromFn.{length-range_with_len, get_or-range_with_len}
use Rattle.cub_proto.specs.declared.literal.Lit.{Lit}
use Rattle.cub_proto.specs.declared.literal.Lit.TheVariants.{FinIn, FinEq, FinNe, ProcEq, ProcNe, Diff}
use Rattle.cub_proto.specs.declared.protocol.Protocol.{Protocol}
use Rattle.cub_proto.specs.Configuration.{process_count, IsAlive}
use Rattle.cub_proto.specs.StateOf.{signature_of}
use Rattle.cub_proto.specs.Truth.{is_true}
use Rattle.cub_proto.specs.Fits.{literal_fits}
use Rattle.cub_proto.specs.Legal.{AreDistinctAlive}
use Rattle.cub_proto.specs.Meets.{Satisfies}
use Rattle.cub_base.proofs.Elements.{all_from, from_all}
use Rattle.fin_dom.specs.Solution as fin
use Rattle.proc_eq.specs.Solution as proc
use Rattle.diff_close.specs.Literals as diff
use Rattle.cub_cube.specs.Meaning.{IsConsistent}
use Rattle.theory_laws.specs.Built.{Values, built, own_places, is_true_of}
use Rattle.theory_laws.specs.Solved.{AreValues, Solve, Fulfils}
use Rattle.theory_laws.proofs.Building.{is_state, all_alive, literal_is, count_is}

pub within_is : (x b : ℤ) → x ≤ℤ b → int_le x b ≡ true
within_is x b h = grind (arith, ints)

pub is_within : (x b : ℤ) → int_le x b ≡ true → x ≤ℤ b
is_within x b h = grind (arith, ints)

-- a literal that is true in its part is true of the values
pub part_true : (v : Values) (lit : Lit) → fin.is_true v.constructor lit ≡ true → proc.is_true v.process lit ≡ true → diff.Holds v.integer lit → is_true_of v lit ≡ true
part_true v (FinIn t mask) f q d = f
part_true v (FinEq a b) f q d = f
part_true v (FinNe a b) f q d = f
part_true v (ProcEq a b) f q d = q
part_true v (ProcNe a b) f q d = q
part_true v (Diff a b bound) f q d = within_is (diff.side_value v.integer a -ℤ diff.side_value v.integer b) bound d

pub parts_true : (p : Protocol) (width : ℕ) (lits : List Lit) (v : Values) → Solve p width lits v → All (λ lit. IsTrue (is_true_of v lit)) lits
parts_true p width lits v solve = λ k d below.
    part_true v (get_or lits k d) (all_from (fin.is_true v.constructor) lits solve.finite.holds k d below)
    (all_from (proc.is_true v.process) lits solve.processes.holds k d below) (solve.integers k d below)

-- the processes at the places
pub own_at : (width q : ℕ) → q < width → slice_index (range_with_len 0 width) q ≡ q
own_at width q below = get_or-range_with_len 0 width q 0 below ∙ omega arith

module _ (p : Protocol) (width n : ℕ) (v : Values) (values : AreValues p width n v) where
  pub own_length : length (own_places width) ≡ width
  own_length = length-range_with_len 0 width

  own_item : (i d : ℕ) → i < length (own_places width) → get_or (own_places width) i d ≡ i
  own_item i d below = get_or-range_with_len 0 width i d (omega (arith, own_length, below)) ∙ omega arith

  pub own_distinct : AreDistinctAlive (built p width n v) (own_places width)
  own_distinct = record {
    alive = λ i d below.
        let here : i < process_count (built p width n v) = omega (arith, own_length, below, values.room, count_is p width n v values) in
        subst (λ k. IsAlive (built p width n v) k) (sym (own_item i d below)) (all_alive p width n v values i here);
    distinct = λ i j d order below same.
        let first = own_item i d (omega (arith, order, below)) in
        let second = own_item j d below in
        omega (arith, order, first, second, same);
  }

  -- a conjunction whose literals are true of the values is satisfied
  pub satisfied : (lits : List Lit) → IsTrue (list_all (literal_fits (signature_of p) width) lits) → All (λ lit. IsTrue (is_true_of v lit)) lits → Satisfies (built p width n v) (own_places width) width lits
  satisfied lits fit each = record {
    one_each = own_length;
    processes = own_distinct;
    holds = from_all (is_true (built p width n v) (own_places width)) lits (λ k d below.
        literal_is p width n v values (own_places width) (own_at width) (get_or lits k d) (all_from (literal_fits (signature_of p) width) lits fit k d below) ∙ each k d below);
  }

  -- what is true at the built state is true of the values
  pub true_of_values : (lit : Lit) → IsTrue (literal_fits (signature_of p) width lit) → is_true (built p width n v) (own_places width) lit ≡ is_true_of v lit
  true_of_values lit fit = literal_is p width n v values (own_places width) (own_at width) lit fit

pub made_state : (p : Protocol) (width n : ℕ) (lits : List Lit) (v : Values) → IsTrue (list_all (literal_fits (signature_of p) width) lits) → AreValues p width n v → Solve p width lits v → Fulfils p width lits (built p width n v)
made_state p width n lits v fit values solve = record {
  state = is_state p width n v values;
  alive = all_alive p width n v values;
  satisfies = satisfied p width n v values lits fit (parts_true p width lits v solve);
}

pub made_consistent : (p : Protocol) (width n : ℕ) (lits : List Lit) (v : Values) → IsTrue (list_all (literal_fits (signature_of p) width) lits) → AreValues p width n v → Solve p width lits v → IsConsistent p width lits
made_consistent p width n lits v fit values solve =
    let made = made_state p width n lits v fit values solve in
    (built p width n v, made.state, (own_places width, made.satisfies))
