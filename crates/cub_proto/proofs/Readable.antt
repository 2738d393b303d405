-- What fits a protocol can be read in each of its states.
use Rattle.std.proofs.Common.{◌≡◌, ℕ, zero, suc, ◌+◌, ◌<◌, true, false, ◌&&◌, nat_lt, nat_le, ◌^◌, List, [], ◌∷◌, ◌++◌, Option, Some, None, is_some, length, get_or, refl, ap, ◌∙◌, arith, All}
use Rattle.std.specs.List.{list_all, AllZip}
use Rattle.std.proofs.lemmas.Bool.{and_parts, ltb-true}
use Rattle.std.proofs.lemmas.List.Elements.{All-weaker, All-push}
use Rattle.std.proofs.lemmas.List.{length_push}
use Rattle.std.proofs.lemmas.Slice.Zip.{AllZip-long}
use Rattle.cub_proto.specs.declared.literal.Sort.{Sort}
use Rattle.cub_proto.specs.declared.literal.Term.{Term}
use Rattle.cub_proto.specs.declared.literal.PSide.{PSide}
use Rattle.cub_proto.specs.declared.literal.ISide.{ISide}
use Rattle.cub_proto.specs.declared.literal.ISide.TheVariants.{Zero, At}
use Rattle.cub_proto.specs.declared.literal.Lit.{Lit}
use Rattle.cub_proto.specs.declared.literal.Lit.TheVariants.{FinIn, FinEq, FinNe, ProcEq, ProcNe, Diff}
use Rattle.cub_proto.specs.declared.protocol.Decl.{Decl}
use Rattle.cub_proto.specs.declared.protocol.Protocol.{Protocol}
use Rattle.cub_proto.specs.Configuration.{Configuration, process_count, cells_of}
use Rattle.cub_proto.specs.Signature.{declared_sort, sort_of, is_sort, same_finite, constructors_at}
use Rattle.cub_proto.specs.Fits.{place_fits, process_side_fits, integer_side_fits, is_finite, literal_fits, is_bounded, greatest_bound, conjunction_fits, formula_fits}
use Rattle.cub_proto.specs.StateOf.{IsStateOf, AreCells, signature_of}
use Rattle.cub_proto.specs.Truth.{HasTerm, HasProcessSide, HasIntegerSide, HasLiteral, HasLiterals}
use Rattle.cub_base.proofs.Elements.{all_from}

pub sort_is_some : (o : Option Sort) (sort : Sort) → is_sort o sort ≡ true → is_some o ≡ true
sort_is_some None sort h = cc
sort_is_some (Some other) sort h = refl

pub finite_is_some : (o : Option Sort) → is_finite o ≡ true → is_some o ≡ true
finite_is_some None h = cc
finite_is_some (Some sort) h = refl

pub same_are_some : (a b : Option Sort) → same_finite a b ≡ true → (is_some a ≡ true) × (is_some b ≡ true)
same_are_some None b h = absurd (let e : false ≡ true = h in cc)
same_are_some (Some (Sort.Fin k)) b h = (refl, sort_is_some b (Sort.Fin k) h)
same_are_some (Some Sort.Proc) b h = absurd (let e : false ≡ true = h in cc)
same_are_some (Some Sort.Int) b h = absurd (let e : false ≡ true = h in cc)

pub declared_within : (decls : List Decl) (n : ℕ) → is_some (declared_sort decls n) ≡ true → n < length decls
declared_within [] n h = absurd (let e : false ≡ true = h in cc)
declared_within (d ∷ ds) zero h = omega arith
declared_within (d ∷ ds) (suc n) h = omega (arith, declared_within ds n h)

-- what holds of two lists place by place holds at a place
pub zip_at : {A B : Type 0} (R : A → B → Type 0) (xs : List A) (ys : List B) (i : ℕ) (d : A) (e : B) → AllZip R xs ys → i < length xs → R (get_or xs i d) (get_or ys i e)
zip_at R [] ys i d e h within = absurd (omega arith)
zip_at R (x ∷ xs) [] i d e h within = absurd h
zip_at R (x ∷ xs) (y ∷ ys) zero d e h within = h.0
zip_at R (x ∷ xs) (y ∷ ys) (suc i) d e h within = zip_at R xs ys i d e h.1 (omega arith)

module _ (p : Protocol) (s : Configuration) (state : IsStateOf p s) where
  pub global_there : (g : ℕ) → is_some (declared_sort p.globals g) ≡ true → g < length s.globals
  global_there g h =
      omega (arith, declared_within p.globals g h, AllZip-long _ p.globals s.globals state.globals_fit)

  pub array_there : (a : ℕ) → is_some (declared_sort p.arrays a) ≡ true → (a < length s.arrays) × (length (cells_of s a) ≡ process_count s)
  array_there a h =
      let within = declared_within p.arrays a h in
      let other : Decl = record { name = []; sort = Sort.Int } in
      let cells = zip_at (AreCells (signature_of p) (process_count s)) p.arrays s.arrays a other [] state.arrays_fit within in
      (omega (arith, within, AllZip-long _ p.arrays s.arrays state.arrays_fit), cells.one_each)

-- processes of the state, one for each of so many places
pub record Fills (s : Configuration) (places : List ℕ) (width : ℕ) : Type 0 where
  pub one_each : length places ≡ width
  pub processes : All (λ i. i < process_count s) places

-- one more process for one more place
pub fills_more : (s : Configuration) (places : List ℕ) (width i : ℕ) → Fills s places width → i < process_count s → Fills s (places ++ i ∷ []) (width + 1)
fills_more s places width i fills within = record {
  one_each = length_push places i ∙ ap (λ n. n + 1) fills.one_each;
  processes = All-push (λ j. j < process_count s) places i fills.processes within;
}

module _ (p : Protocol) (s : Configuration) (state : IsStateOf p s) (width : ℕ) (places : List ℕ) (fills : Fills s places width) where
  pub has_cell : (a place : ℕ) → is_some (declared_sort p.arrays a) ≡ true → nat_lt place width ≡ true → HasTerm s places (Term.Cell a place)
  has_cell a place h below =
      let there = array_there p s state a h in
      let under = ltb-true place width below in
      let same = fills.one_each in
      let inside : place < length places = omega arith in
      let process = fills.processes place 0 inside in
      (inside, (there.0, omega (arith, there.1, process)))

  pub has_term : (t : Term) → is_some (sort_of (signature_of p) t) ≡ true → place_fits width t ≡ true → HasTerm s places t
  has_term (Term.Global g) h below = global_there p s state g h
  has_term (Term.Cell a place) h below = has_cell a place h below

  pub has_process_side : (side : PSide) → process_side_fits (signature_of p) width side ≡ true → HasProcessSide s places side
  has_process_side (PSide.Global g) h = global_there p s state g (sort_is_some (declared_sort p.globals g) Sort.Proc h)
  has_process_side (PSide.Place place) h =
      let under = ltb-true place width h in
      let same = fills.one_each in
      omega arith

  pub has_integer_side : (side : ISide) → integer_side_fits (signature_of p) width side ≡ true → HasIntegerSide s places side
  has_integer_side Zero h = tt
  has_integer_side (At t) h =
      let parts = and_parts (is_sort (sort_of (signature_of p) t) Sort.Int) (place_fits width t) h in
      has_term t (sort_is_some (sort_of (signature_of p) t) Sort.Int parts.0) parts.1

  -- two terms of one finite sort
  has_terms : (a b : Term) → (same_finite (sort_of (signature_of p) a) (sort_of (signature_of p) b) && place_fits width a && place_fits width b) ≡ true → HasTerm s places a × HasTerm s places b
  has_terms a b h =
      let sorts = same_finite (sort_of (signature_of p) a) (sort_of (signature_of p) b) in
      let outer = and_parts (sorts && place_fits width a) (place_fits width b) h in
      let inner = and_parts sorts (place_fits width a) outer.0 in
      let there = same_are_some (sort_of (signature_of p) a) (sort_of (signature_of p) b) inner.0 in
      (has_term a there.0 inner.1, has_term b there.1 outer.1)

  has_sides : (a b : PSide) → (process_side_fits (signature_of p) width a && process_side_fits (signature_of p) width b) ≡ true → HasProcessSide s places a × HasProcessSide s places b
  has_sides a b h =
      let parts = and_parts (process_side_fits (signature_of p) width a) (process_side_fits (signature_of p) width b) h in
      (has_process_side a parts.0, has_process_side b parts.1)

  pub has_literal : (l : Lit) → literal_fits (signature_of p) width l ≡ true → HasLiteral s places l
  has_literal (FinIn t mask) h =
      let sort = is_finite (sort_of (signature_of p) t) in
      let outer = and_parts (sort && place_fits width t) (nat_lt mask (2 ^ constructors_at (signature_of p) t)) h in
      let inner = and_parts sort (place_fits width t) outer.0 in
      has_term t (finite_is_some (sort_of (signature_of p) t) inner.0) inner.1
  has_literal (FinEq a b) h = has_terms a b h
  has_literal (FinNe a b) h = has_terms a b h
  has_literal (ProcEq a b) h = has_sides a b h
  has_literal (ProcNe a b) h = has_sides a b h
  has_literal (Diff a b bound) h =
      let parts = and_parts (integer_side_fits (signature_of p) width a) (integer_side_fits (signature_of p) width b) h in
      (has_integer_side a parts.0, has_integer_side b parts.1)

  pub has_conjunction : (lits : List Lit) → conjunction_fits (signature_of p) width lits ≡ true → HasLiterals s places lits
  has_conjunction lits h =
      let each = list_all (literal_fits (signature_of p) width) lits in
      let outer = and_parts (nat_le (length lits) 64 && each) (list_all (is_bounded greatest_bound) lits) h in
      let inner = and_parts (nat_le (length lits) 64) each outer.0 in
      All-weaker (λ l. literal_fits (signature_of p) width l ≡ true) (HasLiteral s places) has_literal lits
      (all_from (literal_fits (signature_of p) width) lits inner.1)

  pub has_conjunctions : (conjs : List (List Lit)) → list_all (conjunction_fits (signature_of p) width) conjs ≡ true → All (λ lits. HasLiterals s places lits) conjs
  has_conjunctions conjs h =
      All-weaker (λ lits. conjunction_fits (signature_of p) width lits ≡ true) (λ lits. HasLiterals s places lits) has_conjunction conjs
      (all_from (conjunction_fits (signature_of p) width) conjs h)

  pub has_formula : (conjs : List (List Lit)) → formula_fits (signature_of p) width conjs ≡ true → All (λ lits. HasLiterals s places lits) conjs
  has_formula conjs h =
      has_conjunctions conjs (and_parts (nat_le (length conjs) 64) (list_all (conjunction_fits (signature_of p) width) conjs) h).1
