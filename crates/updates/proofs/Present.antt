-- The terms of a literal that fits are there, in each state of the protocol.
use Rattle.std.proofs.Common.{◌≡◌, ◌⊎◌, ℕ, suc, zero, ◌<◌, ◌^◌, List, [], ◌∷◌, ◌++◌, length, get_or, Some, refl, subst, arith, inl, inr}
use Rattle.std.specs.Prelude.{IsTrue, ◌&&◌, nat_lt}
use Rattle.std.specs.List.{AllZip}
use Rattle.std.proofs.lemmas.Slice.Zip.{AllZip-long}
use Rattle.cub_proto.specs.declared.literal.Sort.{Sort}
use Rattle.cub_proto.specs.declared.literal.Term.{Term}
use Rattle.cub_proto.specs.declared.literal.PSide.{PSide}
use Rattle.cub_proto.specs.declared.literal.ISide.{ISide}
use Rattle.cub_proto.specs.declared.literal.ISide.TheVariants.{Zero, At}
use Rattle.cub_proto.specs.declared.literal.Lit.{Lit}
use Rattle.cub_proto.specs.declared.literal.Lit.TheVariants.{FinIn, FinEq, FinNe, ProcEq, ProcNe, Diff}
use Rattle.cub_proto.specs.declared.state.Val.{Val}
use Rattle.cub_proto.specs.declared.protocol.Decl.{Decl}
use Rattle.cub_proto.specs.declared.protocol.Protocol.{Protocol}
use Rattle.cub_proto.specs.Configuration.{Configuration, process_count}
use Rattle.cub_proto.specs.Signature.{Signature, declared_sort, sort_of, is_sort, same_finite, constructors_at}
use Rattle.cub_proto.specs.Fits.{place_fits, process_side_fits, integer_side_fits, is_finite, literal_fits}
use Rattle.cub_proto.specs.StateOf.{IsStateOf, AreCells, signature_of}
use Rattle.cub_proto.specs.Truth.{HasTerm}
use Rattle.cub_proto.specs.Legal.{AreDistinctAlive}
use Rattle.cub_proto.proofs.StateValues.{sort_is}
use Rattle.cub_cube.specs.Mentions.{terms_of, process_side_terms, integer_side_terms}
use Rattle.cub_base.proofs.Bools.{and_left, and_right, less_is}
use Rattle.cub_base.proofs.Members.{Has, has_cases}
use Rattle.cub_cube.proofs.States.{finite_is, place_within}
use Rattle.cub_cube.proofs.Replaced.{finite_both}

declared_below : (decls : List Decl) (n : ℕ) (sort : Sort) → declared_sort decls n ≡ Some sort → n < length decls
declared_below [] n sort h = cc
declared_below (d ∷ ds) zero sort h = omega arith
declared_below (d ∷ ds) (suc n) sort h = omega (arith, declared_below ds n sort h)

cells_at : (sig : Signature) (count : ℕ) (decls : List Decl) (cells : List (List Val)) (a : ℕ) → AllZip (AreCells sig count) decls cells → a < length decls → length (get_or cells a []) ≡ count
cells_at sig count [] cells a h below = absurd (omega arith)
cells_at sig count (d ∷ ds) [] a h below = absurd h
cells_at sig count (d ∷ ds) (c ∷ cs) zero h below = h.0.one_each
cells_at sig count (d ∷ ds) (c ∷ cs) (suc a) h below = cells_at sig count ds cs a h.1 (omega arith)

-- a term with a sort and a place is there
pub has_term : (p : Protocol) (s : Configuration) (places : List ℕ) → IsStateOf p s → AreDistinctAlive s places → (t : Term) (sort : Sort) → sort_of (signature_of p) t ≡ Some sort → IsTrue (place_fits (length places) t) → HasTerm s places t
has_term p s places state distinct (Term.Global g) sort is place =
    let below = declared_below p.globals g sort is in
    omega (arith, below, AllZip-long _ p.globals s.globals state.globals_fit)
has_term p s places state distinct (Term.Cell a q) sort is place =
    let below = declared_below p.arrays a sort is in
    let inside : q < length places = less_is q (length places) place in
    let process = place_within s places q distinct inside in
    let size = cells_at (signature_of p) (process_count s) p.arrays s.arrays a state.arrays_fit below in
    (inside, (omega (arith, below, AllZip-long _ p.arrays s.arrays state.arrays_fit), omega (arith, size, process)))

-- the sort and the place of a term
pub record TermFits (sig : Signature) (width : ℕ) (t : Term) : Type 0 where
  pub sort : Sort
  pub is_sort : sort_of sig t ≡ Some sort
  pub place : IsTrue (place_fits width t)

finite_terms : (sig : Signature) (width : ℕ) (a b t : Term) → IsTrue (literal_fits sig width (FinEq a b)) → Has (a ∷ b ∷ []) t → TermFits sig width t
finite_terms sig width a b t h at =
    let front = and_left (same_finite (sort_of sig a) (sort_of sig b) && place_fits width a) (place_fits width b) h in
    let k = finite_both (sort_of sig a) (sort_of sig b) (and_left (same_finite (sort_of sig a) (sort_of sig b)) (place_fits width a) front) in
    by at k (and_right (same_finite (sort_of sig a) (sort_of sig b)) (place_fits width a) front) (and_right (same_finite (sort_of sig a) (sort_of sig b) && place_fits width a) (place_fits width b) h)
  where
    by : Has (a ∷ b ∷ []) t → (k : ℕ) × (sort_of sig a ≡ Some (Sort.Fin k)) × (sort_of sig b ≡ Some (Sort.Fin k)) → IsTrue (place_fits width a) → IsTrue (place_fits width b) → TermFits sig width t
    by (inl same) k first second = subst (TermFits sig width) same (record { sort = Sort.Fin k.0; is_sort = k.1; place = first })
    by (inr (inl same)) k first second = subst (TermFits sig width) same (record { sort = Sort.Fin k.0; is_sort = k.2; place = second })
    by (inr (inr none)) k first second = absurd none

process_term : (sig : Signature) (width : ℕ) (a : PSide) (t : Term) → IsTrue (process_side_fits sig width a) → Has (process_side_terms a) t → TermFits sig width t
process_term sig width (PSide.Global g) t h (inl same) = subst (TermFits sig width) same (record { sort = Sort.Proc; is_sort = sort_is (declared_sort sig.globals g) Sort.Proc h; place = refl })
process_term sig width (PSide.Global g) t h (inr none) = absurd none
process_term sig width (PSide.Place q) t h none = absurd none

process_terms : (sig : Signature) (width : ℕ) (a b : PSide) (t : Term) → IsTrue (process_side_fits sig width a && process_side_fits sig width b) → Has (process_side_terms a ++ process_side_terms b) t → TermFits sig width t
process_terms sig width a b t h at = by (has_cases (process_side_terms a) (process_side_terms b) t at)
  where
    by : Has (process_side_terms a) t ⊎ Has (process_side_terms b) t → TermFits sig width t
    by (inl first) = process_term sig width a t (and_left (process_side_fits sig width a) (process_side_fits sig width b) h) first
    by (inr second) = process_term sig width b t (and_right (process_side_fits sig width a) (process_side_fits sig width b) h) second

integer_term : (sig : Signature) (width : ℕ) (a : ISide) (t : Term) → IsTrue (integer_side_fits sig width a) → Has (integer_side_terms a) t → TermFits sig width t
integer_term sig width Zero t h none = absurd none
integer_term sig width (At u) t h (inl same) =
    subst (TermFits sig width) same (record { sort = Sort.Int; is_sort = sort_is (sort_of sig u) Sort.Int (and_left (is_sort (sort_of sig u) Sort.Int) (place_fits width u) h); place = and_right (is_sort (sort_of sig u) Sort.Int) (place_fits width u) h })
integer_term sig width (At u) t h (inr none) = absurd none

pub term_of : (sig : Signature) (width : ℕ) (l : Lit) (t : Term) → IsTrue (literal_fits sig width l) → Has (terms_of l) t → TermFits sig width t
term_of sig width (FinIn u mask) t h (inl same) =
    let front = and_left (is_finite (sort_of sig u) && place_fits width u) (nat_lt mask (2 ^ constructors_at sig u)) h in
    let k = finite_is (sort_of sig u) (and_left (is_finite (sort_of sig u)) (place_fits width u) front) in
    subst (TermFits sig width) same (record { sort = Sort.Fin k.0; is_sort = k.1; place = and_right (is_finite (sort_of sig u)) (place_fits width u) front })
term_of sig width (FinIn u mask) t h (inr none) = absurd none
term_of sig width (FinEq a b) t h at = finite_terms sig width a b t h at
term_of sig width (FinNe a b) t h at = finite_terms sig width a b t h at
term_of sig width (ProcEq a b) t h at = process_terms sig width a b t h at
term_of sig width (ProcNe a b) t h at = process_terms sig width a b t h at
term_of sig width (Diff a b bound) t h at = by (has_cases (integer_side_terms a) (integer_side_terms b) t at)
  where
    by : Has (integer_side_terms a) t ⊎ Has (integer_side_terms b) t → TermFits sig width t
    by (inl first) = integer_term sig width a t (and_left (integer_side_fits sig width a) (integer_side_fits sig width b) h) first
    by (inr second) = integer_term sig width b t (and_right (integer_side_fits sig width a) (integer_side_fits sig width b) h) second
