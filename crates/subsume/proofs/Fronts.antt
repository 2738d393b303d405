-- Literals under the first places of a list: which fit, and that later places don't change them.
use Rattle.std.proofs.Common.{◌≡◌, ℕ, ◌<◌, ◌≤◌, ◌^◌, max, List, ◌++◌, length, refl, ap, ◌∙◌, arith}
use Rattle.std.specs.Prelude.{IsTrue, ◌&&◌, nat_lt}
use Rattle.std.proofs.lemmas.List.{get_or_append_left}
use Rattle.cub_proto.specs.declared.literal.Sort.TheVariants as Sort
use Rattle.cub_proto.specs.declared.literal.Term.{Term}
use Rattle.cub_proto.specs.declared.literal.PSide.{PSide}
use Rattle.cub_proto.specs.declared.literal.ISide.{ISide}
use Rattle.cub_proto.specs.declared.literal.ISide.TheVariants.{Zero, At}
use Rattle.cub_proto.specs.declared.literal.Lit.{Lit}
use Rattle.cub_proto.specs.declared.literal.Lit.TheVariants.{FinIn, FinEq, FinNe, ProcEq, ProcNe, Diff}
use Rattle.cub_proto.specs.Signature.{Signature, sort_of, constructors_at, is_sort, same_finite}
use Rattle.cub_proto.specs.Fits.{literal_fits, is_finite, place_fits, process_side_fits, integer_side_fits}
use Rattle.cub_cube.specs.Rename.{renamed, renamed_term, renamed_process_side, renamed_integer_side, is_within, process_side_within, integer_side_within}
use Rattle.cub_base.proofs.Bools.{and_left, and_right, and_both, less_is, is_less}
use Rattle.subsume.specs.Injections.{term_reach, process_side_reach, integer_side_reach, reach}

-- ---- the reach of a literal is the least width within which it is
term_inside : (n : ℕ) (t : Term) → term_reach t ≤ n → IsTrue (place_fits n t)
term_inside n (Term.Global g) h = refl
term_inside n (Term.Cell a p) h = is_less p n (omega arith)

process_inside : (n : ℕ) (a : PSide) → process_side_reach a ≤ n → IsTrue (process_side_within n a)
process_inside n (PSide.Global g) h = refl
process_inside n (PSide.Place p) h = is_less p n (omega arith)

integer_inside : (n : ℕ) (a : ISide) → integer_side_reach a ≤ n → IsTrue (integer_side_within n a)
integer_inside n Zero h = refl
integer_inside n (At t) h = term_inside n t h

max_first : (x y n : ℕ) → max x y ≤ n → x ≤ n
max_first x y n h = omega arith

max_second : (x y n : ℕ) → max x y ≤ n → y ≤ n
max_second x y n h = omega arith

terms_inside : (n : ℕ) (a b : Term) → max (term_reach a) (term_reach b) ≤ n → IsTrue (place_fits n a && place_fits n b)
terms_inside n a b h =
    and_both (place_fits n a) (place_fits n b) (term_inside n a (max_first (term_reach a) (term_reach b) n h)) (term_inside n b (max_second (term_reach a) (term_reach b) n h))

processes_inside : (n : ℕ) (a b : PSide) → max (process_side_reach a) (process_side_reach b) ≤ n → IsTrue (process_side_within n a && process_side_within n b)
processes_inside n a b h =
    and_both (process_side_within n a) (process_side_within n b)
    (process_inside n a (max_first (process_side_reach a) (process_side_reach b) n h)) (process_inside n b (max_second (process_side_reach a) (process_side_reach b) n h))

pub reach_within : (n : ℕ) (l : Lit) → reach l ≤ n → IsTrue (is_within n l)
reach_within n (FinIn t mask) h = term_inside n t h
reach_within n (FinEq a b) h = terms_inside n a b h
reach_within n (FinNe a b) h = terms_inside n a b h
reach_within n (ProcEq a b) h = processes_inside n a b h
reach_within n (ProcNe a b) h = processes_inside n a b h
reach_within n (Diff a b bound) h =
    and_both (integer_side_within n a) (integer_side_within n b)
    (integer_inside n a (max_first (integer_side_reach a) (integer_side_reach b) n h)) (integer_inside n b (max_second (integer_side_reach a) (integer_side_reach b) n h))

term_reaches : (n : ℕ) (t : Term) → IsTrue (place_fits n t) → term_reach t ≤ n
term_reaches n (Term.Global g) h = omega arith
term_reaches n (Term.Cell a p) h = let below : p < n = less_is p n h in omega arith

process_reaches : (n : ℕ) (a : PSide) → IsTrue (process_side_within n a) → process_side_reach a ≤ n
process_reaches n (PSide.Global g) h = omega arith
process_reaches n (PSide.Place p) h = let below : p < n = less_is p n h in omega arith

integer_reaches : (n : ℕ) (a : ISide) → IsTrue (integer_side_within n a) → integer_side_reach a ≤ n
integer_reaches n Zero h = omega arith
integer_reaches n (At t) h = term_reaches n t h

max_both : (x y n : ℕ) → x ≤ n → y ≤ n → max x y ≤ n
max_both x y n h k = omega arith

terms_reach : (n : ℕ) (a b : Term) → IsTrue (place_fits n a && place_fits n b) → max (term_reach a) (term_reach b) ≤ n
terms_reach n a b h =
    max_both (term_reach a) (term_reach b) n (term_reaches n a (and_left (place_fits n a) (place_fits n b) h)) (term_reaches n b (and_right (place_fits n a) (place_fits n b) h))

processes_reach : (n : ℕ) (a b : PSide) → IsTrue (process_side_within n a && process_side_within n b) → max (process_side_reach a) (process_side_reach b) ≤ n
processes_reach n a b h =
    max_both (process_side_reach a) (process_side_reach b) n
    (process_reaches n a (and_left (process_side_within n a) (process_side_within n b) h)) (process_reaches n b (and_right (process_side_within n a) (process_side_within n b) h))

pub within_reach : (n : ℕ) (l : Lit) → IsTrue (is_within n l) → reach l ≤ n
within_reach n (FinIn t mask) h = term_reaches n t h
within_reach n (FinEq a b) h = terms_reach n a b h
within_reach n (FinNe a b) h = terms_reach n a b h
within_reach n (ProcEq a b) h = processes_reach n a b h
within_reach n (ProcNe a b) h = processes_reach n a b h
within_reach n (Diff a b bound) h =
    max_both (integer_side_reach a) (integer_side_reach b) n
    (integer_reaches n a (and_left (integer_side_within n a) (integer_side_within n b) h)) (integer_reaches n b (and_right (integer_side_within n a) (integer_side_within n b) h))

-- ---- what fits a width fits each width within which it is
module _ (sig : Signature) (width n : ℕ) where
  placed_terms : (a b : Term) → IsTrue (literal_fits sig width (FinEq a b)) → IsTrue (place_fits n a && place_fits n b) → IsTrue (literal_fits sig n (FinEq a b))
  placed_terms a b h k =
      let sorts = same_finite (sort_of sig a) (sort_of sig b) in
      and_both (sorts && place_fits n a) (place_fits n b)
      (and_both sorts (place_fits n a) (and_left sorts (place_fits width a) (and_left (sorts && place_fits width a) (place_fits width b) h)) (and_left (place_fits n a) (place_fits n b) k))
      (and_right (place_fits n a) (place_fits n b) k)

  placed_process : (a : PSide) → IsTrue (process_side_fits sig width a) → IsTrue (process_side_within n a) → IsTrue (process_side_fits sig n a)
  placed_process (PSide.Global g) h k = h
  placed_process (PSide.Place p) h k = k

  placed_integer : (a : ISide) → IsTrue (integer_side_fits sig width a) → IsTrue (integer_side_within n a) → IsTrue (integer_side_fits sig n a)
  placed_integer Zero h k = refl
  placed_integer (At t) h k = and_both (is_sort (sort_of sig t) Sort.Int) (place_fits n t) (and_left (is_sort (sort_of sig t) Sort.Int) (place_fits width t) h) k

  placed_processes : (a b : PSide) → IsTrue (process_side_fits sig width a && process_side_fits sig width b) → IsTrue (process_side_within n a && process_side_within n b) → IsTrue (process_side_fits sig n a && process_side_fits sig n b)
  placed_processes a b h k =
      and_both (process_side_fits sig n a) (process_side_fits sig n b)
      (placed_process a (and_left (process_side_fits sig width a) (process_side_fits sig width b) h) (and_left (process_side_within n a) (process_side_within n b) k))
      (placed_process b (and_right (process_side_fits sig width a) (process_side_fits sig width b) h) (and_right (process_side_within n a) (process_side_within n b) k))

  placed_fits : (l : Lit) → IsTrue (literal_fits sig width l) → IsTrue (is_within n l) → IsTrue (literal_fits sig n l)
  placed_fits (FinIn t mask) h k =
      let sorted = is_finite (sort_of sig t) in
      let small = nat_lt mask (2 ^ constructors_at sig t) in
      let front = and_left (sorted && place_fits width t) small h in
      and_both (sorted && place_fits n t) small (and_both sorted (place_fits n t) (and_left sorted (place_fits width t) front) k) (and_right (sorted && place_fits width t) small h)
  placed_fits (FinEq a b) h k = placed_terms a b h k
  placed_fits (FinNe a b) h k = placed_terms a b h k
  placed_fits (ProcEq a b) h k = placed_processes a b h k
  placed_fits (ProcNe a b) h k = placed_processes a b h k
  placed_fits (Diff a b bound) h k =
      and_both (integer_side_fits sig n a) (integer_side_fits sig n b)
      (placed_integer a (and_left (integer_side_fits sig width a) (integer_side_fits sig width b) h) (and_left (integer_side_within n a) (integer_side_within n b) k))
      (placed_integer b (and_right (integer_side_fits sig width a) (integer_side_fits sig width b) h) (and_right (integer_side_within n a) (integer_side_within n b) k))

pub fits_reach : (sig : Signature) (width : ℕ) (l : Lit) (n : ℕ) → IsTrue (literal_fits sig width l) → reach l ≤ n → IsTrue (literal_fits sig n l)
fits_reach sig width l n h k = placed_fits sig width n l h (reach_within n l k)

-- ---- later places don't change a literal
module _ (r more : List ℕ) where
  front_term : (t : Term) → IsTrue (place_fits (length r) t) → renamed_term (r ++ more) t ≡ renamed_term r t
  front_term (Term.Global g) h = refl
  front_term (Term.Cell a p) h = ap (λ q. Term.Cell a q) (get_or_append_left r more 0 p (less_is p (length r) h))

  front_process : (a : PSide) → IsTrue (process_side_within (length r) a) → renamed_process_side (r ++ more) a ≡ renamed_process_side r a
  front_process (PSide.Global g) h = refl
  front_process (PSide.Place p) h = ap PSide.Place (get_or_append_left r more 0 p (less_is p (length r) h))

  front_integer : (a : ISide) → IsTrue (integer_side_within (length r) a) → renamed_integer_side (r ++ more) a ≡ renamed_integer_side r a
  front_integer Zero h = refl
  front_integer (At t) h = ap At (front_term t h)

  pub front_renamed : (l : Lit) → IsTrue (is_within (length r) l) → renamed (r ++ more) l ≡ renamed r l
  front_renamed (FinIn t mask) h = ap (λ x. FinIn x mask) (front_term t h)
  front_renamed (FinEq a b) h =
      ap (λ x. FinEq x (renamed_term (r ++ more) b)) (front_term a (and_left (place_fits (length r) a) (place_fits (length r) b) h))
      ∙ ap (λ x. FinEq (renamed_term r a) x) (front_term b (and_right (place_fits (length r) a) (place_fits (length r) b) h))
  front_renamed (FinNe a b) h =
      ap (λ x. FinNe x (renamed_term (r ++ more) b)) (front_term a (and_left (place_fits (length r) a) (place_fits (length r) b) h))
      ∙ ap (λ x. FinNe (renamed_term r a) x) (front_term b (and_right (place_fits (length r) a) (place_fits (length r) b) h))
  front_renamed (ProcEq a b) h =
      ap (λ x. ProcEq x (renamed_process_side (r ++ more) b)) (front_process a (and_left (process_side_within (length r) a) (process_side_within (length r) b) h))
      ∙ ap (λ x. ProcEq (renamed_process_side r a) x) (front_process b (and_right (process_side_within (length r) a) (process_side_within (length r) b) h))
  front_renamed (ProcNe a b) h =
      ap (λ x. ProcNe x (renamed_process_side (r ++ more) b)) (front_process a (and_left (process_side_within (length r) a) (process_side_within (length r) b) h))
      ∙ ap (λ x. ProcNe (renamed_process_side r a) x) (front_process b (and_right (process_side_within (length r) a) (process_side_within (length r) b) h))
  front_renamed (Diff a b bound) h =
      ap (λ x. Diff x (renamed_integer_side (r ++ more) b) bound) (front_integer a (and_left (integer_side_within (length r) a) (integer_side_within (length r) b) h))
      ∙ ap (λ x. Diff (renamed_integer_side r a) x bound) (front_integer b (and_right (integer_side_within (length r) a) (integer_side_within (length r) b) h))
