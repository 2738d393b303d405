-- The normal form of a conjunction: one literal for each thing that is spoken of, in order, and none that is always true.
use Rattle.std.specs.Prelude.{ℕ, ◌-◌, ◌^◌, ℤ, pos, Bool, true, false, ◌&&◌, ◌==◌, not, int_le, bit_and, if◌then◌else◌, List, [], ◌∷◌, fold}
use Rattle.std.specs.List.{list_all}
use Rattle.std.specs.Int.{int_min}
use Rattle.std.specs.Ordering.{is_eq, is_lt, is_gt, match_ordering}
use Rattle.std.specs.declared.cmp.Ordering.{Ordering}
use Rattle.cub_proto.specs.declared.literal.Term.{Term}
use Rattle.cub_proto.specs.declared.literal.PSide.{PSide}
use Rattle.cub_proto.specs.declared.literal.Lit.{Lit}
use Rattle.cub_proto.specs.declared.literal.Lit.TheVariants.{FinIn, FinEq, FinNe, ProcEq, ProcNe, Diff}
use Rattle.cub_proto.specs.Signature.{Signature, constructors_at}
use Rattle.cub_proto.specs.Order.{term_cmp, process_side_cmp, integer_side_cmp, lit_cmp}

-- the literal with the smaller side of an equality first
abbrev pub ordered : Lit → Lit
ordered (FinIn t mask) = FinIn t mask
ordered (FinEq a b) = if is_gt (term_cmp a b) then FinEq b a else FinEq a b
ordered (FinNe a b) = if is_gt (term_cmp a b) then FinNe b a else FinNe a b
ordered (ProcEq a b) = if is_gt (process_side_cmp a b) then ProcEq b a else ProcEq a b
ordered (ProcNe a b) = if is_gt (process_side_cmp a b) then ProcNe b a else ProcNe a b
ordered (Diff a b bound) = Diff a b bound

-- the mask of all constructors of the term's sort
abbrev pub full_mask : Signature → Term → ℕ
full_mask sig t = 2 ^ constructors_at sig t - 1

-- both sides are places, and not the same one
abbrev pub are_two_places : PSide → PSide → Bool
are_two_places (PSide.Global g) b = false
are_two_places (PSide.Place p) (PSide.Global h) = false
are_two_places (PSide.Place p) (PSide.Place q) = not (p == q)

-- the literal is true by itself: it says nothing of a state
abbrev pub is_true_alone : Signature → Lit → Bool
is_true_alone sig (FinIn t mask) = mask == full_mask sig t
is_true_alone sig (FinEq a b) = is_eq (term_cmp a b)
is_true_alone sig (FinNe a b) = false
is_true_alone sig (ProcEq a b) = is_eq (process_side_cmp a b)
is_true_alone sig (ProcNe a b) = are_two_places a b
is_true_alone sig (Diff a b bound) = is_eq (integer_side_cmp a b) && int_le (pos 0) bound

-- what a literal speaks of: the literal without its mask or its bound
abbrev pub subject : Lit → Lit
subject (FinIn t mask) = FinIn t 0
subject (FinEq a b) = FinEq a b
subject (FinNe a b) = FinNe a b
subject (ProcEq a b) = ProcEq a b
subject (ProcNe a b) = ProcNe a b
subject (Diff a b bound) = Diff a b (pos 0)

abbrev pub subject_cmp : Lit → Lit → Ordering
subject_cmp l m = lit_cmp (subject l) (subject m)

-- the mask of a literal, and its bound; 0 for one of another kind
abbrev pub mask_of : Lit → ℕ
mask_of (FinIn t mask) = mask
mask_of (FinEq a b) = 0
mask_of (FinNe a b) = 0
mask_of (ProcEq a b) = 0
mask_of (ProcNe a b) = 0
mask_of (Diff a b bound) = 0

abbrev pub bound_of : Lit → ℤ
bound_of (FinIn t mask) = pos 0
bound_of (FinEq a b) = pos 0
bound_of (FinNe a b) = pos 0
bound_of (ProcEq a b) = pos 0
bound_of (ProcNe a b) = pos 0
bound_of (Diff a b bound) = bound

-- two literals of one subject as one: the constructors that both masks have, the least of both bounds
abbrev pub joined : Lit → Lit → Lit
joined (FinIn t mask) other = FinIn t (bit_and mask (mask_of other))
joined (FinEq a b) other = FinEq a b
joined (FinNe a b) other = FinNe a b
joined (ProcEq a b) other = ProcEq a b
joined (ProcNe a b) other = ProcNe a b
joined (Diff a b bound) other = Diff a b (int_min bound (bound_of other))

-- a rising list with one more literal: at its place, or joined with the one of its subject
abbrev pub inserted : List Lit → Lit → List Lit
inserted [] l = l ∷ []
inserted (m ∷ ms) l = match_ordering (subject_cmp l m) (l ∷ m ∷ ms) (joined m l ∷ ms) (m ∷ inserted ms l)

-- the next literal of a conjunction: dropped where it is true by itself
abbrev pub placed : Signature → List Lit → Lit → List Lit
placed sig form l = if is_true_alone sig l then form else inserted form (ordered l)

-- the normal form
abbrev pub normal_form : Signature → List Lit → List Lit
normal_form sig lits = fold (placed sig) [] lits

-- each literal's subject comes before those of all later ones
abbrev pub subjects_rise : List Lit → Bool
subjects_rise [] = true
subjects_rise (l ∷ ls) = list_all (λ m. is_lt (subject_cmp l m)) ls && subjects_rise ls

-- the sides of the literal are in order
abbrev pub has_ordered_sides : Lit → Bool
has_ordered_sides (FinIn t mask) = true
has_ordered_sides (FinEq a b) = not (is_gt (term_cmp a b))
has_ordered_sides (FinNe a b) = not (is_gt (term_cmp a b))
has_ordered_sides (ProcEq a b) = not (is_gt (process_side_cmp a b))
has_ordered_sides (ProcNe a b) = not (is_gt (process_side_cmp a b))
has_ordered_sides (Diff a b bound) = true

-- a literal as it may stand in a normal form
abbrev pub is_plain : Signature → Lit → Bool
is_plain sig l = has_ordered_sides l && not (is_true_alone sig l)

-- the list is a normal form
abbrev pub is_normal : Signature → List Lit → Bool
is_normal sig lits = list_all (is_plain sig) lits && subjects_rise lits
