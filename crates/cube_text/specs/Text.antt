-- How a cube is written, as `cube 2: A[#1] = Crit && X - 0 <= 3`. Places count from 1 there.
use Rattle.std.specs.Prelude.{ℕ, ◌+◌, if◌then◌else◌, List, [], ◌∷◌, ◌++◌, codes, decimal, Option, Some, None, slice_get}
use Rattle.std.specs.Fmt.{signed_decimal}
use Rattle.std.specs.List.{join_by}
use Rattle.std.specs.Option.{option_map_or}
use Rattle.cub_proto.specs.declared.literal.Sort.{Sort}
use Rattle.cub_proto.specs.declared.literal.Term.{Term}
use Rattle.cub_proto.specs.declared.literal.PSide.{PSide}
use Rattle.cub_proto.specs.declared.literal.ISide.{ISide}
use Rattle.cub_proto.specs.declared.literal.ISide.TheVariants.{Zero, At}
use Rattle.cub_proto.specs.declared.literal.Lit.{Lit}
use Rattle.cub_proto.specs.declared.literal.Lit.TheVariants.{FinIn, FinEq, FinNe, ProcEq, ProcNe, Diff}
use Rattle.cub_proto.specs.declared.protocol.Protocol.{Protocol}
use Rattle.cub_proto.specs.declared.state.Slot.{Slot}
use Rattle.cub_proto.specs.Signature.{sort_of}
use Rattle.cub_proto.specs.StateOf.{signature_of}
use Rattle.cub_proto.specs.Truth.{has_bit}
use Rattle.cub_cube.specs.declared.cube.Cube.{Cube}
use Rattle.text_lines.specs.Spelling.{process_text, name_of, slot_text}

-- a term is written as the slot with the place as its process
abbrev pub term_slot : Term → Slot
term_slot (Term.Global g) = Slot.Global g
term_slot (Term.Cell a i) = Slot.Cell a i

abbrev pub term_text : Protocol → Term → List ℕ
term_text p t = slot_text p (term_slot t)

abbrev pub process_side_text : Protocol → PSide → List ℕ
process_side_text p (PSide.Global g) = name_of p.globals g
process_side_text p (PSide.Place i) = process_text i

abbrev pub integer_side_text : Protocol → ISide → List ℕ
integer_side_text p Zero = codes "0"
integer_side_text p (At t) = term_text p t

-- the names of the constructors of a sort
abbrev pub names_of_sort : Protocol → Option Sort → List (List ℕ)
names_of_sort p None = []
names_of_sort p (Some (Sort.Fin k)) = option_map_or (λ d. d.cons) (slice_get p.sorts k) []
names_of_sort p (Some Sort.Proc) = []
names_of_sort p (Some Sort.Int) = []

-- those that the mask has, where the first is the constructor c
abbrev pub marked : ℕ → ℕ → List (List ℕ) → List (List ℕ)
marked mask c [] = []
marked mask c (name ∷ names) = if has_bit mask c then name ∷ marked mask (c + 1) names else marked mask (c + 1) names

abbrev pub mask_names : Protocol → Term → ℕ → List (List ℕ)
mask_names p t mask = marked mask 0 (names_of_sort p (sort_of (signature_of p) t))

-- one constructor, or a list of them in declared order
abbrev pub among_text : List (List ℕ) → List ℕ
among_text [] = codes " in {}"
among_text (name ∷ []) = codes " = " ++ name
among_text (name ∷ next ∷ more) = codes " in {" ++ join_by (λ n. n) (codes ",") (name ∷ next ∷ more) ++ codes "}"

abbrev pub lit_text : Protocol → Lit → List ℕ
lit_text p (FinIn t mask) = term_text p t ++ among_text (mask_names p t mask)
lit_text p (FinEq a b) = term_text p a ++ codes " = " ++ term_text p b
lit_text p (FinNe a b) = term_text p a ++ codes " <> " ++ term_text p b
lit_text p (ProcEq a b) = process_side_text p a ++ codes " = " ++ process_side_text p b
lit_text p (ProcNe a b) = process_side_text p a ++ codes " <> " ++ process_side_text p b
lit_text p (Diff a b bound) =
    integer_side_text p a ++ codes " - " ++ integer_side_text p b ++ codes " <= " ++ signed_decimal bound

abbrev pub lits_text : Protocol → List Lit → List ℕ
lits_text p [] = codes "true"
lits_text p (l ∷ ls) = join_by (lit_text p) (codes " && ") (l ∷ ls)

-- the text of a cube, without the end of its line
abbrev pub cube_text : Protocol → Cube → List ℕ
cube_text p c = codes "cube " ++ decimal c.width ++ codes ": " ++ lits_text p c.lits
