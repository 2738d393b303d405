-- What bytes with the form of a cube say: a cube, or nothing where they name what is not there, or pass a limit.
use Rattle.std.specs.Prelude.{ℕ, ◌-◌, ◌^◌, ℤ, Bool, true, false, ◌&&◌, ◌==◌, nat_lt, nat_le, unsigned_abs, if◌then◌else◌, List, [], ◌∷◌, ◌++◌, length, codes, bytes_eq, Option, Some, None, option_map, option_and_then}
use Rattle.std.specs.Int.Bits.{bit_or}
use Rattle.cub_proto.specs.declared.literal.Sort.{Sort}
use Rattle.cub_proto.specs.declared.literal.Term.{Term}
use Rattle.cub_proto.specs.declared.literal.PSide.{PSide}
use Rattle.cub_proto.specs.declared.literal.ISide.{ISide}
use Rattle.cub_proto.specs.declared.literal.ISide.TheVariants.{Zero, At}
use Rattle.cub_proto.specs.declared.literal.Lit.{Lit}
use Rattle.cub_proto.specs.declared.literal.Lit.TheVariants.{FinIn, FinEq, FinNe, ProcEq, ProcNe, Diff}
use Rattle.cub_proto.specs.declared.protocol.Decl.{Decl}
use Rattle.cub_proto.specs.declared.protocol.Protocol.{Protocol}
use Rattle.cub_proto.specs.Signature.{sort_of, is_sort, same_finite, declared_sort}
use Rattle.cub_proto.specs.Fits.{is_finite}
use Rattle.cub_proto.specs.StateOf.{signature_of}
use Rattle.cub_cube.specs.declared.cube.Cube.{Cube}
use Rattle.text_lines.specs.Number.{natural_of, integer_of}
use Rattle.text_lines.specs.Named.{number_of}
use Rattle.cube_text.specs.Text.{names_of_sort}
use Rattle.cube_text.specs.Form.{parted, is_and, before, onward, is_empty, is_place, is_true_word}

-- the greatest bound of a cube in a text
abbrev pub greatest_bound : ℕ
greatest_bound = 140000000000000

abbrev pub behind_first : List ℕ → List ℕ
behind_first [] = []
behind_first (b ∷ bs) = bs

-- a number counted from 1, up to the width
abbrev pub counted_to : ℕ → ℕ → Option ℕ
counted_to width n = if nat_lt 0 n && nat_le n width then Some (n - 1) else None

-- the place that `#1` names
abbrev pub place_in : ℕ → List ℕ → Option ℕ
place_in width word = option_and_then (counted_to width) (natural_of (behind_first word))

-- the declaration that a name names
abbrev pub declared_in : List Decl → List ℕ → Option ℕ
declared_in decls name =
    if nat_lt (number_of (λ d. d.name) decls name) (length decls) then Some (number_of (λ d. d.name) decls name) else None

abbrev pub cell_at : Option ℕ → ℕ → Option Term
cell_at None place = None
cell_at (Some a) place = Some (Term.Cell a place)

-- the term that `X` or `A[#1]` names
abbrev pub term_in : Protocol → ℕ → List ℕ → Option Term
term_in p width word =
    if is_empty (onward 91 word) then option_map Term.Global (declared_in p.globals word)
    else option_and_then (cell_at (declared_in p.arrays (before 91 word))) (place_in width (before 93 (behind_first (onward 91 word))))

-- a process global as a side, an integer term as one
abbrev pub as_process : Protocol → Term → Option PSide
as_process p (Term.Global g) = if is_sort (declared_sort p.globals g) Sort.Proc then Some (PSide.Global g) else None
as_process p (Term.Cell a i) = None

abbrev pub as_integer : Protocol → Term → Option ISide
as_integer p t = if is_sort (sort_of (signature_of p) t) Sort.Int then Some (At t) else None

-- a side of an equation of processes
abbrev pub process_in : Protocol → ℕ → List ℕ → Option PSide
process_in p width word =
    if is_place word then option_map PSide.Place (place_in width word) else option_and_then (as_process p) (term_in p width word)

-- a side of a difference
abbrev pub integer_side_in : Protocol → ℕ → List ℕ → Option ISide
integer_side_in p width word =
    if bytes_eq word (codes "0") then Some Zero else option_and_then (as_integer p) (term_in p width word)

-- an equation, and its negation
abbrev pub of_processes : Bool → PSide → PSide → Lit
of_processes true a b = ProcEq a b
of_processes false a b = ProcNe a b

abbrev pub of_finite : Bool → Term → Term → Lit
of_finite true a b = FinEq a b
of_finite false a b = FinNe a b

abbrev pub processes_in : Bool → Option PSide → Option PSide → Option Lit
processes_in same None b = None
processes_in same (Some a) None = None
processes_in same (Some a) (Some b) = Some (of_processes same a b)

-- the constructor of a sort that a name names
abbrev pub constructor_in : List (List ℕ) → List ℕ → Option ℕ
constructor_in names name = if nat_lt (number_of (λ n. n) names name) (length names) then Some (number_of (λ n. n) names name) else None

abbrev pub terms_in : Protocol → Bool → Term → Term → Option Lit
terms_in p same a b =
    if same_finite (sort_of (signature_of p) a) (sort_of (signature_of p) b) then Some (of_finite same a b) else None

-- a constructor or a term on the right of a finite term
abbrev pub finite_in : Protocol → ℕ → Bool → Term → List ℕ → Option ℕ → Option Lit
finite_in p width true a word (Some c) = Some (FinIn a (2 ^ c))
finite_in p width false a word (Some c) = None
finite_in p width same a word None = option_and_then (terms_in p same a) (term_in p width word)

abbrev pub equation_of : Protocol → ℕ → Bool → Term → List ℕ → Option Lit
equation_of p width same a word =
    if is_finite (sort_of (signature_of p) a)
    then finite_in p width same a word (constructor_in (names_of_sort p (sort_of (signature_of p) a)) word)
    else processes_in same (as_process p a) (process_in p width word)

abbrev pub equation_in : Protocol → ℕ → Bool → List ℕ → List ℕ → Option Lit
equation_in p width same a b =
    if is_place a then processes_in same (process_in p width a) (process_in p width b)
    else option_and_then (λ t. equation_of p width same t b) (term_in p width a)

-- the mask of the constructors that are named
abbrev pub mask_from : List (List ℕ) → ℕ → List (List ℕ) → Option ℕ
mask_from cons mask [] = Some mask
mask_from cons mask (name ∷ names) = option_and_then (λ c. mask_from cons (bit_or mask (2 ^ c)) names) (constructor_in cons name)

abbrev pub set_names : List ℕ → List (List ℕ)
set_names bytes = if is_empty bytes then [] else parted (λ b. b == 44) bytes

abbrev pub membership_of : Protocol → List ℕ → Term → Option Lit
membership_of p set t =
    if is_finite (sort_of (signature_of p) t)
    then option_map (λ mask. FinIn t mask) (mask_from (names_of_sort p (sort_of (signature_of p) t)) 0 (set_names (before 125 (behind_first set))))
    else None

abbrev pub bound_in : List ℕ → Option ℤ
bound_in word = option_and_then (λ z. if nat_le (unsigned_abs z) greatest_bound then Some z else None) (integer_of word)

abbrev pub difference_in : Option ISide → Option ISide → Option ℤ → Option Lit
difference_in None b bound = None
difference_in (Some a) None bound = None
difference_in (Some a) (Some b) None = None
difference_in (Some a) (Some b) (Some bound) = Some (Diff a b bound)

-- the literal that the words name
abbrev pub literal_in : Protocol → ℕ → List (List ℕ) → Option Lit
literal_in p width [] = None
literal_in p width (a ∷ []) = None
literal_in p width (a ∷ b ∷ []) = None
literal_in p width (a ∷ op ∷ b ∷ []) =
    if bytes_eq op (codes "in") then option_and_then (membership_of p b) (term_in p width a)
    else equation_in p width (bytes_eq op (codes "=")) a b
literal_in p width (a ∷ b ∷ c ∷ d ∷ []) = None
literal_in p width (a ∷ minus ∷ b ∷ most ∷ bound ∷ []) =
    difference_in (integer_side_in p width a) (integer_side_in p width b) (bound_in bound)
literal_in p width (a ∷ b ∷ c ∷ d ∷ e ∷ f ∷ gs) = None

abbrev pub literals_from : Protocol → ℕ → List Lit → List (List (List ℕ)) → Option (List Lit)
literals_from p width lits [] = Some lits
literals_from p width lits (group ∷ groups) = option_and_then (λ l. literals_from p width (lits ++ l ∷ []) groups) (literal_in p width group)

abbrev pub literals_in : Protocol → ℕ → List (List ℕ) → Option (List Lit)
literals_in p width words = if is_true_word words then Some [] else literals_from p width [] (parted is_and words)

abbrev pub width_in : ℕ → List ℕ → Option ℕ
width_in widest word = option_and_then (λ n. if nat_le n widest then Some n else None) (natural_of (before 58 word))

abbrev pub cube_of_width : Protocol → List (List ℕ) → ℕ → Option Cube
cube_of_width p words width = option_map (λ lits. record { width = width; lits = lits }) (literals_in p width words)

-- the cube that the words name, of at most that width
abbrev pub cube_in : Protocol → ℕ → List (List ℕ) → Option Cube
cube_in p widest [] = None
cube_in p widest (c ∷ []) = None
cube_in p widest (c ∷ width ∷ words) = option_and_then (cube_of_width p words) (width_in widest width)
