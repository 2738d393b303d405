-- Two small pre-images, computed from the definitions: a literal that is false by itself and fails, and two picks of which
-- the second sees the new place of the first.
use Rattle.std.proofs.Common.{◌≡◌, ℕ, List, [], ◌∷◌, Some, None, refl}
use Rattle.std.specs.Prelude.{map}
use Rattle.cub_proto.specs.declared.literal.Sort.{Sort}
use Rattle.cub_proto.specs.declared.literal.Term.TheVariants as Term
use Rattle.cub_proto.specs.declared.literal.PSide.{PSide}
use Rattle.cub_proto.specs.declared.literal.Lit.{Lit}
use Rattle.cub_proto.specs.declared.literal.Lit.TheVariants.{FinIn, ProcEq, ProcNe}
use Rattle.cub_proto.specs.declared.literal.Value.{Value}
use Rattle.cub_proto.specs.declared.transition.Branch.{Branch}
use Rattle.cub_proto.specs.declared.transition.Target.TheVariants as Target
use Rattle.cub_proto.specs.declared.transition.Update.{Update}
use Rattle.cub_proto.specs.declared.transition.Transition.{Transition}
use Rattle.cub_proto.specs.declared.protocol.Decl.{Decl}
use Rattle.cub_proto.specs.declared.protocol.SortDecl.{SortDecl}
use Rattle.cub_proto.specs.Signature.{Signature, signature}
use Rattle.cub_cube.specs.Mentions.{terms_in}
use Rattle.updates.specs.declared.choice.Choice.{Choice}
use Rattle.piece_choices.specs.declared.piece.Label.{Label}
use Rattle.piece_choices.specs.declared.piece.Piece.{Piece}
use Rattle.piece_choices.specs.Selections.{selections}
use Rattle.piece_choices.specs.Conjunction.{piece_by}

-- a sort of two constructors, whatever their names
abbrev two : SortDecl
two = record { name = []; cons = [] ∷ [] ∷ [] }

abbrev decl : Sort → Decl
decl sort = record { name = []; sort = sort }

abbrev label : List ℕ → List ℕ → List Choice → Label
label params others choices = record { transition = 0; params = params; guard = 0; others = others; choices = choices }

abbrev piece : Label → ℕ → List Lit → Piece
piece its width lits = record { label = its; cube = record { width = width; lits = lits } }

-- ---- a literal that fails: the cell of process j takes Q where j is the parameter and the cell is P
abbrev cells : Signature
cells = signature (two ∷ []) [] (decl (Sort.Fin 0) ∷ [])

abbrev branch : Branch
branch = record { cond = ProcEq (PSide.Place 1) (PSide.Place 0) ∷ FinIn (Term.Cell 0 1) 1 ∷ []; value = Value.Con 1 }

abbrev own : Update
own = record { target = Target.Array 0; branches = branch ∷ []; last = Value.Read (Term.Cell 0 1) }

abbrev enter : Transition
enter = record { name = []; params = 1; guard = [] ∷ []; others = [] ∷ []; updates = own ∷ [] }

-- the cube: the cell at place 0 is Q
abbrev in_q : List Lit
in_q = FinIn (Term.Cell 0 0) 2 ∷ []

abbrev went : ℕ → List ℕ → List Choice
went n fails = (let c : Choice = record { term = Term.Cell 0 0; branch = n; fails = fails; pick = None } in c) ∷ []

abbrev is_p : Lit
is_p = FinIn (Term.Cell 0 0) 1

abbrev is_q : Lit
is_q = FinIn (Term.Cell 0 0) 2

-- with the parameter at place 0 the branch counts, or its first literal fails, which no state meets, or its second; with a
-- new place for it the branch counts, which no state meets, or its first literal fails and adds nothing, or its second
failing_pieces : map (piece_by cells 0 enter in_q) (selections cells enter 1 (terms_in in_q))
    ≡ piece (label (0 ∷ []) [] (went 0 [])) 1 (is_p ∷ [])
    ∷ piece (label (0 ∷ []) [] (went 1 (0 ∷ []))) 1 (is_q ∷ ProcNe (PSide.Place 0) (PSide.Place 0) ∷ [])
    ∷ piece (label (0 ∷ []) [] (went 1 (1 ∷ []))) 1 (is_q ∷ [])
    ∷ piece (label (1 ∷ []) (0 ∷ []) (went 0 [])) 2 (is_p ∷ ProcEq (PSide.Place 0) (PSide.Place 1) ∷ [])
    ∷ piece (label (1 ∷ []) (0 ∷ []) (went 1 (0 ∷ []))) 2 (is_q ∷ [])
    ∷ piece (label (1 ∷ []) (0 ∷ []) (went 1 (1 ∷ []))) 2 (is_q ∷ [])
    ∷ []
failing_pieces = refl

-- ---- picks: two process globals take any process
abbrev names : Signature
names = signature (two ∷ []) (decl Sort.Proc ∷ decl Sort.Proc ∷ []) []

abbrev any : ℕ → Update
any g = record { target = Target.Global g; branches = []; last = Value.Any }

abbrev move : Transition
move = record { name = []; params = 0; guard = [] ∷ []; others = [] ∷ []; updates = any 0 ∷ any 1 ∷ [] }

-- the cube: both name one process
abbrev same : List Lit
same = ProcEq (PSide.Global 0) (PSide.Global 1) ∷ []

abbrev picked : ℕ → PSide → Choice
picked g side = record { term = Term.Global g; branch = 0; fails = []; pick = Some (Value.Proc side) }

abbrev both : PSide → PSide → List Choice
both x y = picked 0 x ∷ picked 1 y ∷ []

-- each keeps its old value or takes a new place, and the second the new place of the first, or a further one, which is not
-- the same; the universal guard is asked at each new place
picked_pieces : map (piece_by names 0 move same) (selections names move 0 (terms_in same))
    ≡ piece (label [] [] (both (PSide.Global 0) (PSide.Global 1))) 0 (ProcEq (PSide.Global 0) (PSide.Global 1) ∷ [])
    ∷ piece (label [] (0 ∷ []) (both (PSide.Global 0) (PSide.Place 0))) 1 (ProcEq (PSide.Global 0) (PSide.Place 0) ∷ [])
    ∷ piece (label [] (0 ∷ []) (both (PSide.Place 0) (PSide.Global 1))) 1 (ProcEq (PSide.Global 1) (PSide.Place 0) ∷ [])
    ∷ piece (label [] (0 ∷ []) (both (PSide.Place 0) (PSide.Place 0))) 1 []
    ∷ piece (label [] (0 ∷ 0 ∷ []) (both (PSide.Place 0) (PSide.Place 1))) 2 (ProcEq (PSide.Place 0) (PSide.Place 1) ∷ [])
    ∷ []
picked_pieces = refl
