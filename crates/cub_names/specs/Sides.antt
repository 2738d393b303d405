-- Sides: names, cells and sums.
use Rattle.std.specs.Prelude.{◌≡◌, ℕ, ℤ, pos, ◌+ℤ◌, ◌-ℤ◌, unsigned_abs, Bool, true, false, ◌&&◌, ◌||◌, not, nat_lt, nat_le, if◌then◌else◌, List, [], ◌∷◌, ◌++◌, Option, Some, None}
use Rattle.cub_lexer.specs.declared.token.TokenKind.{TokenKind}
use Rattle.cub_lexer.specs.declared.token.TokenKind.TheVariants as k
use Rattle.cub_parse.specs.declared.tree.Leaf.{Leaf}
use Rattle.cub_parse.specs.declared.tree.SumNode.{SumNode}
use Rattle.cub_parse.specs.declared.tree.SumStep.{SumStep}
use Rattle.cub_parse.specs.declared.tree.PartNode.{PartNode}
use Rattle.cub_parse.specs.declared.tree.PartNode.TheVariants as parts
use Rattle.cub_proto.specs.declared.literal.Sort.{Sort}
use Rattle.cub_proto.specs.declared.literal.Term.{Term}
use Rattle.cub_proto.specs.declared.literal.PSide.{PSide}
use Rattle.cub_proto.specs.declared.literal.ISide.{ISide}
use Rattle.cub_proto.specs.declared.literal.ISide.TheVariants.{Zero, At}
use Rattle.cub_proto.specs.Signature.{Signature, constructors_of}
use Rattle.cub_proto.specs.Fits.{term_fits, process_side_fits, integer_side_fits}
use Rattle.cub_names.specs.declared.fault.TypeKind.TheVariants as t
use Rattle.cub_names.specs.declared.fault.Fault.{Fault}
use Rattle.cub_names.specs.declared.meaning.What.{What}
use Rattle.cub_names.specs.declared.scope.Local.{Local}
use Rattle.cub_names.specs.declared.sides.Side.{Side}
use Rattle.cub_names.specs.declared.sums.Summed.{Summed}
use Rattle.cub_names.specs.Checked.{Checked, fault, sound, refuse, ◌>>=◌}
use Rattle.cub_names.specs.Words.{word_of, amount_of}
use Rattle.cub_names.specs.Meaning.{Frame, stands_for}
use Rattle.cub_names.specs.Scope.{place_of}

abbrev pub sort_of_side : Side → Sort
sort_of_side (Side.Con sort c) = Sort.Fin sort
sort_of_side (Side.Fin sort term) = Sort.Fin sort
sort_of_side (Side.Proc side) = Sort.Proc
sort_of_side (Side.Int base add) = Sort.Int

-- a side is of what is declared, over places below the width, and its constant is within the limit
abbrev pub side_fits : Signature → ℕ → Side → Bool
side_fits sig width (Side.Con sort c) = nat_lt c (constructors_of sig (Sort.Fin sort))
side_fits sig width (Side.Fin sort term) = term_fits sig width (Sort.Fin sort) term
side_fits sig width (Side.Proc side) = process_side_fits sig width side
side_fits sig width (Side.Int base add) = integer_side_fits sig width base && nat_le (unsigned_abs add) 1000000000

-- the numbers of the side are small: a constructor's below 64, a constant at most 1,000,000,000 in size
abbrev pub is_small : Side → Bool
is_small (Side.Con sort c) = nat_lt c 64
is_small (Side.Fin sort term) = true
is_small (Side.Proc side) = true
is_small (Side.Int base add) = nat_le (unsigned_abs add) 1000000000

abbrev pub what_is_small : What → Bool
what_is_small (What.Con sort c) = nat_lt c 64
what_is_small (What.Global g sort) = true
what_is_small (What.Array a sort) = true

-- a global alone, by its sort
abbrev pub global_side : ℕ → Sort → Side
global_side g (Sort.Fin number) = Side.Fin number (Term.Global g)
global_side g Sort.Proc = Side.Proc (PSide.Global g)
global_side g Sort.Int = Side.Int (At (Term.Global g)) (pos 0)

-- the cell of an array at a place, by its sort; no declared array holds processes
abbrev pub cell_side : ℕ → ℕ → ℕ → Sort → Checked Side
cell_side token a place (Sort.Fin number) = sound (Side.Fin number (Term.Cell a place))
cell_side token a place Sort.Int = sound (Side.Int (At (Term.Cell a place)) (pos 0))
cell_side token a place Sort.Proc = refuse token t.T13

-- what a name that is no variable is by itself
abbrev pub plain_value : ℕ → Option What → Checked Side
plain_value token None = refuse token t.T01
plain_value token (Some (What.Con sort c)) = sound (Side.Con sort c)
plain_value token (Some (What.Global g sort)) = sound (global_side g sort)
plain_value token (Some (What.Array a sort)) = refuse token t.T13

-- a name without an index: a variable stands before all else
abbrev pub plain : ℕ → Option ℕ → Option What → Checked Side
plain token (Some place) what = sound (Side.Proc (PSide.Place place))
plain token None what = plain_value token what

-- an index: a variable, else T04 for a name of another kind and T01 for none
abbrev pub index_place : ℕ → Option ℕ → Option What → Checked ℕ
index_place token (Some place) what = sound place
index_place token None (Some w) = refuse token t.T04
index_place token None None = refuse token t.T01

-- a name with an index: an array at a place
abbrev pub indexed : ℕ → Option ℕ → Option What → Checked ℕ → Checked Side
indexed token (Some place) what index = refuse token t.T13
indexed token None None index = refuse token t.T01
indexed token None (Some (What.Con sort c)) index = refuse token t.T13
indexed token None (Some (What.Global g sort)) index = refuse token t.T13
indexed token None (Some (What.Array a sort)) index = index >>= λ place. cell_side token a place sort

abbrev pub what_at : Frame → Leaf → Option What
what_at frame leaf = stands_for frame.sig (word_of frame.text leaf)

module _ (frame : Frame) (scope : List Local) where
  abbrev pub place_at : Leaf → Option ℕ
  place_at leaf = place_of frame.text scope (word_of frame.text leaf)

  abbrev pub named : Leaf → Option Leaf → Checked Side
  named name None = plain name.number (place_at name) (what_at frame name)
  named name (Some index) =
      indexed name.number (place_at name) (what_at frame name) (index_place index.number (place_at index) (what_at frame index))

-- a constant is added, unless one of the sign and its own minus turns it
abbrev pub subtracts : TokenKind → Option Leaf → Bool
subtracts k.Minus None = true
subtracts k.Minus (Some minus) = false
subtracts sign None = false
subtracts sign (Some minus) = true

abbrev pub moved : ℤ → Bool → ℕ → ℤ
moved total true amount = total -ℤ pos amount
moved total false amount = total +ℤ pos amount

-- a sum so far, and the faults of a part of it
pub record Behind : Type 0 where
  pub summed : Summed
  pub faults : List Fault

abbrev pub start : Summed
start = record { base = Zero; total = pos 0; over = false; refused = false }

-- T15 at the first number with which the constants, summed from the left, are above the limit
abbrev pub with_total : Summed → ℕ → ℤ → Behind
with_total s token total =
    if nat_le (unsigned_abs total) 1000000000 then record { summed = record s { total = total }; faults = [] }
    else record { summed = record s { over = true }; faults = fault token t.T15 ∷ [] }

abbrev pub with_number : List ℕ → Summed → TokenKind → Option Leaf → Leaf → Behind
with_number text s sign minus number =
    if s.over then record { summed = s; faults = [] }
    else with_total s number.number (moved s.total (subtracts sign minus) (amount_of text number))

abbrev pub is_zero : ISide → Bool
is_zero Zero = true
is_zero (At term) = false

abbrev pub is_minus : TokenKind → Bool
is_minus k.Minus = true
is_minus sign = false

abbrev pub is_star : TokenKind → Bool
is_star k.Star = true
is_star sign = false

-- T05 for a second term, a term behind `-`, or a part that is no integer
abbrev pub with_term : Summed → Bool → ℕ → Side → Behind
with_term s minus token (Side.Int base add) =
    if minus || not (is_zero s.base) then record { summed = record s { refused = true }; faults = fault token t.T05 ∷ [] }
    else record { summed = record s { base = base }; faults = [] }
with_term s minus token side = record { summed = record s { refused = true }; faults = fault token t.T05 ∷ [] }

abbrev pub with_side : Summed → Bool → ℕ → Option Side → Behind
with_side s minus token None = record { summed = record s { refused = true }; faults = [] }
with_side s minus token (Some side) = with_term s minus token side

abbrev pub behind : List Fault → Behind → Behind
behind faults b = record { summed = b.summed; faults = faults ++ b.faults }

-- T06 for a product
abbrev pub with_sign : Summed → Leaf → Behind
with_sign s sign =
    if is_star sign.token.kind then record { summed = record s { refused = true }; faults = fault sign.number t.T06 ∷ [] }
    else record { summed = s; faults = [] }

module _ (frame : Frame) (scope : List Local) where
  abbrev pub with_part : Summed → TokenKind → PartNode → Behind
  with_part s sign (parts.Number minus number) = with_number frame.text s sign minus number
  with_part s sign (parts.Named name index) =
      behind (named frame scope name index).faults (with_side s (is_minus sign) name.number (named frame scope name index).value)

  abbrev pub with_step : Summed → SumStep → Behind
  with_step s step = behind (with_sign s step.sign).faults (with_part (with_sign s step.sign).summed step.sign.token.kind step.part)

  -- summed from the left
  abbrev pub with_steps : Summed → List SumStep → Behind
  with_steps s [] = record { summed = s; faults = [] }
  with_steps s (p ∷ ps) = behind (with_step s p).faults (with_steps (with_step s p).summed ps)

-- a sum in which no fault stands is an integer side
abbrev pub finished : Summed → Option Side
finished s = if s.refused || s.over then None else Some (Side.Int s.base s.total)

module _ (frame : Frame) (scope : List Local) where
  abbrev pub sum_of : PartNode → List SumStep → Behind
  sum_of first steps =
      behind (with_part frame scope start k.Plus first).faults (with_steps frame scope (with_part frame scope start k.Plus first).summed steps)

  abbrev pub summed : PartNode → List SumStep → Checked Side
  summed first steps = record { value = finished (sum_of first steps).summed; faults = (sum_of first steps).faults }

  -- a name alone is what it stands for, all else is a sum
  abbrev pub side_of : PartNode → List SumStep → Checked Side
  side_of (parts.Named name index) [] = named frame scope name index
  side_of first steps = summed first steps

  abbrev pub side : SumNode → Checked Side
  side node = side_of node.first node.steps
