-- Formulas: relations of sides, sides alone, and what is joined from them.
use Rattle.std.specs.Prelude.{◌≡◌, ℕ, ◌^◌, ℤ, pos, ◌-ℤ◌, int_le, Bool, true, false, ◌&&◌, ◌||◌, not, ◌==◌, nat_lt, if◌then◌else◌, List, [], ◌∷◌, ◌++◌, map, Option, Some, None}
use Rattle.std.specs.Ordering.{int_eq}
use Rattle.std.specs.declared.cmp.Ordering.{Ordering}
use Rattle.std.specs.declared.cmp.Ordering.TheVariants.{Less, Equal, Greater}
use Rattle.cub_lexer.specs.declared.token.TokenKind.{TokenKind}
use Rattle.cub_lexer.specs.declared.token.TokenKind.TheVariants as k
use Rattle.cub_parse.specs.declared.tree.Leaf.{Leaf}
use Rattle.cub_parse.specs.declared.tree.SumNode.{SumNode}
use Rattle.cub_parse.specs.declared.tree.PartNode.{PartNode}
use Rattle.cub_parse.specs.declared.tree.PartNode.TheVariants as parts
use Rattle.cub_parse.specs.declared.tree.FormNode.{FormNode}
use Rattle.cub_parse.specs.declared.tree.FormNode.TheOpen.{FormNode-F}
use Rattle.cub_parse.specs.declared.tree.FormNode.TheFolds.{fold-FormNode}
use Rattle.cub_proto.specs.declared.literal.Sort.{Sort}
use Rattle.cub_proto.specs.declared.literal.Term.{Term}
use Rattle.cub_proto.specs.declared.literal.PSide.{PSide}
use Rattle.cub_proto.specs.declared.literal.ISide.{ISide}
use Rattle.cub_proto.specs.declared.literal.ISide.TheVariants.{Zero, At}
use Rattle.cub_proto.specs.declared.literal.Lit.{Lit}
use Rattle.cub_proto.specs.declared.literal.Lit.TheVariants.{FinIn, FinEq, ProcEq, Diff}
use Rattle.cub_proto.specs.Signature.{same_sort}
use Rattle.cub_proto.specs.Order.{term_cmp, process_side_cmp}
use Rattle.cub_proto.specs.Fits.{sides_alike}
use Rattle.cub_dnf.specs.declared.formula.Formula.{Formula}
use Rattle.cub_dnf.specs.declared.formula.Formula.TheVariants as f
use Rattle.cub_names.specs.declared.fault.TypeKind.TheVariants as t
use Rattle.cub_names.specs.declared.scope.Local.{Local}
use Rattle.cub_names.specs.declared.sides.Side.{Side}
use Rattle.cub_names.specs.Checked.{Checked, fault, sound, refuse, both, each, made, ◌>>=◌}
use Rattle.cub_names.specs.Meaning.{Frame}
use Rattle.cub_names.specs.Sides.{sort_of_side, side}

abbrev pub is_greater : Ordering → Bool
is_greater Less = false
is_greater Equal = false
is_greater Greater = true

-- equal terms, the smaller first
abbrev pub same_terms : Term → Term → Lit
same_terms a b = if is_greater (term_cmp a b) then FinEq b a else FinEq a b

abbrev pub same_processes : PSide → PSide → Lit
same_processes a b = if is_greater (process_side_cmp a b) then ProcEq b a else ProcEq a b

-- constants are compared at once
abbrev pub same_integers : ISide → ℤ → ISide → ℤ → Formula
same_integers Zero c Zero d = f.Const (int_eq c d)
same_integers Zero c (At u) d = f.IntEq Zero (At u) (d -ℤ c)
same_integers (At t) c b d = f.IntEq (At t) b (d -ℤ c)

-- `a = b` for sides of one sort; a constructor is a mask of one
abbrev pub equal : Side → Side → Formula
equal (Side.Con s c) (Side.Con r d) = f.Const (c == d)
equal (Side.Con s c) (Side.Fin r u) = f.One (FinIn u (2 ^ c))
equal (Side.Fin s t) (Side.Con r d) = f.One (FinIn t (2 ^ d))
equal (Side.Fin s t) (Side.Fin r u) = f.One (same_terms t u)
equal (Side.Proc p) (Side.Proc q) = f.One (same_processes p q)
equal (Side.Int a c) (Side.Int b d) = same_integers a c b d
equal a b = f.Const false

-- `a + c <= b + d`, or `<` with the bound lowered by 1
abbrev pub within : ISide → ISide → ℤ → Formula
within Zero Zero bound = f.Const (int_le (pos 0) bound)
within Zero (At u) bound = f.One (Diff Zero (At u) bound)
within (At t) b bound = f.One (Diff (At t) b bound)

abbrev pub lowered : Bool → ℤ → ℤ
lowered true bound = bound -ℤ pos 1
lowered false bound = bound

abbrev pub at_most : Bool → Side → Side → Formula
at_most strict (Side.Int a c) (Side.Int b d) = within a b (lowered strict (d -ℤ c))
at_most strict a b = f.Const false

-- `>` and `>=` change the sides
abbrev pub ordered : TokenKind → Side → Side → Formula
ordered k.Less a b = at_most true a b
ordered k.LessOrEqual a b = at_most false a b
ordered k.Greater a b = at_most true b a
ordered sign a b = at_most false b a

abbrev pub equated : TokenKind → Side → Side → Formula
equated k.NotEqual a b = f.Not (equal a b)
equated sign a b = equal a b

abbrev pub is_order : TokenKind → Bool
is_order k.Equal = false
is_order k.NotEqual = false
is_order sign = true

-- a process global beside a variable
abbrev pub mixes : Side → Side → Bool
mixes (Side.Proc p) (Side.Proc q) = not (sides_alike p q)
mixes a b = false

-- T03 for two sorts, T07 for an order that is none of integers, T08 in `init` for a global beside the variable
abbrev pub compared : Bool → ℕ → TokenKind → Side → Side → Checked Formula
compared init token sign a b =
    if not (same_sort (sort_of_side a) (sort_of_side b)) then refuse token t.T03 else (
    if is_order sign then (if same_sort (sort_of_side a) Sort.Int then sound (ordered sign a b) else refuse token t.T07) else (
    if init && mixes a b then refuse token t.T08 else sound (equated sign a b)))

-- a boolean side alone stands for `side = True`
abbrev pub alone : ℕ → Side → Checked Formula
alone token a = if same_sort (sort_of_side a) (Sort.Fin 0) then sound (equal a (Side.Con 0 1)) else refuse token t.T11

abbrev pub first_of_part : PartNode → ℕ
first_of_part (parts.Number None number) = number.number
first_of_part (parts.Number (Some minus) number) = minus.number
first_of_part (parts.Named name index) = name.number

-- the first token of a sum
abbrev pub first_token : SumNode → ℕ
first_token sum = first_of_part sum.first

module _ (frame : Frame) (scope : List Local) where
  abbrev pub side_alone : SumNode → Checked Formula
  side_alone sum = side frame scope sum >>= λ a. alone (first_token sum) a

  abbrev pub related : Bool → SumNode → Leaf → SumNode → Checked Formula
  related init a sign b =
      both (side frame scope a) (side frame scope b) >>= λ (p : Side × Side). compared init sign.number sign.token.kind p.0 p.1

-- a formula; `forall_other` is allowed nowhere in it, and nothing in one is looked at
abbrev pub form_step : Bool → Frame → List Local → FormNode-F (Checked Formula) → Checked Formula
form_step init frame scope (FormNode-F.Or nodes) = made f.Any (each nodes)
form_step init frame scope (FormNode-F.And nodes) = made f.All (each nodes)
form_step init frame scope (FormNode-F.Not node) = made f.Not node
form_step init frame scope (FormNode-F.Group node) = node
form_step init frame scope (FormNode-F.Forall word name body) = refuse word.number t.T10
form_step init frame scope (FormNode-F.Side sum) = side_alone frame scope sum
form_step init frame scope (FormNode-F.Rel a sign b) = related frame scope init a sign b

abbrev pub form : Bool → Frame → List Local → FormNode → Checked Formula
form init frame scope = fold-FormNode (Checked Formula) (form_step init frame scope)
