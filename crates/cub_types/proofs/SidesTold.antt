-- Sides are there, or a fault says why not.
use Rattle.std.proofs.Common.{◌≡◌, ℕ, ℤ, Bool, true, false, ◌||◌, not, List, [], ◌∷◌, ◌++◌, Option, Some, None, refl, sym, true≢false}
use Rattle.std.specs.Prelude.{if◌then◌else◌, nat_le, unsigned_abs}
use Rattle.cub_lexer.specs.declared.token.TokenKind.{TokenKind}
use Rattle.cub_lexer.specs.declared.token.TokenKind.TheVariants as k
use Rattle.cub_parse.specs.declared.tree.Leaf.{Leaf}
use Rattle.cub_parse.specs.declared.tree.SumNode.{SumNode}
use Rattle.cub_parse.specs.declared.tree.SumStep.{SumStep}
use Rattle.cub_parse.specs.declared.tree.PartNode.{PartNode}
use Rattle.cub_parse.specs.declared.tree.PartNode.TheVariants as parts
use Rattle.cub_proto.specs.declared.literal.Sort.{Sort}
use Rattle.cub_names.specs.declared.fault.Fault.{Fault}
use Rattle.cub_names.specs.declared.meaning.What.{What}
use Rattle.cub_names.specs.declared.scope.Local.{Local}
use Rattle.cub_names.specs.declared.sides.Side.{Side}
use Rattle.cub_names.specs.declared.sums.Summed.{Summed}
use Rattle.cub_names.specs.Checked.{Checked, IsTold, is_there, has_value, fault}
use Rattle.cub_names.specs.declared.fault.TypeKind.TheVariants as t
use Rattle.cub_names.specs.Meaning.{Frame}
use Rattle.cub_names.specs.Sides.{global_side, cell_side, plain_value, plain, index_place, indexed, named, place_at, what_at, Behind, start, moved, subtracts, with_total, with_number, is_star, is_minus, is_zero, with_term, with_side, with_sign, with_part, with_step, with_steps, behind, finished, sum_of, summed, side_of, side}
use Rattle.cub_names.specs.Words.{amount_of}
use Rattle.cub_types.proofs.Told.{told_then}

cell_told : (token a place : ℕ) (sort : Sort) → IsTold (cell_side token a place sort)
cell_told token a place (Sort.Fin n) = refl
cell_told token a place Sort.Proc = refl
cell_told token a place Sort.Int = refl

value_told : (token : ℕ) (what : Option What) → IsTold (plain_value token what)
value_told token None = refl
value_told token (Some (What.Con sort c)) = refl
value_told token (Some (What.Global g sort)) = refl
value_told token (Some (What.Array a sort)) = refl

plain_told : (token : ℕ) (place : Option ℕ) (what : Option What) → IsTold (plain token place what)
plain_told token (Some place) what = refl
plain_told token None what = value_told token what

index_told : (token : ℕ) (place : Option ℕ) (what : Option What) → IsTold (index_place token place what)
index_told token (Some place) what = refl
index_told token None (Some w) = refl
index_told token None None = refl

indexed_told : (token : ℕ) (place : Option ℕ) (what : Option What) (index : Checked ℕ) → IsTold index → IsTold (indexed token place what index)
indexed_told token (Some place) what index h = refl
indexed_told token None None index h = refl
indexed_told token None (Some (What.Con sort c)) index h = refl
indexed_told token None (Some (What.Global g sort)) index h = refl
indexed_told token None (Some (What.Array a sort)) index h = told_then index (λ place. cell_side token a place sort) h (λ place. cell_told token a place sort)

pub named_told : (frame : Frame) (scope : List Local) (name : Leaf) (index : Option Leaf) → IsTold (named frame scope name index)
named_told frame scope name None = plain_told name.number (place_at frame scope name) (what_at frame name)
named_told frame scope name (Some index) =
    indexed_told name.number (place_at frame scope name) (what_at frame name) (index_place index.number (place_at frame scope index) (what_at frame index))
    (index_told index.number (place_at frame scope index) (what_at frame index))

-- a sum in which a fault was found
abbrev bad : Summed → Bool
bad s = s.refused || s.over

-- a part makes a sum bad only with a fault
abbrev Fair : Summed → Behind → Type 0
Fair s b = (not (bad b.summed) || (bad s || is_there b.faults)) ≡ true

fair_same : (b : Bool) → (not b || (b || false)) ≡ true
fair_same true = refl
fair_same false = refl

fair_told : (a b : Bool) → (not a || (b || true)) ≡ true
fair_told true true = refl
fair_told true false = refl
fair_told false b = refl

chain : (c b s t : Bool) → (not c || (b || t)) ≡ true → (not b || (s || false)) ≡ true → (not c || (s || t)) ≡ true
chain false b s t h k = refl
chain true true true t h k = refl
chain true true false t h k = absurd (true≢false (sym k))
chain true false true t h k = refl
chain true false false t h k = h

fair_more : (faults : List Fault) (s : Summed) (b : Behind) → Fair s b → Fair s (behind faults b)
fair_more [] s b h = h
fair_more (f ∷ fs) s b h = fair_told (bad b.summed) (bad s)

-- one part behind another
fair_chain : (s : Summed) (m : Summed) (fs : List Fault) (c : Behind) → (not (bad m) || (bad s || is_there fs)) ≡ true → Fair m c → Fair s (behind fs c)
fair_chain s m [] c h k = chain (bad c.summed) (bad m) (bad s) (is_there c.faults) k h
fair_chain s m (f ∷ fs) c h k = fair_told (bad c.summed) (bad s)

total_fair : (s : Summed) (token : ℕ) (total : ℤ) → Fair s (with_total s token total)
total_fair s token total =
    elim (nat_le (unsigned_abs total) 1000000000)
    as (λ b. Fair s (if b then record { summed = record s { total = total }; faults = [] } else record { summed = record s { over = true }; faults = fault token t.T15 ∷ [] }))
    [ true ↦ fair_same (bad s) | false ↦ fair_told (s.refused || true) (bad s) ]

number_fair : (text : List ℕ) (s : Summed) (sign : TokenKind) (minus : Option Leaf) (number : Leaf) → Fair s (with_number text s sign minus number)
number_fair text s sign minus number =
    elim s.over
    as (λ b. Fair s (if b then record { summed = s; faults = [] } else with_total s number.number (moved s.total (subtracts sign minus) (amount_of text number))))
    [ true ↦ fair_same (bad s) | false ↦ total_fair s number.number (moved s.total (subtracts sign minus) (amount_of text number)) ]

term_fair : (s : Summed) (minus : Bool) (token : ℕ) (side : Side) → Fair s (with_term s minus token side)
term_fair s minus token (Side.Int base add) =
    elim (minus || not (is_zero s.base))
    as (λ b. Fair s (if b then record { summed = record s { refused = true }; faults = fault token t.T05 ∷ [] } else record { summed = record s { base = base }; faults = [] }))
    [ true ↦ fair_told true (bad s) | false ↦ fair_same (bad s) ]
term_fair s minus token (Side.Con sort c) = fair_told true (bad s)
term_fair s minus token (Side.Fin sort term) = fair_told true (bad s)
term_fair s minus token (Side.Proc p) = fair_told true (bad s)

side_fair : (s : Summed) (minus : Bool) (token : ℕ) (value : Option Side) (faults : List Fault) → (has_value value || is_there faults) ≡ true
    → Fair s (behind faults (with_side s minus token value))
side_fair s minus token None [] h = absurd (true≢false (sym h))
side_fair s minus token None (f ∷ fs) h = fair_told true (bad s)
side_fair s minus token (Some a) faults h = fair_more faults s (with_term s minus token a) (term_fair s minus token a)

sign_fair : (s : Summed) (sign : Leaf) → Fair s (with_sign s sign)
sign_fair s sign =
    elim (is_star sign.token.kind)
    as (λ b. Fair s (if b then record { summed = record s { refused = true }; faults = fault sign.number t.T06 ∷ [] } else record { summed = s; faults = [] }))
    [ true ↦ fair_told true (bad s) | false ↦ fair_same (bad s) ]

module _ (frame : Frame) (scope : List Local) where
  part_fair : (s : Summed) (sign : TokenKind) (part : PartNode) → Fair s (with_part frame scope s sign part)
  part_fair s sign (parts.Number minus number) = number_fair frame.text s sign minus number
  part_fair s sign (parts.Named name index) =
      side_fair s (is_minus sign) name.number (named frame scope name index).value (named frame scope name index).faults (named_told frame scope name index)

  step_fair : (s : Summed) (step : SumStep) → Fair s (with_step frame scope s step)
  step_fair s step =
      fair_chain s (with_sign s step.sign).summed (with_sign s step.sign).faults (with_part frame scope (with_sign s step.sign).summed step.sign.token.kind step.part)
      (sign_fair s step.sign) (part_fair (with_sign s step.sign).summed step.sign.token.kind step.part)

  steps_fair : (s : Summed) (steps : List SumStep) → Fair s (with_steps frame scope s steps)
  steps_fair s [] = fair_same (bad s)
  steps_fair s (p ∷ ps) =
      fair_chain s (with_step frame scope s p).summed (with_step frame scope s p).faults (with_steps frame scope (with_step frame scope s p).summed ps)
      (step_fair s p) (steps_fair (with_step frame scope s p).summed ps)

  sum_fair : (first : PartNode) (steps : List SumStep) → Fair start (sum_of frame scope first steps)
  sum_fair first steps =
      fair_chain start (with_part frame scope start k.Plus first).summed (with_part frame scope start k.Plus first).faults (with_steps frame scope (with_part frame scope start k.Plus first).summed steps)
      (part_fair start k.Plus first) (steps_fair (with_part frame scope start k.Plus first).summed steps)

told_finished : (s : Summed) (faults : List Fault) → (not (bad s) || (false || is_there faults)) ≡ true → (has_value (finished s) || is_there faults) ≡ true
told_finished s faults = elim (bad s) as (λ b. (not b || (false || is_there faults)) ≡ true → (has_value (if b then None else Some (Side.Int s.base s.total)) || is_there faults) ≡ true)
    [ true ↦ λ h. h | false ↦ λ h. refl ]

pub side_told : (frame : Frame) (scope : List Local) (node : SumNode) → IsTold (side frame scope node)
side_told frame scope node = by node.first node.steps
  where
    by : (first : PartNode) (steps : List SumStep) → IsTold (side_of frame scope first steps)
    by (parts.Named name index) [] = named_told frame scope name index
    by (parts.Named name index) (p ∷ ps) = told_finished (sum_of frame scope (parts.Named name index) (p ∷ ps)).summed (sum_of frame scope (parts.Named name index) (p ∷ ps)).faults (sum_fair frame scope (parts.Named name index) (p ∷ ps))
    by (parts.Number minus number) steps = told_finished (sum_of frame scope (parts.Number minus number) steps).summed (sum_of frame scope (parts.Number minus number) steps).faults (sum_fair frame scope (parts.Number minus number) steps)
