-- Each side is of what is declared, over the places of its scope, and its constant is within the limit.
use Rattle.std.proofs.Common.{◌≡◌, ℕ, ℤ, pos, Bool, true, false, List, [], ◌∷◌, Option, Some, None, refl, bytes_eq, nat_lt, nat_le}
use Rattle.std.specs.Prelude.{if◌then◌else◌, IfSome, ◌&&◌, ◌||◌, not, unsigned_abs}
use Rattle.cub_base.proofs.Bools.{and_left, and_right, and_both}
use Rattle.cub_lexer.specs.declared.token.TokenKind.{TokenKind}
use Rattle.cub_lexer.specs.declared.token.TokenKind.TheVariants as k
use Rattle.cub_parse.specs.declared.tree.Leaf.{Leaf}
use Rattle.cub_parse.specs.declared.tree.SumNode.{SumNode}
use Rattle.cub_parse.specs.declared.tree.SumStep.{SumStep}
use Rattle.cub_parse.specs.declared.tree.PartNode.{PartNode}
use Rattle.cub_parse.specs.declared.tree.PartNode.TheVariants as parts
use Rattle.cub_proto.specs.declared.literal.Sort.{Sort}
use Rattle.cub_proto.specs.declared.literal.ISide.{ISide}
use Rattle.cub_proto.specs.Signature.{Signature, is_sort, declared_sort}
use Rattle.cub_proto.specs.Fits.{integer_side_fits}
use Rattle.cub_names.specs.declared.fault.TypeKind.TheVariants as t
use Rattle.cub_names.specs.declared.meaning.What.{What}
use Rattle.cub_names.specs.declared.scope.Local.{Local}
use Rattle.cub_names.specs.declared.sides.Side.{Side}
use Rattle.cub_names.specs.declared.sums.Summed.{Summed}
use Rattle.cub_names.specs.Checked.{Checked, fault, where_known, ◌>>=◌}
use Rattle.cub_names.specs.Words.{word_of, amount_of}
use Rattle.cub_names.specs.Meaning.{Frame, what_fits}
use Rattle.cub_names.specs.Scope.{place_of, scope_fits}
use Rattle.cub_names.specs.Sides.{side_fits, global_side, cell_side, plain_value, plain, index_place, indexed, named, place_at, what_at, Behind, start, moved, subtracts, with_total, with_number, is_zero, is_minus, is_star, with_term, with_side, with_sign, with_part, with_step, with_steps, finished, sum_of, summed, side_of, side}
use Rattle.cub_names.proofs.StandsFits.{stands_fits}

-- what holds of what a test is given holds of what it makes
known_then : {A B : Type 0} (P : A → Type 0) (Q : B → Type 0) (value : Option A) (test : A → Checked B) → IfSome value P → ((a : A) → P a → IfSome (test a).value Q)
    → IfSome (where_known value test).value Q
known_then P Q None test h each = tt
known_then P Q (Some a) test h each = each a h

pub fits_then : {A B : Type 0} (P : A → Type 0) (Q : B → Type 0) (x : Checked A) (test : A → Checked B) → IfSome x.value P → ((a : A) → P a → IfSome (test a).value Q)
    → IfSome (x >>= test).value Q
fits_then P Q x test h each = known_then P Q x.value test h each

place_by : (width place : ℕ) (b : Bool) (later : Option ℕ) → nat_lt place width ≡ true → IfSome later (λ p. nat_lt p width ≡ true) → IfSome (if b then Some place else later) (λ p. nat_lt p width ≡ true)
place_by width place true later h k = h
place_by width place false later h k = k

-- a variable that is found has a place of the scope
pub place_fits_scope : (text : List ℕ) (width : ℕ) (scope : List Local) (word : List ℕ) → scope_fits width scope ≡ true → IfSome (place_of text scope word) (λ p. nat_lt p width ≡ true)
place_fits_scope text width [] word h = tt
place_fits_scope text width (l ∷ ls) word h =
    place_by width l.place (bytes_eq (word_of text l.name) word) (place_of text ls word)
    (and_left (nat_lt l.place width) (scope_fits width ls) h) (place_fits_scope text width ls word (and_right (nat_lt l.place width) (scope_fits width ls) h))

module _ (sig : Signature) (width : ℕ) where
  abbrev Fits : Option Side → Type 0
  Fits value = IfSome value (λ a. side_fits sig width a ≡ true)

  abbrev Below : Option ℕ → Type 0
  Below place = IfSome place (λ p. nat_lt p width ≡ true)

  abbrev Known : Option What → Type 0
  Known what = IfSome what (λ w. what_fits sig w ≡ true)

  global_fits : (g : ℕ) (sort : Sort) → is_sort (declared_sort sig.globals g) sort ≡ true → side_fits sig width (global_side g sort) ≡ true
  global_fits g (Sort.Fin n) h = and_both (is_sort (declared_sort sig.globals g) (Sort.Fin n)) true h refl
  global_fits g Sort.Proc h = h
  global_fits g Sort.Int h =
      let sorted = is_sort (declared_sort sig.globals g) Sort.Int in
      and_both (sorted && true) (nat_le (unsigned_abs (pos 0)) 1000000000) (and_both sorted true h refl) refl

  cell_fits : (token a place : ℕ) (sort : Sort) → is_sort (declared_sort sig.arrays a) sort ≡ true → nat_lt place width ≡ true → Fits (cell_side token a place sort).value
  cell_fits token a place (Sort.Fin n) h below = and_both (is_sort (declared_sort sig.arrays a) (Sort.Fin n)) (nat_lt place width) h below
  cell_fits token a place Sort.Proc h below = tt
  cell_fits token a place Sort.Int h below =
      let sorted = is_sort (declared_sort sig.arrays a) Sort.Int in
      and_both (sorted && nat_lt place width) (nat_le (unsigned_abs (pos 0)) 1000000000) (and_both sorted (nat_lt place width) h below) refl

  value_fits : (token : ℕ) (what : Option What) → Known what → Fits (plain_value token what).value
  value_fits token None h = tt
  value_fits token (Some (What.Con sort c)) h = h
  value_fits token (Some (What.Global g sort)) h = global_fits g sort h
  value_fits token (Some (What.Array a sort)) h = tt

  plain_fits : (token : ℕ) (place : Option ℕ) (what : Option What) → Below place → Known what → Fits (plain token place what).value
  plain_fits token (Some place) what below h = below
  plain_fits token None what below h = value_fits token what h

  index_fits : (token : ℕ) (place : Option ℕ) (what : Option What) → Below place → Below (index_place token place what).value
  index_fits token (Some place) what below = below
  index_fits token None (Some w) below = tt
  index_fits token None None below = tt

  indexed_fits : (token : ℕ) (place : Option ℕ) (what : Option What) (index : Checked ℕ) → Known what → Below index.value → Fits (indexed token place what index).value
  indexed_fits token (Some place) what index h below = tt
  indexed_fits token None None index h below = tt
  indexed_fits token None (Some (What.Con sort c)) index h below = tt
  indexed_fits token None (Some (What.Global g sort)) index h below = tt
  indexed_fits token None (Some (What.Array a sort)) index h below =
      fits_then (λ p. nat_lt p width ≡ true) (λ a. side_fits sig width a ≡ true) index (λ place. cell_side token a place sort) below (λ place in_width. cell_fits token a place sort h in_width)

  -- a sum so far: its term is of the signature, and its constant is within the limit
  abbrev Good : Summed → Type 0
  Good s = (integer_side_fits sig width s.base && nat_le (unsigned_abs s.total) 1000000000) ≡ true

  abbrev GoodBehind : Behind → Type 0
  GoodBehind b = Good b.summed

  total_by : (s : Summed) (token : ℕ) (total : ℤ) (b : Bool) → nat_le (unsigned_abs total) 1000000000 ≡ b → Good s
      → GoodBehind (if b then record { summed = record s { total = total }; faults = [] } else record { summed = record s { over = true }; faults = fault token t.T15 ∷ [] })
  total_by s token total true small h = and_both (integer_side_fits sig width s.base) (nat_le (unsigned_abs total) 1000000000) (and_left (integer_side_fits sig width s.base) (nat_le (unsigned_abs s.total) 1000000000) h) small
  total_by s token total false small h = h

  total_good : (s : Summed) (token : ℕ) (total : ℤ) → Good s → Good (with_total s token total).summed
  total_good s token total h = total_by s token total (nat_le (unsigned_abs total) 1000000000) refl h

  number_by : (s : Summed) (b : Bool) (new : Behind) → Good s → Good new.summed → GoodBehind (if b then record { summed = s; faults = [] } else new)
  number_by s true new h k = h
  number_by s false new h k = k

  number_good : (text : List ℕ) (s : Summed) (sign : TokenKind) (minus : Option Leaf) (number : Leaf) → Good s → Good (with_number text s sign minus number).summed
  number_good text s sign minus number h =
      let total = moved s.total (subtracts sign minus) (amount_of text number) in
      number_by s s.over (with_total s number.number total) h (total_good s number.number total h)

  term_by : (s : Summed) (token : ℕ) (base : ISide) (b : Bool) → Good s → integer_side_fits sig width base ≡ true
      → GoodBehind (if b then record { summed = record s { refused = true }; faults = fault token t.T05 ∷ [] } else record { summed = record s { base = base }; faults = [] })
  term_by s token base true h k = h
  term_by s token base false h k =
      and_both (integer_side_fits sig width base) (nat_le (unsigned_abs s.total) 1000000000) k (and_right (integer_side_fits sig width s.base) (nat_le (unsigned_abs s.total) 1000000000) h)

  term_good : (s : Summed) (minus : Bool) (token : ℕ) (a : Side) → Good s → side_fits sig width a ≡ true → Good (with_term s minus token a).summed
  term_good s minus token (Side.Int base add) h k =
      term_by s token base (minus || not (is_zero s.base)) h (and_left (integer_side_fits sig width base) (nat_le (unsigned_abs add) 1000000000) k)
  term_good s minus token (Side.Con sort c) h k = h
  term_good s minus token (Side.Fin sort term) h k = h
  term_good s minus token (Side.Proc p) h k = h

  side_good : (s : Summed) (minus : Bool) (token : ℕ) (value : Option Side) → Good s → Fits value → Good (with_side s minus token value).summed
  side_good s minus token None h k = h
  side_good s minus token (Some a) h k = term_good s minus token a h k

  sign_by : (s : Summed) (sign : Leaf) (b : Bool) → Good s
      → GoodBehind (if b then record { summed = record s { refused = true }; faults = fault sign.number t.T06 ∷ [] } else record { summed = s; faults = [] })
  sign_by s sign true h = h
  sign_by s sign false h = h

  sign_good : (s : Summed) (sign : Leaf) → Good s → Good (with_sign s sign).summed
  sign_good s sign h = sign_by s sign (is_star sign.token.kind) h

  finished_by : (s : Summed) (b : Bool) → Good s → Fits (if b then None else Some (Side.Int s.base s.total))
  finished_by s true h = tt
  finished_by s false h = h

  finished_fits : (s : Summed) → Good s → Fits (finished s)
  finished_fits s h = finished_by s (s.refused || s.over) h

module _ (frame : Frame) (scope : List Local) (width : ℕ) (within : scope_fits width scope ≡ true) where
  abbrev Fine : Summed → Type 0
  Fine s = Good frame.sig width s

  named_fits : (name : Leaf) (index : Option Leaf) → Fits frame.sig width (named frame scope name index).value
  named_fits name None =
      plain_fits frame.sig width name.number (place_at frame scope name) (what_at frame name)
      (place_fits_scope frame.text width scope (word_of frame.text name) within) (stands_fits frame.sig (word_of frame.text name))
  named_fits name (Some index) =
      let at = index_place index.number (place_at frame scope index) (what_at frame index) in
      indexed_fits frame.sig width name.number (place_at frame scope name) (what_at frame name) at (stands_fits frame.sig (word_of frame.text name))
      (index_fits frame.sig width index.number (place_at frame scope index) (what_at frame index) (place_fits_scope frame.text width scope (word_of frame.text index) within))

  part_good : (s : Summed) (sign : TokenKind) (part : PartNode) → Fine s → Fine (with_part frame scope s sign part).summed
  part_good s sign (parts.Number minus number) h = number_good frame.sig width frame.text s sign minus number h
  part_good s sign (parts.Named name index) h =
      side_good frame.sig width s (is_minus sign) name.number (named frame scope name index).value h (named_fits name index)

  step_good : (s : Summed) (step : SumStep) → Fine s → Fine (with_step frame scope s step).summed
  step_good s step h = part_good (with_sign s step.sign).summed step.sign.token.kind step.part (sign_good frame.sig width s step.sign h)

  steps_good : (s : Summed) (steps : List SumStep) → Fine s → Fine (with_steps frame scope s steps).summed
  steps_good s [] h = h
  steps_good s (p ∷ ps) h = steps_good (with_step frame scope s p).summed ps (step_good s p h)

  sum_good : (first : PartNode) (steps : List SumStep) → Fine (sum_of frame scope first steps).summed
  sum_good first steps = steps_good (with_part frame scope start k.Plus first).summed steps (part_good start k.Plus first refl)

  summed_fits : (first : PartNode) (steps : List SumStep) → Fits frame.sig width (summed frame scope first steps).value
  summed_fits first steps = finished_fits frame.sig width (sum_of frame scope first steps).summed (sum_good first steps)

  by_parts : (first : PartNode) (steps : List SumStep) → Fits frame.sig width (side_of frame scope first steps).value
  by_parts (parts.Named name index) [] = named_fits name index
  by_parts (parts.Named name index) (p ∷ ps) = summed_fits (parts.Named name index) (p ∷ ps)
  by_parts (parts.Number minus number) steps = summed_fits (parts.Number minus number) steps

  pub side_is_fit : (node : SumNode) → IfSome (side frame scope node).value (λ a. side_fits frame.sig width a ≡ true)
  side_is_fit node = by_parts node.first node.steps
