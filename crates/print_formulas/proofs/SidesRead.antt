-- The sides of a printed formula are read as what they were printed from.
use Rattle.std.proofs.Common.{◌≡◌, ℕ, zero, suc, ◌^◌, ◌<◌, ◌≤◌, true, false, List, [], ◌∷◌, ◌++◌, Option, Some, None, ℤ, pos, negsuc, refl, ap, ◌∙◌, arith}
use Rattle.std.specs.Prelude.{IsTrue, codes, unsigned_abs, nat_le, nat_lt, if◌then◌else◌}
use Rattle.std.specs.Fmt.{decimal}
use Rattle.std.proofs.lemmas.Int.{ints}
use Rattle.cub_base.proofs.Bools.{and_left, and_right, same_is, less_is, is_le}
use Rattle.cub_lexer.specs.Number.{value_of}
use Rattle.cub_lexer.specs.declared.token.TokenKind.{TokenKind}
use Rattle.cub_lexer.specs.declared.token.TokenKind.TheVariants as k
use Rattle.cub_parse.specs.declared.tree.Leaf.{Leaf}
use Rattle.cub_parse.specs.declared.tree.PartNode.TheVariants as parts
use Rattle.cub_names.specs.declared.meaning.What.{What}
use Rattle.cub_names.specs.declared.scope.Local.{Local}
use Rattle.cub_names.specs.declared.sides.Side.{Side}
use Rattle.cub_names.specs.declared.fault.TypeKind.TheVariants as kinds
use Rattle.cub_names.specs.declared.sums.Summed.{Summed}
use Rattle.cub_names.specs.Checked.{Checked, fault, sound}
use Rattle.cub_names.specs.Meaning.{Frame}
use Rattle.cub_names.specs.Scope.{place_of}
use Rattle.cub_names.specs.Sides as sides_of
use Rattle.cub_names.specs.Words.{word_of, amount_of, begins_with_underscore}
use Rattle.cub_proto.specs.declared.literal.Sort.{Sort}
use Rattle.cub_proto.specs.declared.literal.Term.{Term}
use Rattle.cub_proto.specs.declared.literal.PSide.{PSide}
use Rattle.cub_proto.specs.declared.literal.ISide.{ISide}
use Rattle.cub_proto.specs.declared.literal.ISide.TheVariants.{Zero, At}
use Rattle.cub_proto.specs.declared.protocol.Protocol.{Protocol}
use Rattle.cub_proto.specs.Fits.{place_fits, process_side_fits, integer_side_fits}
use Rattle.cub_proto.specs.Signature.{sort_of, declared_sort, constructors_of, is_sort, same_sort}
use Rattle.cub_proto.specs.StateOf.{signature_of}
use Rattle.cub_print.specs.Mark.{Mark, blank, name, number}
use Rattle.cub_print.specs.Mark.Mark.{word}
use Rattle.cub_print.specs.Terms.{decl_name, constructor_in, place_name, term_marks, process_marks, constant_marks, added_marks, integer_marks}
use Rattle.print_laws.specs.Spot.{Spot, past, leaf}
use Rattle.print_laws.specs.TermTree.{name_tree, index_tree, alone, term_tree, process_tree, constant_tree, added_tree, integer_tree}
use Rattle.print_words.proofs.TokenFacts.{value_is}
use Rattle.print_names.specs.Plain.{declares_plain_names}
use Rattle.print_names.proofs.Positions as positions
use Rattle.print_names.proofs.Positions.{at_left, at_right, word_is}
use Rattle.print_names.proofs.Standing.{global_stands, array_stands, constructor_stands, global_plain, array_plain, constructor_plain}

-- the scope has the places below the width by their printed names, and no other name of a text
pub record IsScope (text : List ℕ) (scope : List Local) (params width : ℕ) : Type 0 where
  pub known : (place : ℕ) → place < width → place_of text scope (place_name params place) ≡ Some place
  pub unknown : (bytes : List ℕ) → begins_with_underscore bytes ≡ false → place_of text scope bytes ≡ None

-- a term as a side, by its sort
abbrev pub term_side : Sort → Term → Side
term_side (Sort.Fin j) t = Side.Fin j t
term_side Sort.Int t = Side.Int (At t) (pos 0)
term_side Sort.Proc (Term.Global g) = Side.Proc (PSide.Global g)
term_side Sort.Proc (Term.Cell a place) = Side.Proc (PSide.Place place)

same_sorts : (a b : Sort) → IsTrue (same_sort a b) → a ≡ b
same_sorts (Sort.Fin j) (Sort.Fin k) h = ap Sort.Fin (same_is j k h)
same_sorts (Sort.Fin j) Sort.Proc h = cc
same_sorts (Sort.Fin j) Sort.Int h = cc
same_sorts Sort.Proc (Sort.Fin k) h = cc
same_sorts Sort.Proc Sort.Proc h = refl
same_sorts Sort.Proc Sort.Int h = cc
same_sorts Sort.Int (Sort.Fin k) h = cc
same_sorts Sort.Int Sort.Proc h = cc
same_sorts Sort.Int Sort.Int h = refl

pub sort_is : (o : Option Sort) (sort : Sort) → IsTrue (is_sort o sort) → o ≡ Some sort
sort_is None sort h = cc
sort_is (Some other) sort h = ap Some (same_sorts other sort h)

-- an array holds no processes
abbrev pub IsCellSort : Sort → Term → Type 0
IsCellSort sort (Term.Global g) = Unit {0}
IsCellSort (Sort.Fin j) (Term.Cell a place) = Unit {0}
IsCellSort Sort.Int (Term.Cell a place) = Unit {0}
IsCellSort Sort.Proc (Term.Cell a place) = ⊥

amount_is : (text : List ℕ) (n : ℕ) (s : Spot) (ms : List Mark) → n ≤ 1000000000 → positions.At text s (number n ∷ ms) → amount_of text (leaf k.Number (decimal n) s) ≡ n
amount_is text n s ms small at =
    let below : n < 2 ^ 64 = omega arith in
    let value : value_of (word_of text (leaf k.Number (decimal n) s)) ≡ n = ap value_of (word_is text s k.Number (decimal n) ms at) ∙ value_is n below in
    rw value (omega arith)

module _ (p : Protocol) (plain : IsTrue (declares_plain_names p)) (text : List ℕ) (scope : List Local) (params width : ℕ) (is_scope : IsScope text scope params width) where
  abbrev pub frame : Frame
  frame = record { text = text; sig = signature_of p }

  global_named : (g : ℕ) (sort : Sort) (s : Spot) (ms : List Mark) → declared_sort p.globals g ≡ Some sort → positions.At text s (name (decl_name p.globals g) ∷ ms)
      → sides_of.named frame scope (leaf k.Name (decl_name p.globals g) s) None ≡ sound (term_side sort (Term.Global g))
  global_named g sort s ms is at =
      let bytes = decl_name p.globals g in
      let own = word_is text s k.Name bytes ms at in
      let hidden = is_scope.unknown bytes (global_plain p plain g sort is) in
      rw (own, hidden, global_stands p g sort is) (by sort)
    where
      by : (other : Sort) → sound (sides_of.global_side g other) ≡ sound (term_side other (Term.Global g))
      by (Sort.Fin j) = refl
      by Sort.Proc = refl
      by Sort.Int = refl

  cell_named : (a place : ℕ) (sort : Sort) (s : Spot) → declared_sort p.arrays a ≡ Some sort → place < width → IsCellSort sort (Term.Cell a place)
      → positions.At text s (term_marks p params (Term.Cell a place))
      → sides_of.named frame scope (leaf k.Name (decl_name p.arrays a) s) (Some (index_tree (decl_name p.arrays a) (place_name params place) s)) ≡ sound (term_side sort (Term.Cell a place))
  cell_named a place sort s is below cell at =
      let bytes = decl_name p.arrays a in
      let index = place_name params place in
      let front = name bytes ∷ word k.BracketOpen (codes "[") ∷ [] in
      let ending = word k.BracketClose (codes "]") ∷ [] in
      let own = word_is text s k.Name bytes (word k.BracketOpen (codes "[") ∷ name index ∷ ending) at in
      let inner = word_is text (past s front) k.Name index ending (at_right text s front (name index ∷ ending) at) in
      let hidden = is_scope.unknown bytes (array_plain p plain a sort is) in
      rw (own, inner, hidden, array_stands p a sort is, is_scope.known place below) (by sort cell)
    where
      by : (other : Sort) → IsCellSort other (Term.Cell a place)
          → sides_of.indexed s.number None (Some (What.Array a other)) (sound place) ≡ sound (term_side other (Term.Cell a place))
      by (Sort.Fin j) c = refl
      by Sort.Int c = refl
      by Sort.Proc c = absurd c

  pub term_read : (t : Term) (sort : Sort) (s : Spot) → sort_of (signature_of p) t ≡ Some sort → IsTrue (place_fits width t) → IsCellSort sort t → positions.At text s (term_marks p params t)
      → sides_of.side frame scope (alone (term_tree p params t s)) ≡ sound (term_side sort t)
  term_read (Term.Global g) sort s is fits cell at = global_named g sort s [] is at
  term_read (Term.Cell a place) sort s is fits cell at = cell_named a place sort s is (less_is place width fits) cell at

  pub constructor_read : (j c : ℕ) (s : Spot) → c < constructors_of (signature_of p) (Sort.Fin j) → positions.At text s (name (constructor_in p.sorts (Sort.Fin j) c) ∷ [])
      → sides_of.side frame scope (alone (name_tree (constructor_in p.sorts (Sort.Fin j) c) s)) ≡ sound (Side.Con j c)
  constructor_read j c s below at =
      let bytes = constructor_in p.sorts (Sort.Fin j) c in
      let own = word_is text s k.Name bytes [] at in
      let hidden = is_scope.unknown bytes (constructor_plain p plain j c below) in
      rw (own, hidden, constructor_stands p j c below) refl

  pub process_read : (side : PSide) (s : Spot) → IsTrue (process_side_fits (signature_of p) width side) → positions.At text s (process_marks p params side)
      → sides_of.side frame scope (alone (process_tree p params side s)) ≡ sound (Side.Proc side)
  process_read (PSide.Global g) s fits at = global_named g Sort.Proc s [] (sort_is (declared_sort p.globals g) Sort.Proc fits) at
  process_read (PSide.Place place) s fits at =
      let own = word_is text s k.Name (place_name params place) [] at in
      rw (own, is_scope.known place (less_is place width fits)) refl

  -- ---- integers
  number_read : (sum : Summed) (sign : TokenKind) (minus : Option Leaf) (its : Leaf) (n : ℕ) (z : ℤ) → sum.over ≡ false → amount_of text its ≡ n
      → sides_of.moved sum.total (sides_of.subtracts sign minus) n ≡ z → unsigned_abs z ≤ 1000000000
      → sides_of.with_number text sum sign minus its ≡ record { summed = record sum { total = z }; faults = [] }
  number_read sum sign minus its n z over amount moved small =
      let test : nat_le (unsigned_abs z) 1000000000 ≡ true = is_le (unsigned_abs z) 1000000000 small in
      ap (λ b. if b then record { summed = sum; faults = [] } else sides_of.with_total sum its.number (sides_of.moved sum.total (sides_of.subtracts sign minus) (amount_of text its))) over
      ∙ ap (λ m. sides_of.with_total sum its.number (sides_of.moved sum.total (sides_of.subtracts sign minus) m)) amount
      ∙ ap (sides_of.with_total sum its.number) moved
      ∙ ap (λ b. if b then record { summed = record sum { total = z }; faults = [] } else record { summed = record sum { over = true }; faults = fault its.number kinds.T15 ∷ [] }) test

  -- a sum that ends with this part
  abbrev ended_with : sides_of.Behind → Checked Side
  ended_with b = record { value = sides_of.finished b.summed; faults = b.faults ++ [] }

  constant_read : (z : ℤ) (s : Spot) → unsigned_abs z ≤ 1000000000 → positions.At text s (constant_marks z)
      → sides_of.side frame scope (alone (constant_tree z s)) ≡ sound (Side.Int Zero z)
  constant_read (pos n) s small at =
      let amount = amount_is text n s [] small at in
      let total : sides_of.moved (pos 0) false n ≡ pos n = omega (arith, ints) in
      ap ended_with (number_read sides_of.start k.Plus None (leaf k.Number (decimal n) s) n (pos n) refl amount total small)
  constant_read (negsuc n) s small at =
      let sign = word k.Minus (codes "-") ∷ [] in
      let amount = amount_is text (suc n) (past s sign) [] small (at_right text s sign (number (suc n) ∷ []) at) in
      let total : sides_of.moved (pos 0) true (suc n) ≡ negsuc n = omega (arith, ints) in
      ap ended_with (number_read sides_of.start k.Plus (Some (leaf k.Minus (codes "-") s)) (leaf k.Number (decimal (suc n)) (past s sign)) (suc n) (negsuc n) refl amount total small)

  -- a term, and behind it a number with its sign
  abbrev with_constant : TokenKind → Leaf → ℕ → Checked Side → Checked Side
  with_constant sign its token c =
      let front = sides_of.behind c.faults (sides_of.with_side sides_of.start false token c.value) in
      let step = sides_of.with_number text front.summed sign None its in
      record { value = sides_of.finished step.summed; faults = front.faults ++ (step.faults ++ []) }

  abbrev at_term : Term → Summed
  at_term t = record { base = At t; total = pos 0; over = false; refused = false }

  sum_read : (its_name : Leaf) (index : Option Leaf) (t : Term) → sides_of.named frame scope its_name index ≡ sound (Side.Int (At t) (pos 0)) → (z : ℤ) (s : Spot)
      → unsigned_abs z ≤ 1000000000 → positions.At text s (added_marks z)
      → sides_of.side frame scope (record { first = parts.Named its_name index; steps = added_tree z s }) ≡ sound (Side.Int (At t) z)
  sum_read its_name index t is (pos zero) s small at = is
  sum_read its_name index t is (pos (suc n)) s small at =
      let front = blank ∷ word k.Plus (codes "+") ∷ blank ∷ [] in
      let its = leaf k.Number (decimal (suc n)) (past s front) in
      let amount = amount_is text (suc n) (past s front) [] small (at_right text s front (number (suc n) ∷ []) at) in
      let total : sides_of.moved (pos 0) false (suc n) ≡ pos (suc n) = omega (arith, ints) in
      ap (with_constant k.Plus its its_name.number) is ∙ ap ended_with (number_read (at_term t) k.Plus None its (suc n) (pos (suc n)) refl amount total small)
  sum_read its_name index t is (negsuc n) s small at =
      let front = blank ∷ word k.Minus (codes "-") ∷ blank ∷ [] in
      let its = leaf k.Number (decimal (suc n)) (past s front) in
      let amount = amount_is text (suc n) (past s front) [] small (at_right text s front (number (suc n) ∷ []) at) in
      let total : sides_of.moved (pos 0) true (suc n) ≡ negsuc n = omega (arith, ints) in
      ap (with_constant k.Minus its its_name.number) is ∙ ap ended_with (number_read (at_term t) k.Minus None its (suc n) (negsuc n) refl amount total small)

  pub integer_read : (side : ISide) (add : ℤ) (s : Spot) → IsTrue (integer_side_fits (signature_of p) width side) → unsigned_abs add ≤ 1000000000
      → positions.At text s (integer_marks p params side add) → sides_of.side frame scope (integer_tree p params side add s) ≡ sound (Side.Int side add)
  integer_read Zero add s fits small at = constant_read add s small at
  integer_read (At (Term.Global g)) add s fits small at =
      let bytes = decl_name p.globals g in
      let sorted = sort_is (declared_sort p.globals g) Sort.Int (and_left (is_sort (declared_sort p.globals g) Sort.Int) true fits) in
      sum_read (leaf k.Name bytes s) None (Term.Global g) (global_named g Sort.Int s (added_marks add) sorted at) add (past s (name bytes ∷ [])) small
      (at_right text s (name bytes ∷ []) (added_marks add) at)
  integer_read (At (Term.Cell a place)) add s fits small at =
      let marks = term_marks p params (Term.Cell a place) in
      let sorted = sort_is (declared_sort p.arrays a) Sort.Int (and_left (is_sort (declared_sort p.arrays a) Sort.Int) (nat_lt place width) fits) in
      let below = less_is place width (and_right (is_sort (declared_sort p.arrays a) Sort.Int) (nat_lt place width) fits) in
      sum_read (leaf k.Name (decl_name p.arrays a) s) (Some (index_tree (decl_name p.arrays a) (place_name params place) s)) (Term.Cell a place)
      (cell_named a place Sort.Int s sorted below tt (at_left text s marks (added_marks add) at)) add (past s marks) small (at_right text s marks (added_marks add) at)
