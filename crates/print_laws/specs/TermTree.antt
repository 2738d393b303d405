-- The trees of terms, literals and formulas, each from the spot where it begins.
use Rattle.std.specs.Prelude.{ℕ, zero, suc, ◌==◌, ℤ, pos, negsuc, ◌-ℤ◌, int_lt, if◌then◌else◌, List, [], ◌∷◌, ◌++◌, codes, count_ones, Some, None}
use Rattle.std.specs.Int.{w64, trailing_zeros, trailing_ones}
use Rattle.std.specs.Fmt.{decimal}
use Rattle.cub_lexer.specs.declared.token.TokenKind.{TokenKind}
use Rattle.cub_lexer.specs.declared.token.TokenKind.TheVariants as k
use Rattle.cub_parse.specs.declared.tree.Leaf.{Leaf}
use Rattle.cub_parse.specs.declared.tree.FormNode.{FormNode}
use Rattle.cub_parse.specs.declared.tree.FormNode.TheVariants as n
use Rattle.cub_parse.specs.declared.tree.SumNode.{SumNode}
use Rattle.cub_parse.specs.declared.tree.SumStep.{SumStep}
use Rattle.cub_parse.specs.declared.tree.PartNode.{PartNode}
use Rattle.cub_parse.specs.declared.tree.PartNode.TheVariants as parts
use Rattle.cub_parse.specs.Grammar as grammar
use Rattle.cub_proto.specs.declared.literal.Term.{Term}
use Rattle.cub_proto.specs.declared.literal.Term.TheVariants as terms
use Rattle.cub_proto.specs.declared.literal.PSide.{PSide}
use Rattle.cub_proto.specs.declared.literal.PSide.TheVariants as sides
use Rattle.cub_proto.specs.declared.literal.ISide.{ISide}
use Rattle.cub_proto.specs.declared.literal.ISide.TheVariants.{Zero, At}
use Rattle.cub_proto.specs.declared.literal.Lit.{Lit}
use Rattle.cub_proto.specs.declared.literal.Lit.TheVariants.{FinIn, FinEq, FinNe, ProcEq, ProcNe, Diff}
use Rattle.cub_proto.specs.declared.protocol.Protocol.{Protocol}
use Rattle.cub_print.specs.Mark.{Mark, blank, name}
use Rattle.cub_print.specs.Mark.Mark.{word}
use Rattle.cub_print.specs.Terms.{decl_name, constructor_name, place_name, term_marks, process_marks, integer_marks, literal_marks}
use Rattle.cub_print.specs.Printed.{and_marks, or_marks, conjunction_marks}
use Rattle.print_laws.specs.Spot.{Spot, past, leaf, in_row}

-- names, with and without an index, and numbers, with and without a minus
abbrev pub name_tree : List ℕ → Spot → PartNode
name_tree bytes s = parts.Named (leaf k.Name bytes s) None

abbrev pub index_tree : List ℕ → List ℕ → Spot → Leaf
index_tree bytes index s = leaf k.Name index (past s (name bytes ∷ word k.BracketOpen (codes "[") ∷ []))

abbrev pub cell_tree : List ℕ → List ℕ → Spot → PartNode
cell_tree bytes index s = parts.Named (leaf k.Name bytes s) (Some (index_tree bytes index s))

abbrev pub number_tree : ℕ → Spot → PartNode
number_tree number s = parts.Number None (leaf k.Number (decimal number) s)

abbrev pub negative_tree : ℕ → Spot → PartNode
negative_tree number s = parts.Number (Some (leaf k.Minus (codes "-") s)) (leaf k.Number (decimal number) (past s (word k.Minus (codes "-") ∷ [])))

-- one part alone
abbrev pub alone : PartNode → SumNode
alone part = record { first = part; steps = [] }

abbrev pub term_tree : Protocol → ℕ → Term → Spot → PartNode
term_tree p params (terms.Global g) s = name_tree (decl_name p.globals g) s
term_tree p params (terms.Cell a place) s = cell_tree (decl_name p.arrays a) (place_name params place) s

abbrev pub process_tree : Protocol → ℕ → PSide → Spot → PartNode
process_tree p params (sides.Global g) s = name_tree (decl_name p.globals g) s
process_tree p params (sides.Place place) s = name_tree (place_name params place) s

abbrev pub constant_tree : ℤ → Spot → PartNode
constant_tree (pos n) s = number_tree n s
constant_tree (negsuc n) s = negative_tree (suc n) s

-- a blank, the sign, a blank, and the number
abbrev pub added_step : TokenKind → List ℕ → ℕ → Spot → SumStep
added_step kind sign number s = record {
  sign = leaf kind sign (past s (blank ∷ []));
  part = number_tree number (past s (blank ∷ word kind sign ∷ blank ∷ []));
}

abbrev pub added_tree : ℤ → Spot → List SumStep
added_tree (pos zero) s = []
added_tree (pos (suc n)) s = added_step k.Plus (codes "+") (suc n) s ∷ []
added_tree (negsuc n) s = added_step k.Minus (codes "-") (suc n) s ∷ []

abbrev pub integer_tree : Protocol → ℕ → ISide → ℤ → Spot → SumNode
integer_tree p params Zero add s = alone (constant_tree add s)
integer_tree p params (At t) add s = record { first = term_tree p params t s; steps = added_tree add (past s (term_marks p params t)) }

-- the marks and the tree of the left side, the sign, and the tree of the right side
abbrev pub compared_tree : List Mark → (Spot → SumNode) → TokenKind → List ℕ → (Spot → SumNode) → Spot → FormNode
compared_tree marks a kind sign b s =
    let here = past s marks in
    n.Rel (a s) (leaf kind sign (past here (blank ∷ []))) (b (past here (blank ∷ word kind sign ∷ blank ∷ [])))

abbrev pub mask_tree : Protocol → ℕ → Term → ℕ → Spot → FormNode
mask_tree p params t mask s =
    if count_ones mask == 1
    then compared_tree (term_marks p params t) (λ x. alone (term_tree p params t x)) k.Equal (codes "=") (λ x. alone (name_tree (constructor_name p t (trailing_zeros w64 mask)) x)) s
    else compared_tree (term_marks p params t) (λ x. alone (term_tree p params t x)) k.NotEqual (codes "<>") (λ x. alone (name_tree (constructor_name p t (trailing_ones w64 mask)) x)) s

-- an integer side plus a constant on both sides of the sign
abbrev pub sums_tree : Protocol → ℕ → ISide → ℤ → TokenKind → List ℕ → ISide → ℤ → Spot → FormNode
sums_tree p params a x kind sign b y s = compared_tree (integer_marks p params a x) (integer_tree p params a x) kind sign (integer_tree p params b y) s

abbrev pub difference_tree : Protocol → ℕ → ISide → ISide → ℤ → Spot → FormNode
difference_tree p params a b bound s =
    if int_lt (pos 1000000000) bound
    then sums_tree p params a (pos 1000000000 -ℤ bound) k.LessOrEqual (codes "<=") b (pos 1000000000) s
    else (if int_lt bound (negsuc 999999999)
    then sums_tree p params a (negsuc 1000000000 -ℤ bound) k.Less (codes "<") b (negsuc 999999999) s
    else sums_tree p params a (pos 0) k.LessOrEqual (codes "<=") b bound s)

abbrev pub terms_tree : Protocol → ℕ → Term → TokenKind → List ℕ → Term → Spot → FormNode
terms_tree p params a kind sign b s = compared_tree (term_marks p params a) (λ x. alone (term_tree p params a x)) kind sign (λ x. alone (term_tree p params b x)) s

abbrev pub processes_tree : Protocol → ℕ → PSide → TokenKind → List ℕ → PSide → Spot → FormNode
processes_tree p params a kind sign b s = compared_tree (process_marks p params a) (λ x. alone (process_tree p params a x)) kind sign (λ x. alone (process_tree p params b x)) s

abbrev pub literal_tree : Protocol → ℕ → Lit → Spot → FormNode
literal_tree p params (FinIn t mask) s = mask_tree p params t mask s
literal_tree p params (FinEq a b) s = terms_tree p params a k.Equal (codes "=") b s
literal_tree p params (FinNe a b) s = terms_tree p params a k.NotEqual (codes "<>") b s
literal_tree p params (ProcEq a b) s = processes_tree p params a k.Equal (codes "=") b s
literal_tree p params (ProcNe a b) s = processes_tree p params a k.NotEqual (codes "<>") b s
literal_tree p params (Diff a b bound) s = difference_tree p params a b bound s

-- parts behind one another, with these marks between them; one part alone is that part
abbrev pub joined_tree : {A : Type 0} → (List FormNode → FormNode) → List Mark → (A → List Mark) → (A → Spot → FormNode) → A → List A → Spot → FormNode
joined_tree join separator marks tree x xs s =
    grammar.joined join (tree x s) (in_row (λ y. separator ++ marks y) (λ y r. tree y (past r separator)) xs (past s (marks x)))

abbrev pub conjunction_tree : Protocol → ℕ → List Lit → Spot → FormNode
conjunction_tree p params [] s = n.Side (alone (name_tree (codes "True") s))
conjunction_tree p params (l ∷ ls) s = joined_tree n.And and_marks (literal_marks p params) (literal_tree p params) l ls s

abbrev pub formula_tree : Protocol → ℕ → List (List Lit) → Spot → FormNode
formula_tree p params [] s = n.Side (alone (name_tree (codes "False") s))
formula_tree p params (c ∷ cs) s = joined_tree n.Or or_marks (conjunction_marks p params) (conjunction_tree p params) c cs s
