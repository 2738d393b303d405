-- The words of terms, literals and formulas are phrases of the grammar.
use Rattle.std.proofs.Common.{◌≡◌, ℕ, zero, suc, Bool, true, false, List, [], ◌∷◌, ◌++◌, Some, None, ℤ, pos, negsuc, ◌-ℤ◌, refl, inl, inr}
use Rattle.std.specs.Prelude.{◌==◌, codes, int_lt, count_ones, if◌then◌else◌, flat_map}
use Rattle.std.specs.Int.{w64, trailing_zeros, trailing_ones}
use Rattle.std.specs.Fmt.{decimal}
use Rattle.cub_lexer.specs.declared.token.TokenKind.{TokenKind}
use Rattle.cub_lexer.specs.declared.token.TokenKind.TheVariants as k
use Rattle.cub_parse.specs.declared.tree.Leaf.{Leaf}
use Rattle.cub_parse.specs.declared.tree.FormNode.{FormNode}
use Rattle.cub_parse.specs.declared.tree.FormNode.TheVariants as n
use Rattle.cub_parse.specs.declared.tree.SumNode.{SumNode}
use Rattle.cub_parse.specs.declared.tree.PartNode.{PartNode}
use Rattle.cub_parse.specs.Phrase.{Phrase, Word, ◌>>=◌, Each, is_in}
use Rattle.cub_parse.specs.Grammar.{Part, Step, Sum, Compared, Side, Joined, Formula, Unit_in, relations, signs}
use Rattle.cub_proto.specs.declared.literal.Term.{Term}
use Rattle.cub_proto.specs.declared.literal.Term.TheVariants as terms
use Rattle.cub_proto.specs.declared.literal.PSide.{PSide}
use Rattle.cub_proto.specs.declared.literal.PSide.TheVariants as sides
use Rattle.cub_proto.specs.declared.literal.ISide.{ISide}
use Rattle.cub_proto.specs.declared.literal.ISide.TheVariants.{Zero, At}
use Rattle.cub_proto.specs.declared.literal.Lit.{Lit}
use Rattle.cub_proto.specs.declared.literal.Lit.TheVariants.{FinIn, FinEq, FinNe, ProcEq, ProcNe, Diff}
use Rattle.cub_proto.specs.declared.protocol.Protocol.{Protocol}
use Rattle.cub_print.specs.Mark.{Mark, blank, name, number, joined}
use Rattle.cub_print.specs.Mark.Mark.{word}
use Rattle.cub_print.specs.Terms.{decl_name, constructor_name, place_name, term_marks, process_marks, constant_marks, added_marks, integer_marks, compared_marks, mask_marks, difference_marks, literal_marks}
use Rattle.cub_print.specs.Printed.{conjunction_marks, formula_marks}
use Rattle.print_laws.specs.Spot.{Spot, past, leaf, leaves, in_row}
use Rattle.print_laws.specs.TermTree.{name_tree, index_tree, cell_tree, number_tree, negative_tree, alone, term_tree, process_tree, constant_tree, added_step, added_tree, integer_tree, compared_tree, mask_tree, sums_tree, difference_tree, terms_tree, processes_tree, literal_tree, joined_tree, conjunction_tree, formula_tree}
use Rattle.print_laws.proofs.Phrases.{Spells, front_spells, given, ended, rows_alone}

-- parts
name_part : (bytes : List ℕ) → Spells Part (name bytes ∷ []) (name_tree bytes)
name_part bytes s rest = inr (inr (leaf k.Name bytes s, rest, (refl, refl), (None, rest, inr (refl, refl), (refl, refl))))

cell_part : (bytes index : List ℕ) → Spells Part (name bytes ∷ word k.BracketOpen (codes "[") ∷ name index ∷ word k.BracketClose (codes "]") ∷ []) (cell_tree bytes index)
cell_part bytes index s rest =
    let begin = leaf k.BracketOpen (codes "[") (past s (name bytes ∷ [])) in
    let inner = index_tree bytes index s in
    let close = leaf k.BracketClose (codes "]") (past s (name bytes ∷ word k.BracketOpen (codes "[") ∷ name index ∷ [])) in
    inr (inr (
      leaf k.Name bytes s,
      begin ∷ inner ∷ close ∷ rest,
      (refl, refl),
      (Some inner, rest, inl (inner, rest, (begin, inner ∷ close ∷ rest, (refl, refl), (inner, close ∷ rest, (refl, refl), (close, rest, (refl, refl), (refl, refl)))), (refl, refl)), (refl, refl)),
    ))

number_part : (m : ℕ) → Spells Part (number m ∷ []) (number_tree m)
number_part m s rest = inr (inl (leaf k.Number (decimal m) s, rest, (refl, refl), (refl, refl)))

negative_part : (m : ℕ) → Spells Part (word k.Minus (codes "-") ∷ number m ∷ []) (negative_tree m)
negative_part m s rest =
    let digits = leaf k.Number (decimal m) (past s (word k.Minus (codes "-") ∷ [])) in
    inl (leaf k.Minus (codes "-") s, digits ∷ rest, (refl, refl), (digits, rest, (refl, refl), (refl, refl)))

pub term_part : (p : Protocol) (params : ℕ) (t : Term) → Spells Part (term_marks p params t) (term_tree p params t)
term_part p params (terms.Global g) = name_part (decl_name p.globals g)
term_part p params (terms.Cell a place) = cell_part (decl_name p.arrays a) (place_name params place)

process_part : (p : Protocol) (params : ℕ) (side : PSide) → Spells Part (process_marks p params side) (process_tree p params side)
process_part p params (sides.Global g) = name_part (decl_name p.globals g)
process_part p params (sides.Place place) = name_part (place_name params place)

constant_part : (z : ℤ) → Spells Part (constant_marks z) (constant_tree z)
constant_part (pos m) = number_part m
constant_part (negsuc m) = negative_part (suc m)

-- sums
alone_sum : (ms : List Mark) (part : Spot → PartNode) → Spells Part ms part → Spells Sum ms (λ s. alone (part s))
alone_sum ms part h s rest = (part s, rest, h s rest, ([], rest, ended Step rest, (refl, refl)))

one_step : (kind : TokenKind) (sign : List ℕ) (m : ℕ) → is_in kind signs ≡ true
    → Spells (Each Step) (blank ∷ word kind sign ∷ blank ∷ number m ∷ []) (λ s. added_step kind sign m s ∷ [])
one_step kind sign m is s rest =
    let there = past s (blank ∷ word kind sign ∷ blank ∷ []) in
    let digits = leaf k.Number (decimal m) there in
    let here = leaf kind sign (past s (blank ∷ [])) in (
      rest,
      given Step (here ∷ digits ∷ rest) (added_step kind sign m s) rest
          (here, digits ∷ rest, (refl, is), (number_tree m there, rest, number_part m there rest, (refl, refl))),
      ended Step rest,
    )

added_steps : (z : ℤ) → Spells (Each Step) (added_marks z) (added_tree z)
added_steps (pos zero) s rest = ended Step rest
added_steps (pos (suc m)) s rest = one_step k.Plus (codes "+") (suc m) refl s rest
added_steps (negsuc m) s rest = one_step k.Minus (codes "-") (suc m) refl s rest

pub term_sum : (p : Protocol) (params : ℕ) (t : Term) → Spells Sum (term_marks p params t) (λ s. alone (term_tree p params t s))
term_sum p params t = alone_sum (term_marks p params t) (term_tree p params t) (term_part p params t)

pub process_sum : (p : Protocol) (params : ℕ) (side : PSide) → Spells Sum (process_marks p params side) (λ s. alone (process_tree p params side s))
process_sum p params side = alone_sum (process_marks p params side) (process_tree p params side) (process_part p params side)

pub name_sum : (bytes : List ℕ) → Spells Sum (name bytes ∷ []) (λ s. alone (name_tree bytes s))
name_sum bytes = alone_sum (name bytes ∷ []) (name_tree bytes) (name_part bytes)

pub integer_sum : (p : Protocol) (params : ℕ) (side : ISide) (add : ℤ) → Spells Sum (integer_marks p params side add) (integer_tree p params side add)
integer_sum p params Zero add s rest = alone_sum (constant_marks add) (constant_tree add) (constant_part add) s rest
integer_sum p params (At t) add s rest =
    let marks = term_marks p params t in
    let behind = leaves (past s marks) (added_marks add) ++ rest in (
      term_tree p params t s,
      behind,
      front_spells Part marks (added_marks add) (term_tree p params t) (term_part p params t) s rest,
      (added_tree add (past s marks), rest, added_steps add (past s marks) rest, (refl, refl)),
    )

-- sides
alone_side : (ms : List Mark) (sum : Spot → SumNode) → Spells Sum ms sum → Spells Side ms (λ s. n.Side (sum s))
alone_side ms sum h s rest = (sum s, rest, h s rest, (None, rest, inr (refl, refl), (refl, refl)))

compared_side : (a : List Mark) (left : Spot → SumNode) (kind : TokenKind) (sign : List ℕ) (b : List Mark) (right : Spot → SumNode) → Spells Sum a left → is_in kind relations ≡ true
    → Spells Sum b right → Spells Side (compared_marks a kind sign b) (compared_tree a left kind sign right)
compared_side a left kind sign b right h is g s rest =
    let here = leaf kind sign (past (past s a) (blank ∷ [])) in
    let there = past (past s a) (blank ∷ word kind sign ∷ blank ∷ []) in
    let behind = leaves there b ++ rest in (
      left s,
      here ∷ behind,
      front_spells Sum a (blank ∷ word kind sign ∷ blank ∷ b) left h s rest,
      (Some (here, right there), rest, given Compared (here ∷ behind) (here, right there) rest (here, behind, (refl, is), (right there, rest, g there rest, (refl, refl))), (refl, refl)),
    )

pub chosen : {A : Type 0} (R : Phrase A) (b : Bool) (x y : List Mark) (f g : Spot → A) → Spells R x f → Spells R y g → Spells R (if b then x else y) (λ s. if b then f s else g s)
chosen R true x y f g h i = h
chosen R false x y f g h i = i

module _ (p : Protocol) (params : ℕ) where
  terms_side : (a : Term) (kind : TokenKind) (sign : List ℕ) (b : Term) → is_in kind relations ≡ true
      → Spells Side (compared_marks (term_marks p params a) kind sign (term_marks p params b)) (terms_tree p params a kind sign b)
  terms_side a kind sign b is = compared_side (term_marks p params a) (λ s. alone (term_tree p params a s)) kind sign (term_marks p params b) (λ s. alone (term_tree p params b s)) (term_sum p params a) is (term_sum p params b)

  processes_side : (a : PSide) (kind : TokenKind) (sign : List ℕ) (b : PSide) → is_in kind relations ≡ true
      → Spells Side (compared_marks (process_marks p params a) kind sign (process_marks p params b)) (processes_tree p params a kind sign b)
  processes_side a kind sign b is =
      compared_side (process_marks p params a) (λ s. alone (process_tree p params a s)) kind sign (process_marks p params b) (λ s. alone (process_tree p params b s)) (process_sum p params a) is (process_sum p params b)

  sums_side : (a : ISide) (x : ℤ) (kind : TokenKind) (sign : List ℕ) (b : ISide) (y : ℤ) → is_in kind relations ≡ true
      → Spells Side (compared_marks (integer_marks p params a x) kind sign (integer_marks p params b y)) (sums_tree p params a x kind sign b y)
  sums_side a x kind sign b y is =
      compared_side (integer_marks p params a x) (integer_tree p params a x) kind sign (integer_marks p params b y) (integer_tree p params b y) (integer_sum p params a x) is (integer_sum p params b y)

  mask_side : (t : Term) (mask : ℕ) → Spells Side (mask_marks p params t mask) (mask_tree p params t mask)
  mask_side t mask = with_sign (count_ones mask == 1)
    where
      against : (kind : TokenKind) (sign : List ℕ) (bytes : List ℕ) → is_in kind relations ≡ true
          → Spells Side (compared_marks (term_marks p params t) kind sign (name bytes ∷ [])) (compared_tree (term_marks p params t) (λ s. alone (term_tree p params t s)) kind sign (λ s. alone (name_tree bytes s)))
      against kind sign bytes is = compared_side (term_marks p params t) (λ s. alone (term_tree p params t s)) kind sign (name bytes ∷ []) (λ s. alone (name_tree bytes s)) (term_sum p params t) is (name_sum bytes)

      with_sign : (one : Bool) → Spells Side
          (if one
          then compared_marks (term_marks p params t) k.Equal (codes "=") (name (constructor_name p t (trailing_zeros w64 mask)) ∷ [])
          else compared_marks (term_marks p params t) k.NotEqual (codes "<>") (name (constructor_name p t (trailing_ones w64 mask)) ∷ []))
          (λ s. if one
          then compared_tree (term_marks p params t) (λ x. alone (term_tree p params t x)) k.Equal (codes "=") (λ x. alone (name_tree (constructor_name p t (trailing_zeros w64 mask)) x)) s
          else compared_tree (term_marks p params t) (λ x. alone (term_tree p params t x)) k.NotEqual (codes "<>") (λ x. alone (name_tree (constructor_name p t (trailing_ones w64 mask)) x)) s)
      with_sign true = against k.Equal (codes "=") (constructor_name p t (trailing_zeros w64 mask)) refl
      with_sign false = against k.NotEqual (codes "<>") (constructor_name p t (trailing_ones w64 mask)) refl

  difference_side : (a b : ISide) (bound : ℤ) → Spells Side (difference_marks p params a b bound) (difference_tree p params a b bound)
  difference_side a b bound = by (int_lt (pos 1000000000) bound) (int_lt bound (negsuc 999999999))
    where
      by : (above below : Bool) → Spells Side
          (if above
          then compared_marks (integer_marks p params a (pos 1000000000 -ℤ bound)) k.LessOrEqual (codes "<=") (integer_marks p params b (pos 1000000000))
          else (if below
          then compared_marks (integer_marks p params a (negsuc 1000000000 -ℤ bound)) k.Less (codes "<") (integer_marks p params b (negsuc 999999999))
          else compared_marks (integer_marks p params a (pos 0)) k.LessOrEqual (codes "<=") (integer_marks p params b bound)))
          (λ s. if above
          then sums_tree p params a (pos 1000000000 -ℤ bound) k.LessOrEqual (codes "<=") b (pos 1000000000) s
          else (if below
          then sums_tree p params a (negsuc 1000000000 -ℤ bound) k.Less (codes "<") b (negsuc 999999999) s
          else sums_tree p params a (pos 0) k.LessOrEqual (codes "<=") b bound s))
      by true below = sums_side a (pos 1000000000 -ℤ bound) k.LessOrEqual (codes "<=") b (pos 1000000000) refl
      by false true = sums_side a (negsuc 1000000000 -ℤ bound) k.Less (codes "<") b (negsuc 999999999) refl
      by false false = sums_side a (pos 0) k.LessOrEqual (codes "<=") b bound refl

  literal_side : (l : Lit) → Spells Side (literal_marks p params l) (literal_tree p params l)
  literal_side (FinIn t mask) = mask_side t mask
  literal_side (FinEq a b) = terms_side a k.Equal (codes "=") b refl
  literal_side (FinNe a b) = terms_side a k.NotEqual (codes "<>") b refl
  literal_side (ProcEq a b) = processes_side a k.Equal (codes "=") b refl
  literal_side (ProcNe a b) = processes_side a k.NotEqual (codes "<>") b refl
  literal_side (Diff a b bound) = difference_side a b bound

-- formulas
pub unit_of_side : (levels : ℕ) (ts : List Leaf) (f : FormNode) (rest : List Leaf) → Side ts f rest → Unit_in levels ts f rest
unfolding Unit_in
unit_of_side zero ts f rest h = h
unit_of_side (suc levels) ts f rest h = inr (inr (inr h))

pub alone_joined : (join : List FormNode → FormNode) (kind : TokenKind) (R : Phrase FormNode) (ts : List Leaf) (f : FormNode) (rest : List Leaf) → R ts f rest → Joined join kind R ts f rest
alone_joined join kind R ts f rest h = (f, rest, h, ([], rest, ended (Word kind >>= λ _. R) rest, (refl, refl)))

pub joined_phrase : {A : Type 0} (join : List FormNode → FormNode) (kind : TokenKind) (sign : List ℕ) (R : Phrase FormNode) (marks : A → List Mark) (tree : A → Spot → FormNode)
    → is_in kind (kind ∷ []) ≡ true → ((x : A) → Spells R (marks x) (tree x)) → (x : A) (xs : List A)
    → Spells (Joined join kind R) (joined (blank ∷ word kind sign ∷ blank ∷ []) marks (x ∷ xs)) (joined_tree join (blank ∷ word kind sign ∷ blank ∷ []) marks tree x xs)
joined_phrase join kind sign R marks tree is each x xs s rest =
    let separator = blank ∷ word kind sign ∷ blank ∷ [] in
    let others = flat_map (λ y. separator ++ marks y) xs in
    let behind = leaves (past s (marks x)) others ++ rest in (
      tree x s,
      behind,
      front_spells R (marks x) others (tree x) (each x) s rest,
      (
        in_row (λ y. separator ++ marks y) (λ y r. tree y (past r separator)) xs (past s (marks x)),
        rest,
        rows_alone (Word kind >>= λ _. R) (λ y. separator ++ marks y) (λ y r. tree y (past r separator)) item xs (past s (marks x)) rest,
        (refl, refl),
      ),
    )
  where
    item : (y : _) → Spells (Word kind >>= λ _. R) (blank ∷ word kind sign ∷ blank ∷ marks y) (λ r. tree y (past r (blank ∷ word kind sign ∷ blank ∷ [])))
    item y r ts =
        let there = past r (blank ∷ word kind sign ∷ blank ∷ []) in
        (leaf kind sign (past r (blank ∷ [])), leaves there (marks y) ++ ts, (refl, is), each y there ts)

module _ (p : Protocol) (params levels : ℕ) where
  literal_unit : (l : Lit) → Spells (Unit_in levels) (literal_marks p params l) (literal_tree p params l)
  literal_unit l s rest = unit_of_side levels (leaves s (literal_marks p params l) ++ rest) (literal_tree p params l s) rest (literal_side p params l s rest)

  name_unit : (bytes : List ℕ) → Spells (Unit_in levels) (name bytes ∷ []) (λ s. n.Side (alone (name_tree bytes s)))
  name_unit bytes s rest = unit_of_side levels (leaf k.Name bytes s ∷ rest) (n.Side (alone (name_tree bytes s))) rest
      (alone_side (name bytes ∷ []) (λ r. alone (name_tree bytes r)) (name_sum bytes) s rest)

  conjunction_conj : (lits : List Lit) → Spells (Joined n.And k.And (Unit_in levels)) (conjunction_marks p params lits) (conjunction_tree p params lits)
  conjunction_conj [] s rest = alone_joined n.And k.And (Unit_in levels) (leaf k.Name (codes "True") s ∷ rest) (n.Side (alone (name_tree (codes "True") s))) rest (name_unit (codes "True") s rest)
  conjunction_conj (l ∷ ls) s rest = joined_phrase n.And k.And (codes "&&") (Unit_in levels) (literal_marks p params) (literal_tree p params) refl literal_unit l ls s rest

  pub conjunction_phrase : (lits : List Lit) → Spells (Formula levels) (conjunction_marks p params lits) (conjunction_tree p params lits)
  conjunction_phrase lits s rest =
      alone_joined n.Or k.Or (Joined n.And k.And (Unit_in levels)) (leaves s (conjunction_marks p params lits) ++ rest) (conjunction_tree p params lits s) rest (conjunction_conj lits s rest)

  pub formula_phrase : (conjs : List (List Lit)) → Spells (Formula levels) (formula_marks p params conjs) (formula_tree p params conjs)
  formula_phrase [] s rest =
      alone_joined n.Or k.Or (Joined n.And k.And (Unit_in levels)) (leaf k.Name (codes "False") s ∷ rest) (n.Side (alone (name_tree (codes "False") s))) rest
      (alone_joined n.And k.And (Unit_in levels) (leaf k.Name (codes "False") s ∷ rest) (n.Side (alone (name_tree (codes "False") s))) rest (name_unit (codes "False") s rest))
  formula_phrase (c ∷ cs) s rest = joined_phrase n.Or k.Or (codes "||") (Joined n.And k.And (Unit_in levels)) (conjunction_marks p params) (conjunction_tree p params) refl conjunction_conj c cs s rest
