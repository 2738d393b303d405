-- The marks of names, terms, sides and literals.
use Rattle.std.specs.Prelude.{ℕ, zero, suc, ◌+◌, ◌==◌, ℤ, pos, negsuc, ◌-ℤ◌, int_lt, if◌then◌else◌, List, [], ◌∷◌, ◌++◌, codes, count_ones, slice_get}
use Rattle.std.specs.Option.{option_map_or}
use Rattle.std.specs.Fmt.{decimal}
use Rattle.std.specs.Int.{trailing_zeros, trailing_ones}
use Rattle.std.specs.Int.{w64}
use Rattle.cub_lexer.specs.declared.token.TokenKind.{TokenKind}
use Rattle.cub_lexer.specs.declared.token.TokenKind.TheVariants as k
use Rattle.cub_proto.specs.declared.literal.Sort.{Sort}
use Rattle.cub_proto.specs.declared.literal.Sort.TheVariants as sorts
use Rattle.cub_proto.specs.declared.literal.Term.{Term}
use Rattle.cub_proto.specs.declared.literal.Term.TheVariants as terms
use Rattle.cub_proto.specs.declared.literal.PSide.{PSide}
use Rattle.cub_proto.specs.declared.literal.PSide.TheVariants as sides
use Rattle.cub_proto.specs.declared.literal.ISide.{ISide}
use Rattle.cub_proto.specs.declared.literal.ISide.TheVariants.{Zero, At}
use Rattle.cub_proto.specs.declared.literal.Lit.{Lit}
use Rattle.cub_proto.specs.declared.literal.Lit.TheVariants.{FinIn, FinEq, FinNe, ProcEq, ProcNe, Diff}
use Rattle.cub_proto.specs.declared.protocol.SortDecl.{SortDecl}
use Rattle.cub_proto.specs.declared.protocol.Decl.{Decl}
use Rattle.cub_proto.specs.declared.protocol.Protocol.{Protocol}
use Rattle.cub_proto.specs.Signature.{sort_of}
use Rattle.cub_proto.specs.StateOf.{signature_of}
use Rattle.cub_print.specs.Mark.{Mark, blank, name, number}
use Rattle.cub_print.specs.Mark.Mark.{word}

-- the name of a declaration
abbrev pub decl_name : List Decl → ℕ → List ℕ
decl_name decls n = option_map_or (λ d. d.name) (slice_get decls n) []

-- a constructor of a sort
abbrev pub constructor_in : List SortDecl → Sort → ℕ → List ℕ
constructor_in decls (sorts.Fin j) c = option_map_or (λ d. option_map_or (λ n. n) (slice_get d.cons c) []) (slice_get decls j) []
constructor_in decls sorts.Proc c = []
constructor_in decls sorts.Int c = []

-- a constructor of a term's sort
abbrev pub constructor_name : Protocol → Term → ℕ → List ℕ
constructor_name p t c = option_map_or (λ sort. constructor_in p.sorts sort c) (sort_of (signature_of p) t) []

-- the places below the parameters' number are `_1`, `_2`, .., and the place behind them is `_0`
abbrev pub place_name : ℕ → ℕ → List ℕ
place_name params place = codes "_" ++ decimal (if place == params then 0 else place + 1)

abbrev pub term_marks : Protocol → ℕ → Term → List Mark
term_marks p params (terms.Global g) = name (decl_name p.globals g) ∷ []
term_marks p params (terms.Cell a place) =
    name (decl_name p.arrays a) ∷ word k.BracketOpen (codes "[") ∷ name (place_name params place) ∷ word k.BracketClose (codes "]") ∷ []

abbrev pub process_marks : Protocol → ℕ → PSide → List Mark
process_marks p params (sides.Global g) = name (decl_name p.globals g) ∷ []
process_marks p params (sides.Place place) = name (place_name params place) ∷ []

-- a constant alone
abbrev pub constant_marks : ℤ → List Mark
constant_marks (pos n) = number n ∷ []
constant_marks (negsuc n) = word k.Minus (codes "-") ∷ number (suc n) ∷ []

-- a constant behind a term; nothing for 0
abbrev pub added_marks : ℤ → List Mark
added_marks (pos zero) = []
added_marks (pos (suc n)) = blank ∷ word k.Plus (codes "+") ∷ blank ∷ number (suc n) ∷ []
added_marks (negsuc n) = blank ∷ word k.Minus (codes "-") ∷ blank ∷ number (suc n) ∷ []

-- a side plus a constant
abbrev pub integer_marks : Protocol → ℕ → ISide → ℤ → List Mark
integer_marks p params Zero add = constant_marks add
integer_marks p params (At t) add = term_marks p params t ++ added_marks add

abbrev pub compared_marks : List Mark → TokenKind → List ℕ → List Mark → List Mark
compared_marks a kind sign b = a ++ blank ∷ word kind sign ∷ blank ∷ b

abbrev pub equal_marks : List Mark → List Mark → List Mark
equal_marks a b = compared_marks a k.Equal (codes "=") b

abbrev pub unequal_marks : List Mark → List Mark → List Mark
unequal_marks a b = compared_marks a k.NotEqual (codes "<>") b

abbrev pub at_most_marks : List Mark → List Mark → List Mark
at_most_marks a b = compared_marks a k.LessOrEqual (codes "<=") b

abbrev pub less_marks : List Mark → List Mark → List Mark
less_marks a b = compared_marks a k.Less (codes "<") b

-- a mask of one constructor is that constructor; any other is taken as lacking one
abbrev pub mask_marks : Protocol → ℕ → Term → ℕ → List Mark
mask_marks p params t mask =
    if count_ones mask == 1
    then equal_marks (term_marks p params t) (name (constructor_name p t (trailing_zeros w64 mask)) ∷ [])
    else unequal_marks (term_marks p params t) (name (constructor_name p t (trailing_ones w64 mask)) ∷ [])

-- `a - b <= bound`, with constants of at most 1,000,000,000 in size on both sides
abbrev pub difference_marks : Protocol → ℕ → ISide → ISide → ℤ → List Mark
difference_marks p params a b bound =
    if int_lt (pos 1000000000) bound
    then at_most_marks (integer_marks p params a (pos 1000000000 -ℤ bound)) (integer_marks p params b (pos 1000000000))
    else (if int_lt bound (negsuc 999999999)
    then less_marks (integer_marks p params a (negsuc 1000000000 -ℤ bound)) (integer_marks p params b (negsuc 999999999))
    else at_most_marks (integer_marks p params a (pos 0)) (integer_marks p params b bound))

abbrev pub literal_marks : Protocol → ℕ → Lit → List Mark
literal_marks p params (FinIn t mask) = mask_marks p params t mask
literal_marks p params (FinEq a b) = equal_marks (term_marks p params a) (term_marks p params b)
literal_marks p params (FinNe a b) = unequal_marks (term_marks p params a) (term_marks p params b)
literal_marks p params (ProcEq a b) = equal_marks (process_marks p params a) (process_marks p params b)
literal_marks p params (ProcNe a b) = unequal_marks (process_marks p params a) (process_marks p params b)
literal_marks p params (Diff a b bound) = difference_marks p params a b bound
