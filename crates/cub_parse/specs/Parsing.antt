-- What the readers of the code compute, on lists. `Grammar` says what a text is; this says how it is read, and each
-- law that relates the two is proved.
use Rattle.std.specs.Prelude.{◌≡◌, ℕ, zero, suc, Bool, true, false, if◌then◌else◌, List, [], ◌∷◌, length, Option, Some, None, Result, Ok, Err}
use Rattle.cub_lexer.specs.declared.token.TokenKind.{TokenKind}
use Rattle.cub_lexer.specs.declared.token.TokenKind.TheVariants as k
use Rattle.cub_parse.specs.declared.fault.ParseKind.{ParseKind}
use Rattle.cub_parse.specs.declared.fault.ParseKind.TheVariants.{P1, P2}
use Rattle.cub_parse.specs.declared.fault.Stop.{Stop}
use Rattle.cub_parse.specs.declared.fault.Stop.TheVariants as stops
use Rattle.cub_parse.specs.declared.tree.Leaf.{Leaf}
use Rattle.cub_parse.specs.declared.tree.Syntax.{Syntax}
use Rattle.cub_parse.specs.declared.tree.DeclNode.{DeclNode}
use Rattle.cub_parse.specs.declared.tree.DeclNode.TheVariants as decls
use Rattle.cub_parse.specs.declared.tree.BodyNode.{BodyNode}
use Rattle.cub_parse.specs.declared.tree.RestNode.{RestNode}
use Rattle.cub_parse.specs.declared.tree.RestNode.TheVariants as rests
use Rattle.cub_parse.specs.declared.tree.UpdateNode.{UpdateNode}
use Rattle.cub_parse.specs.declared.tree.CaseNode.{CaseNode}
use Rattle.cub_parse.specs.declared.tree.RightNode.{RightNode}
use Rattle.cub_parse.specs.declared.tree.RightNode.TheVariants as rights
use Rattle.cub_parse.specs.declared.tree.FormNode.{FormNode}
use Rattle.cub_parse.specs.declared.tree.FormNode.TheVariants as n
use Rattle.cub_parse.specs.declared.tree.SumNode.{SumNode}
use Rattle.cub_parse.specs.declared.tree.SumStep.{SumStep}
use Rattle.cub_parse.specs.declared.tree.PartNode.{PartNode}
use Rattle.cub_parse.specs.declared.tree.PartNode.TheVariants as parts
use Rattle.cub_parse.specs.Phrase.{is_in, heads}
use Rattle.cub_parse.specs.Grammar.{sorts, signs, relations, compared, joined, those, Value, update, all_of}

-- the tree and the tokens behind it, or what is wrong and how many tokens are left there
abbrev pub Read : Type 0 → Type 0
Read A = Result (A × List Leaf) (ParseKind × ℕ)

abbrev pub Parser : Type 0 → Type 0
Parser A = List Leaf → Read A

-- what was answered is what is read, unless memory ran out
abbrev pub Fails : {A : Type 0} → Stop → Read A → Type 0
Fails (stops.At kind left) read = read ≡ Err (kind, left)
Fails stops.Memory read = Unit {0}

abbrev pub Gives : {X A : Type 0} → (X → A × List Leaf) → Result X Stop → Read A → Type 0
Gives view (Ok x) read = read ≡ Ok (view x)
Gives view (Err e) read = Fails e read

-- what goes on behind a tree that was read
abbrev pub after : {A B : Type 0} → Read A → (A → Parser B) → Read B
after (Ok x) f = f x.0 x.1
after (Err e) f = Err e

infixl 10 ◌>>=◌
abbrev pub ◌>>=◌ : {A B : Type 0} → Parser A → (A → Parser B) → Parser B
(p >>= f) ts = after (p ts) f

unfoldable pub one_of : List TokenKind → Parser Leaf
one_of kinds [] = Err (P1, 0)
one_of kinds (x ∷ rest) = if is_in x.token.kind kinds then Ok (x, rest) else Err (P1, suc (length rest))

abbrev pub word : TokenKind → Parser Leaf
word kind = one_of (kind ∷ [])

abbrev pub give : {A : Type 0} → A → Parser A
give a ts = Ok (a, ts)

-- the next token decides
abbrev pub choose : {A : Type 0} → List TokenKind → Parser A → Parser A → Parser A
choose kinds p q ts = if heads kinds ts then p ts else q ts

abbrev pub maybe : {A : Type 0} → List TokenKind → Parser A → Parser (Option A)
maybe kinds p = choose kinds (p >>= λ a. give (Some a)) (give None)

-- behind an item the others, and behind none nothing
abbrev pub go_on : {A : Type 0} → Parser (List A) → Option A → Parser (List A)
go_on p None = give []
go_on p (Some a) = p >>= λ others. give (a ∷ others)

-- again and again, at most so many times
unfoldable pub until_in : {A : Type 0} → Parser (Option A) → ℕ → Parser (List A)
until_in p zero ts = Err (P1, length ts)
until_in p (suc count) ts = after (p ts) (go_on (until_in p count))

-- each item takes a token, so this is often enough
abbrev pub until : {A : Type 0} → Parser (Option A) → Parser (List A)
until p ts = until_in p (suc (length ts)) ts

-- sums
unfoldable pub index : Parser Leaf
index = word k.BracketOpen >>= λ _. word k.Name >>= λ name. word k.BracketClose >>= λ _. give name

unfoldable pub negative : Parser PartNode
negative = word k.Minus >>= λ minus. word k.Number >>= λ number. give (parts.Number (Some minus) number)

unfoldable pub plain : Parser PartNode
plain = word k.Number >>= λ number. give (parts.Number None number)

unfoldable pub index_if_any : Parser (Option Leaf)
index_if_any = maybe (k.BracketOpen ∷ []) index

unfoldable pub named : Parser PartNode
named = word k.Name >>= λ name. index_if_any >>= λ index. give (parts.Named name index)

unfoldable pub part : Parser PartNode
part = choose (k.Minus ∷ []) negative (choose (k.Number ∷ []) plain named)

unfoldable pub step : Parser SumStep
step = one_of signs >>= λ sign. part >>= λ p. give (record { sign = sign; part = p })

unfoldable pub next_step : Parser (Option SumStep)
next_step = maybe signs step

unfoldable pub sum : Parser SumNode
sum = part >>= λ first. until next_step >>= λ steps. give (record { first = first; steps = steps })

unfoldable pub comparison : Parser (Leaf × SumNode)
comparison = one_of relations >>= λ sign. sum >>= λ b. give (sign, b)

unfoldable pub comparison_if_any : Parser (Option (Leaf × SumNode))
comparison_if_any = maybe relations comparison

unfoldable pub side : Parser FormNode
side = sum >>= λ a. comparison_if_any >>= λ c. give (compared a c)

-- formulas, over the reader of units
abbrev pub openers : List TokenKind
openers = k.NotWord ∷ k.ParenOpen ∷ k.ForallOtherWord ∷ []

abbrev pub formula_starts : List TokenKind
formula_starts = k.NotWord ∷ k.ParenOpen ∷ k.ForallOtherWord ∷ k.Minus ∷ k.Number ∷ k.Name ∷ []

abbrev pub joined_item : TokenKind → Parser FormNode → Parser FormNode
joined_item kind p = word kind >>= λ _. p

abbrev pub next_joined : TokenKind → Parser FormNode → Parser (Option FormNode)
next_joined kind p = maybe (kind ∷ []) (joined_item kind p)

unfoldable pub join_of : (List FormNode → FormNode) → TokenKind → Parser FormNode → Parser FormNode
join_of join kind p = p >>= λ first. until (next_joined kind p) >>= λ others. give (joined join first others)

abbrev pub conj_of : Parser FormNode → Parser FormNode
conj_of p = join_of n.And k.And p

abbrev pub formula_of : Parser FormNode → Parser FormNode
formula_of p = join_of n.Or k.Or (conj_of p)

unfoldable pub not_of : Parser FormNode → Parser FormNode
not_of p = word k.NotWord >>= λ _. p >>= λ f. give (n.Not f)

unfoldable pub group_of : Parser FormNode → Parser FormNode
group_of p = word k.ParenOpen >>= λ _. p >>= λ f. word k.ParenClose >>= λ _. give (n.Group f)

unfoldable pub forall_of : Parser FormNode → Parser FormNode
forall_of p = word k.ForallOtherWord >>= λ w. word k.Name >>= λ name. word k.Dot >>= λ _. p >>= λ f. give (n.Forall w name f)

-- at the last level nothing opens a further one
abbrev pub too_deep : {A : Type 0} → Parser A
too_deep ts = Err (P2, length ts)

unfoldable pub unit : ℕ → Parser FormNode
unit zero = choose openers too_deep side
unit (suc levels) =
    choose (k.NotWord ∷ []) (not_of (unit levels)) (
    choose (k.ParenOpen ∷ []) (group_of (formula_of (unit levels))) (
    choose (k.ForallOtherWord ∷ []) (forall_of (formula_of (unit levels))) side))

abbrev pub formula : ℕ → Parser FormNode
formula levels = formula_of (unit levels)

-- names and bodies
unfoldable pub names : Parser (List Leaf)
names = word k.ParenOpen >>= λ _. until (maybe (k.Name ∷ []) (word k.Name)) >>= λ found. word k.ParenClose >>= λ _. give found

unfoldable pub names_if_any : Parser (List Leaf)
names_if_any = maybe (k.ParenOpen ∷ []) names >>= λ found. give (those found)

unfoldable pub formula_if_any : ℕ → Parser (Option FormNode)
formula_if_any levels = maybe formula_starts (formula levels)

unfoldable pub body : ℕ → List Leaf → Parser BodyNode
body levels found =
    word k.BraceOpen >>= λ _. formula_if_any levels >>= λ f. maybe (k.Semicolon ∷ []) (word k.Semicolon) >>= λ _. word k.BraceClose >>= λ close.
    give (record { names = found; formula = f; close = close })

unfoldable pub named_body : ℕ → Parser BodyNode
named_body levels = names_if_any >>= λ found. body levels found

-- updates
unfoldable pub any : Parser RightNode
any = word k.Question >>= λ mark. give (rights.Any mark)

unfoldable pub right : Parser RightNode
right = choose (k.Question ∷ []) any (sum >>= λ s. give (rights.Sum s))

unfoldable pub case : ℕ → Parser CaseNode
case levels = formula levels >>= λ cond. word k.Colon >>= λ colon. right >>= λ r. give (record { cond = cond; colon = colon; right = r })

unfoldable pub next_case : ℕ → Parser (Option CaseNode)
next_case levels = word k.Bar >>= λ _. maybe formula_starts (case levels)

unfoldable pub cases : ℕ → Parser Value
cases levels =
    word k.CaseWord >>= λ _. until (next_case levels) >>= λ found. word k.Underscore >>= λ _. word k.Colon >>= λ colon. right >>= λ r. give (found, colon, r)

unfoldable pub single : Leaf → Parser Value
single at = right >>= λ r. give ([], at, r)

unfoldable pub value : ℕ → Leaf → Parser Value
value levels at = choose (k.CaseWord ∷ []) (cases levels) (single at)

unfoldable pub update_at : ℕ → Parser UpdateNode
update_at levels = word k.Name >>= λ name. index_if_any >>= λ i. word k.Assign >>= λ at. value levels at >>= λ v. give (update name i v)

unfoldable pub update_behind : ℕ → Parser (Option UpdateNode)
update_behind levels = word k.Semicolon >>= λ _. maybe (k.Name ∷ []) (update_at levels)

unfoldable pub next_update : ℕ → Parser (Option UpdateNode)
next_update levels = choose (k.Semicolon ∷ []) (update_behind levels) (give None)

unfoldable pub updates : ℕ → Parser (List UpdateNode)
updates levels = update_at levels >>= λ first. until (next_update levels) >>= λ others. give (first ∷ others)

unfoldable pub updates_if_any : ℕ → Parser (List UpdateNode)
updates_if_any levels = maybe (k.Name ∷ []) (updates levels) >>= λ found. give (all_of found)

-- declarations, what follows `init`, and the whole
unfoldable pub unsafe_rest : ℕ → Parser RestNode
unsafe_rest levels = word k.UnsafeWord >>= λ _. named_body levels >>= λ b. give (rests.Unsafe b)

unfoldable pub invariant_rest : ℕ → Parser RestNode
invariant_rest levels = word k.InvariantWord >>= λ w. named_body levels >>= λ b. give (rests.Invariant w b)

unfoldable pub guard : ℕ → Parser BodyNode
guard levels = word k.RequiresWord >>= λ _. body levels []

unfoldable pub guard_if_any : ℕ → Parser (Option BodyNode)
guard_if_any levels = maybe (k.RequiresWord ∷ []) (guard levels)

unfoldable pub transition : ℕ → Parser RestNode
transition levels =
    word k.TransitionWord >>= λ _. word k.Name >>= λ name. names_if_any >>= λ found. guard_if_any levels >>= λ g.
    word k.BraceOpen >>= λ _. updates_if_any levels >>= λ us. word k.BraceClose >>= λ _. give (rests.Transition name found g us)

unfoldable pub rest_of : ℕ → Parser RestNode
rest_of levels = choose (k.UnsafeWord ∷ []) (unsafe_rest levels) (choose (k.InvariantWord ∷ []) (invariant_rest levels) (transition levels))

abbrev pub rest_starts : List TokenKind
rest_starts = k.UnsafeWord ∷ k.InvariantWord ∷ k.TransitionWord ∷ []

unfoldable pub next_rest : ℕ → Parser (Option RestNode)
next_rest levels = maybe rest_starts (rest_of levels)

unfoldable pub next_name : Parser (Option Leaf)
next_name = maybe (k.Bar ∷ []) (word k.Bar >>= λ _. word k.Name)

unfoldable pub enumeration : Parser DeclNode
enumeration =
    word k.TypeWord >>= λ _. word k.Name >>= λ name. word k.Equal >>= λ _. maybe (k.Bar ∷ []) (word k.Bar) >>= λ _. word k.Name >>= λ first.
    until next_name >>= λ others. give (decls.Enumeration name (first ∷ others))

unfoldable pub var : Parser DeclNode
var = word k.VarWord >>= λ _. word k.Name >>= λ name. word k.Colon >>= λ _. one_of sorts >>= λ sort. give (decls.Var name sort)

unfoldable pub array : Parser DeclNode
array =
    word k.ArrayWord >>= λ _. word k.Name >>= λ name. word k.BracketOpen >>= λ _. word k.ProcWord >>= λ _. word k.BracketClose >>= λ _.
    word k.Colon >>= λ _. one_of sorts >>= λ sort. give (decls.Array name sort)

unfoldable pub decl : Parser DeclNode
decl = choose (k.TypeWord ∷ []) enumeration (choose (k.VarWord ∷ []) var array)

abbrev pub decl_starts : List TokenKind
decl_starts = k.TypeWord ∷ k.VarWord ∷ k.ArrayWord ∷ []

unfoldable pub next_decl : Parser (Option DeclNode)
next_decl = maybe decl_starts decl

unfoldable pub file : ℕ → Parser Syntax
file levels =
    until next_decl >>= λ ds. word k.InitWord >>= λ _. named_body levels >>= λ init. until (next_rest levels) >>= λ rs.
    give (record { decls = ds; init = init; rests = rs })
