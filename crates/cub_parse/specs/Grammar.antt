-- The grammar of protocol texts, a definition for each production, written above it. The formula behind
-- `forall_other NAME .` reaches as far as it can, and `(`, `not` and `forall_other` nest at most so many levels deep.
use Rattle.std.specs.Prelude.{ℕ, zero, suc, List, [], ◌∷◌, Option, Some, None}
use Rattle.cub_lexer.specs.declared.token.TokenKind.{TokenKind}
use Rattle.cub_lexer.specs.declared.token.TokenKind.TheVariants as k
use Rattle.cub_parse.specs.declared.tree.Leaf.{Leaf}
use Rattle.cub_parse.specs.declared.tree.Syntax.{Syntax}
use Rattle.cub_parse.specs.declared.tree.DeclNode.{DeclNode}
use Rattle.cub_parse.specs.declared.tree.DeclNode.TheVariants as decls
use Rattle.cub_parse.specs.declared.tree.BodyNode.{BodyNode}
use Rattle.cub_parse.specs.declared.tree.RestNode.{RestNode}
use Rattle.cub_parse.specs.declared.tree.RestNode.TheVariants as rests
use Rattle.cub_parse.specs.declared.tree.UpdateNode.{UpdateNode}
use Rattle.cub_parse.specs.declared.tree.CaseNode.{CaseNode}
use Rattle.cub_parse.specs.declared.tree.RightNode.{RightNode}
use Rattle.cub_parse.specs.declared.tree.RightNode.TheVariants as rights
use Rattle.cub_parse.specs.declared.tree.FormNode.{FormNode}
use Rattle.cub_parse.specs.declared.tree.FormNode.TheVariants as n
use Rattle.cub_parse.specs.declared.tree.SumNode.{SumNode}
use Rattle.cub_parse.specs.declared.tree.SumStep.{SumStep}
use Rattle.cub_parse.specs.declared.tree.PartNode.{PartNode}
use Rattle.cub_parse.specs.declared.tree.PartNode.TheVariants as parts
use Rattle.cub_parse.specs.Phrase.{Phrase, OneOf, Word, Is, ◌>>=◌, Either, Maybe, Until, Each, Before}

-- kinds of tokens that stand for one another
abbrev pub sorts : List TokenKind
sorts = k.BoolWord ∷ k.IntWord ∷ k.ProcWord ∷ k.Name ∷ []

abbrev pub signs : List TokenKind
signs = k.Plus ∷ k.Minus ∷ k.Star ∷ []

abbrev pub relations : List TokenKind
relations = k.Equal ∷ k.NotEqual ∷ k.Less ∷ k.LessOrEqual ∷ k.Greater ∷ k.GreaterOrEqual ∷ []

-- what joins formulas
abbrev pub joins : List TokenKind
joins = k.And ∷ k.Or ∷ []

-- index = "[" NAME "]"
abbrev pub Index : Phrase Leaf
Index = Word k.BracketOpen >>= λ _. Word k.Name >>= λ name. Word k.BracketClose >>= λ _. Is name

-- part = "-" NUMBER | NUMBER | NAME [ index ]
abbrev pub Negative : Phrase PartNode
Negative = Word k.Minus >>= λ minus. Word k.Number >>= λ number. Is (parts.Number (Some minus) number)

abbrev pub Plain : Phrase PartNode
Plain = Word k.Number >>= λ number. Is (parts.Number None number)

abbrev pub Named : Phrase PartNode
Named = Word k.Name >>= λ name. Maybe Index >>= λ index. Is (parts.Named name index)

abbrev pub Part : Phrase PartNode
Part = Either Negative (Either Plain Named)

-- sum = part { ( "+" | "-" | "*" ) part }
abbrev pub Step : Phrase SumStep
Step = OneOf signs >>= λ sign. Part >>= λ part. Is (record { sign = sign; part = part })

abbrev pub Sum : Phrase SumNode
Sum = Part >>= λ first. Each Step >>= λ steps. Is (record { first = first; steps = steps })

-- side = sum [ rel sum ]
abbrev pub Compared : Phrase (Leaf × SumNode)
Compared = OneOf relations >>= λ sign. Sum >>= λ b. Is (sign, b)

abbrev pub compared : SumNode → Option (Leaf × SumNode) → FormNode
compared a None = n.Side a
compared a (Some c) = n.Rel a c.0 c.1

abbrev pub Side : Phrase FormNode
Side = Sum >>= λ a. Maybe Compared >>= λ c. Is (compared a c)

-- conj = unit { "&&" unit }, formula = conj { "||" conj }; one part alone is that part
abbrev pub joined : (List FormNode → FormNode) → FormNode → List FormNode → FormNode
joined join first [] = first
joined join first (second ∷ others) = join (first ∷ second ∷ others)

abbrev pub Joined : (List FormNode → FormNode) → TokenKind → Phrase FormNode → Phrase FormNode
Joined join kind R = R >>= λ first. Each (Word kind >>= λ _. R) >>= λ others. Is (joined join first others)

abbrev pub Formula_of : Phrase FormNode → Phrase FormNode
Formula_of Unit_ = Joined n.Or k.Or (Joined n.And k.And Unit_)

-- unit = "not" unit | "(" formula ")" | "forall_other" NAME "." formula | side
abbrev pub Not_of : Phrase FormNode → Phrase FormNode
Not_of Unit_ = Word k.NotWord >>= λ _. Unit_ >>= λ f. Is (n.Not f)

abbrev pub Group_of : Phrase FormNode → Phrase FormNode
Group_of Form = Word k.ParenOpen >>= λ _. Form >>= λ f. Word k.ParenClose >>= λ _. Is (n.Group f)

abbrev pub Forall_of : Phrase FormNode → Phrase FormNode
Forall_of Form = Word k.ForallOtherWord >>= λ word. Word k.Name >>= λ name. Word k.Dot >>= λ _. Before joins Form >>= λ f. Is (n.Forall word name f)

unfoldable pub Unit_in : ℕ → Phrase FormNode
Unit_in zero = Side
Unit_in (suc levels) =
    Either (Not_of (Unit_in levels)) (
    Either (Group_of (Formula_of (Unit_in levels))) (
    Either (Forall_of (Formula_of (Unit_in levels))) Side))

abbrev pub Formula : ℕ → Phrase FormNode
Formula levels = Formula_of (Unit_in levels)

-- names = "(" { NAME } ")"
abbrev pub Names : Phrase (List Leaf)
Names = Word k.ParenOpen >>= λ _. Each (Word k.Name) >>= λ names. Word k.ParenClose >>= λ _. Is names

abbrev pub those : Option (List Leaf) → List Leaf
those None = []
those (Some names) = names

-- [ names ]
abbrev pub NamesIfAny : Phrase (List Leaf)
NamesIfAny = Maybe Names >>= λ names. Is (those names)

-- body = "{" [ formula ] [ ";" ] "}"
abbrev pub Body : ℕ → List Leaf → Phrase BodyNode
Body levels names =
    Word k.BraceOpen >>= λ _. Maybe (Formula levels) >>= λ formula. Maybe (Word k.Semicolon) >>= λ _. Word k.BraceClose >>= λ close.
    Is (record { names = names; formula = formula; close = close })

-- [ names ] body
abbrev pub NamedBody : ℕ → Phrase BodyNode
NamedBody levels = NamesIfAny >>= λ names. Body levels names

-- right = sum | "?"
abbrev pub Any : Phrase RightNode
Any = Word k.Question >>= λ mark. Is (rights.Any mark)

abbrev pub Right : Phrase RightNode
Right = Either Any (Sum >>= λ s. Is (rights.Sum s))

-- case = formula ":" right
abbrev pub Case : ℕ → Phrase CaseNode
Case levels = Formula levels >>= λ cond. Word k.Colon >>= λ colon. Right >>= λ right. Is (record { cond = cond; colon = colon; right = right })

-- what stands behind the target of an update: the branches, the token before the last value, and that value
abbrev pub Value : Type 0
Value = List CaseNode × Leaf × RightNode

-- "case" { "|" case } "|" "_" ":" right
abbrev pub Cases : ℕ → Phrase Value
Cases levels =
    Word k.CaseWord >>= λ _. Until (Word k.Bar >>= λ _. Maybe (Case levels)) >>= λ cases. Word k.Underscore >>= λ _. Word k.Colon >>= λ colon.
    Right >>= λ right. Is (cases, colon, right)

abbrev pub Single : Leaf → Phrase Value
Single at = Right >>= λ right. Is ([], at, right)

abbrev pub update : Leaf → Option Leaf → Value → UpdateNode
update name index v = record { name = name; index = index; branches = v.0; at = v.1; last = v.2 }

-- update = NAME [ index ] ":=" ( cases | right )
abbrev pub Update : ℕ → Phrase UpdateNode
Update levels = Word k.Name >>= λ name. Maybe Index >>= λ index. Word k.Assign >>= λ at. Either (Cases levels) (Single at) >>= λ v. Is (update name index v)

-- updates = update { ";" update } [ ";" ]
abbrev pub NextUpdate : ℕ → Phrase (Option UpdateNode)
NextUpdate levels = Either (Word k.Semicolon >>= λ _. Maybe (Update levels)) (Is None)

abbrev pub Updates : ℕ → Phrase (List UpdateNode)
Updates levels = Update levels >>= λ first. Until (NextUpdate levels) >>= λ others. Is (first ∷ others)

abbrev pub all_of : Option (List UpdateNode) → List UpdateNode
all_of None = []
all_of (Some updates) = updates

-- [ updates ]
abbrev pub UpdatesIfAny : ℕ → Phrase (List UpdateNode)
UpdatesIfAny levels = Maybe (Updates levels) >>= λ updates. Is (all_of updates)

-- rest = "unsafe" [ names ] body | "invariant" [ names ] body
--      | "transition" NAME [ names ] [ "requires" body ] "{" [ updates ] "}"
abbrev pub Unsafe : ℕ → Phrase RestNode
Unsafe levels = Word k.UnsafeWord >>= λ _. NamedBody levels >>= λ body. Is (rests.Unsafe body)

abbrev pub Invariant : ℕ → Phrase RestNode
Invariant levels = Word k.InvariantWord >>= λ word. NamedBody levels >>= λ body. Is (rests.Invariant word body)

abbrev pub Guard : ℕ → Phrase BodyNode
Guard levels = Word k.RequiresWord >>= λ _. Body levels []

abbrev pub Transition : ℕ → Phrase RestNode
Transition levels =
    Word k.TransitionWord >>= λ _. Word k.Name >>= λ name. NamesIfAny >>= λ names. Maybe (Guard levels) >>= λ guard.
    Word k.BraceOpen >>= λ _. UpdatesIfAny levels >>= λ updates. Word k.BraceClose >>= λ _. Is (rests.Transition name names guard updates)

abbrev pub Rest : ℕ → Phrase RestNode
Rest levels = Either (Unsafe levels) (Either (Invariant levels) (Transition levels))

-- decl = "type" NAME "=" [ "|" ] NAME { "|" NAME } | "var" NAME ":" sort | "array" NAME "[" "proc" "]" ":" sort
abbrev pub Enumeration : Phrase DeclNode
Enumeration =
    Word k.TypeWord >>= λ _. Word k.Name >>= λ name. Word k.Equal >>= λ _. Maybe (Word k.Bar) >>= λ _. Word k.Name >>= λ first.
    Each (Word k.Bar >>= λ _. Word k.Name) >>= λ others. Is (decls.Enumeration name (first ∷ others))

abbrev pub Var : Phrase DeclNode
Var = Word k.VarWord >>= λ _. Word k.Name >>= λ name. Word k.Colon >>= λ _. OneOf sorts >>= λ sort. Is (decls.Var name sort)

abbrev pub Array : Phrase DeclNode
Array =
    Word k.ArrayWord >>= λ _. Word k.Name >>= λ name. Word k.BracketOpen >>= λ _. Word k.ProcWord >>= λ _. Word k.BracketClose >>= λ _.
    Word k.Colon >>= λ _. OneOf sorts >>= λ sort. Is (decls.Array name sort)

abbrev pub Decl : Phrase DeclNode
Decl = Either Enumeration (Either Var Array)

-- file = { decl } "init" [ names ] body { rest }
unfoldable pub File : ℕ → Phrase Syntax
File levels =
    Each Decl >>= λ decls. Word k.InitWord >>= λ _. NamedBody levels >>= λ init. Each (Rest levels) >>= λ rests.
    Is (record { decls = decls; init = init; rests = rests })
