-- Each production, read exactly. A condition that closes by `refl` says that the next token decides.
use Rattle.std.proofs.Common.{◌≡◌, ℕ, zero, suc, Bool, true, false, ◌⊎◌, cond, List, [], ◌∷◌, ◌++◌, length, Option, Some, None, Ok, refl, ap, ◌∙◌, sym, inl, inr}
use Rattle.cub_lexer.specs.declared.token.TokenKind.{TokenKind}
use Rattle.cub_lexer.specs.declared.token.TokenKind.TheVariants as k
use Rattle.cub_parse.specs.declared.tree.Leaf.{Leaf}
use Rattle.cub_parse.specs.declared.tree.UpdateNode.{UpdateNode}
use Rattle.cub_parse.specs.declared.tree.CaseNode.{CaseNode}
use Rattle.cub_parse.specs.declared.tree.FormNode.{FormNode}
use Rattle.cub_parse.specs.declared.tree.FormNode.TheVariants as n
use Rattle.cub_parse.specs.Phrase as p
use Rattle.cub_parse.specs.Phrase.{Phrase, is_in, heads}
use Rattle.cub_parse.specs.Grammar as g
use Rattle.cub_parse.specs.Grammar.{sorts, signs, relations, joins}
use Rattle.cub_parse.specs.Parsing as q
use Rattle.cub_parse.specs.Parsing.{Parser, after, until, until_in, openers, formula_starts, rest_starts, decl_starts}
use Rattle.cub_parse.proofs.Exact.{Exact, Ends, Agrees, one_exact, give_exact, bind_exact, choose_exact, before_exact, deep_exact, wider, first_taken, heads_within, quiet_both, given_rest}
use Rattle.cub_parse.proofs.Repeats.{until_exact, until_agrees, maybe_exact, each_exact, each_ends, LeavesAlways, through}

never : {A : Type 0} → false ≡ true → A
never e = absurd cc

pub w : (kind : TokenKind) → is_in kind (kind ∷ []) ≡ true → Exact (p.Word kind) (q.word kind) false (kind ∷ []) [] []
w kind e = one_exact (kind ∷ []) kind e

-- with what the phrases may go on
abbrev pub index_goes : List TokenKind
index_goes = k.BracketOpen ∷ []

abbrev pub part_starts : List TokenKind
part_starts = k.Minus ∷ k.Number ∷ k.Name ∷ []

abbrev pub sum_goes : List TokenKind
sum_goes = k.Plus ∷ k.Minus ∷ k.Star ∷ k.BracketOpen ∷ []

abbrev pub side_goes : List TokenKind
side_goes = k.Equal ∷ k.NotEqual ∷ k.Less ∷ k.LessOrEqual ∷ k.Greater ∷ k.GreaterOrEqual ∷ k.Plus ∷ k.Minus ∷ k.Star ∷ k.BracketOpen ∷ []

abbrev pub conj_goes : List TokenKind
conj_goes = k.And ∷ side_goes

abbrev pub form_goes : List TokenKind
form_goes = k.And ∷ k.Or ∷ side_goes

abbrev pub body_goes : List TokenKind
body_goes = k.NotWord ∷ k.ParenOpen ∷ k.ForallOtherWord ∷ k.Number ∷ k.Name ∷ form_goes

abbrev pub case_goes : List TokenKind
case_goes = k.NotWord ∷ k.ParenOpen ∷ k.ForallOtherWord ∷ k.Number ∷ k.Name ∷ sum_goes

abbrev pub behind_goes : List TokenKind
behind_goes = k.Name ∷ sum_goes

abbrev pub update_goes : List TokenKind
update_goes = k.Semicolon ∷ k.Name ∷ sum_goes

abbrev pub decl_goes : List TokenKind
decl_goes = k.TypeWord ∷ k.VarWord ∷ k.ArrayWord ∷ k.Bar ∷ []

pub index_exact : Exact g.Index q.index false (k.BracketOpen ∷ []) [] []
unfolding q.index
index_exact = bind_exact (w k.BracketOpen refl) (λ _. bind_exact (w k.Name refl) (λ name. bind_exact (w k.BracketClose refl) (λ _. give_exact _ [] []) refl refl) refl refl) refl refl

pub negative_exact : Exact g.Negative q.negative false (k.Minus ∷ []) [] []
unfolding q.negative
negative_exact = bind_exact (w k.Minus refl) (λ minus. bind_exact (w k.Number refl) (λ number. give_exact _ [] []) refl refl) refl refl

pub plain_exact : Exact g.Plain q.plain false (k.Number ∷ []) [] []
unfolding q.plain
plain_exact = bind_exact (w k.Number refl) (λ number. give_exact _ [] []) refl refl

pub index_if_any_exact : Exact (p.Maybe g.Index) q.index_if_any true (k.BracketOpen ∷ []) index_goes index_goes
unfolding q.index_if_any
index_if_any_exact = maybe_exact (k.BracketOpen ∷ []) index_goes index_goes (index_exact) refl refl refl refl refl refl refl

pub named_exact : Exact g.Named q.named false (k.Name ∷ []) index_goes index_goes
unfolding q.named
named_exact = bind_exact (w k.Name refl) (λ name. bind_exact (index_if_any_exact) (λ index. give_exact _ index_goes index_goes) refl refl) refl refl

pub part_exact : Exact g.Part q.part false (part_starts) index_goes index_goes
unfolding q.part
part_exact = choose_exact (k.Minus ∷ []) index_goes index_goes (negative_exact) (choose_exact (k.Number ∷ []) index_goes index_goes (plain_exact) (named_exact) refl refl refl refl refl refl (λ e. never e)) refl refl refl refl refl refl (λ e. never e)

pub step_exact : Exact g.Step q.step false (signs) index_goes index_goes
unfolding q.step
step_exact = bind_exact (one_exact signs k.Plus refl) (λ sign. bind_exact (part_exact) (λ part. give_exact _ index_goes index_goes) refl refl) refl refl

pub sum_exact : Exact g.Sum q.sum false (part_starts) sum_goes sum_goes
unfolding q.sum q.next_step
sum_exact = bind_exact (part_exact) (λ first. bind_exact (each_exact (signs) sum_goes sum_goes (step_exact) refl refl refl refl refl refl refl refl refl) (λ steps. give_exact _ sum_goes sum_goes) refl refl) refl refl

pub comparison_exact : Exact g.Compared q.comparison false (relations) sum_goes sum_goes
unfolding q.comparison
comparison_exact = bind_exact (one_exact relations k.Equal refl) (λ sign. bind_exact (sum_exact) (λ b. give_exact _ sum_goes sum_goes) refl refl) refl refl

pub side_exact : Exact g.Side q.side false (part_starts) side_goes side_goes
unfolding q.side q.comparison_if_any
side_exact = bind_exact (sum_exact) (λ a. bind_exact (maybe_exact (relations) side_goes side_goes (comparison_exact) refl refl refl refl refl refl refl) (λ c. give_exact _ side_goes side_goes) refl refl) refl refl

-- formulas over units
pub item_exact : (kind : TokenKind) → is_in kind (kind ∷ []) ≡ true → {U : Phrase FormNode} {r : Parser FormNode} {gs s : List TokenKind} → Exact U r false formula_starts gs s → Exact (p.◌>>=◌ (p.Word kind) (λ _. U)) (q.joined_item kind r) false (kind ∷ []) gs s
item_exact kind e unit = bind_exact (w kind e) (λ _. unit) refl refl

pub conj_exact : {U : Phrase FormNode} {r : Parser FormNode} → Exact U r false formula_starts side_goes form_goes → Exact (g.Joined n.And k.And U) (q.conj_of r) false formula_starts conj_goes form_goes
unfolding q.join_of
conj_exact unit = bind_exact (unit) (λ first. bind_exact (each_exact (k.And ∷ []) conj_goes form_goes (item_exact k.And refl unit) refl refl refl refl refl refl refl refl refl) (λ others. give_exact _ conj_goes form_goes) refl refl) refl refl

pub formula_exact_of : {U : Phrase FormNode} {r : Parser FormNode} → Exact U r false formula_starts side_goes form_goes → Exact (g.Formula_of U) (q.formula_of r) false formula_starts form_goes form_goes
unfolding q.join_of
formula_exact_of unit = bind_exact (conj_exact unit) (λ first. bind_exact (each_exact (k.Or ∷ []) form_goes form_goes (item_exact k.Or refl (conj_exact unit)) refl refl refl refl refl refl refl refl refl) (λ others. give_exact _ form_goes form_goes) refl refl) refl refl

-- behind a list of parts no further part begins
join_ends : (join : List FormNode → FormNode) (kind : TokenKind) (r : Parser FormNode) (Q : List Leaf → Type 0) → LeavesAlways r Q → LeavesAlways (q.joined_item kind r) Q →
    (ts : List Leaf) (a : FormNode) (rest : List Leaf) → q.join_of join kind r ts ≡ Ok (a, rest) → (heads (kind ∷ []) rest ≡ false) × Q rest
unfolding q.join_of
join_ends join kind r Q one others ts a rest h =
    let t = through (λ first. q.◌>>=◌ (until (q.next_joined kind r)) (λ others. q.give (g.joined join first others))) a rest (r ts) h in
    let u = through (λ others. q.give (g.joined join t.0 others)) a rest (until (q.next_joined kind r) t.1) t.3 in
    let m : u.1 ≡ rest = given_rest (g.joined join t.0 u.0) a u.1 rest u.3 in
    each_ends (kind ∷ []) (q.joined_item kind r) Q (suc (length t.1)) t.1 u.0 rest (one ts t.0 t.1 t.2) others (u.2 ∙ ap (λ us. Ok (u.0, us)) m)

item_leaves : (kind : TokenKind) (r : Parser FormNode) (Q : List Leaf → Type 0) → LeavesAlways r Q → LeavesAlways (q.joined_item kind r) Q
item_leaves kind r Q one ts a rest h = let t = through (λ _. r) a rest (q.word kind ts) h in one t.1 a rest t.3

conj_leaves : (r : Parser FormNode) → LeavesAlways (q.conj_of r) (λ us. heads (k.And ∷ []) us ≡ false)
conj_leaves r ts a rest h = (join_ends n.And k.And r (λ us. Unit {0}) (λ us b left i. tt) (λ us b left i. tt) ts a rest h).0

pub formula_ends : (r : Parser FormNode) → Ends (q.formula_of r) joins
formula_ends r ts a rest h =
    let e = join_ends n.Or k.Or (q.conj_of r) (λ us. heads (k.And ∷ []) us ≡ false) (conj_leaves r) (item_leaves k.Or (q.conj_of r) (λ us. heads (k.And ∷ []) us ≡ false) (conj_leaves r)) ts a rest h in
    quiet_both (k.And ∷ []) (k.Or ∷ []) rest e.1 e.0

pub not_exact : {U : Phrase FormNode} {r : Parser FormNode} → Exact U r false formula_starts side_goes form_goes → Exact (g.Not_of U) (q.not_of r) false (k.NotWord ∷ []) side_goes form_goes
unfolding q.not_of
not_exact unit = bind_exact (w k.NotWord refl) (λ _. bind_exact (unit) (λ f. give_exact _ side_goes form_goes) refl refl) refl refl

pub group_exact : {U : Phrase FormNode} {r : Parser FormNode} → Exact U r false formula_starts side_goes form_goes → Exact (g.Group_of (g.Formula_of U)) (q.group_of (q.formula_of r)) false (k.ParenOpen ∷ []) [] []
unfolding q.group_of
group_exact unit = bind_exact (w k.ParenOpen refl) (λ _. bind_exact (formula_exact_of unit) (λ f. bind_exact (w k.ParenClose refl) (λ _. give_exact _ [] []) refl refl) refl refl) refl refl

pub forall_exact : {U : Phrase FormNode} {r : Parser FormNode} → Exact U r false formula_starts side_goes form_goes → Exact (g.Forall_of (g.Formula_of U)) (q.forall_of (q.formula_of r)) false (k.ForallOtherWord ∷ []) side_goes form_goes
unfolding q.forall_of
forall_exact {r = r} unit = bind_exact (w k.ForallOtherWord refl) (λ word. bind_exact (w k.Name refl) (λ name. bind_exact (w k.Dot refl) (λ _. bind_exact (before_exact joins side_goes (formula_exact_of unit) (formula_ends r) refl refl) (λ f. give_exact _ side_goes form_goes) refl refl) refl refl) refl refl) refl refl

pub unit_exact : (levels : ℕ) → Exact (g.Unit_in levels) (q.unit levels) false formula_starts side_goes form_goes
unfolding g.Unit_in q.unit
unit_exact zero = wider formula_starts side_goes form_goes (deep_exact openers side_exact refl) refl refl refl
unit_exact (suc levels) = choose_exact (k.NotWord ∷ []) side_goes form_goes (not_exact (unit_exact levels)) (choose_exact (k.ParenOpen ∷ []) side_goes form_goes (group_exact (unit_exact levels)) (choose_exact (k.ForallOtherWord ∷ []) side_goes form_goes (forall_exact (unit_exact levels)) (side_exact) refl refl refl refl refl refl (λ e. never e)) refl refl refl refl refl refl (λ e. never e)) refl refl refl refl refl refl (λ e. never e)

pub formula_exact : (levels : ℕ) → Exact (g.Formula levels) (q.formula levels) false formula_starts form_goes form_goes
formula_exact levels = formula_exact_of (unit_exact levels)

pub names_exact : Exact g.Names q.names false (k.ParenOpen ∷ []) [] []
unfolding q.names
names_exact = bind_exact (w k.ParenOpen refl) (λ _. bind_exact (each_exact (k.Name ∷ []) (k.Name ∷ []) (k.Name ∷ []) (w k.Name refl) refl refl refl refl refl refl refl refl refl) (λ names. bind_exact (w k.ParenClose refl) (λ _. give_exact _ [] []) refl refl) refl refl) refl refl

pub names_if_any_exact : Exact g.NamesIfAny q.names_if_any true (k.ParenOpen ∷ []) (k.ParenOpen ∷ []) (k.ParenOpen ∷ [])
unfolding q.names_if_any
names_if_any_exact = bind_exact (maybe_exact (k.ParenOpen ∷ []) (k.ParenOpen ∷ []) (k.ParenOpen ∷ []) (names_exact) refl refl refl refl refl refl refl) (λ names. give_exact _ (k.ParenOpen ∷ []) (k.ParenOpen ∷ [])) refl refl

pub body_exact : (levels : ℕ) (names : List Leaf) → Exact (g.Body levels names) (q.body levels names) false (k.BraceOpen ∷ []) [] []
unfolding q.body q.formula_if_any
body_exact levels names = bind_exact (w k.BraceOpen refl) (λ _. bind_exact (maybe_exact (formula_starts) body_goes body_goes (formula_exact levels) refl refl refl refl refl refl refl) (λ formula. bind_exact (maybe_exact (k.Semicolon ∷ []) (k.Semicolon ∷ []) (k.Semicolon ∷ []) (w k.Semicolon refl) refl refl refl refl refl refl refl) (λ _. bind_exact (w k.BraceClose refl) (λ close. give_exact _ [] []) refl refl) refl refl) refl refl) refl refl

pub named_body_exact : (levels : ℕ) → Exact (g.NamedBody levels) (q.named_body levels) false (k.ParenOpen ∷ k.BraceOpen ∷ []) [] []
unfolding q.named_body
named_body_exact levels = bind_exact (names_if_any_exact) (λ names. body_exact levels names) refl refl

pub any_exact : Exact g.Any q.any false (k.Question ∷ []) [] []
unfolding q.any
any_exact = bind_exact (w k.Question refl) (λ mark. give_exact _ [] []) refl refl

pub right_exact : Exact g.Right q.right false (k.Question ∷ part_starts) sum_goes sum_goes
unfolding q.right
right_exact = choose_exact (k.Question ∷ []) sum_goes sum_goes (any_exact) (bind_exact (sum_exact) (λ s. give_exact _ sum_goes sum_goes) refl refl) refl refl refl refl refl refl (λ e. never e)

pub case_exact : (levels : ℕ) → Exact (g.Case levels) (q.case levels) false (formula_starts) sum_goes sum_goes
unfolding q.case
case_exact levels = bind_exact (formula_exact levels) (λ cond. bind_exact (w k.Colon refl) (λ colon. bind_exact (right_exact) (λ right. give_exact _ sum_goes sum_goes) refl refl) refl refl) refl refl

pub next_case_exact : (levels : ℕ) → Exact (p.◌>>=◌ (p.Word k.Bar) (λ _. p.Maybe (g.Case levels))) (q.next_case levels) false (k.Bar ∷ []) case_goes case_goes
unfolding q.next_case
next_case_exact levels = bind_exact (w k.Bar refl) (λ _. maybe_exact (formula_starts) case_goes case_goes (case_exact levels) refl refl refl refl refl refl refl) refl refl

leaf : TokenKind → Leaf
leaf kind = record { number = 0; token = record { kind = kind; at = 0; len = 0 } }

pub branches_exact : (levels : ℕ) → Exact (p.Until (p.◌>>=◌ (p.Word k.Bar) (λ _. p.Maybe (g.Case levels)))) (until (q.next_case levels)) false (k.Bar ∷ []) case_goes case_goes
unfolding leaf
branches_exact levels =
    until_exact (next_case_exact levels) (λ a h. let e = first_taken (next_case_exact levels) [] (Some a) [] h in cc) case_goes (λ ts a rest h quiet. (next_case_exact levels).takes ts (Some a) rest h quiet)
    refl refl (leaf k.Bar, [], refl, λ rest quiet. (leaf k.Bar, rest, (refl, refl), inr (refl, refl))) refl refl

pub branches_agrees : (levels : ℕ) {t : Parser (Option CaseNode)} → Agrees (p.◌>>=◌ (p.Word k.Bar) (λ _. p.Maybe (g.Case levels))) case_goes t (q.next_case levels) →
    Agrees (p.Until (p.◌>>=◌ (p.Word k.Bar) (λ _. p.Maybe (g.Case levels)))) case_goes (until t) (until (q.next_case levels))
unfolding leaf
branches_agrees levels {t} a =
    until_agrees (next_case_exact levels) (λ a h. let e = first_taken (next_case_exact levels) [] (Some a) [] h in cc) case_goes (λ ts a rest h quiet. (next_case_exact levels).takes ts (Some a) rest h quiet) t a
    (leaf k.Bar, [], refl, λ rest quiet. (leaf k.Bar, rest, (refl, refl), inr (refl, refl))) refl refl

pub cases_exact : (levels : ℕ) → Exact (g.Cases levels) (q.cases levels) false (k.CaseWord ∷ []) sum_goes sum_goes
unfolding q.cases
cases_exact levels = bind_exact (w k.CaseWord refl) (λ _. bind_exact (branches_exact levels) (λ cases. bind_exact (w k.Underscore refl) (λ _. bind_exact (w k.Colon refl) (λ colon. bind_exact (right_exact) (λ right. give_exact _ sum_goes sum_goes) refl refl) refl refl) refl refl) refl refl) refl refl

pub single_exact : (at : Leaf) → Exact (g.Single at) (q.single at) false (k.Question ∷ part_starts) sum_goes sum_goes
unfolding q.single
single_exact at = bind_exact (right_exact) (λ right. give_exact _ sum_goes sum_goes) refl refl

pub value_exact : (levels : ℕ) (at : Leaf) → Exact (p.Either (g.Cases levels) (g.Single at)) (q.value levels at) false (k.CaseWord ∷ k.Question ∷ part_starts) sum_goes sum_goes
unfolding q.value
value_exact levels at = choose_exact (k.CaseWord ∷ []) sum_goes sum_goes (cases_exact levels) (single_exact at) refl refl refl refl refl refl (λ e. never e)

pub update_exact : (levels : ℕ) → Exact (g.Update levels) (q.update_at levels) false (k.Name ∷ []) sum_goes sum_goes
unfolding q.update_at
update_exact levels = bind_exact (w k.Name refl) (λ name. bind_exact (index_if_any_exact) (λ index. bind_exact (w k.Assign refl) (λ at. bind_exact (value_exact levels at) (λ v. give_exact _ sum_goes sum_goes) refl refl) refl refl) refl refl) refl refl

pub update_behind_exact : (levels : ℕ) → Exact (p.◌>>=◌ (p.Word k.Semicolon) (λ _. p.Maybe (g.Update levels))) (q.update_behind levels) false (k.Semicolon ∷ []) behind_goes behind_goes
unfolding q.update_behind
update_behind_exact levels = bind_exact (w k.Semicolon refl) (λ _. maybe_exact (k.Name ∷ []) behind_goes behind_goes (update_exact levels) refl refl refl refl refl refl refl) refl refl

pub next_update_exact : (levels : ℕ) → Exact (g.NextUpdate levels) (q.next_update levels) true (k.Semicolon ∷ []) update_goes update_goes
unfolding q.next_update
next_update_exact levels = choose_exact (k.Semicolon ∷ []) update_goes update_goes (update_behind_exact levels) (give_exact None [] []) refl refl refl refl refl refl (λ e. (refl, refl))

update_eats : (levels : ℕ) (a : UpdateNode) → g.NextUpdate levels [] (Some a) [] → ⊥
update_eats levels a (inl h) = let e = first_taken (update_behind_exact levels) [] (Some a) [] h in cc
update_eats levels a (inr h) = let e = h.0 in cc

pub update_takes : (levels : ℕ) (ts : List Leaf) (a : UpdateNode) (rest : List Leaf) → g.NextUpdate levels ts (Some a) rest → heads behind_goes rest ≡ false → q.next_update levels ts ≡ Ok (Some a, rest)
unfolding q.next_update
update_takes levels ts a rest (inl h) quiet =
    ap (λ t. cond t (q.update_behind levels ts) (q.give None ts)) (first_taken (update_behind_exact levels) ts (Some a) rest h) ∙ (update_behind_exact levels).takes ts (Some a) rest h quiet
update_takes levels ts a rest (inr h) quiet = let e = h.0 in absurd cc

pub further_exact : (levels : ℕ) → Exact (p.Until (g.NextUpdate levels)) (until (q.next_update levels)) true (k.Semicolon ∷ []) update_goes update_goes
further_exact levels = until_exact (next_update_exact levels) (update_eats levels) behind_goes (update_takes levels) refl refl (λ rest quiet. inr (refl, refl)) refl refl

pub further_agrees : (levels : ℕ) {t : Parser (Option UpdateNode)} → Agrees (g.NextUpdate levels) update_goes t (q.next_update levels) → Agrees (p.Until (g.NextUpdate levels)) update_goes (until t) (until (q.next_update levels))
further_agrees levels {t} a = until_agrees (next_update_exact levels) (update_eats levels) behind_goes (update_takes levels) t a (λ rest quiet. inr (refl, refl)) refl refl

pub updates_exact : (levels : ℕ) → Exact (g.Updates levels) (q.updates levels) false (k.Name ∷ []) update_goes update_goes
unfolding q.updates
updates_exact levels = bind_exact (update_exact levels) (λ first. bind_exact (further_exact levels) (λ others. give_exact _ update_goes update_goes) refl refl) refl refl

pub updates_if_any_exact : (levels : ℕ) → Exact (g.UpdatesIfAny levels) (q.updates_if_any levels) true (k.Name ∷ []) update_goes update_goes
unfolding q.updates_if_any
updates_if_any_exact levels = bind_exact (maybe_exact (k.Name ∷ []) update_goes update_goes (updates_exact levels) refl refl refl refl refl refl refl) (λ updates. give_exact _ update_goes update_goes) refl refl

pub unsafe_exact : (levels : ℕ) → Exact (g.Unsafe levels) (q.unsafe_rest levels) false (k.UnsafeWord ∷ []) [] []
unfolding q.unsafe_rest
unsafe_exact levels = bind_exact (w k.UnsafeWord refl) (λ _. bind_exact (named_body_exact levels) (λ body. give_exact _ [] []) refl refl) refl refl

pub invariant_exact : (levels : ℕ) → Exact (g.Invariant levels) (q.invariant_rest levels) false (k.InvariantWord ∷ []) [] []
unfolding q.invariant_rest
invariant_exact levels = bind_exact (w k.InvariantWord refl) (λ word. bind_exact (named_body_exact levels) (λ body. give_exact _ [] []) refl refl) refl refl

pub guard_exact : (levels : ℕ) → Exact (g.Guard levels) (q.guard levels) false (k.RequiresWord ∷ []) [] []
unfolding q.guard
guard_exact levels = bind_exact (w k.RequiresWord refl) (λ _. body_exact levels []) refl refl

pub guard_if_any_exact : (levels : ℕ) → Exact (p.Maybe (g.Guard levels)) (q.guard_if_any levels) true (k.RequiresWord ∷ []) (k.RequiresWord ∷ []) (k.RequiresWord ∷ [])
unfolding q.guard_if_any
guard_if_any_exact levels = maybe_exact (k.RequiresWord ∷ []) (k.RequiresWord ∷ []) (k.RequiresWord ∷ []) (guard_exact levels) refl refl refl refl refl refl refl

pub transition_exact : (levels : ℕ) → Exact (g.Transition levels) (q.transition levels) false (k.TransitionWord ∷ []) [] []
unfolding q.transition
transition_exact levels = bind_exact (w k.TransitionWord refl) (λ _. bind_exact (w k.Name refl) (λ name. bind_exact (names_if_any_exact) (λ names. bind_exact (guard_if_any_exact levels) (λ guard. bind_exact (w k.BraceOpen refl) (λ _. bind_exact (updates_if_any_exact levels) (λ updates. bind_exact (w k.BraceClose refl) (λ _. give_exact _ [] []) refl refl) refl refl) refl refl) refl refl) refl refl) refl refl) refl refl

pub rest_exact : (levels : ℕ) → Exact (g.Rest levels) (q.rest_of levels) false (rest_starts) [] []
unfolding q.rest_of
rest_exact levels = choose_exact (k.UnsafeWord ∷ []) [] [] (unsafe_exact levels) (choose_exact (k.InvariantWord ∷ []) [] [] (invariant_exact levels) (transition_exact levels) refl refl refl refl refl refl (λ e. never e)) refl refl refl refl refl refl (λ e. never e)

more_names_exact : Exact (p.◌>>=◌ (p.Word k.Bar) (λ _. p.Word k.Name)) (q.◌>>=◌ (q.word k.Bar) (λ _. q.word k.Name)) false (k.Bar ∷ []) [] []
more_names_exact = bind_exact (w k.Bar refl) (λ _. w k.Name refl) refl refl

pub enumeration_exact : Exact g.Enumeration q.enumeration false (k.TypeWord ∷ []) (k.Bar ∷ []) (k.Bar ∷ [])
unfolding q.enumeration q.next_name
enumeration_exact = bind_exact (w k.TypeWord refl) (λ _. bind_exact (w k.Name refl) (λ name. bind_exact (w k.Equal refl) (λ _. bind_exact (maybe_exact (k.Bar ∷ []) (k.Bar ∷ []) (k.Bar ∷ []) (w k.Bar refl) refl refl refl refl refl refl refl) (λ _. bind_exact (w k.Name refl) (λ first. bind_exact (each_exact (k.Bar ∷ []) (k.Bar ∷ []) (k.Bar ∷ []) (more_names_exact) refl refl refl refl refl refl refl refl refl) (λ others. give_exact _ (k.Bar ∷ []) (k.Bar ∷ [])) refl refl) refl refl) refl refl) refl refl) refl refl) refl refl

pub var_exact : Exact g.Var q.var false (k.VarWord ∷ []) [] []
unfolding q.var
var_exact = bind_exact (w k.VarWord refl) (λ _. bind_exact (w k.Name refl) (λ name. bind_exact (w k.Colon refl) (λ _. bind_exact (one_exact sorts k.Name refl) (λ sort. give_exact _ [] []) refl refl) refl refl) refl refl) refl refl

pub array_exact : Exact g.Array q.array false (k.ArrayWord ∷ []) [] []
unfolding q.array
array_exact = bind_exact (w k.ArrayWord refl) (λ _. bind_exact (w k.Name refl) (λ name. bind_exact (w k.BracketOpen refl) (λ _. bind_exact (w k.ProcWord refl) (λ _. bind_exact (w k.BracketClose refl) (λ _. bind_exact (w k.Colon refl) (λ _. bind_exact (one_exact sorts k.Name refl) (λ sort. give_exact _ [] []) refl refl) refl refl) refl refl) refl refl) refl refl) refl refl) refl refl

pub decl_exact : Exact g.Decl q.decl false (decl_starts) (k.Bar ∷ []) (k.Bar ∷ [])
unfolding q.decl
decl_exact = choose_exact (k.TypeWord ∷ []) (k.Bar ∷ []) (k.Bar ∷ []) (enumeration_exact) (choose_exact (k.VarWord ∷ []) (k.Bar ∷ []) (k.Bar ∷ []) (var_exact) (array_exact) refl refl refl refl refl refl (λ e. never e)) refl refl refl refl refl refl (λ e. never e)

pub file_exact : (levels : ℕ) → Exact (g.File levels) (q.file levels) false (k.TypeWord ∷ k.VarWord ∷ k.ArrayWord ∷ k.InitWord ∷ []) rest_starts rest_starts
unfolding g.File q.file q.next_decl q.next_rest
file_exact levels = bind_exact (each_exact (decl_starts) decl_goes decl_goes (decl_exact) refl refl refl refl refl refl refl refl refl) (λ decls. bind_exact (w k.InitWord refl) (λ _. bind_exact (named_body_exact levels) (λ init. bind_exact (each_exact (rest_starts) rest_starts rest_starts (rest_exact levels) refl refl refl refl refl refl refl refl refl) (λ rests. give_exact _ rest_starts rest_starts) refl refl) refl refl) refl refl) refl refl
