-- Fewer levels and more read alike, up to a token that opens a level too many, with which the more levels go on.
use Rattle.std.proofs.Common.{◌≡◌, ℕ, zero, suc, ◌+◌, ◌<◌, ◌≤◌, Bool, true, false, ◌⊎◌, cond, List, [], ◌∷◌, ◌++◌, length, Option, Some, None, Ok, Err, refl, ap, ◌∙◌, sym, subst, inl, inr, arith, append_assoc}
use Rattle.std.proofs.lemmas.Bool.{or_cases, or_parts}
use denote.Enum.Bare.{sameb}
use Rattle.cub_lexer.specs.declared.token.TokenKind.{TokenKind}
use Rattle.cub_lexer.specs.declared.token.TokenKind.TheVariants as k
use Rattle.cub_lexer.specs.contracts.token.TokenKind.{the_type}
use Rattle.cub_parse.specs.declared.fault.ParseKind.TheVariants.{P1, P2}
use Rattle.cub_parse.specs.declared.tree.Leaf.{Leaf}
use Rattle.cub_parse.specs.declared.tree.FormNode.{FormNode}
use Rattle.cub_parse.specs.declared.tree.FormNode.TheVariants as n
use Rattle.cub_parse.specs.declared.tree.RightNode.TheVariants as rights
use Rattle.cub_parse.specs.Phrase as p
use Rattle.cub_parse.specs.Phrase.{Phrase, is_in, heads}
use Rattle.cub_parse.specs.Grammar as g
use Rattle.cub_parse.specs.Grammar.{sorts, signs, relations, joins}
use Rattle.cub_parse.specs.Parsing as q
use Rattle.cub_parse.specs.Parsing.{Parser, Read, after, until, openers, formula_starts, rest_starts, decl_starts}
use Rattle.cub_parse.proofs.Exact.{Exact, Ends, Begins, Deeper, Agrees, NotDeep, Plain, plain_one, plain_bind, plain_choose, plain_maybe, plain_until, one_exact, give_exact, bind_exact, choose_exact, before_exact, quiet_within, same_agrees, bind_agrees, choose_agrees, before_agrees, same}
use Rattle.cub_parse.proofs.Repeats.{maybe_exact, each_exact, maybe_agrees, each_agrees, until_agrees}
use Rattle.cub_parse.proofs.Productions as e
use Rattle.cub_parse.proofs.Productions.{w, index_goes, part_starts, sum_goes, side_goes, conj_goes, form_goes, body_goes, case_goes, behind_goes, update_goes, decl_goes, unit_exact, formula_exact, item_exact, conj_exact, formula_exact_of, not_exact, group_exact, forall_exact, formula_ends, side_exact, names_if_any_exact, body_exact, named_body_exact, right_exact, case_exact, next_case_exact, branches_exact, cases_exact, single_exact, value_exact, update_exact, update_behind_exact, next_update_exact, further_exact, updates_exact, updates_if_any_exact, unsafe_exact, invariant_exact, guard_exact, guard_if_any_exact, transition_exact, rest_exact, decl_exact, index_if_any_exact}

plain_index : Plain q.index
unfolding q.index
plain_index = plain_bind _ _ (plain_one (k.BracketOpen ∷ [])) (λ _. plain_bind _ _ (plain_one (k.Name ∷ [])) (λ name. plain_bind _ _ (plain_one (k.BracketClose ∷ [])) (λ _. (λ ts. tt))))

plain_index_if_any : Plain q.index_if_any
unfolding q.index_if_any
plain_index_if_any = plain_maybe (k.BracketOpen ∷ []) q.index plain_index

plain_negative : Plain q.negative
unfolding q.negative
plain_negative = plain_bind _ _ (plain_one (k.Minus ∷ [])) (λ _. plain_bind _ _ (plain_one (k.Number ∷ [])) (λ _. (λ ts. tt)))

plain_plain : Plain q.plain
unfolding q.plain
plain_plain = plain_bind _ _ (plain_one (k.Number ∷ [])) (λ _. (λ ts. tt))

plain_named : Plain q.named
unfolding q.named
plain_named = plain_bind _ _ (plain_one (k.Name ∷ [])) (λ _. plain_bind _ _ (plain_index_if_any) (λ _. (λ ts. tt)))

plain_part : Plain q.part
unfolding q.part
plain_part = plain_choose (k.Minus ∷ []) q.negative (q.choose (k.Number ∷ []) q.plain q.named) plain_negative (plain_choose (k.Number ∷ []) q.plain q.named plain_plain plain_named)

plain_sum : Plain q.sum
unfolding q.sum q.next_step q.step
plain_sum = plain_bind _ _ (plain_part) (λ _. plain_bind _ _ (plain_until _ (plain_maybe signs _ (plain_bind _ _ (plain_one signs) (λ _. plain_bind _ _ (plain_part) (λ _. (λ ts. tt)))))) (λ _. (λ ts. tt)))

plain_side : Plain q.side
unfolding q.side q.comparison_if_any q.comparison
plain_side = plain_bind _ _ (plain_sum) (λ _. plain_bind _ _ (plain_maybe relations _ (plain_bind _ _ (plain_one relations) (λ _. plain_bind _ _ (plain_sum) (λ _. (λ ts. tt))))) (λ _. (λ ts. tt)))

plain_names_if_any : Plain q.names_if_any
unfolding q.names_if_any q.names
plain_names_if_any = plain_bind _ _ (plain_maybe (k.ParenOpen ∷ []) _ (plain_bind _ _ (plain_one (k.ParenOpen ∷ [])) (λ _. plain_bind _ _ (plain_until _ (plain_maybe (k.Name ∷ []) _ (plain_one (k.Name ∷ [])))) (λ _. plain_bind _ _ (plain_one (k.ParenClose ∷ [])) (λ _. (λ ts. tt)))))) (λ _. (λ ts. tt))

plain_any : Plain q.any
unfolding q.any
plain_any = plain_bind _ _ (plain_one (k.Question ∷ [])) (λ _. (λ ts. tt))

plain_right : Plain q.right
unfolding q.right
plain_right = plain_choose (k.Question ∷ []) q.any (q.◌>>=◌ q.sum (λ s. q.give (rights.Sum s))) plain_any (plain_bind q.sum (λ s. q.give (rights.Sum s)) plain_sum (λ s ts. tt))

plain_single : (at : Leaf) → Plain (q.single at)
unfolding q.single
plain_single at = plain_bind _ _ (plain_right) (λ _. (λ ts. tt))

plain_enumeration : Plain q.enumeration
unfolding q.enumeration q.next_name
plain_enumeration = plain_bind _ _ (plain_one (k.TypeWord ∷ [])) (λ _. plain_bind _ _ (plain_one (k.Name ∷ [])) (λ _. plain_bind _ _ (plain_one (k.Equal ∷ [])) (λ _. plain_bind _ _ (plain_maybe (k.Bar ∷ []) (q.word k.Bar) (plain_one (k.Bar ∷ []))) (λ _. plain_bind _ _ (plain_one (k.Name ∷ [])) (λ _. plain_bind _ _ (plain_until (q.maybe (k.Bar ∷ []) (q.◌>>=◌ (q.word k.Bar) (λ _. q.word k.Name))) (plain_maybe (k.Bar ∷ []) (q.◌>>=◌ (q.word k.Bar) (λ _. q.word k.Name)) (plain_bind (q.word k.Bar) (λ _. q.word k.Name) (plain_one (k.Bar ∷ [])) (λ _. plain_one (k.Name ∷ []))))) (λ _. (λ ts. tt)))))))

plain_var : Plain q.var
unfolding q.var
plain_var = plain_bind _ _ (plain_one (k.VarWord ∷ [])) (λ _. plain_bind _ _ (plain_one (k.Name ∷ [])) (λ _. plain_bind _ _ (plain_one (k.Colon ∷ [])) (λ _. plain_bind _ _ (plain_one sorts) (λ _. (λ ts. tt)))))

plain_array : Plain q.array
unfolding q.array
plain_array = plain_bind _ _ (plain_one (k.ArrayWord ∷ [])) (λ _. plain_bind _ _ (plain_one (k.Name ∷ [])) (λ _. plain_bind _ _ (plain_one (k.BracketOpen ∷ [])) (λ _. plain_bind _ _ (plain_one (k.ProcWord ∷ [])) (λ _. plain_bind _ _ (plain_one (k.BracketClose ∷ [])) (λ _. plain_bind _ _ (plain_one (k.Colon ∷ [])) (λ _. plain_bind _ _ (plain_one sorts) (λ _. (λ ts. tt))))))))

plain_decl : Plain q.decl
unfolding q.decl
plain_decl = plain_choose (k.TypeWord ∷ []) q.enumeration (q.choose (k.VarWord ∷ []) q.var q.array) plain_enumeration (plain_choose (k.VarWord ∷ []) q.var q.array plain_var plain_array)

plain_decls : Plain (until (q.maybe decl_starts q.decl))
unfolding q.decl
plain_decls = plain_until (q.maybe decl_starts q.decl) (plain_maybe decl_starts q.decl plain_decl)

item_agrees : (kind : TokenKind) (i : is_in kind (kind ∷ []) ≡ true) {U : Phrase FormNode} {r t : Parser FormNode} {gs s : List TokenKind} → Exact U t false formula_starts gs s → Agrees U s r t →
    Agrees (p.◌>>=◌ (p.Word kind) (λ _. U)) s (q.joined_item kind r) (q.joined_item kind t)
item_agrees kind i unit a = bind_agrees (w kind i) (λ _. unit) refl (same_agrees (plain_one (kind ∷ []))) (λ _. a)

conj_agrees : {U : Phrase FormNode} {r t : Parser FormNode} → Exact U t false formula_starts side_goes form_goes → Agrees U form_goes r t → Agrees (g.Joined n.And k.And U) form_goes (q.conj_of r) (q.conj_of t)
unfolding q.join_of
conj_agrees unit a = bind_agrees (unit) (λ first. bind_exact (each_exact (k.And ∷ []) conj_goes form_goes (item_exact k.And refl unit) refl refl refl refl refl refl refl refl refl) (λ others. give_exact _ conj_goes form_goes) refl refl) refl (a) (λ first. bind_agrees (each_exact (k.And ∷ []) conj_goes form_goes (item_exact k.And refl unit) refl refl refl refl refl refl refl refl refl) (λ others. give_exact _ conj_goes form_goes) refl (each_agrees (k.And ∷ []) conj_goes form_goes (item_exact k.And refl unit) refl refl refl refl refl refl refl refl refl (item_agrees k.And refl unit a)) (λ others. same_agrees (λ ts. tt)))

formula_agrees : {U : Phrase FormNode} {r t : Parser FormNode} → Exact U t false formula_starts side_goes form_goes → Agrees U form_goes r t → Agrees (g.Formula_of U) form_goes (q.formula_of r) (q.formula_of t)
unfolding q.join_of
formula_agrees unit a = bind_agrees (conj_exact unit) (λ first. bind_exact (each_exact (k.Or ∷ []) form_goes form_goes (item_exact k.Or refl (conj_exact unit)) refl refl refl refl refl refl refl refl refl) (λ others. give_exact _ form_goes form_goes) refl refl) refl (conj_agrees unit a) (λ first. bind_agrees (each_exact (k.Or ∷ []) form_goes form_goes (item_exact k.Or refl (conj_exact unit)) refl refl refl refl refl refl refl refl refl) (λ others. give_exact _ form_goes form_goes) refl (each_agrees (k.Or ∷ []) form_goes form_goes (item_exact k.Or refl (conj_exact unit)) refl refl refl refl refl refl refl refl refl (item_agrees k.Or refl (conj_exact unit) (conj_agrees unit a))) (λ others. same_agrees (λ ts. tt)))

not_agrees : {U : Phrase FormNode} {r t : Parser FormNode} → Exact U t false formula_starts side_goes form_goes → Agrees U form_goes r t → Agrees (g.Not_of U) form_goes (q.not_of r) (q.not_of t)
unfolding q.not_of
not_agrees unit a = bind_agrees (w k.NotWord refl) (λ _. bind_exact (unit) (λ f. give_exact _ side_goes form_goes) refl refl) refl (same_agrees (plain_one (k.NotWord ∷ []))) (λ _. bind_agrees (unit) (λ f. give_exact _ side_goes form_goes) refl (a) (λ f. same_agrees (λ ts. tt)))

group_agrees : {U : Phrase FormNode} {r t : Parser FormNode} → Exact U t false formula_starts side_goes form_goes → Agrees U form_goes r t → Agrees (g.Group_of (g.Formula_of U)) [] (q.group_of (q.formula_of r)) (q.group_of (q.formula_of t))
unfolding q.group_of
group_agrees unit a = bind_agrees (w k.ParenOpen refl) (λ _. bind_exact (formula_exact_of unit) (λ f. bind_exact (w k.ParenClose refl) (λ _. give_exact _ [] []) refl refl) refl refl) refl (same_agrees (plain_one (k.ParenOpen ∷ []))) (λ _. bind_agrees (formula_exact_of unit) (λ f. bind_exact (w k.ParenClose refl) (λ _. give_exact _ [] []) refl refl) refl (formula_agrees unit a) (λ f. bind_agrees (w k.ParenClose refl) (λ _. give_exact _ [] []) refl (same_agrees (plain_one (k.ParenClose ∷ []))) (λ _. same_agrees (λ ts. tt))))

forall_agrees : {U : Phrase FormNode} {r t : Parser FormNode} → Exact U t false formula_starts side_goes form_goes → Agrees U form_goes r t → Agrees (g.Forall_of (g.Formula_of U)) form_goes (q.forall_of (q.formula_of r)) (q.forall_of (q.formula_of t))
unfolding q.forall_of
forall_agrees {t = t} unit a = bind_agrees (w k.ForallOtherWord refl) (λ word. bind_exact (w k.Name refl) (λ name. bind_exact (w k.Dot refl) (λ _. bind_exact (before_exact joins side_goes (formula_exact_of unit) (formula_ends t) refl refl) (λ f. give_exact _ side_goes form_goes) refl refl) refl refl) refl refl) refl (same_agrees (plain_one (k.ForallOtherWord ∷ []))) (λ word. bind_agrees (w k.Name refl) (λ name. bind_exact (w k.Dot refl) (λ _. bind_exact (before_exact joins side_goes (formula_exact_of unit) (formula_ends t) refl refl) (λ f. give_exact _ side_goes form_goes) refl refl) refl refl) refl (same_agrees (plain_one (k.Name ∷ []))) (λ name. bind_agrees (w k.Dot refl) (λ _. bind_exact (before_exact joins side_goes (formula_exact_of unit) (formula_ends t) refl refl) (λ f. give_exact _ side_goes form_goes) refl refl) refl (same_agrees (plain_one (k.Dot ∷ []))) (λ _. bind_agrees (before_exact joins side_goes (formula_exact_of unit) (formula_ends t) refl refl) (λ f. give_exact _ side_goes form_goes) refl (before_agrees joins form_goes refl (formula_agrees unit a)) (λ f. same_agrees (λ ts. tt)))))

-- a token that opens a level begins a unit where one level is left
open_not : (levels : ℕ) (x : Leaf) → x.token.kind ≡ k.NotWord → Begins (g.Unit_in (suc levels)) form_goes ([] ++ x ∷ [])
unfolding g.Unit_in
open_not levels x e =
    let live = (unit_exact levels).lives in
    (live.1.0 ∷ live.1.1, n.Not live.0, λ rest quiet. inl (x, live.1.0 ∷ (live.1.1 ++ rest), (refl, rw e refl), (live.0, rest, live.1.3 rest quiet, (refl, refl))))

open_group : (levels : ℕ) (x : Leaf) → x.token.kind ≡ k.ParenOpen → Begins (g.Unit_in (suc levels)) form_goes ([] ++ x ∷ [])
unfolding g.Unit_in
open_group levels x e =
    let live = (formula_exact levels).lives in
    let close : Leaf = record { number = 0; token = record { kind = k.ParenClose; at = 0; len = 0 } } in (
      (live.1.0 ∷ live.1.1) ++ (close ∷ []),
      n.Group live.0,
      λ rest quiet.
          inr (inl (
            x,
            live.1.0 ∷ ((live.1.1 ++ (close ∷ [])) ++ rest),
            (refl, rw e refl),
            (
              live.0,
              close ∷ rest,
              subst (λ (us : List Leaf). g.Formula levels (live.1.0 ∷ us) live.0 (close ∷ rest)) (sym (append_assoc live.1.1 (close ∷ []) rest)) (live.1.3 (close ∷ rest) refl),
              (close, rest, (refl, refl), (refl, refl)),
            ),
          )),
    )

open_forall : (levels : ℕ) (x : Leaf) → x.token.kind ≡ k.ForallOtherWord → Begins (g.Unit_in (suc levels)) form_goes ([] ++ x ∷ [])
unfolding g.Unit_in
open_forall levels x e =
    let live = (formula_exact levels).lives in
    let name : Leaf = record { number = 0; token = record { kind = k.Name; at = 0; len = 0 } } in
    let dot : Leaf = record { number = 0; token = record { kind = k.Dot; at = 0; len = 0 } } in (
      name ∷ dot ∷ live.1.0 ∷ live.1.1,
      n.Forall x name live.0,
      λ rest quiet.
          inr (inr (inl (
            x,
            name ∷ dot ∷ live.1.0 ∷ (live.1.1 ++ rest),
            (refl, rw e refl),
            (
              name,
              dot ∷ live.1.0 ∷ (live.1.1 ++ rest),
              (refl, refl),
              (
                dot,
                live.1.0 ∷ (live.1.1 ++ rest),
                (refl, refl),
                (live.0, rest, (live.1.3 rest quiet, quiet_within joins form_goes rest refl quiet), (refl, refl)),
              ),
            ),
          ))),
    )

opens : (levels : ℕ) (x : Leaf) → is_in x.token.kind openers ≡ true → Begins (g.Unit_in (suc levels)) form_goes ([] ++ x ∷ [])
opens levels x h = first (or_cases (sameb the_type x.token.kind k.NotWord) (is_in x.token.kind (k.ParenOpen ∷ k.ForallOtherWord ∷ [])) h)
  where
    third : (sameb the_type x.token.kind k.ForallOtherWord ≡ true) ⊎ (is_in x.token.kind [] ≡ true) → Begins (g.Unit_in (suc levels)) form_goes ([] ++ x ∷ [])
    third (inl e) = open_forall levels x (same x.token.kind k.ForallOtherWord e)
    third (inr e) = absurd cc

    second : (sameb the_type x.token.kind k.ParenOpen ≡ true) ⊎ (is_in x.token.kind (k.ForallOtherWord ∷ []) ≡ true) → Begins (g.Unit_in (suc levels)) form_goes ([] ++ x ∷ [])
    second (inl e) = open_group levels x (same x.token.kind k.ParenOpen e)
    second (inr e) = third (or_cases (sameb the_type x.token.kind k.ForallOtherWord) (is_in x.token.kind []) e)

    first : (sameb the_type x.token.kind k.NotWord ≡ true) ⊎ (is_in x.token.kind (k.ParenOpen ∷ k.ForallOtherWord ∷ []) ≡ true) → Begins (g.Unit_in (suc levels)) form_goes ([] ++ x ∷ [])
    first (inl e) = open_not levels x (same x.token.kind k.NotWord e)
    first (inr e) = second (or_cases (sameb the_type x.token.kind k.ParenOpen) (is_in x.token.kind (k.ForallOtherWord ∷ [])) e)

-- where nothing opens a level, one is as good as another
no_opener : (levels : ℕ) (ts : List Leaf) → heads openers ts ≡ false → q.side ts ≡ q.unit (suc levels) ts
unfolding q.unit
no_opener levels [] h = refl
no_opener levels (x ∷ ts) h =
    let a = or_parts (sameb the_type x.token.kind k.NotWord) (is_in x.token.kind (k.ParenOpen ∷ k.ForallOtherWord ∷ [])) h in
    let b = or_parts (sameb the_type x.token.kind k.ParenOpen) (is_in x.token.kind (k.ForallOtherWord ∷ [])) a.1 in
    let c = or_parts (sameb the_type x.token.kind k.ForallOtherWord) (is_in x.token.kind []) b.1 in
    rw (a.0, b.0, c.0) refl

last_level : (levels : ℕ) (ts : List Leaf) (b : Bool) → heads openers ts ≡ b → ((cond b (q.too_deep ts) (q.side ts) ≡ q.unit (suc levels) ts) × NotDeep (cond b (q.too_deep ts) (q.side ts))) ⊎ Deeper (g.Unit_in (suc levels)) form_goes (cond b (q.too_deep ts) (q.side ts)) ts
last_level levels ts false h = inl (no_opener levels ts h, plain_side ts)
last_level levels [] true h = absurd cc
last_level levels (x ∷ ts) true h = inr ([], x, ts, refl, refl, opens levels x h)

unit_agrees : (levels more : ℕ) → levels < more → Agrees (g.Unit_in more) form_goes (q.unit levels) (q.unit more)
unfolding g.Unit_in q.unit
unit_agrees levels zero h = absurd (omega arith)
unit_agrees zero (suc more) h = record { agree = λ ts. last_level more ts (heads openers ts) refl }
unit_agrees (suc levels) (suc more) h =
    let fewer : levels < more = omega arith in
    let a = unit_agrees levels more fewer in
    choose_agrees (k.NotWord ∷ []) form_goes refl refl (not_agrees (unit_exact more) a) (choose_agrees (k.ParenOpen ∷ []) form_goes refl refl (group_agrees (unit_exact more) a)
    (choose_agrees (k.ForallOtherWord ∷ []) form_goes {s2 = side_goes} refl refl (forall_agrees (unit_exact more) a) (same_agrees plain_side)))

body_agrees : (levels more : ℕ) → levels < more → (names : List Leaf) → Agrees (g.Body more names) [] (q.body levels names) (q.body more names)
unfolding q.body q.formula_if_any
body_agrees levels more h names = bind_agrees (w k.BraceOpen refl) (λ _. bind_exact (maybe_exact (formula_starts) body_goes body_goes (formula_exact more) refl refl refl refl refl refl refl) (λ formula. bind_exact (maybe_exact (k.Semicolon ∷ []) (k.Semicolon ∷ []) (k.Semicolon ∷ []) (w k.Semicolon refl) refl refl refl refl refl refl refl) (λ _. bind_exact (w k.BraceClose refl) (λ close. give_exact _ [] []) refl refl) refl refl) refl refl) refl (same_agrees (plain_one (k.BraceOpen ∷ []))) (λ _. bind_agrees (maybe_exact (formula_starts) body_goes body_goes (formula_exact more) refl refl refl refl refl refl refl) (λ formula. bind_exact (maybe_exact (k.Semicolon ∷ []) (k.Semicolon ∷ []) (k.Semicolon ∷ []) (w k.Semicolon refl) refl refl refl refl refl refl refl) (λ _. bind_exact (w k.BraceClose refl) (λ close. give_exact _ [] []) refl refl) refl refl) refl (maybe_agrees (formula_starts) body_goes (formula_exact more) refl refl (formula_agrees (unit_exact more) (unit_agrees levels more h))) (λ formula. bind_agrees (maybe_exact (k.Semicolon ∷ []) (k.Semicolon ∷ []) (k.Semicolon ∷ []) (w k.Semicolon refl) refl refl refl refl refl refl refl) (λ _. bind_exact (w k.BraceClose refl) (λ close. give_exact _ [] []) refl refl) refl (same_agrees (plain_maybe (k.Semicolon ∷ []) (q.word k.Semicolon) (plain_one (k.Semicolon ∷ [])))) (λ _. bind_agrees (w k.BraceClose refl) (λ close. give_exact _ [] []) refl (same_agrees (plain_one (k.BraceClose ∷ []))) (λ close. same_agrees (λ ts. tt)))))

named_body_agrees : (levels more : ℕ) → levels < more → Agrees (g.NamedBody more) [] (q.named_body levels) (q.named_body more)
unfolding q.named_body
named_body_agrees levels more h = bind_agrees names_if_any_exact (λ names. body_exact more names) refl (same_agrees plain_names_if_any) (λ names. body_agrees levels more h names)

case_agrees : (levels more : ℕ) → levels < more → Agrees (g.Case more) sum_goes (q.case levels) (q.case more)
unfolding q.case
case_agrees levels more h = bind_agrees (formula_exact more) (λ cond. bind_exact (w k.Colon refl) (λ colon. bind_exact (right_exact) (λ right. give_exact _ sum_goes sum_goes) refl refl) refl refl) refl (formula_agrees (unit_exact more) (unit_agrees levels more h)) (λ cond. bind_agrees (w k.Colon refl) (λ colon. bind_exact (right_exact) (λ right. give_exact _ sum_goes sum_goes) refl refl) refl (same_agrees (plain_one (k.Colon ∷ []))) (λ colon. bind_agrees (right_exact) (λ right. give_exact _ sum_goes sum_goes) refl (same_agrees (plain_right)) (λ right. same_agrees (λ ts. tt))))

next_case_agrees : (levels more : ℕ) → levels < more → Agrees (p.◌>>=◌ (p.Word k.Bar) (λ _. p.Maybe (g.Case more))) case_goes (q.next_case levels) (q.next_case more)
unfolding q.next_case
next_case_agrees levels more h = bind_agrees (w k.Bar refl) (λ _. maybe_exact (formula_starts) case_goes case_goes (case_exact more) refl refl refl refl refl refl refl) refl (same_agrees (plain_one (k.Bar ∷ []))) (λ _. maybe_agrees (formula_starts) case_goes (case_exact more) refl refl (case_agrees levels more h))

branches_agrees : (levels more : ℕ) → levels < more → Agrees (p.Until (p.◌>>=◌ (p.Word k.Bar) (λ _. p.Maybe (g.Case more)))) case_goes (until (q.next_case levels)) (until (q.next_case more))
branches_agrees levels more h = e.branches_agrees more (next_case_agrees levels more h)

cases_agrees : (levels more : ℕ) → levels < more → Agrees (g.Cases more) sum_goes (q.cases levels) (q.cases more)
unfolding q.cases
cases_agrees levels more h = bind_agrees (w k.CaseWord refl) (λ _. bind_exact (branches_exact more) (λ cases. bind_exact (w k.Underscore refl) (λ _. bind_exact (w k.Colon refl) (λ colon. bind_exact (right_exact) (λ right. give_exact _ sum_goes sum_goes) refl refl) refl refl) refl refl) refl refl) refl (same_agrees (plain_one (k.CaseWord ∷ []))) (λ _. bind_agrees (branches_exact more) (λ cases. bind_exact (w k.Underscore refl) (λ _. bind_exact (w k.Colon refl) (λ colon. bind_exact (right_exact) (λ right. give_exact _ sum_goes sum_goes) refl refl) refl refl) refl refl) refl (branches_agrees levels more h) (λ cases. bind_agrees (w k.Underscore refl) (λ _. bind_exact (w k.Colon refl) (λ colon. bind_exact (right_exact) (λ right. give_exact _ sum_goes sum_goes) refl refl) refl refl) refl (same_agrees (plain_one (k.Underscore ∷ []))) (λ _. bind_agrees (w k.Colon refl) (λ colon. bind_exact (right_exact) (λ right. give_exact _ sum_goes sum_goes) refl refl) refl (same_agrees (plain_one (k.Colon ∷ []))) (λ colon. bind_agrees (right_exact) (λ right. give_exact _ sum_goes sum_goes) refl (same_agrees (plain_right)) (λ right. same_agrees (λ ts. tt))))))

value_agrees : (levels more : ℕ) → levels < more → (at : Leaf) → Agrees (p.Either (g.Cases more) (g.Single at)) sum_goes (q.value levels at) (q.value more at)
unfolding q.value
value_agrees levels more h at = choose_agrees (k.CaseWord ∷ []) sum_goes {s2 = sum_goes} refl refl (cases_agrees levels more h) (same_agrees (plain_single at))

update_agrees : (levels more : ℕ) → levels < more → Agrees (g.Update more) sum_goes (q.update_at levels) (q.update_at more)
unfolding q.update_at
update_agrees levels more h = bind_agrees (w k.Name refl) (λ name. bind_exact (index_if_any_exact) (λ index. bind_exact (w k.Assign refl) (λ at. bind_exact (value_exact more at) (λ v. give_exact _ sum_goes sum_goes) refl refl) refl refl) refl refl) refl (same_agrees (plain_one (k.Name ∷ []))) (λ name. bind_agrees (index_if_any_exact) (λ index. bind_exact (w k.Assign refl) (λ at. bind_exact (value_exact more at) (λ v. give_exact _ sum_goes sum_goes) refl refl) refl refl) refl (same_agrees (plain_index_if_any)) (λ index. bind_agrees (w k.Assign refl) (λ at. bind_exact (value_exact more at) (λ v. give_exact _ sum_goes sum_goes) refl refl) refl (same_agrees (plain_one (k.Assign ∷ []))) (λ at. bind_agrees (value_exact more at) (λ v. give_exact _ sum_goes sum_goes) refl (value_agrees levels more h at) (λ v. same_agrees (λ ts. tt)))))

update_behind_agrees : (levels more : ℕ) → levels < more → Agrees (p.◌>>=◌ (p.Word k.Semicolon) (λ _. p.Maybe (g.Update more))) behind_goes (q.update_behind levels) (q.update_behind more)
unfolding q.update_behind
update_behind_agrees levels more h = bind_agrees (w k.Semicolon refl) (λ _. maybe_exact (k.Name ∷ []) behind_goes behind_goes (update_exact more) refl refl refl refl refl refl refl) refl (same_agrees (plain_one (k.Semicolon ∷ []))) (λ _. maybe_agrees (k.Name ∷ []) behind_goes (update_exact more) refl refl (update_agrees levels more h))

next_update_agrees : (levels more : ℕ) → levels < more → Agrees (g.NextUpdate more) update_goes (q.next_update levels) (q.next_update more)
unfolding q.next_update
next_update_agrees levels more h = choose_agrees (k.Semicolon ∷ []) update_goes {s2 = []} refl refl (update_behind_agrees levels more h) (same_agrees (λ ts. tt))

further_agrees : (levels more : ℕ) → levels < more → Agrees (p.Until (g.NextUpdate more)) update_goes (until (q.next_update levels)) (until (q.next_update more))
further_agrees levels more h = e.further_agrees more (next_update_agrees levels more h)

updates_agrees : (levels more : ℕ) → levels < more → Agrees (g.Updates more) update_goes (q.updates levels) (q.updates more)
unfolding q.updates
updates_agrees levels more h = bind_agrees (update_exact more) (λ first. bind_exact (further_exact more) (λ others. give_exact _ update_goes update_goes) refl refl) refl (update_agrees levels more h) (λ first. bind_agrees (further_exact more) (λ others. give_exact _ update_goes update_goes) refl (further_agrees levels more h) (λ others. same_agrees (λ ts. tt)))

updates_if_any_agrees : (levels more : ℕ) → levels < more → Agrees (g.UpdatesIfAny more) update_goes (q.updates_if_any levels) (q.updates_if_any more)
unfolding q.updates_if_any
updates_if_any_agrees levels more h = bind_agrees (maybe_exact (k.Name ∷ []) update_goes update_goes (updates_exact more) refl refl refl refl refl refl refl) (λ updates. give_exact _ update_goes update_goes) refl (maybe_agrees (k.Name ∷ []) update_goes (updates_exact more) refl refl (updates_agrees levels more h)) (λ updates. same_agrees (λ ts. tt))

unsafe_agrees : (levels more : ℕ) → levels < more → Agrees (g.Unsafe more) [] (q.unsafe_rest levels) (q.unsafe_rest more)
unfolding q.unsafe_rest
unsafe_agrees levels more h = bind_agrees (w k.UnsafeWord refl) (λ _. bind_exact (named_body_exact more) (λ body. give_exact _ [] []) refl refl) refl (same_agrees (plain_one (k.UnsafeWord ∷ []))) (λ _. bind_agrees (named_body_exact more) (λ body. give_exact _ [] []) refl (named_body_agrees levels more h) (λ body. same_agrees (λ ts. tt)))

invariant_agrees : (levels more : ℕ) → levels < more → Agrees (g.Invariant more) [] (q.invariant_rest levels) (q.invariant_rest more)
unfolding q.invariant_rest
invariant_agrees levels more h = bind_agrees (w k.InvariantWord refl) (λ word. bind_exact (named_body_exact more) (λ body. give_exact _ [] []) refl refl) refl (same_agrees (plain_one (k.InvariantWord ∷ []))) (λ word. bind_agrees (named_body_exact more) (λ body. give_exact _ [] []) refl (named_body_agrees levels more h) (λ body. same_agrees (λ ts. tt)))

guard_agrees : (levels more : ℕ) → levels < more → Agrees (g.Guard more) [] (q.guard levels) (q.guard more)
unfolding q.guard
guard_agrees levels more h = bind_agrees (w k.RequiresWord refl) (λ _. body_exact more []) refl (same_agrees (plain_one (k.RequiresWord ∷ []))) (λ _. body_agrees levels more h [])

guard_if_any_agrees : (levels more : ℕ) → levels < more → Agrees (p.Maybe (g.Guard more)) (k.RequiresWord ∷ []) (q.guard_if_any levels) (q.guard_if_any more)
unfolding q.guard_if_any
guard_if_any_agrees levels more h = maybe_agrees (k.RequiresWord ∷ []) (k.RequiresWord ∷ []) (guard_exact more) refl refl (guard_agrees levels more h)

transition_agrees : (levels more : ℕ) → levels < more → Agrees (g.Transition more) [] (q.transition levels) (q.transition more)
unfolding q.transition
transition_agrees levels more h = bind_agrees (w k.TransitionWord refl) (λ _. bind_exact (w k.Name refl) (λ name. bind_exact (names_if_any_exact) (λ names. bind_exact (guard_if_any_exact more) (λ guard. bind_exact (w k.BraceOpen refl) (λ _. bind_exact (updates_if_any_exact more) (λ updates. bind_exact (w k.BraceClose refl) (λ _. give_exact _ [] []) refl refl) refl refl) refl refl) refl refl) refl refl) refl refl) refl (same_agrees (plain_one (k.TransitionWord ∷ []))) (λ _. bind_agrees (w k.Name refl) (λ name. bind_exact (names_if_any_exact) (λ names. bind_exact (guard_if_any_exact more) (λ guard. bind_exact (w k.BraceOpen refl) (λ _. bind_exact (updates_if_any_exact more) (λ updates. bind_exact (w k.BraceClose refl) (λ _. give_exact _ [] []) refl refl) refl refl) refl refl) refl refl) refl refl) refl (same_agrees (plain_one (k.Name ∷ []))) (λ name. bind_agrees (names_if_any_exact) (λ names. bind_exact (guard_if_any_exact more) (λ guard. bind_exact (w k.BraceOpen refl) (λ _. bind_exact (updates_if_any_exact more) (λ updates. bind_exact (w k.BraceClose refl) (λ _. give_exact _ [] []) refl refl) refl refl) refl refl) refl refl) refl (same_agrees (plain_names_if_any)) (λ names. bind_agrees (guard_if_any_exact more) (λ guard. bind_exact (w k.BraceOpen refl) (λ _. bind_exact (updates_if_any_exact more) (λ updates. bind_exact (w k.BraceClose refl) (λ _. give_exact _ [] []) refl refl) refl refl) refl refl) refl (guard_if_any_agrees levels more h) (λ guard. bind_agrees (w k.BraceOpen refl) (λ _. bind_exact (updates_if_any_exact more) (λ updates. bind_exact (w k.BraceClose refl) (λ _. give_exact _ [] []) refl refl) refl refl) refl (same_agrees (plain_one (k.BraceOpen ∷ []))) (λ _. bind_agrees (updates_if_any_exact more) (λ updates. bind_exact (w k.BraceClose refl) (λ _. give_exact _ [] []) refl refl) refl (updates_if_any_agrees levels more h) (λ updates. bind_agrees (w k.BraceClose refl) (λ _. give_exact _ [] []) refl (same_agrees (plain_one (k.BraceClose ∷ []))) (λ _. same_agrees (λ ts. tt))))))))

rest_agrees : (levels more : ℕ) → levels < more → Agrees (g.Rest more) [] (q.rest_of levels) (q.rest_of more)
unfolding q.rest_of
rest_agrees levels more h = choose_agrees (k.UnsafeWord ∷ []) [] refl refl (unsafe_agrees levels more h) (choose_agrees (k.InvariantWord ∷ []) [] refl refl (invariant_agrees levels more h) (transition_agrees levels more h))

pub file_agrees : (levels more : ℕ) → levels < more → Agrees (g.File more) rest_starts (q.file levels) (q.file more)
unfolding g.File q.file q.next_decl q.next_rest
file_agrees levels more h = bind_agrees (each_exact (decl_starts) decl_goes decl_goes (decl_exact) refl refl refl refl refl refl refl refl refl) (λ decls. bind_exact (w k.InitWord refl) (λ _. bind_exact (named_body_exact more) (λ init. bind_exact (each_exact (rest_starts) rest_starts rest_starts (rest_exact more) refl refl refl refl refl refl refl refl refl) (λ rests. give_exact _ rest_starts rest_starts) refl refl) refl refl) refl refl) refl (same_agrees (plain_decls)) (λ decls. bind_agrees (w k.InitWord refl) (λ _. bind_exact (named_body_exact more) (λ init. bind_exact (each_exact (rest_starts) rest_starts rest_starts (rest_exact more) refl refl refl refl refl refl refl refl refl) (λ rests. give_exact _ rest_starts rest_starts) refl refl) refl refl) refl (same_agrees (plain_one (k.InitWord ∷ []))) (λ _. bind_agrees (named_body_exact more) (λ init. bind_exact (each_exact (rest_starts) rest_starts rest_starts (rest_exact more) refl refl refl refl refl refl refl refl refl) (λ rests. give_exact _ rest_starts rest_starts) refl refl) refl (named_body_agrees levels more h) (λ init. bind_agrees (each_exact (rest_starts) rest_starts rest_starts (rest_exact more) refl refl refl refl refl refl refl refl refl) (λ rests. give_exact _ rest_starts rest_starts) refl (each_agrees (rest_starts) rest_starts rest_starts (rest_exact more) refl refl refl refl refl refl refl refl refl (rest_agrees levels more h)) (λ rests. same_agrees (λ ts. tt)))))
