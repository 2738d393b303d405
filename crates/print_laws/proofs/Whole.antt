-- The words of a printed protocol are a sentence.
use Rattle.std.proofs.Common.{◌≡◌, ℕ, suc, ◌<◌, true, List, [], ◌∷◌, ◌++◌, length, drop, refl, sym, ap, subst, ◌∙◌, append_assoc, append-nil, inr}
use Rattle.std.specs.Prelude.{◌&&◌, IsTrue, codes, flat_map, nat_lt, nat_le}
use Rattle.std.specs.List.{list_all}
use Rattle.cub_base.specs.Name.{is_declarable}
use Rattle.cub_base.proofs.Bools.{and_left, and_right, less_is}
use Rattle.cub_lexer.specs.declared.token.TokenKind.TheVariants as k
use Rattle.cub_parse.specs.declared.tree.Leaf.{Leaf}
use Rattle.cub_parse.specs.Phrase.{Each}
use Rattle.cub_parse.specs.Grammar.{Decl, NamedBody, Rest, File}
use Rattle.cub_parse.specs.Sentence.{Sentence, numbered, max_levels}
use Rattle.cub_proto.specs.declared.protocol.SortDecl.{SortDecl}
use Rattle.cub_proto.specs.declared.protocol.Protocol.{Protocol}
use Rattle.cub_proto.specs.Fits.{sort_decl_fits}
use Rattle.cub_print.specs.Mark.{Mark, blank, line_feed}
use Rattle.cub_print.specs.Mark.Mark.{word}
use Rattle.cub_print.specs.Printed.{formula_marks, parameter_marks, braced_marks, transition_marks, goal_marks, init_marks, type_marks, global_marks, array_marks, protocol_marks}
use Rattle.cub_print.specs.Tokens.{tokens_from}
use Rattle.print_words.proofs.Seams.{Every}
use Rattle.print_words.proofs.NameFacts.{declared_fit}
use Rattle.print_laws.specs.Spot.{Spot, first, past, leaf, leaves, in_row}
use Rattle.print_laws.specs.Tree.{transition_tree, goal_tree, type_tree, global_tree, array_tree, tree_of}
use Rattle.print_laws.proofs.Phrases.{leaves_are, Spells, at_front, front_spells, rows, rows_alone, Any, any}
use Rattle.print_laws.proofs.MarkPhrases.{goal_rest, init_phrase, transition_rest, type_decl, global_decl, array_decl}

some_constructors : (d : SortDecl) → IsTrue (sort_decl_fits d) → 0 < length d.cons
some_constructors d h =
    let named = is_declarable d.name in
    let some = nat_lt 0 (length d.cons) in
    let few = nat_le (length d.cons) 64 in
    less_is 0 (length d.cons) (and_right named some (and_left (named && some) few (and_left ((named && some) && few) (list_all is_declarable d.cons) h)))

every_some : (ds : List SortDecl) → list_all sort_decl_fits ds ≡ true → Every (λ d. 0 < length d.cons) ds
every_some [] h = tt
every_some (d ∷ ds) h = (some_constructors d (and_left (sort_decl_fits d) (list_all sort_decl_fits ds) h), every_some ds (and_right (sort_decl_fits d) (list_all sort_decl_fits ds) h))

module _ (p : Protocol) where
  abbrev pub types : List Mark
  types = flat_map type_marks (drop 1 p.sorts)

  abbrev pub globals : List Mark
  globals = flat_map (global_marks p) p.globals

  abbrev pub arrays : List Mark
  arrays = flat_map (array_marks p) p.arrays

  abbrev pub goals : List Mark
  goals = flat_map (goal_marks p) p.goals

  abbrev pub transitions : List Mark
  transitions = flat_map (transition_marks p) p.transitions

  abbrev pub behind_declarations : List Mark
  behind_declarations = init_marks p ++ (goals ++ transitions)

  pub grouped : protocol_marks p ≡ types ++ (globals ++ (arrays ++ behind_declarations))
  grouped =
      append_assoc (types ++ globals ++ arrays ++ init_marks p) goals transitions
      ∙ append_assoc (types ++ globals ++ arrays) (init_marks p) (goals ++ transitions)
      ∙ append_assoc (types ++ globals) arrays behind_declarations
      ∙ append_assoc types globals (arrays ++ behind_declarations)

  array_decls : (s : Spot) (rest : List Leaf)
      → Each Decl (leaves s (arrays ++ behind_declarations) ++ rest) (in_row (array_marks p) (array_tree p) p.arrays s) (leaves (past s arrays) behind_declarations ++ rest)
  array_decls = front_spells (Each Decl) arrays behind_declarations (in_row (array_marks p) (array_tree p) p.arrays) (rows_alone Decl (array_marks p) (array_tree p) (array_decl p) p.arrays)

  global_decls : (s : Spot) (rest : List Leaf)
      → Each Decl (leaves s (globals ++ (arrays ++ behind_declarations)) ++ rest)
      (in_row (global_marks p) (global_tree p) p.globals s ++ in_row (array_marks p) (array_tree p) p.arrays (past s globals))
      (leaves (past (past s globals) arrays) behind_declarations ++ rest)
  global_decls s rest =
      let end = leaves (past (past s globals) arrays) behind_declarations ++ rest in
      let others = in_row (array_marks p) (array_tree p) p.arrays (past s globals) in
      at_front (Each Decl) globals (arrays ++ behind_declarations) (in_row (global_marks p) (global_tree p) p.globals s ++ others) s rest end
      (rows Any Decl (global_marks p) (global_tree p) (λ d is. global_decl p d) p.globals (any p.globals) s (leaves (past s globals) (arrays ++ behind_declarations) ++ rest) others end
      (array_decls (past s globals) rest))

  declarations : (s : Spot) (rest : List Leaf)
      → Each Decl (leaves s (types ++ (globals ++ (arrays ++ behind_declarations))) ++ rest)
      (in_row type_marks type_tree (drop 1 p.sorts) s
      ++ (in_row (global_marks p) (global_tree p) p.globals (past s types) ++ in_row (array_marks p) (array_tree p) p.arrays (past (past s types) globals)))
      (leaves (past (past (past s types) globals) arrays) behind_declarations ++ rest)
  declarations s rest =
      let end = leaves (past (past (past s types) globals) arrays) behind_declarations ++ rest in
      let others = in_row (global_marks p) (global_tree p) p.globals (past s types) ++ in_row (array_marks p) (array_tree p) p.arrays (past (past s types) globals) in
      at_front (Each Decl) types (globals ++ (arrays ++ behind_declarations)) (in_row type_marks type_tree (drop 1 p.sorts) s ++ others) s rest end
      (rows (λ d. 0 < length d.cons) Decl type_marks type_tree type_decl (drop 1 p.sorts) (every_some (drop 1 p.sorts) (declared_fit p.sorts p.sorts_fit)) s
      (leaves (past s types) (globals ++ (arrays ++ behind_declarations)) ++ rest) others end (global_decls (past s types) rest))

  module _ (levels : ℕ) where
    transition_rests : Spells (Each (Rest (suc (suc levels)))) transitions (in_row (transition_marks p) (transition_tree p) p.transitions)
    transition_rests = rows_alone (Rest (suc (suc levels))) (transition_marks p) (transition_tree p) (λ t s rest. inr (inr (transition_rest p levels t s rest))) p.transitions

    rests_phrase : (s : Spot) (rest : List Leaf) → Each (Rest (suc (suc levels))) (leaves s (goals ++ transitions) ++ rest)
        (in_row (goal_marks p) (goal_tree p) p.goals s ++ in_row (transition_marks p) (transition_tree p) p.transitions (past s goals)) rest
    rests_phrase s rest =
        let others = in_row (transition_marks p) (transition_tree p) p.transitions (past s goals) in
        at_front (Each (Rest (suc (suc levels)))) goals transitions (in_row (goal_marks p) (goal_tree p) p.goals s ++ others) s rest rest
        (rows Any (Rest (suc (suc levels))) (goal_marks p) (goal_tree p) (λ g is. goal_rest p (suc (suc levels)) g) p.goals (any p.goals) s (leaves (past s goals) transitions ++ rest) others rest
        (transition_rests (past s goals) rest))

    file_phrase : (rest : List Leaf) → File (suc (suc levels)) (leaves first (types ++ (globals ++ (arrays ++ behind_declarations))) ++ rest) (tree_of p) rest
    unfolding File
    file_phrase rest =
        let init = past (past (past first types) globals) arrays in
        let named = past init (word k.InitWord (codes "init") ∷ blank ∷ []) in
        let body = parameter_marks 1 ++ blank ∷ braced_marks (formula_marks p 1 p.start) ++ line_feed ∷ [] in
        let there = past init (init_marks p) in
        let last = leaves there (goals ++ transitions) ++ rest in
        let tree = tree_of p in (
          tree.decls,
          leaves init behind_declarations ++ rest,
          declarations first rest,
          (
            leaf k.InitWord (codes "init") init,
            leaves named (body ++ (goals ++ transitions)) ++ rest,
            (refl, refl),
            (
              tree.init,
              last,
              at_front (NamedBody (suc (suc levels))) body (goals ++ transitions) tree.init named rest last (init_phrase p (suc (suc levels)) named last),
              (tree.rests, rest, rests_phrase there rest, (refl, refl)),
            ),
          ),
        )

  pub protocol_sentence : Sentence max_levels (numbered 0 (tokens_from 0 (protocol_marks p))) (tree_of p)
  protocol_sentence =
      subst (λ ts. Sentence max_levels ts (tree_of p))
      (append-nil (leaves first (types ++ (globals ++ (arrays ++ behind_declarations)))) ∙ ap (leaves first) (sym grouped) ∙ leaves_are (protocol_marks p) first)
      (file_phrase 62 [])
