-- Normal forms of formulas of texts, start formulas and goals have literals of texts alone.
use Rattle.std.proofs.Common.{◌≡◌, ℕ, Bool, true, false, List, [], ◌∷◌, length, map, take, Option, Some, None, option_map, refl, ap, ◌∙◌}
use Rattle.std.specs.Prelude.{IfSome}
use Rattle.std.specs.List.{list_all}
use Rattle.std.proofs.lemmas.List.Folds.{list_all-append, list_all-map}
use Rattle.cub_base.proofs.Bools.{and_both}
use Rattle.cub_parse.specs.declared.tree.BodyNode.{BodyNode}
use Rattle.cub_parse.specs.declared.tree.RestNode.{RestNode}
use Rattle.cub_parse.specs.declared.tree.RestNode.TheVariants as rests
use Rattle.cub_proto.specs.declared.literal.Lit.{Lit}
use Rattle.cub_proto.specs.declared.protocol.Goal.{Goal}
use Rattle.cub_proto.specs.declared.protocol.Protocol.{Protocol}
use Rattle.cub_proto.specs.StateOf.{signature_of}
use Rattle.cub_dnf.specs.declared.formula.Formula.{Formula}
use Rattle.cub_dnf.specs.Lists.{list_of}
use Rattle.cub_names.specs.Checked.{where_known}
use Rattle.cub_names.specs.Scope.{locals}
use Rattle.cub_types.specs.Bodies.{normalized, body_form, start_tests, start, turned, goal_form, goal, counted, goal_tests, goals_of, goals_at, total_at, goals_from}
use Rattle.cub_types.proofs.BodiesFit.{normal_is, joined_some}
use Rattle.print_premises.proofs.Literals.{is_ready, are_textual, list_textual}
use Rattle.print_premises.proofs.FormulasMeet.{frame, body_ready, not_ready}

made_some : {A B : Type 0} (make : A → B) (v : Option A) (b : B) → option_map make v ≡ Some b → (a : A) × (v ≡ Some a) × (b ≡ make a)
made_some make None b h = cc
made_some make (Some a) b h = (a, refl, cc)

module _ (p : Protocol) where
  abbrev pub IsReady : Option Formula → Type 0
  IsReady v = IfSome v (λ formula. is_ready p formula ≡ true)

  -- a normal form that is there
  pub normal_textual : (token : ℕ) (formula : Formula) (conjs : List (List Lit)) → is_ready p formula ≡ true → (normalized (signature_of p) token formula).value ≡ Some conjs
      → list_all (are_textual p) conjs ≡ true
  normal_textual token formula conjs ready h =
      ap (list_all (are_textual p)) (normal_is (signature_of p) token formula conjs h).is ∙ list_textual p true formula ready

  -- ---- the start formula
  known_start : (token : ℕ) (v : Option Formula) (conjs : List (List Lit)) → IsReady v → (where_known v (λ formula. start_tests (signature_of p) token formula)).value ≡ Some conjs
      → list_all (are_textual p) conjs ≡ true
  known_start token None conjs ready h = cc
  known_start token (Some formula) conjs ready h = normal_textual token formula conjs ready h

  pub start_textual : (text : List ℕ) (body : BodyNode) (conjs : List (List Lit)) → (start (frame p text) body).value ≡ Some conjs → list_all (are_textual p) conjs ≡ true
  start_textual text body conjs h =
      known_start body.close.number (body_form true (frame p text) (locals 1 body.names) body.formula).value conjs (body_ready p text true (locals 1 body.names) body.formula) h

  -- ---- goals
  abbrev pub is_textual_goal : Goal → Bool
  is_textual_goal g = are_textual p g.lits

  turned_ready : (negated : Bool) (v : Option Formula) → IsReady v → IsReady (turned negated v)
  turned_ready true None h = tt
  turned_ready true (Some formula) h = not_ready p formula h
  turned_ready false v h = h

  known_goals : (width token total : ℕ) (v : Option Formula) (goals : List Goal) → IsReady v
      → (where_known v (λ formula. goal_tests (signature_of p) width token (counted total (length (list_of (signature_of p) true formula))) formula)).value ≡ Some goals
      → list_all is_textual_goal goals ≡ true
  known_goals width token total None goals ready h = cc
  known_goals width token total (Some formula) goals ready h =
      let made = made_some (map (goal width)) (normalized (signature_of p) token formula).value goals h in
      ap (list_all is_textual_goal) made.2 ∙ list_all-map is_textual_goal (goal width) made.0 ∙ normal_textual token formula made.0 ready made.1

  module _ (text : List ℕ) where
    of_one : (negated : Bool) (total : ℕ) (body : BodyNode) (goals : List Goal) → (goals_of negated (frame p text) total body).value ≡ Some goals → list_all is_textual_goal goals ≡ true
    of_one negated total body goals h =
        let v = body_form false (frame p text) (locals 4 body.names) body.formula in
        known_goals (length (take 4 body.names)) body.close.number total (goal_form negated (frame p text) body).value goals
        (turned_ready negated v.value (body_ready p text false (locals 4 body.names) body.formula)) h

    at_one : (total : ℕ) (r : RestNode) (goals : List Goal) → (goals_at (frame p text) total r).value ≡ Some goals → list_all is_textual_goal goals ≡ true
    at_one total (rests.Unsafe body) goals h = of_one false total body goals h
    at_one total (rests.Invariant word body) goals h = of_one true total body goals h
    at_one total (rests.Transition name names guard updates) goals h = let is : goals ≡ [] = cc in ap (list_all is_textual_goal) is

    pub goals_textual : (total : ℕ) (rs : List RestNode) (goals : List Goal) → (goals_from (frame p text) total rs).value ≡ Some goals → list_all is_textual_goal goals ≡ true
    goals_textual total [] goals h = let is : goals ≡ [] = cc in ap (list_all is_textual_goal) is
    goals_textual total (r ∷ rs) goals h =
        let parts = joined_some (goals_at (frame p text) total r).value (goals_from (frame p text) (total_at (frame p text) total r) rs).value goals h in
        ap (list_all is_textual_goal) parts.4 ∙ list_all-append is_textual_goal parts.0 parts.1
        ∙ and_both (list_all is_textual_goal parts.0) (list_all is_textual_goal parts.1) (at_one total r parts.0 parts.2)
        (goals_textual (total_at (frame p text) total r) rs parts.1 parts.3)
