-- The guards of a printed transition are read as what they were printed from.
use Rattle.std.proofs.Common.{◌≡◌, ℕ, zero, suc, Bool, true, false, List, [], ◌∷◌, ◌++◌, map, Some, pos, negsuc, refl, ap, ◌∙◌}
use Rattle.std.specs.Prelude.{◌==◌, IsTrue, codes, count_ones, int_lt, if◌then◌else◌, flat_map}
use Rattle.std.specs.List.{AllZip, list_all}
use Rattle.cub_base.proofs.Bools.{and_left}
use Rattle.cub_parse.specs.declared.tree.Leaf.{Leaf}
use Rattle.cub_parse.specs.declared.tree.SumNode.{SumNode}
use Rattle.cub_parse.specs.declared.tree.FormNode.{FormNode}
use Rattle.cub_parse.specs.declared.tree.FormNode.TheVariants as n
use Rattle.cub_dnf.specs.declared.formula.Formula.{Formula}
use Rattle.cub_dnf.specs.declared.formula.Formula.TheVariants as f
use Rattle.cub_dnf.specs.Lists.{list_of, all_joins}
use Rattle.cub_dnf.proofs.Joining.{joins_one}
use Rattle.cub_dnf.proofs.Parting.{list_of_all_true}
use Rattle.cub_names.specs.declared.scope.Local.{Local}
use Rattle.cub_names.specs.Meaning.{Frame}
use Rattle.cub_types.specs.Formulas.{form}
use Rattle.cub_types.specs.Guards.{Split, beside, all_beside, own_conjunct, conjunct, whole, whole_of}
use Rattle.cub_types.proofs.Layers.{out_or, out_and, out_group, out_side, out_rel}
use Rattle.cub_proto.specs.declared.literal.Lit.{Lit}
use Rattle.cub_proto.specs.declared.literal.Lit.TheVariants.{FinIn, FinEq, FinNe, ProcEq, ProcNe, Diff}
use Rattle.cub_proto.specs.declared.protocol.Protocol.{Protocol}
use Rattle.cub_proto.specs.StateOf.{signature_of}
use Rattle.cub_print.specs.Printed.{and_marks, or_marks, conjunction_marks, formula_marks}
use Rattle.cub_print.specs.Terms.{literal_marks}
use Rattle.print_laws.specs.Spot.{Spot, past, in_row}
use Rattle.print_laws.specs.TermTree.{name_tree, alone, literal_tree, conjunction_tree, formula_tree}
use Rattle.print_names.specs.Plain.{declares_plain_names}
use Rattle.print_names.proofs.Positions as positions
use Rattle.print_names.proofs.Positions.{at_left, at_right}
use Rattle.print_names.proofs.Rows.{row_zip}
use Rattle.print_formulas.proofs.SidesRead.{IsScope}
use Rattle.print_formulas.proofs.FormsRead.{is_read, IsFormOf, literal_read, formula_read, true_read, false_read, all_joins_single, every_true}

-- ---- nodes that are no `forall_other`
pub record IsOwn (frame : Frame) (place : ℕ) (node : FormNode) : Type 0 where
  pub part : (levels : ℕ) (scope : List Local) → conjunct frame place levels scope node ≡ own_conjunct (form false frame scope node)
  pub alone_is : (levels : ℕ) (scope : List Local) → whole frame place levels scope node ≡ conjunct frame place levels scope node

module _ (frame : Frame) (place : ℕ) where
  pub rel_own : (a : SumNode) (sign : Leaf) (b : SumNode) → IsOwn frame place (n.Rel a sign b)
  rel_own a sign b = record { part = part_; alone_is = λ levels scope. rw (out_rel a sign b) refl }
    where
      part_ : (levels : ℕ) (scope : List Local) → conjunct frame place levels scope (n.Rel a sign b) ≡ own_conjunct (form false frame scope (n.Rel a sign b))
      part_ zero scope = refl
      part_ (suc levels) scope = rw (out_rel a sign b) refl

  pub side_own : (sum : SumNode) → IsOwn frame place (n.Side sum)
  side_own sum = record { part = part_; alone_is = λ levels scope. rw (out_side sum) refl }
    where
      part_ : (levels : ℕ) (scope : List Local) → conjunct frame place levels scope (n.Side sum) ≡ own_conjunct (form false frame scope (n.Side sum))
      part_ zero scope = refl
      part_ (suc levels) scope = rw (out_side sum) refl

  pub or_own : (nodes : List FormNode) → IsOwn frame place (n.Or nodes)
  or_own nodes = record { part = part_; alone_is = λ levels scope. rw (out_or nodes) refl }
    where
      part_ : (levels : ℕ) (scope : List Local) → conjunct frame place levels scope (n.Or nodes) ≡ own_conjunct (form false frame scope (n.Or nodes))
      part_ zero scope = refl
      part_ (suc levels) scope = rw (out_or nodes) refl

  pub group_own : (node : FormNode) → IsOwn frame place (n.Group node)
  group_own node = record { part = part_; alone_is = λ levels scope. rw (out_group node) refl }
    where
      part_ : (levels : ℕ) (scope : List Local) → conjunct frame place levels scope (n.Group node) ≡ own_conjunct (form false frame scope (n.Group node))
      part_ zero scope = refl
      part_ (suc levels) scope = rw (out_group node) refl

  either_own : (b : Bool) (x y : FormNode) → IsOwn frame place x → IsOwn frame place y → IsOwn frame place (if b then x else y)
  either_own true x y h g = h
  either_own false x y h g = g

  literal_own : (p : Protocol) (params : ℕ) (l : Lit) (s : Spot) → IsOwn frame place (literal_tree p params l s)
  literal_own p params (FinIn t mask) s = either_own (count_ones mask == 1) _ _ (rel_own _ _ _) (rel_own _ _ _)
  literal_own p params (FinEq a b) s = rel_own _ _ _
  literal_own p params (FinNe a b) s = rel_own _ _ _
  literal_own p params (ProcEq a b) s = rel_own _ _ _
  literal_own p params (ProcNe a b) s = rel_own _ _ _
  literal_own p params (Diff a b bound) s =
      either_own (int_lt (pos 1000000000) bound) _ _ (rel_own _ _ _) (either_own (int_lt bound (negsuc 999999999)) _ _ (rel_own _ _ _) (rel_own _ _ _))

-- conjuncts of the guard itself
abbrev pub split_of : List Formula → Split
split_of formulas = record { own = Some formulas; others = Some []; faults = [] }

module _ (p : Protocol) (plain : IsTrue (declares_plain_names p)) (text : List ℕ) (scope : List Local) (params width : ℕ) (is_scope : IsScope text scope params width) (place : ℕ) where
  abbrev its : Frame
  its = record { text = text; sig = signature_of p }

  abbrev IsForm : FormNode → List (List Lit) → Type 0
  IsForm node conjs = IsFormOf p plain text scope params width is_scope false node conjs

  pub own_read : (node : FormNode) (conjs : List (List Lit)) (found : IsForm node conjs) → own_conjunct (form false its scope node) ≡ split_of (found.formula ∷ [])
  own_read node conjs found = ap own_conjunct found.is

  -- the node is a guard with these conjunctions
  pub record IsGuard (node : FormNode) (conjs : List (List Lit)) : Type 0 where
    pub formulas : List Formula
    pub split : (levels : ℕ) → whole its place levels scope node ≡ split_of formulas
    pub list : list_of (signature_of p) true (f.All formulas) ≡ conjs

  pub single_list : (node : FormNode) (conjs : List (List Lit)) (found : IsForm node conjs) → list_of (signature_of p) true (f.All (found.formula ∷ [])) ≡ conjs
  single_list node conjs found = list_of_all_true (signature_of p) (found.formula ∷ []) ∙ ap (λ list. all_joins (list ∷ [])) found.list ∙ joins_one conjs

  single : (node : FormNode) (conjs : List (List Lit)) → IsOwn its place node → IsForm node conjs → IsGuard node conjs
  single node conjs own found = record {
    formulas = found.formula ∷ [];
    split = λ levels. own.alone_is levels scope ∙ own.part levels scope ∙ own_read node conjs found;
    list = single_list node conjs found;
  }

  -- several conjuncts
  record AreConjuncts (nodes : List FormNode) (lits : List Lit) : Type 0 where
    formulas : List Formula
    split : (levels : ℕ) → all_beside (map (conjunct its place levels scope) nodes) ≡ split_of formulas
    lists : map (list_of (signature_of p) true) formulas ≡ map (λ l. (l ∷ []) ∷ []) lits

  conjuncts : (nodes : List FormNode) (lits : List Lit) → AllZip (λ t l. IsForm t ((l ∷ []) ∷ []) × IsOwn its place t) nodes lits → AreConjuncts nodes lits
  conjuncts [] [] z = record { formulas = []; split = λ levels. refl; lists = refl }
  conjuncts [] (l ∷ ls) z = absurd z
  conjuncts (x ∷ xs) [] z = absurd z
  conjuncts (x ∷ xs) (l ∷ ls) z =
      let others = conjuncts xs ls z.1 in
      record {
        formulas = z.0.0.formula ∷ others.formulas;
        split = λ levels.
            ap (λ a. beside a (all_beside (map (conjunct its place levels scope) xs))) (z.0.1.part levels scope ∙ own_read x ((l ∷ []) ∷ []) z.0.0)
            ∙ ap (λ a. beside (split_of (z.0.0.formula ∷ [])) a) (others.split levels);
        lists = ap (λ y. y ∷ map (list_of (signature_of p) true) others.formulas) z.0.0.list ∙ ap (λ ys. ((l ∷ []) ∷ []) ∷ ys) others.lists;
      }

  literal_part : (l : Lit) → IsTrue (is_read p width false l) → (s : Spot) → positions.At text s (literal_marks p params l) → IsForm (literal_tree p params l s) ((l ∷ []) ∷ []) × IsOwn its place (literal_tree p params l s)
  literal_part l h s at = (literal_read p plain text scope params width is_scope false l h s at, literal_own its place p params l s)

  conjunction_guard : (lits : List Lit) → list_all (is_read p width false) lits ≡ true → (s : Spot) → positions.At text s (conjunction_marks p params lits) → IsGuard (conjunction_tree p params lits s) (lits ∷ [])
  conjunction_guard [] h s at =
      single (n.Side (alone (name_tree (codes "True") s))) ([] ∷ []) (side_own its place (alone (name_tree (codes "True") s))) (true_read p plain text scope params width is_scope false s at)
  conjunction_guard (l ∷ []) h s at =
      single (literal_tree p params l s) ((l ∷ []) ∷ []) (literal_own its place p params l s)
      (literal_read p plain text scope params width is_scope false l (and_left (is_read p width false l) true h) s (at_left text s (literal_marks p params l) [] at))
  conjunction_guard (l ∷ m ∷ ls) h s at =
      let marks = literal_marks p params l in
      let behind = flat_map (λ y. and_marks ++ literal_marks p params y) (m ∷ ls) in
      let nodes = in_row (λ y. and_marks ++ literal_marks p params y) (λ y r. literal_tree p params y (past r and_marks)) (m ∷ ls) (past s marks) in
      let every = every_true (is_read p width false) (l ∷ m ∷ ls) h in
      let all = conjuncts (literal_tree p params l s ∷ nodes) (l ∷ m ∷ ls) (
        literal_part l every.0 s (at_left text s marks behind at),
        row_zip text (λ y. IsTrue (is_read p width false y)) (λ t y. IsForm t ((y ∷ []) ∷ []) × IsOwn its place t) (λ y. and_marks ++ literal_marks p params y) (λ y r. literal_tree p params y (past r and_marks))
            (λ y r is here. literal_part y is (past r and_marks) (at_right text r and_marks (literal_marks p params y) here)) (m ∷ ls) every.1 (past s marks) (at_right text s marks behind at),
      ) in
      record {
        formulas = all.formulas;
        split = λ levels. ap (λ layer. whole_of its place (conjunct its place levels) scope (n.And (literal_tree p params l s ∷ nodes)) layer) (out_and (literal_tree p params l s ∷ nodes))
            ∙ all.split levels;
        list = list_of_all_true (signature_of p) all.formulas ∙ ap all_joins all.lists ∙ all_joins_single (l ∷ m ∷ ls);
      }

  pub own_guard : (conjs : List (List Lit)) → list_all (list_all (is_read p width false)) conjs ≡ true → (s : Spot) → positions.At text s (formula_marks p params conjs) → IsGuard (formula_tree p params conjs s) conjs
  own_guard [] h s at =
      single (n.Side (alone (name_tree (codes "False") s))) [] (side_own its place (alone (name_tree (codes "False") s))) (false_read p plain text scope params width is_scope false s at)
  own_guard (c ∷ []) h s at = conjunction_guard c (and_left (list_all (is_read p width false) c) true h) s (at_left text s (conjunction_marks p params c) [] at)
  own_guard (c ∷ d ∷ cs) h s at =
      let nodes = conjunction_tree p params c s
      ∷ in_row (λ y. or_marks ++ conjunction_marks p params y) (λ y r. conjunction_tree p params y (past r or_marks)) (d ∷ cs) (past s (conjunction_marks p params c)) in
      single (n.Or nodes) (c ∷ d ∷ cs) (or_own its place nodes) (formula_read p plain text scope params width is_scope false (c ∷ d ∷ cs) h s at)
