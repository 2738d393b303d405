-- The updates of a printed transition, each by itself, are read as what they were printed from.
use Rattle.std.proofs.Common.{◌≡◌, ℕ, ◌+◌, ◌<◌, ◌≤◌, Bool, true, false, List, [], ◌∷◌, ◌++◌, length, map, Option, Some, None, refl, sym, ap, subst, ◌∙◌, arith}
use Rattle.std.specs.Prelude.{IsTrue, ◌&&◌, ◌||◌, codes, nat_le, nat_lt, unsigned_abs, if◌then◌else◌, flat_map}
use Rattle.std.specs.List.{AllZip, list_all, list_any}
use Rattle.std.specs.Option.{option_map_or}
use Rattle.cub_base.proofs.Bools.{and_left, and_right, and_both, same_refl, less_is, le_is}
use Rattle.cub_lexer.specs.declared.token.TokenKind.TheVariants as k
use Rattle.cub_parse.specs.declared.tree.Leaf.{Leaf}
use Rattle.cub_parse.specs.declared.tree.SumNode.{SumNode}
use Rattle.cub_parse.specs.declared.tree.CaseNode.{CaseNode}
use Rattle.cub_parse.specs.declared.tree.UpdateNode.{UpdateNode}
use Rattle.cub_parse.specs.declared.tree.RightNode.{RightNode}
use Rattle.cub_parse.specs.declared.tree.RightNode.TheVariants as rights
use Rattle.cub_names.specs.declared.fault.TypeKind.TheVariants as kinds
use Rattle.cub_names.specs.declared.meaning.What.{What}
use Rattle.cub_names.specs.declared.scope.Local.{Local}
use Rattle.cub_names.specs.declared.sides.Side.{Side}
use Rattle.cub_names.specs.Checked.{Checked, fault, sound, refuse, has_value, ◌>>=◌}
use Rattle.cub_names.specs.Meaning.{Frame, stands_for}
use Rattle.cub_names.specs.Scope.{place_of, locals_from}
use Rattle.cub_names.specs.Sides.{sort_of_side, side, place_at, what_at}
use Rattle.cub_names.specs.Words.{word_of}
use Rattle.cub_dnf.specs.Normal.{widest}
use Rattle.cub_types.specs.declared.written.Aim.{Aim}
use Rattle.cub_types.specs.declared.written.Case.{Case}
use Rattle.cub_types.specs.declared.written.Written.{Written}
use Rattle.cub_types.specs.Bodies.{normalized}
use Rattle.cub_types.specs.Writes.{target_of, sort_of_aim, sort_aimed, added, value_of_side, value_for, right_value, cond_tests, condition, case_of, case_faults, all_case_faults, index_place, inner_scope, index_faults, mark_of, mark_before, first_mark, written, written_faults}
use Rattle.cub_proto.specs.declared.literal.Sort.{Sort}
use Rattle.cub_proto.specs.declared.literal.Term.{Term}
use Rattle.cub_proto.specs.declared.literal.Value.{Value}
use Rattle.cub_proto.specs.declared.literal.Value.TheVariants as values
use Rattle.cub_proto.specs.declared.transition.Target.{Target}
use Rattle.cub_proto.specs.declared.transition.Branch.{Branch}
use Rattle.cub_proto.specs.declared.transition.Update.{Update}
use Rattle.cub_proto.specs.declared.protocol.Protocol.{Protocol}
use Rattle.cub_proto.specs.Fits.{conjunction_fits, value_fits, branch_fits, update_width, update_fits, update_fits_sort, integer_side_fits, place_fits, is_any, takes_any}
use Rattle.cub_proto.specs.Signature.{sort_of, is_sort, same_sort, target_sort, constructors_of}
use Rattle.cub_proto.specs.StateOf.{signature_of}
use Rattle.cub_print.specs.Mark.{blank, name}
use Rattle.cub_print.specs.Mark.Mark.{word}
use Rattle.cub_print.specs.Terms.{decl_name, constructor_in, place_name}
use Rattle.cub_print.specs.Printed.{conjunction_marks, value_marks, target_marks, branch_marks, assigned_marks, update_marks}
use Rattle.print_laws.specs.Spot.{Spot, past, leaf, in_row}
use Rattle.print_laws.specs.TermTree.{alone, name_tree, term_tree, process_tree, integer_tree, index_tree}
use Rattle.print_laws.specs.Tree.{value_tree, target_tree, target_index, branch_tree, assigned_tree, update_tree}
use Rattle.print_words.specs.Writable.{is_writable_conjunction}
use Rattle.print_words.proofs.Seams.{Every}
use Rattle.print_names.specs.Plain.{declares_plain_names}
use Rattle.print_names.proofs.Positions as positions
use Rattle.print_names.proofs.Positions.{at_left, at_right, word_is}
use Rattle.print_names.proofs.Standing.{global_stands, array_stands, global_plain, array_plain, variable_stands}
use Rattle.print_names.proofs.Rows.{AreWords, row_zip}
use Rattle.print_formulas.specs.Normal.{is_normal_conjunction}
use Rattle.print_formulas.proofs.SidesRead.{IsScope, IsCellSort, sort_is, term_read, constructor_read, process_read, integer_read}
use Rattle.print_formulas.proofs.FormsRead.{conjunction_read}
use Rattle.print_formulas.proofs.ScopeRead.{places_named, scope_read}
use Rattle.print_formulas.proofs.BodiesRead.{goal_lits_read, narrow, normal_read}
use Rattle.print_transitions.proofs.InnerScope.{outer_none, inner_name, inner_scope_read}

-- what an update of the target aims at
abbrev pub aimed : Target → Sort → Aim
aimed (Target.Global g) sort = Aim.Global g sort
aimed (Target.Array a) sort = Aim.Whole a sort

pub aimed_sort : (target : Target) (sort : Sort) → sort_of_aim (aimed target sort) ≡ sort
aimed_sort (Target.Global g) sort = refl
aimed_sort (Target.Array a) sort = refl

aimed_added : (target : Target) (sort : Sort) → added (Some (aimed target sort)) ≡ 0
aimed_added (Target.Global g) sort = refl
aimed_added (Target.Array a) sort = refl

abbrev pub case_made : Branch → Case
case_made b = record { conds = Some (b.cond ∷ []); value = Some b.value }

or_comm : (a b : Bool) → (a || b) ≡ (b || a)
or_comm true true = refl
or_comm true false = refl
or_comm false true = refl
or_comm false false = refl

either_mark : (a b : Option Leaf) → has_value (mark_before a b) ≡ (has_value a || has_value b)
either_mark None b = refl
either_mark (Some x) b = refl

cell_sort : (j : ℕ) (t : Term) → IsCellSort (Sort.Fin j) t
cell_sort j (Term.Global g) = tt
cell_sort j (Term.Cell a place) = tt

module _ (p : Protocol) (plain : IsTrue (declares_plain_names p)) (text : List ℕ) (params : ℕ) where
  abbrev its : Frame
  its = record { text = text; sig = signature_of p }

  -- ---- values and branches, in the scope of the update
  module _ (scope : List Local) (width : ℕ) (is_scope : IsScope text scope params width) (target : Target) (sort : Sort) (is : target_sort (signature_of p) target ≡ Some sort) where
    sum_value : (token : ℕ) (sum : SumNode) (a : Side) (v : Value) → side its scope sum ≡ sound a → same_sort (sort_of_side a) sort ≡ true → value_of_side a ≡ v
        → right_value its scope token (Some sort) (rights.Sum sum) ≡ sound v
    sum_value token sum a v e same value =
        ap (λ c. c >>= λ x. value_for token (Some sort) x) e ∙ ap (λ b. if b then sound (value_of_side a) else refuse token kinds.T03) same ∙ ap sound value

  module _ (scope : List Local) (width : ℕ) (is_scope : IsScope text scope params width) (target : Target) where
    value_read : (sort : Sort) → target_sort (signature_of p) target ≡ Some sort → (v : Value) → IsTrue (value_fits (signature_of p) width sort v) → (token : ℕ) (r : Spot)
        → positions.At text r (value_marks p params target v) → right_value its scope token (Some sort) (value_tree p params target v r) ≡ sound v
    value_read (Sort.Fin j) is (values.Con c) h token r at =
        let below = less_is c (constructors_of (signature_of p) (Sort.Fin j)) h in
        let bytes_are : option_map_or (λ sort. constructor_in p.sorts sort c) (target_sort (signature_of p) target) [] ≡ constructor_in p.sorts (Sort.Fin j) c =
        ap (λ o. option_map_or (λ sort. constructor_in p.sorts sort c) o []) is in
        subst (λ bytes. positions.At text r (name bytes ∷ []) → right_value its scope token (Some (Sort.Fin j)) (rights.Sum (alone (name_tree bytes r))) ≡ sound (values.Con c)) (sym bytes_are)
        (λ here. sum_value scope width is_scope target (Sort.Fin j) is token (alone (name_tree (constructor_in p.sorts (Sort.Fin j) c) r)) (Side.Con j c) (values.Con c)
        (constructor_read p plain text scope params width is_scope j c r below here) (same_refl j) refl) at
    value_read Sort.Proc is (values.Con c) h token r at = absurd cc
    value_read Sort.Int is (values.Con c) h token r at = absurd cc
    value_read (Sort.Fin j) is (values.Read t) h token r at =
        let sorted = is_sort (sort_of (signature_of p) t) (Sort.Fin j) in
        sum_value scope width is_scope target (Sort.Fin j) is token (alone (term_tree p params t r)) (Side.Fin j t) (values.Read t)
        (term_read p plain text scope params width is_scope t (Sort.Fin j) r (sort_is (sort_of (signature_of p) t) (Sort.Fin j) (and_left sorted (place_fits width t) h)) (and_right sorted (place_fits width t) h) (cell_sort j t) at)
        (same_refl j) refl
    value_read Sort.Proc is (values.Read t) h token r at = absurd cc
    value_read Sort.Int is (values.Read t) h token r at = absurd cc
    value_read (Sort.Fin j) is (values.Proc s) h token r at = absurd cc
    value_read Sort.Proc is (values.Proc s) h token r at =
        sum_value scope width is_scope target Sort.Proc is token (alone (process_tree p params s r)) (Side.Proc s) (values.Proc s)
        (process_read p plain text scope params width is_scope s r h at) refl refl
    value_read Sort.Int is (values.Proc s) h token r at = absurd cc
    value_read (Sort.Fin j) is (values.Sum base add) h token r at = absurd cc
    value_read Sort.Proc is (values.Sum base add) h token r at = absurd cc
    value_read Sort.Int is (values.Sum base add) h token r at =
        let fits = integer_side_fits (signature_of p) width base in
        let size = nat_le (unsigned_abs add) 1000000000 in
        sum_value scope width is_scope target Sort.Int is token (integer_tree p params base add r) (Side.Int base add) (values.Sum base add)
        (integer_read p plain text scope params width is_scope base add r (and_left fits size h) (le_is (unsigned_abs add) 1000000000 (and_right fits size h)) at) refl refl
    value_read (Sort.Fin j) is values.Any h token r at = refl
    value_read Sort.Proc is values.Any h token r at = refl
    value_read Sort.Int is values.Any h token r at = absurd cc

    value_mark : (v : Value) (r : Spot) → has_value (mark_of (value_tree p params target v r)) ≡ is_any v
    value_mark (values.Con c) r = refl
    value_mark (values.Read t) r = refl
    value_mark (values.Proc s) r = refl
    value_mark (values.Sum base add) r = refl
    value_mark values.Any r = refl

    module _ (sort : Sort) (is : target_sort (signature_of p) target ≡ Some sort) where
      abbrev aim : Aim
      aim = aimed target sort

      record IsCase (node : CaseNode) (b : Branch) : Type 0 where
        made : case_of its scope (Some aim) node ≡ case_made b
        faultless : case_faults its scope (Some aim) node ≡ []
        marked : has_value (mark_of node.right) ≡ is_any b.value

      abbrev IsBranchKept : Branch → Type 0
      IsBranchKept b = IsTrue (branch_fits (signature_of p) width sort b) × IsTrue (is_writable_conjunction p b.cond) × IsTrue (is_normal_conjunction p b.cond)

      branch_read : (b : Branch) (s : Spot) → IsBranchKept b → positions.At text s (branch_marks p params target b) → IsCase (branch_tree p params target b s) b
      branch_read b s h at =
          let fits = conjunction_fits (signature_of p) width b.cond in
          let value_fit = value_fits (signature_of p) width sort b.value in
          let fit = and_left fits value_fit h.0 in
          let front = word k.Bar (codes "|") ∷ blank ∷ [] in
          let cond = past s front in
          let lits = conjunction_marks p params b.cond in
          let value = value_marks p params target b.value in
          let colon = blank ∷ word k.Colon (codes ":") ∷ blank ∷ [] in
          let behind = past cond lits in
          let at_both : positions.At text cond (lits ++ (colon ++ value)) = at_left text cond (lits ++ (colon ++ value)) (blank ∷ []) (at_right text s front (lits ++ (colon ++ value) ++ blank ∷ []) at) in
          let node = branch_tree p params target b s in
          let token = node.colon.number in
          let found = conjunction_read p plain text scope params width is_scope false b.cond (goal_lits_read p width b.cond fit h.1 h.2) cond (at_left text cond lits (colon ++ value) at_both) in
          let all : list_all (conjunction_fits (signature_of p) width) (b.cond ∷ []) ≡ true = and_both fits true fit refl in
          let thin = narrow p width (b.cond ∷ []) all in
          let wide = normal_read p token found.formula (b.cond ∷ []) found.list (omega arith) thin in
          let in_limit : nat_lt 64 (widest (b.cond ∷ []) + 0) ≡ false = not_above (widest (b.cond ∷ []) + 0) (omega (arith, thin)) in
          let cond_is : condition its scope (added (Some aim)) node ≡ sound (b.cond ∷ []) =
          ap (λ m. condition its scope m node) (aimed_added target sort)
          ∙ ap (λ c. c >>= λ formula. normalized (signature_of p) token formula >>= λ list. cond_tests token 0 list) found.is
          ∙ ap (λ c. c >>= λ list. cond_tests token 0 list) wide
          ∙ ap (λ t. if t then refuse token kinds.T17 else sound (b.cond ∷ [])) in_limit in
          let value_is : right_value its scope token (sort_aimed (Some aim)) node.right ≡ sound b.value =
          ap (λ o. right_value its scope token (Some o) node.right) (aimed_sort target sort)
          ∙ value_read sort is b.value (and_right fits value_fit h.0) token (past behind colon) (at_right text behind colon value (at_right text cond lits (colon ++ value) at_both)) in
          record {
            made = ap (λ c. record { conds = c.value; value = (right_value its scope token (sort_aimed (Some aim)) node.right).value }) cond_is
                ∙ ap (λ c. record { conds = Some (b.cond ∷ []); value = c.value }) value_is;
            faultless = ap (λ c. c.faults ++ (right_value its scope token (sort_aimed (Some aim)) node.right).faults) cond_is ∙ ap (λ c. [] ++ c.faults) value_is;
            marked = value_mark b.value (past behind colon);
          }
        where
          not_above : (m : ℕ) → m ≤ 64 → nat_lt 64 m ≡ false
          not_above m few = split (nat_lt 64 m) refl
            where
              split : (t : Bool) → nat_lt 64 m ≡ t → nat_lt 64 m ≡ false
              split true e = let more : 64 < m = less_is 64 m e in absurd (omega arith)
              split false e = e

      cases_made : (nodes : List CaseNode) (bs : List Branch) → AllZip IsCase nodes bs → map (case_of its scope (Some aim)) nodes ≡ map case_made bs
      cases_made [] [] z = refl
      cases_made [] (b ∷ bs) z = absurd z
      cases_made (x ∷ xs) [] z = absurd z
      cases_made (x ∷ xs) (b ∷ bs) z = ap (λ c. c ∷ map (case_of its scope (Some aim)) xs) z.0.made ∙ ap (λ cs. case_made b ∷ cs) (cases_made xs bs z.1)

      none_in_cases : (nodes : List CaseNode) (bs : List Branch) → AllZip IsCase nodes bs → all_case_faults its scope (Some aim) nodes ≡ []
      none_in_cases [] [] z = refl
      none_in_cases [] (b ∷ bs) z = absurd z
      none_in_cases (x ∷ xs) [] z = absurd z
      none_in_cases (x ∷ xs) (b ∷ bs) z = ap (λ fs. fs ++ all_case_faults its scope (Some aim) xs) z.0.faultless ∙ none_in_cases xs bs z.1

      marks_of : (nodes : List CaseNode) (bs : List Branch) (last : RightNode) (any : Bool) → AllZip IsCase nodes bs → has_value (mark_of last) ≡ any
          → has_value (first_mark nodes last) ≡ (list_any (λ b. is_any b.value) bs || any)
      marks_of [] [] last any z h = h
      marks_of [] (b ∷ bs) last any z h = absurd z
      marks_of (x ∷ xs) [] last any z h = absurd z
      marks_of (x ∷ xs) (b ∷ bs) last any z h =
          either_mark (mark_of x.right) (first_mark xs last) ∙ ap (λ t. t || has_value (first_mark xs last)) z.0.marked ∙ ap (λ t. is_any b.value || t) (marks_of xs bs last any z.1 h)
          ∙ or_assoc (is_any b.value) (list_any (λ c. is_any c.value) bs) any
        where
          or_assoc : (a c d : Bool) → (a || (c || d)) ≡ ((a || c) || d)
          or_assoc true c d = refl
          or_assoc false c d = refl

      -- what is assigned
      pub record IsAssigned (u : Update) (bs : List Branch) (at : Leaf) (s : Spot) : Type 0 where
        pub cases : map (case_of its scope (Some aim)) (assigned_tree p params u bs at s).0 ≡ map case_made bs
        pub faultless : all_case_faults its scope (Some aim) (assigned_tree p params u bs at s).0 ≡ []
        pub last : right_value its scope (assigned_tree p params u bs at s).1.number (Some sort) (assigned_tree p params u bs at s).2 ≡ sound u.last
        pub marked : has_value (first_mark (assigned_tree p params u bs at s).0 (assigned_tree p params u bs at s).2) ≡ (list_any (λ b. is_any b.value) bs || is_any u.last)

      pub assigned_read : (u : Update) → u.target ≡ target → (bs : List Branch) (at : Leaf) (s : Spot) → Every IsBranchKept bs → IsTrue (value_fits (signature_of p) width sort u.last)
          → positions.At text s (assigned_marks p params u bs) → IsAssigned u bs at s
      assigned_read u same [] at s all last here =
          let value_here : positions.At text s (value_marks p params target u.last) = subst (λ x. positions.At text s (value_marks p params x u.last)) same here in
          record {
            cases = refl;
            faultless = refl;
            last = subst (λ x. right_value its scope at.number (Some sort) (value_tree p params x u.last s) ≡ sound u.last) (sym same) (value_read sort is u.last last at.number s value_here);
            marked = ap (λ x. has_value (mark_of (value_tree p params x u.last s))) same ∙ value_mark u.last s;
          }
      assigned_read u same (b ∷ bs) at s all last here =
          let begin = word k.CaseWord (codes "case") ∷ blank ∷ [] in
          let start = past s begin in
          let branches = flat_map (branch_marks p params u.target) (b ∷ bs) in
          let behind = past start branches in
          let front = word k.Bar (codes "|") ∷ blank ∷ word k.Underscore (codes "_") ∷ blank ∷ word k.Colon (codes ":") ∷ blank ∷ [] in
          let value = value_marks p params u.target u.last in
          let at_all : positions.At text start (branches ++ (front ++ value)) = at_right text s begin (branches ++ (front ++ value)) here in
          let value_here : positions.At text (past behind front) (value_marks p params target u.last) =
          subst (λ x. positions.At text (past behind front) (value_marks p params x u.last)) same (at_right text behind front value (at_right text start branches (front ++ value) at_all)) in
          let nodes = in_row (branch_marks p params u.target) (branch_tree p params u.target) (b ∷ bs) start in
          let zipped : AllZip IsCase nodes (b ∷ bs) =
          row_zip text IsBranchKept IsCase (branch_marks p params u.target) (branch_tree p params u.target)
          (subst (λ x. (c : Branch) (r : Spot) → IsBranchKept c → positions.At text r (branch_marks p params x c) → IsCase (branch_tree p params x c r) c) (sym same) branch_read)
          (b ∷ bs) all start (at_left text start branches (front ++ value) at_all) in
          let tree = assigned_tree p params u (b ∷ bs) at s in
          record {
            cases = cases_made nodes (b ∷ bs) zipped;
            faultless = none_in_cases nodes (b ∷ bs) zipped;
            last = subst (λ x. right_value its scope tree.1.number (Some sort) (value_tree p params x u.last (past behind front)) ≡ sound u.last) (sym same)
                (value_read sort is u.last last tree.1.number (past behind front) value_here);
            marked = marks_of nodes (b ∷ bs) tree.2 (is_any u.last) zipped (ap (λ x. has_value (mark_of (value_tree p params x u.last (past behind front)))) same ∙ value_mark u.last (past behind front));
          }

  -- ---- targets
  module _ (ls : List Leaf) (few : params ≤ 3) (words : AreWords text ls (places_named params)) where
    abbrev outer : List Local
    outer = locals_from 0 ls

    outer_scope : IsScope text outer params params
    outer_scope = scope_read text params ls (omega (arith, few)) words

    index_word : (a : ℕ) (s : Spot) → positions.At text s (target_marks p params (Target.Array a)) → word_of text (index_tree (decl_name p.arrays a) (place_name params params) s) ≡ place_name params params
    index_word a s at =
        let front = name (decl_name p.arrays a) ∷ word k.BracketOpen (codes "[") ∷ [] in
        let ending = word k.BracketClose (codes "]") ∷ [] in
        word_is text (past s front) k.Name (place_name params params) ending (at_right text s front (name (place_name params params) ∷ ending) at)

    abbrev index_at : Target → Spot → Option ℕ
    index_at target s = index_place its outer (target_index p params target s)

    index_none : (a : ℕ) (s : Spot) → positions.At text s (target_marks p params (Target.Array a)) → index_at (Target.Array a) s ≡ None
    index_none a s at = ap (place_of text outer) (index_word a s at) ∙ outer_none text params ls few words

    aim_read : (target : Target) (sort : Sort) (s : Spot) → target_sort (signature_of p) target ≡ Some sort → positions.At text s (target_marks p params target)
        → target_of (target_tree p target s).number (place_at its outer (target_tree p target s)) (what_at its (target_tree p target s)) (target_index p params target s) (index_at target s) ≡ sound (aimed target sort)
    aim_read (Target.Global g) sort s is at =
        let own = word_is text s k.Name (decl_name p.globals g) [] at in
        let hidden = outer_scope.unknown (decl_name p.globals g) (global_plain p plain g sort is) in
        rw (own, hidden, global_stands p g sort is) refl
    aim_read (Target.Array a) sort s is at =
        let bytes = decl_name p.arrays a in
        let own = word_is text s k.Name bytes (word k.BracketOpen (codes "[") ∷ name (place_name params params) ∷ word k.BracketClose (codes "]") ∷ []) at in
        let hidden = outer_scope.unknown bytes (array_plain p plain a sort is) in
        let leaf_ = target_index p params (Target.Array a) s in
        let named : place_at its outer (target_tree p (Target.Array a) s) ≡ None = ap (place_of text outer) own ∙ hidden in
        let stands : what_at its (target_tree p (Target.Array a) s) ≡ Some (What.Array a sort) = ap (stands_for (signature_of p)) own ∙ array_stands p a sort is in
        ap (λ o. target_of s.number o (what_at its (target_tree p (Target.Array a) s)) leaf_ (index_at (Target.Array a) s)) named
        ∙ ap (λ w. target_of s.number None w leaf_ (index_at (Target.Array a) s)) stands
        ∙ ap (λ i. target_of s.number None (Some (What.Array a sort)) leaf_ i) (index_none a s at)

    abbrev inner_at : Target → Spot → List Local
    inner_at target s = inner_scope outer params (target_index p params target s) (index_at target s)

    inner_read : (target : Target) (s : Spot) → positions.At text s (target_marks p params target) → IsScope text (inner_at target s) params (update_width params target)
    inner_read (Target.Global g) s at = outer_scope
    inner_read (Target.Array a) s at =
        let its_leaf = index_tree (decl_name p.arrays a) (place_name params params) s in
        subst (λ o. IsScope text (inner_scope outer params (Some its_leaf) o) params (params + 1)) (sym (index_none a s at))
        (inner_scope_read text outer params its_leaf few outer_scope (outer_none text params ls few words) (index_word a s at ∙ inner_name params few))

    index_clean : (target : Target) (s : Spot) → positions.At text s (target_marks p params target) → index_faults its (target_index p params target s) (index_at target s) ≡ []
    index_clean (Target.Global g) s at = refl
    index_clean (Target.Array a) s at =
        let its_leaf = index_tree (decl_name p.arrays a) (place_name params params) s in
        let stands : stands_for (signature_of p) (word_of text its_leaf) ≡ None = ap (stands_for (signature_of p)) (index_word a s at) ∙ variable_stands p plain (place_name params params) refl in
        ap (index_faults its (Some its_leaf)) (index_none a s at) ∙ ap (λ o. if has_value o then fault its_leaf.number kinds.T02 ∷ [] else []) stands

    -- ---- an update
    pub record IsWrittenOf (w : Written) (u : Update) : Type 0 where
      pub sort : Sort
      pub sorted : target_sort (signature_of p) u.target ≡ Some sort
      pub aim : w.aim ≡ Some (aimed u.target sort)
      pub cases : w.cases ≡ map case_made u.branches
      pub last : w.last ≡ Some u.last
      pub marked : has_value w.mark ≡ takes_any u

    pub record IsUpdateRead (node : UpdateNode) (u : Update) : Type 0 where
      pub is_written : IsWrittenOf (written its outer params node) u
      pub faultless : written_faults its outer params node ≡ []

    update_of_sort : (u : Update) (sort : Sort) → target_sort (signature_of p) u.target ≡ Some sort → list_all (branch_fits (signature_of p) (update_width params u.target) sort) u.branches ≡ true
        → IsTrue (value_fits (signature_of p) (update_width params u.target) sort u.last) → list_all (λ b. is_writable_conjunction p b.cond) u.branches ≡ true → list_all (λ b. is_normal_conjunction p b.cond) u.branches ≡ true
        → (s : Spot) → positions.At text s (update_marks p params u) → IsUpdateRead (update_tree p params u s) u
    update_of_sort u sort is fits last_fits writable normal s at =
        let target_ = target_marks p params u.target in
        let middle = blank ∷ word k.Assign (codes ":=") ∷ blank ∷ [] in
        let assigned = assigned_marks p params u u.branches in
        let ending = word k.Semicolon (codes ";") ∷ blank ∷ [] in
        let front : positions.At text s (target_ ++ (middle ++ assigned)) = at_left text s (target_ ++ (middle ++ assigned)) ending at in
        let at_target = at_left text s target_ (middle ++ assigned) front in
        let behind = past s target_ in
        let there = past behind middle in
        let at_leaf = leaf k.Assign (codes ":=") (past behind (blank ∷ [])) in
        let inner = inner_at u.target s in
        let is_inner = inner_read u.target s at_target in
        let aim_is = aim_read u.target sort s is at_target in
        let tree = assigned_tree p params u u.branches at_leaf there in
        let found = assigned_read inner (update_width params u.target) is_inner u.target sort is u refl u.branches at_leaf there (every_branch u.branches fits writable normal) last_fits
        (at_right text behind middle assigned (at_right text s target_ (middle ++ assigned) front)) in
        let token = tree.1.number in
        let the_aim = target_of (target_tree p u.target s).number (place_at its outer (target_tree p u.target s)) (what_at its (target_tree p u.target s)) (target_index p params u.target s) (index_at u.target s) in
        let index_ = index_faults its (target_index p params u.target s) (index_at u.target s) in
        let case_ = all_case_faults its inner (Some (aimed u.target sort)) tree.0 in
        record {
          is_written = record {
            sort = sort;
            sorted = is;
            aim = ap (λ (a : Checked Aim). a.value) aim_is;
            cases = ap (λ (a : Checked Aim). map (case_of its inner a.value) tree.0) aim_is ∙ found.cases;
            last = ap (λ (a : Checked Aim). (right_value its inner token (sort_aimed a.value) tree.2).value) aim_is
                ∙ ap (λ o. (right_value its inner token (Some o) tree.2).value) (aimed_sort u.target sort) ∙ ap (λ (c : Checked Value). c.value) found.last;
            marked = found.marked ∙ or_comm (list_any (λ b. is_any b.value) u.branches) (is_any u.last);
          };
          faultless =
              ap (λ (a : Checked Aim). a.faults ++ index_ ++ all_case_faults its inner a.value tree.0 ++ (right_value its inner token (sort_aimed a.value) tree.2).faults) aim_is
              ∙ ap (λ fs. [] ++ fs ++ case_ ++ (right_value its inner token (Some (sort_of_aim (aimed u.target sort))) tree.2).faults) (index_clean u.target s at_target)
              ∙ ap (λ fs. [] ++ [] ++ fs ++ (right_value its inner token (Some (sort_of_aim (aimed u.target sort))) tree.2).faults) found.faultless
              ∙ ap (λ o. [] ++ [] ++ [] ++ (right_value its inner token (Some o) tree.2).faults) (aimed_sort u.target sort)
              ∙ ap (λ (c : Checked Value). [] ++ [] ++ [] ++ c.faults) found.last;
        }
      where
        every_branch : (bs : List Branch) → list_all (branch_fits (signature_of p) (update_width params u.target) sort) bs ≡ true → list_all (λ b. is_writable_conjunction p b.cond) bs ≡ true
            → list_all (λ b. is_normal_conjunction p b.cond) bs ≡ true
            → Every (λ b. IsTrue (branch_fits (signature_of p) (update_width params u.target) sort b) × IsTrue (is_writable_conjunction p b.cond) × IsTrue (is_normal_conjunction p b.cond)) bs
        every_branch [] a b c = tt
        every_branch (x ∷ xs) a b c =
            let fit = branch_fits (signature_of p) (update_width params u.target) sort x in
            let write = is_writable_conjunction p x.cond in
            let normal_ = is_normal_conjunction p x.cond in (
              (
                and_left fit (list_all (branch_fits (signature_of p) (update_width params u.target) sort) xs) a,
                and_left write (list_all (λ y. is_writable_conjunction p y.cond) xs) b,
                and_left normal_ (list_all (λ y. is_normal_conjunction p y.cond) xs) c,
              ),
              every_branch xs (and_right fit (list_all (branch_fits (signature_of p) (update_width params u.target) sort) xs) a) (and_right write (list_all (λ y. is_writable_conjunction p y.cond) xs) b)
                  (and_right normal_ (list_all (λ y. is_normal_conjunction p y.cond) xs) c),
            )

    pub update_read : (u : Update) → IsTrue (update_fits (signature_of p) params u) → list_all (λ b. is_writable_conjunction p b.cond) u.branches ≡ true → list_all (λ b. is_normal_conjunction p b.cond) u.branches ≡ true
        → (s : Spot) → positions.At text s (update_marks p params u) → IsUpdateRead (update_tree p params u s) u
    update_read u fits writable normal = by (target_sort (signature_of p) u.target) refl fits
      where
        by : (o : Option Sort) → target_sort (signature_of p) u.target ≡ o → IsTrue (update_fits_sort (signature_of p) (update_width params u.target) o u)
            → (s : Spot) → positions.At text s (update_marks p params u) → IsUpdateRead (update_tree p params u s) u
        by None is h = absurd cc
        by (Some sort) is h =
            let short = nat_le (length u.branches) 64 in
            let all = list_all (branch_fits (signature_of p) (update_width params u.target) sort) u.branches in
            let last = value_fits (signature_of p) (update_width params u.target) sort u.last in
            update_of_sort u sort is (and_right short all (and_left (short && all) last h)) (and_right (short && all) last h) writable normal
