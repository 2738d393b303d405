-- A tree without faults has the parts of a protocol.
use Rattle.std.proofs.Common.{◌≡◌, ℕ, zero, suc, ◌≤◌, Bool, true, false, List, [], ◌∷◌, ◌++◌, length, map, drop, Option, Some, None, refl, sym, ap, ◌∙◌, subst, arith, nat_lt, nat_le, inl, inr, ◌⊎◌}
use Rattle.std.specs.Prelude.{◌&&◌, not, flat_map, codes, bytes_eq, if◌then◌else◌}
use Rattle.std.specs.List.{list_all}
use Rattle.std.proofs.lemmas.List.{length-map}
use Rattle.cub_base.proofs.Bools.{and_left, and_right, and_both, is_le}
use Rattle.cub_base.proofs.Elements.{all_from, from_all}
use Rattle.cub_parse.specs.declared.tree.Syntax.{Syntax}
use Rattle.cub_parse.specs.declared.tree.BodyNode.{BodyNode}
use Rattle.cub_parse.specs.declared.tree.RestNode.{RestNode}
use Rattle.cub_proto.specs.declared.literal.Sort.{Sort}
use Rattle.cub_proto.specs.declared.literal.Lit.{Lit}
use Rattle.cub_proto.specs.declared.protocol.SortDecl.{SortDecl}
use Rattle.cub_proto.specs.declared.protocol.Decl.{Decl}
use Rattle.cub_proto.specs.declared.protocol.Goal.{Goal}
use Rattle.cub_proto.specs.declared.protocol.Protocol.{Protocol}
use Rattle.cub_proto.specs.declared.transition.Transition.{Transition}
use Rattle.cub_proto.specs.Signature.{Signature, signature, declared_sort, is_sort, same_sort}
use Rattle.cub_proto.specs.Fits.{counts_fit, integers_in, sorts_fit, sort_decl_fits, is_bool, constructors_are_false_true, array_fits, sort_is_there, are_distinct, value_names, goal_fits, transition_fits}
use Rattle.cub_proto.specs.Parts.{AreParts}
use Rattle.cub_proto.specs.StateOf.{signature_of}
use Rattle.cub_proto.proofs.SameParts.{parts_of}
use Rattle.cub_base.specs.Name.{is_declarable}
use Rattle.cub_names.specs.declared.fault.TypeKind.TheVariants as t
use Rattle.cub_names.specs.declared.fault.Fault.{Fault}
use Rattle.cub_names.specs.Checked.{before, first_of_all}
use Rattle.cub_names.specs.Words.{word_of, may_declare}
use Rattle.cub_names.specs.Lists.{repeated}
use Rattle.cub_names.specs.Meaning.{Frame}
use Rattle.cub_names.specs.Declarations.{at_each, forbidden, declared, declared_faults}
use Rattle.cub_names.proofs.Empty.{nil_left, nil_right, nil_map, nil_drop}
use Rattle.cub_names.proofs.NamesDistinct.{none_repeated}
use Rattle.cub_names.proofs.DeclaredFit.{none_fails, declared_parts}
use Rattle.cub_types.specs.declared.reading.Rest.{Rest}
use Rattle.cub_types.specs.Bodies.{start, goals_from}
use Rattle.cub_types.specs.Typing.{rest_of, typed_rest, rest_typed, transition_name, transition_name_faults, transitions_of, frame_of, faults_of, if_none, IsProtocol, Reads, IsFaultOf}
use Rattle.cub_types.specs.Laws.{Decided}
use Rattle.cub_types.specs.Typed.{has_truths}
use Rattle.cub_types.proofs.BodiesFit.{goals_fit}
use Rattle.cub_types.proofs.StartFits.{start_is_fit}
use Rattle.cub_types.proofs.TransitionsFit.{transitions_fit}
use Rattle.cub_types.proofs.RestTold.{rest_not_lost}

two : (cons : List (List ℕ)) → constructors_are_false_true cons ≡ true → nat_lt 1 (length cons) ≡ true
two [] h = cc
two (c ∷ []) h = cc
two (c ∷ d ∷ []) h = refl
two (c ∷ d ∷ e ∷ es) h = cc

-- `bool` has its two constructors where the sorts are those of a protocol
pub truths_of : (sorts : List SortDecl) (globals arrays : List Decl) → sorts_fit sorts ≡ true → has_truths (signature sorts globals arrays) ≡ true
truths_of [] globals arrays h = cc
truths_of (d ∷ ds) globals arrays h = two d.cons (and_right (bytes_eq d.name (codes "bool")) (constructors_are_false_true d.cons) (and_left (is_bool d) (list_all sort_decl_fits ds) h))

not_true : (b : Bool) → not b ≡ true → b ≡ false
not_true true h = sym h
not_true false h = refl

-- no array holds processes
plain_arrays : (sorts : List SortDecl) (arrays : List Decl) → list_all (array_fits sorts) arrays ≡ true → (a : ℕ) → is_sort (declared_sort arrays a) Sort.Proc ≡ false
plain_arrays sorts [] h a = refl
plain_arrays sorts (d ∷ ds) h zero =
    not_true (same_sort d.sort Sort.Proc) (and_right (is_declarable d.name && sort_is_there sorts d.sort) (not (same_sort d.sort Sort.Proc)) (and_left (array_fits sorts d) (list_all (array_fits sorts) ds) h))
plain_arrays sorts (d ∷ ds) h (suc a) = plain_arrays sorts ds (and_right (array_fits sorts d) (list_all (array_fits sorts) ds) h) a

-- the counts, with other goals and transitions
recounted : (sorts : List SortDecl) (globals arrays : List Decl) (gs : List Goal) (ts : List Transition) (goals : List Goal) (transitions : List Transition)
    → counts_fit sorts globals arrays gs ts ≡ true → length goals ≤ 4096 → length transitions ≤ 256 → counts_fit sorts globals arrays goals transitions ≡ true
recounted sorts globals arrays gs ts goals transitions h few less =
    let base = nat_le (length sorts) 257 && nat_le (length globals) 64 && nat_le (integers_in globals) 16 && nat_le (length arrays) 32 && nat_le (integers_in arrays) 8 in
    let own = and_left base (nat_le (length gs) 4096) (and_left (base && nat_le (length gs) 4096) (nat_le (length ts) 256) h) in
    and_both (base && nat_le (length goals) 4096) (nat_le (length transitions) 256) (and_both base (nat_le (length goals) 4096) own (is_le (length goals) 4096 few)) (is_le (length transitions) 256 less)

-- the parts of what stands behind the declarations
record Parted (s : Option (List (List Lit))) (gs : Option (List Goal)) (ts : Option (List Transition)) (rest : Rest) : Type 0 where
  starts : s ≡ Some rest.start
  goals : gs ≡ Some rest.goals
  transitions : ts ≡ Some rest.transitions

parted : (s : Option (List (List Lit))) (gs : Option (List Goal)) (ts : Option (List Transition)) (rest : Rest) → rest_of s gs ts ≡ Some rest → Parted s gs ts rest
parted None gs ts rest h = cc
parted (Some s) None ts rest h = cc
parted (Some s) (Some gs) None rest h = cc
parted (Some s) (Some gs) (Some ts) rest h =
    let same : record { start = s; goals = gs; transitions = ts } ≡ rest = cc in
    record { starts = ap (λ (r : Rest). Some r.start) same; goals = ap (λ (r : Rest). Some r.goals) same; transitions = ap (λ (r : Rest). Some r.transitions) same }

-- with declarations that are those of a protocol, what stands behind them makes one
pub rest_parts : (frame : Frame) (starts : List (List Lit)) (gs : List Goal) (ts : List Transition) → AreParts frame.sig.sorts frame.sig.globals frame.sig.arrays starts gs ts
    → (init : BodyNode) (rs : List RestNode) (rest : Rest) → (typed_rest frame init rs).value ≡ Some rest → (typed_rest frame init rs).faults ≡ []
    → AreParts frame.sig.sorts frame.sig.globals frame.sig.arrays rest.start rest.goals rest.transitions
rest_parts frame starts gs ts base init rs rest h none =
    let sig = frame.sig in
    let s = start frame init in
    let goals = goals_from frame 0 rs in
    let transitions = transitions_of frame rs in
    let names = flat_map transition_name rs in
    let named = transition_name_faults frame names in
    let parts = parted s.value goals.value transitions.value rest h in
    let truths = truths_of sig.sorts sig.globals sig.arrays base.sorts in
    let front = nil_left (s.faults ++ goals.faults ++ named) transitions.faults none in
    let two_faults = nil_left (s.faults ++ goals.faults) named front in
    let no_named = nil_right (s.faults ++ goals.faults) named front in
    let bad = at_each t.T18 (forbidden frame.text names) in
    let again = at_each t.T02 (repeated frame.text [] names) in
    let many = at_each t.T16 (drop 256 names) in
    let pair = nil_left (bad ++ again) many no_named in
    let may = none_fails (λ l. may_declare (word_of frame.text l)) names (nil_map _ (forbidden frame.text names) (nil_left bad again pair)) in
    let new = none_repeated frame.text [] names (nil_map _ (repeated frame.text [] names) (nil_right bad again pair)) in
    let few = nil_drop 256 names (nil_map _ (drop 256 names) (nil_right (bad ++ again) many no_named)) in
    let goals_are = goals_fit frame truths 0 rs rest.goals (omega arith) parts.goals (nil_right s.faults goals.faults two_faults) in
    let plain = plain_arrays sig.sorts sig.arrays (from_all (array_fits sig.sorts) sig.arrays base.arrays) in
    let transitions_are = transitions_fit frame truths plain rs rest.transitions may parts.transitions (nil_right (s.faults ++ goals.faults ++ named) transitions.faults none) in
    let size : length rest.transitions ≡ length names = sym (length-map rest.transitions (λ (x : Transition). x.name)) ∙ ap length transitions_are.1 ∙ length-map names (word_of frame.text) in
    let spaces = are_distinct (map (λ (d : SortDecl). d.name) sig.sorts) && are_distinct (value_names sig.sorts sig.globals sig.arrays) in
    record {
      few = recounted sig.sorts sig.globals sig.arrays gs ts rest.goals rest.transitions base.few (let n = goals_are.1 in omega (arith, n)) (omega (arith, size, few));
      sorts = base.sorts;
      distinct = and_both spaces (are_distinct (map (λ (x : Transition). x.name) rest.transitions)) (and_left spaces (are_distinct (map (λ (x : Transition). x.name) ts)) base.distinct)
          (ap are_distinct transitions_are.1 ∙ new);
      globals = base.globals;
      arrays = base.arrays;
      start = start_is_fit frame truths init rest.start parts.starts (nil_left s.faults goals.faults two_faults);
      goals = all_from (goal_fits sig) rest.goals goals_are.0;
      transitions = all_from (transition_fits sig) rest.transitions transitions_are.0;
    }

at_base : (p : Protocol) (text : List ℕ) (sig : Signature) → signature_of p ≡ sig → (init : BodyNode) (rs : List RestNode) (rest : Rest)
    → (typed_rest (record { text = text; sig = sig }) init rs).value ≡ Some rest → (typed_rest (record { text = text; sig = sig }) init rs).faults ≡ []
    → AreParts p.sorts p.globals p.arrays rest.start rest.goals rest.transitions
at_base p text sig same init rs rest h none =
    rest_parts (record { text = text; sig = signature_of p }) p.start p.goals p.transitions (parts_of p) init rs rest
    (subst (λ s. (typed_rest (record { text = text; sig = s }) init rs).value ≡ Some rest) (sym same) h) (subst (λ s. (typed_rest (record { text = text; sig = s }) init rs).faults ≡ []) (sym same) none)

-- the same with the protocol that is declared
pub parts_of_base : (p : Protocol) (frame : Frame) → signature_of p ≡ frame.sig → (init : BodyNode) (rs : List RestNode) (rest : Rest)
    → (typed_rest frame init rs).value ≡ Some rest → (typed_rest frame init rs).faults ≡ []
    → AreParts p.sorts p.globals p.arrays rest.start rest.goals rest.transitions
parts_of_base p frame same init rs rest h none = at_base p frame.text frame.sig same init rs rest h none

none_first : (ds later : List Fault) → if_none ds later ≡ [] → (ds ≡ []) × (later ≡ [])
none_first [] later h = (refl, h)
none_first (x ∷ xs) later h = cc

-- the protocol of parts
made_of : (sorts : List SortDecl) (globals arrays : List Decl) (starts : List (List Lit)) (goals : List Goal) (transitions : List Transition)
    → AreParts sorts globals arrays starts goals transitions → Protocol
made_of sorts globals arrays starts goals transitions parts = record {
  sorts = sorts;
  globals = globals;
  arrays = arrays;
  start = starts;
  goals = goals;
  transitions = transitions;
  few = parts.few;
  sorts_fit = parts.sorts;
  distinct = parts.distinct;
  globals_fit = parts.globals;
  arrays_fit = parts.arrays;
  start_fits = parts.start;
  goals_fit = parts.goals;
  transitions_fit = parts.transitions;
}

made_is : (sig : Signature) (rest : Rest) (parts : AreParts sig.sorts sig.globals sig.arrays rest.start rest.goals rest.transitions)
    → IsProtocol (made_of sig.sorts sig.globals sig.arrays rest.start rest.goals rest.transitions parts) sig rest
unfolding made_of
made_is sig rest parts = record { declares = refl; starts = refl; goals = refl; transitions = refl }

read_by : (text : List ℕ) (tree : Syntax) (found : Option Rest) → (rest_typed text tree).value ≡ found → faults_of text tree ≡ [] → (p : Protocol) × Reads text tree p
read_by text tree None is none =
    absurd (rest_not_lost (frame_of text tree) tree.init tree.rests is (none_first (declared_faults text tree.decls) (rest_typed text tree).faults none).1)
read_by text tree (Some rest) is none =
    let first = none_first (declared_faults text tree.decls) (rest_typed text tree).faults none in
    let parts = rest_parts (frame_of text tree) [] [] [] (declared_parts text tree.decls first.0) tree.init tree.rests rest is first.1 in
    let sig = declared text tree.decls in (
      made_of sig.sorts sig.globals sig.arrays rest.start rest.goals rest.transitions parts,
      record {
        no_fault = none;
        is = (rest, is, made_is sig rest parts);
      },
    )

-- a tree without a fault reads as a protocol
pub reads : (text : List ℕ) (tree : Syntax) → faults_of text tree ≡ [] → (p : Protocol) × Reads text tree p
reads text tree none = read_by text tree (rest_typed text tree).value refl none

-- of some faults one is the first
first_there : (f : Fault) (fs : List Fault) → (g : Fault) × (first_of_all (Some f) fs ≡ Some g)
first_there f [] = (f, refl)
first_there f (x ∷ xs) = by (before x f) (first_there f xs) (first_there x xs)
  where
    by : (b : Bool) → (g : Fault) × (first_of_all (Some f) xs ≡ Some g) → (g : Fault) × (first_of_all (Some x) xs ≡ Some g)
        → (g : Fault) × (first_of_all (if b then Some x else Some f) xs ≡ Some g)
    by true old new = new
    by false old new = old

decided_by : (text : List ℕ) (tree : Syntax) (faults : List Fault) → faults_of text tree ≡ faults → ((p : Protocol) × Reads text tree p) ⊎ ((f : Fault) × IsFaultOf text tree f)
decided_by text tree [] is = inl (reads text tree is)
decided_by text tree (f ∷ fs) is = let first = first_there f fs in inr (first.0, ap (first_of_all None) is ∙ first.1)

-- every tree reads as a protocol or has a fault
pub decided : Decided
decided text tree = decided_by text tree (faults_of text tree) refl
