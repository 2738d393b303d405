-- No fault stands among the names of printed transitions.
use Rattle.std.proofs.Common.{◌≡◌, ℕ, ◌+◌, ◌≤◌, true, List, [], ◌∷◌, ◌++◌, length, map, drop, refl, arith}
use Rattle.std.specs.Prelude.{IsTrue, ◌&&◌, not, nat_le, count_by, flat_map}
use Rattle.std.specs.List.{AllZip, list_all}
use Rattle.cub_base.specs.Name.{is_declarable}
use Rattle.cub_base.proofs.Bools.{and_left, and_right, and_both, le_is}
use Rattle.cub_base.proofs.Elements.{from_all}
use Rattle.cub_parse.specs.declared.tree.Leaf.{Leaf}
use Rattle.cub_parse.specs.declared.tree.RestNode.{RestNode}
use Rattle.cub_parse.specs.declared.tree.RestNode.TheVariants as rests
use Rattle.cub_names.specs.Declarations.{forbidden}
use Rattle.cub_names.specs.Lists.{repeated}
use Rattle.cub_names.specs.Meaning.{Frame}
use Rattle.cub_names.specs.Words.{word_of, begins_with_underscore, may_declare}
use Rattle.cub_types.specs.Typing.{transition_name, transition_name_faults}
use Rattle.cub_proto.specs.declared.protocol.Goal.{Goal}
use Rattle.cub_proto.specs.declared.protocol.Protocol.{Protocol}
use Rattle.cub_proto.specs.declared.transition.Transition.{Transition}
use Rattle.cub_proto.specs.Fits.{are_distinct, value_names, integers_in, formula_fits, update_fits, picks_process, targets_rise, transition_fits}
use Rattle.cub_proto.specs.Signature.{Signature}
use Rattle.cub_proto.specs.StateOf.{signature_of}
use Rattle.cub_print.specs.Mark.{Mark}
use Rattle.cub_print.specs.Printed.{goal_marks}
use Rattle.print_laws.specs.Spot.{Spot, past, in_row}
use Rattle.print_laws.specs.Tree.{goal_tree}
use Rattle.print_names.specs.Plain.{is_plain}
use Rattle.print_names.proofs.Rows.{AreWords, zip_length, none_behind, none_forbidden, none_repeated}
use Rattle.print_transitions.specs.HeadsAreRead.{IsHeadOf}
use Rattle.print_reads.specs.Normal.{has_plain_transition_names}

abbrev pub names_of : List Transition → List (List ℕ)
names_of ts = map (λ t. t.name) ts

-- what stands behind a row
pub behind_row : {A T : Type 0} (marks : A → List Mark) (tree : A → Spot → T) (xs : List A) (s : Spot) (others : List T) → drop (length xs) (in_row marks tree xs s ++ others) ≡ others
behind_row marks tree [] s others = refl
behind_row marks tree (x ∷ xs) s others = behind_row marks tree xs (past s (marks x)) others

-- goals have no names
pub behind_goals : (p : Protocol) (gs : List Goal) (s : Spot) (nodes : List RestNode)
    → flat_map transition_name (in_row (goal_marks p) (goal_tree p) gs s ++ nodes) ≡ flat_map transition_name nodes
behind_goals p [] s nodes = refl
behind_goals p (g ∷ gs) s nodes = behind_goals p gs (past s (goal_marks p g)) nodes

name_here : (frame : Frame) (node : RestNode) (t : Transition) → IsHeadOf frame node t → AreWords frame.text (transition_name node) (t.name ∷ [])
name_here frame (rests.Unsafe body) t head = absurd head
name_here frame (rests.Invariant word body) t head = absurd head
name_here frame (rests.Transition name names guard updates) t head = (head.0, tt)

one_more : (text : List ℕ) (here ls : List Leaf) (n : List ℕ) (ns : List (List ℕ)) → AreWords text here (n ∷ []) → AreWords text ls ns → AreWords text (here ++ ls) (n ∷ ns)
one_more text [] ls n ns a b = absurd a
one_more text (l ∷ []) ls n ns a b = (a.0, b)
one_more text (l ∷ m ∷ ms) ls n ns a b = absurd a.1

pub names_read : (frame : Frame) (nodes : List RestNode) (ts : List Transition) → AllZip (IsHeadOf frame) nodes ts → AreWords frame.text (flat_map transition_name nodes) (names_of ts)
names_read frame [] [] heads = tt
names_read frame [] (t ∷ ts) heads = absurd heads
names_read frame (n ∷ ns) [] heads = absurd heads
names_read frame (n ∷ ns) (t ∷ ts) heads =
    one_more frame.text (transition_name n) (flat_map transition_name ns) t.name (names_of ts) (name_here frame n t heads.0) (names_read frame ns ts heads.1)

-- ---- what the protocol keeps of them
name_fits : (sig : Signature) (t : Transition) → IsTrue (transition_fits sig t) → IsTrue (is_declarable t.name)
name_fits sig t h =
    let named = is_declarable t.name in
    let few = nat_le (t.params + count_by (picks_process sig) t.updates) 3 in
    let guard = formula_fits sig t.params t.guard in
    let others = formula_fits sig (t.params + 1) t.others in
    let updates = list_all (update_fits sig t.params) t.updates in
    and_left named few
    (and_left (named && few) guard (and_left (named && few && guard) others (and_left (named && few && guard && others) updates (and_left (named && few && guard && others && updates) (targets_rise t.updates) h))))

all_may : (sig : Signature) (ts : List Transition) → list_all (transition_fits sig) ts ≡ true → list_all (λ t. is_plain t.name) ts ≡ true → list_all may_declare (names_of ts) ≡ true
all_may sig [] fits plain = refl
all_may sig (t ∷ ts) fits plain =
    and_both (may_declare t.name) (list_all may_declare (names_of ts))
    (and_both (is_declarable t.name) (not (begins_with_underscore t.name)) (name_fits sig t (and_left (transition_fits sig t) (list_all (transition_fits sig) ts) fits)) (and_left (is_plain t.name) (list_all (λ x. is_plain x.name) ts) plain))
    (all_may sig ts (and_right (transition_fits sig t) (list_all (transition_fits sig) ts) fits) (and_right (is_plain t.name) (list_all (λ x. is_plain x.name) ts) plain))

as_many : (ts : List Transition) → length (names_of ts) ≡ length ts
as_many [] = refl
as_many (t ∷ ts) = let more : length (names_of ts) ≡ length ts = as_many ts in omega (arith, more)

module _ (p : Protocol) where
  few_transitions : length p.transitions ≤ 256
  few_transitions =
      let front = nat_le (length p.sorts) 257 && nat_le (length p.globals) 64 && nat_le (integers_in p.globals) 16 && nat_le (length p.arrays) 32 && nat_le (integers_in p.arrays) 8 && nat_le (length p.goals) 4096 in
      le_is (length p.transitions) 256 (and_right front (nat_le (length p.transitions) 256) p.few)

  new_names : IsTrue (are_distinct (names_of p.transitions))
  new_names =
      let sorts = are_distinct (map (λ d. d.name) p.sorts) in
      let values = are_distinct (value_names p.sorts p.globals p.arrays) in
      and_right (sorts && values) (are_distinct (names_of p.transitions)) p.distinct

  pub none_named : (frame : Frame) (ls : List Leaf) → AreWords frame.text ls (names_of p.transitions) → IsTrue (has_plain_transition_names p) → transition_name_faults frame ls ≡ []
  none_named frame ls words plain =
      let names = names_of p.transitions in
      let may = all_may (signature_of p) p.transitions (from_all (transition_fits (signature_of p)) p.transitions p.transitions_fit) plain in
      let bad : forbidden frame.text ls ≡ [] = none_forbidden frame.text ls names words may in
      let twice : repeated frame.text [] ls ≡ [] = none_repeated frame.text ls names [] words new_names in
      let few : length ls ≤ 256 = omega (arith, zip_length (λ l n. word_of frame.text l ≡ n) ls names words, as_many p.transitions, few_transitions) in
      let many : drop 256 ls ≡ [] = none_behind 256 ls few in
      rw (bad, twice, many) refl
