-- What stands behind the declarations of a text, read as the parts of its protocol.
use Rattle.std.proofs.Common.{◌≡◌, ℕ, true, List, [], ◌∷◌, Option, Some, None, refl, sym, ap, ◌∙◌, subst}
use Rattle.std.specs.List.{list_all}
use Rattle.cub_base.proofs.Bools.{and_both}
use Rattle.cub_base.proofs.Conjunctions.{list_all_weaker}
use Rattle.cub_parse.specs.declared.tree.Syntax.{Syntax}
use Rattle.cub_proto.specs.declared.literal.Lit.{Lit}
use Rattle.cub_proto.specs.declared.transition.Transition.{Transition}
use Rattle.cub_proto.specs.declared.protocol.Goal.{Goal}
use Rattle.cub_proto.specs.declared.protocol.Protocol.{Protocol}
use Rattle.cub_proto.specs.Signature.{Signature}
use Rattle.cub_proto.specs.StateOf.{signature_of}
use Rattle.cub_names.specs.declared.fault.Fault.{Fault}
use Rattle.cub_names.specs.Declarations.{declared, declared_faults}
use Rattle.cub_types.specs.declared.reading.Rest.{Rest}
use Rattle.cub_types.specs.Bodies.{start, goals_from}
use Rattle.cub_types.specs.Typing.{rest_of, typed_rest, rest_typed, transitions_of, if_none, Reads}
use Rattle.print_names.specs.Plain.{declares_plain_names}
use Rattle.print_formulas.specs.Normal.{is_normal_conjunction, is_normal_formula, has_normal_bodies}
use Rattle.print_premises.proofs.Literals.{are_textual}
use Rattle.print_premises.proofs.Asked.{normal_conjunction, normal_formula}
use Rattle.print_premises.proofs.FormulasMeet.{frame}
use Rattle.print_premises.proofs.BodiesMeet.{is_textual_goal, start_textual, goals_textual}
use Rattle.print_premises.proofs.NamesMeet.{has_plain_signature, declared_plain}

-- the parts of what stands behind the declarations
pub record Parted (s : Option (List (List Lit))) (gs : Option (List Goal)) (ts : Option (List Transition)) (rest : Rest) : Type 0 where
  pub starts : s ≡ Some rest.start
  pub goals : gs ≡ Some rest.goals
  pub transitions : ts ≡ Some rest.transitions

parted : (s : Option (List (List Lit))) (gs : Option (List Goal)) (ts : Option (List Transition)) (rest : Rest) → rest_of s gs ts ≡ Some rest → Parted s gs ts rest
parted None gs ts rest h = cc
parted (Some s) None ts rest h = cc
parted (Some s) (Some gs) None rest h = cc
parted (Some s) (Some gs) (Some ts) rest h =
    let same : record { start = s; goals = gs; transitions = ts } ≡ rest = cc in
    record { starts = ap (λ (r : Rest). Some r.start) same; goals = ap (λ (r : Rest). Some r.goals) same; transitions = ap (λ (r : Rest). Some r.transitions) same }

none_first : (ds later : List Fault) → if_none ds later ≡ [] → (ds ≡ []) × (later ≡ [])
none_first [] later h = (refl, h)
none_first (x ∷ xs) later h = cc

-- with the declarations of the protocol itself the typing makes the protocol's parts, without a fault
pub record ReadsAs (text : List ℕ) (tree : Syntax) (p : Protocol) : Type 0 where
  pub starts : (start (frame p text) tree.init).value ≡ Some p.start
  pub goals : (goals_from (frame p text) 0 tree.rests).value ≡ Some p.goals
  pub transitions : (transitions_of (frame p text) tree.rests).value ≡ Some p.transitions
  pub none : (typed_rest (frame p text) tree.init tree.rests).faults ≡ []

at_signature : (text : List ℕ) (tree : Syntax) (p : Protocol) (sig : Signature) → signature_of p ≡ sig → (rest : Rest)
    → (typed_rest (record { text = text; sig = sig }) tree.init tree.rests).value ≡ Some rest → (typed_rest (record { text = text; sig = sig }) tree.init tree.rests).faults ≡ []
    → p.start ≡ rest.start → p.goals ≡ rest.goals → p.transitions ≡ rest.transitions → ReadsAs text tree p
at_signature text tree p sig same rest h none starts goals transitions =
    let own = subst (λ s. (typed_rest (record { text = text; sig = s }) tree.init tree.rests).value ≡ Some rest) (sym same) h in
    let parts = parted (start (frame p text) tree.init).value (goals_from (frame p text) 0 tree.rests).value (transitions_of (frame p text) tree.rests).value rest own in
    record {
      starts = parts.starts ∙ ap Some (sym starts);
      goals = parts.goals ∙ ap Some (sym goals);
      transitions = parts.transitions ∙ ap Some (sym transitions);
      none = subst (λ s. (typed_rest (record { text = text; sig = s }) tree.init tree.rests).faults ≡ []) (sym same) none;
    }

module _ (text : List ℕ) (tree : Syntax) (p : Protocol) (reads : Reads text tree p) where
  no_faults : (declared_faults text tree.decls ≡ []) × ((rest_typed text tree).faults ≡ [])
  no_faults = none_first (declared_faults text tree.decls) (rest_typed text tree).faults reads.no_fault

  pub reads_as : ReadsAs text tree p
  reads_as =
      let is = reads.is.2 in
      at_signature text tree p (declared text tree.decls) is.declares reads.is.0 reads.is.1 no_faults.1 is.starts is.goals is.transitions

  pub starts_met : list_all (are_textual p) p.start ≡ true
  starts_met = start_textual p text tree.init p.start reads_as.starts

  pub goals_met : list_all (is_textual_goal p) p.goals ≡ true
  goals_met = goals_textual p text 0 tree.rests p.goals reads_as.goals

  pub names_plain : declares_plain_names p ≡ true
  names_plain = subst (λ sig. has_plain_signature sig ≡ true) (sym reads.is.2.declares) (declared_plain text tree.decls no_faults.0)

  pub bodies_normal : has_normal_bodies p ≡ true
  bodies_normal =
      let goals = list_all (λ (g : Goal). is_normal_conjunction p g.lits) p.goals in
      and_both (is_normal_formula p p.start) goals (normal_formula p p.start starts_met)
      (list_all_weaker (is_textual_goal p) (λ (g : Goal). is_normal_conjunction p g.lits) (λ g. normal_conjunction p g.lits) p.goals goals_met)
