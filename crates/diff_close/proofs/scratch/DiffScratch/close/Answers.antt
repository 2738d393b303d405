use Rattle.std.proofs.Common.{◌≡◌, ℕ, ◌<◌, ◌≤◌, ◌+◌, ◌∙◌, List, [], ◌++◌, length, map, ap, subst, sym, arith, All}
use Rattle.cub_proto.specs.declared.literal.Term.{Term}
use Rattle.cub_proto.specs.declared.literal.Lit.{Lit}
use Rattle.diff_core.specs.Constraints as core
use Rattle.diff_core.specs.Table.{IsClosureOf as IsTableOf}
use Rattle.diff_close.specs.Literals.{HasSolution, IsNegativeCycle, MentionsOnly, MentionAtMost}
use Rattle.diff_close.specs.Names.{constraint_of}
use Rattle.diff_close.specs.Scratch.{Scratch, IsClosureOf}
use Rattle.diff_close.specs.AreNames.{AreNames}
use Rattle.diff_close.proofs.Terms.{none_named}
use Rattle.diff_close.proofs.Translate.{solution_up}
use Rattle.diff_close.proofs.Ways.{cycle_up}
use Rattle.diff_close.proofs.Closes.{all_left, all_right, on_ok, on_err, Numbered, numbered, range_of, refuted_up}
use Rattle.diff_close.proofs.scratch.DiffScratch.close.Goals as goal

pub name_all-requires : goal.name_all-requires
name_all-requires c =
    let lits : List Lit = c.args.lits.now in
    let more : List Lit = c.args.more.now in
    let terms : MentionAtMost c.self.inside.room (lits ++ more) = subst (λ (n : ℕ). MentionAtMost n (lits ++ more)) (sym (ap (λ (s : Scratch). s.room) c.self.view_is)) c.requires.terms in
    record { room = (terms.0, omega (arith, terms.1, c.self.invariant.enough, c.clear.ensures.capacity), subst (λ (m : List Term). AreNames terms.0 m) (sym c.clear.ensures.items) (none_named terms.0), all_left (MentionsOnly terms.0) lits more terms.2) }

pub name_all-requires-2 : goal.name_all-requires-2
name_all-requires-2 c =
    let lits : List Lit = c.args.lits.now in
    let more : List Lit = c.args.more.now in
    let terms : MentionAtMost c.self.inside.room (lits ++ more) = subst (λ (n : ℕ). MentionAtMost n (lits ++ more)) (sym (ap (λ (s : Scratch). s.room) c.self.view_is)) c.requires.terms in
    let are : AreNames terms.0 c.name_all.new.names.items = c.name_all.ensures.kept terms.0 (subst (λ (m : List Term). AreNames terms.0 m) (sym c.clear.ensures.items) (none_named terms.0)) (all_left (MentionsOnly terms.0) lits more terms.2) in
    record { room = (terms.0, omega (arith, terms.1, c.self.invariant.enough, c.clear.ensures.capacity, c.name_all.ensures.capacity), are, all_right (MentionsOnly terms.0) lits more terms.2) }

pub close-requires-clause-few : goal.close-requires-clause-few
close-requires-clause-few c =
    let lits : List Lit = c.args.lits.now in
    let more : List Lit = c.args.more.now in
    let terms : MentionAtMost c.self.inside.room (lits ++ more) = subst (λ (n : ℕ). MentionAtMost n (lits ++ more)) (sym (ap (λ (s : Scratch). s.room) c.self.view_is)) c.requires.terms in
    let names : Numbered c.self.inside.room (lits ++ more) c.name_all-2.new.names.items =
    numbered c.self.inside.room lits more c.clear.new.self.items c.name_all.new.names.items c.name_all-2.new.names.items c.clear.ensures.items terms c.name_all.ensures.kept c.name_all-2.ensures.kept c.name_all.ensures.named c.name_all-2.ensures.named c.name_all-2.ensures.grows in
    omega (arith, ap (length {A = Term}) c.as_slice-terms.ensures.value, names.few, c.self.invariant.few)

pub close-requires-clause-range : goal.close-requires-clause-range
close-requires-clause-range c =
    let lits : List Lit = c.args.lits.now in
    let more : List Lit = c.args.more.now in
    let terms : MentionAtMost c.self.inside.room (lits ++ more) = subst (λ (n : ℕ). MentionAtMost n (lits ++ more)) (sym (ap (λ (s : Scratch). s.room) c.self.view_is)) c.requires.terms in
    let names : Numbered c.self.inside.room (lits ++ more) c.name_all-2.new.names.items =
    numbered c.self.inside.room lits more c.clear.new.self.items c.name_all.new.names.items c.name_all-2.new.names.items c.clear.ensures.items terms c.name_all.ensures.kept c.name_all-2.ensures.kept c.name_all.ensures.named c.name_all-2.ensures.named c.name_all-2.ensures.grows in
    subst (λ (m : List Term). core.AreInRange (length m + 1) (map (constraint_of m) (lits ++ more))) (sym c.as_slice-terms.ensures.value) (range_of c.name_all-2.new.names.items (lits ++ more) names.named c.requires.bounds)

pub invariant_of-self : goal.invariant_of-self
invariant_of-self c =
    let lits : List Lit = c.args.lits.now in
    let more : List Lit = c.args.more.now in
    let terms : MentionAtMost c.self.inside.room (lits ++ more) = subst (λ (n : ℕ). MentionAtMost n (lits ++ more)) (sym (ap (λ (s : Scratch). s.room) c.self.view_is)) c.requires.terms in
    let names : Numbered c.self.inside.room (lits ++ more) c.name_all-2.new.names.items =
    numbered c.self.inside.room lits more c.clear.new.self.items c.name_all.new.names.items c.name_all-2.new.names.items c.clear.ensures.items terms c.name_all.ensures.kept c.name_all-2.ensures.kept c.name_all.ensures.named c.name_all-2.ensures.named c.name_all-2.ensures.grows in
    record { few = c.self.invariant.few; enough = omega (arith, c.self.invariant.enough, c.clear.ensures.capacity, c.name_all.ensures.capacity, c.name_all-2.ensures.capacity); distinct = names.distinct; within = names.few }

pub returns-clause-closure : goal.returns-clause-closure
returns-clause-closure c =
    let lits : List Lit = c.args.lits.now in
    let more : List Lit = c.args.more.now in
    let terms : MentionAtMost c.self.inside.room (lits ++ more) = subst (λ (n : ℕ). MentionAtMost n (lits ++ more)) (sym (ap (λ (s : Scratch). s.room) c.self.view_is)) c.requires.terms in
    let names : Numbered c.self.inside.room (lits ++ more) c.name_all-2.new.names.items =
    numbered c.self.inside.room lits more c.clear.new.self.items c.name_all.new.names.items c.name_all-2.new.names.items c.clear.ensures.items terms c.name_all.ensures.kept c.name_all-2.ensures.kept c.name_all.ensures.named c.name_all-2.ensures.named c.name_all-2.ensures.grows in
    on_ok c.close.result (IsTableOf (map (constraint_of c.as_slice-terms.result.now) (lits ++ more)) c.close.new.self.table) (IsClosureOf (lits ++ more) (record { room = c.self.inside.room; names = c.name_all-2.new.names.items; closing = c.close.new.self }))
    (λ table. record {
      named = names.named;
      distinct = names.distinct;
      nodes = c.close.ensures.nodes ∙ ap (λ (m : List Term). length m + 1) c.as_slice-terms.ensures.value;
      table = subst (λ (m : List Term). IsTableOf (map (constraint_of m) (lits ++ more)) c.close.new.self.table) c.as_slice-terms.ensures.value table;
    })
    c.close.ensures.closure

pub returns-clause-solved : goal.returns-clause-solved
returns-clause-solved c =
    let lits : List Lit = c.args.lits.now in
    let more : List Lit = c.args.more.now in
    let terms : MentionAtMost c.self.inside.room (lits ++ more) = subst (λ (n : ℕ). MentionAtMost n (lits ++ more)) (sym (ap (λ (s : Scratch). s.room) c.self.view_is)) c.requires.terms in
    let names : Numbered c.self.inside.room (lits ++ more) c.name_all-2.new.names.items =
    numbered c.self.inside.room lits more c.clear.new.self.items c.name_all.new.names.items c.name_all-2.new.names.items c.clear.ensures.items terms c.name_all.ensures.kept c.name_all-2.ensures.kept c.name_all.ensures.named c.name_all-2.ensures.named c.name_all-2.ensures.grows in
    on_ok c.close.result (core.HasSolution (map (constraint_of c.as_slice-terms.result.now) (lits ++ more))) (HasSolution (lits ++ more))
    (λ has. solution_up c.name_all-2.new.names.items (lits ++ more) names.named (subst (λ (m : List Term). core.HasSolution (map (constraint_of m) (lits ++ more))) c.as_slice-terms.ensures.value has))
    c.close.ensures.solved

pub returns-clause-refuted : goal.returns-clause-refuted
returns-clause-refuted c =
    let lits : List Lit = c.args.lits.now in
    let more : List Lit = c.args.more.now in
    let terms : MentionAtMost c.self.inside.room (lits ++ more) = subst (λ (n : ℕ). MentionAtMost n (lits ++ more)) (sym (ap (λ (s : Scratch). s.room) c.self.view_is)) c.requires.terms in
    let names : Numbered c.self.inside.room (lits ++ more) c.name_all-2.new.names.items =
    numbered c.self.inside.room lits more c.clear.new.self.items c.name_all.new.names.items c.name_all-2.new.names.items c.clear.ensures.items terms c.name_all.ensures.kept c.name_all-2.ensures.kept c.name_all.ensures.named c.name_all-2.ensures.named c.name_all-2.ensures.grows in
    on_err c.close.result (core.HasSolution (map (constraint_of c.as_slice-terms.result.now) (lits ++ more)) → ⊥) (core.HasSolution (map (constraint_of c.as_slice-terms.result.now) (lits ++ more)) → ⊥) (HasSolution (lits ++ more) → ⊥)
    (λ none again. refuted_up c.name_all-2.new.names.items (lits ++ more) names.named (subst (λ (m : List Term). core.HasSolution (map (constraint_of m) (lits ++ more)) → ⊥) c.as_slice-terms.ensures.value none))
    c.close.ensures.refuted c.close.ensures.refuted

pub returns-clause-cycle : goal.returns-clause-cycle
returns-clause-cycle c =
    let lits : List Lit = c.args.lits.now in
    let more : List Lit = c.args.more.now in
    let terms : MentionAtMost c.self.inside.room (lits ++ more) = subst (λ (n : ℕ). MentionAtMost n (lits ++ more)) (sym (ap (λ (s : Scratch). s.room) c.self.view_is)) c.requires.terms in
    let names : Numbered c.self.inside.room (lits ++ more) c.name_all-2.new.names.items =
    numbered c.self.inside.room lits more c.clear.new.self.items c.name_all.new.names.items c.name_all-2.new.names.items c.clear.ensures.items terms c.name_all.ensures.kept c.name_all-2.ensures.kept c.name_all.ensures.named c.name_all-2.ensures.named c.name_all-2.ensures.grows in
    on_err c.close.result (core.IsNegativeCycle (map (constraint_of c.as_slice-terms.result.now) (lits ++ more)) c.close.new.self.cycle) (core.AreProper (map (constraint_of c.as_slice-terms.result.now) (lits ++ more)) c.close.new.self.cycle) (IsNegativeCycle (lits ++ more) c.close.new.self.cycle)
    (λ round proper. cycle_up c.name_all-2.new.names.items (lits ++ more) names.named c.close.new.self.cycle
    (subst (λ (m : List Term). core.IsNegativeCycle (map (constraint_of m) (lits ++ more)) c.close.new.self.cycle) c.as_slice-terms.ensures.value round)
    (subst (λ (m : List Term). core.AreProper (map (constraint_of m) (lits ++ more)) c.close.new.self.cycle) c.as_slice-terms.ensures.value proper))
    c.close.ensures.cycle c.close.ensures.proper
