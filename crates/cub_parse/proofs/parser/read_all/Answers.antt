use Rattle.std.proofs.Common.{◌≡◌, ◌-◌, ◌≤◌, length, refl, sym, ap, ◌∙◌, subst, arith, ℕ, eqb, true, false}
use Rattle.std.proofs.lemmas.Bool.{eqb-true, eqb-false}
use Rattle.cub_parse.specs.declared.fault.ParseFault.{ParseFault}
use Rattle.cub_parse.specs.declared.fault.Stop.{Stop}
use Rattle.cub_parse.specs.Parsing.{Fails, file}
use Rattle.cub_parse.specs.Sentence.{IsFaultAmong}
use Rattle.cub_parse.proofs.Sentences.{all_read, behind, rest_within, left_within, fault_of}
use Rattle.cub_parse.proofs.parser.read_all.Goals as goal

pub returns-then-is_empty-clause-tree : goal.returns-then-is_empty-clause-tree
returns-then-is_empty-clause-tree c =
    all_read c.args.leaves.now c.in-Ok.tree c.in-Ok.rest.now c.in-Ok.ensures (eqb-true _ _ (sym c.is_empty.ensures ∙ c.if-is_empty.true))

pub overflow_sub-leaves : goal.overflow_sub-leaves
overflow_sub-leaves c = rest_within c.args.leaves.now c.in-Ok.tree c.in-Ok.rest.now c.in-Ok.ensures

pub returns-in-Ok-clause-fault : goal.returns-in-Ok-clause-fault
returns-in-Ok-clause-fault c =
    subst (λ (f : ParseFault). IsFaultAmong c.args.leaves.now f) (sym c.fault_at.ensures)
    (behind c.args.leaves.now c.in-Ok.tree c.in-Ok.rest.now c.in-Ok.ensures (eqb-false _ _ (sym c.is_empty.ensures ∙ c.if-is_empty.false)))

pub overflow_sub-leaves-in-At : goal.overflow_sub-leaves-in-At
overflow_sub-leaves-in-At c = left_within c.args.leaves.now c.in-At.kind c.in-At.left (rw c.in-At.is at c.in-Err.ensures)

pub returns-in-At-clause-fault : goal.returns-in-At-clause-fault
returns-in-At-clause-fault c =
    subst (λ (f : ParseFault). IsFaultAmong c.args.leaves.now f) (sym c.fault_at-in-At.ensures)
    (fault_of c.args.leaves.now c.in-At.kind c.in-At.left (rw c.in-At.is at c.in-Err.ensures))
