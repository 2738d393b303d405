use Rattle.std.proofs.Common.{◌++◌, ◌∷◌, []}
use Rattle.std.proofs.lemmas.Bool.{eqb-true}
use Rattle.cub_proto.specs.declared.literal.Lit.TheVariants.{ProcEq}
use Rattle.proc_eq.specs.Solution.{Solves}
use Rattle.proc_eq.specs.Classes.{entry_of}
use Rattle.proc_eq.proofs.Conjunction.{solves_front, solves_next}
use Rattle.proc_eq.proofs.Merging.{merged_already, passes}
use Rattle.proc_eq.proofs.labels.take.Goals as goal

pub returns-in-ProcEq-clause-none : goal.returns-in-ProcEq-clause-none
returns-in-ProcEq-clause-none c fails lits m v s =
    let t : Solves c.args.width (lits ++ ProcEq c.in-ProcEq.a c.in-ProcEq.b ∷ []) v = rw (← c.in-ProcEq.is) s in
    c.join.ensures.none fails lits m v (solves_front c.args.width lits (ProcEq c.in-ProcEq.a c.in-ProcEq.b ∷ []) v t)
    (eqb-true _ _ (solves_next c.args.width lits (ProcEq c.in-ProcEq.a c.in-ProcEq.b) [] v t))

pub returns-in_default : goal.returns-in_default
returns-in_default c = record {
  size = c.requires.size;
  taken = λ _ lits m. merged_already c.args.width lits c.args.lit.now c.args.labels.now m (passes (entry_of c.args.labels.now) c.args.lit.now c.in_default.not-ProcEq);
  none = λ e. absurd (cc);
}
