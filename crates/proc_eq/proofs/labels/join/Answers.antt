use Rattle.std.proofs.Common.{◌≡◌, eq-eqb, arith}
use Rattle.cub_proto.specs.declared.literal.Lit.TheVariants.{ProcEq}
use Rattle.proc_eq.specs.Classes.{entry_of}
use Rattle.proc_eq.proofs.Merging.{merged_already, apart_places, joined, relabelled}
use Rattle.proc_eq.proofs.labels.join.Goals as goal

pub returns-then-least-other-clause-joined : goal.returns-then-least-other-clause-joined
returns-then-least-other-clause-joined c _ lits m =
    let same : entry_of c.args.labels.now c.args.a ≡ entry_of c.args.labels.now c.args.b = omega (arith, c.entry-left.ensures, c.entry-right.ensures) in
    merged_already c.args.width lits (ProcEq c.args.a c.args.b) c.args.labels.now m (eq-eqb _ _ same)

pub returns-then-other-width-clause-none : goal.returns-then-other-width-clause-none
returns-then-other-width-clause-none c _ lits m v s e =
    apart_places c.args.width lits c.args.labels.now c.args.a c.args.b m c.requires.narrow c.requires.a_fits c.requires.b_fits
    (omega (arith, c.entry-left.ensures, c.entry-right.ensures)) (omega (arith, c.entry-left.ensures, c.entry-right.ensures))
    (λ same. omega (arith, c.entry-left.ensures, c.entry-right.ensures)) v s e

pub returns-clause-joined : goal.returns-clause-joined
returns-clause-joined c _ lits m =
    joined c.args.width lits c.args.labels.now c.relabel.new.labels c.args.a c.args.b c.min-least.result c.max-other.result m c.requires.narrow
    c.requires.a_fits c.requires.b_fits (omega (arith, c.entry-left.ensures, c.entry-right.ensures))
    (omega (arith, c.entry-left.ensures, c.entry-right.ensures)) (λ e. omega arith) (omega arith)
    (relabelled c.args.labels.now c.relabel.new.labels c.min-least.result c.max-other.result c.requires.size (omega arith) (omega arith) c.relabel.ensures.each)
