use Rattle.std.proofs.Common.{◌≡◌, ◌↔◌, ℕ, ◌<◌, ◌≤◌, ◌∙◌, sym, ap, subst, arith, List, Bool, true}
use Rattle.std.specs.Prelude.{IsTrue, ◌&&◌, nat_lt}
use Rattle.std.proofs.lemmas.Bool.{ltb-true, lt-ltb}
use Rattle.cub_proto.specs.declared.literal.Lit.{Lit}
use Rattle.cub_proto.specs.declared.literal.Lit.TheVariants.{FinIn, FinEq, FinNe, ProcEq, ProcNe, Diff}
use Rattle.cub_proto.specs.declared.literal.PSide.{PSide}
use Rattle.cub_proto.specs.StateOf.{signature_of}
use Rattle.cub_proto.specs.Fits.{literal_fits, process_side_fits}
use Rattle.cub_base.proofs.Bools.{and_left, and_right}
use Rattle.proc_eq.specs.Solution.{side_fits, Forces}
use Rattle.proc_eq.specs.Classes.{Classes, IsClosureOf as IsClassesOf}
use Rattle.diff_close.specs.Scratch.{Scratch, IsClosureOf as IsIntegersOf}
use Rattle.theory_laws.specs.Entailed.{Entails}
use Rattle.theory_laws.proofs.Parts.{all_proc, proc_fits, side_fitting}
use Rattle.theory.specs.Theory.{Theory}
use Rattle.theory.proofs.Following.{apart_decides, same_decides, bound_decides, wide_side}
use Rattle.theory.proofs.entailment.follows.Goals as goal

pub same-requires-clause-a_fits : goal.same-requires-clause-a_fits
same-requires-clause-a_fits c =
    let fits : IsTrue (literal_fits (signature_of c.args.protocol.now) c.args.width (ProcEq c.in-ProcEq.a c.in-ProcEq.b)) = subst (λ (l : Lit). IsTrue (literal_fits (signature_of c.args.protocol.now) c.args.width l)) c.in-ProcEq.is c.requires.fits in
    wide_side c.args.protocol.now c.args.width c.requires.loaded.fitting.narrow c.in-ProcEq.a
    (and_left (process_side_fits (signature_of c.args.protocol.now) c.args.width c.in-ProcEq.a) (process_side_fits (signature_of c.args.protocol.now) c.args.width c.in-ProcEq.b) fits)

pub same-requires-clause-b_fits : goal.same-requires-clause-b_fits
same-requires-clause-b_fits c =
    let fits : IsTrue (literal_fits (signature_of c.args.protocol.now) c.args.width (ProcEq c.in-ProcEq.a c.in-ProcEq.b)) = subst (λ (l : Lit). IsTrue (literal_fits (signature_of c.args.protocol.now) c.args.width l)) c.in-ProcEq.is c.requires.fits in
    wide_side c.args.protocol.now c.args.width c.requires.loaded.fitting.narrow c.in-ProcEq.b
    (and_right (process_side_fits (signature_of c.args.protocol.now) c.args.width c.in-ProcEq.a) (process_side_fits (signature_of c.args.protocol.now) c.args.width c.in-ProcEq.b) fits)

pub apart_follows-requires-clause-fit : goal.apart_follows-requires-clause-fit
apart_follows-requires-clause-fit c = all_proc c.args.protocol.now c.args.width c.args.lits.now c.requires.loaded.fitting

pub apart_follows-requires-clause-sides : goal.apart_follows-requires-clause-sides
apart_follows-requires-clause-sides c =
    proc_fits c.args.protocol.now c.args.width (ProcEq c.in-ProcNe.a c.in-ProcNe.b)
    (subst (λ (l : Lit). IsTrue (literal_fits (signature_of c.args.protocol.now) c.args.width l)) c.in-ProcNe.is c.requires.fits)

pub returns-in-FinIn-clause-exact : goal.returns-in-FinIn-clause-exact
returns-in-FinIn-clause-exact c =
    subst (λ (l : Lit). IsTrue c.member_follows.result ↔ Entails c.args.protocol.now c.args.width c.args.lits.now l) (sym c.in-FinIn.is) c.member_follows.ensures.exact

pub returns-in-FinEq-clause-exact : goal.returns-in-FinEq-clause-exact
returns-in-FinEq-clause-exact c =
    subst (λ (l : Lit). IsTrue c.equal_follows.result ↔ Entails c.args.protocol.now c.args.width c.args.lits.now l) (sym c.in-FinEq.is) c.equal_follows.ensures.exact

pub returns-in-FinNe-clause-exact : goal.returns-in-FinNe-clause-exact
returns-in-FinNe-clause-exact c =
    subst (λ (l : Lit). IsTrue c.other_follows.result ↔ Entails c.args.protocol.now c.args.width c.args.lits.now l) (sym c.in-FinNe.is) c.other_follows.ensures.exact

pub returns-in-ProcEq-clause-exact : goal.returns-in-ProcEq-clause-exact
returns-in-ProcEq-clause-exact c =
    let a : PSide = c.in-ProcEq.a in
    let b : PSide = c.in-ProcEq.b in
    let here : c.scratch.inside.classes ≡ c.args.scratch.now.classes = ap (λ (t : Theory). t.classes) c.scratch.view_is in
    let merged : IsClassesOf c.args.lits.now c.scratch.inside.classes = subst (λ (x : Classes). IsClassesOf c.args.lits.now x) (sym here) c.requires.loaded.merged in
    let width : c.scratch.inside.classes.width ≡ c.args.width = ap (λ (x : Classes). x.width) here ∙ c.requires.loaded.places in
    let exact : IsTrue c.same.result ↔ Forces c.args.width c.args.lits.now a b = subst (λ (w : ℕ). IsTrue c.same.result ↔ Forces w c.args.lits.now a b) width (c.same.ensures c.args.lits.now merged) in
    let fits : IsTrue (literal_fits (signature_of c.args.protocol.now) c.args.width (ProcEq a b)) = subst (λ (l : Lit). IsTrue (literal_fits (signature_of c.args.protocol.now) c.args.width l)) c.in-ProcEq.is c.requires.fits in
    subst (λ (l : Lit). IsTrue c.same.result ↔ Entails c.args.protocol.now c.args.width c.args.lits.now l) (sym c.in-ProcEq.is)
    (same_decides c.args.protocol.now c.args.width c.args.lits.now c.requires.loaded.fitting c.requires.loaded.parts a b c.same.result fits exact)

pub returns-in-ProcNe-clause-exact : goal.returns-in-ProcNe-clause-exact
returns-in-ProcNe-clause-exact c =
    let fits : IsTrue (literal_fits (signature_of c.args.protocol.now) c.args.width (ProcNe c.in-ProcNe.a c.in-ProcNe.b)) = subst (λ (l : Lit). IsTrue (literal_fits (signature_of c.args.protocol.now) c.args.width l)) c.in-ProcNe.is c.requires.fits in
    subst (λ (l : Lit). IsTrue c.apart_follows.result ↔ Entails c.args.protocol.now c.args.width c.args.lits.now l) (sym c.in-ProcNe.is)
    (apart_decides c.args.protocol.now c.args.width c.args.lits.now c.requires.loaded.fitting c.requires.loaded.parts c.in-ProcNe.a c.in-ProcNe.b c.apart_follows.result fits c.apart_follows.ensures)

pub returns-in-Diff-clause-exact : goal.returns-in-Diff-clause-exact
returns-in-Diff-clause-exact c =
    let here : c.scratch.inside.integers ≡ c.args.scratch.now.integers = ap (λ (t : Theory). t.integers) c.scratch.view_is in
    let closed : IsIntegersOf c.args.lits.now c.scratch.inside.integers = subst (λ (x : Scratch). IsIntegersOf c.args.lits.now x) (sym here) c.requires.loaded.closed in
    let fits : IsTrue (literal_fits (signature_of c.args.protocol.now) c.args.width (Diff c.in-Diff.a c.in-Diff.b c.in-Diff.bound)) = subst (λ (l : Lit). IsTrue (literal_fits (signature_of c.args.protocol.now) c.args.width l)) c.in-Diff.is c.requires.fits in
    subst (λ (l : Lit). IsTrue c.bound_follows.result ↔ Entails c.args.protocol.now c.args.width c.args.lits.now l) (sym c.in-Diff.is)
    (bound_decides c.args.protocol.now c.args.width c.args.lits.now c.requires.loaded.fitting c.requires.loaded.parts c.in-Diff.a c.in-Diff.b c.in-Diff.bound c.bound_follows.result fits (c.bound_follows.ensures c.args.lits.now closed))
