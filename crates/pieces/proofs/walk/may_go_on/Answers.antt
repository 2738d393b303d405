use Rattle.std.proofs.Common.{List, ◌≡◌, drop, true, false, sym, ap, ◌∙◌, subst}
use Rattle.std.specs.Prelude.{IsTrue}
use Rattle.cub_proto.specs.declared.literal.Lit.{Lit}
use Rattle.cub_cube.specs.Meaning.{IsConsistent}
use Rattle.pieces.proofs.Walking.{gives_up}
use Rattle.pieces.proofs.walk.may_go_on.Goals as goal

pub returns-clause-none : goal.returns-clause-none
returns-clause-none c refused =
    let j = c.args.job.now in
    let d = c.args.work.now in
    let lits = c.as_slice-2.ensures ∙ ap (λ e. e.lits) c.work.view_is in
    let width = ap (λ e. e.width) c.work.view_is in
    gives_up j (drop c.args.at j.steps) d c.requires.stands
    (λ met.
    let here = subst (λ (w : _). IsConsistent j.protocol w c.as_slice-2.result.now) (sym width) (subst (λ (ls : List Lit). IsConsistent j.protocol d.width ls) (sym lits) met) in
    let yes : IsTrue c.is_met.result = c.is_met.ensures.exact.1 here in
    let clash : true ≡ false = sym yes ∙ refused in
    cc)
