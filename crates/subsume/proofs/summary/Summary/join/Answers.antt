use Rattle.std.proofs.Common.{sym, subst}
use Rattle.subsume.specs.declared.marks.Marks.{Marks}
use Rattle.subsume.specs.declared.summary.Summary.{Summary}
use Rattle.subsume.specs.Summary.{IsOf, common}
use Rattle.subsume.proofs.Summarized.{of_first, of_second}
use Rattle.subsume.proofs.summary.Summary.join.Goals as goal

pub returns-clause-first : goal.returns-clause-first
returns-clause-first c p x it =
    let s : Summary = c.args.self.now in
    let t : Summary = c.args.other.now in
    subst (λ (m : Marks). IsOf p x (record { needs = m; offers = c.either.result })) (sym c.common.ensures)
    (subst (λ (m : Marks). IsOf p x (record { needs = common s.needs t.needs; offers = m })) (sym c.either.ensures) (of_first p x s t it))

pub returns-clause-second : goal.returns-clause-second
returns-clause-second c p x it =
    let s : Summary = c.args.self.now in
    let t : Summary = c.args.other.now in
    subst (λ (m : Marks). IsOf p x (record { needs = m; offers = c.either.result })) (sym c.common.ensures)
    (subst (λ (m : Marks). IsOf p x (record { needs = common s.needs t.needs; offers = m })) (sym c.either.ensures) (of_second p x s t it))
