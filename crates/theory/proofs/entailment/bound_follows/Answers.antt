use Rattle.std.proofs.Common.{rules, ◌≡◌, ◌↔◌, Bool, ℤ, sym, subst}
use Rattle.std.specs.Prelude.{IsTrue, int_le}
use Rattle.std.proofs.lemmas.Int.{to_z-of_z}
use Rattle.diff_close.specs.Literals.{Entails as EntailsBound}
use Rattle.theory.proofs.Following.{least_decides}
use Rattle.theory.proofs.entailment.bound_follows.Goals as goal
use mir.Val.{SFits, to_z, of_z}
use mir.Syntax.{w64}

pub returns-in-Some : goal.returns-in-Some
returns-in-Some c lits is =
    let f : SFits w64 c.in-Some.least = search rules in
    let plain : to_z w64 (of_z w64 c.in-Some.least) ≡ c.in-Some.least = to_z-of_z w64 c.in-Some.least f in
    subst (λ (x : Bool). IsTrue x ↔ EntailsBound lits c.args.a c.args.b c.args.bound.now) (sym c.is_at_most.ensures)
    (subst (λ (z : ℤ). IsTrue (int_le z c.args.bound.now) ↔ EntailsBound lits c.args.a c.args.b c.args.bound.now) (sym plain)
    (least_decides lits c.args.a c.args.b c.in-Some.least c.args.bound.now (c.in-Some.ensures lits is)))
