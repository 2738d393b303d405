use Rattle.std.proofs.Common.{◌≡◌, ◌∙◌, ◌&&◌, ◌==◌, ◌^◌, ℕ, Bool, true, false, refl, sym, ap, subst, inl, inr}
use Rattle.std.specs.List.{list_any}
use Rattle.cub_proto.specs.declared.literal.Term.{Term}
use Rattle.cub_proto.specs.declared.literal.ISide.{ISide}
use Rattle.cub_proto.specs.declared.literal.ISide.TheVariants.{Zero, At}
use Rattle.cub_proto.specs.declared.literal.Lit.{Lit}
use Rattle.subsume.specs.Marks.{low, joined_by, joint_from}
use Rattle.subsume.proofs.Bits.{no_bits}
use Rattle.subsume.proofs.Found.{none_any, any_and}
use Rattle.subsume.proofs.ties.joint_from.Goals as goal

pub returns-in-Global : goal.returns-in-Global
returns-in-Global c n below =
    no_bits n ∙ none_any (joint_from n c.args.term c.args.mask) c.args.lits.now (λ m. subst (λ t. joint_from n t c.args.mask m ≡ false) (sym c.in-Global.is) refl)

pub returns-in-None : goal.returns-in-None
returns-in-None c n below =
    no_bits n ∙ none_any (joint_from n c.args.term c.args.mask) c.args.lits.now
    (λ m. subst (λ t. joint_from n t c.args.mask m ≡ false) (sym c.in-Cell.is) (ap (λ b. b && joined_by n c.in-Cell.a c.in-Cell.p (low c.args.mask) m) c.in-None.ensures))
