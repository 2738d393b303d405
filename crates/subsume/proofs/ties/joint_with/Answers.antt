use Rattle.std.proofs.Common.{◌≡◌, ◌∙◌, ℕ, false, refl, sym, subst, inl, inr}
use Rattle.cub_proto.specs.declared.literal.Lit.{Lit}
use Rattle.subsume.specs.Marks.{marks_joint}
use Rattle.subsume.proofs.Bits.{no_bits}
use Rattle.subsume.proofs.Found.{none_any}
use Rattle.subsume.proofs.ties.joint_with.Goals as goal

pub returns-in-FinEq : goal.returns-in-FinEq
returns-in-FinEq c n below = no_bits n ∙ none_any (marks_joint n c.args.first.now) c.args.lits.now (
    elim c.in-FinEq.is [
      | inl h0 ↦ (λ m. subst (λ l. marks_joint n l m ≡ false) (sym h0.2) refl)
      | inr r0 ↦ elim r0 [
        | inl h1 ↦ (λ m. subst (λ l. marks_joint n l m ≡ false) (sym h1.2) refl)
        | inr r1 ↦ elim r1 [
          | inl h2 ↦ (λ m. subst (λ l. marks_joint n l m ≡ false) (sym h2.2) refl)
          | inr r2 ↦ elim r2 [
            | inl h3 ↦ (λ m. subst (λ l. marks_joint n l m ≡ false) (sym h3.2) refl)
            | inr h4 ↦ (λ m. subst (λ l. marks_joint n l m ≡ false) (sym h4.3) refl)
          ]
        ]
      ]
    ])
