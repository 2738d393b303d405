-- Who is alive changes no truth, and no value at alive processes after a step.
use Rattle.std.proofs.Common.{◌≡◌, ℕ, Bool, List, [], ◌∷◌, Option, refl, sym, ap, ◌∙◌}
use Rattle.std.specs.Prelude.{◌==◌, ◌&&◌, not, int_le, ◌-ℤ◌}
use Rattle.std.proofs.lemmas.List.Elements.{All-head, All-tail}
use Rattle.cub_proto.specs.declared.literal.Term.{Term}
use Rattle.cub_proto.specs.declared.literal.PSide.{PSide}
use Rattle.cub_proto.specs.declared.literal.ISide.{ISide}
use Rattle.cub_proto.specs.declared.literal.ISide.TheVariants.{Zero, At}
use Rattle.cub_proto.specs.declared.literal.Lit.{Lit}
use Rattle.cub_proto.specs.declared.literal.Lit.TheVariants.{FinIn, FinEq, FinNe, ProcEq, ProcNe, Diff}
use Rattle.cub_proto.specs.declared.transition.Update.{Update}
use Rattle.cub_proto.specs.declared.state.Slot.{Slot}
use Rattle.cub_proto.specs.declared.state.Val.{Val}
use Rattle.cub_proto.specs.Configuration.{Configuration}
use Rattle.cub_proto.specs.Truth.{term_value, constructor_of, constructor_at, process_of, process_at, integer_of, integer_at, has_bit, is_true, all_true, any_true, HasTerm, HasProcessSide, HasIntegerSide, HasLiteral, HasLiterals}
use Rattle.cub_proto.specs.Effect.{fired, counting}
use Rattle.cub_proto.specs.Legal.{AreDistinctAlive}
use Rattle.cub_cube.specs.Crashes.{IsCrashed}
use Rattle.cub_cube.specs.Step.{value_after}
use Rattle.cub_cube.proofs.Steps.{term_after}

-- the state with other processes alive
abbrev pub with_living : Configuration → List Bool → Configuration
with_living s living = record s { living = living }

pub crashed_is : (s after : Configuration) → IsCrashed s after → after ≡ with_living s after.living
crashed_is s after crashed = ap (λ g. record after { globals = g }) crashed.globals ∙ ap (λ a. record after { globals = s.globals; arrays = a }) crashed.arrays

module _ (s : Configuration) (living : List Bool) where
  pub same_any : (places : List ℕ) (conjs : List (List Lit)) → any_true (with_living s living) places conjs ≡ any_true s places conjs
  same_any places conjs = refl

  pub same_counting : (places : List ℕ) (u : Update) → counting (with_living s living) places u ≡ counting s places u
  same_counting places u = refl

  module _ (params : List ℕ) (updates : List Update) (pick : Slot → Option Val) (places : List ℕ) (distinct : AreDistinctAlive s places) (others : AreDistinctAlive (with_living s living) places) where
    same_value : (t : Term) → value_after (with_living s living) params updates pick places t ≡ value_after s params updates pick places t
    same_value t = refl

    abbrev left : Configuration
    left = fired (with_living s living) params updates pick

    abbrev right : Configuration
    right = fired s params updates pick

    same_term : (t : Term) → HasTerm s places t → term_value left places t ≡ term_value right places t
    same_term t has = term_after (with_living s living) params updates pick places t has others ∙ same_value t ∙ sym (term_after s params updates pick places t has distinct)

    same_process : (a : PSide) → HasProcessSide s places a → process_at left places a ≡ process_at right places a
    same_process (PSide.Global g) has = ap process_of (same_term (Term.Global g) has)
    same_process (PSide.Place q) has = refl

    same_integer : (a : ISide) → HasIntegerSide s places a → integer_at left places a ≡ integer_at right places a
    same_integer Zero has = refl
    same_integer (At t) has = ap integer_of (same_term t has)

    same_pair : (a b : Term) → HasTerm s places a → HasTerm s places b → (constructor_at left places a == constructor_at left places b) ≡ (constructor_at right places a == constructor_at right places b)
    same_pair a b has also =
        ap (λ v. constructor_of v == constructor_at left places b) (same_term a has) ∙ ap (λ v. constructor_at right places a == constructor_of v) (same_term b also)

    same_processes : (a b : PSide) → HasProcessSide s places a → HasProcessSide s places b → (process_at left places a == process_at left places b) ≡ (process_at right places a == process_at right places b)
    same_processes a b has also = ap (λ i. i == process_at left places b) (same_process a has) ∙ ap (λ i. process_at right places a == i) (same_process b also)

    same_literal : (l : Lit) → HasLiteral s places l → is_true left places l ≡ is_true right places l
    same_literal (FinIn t mask) has = ap (λ v. has_bit mask (constructor_of v)) (same_term t has)
    same_literal (FinEq a b) has = same_pair a b has.0 has.1
    same_literal (FinNe a b) has = ap not (same_pair a b has.0 has.1)
    same_literal (ProcEq a b) has = same_processes a b has.0 has.1
    same_literal (ProcNe a b) has = ap not (same_processes a b has.0 has.1)
    same_literal (Diff a b bound) has =
        ap (λ x. int_le (x -ℤ integer_at left places b) bound) (same_integer a has.0) ∙ ap (λ x. int_le (integer_at right places a -ℤ x) bound) (same_integer b has.1)

    -- a conjunction is as true after the step, whoever else is alive before
    pub same_after : (lits : List Lit) → HasLiterals s places lits → all_true (fired (with_living s living) params updates pick) places lits ≡ all_true (fired s params updates pick) places lits
    same_after [] has = refl
    same_after (l ∷ ls) has =
        ap (λ b. b && all_true left places ls) (same_literal l (All-head (HasLiteral s places) l ls has))
        ∙ ap (λ b. is_true right places l && b) (same_after ls (All-tail (HasLiteral s places) l ls has))
