-- A step that is idle can be passed over: what is behind the draft stays.
use Rattle.std.proofs.Common.{◌≡◌, ℕ, ◌+◌, ◌<◌, true, false, Bool, List, [], ◌∷◌, length, drop, Option, Some, None, refl, sym, ap, ◌∙◌, subst, inl}
use Rattle.std.specs.Prelude.{IsTrue, not, if◌then◌else◌}
use Rattle.std.specs.List.{flat_map}
use Rattle.std.proofs.lemmas.List.{append-nil}
use Rattle.cub_base.proofs.Members.{Has}
use Rattle.cub_proto.specs.declared.transition.Update.{Update}
use Rattle.cub_proto.specs.declared.transition.Transition.{Transition}
use Rattle.cub_proto.specs.Signature.{Signature}
use Rattle.cub_proto.specs.StateOf.{signature_of}
use Rattle.piece_steps.specs.Steps.{Draft, Step, Param, Guard, Other, Branch, Fail, Choose, Late, choice_at, branches_by, fails_by, extend}
use Rattle.pieces.specs.Idle.{has_no_branch, has_no_fail, is_idle}
use Rattle.pieces.specs.Options.{update_at}
use Rattle.pieces.specs.Jobs.{Search, Stands, behind, step_at}
use Rattle.pieces.proofs.Readiness.{drop_step}
use Rattle.pieces.proofs.Standing.{next_stands}

-- a choice that is not asked for
unasked : (b : Bool) (ds : List Draft) (d : Draft) → IsTrue (not b) → (if b then ds else d ∷ []) ≡ d ∷ []
unasked true ds d h = let clash : false ≡ true = h in cc
unasked false ds d h = refl

pub idle_extends : (sig : Signature) (t : Transition) (width : ℕ) (step : Step) (d : Draft) → IsTrue (is_idle t step d) → extend sig t width step d ≡ d ∷ []
idle_extends sig t width Param d h = let clash : false ≡ true = h in cc
idle_extends sig t width Guard d h = let clash : false ≡ true = h in cc
idle_extends sig t width (Other q) d h = unasked _ _ d h
idle_extends sig t width (Branch i) d h = by (update_at t d i) h
  where
    by : (o : Option Update) → IsTrue (has_no_branch o) → branches_by o d i (choice_at d i) ≡ d ∷ []
    by None none = refl
    by (Some u) none = let clash : false ≡ true = none in cc
idle_extends sig t width (Fail i b) d h = by (update_at t d i) h
  where
    by : (o : Option Update) → IsTrue (has_no_fail o (choice_at d i).branch b) → fails_by sig o d i b (choice_at d i) ≡ d ∷ []
    by None none = refl
    by (Some u) none = unasked _ _ d none
idle_extends sig t width (Choose i) d h = unasked _ _ d h
idle_extends sig t width (Late j) d h = unasked _ _ d h

module _ (j : Search) (at : ℕ) (d : Draft) (below : at < length j.steps) (idle : IsTrue (is_idle j.transition (step_at j at) d)) where
  only : extend (signature_of j.protocol) j.transition j.cube.width (step_at j at) d ≡ d ∷ []
  only = idle_extends (signature_of j.protocol) j.transition j.cube.width (step_at j at) d idle

  pub behind_idle : behind j (drop at j.steps) d ≡ behind j (drop (at + 1) j.steps) d
  behind_idle =
      ap (λ ss. behind j ss d) (drop_step j.steps at below)
      ∙ (ap (flat_map (behind j (drop (at + 1) j.steps))) only ∙ append-nil (behind j (drop (at + 1) j.steps) d))

  pub stands_idle : Stands j (drop at j.steps) d → Stands j (drop (at + 1) j.steps) d
  stands_idle stands =
      next_stands j (step_at j at) (drop (at + 1) j.steps) d d (subst (λ ss. Stands j ss d) (drop_step j.steps at below) stands)
      (subst (λ es. Has es d) (sym only) (inl refl))
