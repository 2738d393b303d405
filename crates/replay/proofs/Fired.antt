-- The passes of a firing are its effect.
use Rattle.std.proofs.Common.{◌≡◌, ℕ, true, false, cond, List, [], ◌∷◌, ◌++◌, Option, Some, None, set, refl, sym, ap, ◌∙◌}
use Rattle.std.proofs.lemmas.Bool.{ne_eqb}
use Rattle.cub_proto.specs.declared.transition.Target.{Target}
use Rattle.cub_proto.specs.declared.transition.Update.{Update}
use Rattle.cub_proto.specs.declared.state.Slot.{Slot}
use Rattle.cub_proto.specs.declared.state.Val.{Val}
use Rattle.cub_proto.specs.declared.state.Val.TheVariants.{Con}
use Rattle.cub_proto.specs.Configuration.{Configuration, is_alive, value_at, cells_of}
use Rattle.cub_base.specs.Numbered.{map_from}
use Rattle.cub_proto.specs.Effect.{updated, update_of, same_target, global_after, cell_after, cells_after, fired}
use Rattle.replay.specs.Writes.{HasTarget, copied_at}
use Rattle.cub_base.proofs.Numbered.{map_from_id, map_from_same, map_from_set}
use Rattle.cub_proto.proofs.Targets.{update_elsewhere, update_here}

-- without updates nothing changes
cell_stays : (s : Configuration) (params : List ℕ) (pick : Slot → Option Val) (a k : ℕ) (x : Val) → cell_after s params None pick a k x ≡ x
cell_stays s params pick a k x = elim (is_alive s k) as (λ t. cond t x x ≡ x) [ true ↦ refl | false ↦ refl ]

pub fired_nothing : (s : Configuration) (params : List ℕ) (pick : Slot → Option Val) → fired s params [] pick ≡ s
fired_nothing s params pick =
    ap (λ globals. record s { globals = globals; arrays = map_from (cells_after s params [] pick) 0 s.arrays })
    (map_from_id (global_after s params [] pick) 0 s.globals (λ k x. refl))
    ∙ ap (λ arrays. record s { arrays = arrays })
    (map_from_id (cells_after s params [] pick) 0 s.arrays
    (λ a cells. map_from_id (cell_after s params None pick a) 0 cells (cell_stays s params pick a)))

module _ (s : Configuration) (params : List ℕ) (pick : Slot → Option Val) (done : List Update) (u : Update) where
  -- one more update changes the slots of its target
  pub more_at : (target : Target) → u.target ≡ target → update_of done target ≡ None → HasTarget s target → (t : Configuration)
      → ((g : ℕ) → target ≡ Target.Global g → value_at t (Slot.Global g) ≡ updated s params (Some u) (pick (Slot.Global g)) (value_at s (Slot.Global g)))
      → ((a : ℕ) → target ≡ Target.Array a → cells_of t a ≡ map_from (cell_after s params (Some u) pick a) 0 (cells_of s a))
      → fired s params (done ++ u ∷ []) pick ≡ copied_at t (fired s params done pick) target
  more_at (Target.Global g) is fresh there t globals arrays =
      ap (λ vs. record s { globals = vs; arrays = map_from (cells_after s params (done ++ u ∷ []) pick) 0 s.arrays })
      (map_from_set (global_after s params done pick) (global_after s params (done ++ u ∷ []) pick) s.globals g (value_at t (Slot.Global g)) (Con 0) there
      (λ k x differ. ap (λ o. updated s params o (pick (Slot.Global k)) x)
      (update_elsewhere done u (Target.Global k) (ap (λ w. same_target w (Target.Global k)) is ∙ ne_eqb g k (λ e. differ (sym e)))))
      (ap (λ o. updated s params o (pick (Slot.Global g)) (value_at s (Slot.Global g)))
      (ap (update_of (done ++ u ∷ [])) (sym is) ∙ update_here done [] u (ap (update_of done) is ∙ fresh)) ∙ sym (globals g refl)))
      ∙ ap (λ arrays'. record s { globals = set (map_from (global_after s params done pick) 0 s.globals) g (value_at t (Slot.Global g)); arrays = arrays' })
      (map_from_same (cells_after s params done pick) (cells_after s params (done ++ u ∷ []) pick) 0 s.arrays
      (λ a cells. ap (λ o. map_from (cell_after s params o pick a) 0 cells)
      (update_elsewhere done u (Target.Array a) (ap (λ w. same_target w (Target.Array a)) is))))
  more_at (Target.Array b) is fresh there t globals arrays =
      ap (λ vs. record s { globals = vs; arrays = map_from (cells_after s params (done ++ u ∷ []) pick) 0 s.arrays })
      (map_from_same (global_after s params done pick) (global_after s params (done ++ u ∷ []) pick) 0 s.globals
      (λ g x. ap (λ o. updated s params o (pick (Slot.Global g)) x)
      (update_elsewhere done u (Target.Global g) (ap (λ w. same_target w (Target.Global g)) is))))
      ∙ ap (λ arrays'. record s { globals = map_from (global_after s params done pick) 0 s.globals; arrays = arrays' })
      (map_from_set (cells_after s params done pick) (cells_after s params (done ++ u ∷ []) pick) s.arrays b (cells_of t b) [] there.0
      (λ a cells differ. ap (λ o. map_from (cell_after s params o pick a) 0 cells)
      (update_elsewhere done u (Target.Array a) (ap (λ w. same_target w (Target.Array a)) is ∙ ne_eqb b a (λ e. differ (sym e)))))
      (ap (λ o. map_from (cell_after s params o pick b) 0 (cells_of s b))
      (ap (update_of (done ++ u ∷ [])) (sym is) ∙ update_here done [] u (ap (update_of done) is ∙ fresh)) ∙ sym (arrays b refl)))
