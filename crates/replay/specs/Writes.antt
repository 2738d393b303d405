-- What the passes of a firing write: the updates one after another into a copy, the picks over them, and the updated
-- slots back from the copy. That together they are the effect of the firing is proved.
use Rattle.std.specs.Prelude.{◌≡◌, ℕ, ◌<◌, List, [], ◌∷◌, Some, None, length, slice_set}
use Rattle.cub_proto.specs.declared.transition.Target.{Target}
use Rattle.cub_proto.specs.declared.transition.Update.{Update}
use Rattle.cub_proto.specs.declared.state.Slot.TheVariants as Slot
use Rattle.cub_proto.specs.declared.state.Val.{Val}
use Rattle.cub_proto.specs.declared.event.Chosen.{Chosen}
use Rattle.cub_proto.specs.Configuration.{Configuration, value_at, cells_of, put}
use Rattle.cub_base.specs.Numbered.{map_from}
use Rattle.cub_proto.specs.Effect.{updated, cell_after}

-- two configurations have the same slots and the same living processes
pub record SameShape (s t : Configuration) : Type 0 where
  pub living : t.living ≡ s.living
  pub globals : length t.globals ≡ length s.globals
  pub arrays : length t.arrays ≡ length s.arrays
  pub cells : (a : ℕ) → length (cells_of t a) ≡ length (cells_of s a)

-- the configuration with other cells of an array
abbrev pub with_cells : Configuration → ℕ → List Val → Configuration
with_cells t a cells = record t { arrays = slice_set t.arrays a cells }

-- the cells of an array after its update, where nothing is picked
abbrev pub new_cells : Configuration → List ℕ → Update → ℕ → List Val
new_cells s params u a = map_from (cell_after s params (Some u) (λ _. None) a) 0 (cells_of s a)

-- t with the slots of a target as the update computes them in s
abbrev pub written_at : Configuration → List ℕ → Update → Configuration → Target → Configuration
written_at s params u t (Target.Global g) =
    put t (Slot.Global g) (updated s params (Some u) None (value_at s (Slot.Global g)))
written_at s params u t (Target.Array a) = with_cells t a (new_cells s params u a)

-- t with the slots of all updates as they compute them in s
abbrev pub written : Configuration → List ℕ → Configuration → List Update → Configuration
written s params t [] = t
written s params t (u ∷ us) = written s params (written_at s params u t u.target) us

-- t with the picks in their slots
abbrev pub placed : Configuration → List Chosen → Configuration
placed t [] = t
placed t (c ∷ cs) = placed (put t c.slot c.val) cs

-- t with the slots of a target as they are in s
abbrev pub copied_at : Configuration → Configuration → Target → Configuration
copied_at s t (Target.Global g) = put t (Slot.Global g) (value_at s (Slot.Global g))
copied_at s t (Target.Array a) = with_cells t a (cells_of s a)

-- t with the slots of all updates as they are in s
abbrev pub copied : Configuration → Configuration → List Update → Configuration
copied s t [] = t
copied s t (u ∷ us) = copied s (copied_at s t u.target) us

-- the target's slots are there, one cell of an array a process
abbrev pub HasTarget : Configuration → Target → Type 0
HasTarget s (Target.Global g) = g < length s.globals
HasTarget s (Target.Array a) = (a < length s.arrays) × (length (cells_of s a) ≡ length s.living)
