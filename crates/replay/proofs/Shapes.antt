-- Writes keep the slots that are there.
use Rattle.std.proofs.Common.{◌≡◌, ℕ, ◌<◌, List, [], Some, None, length, get_or, set, refl, sym, ap, ◌∙◌, arith}
use Rattle.std.proofs.lemmas.List.{length-set, get_or-set_same, get_or-set_other, set-set, get_or_past, set_past}
use Rattle.std.proofs.lemmas.Bool.{cases_eq, cases_lt}
use Rattle.std.proofs.Common.{inl, inr}
use Rattle.cub_proto.specs.declared.transition.Target.{Target}
use Rattle.cub_proto.specs.declared.transition.Update.{Update}
use Rattle.cub_proto.specs.declared.state.Slot.{Slot}
use Rattle.cub_proto.specs.declared.state.Val.{Val}
use Rattle.cub_proto.specs.Configuration.{Configuration, cells_of, HasSlot, put}
use Rattle.std.proofs.Common.{Option}
use Rattle.cub_proto.specs.Effect.{cell_after, cells_after, global_after, update_of, fired}
use Rattle.cub_base.specs.Numbered.{map_from}
use Rattle.replay.specs.Writes.{SameShape, HasTarget, with_cells, new_cells, written_at, copied_at}
use Rattle.cub_base.proofs.Numbered.{length-map_from, get_or-map_from_zero}

-- the cells of an array that was given other cells
pub cells_of_same : (t : Configuration) (a : ℕ) (cells : List Val) → a < length t.arrays → cells_of (with_cells t a cells) a ≡ cells
cells_of_same t a cells h = get_or-set_same t.arrays a cells [] h

-- a cell written there
pub put_cell : (t : Configuration) (a i : ℕ) (cells : List Val) (v : Val) → a < length t.arrays → put (with_cells t a cells) (Slot.Cell a i) v ≡ with_cells t a (set cells i v)
put_cell t a i cells v h =
    ap (λ c. with_cells (with_cells t a cells) a (set c i v)) (cells_of_same t a cells h)
    ∙ ap (λ arrays. record t { arrays = arrays }) (set-set t.arrays a cells (set cells i v))

pub has_cell_there : (t : Configuration) (a i : ℕ) (cells : List Val) → a < length t.arrays → i < length cells → HasSlot (with_cells t a cells) (Slot.Cell a i)
has_cell_there t a i cells h within =
    let e = cells_of_same t a cells h in
    let l = length-set t.arrays a cells in
    (omega arith, omega (arith, ap length e))

-- other cells of the same length
pub length_cells : (t : Configuration) (a b : ℕ) (cells : List Val) → length cells ≡ length (cells_of t a) → length (cells_of (with_cells t a cells) b) ≡ length (cells_of t b)
length_cells t a b cells same =
    elim (cases_eq b a) as (λ _. length (cells_of (with_cells t a cells) b) ≡ length (cells_of t b)) [
      | inl e ↦ at_same e
      | inr ne ↦ ap length (get_or-set_other t.arrays a b cells [] ne)
    ]
  where
    at_same : b ≡ a → length (cells_of (with_cells t a cells) b) ≡ length (cells_of t b)
    at_same e =
        elim (cases_lt a (length t.arrays)) as (λ _. length (cells_of (with_cells t a cells) b) ≡ length (cells_of t b)) [
          | inl h ↦ ap (λ k. length (cells_of (with_cells t a cells) k)) e ∙ ap length (cells_of_same t a cells h) ∙ same ∙ ap (λ k. length (cells_of t k)) (sym e)
          | inr h ↦ ap (λ arrays. length (get_or arrays b [])) (set_past t.arrays a cells h)
        ]

pub shape_with_cells : (s t : Configuration) (a : ℕ) (cells : List Val) → SameShape s t → length cells ≡ length (cells_of t a) → SameShape s (with_cells t a cells)
shape_with_cells s t a cells shape same = record {
  living = shape.living;
  globals = shape.globals;
  arrays = length-set t.arrays a cells ∙ shape.arrays;
  cells = λ b. length_cells t a b cells same ∙ shape.cells b;
}

pub shape_put : (s t : Configuration) (slot : Slot) (v : Val) → SameShape s t → SameShape s (put t slot v)
shape_put s t (Slot.Global g) v shape = record {
  living = shape.living;
  globals = length-set t.globals g v ∙ shape.globals;
  arrays = shape.arrays;
  cells = shape.cells;
}
shape_put s t (Slot.Cell a i) v shape =
    shape_with_cells s t a (set (cells_of t a) i v) shape (length-set (cells_of t a) i v)

-- a slot that is there stays there
pub has_slot_shape : (s t : Configuration) (slot : Slot) → SameShape s t → HasSlot s slot → HasSlot t slot
has_slot_shape s t (Slot.Global g) shape h = let e = shape.globals in omega arith
has_slot_shape s t (Slot.Cell a i) shape h =
    let e = shape.arrays in
    let f = shape.cells a in
    (omega (arith, h.0), omega (arith, h.1))

pub shape_same : (s : Configuration) → SameShape s s
shape_same s = record { living = refl; globals = refl; arrays = refl; cells = λ _. refl }

pub written_at_shape : (s t : Configuration) (params : List ℕ) (u : Update) (target : Target) → SameShape s t → SameShape s (written_at s params u t target)
written_at_shape s t params u (Target.Global g) shape = shape_put s t (Slot.Global g) _ shape
written_at_shape s t params u (Target.Array a) shape =
    shape_with_cells s t a (new_cells s params u a) shape
    (length-map_from (cell_after s params (Some u) (λ _. None) a) 0 (cells_of s a) ∙ sym (shape.cells a))

pub copied_at_shape : (s t : Configuration) (target : Target) → SameShape s t → SameShape s (copied_at s t target)
copied_at_shape s t (Target.Global g) shape = shape_put s t (Slot.Global g) _ shape
copied_at_shape s t (Target.Array a) shape = shape_with_cells s t a (cells_of s a) shape (sym (shape.cells a))

pub shape_sym : (s t : Configuration) → SameShape s t → SameShape t s
shape_sym s t shape = record {
  living = sym shape.living;
  globals = sym shape.globals;
  arrays = sym shape.arrays;
  cells = λ a. sym (shape.cells a);
}

pub has_target_shape : (s t : Configuration) (target : Target) → SameShape s t → HasTarget s target → HasTarget t target
has_target_shape s t (Target.Global g) shape there = let e = shape.globals in omega arith
has_target_shape s t (Target.Array a) shape there =
    let e = shape.arrays in
    (omega (arith, there.0), shape.cells a ∙ there.1 ∙ ap length (sym shape.living))

-- a firing keeps the slots
pub fired_shape : (s : Configuration) (params : List ℕ) (us : List Update) (pick : Slot → Option Val) → SameShape s (fired s params us pick)
fired_shape s params us pick = record {
  living = refl;
  globals = length-map_from (global_after s params us pick) 0 s.globals;
  arrays = length-map_from (cells_after s params us pick) 0 s.arrays;
  cells = cells;
}
  where
    cells : (a : ℕ) → length (cells_of (fired s params us pick) a) ≡ length (cells_of s a)
    cells a =
        elim (cases_lt a (length s.arrays)) as (λ _. length (cells_of (fired s params us pick) a) ≡ length (cells_of s a)) [
          | inl within ↦
              ap length (get_or-map_from_zero (cells_after s params us pick) s.arrays a [] [] within)
              ∙ length-map_from (cell_after s params (update_of us (Target.Array a)) pick a) 0 (cells_of s a)
          | inr past ↦
              ap length (get_or_past (map_from (cells_after s params us pick) 0 s.arrays) a [] (let l = length-map_from (cells_after s params us pick) 0 s.arrays in omega arith))
              ∙ ap length (sym (get_or_past s.arrays a [] past))
        ]
