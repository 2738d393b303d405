-- The passes of a firing, one after another, are its effect.
use Rattle.std.proofs.Common.{◌≡◌, ℕ, true, false, cond, List, [], ◌∷◌, ◌++◌, Option, Some, None, set, refl, sym, ap, subst, ◌∙◌, arith, All, append_assoc}
use Rattle.std.proofs.lemmas.Bool.{and_parts, ne_eqb}
use Rattle.std.proofs.lemmas.List.{append-nil}
use Rattle.std.proofs.lemmas.List.Elements.{All-head, All-tail}
use Rattle.cub_proto.specs.declared.literal.Value.{Value}
use Rattle.cub_proto.specs.declared.transition.Target.{Target}
use Rattle.cub_proto.specs.declared.transition.Update.{Update}
use Rattle.cub_proto.specs.declared.state.Slot.{Slot}
use Rattle.cub_proto.specs.declared.state.Val.{Val}
use Rattle.cub_proto.specs.declared.state.Val.TheVariants.{Con}
use Rattle.cub_proto.specs.declared.event.Chosen.{Chosen}
use Rattle.cub_proto.specs.Configuration.{Configuration, is_alive, value_at, cells_of, HasSlot, put}
use Rattle.cub_proto.specs.Fits.{is_any, targets_rise}
use Rattle.cub_base.specs.Numbered.{map_from}
use Rattle.cub_proto.specs.Effect.{counting, settled, updated, update_of, global_after, cell_after, cells_after, fired, same_slot, picked}
use Rattle.cub_proto.specs.Legal.{picks_rise}
use Rattle.replay.specs.Fault.{is_free, is_free_slot, is_no_dead, is_allowed}
use Rattle.replay.specs.Writes.{HasTarget, with_cells, written_at, written, placed, copied_at, copied}
use Rattle.cub_base.proofs.Numbered.{get_or-map_from_zero, map_from_same, map_from_set}
use Rattle.cub_proto.proofs.Targets.{fresh_target, update_here, update_found}
use Rattle.replay.proofs.Fired.{more_at, fired_nothing}
use Rattle.cub_proto.proofs.StateValues.{alive_within}
use Rattle.cub_proto.proofs.Slots.{arrays_differ, processes_differ, fresh_slot, picked_elsewhere, picked_here}

abbrev pub nothing : Slot → Option Val
nothing slot = None

module _ (s : Configuration) (params : List ℕ) (pick : Slot → Option Val) (done us : List Update) (u : Update) (rise : targets_rise (done ++ u ∷ us) ≡ true) (there : HasTarget s u.target) where
  value_here : (g : ℕ) → u.target ≡ Target.Global g → value_at (fired s params (done ++ u ∷ us) pick) (Slot.Global g) ≡ updated s params (Some u) (pick (Slot.Global g)) (value_at s (Slot.Global g))
  value_here g is =
      get_or-map_from_zero (global_after s params (done ++ u ∷ us) pick) s.globals g (Con 0) (Con 0) (subst (HasTarget s) is there)
      ∙ ap (λ o. updated s params o (pick (Slot.Global g)) (value_at s (Slot.Global g)))
      (ap (update_of (done ++ u ∷ us)) (sym is) ∙ update_here done us u (fresh_target done us u rise))

  cells_here : (a : ℕ) → u.target ≡ Target.Array a → cells_of (fired s params (done ++ u ∷ us) pick) a ≡ map_from (cell_after s params (Some u) pick a) 0 (cells_of s a)
  cells_here a is =
      let has = subst (HasTarget s) is there in
      get_or-map_from_zero (cells_after s params (done ++ u ∷ us) pick) s.arrays a [] [] has.0
      ∙ ap (λ o. map_from (cell_after s params o pick a) 0 (cells_of s a))
      (ap (update_of (done ++ u ∷ us)) (sym is) ∙ update_here done us u (fresh_target done us u rise))

  copied_more : copied_at (fired s params (done ++ u ∷ us) pick) (fired s params done pick) u.target ≡ fired s params (done ++ u ∷ []) pick
  copied_more =
      sym (more_at s params pick done u u.target refl (fresh_target done us u rise) there (fired s params (done ++ u ∷ us) pick) value_here cells_here)

written_copied : (s : Configuration) (params : List ℕ) (u : Update) (t f : Configuration) (target : Target)
    → ((g : ℕ) → target ≡ Target.Global g → value_at f (Slot.Global g) ≡ updated s params (Some u) None (value_at s (Slot.Global g)))
    → ((a : ℕ) → target ≡ Target.Array a → cells_of f a ≡ map_from (cell_after s params (Some u) nothing a) 0 (cells_of s a))
    → written_at s params u t target ≡ copied_at f t target
written_copied s params u t f (Target.Global g) globals arrays = ap (put t (Slot.Global g)) (sym (globals g refl))
written_copied s params u t f (Target.Array a) globals arrays = ap (with_cells t a) (sym (arrays a refl))

shifted : (done us : List Update) (u : Update) → targets_rise (done ++ u ∷ us) ≡ true → targets_rise ((done ++ u ∷ []) ++ us) ≡ true
shifted done us u rise = ap targets_rise (append_assoc done (u ∷ []) us) ∙ rise

-- the first pass: the updates without picks
written_from : (s : Configuration) (params : List ℕ) (done rest : List Update) → targets_rise (done ++ rest) ≡ true → All (λ u. HasTarget s u.target) rest → written s params (fired s params done nothing) rest ≡ fired s params (done ++ rest) nothing
written_from s params done [] rise there = ap (λ us. fired s params us nothing) (sym (append-nil done))
written_from s params done (u ∷ us) rise there =
    let has = All-head (λ v. HasTarget s v.target) u us there in
    ap (λ t. written s params t us)
    (written_copied s params u (fired s params done nothing) (fired s params (done ++ u ∷ us) nothing) u.target
    (value_here s params nothing done us u rise has) (cells_here s params nothing done us u rise has)
    ∙ copied_more s params nothing done us u rise has)
    ∙ written_from s params (done ++ u ∷ []) us (shifted done us u rise) (All-tail (λ v. HasTarget s v.target) u us there)
    ∙ ap (λ vs. fired s params vs nothing) (append_assoc done (u ∷ []) us)

pub written_all : (s : Configuration) (params : List ℕ) (us : List Update) → targets_rise us ≡ true → All (λ u. HasTarget s u.target) us → written s params s us ≡ fired s params us nothing
written_all s params us rise there =
    ap (λ t. written s params t us) (sym (fired_nothing s params nothing)) ∙ written_from s params [] us rise there

-- the last pass: the updated slots of the whole effect
copied_from : (s : Configuration) (params : List ℕ) (pick : Slot → Option Val) (done rest : List Update) → targets_rise (done ++ rest) ≡ true → All (λ u. HasTarget s u.target) rest → copied (fired s params (done ++ rest) pick) (fired s params done pick) rest ≡ fired s params (done ++ rest) pick
copied_from s params pick done [] rise there = ap (λ us. fired s params us pick) (sym (append-nil done))
copied_from s params pick done (u ∷ us) rise there =
    let has = All-head (λ v. HasTarget s v.target) u us there in
    ap (λ t. copied (fired s params (done ++ u ∷ us) pick) t us) (copied_more s params pick done us u rise has)
    ∙ ap (λ vs. copied (fired s params vs pick) (fired s params (done ++ u ∷ []) pick) us) (sym (append_assoc done (u ∷ []) us))
    ∙ copied_from s params pick (done ++ u ∷ []) us (shifted done us u rise) (All-tail (λ v. HasTarget s v.target) u us there)
    ∙ ap (λ vs. fired s params vs pick) (append_assoc done (u ∷ []) us)

pub copied_all : (s : Configuration) (params : List ℕ) (pick : Slot → Option Val) (us : List Update) → targets_rise us ≡ true → All (λ u. HasTarget s u.target) us → copied (fired s params us pick) s us ≡ fired s params us pick
copied_all s params pick us rise there =
    ap (λ t. copied (fired s params us pick) t us) (sym (fired_nothing s params pick)) ∙ copied_from s params pick [] us rise there

-- a slot whose counting value is `?` takes what is picked
settled_any : (s : Configuration) (places : List ℕ) (w : Value) (v old : Val) → is_any w ≡ true → settled s places w (Some v) old ≡ v
settled_any s places (Value.Con c) v old h = absurd (let e : false ≡ true = h in cc)
settled_any s places (Value.Read t) v old h = absurd (let e : false ≡ true = h in cc)
settled_any s places (Value.Proc side) v old h = absurd (let e : false ≡ true = h in cc)
settled_any s places (Value.Sum base add) v old h = absurd (let e : false ≡ true = h in cc)
settled_any s places Value.Any v old h = refl

free_takes : (s : Configuration) (places : List ℕ) (o : Option Update) (v old : Val) → is_free s places o ≡ true → updated s places o (Some v) old ≡ v
free_takes s places None v old h = absurd (let e : false ≡ true = h in cc)
free_takes s places (Some u) v old h = settled_any s places (counting s places u) v old h

found_there : (s : Configuration) (places : List ℕ) (us : List Update) (target : Target) (o : Option Update) → update_of us target ≡ o → is_free s places o ≡ true → All (λ u. HasTarget s u.target) us → HasTarget s target
found_there s places us target None is h there = absurd (let e : false ≡ true = h in cc)
found_there s places us target (Some u) is h there =
    let found = update_found (λ v. HasTarget s v.target) us target u there is in
    subst (HasTarget s) found.1 found.0

-- such a slot is there
pub free_there : (s : Configuration) (us : List Update) (params : List ℕ) (slot : Slot) → is_free_slot s us params slot ≡ true → All (λ u. HasTarget s u.target) us → HasSlot s slot
free_there s us params (Slot.Global g) h there =
    found_there s params us (Target.Global g) (update_of us (Target.Global g)) refl h there
free_there s us params (Slot.Cell a i) h there =
    let parts = and_parts (is_alive s i) (is_free s (params ++ i ∷ []) (update_of us (Target.Array a))) h in
    let has = found_there s (params ++ i ∷ []) us (Target.Array a) (update_of us (Target.Array a)) refl parts.1 there in
    let within = alive_within s i parts.0 in
    (has.0, omega (arith, has.1))

module _ (s : Configuration) (params : List ℕ) (us : List Update) (pick next : Slot → Option Val) where
  cells_same : (a : ℕ) → ((k : ℕ) → next (Slot.Cell a k) ≡ pick (Slot.Cell a k)) → (cells : List Val) → cells_after s params us next a cells ≡ cells_after s params us pick a cells
  cells_same a same cells =
      map_from_same (cell_after s params (update_of us (Target.Array a)) pick a) (cell_after s params (update_of us (Target.Array a)) next a) 0 cells
      (λ k x. ap (λ o. cond (is_alive s k) (updated s (params ++ k ∷ []) (update_of us (Target.Array a)) o x) x) (same k))

  -- a pick for one more slot that takes it
  one_pick : (slot : Slot) (v : Val) → ((w : Slot) → same_slot slot w ≡ false → next w ≡ pick w) → next slot ≡ Some v → is_free_slot s us params slot ≡ true → HasSlot s slot → fired s params us next ≡ put (fired s params us pick) slot v
  one_pick (Slot.Global g) v others here free there =
      ap (λ vs. record s { globals = vs; arrays = map_from (cells_after s params us next) 0 s.arrays })
      (map_from_set (global_after s params us pick) (global_after s params us next) s.globals g v (Con 0) there
      (λ k x differ. ap (λ o. updated s params (update_of us (Target.Global k)) o x) (others (Slot.Global k) (ne_eqb g k (λ e. differ (sym e)))))
      (ap (λ o. updated s params (update_of us (Target.Global g)) o (value_at s (Slot.Global g))) here
      ∙ free_takes s params (update_of us (Target.Global g)) v (value_at s (Slot.Global g)) free))
      ∙ ap (λ arrays. record s { globals = set (map_from (global_after s params us pick) 0 s.globals) g v; arrays = arrays })
      (map_from_same (cells_after s params us pick) (cells_after s params us next) 0 s.arrays
      (λ a cells. cells_same a (λ k. others (Slot.Cell a k) refl) cells))
  one_pick (Slot.Cell a i) v others here free there =
      let parts = and_parts (is_alive s i) (is_free s (params ++ i ∷ []) (update_of us (Target.Array a))) free in
      let o = update_of us (Target.Array a) in
      let old = value_at s (Slot.Cell a i) in
      let cells = map_from (cell_after s params o pick a) 0 (cells_of s a) in
      ap (λ vs. record s { globals = vs; arrays = map_from (cells_after s params us next) 0 s.arrays })
      (map_from_same (global_after s params us pick) (global_after s params us next) 0 s.globals
      (λ g x. ap (λ w. updated s params (update_of us (Target.Global g)) w x) (others (Slot.Global g) refl)))
      ∙ ap (λ arrays. record s { globals = map_from (global_after s params us pick) 0 s.globals; arrays = arrays })
      (map_from_set (cells_after s params us pick) (cells_after s params us next) s.arrays a (set cells i v) [] there.0
      (λ b cs differ. cells_same b (λ k. others (Slot.Cell b k) (arrays_differ a b i k differ)) cs)
      (map_from_set (cell_after s params o pick a) (cell_after s params o next a) (cells_of s a) i v (Con 0) there.1
      (λ k x differ. ap (λ w. cond (is_alive s k) (updated s (params ++ k ∷ []) o w x) x) (others (Slot.Cell a k) (processes_differ a i k differ)))
      (ap (λ t. cond t (updated s (params ++ i ∷ []) o (next (Slot.Cell a i)) old) old) parts.0
      ∙ ap (λ w. updated s (params ++ i ∷ []) o w old) here ∙ free_takes s (params ++ i ∷ []) o v old parts.1)))
      ∙ ap (λ cs. record s {
        globals = map_from (global_after s params us pick) 0 s.globals;
        arrays = set (map_from (cells_after s params us pick) 0 s.arrays) a (set cs i v);
      }) (sym (get_or-map_from_zero (cells_after s params us pick) s.arrays a [] [] there.0))

-- the second pass: the picks over the updates
placed_from : (s : Configuration) (params : List ℕ) (us : List Update) (done rest : List Chosen) → All (λ u. HasTarget s u.target) us → picks_rise (done ++ rest) ≡ true → All (λ c. is_allowed s us params c ≡ true) rest → placed (fired s params us (picked done)) rest ≡ fired s params us (picked (done ++ rest))
placed_from s params us done [] there rise allowed = ap (λ cs. fired s params us (picked cs)) (sym (append-nil done))
placed_from s params us done (c ∷ cs) there rise allowed =
    let first = All-head (λ d. is_allowed s us params d ≡ true) c cs allowed in
    let free = (and_parts (is_free_slot s us params c.slot) (is_no_dead s c.val) first).0 in
    ap (λ t. placed t cs)
    (sym (one_pick s params us (picked done) (picked (done ++ c ∷ [])) c.slot c.val (picked_elsewhere done c)
    (picked_here done c (fresh_slot done cs c rise)) free (free_there s us params c.slot free there)))
    ∙ placed_from s params us (done ++ c ∷ []) cs there (ap picks_rise (append_assoc done (c ∷ []) cs) ∙ rise)
    (All-tail (λ d. is_allowed s us params d ≡ true) c cs allowed)
    ∙ ap (λ ds. fired s params us (picked ds)) (append_assoc done (c ∷ []) cs)

pub placed_all : (s : Configuration) (params : List ℕ) (us : List Update) (picks : List Chosen) → All (λ u. HasTarget s u.target) us → picks_rise picks ≡ true → All (λ c. is_allowed s us params c ≡ true) picks → placed (fired s params us nothing) picks ≡ fired s params us (picked picks)
placed_all s params us picks there rise allowed = placed_from s params us [] picks there rise allowed
