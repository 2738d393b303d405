-- A state leads into a cube by crashes and one event of a transition exactly where it meets a piece of that transition.
use Rattle.std.proofs.Common.{◌≡◌, ℕ, suc, zero, ◌<◌, Bool, true, false, List, [], ◌∷◌, ◌++◌, length, get_or, Some, refl, sym, ap, ◌∙◌, subst, arith}
use Rattle.std.specs.Prelude.{IsTrue, All, slice_get, ◌↔◌}
use Rattle.std.specs.List.{list_all}
use Rattle.cub_proto.specs.declared.transition.Transition.{Transition}
use Rattle.cub_proto.specs.declared.state.Slot.{Slot}
use Rattle.cub_proto.specs.declared.event.Chosen.{Chosen}
use Rattle.cub_proto.specs.declared.event.Event.{Event}
use Rattle.cub_proto.specs.declared.event.Event.TheVariants.{Fire}
use Rattle.cub_proto.specs.declared.protocol.Protocol.{Protocol}
use Rattle.cub_proto.specs.Configuration.{Configuration, process_count, IsAlive}
use Rattle.cub_proto.specs.StateOf.{IsStateOf, signature_of}
use Rattle.cub_proto.specs.Fits.{literal_fits}
use Rattle.cub_proto.specs.Truth.{all_true}
use Rattle.cub_proto.specs.Effect.{fired, picked}
use Rattle.cub_proto.specs.Legal.{AreDistinctAlive, MayFire, IsLegalFire, after, after_all, AreLegal, fired_by}
use Rattle.cub_proto.specs.Meets.{Satisfies, Meets}
use Rattle.cub_proto.proofs.KeepsStates.{after_state}
use Rattle.cub_cube.specs.declared.cube.Cube.{Cube}
use Rattle.cub_cube.specs.Normal.{normal_form}
use Rattle.cub_cube.specs.Mentions.{terms_in}
use Rattle.cub_cube.specs.Rename.{along}
use Rattle.cub_cube.specs.Crashes.{crashes, spare, killed_all, IsCrashed}
use Rattle.cub_base.proofs.Members.{Has, all_has, has_all, contains_Has, has_Contains}
use Rattle.cub_cube.proofs.KeptLemmas.{kept_from, kept_has}
use Rattle.cub_cube.proofs.CrashLemmas.{crashed_satisfies, kept_satisfies, after_crashes, killed_all_crashed, AreSpare, spare_all}
use Rattle.cub_cube.proofs.Form.{fold_true}
use Rattle.cub_cube.proofs.Placing.{identity}
use Rattle.piece_choices.specs.declared.piece.Piece.{Piece}
use Rattle.piece_choices.specs.Placings.{is_among}
use Rattle.piece_choices.specs.Selections.{Selection}
use Rattle.piece_choices.specs.Conjunction.{conjunction, label_of, piece_by}
use Rattle.piece_choices.specs.Pieces.{candidates, IsPossible, ArePieces}
use Rattle.piece_laws.specs.Leads.{LeadsInto, MeetsPiece}
use Rattle.piece_laws.specs.Event.{pick_by, slots_of, picks_by, events_by}
use Rattle.piece_choices.proofs.ListLemmas.{among_has, has_among}
use Rattle.piece_choices.proofs.Candidates.{candidate_is, is_candidate}
use Rattle.piece_choices.proofs.SelectionLemmas.{IsSelection}
use Rattle.piece_choices.proofs.Fitting.{its_transition, selection_fits}
use Rattle.piece_laws.proofs.Sound as Sound
use Rattle.piece_laws.proofs.Complete as Complete
use Rattle.piece_laws.proofs.SlotLemmas.{picked_pointwise, picks_by_rise, slot_there, picks_by_crashed}

-- ---- lists of events
legal_append : (p : Protocol) (s : Configuration) (xs ys : List Event) → AreLegal p s xs → AreLegal p (after_all p s xs) ys → AreLegal p s (xs ++ ys)
legal_append p s [] ys h k = k
legal_append p s (e ∷ xs) ys h k = (h.0, legal_append p (after p s e) xs ys h.1 k)

legal_first : (p : Protocol) (s : Configuration) (xs ys : List Event) → AreLegal p s (xs ++ ys) → AreLegal p s xs
legal_first p s [] ys h = tt
legal_first p s (e ∷ xs) ys h = (h.0, legal_first p (after p s e) xs ys h.1)

legal_last : (p : Protocol) (s : Configuration) (xs ys : List Event) → AreLegal p s (xs ++ ys) → AreLegal p (after_all p s xs) ys
legal_last p s [] ys h = h
legal_last p s (e ∷ xs) ys h = legal_last p (after p s e) xs ys h.1

after_append : (p : Protocol) (s : Configuration) (xs ys : List Event) → after_all p s (xs ++ ys) ≡ after_all p (after_all p s xs) ys
after_append p s [] ys = refl
after_append p s (e ∷ xs) ys = after_append p (after p s e) xs ys

states_kept : (p : Protocol) (s : Configuration) (events : List Event) → IsStateOf p s → AreLegal p s events → IsStateOf p (after_all p s events)
states_kept p s [] state legal = state
states_kept p s (e ∷ es) state legal = states_kept p (after p s e) es (after_state p s e state legal.0) legal.1

module _ (p : Protocol) (c : Cube) (fits : IsTrue (list_all (literal_fits (signature_of p) c.width) c.lits)) where
  -- the normal form of a selection's conjunction says the same
  form_true : (number : ℕ) (t : Transition) (at : slice_get p.transitions number ≡ Some t) (x : Selection) (is : IsSelection (signature_of p) t c.width (terms_in c.lits) x) (s : Configuration) (places : List ℕ)
      → IsStateOf p s → length places ≡ x.picking.width → AreDistinctAlive s places
      → all_true s places (normal_form (signature_of p) (conjunction (signature_of p) t x c.lits)) ≡ all_true s places (conjunction (signature_of p) t x c.lits)
  form_true number t at x is s places state size distinct =
      fold_true p s places state distinct [] (conjunction (signature_of p) t x c.lits)
      (subst (λ n. IsTrue (list_all (literal_fits (signature_of p) n) (conjunction (signature_of p) t x c.lits))) (sym size) (selection_fits p t (its_transition p number t at) c.width c.lits fits x is))

  -- ---- from a piece into the cube
  pub record Leads (number : ℕ) (x : Selection) (s : Configuration) (places : List ℕ) : Type 0 where
    pub legal : AreLegal p s (events_by s (label_of number x) places)
    pub meets : Satisfies (after_all p s (events_by s (label_of number x) places)) (along (identity c.width) places) c.width c.lits

  pub leads : (number : ℕ) (t : Transition) (at : slice_get p.transitions number ≡ Some t) (x : Selection) (is : IsSelection (signature_of p) t c.width (terms_in c.lits) x) (s : Configuration) (places : List ℕ)
      → IsStateOf p s → Satisfies s places x.picking.width (normal_form (signature_of p) (conjunction (signature_of p) t x c.lits)) → Leads number x s places
  leads number t at x is s places state sat = record {
    legal = legal_append p s dead (last ∷ []) crash_legal ((legal_fire, tt));
    meets = subst (λ z. Satisfies z (along (identity c.width) places) c.width c.lits) (sym (after_append p s dead (last ∷ []) ∙ fired_after)) after_fire;
  }
    where
      keep : ℕ → Bool
      keep = is_among places

      spared : List ℕ
      spared = spare (is_among places) s (process_count s)

      dead : List Event
      dead = crashes (spare (is_among places) s (process_count s))

      left : Configuration
      left = after_all p s (crashes (spare (is_among places) s (process_count s)))

      picks : List Chosen
      picks = picks_by s x.picking.choices places

      last : Event
      last = Fire number (along x.placing.params places) (picks_by s x.picking.choices places)

      are_spare : AreSpare p (is_among places) s (process_count s)
      are_spare = spare_all p (is_among places) s (process_count s)

      crash_legal : AreLegal p s (crashes (spare (is_among places) s (process_count s)))
      crash_legal = are_spare.legal

      is_left : after_all p s (crashes (spare (is_among places) s (process_count s))) ≡ killed_all s (spare (is_among places) s (process_count s))
      is_left = after_crashes p s (spare (is_among places) s (process_count s))

      crashed : IsCrashed s (after_all p s (crashes (spare (is_among places) s (process_count s))))
      crashed = subst (IsCrashed s) (sym is_left) (killed_all_crashed s (spare (is_among places) s (process_count s)))

      left_state : IsStateOf p (after_all p s (crashes (spare (is_among places) s (process_count s))))
      left_state = states_kept p s (crashes (spare (is_among places) s (process_count s))) state crash_legal

      left_alive : All (IsAlive (after_all p s (crashes (spare (is_among places) s (process_count s))))) places
      left_alive = has_all (IsAlive (after_all p s (crashes (spare (is_among places) s (process_count s))))) places
          (λ i h. subst (λ z. IsAlive z i) (sym is_left) (are_spare.kept i (has_among places i h) (all_has (IsAlive s) places i sat.processes.alive h)))

      only : (i : ℕ) → IsAlive (after_all p s (crashes (spare (is_among places) s (process_count s)))) i → Has places i
      only i h =
          let before = crashed.alive i h in
          among_has places i (are_spare.others i (within before) (subst (λ z. IsAlive z i) is_left h))
        where
          within : IsAlive s i → i < process_count s
          within alive = alive_below s.living i alive
            where
              alive_below : (xs : List Bool) (j : ℕ) → get_or xs j false ≡ true → j < length xs
              alive_below [] j e = cc
              alive_below (b ∷ bs) zero e = omega arith
              alive_below (b ∷ bs) (suc j) e = omega (arith, alive_below bs j e)

      left_sat : Satisfies (after_all p s (crashes (spare (is_among places) s (process_count s)))) places x.picking.width (normal_form (signature_of p) (conjunction (signature_of p) t x c.lits))
      left_sat = kept_satisfies s (after_all p s (crashes (spare (is_among places) s (process_count s)))) places x.picking.width (normal_form (signature_of p) (conjunction (signature_of p) t x c.lits)) crashed left_alive sat

      holds : IsTrue (all_true (after_all p s (crashes (spare (is_among places) s (process_count s)))) places (conjunction (signature_of p) t x c.lits))
      holds =
          sym (form_true number t at x is (after_all p s (crashes (spare (is_among places) s (process_count s)))) places left_state sat.one_each left_sat.processes) ∙ left_sat.holds

      fires : MayFire p (after_all p s (crashes (spare (is_among places) s (process_count s)))) t (along x.placing.params places) (pick_by x.picking.choices places)
      fires = Sound.fires p t (its_transition p number t at) c.width c.lits fits x is (after_all p s (crashes (spare (is_among places) s (process_count s)))) places left_state sat.one_each left_sat.processes holds only

      same_list : picks_by (after_all p s (crashes (spare (is_among places) s (process_count s)))) x.picking.choices places ≡ picks_by s x.picking.choices places
      same_list = picks_by_crashed s (after_all p s (crashes (spare (is_among places) s (process_count s)))) x.picking.choices places crashed

      pointwise : (slot : Slot) → picked (picks_by s x.picking.choices places) slot ≡ pick_by x.picking.choices places slot
      pointwise slot =
          ap (λ ps. picked ps slot) (sym same_list)
          ∙ picked_pointwise (pick_by x.picking.choices places) (slots_of (after_all p s (crashes (spare (is_among places) s (process_count s)))))
          (λ o v e. slot_there p (after_all p s (crashes (spare (is_among places) s (process_count s)))) t.updates (along x.placing.params places) left_state o v (fires.picks o v e)) slot

      same_picks : picked (picks_by s x.picking.choices places) ≡ pick_by x.picking.choices places
      same_picks = λ i. λ slot. pointwise slot i

      legal_fire : IsLegalFire p (after_all p s (crashes (spare (is_among places) s (process_count s)))) number (along x.placing.params places) (picks_by s x.picking.choices places)
      legal_fire = record {
        transition = t;
        is_there = at;
        fires = subst (MayFire p (after_all p s (crashes (spare (is_among places) s (process_count s)))) t (along x.placing.params places)) (sym same_picks) fires;
        rising = picks_by_rise s x.picking.choices places;
      }

      after_fire : Satisfies (fired (after_all p s (crashes (spare (is_among places) s (process_count s)))) (along x.placing.params places) t.updates (pick_by x.picking.choices places)) (along (identity c.width) places) c.width c.lits
      after_fire = Sound.satisfies_after p t (its_transition p number t at) c.width c.lits fits x is (after_all p s (crashes (spare (is_among places) s (process_count s)))) places left_state sat.one_each left_sat.processes holds

      fired_after : after p (after_all p s (crashes (spare (is_among places) s (process_count s)))) (Fire number (along x.placing.params places) (picks_by s x.picking.choices places))
          ≡ fired (after_all p s (crashes (spare (is_among places) s (process_count s)))) (along x.placing.params places) t.updates (pick_by x.picking.choices places)
      fired_after =
          ap (λ o. fired_by o (after_all p s (crashes (spare (is_among places) s (process_count s)))) (along x.placing.params places) (picks_by s x.picking.choices places)) at
          ∙ ap (fired (after_all p s (crashes (spare (is_among places) s (process_count s)))) (along x.placing.params places) t.updates) same_picks

  -- ---- from the cube back to a piece
  pub found : (number : ℕ) (s : Configuration) → IsStateOf p s → LeadsInto p c number s → (x : Piece) × Has (candidates p c) x × (x.label.transition ≡ number) × Meets s x.cube.width x.cube.lits
  found number s state into =
      let dead = crashes into.dead in
      let last = Fire number into.params into.picks in
      let left = after_all p s dead in
      let crash_legal = legal_first p s dead (last ∷ []) into.legal in
      let legal_fire = (legal_last p s dead (last ∷ []) into.legal).0 in
      let left_state = states_kept p s dead state crash_legal in
      let crashed = subst (IsCrashed s) (sym (after_crashes p s into.dead)) (killed_all_crashed s into.dead) in
      let t = legal_fire.transition in
      let at = legal_fire.is_there in
      let fired_after = after_append p s dead (last ∷ []) ∙ ap (λ o. fired_by o left into.params into.picks) at in
      let meets = subst (λ z. Satisfies z into.meets.0 c.width c.lits) fired_after into.meets.1 in
      let fit = its_transition p number t at in
      let x = Complete.chosen p t fit c.width c.lits fits left left_state into.params (picked into.picks) legal_fire.fires into.meets.0 meets in
      let is = Complete.chosen_is p t fit c.width c.lits fits left left_state into.params (picked into.picks) legal_fire.fires into.meets.0 meets in
      let places = Complete.its_places p t fit c.width c.lits fits left left_state into.params (picked into.picks) legal_fire.fires into.meets.0 meets in
      let met = Complete.met p t fit c.width c.lits fits left left_state into.params (picked into.picks) legal_fire.fires into.meets.0 meets in (
        piece_by (signature_of p) number t c.lits x,
        is_candidate p c number t x at is,
        refl,
        (places, form_back s left number t at x is places state left_state crashed met),
      )
    where
      form_back : (s left : Configuration) (number : ℕ) (t : Transition) (at : slice_get p.transitions number ≡ Some t) (x : Selection) (is : IsSelection (signature_of p) t c.width (terms_in c.lits) x) (places : List ℕ)
          → IsStateOf p s → IsStateOf p left → IsCrashed s left → Satisfies left places x.picking.width (conjunction (signature_of p) t x c.lits)
          → Satisfies s places x.picking.width (normal_form (signature_of p) (conjunction (signature_of p) t x c.lits))
      form_back s left number t at x is places state left_state crashed met =
          let sat = crashed_satisfies s left places x.picking.width (conjunction (signature_of p) t x c.lits) crashed met in
          record {
            one_each = sat.one_each;
            processes = sat.processes;
            holds = form_true number t at x is s places state sat.one_each sat.processes ∙ sat.holds;
          }

  -- ---- both directions, for the list of pieces
  pub predecessors : (number : ℕ) (pieces : List Piece) (s : Configuration) → ArePieces p c pieces → IsStateOf p s → LeadsInto p c number s ↔ MeetsPiece pieces number s
  predecessors number pieces s are state = (
    λ into.
        let back = found number s state into in
        (back.0, kept_has (IsPossible p) (candidates p c) pieces back.0 are (has_Contains (candidates p c) back.0 back.1) (s, state, back.3), back.2, back.3),
    λ meets.
        let inside = kept_from (IsPossible p) (candidates p c) pieces meets.0 are meets.1 in
        let is = candidate_is p c meets.0 (contains_Has (candidates p c) meets.0 inside.0) in
        let sat = subst (λ y. Satisfies s meets.3.0 y.cube.width y.cube.lits) (sym is.same) meets.3.1 in
        let leads_there = leads is.number is.transition is.at is.selected is.is s meets.3.0 state sat in
        let same_number : is.number ≡ number = ap (λ y. y.label.transition) is.same ∙ meets.2 in
        subst (λ n. LeadsInto p c n s) same_number
        (record {
          dead = spare (is_among meets.3.0) s (process_count s);
          params = along is.selected.placing.params meets.3.0;
          picks = picks_by s is.selected.picking.choices meets.3.0;
          legal = leads_there.legal;
          meets = (along (identity c.width) meets.3.0, leads_there.meets);
        }),
  )
