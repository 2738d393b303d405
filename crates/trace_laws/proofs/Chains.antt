-- The steps along a chain lead to its unsafe conjunction, by induction along the chain.
use Rattle.std.proofs.Common.{◌≡◌, ℕ, ◌≤◌, true, Bool, List, [], ◌∷◌, ◌++◌, length, Option, Some, None, take, refl, sym, ap, ◌∙◌, subst, arith, slice_get}
use Rattle.std.specs.Prelude.{IsTrue, map, option_map}
use Rattle.std.specs.List.{list_all, range_with_len, flat_map, filter_map}
use Rattle.std.proofs.lemmas.List.{length-set}
use Rattle.cub_base.proofs.Members.{has_Contains}
use Rattle.cub_base.proofs.Bools.{and_both}
use Rattle.cub_proto.specs.declared.state.Slot.{Slot}
use Rattle.cub_proto.specs.declared.transition.Transition.{Transition}
use Rattle.cub_proto.specs.declared.event.Chosen.{Chosen}
use Rattle.cub_proto.specs.declared.event.Event.{Event}
use Rattle.cub_proto.specs.declared.event.Event.TheVariants.{Crash, Fire}
use Rattle.cub_proto.specs.declared.protocol.Decl.{Decl}
use Rattle.cub_proto.specs.declared.protocol.Protocol.{Protocol}
use Rattle.cub_proto.specs.Configuration.{Configuration, process_count}
use Rattle.cub_proto.specs.StateOf.{IsStateOf, IsOfSort, AreCells, signature_of}
use Rattle.cub_proto.specs.Fits.{literal_fits}
use Rattle.cub_proto.specs.Legal.{AreLegal, after, after_all, fired_by}
use Rattle.cub_proto.specs.Meets.{Satisfies}
use Rattle.cub_proto.proofs.KeepsStates.{after_state}
use Rattle.cub_cube.specs.declared.cube.Cube.{Cube}
use Rattle.cub_cube.specs.Goals.{goal_cube}
use Rattle.cub_cube.specs.Rename.{along}
use Rattle.cub_cube.proofs.Form.{fold_true}
use Rattle.cub_cube.proofs.KeptLemmas.{kept_unique}
use Rattle.piece_choices.specs.declared.piece.Label.{Label}
use Rattle.piece_choices.specs.declared.piece.Piece.{Piece}
use Rattle.piece_choices.specs.Pieces.{candidates, IsPossible}
use Rattle.piece_choices.proofs.ListLemmas.{zip_length}
use Rattle.piece_laws.specs.Event.{pick_by, slots_of}
use Rattle.log_form.specs.declared.node.Origin.{Origin}
use Rattle.log_form.proofs.Rooted.{goal_literals}
use Rattle.replay.specs.Machine.{MakesUnsafe}
use Rattle.trace_judge.specs.Plain.{is_step}
use Rattle.trace_laws.specs.declared.chain.Link.{Link}
use Rattle.trace_laws.specs.Standing.{standing, step_by}
use Rattle.trace_laws.specs.Blocked.{freed, with_crashes}
use Rattle.trace_laws.specs.Chain.{NamesPiece, NamesGoal, AreLinked, IsChain}
use Rattle.trace_laws.specs.Along.{IsStepBy, EndsAt, StepsAlong}
use Rattle.trace_laws.specs.Leads.{LeadsTo, SatisfyFirst}
use Rattle.trace_laws.proofs.Killing.{after_append}
use Rattle.trace_laws.proofs.StandingLemmas.{satisfies_piece}
use Rattle.trace_laws.proofs.ChainFits.{get_has, first_may}
use Rattle.trace_laws.proofs.Freed.{StepFrees, frees}

-- ---- states along a run
pub states_after : (p : Protocol) (s : Configuration) (events : List Event) → IsStateOf p s → AreLegal p s events → IsStateOf p (after_all p s events)
states_after p s [] state legal = state
states_after p s (e ∷ es) state legal = states_after p (after p s e) es (after_state p s e state legal.0) legal.1

count_fired : (o : Option Transition) (s : Configuration) (params : List ℕ) (picks : List Chosen) → process_count (fired_by o s params picks) ≡ process_count s
count_fired None s params picks = refl
count_fired (Some t) s params picks = refl

pub count_after : (p : Protocol) (s : Configuration) (e : Event) → process_count (after p s e) ≡ process_count s
count_after p s (Crash i) = length-set s.living i Bool.false
count_after p s (Fire number params picks) = count_fired (slice_get p.transitions number) s params picks

pub count_all : (p : Protocol) (s : Configuration) (events : List Event) → process_count (after_all p s events) ≡ process_count s
count_all p s [] = refl
count_all p s (e ∷ es) = count_all p (after p s e) es ∙ count_after p s e

-- states of one number of processes have the same slots
slots_in : ℕ → ℕ → ℕ → List Slot
slots_in n globals arrays =
    map (λ g. Slot.Global g) (range_with_len 0 globals)
    ++ flat_map (λ a. map (λ i. Slot.Cell a i) (range_with_len 0 n)) (range_with_len 0 arrays)

slots_by : (p : Protocol) (s : Configuration) → IsStateOf p s → slots_of s ≡ slots_in (process_count s) (length p.globals) (length p.arrays)
unfolding slots_in
slots_by p s state =
    ap (λ g. map (λ i. Slot.Global i) (range_with_len 0 g) ++ flat_map (λ a. map (λ i. Slot.Cell a i) (range_with_len 0 (process_count s))) (range_with_len 0 (length s.arrays)))
    (sym (zip_length (λ (d : Decl) v. IsOfSort (signature_of p) (process_count s) d.sort v) p.globals s.globals state.globals_fit))
    ∙ ap (λ a. map (λ i. Slot.Global i) (range_with_len 0 (length p.globals)) ++ flat_map (λ b. map (λ i. Slot.Cell b i) (range_with_len 0 (process_count s))) (range_with_len 0 a))
    (sym (zip_length (AreCells (signature_of p) (process_count s)) p.arrays s.arrays state.arrays_fit))

pub same_slots : (p : Protocol) (s t : Configuration) → IsStateOf p s → IsStateOf p t → process_count s ≡ process_count t → slots_of s ≡ slots_of t
same_slots p s t state other same = slots_by p s state ∙ ap (λ n. slots_in n (length p.globals) (length p.arrays)) same ∙ sym (slots_by p t other)

same_step : (s t : Configuration) (label : Label) (processes : List ℕ) → slots_of s ≡ slots_of t → step_by s label processes ≡ step_by t label processes
same_step s t label processes same =
    ap (λ slots. Fire label.transition (along label.params processes) (filter_map (λ (slot : Slot). option_map (λ v. let c : Chosen = record { slot = slot; val = v } in c) (pick_by label.choices processes slot)) slots)) same

-- ---- the end
satisfies_goal : (p : Protocol) (s : Configuration) (link : Link) (processes : List ℕ) (goal : ℕ) (places : List ℕ) (origin : Origin) → IsStateOf p s → Satisfies s processes link.cube.width link.cube.lits
    → NamesGoal p link origin → EndsAt origin (standing link.places processes) goal places → MakesUnsafe p s goal places
satisfies_goal p s link processes goal places (Origin.Piece node number) state sat of ends = absurd ends
satisfies_goal p s link processes goal places (Origin.Root number) state sat of ends =
    let standing_sat = satisfies_piece p (goal_cube p of.goal) link.places link.cube of.form s state processes sat in
    let literals = goal_literals p of.goal (has_Contains p.goals of.goal (get_has p.goals number of.goal of.is_there)) in
    let same = fold_true p s (standing link.places processes) state standing_sat.processes [] of.goal.lits
    (subst (λ w. IsTrue (list_all (literal_fits (signature_of p) w) of.goal.lits)) (sym standing_sat.one_each) literals) in
    subst (λ xs. MakesUnsafe p s goal xs) (sym ends.1) (record {
      goal = of.goal;
      is_there = ap (slice_get p.goals) ends.0 ∙ of.is_there;
      satisfied = record { one_each = standing_sat.one_each; processes = standing_sat.processes; holds = sym same ∙ standing_sat.holds };
    })

-- ---- one step
one_step : (p : Protocol) (first s : Configuration) (link : Link) (next : Cube) (processes : List ℕ) (step : Event) (origin : Origin) → IsTrue (list_all (literal_fits (signature_of p) next.width) next.lits)
    → IsStateOf p s → slots_of s ≡ slots_of first → Satisfies s processes link.cube.width link.cube.lits → NamesPiece p link next origin → IsStepBy p first next origin (standing link.places processes) step
    → StepFrees p next s step (standing link.places processes) × (is_step step ≡ true)
one_step p first s link next processes step (Origin.Root number) fits state slots sat of by = absurd of
one_step p first s link next processes step (Origin.Piece node number) fits state slots sat of by =
    let lists : by.pieces ≡ of.pieces = kept_unique (IsPossible p) (candidates p next) by.pieces of.pieces by.its of.its in
    let same : by.piece ≡ of.piece =
    (let there : Some by.piece ≡ Some of.piece = sym by.is_there ∙ ap (λ xs. slice_get xs number) lists ∙ of.is_there in cc) in
    let processes_at = standing link.places processes in
    let is : step ≡ step_by s of.piece.label processes_at =
    by.is ∙ ap (λ (x : Piece). step_by first x.label processes_at) same ∙ sym (same_step s first of.piece.label processes_at slots) in
    let at = has_Contains of.pieces of.piece (get_has of.pieces number of.piece of.is_there) in (
      subst (λ e. StepFrees p next s e processes_at) (sym is)
          (frees p next fits of.pieces of.its of.piece at s state processes_at (satisfies_piece p of.piece.cube link.places link.cube of.form s state processes sat)),
      ap is_step is,
    )

leads_from : (p : Protocol) (first s : Configuration) (chain : List Link) (processes : List ℕ) (steps : List Event) (goal : ℕ) (places : List ℕ) → AreLinked p chain → length chain ≤ 65536
    → IsStateOf p first → IsStateOf p s → process_count s ≡ process_count first → SatisfyFirst s chain processes → StepsAlong p first chain processes steps goal places → LeadsTo p s steps goal places
leads_from p first s [] processes steps goal places linked few start state count sat along_it = absurd linked
leads_from p first s (link ∷ []) processes [] goal places linked few start state count sat along_it = record {
  firings = refl;
  free = tt;
  ends = satisfies_goal p s link processes goal places link.origin state sat linked along_it;
}
leads_from p first s (link ∷ []) processes (step ∷ steps) goal places linked few start state count sat along_it = absurd along_it
leads_from p first s (link ∷ next ∷ chain) processes [] goal places linked few start state count sat along_it = absurd along_it
leads_from p first s (link ∷ next ∷ chain) processes (step ∷ steps) goal places linked few start state count sat along_it =
    let fit = first_may p next chain linked.1 (omega arith) in
    let made = one_step p first s link next.cube processes step link.origin fit.fits state (same_slots p s first state start count) sat linked.0 along_it.0 in
    let later : Configuration = after_all p s (freed p s step) in
    let rest = leads_from p first later (next ∷ chain) (take next.cube.width (standing link.places processes)) steps goal places linked.1 (omega arith) start
    (states_after p s (freed p s step) state made.0.legal) (count_all p s (freed p s step) ∙ count) made.0.meets along_it.1 in
    record {
      firings = and_both (is_step step) (list_all is_step steps) made.1 rest.firings;
      free = (made.0.legal, made.0.other, rest.free);
      ends = subst (λ z. MakesUnsafe p z goal places) (sym (after_append p s (freed p s step) (with_crashes p later steps))) rest.ends;
    }

pub chain_leads : (p : Protocol) (s : Configuration) (chain : List Link) (processes : List ℕ) (steps : List Event) (goal : ℕ) (places : List ℕ) → IsChain p chain
    → IsStateOf p s → SatisfyFirst s chain processes → StepsAlong p s chain processes steps goal places → LeadsTo p s steps goal places
chain_leads p s chain processes steps goal places is state sat along_it =
    leads_from p s s chain processes steps goal places is.linked is.few state state refl sat along_it
