-- The picks of an event, as picks of choices: each value that a term takes is a constructor, its old value, a place of the
-- cube or a new place behind the earlier ones.
use Rattle.std.proofs.Common.{◌≡◌, ◌⊎◌, ℕ, ◌+◌, ◌≤◌, Bool, true, false, List, [], ◌∷◌, ◌++◌, length, Option, Some, None, refl, sym, ap, ◌∙◌, subst, arith, inl, inr}
use Rattle.std.specs.Prelude.{IsTrue, slice_index, unwrap_or}
use Rattle.std.specs.List.{list_all, AllZip}
use Rattle.std.proofs.lemmas.List.{length_push, length-append, append_assoc, append-nil}
use Rattle.cub_proto.specs.declared.literal.Sort.{Sort}
use Rattle.cub_proto.specs.declared.literal.Term.{Term}
use Rattle.cub_proto.specs.declared.literal.PSide.{PSide}
use Rattle.cub_proto.specs.declared.literal.Value.{Value}
use Rattle.cub_proto.specs.declared.transition.Update.{Update}
use Rattle.cub_proto.specs.declared.transition.Transition.{Transition}
use Rattle.cub_proto.specs.declared.state.Slot.{Slot}
use Rattle.cub_proto.specs.declared.state.Val.{Val}
use Rattle.cub_proto.specs.declared.state.Val.TheVariants.{Con, Proc, Int}
use Rattle.cub_proto.specs.declared.protocol.Protocol.{Protocol}
use Rattle.cub_proto.specs.Configuration.{Configuration, process_count, IsAlive, value_at}
use Rattle.cub_proto.specs.Signature.{sort_of, declared_sort}
use Rattle.cub_proto.specs.StateOf.{IsStateOf, IsOfSort, signature_of}
use Rattle.cub_proto.specs.Fits.{is_any, place_fits, update_fits, value_fits}
use Rattle.cub_proto.specs.Truth.{slot_of, term_value, process_of}
use Rattle.cub_proto.specs.Effect.{meaning_of, update_of}
use Rattle.cub_proto.specs.Legal.{IsPickable, MayPick}
use Rattle.cub_proto.proofs.StateValues.{value_of_sort}
use Rattle.cub_cube.specs.Step.{target_of}
use Rattle.cub_base.proofs.Bools.{less_is}
use Rattle.cub_base.proofs.Members.{Has, has_all, Distinct, distinct_pairs}
use Rattle.cub_cube.proofs.States.{processes_within}
use Rattle.updates.specs.declared.choice.Choice.{Choice}
use Rattle.updates.specs.Ways.{way_value}
use Rattle.updates.specs.Chosen.{with_pick, reading_places, lits_by, choice_lits, value_by, chosen_value}
use Rattle.updates.specs.Through.{PickAgrees}
use Rattle.updates.proofs.Fitting.{term_update, way_value_fits, renamed_any}
use Rattle.updates.proofs.Present.{TermFits}
use Rattle.piece_choices.specs.Picks.{Picking, picking, pickings}
use Rattle.piece_choices.proofs.ListLemmas.{at_front, at_end, has_place, among_or_not}
use Rattle.piece_choices.proofs.PlacingLemmas.{distinct_push, has_push}
use Rattle.piece_choices.proofs.PickLemmas.{MayTake, constructor, old, process, free_picks_has, fixed_picks_has, pickings_has}
use Rattle.piece_choices.proofs.Suiting.{process_term, taken_pick, place_fits_wider}

-- ---- terms at longer lists of processes
pub slot_front : (places more : List ℕ) (u : Term) → IsTrue (place_fits (length places) u) → slot_of (places ++ more) u ≡ slot_of places u
slot_front places more (Term.Global g) h = refl
slot_front places more (Term.Cell a q) h = ap (λ i. Slot.Cell a i) (at_front places more q (less_is q (length places) h))

any_is : (v : Value) → is_any v ≡ true → v ≡ Value.Any
any_is (Value.Con c) h = cc
any_is (Value.Read t) h = cc
any_is (Value.Proc side) h = cc
any_is (Value.Sum base add) h = cc
any_is Value.Any h = refl

module _ (p : Protocol) (t : Transition) (params : List ℕ) (fit : IsTrue (list_all (update_fits (signature_of p) (length params)) t.updates)) (width : ℕ)
    (s : Configuration) (state : IsStateOf p s) (processes : List ℕ) (pick : Slot → Option Val) (may : (slot : Slot) (v : Val) → pick slot ≡ Some v → MayPick p s t.updates processes slot v) where
  -- the term takes any value, so its sort is not that of integers
  no_integer : (c : Choice) → is_any (chosen_value t.updates params c) ≡ true → sort_of (signature_of p) c.term ≡ Some Sort.Int → ⊥
  no_integer c any e = by (update_of t.updates (target_of c.term)) refl any
    where
      by : (o : Option Update) → update_of t.updates (target_of c.term) ≡ o → is_any (value_by o params c) ≡ true → ⊥
      by None is h = cc
      by (Some u) is h =
          let r = reading_places params c.term in
          let fits = term_update (signature_of p) params t.updates c.term u fit is in
          let whole : way_value u c.branch ≡ Value.Any = any_is (way_value u c.branch) (sym (renamed_any r (way_value u c.branch)) ∙ h) in
          let same : fits.sort ≡ Sort.Int = (let f = fits.is_sort in cc) in
          let value : IsTrue (value_fits (signature_of p) (length r) fits.sort (way_value u c.branch)) = way_value_fits (signature_of p) (length r) c.term u c.branch fits in
          let no_fit : value_fits (signature_of p) (length r) fits.sort (way_value u c.branch) ≡ false =
          ap (λ x. value_fits (signature_of p) (length r) x (way_value u c.branch)) same ∙ ap (value_fits (signature_of p) (length r) Sort.Int) whole in
          cc

  -- a picked value is pickable for the sort of its term
  pick_of_term : (places : List ℕ) (u : Term) (sort : Sort) (v : Val) → sort_of (signature_of p) u ≡ Some sort → pick (slot_of places u) ≡ Some v → IsPickable p s sort v
  pick_of_term places (Term.Global g) sort v e is =
      let takes = may (Slot.Global g) v is in
      let same : takes.its_sort ≡ sort = (let f = takes.is_sort in cc) in
      subst (λ x. IsPickable p s x v) same takes.pickable
  pick_of_term places (Term.Cell a q) sort v e is =
      let takes = (may (Slot.Cell a (slice_index places q)) v is).1 in
      let same : takes.its_sort ≡ sort = (let f = takes.is_sort in cc) in
      subst (λ x. IsPickable p s x v) same takes.pickable

  -- the value that the term takes where its chosen one is `?`
  abbrev taken_at : List ℕ → Term → Val
  taken_at places u = unwrap_or (pick (slot_of places u)) (term_value s places u)

  record Settled (places : List ℕ) (u : Term) : Type 0 where
    value : Value
    more : List ℕ
    alive : (i : ℕ) → Has (places ++ more) i → IsAlive s i
    distinct : Distinct (places ++ more)
    may_take : MayTake (signature_of p) (length (places ++ more)) u value
    grown : (length (places ++ more) ≡ length places) ⊎ ((length (places ++ more) ≡ length places + 1) × (value ≡ Value.Proc (PSide.Place (length places))))
    means : (further : List ℕ) (before : Val) → meaning_of s ((places ++ more) ++ further) value before ≡ taken_at places u

  same_length : (places : List ℕ) → length (places ++ []) ≡ length places
  same_length places = ap length (append-nil places)

  settle_finite : (places : List ℕ) (u : Term) (k : ℕ) → ((i : ℕ) → Has places i → IsAlive s i) → Distinct places → sort_of (signature_of p) u ≡ Some (Sort.Fin k)
      → IsOfSort (signature_of p) (process_count s) (Sort.Fin k) (taken_at places u) → Settled places u
  settle_finite places u k alive distinct e of_sort = by (taken_at places u) refl of_sort
    where
      by : (w : Val) → taken_at places u ≡ w → IsOfSort (signature_of p) (process_count s) (Sort.Fin k) w → Settled places u
      by (Con c) is below = record {
        value = Value.Con c;
        more = [];
        alive = λ i h. alive i (subst (λ xs. Has xs i) (append-nil places) h);
        distinct = subst Distinct (sym (append-nil places)) distinct;
        may_take = constructor k c e below;
        grown = inl (same_length places);
        means = λ further before. sym is;
      }
      by (Proc i) is none = absurd none
      by (Int n) is none = absurd none

  settle_process : (places : List ℕ) (g : ℕ) → ((i : ℕ) → Has places i → IsAlive s i) → Distinct places → declared_sort p.globals g ≡ Some Sort.Proc → Settled places (Term.Global g)
  settle_process places g alive distinct e = by (pick (Slot.Global g)) refl
    where
      of_process : (w : Val) → IsOfSort (signature_of p) (process_count s) Sort.Proc w → Proc (process_of w) ≡ w
      of_process (Con c) none = absurd none
      of_process (Proc i) h = refl
      of_process (Int n) none = absurd none

      picked : (v : Val) → pick (Slot.Global g) ≡ Some v → IsPickable p s Sort.Proc v → Settled places (Term.Global g)
      picked (Con c) is h = absurd (h.of_sort)
      picked (Int n) is h = absurd (h.of_sort)
      picked (Proc i) is h = place (among_or_not places i)
        where
          takes : taken_at places (Term.Global g) ≡ Proc i
          takes = ap (λ o. unwrap_or o (term_value s places (Term.Global g))) is

          place : Has places i ⊎ (Has places i → ⊥) → Settled places (Term.Global g)
          place (inl old_one) =
              let found = has_place places i old_one in
              let size : length (places ++ []) ≡ length places = same_length places in
              let below = found.1 in
              record {
                value = Value.Proc (PSide.Place found.0);
                more = [];
                alive = λ j k. alive j (subst (λ xs. Has xs j) (append-nil places) k);
                distinct = subst Distinct (sym (append-nil places)) distinct;
                may_take = process g found.0 e refl (omega arith);
                grown = inl (same_length places);
                means = λ further before. ap (λ j. Proc j) (at_front (places ++ []) further found.0 (omega arith) ∙ at_front places [] found.0 found.1 ∙ found.2) ∙ sym takes;
              }
          place (inr new_one) =
              let size : length (places ++ i ∷ []) ≡ length places + 1 = length_push places i in
              record {
                value = Value.Proc (PSide.Place (length places));
                more = i ∷ [];
                alive = λ j k. split j (has_push places i j k);
                distinct = distinct_push places i distinct new_one;
                may_take = process g (length places) e refl (omega arith);
                grown = inr (length_push places i, refl);
                means = λ further before. ap (λ j. Proc j) (at_front (places ++ i ∷ []) further (length places) (omega arith) ∙ at_end places i) ∙ sym takes;
              }
            where
              split : (j : ℕ) → Has places j ⊎ (i ≡ j) → IsAlive s j
              split j (inl early) = alive j early
              split j (inr same) = subst (IsAlive s) same (h.alive i refl)

      by : (o : Option Val) → pick (Slot.Global g) ≡ o → Settled places (Term.Global g)
      by None is =
          let takes : taken_at places (Term.Global g) ≡ value_at s (Slot.Global g) = ap (λ o. unwrap_or o (term_value s places (Term.Global g))) is in
          let sorted = value_of_sort p s state [] (Term.Global g) Sort.Proc (λ k d below. absurd (omega arith)) refl e in
          record {
            value = Value.Proc (PSide.Global g);
            more = [];
            alive = λ j k. alive j (subst (λ xs. Has xs j) (append-nil places) k);
            distinct = subst Distinct (sym (append-nil places)) distinct;
            may_take = old g e refl;
            grown = inl (same_length places);
            means = λ further before. of_process (value_at s (Slot.Global g)) sorted ∙ sym takes;
          }
      by (Some v) is = picked v is (pick_of_term places (Term.Global g) Sort.Proc v e is)

  settle : (places : List ℕ) (c : Choice) → ((i : ℕ) → Has places i → IsAlive s i) → Distinct places → IsTrue (place_fits (length places) c.term) → is_any (chosen_value t.updates params c) ≡ true
      → (sort : Sort) → sort_of (signature_of p) c.term ≡ Some sort → Settled places c.term
  settle places c alive distinct place any (Sort.Fin k) e =
      settle_finite places c.term k alive distinct e (by (pick (slot_of places c.term)) refl)
    where
      by : (o : Option Val) → pick (slot_of places c.term) ≡ o → IsOfSort (signature_of p) (process_count s) (Sort.Fin k) (unwrap_or o (term_value s places c.term))
      by None is = value_of_sort p s state places c.term (Sort.Fin k) (processes_within s places (record { alive = has_all (IsAlive s) places alive; distinct = distinct_pairs places distinct })) place e
      by (Some v) is = let pickable = pick_of_term places c.term (Sort.Fin k) v e is in pickable.of_sort
  settle places c alive distinct place any Sort.Proc e =
      let g = process_term p c.term e in
      subst (Settled places) (sym g.1) (settle_process places g.0 alive distinct (ap (sort_of (signature_of p)) (sym g.1) ∙ e))
  settle places c alive distinct place any Sort.Int e = absurd (no_integer c any e)

  -- ---- all picks
  pub record Walked (places : List ℕ) (c d : Choice) : Type 0 where
    pub term : d.term ≡ c.term
    pub lits : choice_lits (signature_of p) t.updates params d ≡ choice_lits (signature_of p) t.updates params c
    pub agrees : PickAgrees s places t.updates params pick d

  pub record Walk (choices : List Choice) (places : List ℕ) : Type 0 where
    pub more : List ℕ
    pub its : Picking
    pub inside : Has (pickings (signature_of p) t.updates params (length places) choices) its
    pub size : length (places ++ more) ≡ its.width
    pub alive : (i : ℕ) → Has (places ++ more) i → IsAlive s i
    pub distinct : Distinct (places ++ more)
    pub each : AllZip (Walked (places ++ more)) choices its.choices

  same_lits : (c : Choice) (v : Value) → choice_lits (signature_of p) t.updates params (with_pick c v) ≡ choice_lits (signature_of p) t.updates params c
  same_lits c v = by (update_of t.updates (target_of c.term))
    where
      by : (o : Option Update) → lits_by (signature_of p) o params (with_pick c v) ≡ lits_by (signature_of p) o params c
      by None = refl
      by (Some u) = refl

  pub walk : (choices : List Choice) (places : List ℕ) → ((i : ℕ) → Has places i → IsAlive s i) → Distinct places → width ≤ length places → ((c : Choice) → Has choices c → TermFits (signature_of p) width c.term) → Walk choices places
  walk [] places alive distinct wide fits = record {
    more = [];
    its = picking [] (length places);
    inside = inl refl;
    size = same_length places;
    alive = λ i h. alive i (subst (λ xs. Has xs i) (append-nil places) h);
    distinct = subst Distinct (sym (append-nil places)) distinct;
    each = tt;
  }
  walk (c ∷ cs) places alive distinct wide fits = by (is_any (chosen_value t.updates params c)) refl (λ qs. walk cs qs)
    where
      term : TermFits (signature_of p) width c.term
      term = fits c (inl refl)

      place : IsTrue (place_fits (length places) c.term)
      place = place_fits_wider width (length places) c.term wide term.place

      by : (b : Bool) → is_any (chosen_value t.updates params c) ≡ b
          → ((qs : List ℕ) → ((i : ℕ) → Has qs i → IsAlive s i) → Distinct qs → width ≤ length qs → ((d : Choice) → Has cs d → TermFits (signature_of p) width d.term) → Walk cs qs) → Walk (c ∷ cs) places
      by false any rest_of =
          let rest = rest_of places alive distinct wide (λ d h. fits d (inr h)) in
          record {
            more = rest.more;
            its = picking (c ∷ rest.its.choices) rest.its.width;
            inside = pickings_has (signature_of p) t.updates params (length places) c cs c (length places) rest.its (fixed_picks_has (signature_of p) t.updates params (length places) c any) rest.inside;
            size = rest.size;
            alive = rest.alive;
            distinct = rest.distinct;
            each = (record { term = refl; lits = refl; agrees = λ h. absurd (let clash : true ≡ false = sym h ∙ any in cc) }, rest.each);
          }
      by true any rest_of =
          let set = settle places c alive distinct place any term.sort term.is_sort in
          let longer : length places ≤ length (places ++ set.more) = (let l = length-append places set.more in omega arith) in
          let rest = rest_of (places ++ set.more) set.alive set.distinct (omega arith) (λ d h. fits d (inr h)) in
          let regroup : (places ++ set.more) ++ rest.more ≡ places ++ (set.more ++ rest.more) = append_assoc places set.more rest.more in
          record {
            more = set.more ++ rest.more;
            its = picking (with_pick c set.value ∷ rest.its.choices) rest.its.width;
            inside = pickings_has (signature_of p) t.updates params (length places) c cs (with_pick c set.value) (length (places ++ set.more)) rest.its
                (free_picks_has (signature_of p) t.updates params (length places) (length (places ++ set.more)) c set.value any set.may_take set.grown) rest.inside;
            size = ap length (sym regroup) ∙ rest.size;
            alive = λ i h. rest.alive i (subst (λ xs. Has xs i) (sym regroup) h);
            distinct = subst Distinct regroup rest.distinct;
            each = subst (λ xs. AllZip (Walked xs) (c ∷ cs) (with_pick c set.value ∷ rest.its.choices)) regroup
                (record { term = refl; lits = same_lits c set.value; agrees = agrees set.value set.more rest.more set.means }, rest.each);
          }
        where
          agrees : (v : Value) (more further : List ℕ) → ((further : List ℕ) (before : Val) → meaning_of s ((places ++ more) ++ further) v before ≡ taken_at places c.term)
              → PickAgrees s ((places ++ more) ++ further) t.updates params pick (with_pick c v)
          agrees v more further means h =
              let final : List ℕ = (places ++ more) ++ further in
              let slot : slot_of final c.term ≡ slot_of places c.term = ap (λ xs. slot_of xs c.term) (append_assoc places more further) ∙ slot_front places (more ++ further) c.term place in
              let takes : unwrap_or (pick (slot_of final c.term)) (term_value s final c.term) ≡ taken_at places c.term = ap (λ o. unwrap_or (pick o) (value_at s o)) slot in
              takes ∙ sym (means further (term_value s final c.term))
              ∙ ap (λ w. meaning_of s final w (term_value s final c.term)) (sym (taken_pick t.updates params (with_pick c v) v h refl))
