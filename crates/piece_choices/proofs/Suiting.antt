-- What is known of each choice of a selection, and how its terms lie.
use Rattle.std.proofs.Common.{◌≡◌, ℕ, suc, zero, ◌≤◌, Bool, true, false, List, [], ◌∷◌, Option, Some, None, refl, sym, ap, ◌∙◌, subst, arith, inl, inr}
use Rattle.std.specs.Prelude.{All, not, slice_get, map, ◌&&◌, ◌||◌, if◌then◌else◌, IsTrue, unwrap_or}
use Rattle.std.specs.List.{list_all, AllZip}
use Rattle.std.specs.Option.{option_map_or}
use Rattle.std.specs.Ordering.{is_eq, is_lt}
use Rattle.std.proofs.lemmas.Cmp.{tied_itself}
use Rattle.cub_proto.specs.declared.literal.Sort.{Sort}
use Rattle.cub_proto.specs.declared.literal.Term.{Term}
use Rattle.cub_proto.specs.declared.literal.PSide.{PSide}
use Rattle.cub_proto.specs.declared.literal.Lit.{Lit}
use Rattle.cub_proto.specs.declared.literal.Value.{Value}
use Rattle.cub_proto.specs.declared.transition.Update.{Update}
use Rattle.cub_proto.specs.declared.transition.Transition.{Transition}
use Rattle.cub_proto.specs.Signature.{Signature, sort_of, declared_sort, constructors_of, is_sort, same_sort}
use Rattle.cub_proto.specs.Order.{term_cmp}
use Rattle.cub_base.specs.Name.{is_declarable}
use Rattle.cub_proto.specs.declared.protocol.Decl.{Decl}
use Rattle.cub_proto.proofs.StateValues.{declared_is}
use Rattle.cub_proto.specs.Fits.{array_fits, sort_is_there, is_any, place_fits, literal_fits}
use Rattle.cub_proto.specs.Effect.{update_of}
use Rattle.cub_cube.specs.Mentions.{terms_of, terms_in, terms_rise}
use Rattle.cub_cube.specs.Replace.{can_replace}
use Rattle.cub_cube.specs.Step.{target_of}
use Rattle.cub_base.proofs.Bools.{and_left, and_right, less_is, is_less}
use Rattle.cub_base.proofs.Members.{Has, map_has, Distinct, contains_Has, has_Contains}
use Rattle.cub_cube.proofs.Orders.{term_cmp_total}
use Rattle.cub_cube.proofs.Terms.{in_mentioned, mentioned_in}
use Rattle.updates.specs.declared.choice.Choice.{Choice}
use Rattle.updates.specs.Ways.{ways}
use Rattle.updates.specs.Chosen.{choice, ways_of, with_pick, value_by, chosen_value, taken, taken_value, same_term}
use Rattle.updates.specs.Through.{has_choice}
use Rattle.updates.proofs.WayLemmas.{way_in}
use Rattle.updates.proofs.ChoiceLemmas.{TakesWay}
use Rattle.updates.proofs.Present.{TermFits, term_of}
use Rattle.updates.proofs.StepLemmas.{all_member, ChoiceParts}
use Rattle.cub_proto.specs.declared.protocol.Protocol.{Protocol}
use Rattle.cub_proto.specs.StateOf.{signature_of}
use Rattle.piece_choices.specs.Selections.{Selection}
use Rattle.piece_choices.proofs.ListLemmas.{zip_right}
use Rattle.piece_choices.proofs.PickLemmas.{MayTake, constructor, old, process, IsPicked, free, fixed, ArePicked, pickings_are}
use Rattle.piece_choices.proofs.SelectionLemmas.{IsSelection}

-- a choice of a way for a term
pub record IsWayOf (o : Option Update) (t : Term) (c : Choice) : Type 0 where
  pub term : c.term ≡ t
  pub plain : c.pick ≡ None
  pub way : TakesWay o c

pub ways_are : (o : Option Update) (t : Term) (c : Choice) → Has (ways_of o t) c → IsWayOf o t c
ways_are None t c (inl same) = subst (IsWayOf None t) same (record { term = refl; plain = refl; way = tt })
ways_are None t c (inr none) = absurd none
ways_are (Some u) t c h =
    let found = map_has (choice t) (ways u.branches) c h in
    subst (IsWayOf (Some u) t) found.2 (record { term = refl; plain = refl; way = way_in u.branches found.0 found.1 })

-- a choice with its pick
pub record Suits (sig : Signature) (updates : List Update) (params : List ℕ) (wide : ℕ) (terms : List Term) (d : Choice) : Type 0 where
  pub mention : Has terms d.term
  pub way : TakesWay (update_of updates (target_of d.term)) d
  pub some : is_any (chosen_value updates params d) ≡ true → (v : Value) × (d.pick ≡ Some v) × MayTake sig wide d.term v
  pub none : is_any (chosen_value updates params d) ≡ false → d.pick ≡ None

-- a pick changes neither the way nor its value
pub same_value : (updates : List Update) (params : List ℕ) (c : Choice) (v : Value) → chosen_value updates params (with_pick c v) ≡ chosen_value updates params c
same_value updates params c v = by (update_of updates (target_of c.term))
  where
    by : (o : Option Update) → value_by o params (with_pick c v) ≡ value_by o params c
    by None = refl
    by (Some u) = refl

suits : (sig : Signature) (updates : List Update) (params : List ℕ) (wide : ℕ) (terms : List Term) (u : Term) (c d : Choice) → Has terms u → IsWayOf (update_of updates (target_of u)) u c → IsPicked sig updates params wide c d → Suits sig updates params wide terms d
suits sig updates params wide terms u c _ at is (free v e may) = record {
  mention = subst (Has terms) (sym is.term) at;
  way = with_value (update_of updates (target_of c.term)) (subst (λ t. TakesWay (update_of updates (target_of t)) c) (sym is.term) is.way);
  some = λ h. (v, refl, may);
  none = λ h. absurd (let other : is_any (chosen_value updates params c) ≡ false = ap is_any (sym (same_value updates params c v)) ∙ h in let clash : true ≡ false = sym e ∙ other in cc);
}
  where
    with_value : (o : Option Update) → TakesWay o c → TakesWay o (with_pick c v)
    with_value None h = tt
    with_value (Some w) h = h
suits sig updates params wide terms u c _ at is (fixed e) = record {
  mention = subst (Has terms) (sym is.term) at;
  way = subst (λ t. TakesWay (update_of updates (target_of t)) c) (sym is.term) is.way;
  some = λ h. absurd (let clash : true ≡ false = sym h ∙ e in cc);
  none = λ h. is.plain;
}

picked_term : (sig : Signature) (updates : List Update) (params : List ℕ) (wide : ℕ) (c d : Choice) → IsPicked sig updates params wide c d → d.term ≡ c.term
picked_term sig updates params wide c _ (free v e may) = refl
picked_term sig updates params wide c _ (fixed e) = refl

-- ---- terms
terms_distinct : (ts : List Term) → IsTrue (terms_rise ts) → Distinct ts
terms_distinct [] h = tt
terms_distinct (t ∷ ts) h = (
  λ at.
      let less = all_member (λ u. is_lt (term_cmp t u)) ts t (and_left (list_all (λ u. is_lt (term_cmp t u)) ts) (terms_rise ts) h) at in
      let tied : is_lt (term_cmp t t) ≡ false = ap is_lt (tied_itself term_cmp_total t) in cc,
  terms_distinct ts (and_right (list_all (λ u. is_lt (term_cmp t u)) ts) (terms_rise ts) h),
)

pub rising_distinct : (ts : List Term) → IsTrue (terms_rise ts) → Distinct ts
rising_distinct ts h = terms_distinct ts h

module _ (sig : Signature) (t : Transition) (width : ℕ) (terms : List Term) (x : Selection) (is : IsSelection sig t width terms x) where
  abbrev pub its_picks : ArePicked sig t.updates x.placing.params x.placing.width is.plain x.picking
  its_picks = pickings_are sig t.updates x.placing.params x.placing.width is.plain x.picking is.picked

  pub suits_all : (d : Choice) → Has x.picking.choices d → Suits sig t.updates x.placing.params x.picking.width terms d
  suits_all d h =
      let one = zip_right (IsPicked sig t.updates x.placing.params x.picking.width) is.plain x.picking.choices d its_picks.each h in
      let other = zip_right (λ u c. Has (ways_of (update_of t.updates (target_of u)) u) c) terms is.plain one.0 is.ways one.1 in
      suits sig t.updates x.placing.params x.picking.width terms other.0 one.0 d other.1 (ways_are (update_of t.updates (target_of other.0)) other.0 one.0 other.2) one.2

  same_terms : map (λ d. d.term) x.picking.choices ≡ terms
  same_terms = by terms is.plain x.picking.choices is.ways its_picks.each
    where
      by : (ts : List Term) (cs ds : List Choice) → AllZip (λ u c. Has (ways_of (update_of t.updates (target_of u)) u) c) ts cs → AllZip (IsPicked sig t.updates x.placing.params x.picking.width) cs ds → map (λ d. d.term) ds ≡ ts
      by [] [] [] h k = refl
      by [] [] (d ∷ ds) h k = absurd k
      by [] (c ∷ cs) ds h k = absurd h
      by (u ∷ us) [] ds h k = absurd h
      by (u ∷ us) (c ∷ cs) [] h k = absurd k
      by (u ∷ us) (c ∷ cs) (d ∷ ds) h k =
          ap (λ y. y ∷ map (λ e. e.term) ds) (picked_term sig t.updates x.placing.params x.picking.width c d k.0 ∙ (ways_are (update_of t.updates (target_of u)) u c h.0).term)
          ∙ ap (λ ys. u ∷ ys) (by us cs ds h.1 k.1)

  pub its_terms : map (λ d. d.term) x.picking.choices ≡ terms
  its_terms = same_terms

has_of : (choices : List Choice) (t : Term) → Has (map (λ d. d.term) choices) t → IsTrue (has_choice choices t)
has_of [] t none = absurd none
has_of (c ∷ cs) t (inl same) = ap (λ b. b || has_choice cs t) (ap (λ u. same_term u t) same ∙ ap is_eq (tied_itself term_cmp_total t))
has_of (c ∷ cs) t (inr later) = by (same_term c.term t) (has_of cs t later)
  where
    by : (b : Bool) → IsTrue (has_choice cs t) → IsTrue (b || has_choice cs t)
    by true h = refl
    by false h = h

pub has_its_choice : (choices : List Choice) (terms : List Term) (t : Term) → map (λ d. d.term) choices ≡ terms → Has terms t → IsTrue (has_choice choices t)
has_its_choice choices terms t same h = has_of choices t (subst (λ ts. Has ts t) (sym same) h)

-- a term of a literal of the cube is among its terms
pub lit_term : (lits : List Lit) (l : Lit) (t : Term) → Has lits l → Has (terms_of l) t → Has (terms_in lits) t
lit_term lits l t at mention = contains_Has (terms_in lits) t (mentioned_in lits t (l, has_Contains lits l at, has_Contains (terms_of l) t mention))

-- a term of the cube fits
pub cube_term : (sig : Signature) (width : ℕ) (lits : List Lit) (t : Term) → IsTrue (list_all (literal_fits sig width) lits) → Has (terms_in lits) t → TermFits sig width t
cube_term sig width lits t fits at =
    let found = in_mentioned lits t (has_Contains (terms_in lits) t at) in
    term_of sig width found.0 t (all_member (literal_fits sig width) lits found.0 fits (contains_Has lits found.0 found.1)) (contains_Has (terms_of found.0) t found.2)

place_wider : (width wide : ℕ) (t : Term) → width ≤ wide → IsTrue (place_fits width t) → IsTrue (place_fits wide t)
place_wider width wide (Term.Global g) h fits = refl
place_wider width wide (Term.Cell a q) h fits = let below = less_is q width fits in is_less q wide (omega arith)

pub place_fits_wider : (width wide : ℕ) (t : Term) → width ≤ wide → IsTrue (place_fits width t) → IsTrue (place_fits wide t)
place_fits_wider width wide t h fits = place_wider width wide t h fits

-- ---- a pick can stand for its term
may_can : (sig : Signature) (wide : ℕ) (t : Term) (v : Value) (sort : Sort) → sort_of sig t ≡ Some sort → MayTake sig wide t v → IsTrue (can_replace sig wide sort v)
may_can sig wide t _ sort e (constructor k c is below) =
    let same : Sort.Fin k ≡ sort = cc in subst (λ x. IsTrue (can_replace sig wide x (Value.Con c))) same (is_less c (constructors_of sig (Sort.Fin k)) below)
may_can sig wide t _ sort e (old g is at) =
    let same : Sort.Proc ≡ sort = cc in
    subst (λ x. IsTrue (can_replace sig wide x (Value.Proc (PSide.Global g)))) same
    (subst (λ o. IsTrue (is_sort o Sort.Proc)) (sym (ap (sort_of sig) (sym at) ∙ is)) refl)
may_can sig wide t _ sort e (process g q is at below) =
    let same : Sort.Proc ≡ sort = cc in subst (λ x. IsTrue (can_replace sig wide x (Value.Proc (PSide.Place q)))) same (is_less q wide below)

any_is : (v : Value) → is_any v ≡ true → v ≡ Value.Any
any_is (Value.Con c) h = cc
any_is (Value.Read t) h = cc
any_is (Value.Proc side) h = cc
any_is (Value.Sum base add) h = cc
any_is Value.Any h = refl

pub taken_pick : (updates : List Update) (params : List ℕ) (d : Choice) (v : Value) → is_any (chosen_value updates params d) ≡ true → d.pick ≡ Some v → taken_value updates params d ≡ v
taken_pick updates params d v e is = ap (taken d.pick) (any_is (chosen_value updates params d) e) ∙ ap (λ o. unwrap_or o Value.Any) is

pub suits_parts : (p : Protocol) (updates : List Update) (params : List ℕ) (width wide : ℕ) (lits : List Lit) (d : Choice) → width ≤ wide → IsTrue (list_all (literal_fits (signature_of p) width) lits)
    → Suits (signature_of p) updates params wide (terms_in lits) d → ChoiceParts p wide updates params d
suits_parts p updates params width wide lits d narrow fits suits =
    let term = cube_term (signature_of p) width lits d.term fits suits.mention in
    record {
      place = place_wider width wide d.term narrow term.place;
      way = suits.way;
      pick = by (is_any (chosen_value updates params d)) refl term.sort term.is_sort;
    }
  where
    by : (b : Bool) → is_any (chosen_value updates params d) ≡ b → (sort : Sort) → sort_of (signature_of p) d.term ≡ Some sort
        → IsTrue (if b then option_map_or (λ x. can_replace (signature_of p) wide x (taken_value updates params d)) (sort_of (signature_of p) d.term) false else true)
    by true e sort is =
        let pick = suits.some e in
        subst (λ o. IsTrue (option_map_or (λ x. can_replace (signature_of p) wide x (taken_value updates params d)) o false)) (sym is)
        (subst (λ v. IsTrue (can_replace (signature_of p) wide sort v)) (sym (taken_pick updates params d pick.0 e pick.1)) (may_can (signature_of p) wide d.term pick.0 sort is pick.2))
    by false e sort is = refl

-- ---- arrays hold no processes
no_process_array : (p : Protocol) (a : ℕ) → declared_sort p.arrays a ≡ Some Sort.Proc → ⊥
no_process_array p a e =
    let found = declared_is p.arrays a Sort.Proc e in
    let fits = at p.arrays a found.0 found.1 p.arrays_fit in
    let none = and_right (is_declarable found.0.name && sort_is_there p.sorts found.0.sort) (not (same_sort found.0.sort Sort.Proc)) fits in
    let here : not (same_sort found.0.sort Sort.Proc) ≡ false = ap (λ x. not (same_sort x Sort.Proc)) found.2 in cc
  where
    at : (decls : List Decl) (n : ℕ) (d : Decl) → slice_get decls n ≡ Some d → All (λ x. IsTrue (array_fits p.sorts x)) decls → IsTrue (array_fits p.sorts d)
    at [] n d e all = cc
    at (x ∷ xs) zero d e all = let same : x ≡ d = cc in subst (λ y. IsTrue (array_fits p.sorts y)) same (all 0 x (omega arith))
    at (x ∷ xs) (suc n) d e all = at xs n d e (λ k y below. all (suc k) y (omega arith))

pub process_term : (p : Protocol) (u : Term) → sort_of (signature_of p) u ≡ Some Sort.Proc → (g : ℕ) × (u ≡ Term.Global g)
process_term p (Term.Global g) e = (g, refl)
process_term p (Term.Cell a q) e = absurd (no_process_array p a e)
