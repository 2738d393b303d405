-- The members of a list of pickings: each choice has a pick exactly where its value is `?`, and new places rise.
use Rattle.std.proofs.Common.{◌≡◌, ◌⊎◌, ℕ, ◌+◌, ◌<◌, ◌≤◌, Bool, true, false, List, [], ◌∷◌, ◌++◌, Option, Some, None, refl, sym, ap, ◌∙◌, subst, arith, inl, inr}
use Rattle.std.specs.Prelude.{map, if◌then◌else◌}
use Rattle.std.specs.List.{range_with_len, AllZip}
use Rattle.cub_proto.specs.declared.literal.Sort.{Sort}
use Rattle.cub_proto.specs.declared.literal.Term.{Term}
use Rattle.cub_proto.specs.declared.literal.PSide.{PSide}
use Rattle.cub_proto.specs.declared.literal.Value.{Value}
use Rattle.cub_proto.specs.declared.transition.Update.{Update}
use Rattle.cub_proto.specs.Signature.{Signature, sort_of, constructors_of}
use Rattle.cub_proto.specs.Fits.{is_any}
use Rattle.cub_base.proofs.Members.{Has, has_cases, has_left, has_right, has_map, map_has, has_flat_map, flat_map_has}
use Rattle.updates.specs.declared.choice.Choice.{Choice}
use Rattle.updates.specs.Chosen.{chosen_value, with_pick}
use Rattle.updates.proofs.Products.{has_below, below_has}
use Rattle.piece_choices.specs.Picks.{Picking, picking, Pick, pick, values_for, picks_of, pickings}

-- a value that a term may take, where the cube has places below the width
pub data MayTake (sig : Signature) (width : ℕ) (t : Term) : Value → Type 0 where
  constructor : (k c : ℕ) → sort_of sig t ≡ Some (Sort.Fin k) → c < constructors_of sig (Sort.Fin k) → MayTake sig width t (Value.Con c)
  old : (g : ℕ) → sort_of sig t ≡ Some Sort.Proc → t ≡ Term.Global g → MayTake sig width t (Value.Proc (PSide.Global g))
  process : (g q : ℕ) → sort_of sig t ≡ Some Sort.Proc → t ≡ Term.Global g → q < width → MayTake sig width t (Value.Proc (PSide.Place q))

pub may_take_wider : (sig : Signature) (width wide : ℕ) (t : Term) (v : Value) → width ≤ wide → MayTake sig width t v → MayTake sig wide t v
may_take_wider sig width wide t _ h (constructor k c e below) = constructor k c e below
may_take_wider sig width wide t _ h (old g e is) = old g e is
may_take_wider sig width wide t _ h (process g q e is below) = process g q e is (omega arith)

values_may : (sig : Signature) (width : ℕ) (t : Term) (o : Option Sort) (x : Pick) → sort_of sig t ≡ o → Has (values_for sig width t o) x → (width ≤ x.width) × MayTake sig x.width t x.value
values_may sig width t (Some (Sort.Fin k)) x e h =
    let found = map_has (λ c. pick width (Value.Con c)) (range_with_len 0 (constructors_of sig (Sort.Fin k))) x h in
    subst (λ y. (width ≤ y.width) × MayTake sig y.width t y.value) found.2
    (omega arith, constructor k found.0 e (below_has (constructors_of sig (Sort.Fin k)) found.0 found.1))
values_may sig width (Term.Global g) (Some Sort.Proc) x e (inl same) =
    subst (λ y. (width ≤ y.width) × MayTake sig y.width (Term.Global g) y.value) same (omega arith, old g e refl)
values_may sig width (Term.Global g) (Some Sort.Proc) x e (inr later) = by (has_cases (map (λ q. pick width (Value.Proc (PSide.Place q))) (range_with_len 0 width)) (pick (width + 1) (Value.Proc (PSide.Place width)) ∷ []) x later)
  where
    by : Has (map (λ q. pick width (Value.Proc (PSide.Place q))) (range_with_len 0 width)) x ⊎ Has (pick (width + 1) (Value.Proc (PSide.Place width)) ∷ []) x → (width ≤ x.width) × MayTake sig x.width (Term.Global g) x.value
    by (inl at) =
        let found = map_has (λ q. pick width (Value.Proc (PSide.Place q))) (range_with_len 0 width) x at in
        subst (λ y. (width ≤ y.width) × MayTake sig y.width (Term.Global g) y.value) found.2 (omega arith, process g found.0 e refl (below_has width found.0 found.1))
    by (inr (inl same)) = subst (λ y. (width ≤ y.width) × MayTake sig y.width (Term.Global g) y.value) same (omega arith, process g width e refl (omega arith))
    by (inr (inr none)) = absurd none
values_may sig width (Term.Cell a p) (Some Sort.Proc) x e none = absurd none
values_may sig width t (Some Sort.Int) x e none = absurd none
values_may sig width t None x e none = absurd none

-- a choice and the same choice with its pick
pub data IsPicked (sig : Signature) (updates : List Update) (params : List ℕ) (width : ℕ) (c : Choice) : Choice → Type 0 where
  free : (v : Value) → is_any (chosen_value updates params c) ≡ true → MayTake sig width c.term v → IsPicked sig updates params width c (with_pick c v)
  fixed : is_any (chosen_value updates params c) ≡ false → IsPicked sig updates params width c c

picked_wider : (sig : Signature) (updates : List Update) (params : List ℕ) (width wide : ℕ) (c d : Choice) → width ≤ wide → IsPicked sig updates params width c d → IsPicked sig updates params wide c d
picked_wider sig updates params width wide c _ h (free v e may) = free v e (may_take_wider sig width wide c.term v h may)
picked_wider sig updates params width wide c _ h (fixed e) = fixed e

pub record IsOfPicks (sig : Signature) (updates : List Update) (params : List ℕ) (width : ℕ) (c : Choice) (x : Picking) : Type 0 where
  pub its : Choice
  pub alone : x.choices ≡ its ∷ []
  pub wide : width ≤ x.width
  pub picked : IsPicked sig updates params x.width c its

picks_are : (sig : Signature) (updates : List Update) (params : List ℕ) (width : ℕ) (c : Choice) (x : Picking) → Has (picks_of sig updates params width c) x → IsOfPicks sig updates params width c x
picks_are sig updates params width c x h = by (is_any (chosen_value updates params c)) refl h
  where
    by : (b : Bool) → is_any (chosen_value updates params c) ≡ b
        → Has (if b then map (λ v. picking (with_pick c v.value ∷ []) v.width) (values_for sig width c.term (sort_of sig c.term)) else picking (c ∷ []) width ∷ []) x → IsOfPicks sig updates params width c x
    by true e at =
        let found = map_has (λ v. picking (with_pick c v.value ∷ []) v.width) (values_for sig width c.term (sort_of sig c.term)) x at in
        let may = values_may sig width c.term (sort_of sig c.term) found.0 refl found.1 in
        subst (IsOfPicks sig updates params width c) found.2 (record { its = with_pick c found.0.value; alone = refl; wide = may.0; picked = free found.0.value e may.1 })
    by false e (inl same) = subst (IsOfPicks sig updates params width c) same (record { its = c; alone = refl; wide = omega arith; picked = fixed e })
    by false e (inr none) = absurd none

pub record ArePicked (sig : Signature) (updates : List Update) (params : List ℕ) (width : ℕ) (choices : List Choice) (x : Picking) : Type 0 where
  pub wide : width ≤ x.width
  pub each : AllZip (IsPicked sig updates params x.width) choices x.choices

pub pickings_are : (sig : Signature) (updates : List Update) (params : List ℕ) (width : ℕ) (choices : List Choice) (x : Picking) → Has (pickings sig updates params width choices) x → ArePicked sig updates params width choices x
pickings_are sig updates params width [] x (inl same) = subst (ArePicked sig updates params width []) same (record { wide = omega arith; each = tt })
pickings_are sig updates params width [] x (inr none) = absurd none
pickings_are sig updates params width (c ∷ cs) x h =
    let found = flat_map_has (λ first. map (λ rest. picking (first.choices ++ rest.choices) rest.width) (pickings sig updates params first.width cs)) (picks_of sig updates params width c) x h in
    let rest = map_has (λ rest. picking (found.0.choices ++ rest.choices) rest.width) (pickings sig updates params found.0.width cs) x found.2 in
    let one = picks_are sig updates params width c found.0 found.1 in
    let others = pickings_are sig updates params found.0.width cs rest.0 rest.1 in
    let first_wide = one.wide in
    let rest_wide = others.wide in
    subst (ArePicked sig updates params width (c ∷ cs)) rest.2
    (record {
      wide = omega arith;
      each = subst (λ xs. AllZip (IsPicked sig updates params rest.0.width) (c ∷ cs) (xs ++ rest.0.choices)) (sym one.alone)
          (picked_wider sig updates params found.0.width rest.0.width c one.its rest_wide one.picked, others.each);
    })

-- ---- and back
pub values_has : (sig : Signature) (width wide : ℕ) (t : Term) (v : Value) (o : Option Sort) → sort_of sig t ≡ o → MayTake sig wide t v → (wide ≡ width) ⊎ ((wide ≡ width + 1) × (v ≡ Value.Proc (PSide.Place width))) → Has (values_for sig width t o) (pick wide v)
values_has sig width wide t _ o e (constructor k c is below) (inl same) =
    subst (λ x. Has (values_for sig width t x) (pick wide (Value.Con c))) (sym is ∙ e)
    (subst (λ n. Has (map (λ i. pick width (Value.Con i)) (range_with_len 0 (constructors_of sig (Sort.Fin k)))) (pick n (Value.Con c))) (sym same)
    (has_map (λ i. pick width (Value.Con i)) (range_with_len 0 (constructors_of sig (Sort.Fin k))) c (has_below (constructors_of sig (Sort.Fin k)) c below)))
values_has sig width wide t _ o e (constructor k c is below) (inr new) = absurd (let x = new.1 in cc)
values_has sig width wide t _ o e (old g is at) (inl same) =
    subst (λ x. Has (values_for sig width t x) (pick wide (Value.Proc (PSide.Global g)))) (sym is ∙ e)
    (subst (λ u. Has (values_for sig width u (Some Sort.Proc)) (pick wide (Value.Proc (PSide.Global g)))) (sym at)
    (inl (ap (λ n. pick n (Value.Proc (PSide.Global g))) (sym same))))
values_has sig width wide t _ o e (old g is at) (inr new) = absurd (let x = new.1 in cc)
values_has sig width wide t _ o e (process g q is at below) (inl same) =
    subst (λ x. Has (values_for sig width t x) (pick wide (Value.Proc (PSide.Place q)))) (sym is ∙ e)
    (subst (λ u. Has (values_for sig width u (Some Sort.Proc)) (pick wide (Value.Proc (PSide.Place q)))) (sym at)
    (inr (has_left (map (λ i. pick width (Value.Proc (PSide.Place i))) (range_with_len 0 width)) (pick (width + 1) (Value.Proc (PSide.Place width)) ∷ []) (pick wide (Value.Proc (PSide.Place q)))
    (subst (λ n. Has (map (λ i. pick width (Value.Proc (PSide.Place i))) (range_with_len 0 width)) (pick n (Value.Proc (PSide.Place q)))) (sym same)
    (has_map (λ i. pick width (Value.Proc (PSide.Place i))) (range_with_len 0 width) q (has_below width q (omega arith)))))))
values_has sig width wide t _ o e (process g q is at below) (inr new) =
    subst (λ x. Has (values_for sig width t x) (pick wide (Value.Proc (PSide.Place q)))) (sym is ∙ e)
    (subst (λ u. Has (values_for sig width u (Some Sort.Proc)) (pick wide (Value.Proc (PSide.Place q)))) (sym at)
    (inr (has_right (map (λ i. pick width (Value.Proc (PSide.Place i))) (range_with_len 0 width)) (pick (width + 1) (Value.Proc (PSide.Place width)) ∷ []) (pick wide (Value.Proc (PSide.Place q)))
    (inl (ap (λ v. pick (width + 1) v) (sym new.1) ∙ ap (λ n. pick n (Value.Proc (PSide.Place q))) (sym new.0))))))

pub free_picks_has : (sig : Signature) (updates : List Update) (params : List ℕ) (width wide : ℕ) (c : Choice) (v : Value) → is_any (chosen_value updates params c) ≡ true → MayTake sig wide c.term v
    → (wide ≡ width) ⊎ ((wide ≡ width + 1) × (v ≡ Value.Proc (PSide.Place width))) → Has (picks_of sig updates params width c) (picking (with_pick c v ∷ []) wide)
free_picks_has sig updates params width wide c v e may grown =
    subst (λ b. Has (if b then map (λ x. picking (with_pick c x.value ∷ []) x.width) (values_for sig width c.term (sort_of sig c.term)) else picking (c ∷ []) width ∷ []) (picking (with_pick c v ∷ []) wide)) (sym e)
    (has_map (λ x. picking (with_pick c x.value ∷ []) x.width) (values_for sig width c.term (sort_of sig c.term)) (pick wide v) (values_has sig width wide c.term v (sort_of sig c.term) refl may grown))

pub fixed_picks_has : (sig : Signature) (updates : List Update) (params : List ℕ) (width : ℕ) (c : Choice) → is_any (chosen_value updates params c) ≡ false → Has (picks_of sig updates params width c) (picking (c ∷ []) width)
fixed_picks_has sig updates params width c e =
    subst (λ b. Has (if b then map (λ x. picking (with_pick c x.value ∷ []) x.width) (values_for sig width c.term (sort_of sig c.term)) else picking (c ∷ []) width ∷ []) (picking (c ∷ []) width)) (sym e) (inl refl)

pub pickings_has : (sig : Signature) (updates : List Update) (params : List ℕ) (width : ℕ) (c : Choice) (cs : List Choice) (d : Choice) (wide : ℕ) (rest : Picking) → Has (picks_of sig updates params width c) (picking (d ∷ []) wide)
    → Has (pickings sig updates params wide cs) rest → Has (pickings sig updates params width (c ∷ cs)) (picking (d ∷ rest.choices) rest.width)
pickings_has sig updates params width c cs d wide rest h k =
    has_flat_map (λ first. map (λ x. picking (first.choices ++ x.choices) x.width) (pickings sig updates params first.width cs)) (picks_of sig updates params width c) (picking (d ∷ []) wide) (picking (d ∷ rest.choices) rest.width) h
    (has_map (λ x. picking (d ∷ x.choices) x.width) (pickings sig updates params wide cs) rest k)
