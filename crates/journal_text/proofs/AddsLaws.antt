-- Fronts of lists that an event may add.
use Rattle.std.proofs.Common.{◌≡◌, ℕ, ◌<◌, ◌≤◌, true, nat_lt, List, [], ◌∷◌, ◌++◌, length, refl, ap, arith, inl, inr, length-append}
use Rattle.std.specs.Prelude.{All}
use Rattle.std.specs.List.{list_all}
use Rattle.std.proofs.lemmas.Bool.{and_from, lt-ltb}
use Rattle.std.proofs.lemmas.List.Elements.{All-head, All-tail}
use Rattle.cub_proto.specs.declared.protocol.Protocol.{Protocol}
use Rattle.cub_cube.specs.declared.cube.Cube.{Cube}
use Rattle.log_form.specs.declared.event.Added.{Added}
use Rattle.log_form.specs.declared.numbered.Numbered.{Numbered}
use Rattle.log_form.specs.Forms.{IsForm}
use Rattle.log_form.specs.Legal.{Adds}
use Rattle.log_steps.specs.Admitted.{AddsSome}

-- a front of a front
pub some_front : (p : Protocol) (cubes : List Cube) (list : List Numbered) (xs ys : List Added) → AddsSome p cubes list (xs ++ ys) → AddsSome p cubes list xs
some_front p cubes list [] ys h = tt
some_front p cubes [] (a ∷ xs) ys h = h
some_front p cubes (x ∷ list) (a ∷ xs) ys (inl (covered, h)) = inl (covered, some_front p cubes list (a ∷ xs) ys h)
some_front p cubes (x ∷ list) (a ∷ xs) ys (inr (added, inl (starts, last))) = inr (added, inl (starts, front_nil xs ys last))
  where
    front_nil : (xs ys : List Added) → xs ++ ys ≡ [] → xs ≡ []
    front_nil [] ys h = refl
    front_nil (x ∷ xs) ys h = let none : length (x ∷ (xs ++ ys)) ≡ 0 = ap length h in absurd (omega (arith, none))
some_front p cubes (x ∷ list) (a ∷ xs) ys (inr (added, inr (good, h))) = inr (added, inr (good, some_front p (cubes ++ a.cube ∷ []) list xs ys h))

-- a whole list
pub some_whole : (p : Protocol) (cubes : List Cube) (list : List Numbered) (xs : List Added) → Adds p cubes list xs → AddsSome p cubes list xs
some_whole p cubes list [] h = tt
some_whole p cubes [] (a ∷ xs) h = let none : length (a ∷ xs) ≡ 0 = ap length h in absurd (omega (arith, none))
some_whole p cubes (x ∷ list) (a ∷ xs) (inl (covered, h)) = inl (covered, some_whole p cubes list (a ∷ xs) h)
some_whole p cubes (x ∷ list) (a ∷ xs) (inr (added, inl (starts, last))) = inr (added, inl (starts, last))
some_whole p cubes (x ∷ list) (a ∷ xs) (inr (added, inr (good, h))) = inr (added, inr (good, some_whole p (cubes ++ a.cube ∷ []) list xs h))

-- the last of a front is a form of some piece
pub last_form : (p : Protocol) (cubes : List Cube) (list : List Numbered) (xs : List Added) (a : Added) → AddsSome p cubes list (xs ++ a ∷ []) → (piece : Cube) × IsForm p piece a.places a.cube
last_form p cubes [] [] a h = absurd h
last_form p cubes (x ∷ list) [] a (inl (covered, h)) = last_form p cubes list [] a h
last_form p cubes (x ∷ list) [] a (inr (added, h)) = (x.cube, added.form)
last_form p cubes [] (b ∷ xs) a h = absurd h
last_form p cubes (x ∷ list) (b ∷ xs) a (inl (covered, h)) = last_form p cubes list (b ∷ xs) a h
last_form p cubes (x ∷ list) (b ∷ xs) a (inr (added, inl (starts, last))) =
    let some : length (xs ++ a ∷ []) ≡ 0 = ap length last in
    absurd (omega (arith, some, length-append xs (a ∷ [])))
last_form p cubes (x ∷ list) (b ∷ xs) a (inr (added, inr (good, h))) = last_form p (cubes ++ b.cube ∷ []) list xs a h

-- places below a width of at most 11
pub places_small : (width : ℕ) (is : List ℕ) → width ≤ 11 → All (λ i. i < width) is → list_all (λ i. nat_lt i 11) is ≡ true
places_small width [] few h = refl
places_small width (i ∷ is) few h =
    let inside = All-head (λ i. i < width) i is h in
    and_from (nat_lt i 11) (list_all (λ j. nat_lt j 11) is) (lt-ltb i 11 (omega arith)) (places_small width is few (All-tail (λ i. i < width) i is h))
