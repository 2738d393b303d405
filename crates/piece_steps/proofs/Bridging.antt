-- Nested maps over lists, and the stages of steps.
use Rattle.std.proofs.Common.{◌≡◌, List, [], ◌∷◌, ◌++◌, refl, ap, ◌∙◌, inl, inr}
use Rattle.std.specs.Prelude.{map}
use Rattle.std.specs.List.{flat_map}
use Rattle.std.proofs.lemmas.List.{append-nil}
use Rattle.std.proofs.lemmas.List.Concat.{flat_map-append}
use Rattle.cub_base.proofs.Members.{Has}

pub flat_map_same : {A B : Type 0} (f g : A → List B) (xs : List A) → ((x : A) → Has xs x → f x ≡ g x) → flat_map f xs ≡ flat_map g xs
flat_map_same f g [] same = refl
flat_map_same f g (x ∷ xs) same = ap (λ ys. ys ++ flat_map f xs) (same x (inl refl)) ∙ ap (λ ys. g x ++ ys) (flat_map_same f g xs (λ y h. same y (inr h)))

pub flat_map-map : {A B C : Type 0} (f : B → List C) (g : A → B) (xs : List A) → flat_map f (map g xs) ≡ flat_map (λ x. f (g x)) xs
flat_map-map f g [] = refl
flat_map-map f g (x ∷ xs) = ap (λ ys. f (g x) ++ ys) (flat_map-map f g xs)

pub flat_map-flat_map : {A B C : Type 0} (f : B → List C) (g : A → List B) (xs : List A) → flat_map f (flat_map g xs) ≡ flat_map (λ x. flat_map f (g x)) xs
flat_map-flat_map f g [] = refl
flat_map-flat_map f g (x ∷ xs) = flat_map-append f (g x) (flat_map g xs) ∙ ap (λ ys. flat_map f (g x) ++ ys) (flat_map-flat_map f g xs)

pub map-flat_map : {A B C : Type 0} (f : B → C) (g : A → List B) (xs : List A) → map f (flat_map g xs) ≡ flat_map (λ x. map f (g x)) xs
map-flat_map f g [] = refl
map-flat_map {A} {B} {C} f g (x ∷ xs) = map_append (g x) (flat_map g xs) ∙ ap (λ ys. map f (g x) ++ ys) (map-flat_map f g xs)
  where
    map_append : (us vs : List B) → map f (us ++ vs) ≡ map f us ++ map f vs
    map_append [] vs = refl
    map_append (u ∷ us) vs = ap (λ ws. f u ∷ ws) (map_append us vs)

pub flat_map_one : {A B : Type 0} (f : A → List B) (x : A) → flat_map f (x ∷ []) ≡ f x
flat_map_one f x = append-nil (f x)

pub map_as_flat_map : {A B : Type 0} (f : A → B) (xs : List A) → map f xs ≡ flat_map (λ x. f x ∷ []) xs
map_as_flat_map f [] = refl
map_as_flat_map f (x ∷ xs) = ap (λ ys. f x ∷ ys) (map_as_flat_map f xs)
