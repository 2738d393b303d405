-- A loop over the groups of words: what the group at hand says of all.
use Rattle.std.proofs.Common.{◌≡◌, ℕ, ◌<◌, Bool, true, false, List, [], ◌∷◌, ◌++◌, length, take, drop, map, Option, Some, None, refl, ap, sym, ◌∙◌, subst}
use Rattle.std.specs.List.{list_all}
use Rattle.std.proofs.lemmas.List.{take-map, drop-map, length-map}
use Rattle.std.proofs.lemmas.Bool.{lt-leb}
use Rattle.cub_proto.specs.declared.literal.Lit.{Lit}
use Rattle.cub_proto.specs.declared.protocol.Protocol.{Protocol}
use Rattle.cube_text.specs.Form.{is_literal}
use Rattle.cube_text.specs.Groups.{groups_from}
use Rattle.cube_text.specs.Meaning.{literal_in, literals_from}

module _ {X : Type 0} (f : X → List ℕ) (xs : List X) (a n : ℕ) where
  pub mapped_slice : map f (take n (drop a xs)) ≡ take n (drop a (map f xs))
  mapped_slice = sym (ap (take n) (drop-map f a xs) ∙ take-map f n (drop a xs))

  -- no group is left behind the last word
  pub no_group : length xs < a → groups_from (map f xs) a ≡ []
  no_group past = rw (lt-leb a (length (map f xs)) (subst (λ k. k < a) (sym (length-map xs f)) past)) refl

module _ (group : List (List ℕ)) (groups rest : List (List (List ℕ))) (is : groups ≡ group ∷ rest) where
  pub false_group : (all : Bool) → list_all is_literal groups ≡ all → is_literal group ≡ false → false ≡ all
  false_group all inv lacks =
      let here : list_all is_literal (group ∷ rest) ≡ false = rw lacks refl in
      sym here ∙ ap (list_all is_literal) (sym is) ∙ inv

  pub true_group : (all : Bool) → list_all is_literal groups ≡ all → is_literal group ≡ true → list_all is_literal rest ≡ all
  true_group all inv has =
      let here : list_all is_literal (group ∷ rest) ≡ list_all is_literal rest = rw has refl in
      sym here ∙ ap (list_all is_literal) (sym is) ∙ inv

  module _ (p : Protocol) (width : ℕ) (lits : List Lit) (all : Option (List Lit)) (inv : literals_from p width lits groups ≡ all) where
    pub none_group : literal_in p width group ≡ None → None ≡ all
    none_group lacks =
        let here : literals_from p width lits (group ∷ rest) ≡ None = rw lacks refl in
        sym here ∙ ap (literals_from p width lits) (sym is) ∙ inv

    pub some_group : (l : Lit) → literal_in p width group ≡ Some l → literals_from p width (lits ++ l ∷ []) rest ≡ all
    some_group l has =
        let here : literals_from p width lits (group ∷ rest) ≡ literals_from p width (lits ++ l ∷ []) rest = rw has refl in
        sym here ∙ ap (literals_from p width lits) (sym is) ∙ inv
