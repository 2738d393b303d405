-- Lists of faults that are empty.
use Rattle.std.proofs.Common.{◌≡◌, ℕ, ◌≤◌, List, [], ◌∷◌, ◌++◌, length, map, drop, refl, sym, ◌∙◌, ap, arith, length-drop}
use Rattle.std.proofs.lemmas.List.{length-map}
use Rattle.cub_parse.specs.declared.tree.DeclNode.{DeclNode}
use Rattle.cub_names.specs.Declarations.{declared_faults, words_of, types_of}
use Rattle.cub_names.specs.Words.{word_of}

pub nil_left : {X : Type 0} (xs ys : List X) → xs ++ ys ≡ [] → xs ≡ []
nil_left [] ys h = refl
nil_left (x ∷ xs) ys h = cc

pub nil_right : {X : Type 0} (xs ys : List X) → xs ++ ys ≡ [] → ys ≡ []
nil_right [] ys h = h
nil_right (x ∷ xs) ys h = cc

pub nil_map : {X Y : Type 0} (f : X → Y) (xs : List X) → map f xs ≡ [] → xs ≡ []
nil_map f [] h = refl
nil_map f (x ∷ xs) h = cc

pub nil_drop : {X : Type 0} (n : ℕ) (xs : List X) → drop n xs ≡ [] → length xs ≤ n
nil_drop n xs h = let e : length (drop n xs) ≡ 0 = ap length h in let l = length-drop n xs in omega (arith, e, l)

-- without a fault there are at most 256 types
pub few_types : (text : List ℕ) (decls : List DeclNode) → declared_faults text decls ≡ [] → length (words_of text (types_of decls)) ≤ 256
few_types text decls h =
    let types = nil_left _ _ (nil_left _ _ (nil_left _ _ h)) in
    let few = nil_drop 256 (types_of decls) (nil_map _ (drop 256 (types_of decls)) (nil_right _ _ (nil_left _ _ (nil_left _ _ types)))) in
    let same = length-map (types_of decls) (word_of text) in
    omega (arith, few, same)
