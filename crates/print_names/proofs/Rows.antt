-- Trees of items in a row, each beside the item that it was printed from.
use Rattle.std.proofs.Common.{◌≡◌, ℕ, zero, suc, ◌≤◌, true, false, List, [], ◌∷◌, ◌++◌, length, map, drop, refl, ap, ◌∙◌, arith}
use Rattle.std.specs.Prelude.{flat_map, not, bytes_eq}
use Rattle.std.specs.List.{AllZip, list_all, list_any}
use Rattle.cub_base.proofs.Bools.{and_left, and_right}
use Rattle.cub_names.specs.Lists.{repeated}
use Rattle.cub_names.specs.Words.{word_of, may_declare}
use Rattle.cub_names.specs.Declarations.{forbidden}
use Rattle.cub_parse.specs.declared.tree.Leaf.{Leaf}
use Rattle.cub_print.specs.Mark.{Mark}
use Rattle.cub_proto.specs.Fits.{are_new}
use Rattle.print_laws.specs.Spot.{Spot, past, in_row}
use Rattle.print_words.proofs.Seams.{Every}
use Rattle.print_names.proofs.Fresh.{false_of}
use Rattle.print_names.proofs.Positions.{At, at_left, at_right}

pub row_zip : {A T : Type 0} (text : List ℕ) (P : A → Type 0) (R : T → A → Type 0) (marks : A → List Mark) (tree : A → Spot → T)
    → ((x : A) (s : Spot) → P x → At text s (marks x) → R (tree x s) x)
    → (xs : List A) → Every P xs → (s : Spot) → At text s (flat_map marks xs) → AllZip R (in_row marks tree xs s) xs
row_zip text P R marks tree each [] all s at = tt
row_zip text P R marks tree each (x ∷ xs) all s at =
    (each x s all.0 (at_left text s (marks x) (flat_map marks xs) at), row_zip text P R marks tree each xs all.1 (past s (marks x)) (at_right text s (marks x) (flat_map marks xs) at))

-- a map that is the other's
pub zip_map : {A T B : Type 0} (f : T → B) (g : A → B) (ts : List T) (xs : List A) → AllZip (λ t x. f t ≡ g x) ts xs → map f ts ≡ map g xs
zip_map f g [] [] z = refl
zip_map f g [] (x ∷ xs) z = absurd z
zip_map f g (t ∷ ts) [] z = absurd z
zip_map f g (t ∷ ts) (x ∷ xs) z = ap (λ y. y ∷ map f ts) z.0 ∙ ap (λ ys. g x ∷ ys) (zip_map f g ts xs z.1)

pub zip_flat : {A T B : Type 0} (f : T → List B) (g : A → List B) (ts : List T) (xs : List A) → AllZip (λ t x. f t ≡ g x) ts xs → flat_map f ts ≡ flat_map g xs
zip_flat f g [] [] z = refl
zip_flat f g [] (x ∷ xs) z = absurd z
zip_flat f g (t ∷ ts) [] z = absurd z
zip_flat f g (t ∷ ts) (x ∷ xs) z = ap (λ y. y ++ flat_map f ts) z.0 ∙ ap (λ ys. g x ++ ys) (zip_flat f g ts xs z.1)

pub zip_length : {A T : Type 0} (R : T → A → Type 0) (ts : List T) (xs : List A) → AllZip R ts xs → length ts ≡ length xs
zip_length R [] [] z = refl
zip_length R [] (x ∷ xs) z = absurd z
zip_length R (t ∷ ts) [] z = absurd z
zip_length R (t ∷ ts) (x ∷ xs) z = let more : length ts ≡ length xs = zip_length R ts xs z.1 in omega (arith, more)

pub zip_weaker : {A T : Type 0} (R S : T → A → Type 0) (ts : List T) (xs : List A) → ((t : T) (x : A) → R t x → S t x) → AllZip R ts xs → AllZip S ts xs
zip_weaker R S [] [] h z = tt
zip_weaker R S [] (x ∷ xs) h z = absurd z
zip_weaker R S (t ∷ ts) [] h z = absurd z
zip_weaker R S (t ∷ ts) (x ∷ xs) h z = (h t x z.0, zip_weaker R S ts xs h z.1)

-- what each tree of a row gives
pub row_none : {A T B : Type 0} (g : T → List B) (marks : A → List Mark) (tree : A → Spot → T) → ((x : A) (s : Spot) → g (tree x s) ≡ []) → (xs : List A) (s : Spot)
    → flat_map g (in_row marks tree xs s) ≡ []
row_none g marks tree h [] s = refl
row_none g marks tree h (x ∷ xs) s = rw (h x s, row_none g marks tree h xs (past s (marks x))) refl

pub row_one : {A T B : Type 0} (g : T → List B) (marks : A → List Mark) (tree : A → Spot → T) (other : A → Spot → B) → ((x : A) (s : Spot) → g (tree x s) ≡ other x s ∷ [])
    → (xs : List A) (s : Spot) → flat_map g (in_row marks tree xs s) ≡ in_row marks other xs s
row_one g marks tree other h [] s = refl
row_one g marks tree other h (x ∷ xs) s = rw (h x s, row_one g marks tree other h xs (past s (marks x))) refl

pub none_behind : {A : Type 0} (n : ℕ) (xs : List A) → length xs ≤ n → drop n xs ≡ []
none_behind zero [] h = refl
none_behind zero (x ∷ xs) h = absurd (omega arith)
none_behind (suc n) [] h = refl
none_behind (suc n) (x ∷ xs) h = none_behind n xs (omega arith)

-- leaves with these words
abbrev pub AreWords : List ℕ → List Leaf → List (List ℕ) → Type 0
AreWords text ls ns = AllZip (λ l n. word_of text l ≡ n) ls ns

pub words_on : (text : List ℕ) (as_ bs : List Leaf) (xs ys : List (List ℕ)) → AreWords text as_ xs → AreWords text bs ys → AreWords text (as_ ++ bs) (xs ++ ys)
words_on text [] bs [] ys a b = b
words_on text [] bs (x ∷ xs) ys a b = absurd a
words_on text (l ∷ ls) bs [] ys a b = absurd a
words_on text (l ∷ ls) bs (x ∷ xs) ys a b = (a.0, words_on text ls bs xs ys a.1 b)

pub none_forbidden : (text : List ℕ) (ls : List Leaf) (ns : List (List ℕ)) → AreWords text ls ns → list_all may_declare ns ≡ true → forbidden text ls ≡ []
none_forbidden text [] [] z h = refl
none_forbidden text [] (n ∷ ns) z h = absurd z
none_forbidden text (l ∷ ls) [] z h = absurd z
none_forbidden text (l ∷ ls) (n ∷ ns) z h =
    let here : may_declare (word_of text l) ≡ true = ap may_declare z.0 ∙ and_left (may_declare n) (list_all may_declare ns) h in
    rw here (none_forbidden text ls ns z.1 (and_right (may_declare n) (list_all may_declare ns) h))

pub none_repeated : (text : List ℕ) (ls : List Leaf) (ns seen : List (List ℕ)) → AreWords text ls ns → are_new seen ns ≡ true → repeated text seen ls ≡ []
none_repeated text [] [] seen z h = refl
none_repeated text [] (n ∷ ns) seen z h = absurd z
none_repeated text (l ∷ ls) [] seen z h = absurd z
none_repeated text (l ∷ ls) (n ∷ ns) seen z h =
    let here = not (list_any (bytes_eq n) seen) in
    let later = are_new (seen ++ n ∷ []) ns in
    let new : list_any (bytes_eq n) seen ≡ false = false_of (list_any (bytes_eq n) seen) (and_left here later h) in
    rw (z.0, new) (none_repeated text ls ns (seen ++ n ∷ []) z.1 (and_right here later h))
