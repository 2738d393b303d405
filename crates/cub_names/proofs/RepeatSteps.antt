-- One leaf more in the search for names that stand twice.
use Rattle.std.proofs.Common.{◌≡◌, ℕ, ◌+◌, ◌<◌, Bool, true, false, not, ◌||◌, List, [], ◌∷◌, ◌++◌, length, get_or, take, drop, refl, ap, sym, ◌∙◌, append_assoc, add-one, bytes_eq, map}
use Rattle.std.specs.Prelude.{if◌then◌else◌}
use Rattle.std.specs.List.{list_any}
use Rattle.std.proofs.lemmas.List.Folds.{list_any-append}
use Rattle.std.proofs.lemmas.List.{take_more, map-append}
use Rattle.std.proofs.Math.Seq.{drop-cons}
use Rattle.cub_parse.specs.declared.tree.Leaf.{Leaf}
use Rattle.cub_names.specs.Words.{word_of}
use Rattle.cub_names.specs.Lists.{repeated}
use Rattle.std.proofs.lemmas.Cmp.{nat_list_eq_equiv}

or_false : (x b : Bool) → (b || (x || false)) ≡ (if x then true else b)
or_false true true = refl
or_false true false = refl
or_false false true = refl
or_false false false = refl

-- what is seen after one name more
pub seen_more : (seen : List (List ℕ)) (name q : List ℕ)
    → list_any (bytes_eq q) (seen ++ name ∷ []) ≡ (if bytes_eq name q then true else list_any (bytes_eq q) seen)
seen_more seen name q =
    list_any-append (bytes_eq q) seen (name ∷ [])
    ∙ ap (λ b. list_any (bytes_eq q) seen || (b || false)) (nat_list_eq_equiv.symm q name)
    ∙ or_false (bytes_eq name q) (list_any (bytes_eq q) seen)

pub seen_next : (seen : List (List ℕ)) (name q : List ℕ) (old : Bool) → old ≡ list_any (bytes_eq q) seen
    → (if bytes_eq name q then true else old) ≡ list_any (bytes_eq q) (seen ++ name ∷ [])
seen_next seen name q old is = ap (λ b. if bytes_eq name q then true else b) is ∙ sym (seen_more seen name q)

-- one element more of a list that is changed
pub map_more : {X Y : Type 0} (f : X → Y) (xs : List X) (i : ℕ) (d : X) → i < length xs → map f (take i xs) ++ f (get_or xs i d) ∷ [] ≡ map f (take (i + 1) xs)
map_more f xs i d inside = sym (ap (map f) (take_more xs i d inside) ∙ map-append f (take i xs) (get_or xs i d ∷ []))

-- a list from a place on, taken apart at that place
pub drop_more : {X : Type 0} (xs : List X) (i : ℕ) (d : X) → i < length xs → drop i xs ≡ get_or xs i d ∷ drop (i + 1) xs
drop_more xs i d inside = drop-cons xs i d inside ∙ ap (λ n. get_or xs i d ∷ drop n xs) (sym (add-one i))

module _ (text : List ℕ) (taken : List (List ℕ)) (leaves : List Leaf) where
  -- what is seen before a place
  abbrev pub words : ℕ → List (List ℕ)
  words n = taken ++ map (word_of text) (take n leaves)

module _ (text : List ℕ) (taken : List (List ℕ)) (leaves : List Leaf) (i : ℕ) (d : Leaf) (inside : i < length leaves) where
  pub words_more : words text taken leaves i ++ word_of text (get_or leaves i d) ∷ [] ≡ words text taken leaves (i + 1)
  words_more = append_assoc taken (map (word_of text) (take i leaves)) (word_of text (get_or leaves i d) ∷ []) ∙ ap (λ n. taken ++ n) (map_more (word_of text) leaves i d inside)

  -- what is left to find, taken apart at the next leaf
  pub repeated_next : (has : Bool) → has ≡ list_any (bytes_eq (word_of text (get_or leaves i d))) (words text taken leaves i)
      → repeated text (words text taken leaves i) (drop i leaves) ≡ (if has then get_or leaves i d ∷ [] else []) ++ repeated text (words text taken leaves (i + 1)) (drop (i + 1) leaves)
  repeated_next has is =
      ap (repeated text (words text taken leaves i)) (drop_more leaves i d inside)
      ∙ ap (λ b. (if b then get_or leaves i d ∷ [] else []) ++ repeated text (words text taken leaves i ++ word_of text (get_or leaves i d) ∷ []) (drop (i + 1) leaves)) (sym is)
      ∙ ap (λ n. (if has then get_or leaves i d ∷ [] else []) ++ repeated text n (drop (i + 1) leaves)) words_more
