-- Joins of lists: their lengths and widths, and that they may be made from the left.
use Rattle.std.proofs.Common.{◌≡◌, ℕ, ◌+◌, ◌*◌, ◌<◌, ◌≤◌, max, List, [], ◌∷◌, ◌++◌, map, length, refl, sym, ap, ap₂, ◌∙◌, arith, length-append, append_assoc, take, get_or}
use Rattle.std.proofs.lemmas.List.{length-map, take_more, map_more}
use Rattle.std.specs.Prelude.{flat_map}
use Rattle.cub_dnf.specs.Lists.{joins, all_joins, chained}
use Rattle.cub_dnf.specs.Normal.{widest}

module _ {A : Type 0} where
  -- behind nothing and before nothing
  append_nil : (xs : List A) → xs ++ [] ≡ xs
  append_nil [] = refl
  append_nil (x ∷ xs) = ap (λ ys. x ∷ ys) (append_nil xs)

  lists_append_nil : (xs : List (List A)) → xs ++ [] ≡ xs
  lists_append_nil [] = refl
  lists_append_nil (x ∷ xs) = ap (λ ys. x ∷ ys) (lists_append_nil xs)

  map_nothing : (xs : List (List A)) → map (λ d. [] ++ d) xs ≡ xs
  map_nothing [] = refl
  map_nothing (x ∷ xs) = ap (λ ys. x ∷ ys) (map_nothing xs)

  -- the join with the one empty conjunction
  pub joins_one : (a : List (List A)) → joins a ([] ∷ []) ≡ a
  joins_one [] = refl
  joins_one (c ∷ cs) = ap (λ x. x ∷ joins cs ([] ∷ [])) (append_nil c) ∙ ap (λ xs. c ∷ xs) (joins_one cs)

  pub joins_none : (a : List (List A)) → joins a [] ≡ []
  joins_none [] = refl
  joins_none (c ∷ cs) = joins_none cs

  pub joins-single : (a : List (List A)) (d : List A) → joins a (d ∷ []) ≡ map (λ c. c ++ d) a
  joins-single [] d = refl
  joins-single (c ∷ cs) d = ap (λ xs. (c ++ d) ∷ xs) (joins-single cs d)

  single_is : (xs : List (List A)) (d : List A) → 1 ≤ length xs → length xs < 2 → d ≡ get_or xs 0 d → xs ≡ d ∷ []
  single_is [] d some few is = absurd (omega arith)
  single_is (x ∷ []) d some few is = ap (λ y. y ∷ []) (sym is)
  single_is (x ∷ y ∷ ys) d some few is = absurd (omega arith)

  -- where the right factor is one conjunction, it goes behind each on the left
  pub extended_is : (a right seen : List (List A)) (d tail : List A) → seen ≡ right → 1 ≤ length seen → length seen < 2 → d ≡ get_or seen 0 d → tail ≡ d
      → map (λ c. c ++ tail) a ≡ joins a right
  extended_is a right seen d tail view some few is at =
      ap (λ x. map (λ c. c ++ x) a) at ∙ sym (joins-single a d) ∙ ap (λ x. joins a x) (sym (single_is seen d some few is) ∙ view)

  joins-append : (a b right : List (List A)) → joins (a ++ b) right ≡ joins a right ++ joins b right
  joins-append [] b right = refl
  joins-append (c ∷ cs) b right =
      ap (λ x. map (λ d. c ++ d) right ++ x) (joins-append cs b right) ∙ sym (append_assoc (map (λ d. c ++ d) right) (joins cs right) (joins b right))

  map-append_two : (c d : List A) (right : List (List A)) → map (λ e. c ++ e) (map (λ e. d ++ e) right) ≡ map (λ e. (c ++ d) ++ e) right
  map-append_two c d [] = refl
  map-append_two c d (e ∷ es) = ap (λ x. x ∷ map (λ y. c ++ y) (map (λ y. d ++ y) es)) (sym (append_assoc c d e)) ∙ ap (λ xs. ((c ++ d) ++ e) ∷ xs) (map-append_two c d es)

  map_over : (c : List A) (xs ys : List (List A)) → map (λ e. c ++ e) (xs ++ ys) ≡ map (λ e. c ++ e) xs ++ map (λ e. c ++ e) ys
  map_over c [] ys = refl
  map_over c (x ∷ xs) ys = ap (λ zs. (c ++ x) ∷ zs) (map_over c xs ys)

  map-joins : (c : List A) (b right : List (List A)) → map (λ e. c ++ e) (joins b right) ≡ joins (map (λ e. c ++ e) b) right
  map-joins c [] right = refl
  map-joins c (d ∷ ds) right =
      map_over c (map (λ e. d ++ e) right) (joins ds right)
      ∙ ap (λ x. x ++ map (λ e. c ++ e) (joins ds right)) (map-append_two c d right)
      ∙ ap (λ x. map (λ e. (c ++ d) ++ e) right ++ x) (map-joins c ds right)

  joins_assoc : (a b right : List (List A)) → joins (joins a b) right ≡ joins a (joins b right)
  joins_assoc [] b right = refl
  joins_assoc (c ∷ cs) b right =
      joins-append (map (λ d. c ++ d) b) (joins cs b) right
      ∙ ap (λ x. x ++ joins (joins cs b) right) (sym (map-joins c b right))
      ∙ ap (λ x. map (λ d. c ++ d) (joins b right) ++ x) (joins_assoc cs b right)

  -- one list more
  pub all_joins-push : (lists : List (List (List A))) (list : List (List A)) → all_joins (lists ++ list ∷ []) ≡ joins (all_joins lists) list
  all_joins-push [] list = joins_one list ∙ sym (lists_append_nil list) ∙ ap (λ xs. xs ++ []) (sym (map_nothing list))
  all_joins-push (l ∷ ls) list = ap (λ x. joins l x) (all_joins-push ls list) ∙ sym (joins_assoc l (all_joins ls) list)

  pub chained-push : (lists : List (List (List A))) (list : List (List A)) → chained (lists ++ list ∷ []) ≡ chained lists ++ list
  chained-push [] list = lists_append_nil list
  chained-push (l ∷ ls) list = ap (λ x. l ++ x) (chained-push ls list) ∙ sym (append_assoc l (chained ls) list)

  pub joins_more : (a right : List (List A)) (i : ℕ) (d : List A) → i < length a → joins (take i a) right ++ map (λ e. get_or a i d ++ e) right ≡ joins (take (i + 1) a) right
  joins_more a right i d below =
      ap (λ x. joins (take i a) right ++ x) (sym (lists_append_nil (map (λ e. get_or a i d ++ e) right)))
      ∙ sym (joins-append (take i a) (get_or a i d ∷ []) right)
      ∙ ap (λ x. joins x right) (sym (take_more a i d below))

  -- the step of a loop over the left factor
  pub joins_next : {list new : List (List A)} {front : List A} (a right : List (List A)) (i : ℕ) (d : List A) → new ≡ list ++ map (λ e. front ++ e) right
      → list ≡ joins (take i a) right → front ≡ d → d ≡ get_or a i d → i < length a → new ≡ joins (take (i + 1) a) right
  joins_next {list = list} {front = front} a right i d made before is at below =
      made ∙ ap₂ (λ x y. x ++ map (λ e. y ++ e) right) before (is ∙ at) ∙ joins_more a right i d below

  -- lengths
  pub length-joins : (a b : List (List A)) → length (joins a b) ≡ length a * length b
  length-joins [] b = omega arith
  length-joins (c ∷ cs) b =
      omega (arith, length-append (map (λ d. c ++ d) b) (joins cs b), length-map b (λ d. c ++ d), length-joins cs b)

  -- widths
  pub widest-append : (a b : List (List A)) → widest (a ++ b) ≡ max (widest a) (widest b)
  widest-append [] b = omega arith
  widest-append (c ∷ cs) b = omega (arith, widest-append cs b)

  widest-map : (c : List A) (b : List (List A)) → 0 < length b → widest (map (λ d. c ++ d) b) ≡ length c + widest b
  widest-map c [] some = absurd (omega arith)
  widest-map c (d ∷ []) some = omega (arith, length-append c d)
  widest-map c (d ∷ e ∷ es) some = omega (arith, length-append c d, widest-map c (e ∷ es) (omega arith))

  pub widest-joins : (a b : List (List A)) → 0 < length a → 0 < length b → widest (joins a b) ≡ widest a + widest b
  widest-joins [] b some other = absurd (omega arith)
  widest-joins (c ∷ []) b some other =
      omega (arith, widest-append (map (λ d. c ++ d) b) [], widest-map c b other)
  widest-joins (c ∷ e ∷ es) b some other =
      omega (arith, widest-append (map (λ d. c ++ d) b) (joins (e ∷ es) b), widest-map c b other, widest-joins (e ∷ es) b (omega arith) other)

  pub none_is_nil : (a : List (List A)) → length a ≡ 0 → a ≡ []
  none_is_nil [] e = refl
  none_is_nil (c ∷ cs) e = absurd (omega arith)

-- the lists of parts, one part more
module _ {A X : Type 0} (f : X → List (List A)) (xs : List X) (i : ℕ) (d : X) (below : i < length xs) where
  pub all_joins_more : joins (all_joins (map f (take i xs))) (f (get_or xs i d)) ≡ all_joins (map f (take (i + 1) xs))
  all_joins_more = sym (all_joins-push (map f (take i xs)) (f (get_or xs i d))) ∙ ap all_joins (sym (map_more f xs i d below))

  pub chained_more : chained (map f (take i xs)) ++ f (get_or xs i d) ≡ chained (map f (take (i + 1) xs))
  chained_more = sym (chained-push (map f (take i xs)) (f (get_or xs i d))) ∙ ap chained (sym (map_more f xs i d below))
