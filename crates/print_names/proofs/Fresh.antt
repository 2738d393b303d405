-- Names that stand once: the one that is looked for is found where it stands.
use Rattle.std.proofs.Common.{◌≡◌, ℕ, zero, suc, ◌+◌, Bool, true, false, List, [], ◌∷◌, ◌++◌, map, Some, None, refl, sym, ap, subst, ◌∙◌, arith, append_assoc, append-nil}
use Rattle.std.specs.Prelude.{◌||◌, IsTrue, not, bytes_eq, slice_get, if◌then◌else◌}
use Rattle.std.specs.List.{list_any, list_all}
use Rattle.std.proofs.lemmas.List.Folds.{list_any-append}
use Rattle.std.proofs.lemmas.Slice.Eq.{bytes_eq-Decides}
use Rattle.cub_base.proofs.Bools.{and_left, and_right, and_both, or_left, or_right, or_intro_right}
use Rattle.cub_names.specs.Meaning.{first_named}
use Rattle.cub_names.specs.Words.{begins_with_underscore}
use Rattle.cub_proto.specs.Fits.{are_new}
use Rattle.print_names.specs.Plain.{is_plain}

pub same_bytes : (xs : List ℕ) → bytes_eq xs xs ≡ true
same_bytes xs = (bytes_eq-Decides xs xs).1 refl

pub false_of : (b : Bool) → IsTrue (not b) → b ≡ false
false_of true h = cc
false_of false h = refl

pub true_of : (b : Bool) → b ≡ false → IsTrue (not b)
true_of b h = rw h refl

-- the sides of a test of names may be changed
pub other_way : (x y : List ℕ) → bytes_eq x y ≡ false → bytes_eq y x ≡ false
other_way x y h = split (bytes_eq y x) refl
  where
    split : (b : Bool) → bytes_eq y x ≡ b → bytes_eq y x ≡ false
    split true e =
        let turned : bytes_eq x y ≡ true = (bytes_eq-Decides x y).1 (sym ((bytes_eq-Decides y x).0 e)) in
        absurd cc
    split false e = e

-- new names are not among those seen
pub fresh : (ns seen : List (List ℕ)) (i : ℕ) (x : List ℕ) → are_new seen ns ≡ true → slice_get ns i ≡ Some x → list_any (bytes_eq x) seen ≡ false
fresh [] seen i x h is = cc
fresh (n ∷ ns) seen zero x h is =
    let same : n ≡ x = cc in
    subst (λ y. list_any (bytes_eq y) seen ≡ false) same (false_of (list_any (bytes_eq n) seen) (and_left (not (list_any (bytes_eq n) seen)) (are_new (seen ++ n ∷ []) ns) h))
fresh (n ∷ ns) seen (suc i) x h is =
    let more = fresh ns (seen ++ n ∷ []) i x (and_right (not (list_any (bytes_eq n) seen)) (are_new (seen ++ n ∷ []) ns) h) is in
    or_left (list_any (bytes_eq x) seen) (list_any (bytes_eq x) (n ∷ [])) (sym (list_any-append (bytes_eq x) seen (n ∷ [])) ∙ more)

-- new names in two parts
pub new_left : (xs ys seen : List (List ℕ)) → are_new seen (xs ++ ys) ≡ true → are_new seen xs ≡ true
new_left [] ys seen h = refl
new_left (x ∷ xs) ys seen h =
    let here = not (list_any (bytes_eq x) seen) in
    let others = are_new (seen ++ x ∷ []) (xs ++ ys) in
    and_both here (are_new (seen ++ x ∷ []) xs) (and_left here others h) (new_left xs ys (seen ++ x ∷ []) (and_right here others h))

pub new_right : (xs ys seen : List (List ℕ)) → are_new seen (xs ++ ys) ≡ true → are_new (seen ++ xs) ys ≡ true
new_right [] ys seen h = subst (λ zs. are_new zs ys ≡ true) (sym (append-nil seen)) h
new_right (x ∷ xs) ys seen h =
    let here = not (list_any (bytes_eq x) seen) in
    let others = are_new (seen ++ x ∷ []) (xs ++ ys) in
    subst (λ zs. are_new zs ys ≡ true) (append_assoc seen (x ∷ []) xs) (new_right xs ys (seen ++ x ∷ []) (and_right here others h))

pub behind_seen : (xs ys seen : List (List ℕ)) (i : ℕ) (x : List ℕ) → are_new seen (xs ++ ys) ≡ true → slice_get ys i ≡ Some x → list_any (bytes_eq x) xs ≡ false
behind_seen xs ys seen i x h is =
    let new = fresh ys (seen ++ xs) i x (new_right xs ys seen h) is in
    or_right (list_any (bytes_eq x) seen) (list_any (bytes_eq x) xs) (sym (list_any-append (bytes_eq x) seen xs) ∙ new)

-- membership by the same test
pub member_at : (ns : List (List ℕ)) (i : ℕ) (x : List ℕ) → slice_get ns i ≡ Some x → list_any (bytes_eq x) ns ≡ true
member_at [] i x is = cc
member_at (n ∷ ns) zero x is = let same : n ≡ x = cc in subst (λ y. (bytes_eq x y || list_any (bytes_eq x) ns) ≡ true) (sym same) (rw (same_bytes x) refl)
member_at (n ∷ ns) (suc i) x is = or_intro_right (bytes_eq x n) (list_any (bytes_eq x) ns) (member_at ns i x is)

pub fresh_member : (ns seen : List (List ℕ)) (x : List ℕ) → are_new seen ns ≡ true → list_any (bytes_eq x) ns ≡ true → list_any (bytes_eq x) seen ≡ false
fresh_member [] seen x h is = cc
fresh_member (n ∷ ns) seen x h is = split (bytes_eq x n) refl (fresh_member ns (seen ++ n ∷ []) x (and_right (not (list_any (bytes_eq n) seen)) (are_new (seen ++ n ∷ []) ns) h))
  where
    split : (b : Bool) → bytes_eq x n ≡ b → (list_any (bytes_eq x) ns ≡ true → list_any (bytes_eq x) (seen ++ n ∷ []) ≡ false) → list_any (bytes_eq x) seen ≡ false
    split true e more =
        subst (λ y. list_any (bytes_eq y) seen ≡ false) (sym ((bytes_eq-Decides x n).0 e))
        (false_of (list_any (bytes_eq n) seen) (and_left (not (list_any (bytes_eq n) seen)) (are_new (seen ++ n ∷ []) ns) h))
    split false e more =
        or_left (list_any (bytes_eq x) seen) (list_any (bytes_eq x) (n ∷ [])) (sym (list_any-append (bytes_eq x) seen (n ∷ [])) ∙ more (rw e at is))

pub behind_member : (xs ys seen : List (List ℕ)) (x : List ℕ) → are_new seen (xs ++ ys) ≡ true → list_any (bytes_eq x) ys ≡ true → list_any (bytes_eq x) xs ≡ false
behind_member xs ys seen x h is =
    let new = fresh_member ys (seen ++ xs) x (new_right xs ys seen h) is in
    or_right (list_any (bytes_eq x) seen) (list_any (bytes_eq x) xs) (sym (list_any-append (bytes_eq x) seen xs) ∙ new)

module _ {A B : Type 0} (name : A → List ℕ) (what : ℕ → A → B) where
  -- what is not among the names is not found
  pub none_named : (word : List ℕ) (k : ℕ) (xs : List A) → list_any (bytes_eq word) (map name xs) ≡ false → first_named name what k xs word ≡ None
  none_named word k [] h = refl
  none_named word k (x ∷ xs) h =
      let here : bytes_eq (name x) word ≡ false = other_way word (name x) (or_left (bytes_eq word (name x)) (list_any (bytes_eq word) (map name xs)) h) in
      rw here (none_named word (k + 1) xs (or_right (bytes_eq word (name x)) (list_any (bytes_eq word) (map name xs)) h))

  -- of new names each is found
  pub found_named : (k : ℕ) (xs : List A) (seen : List (List ℕ)) (i : ℕ) (x : A) → are_new seen (map name xs) ≡ true → slice_get xs i ≡ Some x
      → first_named name what k xs (name x) ≡ Some (what (k + i) x)
  found_named k [] seen i x h is = cc
  found_named k (y ∷ ys) seen zero x h is =
      let same : y ≡ x = cc in
      let at : k ≡ k + 0 = omega arith in
      subst (λ z. (if bytes_eq (name z) (name x) then Some (what k z) else first_named name what (k + 1) ys (name x)) ≡ Some (what (k + 0) x)) (sym same)
      (rw (same_bytes (name x)) (ap (λ m. Some (what m x)) at))
  found_named k (y ∷ ys) seen (suc i) x h is =
      let later = are_new (seen ++ name y ∷ []) (map name ys) in
      let others : later ≡ true = and_right (not (list_any (bytes_eq (name y)) seen)) later h in
      let apart : list_any (bytes_eq (name x)) (name y ∷ []) ≡ false = or_right (list_any (bytes_eq (name x)) seen) (list_any (bytes_eq (name x)) (name y ∷ []))
      (sym (list_any-append (bytes_eq (name x)) seen (name y ∷ [])) ∙ fresh (map name ys) (seen ++ name y ∷ []) i (name x) others (named_at ys i x is)) in
      let here : bytes_eq (name y) (name x) ≡ false = other_way (name x) (name y) (or_left (bytes_eq (name x) (name y)) false apart) in
      let at : (k + 1) + i ≡ k + suc i = omega arith in
      rw here (found_named (k + 1) ys (seen ++ name y ∷ []) i x others is ∙ ap (λ m. Some (what m x)) at)
    where
      named_at : (zs : List A) (j : ℕ) (z : A) → slice_get zs j ≡ Some z → slice_get (map name zs) j ≡ Some (name z)
      named_at [] j z e = cc
      named_at (w ∷ ws) zero z e = let same : w ≡ z = cc in ap (λ v. Some (name v)) same
      named_at (w ∷ ws) (suc j) z e = named_at ws j z e

  -- a word that begins with `_` is none of names that don't
  pub none_plain : (word : List ℕ) → begins_with_underscore word ≡ true → (k : ℕ) (xs : List A) → list_all (λ x. is_plain (name x)) xs ≡ true → first_named name what k xs word ≡ None
  none_plain word begins k [] h = refl
  none_plain word begins k (x ∷ xs) h = rw differs (none_plain word begins (k + 1) xs (and_right (is_plain (name x)) (list_all (λ y. is_plain (name y)) xs) h))
    where
      differs : bytes_eq (name x) word ≡ false
      differs = split (bytes_eq (name x) word) refl
        where
          split : (b : Bool) → bytes_eq (name x) word ≡ b → bytes_eq (name x) word ≡ false
          split true e =
              let plain : is_plain word ≡ true = subst (λ w. is_plain w ≡ true) ((bytes_eq-Decides (name x) word).0 e) (and_left (is_plain (name x)) (list_all (λ y. is_plain (name y)) xs) h) in
              let not_plain : is_plain word ≡ false = rw begins refl in
              absurd cc
          split false e = e
