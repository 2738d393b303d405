-- One name more in the test whether names are distinct.
use Rattle.std.proofs.Common.{◌≡◌, ℕ, ◌+◌, ◌<◌, Bool, true, false, not, ◌||◌, List, [], ◌∷◌, length, get_or, take, drop, refl, ap, sym, ◌∙◌, add-one, bytes_eq, map, Bor, subst}
use Rattle.std.specs.Prelude.{if◌then◌else◌}
use Rattle.std.specs.List.{list_any}
use Rattle.std.proofs.lemmas.List.{take_more, length-map, get_or-map}
use Rattle.std.proofs.lemmas.List.Folds.{list_any-append}
use Rattle.std.proofs.lemmas.Cmp.{nat_list_eq_equiv}
use Rattle.std.proofs.Math.Seq.{drop-cons}
use Rattle.cub_proto.specs.Fits.{are_new}

module _ (names : List (List ℕ)) (i : ℕ) (inside : i < length names) where
  -- a new name moves from those to come to those seen
  pub new_name : list_any (bytes_eq (get_or names i [])) (take i names) ≡ false
      → are_new (take (i + 1) names) (drop (i + 1) names) ≡ are_new (take i names) (drop i names)
  new_name fresh = rw (take_more names i [] inside, add-one, drop-cons names i [] inside, fresh)

  -- a name seen before ends the test
  pub old_name : list_any (bytes_eq (get_or names i [])) (take i names) ≡ true → are_new (take i names) (drop i names) ≡ false
  old_name seen = rw (drop-cons names i [] inside, seen)

or_false : (x b : Bool) → (b || (x || false)) ≡ (if x then true else b)
or_false true true = refl
or_false true false = refl
or_false false true = refl
or_false false false = refl

module _ (names : List (List ℕ)) (i : ℕ) (inside : i < length names) (q : List ℕ) where
  -- what is seen after one name more
  pub seen_name : list_any (bytes_eq q) (take (i + 1) names)
      ≡ (if bytes_eq (get_or names i []) q then true else list_any (bytes_eq q) (take i names))
  seen_name =
      ap (list_any (bytes_eq q)) (take_more names i [] inside)
      ∙ list_any-append (bytes_eq q) (take i names) (get_or names i [] ∷ [])
      ∙ ap (λ b. list_any (bytes_eq q) (take i names) || (b || false)) (nat_list_eq_equiv.symm q (get_or names i []))
      ∙ or_false (bytes_eq (get_or names i []) q) (list_any (bytes_eq q) (take i names))

not_false : (b : Bool) → not b ≡ false → b ≡ true
not_false true e = refl
not_false false e = sym e

not_true : (b : Bool) → not b ≡ true → b ≡ false
not_true true e = sym e
not_true false e = refl

-- the same for names that are lent
module _ (names : List (Bor (List ℕ))) (i : ℕ) (d : Bor (List ℕ)) (inside : i < length names) (empty : d.now ≡ []) where
  abbrev all : List (List ℕ)
  all = map (λ name. name.now) names

  within : i < length all
  within = subst (λ n. i < n) (sym (length-map names (λ name. name.now))) inside

  here : get_or all i [] ≡ (get_or names i d).now
  here = get_or-map (λ name. name.now) names i d [] inside

  pub stops : (has : Bool) → has ≡ list_any (bytes_eq (get_or names i d).now) (take i (map (λ name. name.now) names)) → not has ≡ false
      → are_new (take i (map (λ name. name.now) names)) (drop i (map (λ name. name.now) names)) ≡ false
  stops has is seen = old_name all i within (ap (λ q. list_any (bytes_eq q) (take i all)) here ∙ sym is ∙ not_false has seen)

  pub goes_on : (has : Bool) → has ≡ list_any (bytes_eq (get_or names i d).now) (take i (map (λ name. name.now) names)) → not has ≡ true
      → are_new (take (i + 1) (map (λ name. name.now) names)) (drop (i + 1) (map (λ name. name.now) names)) ≡ are_new (take i (map (λ name. name.now) names)) (drop i (map (λ name. name.now) names))
  goes_on has is new = new_name all i within (ap (λ q. list_any (bytes_eq q) (take i all)) here ∙ sym is ∙ not_true has new)

  pub holds_next : (q : List ℕ) (old : Bool) → old ≡ list_any (bytes_eq q) (take i (map (λ name. name.now) names))
      → (if bytes_eq (get_or names i d).now q then true else old) ≡ list_any (bytes_eq q) (take (i + 1) (map (λ name. name.now) names))
  holds_next q old is =
      ap (λ b. if bytes_eq (get_or names i d).now q then true else b) is
      ∙ ap (λ name. if bytes_eq name q then true else list_any (bytes_eq q) (take i all)) (sym here)
      ∙ sym (seen_name all i within q)
