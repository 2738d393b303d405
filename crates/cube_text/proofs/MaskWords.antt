-- The names of a mask, and the mask of the names.
use Rattle.std.proofs.Common.{◌≡◌, ℕ, zero, suc, ◌+◌, ◌^◌, ◌<◌, ◌≤◌, Bool, true, false, cond, ◌==◌, nat_lt, max, inl, inr, ◌⊎◌, List, [], ◌∷◌, ◌++◌, length, flat_map, Some, refl, ap, sym, ◌∙◌, arith, codes}
use Rattle.std.specs.Prelude.{slice_get, option_and_then}
use Rattle.std.specs.List.{list_all, join_by}
use Rattle.std.specs.Int.{bit_at}
use Rattle.std.specs.Int.Bits.{bit_or}
use Rattle.std.proofs.lemmas.Bool.{and_parts, eqb-true, eq-eqb, ltb-true, ltb-false}
use Rattle.std.proofs.lemmas.Nat.Bits.{bit_at_or, bit_at-pow_same, bit_at-pow_other, bit_at-lt, bit_at-zero, same_from_bits, bit_at_above}
use Rattle.std.proofs.lemmas.List.{append-nil}
use Rattle.cub_base.specs.Name.{is_declarable, has_name_form}
use Rattle.cub_base.proofs.Bools.{true_or_false}
use Rattle.cub_proto.specs.Truth.{has_bit}
use Rattle.text_lines.specs.Word.{is_separator}
use Rattle.text_lines.proofs.NameLaws.{name_is_word}
use Rattle.cube_text.specs.Text.{marked}
use Rattle.cube_text.specs.Form.{parted, is_empty, are_names}
use Rattle.cube_text.specs.Meaning.{constructor_in, mask_from, set_names}
use Rattle.cube_text.proofs.Splitting.{Free, free_append, parted_free, parted_at}
use Rattle.cube_text.proofs.Words.{free_of, declarable_named}

-- the bits of the mask below c, and no others
abbrev IsBelow : ℕ → ℕ → ℕ → Type 0
IsBelow acc mask c = ((i : ℕ) → i < c → bit_at acc i ≡ bit_at mask i) × ((i : ℕ) → c ≤ i → bit_at acc i ≡ 0)

bit_zero : (mask c : ℕ) → has_bit mask c ≡ false → bit_at mask c ≡ 0
bit_zero mask c h =
    let few = bit_at-lt mask c in
    let other : bit_at mask c ≡ 1 → ⊥ = λ is. let e : true ≡ false = sym (eq-eqb (bit_at mask c) 1 is) ∙ h in cc in
    small (bit_at mask c) few other
  where
    small : (b : ℕ) → b < 2 → (b ≡ 1 → ⊥) → b ≡ 0
    small zero few other = refl
    small (suc zero) few other = absurd (other refl)
    small (suc (suc b)) few other = absurd (omega (arith, few))

cut_index : (i c : ℕ) → i < c + 1 → (i < c) ⊎ (i ≡ c)
cut_index i c h = by (true_or_false (i == c))
  where
    by : ((i == c) ≡ true) ⊎ ((i == c) ≡ false) → (i < c) ⊎ (i ≡ c)
    by (inl same) = inr (eqb-true i c same)
    by (inr other) = inl (let differ : i ≡ c → ⊥ = λ is. let e : true ≡ false = sym (eq-eqb i c is) ∙ other in cc in less i c h differ)
      where
        less : (i c : ℕ) → i < c + 1 → (i ≡ c → ⊥) → i < c
        less zero zero h d = absurd (d refl)
        less zero (suc c) h d = omega arith
        less (suc i) zero h d = absurd (omega (arith, h))
        less (suc i) (suc c) h d = let later = less i c (omega (arith, h)) (λ is. d (ap suc is)) in omega (arith, later)

below_with : (acc mask c : ℕ) → IsBelow acc mask c → has_bit mask c ≡ true → IsBelow (bit_or acc (2 ^ c)) mask (c + 1)
below_with acc mask c below has = (λ i h. low i (cut_index i c h), λ i h. bit_at_or acc (2 ^ c) i ∙ rw (below.1 i (omega (arith, h)), bit_at-pow_other c i (λ is. absurd (omega (arith, h, is)))) refl)
  where
    low : (i : ℕ) → (i < c) ⊎ (i ≡ c) → bit_at (bit_or acc (2 ^ c)) i ≡ bit_at mask i
    low i (inl less) =
        bit_at_or acc (2 ^ c) i
        ∙ ap (λ b. max (bit_at acc i) b) (bit_at-pow_other c i (λ is. absurd (omega (arith, less, is))))
        ∙ (let top : max (bit_at acc i) 0 ≡ bit_at acc i = omega arith in top) ∙ below.0 i less
    low i (inr same) =
        ap (λ k. bit_at (bit_or acc (2 ^ c)) k) same
        ∙ bit_at_or acc (2 ^ c) c ∙ rw (below.1 c (omega arith), bit_at-pow_same c) (sym (eqb-true (bit_at mask c) 1 has) ∙ refl)
        ∙ ap (bit_at mask) (sym same)

below_without : (acc mask c : ℕ) → IsBelow acc mask c → has_bit mask c ≡ false → IsBelow acc mask (c + 1)
below_without acc mask c below lacks = (λ i h. low i (cut_index i c h), λ i h. below.1 i (omega (arith, h)))
  where
    low : (i : ℕ) → (i < c) ⊎ (i ≡ c) → bit_at acc i ≡ bit_at mask i
    low i (inl less) = below.0 i less
    low i (inr same) = ap (bit_at acc) same ∙ below.1 c (omega arith) ∙ sym (bit_zero mask c lacks) ∙ ap (bit_at mask) (sym same)

-- the names of the mask name the mask
module _ (cons : List (List ℕ)) (mask : ℕ) (small : mask < 2 ^ length cons)
    (found : (c : ℕ) (name : List ℕ) → slice_get cons c ≡ Some name → constructor_in cons name ≡ Some c) where
  read_from : (names : List (List ℕ)) (c acc : ℕ) → c + length names ≡ length cons → ((i : ℕ) (name : List ℕ) → slice_get names i ≡ Some name → slice_get cons (c + i) ≡ Some name)
      → IsBelow acc mask c → mask_from cons acc (marked mask c names) ≡ Some mask
  read_from [] c acc all there below =
      let end : c ≡ length cons = omega (arith, all) in
      ap Some (same_from_bits acc mask (λ i. whole i (true_or_false (nat_lt i c))))
    where
      whole : (i : ℕ) → (nat_lt i c ≡ true) ⊎ (nat_lt i c ≡ false) → bit_at acc i ≡ bit_at mask i
      whole i (inl less) = below.0 i (ltb-true i c less)
      whole i (inr more) =
          let past = ltb-false i c more in
          below.1 i past ∙ sym (bit_at_above mask (length cons) i small (omega (arith, past, all)))
  read_from (x ∷ xs) c acc all there below = by (has_bit mask c) refl (λ more below. read_from xs (c + 1) more next onward_there below)
    where
      next : c + 1 + length xs ≡ length cons
      next = omega (arith, all)

      onward_there : (i : ℕ) (name : List ℕ) → slice_get xs i ≡ Some name → slice_get cons (c + 1 + i) ≡ Some name
      onward_there i name is = let sum : c + suc i ≡ c + 1 + i = omega arith in ap (slice_get cons) (sym sum) ∙ there (suc i) name is

      here : constructor_in cons x ≡ Some c
      here = let sum : c + 0 ≡ c = omega arith in found c x (ap (slice_get cons) (sym sum) ∙ there 0 x refl)

      by : (b : Bool) → has_bit mask c ≡ b → ((more : ℕ) → IsBelow more mask (c + 1) → mask_from cons more (marked mask (c + 1) xs) ≡ Some mask)
          → mask_from cons acc (cond b (x ∷ marked mask (c + 1) xs) (marked mask (c + 1) xs)) ≡ Some mask
      by true has later = ap (option_and_then (λ k. mask_from cons (bit_or acc (2 ^ k)) (marked mask (c + 1) xs))) here ∙ later (bit_or acc (2 ^ c)) (below_with acc mask c below has)
      by false lacks later = later acc (below_without acc mask c below lacks)

  pub mask_read : mask_from cons 0 (marked mask 0 cons) ≡ Some mask
  mask_read = read_from cons 0 0 (omega arith) (λ i name is. let sum : 0 + i ≡ i = omega arith in ap (slice_get cons) sum ∙ is) (λ i h. absurd (omega (arith, h)), λ i h. bit_at-zero i)

-- the names of a mask are names
pub marked_named : (mask c : ℕ) (names : List (List ℕ)) → list_all is_declarable names ≡ true → list_all is_declarable (marked mask c names) ≡ true
marked_named mask c [] h = refl
marked_named mask c (x ∷ xs) h = by (has_bit mask c) (and_parts (is_declarable x) (list_all is_declarable xs) h) (marked_named mask (c + 1) xs (and_parts (is_declarable x) (list_all is_declarable xs) h).1)
  where
    by : (b : Bool) → (is_declarable x ≡ true) × (list_all is_declarable xs ≡ true) → list_all is_declarable (marked mask (c + 1) xs) ≡ true
        → list_all is_declarable (cond b (x ∷ marked mask (c + 1) xs) (marked mask (c + 1) xs)) ≡ true
    by true parts later = rw (parts.0, later) refl
    by false parts later = later

-- names between commas
module _ (c : ℕ) (sep : is_separator c ≡ true) where
  name_free : (name : List ℕ) → is_declarable name ≡ true → Free (λ b. b == c) name
  name_free name h = free_of c sep name (name_is_word name h).0

  others_free : (44 == c) ≡ false → (names : List (List ℕ)) → list_all is_declarable names ≡ true → Free (λ b. b == c) (flat_map (λ n. codes "," ++ n) names)
  others_free comma [] h = tt
  others_free comma (x ∷ xs) h =
      let parts = and_parts (is_declarable x) (list_all is_declarable xs) h in
      (comma, free_append (λ b. b == c) x (flat_map (λ n. codes "," ++ n) xs) (name_free x parts.0) (others_free comma xs parts.1))

  pub joined_free : (44 == c) ≡ false → (x : List ℕ) (xs : List (List ℕ)) → list_all is_declarable (x ∷ xs) ≡ true → Free (λ b. b == c) (join_by (λ n. n) (codes ",") (x ∷ xs))
  joined_free comma x xs h =
      let parts = and_parts (is_declarable x) (list_all is_declarable xs) h in
      free_append (λ b. b == c) x (flat_map (λ n. codes "," ++ n) xs) (name_free x parts.0) (others_free comma xs parts.1)

pub names_parted : (x : List ℕ) (xs : List (List ℕ)) → list_all is_declarable (x ∷ xs) ≡ true → parted (λ b. b == 44) (join_by (λ n. n) (codes ",") (x ∷ xs)) ≡ x ∷ xs
names_parted x [] h =
    let parts = and_parts (is_declarable x) true h in
    ap (parted (λ b. b == 44)) (append-nil x) ∙ parted_free (λ b. b == 44) x (name_free 44 refl x parts.0)
names_parted x (y ∷ ys) h =
    let parts = and_parts (is_declarable x) (list_all is_declarable (y ∷ ys)) h in
    parted_at (λ b. b == 44) x 44 (y ++ flat_map (λ n. codes "," ++ n) ys) (name_free 44 refl x parts.0) refl
    ∙ ap (λ t. x ∷ t) (names_parted y ys parts.1)

pub forms_of : (names : List (List ℕ)) → list_all is_declarable names ≡ true → list_all has_name_form names ≡ true
forms_of [] h = refl
forms_of (x ∷ xs) h =
    let parts = and_parts (is_declarable x) (list_all is_declarable xs) h in
    rw ((declarable_named x parts.0).form, forms_of xs parts.1) refl

joined_some : (x : List ℕ) (xs : List (List ℕ)) → is_declarable x ≡ true → is_empty (join_by (λ n. n) (codes ",") (x ∷ xs)) ≡ false
joined_some x xs h = let n = declarable_named x h in ap (λ t. is_empty (t ++ flat_map (λ y. codes "," ++ y) xs)) n.is

-- a list of names reads as them
pub set_read : (names : List (List ℕ)) → list_all is_declarable names ≡ true → (set_names (join_by (λ n. n) (codes ",") names) ≡ names) × (are_names (join_by (λ n. n) (codes ",") names) ≡ true)
set_read [] h = (refl, refl)
set_read (x ∷ xs) h =
    let some = joined_some x xs (and_parts (is_declarable x) (list_all is_declarable xs) h).0 in
    let parts = names_parted x xs h in
    (rw some parts, rw (some, parts) (forms_of (x ∷ xs) h))

pub set_free : (c : ℕ) → is_separator c ≡ true → (44 == c) ≡ false → (names : List (List ℕ)) → list_all is_declarable names ≡ true → Free (λ b. b == c) (join_by (λ n. n) (codes ",") names)
set_free c sep comma [] h = tt
set_free c sep comma (x ∷ xs) h = joined_free c sep comma x xs h
