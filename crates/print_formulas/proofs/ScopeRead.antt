-- The variables of a printed declaration are its places, and no fault stands among them.
use Rattle.std.proofs.Common.{◌≡◌, ℕ, zero, suc, ◌+◌, ◌<◌, ◌≤◌, Bool, true, false, List, [], ◌∷◌, ◌++◌, length, map, take, drop, Some, None, refl, sym, ap, subst, ◌∙◌, arith}
use Rattle.std.specs.Prelude.{IsTrue, not, codes, bytes_eq, slice_get, flat_map}
use Rattle.std.specs.List.{list_any, range_with_len}
use Rattle.std.specs.Fmt.{digits}
use Rattle.std.proofs.lemmas.List.{map-id}
use Rattle.std.proofs.lemmas.Slice.Eq.{bytes_eq-Decides}
use Rattle.cub_base.proofs.Bools.{and_left, and_right}
use Rattle.cub_lexer.specs.declared.token.TokenKind.TheVariants as k
use Rattle.cub_parse.specs.declared.tree.Leaf.{Leaf}
use Rattle.cub_names.specs.Meaning.{Frame, first_named, stands_for}
use Rattle.cub_names.specs.Scope.{place_of, taken_from, variable_faults, locals_from, locals}
use Rattle.cub_names.specs.Words.{word_of, begins_with_underscore}
use Rattle.cub_proto.specs.declared.protocol.Protocol.{Protocol}
use Rattle.cub_proto.specs.Fits.{are_new}
use Rattle.cub_proto.specs.StateOf.{signature_of}
use Rattle.cub_print.specs.Mark.{Mark, gap, blank, name, joined}
use Rattle.cub_print.specs.Mark.Mark.{word}
use Rattle.cub_print.specs.Terms.{place_name}
use Rattle.cub_print.specs.Printed.{parameter_marks}
use Rattle.print_laws.specs.Spot.{Spot, past, leaves}
use Rattle.print_laws.specs.Tree.{parameter_names}
use Rattle.print_names.specs.Plain.{declares_plain_names}
use Rattle.print_names.proofs.Positions as positions
use Rattle.print_names.proofs.Positions.{at_left, at_right, word_is}
use Rattle.print_names.proofs.Fresh.{false_of, found_named}
use Rattle.print_names.proofs.Standing.{variable_stands}
use Rattle.print_names.proofs.Rows.{AreWords, zip_length, none_behind}
use Rattle.print_formulas.proofs.SidesRead.{IsScope}

-- the bytes of the words of marks
abbrev words_in : List Mark → List (List ℕ)
words_in [] = []
words_in (gap b ∷ ms) = words_in ms
words_in (word kind bytes ∷ ms) = bytes ∷ words_in ms

leaves_read : (text : List ℕ) (ms : List Mark) (s : Spot) → positions.At text s ms → AreWords text (leaves s ms) (words_in ms)
leaves_read text [] s at = tt
leaves_read text (gap b ∷ ms) s at = leaves_read text ms (past s (gap b ∷ [])) (at_right text s (gap b ∷ []) ms at)
leaves_read text (word kind bytes ∷ ms) s at =
    (word_is text s kind bytes ms at, leaves_read text ms (past s (word kind bytes ∷ [])) (at_right text s (word kind bytes ∷ []) ms at))

words_further : (f : ℕ → List ℕ) (qs : List ℕ) → words_in (flat_map (λ q. blank ∷ name (f q) ∷ []) qs) ≡ map f qs
words_further f [] = refl
words_further f (q ∷ qs) = ap (λ xs. f q ∷ xs) (words_further f qs)

words_joined : (f : ℕ → List ℕ) (qs : List ℕ) → words_in (joined (blank ∷ []) (λ q. name (f q) ∷ []) qs) ≡ map f qs
words_joined f [] = refl
words_joined f (q ∷ qs) = ap (λ xs. f q ∷ xs) (words_further f qs)

abbrev pub places_named : ℕ → List (List ℕ)
places_named n = map (place_name n) (range_with_len 0 n)

pub parameters_read : (text : List ℕ) (n : ℕ) (s : Spot) → positions.At text s (parameter_marks n) → AreWords text (parameter_names n s) (places_named n)
parameters_read text n s at =
    let inner = joined (blank ∷ []) (λ q. name (place_name n q) ∷ []) (range_with_len 0 n) in
    let begin = word k.ParenOpen (codes "(") ∷ [] in
    let close = word k.ParenClose (codes ")") ∷ [] in
    subst (AreWords text (parameter_names n s)) (words_joined (place_name n) (range_with_len 0 n))
    (leaves_read text inner (past s begin) (at_left text (past s begin) inner close (at_right text s begin (inner ++ close) at)))

-- places are told apart by their names
new_places : (n : ℕ) → n ≤ 4 → are_new [] (places_named n) ≡ true
unfolding digits
new_places zero h = refl
new_places (suc zero) h = refl
new_places (suc (suc zero)) h = refl
new_places (suc (suc (suc zero))) h = refl
new_places (suc (suc (suc (suc zero)))) h = refl
new_places (suc (suc (suc (suc (suc n))))) h = absurd (omega arith)

nth_place : (f : ℕ → List ℕ) (k n i : ℕ) → i < n → slice_get (map f (range_with_len k n)) i ≡ Some (f (k + i))
nth_place f k zero i h = absurd (omega arith)
nth_place f k (suc n) zero h = let same : k ≡ k + 0 = omega arith in ap (λ m. Some (f m)) same
nth_place f k (suc n) (suc i) h = let same : (k + 1) + i ≡ k + suc i = omega arith in nth_place f (k + 1) n i (omega arith) ∙ ap (λ m. Some (f m)) same

many_places : (f : ℕ → List ℕ) (k n : ℕ) → length (map f (range_with_len k n)) ≡ n
many_places f k zero = refl
many_places f k (suc n) = let more : length (map f (range_with_len (k + 1) n)) ≡ n = many_places f (k + 1) n in omega (arith, more)

pub place_is : (text : List ℕ) (ls : List Leaf) (ns : List (List ℕ)) (k : ℕ) (x : List ℕ) → AreWords text ls ns
    → place_of text (locals_from k ls) x ≡ first_named (λ (n : List ℕ). n) (λ number n. number) k ns x
place_is text [] [] k x z = refl
place_is text [] (n ∷ ns) k x z = absurd z
place_is text (l ∷ ls) [] k x z = absurd z
place_is text (l ∷ ls) (n ∷ ns) k x z = rw (z.0, place_is text ls ns (k + 1) x z.1) refl

pub not_place : (n : ℕ) (qs : List ℕ) (k : ℕ) (x : List ℕ) → begins_with_underscore x ≡ false → first_named (λ (m : List ℕ). m) (λ number m. number) k (map (place_name n) qs) x ≡ None
not_place n [] k x h = refl
not_place n (q ∷ qs) k x h = rw differs (not_place n qs (k + 1) x h)
  where
    differs : bytes_eq (place_name n q) x ≡ false
    differs = split (bytes_eq (place_name n q) x) refl
      where
        split : (b : Bool) → bytes_eq (place_name n q) x ≡ b → bytes_eq (place_name n q) x ≡ false
        split true e =
            let begins : begins_with_underscore x ≡ true = ap begins_with_underscore (sym ((bytes_eq-Decides (place_name n q) x).0 e)) in
            absurd cc
        split false e = e

pub scope_read : (text : List ℕ) (n : ℕ) (ls : List Leaf) → n ≤ 4 → AreWords text ls (places_named n) → IsScope text (locals_from 0 ls) n n
scope_read text n ls few z = record {
  known = λ place below.
      let new : are_new [] (map (λ (x : List ℕ). x) (places_named n)) ≡ true = subst (λ xs. are_new [] xs ≡ true) (sym (map-id (places_named n))) (new_places n few) in
      let here : slice_get (places_named n) place ≡ Some (place_name n (0 + place)) = nth_place (place_name n) 0 n place below in
      let number : 0 + place ≡ place = omega arith in
      place_is text ls (places_named n) 0 (place_name n place) z
      ∙ found_named (λ (x : List ℕ). x) (λ m x. m) 0 (places_named n) [] place (place_name n place) new (here ∙ ap (λ m. Some (place_name n m)) number)
      ∙ ap Some number;
  unknown = λ bytes begins. place_is text ls (places_named n) 0 bytes z ∙ not_place n (range_with_len 0 n) 0 bytes begins;
}

-- ---- faults
all_taken : {A : Type 0} (n : ℕ) (xs : List A) → length xs ≤ n → take n xs ≡ xs
all_taken zero [] h = refl
all_taken zero (x ∷ xs) h = absurd (omega arith)
all_taken (suc n) [] h = refl
all_taken (suc n) (x ∷ xs) h = ap (λ ys. x ∷ ys) (all_taken n xs (omega arith))

pub named_count : (text : List ℕ) (n : ℕ) (ls : List Leaf) → AreWords text ls (places_named n) → length ls ≡ n
named_count text n ls z = zip_length (λ l m. word_of text l ≡ m) ls (places_named n) z ∙ many_places (place_name n) 0 n

pub locals_are : (text : List ℕ) (limit n : ℕ) (ls : List Leaf) → n ≤ limit → AreWords text ls (places_named n) → locals limit ls ≡ locals_from 0 ls
locals_are text limit n ls h z = ap (locals_from 0) (all_taken limit ls (omega (arith, named_count text n ls z)))

pub taken_are : (text : List ℕ) (limit n : ℕ) (ls : List Leaf) → n ≤ limit → AreWords text ls (places_named n) → length (take limit ls) ≡ n
taken_are text limit n ls h z = ap length (all_taken limit ls (omega (arith, named_count text n ls z))) ∙ named_count text n ls z

module _ (p : Protocol) (plain : IsTrue (declares_plain_names p)) (text : List ℕ) where
  abbrev its : Frame
  its = record { text = text; sig = signature_of p }

  none_taken : (n : ℕ) (ls : List Leaf) (qs : List ℕ) (seen : List (List ℕ)) → AreWords text ls (map (place_name n) qs) → are_new seen (map (place_name n) qs) ≡ true → taken_from its seen ls ≡ []
  none_taken n [] [] seen z new = refl
  none_taken n [] (q ∷ qs) seen z new = absurd z
  none_taken n (l ∷ ls) [] seen z new = absurd z
  none_taken n (l ∷ ls) (q ∷ qs) seen z new =
      let here = not (list_any (bytes_eq (place_name n q)) seen) in
      let later = are_new (seen ++ place_name n q ∷ []) (map (place_name n) qs) in
      let fresh_ : list_any (bytes_eq (place_name n q)) seen ≡ false = false_of (list_any (bytes_eq (place_name n q)) seen) (and_left here later new) in
      let stands : stands_for (signature_of p) (place_name n q) ≡ None = variable_stands p plain (place_name n q) refl in
      rw (z.0, stands, fresh_) (none_taken n ls qs (seen ++ place_name n q ∷ []) z.1 (and_right here later new))

  pub none_variable : (limit n : ℕ) (ls : List Leaf) → n ≤ limit → n ≤ 4 → AreWords text ls (places_named n) → variable_faults its limit ls ≡ []
  none_variable limit n ls h few z =
      let count = named_count text n ls z in
      let all : take (limit + 1) ls ≡ ls = all_taken (limit + 1) ls (omega (arith, count)) in
      let long : drop limit ls ≡ [] = none_behind limit ls (omega (arith, count)) in
      let none : taken_from its [] ls ≡ [] = none_taken n ls (range_with_len 0 n) [] z (new_places n few) in
      rw (all, long, none) refl
