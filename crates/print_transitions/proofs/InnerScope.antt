-- The variable `_0` behind the parameters, at the place behind theirs.
use Rattle.std.proofs.Common.{◌≡◌, ℕ, zero, suc, ◌+◌, ◌≤◌, Bool, true, false, List, [], ◌∷◌, ◌++◌, Some, None, refl, sym, ap, subst, ◌∙◌, arith, inl, inr}
use Rattle.std.specs.Prelude.{codes, bytes_eq, if◌then◌else◌}
use Rattle.std.specs.Fmt.{digits}
use Rattle.std.proofs.lemmas.Bool.{cases_lt}
use Rattle.std.proofs.lemmas.Slice.Eq.{bytes_eq-Decides}
use Rattle.cub_parse.specs.declared.tree.Leaf.{Leaf}
use Rattle.cub_names.specs.declared.scope.Local.{Local}
use Rattle.cub_names.specs.Meaning.{first_named, or_else}
use Rattle.cub_names.specs.Scope.{place_of, locals_from}
use Rattle.cub_names.specs.Words.{word_of, begins_with_underscore}
use Rattle.cub_print.specs.Terms.{place_name}
use Rattle.print_names.proofs.Fresh.{same_bytes}
use Rattle.print_names.proofs.Rows.{AreWords}
use Rattle.print_formulas.proofs.SidesRead.{IsScope}
use Rattle.print_formulas.proofs.ScopeRead.{places_named, place_is}

-- no parameter has the name of the variable behind them
none_behind_them : (n : ℕ) → n ≤ 3 → first_named (λ (m : List ℕ). m) (λ number m. number) 0 (places_named n) (place_name n n) ≡ None
unfolding digits
none_behind_them zero h = refl
none_behind_them (suc zero) h = refl
none_behind_them (suc (suc zero)) h = refl
none_behind_them (suc (suc (suc zero))) h = refl
none_behind_them (suc (suc (suc (suc n)))) h = absurd (omega arith)

pub outer_none : (text : List ℕ) (n : ℕ) (ls : List Leaf) → n ≤ 3 → AreWords text ls (places_named n) → place_of text (locals_from 0 ls) (place_name n n) ≡ None
outer_none text n ls few z = place_is text ls (places_named n) 0 (place_name n n) z ∙ none_behind_them n few

-- the printed name of that variable
pub inner_name : (n : ℕ) → n ≤ 3 → place_name n n ≡ codes "_0"
unfolding digits
inner_name zero h = refl
inner_name (suc zero) h = refl
inner_name (suc (suc zero)) h = refl
inner_name (suc (suc (suc zero))) h = refl
inner_name (suc (suc (suc (suc n)))) h = absurd (omega arith)

place_on : (text : List ℕ) (a b : List Local) (x : List ℕ) → place_of text (a ++ b) x ≡ or_else (place_of text a x) (place_of text b x)
place_on text [] b x = refl
place_on text (l ∷ ls) b x = split (bytes_eq (word_of text l.name) x) (place_on text ls b x)
  where
    split : (t : Bool) → place_of text (ls ++ b) x ≡ or_else (place_of text ls x) (place_of text b x)
        → (if t then Some l.place else place_of text (ls ++ b) x) ≡ or_else (if t then Some l.place else place_of text ls x) (place_of text b x)
    split true e = refl
    split false e = e

pub inner_scope_read : (text : List ℕ) (scope : List Local) (n : ℕ) (l : Leaf) → n ≤ 3 → IsScope text scope n n → place_of text scope (place_name n n) ≡ None → word_of text l ≡ codes "_0"
    → IsScope text (scope ++ (record { name = l; place = n }) ∷ []) n (n + 1)
inner_scope_read text scope n l few outer none is = record {
  known = λ place below. elim (cases_lt place n) [
    | inl inside ↦ place_on text scope ((record { name = l; place = n }) ∷ []) (place_name n place) ∙ ap (λ o. or_else o (place_of text ((record { name = l; place = n }) ∷ []) (place_name n place))) (outer.known place inside)
    | inr outside ↦
        let last : place ≡ n = omega arith in
        subst (λ m. place_of text (scope ++ (record { name = l; place = n }) ∷ []) (place_name n m) ≡ Some m) (sym last)
        (place_on text scope ((record { name = l; place = n }) ∷ []) (place_name n n)
        ∙ ap (λ o. or_else o (place_of text ((record { name = l; place = n }) ∷ []) (place_name n n))) none
        ∙ ap (λ w. if bytes_eq w (place_name n n) then Some n else None) (is ∙ sym (inner_name n few))
        ∙ ap (λ b. if b then Some n else None) (same_bytes (place_name n n)))
  ];
  unknown = λ bytes begins.
      place_on text scope ((record { name = l; place = n }) ∷ []) bytes
      ∙ ap (λ o. or_else o (place_of text ((record { name = l; place = n }) ∷ []) bytes)) (outer.unknown bytes begins)
      ∙ ap (λ w. if bytes_eq w bytes then Some n else None) is ∙ ap (λ b. if b then Some n else None) (differs bytes begins);
}
  where
    differs : (bytes : List ℕ) → begins_with_underscore bytes ≡ false → bytes_eq (codes "_0") bytes ≡ false
    differs bytes begins = split (bytes_eq (codes "_0") bytes) refl
      where
        split : (b : Bool) → bytes_eq (codes "_0") bytes ≡ b → bytes_eq (codes "_0") bytes ≡ false
        split true e =
            let does : begins_with_underscore bytes ≡ true = ap begins_with_underscore (sym ((bytes_eq-Decides (codes "_0") bytes).0 e)) in
            absurd cc
        split false e = e
