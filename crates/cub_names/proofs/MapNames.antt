-- A map from names after one more entry.
use Rattle.std.proofs.Common.{◌≡◌, ℕ, Bool, true, false, List, [], ◌∷◌, Option, Some, None, refl, sym, ◌∙◌, ap, subst, bytes_eq, cond, true≢false}
use Rattle.std.specs.Prelude.{if◌then◌else◌}
use Rattle.std.specs.Map.{lookup}
use Rattle.std.proofs.lemmas.Cmp.{nat_list_eq_equiv}
use Rattle.std.proofs.lemmas.Slice.Eq.{bytes_eq-Decides}
use Rattle.std.specs.declared.vec.Vec.{Vec}
use Rattle.indexmap.specs.IndexMap.{insert_entry}

-- equal bytes are one list
pub equal_bytes : (xs ys : List ℕ) → bytes_eq xs ys ≡ true → xs ≡ ys
equal_bytes xs ys h = (bytes_eq-Decides xs ys).0 h

same_bytes : (xs : List ℕ) → bytes_eq xs xs ≡ true
same_bytes xs = nat_list_eq_equiv.refl xs

module _ {X A : Type 0} (key : Vec ℕ A) (v : X) (q : List ℕ) where
  abbrev test : Vec ℕ A → Bool
  test k = bytes_eq q k.items

  abbrev eq : Vec ℕ A → Vec ℕ A → Bool
  eq k l = bytes_eq k.items l.items

  turned : bytes_eq q key.items ≡ bytes_eq key.items q
  turned = nat_list_eq_equiv.symm q key.items

  at_end : (b : Bool) → cond b (Some v) None ≡ (if b then Some v else None)
  at_end true = refl
  at_end false = refl

  same : (b : Bool) (old next : Option X) → cond b (Some v) next ≡ (if b then Some v else cond b old next)
  same true old next = refl
  same false old next = refl

  other : (k : Vec ℕ A) → bytes_eq key.items k.items ≡ false → (a b : Bool) → bytes_eq q k.items ≡ a → bytes_eq key.items q ≡ b
      → (old next : Option X) → cond a old (if b then Some v else next) ≡ (if b then Some v else cond a old next)
  other k differ true true is also old next =
      absurd (true≢false (sym (same_bytes k.items) ∙ ap (λ n. bytes_eq n k.items) (sym (equal_bytes q k.items is) ∙ sym (equal_bytes key.items q also)) ∙ differ))
  other k differ true false is also old next = refl
  other k differ false true is also old next = refl
  other k differ false false is also old next = refl

  more : (e : Vec ℕ A × X) (es after : List (Vec ℕ A × X)) → lookup test after ≡ (if bytes_eq key.items q then Some v else lookup test es)
      → (s : Bool) → bytes_eq key.items e.0.items ≡ s
      → lookup test (if s then (e.0, v) ∷ es else e ∷ after) ≡ (if bytes_eq key.items q then Some v else lookup test (e ∷ es))
  more e es after h true s =
      ap (λ b. cond b (Some v) (lookup test es)) (ap (bytes_eq q) (sym (equal_bytes key.items e.0.items s)) ∙ turned)
      ∙ same (bytes_eq key.items q) (Some e.1) (lookup test es)
      ∙ ap (λ b. if bytes_eq key.items q then Some v else cond b (Some e.1) (lookup test es)) (sym turned ∙ ap (bytes_eq q) (equal_bytes key.items e.0.items s))
  more e es after h false s =
      ap (cond (bytes_eq q e.0.items) (Some e.1)) h
      ∙ other e.0 s (bytes_eq q e.0.items) (bytes_eq key.items q) refl refl (Some e.1) (lookup test es)

  pub inserted : (es : List (Vec ℕ A × X)) → lookup test (insert_entry eq es key v) ≡ (if bytes_eq key.items q then Some v else lookup test es)
  inserted [] = ap (λ b. cond b (Some v) None) turned ∙ at_end (bytes_eq key.items q)
  inserted (e ∷ es) = more e es (insert_entry eq es key v) (inserted es) (bytes_eq key.items e.0.items) refl
