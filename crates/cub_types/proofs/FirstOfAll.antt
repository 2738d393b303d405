-- The fault that is kept is the first of all.
use Rattle.std.proofs.Common.{◌≡◌, ℕ, Bool, true, false, ◌||◌, ◌&&◌, ◌==◌, nat_lt, List, [], ◌∷◌, Option, Some, None, refl, sym, ◌∙◌, ap, subst, arith, inl, inr, ◌⊎◌}
use Rattle.std.specs.Prelude.{if◌then◌else◌, MatchOption, Contains}
use Rattle.std.proofs.lemmas.Bool.Decides.{nat_tests}
use Rattle.cub_base.proofs.Members.{Has, has_Contains, contains_Has}
use Rattle.cub_names.specs.declared.fault.Fault.{Fault}
use Rattle.cub_names.specs.Checked.{before, rank, earlier, first_of_all, IsFirst, FirstIsLeast}

-- the order on tokens and codes
abbrev by : ℕ → ℕ → ℕ → ℕ → Bool
by t c u d = nat_lt t u || (t == u && nat_lt c d)

by_itself : (t c : ℕ) → by t c t c ≡ false
by_itself t c = grind (arith, nat_tests)

by_less : (t c u d v e : ℕ) → by t c u d ≡ true → by t c v e ≡ false → by u d v e ≡ false
by_less t c u d v e h k = grind (arith, nat_tests, h, k)

by_not : (t c u d v e : ℕ) → by t c u d ≡ false → by u d v e ≡ false → by t c v e ≡ false
by_not t c u d v e h k = grind (arith, nat_tests, h, k)

-- what is kept of a fault and others
record Kept (e : Fault) (faults : List Fault) : Type 0 where
  first : Fault
  is : first_of_all (Some e) faults ≡ Some first
  from : (e ≡ first) ⊎ Has faults first
  after : before e first ≡ false
  none : (g : Fault) → Has faults g → before g first ≡ false

kept_next : (e g : Fault) (gs : List Fault) (b : Bool) → before g e ≡ b → Kept e gs → Kept g gs → Kept e (g ∷ gs)
kept_next e g gs true is old new = record {
  first = new.first;
  is = ap (λ b. first_of_all (if b then Some g else Some e) gs) is ∙ new.is;
  from = elim new.from [ inl same ↦ inr (inl same) | inr later ↦ inr (inr later) ];
  after = by_less g.token (rank g.kind) e.token (rank e.kind) new.first.token (rank new.first.kind) is new.after;
  none = λ h at. elim at [ inl same ↦ subst (λ x. before x new.first ≡ false) same new.after | inr later ↦ new.none h later ];
}
kept_next e g gs false is old new = record {
  first = old.first;
  is = ap (λ b. first_of_all (if b then Some g else Some e) gs) is ∙ old.is;
  from = elim old.from [ inl same ↦ inl same | inr later ↦ inr (inr later) ];
  after = old.after;
  none = λ h at. elim at [ inl same ↦ subst (λ x. before x old.first ≡ false) same (by_not g.token (rank g.kind) e.token (rank e.kind) old.first.token (rank old.first.kind) is old.after) | inr later ↦ old.none h later ];
}

kept : (e : Fault) (faults : List Fault) → Kept e faults
kept e [] = record { first = e; is = refl; from = inl refl; after = by_itself e.token (rank e.kind); none = λ g at. absurd at }
kept e (g ∷ gs) = kept_next e g gs (before g e) refl (kept e gs) (kept g gs)

first_of : (e : Fault) (gs : List Fault) (k : Kept e gs) → IsFirst (e ∷ gs) k.first
first_of e gs k = record {
  among = has_Contains (e ∷ gs) k.first k.from;
  none_before = λ g at. elim (contains_Has (e ∷ gs) g at) [ inl same ↦ subst (λ x. before x k.first ≡ false) same k.after | inr later ↦ k.none g later ];
}

pub first_is_least : FirstIsLeast
first_is_least [] = refl
first_is_least (e ∷ gs) = let k = kept e gs in subst (λ o. MatchOption o (e ∷ gs ≡ []) (IsFirst (e ∷ gs))) (sym k.is) (first_of e gs k)
