-- No sort of a protocol has more than 64 constructors.
use Rattle.std.proofs.Common.{◌≡◌, ℕ, suc, zero, ◌<◌, ◌≤◌, Bool, true, List, [], ◌∷◌, length, get_or, refl, arith, nat_le}
use Rattle.std.proofs.lemmas.Bool.Decides.{nat_tests}
use Rattle.std.specs.List.{list_all}
use Rattle.cub_proto.specs.declared.protocol.SortDecl.{SortDecl}
use Rattle.cub_proto.specs.Fits.{sorts_fit, sort_decl_fits, is_bool, constructors_are_false_true}
use Rattle.cub_base.proofs.Bools.{and_left, and_right}

le_of : (a b : ℕ) → nat_le a b ≡ true → a ≤ b
le_of a b h = grind (arith, nat_tests, h)

few_of : (d : SortDecl) → sort_decl_fits d ≡ true → length d.cons ≤ 64
few_of d h = le_of (length d.cons) 64 (and_right _ _ (and_left _ _ h))

two : (cons : List (List ℕ)) → constructors_are_false_true cons ≡ true → length cons ≤ 64
two [] h = omega arith
two (c ∷ []) h = omega arith
two (c ∷ d ∷ []) h = omega arith
two (c ∷ d ∷ e ∷ es) h = cc

few_among : (ds : List SortDecl) (i : ℕ) (d : SortDecl) → list_all sort_decl_fits ds ≡ true → i < length ds → length (get_or ds i d).cons ≤ 64
few_among [] i d h below = absurd (omega arith)
few_among (x ∷ xs) zero d h below = few_of x (and_left _ _ h)
few_among (x ∷ xs) (suc i) d h below = few_among xs i d (and_right _ _ h) (omega arith)

pub few_constructors : (sorts : List SortDecl) (i : ℕ) (d : SortDecl) → sorts_fit sorts ≡ true → i < length sorts → length (get_or sorts i d).cons ≤ 64
few_constructors [] i d h below = absurd (omega arith)
few_constructors (x ∷ xs) zero d h below = two x.cons (and_right _ _ (and_left _ _ h))
few_constructors (x ∷ xs) (suc i) d h below = few_among xs i d (and_right _ _ h) (omega arith)
