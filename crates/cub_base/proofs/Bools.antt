-- Laws of tests.
use Rattle.std.proofs.Common.{◌≡◌, ℕ, Bool, true, false, refl, arith, inl, inr, ◌⊎◌}
use Rattle.std.specs.Prelude.{◌&&◌, ◌||◌, ◌==◌, IsTrue, nat_lt, nat_le, ◌<◌, ◌≤◌}
use Rattle.std.proofs.lemmas.Grind.{common_steps}
use Rattle.std.proofs.lemmas.Bool.Decides.{nat_tests}

pub and_left : (a b : Bool) → IsTrue (a && b) → IsTrue a
and_left true b h = refl
and_left false b h = cc

pub and_right : (a b : Bool) → IsTrue (a && b) → IsTrue b
and_right true b h = h
and_right false b h = cc

pub and_both : (a b : Bool) → IsTrue a → IsTrue b → IsTrue (a && b)
and_both true b h k = k
and_both false b h k = cc

pub and_self : (a : Bool) → a ≡ (a && a)
and_self true = refl
and_self false = refl

pub and_swap : (a b c : Bool) → (a && (b && c)) ≡ (b && (a && c))
and_swap true true c = refl
and_swap true false c = refl
and_swap false true c = refl
and_swap false false c = refl

pub and_assoc : (a b c : Bool) → ((a && b) && c) ≡ (a && (b && c))
and_assoc true b c = refl
and_assoc false b c = refl

pub and_comm : (a b : Bool) → (a && b) ≡ (b && a)
and_comm true true = refl
and_comm true false = refl
and_comm false true = refl
and_comm false false = refl

pub and_true : (a : Bool) → (a && true) ≡ a
and_true true = refl
and_true false = refl

pub true_or_false : (a : Bool) → (a ≡ true) ⊎ (a ≡ false)
true_or_false true = inl refl
true_or_false false = inr refl

pub same_comm : (x y : ℕ) → (x == y) ≡ (y == x)
same_comm x y = grind (arith, nat_tests)

pub same_refl : (x : ℕ) → (x == x) ≡ true
same_refl x = grind (arith, nat_tests)

pub same_is : (x y : ℕ) → (x == y) ≡ true → x ≡ y
same_is x y h = grind (arith, nat_tests)

pub less_is : (x y : ℕ) → nat_lt x y ≡ true → x < y
less_is x y h = grind (arith, common_steps)

pub is_less : (x y : ℕ) → x < y → nat_lt x y ≡ true
is_less x y h = grind (arith, common_steps)

pub le_is : (x y : ℕ) → nat_le x y ≡ true → x ≤ y
le_is x y h = grind (arith, common_steps)

pub is_le : (x y : ℕ) → x ≤ y → nat_le x y ≡ true
is_le x y h = grind (arith, common_steps)

pub or_left : (a b : Bool) → (a || b) ≡ false → a ≡ false
or_left true b h = cc
or_left false b h = refl

pub or_right : (a b : Bool) → (a || b) ≡ false → b ≡ false
or_right true b h = cc
or_right false b h = h

pub or_intro_left : (a b : Bool) → IsTrue a → IsTrue (a || b)
or_intro_left true b h = refl
or_intro_left false b h = cc

pub or_intro_right : (a b : Bool) → IsTrue b → IsTrue (a || b)
or_intro_right true b h = refl
or_intro_right false b h = h
