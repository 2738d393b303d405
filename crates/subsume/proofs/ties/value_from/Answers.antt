use Rattle.std.proofs.Common.{◌≡◌, ◌∙◌, ◌&&◌, ◌==◌, ℕ, ℤ, Bool, true, false, List, w64, to_z, of_z, refl, sym, ap, subst}
use Rattle.std.proofs.lemmas.Int.{to_z-of_z}
use Rattle.std.specs.List.{list_any}
use Rattle.cub_proto.specs.declared.literal.Term.{Term}
use Rattle.cub_proto.specs.declared.literal.ISide.{ISide}
use Rattle.cub_proto.specs.declared.literal.ISide.TheVariants.{Zero, At}
use Rattle.cub_proto.specs.declared.literal.Lit.{Lit}
use Rattle.subsume.specs.Marks.{value_bit, is_floor, value_from}
use Rattle.subsume.proofs.Bits.{no_bits}
use Rattle.subsume.proofs.Found.{none_any, any_and}
use Rattle.subsume.proofs.ties.value_from.Goals as goal

-- of an upper bound, what lower bounds it has is asked
upper_bound : (n : ℕ) (a b : ISide) (t : Term) (k : ℤ) (lits : List Lit) → a ≡ At t → b ≡ Zero → list_any (value_from n a b k) lits ≡ ((value_bit t k == n) && list_any (is_floor t k) lits)
upper_bound n a b t k lits first second =
    subst (λ x. list_any (value_from n x b k) lits ≡ ((value_bit t k == n) && list_any (is_floor t k) lits)) (sym first)
    (subst (λ y. list_any (value_from n (At t) y k) lits ≡ ((value_bit t k == n) && list_any (is_floor t k) lits)) (sym second)
    (any_and (value_bit t k == n) (is_floor t k) lits))

and_true : (x y : Bool) → y ≡ true → x ≡ (x && y)
and_true true y h = sym h
and_true false y h = refl

and_false : (x y : Bool) → y ≡ false → false ≡ (x && y)
and_false true y h = sym h
and_false false y h = refl

pub returns-in-Zero : goal.returns-in-Zero
returns-in-Zero c n below =
    no_bits n ∙ none_any (value_from n c.args.a c.args.b c.args.value) c.args.lits.now (λ m. subst (λ a. value_from n a c.args.b c.args.value m ≡ false) (sym c.in-Zero.is) refl)

pub returns-in-At-b : goal.returns-in-At-b
returns-in-At-b c n below =
    no_bits n ∙ none_any (value_from n c.args.a c.args.b c.args.value) c.args.lits.now
    (λ m. subst (λ a. value_from n a c.args.b c.args.value m ≡ false) (sym c.in-At.is) (subst (λ b. value_from n (At c.in-At.term) b c.args.value m ≡ false) (sym c.in-At-b.is) refl))

pub returns-then-has_floor : goal.returns-then-has_floor
returns-then-has_floor c n below =
    let t = c.in-At.term in
    let k = c.args.value in
    let plain : to_z w64 (of_z w64 k) ≡ k = to_z-of_z w64 k c.ranges.value in
    let floor : list_any (is_floor t k) c.args.lits.now ≡ true = ap (λ z. list_any (is_floor t z) c.args.lits.now) (sym plain) ∙ sym c.has_floor.ensures ∙ c.if-has_floor.true in
    let its : c.value_bit.result ≡ value_bit t k = c.value_bit.ensures ∙ ap (value_bit t) plain in
    c.bit.ensures n below ∙ ap (λ x. x == n) its ∙ and_true (value_bit t k == n) (list_any (is_floor t k) c.args.lits.now) floor
    ∙ sym (upper_bound n c.args.a c.args.b t k c.args.lits.now c.in-At.is c.in-Zero-b.is)

pub returns-else-has_floor : goal.returns-else-has_floor
returns-else-has_floor c n below =
    let t = c.in-At.term in
    let k = c.args.value in
    let plain : to_z w64 (of_z w64 k) ≡ k = to_z-of_z w64 k c.ranges.value in
    let floor : list_any (is_floor t k) c.args.lits.now ≡ false = ap (λ z. list_any (is_floor t z) c.args.lits.now) (sym plain) ∙ sym c.has_floor.ensures ∙ c.if-has_floor.false in
    no_bits n ∙ and_false (value_bit t k == n) (list_any (is_floor t k) c.args.lits.now) floor
    ∙ sym (upper_bound n c.args.a c.args.b t k c.args.lits.now c.in-At.is c.in-Zero-b.is)
