-- What the code's insertion by number makes is the insertion of the definition.
use Rattle.std.proofs.Common.{◌≡◌, ℕ, ◌-◌, ◌<◌, ◌≤◌, List, ◌∷◌, ◌++◌, length, get_or, set, take, drop, refl, ap, ◌∙◌, subst, arith}
use Rattle.std.specs.Prelude.{IsTrue, All, ◌≢◌}
use Rattle.std.proofs.lemmas.List.{get_or_default}
use Rattle.std.proofs.lemmas.List.Elements.{recursion_from_All}
use Rattle.std.specs.declared.cmp.Ordering.{Ordering}
use Rattle.std.specs.declared.cmp.Ordering.TheVariants.{Less, Equal, Greater}
use Rattle.cub_proto.specs.declared.literal.Lit.{Lit}
use Rattle.cub_cube.specs.Normal.{subject_cmp, joined, inserted, subjects_rise}
use Rattle.cub_cube.proofs.Form.{inserted_at, joined_at}

last_case : (o : Ordering) → o ≢ Less → o ≢ Equal → o ≡ Greater
last_case Less h k = absurd (h refl)
last_case Equal h k = absurd (k refl)
last_case Greater h k = refl

pub joined_before : (form : List Lit) (l : Lit) (n : ℕ) (x j : Lit) → IsTrue (subjects_rise form) → 0 < n → n ≤ length form → subject_cmp l (get_or form (n - 1) l) ≡ Equal
    → x ≡ get_or form (n - 1) x → j ≡ joined x l → set form (n - 1) j ≡ inserted form l
joined_before form l n x j rises some within same read is =
    let inside : n - 1 < length form = omega arith in
    ap (λ y. set form (n - 1) y) (is ∙ ap (λ y. joined y l) (read ∙ get_or_default form (n - 1) x l inside))
    ∙ joined_at form l (n - 1) rises inside same

pub inserted_before : (form : List Lit) (l : Lit) (n : ℕ) → IsTrue (subjects_rise form) → n ≤ length form → All (λ m. subject_cmp l m ≡ Less) (drop n form)
    → (0 < n → subject_cmp l (get_or form (n - 1) l) ≢ Less) → (0 < n → subject_cmp l (get_or form (n - 1) l) ≢ Equal) → take n form ++ l ∷ drop n form ≡ inserted form l
inserted_before form l n rises within after not_less not_equal =
    inserted_at form l n rises within (recursion_from_All (λ m. subject_cmp l m ≡ Less) (drop n form) after)
    (λ k e. let some : 0 < n = omega arith in let same : n - 1 ≡ k = omega arith in
    subst (λ i. subject_cmp l (get_or form i l) ≡ Greater) same (last_case (subject_cmp l (get_or form (n - 1) l)) (not_less some) (not_equal some)))
