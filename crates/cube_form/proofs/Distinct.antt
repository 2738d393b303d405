-- The literals of a renamed normal form are those of the form, renamed.
use Rattle.std.proofs.Common.{◌≡◌, ◌⊎◌, ℕ, Bool, true, false, cond, List, [], ◌∷◌, length, refl, sym, ap, ◌∙◌, subst, inl, inr}
use Rattle.std.specs.Prelude.{not, IsTrue, Contains, fold}
use Rattle.std.specs.List.{list_all}
use Rattle.std.specs.Ordering.{is_lt, match_ordering}
use Rattle.std.specs.declared.cmp.Ordering.{Ordering}
use Rattle.std.specs.declared.cmp.Ordering.TheVariants.{Less, Equal, Greater}
use Rattle.std.proofs.lemmas.Cmp.{tied_itself}
use Rattle.cub_base.proofs.Bools.{and_left, and_right}
use Rattle.cub_base.proofs.Members.{Has, has_Contains, contains_Has, map_has, all_has}
use Rattle.cub_base.proofs.Elements.{all_from}
use Rattle.cub_proto.specs.declared.literal.Lit.{Lit}
use Rattle.cub_proto.specs.Signature.{Signature}
use Rattle.cub_proto.specs.Order.{lit_cmp}
use Rattle.cub_cube.specs.Normal.{ordered, subject, subject_cmp, joined, inserted, placed, normal_form, subjects_rise, has_ordered_sides, is_plain, is_true_alone}
use Rattle.cub_cube.specs.Rename.{along, renamed, renamed_all, is_within}
use Rattle.cub_cube.proofs.Orders.{lit_cmp_total}
use Rattle.cub_cube.proofs.Subjects.{one_subject}
use Rattle.cub_cube.proofs.Placing.{identity}
use Rattle.cube_form.proofs.Renaming.{twice, same_literal}
use Rattle.cube_form.proofs.Literals.{ordered_stays, same_subject, subject-renamed, subject-ordered, ordered_through}

-- ---- members of a fold where no two literals have one subject
abbrev Apart : Lit → List Lit → Type 0
Apart l ms = (m : Lit) → Has ms m → subject_cmp l m ≡ Equal → ⊥

inserted_has : (form : List Lit) (l x : Lit) → Apart l form → Has (inserted form l) x → (x ≡ l) ⊎ Has form x
inserted_has [] l x apart (inl same) = inl (sym same)
inserted_has [] l x apart (inr later) = absurd later
inserted_has (m ∷ ms) l x apart h = by (subject_cmp l m) refl (λ g. inserted_has ms l x (λ n there. apart n (inr there)) g) h
  where
    further : (x ≡ l) ⊎ Has ms x → (x ≡ l) ⊎ Has (m ∷ ms) x
    further (inl same) = inl same
    further (inr there) = inr (inr there)

    by : (o : Ordering) → subject_cmp l m ≡ o → (Has (inserted ms l) x → (x ≡ l) ⊎ Has ms x)
        → Has (match_ordering o (l ∷ m ∷ ms) (joined m l ∷ ms) (m ∷ inserted ms l)) x → (x ≡ l) ⊎ Has (m ∷ ms) x
    by Less e rest (inl same) = inl (sym same)
    by Less e rest (inr there) = inr there
    by Equal e rest g = absurd (apart m (inl refl) e)
    by Greater e rest (inl same) = inr (inl same)
    by Greater e rest (inr there) = further (rest there)

placed_has : (sig : Signature) (form : List Lit) (l x : Lit) → Apart (ordered l) form → Has (placed sig form l) x → (x ≡ ordered l) ⊎ Has form x
placed_has sig form l x apart h = by (is_true_alone sig l) h
  where
    by : (b : Bool) → Has (cond b form (inserted form (ordered l))) x → (x ≡ ordered l) ⊎ Has form x
    by true g = inr g
    by false g = inserted_has form (ordered l) x apart g

-- none of the literals has, ordered, the subject of a later one
abbrev pub AllApart : List Lit → Type 0
AllApart [] = Unit {0}
AllApart (l ∷ ls) = ((m : Lit) → Has ls m → subject_cmp (ordered m) (ordered l) ≡ Equal → ⊥) × AllApart ls

fold_has : (sig : Signature) (form lits : List Lit) (x : Lit) → AllApart lits → ((m : Lit) → Has lits m → Apart (ordered m) form) → Has (fold (placed sig) form lits) x
    → Has form x ⊎ ((y : Lit) × Has lits y × (x ≡ ordered y))
fold_has sig form [] x apart new h = inl h
fold_has sig form (l ∷ ls) x apart new h = by (fold_has sig (placed sig form l) ls x apart.1 (λ m there n has. by_new m there n (placed_has sig form l n (new l (inl refl)) has)) h)
  where
    by_new : (m : Lit) → Has ls m → (n : Lit) → (n ≡ ordered l) ⊎ Has form n → subject_cmp (ordered m) n ≡ Equal → ⊥
    by_new m there n (inl same) e = apart.0 m there (subst (λ x. subject_cmp (ordered m) x ≡ Equal) same e)
    by_new m there n (inr has) e = new m (inr there) n has e

    first : (x ≡ ordered l) ⊎ Has form x → Has form x ⊎ ((y : Lit) × Has (l ∷ ls) y × (x ≡ ordered y))
    first (inl same) = inr (l, inl refl, same)
    first (inr has) = inl has

    by : Has (placed sig form l) x ⊎ ((y : Lit) × Has ls y × (x ≡ ordered y)) → Has form x ⊎ ((y : Lit) × Has (l ∷ ls) y × (x ≡ ordered y))
    by (inl has) = first (placed_has sig form l x (new l (inl refl)) has)
    by (inr found) = inr (found.0, inr found.1, found.2)

pub form_has : (sig : Signature) (lits : List Lit) (x : Lit) → AllApart lits → Contains (normal_form sig lits) x → (y : Lit) × Contains lits y × (x ≡ ordered y)
form_has sig lits x apart h = by (fold_has sig [] lits x apart (λ m there n has e. absurd has) (contains_Has (normal_form sig lits) x h))
  where
    by : Has [] x ⊎ ((y : Lit) × Has lits y × (x ≡ ordered y)) → (y : Lit) × Contains lits y × (x ≡ ordered y)
    by (inl has) = absurd has
    by (inr found) = (found.0, has_Contains lits found.0 found.1, found.2)

-- ---- renamed there and back
module _ (n : ℕ) (r s : List ℕ) (size : length r ≡ n) (back : along r s ≡ identity n) where
  pub recovered : (l : Lit) → IsTrue (is_within n l) → IsTrue (has_ordered_sides l) → ordered (renamed s (ordered (renamed r l))) ≡ l
  recovered l within sides =
      ordered_through s (renamed r l)
      ∙ ap ordered (twice r s l (subst (λ m. IsTrue (is_within m l)) (sym size) within) ∙ ap (λ q. renamed q l) back ∙ same_literal n l within)
      ∙ ordered_stays l sides

  subjects_stay : (l m : Lit) → IsTrue (is_within n l) → IsTrue (has_ordered_sides l) → IsTrue (is_within n m) → IsTrue (has_ordered_sides m)
      → subject_cmp (ordered (renamed r m)) (ordered (renamed r l)) ≡ Equal → subject m ≡ subject l
  subjects_stay l m within sides m_within m_sides equal =
      ap subject (sym (recovered m m_within m_sides)) ∙ sym (through (ordered (renamed r m)))
      ∙ ap (λ x. ordered (renamed s x)) (same_subject (ordered (renamed r m)) (ordered (renamed r l)) (one_subject (ordered (renamed r m)) (ordered (renamed r l)) equal))
      ∙ through (ordered (renamed r l)) ∙ ap subject (recovered l within sides)
    where
      through : (x : Lit) → ordered (renamed s (subject x)) ≡ subject (ordered (renamed s x))
      through x = ap ordered (subject-renamed s x) ∙ subject-ordered (renamed s x)

  pub renamed_apart : (sig : Signature) (lits : List Lit) → IsTrue (list_all (is_within n) lits) → IsTrue (list_all (is_plain sig) lits) → IsTrue (subjects_rise lits) → AllApart (renamed_all r lits)
  renamed_apart sig [] within plain rise = tt
  renamed_apart sig (l ∷ ls) within plain rise = (
    λ x there equal.
        let found = map_has (renamed r) ls x there in
        later found.0 found.1 (subst (λ y. subject_cmp (ordered y) (ordered (renamed r l)) ≡ Equal) (sym found.2) equal),
    renamed_apart sig ls (and_right (is_within n l) (list_all (is_within n) ls) within) (and_right (is_plain sig l) (list_all (is_plain sig) ls) plain)
        (and_right (list_all (λ m. is_lt (subject_cmp l m)) ls) (subjects_rise ls) rise),
  )
    where
      less_is_not_equal : (o : Ordering) → IsTrue (is_lt o) → o ≡ Equal → ⊥
      less_is_not_equal Less h e = cc
      less_is_not_equal Equal h e = cc
      less_is_not_equal Greater h e = cc

      later : (m : Lit) → Has ls m → subject_cmp (ordered (renamed r m)) (ordered (renamed r l)) ≡ Equal → ⊥
      later m there equal =
          let m_within = all_has (λ x. IsTrue (is_within n x)) ls m (all_from (is_within n) ls (and_right (is_within n l) (list_all (is_within n) ls) within)) there in
          let m_plain = all_has (λ x. IsTrue (is_plain sig x)) ls m (all_from (is_plain sig) ls (and_right (is_plain sig l) (list_all (is_plain sig) ls) plain)) there in
          let less = all_has (λ x. IsTrue (is_lt (subject_cmp l x))) ls m (all_from (λ x. is_lt (subject_cmp l x)) ls (and_left (list_all (λ x. is_lt (subject_cmp l x)) ls) (subjects_rise ls) rise)) there in
          let l_plain = and_left (is_plain sig l) (list_all (is_plain sig) ls) plain in
          let same = subjects_stay l m (and_left (is_within n l) (list_all (is_within n) ls) within) (and_left (has_ordered_sides l) (not (is_true_alone sig l)) l_plain)
          m_within (and_left (has_ordered_sides m) (not (is_true_alone sig m)) m_plain) equal in
          less_is_not_equal (subject_cmp l m) less (ap (lit_cmp (subject l)) same ∙ tied_itself lit_cmp_total (subject l))
