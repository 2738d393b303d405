-- The list of steps as it is made: what one more push gives.
use Rattle.std.proofs.Common.{◌≡◌, ℕ, zero, suc, ◌+◌, ◌<◌, ◌≤◌, List, [], ◌∷◌, ◌++◌, length, take, Some, refl, sym, ap, ◌∙◌, arith}
use Rattle.std.specs.Prelude.{map, nat_le, IsTrue, slice_index_or}
use Rattle.std.specs.List.{flat_map, range_with_len, list_all}
use Rattle.std.proofs.lemmas.List.{append_assoc, append-nil}
use Rattle.std.proofs.lemmas.List.Concat.{flat_map-append}
use Rattle.cub_base.specs.Numbered.{map_from}
use Rattle.cub_base.proofs.Bools.{and_left, and_right, and_both, is_le, le_is}
use Rattle.cub_proto.specs.declared.transition.Target.{Target}
use Rattle.cub_proto.specs.declared.transition.Update.{Update}
use Rattle.cub_proto.specs.Signature.{Signature, target_sort}
use Rattle.cub_proto.specs.Fits.{update_fits, update_width}
use Rattle.cub_proto.specs.Effect.{update_of}
use Rattle.updates.proofs.StepLemmas.{all_member}
use Rattle.piece_choices.proofs.Widths.{find_has}
use Rattle.cub_proto.specs.Effect.{same_target}
use Rattle.piece_steps.specs.Steps.{Step}
use Rattle.pieces.specs.declared.step.Step.{Step as CodeStep}
use Rattle.pieces.specs.Jobs.{as_step}
use Rattle.pieces.proofs.HandsLemmas.{range_end}
use Rattle.pieces.proofs.UpdateFacts.{few_by}

map_append : {A B : Type 0} (f : A → B) (xs ys : List A) → map f (xs ++ ys) ≡ map f xs ++ map f ys
map_append f [] ys = refl
map_append f (x ∷ xs) ys = ap (λ zs. f x ∷ zs) (map_append f xs ys)

-- one more step of a range
pub one_pushed : (f : ℕ → Step) (codes new : List CodeStep) (c : CodeStep) (old : List Step) (k : ℕ) → new ≡ codes ++ c ∷ [] → as_step c ≡ f k → map as_step codes ≡ old ++ map f (range_with_len 0 k) → map as_step new ≡ old ++ map f (range_with_len 0 (k + 1))
one_pushed f codes new c old k pushed same h =
    ap (map as_step) pushed ∙ map_append as_step codes (c ∷ []) ∙ ap (λ xs. xs ++ as_step c ∷ []) h ∙ append_assoc old (map f (range_with_len 0 k)) (as_step c ∷ [])
    ∙ ap (λ s. old ++ (map f (range_with_len 0 k) ++ s ∷ [])) same
    ∙ ap (λ xs. old ++ xs) (sym (map_append f (range_with_len 0 k) (k ∷ [])) ∙ ap (map f) (sym (range_end k)))

-- one more list of a numbered map
map_from_end : {A B : Type 0} (f : ℕ → A → B) (from : ℕ) (xs : List A) (d : A) (k : ℕ) → k < length xs → map_from f from (take (k + 1) xs) ≡ map_from f from (take k xs) ++ f (from + k) (slice_index_or xs k d) ∷ []
map_from_end f from [] d k below = absurd (omega arith)
map_from_end f from (x ∷ xs) d zero below =
    let none : from ≡ from + 0 = omega arith in
    ap (λ n. f n x ∷ []) none
map_from_end f from (x ∷ xs) d (suc k) below =
    let one : suc k + 1 ≡ suc (k + 1) = omega arith in
    let next : from + 1 + k ≡ from + suc k = omega arith in
    ap (λ n. map_from f from (take n (x ∷ xs))) one ∙ ap (λ ys. f from x ∷ ys) (map_from_end f (from + 1) xs d k (omega arith)) ∙ ap (λ n. f from x ∷ (map_from f (from + 1) (take k xs) ++ f n (slice_index_or xs k d) ∷ [])) next

pub lists_more : {A B : Type 0} (f : ℕ → A → List B) (xs : List A) (d : A) (k : ℕ) → k < length xs → flat_map (λ ys. ys) (map_from f 0 (take (k + 1) xs)) ≡ flat_map (λ ys. ys) (map_from f 0 (take k xs)) ++ f k (slice_index_or xs k d)
lists_more f xs d k below =
    let none : 0 + k ≡ k = omega arith in
    ap (flat_map (λ ys. ys)) (map_from_end f 0 xs d k below) ∙ flat_map-append (λ ys. ys) (map_from f 0 (take k xs)) (f (0 + k) (slice_index_or xs k d) ∷ [])
    ∙ ap (λ zs. flat_map (λ ys. ys) (map_from f 0 (take k xs)) ++ zs) (append-nil (f (0 + k) (slice_index_or xs k d)) ∙ ap (λ n. f n (slice_index_or xs k d)) none)

pub lists_pushed : {A : Type 0} (f : ℕ → A → List Step) (xs : List A) (d : A) (codes new : List CodeStep) (old : List Step) (k : ℕ) → k < length xs → map as_step new ≡ map as_step codes ++ f k (slice_index_or xs k d)
    → map as_step codes ≡ old ++ flat_map (λ ys. ys) (map_from f 0 (take k xs)) → map as_step new ≡ old ++ flat_map (λ ys. ys) (map_from f 0 (take (k + 1) xs))
lists_pushed f xs d codes new old k below pushed h =
    pushed ∙ ap (λ zs. zs ++ f k (slice_index_or xs k d)) h ∙ append_assoc old (flat_map (λ ys. ys) (map_from f 0 (take k xs))) (f k (slice_index_or xs k d)) ∙ ap (λ zs. old ++ zs) (sym (lists_more f xs d k below))

-- an update that is found has few branches
pub found_few : (updates : List Update) (target : Target) (u : Update) → IsTrue (list_all (λ v. nat_le (length v.branches) 64) updates) → update_of updates target ≡ Some u → length u.branches ≤ 64
found_few updates target u h is = le_is (length u.branches) 64 (all_member (λ v. nat_le (length v.branches) 64) updates u h (find_has (λ v. same_target v.target target) updates u is))

pub all_few : (sig : Signature) (params : ℕ) (updates : List Update) → IsTrue (list_all (update_fits sig params) updates) → IsTrue (list_all (λ v. nat_le (length v.branches) 64) updates)
all_few sig params [] h = refl
all_few sig params (u ∷ us) h =
    and_both (nat_le (length u.branches) 64) (list_all (λ v. nat_le (length v.branches) 64) us)
    (is_le (length u.branches) 64 (few_by sig (update_width params u.target) (target_sort sig u.target) u (and_left (update_fits sig params u) (list_all (update_fits sig params) us) h)))
    (all_few sig params us (and_right (update_fits sig params u) (list_all (update_fits sig params) us) h))
