-- One step of the reading of a comment.
use Rattle.std.proofs.Common.{◌≡◌, ℕ, zero, suc, ◌+◌, ◌-◌, ◌<◌, ◌≤◌, Bool, true, false, cond, List, [], ◌∷◌, length, drop, get_or, Some, None, Option, refl, ap, ◌∙◌, sym, arith, add-one}
use Rattle.std.proofs.lemmas.List.{drop_more, drop_all, at_drop_more}
use Rattle.cub_lexer.specs.Comment.{end_of, is_opening, is_closing}

pub drop_two : (xs : List ℕ) (at : ℕ) → at + 2 ≤ length xs → drop at xs ≡ get_or xs at 0 ∷ get_or xs (at + 1) 0 ∷ drop (at + 2) xs
drop_two xs at h =
    let first : at < length xs = omega arith in
    let second : at + 1 < length xs = omega arith in
    let next : (at + 1) + 1 ≡ at + 2 = omega arith in
    drop_more xs at 0 first ∙ ap (λ ys. get_or xs at 0 ∷ ys) (drop_more xs (at + 1) 0 second ∙ ap (λ n. get_or xs (at + 1) 0 ∷ drop n xs) next)

pub end_of_opening : (xs : List ℕ) (depth at : ℕ) → 0 < depth → at + 2 ≤ length xs → is_opening (get_or xs at 0) (get_or xs (at + 1) 0) ≡ true →
    end_of depth at (drop at xs) ≡ end_of (depth + 1) (at + 2) (drop (at + 2) xs)
unfolding end_of
end_of_opening xs zero at h l e = absurd (omega arith)
end_of_opening xs (suc d) at h l e = rw add-one (ap (end_of (suc d) at) (drop_two xs at l) ∙ rw e refl)

pub end_of_closing : (xs : List ℕ) (depth at : ℕ) → 0 < depth → at + 2 ≤ length xs → is_opening (get_or xs at 0) (get_or xs (at + 1) 0) ≡ false →
    is_closing (get_or xs at 0) (get_or xs (at + 1) 0) ≡ true → end_of depth at (drop at xs) ≡ end_of (depth - 1) (at + 2) (drop (at + 2) xs)
unfolding end_of
end_of_closing xs zero at h l o e = absurd (omega arith)
end_of_closing xs (suc d) at h l o e =
    let less : suc d - 1 ≡ d = omega arith in
    rw less (ap (end_of (suc d) at) (drop_two xs at l) ∙ rw (o, e) refl)

pub end_of_other : (xs : List ℕ) (depth at : ℕ) → 0 < depth → at + 2 ≤ length xs → is_opening (get_or xs at 0) (get_or xs (at + 1) 0) ≡ false →
    is_closing (get_or xs at 0) (get_or xs (at + 1) 0) ≡ false → end_of depth at (drop at xs) ≡ end_of depth (at + 1) (drop (at + 1) xs)
unfolding end_of
end_of_other xs zero at h l o e = absurd (omega arith)
end_of_other xs (suc d) at h l o e =
    let second : at + 1 < length xs = omega arith in
    let next : (at + 1) + 1 ≡ at + 2 = omega arith in
    ap (end_of (suc d) at) (drop_two xs at l) ∙ rw (o, e) (ap (end_of (suc d) (at + 1)) (sym (drop_more xs (at + 1) 0 second ∙ ap (λ n. get_or xs (at + 1) 0 ∷ drop n xs) next)))

pub end_of_short : (t : List ℕ) (depth at : ℕ) → 0 < depth → length t < 2 → end_of depth at t ≡ None
unfolding end_of
end_of_short t zero at h l = absurd (omega arith)
end_of_short [] (suc d) at h l = refl
end_of_short (b ∷ []) (suc d) at h l = refl
end_of_short (b ∷ c ∷ t) (suc d) at h l = absurd (omega arith)
