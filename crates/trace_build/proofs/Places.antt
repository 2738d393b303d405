-- Where a place stands in a list, step by step, and lists that are built by numbers.
use Rattle.std.proofs.Common.{◌≡◌, ℕ, suc, ◌+◌, ◌<◌, ◌≤◌, true, false, List, [], ◌∷◌, ◌++◌, map, drop, length, get_or, sym, ap, ◌∙◌, arith, add-one}
use Rattle.std.specs.Prelude.{◌==◌, if◌then◌else◌}
use Rattle.std.specs.List.{range_with_len}
use Rattle.std.proofs.Math.Seq.{drop-cons}
use Rattle.std.proofs.lemmas.List.{drop_all}
use Rattle.trace_laws.specs.Standing.{position}
use Rattle.trace_build.proofs.PickLemmas.{range_next, map_append}

pub drop_more : {X : Type 0} (xs : List X) (i : ℕ) (d : X) → i < length xs → drop i xs ≡ get_or xs i d ∷ drop (i + 1) xs
drop_more xs i d inside = drop-cons xs i d inside ∙ ap (λ n. get_or xs i d ∷ drop n xs) (sym (add-one i))

pub position_here : (xs : List ℕ) (q at : ℕ) → at < length xs → (get_or xs at 0 == q) ≡ true → position (drop at xs) q ≡ 0
position_here xs q at inside h = ap (λ ys. position ys q) (drop_more xs at 0 inside) ∙ ap (λ b. if b then 0 else suc (position (drop (at + 1) xs) q)) h

pub position_past : (xs : List ℕ) (q at : ℕ) → at < length xs → (get_or xs at 0 == q) ≡ false → at + position (drop at xs) q ≡ (at + 1) + position (drop (at + 1) xs) q
position_past xs q at inside h =
    let here : position (drop at xs) q ≡ suc (position (drop (at + 1) xs) q) =
    ap (λ ys. position ys q) (drop_more xs at 0 inside) ∙ ap (λ b. if b then 0 else suc (position (drop (at + 1) xs) q)) h in
    omega arith

pub position_end : (xs : List ℕ) (q at : ℕ) → length xs ≤ at → position (drop at xs) q ≡ 0
position_end xs q at past = ap (λ ys. position ys q) (drop_all at xs past)

pub map_next : {B : Type 0} (f : ℕ → B) (n : ℕ) → map f (range_with_len 0 (n + 1)) ≡ map f (range_with_len 0 n) ++ f n ∷ []
map_next f n = ap (map f) (range_next n) ∙ map_append f (range_with_len 0 n) (n ∷ [])
