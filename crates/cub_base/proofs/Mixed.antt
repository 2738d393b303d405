-- A list that is written over another from the front.
use Rattle.std.proofs.Common.{◌≡◌, ℕ, ◌+◌, ◌<◌, ◌≤◌, List, [], ◌∷◌, ◌++◌, length, get_or, take, drop, set, sym, ap, ◌∙◌, arith, append_assoc}
use Rattle.std.proofs.lemmas.List.{drop_more, take_more, set_at, length-take-le, length-append, length-drop, take_all, drop_all, append-nil}

-- a list that is written over another from the front: i elements are new
pub length_mix : {A : Type 0} (ys zs : List A) (i : ℕ) → i ≤ length ys → length zs ≡ length ys → length (take i ys ++ drop i zs) ≡ length ys
length_mix ys zs i h same =
    let a = length-append (take i ys) (drop i zs) in
    let b = length-take-le i ys h in
    let c = length-drop i zs in
    omega arith

pub mix_more : {A : Type 0} (ys zs : List A) (i : ℕ) (v d : A) → i < length ys → length zs ≡ length ys → v ≡ get_or ys i d → set (take i ys ++ drop i zs) i v ≡ take (i + 1) ys ++ drop (i + 1) zs
mix_more ys zs i v d h same is =
    let rest = drop (i + 1) zs in
    ap (λ t. set (take i ys ++ t) i v) (drop_more zs i d (omega arith))
    ∙ set_at (take i ys) (get_or zs i d) rest v i (length-take-le i ys (omega arith))
    ∙ ap (λ t. take i ys ++ t ∷ rest) is
    ∙ sym (append_assoc (take i ys) (get_or ys i d ∷ []) rest)
    ∙ ap (λ t. t ++ rest) (sym (take_more ys i d h))

pub mix_whole : {A : Type 0} (ys zs : List A) (i : ℕ) → length zs ≡ length ys → length ys ≤ i → take i ys ++ drop i zs ≡ ys
mix_whole ys zs i same h =
    ap (λ t. t ++ drop i zs) (take_all i ys h) ∙ ap (λ t. ys ++ t) (drop_all i zs (omega arith)) ∙ append-nil ys
