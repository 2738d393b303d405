-- Conjunctions as tests over lists, and solutions of a part of the literals.
use Rattle.std.proofs.Common.{◌≡◌, ℕ, ◌+◌, ◌<◌, true, List, [], ◌∷◌, ◌++◌, length, take, drop, get_or, ap, ◌∙◌, append_assoc}
use Rattle.std.specs.List.{list_all}
use Rattle.std.proofs.lemmas.Bool.{and_parts}
use Rattle.std.proofs.lemmas.List.{take-append-drop}
use Rattle.cub_base.proofs.Conjunctions.{list_all_front, list_all_back, append_take_more}
use Rattle.cub_proto.specs.declared.literal.PSide.{PSide}
use Rattle.cub_proto.specs.declared.literal.Lit.{Lit}
use Rattle.proc_eq.specs.Solution.{Solves, is_true}

-- what satisfies the literals of both lists satisfies those of the first
pub solves_front : (width : ℕ) (xs ys : List Lit) (v : PSide → ℕ) → Solves width (xs ++ ys) v → Solves width xs v
solves_front width xs ys v s = record { apart = s.apart; holds = list_all_front (is_true v) xs ys s.holds }

-- and makes the next literal true
pub solves_next : (width : ℕ) (xs : List Lit) (x : Lit) (ys : List Lit) (v : PSide → ℕ) → Solves width (xs ++ x ∷ ys) v → is_true v x ≡ true
solves_next width xs x ys v s = (and_parts (is_true v x) (list_all (is_true v) ys) (list_all_back (is_true v) xs (x ∷ ys) s.holds)).0

-- what satisfies the literals of both lists satisfies those up to the next of the second
pub solves_prefix : (width : ℕ) (xs ys : List Lit) (i : ℕ) (d : Lit) (v : PSide → ℕ) → i < length ys → Solves width (xs ++ ys) v
    → Solves width ((xs ++ take i ys) ++ get_or ys i d ∷ []) v
solves_prefix width xs ys i d v inside s =
    let whole : (xs ++ take (i + 1) ys) ++ drop (i + 1) ys ≡ xs ++ ys = append_assoc xs (take (i + 1) ys) (drop (i + 1) ys) ∙ ap (λ zs. xs ++ zs) (take-append-drop (i + 1) ys) in
    let t : Solves width ((xs ++ take (i + 1) ys) ++ drop (i + 1) ys) v = rw whole s in
    rw (← append_take_more xs ys i d inside) (solves_front width (xs ++ take (i + 1) ys) (drop (i + 1) ys) v t)
