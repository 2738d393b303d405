-- The ways through the branches of an update: which one counts, and which literal fails of each earlier condition.
use Rattle.std.specs.Prelude.{ℕ, ◌+◌, List, [], ◌∷◌, ◌++◌, length, map, take, slice_get, slice_index_or, true}
use Rattle.std.specs.List.{flat_map, range_with_len}
use Rattle.std.specs.Option.{option_map_or}
use Rattle.cub_proto.specs.declared.literal.Lit.{Lit}
use Rattle.cub_proto.specs.declared.literal.Value.{Value}
use Rattle.cub_proto.specs.declared.transition.Branch.{Branch}
use Rattle.cub_proto.specs.declared.transition.Update.{Update}
use Rattle.cub_proto.specs.Signature.{Signature}
use Rattle.cub_proto.specs.Negation.{negated}
use Rattle.cub_cube.specs.Replace.{constant}

-- all lists with one item of each list, in lexicographic order
abbrev pub product : {A : Type 0} → List (List A) → List (List A)
product [] = [] ∷ []
product (xs ∷ xss) = flat_map (λ x. map (λ ys. x ∷ ys) (product xss)) xs

-- the numbers of the items of a list
abbrev pub numbers : {A : Type 0} → List A → List ℕ
numbers xs = range_with_len 0 (length xs)

-- the number of the branch that counts, that of the last value being the number of branches, and for each earlier
-- branch the number of the literal of its condition that fails
pub record Way : Type 0 where
  pub branch : ℕ
  pub fails : List ℕ

abbrev pub way : ℕ → List ℕ → Way
way branch fails = record { branch = branch; fails = fails }

-- one failing literal of each condition; an empty condition has none, so nothing goes past a branch that has it
abbrev pub failures : List Branch → List (List ℕ)
failures branches = product (map (λ b. numbers b.cond) branches)

-- all ways, by branch first
abbrev pub ways : List Branch → List Way
ways branches = flat_map (λ n. map (way n) (failures (take n branches))) (range_with_len 0 (length branches + 1))

-- the negation of the failing literal of each condition
abbrev pub failing : Signature → List Branch → List ℕ → List Lit
failing sig [] fails = []
failing sig (b ∷ bs) [] = []
failing sig (b ∷ bs) (f ∷ fs) = negated sig (slice_index_or b.cond f (constant true)) ∷ failing sig bs fs

-- the condition of a branch; the last value has none
abbrev pub condition : List Branch → ℕ → List Lit
condition branches n = option_map_or (λ b. b.cond) (slice_get branches n) []

-- what is true where a way counts: its branch's condition, and of each earlier one the negation of the failing literal
abbrev pub way_lits : Signature → List Branch → Way → List Lit
way_lits sig branches w = condition branches w.branch ++ failing sig (take w.branch branches) w.fails

-- the value of a branch, or the last one
abbrev pub way_value : Update → ℕ → Value
way_value u n = option_map_or (λ b. b.value) (slice_get u.branches n) u.last
