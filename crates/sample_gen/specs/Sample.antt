-- The sample protocol: processes climb through levels, the first step alone, the second while nobody else is between.
use Rattle.std.specs.Prelude.{ℕ, ◌+◌, ◌-◌, ◌^◌, List, [], ◌∷◌, ◌++◌, map, codes}
use Rattle.std.specs.List.{range_with_len}
use Rattle.std.specs.Fmt.{decimal}
use Rattle.cub_proto.specs.declared.literal.Sort.{Sort}
use Rattle.cub_proto.specs.declared.literal.Term.{Term}
use Rattle.cub_proto.specs.declared.literal.PSide.{PSide}
use Rattle.cub_proto.specs.declared.literal.Lit.{Lit}
use Rattle.cub_proto.specs.declared.literal.Value.{Value}
use Rattle.cub_proto.specs.declared.transition.Target.{Target}
use Rattle.cub_proto.specs.declared.transition.Branch.{Branch}
use Rattle.cub_proto.specs.declared.transition.Update.{Update}
use Rattle.cub_proto.specs.declared.transition.Transition.{Transition}
use Rattle.cub_proto.specs.declared.protocol.SortDecl.{SortDecl}
use Rattle.cub_proto.specs.declared.protocol.Decl.{Decl}
use Rattle.cub_proto.specs.declared.protocol.Goal.{Goal}
use Rattle.cub_proto.specs.declared.protocol.Protocol.{Protocol}
use Rattle.cub_proto.specs.Parts.{HasParts}

-- the names of the levels and of the steps are a word and a number
abbrev pub level_name : ℕ → List ℕ
level_name n = codes "L" ++ decimal n

abbrev pub step_name : ℕ → List ℕ
step_name n = codes "up" ++ decimal n

abbrev pub bool_sort : SortDecl
bool_sort = record { name = codes "bool"; cons = codes "False" ∷ codes "True" ∷ [] }

-- the levels 0 to `top`
abbrev pub level_sort : ℕ → SortDecl
level_sort top = record { name = codes "level"; cons = map level_name (range_with_len 0 (top + 1)) }

abbrev pub sorts : ℕ → List SortDecl
sorts top = bool_sort ∷ level_sort top ∷ []

-- each process has a level
abbrev pub arrays : List Decl
arrays = record { name = codes "A"; sort = Sort.Fin 1 } ∷ []

-- the place is on the level
abbrev pub is_on : ℕ → ℕ → Lit
is_on place level = Lit.FinIn (Term.Cell 0 place) (2 ^ level)

-- the place is on another level
abbrev pub is_not_on : ℕ → ℕ → ℕ → Lit
is_not_on top place level = Lit.FinIn (Term.Cell 0 place) (2 ^ (top + 1) - 1 - 2 ^ level)

-- all start on the lowest level
abbrev pub start : List (List Lit)
start = (is_on 0 0 ∷ []) ∷ []

-- two on the highest are unsafe
abbrev pub goals : ℕ → List Goal
goals top = record { width = 2; lits = is_on 0 top ∷ is_on 1 top ∷ [] } ∷ []

-- the process of the place 0 goes to the level, and each other one stays
abbrev pub climb : ℕ → Update
climb level = record {
  target = Target.Array 0;
  branches = record { cond = Lit.ProcEq (PSide.Place 0) (PSide.Place 1) ∷ []; value = Value.Con level } ∷ [];
  last = Value.Read (Term.Cell 0 1);
}

-- a process climbs from a level to the next, under what it asks of the others
abbrev pub step : List (List Lit) → ℕ → Transition
step others from = record {
  name = step_name (from + 1);
  params = 1;
  guard = (is_on 0 from ∷ []) ∷ [];
  others = others;
  updates = climb (from + 1) ∷ [];
}

-- the first step asks that nobody has climbed, the second that nobody else is on its level, the others nothing
abbrev pub transitions : ℕ → List Transition
transitions top =
    step ((is_on 1 0 ∷ []) ∷ []) 0 ∷ step ((is_not_on top 1 1 ∷ []) ∷ []) 1
    ∷ map (step ([] ∷ [])) (range_with_len 2 (top - 2))

-- the sample protocol of the levels 0 to `top`
abbrev pub IsSample : ℕ → Protocol → Type 0
IsSample top p = HasParts p (sorts top) [] arrays start (goals top) (transitions top)
