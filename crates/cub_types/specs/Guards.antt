-- Guards. A `forall_other` is a conjunct of a guard, or of the formula of another such `forall_other`; all of them together
-- are one universal guard, and their variables are one place.
use Rattle.std.specs.Prelude.{◌≡◌, ℕ, zero, suc, Bool, true, false, ◌&&◌, ◌||◌, not, ◌==◌, if◌then◌else◌, List, [], ◌∷◌, ◌++◌, map, Option, Some, None}
use Rattle.cub_parse.specs.declared.tree.Leaf.{Leaf}
use Rattle.cub_parse.specs.declared.tree.FormNode.{FormNode}
use Rattle.cub_parse.specs.declared.tree.FormNode.TheOpen.{FormNode-F}
use Rattle.cub_parse.specs.declared.tree.FormNode.TheViews.{out-FormNode}
use Rattle.cub_dnf.specs.declared.formula.Formula.{Formula}
use Rattle.cub_names.specs.declared.fault.TypeKind.TheVariants as t
use Rattle.cub_names.specs.declared.fault.Fault.{Fault}
use Rattle.cub_names.specs.declared.scope.Local.{Local}
use Rattle.cub_names.specs.Checked.{Checked, fault, in_front, appended}
use Rattle.cub_names.specs.Words.{word_of}
use Rattle.cub_names.specs.Meaning.{Frame}
use Rattle.cub_names.specs.Scope.{place_of, is_value}
use Rattle.cub_types.specs.Formulas.{form}

-- the conjuncts of the guard itself and of the universal guard, each where all of them are known
pub record Split : Type 0 where
  pub own : Option (List Formula)
  pub others : Option (List Formula)
  pub faults : List Fault

abbrev pub nothing : Split
nothing = record { own = Some []; others = Some []; faults = [] }

abbrev pub beside : Split → Split → Split
beside a b = record { own = appended a.own b.own; others = appended a.others b.others; faults = a.faults ++ b.faults }

abbrev pub all_beside : List Split → Split
all_beside [] = nothing
all_beside (s ∷ ss) = beside s (all_beside ss)

-- a conjunct that is no `forall_other`
abbrev pub own_conjunct : Checked Formula → Split
own_conjunct x = record { own = in_front x.value (Some []); others = Some []; faults = x.faults }

abbrev pub is_other_place : ℕ → Option ℕ → Bool
is_other_place place None = false
is_other_place place (Some other) = not (other == place)

-- T02 for a declared name, or for that of a parameter
abbrev pub variable_faults : Frame → ℕ → List Local → Leaf → List Fault
variable_faults frame place scope name =
    if is_value frame name || is_other_place place (place_of frame.text scope (word_of frame.text name)) then fault name.number t.T02 ∷ [] else []

-- what stands in a `forall_other` is all of the universal guard
abbrev pub universal : List Fault → Split → Split
universal faults s = record { own = Some []; others = appended s.own s.others; faults = faults ++ s.faults }

abbrev pub local : Leaf → ℕ → Local
local name place = record { name = name; place = place }

module _ (frame : Frame) (place : ℕ) where
  -- a whole guard, its conjuncts being split so
  abbrev pub whole_of : (List Local → FormNode → Split) → List Local → FormNode → FormNode-F FormNode → Split
  whole_of conjunct scope node (FormNode-F.And nodes) = all_beside (map (conjunct scope) nodes)
  whole_of conjunct scope node layer = conjunct scope node

  -- a conjunct; `below` splits what stands a level deeper
  abbrev pub conjunct_of : (List Local → FormNode → Split) → List Local → FormNode → FormNode-F FormNode → Split
  conjunct_of below scope node (FormNode-F.Forall word name body) =
      universal (variable_faults frame place scope name) (whole_of below (scope ++ local name place ∷ []) body (out-FormNode body))
  conjunct_of below scope node layer = own_conjunct (form false frame scope node)

  -- the grammar has at most 64 levels, so that no `forall_other` of a text is deeper than this goes
  abbrev pub conjunct : ℕ → List Local → FormNode → Split
  conjunct zero scope node = own_conjunct (form false frame scope node)
  conjunct (suc levels) scope node = conjunct_of (conjunct levels) scope node (out-FormNode node)

  -- a conjunct, with so many levels below it
  abbrev pub split_below : ℕ → List Local → FormNode → Split
  split_below below scope node = conjunct_of (conjunct below) scope node (out-FormNode node)

  abbrev pub whole : ℕ → List Local → FormNode → Split
  whole levels scope node = whole_of (conjunct levels) scope node (out-FormNode node)
