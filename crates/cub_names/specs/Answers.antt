-- What typing answers: a value where no fault stands, else the first fault; or want of memory.
use Rattle.std.specs.Prelude.{◌≡◌, ℕ, List, [], Option, Some, None, Result, Ok, Err}
use Rattle.cub_parse.specs.declared.tree.DeclNode.{DeclNode}
use Rattle.cub_names.specs.declared.fault.Fault.{Fault}
use Rattle.cub_names.specs.declared.fault.TypeFault.{TypeFault}
use Rattle.cub_names.specs.declared.fault.TypeFault.TheVariants as faults
use Rattle.cub_names.specs.Checked.{fault, first_of_all}
use Rattle.cub_names.specs.Meaning.{Frame}
use Rattle.cub_names.specs.Declarations.{declared, declared_faults}

-- the refusal names the first of the faults, unless memory ran out
abbrev pub IsRefusal : TypeFault → List Fault → Type 0
IsRefusal (faults.Fault token kind) all = first_of_all None all ≡ Some (fault token kind)
IsRefusal faults.Memory all = Unit {0}

abbrev pub IsVerdict : Result (Unit {0}) TypeFault → Option Fault → Type 0
IsVerdict (Ok done) first = first ≡ None
IsVerdict (Err (faults.Fault token kind)) first = first ≡ Some (fault token kind)
IsVerdict (Err faults.Memory) first = ⊥

abbrev pub IsJudged : Result (Unit {0}) TypeFault → List Fault → Type 0
IsJudged (Ok done) all = all ≡ []
IsJudged (Err e) all = IsRefusal e all

-- the names are those of the text where its declarations have no fault
abbrev pub IsNamed : Result Frame TypeFault → List ℕ → List DeclNode → Type 0
IsNamed (Ok names) text decls = (names.text ≡ text) × (names.sig ≡ declared text decls) × (declared_faults text decls ≡ [])
IsNamed (Err e) text decls = IsRefusal e (declared_faults text decls)
