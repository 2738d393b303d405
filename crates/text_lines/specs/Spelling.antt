-- How processes, slots and values are written. Processes, goals and steps count from 1 there.
use Rattle.std.specs.Prelude.{ℕ, ◌+◌, List, [], ◌∷◌, ◌++◌, flat_map, codes, decimal, Option, Some, None, slice_get}
use Rattle.std.specs.Fmt.{signed_decimal}
use Rattle.std.specs.List.{join_by}
use Rattle.std.specs.Option.{option_map_or}
use Rattle.cub_proto.specs.declared.literal.Sort.{Sort}
use Rattle.cub_proto.specs.declared.literal.Sort.TheVariants as Sort
use Rattle.cub_proto.specs.declared.protocol.Decl.{Decl}
use Rattle.cub_proto.specs.declared.protocol.SortDecl.{SortDecl}
use Rattle.cub_proto.specs.declared.protocol.Protocol.{Protocol}
use Rattle.cub_proto.specs.declared.state.Slot.{Slot}
use Rattle.cub_proto.specs.declared.state.Slot.TheVariants as Slot
use Rattle.cub_proto.specs.declared.state.Val.{Val}
use Rattle.cub_proto.specs.declared.state.Val.TheVariants.{Con, Proc, Int}
use Rattle.cub_proto.specs.Signature.{declared_sort}

-- `#1` for process 0
abbrev pub process_text : ℕ → List ℕ
process_text i = 35 ∷ decimal (i + 1)

-- `(#1 #2)`
abbrev pub processes_text : List ℕ → List ℕ
processes_text processes = 40 ∷ join_by process_text (32 ∷ []) processes ++ 41 ∷ []

-- the name of the declaration with that number
abbrev pub name_of : List Decl → ℕ → List ℕ
name_of decls n = option_map_or (λ d. d.name) (slice_get decls n) []

-- `X` or `A[#1]`
abbrev pub slot_text : Protocol → Slot → List ℕ
slot_text p (Slot.Global g) = name_of p.globals g
slot_text p (Slot.Cell a i) = name_of p.arrays a ++ 91 ∷ process_text i ++ 93 ∷ []

-- the constructor with that number of the enumeration
abbrev pub constructor_text : Option SortDecl → ℕ → List ℕ
constructor_text None c = []
constructor_text (Some d) c = option_map_or (λ name. name) (slice_get d.cons c) []

abbrev pub constructor_of_sort : Protocol → Option Sort → ℕ → List ℕ
constructor_of_sort p None c = []
constructor_of_sort p (Some (Sort.Fin k)) c = constructor_text (slice_get p.sorts k) c
constructor_of_sort p (Some Sort.Proc) c = []
constructor_of_sort p (Some Sort.Int) c = []

-- a constructor, `#1` or an integer
abbrev pub value_text : Protocol → Option Sort → Val → List ℕ
value_text p sort (Con c) = constructor_of_sort p sort c
value_text p sort (Proc i) = process_text i
value_text p sort (Int z) = signed_decimal z

-- the sort that the values of a slot have
abbrev pub slot_sort : Protocol → Slot → Option Sort
slot_sort p (Slot.Global g) = declared_sort p.globals g
slot_sort p (Slot.Cell a i) = declared_sort p.arrays a

-- `X = VALUE` or `A[#1] = VALUE`
abbrev pub entry_text : Protocol → Slot → Val → List ℕ
entry_text p slot v = slot_text p slot ++ codes " = " ++ value_text p (slot_sort p slot) v
