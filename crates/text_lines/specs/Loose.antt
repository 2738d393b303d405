-- What a line tells when only its words are looked at. A line that is written from a value tells that value; whether
-- another line was so written is decided by writing what it tells.
use Rattle.std.specs.Prelude.{ℕ, zero, suc, ◌+◌, Bool, true, false, ◌==◌, if◌then◌else◌, min, List, [], ◌∷◌, Option, Some, None, unwrap_or, slice_get, ℤ, pos}
use Rattle.cub_proto.specs.declared.literal.Sort.{Sort}
use Rattle.cub_proto.specs.declared.literal.Sort.TheVariants as Sort
use Rattle.cub_proto.specs.declared.protocol.SortDecl.{SortDecl}
use Rattle.cub_proto.specs.declared.protocol.Protocol.{Protocol}
use Rattle.cub_proto.specs.declared.state.Slot.{Slot}
use Rattle.cub_proto.specs.declared.state.Slot.TheVariants as Slot
use Rattle.cub_proto.specs.declared.state.Val.{Val}
use Rattle.cub_proto.specs.declared.state.Val.TheVariants.{Con, Proc, Int}
use Rattle.text_lines.specs.Number.{integer_of, counted}
use Rattle.text_lines.specs.Word.{word, behind}
use Rattle.text_lines.specs.Named.{number_of}
use Rattle.text_lines.specs.Spelling.{slot_sort}

-- so many processes, from the words in order
abbrev pub processes_in : ℕ → List ℕ → List ℕ
processes_in zero bytes = []
processes_in (suc n) bytes = counted (word bytes) ∷ processes_in n (behind bytes)

-- the bytes behind so many words
abbrev pub behind_words : ℕ → List ℕ → List ℕ
behind_words zero bytes = bytes
behind_words (suc n) bytes = behind_words n (behind bytes)

-- the number of a constructor, at most 255
abbrev pub constructor_in : Option SortDecl → List ℕ → ℕ
constructor_in None name = 0
constructor_in (Some d) name = min (number_of (λ c. c) d.cons name) 255

-- the value of a sort that a word names
abbrev pub value_in : Protocol → Option Sort → List ℕ → Val
value_in p None name = Con 0
value_in p (Some (Sort.Fin k)) name = Con (constructor_in (slice_get p.sorts k) name)
value_in p (Some Sort.Proc) name = Proc (counted name)
value_in p (Some Sort.Int) name = Int (unwrap_or (integer_of name) (pos 0))

-- a bracket opens here
abbrev pub opens_bracket : List ℕ → Bool
opens_bracket [] = false
opens_bracket (b ∷ bs) = b == 91

-- the slot that is written here
abbrev pub slot_in : Protocol → List ℕ → Slot
slot_in p bytes =
    if opens_bracket (behind bytes) then Slot.Cell (number_of (λ d. d.name) p.arrays (word bytes)) (counted (word (behind bytes)))
    else Slot.Global (number_of (λ d. d.name) p.globals (word bytes))

-- how many words a slot takes
abbrev pub slot_words : Slot → ℕ
slot_words (Slot.Global g) = 1
slot_words (Slot.Cell a i) = 2

-- the bytes behind the slot and the `=` of an entry
abbrev pub behind_equal : Slot → List ℕ → List ℕ
behind_equal slot bytes = behind_words (slot_words slot + 1) bytes

-- the value of an entry of this slot
abbrev pub entry_value : Protocol → Slot → List ℕ → Val
entry_value p slot bytes = value_in p (slot_sort p slot) (word (behind_equal slot bytes))
