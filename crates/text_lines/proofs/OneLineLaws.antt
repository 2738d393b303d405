-- What is written in a line has no line feed.
use Rattle.std.proofs.Common.{◌≡◌, ℕ, zero, suc, ◌+◌, ◌^◌, ◌<◌, ◌≤◌, Bool, true, false, ◌==◌, List, [], ◌∷◌, ◌++◌, Option, Some, None, refl, ap, sym, subst, ◌∙◌, arith, codes, decimal, ℤ, pos, negsuc, flat_map, unsigned_abs}
use Rattle.std.specs.Prelude.{slice_get}
use Rattle.std.specs.List.{join_by}
use Rattle.std.specs.Option.{option_map_or}
use Rattle.std.specs.Fmt.{signed_decimal}
use Rattle.std.proofs.lemmas.Bool.{or_parts}
use Rattle.cub_proto.specs.declared.literal.Sort.{Sort}
use Rattle.cub_proto.specs.declared.literal.Sort.TheVariants as Sort
use Rattle.cub_proto.specs.declared.protocol.SortDecl.{SortDecl}
use Rattle.cub_proto.specs.declared.protocol.Protocol.{Protocol}
use Rattle.cub_proto.specs.declared.protocol.Decl.{Decl}
use Rattle.cub_proto.specs.declared.state.Slot.{Slot}
use Rattle.cub_proto.specs.declared.state.Slot.TheVariants as Slot
use Rattle.cub_proto.specs.declared.state.Val.{Val}
use Rattle.cub_proto.specs.declared.state.Val.TheVariants.{Con, Proc, Int}
use Rattle.text_lines.specs.Word.{is_separator}
use Rattle.text_lines.specs.Spelling.{process_text, processes_text, name_of, slot_text, constructor_text, constructor_of_sort, value_text, slot_sort, entry_text}
use Rattle.text_lines.proofs.WordLaws.{AreWordBytes}
use Rattle.text_lines.proofs.NumberLaws.{decimal_words}
use Rattle.text_lines.proofs.NameLaws.{constructor_word}
use Rattle.text_lines.proofs.LineLaws.{IsOneLine}
use Rattle.text_lines.proofs.LooseLaws.{global_word, array_word}

pub one_append : (xs ys : List ℕ) → IsOneLine xs → IsOneLine ys → IsOneLine (xs ++ ys)
one_append [] ys h k = k
one_append (x ∷ xs) ys h k = (h.0, one_append xs ys h.1 k)

pub one_words : (xs : List ℕ) → AreWordBytes xs → IsOneLine xs
one_words [] h = tt
one_words (x ∷ xs) h = ((or_parts _ (x == 10) h.0).1, one_words xs h.1)

pub one_decimal : (n : ℕ) → n < 2 ^ 64 → IsOneLine (decimal n)
one_decimal n fits = one_words (decimal n) (decimal_words n fits)

pub one_process : (i : ℕ) → i ≤ 4294967295 → IsOneLine (process_text i)
one_process i small = (refl, one_decimal (i + 1) (omega arith))
