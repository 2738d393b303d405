-- The codes of faults as they are written.
use Rattle.std.specs.Prelude.{ℕ, List, ◌++◌, codes}
use Rattle.std.specs.Fmt.{decimal}
use Rattle.cub_words.specs.declared.request.WordsKind.{WordsKind}
use Rattle.cub_words.specs.declared.request.WordsKind.TheVariants as words
use Rattle.cub_lexer.specs.declared.fault.LexKind.{LexKind}
use Rattle.cub_lexer.specs.declared.fault.LexKind.TheVariants as lexical
use Rattle.cub_parse.specs.declared.fault.ParseKind.{ParseKind}
use Rattle.cub_parse.specs.declared.fault.ParseKind.TheVariants as grammar
use Rattle.cub_names.specs.declared.fault.TypeKind.{TypeKind}
use Rattle.cub_names.specs.declared.fault.TypeKind.TheVariants as typing
use Rattle.protocol_text.specs.declared.fault.TextCode.{TextCode}
use Rattle.protocol_text.specs.declared.fault.TextCode.TheVariants.{Lexical, Grammar, Typing}

abbrev pub words_code : WordsKind → List ℕ
words_code words.U1 = codes "U1"
words_code words.U2 = codes "U2"
words_code words.U3 = codes "U3"
words_code words.U4 = codes "U4"
words_code words.U5 = codes "U5"
words_code words.U6 = codes "U6"
words_code words.U7 = codes "U7"
words_code words.U8 = codes "U8"
words_code words.U9 = codes "U9"

abbrev pub lexical_code : LexKind → List ℕ
lexical_code lexical.L1 = codes "L1"
lexical_code lexical.L2 = codes "L2"
lexical_code lexical.L3 = codes "L3"
lexical_code lexical.L4 = codes "L4"

abbrev pub grammar_code : ParseKind → List ℕ
grammar_code grammar.P1 = codes "P1"
grammar_code grammar.P2 = codes "P2"

abbrev pub typing_code : TypeKind → List ℕ
typing_code typing.T01 = codes "T01"
typing_code typing.T02 = codes "T02"
typing_code typing.T03 = codes "T03"
typing_code typing.T04 = codes "T04"
typing_code typing.T05 = codes "T05"
typing_code typing.T06 = codes "T06"
typing_code typing.T07 = codes "T07"
typing_code typing.T08 = codes "T08"
typing_code typing.T09 = codes "T09"
typing_code typing.T10 = codes "T10"
typing_code typing.T11 = codes "T11"
typing_code typing.T12 = codes "T12"
typing_code typing.T13 = codes "T13"
typing_code typing.T14 = codes "T14"
typing_code typing.T15 = codes "T15"
typing_code typing.T16 = codes "T16"
typing_code typing.T17 = codes "T17"
typing_code typing.T18 = codes "T18"
typing_code typing.T19 = codes "T19"
typing_code typing.T20 = codes "T20"

abbrev pub text_code : TextCode → List ℕ
text_code (Lexical kind) = lexical_code kind
text_code (Grammar kind) = grammar_code kind
text_code (Typing kind) = typing_code kind

-- faults of the text of a trace: 0 is a text above its limit, 1 to 6 are faulty lines
abbrev pub trace_code : ℕ → List ℕ
trace_code kind = codes "S" ++ decimal kind
