-- What a text reads as: a protocol, or its first fault with its place.
use Rattle.std.specs.Prelude.{◌≡◌, ℕ, List, length, min, slice_get, Result, Ok, Err}
use Rattle.std.specs.Option.{option_map_or}
use Rattle.cub_lexer.specs.declared.token.Token.{Token}
use Rattle.cub_lexer.specs.Reading as lexical
use Rattle.cub_lexer.specs.Place.{line_at, column_at}
use Rattle.cub_parse.specs.declared.tree.Syntax.{Syntax}
use Rattle.cub_parse.specs.Sentence.{Sentence, IsFault, numbered, max_levels}
use Rattle.cub_names.specs.declared.fault.TypeKind.{TypeKind}
use Rattle.cub_parse.specs.declared.fault.ParseKind.{ParseKind}
use Rattle.cub_proto.specs.declared.protocol.Protocol.{Protocol}
use Rattle.cub_types.specs.Typing as typing
use Rattle.protocol_text.specs.declared.fault.TextCode.{TextCode}
use Rattle.protocol_text.specs.declared.fault.TextCode.TheVariants.{Lexical, Grammar, Typing}
use Rattle.protocol_text.specs.declared.fault.TextFault.{TextFault}
use Rattle.protocol_text.specs.declared.fault.TextFault.TheVariants as faults

-- the text has these tokens
abbrev pub IsLexed : List ℕ → List Token → Type 0
IsLexed text tokens = lexical.Reads 0 text (Ok tokens)

-- the tokens have this tree
abbrev pub IsParsed : List Token → Syntax → Type 0
IsParsed tokens tree = Sentence max_levels (numbered 0 tokens) tree

-- the text has tokens, they have a tree, and it reads as the protocol
pub record IsProtocolOf (text : List ℕ) (p : Protocol) : Type 0 where
  pub tokens : List Token
  pub tree : Syntax
  pub lexed : IsLexed text tokens
  pub parsed : IsParsed tokens tree
  pub typed : typing.Reads text tree p

-- where a token begins, or the end of the text for the number behind the last
abbrev pub start_of : List ℕ → List Token → ℕ → ℕ
start_of text tokens number = option_map_or (λ t. min t.at (length text)) (slice_get tokens number) (length text)

-- tokens without a tree, whose first fault is at that place
pub record IsGrammarFault (text : List ℕ) (kind : ParseKind) (at : ℕ) : Type 0 where
  pub tokens : List Token
  pub number : ℕ
  pub lexed : IsLexed text tokens
  pub first : IsFault (numbered 0 tokens) number kind
  pub place : at ≡ start_of text tokens number

-- a tree that is no protocol, whose first fault is at that place
pub record IsTypingFault (text : List ℕ) (kind : TypeKind) (at : ℕ) : Type 0 where
  pub tokens : List Token
  pub tree : Syntax
  pub number : ℕ
  pub lexed : IsLexed text tokens
  pub parsed : IsParsed tokens tree
  pub first : typing.IsFaultOf text tree (record { token = number; kind = kind })
  pub place : at ≡ start_of text tokens number

-- the first fault of the text, with the number of bytes before it
abbrev pub IsFaultAt : List ℕ → TextCode → ℕ → Type 0
IsFaultAt text (Lexical kind) at = lexical.Reads 0 text (Err (at, kind))
IsFaultAt text (Grammar kind) at = IsGrammarFault text kind at
IsFaultAt text (Typing kind) at = IsTypingFault text kind at

-- what was answered is the first fault of the text with its place, unless memory ran out
abbrev pub IsFaultOf : List ℕ → TextFault → Type 0
IsFaultOf text (faults.Fault code line column) = (at : ℕ) × IsFaultAt text code at × (line ≡ line_at text at) × (column ≡ column_at text at)
IsFaultOf text faults.Memory = Unit {0}
