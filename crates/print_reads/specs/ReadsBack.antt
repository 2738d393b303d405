-- What becomes of the text of a printed protocol.
use Rattle.std.specs.Prelude.{◌≡◌, IsTrue, List, Ok}
use Rattle.cub_lexer.specs.declared.token.Token.{Token}
use Rattle.cub_lexer.specs.Reading as lexical
use Rattle.cub_parse.specs.declared.tree.Syntax.{Syntax}
use Rattle.cub_parse.specs.Sentence.{Sentence, numbered, max_levels}
use Rattle.cub_types.specs.Typing as typing
use Rattle.cub_types.specs.Laws.{SameParts}
use Rattle.protocol_text.specs.Meaning.{IsProtocolOf}
use Rattle.cub_proto.specs.declared.protocol.Protocol.{Protocol}
use Rattle.cub_print.specs.Printed.{protocol_marks}
use Rattle.cub_print.specs.Tokens.{tokens_from}
use Rattle.print_laws.specs.Tree.{tree_of}
use Rattle.print_names.specs.Declaring.{text_of}
use Rattle.print_reads.specs.Normal.{is_normal_protocol}

-- its tree reads as the protocol
abbrev pub TreeIsRead : Type 0
TreeIsRead = (p : Protocol) → IsTrue (is_normal_protocol p) → typing.Reads (text_of p) (tree_of p) p

-- so the text reads as the protocol
abbrev pub TextIsRead : Type 0
TextIsRead = (p : Protocol) → IsTrue (is_normal_protocol p) → IsProtocolOf (text_of p) p

-- and as nothing else
abbrev pub NothingElseIsRead : Type 0
NothingElseIsRead = (p q : Protocol) → IsTrue (is_normal_protocol p) → IsProtocolOf (text_of p) q → SameParts q p

abbrev pub words_of : Protocol → List Token
words_of p = tokens_from 0 (protocol_marks p)

-- stage by stage: the lexer reads the text as its words and as nothing else, these are a sentence with the tree of the protocol
-- and with no other, and this tree reads as the protocol and as no other
pub record IsReadBack (p : Protocol) : Type 0 where
  pub lexed : lexical.Reads 0 (text_of p) (Ok (words_of p))
  pub lexed_alone : (o : lexical.Outcome) → lexical.Reads 0 (text_of p) o → o ≡ Ok (words_of p)
  pub parsed : Sentence max_levels (numbered 0 (words_of p)) (tree_of p)
  pub parsed_alone : (tree : Syntax) → Sentence max_levels (numbered 0 (words_of p)) tree → tree ≡ tree_of p
  pub typed : typing.Reads (text_of p) (tree_of p) p
  pub typed_alone : (q : Protocol) → typing.Reads (text_of p) (tree_of p) q → SameParts q p

abbrev pub EachStageReadsBack : Type 0
EachStageReadsBack = (p : Protocol) → IsTrue (is_normal_protocol p) → IsReadBack p
