-- The stages of reading one behind the other: tokens, tree, protocol, each the only one.
use Rattle.std.proofs.Common.{◌≡◌, List, subst}
use Rattle.std.specs.Prelude.{IsTrue, Ok}
use Rattle.cub_lexer.specs.declared.token.Token.{Token}
use Rattle.cub_lexer.specs.Reading as lexical
use Rattle.cub_parse.specs.Sentence.{Sentence, numbered, max_levels}
use Rattle.cub_types.specs.Typing as typing
use Rattle.cub_types.specs.Laws.{SameParts, OneProtocol}
use Rattle.protocol_text.specs.Meaning.{IsProtocolOf}
use Rattle.cub_proto.specs.declared.protocol.Protocol.{Protocol}
use Rattle.print_words.specs.Writable.{is_writable}
use Rattle.print_words.specs.ReadBack as words
use Rattle.print_laws.specs.Sentences.{WordsAreSentence, NoOtherTree}
use Rattle.print_laws.specs.Tree.{tree_of}
use Rattle.print_names.specs.Declaring.{text_of}
use Rattle.print_reads.specs.ReadsBack.{words_of, IsReadBack}

abbrev lexical_ok : List Token → lexical.Outcome
lexical_ok xs = Ok xs

ok_same : (xs ys : List Token) → lexical_ok xs ≡ lexical_ok ys → xs ≡ ys
ok_same xs ys h = cc

module _ (p : Protocol) (writable : IsTrue (is_writable p)) (read : words.WordsAreRead) (alone : words.NothingElseIsRead) (sentence : WordsAreSentence) (no_other : NoOtherTree) (one : OneProtocol)
    (typed : typing.Reads (text_of p) (tree_of p) p) where
  pub stages_read : IsReadBack p
  stages_read = record {
    lexed = read p writable;
    lexed_alone = λ o reads. alone p o writable reads;
    parsed = sentence p;
    parsed_alone = no_other p;
    typed = typed;
    typed_alone = λ q reads. one (text_of p) (tree_of p) q p reads typed;
  }

  pub text_read : IsProtocolOf (text_of p) p
  text_read = record { tokens = words_of p; tree = tree_of p; lexed = read p writable; parsed = sentence p; typed = typed }

  pub nothing_else : (q : Protocol) → IsProtocolOf (text_of p) q → SameParts q p
  nothing_else q reads =
      let same : reads.tokens ≡ words_of p = ok_same reads.tokens (words_of p) (alone p (Ok reads.tokens) writable reads.lexed) in
      let parsed : Sentence max_levels (numbered 0 (words_of p)) reads.tree = subst (λ tokens. Sentence max_levels (numbered 0 tokens) reads.tree) same reads.parsed in
      one (text_of p) (tree_of p) q p (subst (λ tree. typing.Reads (text_of p) tree q) (no_other p reads.tree parsed) reads.typed) typed
