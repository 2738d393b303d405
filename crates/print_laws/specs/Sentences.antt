-- What the parser makes of the words of a printed protocol.
use Rattle.std.specs.Prelude.{◌≡◌, ℕ}
use Rattle.cub_parse.specs.declared.fault.ParseKind.{ParseKind}
use Rattle.cub_parse.specs.declared.tree.Syntax.{Syntax}
use Rattle.cub_parse.specs.Sentence.{Sentence, IsFault, numbered, max_levels}
use Rattle.cub_proto.specs.declared.protocol.Protocol.{Protocol}
use Rattle.cub_print.specs.Printed.{protocol_marks}
use Rattle.cub_print.specs.Tokens.{tokens_from}
use Rattle.print_laws.specs.Tree.{tree_of}

-- they are a sentence with the tree of the protocol
abbrev pub WordsAreSentence : Type 0
WordsAreSentence = (p : Protocol) → Sentence max_levels (numbered 0 (tokens_from 0 (protocol_marks p))) (tree_of p)

-- they have no other tree
abbrev pub NoOtherTree : Type 0
NoOtherTree = (p : Protocol) (tree : Syntax) → Sentence max_levels (numbered 0 (tokens_from 0 (protocol_marks p))) tree → tree ≡ tree_of p

-- and no fault
abbrev pub NoFaultAmong : Type 0
NoFaultAmong = (p : Protocol) (at : ℕ) (kind : ParseKind) → IsFault (numbered 0 (tokens_from 0 (protocol_marks p))) at kind → ⊥
