-- A text reads as one protocol or has one fault. Protocols with the same parts are the same: what a protocol keeps beside
-- its parts are facts, and each of them holds in one way.
use mathlib.Core.Bool.{Bool-set}
use mathlib.Core.HLevel.{Π_prop, is_prop→PathP}
use Rattle.std.proofs.Common.{◌≡◌, ℕ, List, Result, Ok, Err, All, IsTrue, ap, sym, subst, ◌∙◌}
use Rattle.cub_lexer.specs.declared.token.Token.{Token}
use Rattle.cub_lexer.specs.declared.fault.LexKind.{LexKind}
use Rattle.cub_lexer.proofs.OneReadingLaws.{one}
use Rattle.cub_parse.specs.declared.fault.ParseKind.{ParseKind}
use Rattle.cub_parse.specs.declared.tree.Syntax.{Syntax}
use Rattle.cub_parse.specs.Sentence.{IsFault, numbered}
use Rattle.cub_parse.proofs.Sentences.{tree_once, fault_once, none_in_sentence}
use Rattle.cub_names.specs.declared.fault.Fault.{Fault}
use Rattle.cub_names.specs.declared.fault.TypeKind.{TypeKind}
use Rattle.cub_proto.specs.declared.protocol.Protocol.{Protocol}
use Rattle.cub_proto.specs.Signature.{Signature, signature}
use Rattle.cub_proto.specs.Fits.{counts_fit, sorts_fit, names_are_distinct, global_fits, array_fits, start_fits, goal_fits, transition_fits}
use Rattle.cub_types.specs.Typing as typing
use Rattle.cub_types.proofs.OneReading.{one_protocol, one_fault, no_fault}
use Rattle.protocol_text.specs.declared.fault.TextCode.{TextCode}
use Rattle.protocol_text.specs.declared.fault.TextCode.TheVariants.{Lexical, Grammar, Typing}
use Rattle.protocol_text.specs.Meaning.{IsLexed, IsParsed, IsProtocolOf, IsFaultAt, IsGrammarFault, IsTypingFault, start_of}

pub same_parts : (p q : Protocol) → p.sorts ≡ q.sorts → p.globals ≡ q.globals → p.arrays ≡ q.arrays → p.start ≡ q.start → p.goals ≡ q.goals
    → p.transitions ≡ q.transitions → p ≡ q
same_parts p q es eg ea et eo er = λ i. record {
  sorts = es i;
  globals = eg i;
  arrays = ea i;
  start = et i;
  goals = eo i;
  transitions = er i;
  few = is_prop→PathP (λ j. IsTrue (counts_fit (es j) (eg j) (ea j) (eo j) (er j))) (λ j. Bool-set _ _) p.few q.few i;
  sorts_fit = is_prop→PathP (λ j. IsTrue (sorts_fit (es j))) (λ j. Bool-set _ _) p.sorts_fit q.sorts_fit i;
  distinct = is_prop→PathP (λ j. IsTrue (names_are_distinct (es j) (eg j) (ea j) (er j))) (λ j. Bool-set _ _) p.distinct q.distinct i;
  globals_fit = is_prop→PathP (λ j. All (λ d. IsTrue (global_fits (es j) d)) (eg j)) (λ j. Π_prop (λ k. Π_prop (λ d. Π_prop (λ h. Bool-set _ _))))
      p.globals_fit q.globals_fit i;
  arrays_fit = is_prop→PathP (λ j. All (λ d. IsTrue (array_fits (es j) d)) (ea j)) (λ j. Π_prop (λ k. Π_prop (λ d. Π_prop (λ h. Bool-set _ _))))
      p.arrays_fit q.arrays_fit i;
  start_fits = is_prop→PathP (λ j. IsTrue (start_fits (signature (es j) (eg j) (ea j)) (et j))) (λ j. Bool-set _ _) p.start_fits q.start_fits i;
  goals_fit = is_prop→PathP (λ j. All (λ g. IsTrue (goal_fits (signature (es j) (eg j) (ea j)) g)) (eo j))
      (λ j. Π_prop (λ k. Π_prop (λ d. Π_prop (λ h. Bool-set _ _)))) p.goals_fit q.goals_fit i;
  transitions_fit = is_prop→PathP (λ j. All (λ t. IsTrue (transition_fits (signature (es j) (eg j) (ea j)) t)) (er j))
      (λ j. Π_prop (λ k. Π_prop (λ d. Π_prop (λ h. Bool-set _ _)))) p.transitions_fit q.transitions_fit i;
}

ok_same : {A B : Type 0} (x y : A) → ◌≡◌ {A = Result A B} (Ok x) (Ok y) → x ≡ y
ok_same x y h = cc

err_same : {A B : Type 0} (x y : B) → ◌≡◌ {A = Result A B} (Err x) (Err y) → x ≡ y
err_same x y h = cc

apart : {A B : Type 0} (x : A) (y : B) → ◌≡◌ {A = Result A B} (Ok x) (Err y) → ⊥
apart x y h = cc

one_tokens : (text : List ℕ) (a b : List Token) → IsLexed text a → IsLexed text b → a ≡ b
one_tokens text a b h k = ok_same a b (one h k)

one_tree : (a b : List Token) (tree other : Syntax) → a ≡ b → IsParsed a tree → IsParsed b other → tree ≡ other
one_tree a b tree other same h k = tree_once (numbered 0 b) tree other (subst (λ ts. IsParsed ts tree) same h) k

pub one_text_protocol : (text : List ℕ) (p q : Protocol) → IsProtocolOf text p → IsProtocolOf text q → p ≡ q
one_text_protocol text p q a b =
    let tree = one_tree a.tokens b.tokens a.tree b.tree (one_tokens text a.tokens b.tokens a.lexed b.lexed) a.parsed b.parsed in
    let parts = one_protocol text b.tree p q (subst (λ t. typing.Reads text t p) tree a.typed) b.typed in
    same_parts p q (ap (λ (s : Signature). s.sorts) parts.declares) (ap (λ (s : Signature). s.globals) parts.declares)
    (ap (λ (s : Signature). s.arrays) parts.declares) parts.starts parts.goals parts.transitions

pub no_text_fault : (text : List ℕ) (p : Protocol) (code : TextCode) (at : ℕ) → IsProtocolOf text p → IsFaultAt text code at → ⊥
no_text_fault text p (Lexical kind) at a b = apart a.tokens (at, kind) (one a.lexed b)
no_text_fault text p (Grammar kind) at a b =
    none_in_sentence (numbered 0 b.tokens) a.tree b.number kind
    (subst (λ ts. IsParsed ts a.tree) (one_tokens text a.tokens b.tokens a.lexed b.lexed) a.parsed) b.first
no_text_fault text p (Typing kind) at a b =
    let tree = one_tree a.tokens b.tokens a.tree b.tree (one_tokens text a.tokens b.tokens a.lexed b.lexed) a.parsed b.parsed in
    no_fault text b.tree p (record { token = b.number; kind = kind }) (subst (λ t. typing.Reads text t p) tree a.typed) b.first

grammar_once : (text : List ℕ) (kind other : ParseKind) (at bt : ℕ) → IsGrammarFault text kind at → IsGrammarFault text other bt → (kind ≡ other) × (at ≡ bt)
grammar_once text kind other at bt a b =
    let tokens = one_tokens text a.tokens b.tokens a.lexed b.lexed in
    let both = fault_once (numbered 0 b.tokens) a.number b.number kind other (subst (λ ts. IsFault (numbered 0 ts) a.number kind) tokens a.first) b.first in
    (both.1, a.place ∙ ap (λ ts. start_of text ts a.number) tokens ∙ ap (start_of text b.tokens) both.0 ∙ sym b.place)

typing_once : (text : List ℕ) (kind other : TypeKind) (at bt : ℕ) → IsTypingFault text kind at → IsTypingFault text other bt → (kind ≡ other) × (at ≡ bt)
typing_once text kind other at bt a b =
    let tokens = one_tokens text a.tokens b.tokens a.lexed b.lexed in
    let tree = one_tree a.tokens b.tokens a.tree b.tree tokens a.parsed b.parsed in
    let both = one_fault text b.tree (record { token = a.number; kind = kind }) (record { token = b.number; kind = other })
    (subst (λ t. typing.IsFaultOf text t (record { token = a.number; kind = kind })) tree a.first) b.first in (
      ap (λ (f : Fault). f.kind) both,
      a.place ∙ ap (λ ts. start_of text ts a.number) tokens ∙ ap (λ (f : Fault). start_of text b.tokens f.token) both ∙ sym b.place,
    )

-- tokens that are a sentence have no fault of grammar
typed_parsed : (text : List ℕ) (kind : ParseKind) (other : TypeKind) (at bt : ℕ) → IsGrammarFault text kind at → IsTypingFault text other bt → ⊥
typed_parsed text kind other at bt a b =
    none_in_sentence (numbered 0 a.tokens) b.tree a.number kind
    (subst (λ ts. IsParsed ts b.tree) (one_tokens text b.tokens a.tokens b.lexed a.lexed) b.parsed) a.first

pub one_text_fault : (text : List ℕ) (code other : TextCode) (at bt : ℕ) → IsFaultAt text code at → IsFaultAt text other bt → (code ≡ other) × (at ≡ bt)
one_text_fault text (Lexical kind) (Lexical other) at bt a b =
    let same : (at, kind) ≡ (bt, other) = err_same (at, kind) (bt, other) (one a b) in
    (ap (λ (x : ℕ × LexKind). Lexical x.1) same, ap (λ (x : ℕ × LexKind). x.0) same)
one_text_fault text (Lexical kind) (Grammar other) at bt a b = absurd (apart b.tokens (at, kind) (one b.lexed a))
one_text_fault text (Lexical kind) (Typing other) at bt a b = absurd (apart b.tokens (at, kind) (one b.lexed a))
one_text_fault text (Grammar kind) (Lexical other) at bt a b = absurd (apart a.tokens (bt, other) (one a.lexed b))
one_text_fault text (Grammar kind) (Grammar other) at bt a b =
    let both = grammar_once text kind other at bt a b in
    (ap Grammar both.0, both.1)
one_text_fault text (Grammar kind) (Typing other) at bt a b = absurd (typed_parsed text kind other at bt a b)
one_text_fault text (Typing kind) (Lexical other) at bt a b = absurd (apart a.tokens (bt, other) (one a.lexed b))
one_text_fault text (Typing kind) (Grammar other) at bt a b = absurd (typed_parsed text other kind bt at b a)
one_text_fault text (Typing kind) (Typing other) at bt a b =
    let both = typing_once text kind other at bt a b in
    (ap Typing both.0, both.1)
