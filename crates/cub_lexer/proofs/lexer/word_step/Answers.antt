use Rattle.std.proofs.Common.{◌≡◌, ◌<◌, ◌≤◌, take, ap, ◌∙◌, sym, subst, arith, rules, true, false, inl, inr, ◌⊎◌}
use denote.Enum.Bare.{sameb, same_true}
use Rattle.cub_lexer.specs.contracts.token.TokenKind.{the_type}
use Rattle.cub_lexer.specs.declared.token.TokenKind.{TokenKind}
use Rattle.cub_lexer.specs.declared.token.TokenKind.TheVariants.{Name}
use Rattle.cub_lexer.specs.Reading.{IsLongest}
use Rattle.cub_lexer.specs.Lexeme.{word_kind}
use Rattle.cub_lexer.proofs.Longest.{word_longest, word_no_number}
use Rattle.cub_lexer.proofs.lexer.word_step.Goals as goal
use Rattle.cub_lexer.proofs.lexer.word_step.Goals.{else-eq-via-then-eq+else-len-gt-NAME_LIMIT, else-eq-via-else-eq}

pub returns-then-len-gt-NAME_LIMIT : goal.returns-then-len-gt-NAME_LIMIT
returns-then-len-gt-NAME_LIMIT c =
    let t = c.args.bytes.now in
    let n = c.name_bytes-len.result in
    let name : c.word_kind-kind.result ≡ Name = same_true the_type (search rules) _ _ (sym c.eq.ensures ∙ c.if-eq.true) in
    let kind : word_kind (take n t) ≡ Name = ap word_kind (sym c.split_at.ensures.front) ∙ sym c.word_kind-kind.ensures ∙ name in
    (n, subst (λ (k : TokenKind). IsLongest k n t) kind (word_longest t n c.requires.some c.requires.between c.requires.begins c.name_bytes-len.ensures.value), omega arith)

pub returns : goal.returns
returns c =
    let t = c.args.bytes.now in
    let n = c.name_bytes-len.result in
    let kind : word_kind (take n t) ≡ c.word_kind-kind.result = ap word_kind (sym c.split_at.ensures.front) ∙ sym c.word_kind-kind.ensures in
    let short : c.word_kind-kind.result ≡ Name → n ≤ 64 = λ h.
    elim c.else-eq.either [
      | inl w ↦ omega (arith, w.1)
      | inr w ↦
          let f : sameb the_type c.word_kind-kind.result Name ≡ false = sym c.eq.ensures ∙ w in
          let g : sameb the_type Name Name ≡ false = subst (λ (k : TokenKind). sameb the_type k Name ≡ false) h f in
          absurd cc
    ] in
    record {
      is_longest = subst (λ (k : TokenKind). IsLongest k n t) kind (word_longest t n c.requires.some c.requires.between c.requires.begins c.name_bytes-len.ensures.value);
      small = λ h. absurd (word_no_number (take n t) (kind ∙ h));
      short = short;
    }
