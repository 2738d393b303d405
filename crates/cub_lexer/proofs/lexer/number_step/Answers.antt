use Rattle.std.proofs.Common.{◌≡◌, ◌<◌, ◌≤◌, take, ap, ◌∙◌, sym, subst, arith, ℕ, List}
use Rattle.cub_lexer.specs.declared.token.TokenKind.TheVariants.{Name, Number}
use Rattle.cub_lexer.specs.Number.{value_of}
use Rattle.cub_lexer.specs.Reading.{IsLongest}
use Rattle.cub_lexer.proofs.Longest.{number_longest}
use Rattle.cub_lexer.proofs.lexer.number_step.Goals as goal

pub returns-in-None : goal.returns-in-None
returns-in-None c =
    let t = c.args.bytes.now in
    let n = c.digit_bytes-len.result in (
      n,
      number_longest t n c.requires.some c.requires.between c.requires.no_word c.requires.begins c.digit_bytes-len.ensures.value,
      subst (λ (ds : List ℕ). 1000000000 < value_of ds) c.split_at.ensures.front c.in-None.ensures.none,
    )

pub returns-in-Some : goal.returns-in-Some
returns-in-Some c =
    let t = c.args.bytes.now in
    let n = c.digit_bytes-len.result in
    record {
      is_longest = number_longest t n c.requires.some c.requires.between c.requires.no_word c.requires.begins c.digit_bytes-len.ensures.value;
      small = λ h. subst (λ (ds : List ℕ). value_of ds ≤ 1000000000) c.split_at.ensures.front (omega (arith, c.in-Some.ensures.found.0, c.in-Some.ensures.found.1));
      short = λ h. absurd cc;
    }
