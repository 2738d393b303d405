use Rattle.std.proofs.Common.{◌≡◌, ◌<◌, ◌≤◌, take, ap, ◌∙◌, sym, arith, Some}
use Rattle.cub_lexer.specs.Reading.{IsLongest}
use Rattle.cub_lexer.proofs.Longest.{byte_longest, begins_nothing, byte_is_sign}
use Rattle.cub_lexer.proofs.lexer.short_sign_step.Goals as goal

pub returns-in-Some : goal.returns-in-Some
returns-in-Some c =
    let t = c.args.bytes.now in
    let found = sym c.one_byte.ensures ∙ c.in-Some.is in
    record {
      is_longest = byte_longest t c.in-Some.kind c.requires.some c.requires.between c.requires.no_word c.requires.no_number c.requires.no_pair found;
      small = λ h. absurd ((byte_is_sign _).0 (found ∙ ap (λ k. Some k) h));
      short = λ h. absurd ((byte_is_sign _).1 (found ∙ ap (λ k. Some k) h));
    }

pub returns-in-None : goal.returns-in-None
returns-in-None c = (
  c.requires.some,
  c.requires.between,
  begins_nothing c.args.bytes.now c.requires.some c.requires.no_word c.requires.no_number c.requires.no_pair (sym c.one_byte.ensures ∙ c.in-None.is),
)
