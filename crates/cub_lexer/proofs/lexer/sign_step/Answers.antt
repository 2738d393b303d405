use Rattle.std.proofs.Common.{◌≡◌, ◌<◌, ◌≤◌, take, ap, ◌∙◌, sym, arith, Some}
use Rattle.cub_lexer.specs.Reading.{IsLongest}
use Rattle.cub_lexer.proofs.Longest.{pair_longest, pair_is_sign}
use Rattle.cub_lexer.proofs.lexer.sign_step.Goals as goal

pub returns-in-Some : goal.returns-in-Some
returns-in-Some c =
    let t = c.args.bytes.now in
    let found = sym c.two_bytes.ensures ∙ c.in-Some.is in
    record {
      is_longest = pair_longest t c.in-Some.kind c.if-bytes-ge2.true c.requires.between c.requires.no_word c.requires.no_number found;
      small = λ h. absurd ((pair_is_sign _ _).0 (found ∙ ap (λ k. Some k) h));
      short = λ h. absurd ((pair_is_sign _ _).1 (found ∙ ap (λ k. Some k) h));
    }
