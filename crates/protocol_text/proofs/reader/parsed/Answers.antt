use Rattle.std.proofs.Common.{◌≤◌, length, arith}
use Rattle.protocol_text.proofs.Within.{outcome_within}
use Rattle.protocol_text.proofs.reader.parsed.Goals as goal

pub parse-requires : goal.parse-requires
parse-requires c =
    let few : length c.args.tokens.now ≤ length c.args.text.now = outcome_within c.requires.tokens in
    let short = c.requires.short in
    omega arith
