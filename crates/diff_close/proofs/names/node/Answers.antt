use Rattle.std.proofs.Common.{◌≤◌, length, arith, rules}
use Rattle.diff_close.specs.Names.{index_of}
use Rattle.diff_close.proofs.Terms.{index_bound}
use Rattle.diff_close.proofs.names.node.Goals as goal

pub overflow_add-result : goal.overflow_add-result
overflow_add-result c =
    let few : c.place.result ≤ length c.args.terms.now = omega (arith, c.place.ensures, index_bound c.args.terms.now c.in-At.term) in
    search rules
