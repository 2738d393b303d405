use Rattle.std.proofs.Common.{◌≡◌, arith}
use Rattle.cube_core.proofs.KeepLemmas.{few_nodes}
use Rattle.cube_core.proofs.log.Log.count.Goals as goal

pub overflow_cast-result : goal.overflow_cast-result
overflow_cast-result g c =
    let few = few_nodes g.M.PreImages.pieces _ c.self.invariant.legal in
    let len : c.len.result ≡ c.self.inside.nodes.len = c.len.ensures in
    let counted = c.self.inside.nodes.ok.0 in
    omega arith
