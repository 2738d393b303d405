use Rattle.std.proofs.Common.{◌∙◌, length, sym, ap}
use Rattle.cover_index.specs.Stored.{Stored}
use Rattle.cover_index.proofs.Storing.{cubes_size}
use Rattle.cover_index.proofs.store.Store.count.Goals as goal

pub returns-clause-value : goal.returns-clause-value
returns-clause-value c =
    let size = cubes_size c.self.inside.segments.items c.self.inside.count in
    sym size ∙ ap (λ (x : Stored). length x.cubes) c.self.view_is
