use Rattle.cub_cube.specs.Rename.{along}
use Rattle.cub_cube.proofs.Placing.{inverse}
use Rattle.cub_cube.proofs.Covering.{covers_big, covers_small}
use Rattle.cub_cube.proofs.cover_laws.covering_goes_along.Goals as goal

pub returns-clause-renamed : goal.returns-clause-renamed
returns-clause-renamed c p width r small big onto same d covers = (along covers.0 r, covers_big p width r small big onto same d covers.0 covers.1)

pub returns-clause-back : goal.returns-clause-back
returns-clause-back c p width r small big onto same d covers =
    (along covers.0 (inverse width r onto), covers_small p width r small big onto same d covers.0 covers.1)
