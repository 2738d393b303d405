use Rattle.std.proofs.Common.{ℕ, List, Option, Some, ◌∙◌, ap, bytes_eq}
use Rattle.std.specs.Prelude.{if◌then◌else◌}
use Rattle.std.specs.Map.{lookup}
use Rattle.cub_names.specs.Seen.{value_in}
use Rattle.cub_names.proofs.MapNames.{inserted}
use Rattle.cub_names.proofs.names.put.Goals as goal

-- the map's own clause on its entries
pub returns : goal.returns
returns c = λ q.
    ap (lookup (λ k. bytes_eq q k.items)) c.in_ok-insert.ensures.entries
    ∙ inserted c.in_ok-key.key c.args.what q c.args.values.now.entries
    ∙ ap (λ n. if bytes_eq n q then Some c.args.what else value_in c.args.values.now q) (c.in_ok-key.ensures.items ∙ c.as_slice.ensures)
