use Rattle.std.proofs.Common.{◌++◌, map, sym, ap, ◌∙◌}
use Rattle.std.specs.List.{range_with_len, flat_map}
use Rattle.cub_proto.specs.declared.state.Slot.{Slot}
use Rattle.cub_proto.specs.Configuration.{process_count}
use Rattle.piece_laws.specs.Event.{slots_of}
use Rattle.trace_build.specs.Picks.{picks_at}
use Rattle.trace_build.proofs.PickLemmas.{no_picks, all_picks}
use Rattle.trace_build.proofs.picking.picks_by.Goals as goal

pub returns-then-has_no_pick : goal.returns-then-has_no_pick
returns-then-has_no_pick c =
    c.new-picks.ensures ∙ sym (no_picks c.args.choices.now c.args.processes.now (slots_of c.args.state.now) (sym c.has_no_pick.ensures ∙ c.if-has_no_pick.true))

pub returns : goal.returns
returns c =
    c.in_ok-push_arrays.ensures
    ∙ ap (λ n. c.push_globals.new.picks ++ picks_at c.args.choices.now c.args.processes.now (flat_map (λ a. map (λ i. Slot.Cell a i) (range_with_len 0 n)) (range_with_len 0 c.len-arrays.result))) c.processes.ensures
    ∙ ap (λ xs. xs ++ picks_at c.args.choices.now c.args.processes.now (flat_map (λ a. map (λ i. Slot.Cell a i) (range_with_len 0 (process_count c.args.state.now))) (range_with_len 0 c.len-arrays.result)))
    (c.in_ok-push_globals.ensures ∙ ap (λ xs. xs ++ picks_at c.args.choices.now c.args.processes.now (map (λ g. Slot.Global g) (range_with_len 0 c.len-globals.result))) c.new-picks.ensures)
    ∙ all_picks c.args.protocol.now c.args.state.now c.requires c.args.choices.now c.args.processes.now c.len-globals.result c.len-arrays.result c.len-globals.ensures c.len-arrays.ensures
