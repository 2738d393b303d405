use Rattle.cub_proto.proofs.KeepsStates.{after_state}
use Rattle.cub_proto.proofs.laws.legal_events_keep_states.Goals as goal

pub returns : goal.returns
returns c = after_state
