-- The trace that is put together is that of the chain.
use Rattle.std.proofs.Common.{◌≡◌, ℕ, ◌+◌, ◌≤◌, List, length, get_or, Option, sym, subst, arith}
use Rattle.cub_proto.specs.declared.event.Event.{Event}
use Rattle.cub_proto.specs.declared.event.Plain.{Plain}
use Rattle.cub_proto.specs.declared.protocol.Protocol.{Protocol}
use Rattle.cub_proto.specs.Configuration.{Configuration, process_count}
use Rattle.cub_proto.specs.Legal.{IsStart}
use Rattle.cub_proto.specs.Meets.{Satisfies}
use Rattle.replay.specs.Bound.{most_events}
use Rattle.replay.specs.FitsStart.{FitsStart}
use Rattle.theory_laws.specs.Built.{own_places}
use Rattle.theory_laws.specs.Small.{HasSmallIntegers}
use Rattle.trace_judge.specs.Judge.{IsAccepted}
use Rattle.trace_judge.specs.Trace.{MayReplay}
use Rattle.trace_laws.specs.declared.chain.Link.{Link}
use Rattle.trace_laws.specs.Blocked.{with_crashes}
use Rattle.trace_laws.specs.Chain.{IsChain}
use Rattle.trace_laws.specs.Along.{StepsAlong}
use Rattle.trace_laws.specs.Leads.{LeadsTo, first_blocked}
use Rattle.trace_laws.proofs.Chains.{chain_leads}
use Rattle.trace_laws.proofs.Runs.{accepted, free_legal}
use Rattle.trace_laws.proofs.Few.{few_events}
use Rattle.trace_laws.proofs.Fit.{legal_fit}
use Rattle.trace_build.specs.First.{IsChosenStart, first_places}
use Rattle.trace_build.specs.Trace.{IsTraceOf}
use Rattle.trace_build.proofs.WalkLemmas.{first_satisfied, first_chosen, one_step_each}

module _ (p : Protocol) (chain : List Link) (is : IsChain p chain) (s : Configuration) (d : Link) (start : IsStart p s)
    (sat : Satisfies s (own_places (get_or chain 0 d).cube.width) (get_or chain 0 d).cube.width (get_or chain 0 d).cube.lits)
    (steps : List Event) (goal : ℕ) (places : List ℕ) (along : StepsAlong p s chain (first_places chain) steps goal places) (few : process_count s ≤ 75) where
  pub leads_there : LeadsTo p s steps goal places
  leads_there = chain_leads p s chain (first_places chain) steps goal places is start.state (first_satisfied p s chain d is sat) along

  pub few_enough : length steps + process_count s ≤ most_events
  few_enough =
      let each = one_step_each p s chain (first_places chain) steps goal places along in
      let most = is.few in omega arith

  pub trace_is : IsChosenStart p (get_or chain 0 d).cube s → HasSmallIntegers s → FitsStart p s → (events : List Event) (plain : Option Plain) → events ≡ with_crashes p s steps → plain ≡ first_blocked p s steps 0
      → IsTraceOf p chain (record { start = s; events = events; goal = goal; places = places; plain = plain })
  trace_is chosen small fits events plain are told = record {
    starts = first_chosen p s chain d is chosen;
    steps = steps;
    along = along;
    is = are;
    accepted = subst (λ es. IsAccepted p s es goal places plain) (sym are)
        (subst (λ o. IsAccepted p s (with_crashes p s steps) goal places o) (sym told) (accepted p s steps goal places start leads_there));
    replayed = subst (MayReplay p s) (sym are) (record {
      starts = fits;
      follows = record {
        few = let most = few_events p s steps leads_there.firings leads_there.free in let enough = few_enough in omega arith;
        fit = legal_fit p s (with_crashes p s steps) (free_legal p s steps leads_there.free);
      };
    });
    few = few;
    small = small;
  }
