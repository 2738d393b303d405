-- What was judged may be applied to a log that goes on.
use Rattle.std.proofs.Common.{◌≡◌, ℕ, ◌<◌, ◌≤◌, List, ◌∷◌, [], length, take, sym, ◌∙◌, subst, arith}
use Rattle.std.specs.Prelude.{Option, Some, None, IfSome}
use Rattle.std.proofs.lemmas.List.{length-take-le, get_or-take, ext_get_or}
use Rattle.cub_proto.specs.declared.protocol.Protocol.{Protocol}
use Rattle.cub_cube.specs.declared.cube.Cube.{Cube}
use Rattle.log_form.specs.declared.node.Node.{Node}
use Rattle.log_form.specs.declared.event.LogEvent.{LogEvent}
use Rattle.log_form.specs.Links.{no_cube, cube_at}
use Rattle.log_form.specs.Log.{LogValue, node_at, cubes_of}
use Rattle.log_form.specs.Legal.{Leads, IsLegalLog}
use Rattle.log_form.specs.Later.{AreLaterNodes, GoesOn}
use Rattle.log_form.proofs.Covered.{cube_at-cubes_of, length-cubes_of}
use Rattle.log_form.proofs.Prefixes.{nodes_later}
use Rattle.log_steps.specs.declared.judgement.Verdict.{Verdict}
use Rattle.log_steps.specs.Judged.{AreJudged}
use Rattle.cube_form.specs.Form.{IsGivenForm}
use Rattle.cube_core.specs.Judgements.{IsJudgement}
use Rattle.predecessors.specs.Predecessors.{ArePieceCubes}
use Rattle.log_tables.specs.Kept.{StaysJudged}

-- the first cubes stay
module _ (old new : List Node) (later : AreLaterNodes old new) (seen : ℕ) (within : seen ≤ length old) where
  same_count : length (take seen (cubes_of old)) ≡ length (take seen (cubes_of new))
  same_count =
      let n = later.count in
      length-take-le seen (cubes_of old) (subst (λ m. seen ≤ m) (sym (length-cubes_of old)) within)
      ∙ sym (length-take-le seen (cubes_of new) (subst (λ m. seen ≤ m) (sym (length-cubes_of new)) (omega arith)))

  same_front : take seen (cubes_of old) ≡ take seen (cubes_of new)
  same_front = ext_get_or no_cube (take seen (cubes_of old)) (take seen (cubes_of new)) same_count each
    where
      each : (i : ℕ) → i < length (take seen (cubes_of old)) → cube_at (take seen (cubes_of old)) i ≡ cube_at (take seen (cubes_of new)) i
      each i below =
          let inside : i < seen = subst (λ m. i < m) (length-take-le seen (cubes_of old) (subst (λ m. seen ≤ m) (sym (length-cubes_of old)) within)) below in
          get_or-take seen (cubes_of old) i no_cube inside
          ∙ (cube_at-cubes_of old i
          ∙ (sym ((later.each i (omega arith)).cube)
          ∙ (sym (cube_at-cubes_of new i)
          ∙ sym (get_or-take seen (cubes_of new) i no_cube inside))))

one_stays : (old new : LogValue) → new.protocol ≡ old.protocol → AreLaterNodes old.nodes new.nodes → (v : Verdict) → IsJudgement IsGivenForm ArePieceCubes old v → IsJudgement IsGivenForm ArePieceCubes new v
one_stays old new same later v is =
    let count = later.count in
    let inside = is.inside in
    let seen = is.seen in
    record {
      inside = omega arith;
      seen = omega arith;
      judged = subst (λ (p : Protocol). AreJudged IsGivenForm ArePieceCubes p (take v.seen (cubes_of new.nodes)) (node_at new.nodes v.node).cube v.picks) (sym same)
          (subst (λ (c : Cube). AreJudged IsGivenForm ArePieceCubes old.protocol (take v.seen (cubes_of new.nodes)) c v.picks) (sym ((later.each v.node is.inside).cube))
          (subst (λ (cs : List Cube). AreJudged IsGivenForm ArePieceCubes old.protocol cs (node_at old.nodes v.node).cube v.picks) (same_front old.nodes new.nodes later v.seen is.seen) is.judged));
    }

some_stays : (old new : LogValue) → new.protocol ≡ old.protocol → AreLaterNodes old.nodes new.nodes → (kept : Option Verdict)
    → IfSome kept (λ v. IsJudgement IsGivenForm ArePieceCubes old v) → IfSome kept (λ v. IsJudgement IsGivenForm ArePieceCubes new v)
some_stays old new same later None is = is
some_stays old new same later (Some v) is = one_stays old new same later v is

pub goes_on_stays : (old new : LogValue) → IsLegalLog ArePieceCubes old → IsLegalLog ArePieceCubes new → GoesOn old new → StaysJudged old new
goes_on_stays old new before behind on verdicts are =
    let later : AreLaterNodes old.nodes new.nodes = nodes_later ArePieceCubes old new before behind on in
    λ k d below. some_stays old new on.protocol later _ (are k d below)

pub leads_on : (old : LogValue) (event : LogEvent) (new : LogValue) → Leads ArePieceCubes old event new → GoesOn old new
leads_on old event new leads = record { protocol = leads.protocol; budget = leads.budget; more = event ∷ []; events = leads.events }
