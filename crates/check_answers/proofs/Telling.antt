-- What is told of a log, from what its parts are.
use Rattle.std.proofs.Common.{◌≡◌, ℕ, List, Result, Ok, IfOk, refl, sym, subst}
use Rattle.std.specs.Prelude.{Some}
use Rattle.cub_proto.specs.declared.event.Trace.{Trace}
use Rattle.cub_proto.specs.declared.protocol.Protocol.{Protocol}
use Rattle.cub_cube.specs.declared.cube.Cube.{Cube}
use Rattle.log_form.specs.declared.event.Mark.{Mark}
use Rattle.log_form.specs.declared.node.Node.{Node}
use Rattle.log_form.specs.declared.verdicts.LogVerdict.{LogVerdict}
use Rattle.log_form.specs.Legal.{IsLegalLog}
use Rattle.log_form.specs.Log.{LogValue, live_cubes}
use Rattle.log_form.specs.Verdict.{verdict_of}
use Rattle.predecessors.specs.Predecessors.{ArePieceCubes}
use Rattle.trace_text.specs.Text.{trace_text}
use Rattle.trace_build.specs.Origins.{IsBadNode, IsTraceOfNode}
use Rattle.crew.specs.declared.ended.Ended.{Ended}
use Rattle.crew.specs.declared.ended.Ended.TheVariants.{Full, Wide}
use Rattle.crew.specs.Ends.{log_of, TellsVerdict}
use Rattle.check_answers.specs.Certified.{ProveSafety, IsCertificateText, IsSafe}
use Rattle.check_answers.specs.Checked.{IsUnsafe, unsafe_status}

pub of_ok : {A E : Type 0} (r : Result A E) (x : A) (P : A → Type 0) → r ≡ Ok x → IfOk r P → P x
of_ok r x P is h = subst (λ s. IfOk s P) is h

pub bad_node : (log : LogValue) (p : Protocol) (nodes : List Node) (node : ℕ) → IsLegalLog ArePieceCubes log → p ≡ log.protocol → nodes ≡ log.nodes → log.mark ≡ Mark.Bad node → IsBadNode p nodes node
bad_node log p nodes node legal protocol are bad = record { log = log; legal = legal; protocol = sym protocol; are = sym are; bad = bad }

pub unsafe_told : (log : LogValue) (p : Protocol) (nodes : List Node) (node : ℕ) (t : Trace) (status : ℕ) (text : List ℕ) → p ≡ log.protocol → nodes ≡ log.nodes → log.mark ≡ Mark.Bad node
    → IsTraceOfNode p nodes node t → status ≡ unsafe_status t.plain → text ≡ trace_text p t → IsUnsafe log status text
unsafe_told log p nodes node t status text protocol are bad of status_is text_is =
    let its : IsTraceOfNode log.protocol log.nodes node t = subst (λ q. IsTraceOfNode q log.nodes node t) protocol (subst (λ ns. IsTraceOfNode p ns node t) are of) in
    record {
      node = node;
      bad = bad;
      trace = t;
      of_node = its;
      run = its.2.accepted;
      status_is = status_is;
      text_is = subst (λ q. text ≡ trace_text q t) protocol text_is;
    }

pub safe_told : (log : LogValue) (p : Protocol) (cubes : List Cube) (format : ℕ) (text : List ℕ) → p ≡ log.protocol → cubes ≡ live_cubes log.nodes → verdict_of log ≡ Some LogVerdict.Safe
    → ProveSafety log.protocol log.budget cubes → IsCertificateText p cubes format text → IsSafe format log 0 text
safe_told log p cubes format text protocol live verdict prove certificate = record {
  verdict = verdict;
  prove = subst (ProveSafety log.protocol log.budget) live prove;
  status_is = refl;
  text_is = subst (λ q. IsCertificateText q (live_cubes log.nodes) format text) protocol (subst (λ cs. IsCertificateText p cs format text) live certificate);
}

-- ---- verdicts UNKNOWN
pub full_verdict : (e : Ended) (log : LogValue) → e ≡ Full log → TellsVerdict e → verdict_of (log_of e) ≡ Some LogVerdict.UnknownCubes
full_verdict e log is tells =
    let told : TellsVerdict (Full log) = subst TellsVerdict is tells in
    subst (λ x. verdict_of (log_of x) ≡ Some LogVerdict.UnknownCubes) (sym is) told

pub wide_verdict : (e : Ended) (log : LogValue) (number : ℕ) → e ≡ Wide log number → TellsVerdict e → verdict_of (log_of e) ≡ Some LogVerdict.UnknownWidth
wide_verdict e log number is tells =
    let told : TellsVerdict (Wide log number) = subst TellsVerdict is tells in
    subst (λ x. verdict_of (log_of x) ≡ Some LogVerdict.UnknownWidth) (sym is) told.0
