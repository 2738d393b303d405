use Rattle.std.specs.Prelude.{length}
use Rattle.cub_proto.specs.StateOf.{signature_of}
use Rattle.cub_base.proofs.Members.{has_Contains}
use Rattle.updates.specs.Allowed.{choice_fits}
use Rattle.updates.proofs.StepLemmas.{all_member, choice_parts, answer_is}
use Rattle.updates.proofs.laws.through_is_exact.Goals as goal

pub returns : goal.returns
returns c p updates params s places pick choices width lit fit state distinct inside narrow fits each has agrees others agree =
    answer_is p updates params fit s places state distinct inside pick choices width narrow lit fits
    (λ d at. choice_parts p (length places) updates params d (all_member (choice_fits (signature_of p) (length places) updates params) choices d each at)) has
    (λ d at. agrees d (has_Contains choices d at)) others agree
