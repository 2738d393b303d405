use Rattle.std.proofs.Common.{map, sym, subst, ◌∙◌, ◌<◌}
use Rattle.std.proofs.lemmas.List.{length-map}
use Rattle.log_steps.specs.Judged.{added_of}
use Rattle.cube_core.proofs.AdmitLemmas.{same_length}
use Rattle.cube_core.proofs.given.given_full.Goals as goal

pub returns-else-is_full-clause-fault : goal.returns-else-is_full-clause-fault
returns-else-is_full-clause-fault g c = (
  c.requires.needed,
  λ xs adds above none needed.
      let picks = c.in_ok-picks.picks in
      let alike = same_length c.args.protocol.now (g.F.Finder.list c.args.finder.now) c.args.list.now xs (map added_of picks) adds c.in_ok-picks.ensures.value.adds in
      let counted = length-map picks added_of in
      let len = c.len.ensures in
      let yes = c.is_full.ensures.1 (subst (λ n. c.args.room < n) (alike ∙ (counted ∙ sym len)) above, none, needed ∙ (alike ∙ (counted ∙ sym len))) in
      let not = c.if-is_full.false in
      cc,
)
