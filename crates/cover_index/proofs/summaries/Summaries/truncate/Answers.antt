use Rattle.std.proofs.Common.{◌≡◌, List, length, take, sym, subst}
use Rattle.subsume.specs.declared.summary.Summary.{Summary}
use Rattle.cover_index.specs.Columns.{AreColumns, needs_mark, lacks_mark}
use Rattle.cover_index.proofs.Columned.{needs_take, lacks_take}
use Rattle.cover_index.proofs.summaries.Summaries.truncate.Goals as goal

pub invariant_of-self : goal.invariant_of-self
invariant_of-self c =
    let all = c.self.inside.all.items in
    let needs = c.self.inside.needs.items in
    let lacks = c.self.inside.lacks.items in
    let kept : c.truncate.new.self.items ≡ take c.args.len all = c.truncate.ensures.items in (
      c.self.invariant.0,
      c.self.invariant.1,
      subst (λ (ss : List Summary). AreColumns needs (length ss) (needs_mark ss)) (sym kept) (needs_take all c.args.len needs c.self.invariant.2),
      subst (λ (ss : List Summary). AreColumns lacks (length ss) (lacks_mark ss)) (sym kept) (lacks_take all c.args.len lacks c.self.invariant.3),
    )
