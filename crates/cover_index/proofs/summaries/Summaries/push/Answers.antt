use Rattle.std.proofs.Common.{◌≡◌, ◌++◌, ◌∷◌, [], List, length, sym, ap, ◌∙◌, subst, arith}
use Rattle.cub_proto.specs.Truth.{has_bit}
use Rattle.subsume.specs.declared.summary.Summary.{Summary}
use Rattle.cover_index.specs.Columns.{AreColumns, needs_mark, lacks_mark}
use Rattle.cover_index.proofs.Columned.{columns_same, needs_push, lacks_push}
use Rattle.cover_index.proofs.summaries.Summaries.push.Goals as goal

pub invariant_of-self-in-Ok : goal.invariant_of-self-in-Ok
invariant_of-self-in-Ok c =
    let all = c.self.inside.all.items in
    let own = c.args.own.now in
    let more : c.push.new.self.items ≡ all ++ own ∷ [] = c.in-Ok.ensures.items in
    let last : c.len-at.result ≡ length all = c.len-at.ensures ∙ c.self.inside.all.ok.0 in
    let needs = columns_same c.self.inside.needs.items c.make.new.columns.items (length all) (needs_mark all) c.make.ensures.same c.self.invariant.2 in
    let lacks = columns_same c.self.inside.lacks.items c.make-2.new.columns.items (length all) (lacks_mark all) c.make-2.ensures.same c.self.invariant.3 in (
      omega (arith, c.put.ensures.all),
      omega (arith, c.put-in-Ok.ensures.all),
      subst (λ (ss : List Summary). AreColumns c.put.new.columns.items (length ss) (needs_mark ss)) (sym more)
          (needs_push all own c.make.new.columns.items c.put.new.columns.items c.len-at.result last needs (λ b i below less. c.put.ensures.others b i below less) (λ b below. c.put.ensures.own b below ∙ ap (λ key. has_bit key b) c.needs_key.ensures)),
      subst (λ (ss : List Summary). AreColumns c.put-in-Ok.new.columns.items (length ss) (lacks_mark ss)) (sym more)
          (lacks_push all own c.make-2.new.columns.items c.put-in-Ok.new.columns.items c.len-at.result last lacks (λ b i below less. c.put-in-Ok.ensures.others b i below less) (λ b below. c.put-in-Ok.ensures.own b below ∙ c.lacks_key.ensures b below)),
    )
