use Rattle.std.proofs.Common.{◌≡◌, ◌++◌, ◌∷◌, [], ◌/◌, ◌∙◌, List, length, set, sym, ap, subst, arith}
use Rattle.std.proofs.lemmas.List.{get_or_read, set-get_or}
use Rattle.cover_index.specs.Sealed.{Sealed, no_segment}
use Rattle.cover_index.specs.Stored.{Stored, shown, segment_at}
use Rattle.cover_index.proofs.Storing.{cubes_size, same_shown, shown_more}
use Rattle.cover_index.proofs.store.Store.push.Goals as goal

pub returns-in-Err-clause-err : goal.returns-in-Err-clause-err
returns-in-Err-clause-err c =
    same_shown c.self.inside.segments.items c.make_room.new.segments.items c.self.inside.count c.make_room.ensures.shown ∙ c.self.view_is

pub overflow_add-self : goal.overflow_add-self
overflow_add-self c =
    let size : length c.args.self.now.cubes ≡ c.self.inside.count = ap (λ (x : Stored). length x.cubes) (sym c.self.view_is) ∙ cubes_size c.self.inside.segments.items c.self.inside.count in
    omega (arith, size, c.requires)

pub returns-in-Ok-push-clause-ok : goal.returns-in-Ok-push-clause-ok
returns-in-Ok-push-clause-ok c =
    let segments = c.make_room.new.segments.items in
    let count = c.self.inside.count in
    let still = c.make_room.ensures.shown in
    let cube = c.args.cube in
    let own = c.args.own.now in
    let there : c.index_mut.result.now ≡ segment_at segments (count / 64) = get_or_read segments (count / 64) c.index_mut.result.now c.in-Ok.ensures.there c.index_mut.ensures.value no_segment in
    let cubes : c.push.new.self.cubes ≡ (segment_at segments (count / 64)).cubes ++ cube ∷ [] = c.in-Ok-push.ensures.cubes ∙ ap (λ (x : Sealed). x.cubes ++ cube ∷ []) there in
    let summaries : c.push.new.self.summaries ≡ (segment_at segments (count / 64)).summaries ++ own ∷ [] = c.in-Ok-push.ensures.summaries ∙ ap (λ (x : Sealed). x.summaries ++ own ∷ []) there in
    let one_each : length (segment_at segments (count / 64)).summaries ≡ length (segment_at segments (count / 64)).cubes = subst (λ (x : Sealed). length x.summaries ≡ length x.cubes) there c.in-Ok-push.ensures.one_each in
    shown_more segments c.push.new.self count c.in-Ok.ensures.there still.holds cube own c.in-Ok.ensures.room one_each cubes summaries
    ∙ ap (λ (x : Stored). record { cubes = x.cubes ++ cube ∷ []; summaries = x.summaries ++ own ∷ [] }) (same_shown c.self.inside.segments.items segments count still ∙ c.self.view_is)

pub returns-in-Err-push-clause-err : goal.returns-in-Err-push-clause-err
returns-in-Err-push-clause-err c =
    let segments = c.make_room.new.segments.items in
    let count = c.self.inside.count in
    let there : c.index_mut.result.now ≡ segment_at segments (count / 64) = get_or_read segments (count / 64) c.index_mut.result.now c.in-Ok.ensures.there c.index_mut.ensures.value no_segment in
    ap (λ (s : Sealed). shown (set segments (count / 64) s) count) (c.in-Err-push.ensures.err ∙ there)
    ∙ ap (λ (xs : List Sealed). shown xs count) (set-get_or segments (count / 64) no_segment)
    ∙ same_shown c.self.inside.segments.items segments count c.make_room.ensures.shown ∙ c.self.view_is
