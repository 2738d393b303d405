use Rattle.std.proofs.Common.{◌≡◌, ◌∙◌, sym, ap, ◌++◌, [], ◌∷◌}
use Rattle.cub_cube.specs.Rename.{renamed_all}
use Rattle.theory.proofs.Starts.{place_more}
use Rattle.theory.proofs.scratch.at_all_places.Goals as goal

pub loop-q-preserved : goal.loop-q-preserved
loop-q-preserved c =
    c.in_ok-push_at.ensures ∙ ap (λ xs. xs ++ renamed_all (c.loop-q.q ∷ []) c.args.conj.now) c.loop-q.invariant ∙ sym (place_more c.args.conj.now c.loop-q.q)
