use Rattle.std.proofs.Common.{◌≡◌, ◌++◌, ◌<◌, length, map, sym, ap, subst, ◌∙◌}
use Rattle.log_form.specs.Log.{cubes_of}
use Rattle.log_form.specs.Pieces.{IsFit, widest, greatest_asked}
use Rattle.log_steps.specs.Commits.{kept_of, StandAt}
use Rattle.log_steps.proofs.CommitLemmas.{kept_each, grown_cubes, picks_stand, whole_written, finder_count}
use Rattle.log_steps.proofs.committing.grow.Goals as goal

pub append-requires-clause-fit : goal.append-requires-clause-fit
append-requires-clause-fit g c = kept_each (λ a. IsFit c.args.protocol.now widest greatest_asked a.cube) c.args.picks.now c.args.which.now c.requires.may.fit c.requires.numbers

pub append-requires-clause-goals : goal.append-requires-clause-goals
append-requires-clause-goals g c = λ none. kept_each (λ a. a.piece < 4294967296) c.args.picks.now c.args.which.now (c.requires.may.goals none) c.requires.numbers

pub link_up-committed-requires-clause-cubes : goal.link_up-committed-requires-clause-cubes
link_up-committed-requires-clause-cubes g c =
    let nodes = c.args.nodes.now.items in
    let list = kept_of c.args.picks.now c.args.which.now in
    c.in_ok-append.ensures.cubes ∙ (ap (λ cs. cs ++ map (λ a. a.cube) list) c.requires.cubes ∙ (sym (grown_cubes nodes c.args.node list) ∙ ap cubes_of (sym (c.as_mut_slice.ensures.value ∙ c.in_ok-append.ensures.nodes))))

pub link_up-committed-requires-clause-stand : goal.link_up-committed-requires-clause-stand
link_up-committed-requires-clause-stand g c =
    let nodes = c.args.nodes.now.items in
    let first : c.count-first.result ≡ length nodes = finder_count (g.F.Finder.list c.args.finder.now) nodes c.count-first.result c.count-first.ensures c.requires.cubes in
    subst (StandAt c.count-first.result c.args.picks.now c.args.which.now) (sym (c.as_mut_slice.ensures.value ∙ c.in_ok-append.ensures.nodes))
    (picks_stand nodes c.args.node c.args.picks.now c.args.which.now c.count-first.result first)

pub returns-clause-cubes : goal.returns-clause-cubes
returns-clause-cubes g c =
    let up = c.link_up-committed in
    let value = c.as_mut_slice.ensures.value in
    let listed = c.in_ok-append.ensures.cubes ∙ (ap (λ cs. cs ++ map (λ a. a.cube) (kept_of c.args.picks.now c.args.which.now)) c.requires.cubes ∙ sym (grown_cubes c.args.nodes.now.items c.args.node (kept_of c.args.picks.now c.args.which.now))) in
    let written = whole_written c.append.new.nodes.len up.new.nodes c.append.new.nodes.items (sym c.as_mut_slice.ensures.len ∙ ap length value) (up.ensures.linked.count ∙ ap length value) in
    up.ensures.same ∙ (listed ∙ (ap cubes_of (sym (value ∙ c.in_ok-append.ensures.nodes)) ∙ (sym up.ensures.linked.made.cubes ∙ ap cubes_of (sym written))))
