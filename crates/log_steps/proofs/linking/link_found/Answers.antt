use Rattle.std.proofs.Common.{sym, ◌∙◌, true}
use Rattle.log_steps.proofs.LinkLemmas.{one_made}
use Rattle.log_steps.proofs.linking.link_found.Goals as goal

pub returns-then-link_one-clause-made : goal.returns-then-link_one-clause-made
returns-then-link_one-clause-made g c =
    one_made c.args.nodes.now c.link_one.new.nodes c.args.number c.args.by c.args.places true c.requires.inside (sym c.if-link_one.true ∙ c.link_one.ensures.live) c.link_one.ensures.linked
