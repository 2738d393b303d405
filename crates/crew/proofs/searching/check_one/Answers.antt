use Rattle.crew.specs.Ends.{log_of}
use Rattle.crew.proofs.Stepping.{is_search}
use Rattle.crew.proofs.searching.check_one.Goals as goal

pub returns-clause-search : goal.returns-clause-search
returns-clause-search c =
    is_search c.args.protocol.now c.args.budget c.in_ok-log.log c.expand_all.new.log (log_of c.end_of.result) c.end_of.ensures.same c.in_ok-log.ensures.roots c.in_ok-log.ensures.chosen
    c.in_ok-expand_all.ensures.least c.in_ok-expand_all.ensures.ended
