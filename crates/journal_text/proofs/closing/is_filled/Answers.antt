use Rattle.std.proofs.Common.{Some, true}
use Rattle.journal_text.proofs.Takes.{full_node}
use Rattle.journal_text.proofs.FullLaws.{fills_only, refused_by, no_node_told, fills_told}
use Rattle.journal_text.proofs.closing.is_filled.Goals as goal

-- no such line
pub returns-in_default-clause-no : goal.returns-in_default-clause-no
returns-in_default-clause-no g c = λ no_match legal last k.
    (rw c.in_default.is at c.in_ok-told.ensures.none) (Some k.0) k.1 (full_node g.M.PreImages.pieces true c.args.log.now (Some k.0) k.1 last c.args.line.now k.2) k.2.early k.2.text

-- a line that says nothing of a node, or that it needs nothing
pub returns-then-is_none-clause-no : goal.returns-then-is_none-clause-no
returns-then-is_none-clause-no g c = λ no_match legal last k.
    let P = g.M.PreImages.pieces in
    let told = c.in-Some.told in
    let small = rw c.in-Some.is at c.in_ok-told.ensures.small in
    fills_only P true c.args.log.now c.args.line.now told.node told.needed (rw c.in-Some.is at c.in_ok-told.ensures.found) small.0 small.1
    (no_node_told P true c.args.log.now c.args.line.now told.node told.needed c.is_none.result c.is_none.ensures c.then-is_none.either legal) last k

-- an event that is refused
pub returns-clause-no : goal.returns-clause-no
returns-clause-no g c = λ no_match legal last k.
    let P = g.M.PreImages.pieces in
    let told = c.in-Some.told in
    let small = rw c.in-Some.is at c.in_ok-told.ensures.small in
    fills_only P true c.args.log.now c.args.line.now told.node told.needed (rw c.in-Some.is at c.in_ok-told.ensures.found) small.0 small.1
    (λ node its end t. refused_by P c.args.log.now told.node c.new.result told.needed c.in-Err-Not.field-0 c.in-Err-Not.field-0-0 c.in-Err-Not.field-0-is c.new.ensures
    c.in-Err-Not.ensures.fault true (Some node) end c.args.line.now its t) last k

-- the log is full
pub returns-in-Ok-clause-yes : goal.returns-in-Ok-clause-yes
returns-in-Ok-clause-yes g c = λ yes legal.
    let told = c.in-Some.told in
    let small = rw c.in-Some.is at c.in_ok-told.ensures.small in
    fills_told g.M.PreImages.pieces c.args.log.now c.args.line.now told.node c.new.result told.needed c.admit.new.self legal (rw c.in-Some.is at c.in_ok-told.ensures.found)
    c.is_none.result c.is_none.ensures c.if-is_none.false c.if-told-eq0.false small.1 c.new.ensures c.in-Ok.ensures.legal
