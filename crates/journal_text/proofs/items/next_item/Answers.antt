use Rattle.std.proofs.Common.{ℕ, List, subst, refl}
use Rattle.journal_text.specs.Items.{IsItemLine}
use Rattle.journal_text.proofs.Steps.{same_line}
use Rattle.journal_text.proofs.items.next_item.Goals as goal

pub returns-in_default-clause-none : goal.returns-in_default-clause-none
returns-in_default-clause-none c = λ line behind a at t. let none = c.in_default.ensures.none in absurd cc

pub returns-in_default-2-clause-none : goal.returns-in_default-2-clause-none
returns-in_default-2-clause-none c = λ line behind a at t.
    (rw c.in_default-2.is at c.in_ok-item.ensures.none) a
    (subst (λ (l : List ℕ). IsItemLine c.args.protocol.now c.args.node l a) (same_line c.args.text.now line behind c.in-Some.cut.bytes.now c.in-Some.cut.rest.now at c.in-Some.ensures.some) t)

pub returns-clause-found : goal.returns-clause-found
returns-clause-found c = (c.in-Some.cut.bytes.now, c.in-Some.cut.rest.now, c.in-Some.ensures.some, rw c.in-Some-2.is at c.in_ok-item.ensures.found, refl)
