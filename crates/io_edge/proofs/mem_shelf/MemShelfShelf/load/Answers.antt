use Rattle.std.proofs.Common.{ℕ, List, IsTrue}
use Rattle.io_edge.specs.MemoryShelf.{is_sure_of}
use Rattle.io_edge.proofs.Sure.{sure_stays, sure_given}
use Rattle.io_edge.proofs.mem_shelf.MemShelfShelf.load.Goals as goal

pub returns-in-Ok-clause-stays_sure : goal.returns-in-Ok-clause-stays_sure
returns-in-Ok-clause-stays_sure c = λ (other : List ℕ) (sure : IsTrue (is_sure_of c.args.self.now other)).
    sure_stays c.self.inside.fails c.self.inside.files c.self.inside.asked c.ask.new.asked c.args.name.now other
    c.in_ok-ask.ensures.ok (rw (← c.self.view_is) at sure)

pub returns-in-Err-Failed-clause-stays_sure : goal.returns-in-Err-Failed-clause-stays_sure
returns-in-Err-Failed-clause-stays_sure c = λ (other : List ℕ) (sure : IsTrue (is_sure_of c.args.self.now other)).
    sure_stays c.self.inside.fails c.self.inside.files c.self.inside.asked c.ask.new.asked c.args.name.now other
    c.in_ok-ask.ensures.ok (rw (← c.self.view_is) at sure)

pub returns-in-Err-TooLong-clause-stays_sure : goal.returns-in-Err-TooLong-clause-stays_sure
returns-in-Err-TooLong-clause-stays_sure c = λ (other : List ℕ) (sure : IsTrue (is_sure_of c.args.self.now other)).
    sure_stays c.self.inside.fails c.self.inside.files c.self.inside.asked c.ask.new.asked c.args.name.now other
    c.in_ok-ask.ensures.ok (rw (← c.self.view_is) at sure)

pub returns-in-Err-Memory-clause-stays_sure : goal.returns-in-Err-Memory-clause-stays_sure
returns-in-Err-Memory-clause-stays_sure c = λ (other : List ℕ) (sure : IsTrue (is_sure_of c.args.self.now other)).
    sure_stays c.self.inside.fails c.self.inside.files c.self.inside.asked c.ask.new.asked c.args.name.now other
    c.in_ok-ask.ensures.ok (rw (← c.self.view_is) at sure)

pub returns-in-Err-Failed-clause-sure : goal.returns-in-Err-Failed-clause-sure
returns-in-Err-Failed-clause-sure c = λ (sure : IsTrue (is_sure_of c.args.self.now c.args.name.now)).
    let h = c.in-Err-Failed.ensures.fault (λ e. cc) in
    absurd (sure_given c.self.inside.fails c.self.inside.files _ c.args.name.now c.args.limit
    (rw (← c.self.view_is) at sure) (rw (c.in-Err-Failed.field-0-is, c.is_among-fails.ensures, c.len.ensures) at h))
