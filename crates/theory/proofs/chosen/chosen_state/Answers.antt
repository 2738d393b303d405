use Rattle.std.proofs.Common.{◌≡◌, ◌++◌, List, ℤ}
use Rattle.cub_proto.specs.declared.literal.Term.{Term}
use Rattle.cub_proto.specs.declared.literal.Lit.{Lit}
use Rattle.theory_laws.proofs.Choosing.{chosen_at}
use Rattle.theory.specs.Loaded.{IsSolved, table_values}
use Rattle.theory.proofs.chosen.chosen_state.Goals as goal

pub returns-clause-chosen : goal.returns-clause-chosen
returns-clause-chosen c =
    let all : List Lit = c.args.lits.now ++ c.args.more.now in
    let solved : IsSolved c.args.protocol.now c.args.width all c.solve.new.masks c.solve.new.classes c.solve.new.integers = c.solve.ensures.solved c.if-not-solve.false in
    let w : Term → ℤ = λ t. (chosen_at all c.solve.new.integers solved.closed t).0 in
    record {
      values = table_values c.solve.new.masks c.solve.new.classes w;
      constructors = solved.least;
      processes = solved.chosen;
      integers = λ t. (chosen_at all c.solve.new.integers solved.closed t).1;
      state = c.in_ok-state.ensures.made w (record { lits = all; closed = solved.closed; each = λ t. (chosen_at all c.solve.new.integers solved.closed t).1 });
    }
