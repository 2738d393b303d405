use Rattle.std.proofs.Common.{◌≡◌, ℕ, ◌<◌, ◌≤◌, ◌+◌, List, get_or, length, subst, sym, arith, below_more}
use Rattle.cub_proto.specs.declared.literal.Term.{Term}
use Rattle.cub_proto.specs.declared.literal.Term.TheVariants.{Global}
use Rattle.cub_proto.specs.declared.literal.Lit.{Lit}
use Rattle.cub_proto.specs.declared.literal.Lit.TheVariants.{FinIn}
use Rattle.diff_close.specs.Literals.{MentionsOnly}
use Rattle.diff_close.proofs.Terms.{read_any, mentions_more}
use Rattle.diff_close.proofs.names.name_all.Goals as goal

pub name_literal-requires : goal.name_literal-requires
name_literal-requires c = record {
  room = (
    c.requires.room.0,
    omega (arith, c.requires.room.1, c.loop-literal.invariant.capacity),
    c.loop-literal.invariant.kept c.requires.room.0 c.requires.room.2 c.requires.room.3,
    c.requires.room.3 c.loop-literal.literal-index (FinIn (Global 0) 0) c.loop-literal-test.true,
  );
}

pub loop-literal-preserved : goal.loop-literal-preserved
loop-literal-preserved c =
    let here : (d : Lit) → MentionsOnly c.name_literal.new.names.items (get_or c.args.lits.now c.loop-literal.literal-index d) = λ d.
    subst (λ (l : Lit). MentionsOnly c.name_literal.new.names.items l) (read_any c.args.lits.now c.loop-literal.literal-index (FinIn (Global 0) 0) d c.loop-literal-test.true) c.name_literal.ensures.named in
    record {
      kept = λ all are only. c.name_literal.ensures.kept all (c.loop-literal.invariant.kept all are only) (only c.loop-literal.literal-index (FinIn (Global 0) 0) c.loop-literal-test.true);
      named = below_more (λ k. (d : Lit) → MentionsOnly c.name_literal.new.names.items (get_or c.args.lits.now k d)) c.loop-literal.literal-index
          (λ k k_in d. mentions_more c.loop-literal.names.items c.name_literal.new.names.items c.name_literal.ensures.grows (get_or c.args.lits.now k d) (c.loop-literal.invariant.named k k_in d)) here;
      grows = λ t h. c.name_literal.ensures.grows t (c.loop-literal.invariant.grows t h);
      capacity = omega (arith, c.loop-literal.invariant.capacity, c.name_literal.ensures.capacity);
    }
