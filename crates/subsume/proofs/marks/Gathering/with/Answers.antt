use Rattle.std.proofs.Common.{◌∙◌, ◌&&◌, ◌||◌, ap}
use Rattle.cub_proto.specs.StateOf.{signature_of}
use Rattle.cub_proto.specs.Truth.{has_bit}
use Rattle.theory_laws.specs.Kinds.{is_link}
use Rattle.subsume.specs.Marks.{asked_terms, is_global, is_cell, marks_global, marks_array, marks_member, marks_constructor, is_bond}
use Rattle.subsume.proofs.Bits.{any_word, twice_word, both_terms}
use Rattle.subsume.proofs.marks.Gathering.with.Goals as goal

pub returns : goal.returns
returns c lits g =
    let sig = signature_of c.args.protocol.now in
    let lit = c.args.lit.now in
    let old = c.args.self in
    let terms = asked_terms sig lit in
    record {
      globals = λ b below. any_word (marks_global sig b) lits lit _ _ (g.globals b below)
          (c.either-2.ensures b ∙ ap (λ x. has_bit old.globals b || x)
          (c.either.ensures b ∙ both_terms (is_global b) _ _ terms _ _ c.asked_terms-first.ensures (c.global_bits.ensures b below) (c.global_bits-2.ensures b below)));
      arrays = λ b below. any_word (marks_array sig b) lits lit _ _ (g.arrays b below)
          (c.either-4.ensures b ∙ ap (λ x. has_bit old.arrays b || x)
          (c.either-3.ensures b ∙ both_terms (is_cell b) _ _ terms _ _ c.asked_terms-first.ensures (c.array_bits.ensures b below) (c.array_bits-2.ensures b below)));
      members = λ b below. twice_word (marks_member b) lits lit _ _ _ (g.members b below) (g.cells b below)
          (c.either-5.ensures b ∙ ap (λ x. has_bit old.members b || x) (c.both.ensures b ∙ ap (λ x. has_bit old.cells b && x) (c.member_bits-member.ensures b below)));
      constructors = λ b below. any_word (marks_constructor b) lits lit _ _ (g.constructors b below)
          (c.either-6.ensures b ∙ ap (λ x. has_bit old.constructors b || x) (c.constructor_bits-constructor.ensures b below));
      pairs = λ b below. twice_word (marks_constructor b) lits lit _ _ _ (g.pairs b below) (g.constructors b below)
          (c.either-7.ensures b ∙ ap (λ x. has_bit old.pairs b || x) (c.both-2.ensures b ∙ ap (λ x. has_bit old.constructors b && x) (c.constructor_bits-constructor.ensures b below)));
      cells = λ b below. any_word (marks_member b) lits lit _ _ (g.cells b below)
          (c.either-8.ensures b ∙ ap (λ x. has_bit old.cells b || x) (c.member_bits-member.ensures b below));
      linked = any_word is_link lits lit _ _ g.linked c.links.ensures;
      bonded = any_word is_bond lits lit _ _ g.bonded c.bonds.ensures;
    }
