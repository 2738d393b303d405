use Rattle.std.proofs.Common.{◌∙◌, ◌+◌, ◌++◌, ◌∷◌, [], ap, sym, subst, length-append}
use Rattle.std.specs.Prelude.{All}
use Rattle.std.proofs.lemmas.List.Elements.{All-push}
use Rattle.log_form.specs.declared.numbered.Numbered.{Numbered}
use Rattle.log_form.specs.Numbering.{with_number}
use Rattle.log_form.specs.Pieces.{IsAskable}
use Rattle.log_steps.proofs.JudgeLemmas.{numbered_more}
use Rattle.log_steps.proofs.walking.pieces_of.Goals as goal

pub loop-list-preserved : goal.loop-list-preserved
loop-list-preserved g c =
    let p = c.args.protocol.now in
    let invariant = c.loop-list.invariant in
    let done = invariant.done in
    let x = c.in-Some.piece in
    let n = c.loop-list.number in
    let list = c.loop-list.list in
    let pushed = c.in_ok-push.ensures.ok in
    record {
      made = c.next.ensures.made;
      done = done ++ x ∷ [];
      given = (rw c.in-Some.is at c.in_ok-piece.ensures.piece) done invariant.given;
      count = c.in_ok-number.ensures ∙ (ap (λ k. k + 1) invariant.count ∙ sym (length-append done (x ∷ [])));
      is = pushed ∙ (ap (λ xs. xs ++ with_number n x ∷ []) invariant.is ∙ numbered_more done x n invariant.count);
      fit = subst (All (λ (y : Numbered). IsAskable p y.cube)) (sym pushed) (All-push (λ (y : Numbered). IsAskable p y.cube) list (with_number n x) invariant.fit (rw c.in-Some.is at c.in_ok-piece.ensures.askable));
    }

pub returns-clause-value : goal.returns-clause-value
returns-clause-value g c =
    let invariant = c.loop-list.invariant in
    record { cubes = invariant.done; its = (rw c.in_default.is at c.in_ok-piece.ensures.all) invariant.done invariant.given; is = invariant.is }
