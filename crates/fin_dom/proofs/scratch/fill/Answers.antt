use Rattle.std.proofs.Common.{◌≡◌, ◌++◌, [], List, length, true, false, IsTrue, sym, ◌∙◌}
use Rattle.std.specs.List.{list_all}
use Rattle.std.proofs.lemmas.Bool.{false≢true, true_from_ne_false}
use Rattle.cub_proto.specs.StateOf.{signature_of}
use Rattle.cub_proto.proofs.Constructors.{few_constructors}
use Rattle.fin_dom.specs.Table.{con_of, terms_fit}
use Rattle.fin_dom.specs.Links.{Narrows}
use Rattle.fin_dom.specs.Gathered.{AreGathered}
use Rattle.fin_dom.proofs.Narrowing.{narrows_none}
use Rattle.fin_dom.proofs.Solving.{fresh, all_fit, solution_front, no_solution, least_solution, decided_none, narrows_twice}
use Rattle.fin_dom.proofs.scratch.fill.Goals as goal

pub returns-then-not-gather-clause-exact : goal.returns-then-not-gather-clause-exact
returns-then-not-gather-clause-exact c =
    let sig = signature_of c.args.protocol.now in
    let first : AreGathered sig [] c.clear.new.masks = fresh sig c.args.masks.now c.clear.new.masks c.clear.ensures.size c.clear.ensures.all in (
      (λ e. absurd (false≢true e)),
      (λ solution. absurd (c.gather.ensures.none c.if-not-gather.true [] first (solution_front sig c.args.lits.now c.args.more.now solution))),
    )

pub returns-then-not-gather-2-clause-exact : goal.returns-then-not-gather-2-clause-exact
returns-then-not-gather-2-clause-exact c =
    let sig = signature_of c.args.protocol.now in
    let first : AreGathered sig [] c.clear.new.masks = fresh sig c.args.masks.now c.clear.new.masks c.clear.ensures.size c.clear.ensures.all in
    let second : AreGathered sig c.args.lits.now c.gather.new.masks = c.gather.ensures.gathered c.if-not-gather.false [] first in
    ((λ e. absurd (false≢true e)), (λ solution. absurd (c.gather-2.ensures.none c.if-not-gather-2.true c.args.lits.now second solution)))

pub narrow_both-requires-clause-masks : goal.narrow_both-requires-clause-masks
narrow_both-requires-clause-masks c =
    let sig = signature_of c.args.protocol.now in
    let first : AreGathered sig [] c.clear.new.masks = fresh sig c.args.masks.now c.clear.new.masks c.clear.ensures.size c.clear.ensures.all in
    let second : AreGathered sig c.args.lits.now c.gather.new.masks = c.gather.ensures.gathered c.if-not-gather.false [] first in
    let all = c.args.lits.now ++ c.args.more.now in
    let masks = c.gather-2.new.masks in
    let gathered : AreGathered sig all masks = c.gather-2.ensures.gathered c.if-not-gather-2.false c.args.lits.now second in
    let fit : list_all (terms_fit sig (length masks)) all ≡ true =
    all_fit sig c.args.masks.now masks c.args.lits.now c.args.more.now (c.gather-2.ensures.size ∙ c.gather.ensures.size ∙ c.clear.ensures.size) c.requires.fit c.requires.more_fit in
    gathered.masks_fit

pub returns-then-not-narrow_both-clause-exact : goal.returns-then-not-narrow_both-clause-exact
returns-then-not-narrow_both-clause-exact c =
    let sig = signature_of c.args.protocol.now in
    let first : AreGathered sig [] c.clear.new.masks = fresh sig c.args.masks.now c.clear.new.masks c.clear.ensures.size c.clear.ensures.all in
    let second : AreGathered sig c.args.lits.now c.gather.new.masks = c.gather.ensures.gathered c.if-not-gather.false [] first in
    let all = c.args.lits.now ++ c.args.more.now in
    let masks = c.gather-2.new.masks in
    let gathered : AreGathered sig all masks = c.gather-2.ensures.gathered c.if-not-gather-2.false c.args.lits.now second in
    let fit : list_all (terms_fit sig (length masks)) all ≡ true =
    all_fit sig c.args.masks.now masks c.args.lits.now c.args.more.now (c.gather-2.ensures.size ∙ c.gather.ensures.size ∙ c.clear.ensures.size) c.requires.fit c.requires.more_fit in (
      (λ e. absurd (false≢true e)),
      (λ solution. absurd (no_solution sig (few_constructors c.args.protocol.now) all masks gathered fit masks (narrows_none all masks gathered.masks_fit)
          (c.narrow_both.ensures.none c.if-not-narrow_both.true) solution)),
    )

pub returns-then-not-narrow_both-2-clause-exact : goal.returns-then-not-narrow_both-2-clause-exact
returns-then-not-narrow_both-2-clause-exact c =
    let sig = signature_of c.args.protocol.now in
    let first : AreGathered sig [] c.clear.new.masks = fresh sig c.args.masks.now c.clear.new.masks c.clear.ensures.size c.clear.ensures.all in
    let second : AreGathered sig c.args.lits.now c.gather.new.masks = c.gather.ensures.gathered c.if-not-gather.false [] first in
    let all = c.args.lits.now ++ c.args.more.now in
    let masks = c.gather-2.new.masks in
    let gathered : AreGathered sig all masks = c.gather-2.ensures.gathered c.if-not-gather-2.false c.args.lits.now second in
    let fit : list_all (terms_fit sig (length masks)) all ≡ true =
    all_fit sig c.args.masks.now masks c.args.lits.now c.args.more.now (c.gather-2.ensures.size ∙ c.gather.ensures.size ∙ c.clear.ensures.size) c.requires.fit c.requires.more_fit in
    let once : Narrows all masks c.narrow_both.new.masks = c.narrow_both.ensures.narrows c.if-not-narrow_both.false in (
      (λ e. absurd (false≢true e)),
      (λ solution. absurd (no_solution sig (few_constructors c.args.protocol.now) all masks gathered fit c.narrow_both.new.masks once
          (c.narrow_both-2.ensures.none c.if-not-narrow_both-2.true) solution)),
    )

pub search-requires-clause-decided : goal.search-requires-clause-decided
search-requires-clause-decided c = decided_none c.narrow_both-2.new.masks (c.args.lits.now ++ c.args.more.now)

pub returns-clause-exact : goal.returns-clause-exact
returns-clause-exact c =
    let sig = signature_of c.args.protocol.now in
    let first : AreGathered sig [] c.clear.new.masks = fresh sig c.args.masks.now c.clear.new.masks c.clear.ensures.size c.clear.ensures.all in
    let second : AreGathered sig c.args.lits.now c.gather.new.masks = c.gather.ensures.gathered c.if-not-gather.false [] first in
    let all = c.args.lits.now ++ c.args.more.now in
    let masks = c.gather-2.new.masks in
    let gathered : AreGathered sig all masks = c.gather-2.ensures.gathered c.if-not-gather-2.false c.args.lits.now second in
    let fit : list_all (terms_fit sig (length masks)) all ≡ true =
    all_fit sig c.args.masks.now masks c.args.lits.now c.args.more.now (c.gather-2.ensures.size ∙ c.gather.ensures.size ∙ c.clear.ensures.size) c.requires.fit c.requires.more_fit in
    let once : Narrows all masks c.narrow_both.new.masks = c.narrow_both.ensures.narrows c.if-not-narrow_both.false in
    let twice : Narrows all masks c.narrow_both-2.new.masks = narrows_twice all masks c.narrow_both.new.masks c.narrow_both-2.new.masks once (c.narrow_both-2.ensures.narrows c.if-not-narrow_both-2.false) in (
      (λ e. (
        con_of c.search.new.masks,
        (least_solution sig (few_constructors c.args.protocol.now) all masks gathered fit c.narrow_both-2.new.masks c.search.new.masks twice (c.search.ensures.least e)
            (c.search.ensures.size ∙ twice.size)).solves,
      )),
      (λ solution. true_from_ne_false _ (λ wrong. no_solution sig (few_constructors c.args.protocol.now) all masks gathered fit c.narrow_both-2.new.masks twice (c.search.ensures.none wrong) solution)),
    )

pub returns-clause-least : goal.returns-clause-least
returns-clause-least c e =
    let sig = signature_of c.args.protocol.now in
    let first : AreGathered sig [] c.clear.new.masks = fresh sig c.args.masks.now c.clear.new.masks c.clear.ensures.size c.clear.ensures.all in
    let second : AreGathered sig c.args.lits.now c.gather.new.masks = c.gather.ensures.gathered c.if-not-gather.false [] first in
    let all = c.args.lits.now ++ c.args.more.now in
    let masks = c.gather-2.new.masks in
    let gathered : AreGathered sig all masks = c.gather-2.ensures.gathered c.if-not-gather-2.false c.args.lits.now second in
    let fit : list_all (terms_fit sig (length masks)) all ≡ true =
    all_fit sig c.args.masks.now masks c.args.lits.now c.args.more.now (c.gather-2.ensures.size ∙ c.gather.ensures.size ∙ c.clear.ensures.size) c.requires.fit c.requires.more_fit in
    let once : Narrows all masks c.narrow_both.new.masks = c.narrow_both.ensures.narrows c.if-not-narrow_both.false in
    let twice : Narrows all masks c.narrow_both-2.new.masks = narrows_twice all masks c.narrow_both.new.masks c.narrow_both-2.new.masks once (c.narrow_both-2.ensures.narrows c.if-not-narrow_both-2.false) in
    least_solution sig (few_constructors c.args.protocol.now) all masks gathered fit c.narrow_both-2.new.masks c.search.new.masks twice (c.search.ensures.least e)
    (c.search.ensures.size ∙ twice.size)
