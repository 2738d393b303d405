use Rattle.std.proofs.Common.{◌≡◌, ℕ, ◌+◌, ◌-◌, ◌*◌, ◌<◌, ◌≤◌, ◌++◌, ◌&&◌, All, List, length, get_or, true, IsTrue, refl, sym, ap, ◌∙◌, arith, rules}
use Rattle.std.specs.List.{list_all}
use Rattle.std.proofs.Math.ListN.{set, length-set}
use Rattle.std.proofs.lemmas.Bool.{and_parts, and_from}
use Rattle.std.proofs.lemmas.List.Elements.{All-append}
use Rattle.cub_proto.specs.Truth.{has_bit}
use Rattle.fin_dom.specs.Links.{AreMasks, link_fits, is_passed, agrees}
use Rattle.fin_dom.specs.Tried.{IsTried}
use Rattle.cub_base.proofs.Conjunctions.{list_all_join}
use Rattle.fin_dom.proofs.Searching.{list_all_from_All, all_passed_sooner, least_settled, least_lifted, branch_refuted, decided_all, start_keeps, start_inside, tried_from, tried_masks, masks_same, fits_same}
use Rattle.fin_dom.proofs.search.+search.Goals as goal

pub search-returns-then-at-masks-clause-least : goal.search-returns-then-at-masks-clause-least
search-returns-then-at-masks-clause-least t c _ =
    let masks = c.args.masks.now in
    let whole = c.args.lits.now ++ c.args.more.now in
    let at = c.next_open-at.result in
    let passed : list_all (is_passed masks c.args.from at) whole ≡ true =
    list_all_join (is_passed masks c.args.from at) c.args.lits.now c.args.more.now
    (all_passed_sooner masks c.args.from c.next_open-first.result at c.args.lits.now c.next_open-at.ensures.high c.next_open-first.ensures.passed)
    c.next_open-at.ensures.passed in
    least_settled masks c.args.from at whole c.requires.masks (omega arith)
    (list_all_from_All (link_fits (length masks)) whole (All-append (λ lit. IsTrue (link_fits (length masks) lit)) c.args.lits.now c.args.more.now c.requires.fit c.requires.more_fit))
    passed c.requires.decided

pub search-try_each-requires : goal.search-try_each-requires
search-try_each-requires t c =
    let masks = c.args.masks.now in
    let at = c.next_open-at.result in
    let passed : list_all (is_passed masks c.args.from at) (c.args.lits.now ++ c.args.more.now) ≡ true =
    list_all_join (is_passed masks c.args.from at) c.args.lits.now c.args.more.now
    (all_passed_sooner masks c.args.from c.next_open-first.result at c.args.lits.now c.next_open-at.ensures.high c.next_open-first.ensures.passed)
    c.next_open-at.ensures.passed in
    (first_of (omega (arith, c.decreases), search rules), (c.requires.masks, (c.requires.fit, (c.requires.more_fit, (c.next_open-at.ensures.low, (omega arith, (c.requires.decided, passed)))))))

pub try_each-loop-left-init : goal.try_each-loop-left-init
try_each-loop-left-init t c =
    let masks = c.args.masks.now in
    record {
      size = refl;
      masks_fit = c.requires.masks;
      others = λ n other. refl;
      keeps = start_keeps masks c.args.at (get_or masks c.args.at 0) c.narrowed-first.result c.narrowed-left.result c.args.lits.now c.args.more.now c.requires.inside refl
          c.requires.fit c.requires.more_fit c.narrowed-first.ensures c.narrowed-left.ensures;
      inside = start_inside masks c.args.at (get_or masks c.args.at 0) c.narrowed-first.result c.narrowed-left.result c.args.lits.now c.args.more.now refl
          c.narrowed-first.ensures c.narrowed-left.ensures;
      whole = refl;
    }

pub try_each-search-requires : goal.try_each-search-requires
try_each-search-requires t c =
    let old = c.args.masks.now in
    let i = c.loop-left.invariant in
    let con = c.low-constructor.result in
    let some : 0 < c.loop-left.left = omega arith in
    let below : con < 64 = c.low-constructor.ensures.inside some in
    let tried : IsTried old c.args.at con (set c.loop-left.masks c.args.at c.bit.result) = tried_from old c.loop-left.masks c.args.at con c.bit.result i.size i.others c.requires.inside c.bit.ensures in
    let here = and_parts (has_bit (get_or old c.args.at 0) con) (list_all (agrees old c.args.at con) (c.args.lits.now ++ c.args.more.now)) (i.inside con (c.low-constructor.ensures.has some)) in (
      first_of (omega (arith, c.decreases), search rules),
      (
        tried_masks old (set c.loop-left.masks c.args.at c.bit.result) c.args.at con c.requires.masks tried below,
        (
          fits_same old (set c.loop-left.masks c.args.at c.bit.result) c.args.lits.now tried.size c.requires.fit,
          (
            fits_same old (set c.loop-left.masks c.args.at c.bit.result) c.args.more.now tried.size c.requires.more_fit,
            (
              omega (arith, tried.size),
              (decided_all old (set c.loop-left.masks c.args.at c.bit.result) c.args.from c.args.at con (c.args.lits.now ++ c.args.more.now) c.requires.masks tried here.0 c.requires.from below
                  c.requires.decided c.requires.passed here.1),
            ),
          ),
        ),
      ),
    )

pub try_each-returns-then-search-clause-least : goal.try_each-returns-then-search-clause-least
try_each-returns-then-search-clause-least t c _ =
    let old = c.args.masks.now in
    let i = c.loop-left.invariant in
    let con = c.low-constructor.result in
    let some : 0 < c.loop-left.left = omega arith in
    let tried : IsTried old c.args.at con (set c.loop-left.masks c.args.at c.bit.result) = tried_from old c.loop-left.masks c.args.at con c.bit.result i.size i.others c.requires.inside c.bit.ensures in
    let here = and_parts (has_bit (get_or old c.args.at 0) con) (list_all (agrees old c.args.at con) (c.args.lits.now ++ c.args.more.now)) (i.inside con (c.low-constructor.ensures.has some)) in
    least_lifted (c.args.lits.now ++ c.args.more.now) old c.args.at con (set c.loop-left.masks c.args.at c.bit.result) c.search.new.masks c.requires.masks c.requires.inside tried here.0
    (c.low-constructor.ensures.inside some) (c.search.ensures.least c.if-search.true) c.search.ensures.kept
    (λ w within link. c.low-constructor.ensures.least (w c.args.at) (i.keeps w within link))

pub try_each-loop-left-preserved : goal.try_each-loop-left-preserved
try_each-loop-left-preserved t c =
    let old = c.args.masks.now in
    let i = c.loop-left.invariant in
    let con = c.low-constructor.result in
    let some : 0 < c.loop-left.left = omega arith in
    let now = set c.loop-left.masks c.args.at c.bit.result in
    let tried : IsTried old c.args.at con now = tried_from old c.loop-left.masks c.args.at con c.bit.result i.size i.others c.requires.inside c.bit.ensures in
    let restored : (n : ℕ) → get_or c.search.new.masks n 0 ≡ get_or now n 0 = c.search.ensures.restored c.if-search.false in
    record {
      size = c.search.ensures.size ∙ tried.size;
      masks_fit = masks_same now c.search.new.masks (tried_masks old now c.args.at con c.requires.masks tried (c.low-constructor.ensures.inside some)) c.search.ensures.size restored;
      others = λ n other. restored n ∙ tried.others n other;
      keeps = λ w within link. c.without-left.ensures.bits (w c.args.at) ∙ and_from _ _ (i.keeps w within link)
          (branch_refuted (c.args.lits.now ++ c.args.more.now) old c.args.at con now tried (c.search.ensures.none c.if-search.false) w within link);
      inside = λ k h. i.inside k ((and_parts (has_bit c.loop-left.left k) _ (sym (c.without-left.ensures.bits k) ∙ h)).0);
      whole = i.whole;
    }
