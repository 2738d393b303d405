use Rattle.std.proofs.Common.{◌≡◌, List, [], ◌∷◌, ◌++◌, ◌≤◌, length, sym, ◌∙◌, arith, true, Result, Ok, Err}
use Rattle.std.specs.Prelude.{All, OnOk, is_ok}
use Rattle.std.proofs.lemmas.List.Elements.{All-append}
use Rattle.cub_proto.specs.declared.literal.Term.{Term}
use Rattle.cub_proto.specs.declared.literal.Term.TheVariants.{Global}
use Rattle.diff_close.specs.Literals.{MentionsOnly, HasSmallBound}
use Rattle.diff_close.specs.Scratch.{IsClosureOf}
use Rattle.diff_close.proofs.tests.close.Goals as goal

abbrev four : List Term
four = Global 1 ∷ Global 2 ∷ Global 3 ∷ Global 4 ∷ []

has : {T E : Type 0} (r : Result T E) (P : Type 0) → is_ok r ≡ true → OnOk r P → P
has (Ok x) P ok p = p
has (Err e) P ok p = cc

pub close-requires-clause-terms : goal.close-requires-clause-terms
close-requires-clause-terms g c =
    let front : c.all_fit-fits.result ≡ true = cc in
    let back : c.all_fit-more_fits.result ≡ true = cc in
    let room : length four ≤ c.args.scratch.now.room = omega (arith, c.requires) in
    (four, room, All-append (MentionsOnly four) c.args.lits.now c.args.more.now (c.all_fit-fits.ensures.only front) (c.all_fit-more_fits.ensures.only back))

pub close-requires-clause-bounds : goal.close-requires-clause-bounds
close-requires-clause-bounds g c =
    let front : c.all_fit-fits.result ≡ true = cc in
    let back : c.all_fit-more_fits.result ≡ true = cc in
    All-append HasSmallBound c.args.lits.now c.args.more.now (c.all_fit-fits.ensures.small front) (c.all_fit-more_fits.ensures.small back)

pub returns-clause-closed : goal.returns-clause-closed
returns-clause-closed g c holds =
    (c.args.lits.now ++ c.args.more.now, has c.close.result (IsClosureOf (c.args.lits.now ++ c.args.more.now) c.close.new.self) (sym c.is_ok.ensures.value ∙ holds) c.close.ensures.closure)
