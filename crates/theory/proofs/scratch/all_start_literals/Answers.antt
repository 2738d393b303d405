use Rattle.std.proofs.Common.{◌≡◌, ◌∙◌, sym, ap, subst, List}
use Rattle.std.specs.Prelude.{IsTrue, IfOk}
use Rattle.std.specs.List.{list_all}
use Rattle.cub_proto.specs.declared.literal.Lit.{Lit}
use Rattle.cub_cube.specs.Rename.{is_within}
use Rattle.theory_laws.specs.Start.{at_each_place, start_of}
use Rattle.theory.proofs.Starts.{conjunction_within}
use Rattle.theory.proofs.scratch.all_start_literals.Goals as goal

pub at_all_places-requires : goal.at_all_places-requires
at_all_places-requires c =
    subst (λ (xs : List Lit). IsTrue (list_all (is_within 1) xs)) (sym c.as_slice.ensures)
    (conjunction_within c.args.protocol.now c.in-Some.conj.now c.in-Some.ensures.0 c.in-Some.ensures.1)

pub returns-in-Some : goal.returns-in-Some
returns-in-Some c =
    let same : at_each_place c.as_slice.result.now 11 ≡ start_of c.args.protocol.now.start 11 =
    ap (λ (xs : List Lit). at_each_place xs 11) c.as_slice.ensures ∙ sym (ap (λ (xs : List (List Lit)). start_of xs 11) c.in-Some.ensures.1) in
    subst (λ (xs : List Lit). IfOk c.at_all_places.result (λ all. all ≡ xs)) same c.at_all_places.ensures
