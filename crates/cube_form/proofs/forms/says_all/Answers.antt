use Rattle.std.proofs.Common.{◌≡◌, ◌↔◌, ◌<◌, ◌∙◌, ℕ, List, length, sym, ap, subst}
use Rattle.std.specs.Prelude.{All, IsTrue}
use Rattle.std.specs.List.{list_all}
use Rattle.cub_proto.specs.declared.literal.Lit.{Lit}
use Rattle.cub_proto.specs.StateOf.{signature_of}
use Rattle.cub_proto.specs.Fits.{literal_fits}
use Rattle.cub_cube.specs.Rename.{renamed}
use Rattle.theory_laws.specs.Entailed.{Entails}
use Rattle.cube_form.proofs.Renaming.{length-turned, turned_injection}
use Rattle.cube_form.proofs.forms.says_all.Goals as goal

pub entail_each-found-requires-clause-below : goal.entail_each-found-requires-clause-below
entail_each-found-requires-clause-below c =
    subst (λ (xs : List ℕ). All (λ p. p < c.args.cube.now.width) xs) (sym (c.as_slice-2.ensures.value ∙ c.turned-back.ensures))
    (turned_injection c.args.cube.now.width c.args.places.now c.requires.onto).within

pub entail_each-found-requires-clause-fit : goal.entail_each-found-requires-clause-fit
entail_each-found-requires-clause-fit c =
    let size : length c.as_slice-2.result.now ≡ c.args.cube.now.width = ap length (c.as_slice-2.ensures.value ∙ c.turned-back.ensures) ∙ length-turned c.args.places.now ∙ c.requires.onto.one_each in
    subst (λ (n : ℕ). IsTrue (list_all (literal_fits (signature_of c.args.protocol.now) n) c.as_slice-3.result.now)) (sym size)
    (subst (λ (ls : List Lit). IsTrue (list_all (literal_fits (signature_of c.args.protocol.now) c.args.cube.now.width) ls)) (sym c.as_slice-3.ensures) c.requires.fit)

pub returns-clause-exact : goal.returns-clause-exact
returns-clause-exact c =
    subst (λ (r : List ℕ). IsTrue c.entail_each-found.result ↔ All (λ m. Entails c.args.protocol.now c.args.cube.now.width c.args.cube.now.lits (renamed r m)) c.args.piece.now.lits)
    (c.as_slice-2.ensures.value ∙ c.turned-back.ensures)
    (subst (λ (ls : List Lit). IsTrue c.entail_each-found.result ↔ All (λ m. Entails c.args.protocol.now c.args.cube.now.width c.args.cube.now.lits (renamed c.as_slice-2.result.now m)) ls) c.as_slice-3.ensures
    (subst (λ (ls : List Lit). IsTrue c.entail_each-found.result ↔ All (λ m. Entails c.args.protocol.now c.args.cube.now.width ls (renamed c.as_slice-2.result.now m)) c.as_slice-3.result.now) c.as_slice.ensures c.entail_each-found.ensures.exact))
