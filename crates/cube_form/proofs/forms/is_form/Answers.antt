use Rattle.std.proofs.Common.{◌≡◌, ◌↔◌, ◌∙◌, ℕ, true, false, List, length, sym, subst}
use Rattle.std.specs.Prelude.{All, Contains, IsTrue}
use Rattle.std.specs.List.{list_all}
use Rattle.cub_proto.specs.declared.literal.Lit.{Lit}
use Rattle.cub_cube.specs.Normal.{ordered}
use Rattle.cub_cube.specs.Rename.{renamed, is_within, IsInjection}
use Rattle.log_form.specs.Forms.{IsForm}
use Rattle.cube_form.proofs.Loops.{not_so}
use Rattle.cube_form.proofs.Admitted.{within_renaming, is_form_where, some_of_form, entailed_by_form}
use Rattle.cube_form.proofs.forms.is_form.Goals as goal

pub are_some-requires : goal.are_some-requires
are_some-requires c =
    let onto : IsInjection c.args.piece.now.width c.args.piece.now.width c.args.places.now = subst (λ (xs : List ℕ). IsInjection c.args.piece.now.width c.args.piece.now.width xs) c.as_slice.ensures.value (c.is_renaming.ensures.0 c.if-not-is_renaming.false) in
    subst (λ (xs : List ℕ). IsTrue (list_all (is_within (length xs)) c.as_slice-2.result.now)) (sym c.as_slice-3.ensures.value)
    (subst (λ (ls : List Lit). IsTrue (list_all (is_within (length c.args.places.now)) ls)) (sym c.as_slice-2.ensures)
    (within_renaming c.args.protocol.now c.args.piece.now c.args.cube.now c.args.places.now c.requires.piece.fits c.requires.cube.fits c.if-cube-piece.false onto))

pub returns-then-not-are_some-clause-exact : goal.returns-then-not-are_some-clause-exact
returns-then-not-are_some-clause-exact c =
    let exact : IsTrue c.are_some.result ↔ All (λ l. Contains c.args.piece.now.lits (ordered (renamed c.args.places.now l))) c.args.cube.now.lits =
    subst (λ (xs : List ℕ). IsTrue c.are_some.result ↔ All (λ l. Contains c.args.piece.now.lits (ordered (renamed xs l))) c.args.cube.now.lits) c.as_slice-3.ensures.value
    (subst (λ (ls : List Lit). IsTrue c.are_some.result ↔ All (λ l. Contains ls (ordered (renamed c.as_slice-3.result.now l))) c.args.cube.now.lits) c.as_slice-4.ensures
    (subst (λ (ls : List Lit). IsTrue c.are_some.result ↔ All (λ l. Contains c.as_slice-4.result.now (ordered (renamed c.as_slice-3.result.now l))) ls) c.as_slice-2.ensures c.are_some.ensures)) in
    not_so (IsForm c.args.protocol.now c.args.piece.now c.args.places.now c.args.cube.now)
    (λ form.
    let found = exact.1 (some_of_form c.args.protocol.now c.args.piece.now c.args.cube.now c.args.places.now c.requires.piece.fits c.requires.cube.fits form) in
    let e : false ≡ true = sym c.if-not-are_some.true ∙ found in cc)

pub returns-clause-exact : goal.returns-clause-exact
returns-clause-exact c =
    let onto : IsInjection c.args.piece.now.width c.args.piece.now.width c.args.places.now = subst (λ (xs : List ℕ). IsInjection c.args.piece.now.width c.args.piece.now.width xs) c.as_slice.ensures.value (c.is_renaming.ensures.0 c.if-not-is_renaming.false) in
    let some : All (λ l. Contains c.args.piece.now.lits (ordered (renamed c.args.places.now l))) c.args.cube.now.lits =
    subst (λ (xs : List ℕ). All (λ l. Contains c.args.piece.now.lits (ordered (renamed xs l))) c.args.cube.now.lits) c.as_slice-3.ensures.value
    (subst (λ (ls : List Lit). All (λ l. Contains ls (ordered (renamed c.as_slice-3.result.now l))) c.args.cube.now.lits) c.as_slice-4.ensures
    (subst (λ (ls : List Lit). All (λ l. Contains c.as_slice-4.result.now (ordered (renamed c.as_slice-3.result.now l))) ls) c.as_slice-2.ensures (c.are_some.ensures.0 c.if-not-are_some.false))) in (
      (λ yes. is_form_where c.args.protocol.now c.args.piece.now c.args.cube.now c.args.places.now c.requires.piece.fits c.requires.cube.fits c.if-cube-piece.false onto c.requires.cube.normal some
          (c.says_all.ensures.exact.0 yes)),
      (λ form. c.says_all.ensures.exact.1 (entailed_by_form c.args.protocol.now c.args.piece.now c.args.cube.now c.args.places.now c.requires.piece.fits c.requires.cube.fits form)),
    )
