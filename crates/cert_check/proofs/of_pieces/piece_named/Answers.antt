use Rattle.std.proofs.Common.{◌+◌, ◌∙◌, List, refl, sym, subst, arith, inr}
use Rattle.std.specs.Prelude.{IsTrue, ◌↔◌}
use Rattle.std.proofs.lemmas.Bool.{true≢false}
use Rattle.cub_proto.specs.declared.literal.Lit.{Lit}
use Rattle.cub_cube.specs.Meaning.{IsConsistent}
use Rattle.theory_laws.specs.Fitting.{AreFitting}
use Rattle.cert_check.specs.declared.keys.Key.{Key}
use Rattle.cert_check.specs.Injections.{cube_of}
use Rattle.cert_check.specs.Named.{IsNamed}
use Rattle.cert_check.specs.Obligations.{IsOwed}
use Rattle.cert_check.proofs.Order.{before_piece}
use Rattle.cert_check.proofs.Owing.{piece_gap}
use Rattle.cert_check.proofs.Walking.{come_next}
use Rattle.cert_check.proofs.of_pieces.piece_named.Goals as goal

pub load-requires-clause-fitting : goal.load-requires-clause-fitting
load-requires-clause-fitting c = subst (λ (xs : List Lit). AreFitting c.args.protocol.now c.args.piece.now.cube.width xs) (sym c.as_slice-lits.ensures) c.requires.askable.fitting

pub returns-then-not-load-clause-come : goal.returns-then-not-load-clause-come
returns-then-not-load-clause-come c =
    absurd (true≢false (sym (c.load.ensures.exact.1 (subst (λ (xs : List Lit). IsConsistent c.args.protocol.now c.args.piece.now.cube.width xs) (sym c.as_slice-lits.ensures) c.requires.askable.possible)) ∙ c.if-not-load.true))

pub returns-then-not-load-clause-exact : goal.returns-then-not-load-clause-exact
returns-then-not-load-clause-exact c =
    absurd (true≢false (sym (c.load.ensures.exact.1 (subst (λ (xs : List Lit). IsConsistent c.args.protocol.now c.args.piece.now.cube.width xs) (sym c.as_slice-lits.ensures) c.requires.askable.possible)) ∙ c.if-not-load.true))

pub is_named-requires-clause-ready : goal.is_named-requires-clause-ready
is_named-requires-clause-ready c = record { made = c.load.ensures.made; loaded = c.load.ensures.loaded c.if-not-load.false }

pub returns-clause-come : goal.returns-clause-come
returns-clause-come c =
    come_next (IsOwed c.args.protocol.now c.args.cubes.now) c.args.lines.now (Key.Piece c.args.k c.args.n) (Key.Piece c.args.k (c.args.n + 1)) c.is_named.new.cursor c.is_named.ensures.taken
    (before_piece c.args.k c.args.n c.args.k (c.args.n + 1) (inr (refl, omega arith))) (piece_gap c.args.protocol.now c.args.cubes.now c.args.k c.args.n)

pub returns-clause-exact : goal.returns-clause-exact
returns-clause-exact c =
    subst (λ (xs : List Lit). IsTrue c.is_named.result ↔ IsNamed c.args.protocol.now c.args.cubes.now c.args.lines.now (Key.Piece c.args.k c.args.n) (cube_of c.args.piece.now.cube.width xs)) c.as_slice-lits.ensures c.is_named.ensures.exact
