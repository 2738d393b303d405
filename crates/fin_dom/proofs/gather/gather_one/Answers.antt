use Rattle.std.proofs.Common.{◌≡◌, ◌<◌, ◌++◌, ◌∷◌, [], ◌^◌, ◌&&◌, IsTrue, length, refl, ltb}
use Rattle.std.proofs.lemmas.Bool.{and_parts, ltb-true}
use Rattle.cub_proto.specs.declared.literal.Lit.TheVariants.{FinIn, FinEq, FinNe}
use Rattle.cub_proto.specs.Signature.{constructors_at}
use Rattle.cub_proto.specs.StateOf.{signature_of}
use Rattle.cub_proto.proofs.Constructors.{few_constructors}
use Rattle.fin_dom.specs.Solution.{has_constructor, HasSolution}
use Rattle.fin_dom.specs.Table.{terms_fit, has_entry}
use Rattle.fin_dom.proofs.Gathering.{gathered_in, refuted_in, gathered_link, refuted_link, gathered_other, other_inside, other_member}
use Rattle.fin_dom.proofs.gather.gather_one.Goals as goal

pub returns-in-FinIn-clause-gathered : goal.returns-in-FinIn-clause-gathered
returns-in-FinIn-clause-gathered c e lits g =
    let sig = signature_of c.args.protocol.now in
    let fit : IsTrue (terms_fit sig (length c.args.masks.now) (FinIn c.in-FinIn.term c.in-FinIn.mask)) = rw c.in-FinIn.is at c.requires.fits in
    let parts = and_parts (has_entry (length c.args.masks.now) c.in-FinIn.term) (ltb c.in-FinIn.mask (2 ^ constructors_at sig c.in-FinIn.term)) fit in
    rw c.in-FinIn.is (gathered_in sig lits c.in-FinIn.term c.in-FinIn.mask c.args.masks.now c.meet.new.masks parts.0 (ltb-true _ _ parts.1) g
    (rw c.number.ensures at (c.meet.ensures.met e)))

pub returns-in-FinIn-clause-none : goal.returns-in-FinIn-clause-none
returns-in-FinIn-clause-none c e lits g solution =
    let sig = signature_of c.args.protocol.now in
    let fit : IsTrue (terms_fit sig (length c.args.masks.now) (FinIn c.in-FinIn.term c.in-FinIn.mask)) = rw c.in-FinIn.is at c.requires.fits in
    let parts = and_parts (has_entry (length c.args.masks.now) c.in-FinIn.term) (ltb c.in-FinIn.mask (2 ^ constructors_at sig c.in-FinIn.term)) fit in
    refuted_in sig (few_constructors c.args.protocol.now) lits c.in-FinIn.term c.in-FinIn.mask c.args.masks.now parts.0 g
    (rw c.number.ensures at (c.meet.ensures.none e)) (rw c.in-FinIn.is at solution)

pub returns-in-FinEq-clause-gathered : goal.returns-in-FinEq-clause-gathered
returns-in-FinEq-clause-gathered c e lits g =
    let sig = signature_of c.args.protocol.now in
    rw c.in-FinEq.is (gathered_link sig lits (FinEq c.in-FinEq.a c.in-FinEq.b) c.in-FinEq.a c.in-FinEq.b c.args.masks.now c.meet_sides.new.masks g
    (c.meet_sides.ensures.met e) (λ v. refl) (λ v. refl))

pub returns-in-FinEq-clause-none : goal.returns-in-FinEq-clause-none
returns-in-FinEq-clause-none c e lits g solution =
    let sig = signature_of c.args.protocol.now in
    let fit : IsTrue (terms_fit sig (length c.args.masks.now) (FinEq c.in-FinEq.a c.in-FinEq.b)) = rw c.in-FinEq.is at c.requires.fits in
    let parts = and_parts (has_entry (length c.args.masks.now) c.in-FinEq.a) (has_entry (length c.args.masks.now) c.in-FinEq.b) fit in
    refuted_link sig (few_constructors c.args.protocol.now) lits (FinEq c.in-FinEq.a c.in-FinEq.b) c.in-FinEq.a c.in-FinEq.b c.args.masks.now parts.0 parts.1 g
    (c.meet_sides.ensures.none e) (λ v. refl) (rw c.in-FinEq.is at solution)

pub returns-in-FinNe-clause-gathered : goal.returns-in-FinNe-clause-gathered
returns-in-FinNe-clause-gathered c e lits g =
    let sig = signature_of c.args.protocol.now in
    rw c.in-FinNe.is (gathered_link sig lits (FinNe c.in-FinNe.a c.in-FinNe.b) c.in-FinNe.a c.in-FinNe.b c.args.masks.now c.meet_sides-in-FinNe.new.masks g
    (c.meet_sides-in-FinNe.ensures.met e) (λ v. refl) (λ v. refl))

pub returns-in-FinNe-clause-none : goal.returns-in-FinNe-clause-none
returns-in-FinNe-clause-none c e lits g solution =
    let sig = signature_of c.args.protocol.now in
    let fit : IsTrue (terms_fit sig (length c.args.masks.now) (FinNe c.in-FinNe.a c.in-FinNe.b)) = rw c.in-FinNe.is at c.requires.fits in
    let parts = and_parts (has_entry (length c.args.masks.now) c.in-FinNe.a) (has_entry (length c.args.masks.now) c.in-FinNe.b) fit in
    refuted_link sig (few_constructors c.args.protocol.now) lits (FinNe c.in-FinNe.a c.in-FinNe.b) c.in-FinNe.a c.in-FinNe.b c.args.masks.now parts.0 parts.1 g
    (c.meet_sides-in-FinNe.ensures.none e) (λ v. refl) (rw c.in-FinNe.is at solution)

pub returns-in_default-clause-gathered : goal.returns-in_default-clause-gathered
returns-in_default-clause-gathered c _ lits g =
    let sig = signature_of c.args.protocol.now in
    gathered_other sig lits c.args.lit.now c.args.masks.now g
    (λ v. other_inside sig v c.args.lit.now c.in_default.not-FinIn c.in_default.not-FinEq c.in_default.not-FinNe)
    (λ v. other_member v c.args.lit.now c.in_default.not-FinIn)
