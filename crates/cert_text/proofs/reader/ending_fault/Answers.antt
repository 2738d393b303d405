use Rattle.std.proofs.Common.{refl, sym, ◌∙◌, subst, codes}
use Rattle.cert_text.specs.declared.fault.CertFault.{CertFault}
use Rattle.cert_text.specs.Place.{Ending, IsFaultOf}
use Rattle.cert_text.proofs.Refused.{differs}
use Rattle.cert_text.proofs.StepsMore.{line_stops, no_cube_here}
use Rattle.cert_text.proofs.reader.ending_fault.Goals.{in-Ok, in-Err}
use Rattle.cert_text.proofs.reader.ending_fault.Goals as goal

pub returns : goal.returns
returns c = λ cubes.
    elim c.match-read_cube.branch [
      | in-Ok w ↦
          subst (λ (f : CertFault). IsFaultOf c.args.protocol.now (Ending cubes) c.args.line c.args.text.now f) (sym (w.result-is ∙ w.line_fault.ensures))
          (no_cube_here c.args.protocol.now (Ending cubes) c.args.line c.args.text.now c.args.cut.bytes.now c.args.cut.rest.now refl refl
          c.requires.cut (λ q t. differs c.args.cut.bytes.now (codes "end") c.requires.other (sym t.0)) _ w.in-Ok.ensures.ok)
      | in-Err w ↦
          subst (λ (f : CertFault). IsFaultOf c.args.protocol.now (Ending cubes) c.args.line c.args.text.now f) (sym (w.result-is ∙ w.line_fault-in-Err.ensures))
          (line_stops c.args.protocol.now (Ending cubes) c.args.line c.args.text.now c.args.cut.bytes.now c.args.cut.rest.now refl refl
          c.requires.cut (λ q t. differs c.args.cut.bytes.now (codes "end") c.requires.other (sym t.0)) w.in-Err.fault w.in-Err.ensures.err
          c.args.begins (sym c.requires.begins))
    ]
