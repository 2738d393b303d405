use Rattle.std.proofs.Common.{arith}
use Rattle.std.proofs.lemmas.Slice.Zip.{AllZip-long}
use Rattle.text_lines.proofs.LooseLaws.{few_decls}
use Rattle.trace_text.proofs.writer.push_start.Goals as goal

pub push_globals-requires : goal.push_globals-requires
push_globals-requires c =
    rw c.globals.ensures
    (omega (arith, (few_decls c.args.protocol.now).0, AllZip-long _ c.args.protocol.now.globals c.args.start.now.globals c.requires.state.globals_fit))
