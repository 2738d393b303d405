use Rattle.std.proofs.Common.{◌≡◌, ◌&&◌, ℕ, List, subst}
use Rattle.std.specs.Prelude.{IsTrue}
use Rattle.cub_base.proofs.Bools.{and_both}
use Rattle.cub_proto.specs.declared.protocol.Protocol.{Protocol}
use Rattle.cub_types.specs.Laws.{SameParts}
use Rattle.protocol_text.specs.Meaning.{IsProtocolOf}
use Rattle.print_words.specs.Writable.{is_writable}
use Rattle.print_names.specs.Plain.{declares_plain_names}
use Rattle.print_names.specs.Declaring.{text_of}
use Rattle.print_formulas.specs.Normal.{has_normal_bodies}
use Rattle.print_transitions.specs.Normal.{has_normal_guards}
use Rattle.print_updates.specs.Normal.{has_normal_updates}
use Rattle.print_reads.specs.Normal.{has_plain_transition_names, is_normal_protocol}
use Rattle.print_back.proofs.laws.printed_text_is_read_back.Goals as goal

pub returns-clause-normal : goal.returns-clause-normal
returns-clause-normal c text p of =
    let written = is_writable p in
    let names = declares_plain_names p in
    let called = has_plain_transition_names p in
    let bodies = has_normal_bodies p in
    let guards = has_normal_guards p in
    let updates = has_normal_updates p in
    and_both (written && names && called && bodies && guards) updates
    (and_both (written && names && called && bodies) guards
    (and_both (written && names && called) bodies
    (and_both (written && names) called
    (and_both written names (c.update_premises_are_met.ensures.writable text of.tree p of.typed) (c.premises_are_met.ensures.names text of.tree p of.typed))
    (c.update_premises_are_met.ensures.names text of.tree p of.typed))
    (c.premises_are_met.ensures.bodies text of.tree p of.typed))
    (c.update_premises_are_met.ensures.guards text of.tree p of.typed))
    (c.update_premises_are_met.ensures.conditions text of.tree p of.typed)

pub returns-clause-reads : goal.returns-clause-reads
returns-clause-reads c text p of = c.printed_text_reads_as_its_protocol.ensures.text p (returns-clause-normal c text p of)

pub returns-clause-alone : goal.returns-clause-alone
returns-clause-alone c text p q of found = c.printed_text_reads_as_its_protocol.ensures.alone p q (returns-clause-normal c text p of) found

pub returns-clause-one : goal.returns-clause-one
returns-clause-one c first second p q of_p of_q same =
    returns-clause-alone c second q p of_q (subst (λ (text : List ℕ). IsProtocolOf text p) same (returns-clause-reads c first p of_p))
