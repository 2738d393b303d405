-- Readings and faults of one tree.
use Rattle.std.proofs.Common.{◌≡◌, ℕ, List, [], Option, Some, None, refl, sym, ◌∙◌, ap}
use Rattle.cub_parse.specs.declared.tree.Syntax.{Syntax}
use Rattle.cub_proto.specs.declared.protocol.Protocol.{Protocol}
use Rattle.cub_names.specs.declared.fault.Fault.{Fault}
use Rattle.cub_names.specs.Checked.{first_of_all}
use Rattle.cub_types.specs.declared.reading.Rest.{Rest}
use Rattle.cub_types.specs.Typing.{Reads, IsFaultOf, rest_typed}
use Rattle.cub_types.specs.Laws.{SameParts, OneProtocol, OneFault, NoFault}

some_same : {A : Type 0} (o : Option A) (a b : A) → o ≡ Some a → o ≡ Some b → a ≡ b
some_same o a b h k = cc

none_some : {A : Type 0} (a : A) → None ≡ Some a → ⊥
none_some a h = cc

pub one_protocol : OneProtocol
one_protocol text tree p q a b =
    let same : a.is.0 ≡ b.is.0 = some_same (rest_typed text tree).value a.is.0 b.is.0 a.is.1 b.is.1 in
    record {
      declares = a.is.2.declares ∙ sym b.is.2.declares;
      starts = a.is.2.starts ∙ ap (λ (r : Rest). r.start) same ∙ sym b.is.2.starts;
      goals = a.is.2.goals ∙ ap (λ (r : Rest). r.goals) same ∙ sym b.is.2.goals;
      transitions = a.is.2.transitions ∙ ap (λ (r : Rest). r.transitions) same ∙ sym b.is.2.transitions;
    }

pub one_fault : OneFault
one_fault text tree a b h k = some_same _ a b h k

pub no_fault : NoFault
no_fault text tree p a reads h = none_some a (sym (ap (first_of_all None) reads.no_fault) ∙ h)
