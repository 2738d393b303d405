-- From what is answered about the parts of a tree to what is answered about the whole.
use Rattle.std.proofs.Common.{◌≡◌, ℕ, List, [], ◌∷◌, Option, Some, None, refl, sym, ◌∙◌, ap, subst}
use Rattle.std.specs.Prelude.{Result, Ok, Err}
use Rattle.cub_parse.specs.declared.tree.Syntax.{Syntax}
use Rattle.cub_proto.specs.declared.protocol.Protocol.{Protocol}
use Rattle.cub_proto.specs.Signature.{Signature}
use Rattle.cub_proto.specs.StateOf.{signature_of}
use Rattle.cub_names.specs.declared.fault.Fault.{Fault}
use Rattle.cub_names.specs.declared.fault.TypeFault.{TypeFault}
use Rattle.cub_names.specs.declared.fault.TypeFault.TheVariants as faults
use Rattle.cub_names.specs.Checked.{first_of_all, fault}
use Rattle.cub_names.specs.Meaning.{Frame}
use Rattle.cub_names.specs.Declarations.{declared, declared_faults}
use Rattle.cub_names.specs.Answers.{IsRefusal}
use Rattle.cub_types.specs.declared.reading.Rest.{Rest}
use Rattle.cub_types.specs.Typing.{rest_typed, typed_rest, frame_of, faults_of, if_none, IsProtocol, Reads, IsFaultOf, IsResolved, IsKnown, IsBuilt}

-- two frames with the same parts
frame_same : (n : Frame) (text : List ℕ) (sig : Signature) → n.text ≡ text → n.sig ≡ sig → n ≡ record { text = text; sig = sig }
frame_same n text sig p q = ap (λ t. record { text = t; sig = n.sig }) p ∙ ap (λ s. record { text = text; sig = s }) q

known_at : (text : List ℕ) (tree : Syntax) (r : Result Protocol TypeFault) → declared_faults text tree.decls ≡ [] → IsKnown r (frame_of text tree) tree → IsResolved r text tree
known_at text tree (Ok p) none known = record {
  no_fault = ap (λ d. if_none d (rest_typed text tree).faults) none ∙ known.2;
  is = (known.0, known.1, known.3);
}
known_at text tree (Err (faults.Fault token kind)) none known = ap (λ d. first_of_all None (if_none d (rest_typed text tree).faults)) none ∙ known
known_at text tree (Err faults.Memory) none known = tt

-- the names being those of the tree, what is known of the rest is known of all
pub known_resolved : (text : List ℕ) (tree : Syntax) (n : Frame) (r : Result Protocol TypeFault)
    → n.text ≡ text → n.sig ≡ declared text tree.decls → declared_faults text tree.decls ≡ [] → IsKnown r n tree → IsResolved r text tree
known_resolved text tree n r p q none known =
    known_at text tree r none (subst (λ f. IsKnown r f tree) (frame_same n text (declared text tree.decls) p q) known)

refused_first : (d later : List Fault) (f : Fault) → first_of_all None d ≡ Some f → first_of_all None (if_none d later) ≡ Some f
refused_first [] later f h = cc
refused_first (x ∷ xs) later f h = h

-- a fault of the declarations is the tree's
pub named_refused : (text : List ℕ) (tree : Syntax) (e : TypeFault) → IsRefusal e (declared_faults text tree.decls) → IsResolved (Err e) text tree
named_refused text tree (faults.Fault token kind) h = refused_first (declared_faults text tree.decls) (rest_typed text tree).faults (fault token kind) h
named_refused text tree faults.Memory h = tt

-- a protocol of parts that equal others
pub protocol_along : (p : Protocol) (sig other : Signature) (rest : Rest) → sig ≡ other → IsProtocol p sig rest → IsProtocol p other rest
protocol_along p sig other rest same is = subst (λ s. IsProtocol p s rest) same is
