-- What is handed to normal forms is typed, as the code asks for it.
use Rattle.std.proofs.Common.{◌≡◌, ℕ, ◌+◌, Bool, true, List, length, take, Option, Some, None, refl, sym, subst, arith}
use Rattle.std.specs.Prelude.{IsTrue}
use Rattle.cub_base.proofs.Bools.{and_left}
use Rattle.cub_parse.specs.declared.tree.Leaf.{Leaf}
use Rattle.cub_parse.specs.declared.tree.BodyNode.{BodyNode}
use Rattle.cub_parse.specs.declared.tree.FormNode.{FormNode}
use Rattle.cub_proto.specs.declared.protocol.Protocol.{Protocol}
use Rattle.cub_proto.specs.Signature.{Signature}
use Rattle.cub_proto.specs.StateOf.{signature_of}
use Rattle.cub_dnf.specs.declared.formula.Formula.{Formula}
use Rattle.cub_dnf.specs.declared.formula.Formula.TheVariants as f
use Rattle.cub_dnf.specs.Fits.{fits, has_text_bounds}
use Rattle.cub_names.specs.declared.scope.Local.{Local}
use Rattle.cub_names.specs.Meaning.{Frame}
use Rattle.cub_names.specs.Scope.{scope_fits, locals}
use Rattle.cub_types.specs.Formulas.{form}
use Rattle.cub_types.specs.Guards.{local}
use Rattle.cub_types.specs.Bodies.{body_form, goal_form}
use Rattle.cub_types.specs.Writes.{inner_scope}
use Rattle.cub_types.specs.Typing.{split_guard}
use Rattle.cub_types.specs.Typed.{IsTyped, AreTyped, is_typed}
use Rattle.cub_types.proofs.FormulasFit.{form_typed}
use Rattle.cub_types.proofs.GuardsFit.{wider_scope, scope_more}
use Rattle.cub_types.proofs.BodiesFit.{if_some, goal_form_typed}
use Rattle.cub_types.proofs.StartFits.{start_typed}
use Rattle.cub_types.proofs.TransitionsFit.{all_typed, split_typed}
use Rattle.cub_types.proofs.WholeFits.{truths_of}

-- what is typed fits the protocol that is declared
pub typed_fits : (p : Protocol) (sig : Signature) (width : ℕ) (formula : Formula) → signature_of p ≡ sig → IsTyped sig width formula → IsTrue (fits (signature_of p) width formula)
typed_fits p sig width formula same typed =
    and_left (fits (signature_of p) width formula) (has_text_bounds formula)
    (subst (λ s. IsTyped s width formula) (sym same) typed (truths_of p.sorts p.globals p.arrays p.sorts_fit))

pub form_is_typed : (init : Bool) (frame : Frame) (scope : List Local) (width : ℕ) (node : FormNode) (formula : Formula) → IsTrue (scope_fits width scope)
    → (form init frame scope node).value ≡ Some formula → IsTyped frame.sig width formula
form_is_typed init frame scope width node formula within is = λ truths.
    if_some (λ x. is_typed frame.sig width x ≡ true) (form init frame scope node).value formula (form_typed init frame scope width within truths node) is

pub start_is_typed : (frame : Frame) (body : BodyNode) (formula : Formula) → (body_form true frame (locals 1 body.names) body.formula).value ≡ Some formula → IsTyped frame.sig 1 formula
start_is_typed frame body formula is = λ truths.
    if_some (λ x. is_typed frame.sig 1 x ≡ true) (body_form true frame (locals 1 body.names) body.formula).value formula (start_typed frame truths body) is

pub goal_is_typed : (negated : Bool) (frame : Frame) (body : BodyNode) (formula : Formula) → (goal_form negated frame body).value ≡ Some formula → IsTyped frame.sig (length (take 4 body.names)) formula
goal_is_typed negated frame body formula is = λ truths.
    if_some (λ x. is_typed frame.sig (length (take 4 body.names)) x ≡ true) (goal_form negated frame body).value formula (goal_form_typed frame truths negated body) is

-- the scope within an update has one place more at most
pub inner_fits : (scope : List Local) (params : ℕ) (index : Option Leaf) (place : Option ℕ) → IsTrue (scope_fits params scope) → IsTrue (scope_fits (params + 1) (inner_scope scope params index place))
inner_fits scope params None place within = wider_scope params (params + 1) scope (omega arith) within
inner_fits scope params (Some leaf) (Some place) within = wider_scope params (params + 1) scope (omega arith) within
inner_fits scope params (Some leaf) None within = scope_more params params scope (local leaf params) refl (omega arith) within

pub parts_are_typed : (sig : Signature) (width : ℕ) (formulas : List Formula) → AreTyped sig width (Some formulas) → IsTyped sig width (f.All formulas)
parts_are_typed sig width formulas typed = λ truths. all_typed sig width formulas (typed truths)

pub own_are_typed : (frame : Frame) (params : ℕ) (scope : List Local) (formula : Option FormNode) → IsTrue (scope_fits params scope) → AreTyped frame.sig params (split_guard frame params scope formula).own
own_are_typed frame params scope formula within = λ truths. (split_typed frame params scope within truths formula).own

pub others_are_typed : (frame : Frame) (params : ℕ) (scope : List Local) (formula : Option FormNode) → IsTrue (scope_fits params scope) → AreTyped frame.sig (params + 1) (split_guard frame params scope formula).others
others_are_typed frame params scope formula within = λ truths. (split_typed frame params scope within truths formula).others
