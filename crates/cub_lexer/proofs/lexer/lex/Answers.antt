use Rattle.std.proofs.Common.{◌≡◌, ◌+◌, ◌<◌, ◌≤◌, length, drop, take, ap, ◌∙◌, sym, subst, arith, ℕ, List, ◌++◌, ◌∷◌, []}
use Rattle.std.proofs.lemmas.List.{length-drop}
use Rattle.cub_lexer.specs.declared.token.Token.{Token}
use Rattle.cub_lexer.specs.Reading.{IsGap, IsToken, IsFault, IsFaultOf}
use Rattle.cub_lexer.specs.declared.fault.LexFault.{LexFault}
use Rattle.cub_lexer.proofs.ReadingLaws.{Continues, gap_within, token_within, after_gap, after_token, at_fault, at_end, in_order}
use Rattle.cub_lexer.proofs.lexer.lex.Goals as goal

pub overflow_add-at : goal.overflow_add-at
overflow_add-at c =
    let text = c.args.text.now in
    let at = c.loop-at.at in
    let g : IsGap c.in-Gap.len (drop at text) = subst (λ (t : List ℕ). IsGap c.in-Gap.len t) c.split_at.ensures.back c.in-Gap.ensures in
    let w = gap_within (drop at text) c.in-Gap.len g in
    omega (arith, w.1, length-drop at text)

pub loop-at-smaller-in-Gap : goal.loop-at-smaller-in-Gap
loop-at-smaller-in-Gap c =
    let text = c.args.text.now in
    let at = c.loop-at.at in
    let g : IsGap c.in-Gap.len (drop at text) = subst (λ (t : List ℕ). IsGap c.in-Gap.len t) c.split_at.ensures.back c.in-Gap.ensures in
    let w = gap_within (drop at text) c.in-Gap.len g in
    omega (arith, w.0, w.1, length-drop at text)

pub loop-at-preserved-in-Gap : goal.loop-at-preserved-in-Gap
loop-at-preserved-in-Gap c =
    after_gap c.args.text.now c.loop-at.at c.in-Gap.len c.loop-at.tokens.items c.loop-at.invariant
    (subst (λ (t : List ℕ). IsGap c.in-Gap.len t) c.split_at.ensures.back c.in-Gap.ensures)

pub loop-at-preserved : goal.loop-at-preserved
loop-at-preserved c =
    let more = after_token c.args.text.now c.loop-at.at c.in-Token.len c.in-Token.kind c.loop-at.tokens.items c.loop-at.invariant
    (subst (λ (t : List ℕ). IsToken c.in-Token.kind c.in-Token.len t) c.split_at.ensures.back c.in-Token.ensures) in
    subst (λ (found : List Token). Continues c.args.text.now (c.loop-at.at + c.in-Token.len) found) (sym c.in_ok-push-in-Token.ensures.items) more

pub returns-in-Fault-clause-fault : goal.returns-in-Fault-clause-fault
returns-in-Fault-clause-fault c =
    let fault = at_fault c.args.text.now c.loop-at.at c.in-Fault.kind c.loop-at.tokens.items c.loop-at.invariant
    (subst (λ (t : List ℕ). IsFault c.in-Fault.kind t) c.split_at.ensures.back c.in-Fault.ensures) in
    subst (λ (f : LexFault). IsFaultOf c.args.text.now f) (sym c.fault_at.ensures) fault

pub returns-clause-tokens : goal.returns-clause-tokens
returns-clause-tokens c = at_end c.args.text.now c.loop-at.at c.loop-at.tokens.items c.loop-at.invariant (omega arith)

pub returns-clause-spans : goal.returns-clause-spans
returns-clause-spans c = in_order c.args.text.now c.loop-at.tokens.items (at_end c.args.text.now c.loop-at.at c.loop-at.tokens.items c.loop-at.invariant (omega arith))
