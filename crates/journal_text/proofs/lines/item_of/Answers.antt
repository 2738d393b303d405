use Rattle.std.proofs.Common.{sym, ◌∙◌, arith}
use Rattle.cube_text.proofs.OneSpelling.{read_lawful}
use Rattle.text_lines.proofs.NumberLaws.{bytes_same}
use Rattle.journal_text.specs.Text.{item_text}
use Rattle.journal_text.specs.Form.{widest, cube_part}
use Rattle.journal_text.proofs.ItemLaws.{item_cube, told_line}
use Rattle.journal_text.proofs.Refused.{no_item_written, no_item_small}
use Rattle.journal_text.proofs.lines.item_of.Goals as goal

pub returns-in_default-clause-none : goal.returns-in_default-clause-none
returns-in_default-clause-none c = λ a t.
    (rw c.in_default.is at c.in_ok-cube.ensures.none) a.cube (item_cube c.args.protocol.now c.args.node c.args.line.now a t)

pub item_told-told-requires : goal.item_told-told-requires
item_told-told-requires c =
    (read_lawful c.args.protocol.now widest (cube_part c.args.line.now) c.in-Some.cube (rw c.in-Some.is at c.in_ok-cube.ensures.found)).narrow

pub returns-then-not-are_below-clause-none : goal.returns-then-not-are_below-clause-none
returns-then-not-are_below-clause-none c =
    no_item_small c.args.protocol.now c.args.node c.args.line.now c.in-Some.cube c.item_told-told.result (rw c.in-Some.is at c.in_ok-cube.ensures.found) c.item_told-told.ensures
    (rw c.as_slice.ensures.value at (sym c.are_below.ensures ∙ c.if-not-are_below.true))

pub returns-then-not-branch-clause-none : goal.returns-then-not-branch-clause-none
returns-then-not-branch-clause-none c =
    no_item_written c.args.protocol.now c.args.node c.args.line.now c.in-Some.cube c.item_told-told.result (rw c.in-Some.is at c.in_ok-cube.ensures.found) c.item_told-told.ensures
    (sym c.in_ok-item_is_written.ensures ∙ c.if-not-branch.true)

pub returns-clause-found : goal.returns-clause-found
returns-clause-found c =
    told_line c.args.protocol.now c.args.node c.args.line.now c.in-Some.cube c.item_told-told.result (rw c.in-Some.is at c.in_ok-cube.ensures.found) c.item_told-told.ensures (omega arith)
    (rw c.as_slice.ensures.value at (sym c.are_below.ensures ∙ c.if-not-are_below.false))
    (bytes_same (item_text c.args.protocol.now c.args.node c.item_told-told.result) c.args.line.now (sym c.in_ok-item_is_written.ensures ∙ c.if-not-branch.false))
