use Rattle.std.proofs.Common.{◌≡◌, pos, ◌+ℤ◌, ◌-ℤ◌, ◌≤ℤ◌, arith, rules, ap}
use Rattle.std.proofs.lemmas.Int.{ints}
use Rattle.std.proofs.lemmas.Bool.{eqb-true}
use Rattle.diff_core.specs.Table.{cell}
use Rattle.diff_core.proofs.Rows.{entry_at_least}
use Rattle.diff_core.proofs.search.is_tight.Goals as goal
use mir.Val.{SFits, to_z, of_z}
use mir.Syntax.{w64}

pub overflow_add-result : goal.overflow_add-result
overflow_add-result c =
    let f : SFits w64 c.entry-onward.result = record { sfits = c.entry-onward.type_inv } in
    let g : SFits w64 c.args.con.now.bound = search rules in
    let low : (pos 0 -ℤ cell c.args.entries.now c.args.target c.args.con.now.left) ≤ℤ pos 29554872554618880 =
    entry_at_least c.args.nodes (cell c.args.entries.now) c.requires.table.few c.requires.table.closed c.args.target c.args.con.now.left c.requires.target_in c.requires.range.left_in in
    omega (arith, ints, low, c.entry-onward.ensures, c.if-onward-ge-FAR.false, c.requires.range.at_least, c.requires.range.at_most)

pub returns-clause-yes : goal.returns-clause-yes
returns-clause-yes c same =
    let f : SFits w64 c.entry-onward.result = record { sfits = c.entry-onward.type_inv } in
    let h : SFits w64 c.entry.result = record { sfits = c.entry.type_inv } in
    let g : SFits w64 c.args.con.now.bound = search rules in
    let low : (pos 0 -ℤ cell c.args.entries.now c.args.target c.args.con.now.left) ≤ℤ pos 29554872554618880 =
    entry_at_least c.args.nodes (cell c.args.entries.now) c.requires.table.few c.requires.table.closed c.args.target c.args.con.now.left c.requires.target_in c.requires.range.left_in in
    let bits : of_z w64 (to_z w64 (of_z w64 c.args.con.now.bound) +ℤ to_z w64 (of_z w64 c.entry-onward.result)) ≡ of_z w64 c.entry.result = eqb-true _ _ same in
    let numbers : to_z w64 (of_z w64 (to_z w64 (of_z w64 c.args.con.now.bound) +ℤ to_z w64 (of_z w64 c.entry-onward.result))) ≡ to_z w64 (of_z w64 c.entry.result) = ap (to_z w64) bits in
    omega (arith, ints, low, numbers, c.entry-onward.ensures, c.entry.ensures, c.if-onward-ge-FAR.false, c.requires.range.at_least, c.requires.range.at_most)
