use Rattle.std.proofs.Common.{◌≤◌, take, IsTrue}
use Rattle.std.specs.List.{list_all}
use Rattle.fin_dom.specs.Links.{is_passed}
use Rattle.fin_dom.proofs.search.next_open.Given as goal

abbrev pub invariant-loop-lit : goal.invariant-loop-lit
invariant-loop-lit l = record {
  low : l.from ≤ l.next;
  high : l.next ≤ l.at;
  passed : IsTrue (list_all (is_passed l.masks l.from l.next) (take l.lit-index l.lits));
}
