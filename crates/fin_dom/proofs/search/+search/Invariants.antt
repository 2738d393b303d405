use Rattle.std.proofs.Common.{◌≡◌, ℕ, ◌+◌, ◌-◌, ◌*◌, ◌&&◌, ◌++◌, length, get_or, IsTrue}
use Rattle.std.specs.List.{list_all}
use Rattle.cub_proto.specs.Truth.{has_bit}
use Rattle.fin_dom.specs.Links.{AreMasks, IsWithin, is_link_true, agrees}
use Rattle.fin_dom.proofs.search.+search.Given as goal

abbrev pub decreases-search : goal.decreases-search
decreases-search l = 2 * (length l.masks.now - l.from)

abbrev pub decreases-try_each : goal.decreases-try_each
decreases-try_each l = 2 * (length l.masks.now - l.at) - 1

abbrev pub invariant-try_each-loop-left : goal.invariant-try_each-loop-left
invariant-try_each-loop-left l = record {
  size : length l.masks ≡ length l.fn.masks;
  masks_fit : AreMasks l.masks;
  others : (n : ℕ) → (n ≡ l.at → ⊥) → get_or l.masks n 0 ≡ get_or l.fn.masks n 0;
  keeps : (w : ℕ → ℕ) → IsWithin l.fn.masks w → IsTrue (list_all (is_link_true w) (l.lits ++ l.more)) → IsTrue (has_bit l.left (w l.at));
  inside : (c : ℕ) → IsTrue (has_bit l.left c) → IsTrue (has_bit (get_or l.fn.masks l.at 0) c && list_all (agrees l.fn.masks l.at c) (l.lits ++ l.more));
  whole : l.whole ≡ get_or l.fn.masks l.at 0;
}

abbrev pub decreases-try_each-loop-left : goal.decreases-try_each-loop-left
decreases-try_each-loop-left l = l.left
