-- A commit is a legal event.
use Rattle.std.proofs.Common.{◌≡◌, ℕ, zero, suc, ◌<◌, ◌≤◌, ◌^◌, List, [], ◌∷◌, map, length, get_or, take, refl, sym, ap, ◌∙◌, subst, arith, inl, inr}
use Rattle.std.specs.Prelude.{Option, Some, None, All, slice_get, ◌&&◌, nat_le}
use Rattle.std.proofs.lemmas.List.{get_or-map, length-map}
use Rattle.cub_base.proofs.Bools.{and_left, and_right, le_is}
use Rattle.cub_proto.specs.declared.protocol.Protocol.{Protocol}
use Rattle.cub_proto.specs.declared.budget.Budget.{Budget}
use Rattle.cub_proto.specs.Fits.{integers_in}
use Rattle.cub_cube.specs.declared.cube.Cube.{Cube}
use Rattle.log_form.specs.declared.event.Mark.{Mark}
use Rattle.log_form.specs.declared.event.Added.{Added}
use Rattle.log_form.specs.declared.numbered.Numbered.{Numbered}
use Rattle.log_form.specs.Numbering.{AreRoots}
use Rattle.log_form.specs.Pieces.{PieceRelation}
use Rattle.log_form.specs.Log.{LogValue, no_log, cubes_of}
use Rattle.log_form.specs.Stale.{KeepsUncovered}
use Rattle.log_form.specs.Legal.{Adds, Treats, Leads, IsLegalLog}
use Rattle.log_form.proofs.Additions.{adds_forms}
use Rattle.log_form.proofs.Rooted.{root_is}
use Rattle.log_form.proofs.StaleLemmas.{stale_legal}
use Rattle.log_steps.specs.declared.judgement.Pick.{Pick}
use Rattle.log_steps.specs.Judged.{added_of, ArePicks}
use Rattle.log_steps.specs.Commits.{MayCommit, IsCommitted, AreCommitted, going_log}
use Rattle.cube_core.specs.Answers.{LeadsBy}

-- ---- what a commit asks of the roots
goals_few : (p : Protocol) → length p.goals ≤ 4096
goals_few p =
    let before = nat_le (length p.sorts) 257 && nat_le (length p.globals) 64 && nat_le (integers_in p.globals) 16 && nat_le (length p.arrays) 32 && nat_le (integers_in p.arrays) 8 in
    le_is (length p.goals) 4096
    (and_right before (nat_le (length p.goals) 4096) (and_left (before && nat_le (length p.goals) 4096) (nat_le (length p.transitions) 256) p.few))

get_inside : {X : Type 0} (xs : List X) (i : ℕ) (x : X) → slice_get xs i ≡ Some x → i < length xs
get_inside [] i x h = cc
get_inside (y ∷ xs) zero x h = omega arith
get_inside (y ∷ xs) (suc i) x h = let below = get_inside xs i x h in omega arith

root_numbers : (p : Protocol) (cubes : List Cube) (roots : List Numbered) (picks : List Pick) → AreRoots p roots → Adds p cubes roots (map added_of picks) → All (λ k. k.piece < 2 ^ 32) picks
root_numbers p cubes roots picks are adds k d below =
    let of = adds_forms p cubes roots (map added_of picks) adds k (added_of d) (omega (arith, length-map picks added_of, below)) in
    let root = root_is p roots of.piece are of.inside in
    let inside = get_inside p.goals of.piece.number root.goal root.is_there in
    let same : (get_or picks k d).piece ≡ of.piece.number = ap (λ (a : Added). a.piece) (sym (get_or-map added_of picks k d (added_of d) below)) ∙ of.numbered in
    omega (arith, goals_few p, inside, same)

pub may_roots : (p : Protocol) (cubes : List Cube) (roots : List Numbered) (picks slice : List Pick) → slice ≡ picks → AreRoots p roots → ArePicks p [] roots picks → MayCommit p cubes None slice 0
may_roots p cubes roots picks slice same are picked = subst (λ ks. MayCommit p cubes None ks 0) (sym same) (record {
  fit = picked.fit;
  exact = picked.exact;
  goals = λ none. root_numbers p [] roots picks are picked.adds;
})

-- ---- a commit leads
pub commit_leads : (P : PieceRelation) (log : LogValue) (node : Option ℕ) (pieces : List Numbered) (kept : List Added) (after : LogValue) → log.mark ≡ Mark.Going → Treats P log node pieces
    → Adds log.protocol (cubes_of log.nodes) pieces kept → (is : IsCommitted log node kept after) → Leads P log is.event after
commit_leads P log of pieces kept after going treats adds is = record {
  going = going;
  pieces = pieces;
  treats = subst (λ n. Treats P log n pieces) (sym is.its) treats;
  list = kept;
  adds = adds;
  effect = is.effect;
  protocol = is.protocol;
  budget = is.budget;
  events = is.events;
}

pub leads_of : (P : PieceRelation) (log : LogValue) (node : Option ℕ) (pieces : List Numbered) (kept : List Added) (after : LogValue) → log.mark ≡ Mark.Going → Treats P log node pieces
    → Adds log.protocol (cubes_of log.nodes) pieces kept → IsCommitted log node kept after → LeadsBy P log node after
leads_of P log of pieces kept after going treats adds is = record { event = is.event; its = is.its; leads = commit_leads P log of pieces kept after going treats adds is }

-- nothing covers, and all is kept
pub kept_same : (p : Protocol) (picks kept : List Added) → KeepsUncovered p [] picks kept → kept ≡ picks
kept_same p [] kept h = h
kept_same p (a ∷ picks) kept (inl ((d, (k, below, is), covers), h)) = absurd (omega arith)
kept_same p (a ∷ picks) kept (inr (free, (rest, is, h))) = is ∙ ap (λ xs. a ∷ xs) (kept_same p picks rest h)

pub roots_lead : (P : PieceRelation) (p : Protocol) (budget : Budget) (roots : List Numbered) (picks : List Pick) (links : ℕ) (after : LogValue) → AreRoots p roots → ArePicks p [] roots picks
    → AreCommitted (going_log p budget [] []) 0 None picks links after → LeadsBy P (no_log p budget) None after
roots_lead P p budget roots picks links after are picked committed =
    leads_of P (no_log p budget) None roots committed.kept after refl (refl, are)
    (subst (Adds p [] roots) (sym (kept_same p (map added_of picks) committed.kept committed.keeps)) picked.adds) committed.is

pub node_leads : (P : PieceRelation) (log : LogValue) (node : Option ℕ) (pieces : List Numbered) (seen : ℕ) (picks : List Pick) (links : ℕ) (after : LogValue) → IsLegalLog P log → log.mark ≡ Mark.Going
    → Treats P log node pieces → Adds log.protocol (take seen (cubes_of log.nodes)) pieces (map added_of picks) → AreCommitted log seen node picks links after → LeadsBy P log node after
node_leads P log node pieces seen picks links after legal going treats adds committed =
    leads_of P log node pieces committed.kept after going treats (stale_legal P log legal going seen pieces (map added_of picks) committed.kept adds committed.keeps) committed.is
