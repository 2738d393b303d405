-- Lists that serve a protocol: what searches take from them, and how they change.
use Rattle.std.proofs.Common.{◌≡◌, ℕ, ◌*◌, ◌/◌, ◌<◌, ◌≤◌, List, [], ◌∷◌, ◌++◌, length, take, map, set, sym, subst, arith, lit<}
use Rattle.std.specs.Prelude.{All}
use Rattle.std.proofs.lemmas.Grind.{common_steps}
use Rattle.cub_proto.specs.declared.protocol.Protocol.{Protocol}
use Rattle.cub_cube.specs.declared.cube.Cube.{Cube}
use Rattle.cub_cube.specs.Cover.{DoesCover}
use Rattle.log_form.specs.Pieces.{IsAskable}
use Rattle.log_form.specs.Links.{cube_at}
use Rattle.subsume.specs.declared.summary.Summary.{Summary}
use Rattle.subsume.specs.Scanned.{AreRetired}
use Rattle.subsume.specs.Summary.{IsSummary, IsOf}
use Rattle.subsume.proofs.Retiring as retiring
use Rattle.cover_index.specs.Asked.{summary_at, AreSummed, AreGrouped, AreMet, AreKept, Joins}
use Rattle.cover_index.specs.Indexed.{Indexed, IsServing, plain}
use Rattle.cover_index.proofs.Grouping.{grouped_kept, grouped_push, grouped_take, own_push, own_take, met_push, met_take}

-- ---- what searches take
module _ (p : Protocol) (s : Indexed) (serves : IsServing p s) (cubes : List Cube) (same : cubes ≡ s.cubes) where
  pub summed_in : (summaries : List Summary) → summaries ≡ s.summaries → length s.summaries ≡ length s.cubes → AreSummed p cubes summaries
  summed_in summaries alike sizes =
      subst (λ cs. AreSummed p cs summaries) (sym same)
      (subst (λ ss. AreSummed p s.cubes ss) (sym alike) (record { askable = serves.plainly.askable; one_each = sizes; own = serves.own }))

  pub grouped_in : (groups : List Summary) → groups ≡ s.groups → AreGrouped p 64 cubes groups
  grouped_in groups alike = subst (λ cs. AreGrouped p 64 cs groups) (sym same) (subst (λ gs. AreGrouped p 64 s.cubes gs) (sym alike) serves.grouped)

  pub larger_in : (larger : List Summary) → larger ≡ s.larger → AreGrouped p 4096 cubes larger
  larger_in larger alike = subst (λ cs. AreGrouped p 4096 cs larger) (sym same) (subst (λ gs. AreGrouped p 4096 s.cubes gs) (sym alike) serves.larger_grouped)

  pub retired_in : (retired : List ℕ) → retired ≡ s.retired → AreRetired p cubes retired
  retired_in retired alike = subst (λ cs. AreRetired p cs retired) (sym same) (subst (λ rs. AreRetired p s.cubes rs) (sym alike) serves.plainly.covered)

  pub askable_in : All (IsAskable p) cubes
  askable_in = subst (λ cs. All (IsAskable p) cs) (sym same) serves.plainly.askable

  pub met_in : (met : ℕ) → met ≡ s.met → AreMet p cubes met
  met_in met alike = subst (λ cs. AreMet p cs met) (sym same) (subst (λ n. AreMet p s.cubes n) (sym alike) serves.first_met)

-- ---- more is known of the cubes
pub more_met : (p : Protocol) (s : Indexed) (met : ℕ) → IsServing p s → AreMet p s.cubes met → IsServing p (record s { met = met })
more_met p s met serves known = record {
  plainly = serves.plainly;
  own = serves.own;
  grouped = serves.grouped;
  larger_grouped = serves.larger_grouped;
  first_met = known;
}

-- ---- one more cube, and the groups alone where there was no memory for it
module _ (p : Protocol) (s : Indexed) (groups larger : List Summary) (serves : IsServing p s) (room : length s.cubes ≤ 64 * length s.groups) (larger_room : length s.cubes ≤ 4096 * length s.larger)
    (kept : AreKept s.groups groups) (larger_kept : AreKept s.larger larger) where
  pub kept_serves : IsServing p (record s { groups = groups; larger = larger })
  kept_serves = record {
    plainly = serves.plainly;
    own = serves.own;
    grouped = grouped_kept p 64 (lit< tt) s.cubes s.groups groups room kept serves.grouped;
    larger_grouped = grouped_kept p 4096 (lit< tt) s.cubes s.larger larger larger_room larger_kept serves.larger_grouped;
    first_met = serves.first_met;
  }

  pub push_serves : (c : Cube) (own : Summary) → length s.retired ≡ length s.cubes → length s.summaries ≡ length s.cubes → s.met ≤ length s.cubes → IsAskable p c → IsSummary p c own → IsOf p c own
      → Joins own (summary_at groups (length s.cubes / 64)) → Joins own (summary_at larger (length s.cubes / 4096))
      → IsServing p (record { cubes = s.cubes ++ c ∷ []; retired = s.retired ++ 0 ∷ []; summaries = s.summaries ++ own ∷ []; groups = groups; larger = larger; met = s.met })
  push_serves c own retired_sizes sizes few fit is of joins larger_joins = record {
    plainly = retiring.push_serves p (plain s) c retired_sizes serves.plainly fit;
    own = own_push p s.cubes s.summaries c own sizes serves.own is;
    grouped = grouped_push p 64 (lit< tt) s.cubes c groups kept_serves.grouped (joins p c of);
    larger_grouped = grouped_push p 4096 (lit< tt) s.cubes c larger kept_serves.larger_grouped (larger_joins p c of);
    first_met = met_push p s.cubes c s.met few serves.first_met;
  }

-- ---- one more retired cube
pub retire_serves : (p : Protocol) (s : Indexed) (number by : ℕ) → length s.retired ≡ length s.cubes → IsServing p s → number < by → by < length s.cubes → DoesCover p (cube_at s.cubes by) (cube_at s.cubes number)
    → IsServing p (record s { retired = set s.retired number by })
retire_serves p s number by sizes serves later inside covers = record {
  plainly = retiring.retire_serves p (plain s) number by sizes serves.plainly later inside covers;
  own = serves.own;
  grouped = serves.grouped;
  larger_grouped = serves.larger_grouped;
  first_met = serves.first_met;
}

-- ---- the first cubes
pub cut_serves : (p : Protocol) (s : Indexed) (count groups larger met : ℕ) → length s.retired ≡ length s.cubes → count ≤ length s.cubes → count ≤ 64 * groups → count ≤ 4096 * larger → met ≤ s.met → IsServing p s
    → IsServing p (record {
      cubes = take count s.cubes;
      retired = map (retiring.kept_by count) (take count s.retired);
      summaries = take count s.summaries;
      groups = take groups s.groups;
      larger = take larger s.larger;
      met = met;
    })
cut_serves p s count groups larger met sizes few room larger_room fewer serves = record {
  plainly = retiring.cut_serves p (plain s) count sizes few serves.plainly;
  own = own_take p s.cubes s.summaries count few serves.own;
  grouped = grouped_take p 64 (lit< tt) s.cubes s.groups count groups few room serves.grouped;
  larger_grouped = grouped_take p 4096 (lit< tt) s.cubes s.larger count larger few larger_room serves.larger_grouped;
  first_met = met_take p s.cubes count s.met met few fewer serves.first_met;
}

-- one more item, and it is taken off again
pub taken : {A : Type 0} (xs : List A) (x : A) (n : ℕ) → length xs ≡ n → take n (xs ++ x ∷ []) ≡ xs
taken xs x n size = grind (arith, common_steps)
