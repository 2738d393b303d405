-- The chosen start state of a cube: its first processes satisfy the cube, it has few processes, and its integers are small.
use Rattle.std.proofs.Common.{◌≡◌, ◌⊎◌, ℕ, zero, suc, ◌+◌, ◌<◌, ◌≤◌, Bool, true, false, List, [], ◌∷◌, length, get_or, cond, refl, sym, ap, ◌∙◌, subst, arith, inl, inr, ℤ, pos, unsigned_abs}
use Rattle.std.specs.Prelude.{max, IsTrue, ◌-ℤ◌, ◌≤ℤ◌}
use Rattle.std.specs.List.{list_all}
use Rattle.std.proofs.lemmas.Bool.{cases_lt}
use Rattle.std.proofs.lemmas.List.{get_or_default, length-replicate}
use Rattle.std.proofs.lemmas.Int.{ints}
use Rattle.cub_proto.specs.declared.literal.Sort.{Sort}
use Rattle.cub_proto.specs.declared.literal.PSide.{PSide}
use Rattle.cub_proto.specs.declared.literal.Lit.{Lit}
use Rattle.cub_proto.specs.declared.state.Slot.{Slot}
use Rattle.cub_proto.specs.declared.state.Val.{Val}
use Rattle.cub_proto.specs.declared.state.Val.TheVariants.{Con, Proc, Int}
use Rattle.cub_proto.specs.declared.protocol.Decl.{Decl}
use Rattle.cub_proto.specs.declared.protocol.Protocol.{Protocol}
use Rattle.cub_proto.specs.Configuration.{Configuration, process_count, value_at}
use Rattle.cub_proto.specs.Fits.{literal_fits}
use Rattle.cub_proto.specs.Signature.{same_sort}
use Rattle.cub_proto.specs.StateOf.{signature_of}
use Rattle.cub_proto.specs.Legal.{IsStart}
use Rattle.cub_proto.specs.Meets.{Satisfies}
use Rattle.cub_cube.specs.declared.cube.Cube.{Cube}
use Rattle.cub_cube.proofs.Agreeing.{agree_all_true}
use Rattle.cub_cube.proofs.RenamedFits.{all_fits_within}
use Rattle.log_form.specs.Pieces.{IsFit, widest, greatest_expanded, greatest_asked}
use Rattle.log_form.proofs.FormFits.{fit_more}
use Rattle.proc_eq.specs.Choice.{IsEarlier, BeginsClass, IsLeastChoice}
use Rattle.replay.specs.Bound.{size_of, IsWithin, greatest_start}
use Rattle.replay.specs.FitsStart.{FitsStart}
use Rattle.theory_laws.specs.Fitting.{AreFitting}
use Rattle.theory_laws.specs.Built.{Values, own_places}
use Rattle.theory_laws.specs.Chosen.{needed_from, needed, IsChosenState}
use Rattle.theory_laws.specs.Small.{IsSmallValue, HasSmallIntegers}
use Rattle.theory_laws.specs.Start.{start_width}
use Rattle.theory_laws.proofs.Building.{few_globals}

pub fitting : (p : Protocol) (c : Cube) → IsFit p widest greatest_expanded c → AreFitting p c.width c.lits
fitting p c fit =
    let more = fit_more p widest greatest_expanded greatest_asked c (omega arith) fit in
    record { narrow = fit.narrow; fit = fit.fits; bounded = more.bounded }

-- ---- the first processes satisfy the cube
pub own_satisfy : (p : Protocol) (s : Configuration) (width : ℕ) (lits : List Lit) → IsTrue (list_all (literal_fits (signature_of p) width) lits) → Satisfies s (own_places (start_width width)) (start_width width) lits → Satisfies s (own_places width) width lits
own_satisfy p s zero lits fits sat = record {
  one_each = refl;
  processes = record { alive = λ k d below. absurd (omega arith); distinct = λ i j d order below. absurd (omega arith) };
  holds = sym (agree_all_true s 0 (own_places 1) [] lits (all_fits_within (signature_of p) 0 lits fits) (λ q below. absurd (omega arith))) ∙ sat.holds;
}
own_satisfy p s (suc n) lits fits sat =
    let same : start_width (suc n) ≡ suc n = omega arith in subst (λ w. Satisfies s (own_places w) w lits) same sat

-- ---- few processes
module _ (width : ℕ) (lits : List Lit) (v : PSide → ℕ) (is : IsLeastChoice width lits v) where
  all_low : (fuel g : ℕ) → g < fuel → g < 64 → v (PSide.Global g) ≤ width + g
  all_low zero g below few = absurd (omega arith)
  all_low (suc fuel) g below few = by (λ h. all_low fuel h) (cases_lt (width + g) (v (PSide.Global g)))
    where
      earlier_low : ((h : ℕ) → h < fuel → h < 64 → v (PSide.Global h) ≤ width + h) → (side : PSide) → IsEarlier width g side → v side < width + g
      earlier_low rest (PSide.Place p) early = let own = is.places p early in omega arith
      earlier_low rest (PSide.Global h) early = let low = rest h (omega arith) (omega arith) in omega arith

      by : ((h : ℕ) → h < fuel → h < 64 → v (PSide.Global h) ≤ width + h) → (width + g < v (PSide.Global g)) ⊎ (v (PSide.Global g) ≤ width + g) → v (PSide.Global g) ≤ width + g
      by rest (inr low) = low
      by rest (inl more) =
          let begins : BeginsClass width lits g =
          (λ side early forced. (let same = is.classes g few side early forced in let low = earlier_low rest side early in omega arith)) in
          let forbidden = is.least g few begins (width + g) more in
          let low = earlier_low rest forbidden.side forbidden.earlier in
          let taken = forbidden.taken in
          absurd (omega arith)

  pub low : (g : ℕ) → g < 64 → v (PSide.Global g) ≤ width + g
  low g few = all_low (suc g) g (omega arith) few

few_needed : (width : ℕ) (lits : List Lit) (v : Values) → IsLeastChoice width lits v.process → width ≤ 11 → (so_far g : ℕ) (ds : List Decl) → so_far ≤ 75 → g + length ds ≤ 64 → needed_from v so_far g ds ≤ 75
few_needed width lits v is narrow so_far g [] few inside = few
few_needed width lits v is narrow so_far g (d ∷ ds) few inside =
    few_needed width lits v is narrow (cond (same_sort d.sort Sort.Proc) (max so_far (suc (v.process (PSide.Global g)))) so_far) (suc g) ds (by (same_sort d.sort Sort.Proc)) (omega arith)
  where
    by : (b : Bool) → cond b (max so_far (suc (v.process (PSide.Global g)))) so_far ≤ 75
    by true = let one = low width lits v.process is g (omega arith) in omega arith
    by false = few

pub few_processes : (p : Protocol) (width : ℕ) (lits : List Lit) (s : Configuration) → width ≤ 11 → IsChosenState p width lits s → process_count s ≤ 75
few_processes p width lits s narrow chosen =
    let v = chosen.values in
    let few = few_needed width lits v chosen.processes narrow (max width 1) 0 p.globals (omega arith) (omega (arith, few_globals p)) in
    let count : process_count s ≡ needed p width v = ap process_count chosen.state ∙ length-replicate (needed p width v) true in
    subst (λ n. n ≤ 75) (sym count) few

-- ---- small integers
abs_small : (z : ℤ) → (pos 0 -ℤ z) ≤ℤ pos 29554872554618880 → z ≤ℤ pos 29554872554618880 → unsigned_abs z ≤ 29554872554618880
abs_small z low high = grind (arith, ints)

value_small : (v : Val) → IsSmallValue v → size_of v ≤ greatest_start
value_small (Con c) h = omega arith
value_small (Proc i) h = omega arith
value_small (Int z) h = omega (arith, abs_small z h.0 h.1)

pub small_within : (s : Configuration) → HasSmallIntegers s → IsWithin greatest_start s
small_within s small = record {
  globals_within = λ k d below. subst (λ v. size_of v ≤ greatest_start) (get_or_default s.globals k (Con 0) d below) (value_small (value_at s (Slot.Global k)) (small (Slot.Global k)));
  cells_within = λ a ds below i d inside.
      subst (λ v. size_of v ≤ greatest_start)
      (ap (λ xs. get_or xs i (Con 0)) (get_or_default s.arrays a [] ds below) ∙ get_or_default (get_or s.arrays a ds) i (Con 0) d inside)
      (value_small (value_at s (Slot.Cell a i)) (small (Slot.Cell a i)));
}

pub fits_start : (p : Protocol) (s : Configuration) → IsStart p s → HasSmallIntegers s → FitsStart p s
fits_start p s start small = record { state_of = start.state; alive = start.alive; within = small_within s small }
