-- The literals of a whole draft before they are put in order: they fit the theory, and say what the cube says.
use Rattle.std.proofs.Common.{◌≡◌, ◌+◌, ◌*◌, List, [], ◌∷◌, Some, None, Ok, Err, refl, sym, subst, arith}
use Rattle.std.specs.Prelude.{map, IsTrue, Option, Result, IfOk, IfSome, IfNone}
use Rattle.std.specs.List.{list_all}
use Rattle.cub_base.proofs.Bools.{and_both, and_left, and_right}
use Rattle.cub_proto.specs.declared.literal.Lit.{Lit}
use Rattle.cub_proto.specs.declared.transition.Transition.{Transition}
use Rattle.cub_proto.specs.declared.protocol.Protocol.{Protocol}
use Rattle.cub_proto.specs.StateOf.{signature_of}
use Rattle.cub_proto.specs.Fits.{literal_fits, is_bounded, greatest_constant}
use Rattle.cub_cube.specs.declared.cube.Cube.{Cube}
use Rattle.cub_cube.specs.Meaning.{IsConsistent, SameMeaning}
use Rattle.cub_cube.specs.Replace.{can_replace_all}
use Rattle.cub_cube.proofs.Bounds.{replaced_bounded, same_back, same_meets}
use Rattle.cub_cube.proofs.Form.{fold_true}
use Rattle.cub_cube.proofs.Replaced.{replaced_fits_wide}
use Rattle.theory_laws.specs.Fitting.{AreFitting, greatest_size}
use Rattle.updates.specs.Chosen.{values_by}
use Rattle.updates.specs.Through.{literal_before}
use Rattle.piece_choices.proofs.Limits.{all_append, all_wider}
use Rattle.piece_steps.specs.Steps.{Draft}
use Rattle.pieces.specs.Jobs.{Search, Stands, whole_lits, cube_of, greatest_expanded}
use Rattle.pieces.proofs.Leaves.{whole_fitting, whole_is}

module _ (j : Search) (d : Draft) (stands : Stands j [] d) where
  -- each literal of the cube, as it is before the step
  befores_fit : (ls : List Lit) → IsTrue (list_all (literal_fits (signature_of j.protocol) j.cube.width) ls) → IsTrue (list_all (can_replace_all (signature_of j.protocol) d.width (values_by j.transition.updates d.params d.choices)) ls)
      → IsTrue (list_all (literal_fits (signature_of j.protocol) d.width) (map (literal_before (signature_of j.protocol) j.transition.updates d.params d.choices) ls))
  befores_fit [] fits can = refl
  befores_fit (l ∷ ls) fits can =
      let sig = signature_of j.protocol in
      let test = literal_fits sig j.cube.width in
      let replaces = can_replace_all sig d.width (values_by j.transition.updates d.params d.choices) in
      let before = literal_before sig j.transition.updates d.params d.choices in
      let wide = stands.fits.wide in
      let within = stands.fits.within in
      and_both (literal_fits sig d.width (before l)) (list_all (literal_fits sig d.width) (map before ls))
      (replaced_fits_wide j.protocol j.cube.width d.width (values_by j.transition.updates d.params d.choices) l (omega arith) (and_left (test l) (list_all test ls) fits) (and_left (replaces l) (list_all replaces ls) can))
      (befores_fit ls (and_right (test l) (list_all test ls) fits) (and_right (replaces l) (list_all replaces ls) can))

  befores_bounded : (ls : List Lit) → IsTrue (list_all (literal_fits (signature_of j.protocol) j.cube.width) ls) → IsTrue (list_all (can_replace_all (signature_of j.protocol) d.width (values_by j.transition.updates d.params d.choices)) ls)
      → IsTrue (list_all (is_bounded greatest_expanded) ls)
      → IsTrue (list_all (is_bounded (greatest_expanded + 2 * greatest_constant)) (map (literal_before (signature_of j.protocol) j.transition.updates d.params d.choices) ls))
  befores_bounded [] fits can bounded = refl
  befores_bounded (l ∷ ls) fits can bounded =
      let sig = signature_of j.protocol in
      let test = literal_fits sig j.cube.width in
      let replaces = can_replace_all sig d.width (values_by j.transition.updates d.params d.choices) in
      let before = literal_before sig j.transition.updates d.params d.choices in
      let small = is_bounded greatest_expanded in
      let big = is_bounded (greatest_expanded + 2 * greatest_constant) in
      and_both (big (before l)) (list_all big (map before ls))
      (replaced_bounded j.protocol j.cube.width d.width greatest_expanded (values_by j.transition.updates d.params d.choices) l (and_left (test l) (list_all test ls) fits) (and_left (replaces l) (list_all replaces ls) can) (and_left (small l) (list_all small ls) bounded))
      (befores_bounded ls (and_right (test l) (list_all test ls) fits) (and_right (replaces l) (list_all replaces ls) can) (and_right (small l) (list_all small ls) bounded))

  -- they fit the theory
  pub raw_fitting : AreFitting j.protocol d.width (whole_lits (signature_of j.protocol) j.transition j.cube.lits d)
  raw_fitting =
      let sig = signature_of j.protocol in
      let whole = whole_is j d stands in
      let before = map (literal_before sig j.transition.updates d.params d.choices) j.cube.lits in
      record {
        narrow = (whole_fitting j d stands).narrow;
        fit = all_append (literal_fits sig d.width) d.lits before stands.fits.fits (befores_fit j.cube.lits stands.job.cube.fits whole.can);
        bounded = all_append (is_bounded greatest_size) d.lits before stands.bounded
            (all_wider (greatest_expanded + 2 * greatest_constant) greatest_size before (omega arith) (befores_bounded j.cube.lits stands.job.cube.fits whole.can stands.job.cube.bounded));
      }

  -- the cube says what they say
  same : SameMeaning j.protocol d.width (cube_of (signature_of j.protocol) j.transition j.cube.lits d).lits (whole_lits (signature_of j.protocol) j.transition j.cube.lits d)
  same s places at =
      let raw = whole_lits (signature_of j.protocol) j.transition j.cube.lits d in
      fold_true j.protocol s places at.state at.processes [] raw (subst (λ w. IsTrue (list_all (literal_fits (signature_of j.protocol) w) raw)) (sym at.one_each) raw_fitting.fit)

  -- some state meets the cube exactly where one meets them
  pub raw_met : IsConsistent j.protocol d.width (whole_lits (signature_of j.protocol) j.transition j.cube.lits d) → IsConsistent j.protocol d.width (cube_of (signature_of j.protocol) j.transition j.cube.lits d).lits
  raw_met (s, state, meets) =
      let raw = whole_lits (signature_of j.protocol) j.transition j.cube.lits d in
      let form = (cube_of (signature_of j.protocol) j.transition j.cube.lits d).lits in
      (s, state, same_meets j.protocol d.width raw form (same_back j.protocol d.width form raw same) s state meets)

  pub met_raw : IsConsistent j.protocol d.width (cube_of (signature_of j.protocol) j.transition j.cube.lits d).lits → IsConsistent j.protocol d.width (whole_lits (signature_of j.protocol) j.transition j.cube.lits d)
  met_raw (s, state, meets) =
      let raw = whole_lits (signature_of j.protocol) j.transition j.cube.lits d in
      let form = (cube_of (signature_of j.protocol) j.transition j.cube.lits d).lits in
      (s, state, same_meets j.protocol d.width form raw same s state meets)

  -- what was found of the same literals
  pub some_cube : {E : Type 0} (p : Protocol) (t : Transition) (lits : List Lit) → p ≡ j.protocol → t ≡ j.transition → lits ≡ j.cube.lits → (r : Result (Option Cube) E)
      → IfOk r (λ o. IfSome o (λ c. (c ≡ cube_of (signature_of p) t lits d) × IsConsistent p d.width (whole_lits (signature_of p) t lits d)))
      → IfOk r (λ o. IfSome o (λ c. (c ≡ cube_of (signature_of j.protocol) j.transition j.cube.lits d) × IsConsistent j.protocol c.width c.lits))
  some_cube p t lits proto trans own (Ok (Some c)) h =
      let at : (c ≡ cube_of (signature_of j.protocol) j.transition j.cube.lits d) × IsConsistent j.protocol d.width (whole_lits (signature_of j.protocol) j.transition j.cube.lits d) =
      subst (λ q. (c ≡ cube_of (signature_of q) j.transition j.cube.lits d) × IsConsistent q d.width (whole_lits (signature_of q) j.transition j.cube.lits d)) proto
      (subst (λ u. (c ≡ cube_of (signature_of p) u j.cube.lits d) × IsConsistent p d.width (whole_lits (signature_of p) u j.cube.lits d)) trans
      (subst (λ ls. (c ≡ cube_of (signature_of p) t ls d) × IsConsistent p d.width (whole_lits (signature_of p) t ls d)) own h)) in
      (at.0, subst (λ (x : Cube). IsConsistent j.protocol x.width x.lits) (sym at.0) (raw_met at.1))
  some_cube p t lits proto trans own (Ok None) h = tt
  some_cube p t lits proto trans own (Err e) h = tt

  pub no_cube : {E : Type 0} (p : Protocol) (t : Transition) (lits : List Lit) → p ≡ j.protocol → t ≡ j.transition → lits ≡ j.cube.lits → (r : Result (Option Cube) E)
      → IfOk r (λ o. IfNone o (IsConsistent p d.width (whole_lits (signature_of p) t lits d) → ⊥))
      → IfOk r (λ o. IfNone o (IsConsistent j.protocol d.width (cube_of (signature_of j.protocol) j.transition j.cube.lits d).lits → ⊥))
  no_cube p t lits proto trans own (Ok None) h = λ met.
      subst (λ q. IsConsistent q d.width (whole_lits (signature_of q) j.transition j.cube.lits d) → ⊥) proto
      (subst (λ u. IsConsistent p d.width (whole_lits (signature_of p) u j.cube.lits d) → ⊥) trans
      (subst (λ ls. IsConsistent p d.width (whole_lits (signature_of p) t ls d) → ⊥) own h)) (met_raw met)
  no_cube p t lits proto trans own (Ok (Some c)) h = tt
  no_cube p t lits proto trans own (Err e) h = tt
