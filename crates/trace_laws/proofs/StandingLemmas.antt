-- The processes at the places of a piece, turned back to the places of a cube, are those at the places of the cube.
use Rattle.std.proofs.Common.{◌≡◌, ℕ, suc, ◌<◌, Bool, true, false, List, [], ◌∷◌, length, refl, sym, ap, ◌∙◌, subst, arith, eqb}
use Rattle.std.specs.Prelude.{◌==◌, if◌then◌else◌, slice_index}
use Rattle.std.proofs.lemmas.List.{ext_get_or}
use Rattle.std.proofs.lemmas.List.FromFn.{get_or-map-range_with_len, length-map-range_with_len}
use Rattle.cub_proto.specs.declared.protocol.Protocol.{Protocol}
use Rattle.cub_proto.specs.Configuration.{Configuration}
use Rattle.cub_proto.specs.StateOf.{IsStateOf}
use Rattle.cub_proto.specs.Legal.{AreDistinctAlive}
use Rattle.cub_proto.specs.Meets.{Satisfies}
use Rattle.cub_proto.specs.Truth.{all_true}
use Rattle.cub_base.proofs.Bools.{same_comm}
use Rattle.cub_cube.specs.declared.cube.Cube.{Cube}
use Rattle.cub_cube.specs.Rename.{along, IsInjection}
use Rattle.cub_cube.proofs.Renames.{at_along, length-along}
use Rattle.cub_cube.proofs.Placing.{along_processes, identity_at, place_of, each_is_item, inverse, length-inverse, inverse_injection, along-inverse, along-along-inverse}
use Rattle.log_form.specs.Forms.{IsForm}
use Rattle.trace_laws.specs.Standing.{position, standing}

position_is : (xs : List ℕ) (q : ℕ) → position xs q ≡ place_of xs q
position_is [] q = refl
position_is (x ∷ xs) q = by (eqb q x) (same_comm x q) (position_is xs q)
  where
    by : (b : Bool) → (x == q) ≡ b → position xs q ≡ place_of xs q → (if x == q then 0 else suc (position xs q)) ≡ (if b then 0 else suc (place_of xs q))
    by true e rest = ap (λ t. if t then 0 else suc (position xs q)) e
    by false e rest = ap (λ t. if t then 0 else suc (position xs q)) e ∙ ap suc rest

pub length-standing : (r processes : List ℕ) → length (standing r processes) ≡ length r
length-standing r processes = length-map-range_with_len (λ q. slice_index processes (position r q)) 0 (length r)

module _ (n : ℕ) (r : List ℕ) (onto : IsInjection n n r) (processes : List ℕ) (size : length processes ≡ n) where
  inverse_is : (q : ℕ) → q < n → slice_index (inverse n r onto) q ≡ place_of r q
  inverse_is q below =
      let item = each_is_item n r onto q below in
      let number : place_of r q < n = subst (λ m. place_of r q < m) onto.one_each item.0 in
      ap (slice_index (inverse n r onto)) (sym item.1) ∙ sym (at_along r (inverse n r onto) (place_of r q) item.0)
      ∙ ap (λ xs. slice_index xs (place_of r q)) (along-inverse n r onto) ∙ identity_at n (place_of r q) number

  pub standing_is : standing r processes ≡ along (inverse n r onto) processes
  standing_is =
      ext_get_or 0 (standing r processes) (along (inverse n r onto) processes)
      (length-standing r processes ∙ onto.one_each ∙ sym (length-inverse n r onto) ∙ sym (length-along (inverse n r onto) processes))
      (λ q below.
      let inside : q < length r = subst (λ m. q < m) (length-standing r processes) below in
      let small : q < n = subst (λ m. q < m) onto.one_each inside in
      get_or-map-range_with_len (λ i. slice_index processes (position r i)) 0 (length r) q q 0 inside (omega arith)
      ∙ ap (slice_index processes) (position_is r q ∙ sym (inverse_is q small))
      ∙ sym (at_along (inverse n r onto) processes q (subst (λ m. q < m) (sym (length-inverse n r onto)) small)))

  pub back : along r (standing r processes) ≡ processes
  back = ap (along r) standing_is ∙ along-along-inverse n r onto processes size

  pub stand_distinct : (s : Configuration) → AreDistinctAlive s processes → AreDistinctAlive s (standing r processes)
  stand_distinct s distinct =
      subst (AreDistinctAlive s) (sym standing_is)
      (along_processes s processes (inverse n r onto) n (subst (λ m. IsInjection n m (inverse n r onto)) (sym size) (inverse_injection n r onto)) distinct)

-- where processes satisfy a form of a piece, those at the places of the piece satisfy the piece
pub satisfies_piece : (p : Protocol) (piece : Cube) (places : List ℕ) (c : Cube) → IsForm p piece places c → (s : Configuration) → IsStateOf p s → (processes : List ℕ) → Satisfies s processes c.width c.lits
    → Satisfies s (standing places processes) piece.width piece.lits
satisfies_piece p piece places c form s state processes sat =
    let size : length processes ≡ piece.width = sat.one_each ∙ form.width in
    let distinct = stand_distinct piece.width places form.onto processes size s sat.processes in
    let count : length (standing places processes) ≡ piece.width = length-standing places processes ∙ form.onto.one_each in
    record {
      one_each = count;
      processes = distinct;
      holds = sym (form.same s (standing places processes) (record { state = state; one_each = count; processes = distinct }))
          ∙ ap (λ xs. all_true s xs c.lits) (back piece.width places form.onto processes size) ∙ sat.holds;
    }
