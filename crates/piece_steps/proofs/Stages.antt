-- Each stage of steps, as the choices that selections make there.
use Rattle.std.proofs.Common.{◌≡◌, ℕ, zero, suc, ◌+◌, ◌-◌, ◌≤◌, Bool, true, false, List, [], ◌∷◌, ◌++◌, refl, sym, ap, ◌∙◌, arith}
use Rattle.std.specs.Prelude.{map, filter, not, ◌&&◌, nat_lt, if◌then◌else◌, slice_index_or, replicate}
use Rattle.std.specs.List.{flat_map, range_with_len}
use Rattle.std.proofs.lemmas.List.{append_assoc, append-nil}
use Rattle.std.proofs.lemmas.List.Concat.{flat_map-append}
use Rattle.cub_proto.specs.declared.literal.Lit.{Lit}
use Rattle.cub_proto.specs.declared.transition.Transition.{Transition}
use Rattle.cub_proto.specs.Signature.{Signature}
use Rattle.cub_base.proofs.Bools.{less_is}
use Rattle.cub_cube.specs.Rename.{renamed_all}
use Rattle.updates.specs.Ways.{numbers}
use Rattle.piece_choices.specs.declared.piece.Piece.{Piece}
use Rattle.piece_choices.specs.Placings.{Placing, placing, is_among, placings_from}
use Rattle.piece_choices.specs.Selections.{alternatives_at}
use Rattle.piece_choices.specs.Conjunction.{permissions}
use Rattle.piece_steps.specs.Steps.{Draft, Step, Param, Other, Late, at_place, at_new_place, permitted, run}
use Rattle.piece_steps.proofs.Bridging.{flat_map_same, flat_map-map, flat_map-flat_map, flat_map_one}

-- ---- the universal guard at places
-- alternatives at all the places
abbrev pub permitted_all : Transition → Draft → List ℕ → List ℕ → Draft
permitted_all t d qs ns = record d { others = d.others ++ ns; lits = d.lits ++ permissions t d.params qs ns }

abbrev pub asked : {A : Type 0} → Transition → (Draft → List A) → List ℕ → Draft → List A
asked t k [] d = k d
asked t k (q ∷ qs) d = flat_map (λ n. asked t k qs (permitted t d q n)) (numbers t.others)

pub asked_all : {A : Type 0} (t : Transition) (k : Draft → List A) (qs : List ℕ) (d : Draft) → asked t k qs d ≡ flat_map (λ ns. k (permitted_all t d qs ns)) (alternatives_at t qs)
asked_all t k [] d =
    sym (append-nil (k (permitted_all t d [] [])) ∙ ap (λ xs. k (record d { others = xs; lits = d.lits ++ [] })) (append-nil d.others) ∙ ap (λ xs. k (record d { lits = xs })) (append-nil d.lits))
asked_all t k (q ∷ qs) d =
    flat_map_same (λ n. asked t k qs (permitted t d q n)) (λ n. flat_map (λ ns. k (permitted_all t d (q ∷ qs) (n ∷ ns))) (alternatives_at t qs)) (numbers t.others)
    (λ n h. asked_all t k qs (permitted t d q n)
    ∙ flat_map_same (λ ns. k (permitted_all t (permitted t d q n) qs ns)) (λ ns. k (permitted_all t d (q ∷ qs) (n ∷ ns))) (alternatives_at t qs)
    (λ ns at. ap (λ xs. k (record d { others = xs; lits = (d.lits ++ renamed_all (d.params ++ q ∷ []) (slice_index_or t.others n [])) ++ permissions t d.params qs ns })) (append_assoc d.others (n ∷ []) ns)
    ∙ ap (λ xs. k (record d { others = d.others ++ n ∷ ns; lits = xs })) (append_assoc d.lits (renamed_all (d.params ++ q ∷ []) (slice_index_or t.others n [])) (permissions t d.params qs ns))))
    ∙ sym (flat_map_same (λ n. flat_map (λ ns. k (permitted_all t d (q ∷ qs) ns)) (map (λ ns. n ∷ ns) (alternatives_at t qs))) (λ n. flat_map (λ ns. k (permitted_all t d (q ∷ qs) (n ∷ ns))) (alternatives_at t qs)) (numbers t.others)
    (λ n h. flat_map-map (λ ns. k (permitted_all t d (q ∷ qs) ns)) (λ ns. n ∷ ns) (alternatives_at t qs)))
    ∙ sym (flat_map-flat_map (λ ns. k (permitted_all t d (q ∷ qs) ns)) (λ n. map (λ ns. n ∷ ns) (alternatives_at t qs)) (numbers t.others))

module _ (sig : Signature) (number : ℕ) (t : Transition) (width : ℕ) (lits : List Lit) where
  abbrev go : List Step → Draft → List Piece
  go steps d = run sig number t width lits steps d

  -- the places that are no parameter
  pub others_stage : (rest : List Step) (from m : ℕ) (d : Draft)
      → run sig number t width lits (map (λ q. Other q) (range_with_len from m) ++ rest) d
      ≡ asked t (run sig number t width lits rest) (filter (λ q. nat_lt q d.inner && not (is_among d.params q)) (range_with_len from m)) d
  others_stage rest from zero d = refl
  others_stage rest from (suc m) d = by (nat_lt from d.inner && not (is_among d.params from)) (λ e. others_stage rest (from + 1) m e)
    where
      by : (b : Bool) → ((e : Draft) → run sig number t width lits (map (λ q. Other q) (range_with_len (from + 1) m) ++ rest) e
          ≡ asked t (run sig number t width lits rest) (filter (λ q. nat_lt q e.inner && not (is_among e.params q)) (range_with_len (from + 1) m)) e)
          → flat_map (run sig number t width lits (map (λ q. Other q) (range_with_len (from + 1) m) ++ rest)) (if b then map (permitted t d from) (numbers t.others) else d ∷ [])
          ≡ asked t (run sig number t width lits rest) (if b then from ∷ filter (λ q. nat_lt q d.inner && not (is_among d.params q)) (range_with_len (from + 1) m) else filter (λ q. nat_lt q d.inner && not (is_among d.params q)) (range_with_len (from + 1) m)) d
      by true rest_of =
          flat_map-map (run sig number t width lits (map (λ q. Other q) (range_with_len (from + 1) m) ++ rest)) (permitted t d from) (numbers t.others)
          ∙ flat_map_same (λ n. run sig number t width lits (map (λ q. Other q) (range_with_len (from + 1) m) ++ rest) (permitted t d from n))
          (λ n. asked t (run sig number t width lits rest) (filter (λ q. nat_lt q d.inner && not (is_among d.params q)) (range_with_len (from + 1) m)) (permitted t d from n)) (numbers t.others)
          (λ n h. rest_of (permitted t d from n))
      by false rest_of = flat_map_one (run sig number t width lits (map (λ q. Other q) (range_with_len (from + 1) m) ++ rest)) d ∙ rest_of d

  -- the new places of picks
  pub late_stage : (j m : ℕ) (d : Draft) → d.width - (d.inner + j) ≤ m
      → run sig number t width lits (map (λ i. Late i) (range_with_len j m)) d ≡ asked t (run sig number t width lits []) (range_with_len (d.inner + j) (d.width - (d.inner + j))) d
  late_stage j zero d few = ap (λ n. asked t (run sig number t width lits []) (range_with_len (d.inner + j) n) d) (sym (let none : d.width - (d.inner + j) ≡ 0 = omega arith in none))
  late_stage j (suc m) d few = by (nat_lt (d.inner + j) d.width) refl (λ e small. late_stage (j + 1) m e small)
    where
      by : (b : Bool) → nat_lt (d.inner + j) d.width ≡ b
          → ((e : Draft) → e.width - (e.inner + (j + 1)) ≤ m → run sig number t width lits (map (λ i. Late i) (range_with_len (j + 1) m)) e ≡ asked t (run sig number t width lits []) (range_with_len (e.inner + (j + 1)) (e.width - (e.inner + (j + 1)))) e)
          → flat_map (run sig number t width lits (map (λ i. Late i) (range_with_len (j + 1) m))) (if b then map (permitted t d (d.inner + j)) (numbers t.others) else d ∷ [])
          ≡ asked t (run sig number t width lits []) (range_with_len (d.inner + j) (d.width - (d.inner + j))) d
      by true e rest_of =
          let below = less_is (d.inner + j) d.width e in
          let count : d.width - (d.inner + j) ≡ suc (d.width - (d.inner + (j + 1))) = omega arith in
          let next : d.inner + j + 1 ≡ d.inner + (j + 1) = omega arith in
          flat_map-map (run sig number t width lits (map (λ i. Late i) (range_with_len (j + 1) m))) (permitted t d (d.inner + j)) (numbers t.others)
          ∙ flat_map_same (λ n. run sig number t width lits (map (λ i. Late i) (range_with_len (j + 1) m)) (permitted t d (d.inner + j) n))
          (λ n. asked t (run sig number t width lits []) (range_with_len (d.inner + (j + 1)) (d.width - (d.inner + (j + 1)))) (permitted t d (d.inner + j) n)) (numbers t.others)
          (λ n h. rest_of (permitted t d (d.inner + j) n) (omega arith))
          ∙ ap (λ x. flat_map (λ n. asked t (run sig number t width lits []) (range_with_len x (d.width - (d.inner + (j + 1)))) (permitted t d (d.inner + j) n)) (numbers t.others)) (sym next)
          ∙ ap (λ n. asked t (run sig number t width lits []) (range_with_len (d.inner + j) n) d) (sym count)
      by false e rest_of =
          let past : d.width ≤ d.inner + j = at_least (d.inner + j) d.width e in
          let none : d.width - (d.inner + j) ≡ 0 = omega arith in
          let none_next : d.width - (d.inner + (j + 1)) ≡ 0 = omega arith in
          flat_map_one (run sig number t width lits (map (λ i. Late i) (range_with_len (j + 1) m))) d
          ∙ rest_of d (omega arith)
          ∙ ap (λ n. asked t (run sig number t width lits []) (range_with_len (d.inner + (j + 1)) n) d) none_next
          ∙ sym (ap (λ n. asked t (run sig number t width lits []) (range_with_len (d.inner + j) n) d) none)
        where
          at_least : (x y : ℕ) → nat_lt x y ≡ false → y ≤ x
          at_least x y h = grind (arith)

  -- the places of the parameters
  pub param_stage : (rest : List Step) (m : ℕ) (d : Draft) → d.width ≡ d.inner
      → run sig number t width lits (replicate m Param ++ rest) d
      ≡ flat_map (λ x. run sig number t width lits rest (record d { params = x.params; inner = x.width; width = x.width })) (placings_from width d.params d.inner m)
  param_stage rest zero d same =
      sym (flat_map_one (λ (x : Placing). run sig number t width lits rest (record d { params = x.params; inner = x.width; width = x.width })) (placing d.params d.inner)
      ∙ ap (λ w. run sig number t width lits rest (record d { width = w })) (sym same))
  param_stage rest (suc m) d same =
      flat_map-append go_on (flat_map old (range_with_len 0 width)) (at_new_place d ∷ [])
      ∙ ap (λ xs. xs ++ flat_map go_on (at_new_place d ∷ [])) (flat_map-flat_map go_on old (range_with_len 0 width) ∙ flat_map_same (λ q. flat_map go_on (old q)) (λ q. flat_map place (old_placings q)) (range_with_len 0 width) (λ q h. one q (param_stage rest m (at_place d q) same)))
      ∙ ap (λ xs. flat_map (λ q. flat_map place (old_placings q)) (range_with_len 0 width) ++ xs) (flat_map_one go_on (at_new_place d) ∙ param_stage rest m (at_new_place d) refl)
      ∙ sym (flat_map-append place (flat_map old_placings (range_with_len 0 width)) (placings_from width (d.params ++ d.inner ∷ []) (d.inner + 1) m)
      ∙ ap (λ xs. xs ++ flat_map place (placings_from width (d.params ++ d.inner ∷ []) (d.inner + 1) m)) (flat_map-flat_map place old_placings (range_with_len 0 width)))
    where
      go_on : Draft → List Piece
      go_on e = run sig number t width lits (replicate m Param ++ rest) e

      old : ℕ → List Draft
      old q = if is_among d.params q then [] else at_place d q ∷ []

      old_placings : ℕ → List Placing
      old_placings q = if is_among d.params q then [] else placings_from width (d.params ++ q ∷ []) d.inner m

      place : Placing → List Piece
      place x = run sig number t width lits rest (record d { params = x.params; inner = x.width; width = x.width })

      one : (q : ℕ) → run sig number t width lits (replicate m Param ++ rest) (at_place d q)
          ≡ flat_map (λ x. run sig number t width lits rest (record d { params = x.params; inner = x.width; width = x.width })) (placings_from width (d.params ++ q ∷ []) d.inner m)
          → flat_map go_on (old q) ≡ flat_map place (old_placings q)
      one q rest_of = by (is_among d.params q)
        where
          by : (b : Bool) → flat_map go_on (if b then [] else at_place d q ∷ []) ≡ flat_map place (if b then [] else placings_from width (d.params ++ q ∷ []) d.inner m)
          by true = refl
          by false = flat_map_one go_on (at_place d q) ∙ rest_of
