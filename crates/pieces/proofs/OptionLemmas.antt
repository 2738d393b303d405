-- The drafts of a step are those of its options, in order.
use Rattle.std.proofs.Common.{◌≡◌, ℕ, zero, suc, ◌+◌, Bool, true, false, List, [], ◌∷◌, ◌++◌, length, Option, Some, None, refl, sym, ap, ◌∙◌, arith, inl, inr}
use Rattle.std.specs.Prelude.{map, not, ◌&&◌, nat_lt, if◌then◌else◌}
use Rattle.std.specs.List.{flat_map, range_with_len}
use Rattle.std.proofs.lemmas.Grind.{common_steps}
use Rattle.cub_base.proofs.Bools.{is_less}
use Rattle.cub_base.proofs.Members.{Has}
use Rattle.cub_proto.specs.declared.literal.Sort.{Sort}
use Rattle.cub_proto.specs.declared.literal.Term.{Term}
use Rattle.cub_proto.specs.declared.literal.PSide.{PSide}
use Rattle.cub_proto.specs.declared.literal.Value.{Value}
use Rattle.cub_proto.specs.declared.transition.Update.{Update}
use Rattle.cub_proto.specs.declared.transition.Transition.{Transition}
use Rattle.cub_proto.specs.Signature.{Signature, sort_of}
use Rattle.cub_proto.specs.Fits.{is_any}
use Rattle.updates.specs.Ways.{numbers, condition}
use Rattle.updates.specs.Chosen.{chosen_value}
use Rattle.updates.proofs.Products.{below_has}
use Rattle.piece_choices.specs.Placings.{is_among}
use Rattle.piece_choices.specs.Picks.{Pick, pick, values_for}
use Rattle.piece_steps.specs.Steps.{Draft, Step, Param, Guard, Other, Branch, Fail, Choose, Late, choice_at, at_place, at_new_place, guarded, permitted, branched, failed, picked, branches_by, fails_by, picks_by, extend}
use Rattle.piece_steps.proofs.Bridging.{flat_map_same, flat_map-map, map_as_flat_map}
use Rattle.pieces.specs.Options.{update_at, place_option, permit_option, branch_count, branch_option, fail_count, fail_option, value_count, process_at, value_at, value_option, options, option_at}
use Rattle.pieces.proofs.HandsLemmas.{range_end, options_more}

not_less : (n : ℕ) → nat_lt n n ≡ false
not_less n = grind (arith, common_steps)

map_same : {A B : Type 0} (f g : A → B) (xs : List A) → ((x : A) → Has xs x → f x ≡ g x) → map f xs ≡ map g xs
map_same f g [] same = refl
map_same f g (x ∷ xs) same = ap (λ y. y ∷ map f xs) (same x (inl refl)) ∙ ap (λ ys. g x ∷ ys) (map_same f g xs (λ y h. same y (inr h)))

map_shift : {A : Type 0} (f : ℕ → A) (from n : ℕ) → map f (range_with_len (from + 1) n) ≡ map (λ q. f (suc q)) (range_with_len from n)
map_shift f from zero = refl
map_shift f from (suc n) =
    let one : from + 1 ≡ suc from = omega arith in
    ap (λ ys. f (from + 1) ∷ ys) (map_shift f (from + 1) n) ∙ ap (λ m. f m ∷ map (λ q. f (suc q)) (range_with_len (from + 1) n)) one

map_end : {A : Type 0} (f : ℕ → A) (xs : List ℕ) (n : ℕ) → map f (xs ++ n ∷ []) ≡ map f xs ++ f n ∷ []
map_end f [] n = refl
map_end f (x ∷ xs) n = ap (λ ys. f x ∷ ys) (map_end f xs n)

-- the place of a parameter
places_by : (width : ℕ) (d : Draft) → flat_map (λ q. if is_among d.params q then [] else at_place d q ∷ []) (range_with_len 0 width) ++ at_new_place d ∷ [] ≡ flat_map (place_option width d) (range_with_len 0 (width + 1))
places_by width d =
    ap (λ xs. xs ++ at_new_place d ∷ [])
    (flat_map_same (λ q. if is_among d.params q then [] else at_place d q ∷ []) (place_option width d) (range_with_len 0 width)
    (λ q h. ap (λ b. if b then (if is_among d.params q then [] else at_place d q ∷ []) else at_new_place d ∷ []) (sym (is_less q width (below_has width q h)))))
    ∙ ap (λ b. flat_map (place_option width d) (range_with_len 0 width) ++ (if b then (if is_among d.params width then [] else at_place d width ∷ []) else at_new_place d ∷ [])) (sym (not_less width))
    ∙ sym (options_more (place_option width d) width)

-- an alternative at a place
permits_by : (t : Transition) (d : Draft) (q : ℕ) (b : Bool) → (if b then map (permitted t d q) (numbers t.others) else d ∷ []) ≡ flat_map (permit_option b t d q) (range_with_len 0 (if b then length t.others else 1))
permits_by t d q true = map_as_flat_map (permitted t d q) (numbers t.others)
permits_by t d q false = refl

branches_are : (o : Option Update) (d : Draft) (i : ℕ) → branches_by o d i (choice_at d i) ≡ flat_map (branch_option o d i) (range_with_len 0 (branch_count o))
branches_are None d i = refl
branches_are (Some u) d i = map_as_flat_map (branched d i (choice_at d i) u) (range_with_len 0 (length u.branches + 1))

fails_are : (sig : Signature) (o : Option Update) (d : Draft) (i b : ℕ) → fails_by sig o d i b (choice_at d i) ≡ flat_map (fail_option sig o d i b) (range_with_len 0 (fail_count o (choice_at d i).branch b))
fails_are sig None d i b = refl
fails_are sig (Some u) d i b = by (nat_lt b (choice_at d i).branch)
  where
    by : (x : Bool)
        → (if x then map (failed sig d i (choice_at d i) (condition u.branches b)) (numbers (condition u.branches b)) else d ∷ [])
        ≡ flat_map (λ k. if x then failed sig d i (choice_at d i) (condition u.branches b) k ∷ [] else d ∷ []) (range_with_len 0 (if x then length (condition u.branches b) else 1))
    by true = map_as_flat_map (failed sig d i (choice_at d i) (condition u.branches b)) (numbers (condition u.branches b))
    by false = refl

-- the values of a pick
processes_are : (width g : ℕ) → pick width (Value.Proc (PSide.Global g)) ∷ map (λ q. pick width (Value.Proc (PSide.Place q))) (range_with_len 0 width) ++ pick (width + 1) (Value.Proc (PSide.Place width)) ∷ [] ≡ map (process_at width g) (range_with_len 0 (width + 2))
processes_are width g =
    let h : ℕ → Pick = λ q. process_at width g (suc q) in
    let two : suc (width + 1) ≡ width + 2 = omega arith in
    ap (λ xs. pick width (Value.Proc (PSide.Global g)) ∷ xs)
    (ap (λ xs. xs ++ pick (width + 1) (Value.Proc (PSide.Place width)) ∷ [])
    (map_same (λ q. pick width (Value.Proc (PSide.Place q))) h (range_with_len 0 width)
    (λ q at. ap (λ b. if b then pick width (Value.Proc (PSide.Place q)) else pick (width + 1) (Value.Proc (PSide.Place width))) (sym (is_less q width (below_has width q at)))))
    ∙ ap (λ b. map h (range_with_len 0 width) ++ (if b then pick width (Value.Proc (PSide.Place width)) else pick (width + 1) (Value.Proc (PSide.Place width))) ∷ []) (sym (not_less width))
    ∙ sym (map_end h (range_with_len 0 width) width)
    ∙ ap (map h) (sym (range_end width))
    ∙ sym (map_shift (process_at width g) 0 (width + 1)))
    ∙ ap (λ n. map (process_at width g) (range_with_len 0 n)) two

values_are : (sig : Signature) (width : ℕ) (t : Term) (o : Option Sort) → values_for sig width t o ≡ map (value_at width t o) (range_with_len 0 (value_count sig width t o))
values_are sig width t (Some (Sort.Fin k)) = refl
values_are sig width (Term.Global g) (Some Sort.Proc) = processes_are width g
values_are sig width (Term.Cell a q) (Some Sort.Proc) = refl
values_are sig width t (Some Sort.Int) = refl
values_are sig width t None = refl

picks_are : (sig : Signature) (t : Transition) (d : Draft) (i : ℕ)
    → picks_by sig t.updates d i (choice_at d i)
    ≡ flat_map (value_option sig t d i) (range_with_len 0 (if is_any (chosen_value t.updates d.params (choice_at d i)) then value_count sig d.width (choice_at d i).term (sort_of sig (choice_at d i).term) else 1))
picks_are sig t d i = by (is_any (chosen_value t.updates d.params (choice_at d i)))
  where
    by : (x : Bool)
        → (if x then map (picked d i (choice_at d i)) (values_for sig d.width (choice_at d i).term (sort_of sig (choice_at d i).term)) else d ∷ [])
        ≡ flat_map (λ k. if x then picked d i (choice_at d i) (value_at d.width (choice_at d i).term (sort_of sig (choice_at d i).term) k) ∷ [] else d ∷ [])
        (range_with_len 0 (if x then value_count sig d.width (choice_at d i).term (sort_of sig (choice_at d i).term) else 1))
    by true =
        let term = (choice_at d i).term in
        let o = sort_of sig term in
        map_as_flat_map (picked d i (choice_at d i)) (values_for sig d.width term o)
        ∙ ap (flat_map (λ v. picked d i (choice_at d i) v ∷ [])) (values_are sig d.width term o)
        ∙ flat_map-map (λ v. picked d i (choice_at d i) v ∷ []) (value_at d.width term o) (range_with_len 0 (value_count sig d.width term o))
    by false = refl

-- the drafts of a step
pub by_options : (sig : Signature) (t : Transition) (width : ℕ) (step : Step) (d : Draft) → extend sig t width step d ≡ flat_map (option_at sig t width step d) (range_with_len 0 (options sig t width step d))
by_options sig t width Param d = places_by width d
by_options sig t width Guard d = map_as_flat_map (guarded t d) (numbers t.guard)
by_options sig t width (Other q) d = permits_by t d q (nat_lt q d.inner && not (is_among d.params q))
by_options sig t width (Branch i) d = branches_are (update_at t d i) d i
by_options sig t width (Fail i b) d = fails_are sig (update_at t d i) d i b
by_options sig t width (Choose i) d = picks_are sig t d i
by_options sig t width (Late j) d = permits_by t d (d.inner + j) (nat_lt (d.inner + j) d.width)
