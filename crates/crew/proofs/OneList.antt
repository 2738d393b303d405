-- What an event adds is one list where each added cube is the chosen form of its piece.
use Rattle.std.proofs.Common.{◌≡◌, ℕ, List, [], ◌∷◌, ◌++◌, refl, sym, ◌∙◌, subst, inl, inr}
use Rattle.cub_base.proofs.Members.{Has}
use Rattle.cub_proto.specs.declared.protocol.Protocol.{Protocol}
use Rattle.cub_cube.specs.declared.cube.Cube.{Cube}
use Rattle.cub_cube.specs.Starts.{IsStartCube}
use Rattle.log_form.specs.declared.event.Added.{Added}
use Rattle.log_form.specs.declared.numbered.Numbered.{Numbered}
use Rattle.log_form.specs.Legal.{IsAdded, Adds}
use Rattle.log_steps.specs.Chosen.{FormRelation}

-- a piece has one chosen form, and one renaming to it
pub record AreOneForm (C : FormRelation) : Type 0 where
  pub cube : (p : Protocol) (c a b : Cube) (q r : List ℕ) → C p c q a → C p c r b → a ≡ b
  pub places : (p : Protocol) (c a b : Cube) (q r : List ℕ) → C p c q a → C p c r b → q ≡ r

-- the added cube is the chosen form of each piece that has its number
abbrev pub IsChosenOf : FormRelation → Protocol → List Numbered → Added → Type 0
IsChosenOf C p pieces a = (x : Numbered) → Has pieces x → a.piece ≡ x.number → C p x.cube a.places a.cube

same_added : (a b : Added) → a.piece ≡ b.piece → a.places ≡ b.places → a.cube ≡ b.cube → a ≡ b
same_added a b piece places cube = λ i. record { piece = piece i; places = places i; cube = cube i }

module _ (C : FormRelation) (one : AreOneForm C) (p : Protocol) where
  -- both are added for the first piece
  same_first : (cubes : List Cube) (x : Numbered) (pieces : List Numbered) (a b : Added) → IsAdded p cubes x a → IsAdded p cubes x b → IsChosenOf C p (x ∷ pieces) a → IsChosenOf C p (x ∷ pieces) b → a ≡ b
  same_first cubes x pieces a b is also by too =
      let form = by x (inl refl) is.numbered in
      let other = too x (inl refl) also.numbered in
      same_added a b (is.numbered ∙ sym also.numbered) (one.places p x.cube a.cube b.cube a.places b.places form other) (one.cube p x.cube a.cube b.cube a.places b.places form other)

  -- forms of all pieces are forms of the later ones
  of_rest : (x : Numbered) (pieces : List Numbered) (xs : List Added) → ((a : Added) → Has xs a → IsChosenOf C p (x ∷ pieces) a) → (a : Added) → Has xs a → IsChosenOf C p pieces a
  of_rest x pieces xs all a inside y among = all a inside y (inr among)

  of_more : (x : Numbered) (pieces : List Numbered) (b : Added) (xs : List Added) → ((a : Added) → Has (b ∷ xs) a → IsChosenOf C p (x ∷ pieces) a) → (a : Added) → Has xs a → IsChosenOf C p pieces a
  of_more x pieces b xs all a inside y among = all a (inr inside) y (inr among)

  pub one_list : (cubes : List Cube) (pieces : List Numbered) (xs ys : List Added) → Adds p cubes pieces xs → Adds p cubes pieces ys
      → ((a : Added) → Has xs a → IsChosenOf C p pieces a) → ((a : Added) → Has ys a → IsChosenOf C p pieces a) → xs ≡ ys
  one_list cubes [] xs ys h k all too = h ∙ sym k
  one_list cubes (x ∷ pieces) [] [] h k all too = refl
  one_list cubes (x ∷ pieces) [] (b ∷ ys) (passed, rest) (inl (also, others)) all too =
      one_list cubes pieces [] (b ∷ ys) rest others (of_rest x pieces [] all) (of_rest x pieces (b ∷ ys) too)
  one_list cubes (x ∷ pieces) [] (b ∷ ys) (passed, rest) (inr (added, others)) all too = absurd (added.uncovered passed)
  one_list cubes (x ∷ pieces) (a ∷ xs) [] (inl (passed, rest)) (also, others) all too =
      one_list cubes pieces (a ∷ xs) [] rest others (of_rest x pieces (a ∷ xs) all) (of_rest x pieces [] too)
  one_list cubes (x ∷ pieces) (a ∷ xs) [] (inr (added, rest)) (also, others) all too = absurd (added.uncovered also)
  one_list cubes (x ∷ pieces) (a ∷ xs) (b ∷ ys) (inl (passed, rest)) (inl (also, others)) all too =
      one_list cubes pieces (a ∷ xs) (b ∷ ys) rest others (of_rest x pieces (a ∷ xs) all) (of_rest x pieces (b ∷ ys) too)
  one_list cubes (x ∷ pieces) (a ∷ xs) (b ∷ ys) (inl (passed, rest)) (inr (added, others)) all too = absurd (added.uncovered passed)
  one_list cubes (x ∷ pieces) (a ∷ xs) (b ∷ ys) (inr (added, rest)) (inl (also, others)) all too = absurd (added.uncovered also)
  one_list cubes (x ∷ pieces) (a ∷ xs) (b ∷ ys) (inr (added, inl (starts, last))) (inr (adds, inl (also, end))) all too =
      let same = same_first cubes x pieces a b added adds (all a (inl refl)) (too b (inl refl)) in
      λ i. same i ∷ (last ∙ sym end) i
  one_list cubes (x ∷ pieces) (a ∷ xs) (b ∷ ys) (inr (added, inl (starts, last))) (inr (adds, inr (unstarted, others))) all too =
      let same = same_first cubes x pieces a b added adds (all a (inl refl)) (too b (inl refl)) in
      absurd (unstarted (subst (λ (d : Added). IsStartCube p d.cube) same starts))
  one_list cubes (x ∷ pieces) (a ∷ xs) (b ∷ ys) (inr (added, inr (unstarted, rest))) (inr (adds, inl (starts, end))) all too =
      let same = same_first cubes x pieces a b added adds (all a (inl refl)) (too b (inl refl)) in
      absurd (unstarted (subst (λ (d : Added). IsStartCube p d.cube) (sym same) starts))
  one_list cubes (x ∷ pieces) (a ∷ xs) (b ∷ ys) (inr (added, inr (unstarted, rest))) (inr (adds, inr (also, others))) all too =
      let same = same_first cubes x pieces a b added adds (all a (inl refl)) (too b (inl refl)) in
      let more = one_list (cubes ++ a.cube ∷ []) pieces xs ys rest (subst (λ (d : Added). Adds p (cubes ++ d.cube ∷ []) pieces ys) (sym same) others) (of_more x pieces a xs all) (of_more x pieces b ys too) in
      λ i. same i ∷ more i
