-- Crashes of a list of processes: they are legal where the processes are alive and no one stands there twice, and exactly
-- the others stay alive.
use Rattle.std.proofs.Common.{◌≡◌, ◌≢◌, ◌⊎◌, ℕ, ◌<◌, ◌≤◌, true, false, List, [], ◌∷◌, ◌++◌, length, get_or, set, refl, sym, ◌∙◌, subst, inl, inr}
use Rattle.std.proofs.lemmas.List.{get_or-set_same, get_or-set_other, set_past, get_or_past}
use Rattle.std.proofs.lemmas.Bool.{cases_lt, cases_eq}
use Rattle.cub_base.proofs.Members.{Has, Distinct}
use Rattle.cub_proto.specs.declared.event.Event.{Event}
use Rattle.cub_proto.specs.declared.protocol.Protocol.{Protocol}
use Rattle.cub_proto.specs.Configuration.{Configuration, IsAlive, killed}
use Rattle.cub_proto.specs.Legal.{AreLegal, after, after_all}
use Rattle.cub_cube.specs.Crashes.{crashes, killed_all}

-- ---- one crash
pub killed_alive : (s : Configuration) (i j : ℕ) → IsAlive (killed s i) j → IsAlive s j × (j ≢ i)
killed_alive s i j h = by (cases_eq j i)
  where
    by : (j ≡ i) ⊎ (j ≢ i) → IsAlive s j × (j ≢ i)
    by (inl same) = absurd (dead (cases_lt i (length s.living)))
      where
        here : get_or (set s.living i false) i false ≡ true
        here = subst (λ k. get_or (set s.living i false) k false ≡ true) same h

        dead : (i < length s.living) ⊎ (length s.living ≤ i) → ⊥
        dead (inl inside) = let no = get_or-set_same s.living i false false inside in cc
        dead (inr past) =
            let stays = set_past s.living i false past in
            let no = get_or_past s.living i false past in cc
    by (inr differ) = (sym (get_or-set_other s.living i j false false differ) ∙ h, differ)

pub alive_killed : (s : Configuration) (i j : ℕ) → j ≢ i → IsAlive s j → IsAlive (killed s i) j
alive_killed s i j differ h = get_or-set_other s.living i j false false differ ∙ h

-- ---- a list of crashes
pub left_alive : (s : Configuration) (xs : List ℕ) (j : ℕ) → IsAlive (killed_all s xs) j → IsAlive s j × (Has xs j → ⊥)
left_alive s [] j h = (h, λ none. absurd none)
left_alive s (i ∷ xs) j h =
    let rest = left_alive (killed s i) xs j h in
    let first = killed_alive s i j rest.0 in
    (first.0, by first.1 rest.1)
  where
    by : j ≢ i → (Has xs j → ⊥) → Has (i ∷ xs) j → ⊥
    by differ absent (inl same) = differ (sym same)
    by differ absent (inr later) = absent later

pub stays_alive : (s : Configuration) (xs : List ℕ) (j : ℕ) → (Has xs j → ⊥) → IsAlive s j → IsAlive (killed_all s xs) j
stays_alive s [] j absent h = h
stays_alive s (i ∷ xs) j absent h = stays_alive (killed s i) xs j (λ later. absent (inr later)) (alive_killed s i j (λ same. absent (inl (sym same))) h)

pub crashes_legal : (p : Protocol) (s : Configuration) (xs : List ℕ) → Distinct xs → ((j : ℕ) → Has xs j → IsAlive s j) → AreLegal p s (crashes xs)
crashes_legal p s [] distinct alive = tt
crashes_legal p s (i ∷ xs) distinct alive =
    (alive i (inl refl), crashes_legal p (killed s i) xs distinct.1 (λ j h. alive_killed s i j (λ same. distinct.0 (subst (Has xs) same h)) (alive j (inr h))))

-- ---- lists of events
pub after_append : (p : Protocol) (s : Configuration) (xs ys : List Event) → after_all p s (xs ++ ys) ≡ after_all p (after_all p s xs) ys
after_append p s [] ys = refl
after_append p s (e ∷ xs) ys = after_append p (after p s e) xs ys

pub legal_append : (p : Protocol) (s : Configuration) (xs ys : List Event) → AreLegal p s xs → AreLegal p (after_all p s xs) ys → AreLegal p s (xs ++ ys)
legal_append p s [] ys h k = k
legal_append p s (e ∷ xs) ys h k = (h.0, legal_append p (after p s e) xs ys h.1 k)

pub legal_front : (p : Protocol) (s : Configuration) (xs ys : List Event) → AreLegal p s (xs ++ ys) → AreLegal p s xs
legal_front p s [] ys h = tt
legal_front p s (e ∷ xs) ys h = (h.0, legal_front p (after p s e) xs ys h.1)

pub legal_back : (p : Protocol) (s : Configuration) (xs ys : List Event) → AreLegal p s (xs ++ ys) → AreLegal p (after_all p s xs) ys
legal_back p s [] ys h = h
legal_back p s (e ∷ xs) ys h = legal_back p (after p s e) xs ys h.1
