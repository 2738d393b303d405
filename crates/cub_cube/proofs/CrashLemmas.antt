-- Crashes change no value: who satisfies a conjunction after them did so before, and the crashes of all other processes
-- leave those alive that are kept.
use Rattle.std.proofs.Common.{◌≡◌, ◌≢◌, ◌⊎◌, ℕ, zero, suc, ◌<◌, ◌≤◌, Bool, true, false, List, [], ◌∷◌, length, get_or, set, refl, sym, ap, ◌∙◌, subst, arith, inl, inr}
use Rattle.std.specs.Prelude.{IsTrue, ◌&&◌, not, if◌then◌else◌, All}
use Rattle.std.proofs.lemmas.List.{get_or-set_same, get_or-set_other, length-set, set_past, get_or_past}
use Rattle.std.proofs.lemmas.List.Elements.{All-weaker}
use Rattle.std.proofs.lemmas.Bool.{cases_lt}
use Rattle.cub_proto.specs.declared.literal.Lit.{Lit}
use Rattle.cub_proto.specs.declared.protocol.Protocol.{Protocol}
use Rattle.cub_proto.specs.Configuration.{Configuration, is_alive, IsAlive, killed}
use Rattle.cub_proto.specs.Truth.{is_true, all_true}
use Rattle.cub_proto.specs.Legal.{AreLegal, after_all}
use Rattle.cub_proto.specs.Meets.{Satisfies}
use Rattle.cub_cube.specs.Crashes.{crashes, killed_all, spare, IsCrashed}
use Rattle.std.proofs.lemmas.Bool.{cases_eq}
use Rattle.cub_base.proofs.Bools.{and_left, and_right}

-- ---- truth looks at values alone
module _ (s after : Configuration) (globals : after.globals ≡ s.globals) (arrays : after.arrays ≡ s.arrays) where
  same_values : (l : Lit) (places : List ℕ) → is_true after places l ≡ is_true s places l
  same_values l places =
      let with_globals : is_true after places l ≡ is_true (record after { globals = s.globals }) places l = ap (λ g. is_true (record after { globals = g }) places l) globals in
      let with_arrays : is_true (record after { globals = s.globals }) places l ≡ is_true (record after { globals = s.globals; arrays = s.arrays }) places l =
      ap (λ a. is_true (record after { globals = s.globals; arrays = a }) places l) arrays in
      with_globals ∙ with_arrays ∙ living_apart l
    where
      living_apart : (l : Lit) → is_true (record after { globals = s.globals; arrays = s.arrays }) places l ≡ is_true s places l
      living_apart l = by_living after.living l
        where
          by_living : (living : List Bool) (l : Lit) → is_true (record { living = living; globals = s.globals; arrays = s.arrays }) places l ≡ is_true s places l
          by_living living l = refl

  same_truth : (lits : List Lit) (places : List ℕ) → all_true after places lits ≡ all_true s places lits
  same_truth [] places = refl
  same_truth (l ∷ ls) places = ap (λ b. b && all_true after places ls) (same_values l places) ∙ ap (λ b. is_true s places l && b) (same_truth ls places)

-- who satisfies a conjunction after crashes did so before
pub crashed_satisfies : (s after : Configuration) (places : List ℕ) (width : ℕ) (lits : List Lit) → IsCrashed s after → Satisfies after places width lits → Satisfies s places width lits
crashed_satisfies s after places width lits crashed sat = record {
  one_each = sat.one_each;
  processes = record { alive = All-weaker (IsAlive after) (IsAlive s) crashed.alive places sat.processes.alive; distinct = sat.processes.distinct };
  holds = sym (same_truth s after crashed.globals crashed.arrays lits places) ∙ sat.holds;
}

-- and after them, where the processes are still alive
pub kept_satisfies : (s after : Configuration) (places : List ℕ) (width : ℕ) (lits : List Lit) → IsCrashed s after → All (IsAlive after) places → Satisfies s places width lits → Satisfies after places width lits
kept_satisfies s after places width lits crashed alive sat = record {
  one_each = sat.one_each;
  processes = record { alive = alive; distinct = sat.processes.distinct };
  holds = same_truth s after crashed.globals crashed.arrays lits places ∙ sat.holds;
}

-- ---- one crash
killed_alive : (s : Configuration) (i j : ℕ) → IsAlive (killed s i) j → IsAlive s j × (j ≢ i)
killed_alive s i j h = by (cases_eq j i)
  where
    by : (j ≡ i) ⊎ (j ≢ i) → IsAlive s j × (j ≢ i)
    by (inl same) = absurd (dead (cases_lt i (length s.living)))
      where
        here : get_or (set s.living i false) i false ≡ true
        here = subst (λ k. get_or (set s.living i false) k false ≡ true) same h

        dead : (i < length s.living) ⊎ (length s.living ≤ i) → ⊥
        dead (inl inside) = let no = get_or-set_same s.living i false false inside in cc
        dead (inr past) =
            let stays = set_past s.living i false past in
            let no = get_or_past s.living i false past in cc
    by (inr differ) = (sym (get_or-set_other s.living i j false false differ) ∙ h, differ)

alive_killed : (s : Configuration) (i j : ℕ) → j ≢ i → IsAlive s j → IsAlive (killed s i) j
alive_killed s i j differ h = get_or-set_other s.living i j false false differ ∙ h

pub crashed_itself : (s : Configuration) → IsCrashed s s
crashed_itself s = record { count = refl; globals = refl; arrays = refl; alive = λ i h. h }

pub killed_crashed : (s : Configuration) (i : ℕ) → IsCrashed s (killed s i)
killed_crashed s i = record { count = length-set s.living i false; globals = refl; arrays = refl; alive = λ j h. (killed_alive s i j h).0 }

pub crashed_further : (s t u : Configuration) → IsCrashed s t → IsCrashed t u → IsCrashed s u
crashed_further s t u first second = record {
  count = second.count ∙ first.count;
  globals = second.globals ∙ first.globals;
  arrays = second.arrays ∙ first.arrays;
  alive = λ i h. first.alive i (second.alive i h);
}

-- ---- the events
pub after_crashes : (p : Protocol) (s : Configuration) (processes : List ℕ) → after_all p s (crashes processes) ≡ killed_all s processes
after_crashes p s [] = refl
after_crashes p s (i ∷ processes) = after_crashes p (killed s i) processes

pub killed_all_crashed : (s : Configuration) (processes : List ℕ) → IsCrashed s (killed_all s processes)
killed_all_crashed s [] = crashed_itself s
killed_all_crashed s (i ∷ processes) = crashed_further s (killed s i) (killed_all (killed s i) processes) (killed_crashed s i) (killed_all_crashed (killed s i) processes)

-- ---- the crashes of all that are not kept
pub record AreSpare (p : Protocol) (keep : ℕ → Bool) (s : Configuration) (n : ℕ) : Type 0 where
  pub legal : AreLegal p s (crashes (spare keep s n))
  pub kept : (i : ℕ) → IsTrue (keep i) → IsAlive s i → IsAlive (killed_all s (spare keep s n)) i
  pub others : (i : ℕ) → i < n → IsAlive (killed_all s (spare keep s n)) i → IsTrue (keep i)

pub spare_all : (p : Protocol) (keep : ℕ → Bool) (s : Configuration) (n : ℕ) → AreSpare p keep s n
spare_all p keep s zero = record { legal = tt; kept = λ i k h. h; others = λ i below h. absurd (omega arith) }
spare_all p keep s (suc n) = by (is_alive s n && not (keep n)) refl (spare_all p keep (killed s n) n) (spare_all p keep s n)
  where
    Goal : List ℕ → Type 0
    Goal processes = AreLegal p s (crashes processes) × ((i : ℕ) → IsTrue (keep i) → IsAlive s i → IsAlive (killed_all s processes) i) × ((i : ℕ) → i < suc n → IsAlive (killed_all s processes) i → IsTrue (keep i))

    done : (processes : List ℕ) → spare keep s (suc n) ≡ processes → Goal processes → AreSpare p keep s (suc n)
    done processes is goal = record {
      legal = subst (λ xs. AreLegal p s (crashes xs)) (sym is) goal.0;
      kept = subst (λ xs. (i : ℕ) → IsTrue (keep i) → IsAlive s i → IsAlive (killed_all s xs) i) (sym is) goal.1;
      others = subst (λ xs. (i : ℕ) → i < suc n → IsAlive (killed_all s xs) i → IsTrue (keep i)) (sym is) goal.2;
    }

    by : (b : Bool) → (is_alive s n && not (keep n)) ≡ b → AreSpare p keep (killed s n) n → AreSpare p keep s n → AreSpare p keep s (suc n)
    by true e killing rest =
        let alive = and_left (is_alive s n) (not (keep n)) e in
        let spared = and_right (is_alive s n) (not (keep n)) e in
        done (n ∷ spare keep (killed s n) n) (ap (λ b. if b then n ∷ spare keep (killed s n) n else spare keep s n) e) (
          (alive, killing.legal),
          λ i k h. killing.kept i k (alive_killed s n i (λ same. let no = subst (λ j. IsTrue (keep j)) same k in cc) h),
          λ i below h. below_or i below h (cases_lt i n),
        )
      where
        below_or : (i : ℕ) → i < suc n → IsAlive (killed_all (killed s n) (spare keep (killed s n) n)) i → (i < n) ⊎ (n ≤ i) → IsTrue (keep i)
        below_or i below h (inl less) = killing.others i less h
        below_or i below h (inr le) =
            let last : i ≡ n = omega arith in
            absurd ((killed_alive s n i ((killed_all_crashed (killed s n) (spare keep (killed s n) n)).alive i h)).1 last)
    by false e killing rest =
        done (spare keep s n) (ap (λ b. if b then n ∷ spare keep (killed s n) n else spare keep s n) e) (
          rest.legal,
          rest.kept,
          λ i below h. below_or i below h (cases_lt i n),
        )
      where
        kept_last : IsAlive s n → IsTrue (keep n)
        kept_last h = by_keep (keep n) (subst (λ b. (b && not (keep n)) ≡ false) h e)
          where
            by_keep : (b : Bool) → (true && not b) ≡ false → IsTrue b
            by_keep true k = refl
            by_keep false k = cc

        below_or : (i : ℕ) → i < suc n → IsAlive (killed_all s (spare keep s n)) i → (i < n) ⊎ (n ≤ i) → IsTrue (keep i)
        below_or i below h (inl less) = rest.others i less h
        below_or i below h (inr le) =
            let last : i ≡ n = omega arith in
            subst (λ j. IsTrue (keep j)) (sym last) (kept_last (subst (IsAlive s) last ((killed_all_crashed s (spare keep s n)).alive i h)))
