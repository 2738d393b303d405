-- The cubes of the live nodes of a legal log.
use Rattle.std.proofs.Common.{◌≡◌, ℕ, suc, ◌+◌, ◌<◌, ◌≤◌, Bool, true, false, cond, List, [], ◌∷◌, ◌++◌, length, get_or, take, refl, sym, ap, ◌∙◌, subst, arith}
use Rattle.std.specs.Prelude.{Some, IsTrue, All, AllPairs}
use Rattle.std.specs.List.{filter}
use Rattle.std.proofs.lemmas.List.{take_more, map-append, get_or_default}
use Rattle.std.proofs.lemmas.List.Elements.{filter-append}
use Rattle.std.proofs.lemmas.List.Kept.{AllPairs-cons}
use Rattle.cub_base.proofs.Members.{has_Contains, contains_Has, has_all, all_has}
use Rattle.cub_cube.specs.declared.cube.Cube.{Cube}
use Rattle.cub_cube.specs.Cover.{DoesCover}
use Rattle.cub_cube.specs.Meaning.{IsConsistent}
use Rattle.cub_cube.specs.Inductive.{IsInductive}
use Rattle.piece_laws.specs.Test.{PassesTest}
use Rattle.piece_laws.proofs.TestLemmas.{test_inductive}
use Rattle.predecessors.specs.Predecessors.{ArePieceCubes}
use Rattle.predecessors.specs.Facts.{are_possible, stay_fit, passes_both}
use Rattle.log_form.specs.declared.verdicts.LogVerdict.TheVariants.{Safe}
use Rattle.log_form.specs.declared.node.Fate.{Fate}
use Rattle.log_form.specs.declared.node.Node.{Node}
use Rattle.log_form.specs.Pieces.{PieceRelation, ArePossible, StayFit, IsFit, IsExpandable, widest, greatest_expanded}
use Rattle.log_form.specs.Fates.{is_live}
use Rattle.log_form.specs.Log.{LogValue, no_node, node_at, cubes_of, live_cubes}
use Rattle.log_form.specs.Legal.{IsLegalLog}
use Rattle.log_form.specs.Verdict.{verdict_of}
use Rattle.log_form.proofs.Weave.{legal_woven}
use Rattle.log_form.proofs.Depths.{sound_at, askable_at}
use Rattle.log_form.proofs.Finished.{safe_is, live_narrow, passes}
use Rattle.log_form.proofs.Lives.{live_has, live_apart, link_leads}
use Rattle.core_laws.specs.Apart.{AreApart}

-- ---- the list
pub live_append : (xs ys : List Node) → live_cubes (xs ++ ys) ≡ live_cubes xs ++ live_cubes ys
live_append xs ys =
    ap cubes_of (filter-append (λ (n : Node). is_live n.fate) xs ys)
    ∙ map-append (λ (n : Node). n.cube) (filter (λ n. is_live n.fate) xs) (filter (λ n. is_live n.fate) ys)

pub live_more : (nodes : List Node) (i : ℕ) (n : Node) → i < length nodes → n ≡ get_or nodes i n → live_cubes (take i nodes) ++ live_cubes (n ∷ []) ≡ live_cubes (take (i + 1) nodes)
live_more nodes i n below is =
    sym (live_append (take i nodes) (n ∷ [])) ∙ ap live_cubes (ap (λ m. take i nodes ++ m ∷ []) is ∙ sym (take_more nodes i n below))

pub live_length : (nodes : List Node) → length (live_cubes nodes) ≤ length nodes
live_length [] = omega arith
live_length (n ∷ nodes) = by (is_live n.fate) (live_length nodes)
  where
    by : (b : Bool) → length (live_cubes nodes) ≤ length nodes
        → length (cubes_of (cond b (n ∷ filter (λ m. is_live m.fate) nodes) (filter (λ m. is_live m.fate) nodes))) ≤ suc (length nodes)
    by true rest = omega arith
    by false rest = omega arith

-- what holds of each live node's cube
pub live_all : (P : Cube → Type 0) (nodes : List Node) → ((i : ℕ) → i < length nodes → IsTrue (is_live (node_at nodes i).fate) → P (node_at nodes i).cube) → All P (live_cubes nodes)
live_all P nodes each = has_all P (live_cubes nodes) (λ c h. let l = live_has nodes c (has_Contains (live_cubes nodes) c h) in subst P l.is (each l.number l.inside l.live))

-- what holds of each two
pub live_pairs : (R : Cube → Cube → Type 0) (nodes : List Node)
    → ((i j : ℕ) → i < j → j < length nodes → IsTrue (is_live (node_at nodes i).fate) → IsTrue (is_live (node_at nodes j).fate) → R (node_at nodes i).cube (node_at nodes j).cube)
    → AllPairs R (live_cubes nodes)
live_pairs R [] each = λ i j d order below. absurd (omega arith)
live_pairs R (n ∷ nodes) each =
    by (is_live n.fate) refl
    (live_pairs R nodes (λ i j order below live also. each (suc i) (suc j) (omega arith) (omega arith) live also))
  where
    by : (b : Bool) → is_live n.fate ≡ b → AllPairs R (live_cubes nodes) → AllPairs R (cubes_of (cond b (n ∷ filter (λ m. is_live m.fate) nodes) (filter (λ m. is_live m.fate) nodes)))
    by true is rest =
        AllPairs-cons R n.cube (live_cubes nodes)
        (live_all (R n.cube) nodes (λ j below live. each 0 (suc j) (omega arith) (omega arith) is live)) rest
    by false is rest = rest

pub live_are_apart : (P : PieceRelation) (log : LogValue) → IsLegalLog P log → AreApart log.protocol (live_cubes log.nodes)
live_are_apart P log legal =
    live_pairs (λ c d. (DoesCover log.protocol c d → ⊥) × (DoesCover log.protocol d c → ⊥)) log.nodes
    (λ i j order below live also. (
      live_apart P log (legal_woven P log legal) j i below (omega arith) (λ same. omega arith) also,
      live_apart P log (legal_woven P log legal) i j (omega arith) below (λ same. omega arith) live,
    ))

-- ---- their cubes
pub live_fit : (P : PieceRelation) → ArePossible P → StayFit P → (log : LogValue) → IsLegalLog P log → All (IsFit log.protocol widest greatest_expanded) (live_cubes log.nodes)
live_fit P possible fit log legal =
    live_all (IsFit log.protocol widest greatest_expanded) log.nodes (λ i below live. askable_at P possible fit log (legal_woven P log legal) i below)

pub live_possible : (P : PieceRelation) → ArePossible P → StayFit P → (log : LogValue) → IsLegalLog P log → All (λ c. IsConsistent log.protocol c.width c.lits) (live_cubes log.nodes)
live_possible P possible fit log legal =
    live_all (λ c. IsConsistent log.protocol c.width c.lits) log.nodes
    (λ i below live. let sound = sound_at P possible fit log (legal_woven P log legal) i below in sound.possible)

pub live_few : (P : PieceRelation) (log : LogValue) → IsLegalLog P log → length (live_cubes log.nodes) ≤ log.budget.cubes
live_few P log legal =
    let woven = legal_woven P log legal in
    let few = woven.few in
    let less = live_length log.nodes in omega arith

-- ---- where the verdict is SAFE
pub live_narrow_all : (log : LogValue) → verdict_of log ≡ Some Safe → All (λ c. c.width ≤ log.budget.width) (live_cubes log.nodes)
live_narrow_all log says = live_all (λ (c : Cube). c.width ≤ log.budget.width) log.nodes (λ i below live. live_narrow log (safe_is log says) i below live)

pub live_expandable : (P : PieceRelation) → ArePossible P → StayFit P → (log : LogValue) → IsLegalLog P log → verdict_of log ≡ Some Safe → All (IsExpandable log.protocol) (live_cubes log.nodes)
live_expandable P possible fit log legal says k d below =
    let good = live_fit P possible fit log legal k d below in
    let narrow = live_narrow_all log says k d below in
    let most = log.budget.narrow in
    record { narrow = omega arith; fits = good.fits; normal = good.normal; bounded = good.bounded }

pub live_passes : (log : LogValue) → IsLegalLog ArePieceCubes log → verdict_of log ≡ Some Safe → PassesTest log.protocol (live_cubes log.nodes)
live_passes log legal says = passes_both log.protocol (live_cubes log.nodes) (passes ArePieceCubes log legal says)

pub live_inductive : (log : LogValue) → IsLegalLog ArePieceCubes log → verdict_of log ≡ Some Safe → IsInductive log.protocol (live_cubes log.nodes)
live_inductive log legal says =
    test_inductive log.protocol (live_cubes log.nodes)
    (λ c inside. let fit = all_has (IsFit log.protocol widest greatest_expanded) (live_cubes log.nodes) c (live_fit ArePieceCubes are_possible stay_fit log legal) (contains_Has (live_cubes log.nodes) c inside) in fit.fits)
    (live_passes log legal says)

-- ---- following a link
pub fate_at : (nodes slice : List Node) (i : ℕ) (d : Node) (fate : Fate) → slice ≡ nodes → i < length nodes → (get_or slice i d).fate ≡ fate → (node_at nodes i).fate ≡ fate
fate_at nodes slice i d fate same below its =
    ap (λ (m : Node). m.fate) (sym (get_or_default nodes i d no_node below)) ∙ subst (λ ns. (get_or ns i d).fate ≡ fate) same its

pub next_covers : (P : PieceRelation) (log : LogValue) → IsLegalLog P log → (i by : ℕ) (places : List ℕ) → i < length log.nodes → (node_at log.nodes i).fate ≡ Fate.Covered by places
    → (i < by) × (by < length log.nodes) × DoesCover log.protocol (node_at log.nodes by).cube (node_at log.nodes i).cube
next_covers P log legal i by places below is =
    let (low, high, least) = link_leads P log (legal_woven P log legal) i by places below is in (low, high, (places, least.covers))
