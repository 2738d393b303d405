-- A log is a function of its protocol, its budget and its events; the length of an event's list is no choice.
use Rattle.std.proofs.Common.{◌≡◌, ◌⊎◌, ℕ, zero, suc, ◌+◌, ◌-◌, ◌≤◌, max, Bool, ◌&&◌, List, [], ◌∷◌, ◌++◌, length, refl, sym, ap, ◌∙◌, subst, arith, inl, inr, ext_get_or}
use Rattle.std.specs.Prelude.{Option, Some, None}
use Rattle.cub_proto.specs.declared.protocol.Protocol.{Protocol}
use Rattle.cub_cube.specs.declared.cube.Cube.{Cube}
use Rattle.cub_cube.specs.Cover.{DoesCover, IsCovered}
use Rattle.log_form.specs.declared.node.Node.{Node}
use Rattle.log_form.specs.declared.event.Mark.{Mark}
use Rattle.log_form.specs.declared.event.Added.{Added}
use Rattle.log_form.specs.declared.event.LogEvent.{LogEvent}
use Rattle.log_form.specs.declared.numbered.Numbered.{Numbered}
use Rattle.log_form.specs.Numbering.{numbered}
use Rattle.log_form.specs.Pieces.{PieceRelation, AreOne}
use Rattle.log_form.specs.Fates.{fate_after}
use Rattle.log_form.specs.Log.{LogValue, no_log, no_node, node_at, cubes_of}
use Rattle.log_form.specs.Legal.{IsAdded, Adds, EndsBad, Treats, Fills, IsNodeAfter, is_number, is_going, grown, Grows, Leads, LeadAll, IsLegalLog}
use Rattle.log_form.proofs.Covered.{itself, further, start_up, form_covers, form_covered, covered_left, covered_right, covered_cases}
use Rattle.log_form.proofs.FirstCovers.{one_first}
use Rattle.log_form.proofs.Rooted.{one_roots}
use Rattle.log_form.proofs.Weave.{IsWoven, woven_none, woven_step}

-- ---- the log after an event
module _ (log : LogValue) (event : LogEvent) where
  one_mark : (list : List Added) (a b : LogValue) → Grows log event list a → Grows log event list b → a.mark ≡ b.mark
  one_mark list a b g h = by g.mark h.mark
    where
      by : (EndsBad log.protocol list × (a.mark ≡ Mark.Bad (length log.nodes + length list - 1))) ⊎ ((EndsBad log.protocol list → ⊥) × (a.mark ≡ Mark.Going))
          → (EndsBad log.protocol list × (b.mark ≡ Mark.Bad (length log.nodes + length list - 1))) ⊎ ((EndsBad log.protocol list → ⊥) × (b.mark ≡ Mark.Going)) → a.mark ≡ b.mark
      by (inl (bad, m)) (inl (worse, n)) = m ∙ sym n
      by (inl (bad, m)) (inr (good, n)) = absurd (good bad)
      by (inr (good, m)) (inl (bad, n)) = absurd (good bad)
      by (inr (good, m)) (inr (better, n)) = m ∙ sym n

  one_node : (cubes : List Cube) (i : ℕ) (expanded : Bool) (old x y : Node) → IsNodeAfter log.protocol (length log.nodes) cubes i expanded old x
      → IsNodeAfter log.protocol (length log.nodes) cubes i expanded old y → x ≡ y
  one_node cubes i expanded old x y h k =
      h.is ∙ (ap (λ link. record old { fate = fate_after old.fate link expanded })
      (one_first log.protocol cubes (max (length log.nodes) (i + 1)) (length cubes) old.cube h.link k.link h.found k.found) ∙ sym k.is)

  one_nodes : (list : List Added) (a b : LogValue) → Grows log event list a → Grows log event list b → a.nodes ≡ b.nodes
  one_nodes list a b g h =
      let m = g.count in
      let n = h.count in
      ext_get_or no_node a.nodes b.nodes (omega arith)
      (λ i below. one_node (cubes_of (grown log event list)) i (is_number event.node i && is_going b.mark) (node_at (grown log event list) i) (node_at a.nodes i) (node_at b.nodes i)
      (subst (λ mark. IsNodeAfter log.protocol (length log.nodes) (cubes_of (grown log event list)) i (is_number event.node i && is_going mark) (node_at (grown log event list) i) (node_at a.nodes i))
      (one_mark list a b g h) (g.nodes i below))
      (h.nodes i (omega arith)))

-- logs are equal where their parts are
same_logs : (a b : LogValue) → a.protocol ≡ b.protocol → a.budget ≡ b.budget → a.nodes ≡ b.nodes → a.events ≡ b.events → a.mark ≡ b.mark → a ≡ b
same_logs a b p q r s t = λ i. record { protocol = p i; budget = q i; nodes = r i; events = s i; mark = t i }

pub one_after : (P : PieceRelation) (log : LogValue) (event : LogEvent) (a b : LogValue) → length log.nodes ≤ log.budget.cubes → Leads P log event a → Leads P log event b → a ≡ b
one_after P log event a b few h k = by h.effect k.effect
  where
    same : a.nodes ≡ b.nodes → a.mark ≡ b.mark → a ≡ b
    same nodes mark = same_logs a b (h.protocol ∙ sym k.protocol) (h.budget ∙ sym k.budget) nodes (h.events ∙ sym k.events) mark

    by : Fills log event h.list a ⊎ Grows log event h.list a → Fills log event k.list b ⊎ Grows log event k.list b → a ≡ b
    by (inl f) (inl g) = same (f.nodes ∙ sym g.nodes) (f.mark ∙ (ap (λ n. Mark.Full event.node n) (sym f.needed ∙ g.needed) ∙ sym g.mark))
    by (inl f) (inr g) = let above = f.above in let n = f.needed in let m = g.needed in absurd (omega arith)
    by (inr f) (inl g) = let above = g.above in let n = g.needed in let m = f.needed in absurd (omega arith)
    by (inr f) (inr g) =
        let lists : k.list ≡ h.list = sym g.added ∙ f.added in
        let g' : Grows log event h.list b = subst (λ list. Grows log event list b) lists g in
        same (one_nodes log event h.list a b f g') (one_mark log event h.list a b f g')

pub one_all : (P : PieceRelation) (log : LogValue) (events : List LogEvent) (a b : LogValue) → IsWoven P log → LeadAll P log events a → LeadAll P log events b → a ≡ b
one_all P log [] a b woven h k = sym h ∙ k
one_all P log (event ∷ events) a b woven (x, first, rest) (y, second, others) =
    let same : y ≡ x = sym (one_after P log event x y woven.few first second) in
    one_all P x events a b (woven_step P log event x woven first) rest (subst (λ z. LeadAll P z events b) same others)

pub one_log : (P : PieceRelation) (a b : LogValue) → IsLegalLog P a → IsLegalLog P b → a.protocol ≡ b.protocol → a.budget ≡ b.budget → a.events ≡ b.events → a ≡ b
one_log P a b h k protocol budget events =
    one_all P (no_log a.protocol a.budget) a.events a b (woven_none P a.protocol a.budget) h.made
    (subst (λ p. LeadAll P (no_log p a.budget) a.events b) (sym protocol)
    (subst (λ q. LeadAll P (no_log b.protocol q) a.events b) (sym budget)
    (subst (λ es. LeadAll P (no_log b.protocol b.budget) es b) (sym events) k.made)))

-- ---- the length of the list
pub record CoverAlike (p : Protocol) (xs ys : List Cube) : Type 0 where
  pub there : (c : Cube) → IsCovered p xs c → IsCovered p ys c
  pub back : (c : Cube) → IsCovered p ys c → IsCovered p xs c

-- what one form of a piece covers, another form of it covers
forms_alike : (p : Protocol) (xs ys : List Cube) (piece : Numbered) (a b : Added) → IsAdded p xs piece a → IsAdded p ys piece b → DoesCover p b.cube a.cube
forms_alike p xs ys piece a b h k =
    form_covered p piece.cube a.places a.cube b.cube h.form (form_covers p piece.cube b.places b.cube b.cube k.form (itself p b.cube))

one_more : (p : Protocol) (xs ys : List Cube) (d e : Cube) → ((c : Cube) → IsCovered p xs c → IsCovered p ys c) → DoesCover p e d → (c : Cube) → IsCovered p (xs ++ d ∷ []) c → IsCovered p (ys ++ e ∷ []) c
one_more p xs ys d e there covers c h = by (covered_cases p xs (d ∷ []) c h)
  where
    by : IsCovered p xs c ⊎ IsCovered p (d ∷ []) c → IsCovered p (ys ++ e ∷ []) c
    by (inl old) = covered_left p ys (e ∷ []) c (there c old)
    by (inr (f, (zero, below, is), down)) = covered_right p ys (e ∷ []) c (e, (0, omega arith, refl), further p e d c covers (subst (λ g. DoesCover p g c) (sym is) down))
    by (inr (f, (suc k, below, is), down)) = absurd (omega arith)

pub one_length : (p : Protocol) (xs ys : List Cube) (pieces : List Numbered) (as' bs : List Added) → CoverAlike p xs ys → Adds p xs pieces as' → Adds p ys pieces bs → length as' ≡ length bs
one_length p xs ys [] as' bs alike h k = ap length (h ∙ sym k)
one_length p xs ys (piece ∷ pieces) [] [] alike h k = refl
one_length p xs ys (piece ∷ pieces) [] (b ∷ bs) alike (passed, rest) (inl (also, others)) = one_length p xs ys pieces [] (b ∷ bs) alike rest others
one_length p xs ys (piece ∷ pieces) [] (b ∷ bs) alike (passed, rest) (inr (added, others)) = absurd (added.uncovered (alike.there piece.cube passed))
one_length p xs ys (piece ∷ pieces) (a ∷ as') [] alike (inl (passed, rest)) (also, others) = one_length p xs ys pieces (a ∷ as') [] alike rest others
one_length p xs ys (piece ∷ pieces) (a ∷ as') [] alike (inr (added, rest)) (also, others) = absurd (added.uncovered (alike.back piece.cube also))
one_length p xs ys (piece ∷ pieces) (a ∷ as') (b ∷ bs) alike (inl (passed, rest)) (inl (also, others)) = one_length p xs ys pieces (a ∷ as') (b ∷ bs) alike rest others
one_length p xs ys (piece ∷ pieces) (a ∷ as') (b ∷ bs) alike (inl (passed, rest)) (inr (added, others)) = absurd (added.uncovered (alike.there piece.cube passed))
one_length p xs ys (piece ∷ pieces) (a ∷ as') (b ∷ bs) alike (inr (added, rest)) (inl (also, others)) = absurd (added.uncovered (alike.back piece.cube also))
one_length p xs ys (piece ∷ pieces) (a ∷ as') (b ∷ bs) alike (inr (added, inl (starts, last))) (inr (too, inl (also, end))) = ap (λ zs. suc (length zs)) (last ∙ sym end)
one_length p xs ys (piece ∷ pieces) (a ∷ as') (b ∷ bs) alike (inr (added, inl (starts, last))) (inr (too, inr (unstarted, others))) =
    absurd (unstarted (start_up p b.cube a.cube (forms_alike p xs ys piece a b added too) starts))
one_length p xs ys (piece ∷ pieces) (a ∷ as') (b ∷ bs) alike (inr (added, inr (unstarted, rest))) (inr (too, inl (starts, end))) =
    absurd (unstarted (start_up p a.cube b.cube (forms_alike p ys xs piece b a too added) starts))
one_length p xs ys (piece ∷ pieces) (a ∷ as') (b ∷ bs) alike (inr (added, inr (unstarted, rest))) (inr (too, inr (also, others))) =
    ap suc (one_length p (xs ++ a.cube ∷ []) (ys ++ b.cube ∷ []) pieces as' bs
    (record {
      there = one_more p xs ys a.cube b.cube alike.there (forms_alike p xs ys piece a b added too);
      back = one_more p ys xs b.cube a.cube alike.back (forms_alike p ys xs piece b a too added);
    }) rest others)

-- what is treated is one list
pub one_treated : (P : PieceRelation) → AreOne P → (log : LogValue) (from : Option ℕ) (xs ys : List Numbered) → Treats P log from xs → Treats P log from ys → xs ≡ ys
one_treated P one log None xs ys (first, are) (also, too) = one_roots log.protocol xs ys are too
one_treated P one log (Some n) xs ys h k =
    h.is ∙ (ap numbered (one log.protocol (node_at log.nodes n).cube h.cubes k.cubes h.its k.its) ∙ sym k.is)

pub one_count : (P : PieceRelation) → AreOne P → (log : LogValue) (from : Option ℕ) (pieces others : List Numbered) (xs ys : List Added) → Treats P log from pieces → Treats P log from others
    → Adds log.protocol (cubes_of log.nodes) pieces xs → Adds log.protocol (cubes_of log.nodes) others ys → length xs ≡ length ys
one_count P one log from pieces others xs ys h k adds more =
    one_length log.protocol (cubes_of log.nodes) (cubes_of log.nodes) pieces xs ys (record { there = λ c x. x; back = λ c x. x }) adds
    (subst (λ ps. Adds log.protocol (cubes_of log.nodes) ps ys) (one_treated P one log from others pieces k h) more)
