-- What repeats: items up to one that gives nothing.
use Rattle.std.proofs.Common.{◌≡◌, ℕ, zero, suc, ◌+◌, ◌<◌, ◌≤◌, ◌⊎◌, Bool, true, false, cond, List, [], ◌∷◌, ◌++◌, length, Option, Some, None, Result, Ok, Err, refl, ap, ◌∙◌, sym, subst, inl, inr, arith, length-append, append_assoc}
use Rattle.cub_lexer.specs.declared.token.TokenKind.{TokenKind}
use Rattle.cub_parse.specs.declared.fault.ParseKind.{ParseKind}
use Rattle.cub_parse.specs.declared.tree.Leaf.{Leaf}
use Rattle.cub_parse.specs.Phrase as g
use Rattle.cub_parse.specs.Phrase.{Phrase, heads}
use Rattle.cub_parse.specs.Parsing as q
use Rattle.cub_parse.specs.Parsing.{Read, Parser, after, go_on, until_in, until}
use Rattle.cub_parse.proofs.Exact.{Exact, Local, Begins, LivesAt, Alike, within, apart, closes, given_tree, given_rest, not_given, heads_apart, heads_within, quiet_within, Ends, Agrees, Deeper, NotDeep, Plain, plain_after, same_agrees, bind_agrees, choose_agrees, begins_first, next, next_append, first_taken, bind_local, bind_exact, choose_exact, give_exact}

-- what stands behind an item: the others, or nothing
After : {A : Type 0} → Phrase (Option A) → Option A → Phrase (List A)
After R None = g.Is []
After R (Some a) = g.◌>>=◌ (g.Until R) (λ others. g.Is (a ∷ others))

module _ {A : Type 0} {R : Phrase (Option A)} {p : Parser (Option A)} {e : Bool} {f gs s : List TokenKind} (one : Exact R p e f gs s) (eats : (a : A) → R [] (Some a) [] → ⊥)
    (gi : List TokenKind) (item_takes : (ts : List Leaf) (a : A) (rest : List Leaf) → R ts (Some a) rest → heads gi rest ≡ false → p ts ≡ Ok (Some a, rest)) where
  -- an item takes a token
  shorter_than : (ts : List Leaf) (a : A) (mid : List Leaf) → Local R p s ts (Ok (Some a, mid)) → length mid < length ts
  shorter_than ts a mid l = go l.0 l.1 l.2
    where
      go : (used : List Leaf) → ts ≡ used ++ mid → ((more : List Leaf) → Alike s mid more → p (used ++ more) ≡ Ok (Some a, more)) → length mid < length ts
      go [] split loc = absurd (eats a (one.sound [] (Some a) [] (loc [] (inr refl))))
      go (x ∷ used) split loc = omega (arith, ap length split, length-append used mid)

  shorter : (ts : List Leaf) (a : A) (mid : List Leaf) → p ts ≡ Ok (Some a, mid) → length mid < length ts
  shorter ts a mid h = shorter_than ts a mid (subst (λ (r : Read (Option A)). Local R p s ts r) h (one.local ts))

  others_sound : (ts mid : List Leaf) (a : A) (l : List A) (rest : List Leaf) → R ts (Some a) mid → (r : Read (List A)) → ((l : List A) (left : List Leaf) → r ≡ Ok (l, left) → g.Until R mid l left) →
      after r (λ others. q.give (a ∷ others)) ≡ Ok (l, rest) → g.Until R ts l rest
  others_sound ts mid a l rest h (Ok x) i k =
      subst (λ (v : List A). g.Until R ts v rest) (given_tree (a ∷ x.0) l x.1 rest k)
      (subst (λ (v : List Leaf). g.Until R ts (a ∷ x.0) v) (given_rest (a ∷ x.0) l x.1 rest k) (mid, h, i x.0 x.1 refl))
  others_sound ts mid a l rest h (Err x) i k = not_given x (l, rest) k

  item_sound : (ts : List Leaf) (l : List A) (rest : List Leaf) (count : ℕ) → ((us : List Leaf) (l : List A) (left : List Leaf) → until_in p count us ≡ Ok (l, left) → g.Until R us l left) →
      (r : Read (Option A)) → p ts ≡ r → after r (go_on (until_in p count)) ≡ Ok (l, rest) → g.Until R ts l rest
  item_sound ts l rest count i (Err x) h k = not_given x (l, rest) k
  item_sound ts l rest count i (Ok (None, mid)) h k =
      subst (λ (v : List A). g.Until R ts v rest) (given_tree [] l mid rest k)
      (one.sound ts None rest (h ∙ ap (λ us. Ok (None, us)) (given_rest [] l mid rest k)))
  item_sound ts l rest count i (Ok (Some a, mid)) h k = others_sound ts mid a l rest (one.sound ts (Some a) mid h) (until_in p count mid) (λ m left j. i mid m left j) k

  until_sound : (count : ℕ) (ts : List Leaf) (l : List A) (rest : List Leaf) → until_in p count ts ≡ Ok (l, rest) → g.Until R ts l rest
  unfolding until_in
  until_sound zero ts l rest h = not_given _ (l, rest) h
  until_sound (suc count) ts l rest h = item_sound ts l rest count (until_sound count) (p ts) refl h

  then_starts : (ts mid rest : List Leaf) → (heads f ts ≡ true) ⊎ ((e ≡ true) × (ts ≡ mid)) → (heads f mid ≡ true) ⊎ ((e ≡ true) × (mid ≡ rest)) → (heads f ts ≡ true) ⊎ ((e ≡ true) × (ts ≡ rest))
  then_starts ts mid rest (inl h) k = inl h
  then_starts ts mid rest (inr h) (inl k) = inl (ap (heads f) h.1 ∙ k)
  then_starts ts mid rest (inr h) (inr k) = inr (h.0, h.1 ∙ k.1)

  until_starts : (ts : List Leaf) (l : List A) (rest : List Leaf) → g.Until R ts l rest → (heads f ts ≡ true) ⊎ ((e ≡ true) × (ts ≡ rest))
  until_starts ts [] rest h = one.starts ts None rest h
  until_starts ts (a ∷ l) rest h = then_starts ts h.0 rest (one.starts ts (Some a) h.0 h.1) (until_starts h.0 l rest h.2)

  quiet_item : (mid rest : List Leaf) → apart f gi ≡ true → within gi gs ≡ true → heads gs rest ≡ false → (heads f mid ≡ true) ⊎ ((e ≡ true) × (mid ≡ rest)) → heads gi mid ≡ false
  quiet_item mid rest c w quiet (inl h) = heads_apart f gi mid c h
  quiet_item mid rest c w quiet (inr h) = ap (heads gi) h.1 ∙ quiet_within gi gs rest w quiet

  until_takes : (ts : List Leaf) (l : List A) (rest : List Leaf) (count : ℕ) → apart f gi ≡ true → within gi gs ≡ true → g.Until R ts l rest → heads gs rest ≡ false → length ts < count → until_in p count ts ≡ Ok (l, rest)
  unfolding until_in
  until_takes ts l rest zero c w h quiet n = absurd (omega arith)
  until_takes ts [] rest (suc count) c w h quiet n = ap (λ r. after r (go_on (until_in p count))) (one.takes ts None rest h quiet)
  until_takes ts (a ∷ l) rest (suc count) c w h quiet n =
      let item : p ts ≡ Ok (Some a, h.0) = item_takes ts a h.0 h.1 (quiet_item h.0 rest c w quiet (until_starts h.0 l rest h.2)) in
      ap (λ r. after r (go_on (until_in p count))) item
      ∙ ap (λ r. after r (λ others. q.give (a ∷ others))) (until_takes h.0 l rest count c w h.2 quiet (omega (arith, shorter ts a h.0 item)))

  -- more turns than tokens are enough
  enough_item : (n m : ℕ) (ts : List Leaf) → ((a : A) (mid : List Leaf) → p ts ≡ Ok (Some a, mid) → until_in p n mid ≡ until_in p m mid) → (r : Read (Option A)) → p ts ≡ r →
      after r (go_on (until_in p n)) ≡ after r (go_on (until_in p m))
  enough_item n m ts i (Err x) h = refl
  enough_item n m ts i (Ok (None, mid)) h = refl
  enough_item n m ts i (Ok (Some a, mid)) h = ap (λ r. after r (λ others. q.give (a ∷ others))) (i a mid h)

  enough : (n m : ℕ) (ts : List Leaf) → length ts < n → length ts < m → until_in p n ts ≡ until_in p m ts
  unfolding until_in
  enough zero m ts h k = absurd (omega arith)
  enough (suc n) zero ts h k = absurd (omega arith)
  enough (suc n) (suc m) ts h k = enough_item n m ts (λ a mid item. enough n m mid (omega (arith, shorter ts a mid item)) (omega (arith, shorter ts a mid item))) (p ts) refl

  unrolled_item : (n : ℕ) (ts : List Leaf) → length ts ≤ n → (r : Read (Option A)) → p ts ≡ r → after r (go_on (until_in p n)) ≡ after r (go_on (until p))
  unrolled_item n ts h (Err x) k = refl
  unrolled_item n ts h (Ok (None, mid)) k = refl
  unrolled_item n ts h (Ok (Some a, mid)) k = ap (λ r. after r (λ others. q.give (a ∷ others))) (enough n (suc (length mid)) mid (omega (arith, shorter ts a mid k)) (omega arith))

  unrolled : (ts : List Leaf) → until p ts ≡ after (p ts) (go_on (until p))
  unfolding until_in
  unrolled ts = unrolled_item (length ts) ts (omega arith) (p ts) refl

  -- from an item and what stands behind it to items
  rolled : (ts : List Leaf) (o : Option A) (l : List A) (mid rest : List Leaf) → R ts o mid → After R o mid l rest → g.Until R ts l rest
  unfolding After
  rolled ts None l mid rest h k = subst (λ (v : List A). g.Until R ts v rest) (sym k.0) (subst (λ (v : List Leaf). R ts None v) k.1 h)
  rolled ts (Some a) l mid rest h k =
      subst (λ (v : List A). g.Until R ts v rest) (sym k.3.0) (mid, h, subst (λ (v : List Leaf). g.Until R mid k.0 v) k.3.1 k.2)

  rolled_local : (ts : List Leaf) (r : Read (List A)) → Local (g.◌>>=◌ R (After R)) (q.◌>>=◌ p (go_on (until p))) s ts r → Local (g.Until R) (until p) s ts r
  rolled_local ts (Ok x) l = (l.0, l.1, λ more k. unrolled (l.0 ++ more) ∙ l.2 more k)
  rolled_local ts (Err x) l =
      (l.0, l.1, l.2, l.3, (l.4.0, l.4.1, λ rest quiet. let h = l.4.2 rest quiet in rolled (l.0 ++ (l.4.0 ++ rest)) h.0 l.4.1 h.1 rest h.2 h.3), λ more k. unrolled (l.0 ++ more) ∙ l.5 more k)

  until_lives : (e2 : Bool) → LivesAt e2 f s R None → LivesAt e2 f s (g.Until R) []
  until_lives true live = live
  until_lives false live = live

  others_local : (a : A) (mid : List Leaf) → within s s ≡ true → ((l : List A) × LivesAt e f s (g.Until R) l) → Local (g.Until R) (until p) s mid (until p mid) →
      Local (g.◌>>=◌ (g.Until R) (λ others. g.Is (a ∷ others))) (q.◌>>=◌ (until p) (λ others. q.give (a ∷ others))) s mid (after (until p mid) (λ others. q.give (a ∷ others)))
  others_local a mid w live one_more =
      bind_local (g.Until R) (λ others. g.Is (a ∷ others)) (until p) (λ others. q.give (a ∷ others)) (λ l. true) [] s s mid (λ l. w) (λ us l left h. until_sound (suc (length us)) us l left h)
      (λ l us b left h. inr (refl, given_rest (a ∷ l) b us left h)) (λ l. (a ∷ l, λ rest quiet. (refl, refl))) (until p mid) refl one_more (λ l left h. ([], refl, λ more k. refl))

  none_lives : (e2 : Bool) (a : A) → LivesAt e2 f s R None → (l : List A) × LivesAt e2 f s (After R (Some a)) l
  unfolding After
  none_lives true a live = (a ∷ [], λ rest quiet. ([], rest, live rest quiet, (refl, refl)))
  none_lives false a live = (a ∷ [], (live.0, live.1, live.2, λ rest quiet. ([], rest, live.3 rest quiet, (refl, refl))))

  behind_empty : Option A → Bool
  behind_empty None = true
  behind_empty (Some a) = e

  behind_closes : (o : Option A) → within s s ≡ true → closes e f s s ≡ true → closes (behind_empty o) f s s ≡ true
  unfolding behind_empty
  behind_closes None w c = w
  behind_closes (Some a) w c = c

  some_starts : (a : A) (us : List Leaf) (l : List A) (left : List Leaf) (r : Read (List A)) → until p us ≡ r → after r (λ others. q.give (a ∷ others)) ≡ Ok (l, left) →
      (heads f us ≡ true) ⊎ ((e ≡ true) × (us ≡ left))
  some_starts a us l left (Err x) h k = not_given x (l, left) k
  some_starts a us l left (Ok x) h k =
      subst (λ (v : List Leaf). (heads f us ≡ true) ⊎ ((e ≡ true) × (us ≡ v))) (given_rest (a ∷ x.0) l x.1 left k)
      (until_starts us x.0 x.1 (until_sound (suc (length us)) us x.0 x.1 h))

  behind_starts : (o : Option A) (us : List Leaf) (l : List A) (left : List Leaf) → go_on (until p) o us ≡ Ok (l, left) → (heads f us ≡ true) ⊎ ((behind_empty o ≡ true) × (us ≡ left))
  unfolding behind_empty
  behind_starts None us l left h = inr (refl, given_rest [] l us left h)
  behind_starts (Some a) us l left h = some_starts a us l left (until p us) refl h

  behind_lives : LivesAt e f s R None → (o : Option A) → (l : List A) × LivesAt (behind_empty o) f s (After R o) l
  unfolding behind_empty After
  behind_lives live None = ([], λ rest quiet. (refl, refl))
  behind_lives live (Some a) = none_lives e a live

  behind_local : (o : Option A) (mid : List Leaf) → within s s ≡ true → LivesAt e f s R None → ((a : A) → o ≡ Some a → Local (g.Until R) (until p) s mid (until p mid)) →
      Local (After R o) (go_on (until p) o) s mid (go_on (until p) o mid)
  unfolding After
  behind_local None mid w live i = ([], refl, λ more k. refl)
  behind_local (Some a) mid w live i = others_local a mid w ([], until_lives e live) (i a refl)

  until_local : (count : ℕ) (ts : List Leaf) → within s s ≡ true → closes e f s s ≡ true → LivesAt e f s R None → length ts < count → Local (g.Until R) (until p) s ts (until p ts)
  until_local zero ts w c live h = absurd (omega arith)
  until_local (suc count) ts w c live h =
      subst (λ (r : Read (List A)). Local (g.Until R) (until p) s ts r) (sym (unrolled ts)) (rolled_local ts (after (p ts) (go_on (until p)))
      (bind_local R (After R) p (go_on (until p)) behind_empty f s s ts (λ o. behind_closes o w c) one.sound behind_starts (behind_lives live) (p ts) refl (one.local ts)
      (λ o mid item. behind_local o mid w live (λ a some. until_local count mid w c live (omega (arith, shorter ts a mid (item ∙ ap (λ v. Ok (v, mid)) some)))))))

  pub until_exact : within s s ≡ true → closes e f s s ≡ true → LivesAt e f s R None → apart f gi ≡ true → within gi gs ≡ true → Exact (g.Until R) (until p) e f gs s
  until_exact w c live d v = record {
    sound = λ ts l rest h. until_sound (suc (length ts)) ts l rest h;
    takes = λ ts l rest h quiet. until_takes ts l rest (suc (length ts)) d v h quiet (omega arith);
    starts = until_starts;
    lives = ([], until_lives e live);
    local = λ ts. until_local (suc (length ts)) ts w c live (omega arith);
  }

  -- fewer levels in the items
  module _ (t : Parser (Option A)) (a : Agrees R s t p) (live : LivesAt e f s R None) (c : closes e f s s ≡ true) (v : within s s ≡ true) where
    deeper_item : (ts : List Leaf) (count : ℕ) → Deeper R s (t ts) ts → Deeper (g.Until R) s (after (t ts) (go_on (until_in t count))) ts
    deeper_item ts count d =
        let front = d.0 ++ d.1 ∷ [] in
        let b = begins_first R (After R) (behind_empty d.5.1) f s s front (behind_closes d.5.1 v c) d.5 (behind_lives live d.5.1) in (
          d.0,
          d.1,
          d.2,
          d.3,
          ap (λ r. after r (go_on (until_in t count))) d.4,
          (b.0, b.1, λ rest quiet. let h = b.2 rest quiet in rolled (front ++ (b.0 ++ rest)) h.0 b.1 h.1 rest h.2 h.3),
        )

    deeper_others : (ts mid : List Leaf) (x : A) (count : ℕ) (used : List Leaf) → t ts ≡ Ok (Some x, mid) → ts ≡ used ++ mid → ((more : List Leaf) → Alike s mid more → p (used ++ more) ≡ Ok (Some x, more)) →
        Deeper (g.Until R) s (until_in t count mid) mid → Deeper (g.Until R) s (after (t ts) (go_on (until_in t count))) ts
    deeper_others ts mid x count used h split loc d = (
      used ++ d.0,
      d.1,
      d.2,
      split ∙ ap (λ us. used ++ us) d.3 ∙ sym (append_assoc used d.0 (d.1 ∷ d.2)),
      ap (λ r. after r (go_on (until_in t count))) h ∙ ap (λ r. after r (λ others. q.give (x ∷ others))) d.4,
      (
        d.5.0,
        x ∷ d.5.1,
        λ rest quiet.
            let us : List Leaf = (d.0 ++ d.1 ∷ []) ++ (d.5.0 ++ rest) in
            let near : next mid ≡ next us = ap next d.3 ∙ next_append d.0 (d.1 ∷ d.2) (d.1 ∷ (d.5.0 ++ rest)) refl ∙ sym (ap next (append_assoc d.0 (d.1 ∷ []) (d.5.0 ++ rest))) in
            let whole : ((used ++ d.0) ++ d.1 ∷ []) ++ (d.5.0 ++ rest) ≡ used ++ us = ap (λ vs. vs ++ (d.5.0 ++ rest)) (append_assoc used d.0 (d.1 ∷ [])) ∙ append_assoc used (d.0 ++ d.1 ∷ []) (d.5.0 ++ rest) in
            (us, subst (λ (vs : List Leaf). R vs (Some x) us) (sym whole) (one.sound (used ++ us) (Some x) us (loc us (inl near))), d.5.2 rest quiet),
      ),
    )

    agrees_item : (ts : List Leaf) (count : ℕ) → ((x : A) (mid : List Leaf) → p ts ≡ Ok (Some x, mid) → ((until_in t count mid ≡ until_in p count mid) × NotDeep (until_in t count mid)) ⊎ Deeper (g.Until R) s (until_in t count mid) mid) →
        t ts ≡ p ts → NotDeep (t ts) → (r : Read (Option A)) → p ts ≡ r → Local R p s ts r → ((after (t ts) (go_on (until_in t count)) ≡ after (p ts) (go_on (until_in p count))) × NotDeep (after (t ts) (go_on (until_in t count)))) ⊎ Deeper (g.Until R) s (after (t ts) (go_on (until_in t count))) ts
    agrees_item ts count i same nd (Err x) h l =
        inl (
          ap (λ r. after r (go_on (until_in t count))) (same ∙ h) ∙ sym (ap (λ r. after r (go_on (until_in p count))) h),
          subst (λ (r : Read (List A)). NotDeep r) (sym (ap (λ r. after r (go_on (until_in t count))) (same ∙ h))) (subst (λ (r : Read (Option A)). NotDeep r) (same ∙ h) nd),
        )
    agrees_item ts count i same nd (Ok (None, mid)) h l =
        inl (
          ap (λ r. after r (go_on (until_in t count))) (same ∙ h) ∙ sym (ap (λ r. after r (go_on (until_in p count))) h),
          subst (λ (r : Read (List A)). NotDeep r) (sym (ap (λ r. after r (go_on (until_in t count))) (same ∙ h))) tt,
        )
    agrees_item ts count i same nd (Ok (Some x, mid)) h l = go (i x mid h)
      where
        go : ((until_in t count mid ≡ until_in p count mid) × NotDeep (until_in t count mid)) ⊎ Deeper (g.Until R) s (until_in t count mid) mid →
            ((after (t ts) (go_on (until_in t count)) ≡ after (p ts) (go_on (until_in p count))) × NotDeep (after (t ts) (go_on (until_in t count)))) ⊎ Deeper (g.Until R) s (after (t ts) (go_on (until_in t count))) ts
        go (inl k) = inl (
          ap (λ r. after r (go_on (until_in t count))) (same ∙ h) ∙ ap (λ r. after r (λ others. q.give (x ∷ others))) k.0 ∙ sym (ap (λ r. after r (go_on (until_in p count))) h),
          subst (λ (r : Read (List A)). NotDeep r) (sym (ap (λ r. after r (go_on (until_in t count))) (same ∙ h))) (plain_after (λ others. q.give (x ∷ others)) (until_in t count mid) k.1 (λ others us. tt)),
        )
        go (inr d) = inr (deeper_others ts mid x count l.0 (same ∙ h) l.1 l.2 d)

    agrees_turn : (ts : List Leaf) (count : ℕ) → ((x : A) (mid : List Leaf) → p ts ≡ Ok (Some x, mid) → ((until_in t count mid ≡ until_in p count mid) × NotDeep (until_in t count mid)) ⊎ Deeper (g.Until R) s (until_in t count mid) mid) →
        ((t ts ≡ p ts) × NotDeep (t ts)) ⊎ Deeper R s (t ts) ts → ((after (t ts) (go_on (until_in t count)) ≡ after (p ts) (go_on (until_in p count))) × NotDeep (after (t ts) (go_on (until_in t count)))) ⊎ Deeper (g.Until R) s (after (t ts) (go_on (until_in t count))) ts
    agrees_turn ts count i (inl same) = agrees_item ts count i same.0 same.1 (p ts) refl (one.local ts)
    agrees_turn ts count i (inr d) = inr (deeper_item ts count d)

    agrees_in : (count : ℕ) (ts : List Leaf) → ((until_in t count ts ≡ until_in p count ts) × NotDeep (until_in t count ts)) ⊎ Deeper (g.Until R) s (until_in t count ts) ts
    unfolding until_in
    agrees_in zero ts = inl (refl, refl)
    agrees_in (suc count) ts = agrees_turn ts count (λ x mid h. agrees_in count mid) (a.agree ts)

    pub until_agrees : Agrees (g.Until R) s (until t) (until p)
    until_agrees = record { agree = λ ts. agrees_in (suc (length ts)) ts }

-- [ R ], decided by the kinds with which R begins
pub maybe_exact : {A : Type 0} {R : Phrase A} {p : Parser A} {f gs s : List TokenKind} (kinds goes stops : List TokenKind) → Exact R p false f gs s → within f kinds ≡ true →
    within gs goes ≡ true → within s stops ≡ true → within kinds goes ≡ true → within kinds stops ≡ true → within gs gs ≡ true → within s s ≡ true →
    Exact (g.Maybe R) (q.maybe kinds p) true (f ++ []) goes stops
maybe_exact {gs = gs} {s = s} kinds goes stops one w a b c d v u =
    choose_exact kinds goes stops (bind_exact one (λ x. give_exact (Some x) gs s) v u) (give_exact None [] []) w refl a refl b refl (λ h. (c, d))

maybe_takes : {A : Type 0} {R : Phrase A} {p : Parser A} {f gs s : List TokenKind} (kinds : List TokenKind) → Exact R p false f gs s → within f kinds ≡ true →
    (ts : List Leaf) (a : A) (rest : List Leaf) → g.Maybe R ts (Some a) rest → heads gs rest ≡ false → q.maybe kinds p ts ≡ Ok (Some a, rest)
maybe_takes {A} {p = p} {f} {gs} kinds one w ts a rest (inl h) quiet =
    let here : heads kinds ts ≡ true = heads_within f kinds ts w (first_taken one ts h.0 h.1 h.2) in
    let read : p ts ≡ Ok (h.0, h.1) = one.takes ts h.0 h.1 h.2 (ap (heads gs) h.3.1 ∙ quiet) in
    let found : ◌≡◌ {A = Read (Option A)} (Ok (Some h.0, h.1)) (Ok (Some a, rest)) = rw (h.3.0, h.3.1) refl in
    ap (λ t. cond t (after (p ts) (λ x. q.give (Some x))) (q.give None ts)) here ∙ ap (λ r. after r (λ x. q.give (Some x))) read ∙ found
maybe_takes kinds one w ts a rest (inr h) quiet = absurd cc

maybe_eats : {A : Type 0} {R : Phrase A} {p : Parser A} {f gs s : List TokenKind} → Exact R p false f gs s → (a : A) → g.Maybe R [] (Some a) [] → ⊥
maybe_eats one a (inl h) = let e = first_taken one [] h.0 h.1 h.2 in cc
maybe_eats one a (inr h) = let e = h.0 in cc

-- { R }, decided by the kinds with which R begins
pub each_exact : {A : Type 0} {R : Phrase A} {p : Parser A} {f gs s : List TokenKind} (kinds goes stops : List TokenKind) → Exact R p false f gs s → within f kinds ≡ true →
    within gs goes ≡ true → within s stops ≡ true → within kinds goes ≡ true → within kinds stops ≡ true → within gs gs ≡ true → within s s ≡ true → within stops stops ≡ true → apart (f ++ []) gs ≡ true →
    Exact (g.Each R) (until (q.maybe kinds p)) true (f ++ []) goes stops
each_exact {gs = gs} kinds goes stops one w a b c d v u x y =
    until_exact (maybe_exact kinds goes stops one w a b c d v u) (maybe_eats one) gs (maybe_takes kinds one w) x x (λ rest quiet. inr (refl, refl)) y a

-- what was read came through both
pub through : {A B : Type 0} (f : A → Parser B) (b : B) (rest : List Leaf) (r : Read A) → after r f ≡ Ok (b, rest) → (a : A) × (mid : List Leaf) × (r ≡ Ok (a, mid)) × (f a mid ≡ Ok (b, rest))
through f b rest (Ok x) h = (x.0, x.1, refl, h)
through f b rest (Err x) h = not_given x (b, rest) h

-- where a list of optional parts ends
none_at : {A : Type 0} (kinds : List TokenKind) (p : Parser A) (ts rest : List Leaf) → (b : Bool) → heads kinds ts ≡ b → cond b (after (p ts) (λ a. q.give (Some a))) (q.give None ts) ≡ Ok (None, rest) →
    (ts ≡ rest) × (heads kinds ts ≡ false)
none_at {A} kinds p ts rest false e h = (given_rest {A = Option A} None None ts rest h, e)
none_at {A} kinds p ts rest true e h =
    let t = through (λ a. q.give (Some a)) None rest (p ts) h in
    let k : ◌≡◌ {A = Option A} (Some t.0) None = given_tree (Some t.0) None t.1 rest t.3 in
    absurd cc

some_at : {A : Type 0} (kinds : List TokenKind) (p : Parser A) (ts : List Leaf) (a : A) (rest : List Leaf) → (b : Bool) → cond b (after (p ts) (λ a. q.give (Some a))) (q.give None ts) ≡ Ok (Some a, rest) →
    p ts ≡ Ok (a, rest)
some_at {A} kinds p ts a rest false h = let k : ◌≡◌ {A = Option A} None (Some a) = given_tree None (Some a) ts rest h in absurd cc
some_at {A} kinds p ts a rest true h =
    let t = through (λ a. q.give (Some a)) (Some a) rest (p ts) h in
    let k : ◌≡◌ {A = Option A} (Some t.0) (Some a) = given_tree (Some t.0) (Some a) t.1 rest t.3 in
    let m : t.1 ≡ rest = given_rest (Some t.0) (Some a) t.1 rest t.3 in
    let same : t.0 ≡ a = cc in
    t.2 ∙ rw (same, m) refl

-- what holds behind all that the reader reads
abbrev pub LeavesAlways : {A : Type 0} → Parser A → (List Leaf → Type 0) → Type 0
LeavesAlways {A} p Q = (ts : List Leaf) (a : A) (rest : List Leaf) → p ts ≡ Ok (a, rest) → Q rest

each_step : {A : Type 0} (kinds : List TokenKind) (p : Parser A) (Q : List Leaf → Type 0) (ts : List Leaf) (l : List A) (rest : List Leaf) (count : ℕ) → Q ts → LeavesAlways p Q →
    ((us : List Leaf) (m : List A) → Q us → until_in (q.maybe kinds p) count us ≡ Ok (m, rest) → (heads kinds rest ≡ false) × Q rest) →
    (o : Option A) (mid : List Leaf) → q.maybe kinds p ts ≡ Ok (o, mid) → go_on (until_in (q.maybe kinds p) count) o mid ≡ Ok (l, rest) → (heads kinds rest ≡ false) × Q rest
each_step kinds p Q ts l rest count here ends i None mid h k =
    let n = none_at kinds p ts mid (heads kinds ts) refl h in
    let m : mid ≡ rest = given_rest [] l mid rest k in
    (ap (heads kinds) (sym m ∙ sym n.0) ∙ n.1, subst Q (n.0 ∙ m) here)
each_step kinds p Q ts l rest count here ends i (Some a) mid h k =
    let t = through (λ others. q.give (a ∷ others)) l rest (until_in (q.maybe kinds p) count mid) k in
    let m : t.1 ≡ rest = given_rest (a ∷ t.0) l t.1 rest t.3 in
    i mid t.0 (ends ts a mid (some_at kinds p ts a mid (heads kinds ts) h)) (t.2 ∙ ap (λ us. Ok (t.0, us)) m)

pub each_ends : {A : Type 0} (kinds : List TokenKind) (p : Parser A) (Q : List Leaf → Type 0) (count : ℕ) (ts : List Leaf) (l : List A) (rest : List Leaf) → Q ts → LeavesAlways p Q →
    until_in (q.maybe kinds p) count ts ≡ Ok (l, rest) → (heads kinds rest ≡ false) × Q rest
unfolding until_in
each_ends kinds p Q zero ts l rest here ends h = not_given _ (l, rest) h
each_ends kinds p Q (suc count) ts l rest here ends h =
    let t = through (go_on (until_in (q.maybe kinds p) count)) l rest (q.maybe kinds p ts) h in
    each_step kinds p Q ts l rest count here ends (λ us m now k. each_ends kinds p Q count us m rest now ends k) t.0 t.1 t.2 t.3

pub maybe_agrees : {A : Type 0} {R : Phrase A} {p t : Parser A} {f gs s : List TokenKind} (kinds stops : List TokenKind) → Exact R t false f gs s → within s stops ≡ true → within s s ≡ true → Agrees R s p t →
    Agrees (g.Maybe R) stops (q.maybe kinds p) (q.maybe kinds t)
maybe_agrees {s = s} kinds stops one w v a =
    choose_agrees kinds stops {s2 = []} w refl (bind_agrees {g2 = []} one (λ x. give_exact (Some x) [] s) v a (λ x. same_agrees (λ ts. tt))) (same_agrees (λ ts. tt))

pub each_agrees : {A : Type 0} {R : Phrase A} {p t : Parser A} {f gs s : List TokenKind} (kinds goes stops : List TokenKind) → Exact R t false f gs s → within f kinds ≡ true →
    within gs goes ≡ true → within s stops ≡ true → within kinds goes ≡ true → within kinds stops ≡ true → within gs gs ≡ true → within s s ≡ true → within stops stops ≡ true → apart (f ++ []) gs ≡ true →
    Agrees R s p t → Agrees (g.Each R) stops (until (q.maybe kinds p)) (until (q.maybe kinds t))
each_agrees {p = p} {gs = gs} kinds goes stops one w a b c d v u x y same =
    until_agrees (maybe_exact kinds goes stops one w a b c d v u) (maybe_eats one) gs (maybe_takes kinds one w) (q.maybe kinds p) (maybe_agrees kinds stops one b u same) (λ rest quiet. inr (refl, refl)) x x
