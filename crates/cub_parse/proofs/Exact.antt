-- What a reader is worth: it reads the phrases of its relation, and where it stops, it stops whatever follows.
use Rattle.std.proofs.Common.{◌≡◌, ℕ, zero, suc, ◌+◌, ◌<◌, ◌≤◌, ◌⊎◌, Bool, true, false, not, ◌&&◌, ◌||◌, cond, List, [], ◌∷◌, ◌++◌, length, Option, Some, None, Result, Ok, Err, refl, ap, ◌∙◌, sym, subst, inl, inr, arith, append_assoc, append-nil, rules, length-append}
use Rattle.std.proofs.lemmas.Bool.{and_parts, or_cases, or_parts, cases_Bool}
use Rattle.std.specs.List.{list_any, list_all}
use denote.Enum.Bare.{sameb, same_true}
use Rattle.cub_lexer.specs.declared.token.TokenKind.{TokenKind}
use Rattle.cub_lexer.specs.contracts.token.TokenKind.{the_type}
use Rattle.cub_parse.specs.declared.fault.ParseKind.{ParseKind}
use Rattle.cub_parse.specs.declared.fault.ParseKind.TheVariants.{P1, P2}
use Rattle.cub_parse.specs.declared.tree.Leaf.{Leaf}
use Rattle.cub_parse.specs.Phrase as g
use Rattle.cub_parse.specs.Phrase.{Phrase, is_in, heads}
use Rattle.cub_parse.specs.Parsing as q
use Rattle.cub_parse.specs.Parsing.{Read, Parser, after}

-- sets of kinds, as lists
abbrev pub within : List TokenKind → List TokenKind → Bool
within [] ys = true
within (x ∷ xs) ys = is_in x ys && within xs ys

abbrev pub apart : List TokenKind → List TokenKind → Bool
apart [] ys = true
apart (x ∷ xs) ys = not (is_in x ys) && apart xs ys

false_not_true : {A : Type 0} (b : Bool) → b ≡ false → b ≡ true → A
false_not_true true e f = absurd cc
false_not_true false e f = absurd cc

pub same : (k j : TokenKind) → sameb the_type k j ≡ true → k ≡ j
same k j e = same_true the_type (search rules) _ _ e

in_within : (k : TokenKind) (xs ys : List TokenKind) → within xs ys ≡ true → is_in k xs ≡ true → is_in k ys ≡ true
in_within k [] ys w h = absurd cc
in_within k (x ∷ xs) ys w h = go (or_cases (sameb the_type k x) (is_in k xs) h) (in_within k xs ys (and_parts (is_in x ys) (within xs ys) w).1)
  where
    go : (sameb the_type k x ≡ true) ⊎ (is_in k xs ≡ true) → (is_in k xs ≡ true → is_in k ys ≡ true) → is_in k ys ≡ true
    go (inl e) f = subst (λ (j : TokenKind). is_in j ys ≡ true) (sym (same k x e)) (and_parts (is_in x ys) (within xs ys) w).0
    go (inr e) f = f e

not_in : (b : Bool) → not b ≡ true → b ≡ false
not_in true e = absurd cc
not_in false e = refl

in_apart : (k : TokenKind) (xs ys : List TokenKind) → apart xs ys ≡ true → is_in k xs ≡ true → is_in k ys ≡ false
in_apart k [] ys w h = absurd cc
in_apart k (x ∷ xs) ys w h = go (or_cases (sameb the_type k x) (is_in k xs) h) (in_apart k xs ys (and_parts (not (is_in x ys)) (apart xs ys) w).1)
  where
    go : (sameb the_type k x ≡ true) ⊎ (is_in k xs ≡ true) → (is_in k xs ≡ true → is_in k ys ≡ false) → is_in k ys ≡ false
    go (inl e) f = subst (λ (j : TokenKind). is_in j ys ≡ false) (sym (same k x e)) (not_in (is_in x ys) (and_parts (not (is_in x ys)) (apart xs ys) w).0)
    go (inr e) f = f e

pub heads_within : (xs ys : List TokenKind) (ts : List Leaf) → within xs ys ≡ true → heads xs ts ≡ true → heads ys ts ≡ true
heads_within xs ys [] w h = absurd cc
heads_within xs ys (x ∷ ts) w h = in_within x.token.kind xs ys w h

pub heads_apart : (xs ys : List TokenKind) (ts : List Leaf) → apart xs ys ≡ true → heads xs ts ≡ true → heads ys ts ≡ false
heads_apart xs ys [] w h = absurd cc
heads_apart xs ys (x ∷ ts) w h = in_apart x.token.kind xs ys w h

pub quiet_within : (xs ys : List TokenKind) (ts : List Leaf) → within xs ys ≡ true → heads ys ts ≡ false → heads xs ts ≡ false
quiet_within xs ys ts w h = go (cases_Bool (heads xs ts))
  where
    go : (heads xs ts ≡ true) ⊎ (heads xs ts ≡ false) → heads xs ts ≡ false
    go (inl e) = false_not_true (heads ys ts) h (heads_within xs ys ts w e)
    go (inr e) = e

-- the next token
abbrev pub next : List Leaf → Option Leaf
next [] = None
next (x ∷ ts) = Some x

heads_next : (xs : List TokenKind) (ts us : List Leaf) → next ts ≡ next us → heads xs ts ≡ heads xs us
heads_next xs [] [] e = refl
heads_next xs [] (y ∷ us) e = absurd cc
heads_next xs (x ∷ ts) [] e = absurd cc
heads_next xs (x ∷ ts) (y ∷ us) e = let f : x ≡ y = cc in ap (λ (z : Leaf). is_in z.token.kind xs) f

pub next_append : (front ts us : List Leaf) → next ts ≡ next us → next (front ++ ts) ≡ next (front ++ us)
next_append [] ts us e = e
next_append (x ∷ front) ts us e = refl

pub heads_append : (xs : List TokenKind) (front ts us : List Leaf) → next ts ≡ next us → heads xs (front ++ ts) ≡ heads xs (front ++ us)
heads_append xs front ts us e = heads_next xs (front ++ ts) (front ++ us) (next_append front ts us e)

-- these tokens begin a phrase, whatever quiet tokens are left behind it
abbrev pub Begins : {A : Type 0} → Phrase A → List TokenKind → List Leaf → Type 0
Begins {A} R stops front = (more : List Leaf) × (a : A) × ((rest : List Leaf) → heads stops rest ≡ false → R (front ++ (more ++ rest)) a rest)

-- there is a phrase with this tree: an empty one, or one that begins with a token of these kinds
abbrev pub LivesAt : {A : Type 0} → Bool → List TokenKind → List TokenKind → Phrase A → A → Type 0
LivesAt true first stops R a = (rest : List Leaf) → heads stops rest ≡ false → R rest a rest
LivesAt false first stops R a = (x : Leaf) × (w : List Leaf) × (is_in x.token.kind first ≡ true) × ((rest : List Leaf) → heads stops rest ≡ false → R (x ∷ (w ++ rest)) a rest)

-- the tokens left are followed by the same token, or by one that no phrase goes on with
abbrev pub Alike : List TokenKind → List Leaf → List Leaf → Type 0
Alike stops rest more = (next rest ≡ next more) ⊎ (heads stops more ≡ false)

-- what was read does not depend on what follows the next token
abbrev pub Local : {A : Type 0} → Phrase A → Parser A → List TokenKind → List Leaf → Read A → Type 0
Local R p stops ts (Ok x) = (used : List Leaf) × (ts ≡ used ++ x.1) × ((more : List Leaf) → Alike stops x.1 more → p (used ++ more) ≡ Ok (x.0, more))
Local R p stops ts (Err e) =
    (front : List Leaf) × (rest : List Leaf) × (ts ≡ front ++ rest) × (e.1 ≡ length rest) × Begins R stops front
    × ((more : List Leaf) → next rest ≡ next more → p (front ++ more) ≡ Err (e.0, length more))

-- p reads the phrases R: empty ones are there or not, others begin with `first`; a phrase may go on with `goes`
pub record Exact {A : Type 0} (R : Phrase A) (p : Parser A) (empty : Bool) (first goes stops : List TokenKind) : Type 0 where
  pub sound : (ts : List Leaf) (a : A) (rest : List Leaf) → p ts ≡ Ok (a, rest) → R ts a rest
  pub takes : (ts : List Leaf) (a : A) (rest : List Leaf) → R ts a rest → heads goes rest ≡ false → p ts ≡ Ok (a, rest)
  pub starts : (ts : List Leaf) (a : A) (rest : List Leaf) → R ts a rest → (heads first ts ≡ true) ⊎ ((empty ≡ true) × (ts ≡ rest))
  pub lives : (a : A) × LivesAt empty first stops R a
  pub local : (ts : List Leaf) → Local R p stops ts (p ts)

given : {A : Type 0} (x y : A × List Leaf) → ◌≡◌ {A = Read A} (Ok x) (Ok y) → x ≡ y
given x y e = cc

pub given_tree : {A : Type 0} (a b : A) (ts us : List Leaf) → ◌≡◌ {A = Read A} (Ok (a, ts)) (Ok (b, us)) → a ≡ b
given_tree a b ts us e = ap (λ v. v.0) (given (a, ts) (b, us) e)

pub given_rest : {A : Type 0} (a b : A) (ts us : List Leaf) → ◌≡◌ {A = Read A} (Ok (a, ts)) (Ok (b, us)) → ts ≡ us
given_rest a b ts us e = ap (λ v. v.1) (given (a, ts) (b, us) e)

pub not_given : {A : Type 0} {B : Type 0} (f : ParseKind × ℕ) (x : A × List Leaf) → ◌≡◌ {A = Read A} (Err f) (Ok x) → B
not_given f x e = absurd cc

-- nothing, with a tree
pub give_exact : {A : Type 0} (a : A) (goes stops : List TokenKind) → Exact (g.Is a) (q.give a) true [] goes stops
give_exact a goes stops = record {
  sound = λ ts b rest e. (sym (given_tree a b ts rest e), given_rest a b ts rest e);
  takes = λ ts b rest h quiet. rw (h.0, h.1) refl;
  starts = λ ts b rest h. inr (refl, h.1);
  lives = (a, λ rest quiet. (refl, refl));
  local = λ ts. ([], refl, λ more h. refl);
}

-- one token
one_local : (kinds : List TokenKind) (x : Leaf) (ts : List Leaf) (b : Bool) → is_in x.token.kind kinds ≡ b → Begins (g.OneOf kinds) [] [] →
    Local (g.OneOf kinds) (q.one_of kinds) [] (x ∷ ts) (cond b (Ok (x, ts)) (Err (P1, suc (length ts))))
unfolding q.one_of
one_local kinds x ts true e begins = (x ∷ [], refl, λ more h. rw e refl)
one_local kinds x ts false e begins = ([], x ∷ ts, refl, refl, begins, stop)
  where
    stop : (more : List Leaf) → next (x ∷ ts) ≡ next more → q.one_of kinds more ≡ Err (P1, length more)
    stop [] h = absurd cc
    stop (y ∷ more) h =
        let f : x ≡ y = cc in
        let k : is_in y.token.kind kinds ≡ false = subst (λ (z : Leaf). is_in z.token.kind kinds ≡ false) f e in
        rw k refl

one_sound : (kinds : List TokenKind) (x : Leaf) (ts : List Leaf) (a : Leaf) (rest : List Leaf) (b : Bool) → is_in x.token.kind kinds ≡ b →
    cond {A = Read Leaf} b (Ok (x, ts)) (Err (P1, suc (length ts))) ≡ Ok (a, rest) → g.OneOf kinds (x ∷ ts) a rest
one_sound kinds x ts a rest true e h =
    let same_leaf : x ≡ a = given_tree x a ts rest h in
    let same_rest : ts ≡ rest = given_rest x a ts rest h in
    (rw (same_leaf, same_rest) refl, subst (λ (z : Leaf). is_in z.token.kind kinds ≡ true) same_leaf e)
one_sound kinds x ts a rest false e h = not_given (P1, suc (length ts)) (a, rest) h

pub one_exact : (kinds : List TokenKind) (kind : TokenKind) → is_in kind kinds ≡ true → Exact (g.OneOf kinds) (q.one_of kinds) false kinds [] []
unfolding q.one_of
one_exact kinds kind e = record { sound = sound; takes = takes; starts = λ ts a rest h. inl (rw (h.0) (h.1)); lives = (leaf, (leaf, [], e, λ rest quiet. (refl, e))); local = local }
  where
    leaf : Leaf
    leaf = record { number = 0; token = record { kind = kind; at = 0; len = 0 } }

    sound : (ts : List Leaf) (a : Leaf) (rest : List Leaf) → q.one_of kinds ts ≡ Ok (a, rest) → g.OneOf kinds ts a rest
    sound [] a rest h = absurd cc
    sound (x ∷ ts) a rest h = one_sound kinds x ts a rest (is_in x.token.kind kinds) refl h

    takes : (ts : List Leaf) (a : Leaf) (rest : List Leaf) → g.OneOf kinds ts a rest → heads [] rest ≡ false → q.one_of kinds ts ≡ Ok (a, rest)
    takes ts a rest h quiet = rw (h.0, h.1) refl

    stop : (more : List Leaf) → next [] ≡ next more → q.one_of kinds more ≡ Err (P1, length more)
    stop [] h = refl
    stop (y ∷ more) h = absurd cc

    begins : Begins (g.OneOf kinds) [] []
    begins = (leaf ∷ [], leaf, λ rest quiet. (refl, e))

    local : (ts : List Leaf) → Local (g.OneOf kinds) (q.one_of kinds) [] ts (q.one_of kinds ts)
    local [] = ([], [], refl, refl, begins, stop)
    local (x ∷ ts) = one_local kinds x ts (is_in x.token.kind kinds) refl begins

-- what may stand behind: a second phrase begins with no token with which the first goes on
abbrev pub follows : Bool → List TokenKind → List TokenKind → List TokenKind → Bool
follows empty first goes before = apart first before && (not empty || within before goes)

abbrev pub closes : Bool → List TokenKind → List TokenKind → List TokenKind → Bool
closes empty first stops before = cond empty (within before stops) (apart first before)

abbrev pub firsts : Bool → List TokenKind → List TokenKind → List TokenKind
firsts empty first second = cond empty (first ++ second) first

is_in_left : (k : TokenKind) (xs ys : List TokenKind) → is_in k xs ≡ true → is_in k (xs ++ ys) ≡ true
is_in_left k [] ys h = absurd cc
is_in_left k (x ∷ xs) ys h = go (cases_Bool (sameb the_type k x)) (λ f. is_in_left k xs ys f)
  where
    go : (sameb the_type k x ≡ true) ⊎ (sameb the_type k x ≡ false) → (is_in k xs ≡ true → is_in k (xs ++ ys) ≡ true) → (sameb the_type k x || is_in k (xs ++ ys)) ≡ true
    go (inl e) f = rw e refl
    go (inr e) f = rw e (f (rw e at h))

is_in_right : (k : TokenKind) (xs ys : List TokenKind) → is_in k ys ≡ true → is_in k (xs ++ ys) ≡ true
is_in_right k [] ys h = h
is_in_right k (x ∷ xs) ys h = go (sameb the_type k x) (is_in_right k xs ys h)
  where
    go : (b : Bool) → is_in k (xs ++ ys) ≡ true → (b || is_in k (xs ++ ys)) ≡ true
    go true f = refl
    go false f = f

heads_left : (xs ys : List TokenKind) (ts : List Leaf) → heads xs ts ≡ true → heads (xs ++ ys) ts ≡ true
heads_left xs ys [] h = absurd cc
heads_left xs ys (x ∷ ts) h = is_in_left x.token.kind xs ys h

heads_right : (xs ys : List TokenKind) (ts : List Leaf) → heads ys ts ≡ true → heads (xs ++ ys) ts ≡ true
heads_right xs ys [] h = absurd cc
heads_right xs ys (x ∷ ts) h = is_in_right x.token.kind xs ys h

quiet_mid : (empty : Bool) (first goes before : List TokenKind) (mid rest : List Leaf) → follows empty first goes before ≡ true →
    (heads first mid ≡ true) ⊎ ((empty ≡ true) × (mid ≡ rest)) → heads goes rest ≡ false → heads before mid ≡ false
quiet_mid empty first goes before mid rest c (inl h) quiet = heads_apart first before mid (and_parts (apart first before) (not empty || within before goes) c).0 h
quiet_mid true first goes before mid rest c (inr h) quiet =
    subst (λ (ts : List Leaf). heads before ts ≡ false) (sym h.1) (quiet_within before goes rest (and_parts (apart first before) (within before goes) c).1 quiet)
quiet_mid false first goes before mid rest c (inr h) quiet = absurd cc

-- one phrase and then another
bind_sound : {A B : Type 0} (R : Phrase A) (S : A → Phrase B) (p : Parser A) (f : A → Parser B) (ts : List Leaf) (b : B) (rest : List Leaf) →
    ((a : A) (mid : List Leaf) → p ts ≡ Ok (a, mid) → R ts a mid) → ((a : A) (mid : List Leaf) → f a mid ≡ Ok (b, rest) → S a mid b rest) →
    (r : Read A) → p ts ≡ r → after r f ≡ Ok (b, rest) → g.◌>>=◌ R S ts b rest
bind_sound R S p f ts b rest one two (Ok x) e h = (x.0, x.1, one x.0 x.1 e, two x.0 x.1 h)
bind_sound R S p f ts b rest one two (Err x) e h = not_given x (b, rest) h

bind_starts : {A B : Type 0} (R : Phrase A) (S : A → Phrase B) (e1 e2 : Bool) (f1 f2 : List TokenKind) (ts : List Leaf) (b : B) (rest : List Leaf) (a : A) (mid : List Leaf) →
    (heads f1 ts ≡ true) ⊎ ((e1 ≡ true) × (ts ≡ mid)) → (heads f2 mid ≡ true) ⊎ ((e2 ≡ true) × (mid ≡ rest)) →
    (heads (firsts e1 f1 f2) ts ≡ true) ⊎ (((e1 && e2) ≡ true) × (ts ≡ rest))
bind_starts R S true e2 f1 f2 ts b rest a mid (inl h) k = inl (heads_left f1 f2 ts h)
bind_starts R S false e2 f1 f2 ts b rest a mid (inl h) k = inl h
bind_starts R S true e2 f1 f2 ts b rest a mid (inr h) (inl k) = inl (heads_right f1 f2 ts (subst (λ (us : List Leaf). heads f2 us ≡ true) (sym h.1) k))
bind_starts R S true e2 f1 f2 ts b rest a mid (inr h) (inr k) = inr (k.0, h.1 ∙ k.1)
bind_starts R S false e2 f1 f2 ts b rest a mid (inr h) k = absurd cc

bind_lives : {A B : Type 0} (R : Phrase A) (S : A → Phrase B) (e1 e2 : Bool) (f1 f2 s1 s2 : List TokenKind) (a : A) (b : B) → closes e2 f2 s2 s1 ≡ true →
    LivesAt e1 f1 s1 R a → LivesAt e2 f2 s2 (S a) b → LivesAt (e1 && e2) (firsts e1 f1 f2) s2 (g.◌>>=◌ R S) b
bind_lives R S true true f1 f2 s1 s2 a b c one two = λ rest quiet. (a, rest, one rest (quiet_within s1 s2 rest c quiet), two rest quiet)
bind_lives R S true false f1 f2 s1 s2 a b c one two = (
  two.0,
  two.1,
  is_in_right two.0.token.kind f1 f2 two.2,
  λ rest quiet. (a, two.0 ∷ (two.1 ++ rest), one (two.0 ∷ (two.1 ++ rest)) (in_apart two.0.token.kind f2 s1 c two.2), two.3 rest quiet),
)
bind_lives R S false true f1 f2 s1 s2 a b c one two =
    (one.0, one.1, one.2, λ rest quiet. (a, rest, one.3 rest (quiet_within s1 s2 rest c quiet), two rest quiet))
bind_lives R S false false f1 f2 s1 s2 a b c one two = (
  one.0,
  one.1 ++ (two.0 ∷ two.1),
  one.2,
  λ rest quiet. (
    a,
    two.0 ∷ (two.1 ++ rest),
    subst (λ (us : List Leaf). R (one.0 ∷ us) a (two.0 ∷ (two.1 ++ rest))) (sym (append_assoc one.1 (two.0 ∷ two.1) rest))
        (one.3 (two.0 ∷ (two.1 ++ rest)) (in_apart two.0.token.kind f2 s1 c two.2)),
    two.3 rest quiet,
  ),
)

-- the front of a first phrase, with a second one behind it
pub begins_first : {A B : Type 0} (R : Phrase A) (S : A → Phrase B) (e2 : Bool) (f2 s1 s2 : List TokenKind) (front : List Leaf) → closes e2 f2 s2 s1 ≡ true →
    (one : Begins R s1 front) → (b : B) × LivesAt e2 f2 s2 (S one.1) b → Begins (g.◌>>=◌ R S) s2 front
begins_first R S true f2 s1 s2 front c one b =
    (one.0, b.0, λ rest quiet. (one.1, rest, one.2 rest (quiet_within s1 s2 rest c quiet), b.1 rest quiet))
begins_first R S false f2 s1 s2 front c one b = (
  one.0 ++ (b.1.0 ∷ b.1.1),
  b.0,
  λ rest quiet. (
    one.1,
    b.1.0 ∷ (b.1.1 ++ rest),
    subst (λ (us : List Leaf). R (front ++ us) one.1 (b.1.0 ∷ (b.1.1 ++ rest))) (sym (append_assoc one.0 (b.1.0 ∷ b.1.1) rest))
        (one.2 (b.1.0 ∷ (b.1.1 ++ rest)) (in_apart b.1.0.token.kind f2 s1 c b.1.2)),
    b.1.3 rest quiet,
  ),
)

-- a first phrase that was read, with the front of a second one behind it
begins_second : {A B : Type 0} (R : Phrase A) (S : A → Phrase B) (p : Parser A) (e2 : Bool) (f2 s1 s2 : List TokenKind) (a : A) (used mid front rest : List Leaf) → closes e2 f2 s2 s1 ≡ true →
    ((ts : List Leaf) (left : List Leaf) → p ts ≡ Ok (a, left) → R ts a left) → ((more : List Leaf) → Alike s1 mid more → p (used ++ more) ≡ Ok (a, more)) →
    mid ≡ front ++ rest → Begins (S a) s2 front → (b : B) × LivesAt e2 f2 s2 (S a) b → Begins (g.◌>>=◌ R S) s2 (used ++ front)
begins_second R S p true f2 s1 s2 a used mid [] rest c sound one e two live =
    ([], live.0, λ left quiet. (a, left, subst (λ (us : List Leaf). R (us ++ left) a left) (sym (append-nil used)) (sound (used ++ left) left (one left (inr (quiet_within s1 s2 left c quiet)))), live.1 left quiet))
begins_second R S p false f2 s1 s2 a used mid [] rest c sound one e two live =
    let x = live.1.0 in
    let w = live.1.1 in (
      x ∷ w,
      live.0,
      λ left quiet. (
        a,
        x ∷ (w ++ left),
        subst (λ (us : List Leaf). R (us ++ (x ∷ (w ++ left))) a (x ∷ (w ++ left))) (sym (append-nil used))
            (sound (used ++ (x ∷ (w ++ left))) (x ∷ (w ++ left)) (one (x ∷ (w ++ left)) (inr (in_apart x.token.kind f2 s1 c live.1.2)))),
        live.1.3 left quiet,
      ),
    )
begins_second R S p e2 f2 s1 s2 a used mid (x ∷ front) rest c sound one e two live = (
  two.0,
  two.1,
  λ left quiet.
      let us : List Leaf = x ∷ (front ++ (two.0 ++ left)) in
      (a, us, subst (λ (vs : List Leaf). R vs a us) (sym (append_assoc used (x ∷ front) (two.0 ++ left))) (sound (used ++ us) us (one us (inl (ap next e)))), two.2 left quiet),
)

-- a second phrase at the token behind a first one, where it stopped or not
alike_mid : (e2 : Bool) (f2 s1 s2 : List TokenKind) (mid used rest more : List Leaf) → closes e2 f2 s2 s1 ≡ true → mid ≡ used ++ rest → Alike s2 rest more →
    ((used ≡ []) → (heads f2 more ≡ true) ⊎ (e2 ≡ true)) → Alike s1 mid (used ++ more)
alike_mid e2 f2 s1 s2 mid (x ∷ used) rest more c e k h = inl (ap next e)
alike_mid e2 f2 s1 s2 mid [] rest more c e (inl k) h = inl (ap next e ∙ k)
alike_mid true f2 s1 s2 mid [] rest more c e (inr k) h = inr (quiet_within s1 s2 more c k)
alike_mid false f2 s1 s2 mid [] rest more c e (inr k) h = go (h refl)
  where
    go : (heads f2 more ≡ true) ⊎ (false ≡ true) → Alike s1 mid more
    go (inl i) = inr (heads_apart f2 s1 more c i)
    go (inr i) = absurd cc

bind_local_second : {A B : Type 0} (R : Phrase A) (S : A → Phrase B) (p : Parser A) (f : A → Parser B) (e2 : Bool) (f2 s1 s2 : List TokenKind) (ts : List Leaf) (a : A) (mid : List Leaf) →
    closes e2 f2 s2 s1 ≡ true → ((us left : List Leaf) → p us ≡ Ok (a, left) → R us a left) →
    ((us : List Leaf) (b : B) (left : List Leaf) → f a us ≡ Ok (b, left) → (heads f2 us ≡ true) ⊎ ((e2 ≡ true) × (us ≡ left))) → (b : B) × LivesAt e2 f2 s2 (S a) b →
    (used : List Leaf) → ts ≡ used ++ mid → ((more : List Leaf) → Alike s1 mid more → p (used ++ more) ≡ Ok (a, more)) →
    (r : Read B) → Local (S a) (f a) s2 mid r → Local (g.◌>>=◌ R S) (q.◌>>=◌ p f) s2 ts r
bind_local_second {A} {B} R S p f e2 f2 s1 s2 ts a mid c sound starts live used split loc (Ok y) two = (
  used ++ two.0,
  split ∙ ap (λ us. used ++ us) two.1 ∙ sym (append_assoc used two.0 y.1),
  λ more k.
      let first_token : (two.0 ≡ []) → (heads f2 more ≡ true) ⊎ (e2 ≡ true) = λ none.
      let read : f a more ≡ Ok (y.0, more) = ap (λ us. f a (us ++ more)) (sym none) ∙ two.2 more k in
      weaken (starts more y.0 more read) in
      let one : p (used ++ (two.0 ++ more)) ≡ Ok (a, two.0 ++ more) = loc (two.0 ++ more) (alike_mid e2 f2 s1 s2 mid two.0 y.1 more c two.1 k first_token) in
      ap (λ us. after (p us) f) (append_assoc used two.0 more) ∙ ap (λ r. after r f) one ∙ two.2 more k,
)
  where
    weaken : {us left : List Leaf} → (heads f2 us ≡ true) ⊎ ((e2 ≡ true) × (us ≡ left)) → (heads f2 us ≡ true) ⊎ (e2 ≡ true)
    weaken (inl h) = inl h
    weaken (inr h) = inr h.0
bind_local_second R S p f e2 f2 s1 s2 ts a mid c sound starts live used split loc (Err y) two = (
  used ++ two.0,
  two.1,
  split ∙ ap (λ us. used ++ us) two.2 ∙ sym (append_assoc used two.0 two.1),
  two.3,
  begins_second R S p e2 f2 s1 s2 a used mid two.0 two.1 c sound loc two.2 two.4 live,
  λ more k.
      let one : p (used ++ (two.0 ++ more)) ≡ Ok (a, two.0 ++ more) = loc (two.0 ++ more) (inl (ap next two.2 ∙ next_append two.0 two.1 more k)) in
      ap (λ us. after (p us) f) (append_assoc used two.0 more) ∙ ap (λ r. after r f) one ∙ two.5 more k,
)

-- at some tokens alone: what follows may differ from tree to tree
pub bind_local : {A B : Type 0} (R : Phrase A) (S : A → Phrase B) (p : Parser A) (f : A → Parser B) (e2 : A → Bool) (f2 s1 s2 : List TokenKind) (ts : List Leaf) →
    ((a : A) → closes (e2 a) f2 s2 s1 ≡ true) → ((us : List Leaf) (a : A) (left : List Leaf) → p us ≡ Ok (a, left) → R us a left) →
    ((a : A) (us : List Leaf) (b : B) (left : List Leaf) → f a us ≡ Ok (b, left) → (heads f2 us ≡ true) ⊎ ((e2 a ≡ true) × (us ≡ left))) →
    ((a : A) → (b : B) × LivesAt (e2 a) f2 s2 (S a) b) → (r : Read A) → p ts ≡ r → Local R p s1 ts r →
    ((a : A) (mid : List Leaf) → p ts ≡ Ok (a, mid) → Local (S a) (f a) s2 mid (f a mid)) → Local (g.◌>>=◌ R S) (q.◌>>=◌ p f) s2 ts (after r f)
bind_local R S p f e2 f2 s1 s2 ts c sound starts lives (Ok x) e one two =
    bind_local_second R S p f (e2 x.0) f2 s1 s2 ts x.0 x.1 (c x.0) (λ us left h. sound us x.0 left h) (starts x.0) (lives x.0) one.0 one.1 one.2 (f x.0 x.1) (two x.0 x.1 e)
bind_local R S p f e2 f2 s1 s2 ts c sound starts lives (Err x) e one two =
    (one.0, one.1, one.2, one.3, begins_first R S (e2 one.4.1) f2 s1 s2 one.0 (c one.4.1) one.4 (lives one.4.1), λ more k. ap (λ r. after r f) (one.5 more k))

pub bind_exact : {A B : Type 0} {R : Phrase A} {S : A → Phrase B} {p : Parser A} {f : A → Parser B} {e1 e2 : Bool} {f1 f2 g1 g2 s1 s2 : List TokenKind} →
    Exact R p e1 f1 g1 s1 → ((a : A) → Exact (S a) (f a) e2 f2 g2 s2) → follows e2 f2 g2 g1 ≡ true → closes e2 f2 s2 s1 ≡ true →
    Exact (g.◌>>=◌ R S) (q.◌>>=◌ p f) (e1 && e2) (firsts e1 f1 f2) g2 s2
bind_exact {A} {B} {R} {S} {p} {f} {e1} {e2} {f1} {f2} {g1} {g2} {s1} {s2} one two c d = record {
  sound = λ ts b rest h. bind_sound R S p f ts b rest (λ a mid e. one.sound ts a mid e) (λ a mid e. (two a).sound mid b rest e) (p ts) refl h;
  takes = λ ts b rest h quiet.
      ap (λ r. after r f) (one.takes ts h.0 h.1 h.2 (quiet_mid e2 f2 g2 g1 h.1 rest c ((two h.0).starts h.1 b rest h.3) quiet)) ∙ (two h.0).takes h.1 b rest h.3 quiet;
  starts = λ ts b rest h. bind_starts R S e1 e2 f1 f2 ts b rest h.0 h.1 (one.starts ts h.0 h.1 h.2) ((two h.0).starts h.1 b rest h.3);
  lives = (
    (two one.lives.0).lives.0,
    bind_lives R S e1 e2 f1 f2 s1 s2 one.lives.0 (two one.lives.0).lives.0 d one.lives.1 (two one.lives.0).lives.1,
  );
  local = λ ts. bind_local R S p f (λ a. e2) f2 s1 s2 ts (λ a. d) one.sound (λ a us b left h. (two a).starts us b left ((two a).sound us b left h)) (λ a. (two a).lives) (p ts) refl (one.local ts)
      (λ a mid e. (two a).local mid);
}

-- one phrase or another, by the next token
choose_sound : {A : Type 0} (R S : Phrase A) (p r : Parser A) (kinds : List TokenKind) (ts : List Leaf) (a : A) (rest : List Leaf) → (p ts ≡ Ok (a, rest) → R ts a rest) → (r ts ≡ Ok (a, rest) → S ts a rest) →
    (b : Bool) → cond b (p ts) (r ts) ≡ Ok (a, rest) → g.Either R S ts a rest
choose_sound R S p r kinds ts a rest one two true h = inl (one h)
choose_sound R S p r kinds ts a rest one two false h = inr (two h)

pub first_taken : {A : Type 0} {R : Phrase A} {p : Parser A} {f g' s : List TokenKind} → Exact R p false f g' s → (ts : List Leaf) (a : A) (rest : List Leaf) → R ts a rest → heads f ts ≡ true
first_taken {f = f} e ts a rest h = go (e.starts ts a rest h)
  where
    go : (heads f ts ≡ true) ⊎ ((false ≡ true) × (ts ≡ rest)) → heads f ts ≡ true
    go (inl i) = i
    go (inr i) = absurd cc

-- a reader that takes nothing at a token reads an empty phrase there
pub takes_some : {A : Type 0} {R : Phrase A} {p : Parser A} {f g' s : List TokenKind} {B : Type 0} → Exact R p false f g' s → (a : A) → p [] ≡ Ok (a, []) → B
takes_some {f = f} {B = B} e a h = go (e.starts [] a [] (e.sound [] a [] h))
  where
    go : (heads f [] ≡ true) ⊎ ((false ≡ true) × (◌≡◌ {A = List Leaf} [] [])) → B
    go (inl i) = absurd cc
    go (inr i) = absurd cc

pub alike_within : (s stops : List TokenKind) (rest more : List Leaf) → within s stops ≡ true → Alike stops rest more → Alike s rest more
alike_within s stops rest more w (inl k) = inl k
alike_within s stops rest more w (inr k) = inr (quiet_within s stops more w k)

choose_left : {A : Type 0} (R S : Phrase A) (p r : Parser A) (f1 g1 s1 kinds stops : List TokenKind) (ts : List Leaf) → Exact R p false f1 g1 s1 → within s1 stops ≡ true →
    heads kinds ts ≡ true → (res : Read A) → Local R p s1 ts res → Local (g.Either R S) (q.choose kinds p r) stops ts res
choose_left {A} R S p r f1 g1 s1 kinds stops ts e w h (Ok x) one =
    (one.0, one.1, λ more k. ap (λ b. cond b (p (one.0 ++ more)) (r (one.0 ++ more))) (here one.0 one.1 one.2 more k) ∙ one.2 more (alike_within s1 stops x.1 more w k))
  where
    here : (used : List Leaf) → ts ≡ used ++ x.1 → ((more : List Leaf) → Alike s1 x.1 more → p (used ++ more) ≡ Ok (x.0, more)) → (more : List Leaf) → Alike stops x.1 more → heads kinds (used ++ more) ≡ true
    here [] split loc more (inl k) = sym (heads_next kinds ts more (ap next split ∙ k)) ∙ h
    here [] split loc more (inr k) = takes_some e x.0 (loc [] (inr refl))
    here (y ∷ used) split loc more k = sym (ap (heads kinds) split) ∙ h
choose_left R S p r f1 g1 s1 kinds stops ts e w h (Err x) one = (
  one.0,
  one.1,
  one.2,
  one.3,
  (one.4.0, one.4.1, λ rest quiet. inl (one.4.2 rest (quiet_within s1 stops rest w quiet))),
  λ more k.
      ap (λ b. cond b (p (one.0 ++ more)) (r (one.0 ++ more))) (sym (ap (heads kinds) one.2 ∙ heads_append kinds one.0 one.1 more k) ∙ h) ∙ one.5 more k,
)

choose_right : {A : Type 0} (R S : Phrase A) (p r : Parser A) (e2 : Bool) (f2 g2 s2 kinds stops : List TokenKind) (ts : List Leaf) → Exact S r e2 f2 g2 s2 → within s2 stops ≡ true →
    (e2 ≡ true → within kinds stops ≡ true) → heads kinds ts ≡ false → (res : Read A) → Local S r s2 ts res → Local (g.Either R S) (q.choose kinds p r) stops ts res
choose_right {A} R S p r e2 f2 g2 s2 kinds stops ts e w v h (Ok x) one =
    (one.0, one.1, λ more k. ap (λ b. cond b (p (one.0 ++ more)) (r (one.0 ++ more))) (here e2 e v one.0 one.1 one.2 more k) ∙ one.2 more (alike_within s2 stops x.1 more w k))
  where
    here : (e2 : Bool) → Exact S r e2 f2 g2 s2 → (e2 ≡ true → within kinds stops ≡ true) → (used : List Leaf) → ts ≡ used ++ x.1 → ((more : List Leaf) → Alike s2 x.1 more → r (used ++ more) ≡ Ok (x.0, more)) →
        (more : List Leaf) → Alike stops x.1 more → heads kinds (used ++ more) ≡ false
    here e2 e v [] split loc more (inl k) = sym (heads_next kinds ts more (ap next split ∙ k)) ∙ h
    here true e v [] split loc more (inr k) = quiet_within kinds stops more (v refl) k
    here false e v [] split loc more (inr k) = takes_some e x.0 (loc [] (inr refl))
    here e2 e v (y ∷ used) split loc more k = sym (ap (heads kinds) split) ∙ h
choose_right R S p r e2 f2 g2 s2 kinds stops ts e w v h (Err x) one = (
  one.0,
  one.1,
  one.2,
  one.3,
  (one.4.0, one.4.1, λ rest quiet. inr (one.4.2 rest (quiet_within s2 stops rest w quiet))),
  λ more k.
      ap (λ b. cond b (p (one.0 ++ more)) (r (one.0 ++ more))) (sym (ap (heads kinds) one.2 ∙ heads_append kinds one.0 one.1 more k) ∙ h) ∙ one.5 more k,
)

choose_lives : {A : Type 0} (R S : Phrase A) (e2 : Bool) (f1 f2 s2 stops : List TokenKind) (a : A) → within s2 stops ≡ true → LivesAt e2 f2 s2 S a → LivesAt e2 (f1 ++ f2) stops (g.Either R S) a
choose_lives R S true f1 f2 s2 stops a w live = λ rest quiet. inr (live rest (quiet_within s2 stops rest w quiet))
choose_lives R S false f1 f2 s2 stops a w live = (live.0, live.1, is_in_right live.0.token.kind f1 f2 live.2, λ rest quiet. inr (live.3 rest (quiet_within s2 stops rest w quiet)))

pub choose_exact : {A : Type 0} {R S : Phrase A} {p r : Parser A} {e2 : Bool} {f1 f2 g1 g2 s1 s2 : List TokenKind} (kinds goes stops : List TokenKind) →
    Exact R p false f1 g1 s1 → Exact S r e2 f2 g2 s2 → within f1 kinds ≡ true → apart f2 kinds ≡ true → within g1 goes ≡ true → within g2 goes ≡ true →
    within s1 stops ≡ true → within s2 stops ≡ true → (e2 ≡ true → (within kinds goes ≡ true) × (within kinds stops ≡ true)) →
    Exact (g.Either R S) (q.choose kinds p r) e2 (f1 ++ f2) goes stops
choose_exact {A} {R} {S} {p} {r} {e2} {f1} {f2} {g1} {g2} {s1} {s2} kinds goes stops one two w a v1 v2 w1 w2 x = record {
  sound = λ ts b rest h. choose_sound R S p r kinds ts b rest (one.sound ts b rest) (two.sound ts b rest) (heads kinds ts) h;
  takes = takes;
  starts = starts;
  lives = (two.lives.0, choose_lives R S e2 f1 f2 s2 stops two.lives.0 w2 two.lives.1);
  local = λ ts. local ts (heads kinds ts) refl;
}
  where
    left : (ts : List Leaf) (b : A) (rest : List Leaf) → R ts b rest → heads kinds ts ≡ true
    left ts b rest h = heads_within f1 kinds ts w (first_taken one ts b rest h)

    right : (ts : List Leaf) (rest : List Leaf) → heads goes rest ≡ false → (heads f2 ts ≡ true) ⊎ ((e2 ≡ true) × (ts ≡ rest)) → heads kinds ts ≡ false
    right ts rest quiet (inl h) = heads_apart f2 kinds ts a h
    right ts rest quiet (inr h) = ap (heads kinds) h.1 ∙ quiet_within kinds goes rest (x h.0).0 quiet

    takes : (ts : List Leaf) (b : A) (rest : List Leaf) → g.Either R S ts b rest → heads goes rest ≡ false → q.choose kinds p r ts ≡ Ok (b, rest)
    takes ts b rest (inl h) quiet = ap (λ t. cond t (p ts) (r ts)) (left ts b rest h) ∙ one.takes ts b rest h (quiet_within g1 goes rest v1 quiet)
    takes ts b rest (inr h) quiet = ap (λ t. cond t (p ts) (r ts)) (right ts rest quiet (two.starts ts b rest h)) ∙ two.takes ts b rest h (quiet_within g2 goes rest v2 quiet)

    behind : (ts rest : List Leaf) → (heads f2 ts ≡ true) ⊎ ((e2 ≡ true) × (ts ≡ rest)) → (heads (f1 ++ f2) ts ≡ true) ⊎ ((e2 ≡ true) × (ts ≡ rest))
    behind ts rest (inl h) = inl (heads_right f1 f2 ts h)
    behind ts rest (inr h) = inr h

    starts : (ts : List Leaf) (b : A) (rest : List Leaf) → g.Either R S ts b rest → (heads (f1 ++ f2) ts ≡ true) ⊎ ((e2 ≡ true) × (ts ≡ rest))
    starts ts b rest (inl h) = inl (heads_left f1 f2 ts (first_taken one ts b rest h))
    starts ts b rest (inr h) = behind ts rest (two.starts ts b rest h)

    local : (ts : List Leaf) (t : Bool) → heads kinds ts ≡ t → Local (g.Either R S) (q.choose kinds p r) stops ts (cond t (p ts) (r ts))
    local ts true h = choose_left R S p r f1 g1 s1 kinds stops ts one w1 h (p ts) (one.local ts)
    local ts false h = choose_right R S p r e2 f2 g2 s2 kinds stops ts two w2 (λ e. (x e).1) h (r ts) (two.local ts)

-- the same with more kinds
begins_wider : {A : Type 0} (R : Phrase A) (s stops : List TokenKind) (front : List Leaf) → within s stops ≡ true → Begins R s front → Begins R stops front
begins_wider R s stops front w b = (b.0, b.1, λ rest quiet. b.2 rest (quiet_within s stops rest w quiet))

lives_wider : {A : Type 0} (R : Phrase A) (e : Bool) (f first s stops : List TokenKind) (a : A) → within f first ≡ true → within s stops ≡ true → LivesAt e f s R a → LivesAt e first stops R a
lives_wider R true f first s stops a v w live = λ rest quiet. live rest (quiet_within s stops rest w quiet)
lives_wider R false f first s stops a v w live = (live.0, live.1, in_within live.0.token.kind f first v live.2, λ rest quiet. live.3 rest (quiet_within s stops rest w quiet))

local_wider : {A : Type 0} (R : Phrase A) (p : Parser A) (s stops : List TokenKind) (ts : List Leaf) (r : Read A) → within s stops ≡ true → Local R p s ts r → Local R p stops ts r
local_wider R p s stops ts (Ok x) w l = (l.0, l.1, λ more k. l.2 more (alike_within s stops x.1 more w k))
local_wider R p s stops ts (Err x) w l = (l.0, l.1, l.2, l.3, begins_wider R s stops l.0 w l.4, l.5)

pub wider : {A : Type 0} {R : Phrase A} {p : Parser A} {e : Bool} {f gs s : List TokenKind} (first goes stops : List TokenKind) → Exact R p e f gs s → within f first ≡ true → within gs goes ≡ true → within s stops ≡ true →
    Exact R p e first goes stops
wider {A} {R} {p} {e} {f} {gs} {s} first goes stops one v w u = record {
  sound = one.sound;
  takes = λ ts a rest h quiet. one.takes ts a rest h (quiet_within gs goes rest w quiet);
  starts = λ ts a rest h. more ts rest (one.starts ts a rest h);
  lives = (one.lives.0, lives_wider R e f first s stops one.lives.0 v u one.lives.1);
  local = λ ts. local_wider R p s stops ts (p ts) u (one.local ts);
}
  where
    more : (ts rest : List Leaf) → (heads f ts ≡ true) ⊎ ((e ≡ true) × (ts ≡ rest)) → (heads first ts ≡ true) ⊎ ((e ≡ true) × (ts ≡ rest))
    more ts rest (inl h) = inl (heads_within f first ts v h)
    more ts rest (inr h) = inr h

-- as far as it can
or_quiet : (k : TokenKind) (xs ys : List TokenKind) → is_in k xs ≡ false → is_in k ys ≡ false → is_in k (xs ++ ys) ≡ false
or_quiet k [] ys h i = i
or_quiet k (x ∷ xs) ys h i = let parts = or_parts (sameb the_type k x) (is_in k xs) h in rw parts.0 (or_quiet k xs ys parts.1 i)

pub quiet_both : (xs ys : List TokenKind) (ts : List Leaf) → heads xs ts ≡ false → heads ys ts ≡ false → heads (xs ++ ys) ts ≡ false
quiet_both xs ys [] h i = refl
quiet_both xs ys (x ∷ ts) h i = or_quiet x.token.kind xs ys h i

before_lives : {A : Type 0} (R : Phrase A) (kinds : List TokenKind) (e : Bool) (f s : List TokenKind) (a : A) → within kinds s ≡ true → LivesAt e f s R a → LivesAt e f s (g.Before kinds R) a
before_lives R kinds true f s a w live = λ rest quiet. (live rest quiet, quiet_within kinds s rest w quiet)
before_lives R kinds false f s a w live = (live.0, live.1, live.2, λ rest quiet. (live.3 rest quiet, quiet_within kinds s rest w quiet))

before_local : {A : Type 0} (R : Phrase A) (kinds : List TokenKind) (p : Parser A) (s : List TokenKind) (ts : List Leaf) (r : Read A) → within kinds s ≡ true → Local R p s ts r → Local (g.Before kinds R) p s ts r
before_local R kinds p s ts (Ok x) w l = l
before_local R kinds p s ts (Err x) w l = (l.0, l.1, l.2, l.3, (l.4.0, l.4.1, λ rest quiet. (l.4.2 rest quiet, quiet_within kinds s rest w quiet)), l.5)

-- these kinds never follow what the reader reads
abbrev pub Ends : {A : Type 0} → Parser A → List TokenKind → Type 0
Ends {A} p kinds = (ts : List Leaf) (a : A) (rest : List Leaf) → p ts ≡ Ok (a, rest) → heads kinds rest ≡ false

pub before_exact : {A : Type 0} {R : Phrase A} {p : Parser A} {e : Bool} {f gs s : List TokenKind} (kinds goes : List TokenKind) → Exact R p e f gs s → Ends p kinds → within gs (kinds ++ goes) ≡ true →
    within kinds s ≡ true → Exact (g.Before kinds R) p e f goes s
before_exact {A} {R} {p} {e} {f} {gs} {s} kinds goes one ends w v = record {
  sound = λ ts a rest h. (one.sound ts a rest h, ends ts a rest h);
  takes = λ ts a rest h quiet. one.takes ts a rest h.0 (quiet_within gs (kinds ++ goes) rest w (quiet_both kinds goes rest h.1 quiet));
  starts = λ ts a rest h. one.starts ts a rest h.0;
  lives = (one.lives.0, before_lives R kinds e f s one.lives.0 v one.lives.1);
  local = λ ts. before_local R kinds p s ts (p ts) v (one.local ts);
}

-- a reader that stops at some kinds, with which no phrase begins
deep_local : {A : Type 0} {R : Phrase A} {p : Parser A} {f gs s : List TokenKind} (kinds : List TokenKind) (ts : List Leaf) → Exact R p false f gs s → heads kinds ts ≡ false → (r : Read A) → Local R p s ts r →
    Local R (q.choose kinds q.too_deep p) s ts r
deep_local {A} {R} {p} {f} {gs} {s} kinds ts one h (Ok x) l =
    (l.0, l.1, λ more k. ap (λ t. cond t (q.too_deep (l.0 ++ more)) (p (l.0 ++ more))) (here l.0 l.1 l.2 more k) ∙ l.2 more k)
  where
    here : (used : List Leaf) → ts ≡ used ++ x.1 → ((more : List Leaf) → Alike s x.1 more → p (used ++ more) ≡ Ok (x.0, more)) → (more : List Leaf) → Alike s x.1 more → heads kinds (used ++ more) ≡ false
    here [] split loc more (inl k) = sym (heads_next kinds ts more (ap next split ∙ k)) ∙ h
    here [] split loc more (inr k) = takes_some one x.0 (loc [] (inr refl))
    here (y ∷ used) split loc more k = sym (ap (heads kinds) split) ∙ h
deep_local {A} {R} {p} kinds ts one h (Err x) l = (
  l.0,
  l.1,
  l.2,
  l.3,
  l.4,
  λ more k.
      ap (λ t. cond t (q.too_deep (l.0 ++ more)) (p (l.0 ++ more))) (sym (ap (heads kinds) l.2 ∙ heads_append kinds l.0 l.1 more k) ∙ h) ∙ l.5 more k,
)

pub deep_exact : {A : Type 0} {R : Phrase A} {p : Parser A} {f gs s : List TokenKind} (kinds : List TokenKind) → Exact R p false f gs s → apart f kinds ≡ true → Exact R (q.choose kinds q.too_deep p) false f gs s
deep_exact {A} {R} {p} {f} {gs} {s} kinds one c = record {
  sound = λ ts a rest h. sound ts a rest (heads kinds ts) h;
  takes = λ ts a rest h quiet. ap (λ t. cond t (q.too_deep ts) (p ts)) (heads_apart f kinds ts c (first_taken one ts a rest h)) ∙ one.takes ts a rest h quiet;
  starts = one.starts;
  lives = one.lives;
  local = λ ts. local ts (heads kinds ts) refl;
}
  where
    sound : (ts : List Leaf) (a : A) (rest : List Leaf) (b : Bool) → cond b (q.too_deep ts) (p ts) ≡ Ok (a, rest) → R ts a rest
    sound ts a rest true h = not_given (P2, length ts) (a, rest) h
    sound ts a rest false h = one.sound ts a rest h

    begins : Begins R s []
    begins = let live = one.lives.1 in (live.0 ∷ live.1, one.lives.0, λ rest quiet. live.3 rest quiet)

    local : (ts : List Leaf) (b : Bool) → heads kinds ts ≡ b → Local R (q.choose kinds q.too_deep p) s ts (cond b (q.too_deep ts) (p ts))
    local ts true h = ([], ts, refl, refl, begins, λ more k. ap (λ t. cond t (q.too_deep more) (p more)) (sym (heads_next kinds ts more k) ∙ h))
    local ts false h = deep_local kinds ts one h (p ts) (one.local ts)

-- a reader stops at a token that opens a level too many; with that token the phrases S go on
abbrev pub Deeper : {A : Type 0} → Phrase A → List TokenKind → Read A → List Leaf → Type 0
Deeper S stops r ts = (front : List Leaf) × (x : Leaf) × (rest : List Leaf) × (ts ≡ front ++ (x ∷ rest)) × (r ≡ Err (P2, suc (length rest))) × Begins S stops (front ++ x ∷ [])

-- no fault of depth
abbrev pub NotDeep : {A : Type 0} → Read A → Type 0
NotDeep (Ok x) = Unit {0}
NotDeep (Err e) = e.0 ≡ P1

abbrev pub Plain : {A : Type 0} → Parser A → Type 0
Plain p = (ts : List Leaf) → NotDeep (p ts)

plain_case : (kinds : List TokenKind) (x : Leaf) (ts : List Leaf) (b : Bool) → NotDeep (cond {A = Read Leaf} b (Ok (x, ts)) (Err (P1, suc (length ts))))
plain_case kinds x ts true = tt
plain_case kinds x ts false = refl

pub plain_one : (kinds : List TokenKind) → Plain (q.one_of kinds)
unfolding q.one_of
plain_one kinds [] = refl
plain_one kinds (x ∷ ts) = plain_case kinds x ts (is_in x.token.kind kinds)

pub plain_after : {A B : Type 0} (f : A → Parser B) (r : Read A) → NotDeep r → ((a : A) → Plain (f a)) → NotDeep (after r f)
plain_after f (Ok x) h k = k x.0 x.1
plain_after f (Err x) h k = h

pub plain_bind : {A B : Type 0} (p : Parser A) (f : A → Parser B) → Plain p → ((a : A) → Plain (f a)) → Plain (q.◌>>=◌ p f)
plain_bind p f h k ts = plain_after f (p ts) (h ts) k

pub plain_choose : {A : Type 0} (kinds : List TokenKind) (p r : Parser A) → Plain p → Plain r → Plain (q.choose kinds p r)
plain_choose {A} kinds p r h k ts = go (heads kinds ts)
  where
    go : (b : Bool) → NotDeep (cond b (p ts) (r ts))
    go true = h ts
    go false = k ts

pub plain_maybe : {A : Type 0} (kinds : List TokenKind) (p : Parser A) → Plain p → Plain (q.maybe kinds p)
plain_maybe kinds p h = plain_choose kinds (q.◌>>=◌ p (λ a. q.give (Some a))) (q.give None) (plain_bind p (λ a. q.give (Some a)) h (λ a ts. tt)) (λ ts. tt)

plain_go : {A : Type 0} (p : Parser (List A)) → Plain p → (o : Option A) → Plain (q.go_on p o)
plain_go p h None ts = tt
plain_go p h (Some a) ts = plain_after (λ others. q.give (a ∷ others)) (p ts) (h ts) (λ others us. tt)

plain_until_in : {A : Type 0} (p : Parser (Option A)) (count : ℕ) → Plain p → Plain (q.until_in p count)
unfolding q.until_in
plain_until_in p zero h ts = refl
plain_until_in p (suc count) h ts = plain_after (q.go_on (q.until_in p count)) (p ts) (h ts) (plain_go (q.until_in p count) (plain_until_in p count h))

pub plain_until : {A : Type 0} (p : Parser (Option A)) → Plain p → Plain (q.until p)
plain_until p h ts = plain_until_in p (suc (length ts)) h ts

-- p reads as r does, up to such a token
pub record Agrees {A : Type 0} (S : Phrase A) (stops : List TokenKind) (p r : Parser A) : Type 0 where
  pub agree : (ts : List Leaf) → ((p ts ≡ r ts) × NotDeep (p ts)) ⊎ Deeper S stops (p ts) ts

pub same_agrees : {A : Type 0} {S : Phrase A} {stops : List TokenKind} {p : Parser A} → Plain p → Agrees S stops p p
same_agrees plain = record { agree = λ ts. inl (refl, plain ts) }

bind_agrees_second : {A B : Type 0} (R : Phrase A) (S : A → Phrase B) (p t : Parser A) (f h : A → Parser B) (e2 : Bool) (f2 s1 s2 : List TokenKind) (ts : List Leaf) → closes e2 f2 s2 s1 ≡ true →
    ((us : List Leaf) (a : A) (left : List Leaf) → t us ≡ Ok (a, left) → R us a left) → ((a : A) → (b : B) × LivesAt e2 f2 s2 (S a) b) → p ts ≡ t ts → NotDeep (p ts) →
    (r : Read A) → t ts ≡ r → Local R t s1 ts r → ((a : A) → Agrees (S a) s2 (f a) (h a)) → ((after (p ts) f ≡ after (t ts) h) × NotDeep (after (p ts) f)) ⊎ Deeper (g.◌>>=◌ R S) s2 (after (p ts) f) ts
bind_agrees_second {A} {B} R S p t f h e2 f2 s1 s2 ts c sound lives same nd (Err x) e l two =
    inl (ap (λ r. after r f) (same ∙ e) ∙ sym (ap (λ r. after r h) e), subst (λ (r : Read B). NotDeep r) (sym (ap (λ r. after r f) (same ∙ e))) (subst (λ (r : Read A). NotDeep r) (same ∙ e) nd))
bind_agrees_second {A} {B} R S p t f h e2 f2 s1 s2 ts c sound lives same nd (Ok x) e l two = go ((two x.0).agree x.1)
  where
    go : ((f x.0 x.1 ≡ h x.0 x.1) × NotDeep (f x.0 x.1)) ⊎ Deeper (S x.0) s2 (f x.0 x.1) x.1 → ((after (p ts) f ≡ after (t ts) h) × NotDeep (after (p ts) f)) ⊎ Deeper (g.◌>>=◌ R S) s2 (after (p ts) f) ts
    go (inl k) = inl (ap (λ r. after r f) (same ∙ e) ∙ k.0 ∙ sym (ap (λ r. after r h) e), subst (λ (r : Read B). NotDeep r) (sym (ap (λ r. after r f) (same ∙ e))) k.1)
    go (inr d) = inr (
      l.0 ++ d.0,
      d.1,
      d.2,
      l.1 ∙ ap (λ us. l.0 ++ us) d.3 ∙ sym (append_assoc l.0 d.0 (d.1 ∷ d.2)),
      ap (λ r. after r f) (same ∙ e) ∙ d.4,
      subst (λ (us : List Leaf). Begins (g.◌>>=◌ R S) s2 us) (sym (append_assoc l.0 d.0 (d.1 ∷ [])))
          (begins_second R S t e2 f2 s1 s2 x.0 l.0 x.1 (d.0 ++ d.1 ∷ []) d.2 c (λ us left i. sound us x.0 left i) l.2 (d.3 ∙ sym (append_assoc d.0 (d.1 ∷ []) d.2)) d.5 (lives x.0)),
    )

pub bind_agrees : {A B : Type 0} {R : Phrase A} {S : A → Phrase B} {p t : Parser A} {f h : A → Parser B} {e1 e2 : Bool} {f1 f2 g1 g2 s1 s2 : List TokenKind} →
    Exact R t e1 f1 g1 s1 → ((a : A) → Exact (S a) (h a) e2 f2 g2 s2) → closes e2 f2 s2 s1 ≡ true → Agrees R s1 p t → ((a : A) → Agrees (S a) s2 (f a) (h a)) →
    Agrees (g.◌>>=◌ R S) s2 (q.◌>>=◌ p f) (q.◌>>=◌ t h)
bind_agrees {A} {B} {R} {S} {p} {t} {f} {h} {e1} {e2} {f1} {f2} {g1} {g2} {s1} {s2} one two c a b = record { agree = λ ts. go ts (a.agree ts) }
  where
    go : (ts : List Leaf) → ((p ts ≡ t ts) × NotDeep (p ts)) ⊎ Deeper R s1 (p ts) ts → ((after (p ts) f ≡ after (t ts) h) × NotDeep (after (p ts) f)) ⊎ Deeper (g.◌>>=◌ R S) s2 (after (p ts) f) ts
    go ts (inl k) = bind_agrees_second R S p t f h e2 f2 s1 s2 ts c one.sound (λ x. (two x).lives) k.0 k.1 (t ts) refl (one.local ts) b
    go ts (inr d) = inr (d.0, d.1, d.2, d.3, ap (λ r. after r f) d.4, begins_first R S e2 f2 s1 s2 (d.0 ++ d.1 ∷ []) c d.5 (two d.5.1).lives)

deeper_left : {A : Type 0} (R S : Phrase A) (s stops : List TokenKind) (r : Read A) (ts : List Leaf) → within s stops ≡ true → Deeper R s r ts → Deeper (g.Either R S) stops r ts
deeper_left R S s stops r ts w d = (d.0, d.1, d.2, d.3, d.4, (d.5.0, d.5.1, λ rest quiet. inl (d.5.2 rest (quiet_within s stops rest w quiet))))

deeper_right : {A : Type 0} (R S : Phrase A) (s stops : List TokenKind) (r : Read A) (ts : List Leaf) → within s stops ≡ true → Deeper S s r ts → Deeper (g.Either R S) stops r ts
deeper_right R S s stops r ts w d = (d.0, d.1, d.2, d.3, d.4, (d.5.0, d.5.1, λ rest quiet. inr (d.5.2 rest (quiet_within s stops rest w quiet))))

pub choose_agrees : {A : Type 0} {R S : Phrase A} {p t r u : Parser A} {s1 : List TokenKind} (kinds stops : List TokenKind) {s2 : List TokenKind} → within s1 stops ≡ true → within s2 stops ≡ true →
    Agrees R s1 p t → Agrees S s2 r u → Agrees (g.Either R S) stops (q.choose kinds p r) (q.choose kinds t u)
choose_agrees {A} {R} {S} {p} {t} {r} {u} {s1} kinds stops {s2} v w a b = record { agree = λ ts. go ts (heads kinds ts) }
  where
    left : (ts : List Leaf) → ((p ts ≡ t ts) × NotDeep (p ts)) ⊎ Deeper R s1 (p ts) ts → ((p ts ≡ t ts) × NotDeep (p ts)) ⊎ Deeper (g.Either R S) stops (p ts) ts
    left ts (inl k) = inl k
    left ts (inr d) = inr (deeper_left R S s1 stops (p ts) ts v d)

    right : (ts : List Leaf) → ((r ts ≡ u ts) × NotDeep (r ts)) ⊎ Deeper S s2 (r ts) ts → ((r ts ≡ u ts) × NotDeep (r ts)) ⊎ Deeper (g.Either R S) stops (r ts) ts
    right ts (inl k) = inl k
    right ts (inr d) = inr (deeper_right R S s2 stops (r ts) ts w d)

    go : (ts : List Leaf) (x : Bool) → ((cond x (p ts) (r ts) ≡ cond x (t ts) (u ts)) × NotDeep (cond x (p ts) (r ts))) ⊎ Deeper (g.Either R S) stops (cond x (p ts) (r ts)) ts
    go ts true = left ts (a.agree ts)
    go ts false = right ts (b.agree ts)

pub before_agrees : {A : Type 0} {R : Phrase A} {p t : Parser A} (kinds s : List TokenKind) → within kinds s ≡ true → Agrees R s p t → Agrees (g.Before kinds R) s p t
before_agrees {A} {R} {p} {t} kinds s w a = record { agree = λ ts. go ts (a.agree ts) }
  where
    go : (ts : List Leaf) → ((p ts ≡ t ts) × NotDeep (p ts)) ⊎ Deeper R s (p ts) ts → ((p ts ≡ t ts) × NotDeep (p ts)) ⊎ Deeper (g.Before kinds R) s (p ts) ts
    go ts (inl k) = inl k
    go ts (inr d) = inr (d.0, d.1, d.2, d.3, d.4, (d.5.0, d.5.1, λ rest quiet. (d.5.2 rest quiet, quiet_within kinds s rest w quiet)))
