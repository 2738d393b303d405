-- Sentences and their faults, from the reader of whole texts at each number of levels.
use Rattle.std.proofs.Common.{◌≡◌, ℕ, zero, suc, ◌+◌, ◌-◌, ◌<◌, ◌≤◌, ◌⊎◌, Bool, true, false, List, [], ◌∷◌, ◌++◌, length, take, drop, Option, Some, None, Result, Ok, Err, refl, ap, ◌∙◌, sym, subst, inl, inr, arith, append_assoc, append-nil, length-append, length-drop}
use Rattle.std.proofs.lemmas.Bool.{cases_order}
use Rattle.std.proofs.lemmas.List.{take_at, drop_at, take-append-drop, length-take-le, take-take}
use Rattle.cub_lexer.specs.declared.token.Token.{Token}
use Rattle.cub_parse.specs.declared.fault.ParseKind.{ParseKind}
use Rattle.cub_parse.specs.declared.fault.ParseKind.TheVariants.{P1, P2}
use Rattle.cub_parse.specs.declared.tree.Leaf.{Leaf}
use Rattle.cub_parse.specs.declared.tree.Syntax.{Syntax}
use Rattle.cub_parse.specs.Phrase.{heads}
use Rattle.cub_parse.specs.Parsing as q
use Rattle.cub_parse.specs.Parsing.{Read, rest_starts}
use Rattle.cub_parse.specs.Sentence as s
use Rattle.cub_parse.specs.Grammar.{File}
use Rattle.cub_parse.specs.Sentence.{Sentence, GoesOn, IsOfKind, IsFault, max_levels}
use Rattle.cub_parse.proofs.Exact.{Exact, Begins, Local, Deeper, NotDeep, Agrees, next, given_tree, given_rest, not_given}
use Rattle.cub_parse.proofs.Productions.{file_exact}
use Rattle.cub_parse.proofs.Levels.{file_agrees}

-- a sentence is read
reads : (levels : ℕ) (ts : List Leaf) (tree : Syntax) → Sentence levels ts tree → q.file levels ts ≡ Ok (tree, [])
reads levels ts tree h = (file_exact levels).takes ts tree [] h refl

pub tree_once : (ts : List Leaf) (a b : Syntax) → Sentence max_levels ts a → Sentence max_levels ts b → a ≡ b
tree_once ts a b h i = given_tree a b [] [] (sym (reads 64 ts a h) ∙ reads 64 ts b i)

-- the front of a phrase for a whole text is the front of a sentence
front_begins : (levels : ℕ) (front : List Leaf) → Begins (File levels) rest_starts front → s.Begins levels front
front_begins levels front b = (b.0, b.1, subst (λ (us : List Leaf). Sentence levels us b.1) (ap (λ us. front ++ us) (append-nil b.0)) (b.2 [] refl))

-- where a reader stops at a token, no sentence goes on
no_more : (levels : ℕ) (front rest : List Leaf) (kind : ParseKind) → ((more : List Leaf) → next rest ≡ next more → q.file levels (front ++ more) ≡ Err (kind, length more)) → GoesOn levels front rest → ⊥
no_more levels front [] kind stop h =
    not_given (kind, 0) (h.0, []) (sym (stop [] refl) ∙ ap (q.file levels) (append-nil front) ∙ reads levels front h.0 h.1)
no_more levels front (x ∷ rest) kind stop h =
    not_given (kind, suc (length h.0)) (h.1, []) (sym (stop (x ∷ h.0) refl) ∙ ap (q.file levels) (sym (append_assoc front (x ∷ []) h.0)) ∙ reads levels ((front ++ x ∷ []) ++ h.0) h.1 h.2)

-- fewer levels that read a text read it as more do
less_reads : (levels more : ℕ) → levels < more → (ts : List Leaf) (tree : Syntax) (left : List Leaf) → q.file levels ts ≡ Ok (tree, left) → q.file more ts ≡ Ok (tree, left)
less_reads levels more h ts tree left k = go ((file_agrees levels more h).agree ts)
  where
    go : ((q.file levels ts ≡ q.file more ts) × NotDeep (q.file levels ts)) ⊎ Deeper (File more) rest_starts (q.file levels ts) ts → q.file more ts ≡ Ok (tree, left)
    go (inl e) = sym e.0 ∙ k
    go (inr d) = not_given (P2, suc (length d.2)) (tree, left) (sym d.4 ∙ k)

same_err : {A : Type 0} (x y : ParseKind × ℕ) → ◌≡◌ {A = Read A} (Err x) (Err y) → x ≡ y
same_err x y e = cc

kinds_differ : {B : Type 0} (n m : ℕ) → ◌≡◌ {A = Read Syntax} (Err (P2, n)) (Err (P1, m)) → B
kinds_differ n m e = let f : P2 ≡ P1 = ap (λ (x : ParseKind × ℕ). x.0) (same_err (P2, n) (P1, m) e) in absurd cc

-- where 64 levels stop with P1, more levels stop too
more_stop : (more : ℕ) → 64 < more → (ts : List Leaf) (left : ℕ) → q.file 64 ts ≡ Err (P1, left) → q.file more ts ≡ Err (P1, left)
more_stop more h ts left k = go ((file_agrees 64 more h).agree ts)
  where
    go : ((q.file 64 ts ≡ q.file more ts) × NotDeep (q.file 64 ts)) ⊎ Deeper (File more) rest_starts (q.file 64 ts) ts → q.file more ts ≡ Err (P1, left)
    go (inl e) = sym e.0 ∙ k
    go (inr d) = kinds_differ (suc (length d.2)) left (sym d.4 ∙ k)

-- at no level does a sentence go on where 64 levels stop with P1
at_no_level : (front rest : List Leaf) → ((more : List Leaf) → next rest ≡ next more → q.file 64 (front ++ more) ≡ Err (P1, length more)) → (levels : ℕ) → GoesOn levels front rest → ⊥
at_no_level front rest stop levels h = go (cases_order levels 64)
  where
    less : levels < 64 → (rest : List Leaf) → ((more : List Leaf) → next rest ≡ next more → q.file 64 (front ++ more) ≡ Err (P1, length more)) → GoesOn levels front rest → ⊥
    less l [] stop h =
        not_given (P1, 0) (h.0, []) (sym (stop [] refl) ∙ ap (q.file 64) (append-nil front) ∙ less_reads levels 64 l front h.0 [] (reads levels front h.0 h.1))
    less l (x ∷ rest) stop h =
        not_given (P1, suc (length h.0)) (h.1, []) (sym (stop (x ∷ h.0) refl) ∙ ap (q.file 64) (sym (append_assoc front (x ∷ []) h.0))
        ∙ less_reads levels 64 l ((front ++ x ∷ []) ++ h.0) h.1 [] (reads levels ((front ++ x ∷ []) ++ h.0) h.1 h.2))

    go : (levels ≡ 64) ⊎ ((levels < 64) ⊎ (64 < levels)) → ⊥
    go (inl e) = no_more 64 front rest P1 stop (subst (λ (l : ℕ). GoesOn l front rest) e h)
    go (inr (inl l)) = less l rest stop h
    go (inr (inr l)) = no_more levels front rest P1 (λ more k. more_stop levels l (front ++ more) (length more) (stop more k)) h

-- a list is cut at one place where the rests have one length
same_front : (front fore rest left : List Leaf) → front ++ rest ≡ fore ++ left → length rest ≡ length left → front ≡ fore
same_front front fore rest left e l =
    let n : length front ≡ length fore = omega (arith, ap length e, length-append front rest, length-append fore left) in
    sym (take_at front rest (length front) refl) ∙ ap (take (length front)) e ∙ take_at fore left (length front) (sym n)

same_rest : (front fore rest left : List Leaf) → front ++ rest ≡ fore ++ left → length rest ≡ length left → rest ≡ left
same_rest front fore rest left e l =
    let n : length front ≡ length fore = omega (arith, ap length e, length-append front rest, length-append fore left) in
    sym (drop_at front rest (length front) refl) ∙ ap (drop (length front)) e ∙ drop_at fore left (length front) (sym n)

err_left : {A : Type 0} (x y : ParseKind × ℕ) → ◌≡◌ {A = Read A} (Err x) (Err y) → x.1 ≡ y.1
err_left x y e = ap (λ (z : ParseKind × ℕ). z.1) (same_err x y e)

-- the token that opens a level too many goes on one level deeper
goes_deeper : (ts front rest : List Leaf) → ts ≡ front ++ rest → q.file 64 ts ≡ Err (P2, length rest) → GoesOn 65 front rest
goes_deeper ts front rest split h = go ((file_agrees 64 65 (omega arith)).agree ts)
  where
    go : ((q.file 64 ts ≡ q.file 65 ts) × NotDeep (q.file 64 ts)) ⊎ Deeper (File 65) rest_starts (q.file 64 ts) ts → GoesOn 65 front rest
    go (inl e) = let f : P2 ≡ P1 = subst (λ (r : Read Syntax). NotDeep r) h e.1 in absurd cc
    go (inr d) =
        let lens : length rest ≡ suc (length d.2) = err_left (P2, length rest) (P2, suc (length d.2)) (sym h ∙ d.4) in
        let cut : front ++ rest ≡ d.0 ++ (d.1 ∷ d.2) = sym split ∙ d.3 in
        let same_rests : rest ≡ d.1 ∷ d.2 = same_rest front d.0 rest (d.1 ∷ d.2) cut lens in
        let same_fronts : front ≡ d.0 = same_front front d.0 rest (d.1 ∷ d.2) cut lens in
        subst (λ (us : List Leaf). GoesOn 65 front us) (sym same_rests) (subst (λ (us : List Leaf). GoesOn 65 us (d.1 ∷ d.2)) (sym same_fronts) (front_begins 65 (d.0 ++ d.1 ∷ []) d.5))

of_kind : (kind : ParseKind) (ts front rest : List Leaf) → ts ≡ front ++ rest → q.file 64 ts ≡ Err (kind, length rest) →
    ((more : List Leaf) → next rest ≡ next more → q.file 64 (front ++ more) ≡ Err (kind, length more)) → IsOfKind kind front rest
of_kind P1 ts front rest split h stop = at_no_level front rest stop
of_kind P2 ts front rest split h stop = goes_deeper ts front rest split h

-- where the reader stops there is the fault
pub fault_of : (ts : List Leaf) (kind : ParseKind) (left : ℕ) → q.file 64 ts ≡ Err (kind, left) → IsFault ts (length ts - left) kind
fault_of ts kind left h = go (subst (λ (r : Read Syntax). Local (File 64) (q.file 64) rest_starts ts r) h ((file_exact 64).local ts))
  where
    go : Local (File 64) (q.file 64) rest_starts ts (Err (kind, left)) → IsFault ts (length ts - left) kind
    go l =
        let at : length ts - left ≡ length l.0 = omega (arith, ap length l.2, length-append l.0 l.1, l.3) in
        let front : take (length ts - left) ts ≡ l.0 = ap (take (length ts - left)) l.2 ∙ take_at l.0 l.1 (length ts - left) (sym at) in
        let rest : drop (length ts - left) ts ≡ l.1 = ap (drop (length ts - left)) l.2 ∙ drop_at l.0 l.1 (length ts - left) (sym at) in
        let read : q.file 64 ts ≡ Err (kind, length l.1) = h ∙ ap (λ n. Err (kind, n)) l.3 in
        record {
          within = omega arith;
          begins = rw front (front_begins 64 l.0 l.4);
          stops = rw (front, rest) (no_more 64 l.0 l.1 kind l.5);
          of_kind = rw (front, rest) (of_kind kind ts l.0 l.1 l.2 read l.5);
        }

-- what is left behind a text is no part of one
left_over : {B : Type 0} (tree other : Syntax) (x : Leaf) (more : List Leaf) → ◌≡◌ {A = Read Syntax} (Ok (tree, x ∷ more)) (Ok (other, [])) → B
left_over tree other x more e = let f : x ∷ more ≡ [] = given_rest tree other (x ∷ more) [] e in absurd cc

none_behind : (used : List Leaf) (tree : Syntax) (x : Leaf) → ((more : List Leaf) → q.file 64 (used ++ (x ∷ more)) ≡ Ok (tree, x ∷ more)) → (levels : ℕ) → s.Begins levels (used ++ x ∷ []) → ⊥
none_behind used tree x read levels b = go (cases_order levels 64)
  where
    ts : List Leaf
    ts = (used ++ x ∷ []) ++ b.0

    here : q.file 64 ts ≡ Ok (tree, x ∷ b.0)
    here = ap (q.file 64) (append_assoc used (x ∷ []) b.0) ∙ read b.0

    go : (levels ≡ 64) ⊎ ((levels < 64) ⊎ (64 < levels)) → ⊥
    go (inl e) = left_over tree b.1 x b.0 (sym here ∙ reads 64 ts b.1 (subst (λ (l : ℕ). Sentence l ts b.1) e b.2))
    go (inr (inl l)) = left_over tree b.1 x b.0 (sym here ∙ less_reads levels 64 l ts b.1 [] (reads levels ts b.1 b.2))
    go (inr (inr l)) = left_over tree b.1 x b.0 (sym (less_reads 64 levels l ts tree (x ∷ b.0) here) ∙ reads levels ts b.1 b.2)

pub fault_behind : (ts : List Leaf) (tree : Syntax) (x : Leaf) (rest : List Leaf) → q.file 64 ts ≡ Ok (tree, x ∷ rest) → IsFault ts (length ts - length (x ∷ rest)) P1
fault_behind ts tree x rest h = go (subst (λ (r : Read Syntax). Local (File 64) (q.file 64) rest_starts ts r) h ((file_exact 64).local ts))
  where
    go : Local (File 64) (q.file 64) rest_starts ts (Ok (tree, x ∷ rest)) → IsFault ts (length ts - length (x ∷ rest)) P1
    go l =
        let at : length ts - length (x ∷ rest) ≡ length l.0 = omega (arith, ap length l.1, length-append l.0 (x ∷ rest)) in
        let front : take (length ts - length (x ∷ rest)) ts ≡ l.0 = ap (take (length ts - length (x ∷ rest))) l.1 ∙ take_at l.0 (x ∷ rest) (length ts - length (x ∷ rest)) (sym at) in
        let left : drop (length ts - length (x ∷ rest)) ts ≡ x ∷ rest = ap (drop (length ts - length (x ∷ rest))) l.1 ∙ drop_at l.0 (x ∷ rest) (length ts - length (x ∷ rest)) (sym at) in
        let whole : Sentence 64 (l.0 ++ []) tree = (file_exact 64).sound (l.0 ++ []) tree [] (l.2 [] (inr refl)) in
        let none : (levels : ℕ) → s.Begins levels (l.0 ++ x ∷ []) → ⊥ = none_behind l.0 tree x (λ more. l.2 (x ∷ more) (inl refl)) in
        record {
          within = omega arith;
          begins = rw front ([], tree, whole);
          stops = rw (front, left) (none 64);
          of_kind = rw (front, left) none;
        }

pub sentence_of : (ts : List Leaf) (tree : Syntax) → q.file 64 ts ≡ Ok (tree, []) → Sentence 64 ts tree
sentence_of ts tree h = (file_exact 64).sound ts tree [] h

-- a sentence goes on at each of its tokens, and so has no fault
goes_on : (ts : List Leaf) (tree : Syntax) (front rest : List Leaf) → ts ≡ front ++ rest → Sentence 64 ts tree → GoesOn 64 front rest
goes_on ts tree front [] e h = (tree, subst (λ (us : List Leaf). Sentence 64 us tree) (e ∙ append-nil front) h)
goes_on ts tree front (x ∷ rest) e h = (rest, tree, subst (λ (us : List Leaf). Sentence 64 us tree) (e ∙ sym (append_assoc front (x ∷ []) rest)) h)

pub none_in_sentence : (ts : List Leaf) (tree : Syntax) (at : ℕ) (kind : ParseKind) → Sentence 64 ts tree → IsFault ts at kind → ⊥
none_in_sentence ts tree at kind h f = f.stops (goes_on ts tree (take at ts) (drop at ts) (sym (take-append-drop at ts)) h)

-- a fault is before no other
before : (ts : List Leaf) (at other : ℕ) (kind another : ParseKind) → IsFault ts at kind → IsFault ts other another → at < other → ⊥
before ts at other kind another f g l = f.stops (go (drop at ts) (sym (take-append-drop at ts)))
  where
    go : (rest : List Leaf) → ts ≡ take at ts ++ rest → GoesOn 64 (take at ts) rest
    go [] e = absurd (omega (arith, ap length e, length-append (take at ts) [], length-take-le at ts f.within, g.within))
    go (x ∷ rest) e =
        let n : length (take at ts) ≡ at = length-take-le at ts f.within in
        let ahead : take (at + 1) ts ≡ take at ts ++ x ∷ [] =
        ap (take (at + 1)) e ∙ ap (take (at + 1)) (sym (append_assoc (take at ts) (x ∷ []) rest)) ∙ take_at (take at ts ++ x ∷ []) rest (at + 1) (omega (arith, length-append (take at ts) (x ∷ []))) in
        let split : take other ts ≡ (take at ts ++ x ∷ []) ++ drop (at + 1) (take other ts) =
        sym (take-append-drop (at + 1) (take other ts)) ∙ ap (λ us. us ++ drop (at + 1) (take other ts)) (take-take (at + 1) other ts (omega arith) ∙ ahead) in (
          drop (at + 1) (take other ts) ++ g.begins.0,
          g.begins.1,
          subst (λ (us : List Leaf). Sentence 64 us g.begins.1)
              (ap (λ us. us ++ g.begins.0) split ∙ append_assoc (take at ts ++ x ∷ []) (drop (at + 1) (take other ts)) g.begins.0) g.begins.2,
        )

kind_once : (front rest : List Leaf) (kind another : ParseKind) → IsOfKind kind front rest → IsOfKind another front rest → kind ≡ another
kind_once front rest P1 P1 f g = refl
kind_once front rest P1 P2 f g = absurd (f 65 g)
kind_once front rest P2 P1 f g = absurd (g 65 f)
kind_once front rest P2 P2 f g = refl

pub fault_once : (ts : List Leaf) (at other : ℕ) (kind another : ParseKind) → IsFault ts at kind → IsFault ts other another → (at ≡ other) × (kind ≡ another)
fault_once ts at other kind another f g = go (cases_order at other)
  where
    go : (at ≡ other) ⊎ ((at < other) ⊎ (other < at)) → (at ≡ other) × (kind ≡ another)
    go (inl e) = (e, kind_once (take at ts) (drop at ts) kind another f.of_kind (subst (λ (n : ℕ). IsOfKind another (take n ts) (drop n ts)) (sym e) g.of_kind))
    go (inr (inl l)) = absurd (before ts at other kind another f g l)
    go (inr (inr l)) = absurd (before ts other at another kind g f l)

pub left_within : (ts : List Leaf) (kind : ParseKind) (left : ℕ) → q.file 64 ts ≡ Err (kind, left) → left ≤ length ts
left_within ts kind left h = go (subst (λ (r : Read Syntax). Local (File 64) (q.file 64) rest_starts ts r) h ((file_exact 64).local ts))
  where
    go : Local (File 64) (q.file 64) rest_starts ts (Err (kind, left)) → left ≤ length ts
    go l = omega (arith, ap length l.2, length-append l.0 l.1, l.3)

pub rest_within : (ts : List Leaf) (tree : Syntax) (rest : List Leaf) → q.file 64 ts ≡ Ok (tree, rest) → length rest ≤ length ts
rest_within ts tree rest h = go (subst (λ (r : Read Syntax). Local (File 64) (q.file 64) rest_starts ts r) h ((file_exact 64).local ts))
  where
    go : Local (File 64) (q.file 64) rest_starts ts (Ok (tree, rest)) → length rest ≤ length ts
    go l = omega (arith, ap length l.1, length-append l.0 rest)

pub behind : (ts : List Leaf) (tree : Syntax) (rest : List Leaf) → q.file 64 ts ≡ Ok (tree, rest) → (length rest ≡ 0 → ⊥) → IsFault ts (length ts - length rest) P1
behind ts tree [] h n = absurd (n refl)
behind ts tree (x ∷ rest) h n = fault_behind ts tree x rest h

pub all_read : (ts : List Leaf) (tree : Syntax) (rest : List Leaf) → q.file 64 ts ≡ Ok (tree, rest) → length rest ≡ 0 → Sentence 64 ts tree
all_read ts tree [] h n = sentence_of ts tree h
all_read ts tree (x ∷ rest) h n = absurd (omega arith)

pub length-numbered : (n : ℕ) (xs : List Token) → length (s.numbered n xs) ≡ length xs
length-numbered n [] = refl
length-numbered n (x ∷ xs) = ap suc (length-numbered (n + 1) xs)
