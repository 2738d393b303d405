-- Going through the lines: passing over one, taking one, and going on to the next key.
use Rattle.std.proofs.Common.{◌≡◌, ℕ, zero, suc, ◌+◌, ◌<◌, ◌≤◌, true, false, List, [], ◌∷◌, length, Option, Some, None, refl, sym, subst, arith, inl, inr, ◌⊎◌}
use Rattle.std.specs.Prelude.{IsTrue, slice_get}
use Rattle.std.specs.Option.{option_or}
use Rattle.std.proofs.lemmas.Bool.{cases_lt}
use Rattle.cub_proto.specs.declared.cover.CoverLine.{CoverLine}
use Rattle.cub_base.proofs.Bools.{true_or_false}
use Rattle.cert_check.specs.declared.cursor.Cursor.{Cursor}
use Rattle.cert_check.specs.declared.keys.Key.{Key}
use Rattle.cert_check.specs.Keys.{key_of, is_before, lines_rise}
use Rattle.cert_check.specs.First.{IsFirstWithout}
use Rattle.cert_check.specs.Walked.{IsNeeded, IsExtra, IsPast, HasCome, HasTaken, HasEnded}
use Rattle.cert_check.proofs.Order.{before_itself, before_further, before_neither, before_weak, before_not_back, rise_apart}

-- ---- items by number
pub get_inside : {A : Type 0} (xs : List A) (n : ℕ) (x : A) → slice_get xs n ≡ Some x → n < length xs
get_inside [] n x e = cc
get_inside (y ∷ ys) zero x e = omega arith
get_inside (y ∷ ys) (suc n) x e = let less : n < length ys = get_inside ys n x e in omega arith

pub get_there : {A : Type 0} (xs : List A) (n : ℕ) → n < length xs → (x : A) × (slice_get xs n ≡ Some x)
get_there [] n below = absurd (omega arith)
get_there (y ∷ ys) zero below = (y, refl)
get_there (y ∷ ys) (suc n) below = get_there ys n (omega arith)

pub at_next : (l at : ℕ) → l < at + 1 → (l < at) ⊎ (l ≡ at)
at_next l at h = by (cases_lt l at)
  where
    by : (l < at) ⊎ (at ≤ l) → (l < at) ⊎ (l ≡ at)
    by (inl less) = inl less
    by (inr more) = inr (omega arith)

pub at_or_more : (l at : ℕ) → at ≤ l → (l ≡ at) ⊎ (at < l)
at_or_more l at h = by (cases_lt at l)
  where
    by : (at < l) ⊎ (l ≤ at) → (l ≡ at) ⊎ (at < l)
    by (inl more) = inr more
    by (inr less) = inl (omega arith)

module _ (Owed : Key → Type 0) (lines : List CoverLine) where
  -- one line more that is about what is owed
  pub extra_owed : (at : ℕ) (extra : Option ℕ) (line : CoverLine) → slice_get lines at ≡ Some line → Owed (key_of line) → IsExtra Owed lines at extra → IsExtra Owed lines (at + 1) extra
  extra_owed at None line e owed all = λ l h x f. by l x f (at_next l at h)
    where
      by : (l : ℕ) (x : CoverLine) → slice_get lines l ≡ Some x → (l < at) ⊎ (l ≡ at) → Owed (key_of x)
      by l x f (inl less) = all l less x f
      by l x f (inr same) = let here : slice_get lines at ≡ Some x = subst (λ n. slice_get lines n ≡ Some x) same f in let is : line ≡ x = cc in subst (λ z. Owed (key_of z)) is owed
  extra_owed at (Some n) line e owed first = first

  -- one that is about nothing owed
  pub extra_idle : (at : ℕ) (extra : Option ℕ) (line : CoverLine) → slice_get lines at ≡ Some line → (Owed (key_of line) → ⊥) → IsExtra Owed lines at extra → IsExtra Owed lines (at + 1) (option_or extra (Some at))
  extra_idle at None line e idle all = record { before = all; fails = λ needed. idle (needed line e) }
  extra_idle at (Some n) line e idle first = first

  -- ---- passing over a line
  module _ (key : Key) (c : Cursor) (line : CoverLine) (e : slice_get lines c.at ≡ Some line) (less : IsTrue (is_before (key_of line) key)) where
    pub past_more : (extra : Option ℕ) → IsPast lines key c → IsPast lines key (record { at = c.at + 1; extra = extra })
    past_more extra past = record {
      inside = let inside : c.at < length lines = get_inside lines c.at line e in omega arith;
      before = λ l x h f. by l x f (at_next l c.at h);
    }
      where
        by : (l : ℕ) (x : CoverLine) → slice_get lines l ≡ Some x → (l < c.at) ⊎ (l ≡ c.at) → IsTrue (is_before (key_of x) key)
        by l x f (inl early) = past.before l x early f
        by l x f (inr same) = let here : slice_get lines c.at ≡ Some x = subst (λ n. slice_get lines n ≡ Some x) same f in let is : line ≡ x = cc in subst (λ z. IsTrue (is_before (key_of z) key)) is less

    pub come_more : HasCome Owed lines key c → HasCome Owed lines key (record { at = c.at + 1; extra = option_or c.extra (Some c.at) })
    come_more come = record {
      past = past_more (option_or c.extra (Some c.at)) come.past;
      idle = λ l x h f. come.idle l x (omega arith) f;
      extra = extra_idle c.at c.extra line e (come.idle c.at line (omega arith) e less) come.extra;
    }

  module _ (key : Key) (c : Cursor) (rise : IsTrue (lines_rise lines)) where
    -- ---- taking the line about a key
    module _ (line : CoverLine) (e : slice_get lines c.at ≡ Some line) (low : is_before (key_of line) key ≡ false) (high : is_before key (key_of line) ≡ false) where
      pub about : key_of line ≡ key
      about = before_neither (key_of line) key low high

      after_line : (l : ℕ) (x : CoverLine) → c.at + 1 ≤ l → slice_get lines l ≡ Some x → IsTrue (is_before key (key_of x))
      after_line l x h f = subst (λ z. IsTrue (is_before z (key_of x))) about (rise_apart lines rise c.at l line x (omega arith) e f)

      pub take_line : HasCome Owed lines key c → Owed key → HasTaken Owed lines key (record { at = c.at + 1; extra = c.extra })
      take_line come owed = record {
        inside = let inside : c.at < length lines = get_inside lines c.at line e in omega arith;
        before = λ l x h f. by l x f (at_next l c.at h);
        after = after_line;
        extra = extra_owed c.at c.extra line e (subst Owed (sym about) owed) come.extra;
      }
        where
          by : (l : ℕ) (x : CoverLine) → slice_get lines l ≡ Some x → (l < c.at) ⊎ (l ≡ c.at) → is_before key (key_of x) ≡ false
          by l x f (inl early) = before_not_back (key_of x) key (come.past.before l x early f)
          by l x f (inr same) = let here : slice_get lines c.at ≡ Some x = subst (λ n. slice_get lines n ≡ Some x) same f in let is : line ≡ x = cc in subst (λ z. is_before key (key_of z) ≡ false) is high

    -- ---- where there is none
    module _ (stops : (line : CoverLine) → slice_get lines c.at ≡ Some line → is_before (key_of line) key ≡ false)
        (beyond : (line : CoverLine) → slice_get lines c.at ≡ Some line → is_before key (key_of line) ≡ false → ⊥) where
      after_here : (x : CoverLine) → slice_get lines c.at ≡ Some x → IsTrue (is_before key (key_of x))
      after_here x f = by (true_or_false (is_before key (key_of x)))
        where
          by : (is_before key (key_of x) ≡ true) ⊎ (is_before key (key_of x) ≡ false) → IsTrue (is_before key (key_of x))
          by (inl h) = h
          by (inr h) = absurd (beyond x f h)

      after_none : (l : ℕ) (x : CoverLine) → c.at ≤ l → slice_get lines l ≡ Some x → IsTrue (is_before key (key_of x))
      after_none l x h f = by (at_or_more l c.at h)
        where
          by : (l ≡ c.at) ⊎ (c.at < l) → IsTrue (is_before key (key_of x))
          by (inl same) = after_here x (subst (λ n. slice_get lines n ≡ Some x) same f)
          by (inr more) =
              let inside : l < length lines = get_inside lines l x f in
              let here = get_there lines c.at (omega arith) in
              before_further key (key_of here.0) (key_of x) (after_here here.0 here.1) (rise_apart lines rise c.at l here.0 x more here.1 f)

      pub take_none : HasCome Owed lines key c → HasTaken Owed lines key c
      take_none come = record {
        inside = come.past.inside;
        before = λ l x h f. before_not_back (key_of x) key (come.past.before l x h f);
        after = after_none;
        extra = come.extra;
      }

      pub none_about : IsPast lines key c → (l : ℕ) (x : CoverLine) → slice_get lines l ≡ Some x → key_of x ≡ key → ⊥
      none_about past l x f same = elim (cases_lt l c.at) [
        | inl early ↦ before_itself key (subst (λ z. IsTrue (is_before z key)) same (past.before l x early f))
        | inr late ↦ before_itself key (subst (λ z. IsTrue (is_before key z)) same (after_none l x (omega arith) f))
      ]

  -- ---- going on to the next key
  pub come_next : (key next : Key) (c : Cursor) → HasTaken Owed lines key c → IsTrue (is_before key next) → ((x : Key) → IsTrue (is_before key x) → IsTrue (is_before x next) → Owed x → ⊥) → HasCome Owed lines next c
  come_next key next c taken less gap = record {
    past = record { inside = taken.inside; before = λ l x h f. before_weak key (key_of x) next (taken.before l x h f) less };
    idle = λ l x h f low owed. gap (key_of x) (taken.after l x h f) low owed;
    extra = taken.extra;
  }

  pub come_skip : (key next : Key) (c : Cursor) → HasCome Owed lines key c → IsTrue (is_before key next) → ((x : Key) → is_before x key ≡ false → IsTrue (is_before x next) → Owed x → ⊥) → HasCome Owed lines next c
  come_skip key next c come less gap = record {
    past = record { inside = come.past.inside; before = λ l x h f. before_further (key_of x) key next (come.past.before l x h f) less };
    idle = λ l x h f low owed. by l x h f low owed (true_or_false (is_before (key_of x) key));
    extra = come.extra;
  }
    where
      by : (l : ℕ) (x : CoverLine) → c.at ≤ l → slice_get lines l ≡ Some x → IsTrue (is_before (key_of x) next) → Owed (key_of x) → (is_before (key_of x) key ≡ true) ⊎ (is_before (key_of x) key ≡ false) → ⊥
      by l x h f low owed (inl early) = come.idle l x h f early owed
      by l x h f low owed (inr late) = gap (key_of x) late low owed

  pub come_end : (key : Key) (c : Cursor) → HasCome Owed lines key c → ((x : Key) → is_before x key ≡ false → Owed x → ⊥) → HasEnded Owed lines c
  come_end key c come gap = record {
    inside = come.past.inside;
    idle = λ l x h f owed. by l x h f owed (true_or_false (is_before (key_of x) key));
    extra = come.extra;
  }
    where
      by : (l : ℕ) (x : CoverLine) → c.at ≤ l → slice_get lines l ≡ Some x → Owed (key_of x) → (is_before (key_of x) key ≡ true) ⊎ (is_before (key_of x) key ≡ false) → ⊥
      by l x h f owed (inl early) = come.idle l x h f early owed
      by l x h f owed (inr late) = gap (key_of x) late owed

  -- at the beginning
  pub come_first : (key : Key) → ((x : Key) → IsTrue (is_before x key) → Owed x → ⊥) → HasCome Owed lines key (record { at = 0; extra = None })
  come_first key gap = record {
    past = record { inside = omega arith; before = λ l x h f. absurd (omega arith) };
    idle = λ l x h f low owed. gap (key_of x) low owed;
    extra = λ l h. absurd (omega arith);
  }

-- ---- behind all obligations
module _ (Owed : Key → Type 0) (lines : List CoverLine) (c : Cursor) (ended : HasEnded Owed lines c) (none : c.extra ≡ None) where
  gone : (l : ℕ) → l < c.at → IsNeeded Owed lines l
  gone = subst (IsExtra Owed lines c.at) none ended.extra

  pub ended_extra : c.at < length lines → IsFirstWithout (IsNeeded Owed lines) c.at
  ended_extra below =
      let here = get_there lines c.at below in
      record { before = gone; fails = λ needed. ended.idle c.at here.0 (omega arith) here.1 (needed here.0 here.1) }

  pub ended_none : length lines ≤ c.at → (l : ℕ) → IsNeeded Owed lines l
  ended_none all l line e = let inside : l < length lines = get_inside lines l line e in gone l (omega arith) line e
