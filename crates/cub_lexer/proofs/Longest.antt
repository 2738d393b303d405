-- The longest token at the front of bytes, for words, numbers and signs.
use Rattle.std.proofs.Common.{◌≡◌, ℕ, zero, suc, ◌+◌, ◌<◌, ◌≤◌, Bool, true, false, ◌&&◌, ◌||◌, cond, subst, eqb, List, [], ◌∷◌, length, take, get_or, Some, None, Option, refl, ap, ◌∙◌, sym, arith, add-one}
use Rattle.std.proofs.Math.Numerals.{one-add}
use Rattle.std.specs.List.{prefix_len, list_all}
use Rattle.std.proofs.lemmas.List.Sums.{prefix_len-le-length}
use Rattle.std.specs.Char.{is_ascii_digit}
use Rattle.std.specs.Int.{is_in_range}
use Rattle.cub_base.specs.Name.{is_name_start, is_name_byte}
use Rattle.cub_lexer.specs.declared.token.TokenKind.{TokenKind}
use Rattle.cub_lexer.specs.declared.token.TokenKind.TheVariants.{Number, Name, TypeWord, VarWord, ArrayWord, InitWord, UnsafeWord, InvariantWord, TransitionWord, RequiresWord, ForallOtherWord, CaseWord, NotWord, ProcWord, BoolWord, IntWord, Underscore, BraceOpen, BraceClose, ParenOpen, ParenClose, BracketOpen, BracketClose, Bar, Colon, Semicolon, Dot, Comma, Equal, Less, Greater, Plus, Minus, Star, Question, Assign, NotEqual, LessOrEqual, GreaterOrEqual, And, Or}
use Rattle.cub_lexer.specs.Lexeme.{kind_of, word_kind, one_byte, two_bytes, sign_kind}
use Rattle.cub_lexer.specs.Reading.{IsBetweenGaps, IsLongest}
use Rattle.cub_lexer.specs.NextStep.{NoPair}

-- the longest front whose items pass, and no longer front does
front_all_case : {A : Type 0} (p : A → Bool) (x : A) (xs : List A) (b : Bool) → p x ≡ b → list_all p (take (prefix_len p xs) xs) ≡ true →
    list_all p (take (cond b (1 + prefix_len p xs) 0) (x ∷ xs)) ≡ true
front_all_case p x xs true e h = rw (one-add, e) h
front_all_case p x xs false e h = refl

pub front_all : {A : Type 0} (p : A → Bool) (xs : List A) → list_all p (take (prefix_len p xs) xs) ≡ true
front_all p [] = refl
front_all p (x ∷ xs) = front_all_case p x xs (p x) refl (front_all p xs)

front_longest_case : {A : Type 0} (p : A → Bool) (x : A) (xs : List A) (m : ℕ) (b : Bool) → p x ≡ b → cond b (1 + prefix_len p xs) 0 < suc m →
    (prefix_len p xs < m → list_all p (take m xs) ≡ false) → (p x && list_all p (take m xs)) ≡ false
front_longest_case p x xs m true e k h = rw e (h (omega arith))
front_longest_case p x xs m false e k h = rw e refl

pub front_longest : {A : Type 0} (p : A → Bool) (xs : List A) (m : ℕ) → prefix_len p xs < m → m ≤ length xs → list_all p (take m xs) ≡ false
front_longest p [] m h l = absurd (omega arith)
front_longest p (x ∷ xs) zero h l = absurd (omega arith)
front_longest p (x ∷ xs) (suc m) h l = front_longest_case p x xs m (p x) refl h (λ k. front_longest p xs m k (omega arith))

-- a first byte with what follows of one class: the token is the longest front of the class
run_long : (p : ℕ → Bool) (kind : List ℕ → TokenKind) (b : ℕ) (bs : List ℕ) →
    ((xs : List ℕ) → kind_of (b ∷ xs) ≡ cond (list_all p xs) (Some (kind (b ∷ xs))) None) → IsBetweenGaps (b ∷ bs) →
    IsLongest (kind (b ∷ take (prefix_len p bs) bs)) (suc (prefix_len p bs)) (b ∷ bs)
run_long p kind b bs is_class between = record {
  between = between;
  within = omega (arith, prefix_len-le-length p bs);
  is_kind = is_class (take (prefix_len p bs) bs) ∙ rw (front_all p bs) refl;
  longest = longer;
}
  where
    longer : (m : ℕ) → suc (prefix_len p bs) < m → m ≤ length (b ∷ bs) → kind_of (take m (b ∷ bs)) ≡ None
    longer zero h l = absurd (omega arith)
    longer (suc m) h l = is_class (take m bs) ∙ rw (front_longest p bs m (omega arith) (omega arith)) refl

run_at : (p : ℕ → Bool) (kind : List ℕ → TokenKind) (b : ℕ) (bs : List ℕ) →
    ((xs : List ℕ) → kind_of (b ∷ xs) ≡ cond (list_all p xs) (Some (kind (b ∷ xs))) None) → IsBetweenGaps (b ∷ bs) →
    p b ≡ true → (n : ℕ) → n ≡ prefix_len p (b ∷ bs) → IsLongest (kind (take n (b ∷ bs))) n (b ∷ bs)
run_at p kind b bs is_class between e n n_is =
    let more : n ≡ suc (prefix_len p bs) = n_is ∙ rw (e, one-add) refl in
    subst (λ (m : ℕ). IsLongest (kind (take m (b ∷ bs))) m (b ∷ bs)) (sym more) (run_long p kind b bs is_class between)

or_more : (d a b e : Bool) → ((a || b) || e) ≡ true → (((d || a) || b) || e) ≡ true
or_more true a b e h = refl
or_more false a b e h = h

name_byte : (b : ℕ) → is_name_start b ≡ true → is_name_byte b ≡ true
name_byte b h = or_more (is_in_range 48 57 b) (is_in_range 65 90 b) (is_in_range 97 122 b) (eqb b 95) h

pub word_longest : (t : List ℕ) (n : ℕ) → 0 < length t → IsBetweenGaps t → is_name_start (get_or t 0 0) ≡ true → n ≡ prefix_len is_name_byte t → IsLongest (word_kind (take n t)) n t
word_longest [] n some between e n_is = absurd (omega arith)
word_longest (b ∷ bs) n some between e n_is =
    run_at is_name_byte word_kind b bs (λ xs. rw e refl) between (name_byte b e) n n_is

pub number_longest : (t : List ℕ) (n : ℕ) → 0 < length t → IsBetweenGaps t → is_name_start (get_or t 0 0) ≡ false → is_ascii_digit (get_or t 0 0) ≡ true →
    n ≡ prefix_len is_ascii_digit t → IsLongest Number n t
number_longest [] n some between f e n_is = absurd (omega arith)
number_longest (b ∷ bs) n some between f e n_is = run_at is_ascii_digit (λ bytes. Number) b bs (λ xs. rw (f, e) refl) between e n n_is

pub pair_longest : (t : List ℕ) (kind : TokenKind) → 2 ≤ length t → IsBetweenGaps t → is_name_start (get_or t 0 0) ≡ false → is_ascii_digit (get_or t 0 0) ≡ false →
    two_bytes (get_or t 0 0) (get_or t 1 0) ≡ Some kind → IsLongest kind 2 t
pair_longest [] kind some between f g e = absurd (omega arith)
pair_longest (b ∷ []) kind some between f g e = absurd (omega arith)
pair_longest (b ∷ c ∷ bs) kind some between f g e = record { between = between; within = omega arith; is_kind = rw (f, g) e; longest = longer bs }
  where
    longer : (bs : List ℕ) (m : ℕ) → 2 < m → m ≤ length (b ∷ c ∷ bs) → kind_of (take m (b ∷ c ∷ bs)) ≡ None
    longer [] m h l = absurd (omega arith)
    longer (d ∷ ds) zero h l = absurd (omega arith)
    longer (d ∷ ds) (suc zero) h l = absurd (omega arith)
    longer (d ∷ ds) (suc (suc zero)) h l = absurd (omega arith)
    longer (d ∷ ds) (suc (suc (suc m))) h l = rw (f, g) refl

-- what a longer front of a sign is, where its first two bytes are none together
no_longer : (b : ℕ) (bs : List ℕ) → is_name_start b ≡ false → is_ascii_digit b ≡ false → NoPair (b ∷ bs) → (m : ℕ) → 1 < m → m ≤ length (b ∷ bs) → kind_of (take m (b ∷ bs)) ≡ None
no_longer b bs f g e zero h l = absurd (omega arith)
no_longer b bs f g e (suc zero) h l = absurd (omega arith)
no_longer b [] f g e (suc (suc m)) h l = absurd (omega arith)
no_longer b (c ∷ bs) f g e (suc (suc zero)) h l = rw (f, g) e
no_longer b (c ∷ []) f g e (suc (suc (suc m))) h l = absurd (omega arith)
no_longer b (c ∷ d ∷ bs) f g e (suc (suc (suc m))) h l = rw (f, g) refl

pub byte_longest : (t : List ℕ) (kind : TokenKind) → 0 < length t → IsBetweenGaps t → is_name_start (get_or t 0 0) ≡ false → is_ascii_digit (get_or t 0 0) ≡ false →
    NoPair t → one_byte (get_or t 0 0) ≡ Some kind → IsLongest kind 1 t
byte_longest [] kind some between f g n e = absurd (omega arith)
byte_longest (b ∷ bs) kind some between f g n e = record { between = between; within = omega arith; is_kind = rw (f, g) e; longest = no_longer b bs f g n }

pub begins_nothing : (t : List ℕ) → 0 < length t → is_name_start (get_or t 0 0) ≡ false → is_ascii_digit (get_or t 0 0) ≡ false →
    NoPair t → one_byte (get_or t 0 0) ≡ None → (m : ℕ) → m ≤ length t → kind_of (take m t) ≡ None
begins_nothing [] some f g n e m l = absurd (omega arith)
begins_nothing (b ∷ bs) some f g n e zero l = refl
begins_nothing (b ∷ bs) some f g n e (suc zero) l = rw (f, g) e
begins_nothing (b ∷ bs) some f g n e (suc (suc m)) l = no_longer b bs f g n (suc (suc m)) (omega arith) l

-- no kind of a word or a sign is that of numbers, and none of a sign is that of names
either : {A : Type 0} (P : A → Type 0) (b : Bool) (x y : A) → P x → P y → P (cond b x y)
either P true x y p q = p
either P false x y p q = q

abbrev IsWord : TokenKind → Type 0
IsWord k = k ≡ Number → ⊥

pub word_no_number : (bytes : List ℕ) → word_kind bytes ≡ Number → ⊥
unfolding word_kind
word_no_number bytes =
    either IsWord _ TypeWord _ (λ (h : TypeWord ≡ Number). absurd cc) (
    either IsWord _ VarWord _ (λ (h : VarWord ≡ Number). absurd cc) (
    either IsWord _ ArrayWord _ (λ (h : ArrayWord ≡ Number). absurd cc) (
    either IsWord _ InitWord _ (λ (h : InitWord ≡ Number). absurd cc) (
    either IsWord _ UnsafeWord _ (λ (h : UnsafeWord ≡ Number). absurd cc) (
    either IsWord _ InvariantWord _ (λ (h : InvariantWord ≡ Number). absurd cc) (
    either IsWord _ TransitionWord _ (λ (h : TransitionWord ≡ Number). absurd cc) (
    either IsWord _ RequiresWord _ (λ (h : RequiresWord ≡ Number). absurd cc) (
    either IsWord _ ForallOtherWord _ (λ (h : ForallOtherWord ≡ Number). absurd cc) (
    either IsWord _ CaseWord _ (λ (h : CaseWord ≡ Number). absurd cc) (
    either IsWord _ NotWord _ (λ (h : NotWord ≡ Number). absurd cc) (
    either IsWord _ ProcWord _ (λ (h : ProcWord ≡ Number). absurd cc) (
    either IsWord _ BoolWord _ (λ (h : BoolWord ≡ Number). absurd cc) (
    either IsWord _ IntWord _ (λ (h : IntWord ≡ Number). absurd cc) (
    either IsWord _ Underscore _ (λ (h : Underscore ≡ Number). absurd cc) (
    (λ (h : Name ≡ Number). absurd cc))))))))))))))))

abbrev IsSign : Option TokenKind → Type 0
IsSign o = (o ≡ Some Number → ⊥) × (o ≡ Some Name → ⊥)

pub byte_is_sign : (b : ℕ) → (one_byte b ≡ Some Number → ⊥) × (one_byte b ≡ Some Name → ⊥)
unfolding one_byte
byte_is_sign b =
    either IsSign (eqb b 123) (Some BraceOpen) _ (λ (h : Some BraceOpen ≡ Some Number). absurd cc, λ (h : Some BraceOpen ≡ Some Name). absurd cc) (
    either IsSign (eqb b 125) (Some BraceClose) _ (λ (h : Some BraceClose ≡ Some Number). absurd cc, λ (h : Some BraceClose ≡ Some Name). absurd cc) (
    either IsSign (eqb b 40) (Some ParenOpen) _ (λ (h : Some ParenOpen ≡ Some Number). absurd cc, λ (h : Some ParenOpen ≡ Some Name). absurd cc) (
    either IsSign (eqb b 41) (Some ParenClose) _ (λ (h : Some ParenClose ≡ Some Number). absurd cc, λ (h : Some ParenClose ≡ Some Name). absurd cc) (
    either IsSign (eqb b 91) (Some BracketOpen) _ (λ (h : Some BracketOpen ≡ Some Number). absurd cc, λ (h : Some BracketOpen ≡ Some Name). absurd cc) (
    either IsSign (eqb b 93) (Some BracketClose) _ (λ (h : Some BracketClose ≡ Some Number). absurd cc, λ (h : Some BracketClose ≡ Some Name). absurd cc) (
    either IsSign (eqb b 124) (Some Bar) _ (λ (h : Some Bar ≡ Some Number). absurd cc, λ (h : Some Bar ≡ Some Name). absurd cc) (
    either IsSign (eqb b 58) (Some Colon) _ (λ (h : Some Colon ≡ Some Number). absurd cc, λ (h : Some Colon ≡ Some Name). absurd cc) (
    either IsSign (eqb b 59) (Some Semicolon) _ (λ (h : Some Semicolon ≡ Some Number). absurd cc, λ (h : Some Semicolon ≡ Some Name). absurd cc) (
    either IsSign (eqb b 46) (Some Dot) _ (λ (h : Some Dot ≡ Some Number). absurd cc, λ (h : Some Dot ≡ Some Name). absurd cc) (
    either IsSign (eqb b 44) (Some Comma) _ (λ (h : Some Comma ≡ Some Number). absurd cc, λ (h : Some Comma ≡ Some Name). absurd cc) (
    either IsSign (eqb b 61) (Some Equal) _ (λ (h : Some Equal ≡ Some Number). absurd cc, λ (h : Some Equal ≡ Some Name). absurd cc) (
    either IsSign (eqb b 60) (Some Less) _ (λ (h : Some Less ≡ Some Number). absurd cc, λ (h : Some Less ≡ Some Name). absurd cc) (
    either IsSign (eqb b 62) (Some Greater) _ (λ (h : Some Greater ≡ Some Number). absurd cc, λ (h : Some Greater ≡ Some Name). absurd cc) (
    either IsSign (eqb b 43) (Some Plus) _ (λ (h : Some Plus ≡ Some Number). absurd cc, λ (h : Some Plus ≡ Some Name). absurd cc) (
    either IsSign (eqb b 45) (Some Minus) _ (λ (h : Some Minus ≡ Some Number). absurd cc, λ (h : Some Minus ≡ Some Name). absurd cc) (
    either IsSign (eqb b 42) (Some Star) _ (λ (h : Some Star ≡ Some Number). absurd cc, λ (h : Some Star ≡ Some Name). absurd cc) (
    either IsSign (eqb b 63) (Some Question) _ (λ (h : Some Question ≡ Some Number). absurd cc, λ (h : Some Question ≡ Some Name). absurd cc) (
    (λ (h : None ≡ Some Number). absurd cc, λ (h : None ≡ Some Name). absurd cc)))))))))))))))))))

pub pair_is_sign : (b c : ℕ) → (two_bytes b c ≡ Some Number → ⊥) × (two_bytes b c ≡ Some Name → ⊥)
unfolding two_bytes
pair_is_sign b c =
    either IsSign _ (Some Assign) _ (λ (h : Some Assign ≡ Some Number). absurd cc, λ (h : Some Assign ≡ Some Name). absurd cc) (
    either IsSign _ (Some NotEqual) _ (λ (h : Some NotEqual ≡ Some Number). absurd cc, λ (h : Some NotEqual ≡ Some Name). absurd cc) (
    either IsSign _ (Some LessOrEqual) _ (λ (h : Some LessOrEqual ≡ Some Number). absurd cc, λ (h : Some LessOrEqual ≡ Some Name). absurd cc) (
    either IsSign _ (Some GreaterOrEqual) _ (λ (h : Some GreaterOrEqual ≡ Some Number). absurd cc, λ (h : Some GreaterOrEqual ≡ Some Name). absurd cc) (
    either IsSign _ (Some And) _ (λ (h : Some And ≡ Some Number). absurd cc, λ (h : Some And ≡ Some Name). absurd cc) (
    either IsSign _ (Some Or) _ (λ (h : Some Or ≡ Some Number). absurd cc, λ (h : Some Or ≡ Some Name). absurd cc) (
    (λ (h : None ≡ Some Number). absurd cc, λ (h : None ≡ Some Name). absurd cc)))))))
