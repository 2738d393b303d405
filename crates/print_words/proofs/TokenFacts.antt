-- Words of a class are tokens before what may follow them, and marks that fit one another stand apart.
use Rattle.std.proofs.Common.{◌≡◌, ℕ, ◌+◌, ◌-◌, ◌*◌, ◌^◌, ◌<◌, ◌≤◌, Bool, true, false, List, [], ◌∷◌, ◌++◌, length, take, Some, None, refl, sym, ap, subst, ◌∙◌, arith}
use Rattle.std.specs.Prelude.{◌==◌, ◌&&◌, ◌||◌, IsTrue, not, codes, bytes_eq, nat_le}
use Rattle.std.specs.List.{list_all, prefix_len}
use Rattle.std.specs.Char.{is_ascii_digit}
use Rattle.std.specs.Int.{is_in_range}
use Rattle.std.specs.Fmt.{decimal}
use Rattle.std.specs.Str.Parse.{AllDigits}
use Rattle.std.proofs.lemmas.Bool.Decides.{nat_tests}
use Rattle.std.proofs.lemmas.Fmt.{decimal_is_IsNumeral, digits_value-decimal}
use Rattle.std.proofs.lemmas.Str.Parse.{FoldsDigits, numerals_by_fold, tells_digits, digit_from_value}
use Rattle.cub_base.specs.Name.{is_name_start, is_name_byte, is_reserved, is_declarable, has_name_form}
use Rattle.cub_base.proofs.Bools.{and_left, and_right, and_both, same_is, le_is, is_le}
use Rattle.cub_lexer.specs.declared.token.TokenKind.{TokenKind}
use Rattle.cub_lexer.specs.declared.token.TokenKind.TheVariants as k
use Rattle.cub_lexer.specs.Comment.{is_blank, opens, is_opening}
use Rattle.cub_lexer.specs.Lexeme.{word_kind, one_byte, two_bytes}
use Rattle.cub_lexer.specs.NextStep.{NoPair}
use Rattle.cub_lexer.specs.Number.{value_from, value_of}
use Rattle.cub_lexer.specs.Reading.{IsBetweenGaps, IsLongest, IsToken}
use Rattle.cub_lexer.proofs.Longest.{word_longest, number_longest, byte_longest, pair_longest, byte_is_sign, pair_is_sign, word_no_number}
use Rattle.cub_lexer.proofs.WordLaws.{reserved}
use Rattle.cub_print.specs.Mark.{Mark, gap, word, spelled}
use Rattle.cub_print.specs.Tokens.{StandApart}
use Rattle.print_words.proofs.Seams.{Seam, free, held, tight, gaps, ends, is_among, front, Front, Class, class_of, behind, named, numeral, fixed, unprinted, IsOfClass, is_free, starts, may_follow, Lawful, Goes, gap_fits, gap_rest, word_fits, word_rest}

-- a byte among these has what each of these has
abbrev EachHas : (ℕ → Type 0) → List ℕ → Type 0
EachHas P [] = Unit {0}
EachHas P (c ∷ cs) = P c × EachHas P cs

among : (b : ℕ) (P : ℕ → Type 0) (cs : List ℕ) → EachHas P cs → IsTrue (is_among cs b) → P b
among b P [] all h = cc
among b P (c ∷ cs) all h = split (b == c) refl (among b P cs all.1)
  where
    split : (t : Bool) → (b == c) ≡ t → (IsTrue (is_among cs b) → P b) → P b
    split true e others = subst P (sym (same_is b c e)) all.0
    split false e others = others (rw e at h)

-- a byte that passes a test is not one that fails it
differs : (p : ℕ → Bool) (b c : ℕ) → p b ≡ true → p c ≡ false → (b == c) ≡ false
differs p b c passes fails = split (b == c) refl
  where
    split : (t : Bool) → (b == c) ≡ t → (b == c) ≡ false
    split true e = let same : p b ≡ p c = ap p (same_is b c e) in absurd cc
    split false e = e

not_blank : (p : ℕ → Bool) (b : ℕ) → p b ≡ true → p 32 ≡ false → p 9 ≡ false → p 10 ≡ false → p 13 ≡ false → is_blank b ≡ false
not_blank p b passes space tab feed return = rw (differs p b 32 passes space, differs p b 9 passes tab, differs p b 10 passes feed, differs p b 13 passes return) refl

opens_not : (c : ℕ) (bs : List ℕ) → (c == 40) ≡ false → opens (c ∷ bs) ≡ false
opens_not c [] e = refl
opens_not c (d ∷ bs) e = rw e refl

between : (p : ℕ → Bool) (b : ℕ) (bs : List ℕ) → p b ≡ true → p 32 ≡ false → p 9 ≡ false → p 10 ≡ false → p 13 ≡ false → p 40 ≡ false → IsBetweenGaps (b ∷ bs)
between p b bs passes space tab feed return open_ = (not_blank p b passes space tab feed return, opens_not b bs (differs p b 40 passes open_))

-- the front whose bytes pass
prefix_is : (p : ℕ → Bool) (xs ys : List ℕ) → list_all p xs ≡ true → prefix_len p ys ≡ 0 → prefix_len p (xs ++ ys) ≡ length xs
prefix_is p [] ys all none = none
prefix_is p (x ∷ xs) ys all none =
    let rest : prefix_len p (xs ++ ys) ≡ length xs = prefix_is p xs ys (and_right (p x) (list_all p xs) all) none in
    rw (and_left (p x) (list_all p xs) all) (omega (arith, rest))

take_front : (xs ys : List ℕ) → take (length xs) (xs ++ ys) ≡ xs
take_front [] ys = refl
take_front (x ∷ xs) ys = ap (λ zs. x ∷ zs) (take_front xs ys)

held_stops : (p : ℕ → Bool) (rest : List ℕ) → EachHas (λ b. p b ≡ false) ends → Front held rest → prefix_len p rest ≡ 0
held_stops p [] fails f = refl
held_stops p (b ∷ bs) fails f = rw (among b (λ c. p c ≡ false) ends fails f) refl

-- words
word_token : (kind : TokenKind) (bytes : List ℕ) → has_name_form bytes ≡ true → word_kind bytes ≡ kind → (kind ≡ k.Name → length bytes ≤ 64)
    → (rest : List ℕ) → Front held rest → IsToken kind (length bytes) (bytes ++ rest)
word_token kind [] form is short rest f = absurd cc
word_token kind (c ∷ cs) form is short rest f =
    let start : is_name_start c ≡ true = and_left (is_name_start c) (list_all is_name_byte cs) form in
    let others : list_all is_name_byte cs ≡ true = and_right (is_name_start c) (list_all is_name_byte cs) form in
    let all : list_all is_name_byte (c ∷ cs) ≡ true = and_both (is_name_byte c) (list_all is_name_byte cs) (name_byte c start) others in
    let stop : prefix_len is_name_byte rest ≡ 0 = held_stops is_name_byte rest (refl, (refl, (refl, (refl, (refl, (refl, (refl, tt))))))) f in
    let long : length (c ∷ cs) ≡ prefix_len is_name_byte ((c ∷ cs) ++ rest) = sym (prefix_is is_name_byte (c ∷ cs) rest all stop) in
    let kind_is : word_kind (take (length (c ∷ cs)) ((c ∷ cs) ++ rest)) ≡ kind = ap word_kind (take_front (c ∷ cs) rest) ∙ is in
    record {
      is_longest = subst (λ (x : TokenKind). IsLongest x (length (c ∷ cs)) ((c ∷ cs) ++ rest)) kind_is
          (word_longest ((c ∷ cs) ++ rest) (length (c ∷ cs)) (omega arith) (between is_name_start c (cs ++ rest) start refl refl refl refl refl) start long);
      small = λ h. absurd (word_no_number (c ∷ cs) (is ∙ h));
      short = short;
    }
  where
    or_more : (d a b e : Bool) → ((a || b) || e) ≡ true → (((d || a) || b) || e) ≡ true
    or_more true a b e h = refl
    or_more false a b e h = h

    name_byte : (b : ℕ) → is_name_start b ≡ true → is_name_byte b ≡ true
    name_byte b h = or_more (is_in_range 48 57 b) (is_in_range 65 90 b) (is_in_range 97 122 b) (b == 95) h

-- names
name_form : (bytes : List ℕ) → IsTrue (is_declarable bytes) → has_name_form bytes ≡ true
name_form bytes h =
    let few = nat_le (length bytes) 64 in
    let form = has_name_form bytes in
    let alone = not (bytes_eq bytes (codes "_")) in
    and_right few form (and_left (few && form) alone (and_left ((few && form) && alone) (not (is_reserved bytes)) h))

name_token : (bytes : List ℕ) → IsTrue (is_declarable bytes) → (rest : List ℕ) → Front held rest → IsToken k.Name (length bytes) (bytes ++ rest)
name_token bytes h =
    let few = nat_le (length bytes) 64 in
    let form = has_name_form bytes in
    let alone = not (bytes_eq bytes (codes "_")) in
    let free_ = not (is_reserved bytes) in
    let name : IsTrue ((few && form) && alone) = and_left ((few && form) && alone) free_ h in
    let formed : IsTrue (few && form) = and_left (few && form) alone name in
    word_token k.Name bytes (and_right few form formed)
    ((reserved bytes).1 (and_both free_ alone (and_right ((few && form) && alone) free_ h) (and_right (few && form) alone name)))
    (λ e. le_is (length bytes) 64 (and_left few form formed))

-- numbers
digits_pass : (ds : List ℕ) → AllDigits 10 ds → list_all is_ascii_digit ds ≡ true
digits_pass [] d = refl
digits_pass (c ∷ cs) d = and_both (is_ascii_digit c) (list_all is_ascii_digit cs) (tells_digit c (digit_from_value c d.0)) (digits_pass cs d.1)
  where
    tells_digit : (b : ℕ) → (48 ≤ b) × (b ≤ 57) → is_ascii_digit b ≡ true
    tells_digit b h = and_both (nat_le 48 b) (nat_le b 57) (is_le 48 b h.0) (is_le b 57 h.1)

no_start : (c : ℕ) → is_ascii_digit c ≡ true → is_name_start c ≡ false
no_start c h = grind (arith, nat_tests)

folds : FoldsDigits value_from
folds = record { empty = λ n. refl; more = λ n c cs h. let same : 10 * n + (c - 48) ≡ n * 10 + (c - 48) = omega arith in ap (λ m. value_from m cs) same }

pub value_is : (n : ℕ) → n < 2 ^ 64 → value_of (decimal n) ≡ n
value_is n h = digits_value-decimal (numerals_by_fold (AllDigits 10) tells_digits value_from folds) n h

digits_token : (ds : List ℕ) → 0 < length ds → list_all is_ascii_digit ds ≡ true → value_of ds ≤ 1000000000
    → (rest : List ℕ) → Front held rest → IsToken k.Number (length ds) (ds ++ rest)
digits_token [] some all small rest f = absurd (omega arith)
digits_token (c ∷ cs) some all small rest f =
    let start : is_ascii_digit c ≡ true = and_left (is_ascii_digit c) (list_all is_ascii_digit cs) all in
    let stop : prefix_len is_ascii_digit rest ≡ 0 = held_stops is_ascii_digit rest (refl, (refl, (refl, (refl, (refl, (refl, (refl, tt))))))) f in
    let long : length (c ∷ cs) ≡ prefix_len is_ascii_digit ((c ∷ cs) ++ rest) = sym (prefix_is is_ascii_digit (c ∷ cs) rest all stop) in
    record {
      is_longest = number_longest ((c ∷ cs) ++ rest) (length (c ∷ cs)) (omega arith) (between is_ascii_digit c (cs ++ rest) start refl refl refl refl refl) (no_start c start) start long;
      small = λ h. subst (λ (xs : List ℕ). value_of xs ≤ 1000000000) (sym (take_front (c ∷ cs) rest)) small;
      short = λ (h : k.Number ≡ k.Name). absurd cc;
    }

number_token : (n : ℕ) → n ≤ 1000000000 → (rest : List ℕ) → Front held rest → IsToken k.Number (length (decimal n)) (decimal n ++ rest)
number_token n small =
    let below : n < 2 ^ 64 = omega arith in
    let numeral_ = decimal_is_IsNumeral n below in
    digits_token (decimal n) numeral_.0.0 (digits_pass (decimal n) numeral_.0.1) (omega (arith, value_is n below))

-- signs
no_star : (c : ℕ) → IsTrue (front free c) → is_opening 40 c ≡ false
no_star c h = split (c == 42) refl
  where
    split : (t : Bool) → (c == 42) ≡ t → (c == 42) ≡ false
    split true e = let wrong : not true ≡ true = rw e at h in absurd cc
    split false e = e

byte_token : (kind : TokenKind) (seam : Seam) (b : ℕ) → is_name_start b ≡ false → is_ascii_digit b ≡ false → is_blank b ≡ false → one_byte b ≡ Some kind
    → ((c : ℕ) → IsTrue (front seam c) → (two_bytes b c ≡ None) × (is_opening b c ≡ false))
    → (rest : List ℕ) → Front seam rest → IsToken kind 1 (b ∷ rest)
byte_token kind seam b no_word no_digit no_blank is apart rest f = record {
  is_longest = byte_longest (b ∷ rest) kind (omega arith) (no_blank, closed rest f) no_word no_digit (no_pair rest f) is;
  small = λ h. absurd ((byte_is_sign b).0 (is ∙ ap Some h));
  short = λ h. absurd ((byte_is_sign b).1 (is ∙ ap Some h));
}
  where
    closed : (rest : List ℕ) → Front seam rest → opens (b ∷ rest) ≡ false
    closed [] f = refl
    closed (c ∷ cs) f = (apart c f).1

    no_pair : (rest : List ℕ) → Front seam rest → NoPair (b ∷ rest)
    no_pair [] f = tt
    no_pair (c ∷ cs) f = (apart c f).0

pair_token : (kind : TokenKind) (b c : ℕ) → is_name_start b ≡ false → is_ascii_digit b ≡ false → is_blank b ≡ false → is_opening b c ≡ false → two_bytes b c ≡ Some kind
    → (rest : List ℕ) → Front free rest → IsToken kind 2 (b ∷ c ∷ rest)
pair_token kind b c no_word no_digit no_blank closed is rest f = record {
  is_longest = pair_longest (b ∷ c ∷ rest) kind (omega arith) (no_blank, closed) no_word no_digit is;
  small = λ h. absurd ((pair_is_sign b c).0 (is ∙ ap Some h));
  short = λ h. absurd ((pair_is_sign b c).1 (is ∙ ap Some h));
}

-- what is shown for the spelling holds for the bytes
spelled_as : (kind : TokenKind) (seam : Seam) (bytes spelling : List ℕ) → bytes ≡ spelling
    → ((rest : List ℕ) → Front seam rest → IsToken kind (length spelling) (spelling ++ rest))
    → (rest : List ℕ) → Front seam rest → IsToken kind (length bytes) (bytes ++ rest)
spelled_as kind seam bytes spelling e h rest f = subst (λ (x : List ℕ). IsToken kind (length x) (x ++ rest)) (sym e) (h rest f)

token_of : (kind : TokenKind) (bytes : List ℕ) → IsOfClass (class_of kind) bytes → (rest : List ℕ) → Front (behind (class_of kind)) rest
    → IsToken kind (length bytes) (bytes ++ rest)
unfolding word_kind one_byte two_bytes
token_of k.Name bytes h rest f = name_token bytes h rest f
token_of k.Number bytes h rest f = spelled_as k.Number held bytes (decimal h.0) h.2 (number_token h.0 h.1) rest f
token_of k.TypeWord bytes h rest f = spelled_as k.TypeWord held bytes (codes "type") h (word_token k.TypeWord (codes "type") refl refl (λ (e : k.TypeWord ≡ k.Name). absurd cc)) rest f
token_of k.VarWord bytes h rest f = spelled_as k.VarWord held bytes (codes "var") h (word_token k.VarWord (codes "var") refl refl (λ (e : k.VarWord ≡ k.Name). absurd cc)) rest f
token_of k.ArrayWord bytes h rest f = spelled_as k.ArrayWord held bytes (codes "array") h (word_token k.ArrayWord (codes "array") refl refl (λ (e : k.ArrayWord ≡ k.Name). absurd cc)) rest f
token_of k.InitWord bytes h rest f = spelled_as k.InitWord held bytes (codes "init") h (word_token k.InitWord (codes "init") refl refl (λ (e : k.InitWord ≡ k.Name). absurd cc)) rest f
token_of k.UnsafeWord bytes h rest f = spelled_as k.UnsafeWord held bytes (codes "unsafe") h (word_token k.UnsafeWord (codes "unsafe") refl refl (λ (e : k.UnsafeWord ≡ k.Name). absurd cc)) rest f
token_of k.TransitionWord bytes h rest f = spelled_as k.TransitionWord held bytes (codes "transition") h (word_token k.TransitionWord (codes "transition") refl refl (λ (e : k.TransitionWord ≡ k.Name). absurd cc)) rest f
token_of k.RequiresWord bytes h rest f = spelled_as k.RequiresWord held bytes (codes "requires") h (word_token k.RequiresWord (codes "requires") refl refl (λ (e : k.RequiresWord ≡ k.Name). absurd cc)) rest f
token_of k.ForallOtherWord bytes h rest f = spelled_as k.ForallOtherWord held bytes (codes "forall_other") h (word_token k.ForallOtherWord (codes "forall_other") refl refl (λ (e : k.ForallOtherWord ≡ k.Name). absurd cc)) rest f
token_of k.CaseWord bytes h rest f = spelled_as k.CaseWord held bytes (codes "case") h (word_token k.CaseWord (codes "case") refl refl (λ (e : k.CaseWord ≡ k.Name). absurd cc)) rest f
token_of k.ProcWord bytes h rest f = spelled_as k.ProcWord held bytes (codes "proc") h (word_token k.ProcWord (codes "proc") refl refl (λ (e : k.ProcWord ≡ k.Name). absurd cc)) rest f
token_of k.BoolWord bytes h rest f = spelled_as k.BoolWord held bytes (codes "bool") h (word_token k.BoolWord (codes "bool") refl refl (λ (e : k.BoolWord ≡ k.Name). absurd cc)) rest f
token_of k.IntWord bytes h rest f = spelled_as k.IntWord held bytes (codes "int") h (word_token k.IntWord (codes "int") refl refl (λ (e : k.IntWord ≡ k.Name). absurd cc)) rest f
token_of k.Underscore bytes h rest f = spelled_as k.Underscore held bytes (codes "_") h (word_token k.Underscore (codes "_") refl refl (λ (e : k.Underscore ≡ k.Name). absurd cc)) rest f
token_of k.BraceOpen bytes h rest f = spelled_as k.BraceOpen free bytes (123 ∷ []) h (byte_token k.BraceOpen free 123 refl refl refl refl (λ c g. (refl, refl))) rest f
token_of k.BraceClose bytes h rest f = spelled_as k.BraceClose held bytes (125 ∷ []) h (byte_token k.BraceClose held 125 refl refl refl refl (λ c g. (refl, refl))) rest f
token_of k.BracketOpen bytes h rest f = spelled_as k.BracketOpen free bytes (91 ∷ []) h (byte_token k.BracketOpen free 91 refl refl refl refl (λ c g. (refl, refl))) rest f
token_of k.BracketClose bytes h rest f = spelled_as k.BracketClose held bytes (93 ∷ []) h (byte_token k.BracketClose held 93 refl refl refl refl (λ c g. (refl, refl))) rest f
token_of k.ParenClose bytes h rest f = spelled_as k.ParenClose held bytes (41 ∷ []) h (byte_token k.ParenClose held 41 refl refl refl refl (λ c g. (refl, refl))) rest f
token_of k.Semicolon bytes h rest f = spelled_as k.Semicolon free bytes (59 ∷ []) h (byte_token k.Semicolon free 59 refl refl refl refl (λ c g. (refl, refl))) rest f
token_of k.Dot bytes h rest f = spelled_as k.Dot free bytes (46 ∷ []) h (byte_token k.Dot free 46 refl refl refl refl (λ c g. (refl, refl))) rest f
token_of k.Equal bytes h rest f = spelled_as k.Equal free bytes (61 ∷ []) h (byte_token k.Equal free 61 refl refl refl refl (λ c g. (refl, refl))) rest f
token_of k.Plus bytes h rest f = spelled_as k.Plus free bytes (43 ∷ []) h (byte_token k.Plus free 43 refl refl refl refl (λ c g. (refl, refl))) rest f
token_of k.Minus bytes h rest f = spelled_as k.Minus free bytes (45 ∷ []) h (byte_token k.Minus free 45 refl refl refl refl (λ c g. (refl, refl))) rest f
token_of k.Question bytes h rest f = spelled_as k.Question held bytes (63 ∷ []) h (byte_token k.Question held 63 refl refl refl refl (λ c g. (refl, refl))) rest f
token_of k.ParenOpen bytes h rest f = spelled_as k.ParenOpen free bytes (40 ∷ []) h (byte_token k.ParenOpen free 40 refl refl refl refl (λ c g. (refl, no_star c g))) rest f
token_of k.Bar bytes h rest f = spelled_as k.Bar tight bytes (124 ∷ []) h (byte_token k.Bar tight 124 refl refl refl refl (λ c g. among c (λ d. (two_bytes 124 d ≡ None) × (is_opening 124 d ≡ false)) gaps ((refl, refl), ((refl, refl), tt)) g)) rest f
token_of k.Colon bytes h rest f = spelled_as k.Colon tight bytes (58 ∷ []) h (byte_token k.Colon tight 58 refl refl refl refl (λ c g. among c (λ d. (two_bytes 58 d ≡ None) × (is_opening 58 d ≡ false)) gaps ((refl, refl), ((refl, refl), tt)) g)) rest f
token_of k.Less bytes h rest f = spelled_as k.Less tight bytes (60 ∷ []) h (byte_token k.Less tight 60 refl refl refl refl (λ c g. among c (λ d. (two_bytes 60 d ≡ None) × (is_opening 60 d ≡ false)) gaps ((refl, refl), ((refl, refl), tt)) g)) rest f
token_of k.Assign bytes h rest f = spelled_as k.Assign free bytes (58 ∷ 61 ∷ []) h (pair_token k.Assign 58 61 refl refl refl refl refl) rest f
token_of k.NotEqual bytes h rest f = spelled_as k.NotEqual free bytes (60 ∷ 62 ∷ []) h (pair_token k.NotEqual 60 62 refl refl refl refl refl) rest f
token_of k.LessOrEqual bytes h rest f = spelled_as k.LessOrEqual free bytes (60 ∷ 61 ∷ []) h (pair_token k.LessOrEqual 60 61 refl refl refl refl refl) rest f
token_of k.And bytes h rest f = spelled_as k.And free bytes (38 ∷ 38 ∷ []) h (pair_token k.And 38 38 refl refl refl refl refl) rest f
token_of k.Or bytes h rest f = spelled_as k.Or free bytes (124 ∷ 124 ∷ []) h (pair_token k.Or 124 124 refl refl refl refl refl) rest f
token_of k.InvariantWord bytes h rest f = absurd h
token_of k.NotWord bytes h rest f = absurd h
token_of k.Comma bytes h rest f = absurd h
token_of k.Greater bytes h rest f = absurd h
token_of k.Star bytes h rest f = absurd h
token_of k.GreaterOrEqual bytes h rest f = absurd h

-- how marks that fit begin
no_star_before : (p : ℕ → Bool) (seam : Seam) (bytes rest : List ℕ) → 0 < length bytes → list_all p (take 1 bytes) ≡ true → p 42 ≡ false
    → IsTrue (is_free seam) → Front seam (bytes ++ rest)
no_star_before p seam [] rest some first fails is = absurd (omega arith)
no_star_before p free (c ∷ cs) rest some first fails is = rw (differs p c 42 (and_left (p c) true first) fails) refl
no_star_before p held (c ∷ cs) rest some first fails is = absurd cc
no_star_before p tight (c ∷ cs) rest some first fails is = absurd cc

first_passes : (p : ℕ → Bool) (ds : List ℕ) → list_all p ds ≡ true → list_all p (take 1 ds) ≡ true
first_passes p [] h = refl
first_passes p (d ∷ ds) h = and_both (p d) true (and_left (p d) (list_all p ds) h) refl

start_passes : (bytes : List ℕ) → has_name_form bytes ≡ true → (0 < length bytes) × (list_all is_name_start (take 1 bytes) ≡ true)
start_passes [] h = absurd cc
start_passes (c ∷ cs) h = (omega arith, and_both (is_name_start c) true (and_left (is_name_start c) (list_all is_name_byte cs) h) refl)

spelled_front : (seam : Seam) (spelling rest : List ℕ) → IsTrue (starts seam spelling) → Front seam (spelling ++ rest)
spelled_front seam [] rest h = absurd cc
spelled_front seam (b ∷ bs) rest h = h

head_fits : (seam : Seam) (c : Class) (bytes rest : List ℕ) → IsOfClass c bytes → IsTrue (may_follow seam c) → Front seam (bytes ++ rest)
head_fits seam named bytes rest h g =
    let formed = start_passes bytes (name_form bytes h) in
    no_star_before is_name_start seam bytes rest formed.0 formed.1 refl g
head_fits seam numeral bytes rest h g =
    let below : h.0 < 2 ^ 64 = omega (arith, h.1) in
    let numeral_ = decimal_is_IsNumeral h.0 below in
    subst (λ (x : List ℕ). Front seam (x ++ rest)) (sym h.2)
    (no_star_before is_ascii_digit seam (decimal h.0) rest numeral_.0.0 (first_passes is_ascii_digit (decimal h.0) (digits_pass (decimal h.0) numeral_.0.1)) refl g)
head_fits seam (fixed spelling after) bytes rest h g = subst (λ (x : List ℕ). Front seam (x ++ rest)) (sym h) (spelled_front seam spelling rest g)
head_fits seam unprinted bytes rest h g = absurd h

gap_front : (seam : Seam) (b : ℕ) → IsTrue (is_among gaps b) → IsTrue (front seam b)
gap_front free b h = among b (λ c. IsTrue (front free c)) gaps (refl, (refl, tt)) h
gap_front held b h = among b (λ c. IsTrue (front held c)) gaps (refl, (refl, tt)) h
gap_front tight b h = h

fits_front : (from to : Seam) (ms : List Mark) → Lawful ms → Goes from ms to → Front from (spelled ms)
fits_front from to [] l g = tt
fits_front from to (gap b ∷ ms) l g = gap_front from b (gap_fits from to b ms g)
fits_front from to (word kind bytes ∷ ms) l g = head_fits from (class_of kind) bytes (spelled ms) l.0 (word_fits from to kind bytes ms g)

pub fit_apart : (from to : Seam) (ms : List Mark) → Lawful ms → Goes from ms to → StandApart ms
fit_apart from to [] l g = tt
fit_apart from to (gap b ∷ ms) l g =
    (among b (λ c. is_blank c ≡ true) gaps (refl, (refl, tt)) (gap_fits from to b ms g), fit_apart free to ms l (gap_rest from to b ms g))
fit_apart from to (word kind bytes ∷ ms) l g =
    let after = behind (class_of kind) in
    let rest : Goes after ms to = word_rest from to kind bytes ms g in
    (token_of kind bytes l.0 (spelled ms) (fits_front after to ms l.1 rest), fit_apart after to ms l.1 rest)
