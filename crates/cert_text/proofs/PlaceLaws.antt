-- Each place of a text tells the text before it, so what was read is the text.
use Rattle.std.proofs.Common.{◌≡◌, ℕ, Bool, true, false, cond, List, [], ◌∷◌, ◌++◌, length, map, Option, Some, None, Result, Ok, Err, refl, ap, sym, subst, ◌∙◌, inl, inr, append_assoc, append-nil, codes, decimal, bytes_eq, ◌&&◌, nat_lt}
use Rattle.std.specs.Prelude.{◌==◌, ◌^◌}
use Rattle.std.specs.Str.Parse.{digits_value}
use Rattle.std.proofs.lemmas.Bool.{eqb-true, and_parts}
use Rattle.cub_proto.specs.declared.protocol.Protocol.{Protocol}
use Rattle.cub_cube.specs.declared.cube.Cube.{Cube}
use Rattle.text_lines.specs.Line.{ended, text_of}
use Rattle.text_lines.specs.Reading.{Reads, ends, line, stops}
use Rattle.text_lines.proofs.LineLaws.{line_split}
use Rattle.text_lines.proofs.NumberLaws.{bytes_same}
use Rattle.cube_text.specs.Text.{cube_text}
use Rattle.cube_text.proofs.OneSpelling.{one_spelling}
use Rattle.cert_text.specs.declared.certificate.Certificate.{Certificate}
use Rattle.cert_text.specs.Text.{version_text, count_text, cover_text, certificate_text}
use Rattle.cert_text.specs.Lawful.{widest}
use Rattle.cert_text.specs.Numbers.{number_of}
use Rattle.cert_text.specs.Place.{Place, Heading, Version, Count, Cubes, Ending, Covers, Done, takes, certificate_at, kind_at, CertificateReads, behind_cubes, at_tail}

-- what each line keeps of the text before it holds at the end
module _ {P V K : Type 0} (taken : P → List ℕ → P → Type 0) (value : P → Option V) (kind : P → List ℕ → K) (before : P → List ℕ → Type 0)
    (steps : (p q : P) (bytes done : List ℕ) → taken p bytes q → before p done → before q (done ++ ended bytes)) where
  kept : {p : P} {n : ℕ} {text : List ℕ} {o : Result V (ℕ × K)} (v : V) (done : List ℕ) → Reads taken value kind p n text o → o ≡ Ok v → before p done
      → (q : P) × (value q ≡ Some v) × before q (done ++ text)
  kept {p} v done (ends w empty is) e i = (
    p,
    let same : w ≡ v = cc in is ∙ ap (λ x. Some x) same,
    subst (before p) (sym (append-nil done) ∙ ap (λ t. done ++ t) (sym empty)) i,
  )
  kept {p} {n} {text} v done (line {q = q} bytes rest at t r) e i =
      let later = kept v (done ++ ended bytes) r e (steps p q bytes done t i) in (
        later.0,
        later.1,
        subst (before later.0)
            (append_assoc done (ended bytes) rest
            ∙ ap (λ t. done ++ t) (append_assoc bytes (10 ∷ []) rest ∙ sym (line_split text bytes rest at))) later.2,
      )
  kept v done (stops stuck) e i = absurd (let f : Err _ ≡ Ok v = e in cc)

text_append : (xs ys : List (List ℕ)) → text_of (xs ++ ys) ≡ text_of xs ++ text_of ys
text_append [] ys = refl
text_append (x ∷ xs) ys = ap (λ t. ended x ++ t) (text_append xs ys) ∙ sym (append_assoc (ended x) (text_of xs) (text_of ys))

map_push : {A B : Type 0} (f : A → B) (xs : List A) (x : A) → map f (xs ++ x ∷ []) ≡ map f xs ++ f x ∷ []
map_push f [] x = refl
map_push f (y ∷ ys) x = ap (λ t. f y ∷ t) (map_push f ys x)

-- a line more
more : (ls : List (List ℕ)) (done l m : List ℕ) → done ≡ text_of ls → l ≡ m → done ++ ended l ≡ text_of (ls ++ m ∷ [])
more ls done l m is same =
    ap (λ t. t ++ ended l) is ∙ ap (λ x. text_of ls ++ ended x) same ∙ ap (λ t. text_of ls ++ t) (sym (append-nil (ended m))) ∙ sym (text_append ls (m ∷ []))

-- digits that spell a number are those of the number
spelled : (digits : List ℕ) (n : ℕ) → number_of digits ≡ Some n → digits ≡ decimal n
spelled digits n h = by (nat_lt (digits_value 10 digits) (2 ^ 128) && bytes_eq digits (decimal (digits_value 10 digits))) refl h
  where
    by : (b : Bool) → (nat_lt (digits_value 10 digits) (2 ^ 128) && bytes_eq digits (decimal (digits_value 10 digits))) ≡ b
        → cond b (Some (digits_value 10 digits)) None ≡ Some n → digits ≡ decimal n
    by true test k =
        let parts = and_parts (nat_lt (digits_value 10 digits) (2 ^ 128)) (bytes_eq digits (decimal (digits_value 10 digits))) test in
        let same : digits_value 10 digits ≡ n = cc in
        bytes_same digits (decimal (digits_value 10 digits)) parts.1 ∙ ap decimal same
    by false test k = cc

abbrev front_lines : Bool → List ℕ → List (List ℕ)
front_lines two digits = codes "SAFE" ∷ version_text two ∷ count_text digits ∷ []

abbrev body_lines : Protocol → Bool → List ℕ → List Cube → List (List ℕ)
body_lines p two digits cubes = front_lines two digits ++ map (cube_text p) cubes

abbrev Before : Protocol → Place → List ℕ → Type 0
Before p Heading done = done ≡ []
Before p Version done = done ≡ text_of (codes "SAFE" ∷ [])
Before p (Count two) done = done ≡ text_of (codes "SAFE" ∷ version_text two ∷ [])
Before p (Cubes two wanted read) done = (digits : List ℕ) × (number_of digits ≡ wanted) × (done ≡ text_of (body_lines p two digits read))
Before p (Ending cubes) done = done ≡ text_of (body_lines p false (decimal (length cubes)) cubes)
Before p (Covers cubes read) done = done ≡ text_of (body_lines p true (decimal (length cubes)) cubes ++ map cover_text read)
Before p (Done c) done = done ≡ certificate_text p c.cubes c.lines

module _ (p : Protocol) where
  tail : (two : Bool) (read : List Cube) (done : List ℕ) → done ≡ text_of (body_lines p two (decimal (length read)) read) → Before p (at_tail two read) done
  tail true read done is = is ∙ ap text_of (sym (append-nil (body_lines p true (decimal (length read)) read)))
  tail false read done is = is

  behind : (two : Bool) (wanted : Option ℕ) (read : List Cube) (digits done : List ℕ) → number_of digits ≡ wanted
      → done ≡ text_of (body_lines p two digits read) → Before p (behind_cubes two wanted read) done
  behind two None read digits done number is = (digits, number, is)
  behind two (Some w) read digits done number is = by (length read == w) refl
    where
      by : (b : Bool) → (length read == w) ≡ b → Before p (cond b (at_tail two read) (Cubes two (Some w) read)) done
      by true same =
          tail two read done
          (is ∙ ap (λ d. text_of (body_lines p two d read)) (spelled digits w number ∙ ap decimal (sym (eqb-true (length read) w same))))
      by false same = (digits, number, is)

  steps : (place q : Place) (l done : List ℕ) → takes p place l q → Before p place done → Before p q (done ++ ended l)
  steps Heading q l done (is, to) i =
      subst (λ (z : Place). Before p z (done ++ ended l)) (sym to) (more [] done l (codes "SAFE") i is)
  steps Version q l done (two, is, to) i =
      subst (λ (z : Place). Before p z (done ++ ended l)) (sym to) (more (codes "SAFE" ∷ []) done l (version_text two) i is)
  steps (Count two) q l done (digits, ok, is, to) i =
      subst (λ (z : Place). Before p z (done ++ ended l)) (sym to)
      (behind two (number_of digits) [] digits (done ++ ended l) refl
      (more (codes "SAFE" ∷ version_text two ∷ []) done l (count_text digits) i is))
  steps (Cubes two wanted read) q l done (c, is, to) (digits, number, i) =
      subst (λ (z : Place). Before p z (done ++ ended l)) (sym to)
      (behind two wanted (read ++ c ∷ []) digits (done ++ ended l) number
      (more (body_lines p two digits read) done l (cube_text p c) i (one_spelling p widest l c is)
      ∙ ap (λ ms. text_of (front_lines two digits ++ ms)) (sym (map_push (cube_text p) read c))))
  steps (Ending cubes) q l done (is, to) i =
      subst (λ (z : Place). Before p z (done ++ ended l)) (sym to)
      (more (body_lines p false (decimal (length cubes)) cubes) done l (codes "end") i is
      ∙ ap (λ ms. text_of (front_lines false (decimal (length cubes)) ++ (ms ++ codes "end" ∷ []))) (sym (append-nil (map (cube_text p) cubes))))
  steps (Covers cubes read) q l done (inl (m, t, to)) i =
      let body = body_lines p true (decimal (length cubes)) cubes in
      subst (λ (z : Place). Before p z (done ++ ended l)) (sym to)
      (more (body ++ map cover_text read) done l (cover_text m) i t.text
      ∙ ap text_of (append_assoc body (map cover_text read) (cover_text m ∷ [])) ∙ ap (λ ms. text_of (body ++ ms)) (sym (map_push cover_text read m)))
  steps (Covers cubes read) q l done (inr (is, to)) i =
      subst (λ (z : Place). Before p z (done ++ ended l)) (sym to)
      (more (body_lines p true (decimal (length cubes)) cubes ++ map cover_text read) done l (codes "end") i is)
  steps (Done c) q l done h i = absurd h

  whole : (q : Place) (c : Certificate) (text : List ℕ) → certificate_at q ≡ Some c → Before p q text → text ≡ certificate_text p c.cubes c.lines
  whole Heading c text h i = cc
  whole Version c text h i = cc
  whole (Count two) c text h i = cc
  whole (Cubes two wanted read) c text h i = cc
  whole (Ending cubes) c text h i = cc
  whole (Covers cubes read) c text h i = cc
  whole (Done d) c text h i = let same : d ≡ c = cc in i ∙ ap (λ x. certificate_text p x.cubes x.lines) same

  -- a text that reads as a certificate is the text of the certificate
  pub is_its_text : (n : ℕ) (text : List ℕ) (c : Certificate) → CertificateReads p Heading n text (Ok c) → text ≡ certificate_text p c.cubes c.lines
  is_its_text n text c r =
      let end = kept (takes p) certificate_at (kind_at p) (Before p) steps c [] r refl refl in
      whole end.0 c text end.1 end.2
