-- The text of a lawful certificate is read back as that certificate.
use Rattle.std.proofs.Common.{◌≡◌, ℕ, ◌+◌, ◌<◌, ◌^◌, Bool, true, List, [], ◌∷◌, ◌++◌, length, map, Option, Some, None, is_some, All, Ok, refl, ap, sym, subst, ◌∙◌, arith, codes, decimal, inl, inr, append_assoc, append-nil, length-append}
use Rattle.std.specs.Prelude.{◌==◌}
use Rattle.std.specs.List.{list_all}
use Rattle.std.proofs.lemmas.Bool.{cond-true, cond-false, and_parts, eq-eqb, ne_eqb}
use Rattle.std.proofs.lemmas.List.Elements.{All-head, All-tail}
use Rattle.cub_proto.specs.declared.protocol.Protocol.{Protocol}
use Rattle.cub_proto.specs.declared.cover.CoverLine.{CoverLine}
use Rattle.cub_cube.specs.declared.cube.Cube.{Cube}
use Rattle.text_lines.specs.Line.{text_of, line_at}
use Rattle.text_lines.specs.Reading.{ends, line}
use Rattle.text_lines.proofs.LineLaws.{IsOneLine, line_written}
use Rattle.cube_text.specs.Text.{cube_text}
use Rattle.cube_text.specs.Reading.{reading, IsLawful}
use Rattle.cube_text.proofs.ReadBack.{read_back}
use Rattle.cube_text.proofs.Words.{number_written}
use Rattle.cert_text.specs.declared.certificate.Certificate.{Certificate}
use Rattle.cert_text.specs.Text.{version_text, count_text, cover_text, cover_texts, certificate_text}
use Rattle.cert_text.specs.Numbers.{number_of}
use Rattle.cert_text.specs.Lawful.{widest, is_lawful_line, comes_after, lines_rise, are_lawful_covers, IsLawfulCertificate}
use Rattle.cert_text.specs.Place.{Place, Heading, Version, Count, Cubes, Ending, Covers, Done, takes, CertificateReads, behind_cubes, at_tail, last_of, certificate_of}
use Rattle.cert_text.proofs.WideNumbers.{wide_written}
use Rattle.cert_text.proofs.OneLines.{one_safe, one_end, one_version, one_count, one_cube, one_cover}

-- from this place on, whatever the number of the line is, these lines read as the certificate
abbrev AnyLine : Protocol → Place → List (List ℕ) → Certificate → Type 0
AnyLine p place ls c = (n : ℕ) → CertificateReads p place n (text_of ls) (Ok c)

last_push : (done : List CoverLine) (l : CoverLine) → last_of (done ++ l ∷ []) ≡ Some l
last_push [] l = refl
last_push (x ∷ []) l = refl
last_push (x ∷ y ∷ zs) l = last_push (y ∷ zs) l

module _ (p : Protocol) (c : Certificate) where
  step : (place q : Place) (l : List ℕ) (ls : List (List ℕ)) → takes p place l q → IsOneLine l → AnyLine p q ls c → AnyLine p place (l ∷ ls) c
  step place q l ls tk one next = λ n. line l (text_of ls) at tk (next (n + 1))
    where
      at : ◌≡◌ {A = Option (List ℕ × List ℕ)} (line_at (text_of (l ∷ ls))) (Some (l, text_of ls))
      at = ap line_at (append_assoc l (10 ∷ []) (text_of ls)) ∙ line_written l (text_of ls) one

  module _ (lawful : IsLawfulCertificate p c.cubes c.lines) where
    last_line : (q : Place) → q ≡ Done c → AnyLine p q [] c
    last_line q is = subst (λ (place : Place). AnyLine p place [] c) (sym is) (λ n. ends c refl refl)

    covers_back : (ls done : List CoverLine) → c.lines ≡ Some (done ++ ls) → list_all (is_lawful_line p c.cubes) ls ≡ true → lines_rise (last_of done) ls ≡ true
        → AnyLine p (Covers c.cubes done) (map cover_text ls ++ codes "end" ∷ []) c
    covers_back [] done is all rise =
        let same : c ≡ certificate_of c.cubes (Some done) = ap (certificate_of c.cubes) (is ∙ ap (λ xs. Some xs) (append-nil done)) in
        step (Covers c.cubes done) (Done (certificate_of c.cubes (Some done))) (codes "end") [] (inr (refl, refl)) one_end (last_line (Done (certificate_of c.cubes (Some done))) (ap Done (sym same)))
    covers_back (l ∷ ls) done is all rise =
        let parts = and_parts (is_lawful_line p c.cubes l) (list_all (is_lawful_line p c.cubes) ls) all in
        let order = and_parts (comes_after (last_of done) l) (lines_rise (Some l) ls) rise in
        step (Covers c.cubes done) (Covers c.cubes (done ++ l ∷ [])) (cover_text l) (map cover_text ls ++ codes "end" ∷ [])
        (inl (l, record { few = lawful.few; lawful = parts.0; rises = order.0; text = refl }, refl)) (one_cover p c.cubes lawful.few l parts.0)
        (covers_back ls (done ++ l ∷ []) (is ∙ ap (λ xs. Some xs) (sym (append_assoc done (l ∷ []) ls))) parts.1
        (ap (λ o. lines_rise o ls) (last_push done l) ∙ order.1))

    tail_back : (o : Option (List CoverLine)) → c.lines ≡ o → are_lawful_covers p c.cubes o ≡ true
        → AnyLine p (at_tail (is_some o) c.cubes) (cover_texts o ++ codes "end" ∷ []) c
    tail_back None is ok =
        let same : c ≡ certificate_of c.cubes None = ap (certificate_of c.cubes) is in
        step (Ending c.cubes) (Done (certificate_of c.cubes None)) (codes "end") [] (refl, refl) one_end (last_line (Done (certificate_of c.cubes None)) (ap Done (sym same)))
    tail_back (Some ls) is ok =
        let parts = and_parts (list_all (is_lawful_line p c.cubes) ls) (lines_rise None ls) ok in
        covers_back ls [] is parts.0 parts.1

    module _ (two : Bool) (ls : List (List ℕ)) where
      cubes_back : (cs done : List Cube) (total : ℕ) → length (done ++ cs) ≡ total → All (IsLawful p widest) cs
          → AnyLine p (at_tail two (done ++ cs)) ls c → AnyLine p (behind_cubes two (Some total) done) (map (cube_text p) cs ++ ls) c
      cubes_back [] done total len all next =
          let same = append-nil done in
          let reached : length done ≡ total = sym (ap length same) ∙ len in
          subst (λ (place : Place). AnyLine p place ls c)
          (ap (at_tail two) same ∙ sym (cond-true (length done == total) (at_tail two done) (Cubes two (Some total) done) (eq-eqb (length done) total reached))) next
      cubes_back (k ∷ ks) done total len all next =
          let size = length-append done (k ∷ ks) in
          let opened : behind_cubes two (Some total) done ≡ Cubes two (Some total) done =
          cond-false (length done == total) (at_tail two done) (Cubes two (Some total) done) (ne_eqb (length done) total (λ e. omega arith)) in
          let whole : (done ++ k ∷ []) ++ ks ≡ done ++ k ∷ ks = append_assoc done (k ∷ []) ks in
          let is : reading p widest (cube_text p k) ≡ Ok k = read_back p widest k (omega arith) (All-head (IsLawful p widest) k ks all) in
          let later = cubes_back ks (done ++ k ∷ []) total (ap length whole ∙ len) (All-tail (IsLawful p widest) k ks all)
          (subst (λ (xs : List Cube). AnyLine p (at_tail two xs) ls c) (sym whole) next) in
          subst (λ (place : Place). AnyLine p place (cube_text p k ∷ (map (cube_text p) ks ++ ls)) c) (sym opened)
          (step (Cubes two (Some total) done) (behind_cubes two (Some total) (done ++ k ∷ [])) (cube_text p k) (map (cube_text p) ks ++ ls)
          (k, is, refl) (one_cube p widest (cube_text p k) k is) later)

    pub reads_back : (n : ℕ) → CertificateReads p Heading n (certificate_text p c.cubes c.lines) (Ok c)
    reads_back =
        let two = is_some c.lines in
        let n = length c.cubes in
        let few = lawful.few in
        let small : n < 2 ^ 64 = omega arith in
        let wide : n < 2 ^ 128 = omega arith in
        let digits = decimal n in
        let tail = cover_texts c.lines ++ codes "end" ∷ [] in
        let body = cubes_back two tail c.cubes [] n refl lawful.fit (tail_back c.lines refl lawful.covers) in
        let ls = map (cube_text p) c.cubes ++ tail in
        let placed : AnyLine p (behind_cubes two (number_of digits) []) ls c =
        subst (λ (o : Option ℕ). AnyLine p (behind_cubes two o []) ls c) (sym (wide_written n wide)) body in
        let counted = step (Count two) (behind_cubes two (number_of digits) []) (count_text digits) ls (digits, number_written n small, refl, refl) (one_count n small) placed in
        let versioned = step Version (Count two) (version_text two) (count_text digits ∷ ls) (two, refl, refl) (one_version two) counted in
        let headed = step Heading Version (codes "SAFE") (version_text two ∷ count_text digits ∷ ls) (refl, refl) one_safe versioned in
        let same : ls ≡ (map (cube_text p) c.cubes ++ cover_texts c.lines) ++ codes "end" ∷ [] =
        sym (append_assoc (map (cube_text p) c.cubes) (cover_texts c.lines) (codes "end" ∷ [])) in
        subst (λ (xs : List (List ℕ)). AnyLine p Heading (codes "SAFE" ∷ version_text two ∷ count_text digits ∷ xs) c) same headed
