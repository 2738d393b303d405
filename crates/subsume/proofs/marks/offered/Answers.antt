use Rattle.std.proofs.Common.{◌≡◌, ◌∙◌, ◌||◌, Bool, ap}
use Rattle.subsume.proofs.marks.offered.Goals as goal

or_words : (x y a b : Bool) → x ≡ y → a ≡ b → (x || a) ≡ (y || b)
or_words x y a b e f = ap (λ z. z || a) e ∙ ap (λ z. y || z) f

pub returns : goal.returns
returns c sig lits marks linked bonded = record {
  globals = marks.globals;
  arrays = marks.arrays;
  members = λ b below. c.all_if.ensures b below ∙ or_words _ _ _ _ linked (marks.members b below);
  constructors = λ b below. c.all_if-2.ensures b below ∙ or_words _ _ _ _ linked (marks.constructors b below);
  pairs = λ b below. c.all_if-3.ensures b below ∙ or_words _ _ _ _ linked (marks.pairs b below);
  joint = λ b below. c.all_if-4.ensures b below ∙ or_words _ _ _ _ linked (marks.joint b below);
  values = λ b below. c.all_if-5.ensures b below ∙ or_words _ _ _ _ bonded (marks.values b below);
}
