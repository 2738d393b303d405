-- What a work record is cut back to.
use Rattle.std.specs.Prelude.{ℕ, take, length, slice_set}
use Rattle.updates.specs.declared.choice.Choice.{Choice}
use Rattle.piece_steps.specs.Steps.{Draft, choice_at}
use Rattle.pieces.specs.declared.work.Mark.{Mark}

-- the choice with the branch, the number of fails and the pick that it had
abbrev pub choice_back : Mark → Choice → Choice
choice_back m c = record c { branch = m.branch; fails = take m.fails c.fails; pick = m.pick }

-- the draft as it was
abbrev pub cut_back : Mark → Draft → Draft
cut_back m d = record {
  params = take m.params d.params;
  inner = m.inner;
  width = m.width;
  guard = m.guard;
  others = take m.others d.others;
  choices = slice_set d.choices m.term (choice_back m (choice_at d m.term));
  lits = take m.lits d.lits;
}

-- what is to be cut back to, where the choice of the term with that number may change
abbrev pub mark_of : ℕ → Draft → Mark
mark_of i d = record {
  params = length d.params;
  inner = d.inner;
  width = d.width;
  guard = d.guard;
  others = length d.others;
  lits = length d.lits;
  term = i;
  branch = (choice_at d i).branch;
  fails = length (choice_at d i).fails;
  pick = (choice_at d i).pick;
}
