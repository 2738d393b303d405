use Rattle.std.proofs.Common.{◌≡◌, ◌≤◌, length, take}
use Rattle.cover_index.specs.Noted.{in_front}
use Rattle.cover_index.proofs.recent.Recent.note.Given as goal

-- the groups are those that the ones before the next make
abbrev pub invariant-loop-other : goal.invariant-loop-other
invariant-loop-other l = record {
  size : length l.groups ≡ 4;
  few : l.count ≤ 4;
  front : take l.count l.groups ≡ in_front (take l.other-index l.other-items) l.group;
}
