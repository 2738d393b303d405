-- The label that is sought among pieces which are handed on one by one.
use Rattle.std.specs.Prelude.{ℕ, zero, suc, Option, Some, None}
use Rattle.piece_choices.specs.declared.piece.Label.{Label}
use Rattle.piece_choices.specs.declared.piece.Piece.{Piece}
use Rattle.trace_build.specs.declared.label.Sought.{Sought}

-- so many pieces come before the one that is sought, or its label was found
abbrev pub sought_by : ℕ → Option Label → Sought
sought_by before found = record { before = before; found = found }

-- after one more piece
abbrev pub sought_next : ℕ → Option Label → Piece → Sought
sought_next before (Some label) x = sought_by before (Some label)
sought_next zero None x = sought_by zero (Some x.label)
sought_next (suc before) None x = sought_by before None

abbrev pub sought_after : Sought → Piece → Sought
sought_after old x = sought_next old.before old.found x
