-- What the loops of the reader keep.
use Rattle.std.proofs.Common.{◌≡◌, ℕ, ◌+◌, ◌≤◌, Bool, List, [], length, All, IsTrue}
use Rattle.cub_proto.specs.declared.protocol.Protocol.{Protocol}
use Rattle.cub_proto.specs.declared.event.Event.{Event}
use Rattle.cub_proto.specs.Configuration.{Configuration, process_count}
use Rattle.replay.specs.FitsStart.{FitsStart}
use Rattle.trace_text.specs.Lawful.{is_lawful_event}
use Rattle.trace_text.specs.Place.{Events, GoesOn}
use Rattle.trace_text.specs.Values.{at_globals, at_arrays, at_cells}

pub record IsReadEvents (p : Protocol) (s : Configuration) (found : List Event) (at : ℕ) (rest : List ℕ) (line : ℕ) (text : List ℕ) (count : ℕ) : Type 0 where
  pub lawful : All (λ e. IsTrue (is_lawful_event p (process_count s) e)) found
  pub counts : length found ≡ count
  pub room : at + length rest ≤ line + length text
  pub goes : (crashes : Bool) → GoesOn p (Events crashes s found) at rest (Events crashes s []) line text

pub record IsReadGlobals (p : Protocol) (old s : Configuration) (read : ℕ) (at : ℕ) (rest : List ℕ) (line : ℕ) (text : List ℕ) : Type 0 where
  pub fits : FitsStart p s
  pub counts : process_count s ≡ process_count old
  pub room : at + length rest ≤ line + length text
  pub goes : (crashes : Bool) → GoesOn p (at_globals p crashes (process_count old) s read) at rest (at_globals p crashes (process_count old) old 0) line text

pub record IsReadCells (p : Protocol) (old s : Configuration) (array read : ℕ) (at : ℕ) (rest : List ℕ) (line : ℕ) (text : List ℕ) : Type 0 where
  pub fits : FitsStart p s
  pub counts : process_count s ≡ process_count old
  pub room : at + length rest ≤ line + length text
  pub goes : (crashes : Bool) → GoesOn p (at_cells p crashes (process_count old) s array read) at rest (at_arrays p crashes (process_count old) old array) line text

pub record IsReadArrays (p : Protocol) (old s : Configuration) (read : ℕ) (at : ℕ) (rest : List ℕ) (line : ℕ) (text : List ℕ) : Type 0 where
  pub fits : FitsStart p s
  pub counts : process_count s ≡ process_count old
  pub room : at + length rest ≤ line + length text
  pub goes : (crashes : Bool) → GoesOn p (at_arrays p crashes (process_count old) s read) at rest (at_arrays p crashes (process_count old) old 0) line text
