-- Which of the sixteen polar cells the two digits of level 2 name.
-- Assumes nothing.
use Rattle.std.specs.Prelude.{ℕ, ◌+◌, ◌-◌, ◌*◌, ltb, Result, Ok, Err}
use Rattle.grid.specs.Tree.{Read, ok, bad, guard}
use Rattle.grid.specs.Splits.{second}

-- the one that two digits name, or the place of the one that is not below 4
abbrev pub named_by : ℕ → ℕ → Read ℕ
named_by i j = guard (second.length - 2) (ltb i 4) (guard (second.length - 1) (ltb j 4) (ok (4 * i + j)))

-- the same, as `named` answers it
abbrev pub named_read : Result ℕ ℕ → Read ℕ
named_read (Ok k) = ok k
named_read (Err p) = bad p
