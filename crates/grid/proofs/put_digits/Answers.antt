-- `grid::put_digits` meets its contract. Assumes nothing.
use Rattle.std.proofs.Common.{arith, length-set, rules}
use Rattle.grid.proofs.Storing.{none_stored, one_stored, two_stored}
use Rattle.grid.proofs.put_digits.Goals as goal

pub returns-then-level-k : goal.returns-then-level-k
returns-then-level-k c = none_stored _ _ _ _ _ _ c.if-level-k.true

pub bounds-line-at : goal.bounds-line-at
bounds-line-at c = let s = c in omega (arith, c.requires.room c.if-level-k.false, s)

pub overflow_add-line : goal.overflow_add-line
overflow_add-line c = let h = c.requires.room c.if-level-k.false in let e = c.if-s-eq2.true in search rules

pub bounds-line-at-then-s-eq2 : goal.bounds-line-at-then-s-eq2
bounds-line-at-then-s-eq2 c = let s = c in
    simp length-set (omega (arith, c.requires.room c.if-level-k.false, s, c.if-s-eq2.true))

pub character-requires-else-s-eq2 : goal.character-requires-else-s-eq2
character-requires-else-s-eq2 c = rw c.single.ensures (c.requires.single c.if-s-eq2.false)

pub bounds-line-at-else-s-eq2 : goal.bounds-line-at-else-s-eq2
bounds-line-at-else-s-eq2 c = let s = c in omega (arith, c.requires.room c.if-level-k.false, s)

pub returns-then-s-eq2 : goal.returns-then-s-eq2
returns-then-s-eq2 c = two_stored _ _ _ _ _ _ c.if-level-k.false c.if-s-eq2.true c.character.ensures c.character-then-s-eq2.ensures

pub returns-else-s-eq2 : goal.returns-else-s-eq2
returns-else-s-eq2 c = one_stored _ _ _ _ _ _ c.if-level-k.false c.if-s-eq2.false c.single.ensures c.character-else-s-eq2.ensures
