-- What a level's code stores is what the definitions say. Assumes nothing.
use Rattle.std.proofs.Common.{◌≡◌, ℕ, ◌+◌, ◌*◌, ◌<◌, ◌≤◌, Bool, true, false, cond, eqb, List, map, set, refl, add-one, le-ltb, lt-ltb, eq-eqb, ne_eqb}
use lib.Seq.{sets}
use Rattle.grid.specs.declared.Split.{Split}
use Rattle.grid.specs.declared.Digits.{Digits}
use Rattle.grid.specs.inner.Roads.{single_of, level_chars}
use Rattle.grid.specs.Characters.{char_of}
use Rattle.grid.specs.Plane.{quad, trio, write}

module _ (level k : ℕ) (t : Split) (d : Digits) (l : List ℕ) (at : ℕ) where
  -- past the level nothing is added
  pub none_stored : level ≤ k → l ≡ sets l at (level_chars level k t d)
  unfolding level_chars
  none_stored h = rw (le-ltb k level h) refl

  pub two_stored : {a b : ℕ} → k < level → t.characters ≡ 2 → a ≡ char_of d.column → b ≡ char_of d.row
      → set (set l at a) (at + 1) b ≡ sets l at (level_chars level k t d)
  unfolding level_chars
  two_stored h e p q = rw (lt-ltb k level h, eq-eqb _ _ e, p, q, add-one) refl

  pub one_stored : {v a : ℕ} → k < level → (t.characters ≡ 2 → ⊥) → v ≡ single_of d → a ≡ char_of v
      → set l at a ≡ sets l at (level_chars level k t d)
  unfolding level_chars
  one_stored {v} {a} h e p q = rw (lt-ltb k level h, ne_eqb _ _ e) (go (eqb d.columns 2) p)
    where
      go : (b : Bool) → v ≡ cond b (2 * d.row + d.column) (d.row + d.column)
          → set l at a ≡ sets l at (map char_of (write (cond b quad trio) d.column d.row))
      go true p = rw (q, p) refl
      go false p = rw (q, p) refl
