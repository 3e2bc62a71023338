-- What a test says of the record at a place of the book.
-- Assumes nothing.
use mathlib.Core.Path.{◌≡◌, refl, sym, ap}
use mathlib.Core.Bool.{Bool, true, false, not, false≢true}
use Prim.Native.Nat.{ℕ, ◌<◌, ◌≤◌}
use native.Mathlib.Omega.{arith}
use mathlib.Core.List.{List}
use lib.Dec.{ltb}
use lib.ListN.{length}
use borrow.Author.Tests.{ltb-true, ltb-false, eqb-true, lt-ltb, le-ltb, eq-eqb}
use Rattle.grid.proofs.Cut.{and_true, and_make}
use Rattle.reservations.specs.declared.Reservation.{Reservation}
use Rattle.reservations.proofs.Exactly.{conflict_exactly_when}
use Rattle.book.specs.Book.{live, free, flies, conflicting, record_at}
use Rattle.book.specs.Safety.{LiveAt}
use Rattle.book.specs.Reasons.{FliesAt, ConflictAt, FreeAt}

-- ---- a test, and what it says of the record at a place

-- a test of records that holds at a place of the book exactly when P does
pub record Tells (p : Reservation → Bool) (book : List Reservation) (P : ℕ → Type 0) : Type 0 where
  pub inside : (k : ℕ) → P k → k < length book
  pub passes : (k : ℕ) → P k → p (record_at book k) ≡ true
  pub says : (k : ℕ) → k < length book → p (record_at book k) ≡ true → P k

module _ (book : List Reservation) where
  pub live_at : (k : ℕ) → k < length book → live (record_at book k) ≡ true → LiveAt book k
  live_at k l e = record { inside = l; alive = ltb-true _ _ e }

  pub flies_tells : (flight : ℕ) → Tells (flies flight) book (FliesAt flight book)
  flies_tells flight =
      record {
        inside = λ k f. f.live.inside;
        passes = λ k f. and_make _ _ (lt-ltb 0 (record_at book k).live f.live.alive) (eq-eqb flight (record_at book k).flight (sym f.same));
        says = λ k l e. let t = and_true (live (record_at book k)) _ e in record { live = live_at k l t.0; same = sym (eqb-true _ _ t.1) };
      }

  pub conflict_tells : (a : Reservation) → Tells (conflicting a) book (ConflictAt a book)
  conflict_tells a =
      record {
        inside = λ k f. f.live.inside;
        passes = λ k f. and_make _ _ (lt-ltb 0 (record_at book k).live f.live.alive) ((conflict_exactly_when a (record_at book k)).1 f.conflict);
        says = λ k l e. let t = and_true (live (record_at book k)) _ e in record { live = live_at k l t.0; conflict = (conflict_exactly_when a (record_at book k)).0 t.1 };
      }

  pub free_tells : Tells free book (FreeAt book)
  free_tells =
      record {
        inside = λ k f. f.inside;
        passes = λ k f. ap not (le-ltb 0 (record_at book k).live (let e : (record_at book k).live ≡ 0 = f.dead in omega arith));
        says = λ k l e. record { inside = l; dead = dead_of (record_at book k).live (ltb 0 (record_at book k).live) refl e };
      }
    where
      dead_of : (m : ℕ) (b : Bool) → ltb 0 m ≡ b → not b ≡ true → m ≡ 0
      dead_of m true e f = absurd (false≢true f)
      dead_of m false e f = let h : m ≤ 0 = ltb-false _ _ e in omega arith
