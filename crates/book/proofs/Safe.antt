-- No call leaves two live conflicting records in a book that had none, so no sequence of calls does.
-- Assumes nothing.
use mathlib.Core.Path.{◌≡◌, refl, sym, ◌∙◌, ap, subst}
use mathlib.Core.Logic.{◌≢◌}
use mathlib.Core.Bool.{Bool, true, false}
use Prim.Native.Nat.{ℕ, ◌<◌}
use native.Mathlib.Nat.{not-suc-le-zero}
use native.Mathlib.Decide.{ℕ_discrete}
use mathlib.Core.List.{List, [], ◌∷◌}
use lib.ListN.{length, set, length-set}
use lib.Seq.{get_or-set_same, get_or-set_other}
use lib.Dec.{leb}
use Rattle.grid.specs.Answers.{Answer, accepted, refused, refusal, unless}
use Rattle.grid.proofs.Answers.{accepted_inj}
use Rattle.reservations.specs.declared.Reservation.{Reservation}
use Rattle.reservations.specs.Naming.{Conflict}
use Rattle.reservations.proofs.Exactly.{conflict_turned}
use Rattle.std.specs.Prelude.{Ok, Err}
use Rattle.book.specs.declared.Task.TheVariants.{Add, Release}
use Rattle.book.specs.Asking.{Ask, blank}
use Rattle.book.specs.Book.{off, record_at, answer_to, leaves, carried}
use Rattle.book.specs.Safety.{LiveAt, Safe, NothingLive, Call, ask_of, after}
use Rattle.book.specs.Reasons.{WhyAdd, add_too_long, no_record, already, conflict, full, added, WhyRelease, release_too_long, not_live, released}
use Rattle.book.proofs.Reasons.{added_exactly_when, released_exactly_when}

-- not both live and in conflict
abbrev Apart : Reservation → Reservation → Type 0
Apart a b = 0 < a.live → 0 < b.live → Conflict a b → ⊥

-- ---- a record is stored

-- a record that is apart from all the others is stored
module _ (book : List Reservation) (safe : Safe book) (k : ℕ) (r : Reservation) (one : (j : ℕ) → j ≢ k → j < length book → Apart r (record_at book j)) where
  stored : k < length book → Safe (set book k r)
  stored kl i j ne il jl = by (ℕ_discrete i k) (ℕ_discrete j k) il.alive jl.alive
    where
      short : (m : ℕ) → LiveAt (set book k r) m → m < length book
      short m l = subst (λ (z : ℕ). m < z) (length-set book k r) l.inside

      new : (m : ℕ) → m ≡ k → record_at (set book k r) m ≡ r
      new m e = ap (λ (z : ℕ). record_at (set book k r) z) e ∙ get_or-set_same book k r blank kl

      old : (m : ℕ) → m ≢ k → record_at (set book k r) m ≡ record_at book m
      old m e = get_or-set_other book k m r blank e

      both : {a b x y : Reservation} → a ≡ x → b ≡ y → Apart x y → Apart a b
      both e f h = rw (e, f) h

      by : Dec (i ≡ k) → Dec (j ≡ k) → Apart (record_at (set book k r) i) (record_at (set book k r) j)
      by (yes e) (yes f) = absurd (ne (e ∙ sym f))
      by (yes e) (no f) = both (new i e) (old j f) (one j f (short j jl))
      by (no e) (yes f) = both (old i e) (new j f) (λ x y c. one i e (short i il) y x (conflict_turned (record_at book i) r c))
      by (no e) (no f) = both (old i e) (old j f) (λ x y. safe i j ne (record { inside = short i il; alive = x }) (record { inside = short j jl; alive = y }))

-- ---- one call

module _ (book : List Reservation) (safe : Safe book) where
  -- a record that adding uses is apart from all live ones
  add_safe : (made : Answer Reservation) (a : Reservation) → made ≡ accepted a → (x : Answer ℕ) → WhyAdd made book x → Safe (leaves (Ok (Add a)) x book)
  add_safe made a e x (add_too_long l) = safe
  add_safe made a e x (no_record s r f) = safe
  add_safe made a e x (already b y k w) = safe
  add_safe made a e x (conflict b y m k w) = safe
  add_safe made a e x (full b y m w o) = safe
  add_safe made a e x (added b y m none k o) =
      let same : b ≡ a = accepted_inj (sym y.record_is ∙ e) in
      stored book safe k a (λ j ne l u v c. none j (record { live = record { inside = l; alive = v }; conflict = subst (λ (r : Reservation). Conflict r (record_at book j)) (sym same) c })) o.holds.inside

  -- a record that is turned off is not live
  release_safe : (flight : ℕ) (x : Answer ℕ) → WhyRelease flight book x → Safe (leaves (Ok (Release flight)) x book)
  release_safe flight x (release_too_long l) = safe
  release_safe flight x (not_live s m) = safe
  release_safe flight x (released s k w) =
      stored book safe k (off (record_at book k)) (λ j ne l x y c. not-suc-le-zero x) w.holds.live.inside

  -- one step, from any book without live conflicts
  pub carried_safe : (q : Ask) → Safe (carried q book).1
  unfolding answer_to carried
  carried_safe (Ok (Add a)) = add_safe (accepted a) a refl (answer_to (Ok (Add a)) book) ((added_exactly_when (accepted a) book _).0 refl)
  carried_safe (Ok (Release flight)) = release_safe flight (answer_to (Ok (Release flight)) book) ((released_exactly_when flight book _).0 refl)
  carried_safe (Err r) = go (leb (length book) 256)
    where
      go : (b : Bool) → Safe (leaves (Err r) (unless b (refusal 19 0) (refused r)) book)
      go true = safe
      go false = safe

-- ---- any sequence

pub after_safe : (cs : List Call) (book : List Reservation) → Safe book → Safe (after cs book)
after_safe [] book safe = safe
after_safe (c ∷ cs) book safe = after_safe cs (carried (ask_of c) book).1 (carried_safe book safe (ask_of c))

-- from a book with nothing live, no sequence of calls leaves two live conflicting records
pub book_safe : (cs : List Call) (book : List Reservation) → NothingLive book → Safe (after cs book)
book_safe cs book none = after_safe cs book (λ i j ne il jl c. none i il)
