-- A byte counts as a code character exactly when some plane code that is accepted has it: what is garbled belongs to no code. Assumes nothing.
use Rattle.std.proofs.Common.{◌≡◌, ℕ, zero, suc, ◌<◌, ◌≤◌, min, max, Bool, true, false, ltb, ◌↔◌, List, [], ◌∷◌, map, length, get_or, take, refl, ◌∙◌, subst, arith, ltb-false, ltb-true, lt-ltb}
use lib.ListN.{length-map}
use Rattle.grid.specs.declared.Cell.{Cell}
use Rattle.grid.specs.Characters.{char_of, digit_of, code_character}
use Rattle.grid.specs.Tree.{follow}
use Rattle.grid.specs.Answers.{Answer, accepted, refused, wrong_number}
use Rattle.grid.specs.Codes.{read_in}
use Rattle.grid.specs.Places.{StandsIn, Accepted}
use Rattle.grid.specs.Splits.{splits}
use Rattle.grid.specs.Plane.{globe, plane, plane_codes, cell_of}
use Rattle.grid.proofs.Cut.{clash, below, Below}
use Rattle.grid.proofs.Characters.{char_digit}
use Rattle.grid.proofs.Lists.{get_d_map_at}
use Rattle.grid.proofs.Laws.{follow_small}
use Rattle.grid.proofs.PlaneLaws.{laws, splits_fit}
use Rattle.grid.proofs.Families.{found}
use Rattle.grid.proofs.Theorems.{plane_sound}

-- a code that has the digit v: N10A to N19A have the ten decimal ones, N19A to N19V the letters
abbrev having : ℕ → List ℕ
having v = 78 ∷ 49 ∷ char_of (min v 9) ∷ char_of (max v 10) ∷ []

abbrev passes : Answer Cell → Bool
passes (accepted c) = true
passes (refused r) = false

-- each of them is accepted: one test of the 32 digits
having_accepted : (v : ℕ) → v < 32 → Accepted cell_of (having v)
unfolding cell_of read_in plane_codes follow char_of digit_of wrong_number
having_accepted v h = go (cell_of (having v)) refl (below (λ v. passes (cell_of (having v))) 32 v refl h)
  where
    go : (a : Answer Cell) → cell_of (having v) ≡ a → passes a ≡ true → Accepted cell_of (having v)
    go (accepted c) e t = (c, e)
    go (refused r) e t = clash (cc)

having_stands : (v : ℕ) → StandsIn (char_of v) (having v)
having_stands v = go (ltb v 10) refl
  where
    go : (q : Bool) → ltb v 10 ≡ q → StandsIn (char_of v) (having v)
    go true e = let h : v < 10 = ltb-true v 10 e in let m : min v 9 ≡ v = omega arith in (2, omega arith, rw m refl)
    go false e = let h : 10 ≤ v = ltb-false v 10 e in let m : max v 10 ≡ v = omega arith in (3, omega arith, rw m refl)

below_at : (k : ℕ) (l : List ℕ) (i : ℕ) → Below k l → i < length l → get_or l i 0 < k
below_at k [] i b h = absurd (omega arith)
below_at k (x ∷ l) zero b h = b.0
below_at k (x ∷ l) (suc i) b h = below_at k l i b.1 (omega arith)

-- all bytes of an accepted code have digits below 32
all_small : (w : List ℕ) → Accepted cell_of w → Below 32 (map digit_of w)
unfolding cell_of plane_codes plane_sound
all_small w a =
    let f = found plane_codes plane_sound w a.0 a.1 in
    follow_small plane laws (take f.l splits) globe (map digit_of w) f.node (splits_fit f.l f.high) (length-map w digit_of ∙ f.long) f.read

pub counts_exactly_when : (b : ℕ) → (code_character b ≡ true) ↔ ((w : List ℕ) × Accepted cell_of w × StandsIn b w)
counts_exactly_when b = (to, from)
  where
    to : code_character b ≡ true → (w : List ℕ) × Accepted cell_of w × StandsIn b w
    to e =
        let h : digit_of b < 32 = ltb-true (digit_of b) 32 e in
        (having (digit_of b), having_accepted (digit_of b) h, subst (λ (x : ℕ). StandsIn x (having (digit_of b))) (char_digit b h) (having_stands (digit_of b)))

    from : (w : List ℕ) × Accepted cell_of w × StandsIn b w → code_character b ≡ true
    from t =
        let p = t.2 in
        let s = all_small t.0 t.1 in
        let h : p.0 < length (map digit_of t.0) = rw (length-map t.0 digit_of) p.1 in
        let d : digit_of (get_or t.0 p.0 0) < 32 = subst (λ (x : ℕ). x < 32) (get_d_map_at digit_of t.0 p.0 p.1) (below_at 32 (map digit_of t.0) p.0 s h) in
        lt-ltb (digit_of b) 32 (subst (λ (x : ℕ). digit_of x < 32) p.2 d)
