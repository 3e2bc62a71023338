-- Which numbers lie in a range, and the unit that each of them stands for. Assumes nothing.
use Rattle.std.proofs.Common.{◌≡◌, ℕ, ◌-◌, ◌*◌, ◌<◌, ◌≤◌, Bool, true, false, cond, eqb, leb, ℤ, pos, negsuc, nat_abs, sym, refl, ap, ◌∙◌, subst, ap₂, le_of_lt, lt_irrefl, mul-one, arith, eq-eqb, ne_eqb, le-leb, leb-true}
use borrow.Author.Tests.{lt-leb, eqb-false}
use Rattle.grid.specs.declared.Refusal.{Refusal}
use Rattle.grid.specs.Units.{index, unit}
use Rattle.grid.specs.Answers.{accepted, refused, unless}
use Rattle.grid.specs.Ends.{stands_for, unit_in}
use Rattle.grid.proofs.Answers.{unless_accepted, accepted_inj}
use Rattle.grid.proofs.PlaneLaws.{index_unit}

-- the size of a number, as its range is tested
size_in : (half n : ℕ) → leb n (half * 1) ≡ leb n half
size_in half n = ap (leb n) (mul-one half)

-- a unit of the globe is a number of the range
pub size_below : (half : ℕ) (u : ℤ) → index u < half → nat_abs u ≤ half
size_below half (pos n) h = le_of_lt h
size_below half (negsuc n) h = h

module _ (r : Refusal) (half : ℕ) (up : Bool) where
  -- a number whose outward index is below half stands for itself
  pub unit_own : (u : ℤ) → index u < half → unit_in r half up u ≡ accepted u
  unfolding unit_in
  unit_own u h = ap₂ (λ (t : Bool) (w : ℤ). unless t r (accepted w)) (size_in half (nat_abs u) ∙ le-leb (nat_abs u) half (size_below half u h)) (stands u h)
    where
      stands : (u : ℤ) → index u < half → stands_for half up u ≡ u
      stands (pos n) h = ap (λ (t : Bool). cond t (unit up (half - 1)) (pos n)) (ne_eqb n half (λ e. lt_irrefl half (subst (λ (k : ℕ). k < half) e h)))
      stands (negsuc n) h = refl

  -- the upper end stands for the last unit of its side
  pub unit_end : unit_in r half up (pos half) ≡ accepted (unit up (half - 1))
  unfolding unit_in
  unit_end =
      ap₂ (λ (t q : Bool). unless t r (accepted (cond q (unit up (half - 1)) (pos half)))) (size_in half half ∙ le-leb half half (omega arith)) (eq-eqb half half refl)

  -- every other number lies outside
  pub unit_outside : (u : ℤ) → half ≤ index u → (u ≡ pos half → ⊥) → unit_in r half up u ≡ refused r
  unfolding unit_in
  unit_outside u h d = ap (λ (t : Bool). unless t r (accepted (stands_for half up u))) (size_in half (nat_abs u) ∙ lt-leb (nat_abs u) half (past u h d))
    where
      past : (u : ℤ) → half ≤ index u → (u ≡ pos half → ⊥) → half < nat_abs u
      past (pos n) h d = let e : n ≡ half → ⊥ = λ e. d (ap pos e) in omega (arith, h, e)
      past (negsuc n) h d = omega (arith, h)

  -- a unit that was answered has an outward index below half
  pub unit_known : 0 < half → (u w : ℤ) → unit_in r half up u ≡ accepted w → index w < half
  unfolding unit_in
  unit_known p u w e =
      let a = unless_accepted (leb (nat_abs u) (half * 1)) r (accepted (stands_for half up u)) w e in
      subst (λ (z : ℤ). index z < half) (accepted_inj a.1) (below u (leb-true (nat_abs u) half (sym (size_in half (nat_abs u)) ∙ a.0)))
    where
      below : (u : ℤ) → nat_abs u ≤ half → index (stands_for half up u) < half
      below (pos n) h = go (eqb n half) refl
        where
          go : (q : Bool) → eqb n half ≡ q → index (cond q (unit up (half - 1)) (pos n)) < half
          go true e = let i : index (unit up (half - 1)) ≡ half - 1 = index_unit up (half - 1) in omega (arith, p, i)
          go false e = let d = eqb-false n half e in omega (arith, h, d)
      below (negsuc n) h = h
