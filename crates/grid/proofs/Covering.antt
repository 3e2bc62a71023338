-- The squares of a node in its own frame are those of the cell that a caller is handed.
-- Assumes nothing.
use Rattle.std.proofs.Common.{◌≡◌, ℕ, ◌+◌, ◌-◌, ◌%◌, ◌<◌, ◌≤◌, Bool, true, false, ◌↔◌, List, ℤ, pos, negsuc, refl, ◌∙◌, arith}
use Rattle.grid.specs.declared.Split.{Split}
use Rattle.grid.specs.declared.Cell.{Cell}
use Rattle.grid.specs.Units.{side, index, eastward, from_pole, Square, OnGlobe}
use Rattle.grid.specs.Cells.{around, Within, Covers}
use Rattle.grid.specs.Plane.{ordinary, belt, disc, Box, Node, globe, pole, cell, cap, least, longitude_at, least_from_pole, cell_from, cell_at}
use Rattle.grid.proofs.Cut.{clash}
use Rattle.grid.proofs.Step.{In, Inside}
use Rattle.grid.proofs.PlaneLaws.{Good, eastward_longitude_at, index_longitude_at, cell_positive, cap_positive}

abbrev AlongW : ℤ → ℕ → ℤ → Type 0
AlongW west w u = (around u + (2654208000 - around west)) % 2654208000 < w

quarter_x : (e : Bool) (u : ℤ) (x w : ℕ) → 0 < w → x + w ≤ 1327104000 → index u < 1327104000 → AlongW (least e x w) w u ↔ ((side u ≡ e) × (x ≤ index u) × (index u < x + w))
quarter_x true (pos k) x w p f g = (λ h. (refl, omega arith, omega arith), λ h. omega arith)
quarter_x true (negsuc k) x w p f g = (λ h. absurd (omega arith), λ h. clash (let e = h.0 in cc))
quarter_x false (pos k) x w p f g = (λ h. absurd (omega arith), λ h. clash (let e = h.0 in cc))
quarter_x false (negsuc k) x w p f g = (λ h. (refl, omega arith, omega arith), λ h. omega arith)

quarter_y : (n : Bool) (v : ℤ) (y h : ℕ) → 0 < h → y + h ≤ 663552000 → index v < 663552000 → Within (least n y h) h v ↔ ((side v ≡ n) × (y ≤ index v) × (index v < y + h))
quarter_y true (pos k) x w p f g = (λ h. (refl, omega arith, omega arith), λ h. record { starts = omega arith; ends = omega arith })
quarter_y true (negsuc k) x w p f g = (λ h. absurd (omega arith), λ h. clash (let e = h.0 in cc))
quarter_y false (pos k) x w p f g = (λ h. absurd (omega arith), λ h. clash (let e = h.0 in cc))
quarter_y false (negsuc k) x w p f g = (λ h. (refl, omega arith, omega arith), λ h. record { starts = omega arith; ends = omega arith })

below_around : (u : ℤ) → index u < 1327104000 → eastward u < 2654208000
below_around (pos k) h = omega arith
below_around (negsuc k) h = omega arith

around_eastward : (u : ℤ) → index u < 1327104000 → around u ≡ eastward u
around_eastward (pos k) h = omega arith
around_eastward (negsuc k) h = omega arith

disc_x : (u : ℤ) (x w : ℕ) → 0 < w → x + w ≤ 2654208000 → index u < 1327104000 → AlongW (longitude_at x) w u ↔ ((x ≤ eastward u) × (eastward u < x + w))
disc_x u x w p f g =
    let l : x < 2654208000 = omega arith in
    let a : around u ≡ eastward u = around_eastward u g in
    let b : around (longitude_at x) ≡ x = around_eastward (longitude_at x) (index_longitude_at x l) ∙ eastward_longitude_at x l in
    let r : eastward u < 2654208000 = below_around u g in
    (λ h. (omega arith, omega arith), λ h. omega arith)

disc_y : (n : Bool) (v : ℤ) (q h : ℕ) → 0 < h → q + h ≤ 14745600 → index v < 663552000 → Within (least_from_pole n q h) h v ↔ ((side v ≡ n) × (q ≤ from_pole v) × (from_pole v < q + h))
disc_y true (pos k) q l p f g = (λ h. (refl, omega arith, omega arith), λ h. record { starts = omega arith; ends = omega arith })
disc_y true (negsuc k) q l p f g = (λ h. absurd (omega arith), λ h. clash (let e = h.0 in cc))
disc_y false (pos k) q l p f g = (λ h. absurd (omega arith), λ h. clash (let e = h.0 in cc))
disc_y false (negsuc k) q l p f g = (λ h. (refl, omega arith, omega arith), λ h. record { starts = omega arith; ends = omega arith })

whole_turn : (u : ℤ) → (around u + (2654208000 - 0)) % 2654208000 < 2654208000
whole_turn u = omega arith

module _ (n e : Bool) (b : Box) (s : Square) (o : OnGlobe s) (p : (0 < b.w) × (0 < b.h)) (wide : b.x + b.w ≤ 1327104000) (high : b.y + b.h ≤ 663552000) where
  abbrev quarter_cell : ℕ → Cell
  quarter_cell l = cell_from l (least e b.x b.w) (least n b.y b.h) b.w b.h

  abbrev Seen : Type 0
  Seen = ((side s.latitude ≡ n) × (side s.longitude ≡ e)) × Inside b (index s.longitude) (index s.latitude)

  quarter_in : (l : ℕ) → Covers (quarter_cell l) s → Seen
  quarter_in l c =
      let x = (quarter_x e s.longitude b.x b.w p.0 wide o.longitude_in).0 c.across in
      let y = (quarter_y n s.latitude b.y b.h p.1 high o.latitude_in).0 c.along in
      ((y.0, x.0), record { xl = x.1; xu = x.2; yl = y.1; yu = y.2 })

  quarter_covers : (l : ℕ) → Seen → Covers (quarter_cell l) s
  quarter_covers l q =
      record {
        across = (quarter_x e s.longitude b.x b.w p.0 wide o.longitude_in).1 (q.0.1, q.1.xl, q.1.xu);
        along = (quarter_y n s.latitude b.y b.h p.1 high o.latitude_in).1 (q.0.0, q.1.yl, q.1.yu);
      }

pub covers_in : (l : ℕ) (ts : List Split) (n : Node) (s : Square) → Good ts n → OnGlobe s → Covers (cell_at l n) s → In n s
covers_in l ts globe s g o c = o
covers_in l ts (pole n) s g o c =
    let a = (disc_y n s.latitude 0 14745600 (omega arith) (omega arith) o.latitude_in).0 c.along in
    let h : from_pole s.latitude < 0 + 14745600 = a.2 in
    record { on = o; sees = a.0; near = omega (arith, h) }
covers_in l ts (cell (ordinary n e) b) s g o c =
    let h : b.y + b.h ≤ 648806400 = g.fit.high in
    let q = quarter_in n e b s o (cell_positive ts (ordinary n e) b g) g.fit.wide (omega arith) l c in
    record { on = o; sees = q.0; inside = q.1 }
covers_in l ts (cell (belt n e) b) s g o c =
    let q = quarter_in n e b s o (cell_positive ts (belt n e) b g) g.fit.wide g.fit.high l c in
    record { on = o; sees = q.0; inside = q.1 }
covers_in l ts (cell (disc n) b) s g o c =
    let p = cell_positive ts (disc n) b g in
    let fy : b.y + b.h ≤ 7372800 = g.fit.high in
    let u = (disc_x s.longitude b.x b.w p.0 g.fit.wide o.longitude_in).0 c.across in
    let v = (disc_y n s.latitude b.y b.h p.1 (omega arith) o.latitude_in).0 c.along in
    record { on = o; sees = v.0; inside = record { xl = u.0; xu = u.1; yl = v.1; yu = v.2 } }
covers_in l ts (cap n h) s g o c =
    let p : h ≤ 7372800 = g.fit in
    let a = (disc_y n s.latitude 0 h (cap_positive ts h g) (omega arith) o.latitude_in).0 c.along in
    let k : from_pole s.latitude < 0 + h = a.2 in
    record { on = o; sees = a.0; near = omega (arith, k) }

pub in_globe : (n : Node) (s : Square) → In n s → OnGlobe s
in_globe globe s i = i
in_globe (pole n) s i = i.on
in_globe (cell f b) s i = i.on
in_globe (cap n h) s i = i.on

globe_y : (v : ℤ) → index v < 663552000 → Within (negsuc 663551999) 1327104000 v
globe_y (pos k) h = record { starts = omega arith; ends = omega arith }
globe_y (negsuc k) h = record { starts = omega arith; ends = omega arith }

-- so many units about a pole
round_covers : (n : Bool) (h : ℕ) (v : ℤ) → 0 < h → h ≤ 14745600 → index v < 663552000 → side v ≡ n → from_pole v < h → Within (least_from_pole n 0 h) h v
round_covers n h v p q o e k =
    (disc_y n v 0 h p (omega arith) o).1 (e, (let z : 0 ≤ from_pole v = omega arith in z), (let z : from_pole v < 0 + h = omega arith in z))

pub in_covers : (l : ℕ) (ts : List Split) (n : Node) (s : Square) → Good ts n → In n s → Covers (cell_at l n) s
in_covers l ts globe s g i = record { across = whole_turn s.longitude; along = globe_y s.latitude i.latitude_in }
in_covers l ts (pole n) s g i =
    let o : index s.latitude < 663552000 = i.on.latitude_in in
    let k : 648806400 ≤ index s.latitude = i.near in
    record { across = whole_turn s.longitude; along = round_covers n 14745600 s.latitude (omega arith) (omega arith) o i.sees (omega arith) }
in_covers l ts (cell (ordinary n e) b) s g i =
    let h : b.y + b.h ≤ 648806400 = g.fit.high in
    quarter_covers n e b s i.on (cell_positive ts (ordinary n e) b g) g.fit.wide (omega arith) l (i.sees, i.inside)
in_covers l ts (cell (belt n e) b) s g i =
    quarter_covers n e b s i.on (cell_positive ts (belt n e) b g) g.fit.wide g.fit.high l (i.sees, i.inside)
in_covers l ts (cell (disc n) b) s g i =
    let p = cell_positive ts (disc n) b g in
    let fy : b.y + b.h ≤ 7372800 = g.fit.high in
    record {
      across = (disc_x s.longitude b.x b.w p.0 g.fit.wide i.on.longitude_in).1 (i.inside.xl, i.inside.xu);
      along = (disc_y n s.latitude b.y b.h p.1 (omega arith) i.on.latitude_in).1 (i.sees, i.inside.yl, i.inside.yu);
    }
in_covers l ts (cap n h) s g i =
    let p : h ≤ 7372800 = g.fit in
    record { across = whole_turn s.longitude; along = round_covers n h s.latitude (cap_positive ts h g) (omega arith) i.on.latitude_in i.sees i.near }
