-- Where an offset leads: what the writer finds the reader leads back to, and what the reader leads to the writer finds.
-- Assumes nothing.
use mathlib.Core.Path.{◌≡◌, refl, sym, ◌∙◌, ap, subst}
use mathlib.Core.Bool.{true, ◌&&◌}
use mathlib.Core.List.{List}
use Prim.Native.Nat.{ℕ, ◌-◌, ◌≤◌, ◌<◌, ◌∣◌}
use lib.Dec.{ltb, leb, eqb}
use lib.IntN.{ℤ}
use lib.ListN.{length, take}
use borrow.Author.Tests.{ltb-true, leb-true, eqb-true, lt-ltb, le-leb, eq-eqb}
use Rattle.grid.specs.declared.Cell.{Cell}
use Rattle.grid.specs.Units.{POLAR, index, Square}
use Rattle.grid.specs.Answers.{Answer, accepted, refused, refusal, unless}
use Rattle.grid.specs.Cells.{around}
use Rattle.grid.specs.Splits.{split_at}
use Rattle.grid.specs.Plane.{longitude_at, code_of, cell_of}
use Rattle.grid.proofs.Answers.{then_accepted, accepted_inj, unless_accepted, then_from}
use Rattle.grid.proofs.Cut.{clash, and_true}
use Rattle.reference.specs.Offsets.{offset_digit, moved_to, moved}
use Rattle.reference.specs.Text.{fit, east_span, north_span, reference_code, spelled, spanned, related, reference_text, target_square, Aim, target_of, aim_of, target_text}
use Rattle.reference.specs.Meaning.{south_after, MovedBy, OffsetTo, Formed, Leads}
use Rattle.reference.proofs.Numbers.{longitude_at_around, around_moved, digit_fits, moved_sum, span_of_moved, span_leads}
use Rattle.reference.proofs.Corners.{Fit, fit_of, to_fit, corner, corner_code, Target, target}
use Rattle.reference.proofs.Spelling.{formed, formed_start, read_formed, formed_of}

-- ---- what a text that is written says of the tests before it

-- the writer gives the reference code r
pub record Spanned (w : List ℕ) (b t : Cell) (r : List ℕ) : Type 0 where
  pub fit_base : fit b ≡ true
  pub fit_target : fit t ≡ true
  pub level : b.level ≡ t.level
  pub east : east_span b t ≤ 16
  pub north : north_span b t ≤ 16
  pub same : reference_code w (east_span b t) (north_span b t) ≡ r

spanned_of : (w : List ℕ) (b t : Cell) (r : List ℕ) → spanned w b t ≡ accepted r → Spanned w b t r
unfolding spanned spelled
spanned_of w b t r e =
    let a = unless_accepted (fit b && fit t) _ _ r e in
    let f = and_true (fit b) (fit t) a.0 in
    let l = unless_accepted (eqb b.level t.level) _ _ r a.1 in
    let s = unless_accepted (leb (east_span b t) 16 && leb (north_span b t) 16) _ _ r l.1 in
    let o = and_true (leb (east_span b t) 16) (leb (north_span b t) 16) s.0 in
    record {
      fit_base = f.0;
      fit_target = f.1;
      level = eqb-true b.level t.level l.0;
      east = leb-true (east_span b t) 16 o.0;
      north = leb-true (north_span b t) 16 o.1;
      same = accepted_inj s.1;
    }

to_spanned : (w : List ℕ) (b t : Cell) (r : List ℕ) → Spanned w b t r → spanned w b t ≡ accepted r
unfolding spanned spelled
to_spanned w b t r s =
    rw (s.fit_base, s.fit_target, eq-eqb b.level t.level s.level, le-leb (east_span b t) 16 s.east, le-leb (north_span b t) 16 s.north)
    (ap accepted s.same)

pub record Related (w : List ℕ) (x y : Answer Cell) (r : List ℕ) : Type 0 where
  pub base : Cell
  pub target : Cell
  pub read_base : x ≡ accepted base
  pub read_target : y ≡ accepted target
  pub spans : Spanned w base target r

pub related_of : (w : List ℕ) (x y : Answer Cell) (r : List ℕ) → related w x y ≡ accepted r → Related w x y r
related_of w (refused q) y r e = clash (cc)
related_of w (accepted b) (refused q) r e = clash (cc)
related_of w (accepted b) (accepted t) r e = record { base = b; target = t; read_base = refl; read_target = refl; spans = spanned_of w b t r e }

-- ---- the offset that the writer finds leads to the target

module _ (b t : Cell) (fb : Fit b) (ft : Fit t) (l : b.level ≡ t.level) (he : east_span b t ≤ 16) (hn : north_span b t ≤ 16) where
  same_width : b.width ≡ t.width
  same_width = fb.wide ∙ ap (λ (i : ℕ). (split_at (i - 1)).width) l ∙ sym ft.wide

  same_height : b.height ≡ t.height
  same_height = fb.high ∙ ap (λ (i : ℕ). (split_at (i - 1)).height) l ∙ sym ft.high

  pub east_leads : (offset_digit (east_span b t) ≡ true) × (moved b.width (east_span b t) b.west ≡ t.west)
  east_leads =
      let E = fb.east in
      let a = span_leads b.width E.some E.small E.turn b.west t.west E.whole (subst (λ (x : ℕ). x ∣ around t.west) (sym same_width) ft.east.whole) he in
      (a.0, ap longitude_at a.1 ∙ longitude_at_around t.west ft.east.within)

  pub north_leads : (offset_digit (north_span b t) ≡ true) × (moved b.height (north_span b t) b.south ≡ t.south)
  north_leads =
      let N = fb.north in
      let a = span_leads b.height N.some N.small N.turn b.south t.south N.whole (subst (λ (x : ℕ). x ∣ around t.south) (sym same_height) ft.north.whole) hn in
      (a.0, ap longitude_at a.1 ∙ longitude_at_around t.south ft.north.within)

  pub moves_there : MovedBy b t (east_span b t) (north_span b t)
  unfolding moved_to
  moves_there =
      let N = fb.north in
      record {
        level = sym l;
        width = sym same_width;
        height = sym same_height;
        west = ap around (sym east_leads.1) ∙ around_moved b.width (east_span b t) b.west;
        south = sym north_leads.1 ∙ moved_sum b.height N.some N.small (north_span b t) b.south north_leads.0 fb.south_in;
      }

  abbrev pub found : OffsetTo b t
  found = record { m = east_span b t; n = north_span b t; east = east_leads.0; north = north_leads.0; moves = moves_there }

-- ---- the offset to what the reader leads to is the one that was read

module _ (b : Cell) (m n : ℕ) (f : Fit b) (hm : offset_digit m ≡ true) (hn : offset_digit n ≡ true) (away : index (target_square b m n).latitude < 648806400) where
  pub reached : Target b m n f hm hn away
  reached = target b m n f hm hn away

  reached_east : east_span b reached.cell ≡ m
  reached_east =
      let E = f.east in
      span_of_moved b.width E.some E.small m b.west reached.cell.west hm (ap around reached.west ∙ around_moved b.width m b.west)

  reached_north : north_span b reached.cell ≡ n
  reached_north =
      let N = f.north in
      span_of_moved b.height N.some N.small n b.south reached.cell.south hn (ap around reached.south ∙ around_moved b.height n b.south)

  pub reached_spanned : (w : List ℕ) → spanned w b reached.cell ≡ accepted (reference_code w m n)
  reached_spanned w =
      to_spanned w b reached.cell (reference_code w m n)
      (record {
        fit_base = to_fit b f;
        fit_target = to_fit reached.cell reached.fit;
        level = sym reached.level;
        east = rw reached_east (digit_fits m hm);
        north = rw reached_north (digit_fits n hn);
        same = rw (reached_east, reached_north) refl;
      })

  -- the target's cell is the base's, moved
  reached_moved : MovedBy b reached.cell m n
  unfolding moved_to
  reached_moved =
      let N = f.north in
      record {
        level = reached.level;
        width = reached.wide;
        height = reached.high;
        west = ap around reached.west ∙ around_moved b.width m b.west;
        south = reached.south ∙ moved_sum b.height N.some N.small n b.south hn f.south_in;
      }

-- what the reader's text says of the code
pub record Taken (w goal : List ℕ) : Type 0 where
  pub formed : Formed w
  pub starts : take (length w - 3) w ≡ formed.base
  pub fits : Fit formed.from
  pub away : index (target_square formed.from formed.m formed.n).latitude < 648806400
  pub same : code_of formed.from.level (target_square formed.from formed.m formed.n) ≡ goal

pub taken : (w goal : List ℕ) → target_text w ≡ accepted goal → Taken w goal
unfolding target_text target_of
taken w goal e =
    let x = then_from (aim_of w) target_of goal e in
    let g = formed_of w x.0 x.1 in
    let f = g.0 in
    let b = unless_accepted (fit f.from) _ _ goal (subst (λ (a : Aim). target_of a ≡ accepted goal) (sym g.1) x.2) in
    let c = unless_accepted (ltb (index (target_square f.from f.m f.n).latitude) POLAR) _ _ goal b.1 in
    record {
      formed = f;
      starts = formed_start w f;
      fits = fit_of f.base f.from f.read_base b.0;
      away = ltb-true _ POLAR c.0;
      same = accepted_inj c.1;
    }

-- the writer's text for two cells that were read
pub related_read : (w : List ℕ) (x y : Answer Cell) (b t : Cell) → x ≡ accepted b → y ≡ accepted t → related w x y ≡ spanned w b t
related_read w x y b t p q = rw (p, q) refl

-- ---- the reader accepts a code that leads to a target, and no other

pub leads_of : (w goal : List ℕ) → target_text w ≡ accepted goal → Leads w goal
leads_of w goal e =
    let a = taken w goal e in
    let f = a.formed in
    let t = reached f.from f.m f.n a.fits f.east f.north a.away in
    record {
      formed = f;
      to = t.cell;
      read_goal = ap cell_of (sym a.same) ∙ t.read;
      fit_base = to_fit f.from a.fits;
      fit_goal = to_fit t.cell t.fit;
      moves = reached_moved f.from f.m f.n a.fits f.east f.north a.away;
    }

-- a base moved to a target: the square that is read is the target's corner
moved_text : (b t : Cell) (m n : ℕ) (w : List ℕ) → Fit b → Fit t → offset_digit m ≡ true → offset_digit n ≡ true → MovedBy b t m n → cell_of w ≡ accepted t → target_of (record { from = b; m = m; n = n }) ≡ accepted w
unfolding target_of moved_to
moved_text b t m n w fb ft hm hn v e =
    let N = fb.north in
    let x : moved b.width m b.west ≡ t.west = ap longitude_at (sym v.west) ∙ longitude_at_around t.west ft.east.within in
    let y : moved b.height n b.south ≡ t.south = moved_sum b.height N.some N.small n b.south hn fb.south_in ∙ sym v.south in
    let s : target_square b m n ≡ corner t = λ i. record { longitude = x i; latitude = y i } in
    rw (to_fit b fb)
    (subst (λ (q : Square). unless (ltb (index q.latitude) POLAR) (refusal 12 0) (accepted (code_of b.level q)) ≡ accepted w) (sym s)
    (rw (lt-ltb (index t.south) POLAR ft.south_in, ← v.level) (ap accepted (sym (corner_code w t e ft)))))

pub of_leads : (w goal : List ℕ) → Leads w goal → target_text w ≡ accepted goal
unfolding target_text
of_leads w goal l =
    let f = l.formed in
    sym (then_accepted target_of (read_formed w f))
    ∙ moved_text f.from l.to f.m f.n goal (fit_of f.base f.from f.read_base l.fit_base) (fit_of goal l.to l.read_goal l.fit_goal) f.east f.north l.moves l.read_goal

-- ---- a base and an offset

module _ (base : List ℕ) (b : Cell) (m n : ℕ) (e : cell_of base ≡ accepted b) (f : fit b ≡ true) (hm : offset_digit m ≡ true) (hn : offset_digit n ≡ true) where
  pub by_latitude : target_text (reference_code base m n) ≡ unless (ltb (index (south_after b n)) POLAR) (refusal 12 0) (accepted (code_of b.level (target_square b m n)))
  unfolding target_text target_of
  by_latitude =
      let F = fit_of base b e f in
      let N = F.north in
      let y : moved b.height n b.south ≡ south_after b n = moved_sum b.height N.some N.small n b.south hn F.south_in in
      sym (then_accepted target_of (read_formed _ (formed base b m n e hm hn)))
      ∙ rw f (ap (λ (z : ℤ). unless (ltb (index z) POLAR) (refusal 12 0) (accepted (code_of b.level (target_square b m n)))) y)

-- ---- a base and a target

module _ (base goal : List ℕ) (b t : Cell) (eb : cell_of base ≡ accepted b) (et : cell_of goal ≡ accepted t) (f : fit b ≡ true) (g : fit t ≡ true) (l : b.level ≡ t.level) where
  pub by_offset : reference_text base goal ≡ spelled base b t
  unfolding reference_text spanned
  by_offset = related_read base (cell_of base) (cell_of goal) b t eb et ∙ rw (f, g, eq-eqb b.level t.level l) refl

  -- the offset that the writer finds
  abbrev pub found_offset : east_span b t ≤ 16 → north_span b t ≤ 16 → OffsetTo b t
  found_offset = found b t (fit_of base b eb f) (fit_of goal t et g) l

  -- one that leads there
  abbrev pub leads_by : (o : OffsetTo b t) → Leads (reference_code base o.m o.n) goal
  leads_by o = record { formed = formed base b o.m o.n eb o.east o.north; to = t; read_goal = et; fit_base = f; fit_goal = g; moves = o.moves }
