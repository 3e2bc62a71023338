-- What is asked of reference codes: the writer and the reader undo each other, an offset is cells east and cells north,
-- 6, 7 and 20 are given at the right lengths and places, and each answer exactly when its reason holds.
-- Assumes nothing.
use mathlib.Core.Path.{◌≡◌, refl, sym, ◌∙◌, ap, subst}
use mathlib.Core.Bool.{Bool, true, false, cond, ◌&&◌}
use mathlib.Core.List.{List, [], ◌∷◌}
use mathlib.Core.Logic.{◌↔◌, inl, inr}
use Prim.Native.Nat.{ℕ, ◌-◌, ◌≤◌, ◌<◌}
use lib.Dec.{ltb, leb, eqb}
use lib.ListN.{length, take, get_or}
use borrow.Author.Tests.{ltb-true, leb-true, eqb-true, ltb-false, eqb-false, lt-ltb, le-ltb, ne_eqb}
use Rattle.grid.specs.declared.Cell.{Cell}
use Rattle.grid.specs.declared.Refusal.{Refusal}
use Rattle.grid.specs.Units.{POLAR, index}
use Rattle.grid.specs.Characters.{digit_of, code_character}
use Rattle.grid.specs.Answers.{Answer, accepted, refused, refusal, about, unless, and_then, wrong_length, wrong_number, wrong_at}
use Rattle.grid.specs.Places.{among, Accepted, FirstBad, Places}
use Rattle.grid.specs.Splits.{plane_lengths}
use Rattle.grid.specs.Plane.{code_of, cell_of}
use Rattle.grid.proofs.Answers.{then_accepted, then_refused, unless_accepted}
use Rattle.grid.proofs.Cut.{clash, and_true}
use Rattle.grid.proofs.Refusing.{places_of}
use Rattle.grid.proofs.Theorems.{plane_places}
use Rattle.reference.specs.Offsets.{offset_digit}
use Rattle.reference.specs.Text.{HYPHEN, fit, east_span, north_span, reference_code, spelled, spanned, reference_text, target_square, Aim, target_of, aim_of, reference_lengths, target_text}
use Rattle.reference.specs.Meaning.{south_after, OffsetTo, Formed, Leads, CodesOf, WhyWritten, base_six, base_wrong, target_six, target_wrong, eight, nine, ten, an_offset, WhyRead, six, wrong, not_fit, twelve, target}
use Rattle.reference.proofs.Spelling.{formed_start, parts, read_formed, formed_of}
use Rattle.reference.proofs.Places.{less_three, answered, some_code}
use Rattle.reference.proofs.Leading.{related_of, reached, reached_spanned, taken, related_read, leads_of, of_leads, by_latitude, by_offset, found_offset, leads_by}

-- ---- 1: what the writer writes the reader reads back as the target, byte for byte

pub written_read : (base goal w : List ℕ) → reference_text base goal ≡ accepted w → target_text w ≡ accepted goal
unfolding reference_text
written_read base goal w e =
    let r = related_of base (cell_of base) (cell_of goal) w e in
    let s = r.spans in
    let o = found_offset base goal r.base r.target r.read_base r.read_target s.fit_base s.fit_target s.level s.east s.north in
    ap target_text (sym s.same)
    ∙ of_leads _ goal (leads_by base goal r.base r.target r.read_base r.read_target s.fit_base s.fit_target s.level o)

-- ---- 2: a reference code that the reader accepts is the one that the writer gives for its base and its target

pub read_written : (w goal : List ℕ) → target_text w ≡ accepted goal → reference_text (take (length w - 3) w) goal ≡ accepted w
unfolding reference_text
read_written w goal e =
    let a = taken w goal e in
    let f = a.formed in
    let t = reached f.from f.m f.n a.fits f.east f.north a.away in
    ap (λ (x : List ℕ). reference_text x goal) a.starts
    ∙ related_read f.base (cell_of f.base) (cell_of goal) f.from t.cell f.read_base (ap cell_of (sym a.same) ∙ t.read)
    ∙ reached_spanned f.from f.m f.n a.fits f.east f.north a.away f.base
    ∙ ap accepted f.form

-- ---- 3: the reader accepts a code exactly when it is a base, a hyphen and an offset that leads to a target; and that is what it writes

pub leads_exactly_when : (w goal : List ℕ) → (target_text w ≡ accepted goal) ↔ Leads w goal
leads_exactly_when w goal = (leads_of w goal, of_leads w goal)

-- ---- 4: a base and an offset have a target exactly when the latitude that they lead to is ordinary, and get refusal 12 exactly otherwise

unless_refused : (q : Bool) (k : Refusal) (w : List ℕ) (r : Refusal) → unless q k (accepted w) ≡ refused r → q ≡ false
unless_refused true k w r e = clash (cc)
unless_refused false k w r e = refl

module _ (base : List ℕ) (b : Cell) (m n : ℕ) (e : cell_of base ≡ accepted b) (f : fit b ≡ true) (hm : offset_digit m ≡ true) (hn : offset_digit n ≡ true) where
  pub target_exactly_when : ((goal : List ℕ) × (target_text (reference_code base m n) ≡ accepted goal)) ↔ (index (south_after b n) < POLAR)
  target_exactly_when =
      let y = by_latitude base b m n e f hm hn in (
        λ g. ltb-true (index (south_after b n)) POLAR (unless_accepted (ltb (index (south_after b n)) POLAR) _ _ g.0 (sym y ∙ g.1)).0,
        λ h. (code_of b.level (target_square b m n), y ∙ rw (lt-ltb (index (south_after b n)) POLAR h) refl),
      )

  pub refused_exactly_when : (target_text (reference_code base m n) ≡ refused (refusal 12 0)) ↔ (POLAR ≤ index (south_after b n))
  refused_exactly_when =
      let y = by_latitude base b m n e f hm hn in (
        λ g. ltb-false (index (south_after b n)) POLAR (unless_refused (ltb (index (south_after b n)) POLAR) _ _ _ (sym y ∙ g)),
        λ h. y ∙ rw (le-ltb (index (south_after b n)) POLAR h) refl,
      )

-- ---- 5: a base and a target that fit and have one level: any offset that leads there is the one written, and 10 is given exactly when none does

module _ (base goal : List ℕ) (b t : Cell) (eb : cell_of base ≡ accepted b) (et : cell_of goal ≡ accepted t) (f : fit b ≡ true) (g : fit t ≡ true) (l : b.level ≡ t.level) where
  pub offset_written : (o : OffsetTo b t) → reference_text base goal ≡ accepted (reference_code base o.m o.n)
  offset_written o =
      let v = leads_by base goal b t eb et f g l o in
      ap (λ (x : List ℕ). reference_text x goal) (sym (formed_start _ v.formed)) ∙ read_written _ goal (of_leads _ goal v)

  pub beyond_exactly_when : (reference_text base goal ≡ refused (refusal 10 0)) ↔ (OffsetTo b t → ⊥)
  unfolding spelled
  beyond_exactly_when = (
    λ e o. clash (let z : ◌≡◌ {A = Answer (List ℕ)} (accepted (reference_code base o.m o.n)) (refused (refusal 10 0)) = sym (offset_written o) ∙ e in cc),
    λ none. by_offset base goal b t eb et f g l ∙ go (leb (east_span b t) 16 && leb (north_span b t) 16) refl none,
  )
    where
      go : (q : Bool) → (leb (east_span b t) 16 && leb (north_span b t) 16) ≡ q → (OffsetTo b t → ⊥)
          → unless q (refusal 10 0) (accepted (reference_code base (east_span b t) (north_span b t))) ≡ refused (refusal 10 0)
      go true e none =
          let o = and_true (leb (east_span b t) 16) (leb (north_span b t) 16) e in
          absurd (none (found_offset base goal b t eb et f g l (leb-true (east_span b t) 16 o.0) (leb-true (north_span b t) 16 o.1)))
      go false e none = refl

-- ---- 6: reference codes, wherever they lead: their lengths, and the place of refusals 7 and 20

-- what is read as base, M and N is what the rules form
pub formed_exactly_when : (w : List ℕ) → Accepted aim_of w ↔ Formed w
formed_exactly_when w = (λ a. (formed_of w a.0 a.1).0, λ f. (parts f, read_formed w f))

-- 6, 7 and 20 of it exactly when, as of plane codes
pub reference_places : Places aim_of reference_lengths
reference_places = places_of aim_of reference_lengths answered some_code

-- 8 and 12 come after them: a refusal of another number is given exactly when the base, M and N get it
aim_refused : {X : Type 0} (w : List ℕ) (r : Refusal) → among r.number (8 ∷ 12 ∷ []) ≡ false → ((aim_of w ≡ refused r) ↔ X) → ((target_text w ≡ refused r) ↔ X)
unfolding target_text target_of
aim_refused w r other x = (λ e. x.0 (go (aim_of w) e), λ y. sym (then_refused target_of (x.1 y)))
  where
    -- it is 8 or 12
    after : Answer (List ℕ) → Bool
    after (refused r) = among r.number (8 ∷ 12 ∷ [])
    after (accepted w) = false

    later : (p q : Bool) (v : List ℕ) → unless p (refusal 8 0) (unless q (refusal 12 0) (accepted v)) ≡ refused r → ⊥
    later true true v e = clash (cc)
    later true false v e = let z = ap after e in clash (cc)
    later false q v e = let z = ap after e in clash (cc)

    go : (x : Answer Aim) → and_then x target_of ≡ refused r → x ≡ refused r
    go (refused q) e = cc
    go (accepted a) e = absurd (later (fit a.from) (ltb (index (target_square a.from a.m a.n).latitude) POLAR) _ e)

-- the reader gives 6 exactly when the total less 3 is no plane length
pub six_exactly_when : (w : List ℕ) → (target_text w ≡ refused wrong_length) ↔ (among (length w - 3) plane_lengths ≡ false)
six_exactly_when w =
    aim_refused w wrong_length refl
    (subst (λ (q : Bool). (aim_of w ≡ refused wrong_length) ↔ (q ≡ false)) (less_three (length w)) (reference_places.six_exactly_when w))

-- and 7 or 20 at p exactly when p is the first place at which no reference code of that length, wherever it leads, goes on
pub wrong_exactly_when : (w : List ℕ) (p : ℕ) → (target_text w ≡ refused (wrong_at w p)) ↔ FirstBad aim_of w p
unfolding wrong_number
wrong_exactly_when w p = aim_refused w (wrong_at w p) (go (code_character (get_or w p 0))) (reference_places.wrong_exactly_when w p)
  where
    go : (q : Bool) → among (cond q 20 7) (8 ∷ 12 ∷ []) ≡ false
    go true = refl
    go false = refl

-- 7 exactly when the byte there is no code character
pub seven_exactly_when : (w : List ℕ) (p : ℕ) → (target_text w ≡ refused (refusal 7 p)) ↔ (FirstBad aim_of w p × (code_character (get_or w p 0) ≡ false))
seven_exactly_when w p = aim_refused w (refusal 7 p) refl (reference_places.seven_exactly_when w p)

-- 20 exactly when it is one
pub twenty_exactly_when : (w : List ℕ) (p : ℕ) → (target_text w ≡ refused (refusal 20 p)) ↔ (FirstBad aim_of w p × (code_character (get_or w p 0) ≡ true))
twenty_exactly_when w p = aim_refused w (refusal 20 p) refl (reference_places.twenty_exactly_when w p)

-- a hyphen is no code character: anywhere but at its place it is garbled
pub hyphen_garbled : code_character HYPHEN ≡ false
unfolding digit_of
hyphen_garbled = refl

-- ---- 7: each answer exactly when its reason holds, in the paper's order

module _ (base goal : List ℕ) where
  -- the writer's text for two cells that were read
  spans : (b t : Cell) → CodesOf base goal b t → reference_text base goal ≡ spanned base b t
  unfolding reference_text
  spans b t c = related_read base (cell_of base) (cell_of goal) b t c.base_is c.target_is

  not_both : (b t : Cell) → CodesOf base goal b t → (fit b && fit t) ≡ false → reference_text base goal ≡ refused (refusal 8 0)
  unfolding spanned
  not_both b t c p = spans b t c ∙ rw p refl

  not_one_level : (b t : Cell) → CodesOf base goal b t → (fit b && fit t) ≡ true → (b.level ≡ t.level → ⊥) → reference_text base goal ≡ refused (refusal 9 0)
  unfolding spanned
  not_one_level b t c p d = spans b t c ∙ rw (p, ne_eqb b.level t.level d) refl

  because : {t : Answer (List ℕ)} → reference_text base goal ≡ t → WhyWritten base goal t → WhyWritten base goal (reference_text base goal)
  because e y = subst (WhyWritten base goal) (sym e) y

  -- what is answered to the codes of two cells has its reason
  why_spanned : (b t : Cell) → CodesOf base goal b t → WhyWritten base goal (reference_text base goal)
  unfolding spelled
  why_spanned b t c = go (fit b && fit t) refl (eqb b.level t.level) refl (leb (east_span b t) 16 && leb (north_span b t) 16) refl
    where
      go : (p : Bool) → (fit b && fit t) ≡ p → (q : Bool) → eqb b.level t.level ≡ q → (r : Bool) → (leb (east_span b t) 16 && leb (north_span b t) 16) ≡ r
          → WhyWritten base goal (reference_text base goal)
      go false p q d r e = because (not_both b t c p) (eight c p)
      go true p false d r e = because (not_one_level b t c p (eqb-false b.level t.level d)) (nine c p (eqb-false b.level t.level d))
      go true p true d r e = near r e
        where
          x : (fit b ≡ true) × (fit t ≡ true)
          x = and_true (fit b) (fit t) p

          l : b.level ≡ t.level
          l = eqb-true b.level t.level d

          near : (r : Bool) → (leb (east_span b t) 16 && leb (north_span b t) 16) ≡ r → WhyWritten base goal (reference_text base goal)
          near false e =
              let z : reference_text base goal ≡ refused (refusal 10 0) = by_offset base goal b t c.base_is c.target_is x.0 x.1 l ∙ rw e refl in
              because z (ten c p l ((beyond_exactly_when base goal b t c.base_is c.target_is x.0 x.1 l).0 z))
          near true e =
              let y = and_true (leb (east_span b t) 16) (leb (north_span b t) 16) e in
              let o = found_offset base goal b t c.base_is c.target_is x.0 x.1 l (leb-true (east_span b t) 16 y.0) (leb-true (north_span b t) 16 y.1) in
              because (offset_written base goal b t c.base_is c.target_is x.0 x.1 l o) (an_offset c p o)

  -- the base's refusal, or the target's
  base_refused : {r : Refusal} → cell_of base ≡ refused r → reference_text base goal ≡ refused r
  unfolding reference_text
  base_refused e = rw e refl

  target_refused : {r : Refusal} → Accepted cell_of base → cell_of goal ≡ refused r → reference_text base goal ≡ refused (about 2 r)
  unfolding reference_text
  target_refused b e = rw (b.1, e) refl

  why_written : WhyWritten base goal (reference_text base goal)
  why_written = elim (plane_places.accepted_six_or_wrong base) [
    | inl b ↦ elim (plane_places.accepted_six_or_wrong goal) [
      | inl t ↦ why_spanned b.0 t.0 (record { base_is = b.1; target_is = t.1 })
      | inr (inl e) ↦ because (target_refused b e) (target_six b ((plane_places.six_exactly_when goal).0 e))
      | inr (inr e) ↦ because (target_refused b e.1) (target_wrong b ((plane_places.wrong_exactly_when goal e.0).0 e.1))
    ]
    | inr (inl e) ↦ because (base_refused e) (base_six ((plane_places.six_exactly_when base).0 e))
    | inr (inr e) ↦ because (base_refused e.1) (base_wrong ((plane_places.wrong_exactly_when base e.0).0 e.1))
  ]

  -- and what has its reason is answered
  so_written : (t : Answer (List ℕ)) → WhyWritten base goal t → reference_text base goal ≡ t
  so_written _ (base_six n) = base_refused ((plane_places.six_exactly_when base).1 n)
  so_written _ (base_wrong {p} b) = base_refused ((plane_places.wrong_exactly_when base p).1 b)
  so_written _ (target_six a n) = target_refused a ((plane_places.six_exactly_when goal).1 n)
  so_written _ (target_wrong {p} a b) = target_refused a ((plane_places.wrong_exactly_when goal p).1 b)
  so_written _ (eight {b} {t} c p) = not_both b t c p
  so_written _ (nine {b} {t} c p d) = not_one_level b t c p d
  so_written _ (ten {b} {t} c p l none) =
      let x = and_true (fit b) (fit t) p in
      (beyond_exactly_when base goal b t c.base_is c.target_is x.0 x.1 l).1 none
  so_written _ (an_offset {b} {t} c p o) =
      let x = and_true (fit b) (fit t) p in
      offset_written base goal b t c.base_is c.target_is x.0 x.1 (sym o.moves.level) o

  -- the writer's answers
  pub written_exactly_when : (t : Answer (List ℕ)) → (reference_text base goal ≡ t) ↔ WhyWritten base goal t
  written_exactly_when t = (λ e. subst (WhyWritten base goal) e why_written, so_written t)

module _ (w : List ℕ) where
  leads_pole : (f : Formed w) → fit f.from ≡ true → POLAR ≤ index (south_after f.from f.n) → target_text w ≡ refused (refusal 12 0)
  leads_pole f p h = ap target_text (sym f.form) ∙ (refused_exactly_when f.base f.from f.m f.n f.read_base p f.east f.north).1 h

  base_unfit : (f : Formed w) → fit f.from ≡ false → target_text w ≡ refused (refusal 8 0)
  unfolding target_text target_of
  base_unfit f p = sym (then_accepted target_of (read_formed w f)) ∙ rw p refl

  why_formed : Formed w → WhyRead w (target_text w)
  why_formed f = go (fit f.from) refl (ltb (index (south_after f.from f.n)) POLAR) refl
    where
      go : (p : Bool) → fit f.from ≡ p → (q : Bool) → ltb (index (south_after f.from f.n)) POLAR ≡ q → WhyRead w (target_text w)
      go false p q d = subst (WhyRead w) (sym (base_unfit f p)) (not_fit f p)
      go true p false d =
          let h = ltb-false (index (south_after f.from f.n)) POLAR d in
          subst (WhyRead w) (sym (leads_pole f p h)) (twelve f p h)
      go true p true d =
          let g = (target_exactly_when f.base f.from f.m f.n f.read_base p f.east f.north).1 (ltb-true (index (south_after f.from f.n)) POLAR d) in
          let e : target_text w ≡ accepted g.0 = ap target_text (sym f.form) ∙ g.1 in
          subst (WhyRead w) (sym e) (target (leads_of w g.0 e))

  why_read : WhyRead w (target_text w)
  unfolding target_text
  why_read = elim (reference_places.accepted_six_or_wrong w) [
    | inl a ↦ why_formed (formed_of w a.0 a.1).0
    | inr (inl e) ↦ (let z = then_refused target_of e in subst (WhyRead w) z (six ((six_exactly_when w).0 (sym z))))
    | inr (inr e) ↦ (let z = then_refused target_of e.1 in subst (WhyRead w) z (wrong ((wrong_exactly_when w e.0).0 (sym z))))
  ]

  so_read : (t : Answer (List ℕ)) → WhyRead w t → target_text w ≡ t
  so_read _ (six n) = (six_exactly_when w).1 n
  so_read _ (wrong {p} b) = (wrong_exactly_when w p).1 b
  so_read _ (not_fit f p) = base_unfit f p
  so_read _ (twelve f p h) = leads_pole f p h
  so_read _ (target {goal} l) = of_leads w goal l

  -- the reader's answers
  pub read_exactly_when : (t : Answer (List ℕ)) → (target_text w ≡ t) ↔ WhyRead w t
  read_exactly_when t = (λ e. subst (WhyRead w) e why_read, so_read t)
