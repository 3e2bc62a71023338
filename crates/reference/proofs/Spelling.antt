-- A reference code to its reader: a base's code and three characters behind it. What the reader makes of them is what the rules form.
-- Assumes nothing.
use mathlib.Core.Path.{◌≡◌, refl, sym, ◌∙◌, ap, subst}
use mathlib.Core.Bool.{Bool, true, false}
use mathlib.Core.List.{List, [], ◌∷◌, ◌++◌}
use Prim.Native.Nat.{ℕ, suc, ◌+◌, ◌-◌, ◌≤◌, ◌<◌}
use native.Mathlib.Nat.{add-zero}
use native.Mathlib.Omega.{arith}
use lib.Dec.{leb, eqb}
use lib.ListN.{length, take, drop, get_or, length-append, take-append-drop, drop_of_length-le}
use lib.Seq.{take_at, drop-cons, get_or-append-add}
use borrow.Author.Tests.{leb-true, leb-false, eqb-true}
use Rattle.std.proofs.Common.{Option, Some, None, SomeIff, Result, Ok, Err, ok_or}
use Rattle.grid.specs.declared.Cell.{Cell}
use Rattle.grid.specs.declared.Refusal.{Refusal}
use Rattle.grid.specs.Characters.{char_of, digit_of}
use Rattle.grid.specs.Answers.{Answer, accepted, refused, and_then, wrong_length}
use Rattle.grid.specs.Codes.{read_in}
use Rattle.grid.specs.Plane.{cell_of}
use Rattle.grid.proofs.Answers.{then_refused, accepted_inj, unless_accepted, then_from}
use Rattle.grid.proofs.Cut.{clash}
use Rattle.grid.proofs.Characters.{digit_char, char_digit}
use Rattle.reference.specs.Offsets.{offset_digit}
use Rattle.reference.specs.Text.{reference_code, Aim, target_of, offset_in, aimed, aimed_at, aim_of, target_text}
use Rattle.reference.specs.Meaning.{Formed}
use Rattle.reference.specs.inner.Parts.{target_from}
use Rattle.reference.proofs.Numbers.{digit_fits}

-- ---- a code and three characters behind it

abbrev pub behind : List ℕ → ℕ → ℕ → ℕ → List ℕ
behind w h m n = w ++ (h ∷ m ∷ n ∷ [])

pub get_d_behind : (w : List ℕ) (h m n i : ℕ) → get_or (behind w h m n) (length w + i) 0 ≡ get_or (h ∷ m ∷ n ∷ []) i 0
get_d_behind w h m n i = get_or-append-add w (h ∷ m ∷ n ∷ []) i 0

pub base_length : (w : List ℕ) (h m n : ℕ) → length (behind w h m n) - 3 ≡ length w
base_length w h m n = ap (λ (i : ℕ). i - 3) (length-append w (h ∷ m ∷ n ∷ [])) ∙ (let z : length w + 3 - 3 ≡ length w = omega arith in z)

pub read_behind : (w : List ℕ) (h m n : ℕ) → aim_of (behind w h m n) ≡ aimed (length w) h m n (cell_of w)
read_behind w h m n =
    let r = behind w h m n in
    let l : length r - 3 ≡ length w = base_length w h m n in
    let a : get_or r (length w) 0 ≡ h = ap (λ (i : ℕ). get_or r i 0) (sym (add-zero (length w))) ∙ get_d_behind w h m n 0 in
    rw (l, a, get_d_behind w h m n 1, get_d_behind w h m n 2, take_at w (h ∷ m ∷ n ∷ []) (length w) refl) refl

pub three_behind : (w : List ℕ) (k : ℕ) → k + 3 ≡ length w → behind (take k w) (get_or w k 0) (get_or w (k + 1) 0) (get_or w (k + 2) 0) ≡ w
three_behind w k h =
    let one : k + 1 ≡ suc k = omega arith in
    let two : k + 2 ≡ suc (suc k) = omega arith in
    let none : drop (suc (suc (suc k))) w ≡ [] = drop_of_length-le w {i = suc (suc (suc k))} (omega arith) in
    let last : drop k w ≡ get_or w k 0 ∷ get_or w (k + 1) 0 ∷ get_or w (k + 2) 0 ∷ [] =
    rw (one, two, drop-cons w k 0 (omega arith), drop-cons w (suc k) 0 (omega arith), drop-cons w (suc (suc k)) 0 (omega arith), none) refl in
    ap (λ (x : List ℕ). take k w ++ x) (sym last) ∙ take-append-drop k w

-- ---- no reference code has fewer than three characters

empty_refused : cell_of [] ≡ refused wrong_length
unfolding cell_of read_in
empty_refused = refl

short_six : (w : List ℕ) → length w < 3 → aim_of w ≡ refused wrong_length
short_six w h =
    let z : length w - 3 ≡ 0 = omega arith in
    rw (z, empty_refused) refl

pub too_short : (w : List ℕ) {r : Refusal} → length w < 3 → r ≡ wrong_length → refused r ≡ target_text w
unfolding target_text
too_short w h q = ap refused q ∙ then_refused target_of (short_six w h)

-- what `checked_sub` and `ok_or` make of a length: 3 less, or a refusal
pub less_three : (n k : ℕ) (o : Option ℕ) (q : Refusal) {r : Result ℕ Refusal} → SomeIff o (3 ≤ n) (n - 3) → r ≡ ok_or o q → r ≡ Ok k → (3 ≤ n) × (k ≡ n - 3)
less_three n k (Some x) q h e f = let g : ◌≡◌ {A = Result ℕ Refusal} (Ok x) (Ok k) = sym e ∙ f in (h.0, (let z : x ≡ k = cc in sym z ∙ h.1))
less_three n k None q h e f = clash (let g : ◌≡◌ {A = Result ℕ Refusal} (Err q) (Ok k) = sym e ∙ f in cc)

pub no_three : (n : ℕ) (o : Option ℕ) (q f : Refusal) {r : Result ℕ Refusal} → SomeIff o (3 ≤ n) (n - 3) → r ≡ ok_or o q → r ≡ Err f → (n < 3) × (f ≡ q)
no_three n (Some x) q f h e g = clash (let z : ◌≡◌ {A = Result ℕ Refusal} (Ok x) (Err f) = sym e ∙ g in cc)
no_three n None q f h e g = let z : ◌≡◌ {A = Result ℕ Refusal} (Err q) (Err f) = sym e ∙ g in (omega (arith, h), cc)

-- the base of a code is its first k characters
pub read_at : (w : List ℕ) (k : ℕ) → k ≡ length w - 3 → and_then (aimed_at w k) target_of ≡ target_text w
unfolding target_text
read_at w k e = ap (λ (i : ℕ). and_then (aimed_at w i) target_of) e

-- ---- what is read is formed by the rules, and what is so formed is read

-- a base's code, M and N
abbrev pub formed : (w : List ℕ) (b : Cell) (m n : ℕ) → cell_of w ≡ accepted b → offset_digit m ≡ true → offset_digit n ≡ true → Formed (reference_code w m n)
formed w b m n e hm hn = record { base = w; from = b; m = m; n = n; form = refl; read_base = e; east = hm; north = hn }

-- its first characters are its base's
pub formed_start : (w : List ℕ) (f : Formed w) → take (length w - 3) w ≡ f.base
formed_start w f =
    let r = reference_code f.base f.m f.n in
    ap (λ (x : List ℕ). take (length x - 3) x) (sym f.form)
    ∙ ap (λ (i : ℕ). take i r) (base_length f.base 45 (char_of f.m) (char_of f.n))
    ∙ take_at f.base (45 ∷ char_of f.m ∷ char_of f.n ∷ []) (length f.base) refl

-- the parts of a code that is formed
abbrev pub parts : {w : List ℕ} → Formed w → Aim
parts f = record { from = f.from; m = f.m; n = f.n }

pub read_formed : (w : List ℕ) (f : Formed w) → aim_of w ≡ accepted (parts f)
unfolding offset_in
read_formed w f =
    let lm : f.m ≤ 16 = digit_fits f.m f.east in
    let ln : f.n ≤ 16 = digit_fits f.n f.north in
    ap aim_of (sym f.form) ∙ read_behind f.base 45 (char_of f.m) (char_of f.n)
    ∙ rw (f.read_base, digit_char f.m (omega arith), digit_char f.n (omega arith), f.east, f.north) refl

-- three characters that are read as M and N
pub record AsOffset (h m n u v : ℕ) : Type 0 where
  pub hyphen : h ≡ 45
  pub m_is : digit_of m ≡ u
  pub n_is : digit_of n ≡ v
  pub east : offset_digit u ≡ true
  pub north : offset_digit v ≡ true

pub as_offset : (k h m n : ℕ) (o : ℕ × ℕ) → offset_in k h m n ≡ accepted o → AsOffset h m n o.0 o.1
unfolding offset_in
as_offset k h m n o e =
    let p = unless_accepted (eqb h 45) _ _ o e in
    let q = unless_accepted (offset_digit (digit_of m)) _ _ o p.1 in
    let r = unless_accepted (offset_digit (digit_of n)) _ _ o q.1 in
    subst (λ (x : ℕ × ℕ). AsOffset h m n x.0 x.1) (accepted_inj r.1)
    (record { hyphen = eqb-true h 45 p.0; m_is = refl; n_is = refl; east = q.0; north = r.0 })

-- they are, wherever they stand
offset_anywhere : (j k h m n : ℕ) (o : ℕ × ℕ) → offset_in k h m n ≡ accepted o → offset_in j h m n ≡ accepted o
unfolding offset_in
offset_anywhere j k h m n o e = let d = as_offset k h m n o e in rw (d.hyphen, d.m_is, d.n_is, d.east, d.north) refl

-- and lead from a base's code to what the reference code of both leads to
pub target_behind : (w : List ℕ) (k h m n : ℕ) (o : ℕ × ℕ) → offset_in k h m n ≡ accepted o → target_text (behind w h m n) ≡ target_from (cell_of w) o.0 o.1
unfolding target_text
target_behind w k h m n o e = ap (λ (a : Answer Aim). and_then a target_of) (read_behind w h m n) ∙ go (cell_of w)
  where
    go : (x : Answer Cell) → and_then (aimed (length w) h m n x) target_of ≡ target_from x o.0 o.1
    go (accepted b) = rw (offset_anywhere (length w) k h m n o e) refl
    go (refused r) = refl

aimed_of : (k h m n : ℕ) (x : Answer Cell) (a : Aim) → aimed k h m n x ≡ accepted a → (x ≡ accepted a.from) × AsOffset h m n a.m a.n
aimed_of k h m n x a e =
    let b = then_from x _ a e in
    let o = then_from (offset_in k h m n) _ a b.2 in
    subst (λ (y : Aim). (x ≡ accepted y.from) × AsOffset h m n y.m y.n) (accepted_inj o.2) (b.1, as_offset k h m n o.0 o.1)

long_enough : (w : List ℕ) (a : Aim) → aim_of w ≡ accepted a → length w - 3 + 3 ≡ length w
long_enough w a e = go (leb 3 (length w)) refl
  where
    go : (q : Bool) → leb 3 (length w) ≡ q → length w - 3 + 3 ≡ length w
    go true p = let h : 3 ≤ length w = leb-true 3 (length w) p in omega arith
    go false p = let z = short_six w (leb-false 3 (length w) p) in clash (cc)

pub formed_of : (w : List ℕ) (a : Aim) → aim_of w ≡ accepted a → (f : Formed w) × (parts f ≡ a)
formed_of w a e =
    let k = length w - 3 in
    let x = get_or w (k + 1) 0 in
    let y = get_or w (k + 2) 0 in
    let v = aimed_of k (get_or w k 0) x y (cell_of (take k w)) a e in
    let d = v.1 in
    let lm : a.m ≤ 16 = digit_fits _ d.east in
    let ln : a.n ≤ 16 = digit_fits _ d.north in
    let px : char_of a.m ≡ x = ap char_of (sym d.m_is) ∙ char_digit x (rw d.m_is (omega arith)) in
    let py : char_of a.n ≡ y = ap char_of (sym d.n_is) ∙ char_digit y (rw d.n_is (omega arith)) in (
      record {
        base = take k w;
        from = a.from;
        m = a.m;
        n = a.n;
        form = rw (px, py, ← d.hyphen) (three_behind w k (long_enough w a e));
        read_base = v.0;
        east = d.east;
        north = d.north;
      },
      refl {a = a},
    )
