-- `lines::put_decimal`, which calls itself, meets its contract. Assumes nothing.
use Rattle.std.proofs.Common.{ℕ, ◌+◌, ◌/◌, ◌%◌, ◌^◌, ◌≤◌, ◌<◌, arith, List, length, set}
use Rattle.lines.specs.Text.{decimal_of}
use Rattle.lines.specs.inner.Buffers.{Laid}
use Rattle.lines.proofs.Laying.{laid_byte, laid_then, laid_length, laid_room, one_digit, nineteen, more_digits}
use Rattle.lines.proofs.+put_decimal.Goals as goal

-- one digit, laid down
small : (l : List ℕ) (at n : ℕ) → n < 10 → Laid l at (decimal_of n) (at + 1) (set l at (48 + n))
small l at n h = rw (one_digit n h) (laid_byte l at (48 + n))

-- the digits of the tenth, and then the last one
more : (l m : List ℕ) (at mid n : ℕ) → n < 2 ^ 64 → 10 ≤ n → Laid l at (decimal_of (n / 10)) mid m → Laid l at (decimal_of n) (mid + 1) (set m mid (48 + n % 10))
more l m at mid n f h p = rw (more_digits n f h) (laid_then p (laid_byte m mid (48 + n % 10)))

-- the last one finds room
room : (l m : List ℕ) (at mid n : ℕ) → n < 2 ^ 64 → at + 20 ≤ length l → Laid l at (decimal_of (n / 10)) mid m → mid < length m
room l m at mid n f h p = omega (arith, laid_room p 19 1 (nineteen n f) h)

pub returns-then-n-lt10 : goal.returns-then-n-lt10
returns-then-n-lt10 t c = small _ _ _ c.if-n-lt10.true

pub bounds-out-end : goal.bounds-out-end
bounds-out-end t c = room _ _ _ _ c.args.n c.ranges.n.fits c.requires c.put_decimal-end.ensures

pub overflow_add-result-2 : goal.overflow_add-result-2
overflow_add-result-2 t c =
    let h = room _ _ _ _ c.args.n c.ranges.n.fits c.requires c.put_decimal-end.ensures in
    record { fits = omega (arith, h, laid_length c.put_decimal-end.ensures, c.well_formed) }

pub returns : goal.returns
returns t c = more _ _ _ _ c.args.n c.ranges.n.fits c.if-n-lt10.false c.put_decimal-end.ensures
