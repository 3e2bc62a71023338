-- What is known of the bytes that a writer has and that a reader has left, one step after another.
-- Assumes nothing.
use Rattle.std.specs.Prelude.{◌≡◌, ℕ, List, [], ◌++◌, Option, Some, None, IfSome, Result, Ok, Err, is_ok, OnOk, OnErr}
use Rattle.std.specs.Io.KnownBytes.{Appends, Consumes, IsAtEnd}
use mathlib.Core.Path.{refl, sym}
use mathlib.Core.List.{append-nil, append_assoc}

-- what is known where a call went well holds where its result is handed on with another error
pub on_ok : {T E F : Type 0} (P : Type 0) (r : Result T E) (s : Result T F) → is_ok s ≡ is_ok r → OnOk r P → OnOk s P
on_ok P (Ok x) (Ok y) e p = p
on_ok P (Err x) (Ok y) e p = cc
on_ok P r (Err y) e p = tt

-- what is known anyway is known where it went wrong
pub on_err : {T E : Type 0} (P : Type 0) (r : Result T E) → P → OnErr r P
on_err P (Ok x) p = tt
on_err P (Err y) p = p

pub appends_none : (o : Option (List ℕ)) → Appends o o []
appends_none None = tt
appends_none (Some xs) = sym (append-nil xs)

pub appends_then : (o m n : Option (List ℕ)) (v w : List ℕ) → Appends o m v → Appends m n w → Appends o n (v ++ w)
appends_then None m n v w a b = tt
appends_then (Some xs) None n v w a b = absurd a
appends_then (Some xs) (Some ys) None v w a b = absurd b
appends_then (Some xs) (Some ys) (Some zs) v w a b = rw (b, a) (append_assoc xs v w)

pub consumes_none : (o : Option (List ℕ)) → Consumes o o []
consumes_none None = tt
consumes_none (Some xs) = refl

pub consumes_then : (o m n : Option (List ℕ)) (v w : List ℕ) → Consumes o m v → Consumes m n w → Consumes o n (v ++ w)
consumes_then None m n v w a b = tt
consumes_then (Some xs) None n v w a b = absurd a
consumes_then (Some xs) (Some ys) None v w a b = absurd b
consumes_then (Some xs) (Some ys) (Some zs) v w a b = rw (a, b) (sym (append_assoc v w zs))

-- a reader that is at its end had just what was read of it
pub all_read : (o n : Option (List ℕ)) (v : List ℕ) → Consumes o n v → IsAtEnd n → IfSome o (λ xs. xs ≡ v)
all_read None n v c e = tt
all_read (Some xs) None v c e = absurd c
all_read (Some xs) (Some ys) v c e = rw (e, append-nil v) at c
