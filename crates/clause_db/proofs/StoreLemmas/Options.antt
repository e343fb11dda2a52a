-- What is said of a result that is there or not.
use Rattle.std.proofs.Common.{◌≡◌, ℕ, Option, Some, None, IfSome, IfNone, arith}

pub if_none_then : {T : Type 0} (o : Option T) {P Q : Type 0} → IfNone o P → (P → Q) → IfNone o Q
if_none_then o h f = grind arith

pub if_some_then : (o : Option ℕ) {P Q : ℕ → Type 0} → ((x : ℕ) → P x → Q x) → IfSome o P
    → IfSome o Q
if_some_then o f h = grind arith

pub if_some_from : (o : Option ℕ) (x : ℕ) (P : ℕ → Type 0) → o ≡ Some x → P x → IfSome o P
if_some_from o x P e h = grind arith

pub if_some_from_none : (o : Option ℕ) (P : ℕ → Type 0) → o ≡ None → IfSome o P
if_some_from_none o P e = grind arith

pub if_none_from : (o : Option ℕ) (P : Type 0) → o ≡ None → P → IfNone o P
if_none_from o P e h = grind arith

pub if_none_from_some : (o : Option ℕ) (x : ℕ) (P : Type 0) → o ≡ Some x → IfNone o P
if_none_from_some o x P e = grind arith
