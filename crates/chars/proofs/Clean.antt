-- Bytes that may stand where they do, one byte after the other. Assumes nothing.
use Prim.Native.Nat.{ℕ, ◌+◌, ◌<◌, ◌≤◌}
use native.Mathlib.Numerals.{add-one}
use mathlib.Core.Path.{◌≡◌, refl}
use mathlib.Core.Bool.{Bool, true, false, cond, ◌&&◌}
use mathlib.Core.List.{List}
use lib.ListN.{length, get_or, drop, drop_of_length-le}
use lib.Seq.{drop-cons}
use lib.Dec.{eqb}
use Rattle.chars.specs.Bytes.{LF, HASH, begins, may_stand, clean_in}

module _ (s : List ℕ) (i : ℕ) where
  pub begins_at : (b : ℕ) → i < length s → begins b (drop i s) ≡ eqb (get_or s i 0) b
  begins_at b l = rw (drop-cons s i 0 l) refl

  pub begins_past : (b : ℕ) → length s ≤ i → begins b (drop i s) ≡ false
  begins_past b l = rw (drop_of_length-le s {i = i} l) refl

  pub clean_step : (c : Bool) → i < length s → clean_in c (drop i s) ≡ (may_stand c (get_or s i 0) (drop (i + 1) s) && clean_in (cond (eqb (get_or s i 0) LF) (begins HASH (drop (i + 1) s)) c) (drop (i + 1) s))
  unfolding clean_in
  clean_step c l = rw (drop-cons s i 0 l, add-one) refl

  pub clean_past : (c : Bool) → length s ≤ i → clean_in c (drop i s) ≡ true
  unfolding clean_in
  clean_past c l = rw (drop_of_length-le s {i = i} l) refl
