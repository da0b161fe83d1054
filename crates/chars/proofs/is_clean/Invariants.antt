-- The sheet is clean if the bytes from i on are, in a comment line or another. Assumes nothing.
use Rattle.std.proofs.Common.{◌≡◌, drop}
use Rattle.chars.specs.Bytes.{clean, clean_in}
use Rattle.chars.proofs.is_clean.Given as goal

abbrev pub invariant-loop-i : goal.invariant-loop-i
invariant-loop-i l = clean l.s ≡ clean_in l.comment (drop l.i l.s)
