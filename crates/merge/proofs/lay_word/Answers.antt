-- `lay_word` meets its contract. Assumes nothing.
use mathlib.Core.Path.{◌≡◌, refl, subst}
use mathlib.Core.List.{List, [], ◌++◌, append-nil}
use Prim.Native.Nat.{ℕ, ◌+◌, ◌≤◌, ◌<◌}
use native.Mathlib.Omega.{arith}
use lib.ListN.{length}
use Rattle.chars.specs.Pieces.{lines}
use Rattle.parts.specs.Parts.{Grows, section}
use Rattle.merge.proofs.Laying.{laid_word}
use Rattle.merge.proofs.lay_word.Goals as goal

-- the second's parts
theirs : (s t l : List ℕ) (n : ℕ) (l' : List ℕ) (r : ℕ) (w : List ℕ)
    → ((cut : ℕ) (b z : List ℕ) → length b ≡ length s → (cut < length s + length t → cut ≤ length s) → Grows cut (b ++ (t ++ z)) l n l' r (section w (lines t)))
    → Grows (length s) (s ++ t) l n l' r (section w (lines t))
theirs s t l n l' r w g = subst (λ (x : List ℕ). Grows (length s) (s ++ x) l n l' r (section w (lines t))) (append-nil t) (g (length s) s [] refl (λ h. omega arith))

pub sections-own-requires : goal.sections-own-requires
sections-own-requires c =
    let p = c.requires in
    record { base_bound = (p.first_len_bound.0, p.first_len_bound.1); s_in_bounds = omega (arith, p.second_in_bounds) }

pub sections-new-requires : goal.sections-new-requires
sections-new-requires c =
    let p = c.requires in
    let s = c.args.first.now in
    let t = c.args.second.now in
    let x = c.sections-own in
    let G = theirs s t c.args.list.now c.args.n x.new.list x.result c.args.word.now x.ensures in
    let g = G.longer in
    let k = x.auto.list in
    record { base_bound = (omega arith, p.first_len_bound.0); s_in_bounds = omega (arith, p.second_in_bounds) }

pub gather-end-requires : goal.gather-end-requires
gather-end-requires c =
    let p = c.requires in
    let s = c.args.first.now in
    let t = c.args.second.now in
    let x = c.sections-own in
    let G = theirs s t c.args.list.now c.args.n x.new.list x.result c.args.word.now x.ensures in
    let y = c.sections-new in
    let H = y.ensures (length s) [] t refl (λ h. absurd (omega arith)) in
    let g = G.longer in
    let h = H.longer in
    let k = x.auto.list in
    let j = y.auto.list in
    record { inside = H.inside (G.inside p.inside); lo_le_hi = (omega arith, omega arith, omega arith, omega (arith, p.second_in_bounds)) }

pub returns : goal.returns
returns c =
    let p = c.requires in
    let s = c.args.first.now in
    let t = c.args.second.now in
    let x = c.sections-own in
    let G = theirs s t c.args.list.now c.args.n x.new.list x.result c.args.word.now x.ensures in
    let y = c.sections-new in
    let H = y.ensures (length s) [] t refl (λ h. absurd (omega arith)) in
    let z = c.gather-end in
    laid_word (length s) (s ++ t) c.args.list.now x.new.list y.new.list z.new.list (record { lo = c.args.n; own = x.result; new = y.result; end = z.result }) _ _ G H z.ensures
