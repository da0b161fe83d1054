-- `clear` meets its contract. Assumes nothing.
use Prim.Native.Nat.{ℕ, ◌+◌, ◌-◌, ◌≤◌}
use borrow.Author.Rules.{rules}
use native.Mathlib.Omega.{arith}
use mathlib.Core.Path.{◌≡◌, refl, sym, ap, ◌∙◌}
use mathlib.Core.List.{List, ◌++◌}
use lib.ListN.{length, get_or, take, drop, get_or-append}
use Rattle.std.proofs.lemmas.List.{get_or-drop, get_or-append-add, length-take-le}
use Rattle.marking.proofs.clear.Goals as goal

-- Words put in front of those past the first n.
front : (xs ts : List ℕ) (n k : ℕ) → length xs ≡ n → n ≤ k → get_or (xs ++ drop n ts) k 0 ≡ get_or ts k 0
front xs ts n k e l =
    let f : length xs + (k - n) ≡ k = omega arith in
    let g : n + (k - n) ≡ k = omega arith in
    ap (λ (i : ℕ). get_or (xs ++ drop n ts) i 0) (sym f) ∙ get_or-append-add xs (drop n ts) (k - n) 0 ∙ get_or-drop n ts (k - n) 0 ∙ ap (λ (i : ℕ). get_or ts i 0) g

pub returns : goal.returns
returns c =
    let front_size : length (take 4096 c.args.table.now) ≡ 4096 = length-take-le 4096 c.args.table.now c.requires in
    let size : length c.fill.new.self ≡ 4096 = c.fill.ensures.len ∙ front_size in
    record {
      size = search rules;
      none = λ n l. get_or-append c.fill.new.self _ 0 n (omega arith) ∙ c.fill.ensures.clones n 0 (omega arith) refl;
      past = λ n l. front c.fill.new.self c.args.table.now 4096 n size l;
    }
