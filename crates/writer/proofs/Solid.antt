-- Bytes that part no line and no field, and the lines of a text made of them. Assumes nothing.
use Prim.Native.Nat.{ℕ, suc, ◌+◌, ◌-◌, ◌≤◌, ◌<◌}
use native.Mathlib.Omega.{arith}
use mathlib.Core.Path.{◌≡◌, refl, ap, sym, ◌∙◌}
use mathlib.Core.Bool.{Bool, true, false, cond, not, ◌&&◌, ◌||◌}
use mathlib.Core.List.{List, [], ◌∷◌, ◌++◌, map, append-nil, append_assoc}
use lib.ListN.{length, length-append}
use lib.Seq.{get_or-append_seam}
use lib.Dec.{eqb, leb}
use borrow.Author.Tests.{ne_eqb, not-true, le-leb, leb-true, eqb-true}
use Rattle.steps.proofs.EachBelow.{both}
use Rattle.chars.specs.Bytes.{TAB, LF, CR, HASH, all, begins, sheet_byte, may_stand, clean_in, clean, lower, name_byte, is_name}
use Rattle.chars.specs.Pieces.{lines, bare, pieces}
use Rattle.fields.specs.Book.{joined}
use Rattle.lines.specs.Reader.{ended}
use Rattle.writer.specs.Text.{tabbed}
use Rattle.writer.proofs.Joining.{Free, lines_line, AllFree, none_free, more_free}

-- 33 to 126
unfoldable pub solid : ℕ → Bool
solid x = leb 33 x && leb x 126

abbrev pub Solid : List ℕ → Type 0
Solid l = all solid l ≡ true

pub data AllSolid : List (List ℕ) → Type 0 where
  none_solid : AllSolid []
  more_solid : {f : List ℕ} {fs : List (List ℕ)} → Solid f → AllSolid fs → AllSolid (f ∷ fs)

-- ---- tests of all bytes
and_true : (a b : Bool) → a ≡ true → b ≡ true → (a && b) ≡ true
and_true a b e f = rw (e, f) refl

pub all_weaker : (p q : ℕ → Bool) → ((x : ℕ) → p x ≡ true → q x ≡ true) → (l : List ℕ) → all p l ≡ true → all q l ≡ true
all_weaker p q w [] h = refl
all_weaker p q w (x ∷ xs) h = let (i, j) = both (p x) (all p xs) h in and_true (q x) (all q xs) (w x i) (all_weaker p q w xs j)

pub all_append : (p : ℕ → Bool) (l m : List ℕ) → all p l ≡ true → all p m ≡ true → all p (l ++ m) ≡ true
all_append p [] m h k = k
all_append p (x ∷ xs) m h k = let (i, j) = both (p x) (all p xs) h in and_true (p x) (all p (xs ++ m)) i (all_append p xs m j k)

solid_range : (x : ℕ) → solid x ≡ true → (33 ≤ x) × (x ≤ 126)
unfolding solid
solid_range x h = let (i, j) = both (leb 33 x) (leb x 126) h in (leb-true 33 x i, leb-true x 126 j)

in_range : (x : ℕ) → 33 ≤ x → x ≤ 126 → solid x ≡ true
unfolding solid
in_range x h k = and_true (leb 33 x) (leb x 126) (le-leb 33 x h) (le-leb x 126 k)

pub solid_free : (b : ℕ) → b < 33 → (l : List ℕ) → Solid l → Free b l
solid_free b h = all_weaker solid (λ x. not (eqb x b)) (λ x s. let (i, j) = solid_range x s in ap not (ne_eqb x b (λ e. omega arith)))

solid_sheet : (x : ℕ) → solid x ≡ true → sheet_byte x ≡ true
unfolding sheet_byte solid
solid_sheet x h = by (eqb x TAB) (eqb x LF)
  where
    by : (t u : Bool) → ((t || u) || (leb 33 x && leb x 126)) ≡ true
    by true u = refl
    by false true = refl
    by false false = h

sheet_tab : sheet_byte TAB ≡ true
unfolding sheet_byte
sheet_tab = refl

sheet_lf : sheet_byte LF ≡ true
unfolding sheet_byte
sheet_lf = refl

-- ---- names
lower_range : (x : ℕ) → lower x ≡ true → (97 ≤ x) × (x ≤ 122)
unfolding lower
lower_range x h = let (i, j) = both (leb 97 x) (leb x 122) h in (leb-true 97 x i, leb-true x 122 j)

name_byte_solid : (x : ℕ) → name_byte x ≡ true → solid x ≡ true
unfolding name_byte
name_byte_solid x h = by (lower x) refl (leb 48 x && leb x 57) refl (eqb x 95) refl h
  where
    by : (t : Bool) → lower x ≡ t → (u : Bool) → (leb 48 x && leb x 57) ≡ u → (v : Bool) → eqb x 95 ≡ v → ((t || u) || v) ≡ true → solid x ≡ true
    by true e u f v g h = let (i, j) = lower_range x e in in_range x (omega arith) (omega arith)
    by false e true f v g h = let (i, j) = both (leb 48 x) (leb x 57) f in in_range x (omega (arith, leb-true 48 x i)) (omega (arith, leb-true x 57 j))
    by false e false f v g h = let k = eqb-true x 95 (g ∙ h) in in_range x (omega arith) (omega arith)

pub name_solid : (f : List ℕ) → is_name f ≡ true → Solid f
unfolding is_name
name_solid [] h = refl
name_solid (c ∷ cs) h =
    let (i, j) = both (lower c) (leb (length cs) 15 && all name_byte cs) h in
    let (k, l) = both (leb (length cs) 15) (all name_byte cs) j in
    let (m, n) = lower_range c i in
    and_true (solid c) (all solid cs) (in_range c (omega arith) (omega arith)) (all_weaker name_byte solid name_byte_solid cs l)

-- ---- a line: a solid word and solid fields behind tabs
pub all_free : (b : ℕ) → b < 33 → (fs : List (List ℕ)) → AllSolid fs → AllFree b fs
all_free b h [] none_solid = none_free
all_free b h (f ∷ fs) (more_solid s t) = more_free (solid_free b h f s) (all_free b h fs t)

tabbed_all : (p : ℕ → Bool) → p TAB ≡ true → ((x : ℕ) → solid x ≡ true → p x ≡ true) → (fs : List (List ℕ)) → AllSolid fs → all p (tabbed fs) ≡ true
tabbed_all p t w [] none_solid = refl
tabbed_all p t w (f ∷ fs) (more_solid s r) = and_true (p TAB) (all p (f ++ tabbed fs)) t (all_append p f (tabbed fs) (all_weaker solid p w f s) (tabbed_all p t w fs r))

-- the line of a word and its fields
abbrev pub line_bytes : List ℕ → List (List ℕ) → List ℕ
line_bytes word fs = word ++ tabbed fs

-- each byte of a line is a byte of a sheet, and none is LF or CR
pub data Good (l : List ℕ) : Type 0 where
  good : all sheet_byte l ≡ true → Free LF l → Free CR l → Good l

pub line_good : (word : List ℕ) (fs : List (List ℕ)) → Solid word → AllSolid fs → Good (line_bytes word fs)
line_good word fs s t =
    good (all_append sheet_byte word (tabbed fs) (all_weaker solid sheet_byte solid_sheet word s) (tabbed_all sheet_byte (tab_sheet) solid_sheet fs t))
    (whole LF (omega arith) refl) (whole CR (omega arith) refl)
  where
    tab_sheet : sheet_byte TAB ≡ true
    tab_sheet = sheet_tab

    whole : (b : ℕ) → b < 33 → not (eqb TAB b) ≡ true → Free b (line_bytes word fs)
    whole b h n = all_append (λ x. not (eqb x b)) word (tabbed fs) (solid_free b h word s) (tabbed_all (λ x. not (eqb x b)) n (λ x s. let (i, j) = solid_range x s in ap not (ne_eqb x b (λ e. omega arith))) fs t)

-- ---- a text of lines, each ended by LF
abbrev pub with_LF : List ℕ → List ℕ
with_LF l = l ++ (LF ∷ [])

abbrev pub text_of_lines : List (List ℕ) → List ℕ
text_of_lines ls = joined (map with_LF ls)

-- one line more
pub size_more : (l : List ℕ) (ls : List (List ℕ)) → length (text_of_lines (l ∷ ls)) ≡ suc (length l) + length (text_of_lines ls)
size_more l ls =
    let a = length-append (with_LF l) (text_of_lines ls) in
    let c = length-append l (LF ∷ []) in
    omega arith

pub data AllGood : List (List ℕ) → Type 0 where
  none_good : AllGood []
  more_good : {l : List ℕ} {ls : List (List ℕ)} → Good l → AllGood ls → AllGood (l ∷ ls)

pub good_append : (ls ms : List (List ℕ)) → AllGood ls → AllGood ms → AllGood (ls ++ ms)
good_append [] ms none_good h = h
good_append (l ∷ ls) ms (more_good g gs) h = more_good g (good_append ls ms gs h)

lines_none : lines [] ≡ []
unfolding lines pieces
lines_none = refl

pub lines_text : (ls : List (List ℕ)) → AllGood ls → lines (text_of_lines ls) ≡ ls
lines_text [] none_good = lines_none
lines_text (l ∷ ls) (more_good (good a f c) gs) =
    ap lines (append_assoc l (LF ∷ []) (text_of_lines ls)) ∙ lines_line l (text_of_lines ls) f ∙ ap (λ (ms : List (List ℕ)). l ∷ ms) (lines_text ls gs)

-- a line without CR is bare
pub bare_free : (l : List ℕ) → Free CR l → bare l ≡ l
unfolding bare
bare_free [] h = refl
bare_free (x ∷ []) h = let (n, t) = both (not (eqb x CR)) true h in rw (not-true (eqb x CR) n) refl
bare_free (x ∷ y ∷ ys) h =
    let (n, t) = both (not (eqb x CR)) (all (λ x. not (eqb x CR)) (y ∷ ys)) h in
    ap (λ (l : List ℕ). x ∷ l) (bare_free (y ∷ ys) t)

-- bytes of a sheet may stand anywhere
clean_bytes : (c : Bool) (s : List ℕ) → all sheet_byte s ≡ true → clean_in c s ≡ true
unfolding clean_in may_stand
clean_bytes c [] h = refl
clean_bytes c (x ∷ xs) h =
    let (i, j) = both (sheet_byte x) (all sheet_byte xs) h in
    rw i (clean_bytes (cond (eqb x LF) (begins HASH xs) c) xs j)

pub text_clean : (ls : List (List ℕ)) → AllGood ls → clean (text_of_lines ls) ≡ true
unfolding clean
text_clean ls g = clean_bytes (begins HASH (text_of_lines ls)) (text_of_lines ls) (sheets ls g)
  where
    sheets : (ls : List (List ℕ)) → AllGood ls → all sheet_byte (text_of_lines ls) ≡ true
    sheets [] none_good = refl
    sheets (l ∷ ls) (more_good (good a f c) gs) = all_append sheet_byte (with_LF l) (text_of_lines ls) (all_append sheet_byte l (LF ∷ []) a (and_true (sheet_byte LF) true sheet_lf refl)) (sheets ls gs)

-- the last byte of a text of lines is LF
data Closed (s : List ℕ) : Type 0 where
  blank : s ≡ [] → Closed s
  closed : (p : List ℕ) → s ≡ p ++ (LF ∷ []) → Closed s

text_closed : (ls : List (List ℕ)) → Closed (text_of_lines ls)
text_closed [] = blank refl
text_closed (l ∷ ls) = by (text_closed ls)
  where
    by : Closed (text_of_lines ls) → Closed (with_LF l ++ text_of_lines ls)
    by (blank e) = closed l (ap (λ (t : List ℕ). with_LF l ++ t) e ∙ append-nil (with_LF l))
    by (closed p e) = closed (with_LF l ++ p) (ap (λ (t : List ℕ). with_LF l ++ t) e ∙ sym (append_assoc (with_LF l) p (LF ∷ [])))

closed_ended : (s : List ℕ) → Closed s → ended s ≡ true
unfolding ended
closed_ended s (blank e) = rw e refl
closed_ended s (closed p e) =
    let n = length-append p (LF ∷ []) in
    let m : length (p ++ (LF ∷ [])) - 1 ≡ length p = omega arith in
    rw (e, m, get_or-append_seam p LF [] 0) (or_true (eqb (length (p ++ (LF ∷ []))) 0))
  where
    or_true : (t : Bool) → (t || true) ≡ true
    or_true true = refl
    or_true false = refl

pub text_ended : (ls : List (List ℕ)) → ended (text_of_lines ls) ≡ true
text_ended ls = closed_ended (text_of_lines ls) (text_closed ls)
