-- Quoted text, the bytes that a sheet may hold, and names. Assumes nothing.
use Rattle.std.specs.Prelude.{ℕ, Bool, true, false, cond, ◌&&◌, ◌||◌, List, [], ◌∷◌, length, leb, eqb}
use Rattle.std.specs.List.{list_all}
use Prim.Native.String.{String, [] as end, ◌∷◌ as ◌then◌}
use Prim.Native.Char.{code}

-- The bytes of a quoted text, all of whose characters are ASCII.
abbrev pub text : String → List ℕ
text end = []
text (◌then◌ c s) = code c ∷ text s

abbrev pub TAB : ℕ
TAB = 9

abbrev pub LF : ℕ
LF = 10

abbrev pub CR : ℕ
CR = 13

abbrev pub SPACE : ℕ
SPACE = 32

abbrev pub HASH : ℕ
HASH = 35

-- Each element passes the test.
abbrev pub all : (ℕ → Bool) → List ℕ → Bool
all p xs = list_all p xs

-- A byte of a sheet: TAB, LF or 33 to 126.
unfoldable pub sheet_byte : ℕ → Bool
sheet_byte c = eqb c TAB || eqb c LF || (leb 33 c && leb c 126)

-- The list begins with the byte b.
abbrev pub begins : ℕ → List ℕ → Bool
begins b [] = false
begins b (x ∷ xs) = eqb x b

-- The byte x, before the bytes xs, may stand: a byte of a sheet, SPACE in a comment line, CR directly before LF.
unfoldable pub may_stand : Bool → ℕ → List ℕ → Bool
unfolding sheet_byte
may_stand comment x xs = sheet_byte x || ((comment && eqb x SPACE) || (eqb x CR && begins LF xs))

-- The bytes may stand where they do; `comment` says whether the line that they begin in is a comment, as one is that starts with `#`.
unfoldable pub clean_in : Bool → List ℕ → Bool
unfolding may_stand
clean_in comment [] = true
clean_in comment (x ∷ xs) = may_stand comment x xs && clean_in (cond (eqb x LF) (begins HASH xs) comment) xs

-- A sheet without a byte that 11 refuses.
unfoldable pub clean : List ℕ → Bool
unfolding clean_in
clean s = clean_in (begins HASH s) s

-- A lowercase letter.
unfoldable pub lower : ℕ → Bool
lower c = leb 97 c && leb c 122

-- A lowercase letter, a digit or `_`.
unfoldable pub name_byte : ℕ → Bool
unfolding lower
name_byte c = lower c || (leb 48 c && leb c 57) || eqb c 95

-- Names: 1 to 16 bytes, a lowercase letter, then lowercase letters, digits or `_`.
unfoldable pub is_name : List ℕ → Bool
unfolding lower name_byte
is_name [] = false
is_name (c ∷ cs) = lower c && (leb (length cs) 15 && all name_byte cs)
