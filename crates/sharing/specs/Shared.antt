-- What an opening and a party's run give and leave, for every input, by cases of the refusal (request R-14). Assumes nothing.
use Rattle.std.specs.Prelude.{ℕ, ◌<◌, ◌≤◌, ◌≡◌, true, false, cond, List, [], ◌++◌, ◌≢◌, length, drop, replicate, eqb}
use Rattle.refusals.specs.Run.{run_refusals}
use Rattle.refusals.specs.Sharing.{sharing_refusals}
use Rattle.steps.specs.State.{State}
use Rattle.steps.specs.Run.{Call, Answer, End}
use Rattle.steps.specs.Acceptance.{words_refusal}
use Rattle.steps.specs.Counting.{Exactly, Rising}
use Rattle.evaluator.specs.Evaluated.{Asked, refused_with, run_asked}
use Rattle.sharing.specs.Parties.{Party, Account, Ledger, vacant, opened, account_of, entered, ledger_words, ledger_width, ledger_of}
use Rattle.sharing.specs.Charged.{over_limits, Exceeds, AsKept}

-- ---- an opening

-- An opening for these limits: the refusal, the words kept from then on, and what each table held and holds.
pub data Opening (limits : Ledger) (calls answers : List ℕ) (refusal : ℕ) (kept calls' answers' : List ℕ) : Type 0 where
  -- "90 if the limits of both add up to more than a table's room": nothing is kept, the tables are unchanged.
  no_room : over_limits limits calls answers ≡ true → refusal ≡ sharing_refusals.over_limits → kept ≡ ledger_words (opened 0 0 0 0)
      → calls' ≡ calls → answers' ≡ answers → Opening limits calls answers refusal kept calls' answers'
  -- It "else empties both tables": they are wholly 0, and the limits are kept.
  emptied : over_limits limits calls answers ≡ false → refusal ≡ 0 → kept ≡ ledger_words limits
      → calls' ≡ replicate (length calls) 0 → answers' ≡ replicate (length answers) 0 → Opening limits calls answers refusal kept calls' answers'

-- ---- a run

-- The buffers lent to a run: both tables and the list of ends. "R-10's list" does "not apply here".
abbrev pub Panel : Type 0
Panel = record { calls : List ℕ; answers : List ℕ; ends : List ℕ }

-- What a run gives: the refusal number, 0 for none, the party's own counts of ends, calls and answers, and the words kept from then on.
abbrev pub Reply : Type 0
Reply = record { refusal : ℕ; ends : ℕ; calls : ℕ; answers : ℕ; kept : List ℕ }

-- A refusal other than 31 gives no counts.
abbrev pub refused : ℕ → List ℕ → Reply
refused refusal kept = record { refusal = refusal; ends = 0; calls = 0; answers = 0; kept = kept }

-- "20 to 22", which are the book's, or 0: a goal of no steps meets no 23.
abbrev pub book_refusal : Asked → ℕ
book_refusal q = words_refusal q.fluents q.actions q.rules []

-- "20 to 22 and 91 change nothing": the words come back as they went in; 44 of 0 where they were not 44.
abbrev pub handed_back : List ℕ → List ℕ
handed_back words = cond (eqb (length words) ledger_width) words (ledger_words (opened 0 0 0 0))

-- The account with its limits: "a party refused with 23, 24 or 30 holds no rows";
abbrev pub gives_up : Account → Account
gives_up a = vacant a.call_limit a.answer_limit

-- and where it holds the rows of this run.
abbrev pub takes_up : Account → Asked → Account
takes_up a q = record { call_limit = a.call_limit; answer_limit = a.answer_limit; holds = true; goal = q.goal; start = q.start }

-- The tables and the words kept do not meet 91 under the book of this run.
abbrev pub AsKeptUnder : Asked → List ℕ → Panel → Type 0
AsKeptUnder q words b = AsKept q.fluents q.actions q.rules words b.calls b.answers

-- A run that is refused with none of 20 to 22 and 91, of a party that has this account then. The other's account stays. "What ... a run refused
-- with none of 20 to 22 and 91, left does not meet 91 under the same book": the party's earlier rows that the other does not need are given up.
pub record Entered (party : Party) (q : Asked) (words : List ℕ) (before after : Panel) (account : Account) (kept : List ℕ) : Type 0 where
  pub accepted_book : book_refusal q ≡ 0
  pub stood : AsKeptUnder q words before
  pub calls : ℕ
  pub answers : ℕ
  pub kept_words : kept ≡ ledger_words (entered (ledger_of words) party account calls answers)
  pub calls_long : length after.calls ≡ length before.calls
  pub answers_long : length after.answers ≡ length before.answers
  pub stands : AsKeptUnder q kept after

-- An accepted run within the limits of this account: "a party's ends, counts and refusals are the same as if it ran alone in tables of its limits".
pub record Alone (q : Asked) (account : Account) (r : Reply) : Type 0 where
  pub accepted : refused_with q ≡ 0
  pub fits : ¬ Exceeds (run_asked q) account
  pub calls : List (ℕ × State)
  pub calls_all : Exactly (Call (run_asked q)) calls
  pub calls_many : r.calls ≡ length calls
  pub answers : List (ℕ × State × State)
  pub answers_all : Exactly (Answer (run_asked q)) answers
  pub answers_many : r.answers ≡ length answers
  pub ends : List State
  pub ends_all : Exactly (End (run_asked q)) ends
  pub ends_many : r.ends ≡ length ends

-- The party's run over the words handed over as kept, with its account there.
module _ (party : Party) (q : Asked) (words : List ℕ) where
  abbrev pub account : Account
  account = account_of (ledger_of words) party

  pub data Shared (before after : Panel) (r : Reply) : Type 0 where
    -- 20 to 22: all is unchanged.
    refused_book : book_refusal q ≢ 0 → r ≡ refused (book_refusal q) (handed_back words) → after ≡ before → Shared before after r
    -- 91: all is unchanged.
    refused_kept : book_refusal q ≡ 0 → ¬ AsKeptUnder q words before → r ≡ refused sharing_refusals.not_as_kept (handed_back words)
        → after ≡ before → Shared before after r
    -- 23 and 24: the party holds no rows, the list is unchanged.
    refused_goal : refused_with q ≢ 0 → Entered party q words before after (gives_up account) r.kept → r ≡ refused (refused_with q) r.kept
        → after.ends ≡ before.ends → Shared before after r
    -- 30 "against the party's own limits without clearing the other's rows": the same.
    refused_full : refused_with q ≡ 0 → Exceeds (run_asked q) account → Entered party q words before after (gives_up account) r.kept
        → r ≡ refused run_refusals.tables_full r.kept → after.ends ≡ before.ends → Shared before after r
    -- 31: the party "keeps its new ones", the counts are given, the list is unchanged.
    refused_list : Alone q account r → Entered party q words before after (takes_up account q) r.kept → r.refusal ≡ run_refusals.list_short
        → length before.ends < r.ends → after.ends ≡ before.ends → Shared before after r
    -- No refusal: the same, and the ends are listed in rising order, followed by what the list held.
    listed : (t : Alone q account r) → Entered party q words before after (takes_up account q) r.kept → r.refusal ≡ 0
        → r.ends ≤ length before.ends → Rising t.ends → after.ends ≡ t.ends ++ drop r.ends before.ends → Shared before after r
