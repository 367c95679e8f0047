-- The turns on some bytes, each on what the last has left; and the bytes that are kept for the next read.
use Rattle.std.specs.Prelude.{ℕ, ◌+◌, ◌-◌, ◌≤◌, ◌<◌, ◌≡◌, Bool, true, false, not, ◌&&◌, List, eqb, length, take, drop}
use Rattle.lent.specs.Memory.{Memory}
use Rattle.feed.specs.declared.Run.{Run}
use Rattle.feed.specs.Said.{is_over_of}
use Rattle.feed.specs.Turns.{TurnEnd, turn_of}

-- a run, how many bytes its turns took, the table, and the grid's two lists
pub record Place : Type 0 where
  pub run : Run
  pub taken : ℕ
  pub table : List ℕ
  pub state : Memory

abbrev pub place : Run → ℕ → List ℕ → Memory → Place
place run taken table m = record { run = run; taken = taken; table = table; state = m }

-- the next turn: on the bytes behind those taken, with a spare of R reals and C counts
unfoldable pub turn_at : List ℕ → Bool → ℕ → ℕ → Place → TurnEnd
turn_at bs last R C p = turn_of p.run (drop p.taken bs) last p.table p.state R C

unfoldable pub place_behind : Place → TurnEnd → Place
place_behind p e = place e.answer.run (p.taken + e.answer.taken) e.table e.state

-- another turn follows: one that took nothing waits for more bytes
unfoldable pub goes_on : ℕ → Run → Bool
goes_on taken run = not (eqb taken 0) && not (is_over_of run)

unfoldable pub goes_behind : TurnEnd → Bool
goes_behind e = goes_on e.answer.taken e.answer.run

-- turn by turn from a place to another, until none follows
pub data Turns (bs : List ℕ) (last : Bool) (R C : ℕ) : Place → Place → Type 0 where
  one : (p : Place) {q : Place} → q ≡ place_behind p (turn_at bs last R C p) → goes_behind (turn_at bs last R C p) ≡ false → Turns bs last R C p q
  more : (p : Place) {q r : Place} → q ≡ place_behind p (turn_at bs last R C p) → goes_behind (turn_at bs last R C p) ≡ true → Turns bs last R C q r → Turns bs last R C p r

-- one turn, whose line could be written or not: it leads from p to q
pub record Stepped (bs : List ℕ) (last : Bool) (R C : ℕ) (p q : Place) (written goes : Bool) : Type 0 where
  pub reached : q ≡ place_behind p (turn_at bs last R C p)
  pub follows : goes ≡ goes_behind (turn_at bs last R C p) && written
  pub within : q.taken ≤ length bs
  pub risen : goes ≡ true → p.taken < q.taken

-- after the turns on the first bytes of a text the bytes that they left stand at its front: `rest` of them, behind those taken
pub record TakenIn (text : List ℕ) (full : ℕ) (last : Bool) (R C : ℕ) (run : Run) (table : List ℕ) (m : Memory) (now : List ℕ) (rest : ℕ) (goes : Bool) (run' : Run) (table' : List ℕ) (m' : Memory) : Type 0 where
  pub taken : ℕ
  pub many : rest ≡ full - taken
  pub kept : take rest now ≡ take rest (drop taken text)
  pub turns : goes ≡ true → Turns (take full text) last R C (place run 0 table m) (place run' taken table' m')
