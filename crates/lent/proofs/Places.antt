-- Calls that answer on any memory, where what they ask is known: each is the step of the definition.
use mathlib.Core.Path.{◌≡◌, ◌∙◌}
use mathlib.Core.Bool.{true, false, ◌&&◌}
use mathlib.Core.List.{List}
use Prim.Native.Nat.{ℕ, ◌+◌, ◌^◌, ◌≤◌, ◌<◌}
use borrow.Author.Tests.{le-leb, lt-leb, leb-true}
use lib.Dec.{leb}
use lib.ListN.{length, get_or}
use Rattle.doubles.proofs.Truth.{both}
use Rattle.lent.specs.declared.AxesAt.{AxesAt}
use Rattle.lent.specs.Tree.{axes_place, nowhere, place_fits, place_of}

-- ---- the place of axes

fits-there : (table : List ℕ) (w : ℕ) → w + 11 ≤ length table → get_or table (w + 9) 0 ≤ 2 ^ 63 → get_or table (w + 10) 0 ≤ 2 ^ 63 → place_fits table w ≡ true
unfolding place_fits
fits-there table w a b c = rw (le-leb (w + 11) (length table) a, le-leb (get_or table (w + 9) 0) (2 ^ 63) b, le-leb (get_or table (w + 10) 0) (2 ^ 63) c)

-- the tests one by one, as the code makes them
pub short : (table : List ℕ) (w : ℕ) → length table < w + 11 → place_fits table w ≡ false
unfolding place_fits
short table w h = rw (lt-leb (w + 11) (length table) h)

pub head-there : (table : List ℕ) (w : ℕ) → w + 11 ≤ length table → place_fits table w ≡ (leb (get_or table (w + 9) 0) (2 ^ 63) && leb (get_or table (w + 10) 0) (2 ^ 63))
unfolding place_fits
head-there table w h = rw (le-leb (w + 11) (length table) h)

pub fits-known : (table : List ℕ) (w : ℕ) → place_fits table w ≡ true → (w + 11 ≤ length table) × (get_or table (w + 9) 0 ≤ 2 ^ 63) × (get_or table (w + 10) 0 ≤ 2 ^ 63)
unfolding place_fits
fits-known table w e =
    let a = both (leb (w + 11) (length table)) (leb (get_or table (w + 9) 0) (2 ^ 63) && leb (get_or table (w + 10) 0) (2 ^ 63)) e in
    let b = both (leb (get_or table (w + 9) 0) (2 ^ 63)) (leb (get_or table (w + 10) 0) (2 ^ 63)) a.1 in
    (leb-true (w + 11) (length table) a.0, leb-true (get_or table (w + 9) 0) (2 ^ 63) b.0, leb-true (get_or table (w + 10) 0) (2 ^ 63) b.1)

pub there : (table : List ℕ) (w : ℕ) → place_fits table w ≡ true → place_of table w ≡ axes_place table w
unfolding place_of
there table w e = rw e

pub not_there : (table : List ℕ) (w : ℕ) → place_fits table w ≡ false → nowhere ≡ place_of table w
unfolding place_of
not_there table w e = rw e

pub placed : (table : List ℕ) (w : ℕ) {g : AxesAt} → g ≡ place_of table w
    → (w + 11 ≤ length table) × (get_or table (w + 9) 0 ≤ 2 ^ 63) × (get_or table (w + 10) 0 ≤ 2 ^ 63) → g ≡ axes_place table w
placed table w e h = e ∙ there table w (fits-there table w h.0 h.1 h.2)
