-- What the writer is given, and the table that it leaves.
use Rattle.std.specs.Prelude.{ℕ, ◌+◌, ◌≤◌, ◌≡◌, List}
use Rattle.std.proofs.lemmas.List.Edits.{sets}
use Rattle.plan.specs.declared.Place.{Place}
use Rattle.plan.specs.declared.Tally.{Tally}
use Rattle.plan.specs.Plan.{Tree, Trees}
use Rattle.plan.specs.Reading.{Out, Outs, trees_of, tree_of, from_bytes}
use Rattle.plan.specs.Table.{links, rows, rows_all}
use Rattle.plan.specs.Bounds.{Inside}

-- what was judged, with room in a table of n words
pub record Writable (bs : List ℕ) (l : ℕ) (p : Place) (n : ℕ) : Type 0 where
  pub inside : Inside bs p
  pub tree : Tree
  pub stop : Place
  pub read : tree_of (from_bytes bs) l p ≡ Out.reads tree stop
  pub room : stop.tally.words ≤ n

-- the same of m children, whose links stand from a slot on
pub record AllWritable (bs : List ℕ) (l m slot : ℕ) (p : Place) (n : ℕ) : Type 0 where
  pub inside : Inside bs p
  pub trees : Trees
  pub stop : Place
  pub read : trees_of (λ s q. tree_of (from_bytes bs) l q) slot m p ≡ Outs.reads trees stop
  pub apart : slot + m ≤ p.tally.words
  pub room : stop.tally.words ≤ n

-- the table with the rows of what was read
abbrev pub laid : ℕ → Tally → Out → List ℕ → List ℕ
laid l y (Out.stops n at) xs = xs
laid l y (Out.reads t q) xs = sets xs y.words (rows l t y)

-- the children's links from the slot on, and their rows
unfoldable pub spread : ℕ → ℕ → Tally → Trees → List ℕ → List ℕ
spread l s y ts xs = sets (sets xs s (links ts y)) y.words (rows_all l ts y)

abbrev pub laid_all : ℕ → ℕ → Tally → Outs → List ℕ → List ℕ
laid_all l s y (Outs.stops n at) xs = xs
laid_all l s y (Outs.reads ts q) xs = spread l s y ts xs
