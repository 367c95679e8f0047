-- Eight stores, as the definition has them.
use mathlib.Core.Path.{refl}
use native.Mathlib.Omega.{arith}
use lib.ListN.{length-set}
use Rattle.lent.specs.Absorbed.{gained}
use Rattle.samples.proofs.adding.put.Goals as goal

pub offset_bounds-reals-r : goal.offset_bounds-reals-r
offset_bounds-reals-r c = omega arith

pub bounds-reals-r : goal.bounds-reals-r
bounds-reals-r c = omega arith

pub overflow_add-reals : goal.overflow_add-reals
overflow_add-reals c = omega arith

pub offset_bounds-reals-r-2 : goal.offset_bounds-reals-r-2
offset_bounds-reals-r-2 c = omega arith

pub bounds-reals-r-2 : goal.bounds-reals-r-2
bounds-reals-r-2 c = simp length-set (omega (arith, c.requires.0))

pub overflow_add-reals-2 : goal.overflow_add-reals-2
overflow_add-reals-2 c = omega arith

pub offset_bounds-reals-r-3 : goal.offset_bounds-reals-r-3
offset_bounds-reals-r-3 c = omega arith

pub bounds-reals-r-3 : goal.bounds-reals-r-3
bounds-reals-r-3 c = simp length-set (omega (arith, c.requires.0))

pub overflow_add-reals-3 : goal.overflow_add-reals-3
overflow_add-reals-3 c = omega arith

pub offset_bounds-reals-r-4 : goal.offset_bounds-reals-r-4
offset_bounds-reals-r-4 c = omega arith

pub bounds-reals-r-4 : goal.bounds-reals-r-4
bounds-reals-r-4 c = simp length-set (omega (arith, c.requires.0))

pub offset_bounds-counts-c : goal.offset_bounds-counts-c
offset_bounds-counts-c c = omega arith

pub bounds-counts-c : goal.bounds-counts-c
bounds-counts-c c = omega arith

pub overflow_add-counts : goal.overflow_add-counts
overflow_add-counts c = omega arith

pub offset_bounds-counts-c-2 : goal.offset_bounds-counts-c-2
offset_bounds-counts-c-2 c = omega arith

pub bounds-counts-c-2 : goal.bounds-counts-c-2
bounds-counts-c-2 c = simp length-set (omega (arith, c.requires.1))

pub overflow_add-counts-2 : goal.overflow_add-counts-2
overflow_add-counts-2 c = omega arith

pub offset_bounds-counts-c-3 : goal.offset_bounds-counts-c-3
offset_bounds-counts-c-3 c = omega arith

pub bounds-counts-c-3 : goal.bounds-counts-c-3
bounds-counts-c-3 c = simp length-set (omega (arith, c.requires.1))

pub overflow_add-counts-3 : goal.overflow_add-counts-3
overflow_add-counts-3 c = omega arith

pub offset_bounds-counts-c-4 : goal.offset_bounds-counts-c-4
offset_bounds-counts-c-4 c = omega arith

pub bounds-counts-c-4 : goal.bounds-counts-c-4
bounds-counts-c-4 c = simp length-set (omega (arith, c.requires.1))

pub returns : goal.returns
unfolding gained
returns c = refl
