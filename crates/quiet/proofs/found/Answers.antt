-- Three tests for room, each refused with 10; past them the table that is written lays its grid within what was measured.
use borrow.Author.Rules.{rules}
use mathlib.Core.Path.{ap}
use native.Mathlib.Omega.{arith}
use lib.ListN.{length}
use Rattle.plan.specs.Paper.{plan_read, paper_read}
use Rattle.plan.specs.Calls.{End}
use Rattle.lent.specs.Memory.{memory}
use Rattle.lent.proofs.Plans.{read-laid, short-table, short-reals, short-counts, founded}
use Rattle.quiet.proofs.found.Goals as goal

pub returns-then-table-plan : goal.returns-then-table-plan
returns-then-table-plan c = short-table c.args.bytes.now c.args.table.now (memory c.args.reals.now c.args.counts.now) (plan_read c.args.plan.end c.args.plan.needs) c.if-table-plan.true

pub returns-then-reals-plan : goal.returns-then-reals-plan
returns-then-reals-plan c = short-reals c.args.bytes.now c.args.table.now (memory c.args.reals.now c.args.counts.now) (plan_read c.args.plan.end c.args.plan.needs) c.if-table-plan.false c.if-reals-plan.true

pub returns-then-counts-plan : goal.returns-then-counts-plan
returns-then-counts-plan c = short-counts c.args.bytes.now c.args.table.now (memory c.args.reals.now c.args.counts.now) (plan_read c.args.plan.end c.args.plan.needs) c.if-table-plan.false c.if-reals-plan.false c.if-counts-plan.true

pub lay_grid-requires : goal.lay_grid-requires
lay_grid-requires c = read-laid c.args.bytes.now c.args.table.now c.read_plan-read.new.table (plan_read c.args.plan.end c.args.plan.needs) (length c.args.reals.now) (length c.args.counts.now) (λ i. omega (arith, c.type_inv.bytes i)) (λ i. search rules) c.requires c.if-table-plan.false c.if-reals-plan.false c.if-counts-plan.false (ap (λ (x : End). x.table) c.read_plan-read.ensures)

pub returns : goal.returns
returns c = founded c.args.bytes.now c.args.table.now (memory c.args.reals.now c.args.counts.now) (plan_read c.args.plan.end c.args.plan.needs) (paper_read c.read_plan-read.result) c.read_plan-read.new.table (memory c.lay_grid.new.reals c.lay_grid.new.counts) c.if-table-plan.false c.if-reals-plan.false c.if-counts-plan.false c.requires c.read_plan-read.ensures c.lay_grid.ensures
