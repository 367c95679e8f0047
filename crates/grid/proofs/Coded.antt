-- What the code promises is what the demands speak of: the contract of each public call is an equation with its definition, whose tests in
-- order are demand 1's and whose sequences are those of demands 2 and 3.
use mathlib.Core.Path.{◌≡◌, ap}
use Prim.Native.Nat.{ℕ}
use contract.Lifetimes.{Lfts}
use borrow.Fn.Kinds.{Dens, ended_of}
use denote.Triple.Clauses.{AtExit}
use lib.ListN.{length}
use Rattle.std.specs.Prelude.{Result, Ok, Err, Float}
use Rattle.doubles.specs.Paper.{Paper, gives, refuses}
use Rattle.doubles.specs.Refusal.{number_of, fault_of, paper}
use Rattle.doubles.specs.declared.refusal.Refusal.{Refusal}
use Rattle.accumulator.specs.declared.Estimate.{Estimate}
use Rattle.accumulator.specs.declared.Summary.{Summary}
use Rattle.stream.specs.declared.MonteCarloRng.{MonteCarloRng}
use Rattle.model.specs.Draw as model
use Rattle.model.specs.Draw.{draw_nothing}
use Rattle.lent.specs.Sampled.{laid_drawing}
use Rattle.plan.specs.declared.Read.{Read}
use Rattle.plan.specs.declared.Misread.{Misread}
use Rattle.plan.specs.Paper.{paper_read}
use Rattle.lent.specs.declared.Batched.{Batched}
use Rattle.lent.specs.declared.Drawing.{Drawing}
use Rattle.lent.specs.Memory.{memory}
use Rattle.lent.specs.Calls.{laid_paper, Drawn, drawn_as, draw_of, summary_of, live_of, live_of_bin, fresh_end, fresh_of, clone_end, clone_of, probe_of, state_end, train_call_of, update_of, mergeable_of, merge_into_of}
use Rattle.lent.specs.Batched.{said, batch_end, batch_of}
use Rattle.quiet.proofs.clone_without_samples.Kinds as clone-without-samples-kinds
use Rattle.quiet.proofs.clone_without_samples.Reads as clone-without-samples-reads
use Rattle.samples.proofs.draw.Kinds as draw-kinds
use Rattle.samples.proofs.draw.Reads as draw-reads
use Rattle.samples.proofs.draw_and_train.Kinds as draw-and-train-kinds
use Rattle.samples.proofs.draw_and_train.Reads as draw-and-train-reads
use Rattle.quiet.proofs.fresh.Kinds as fresh-kinds
use Rattle.quiet.proofs.fresh.Reads as fresh-reads
use Rattle.merges.proofs.is_mergeable.Kinds as is-mergeable-kinds
use Rattle.merges.proofs.is_mergeable.Reads as is-mergeable-reads
use Rattle.quiet.proofs.live_estimate.Kinds as live-estimate-kinds
use Rattle.quiet.proofs.live_estimate.Reads as live-estimate-reads
use Rattle.quiet.proofs.live_estimate_of_bin.Kinds as live-estimate-of-bin-kinds
use Rattle.quiet.proofs.live_estimate_of_bin.Reads as live-estimate-of-bin-reads
use Rattle.merges.proofs.merge.Kinds as merge-kinds
use Rattle.merges.proofs.merge.Reads as merge-reads
use Rattle.quiet.proofs.probe.Kinds as probe-kinds
use Rattle.quiet.proofs.probe.Reads as probe-reads
use Rattle.quiet.proofs.summary.Kinds as summary-kinds
use Rattle.quiet.proofs.summary.Reads as summary-reads
use Rattle.samples.proofs.train.Kinds as train-kinds
use Rattle.samples.proofs.train.Reads as train-reads
use Rattle.updates.proofs.update.Kinds as update-kinds
use Rattle.updates.proofs.update.Reads as update-reads

pub draw-is : (κs : Lfts 3) (a : Dens κs draw-kinds.ps) (r : Result Drawing Refusal) (s : AtExit (ended_of 3 draw-kinds.ps draw-kinds.r) κs) → draw-reads.Post κs a r s
    → paper r ≡ laid_paper (draw_of a.0.now a.1.0.now a.1.1.0.now a.1.1.1.0)
draw-is κs a r s p = p

-- and as demand 1 speaks of it: a refusal's number, no sample, and the stream as it was
abbrev drawn : MonteCarloRng → Result Drawing Refusal → Drawn
drawn s (Ok d) = record { refused = 0; drawing = d }
drawn s (Err r) = record { refused = number_of r; drawing = laid_drawing (draw_nothing s) }

drawn-alike : (s : MonteCarloRng) (r : Result Drawing Refusal) (p : Paper model.Drawing) → paper r ≡ laid_paper p → drawn s r ≡ drawn_as s p
unfolding drawn_as
drawn-alike s (Ok d) (gives x) e = let f : d ≡ laid_drawing x = cc in ap (λ (y : Drawing). drawn s (Ok y)) f
drawn-alike s (Ok d) (refuses n) e = cc
drawn-alike s (Err r) (gives x) e = cc
drawn-alike s (Err r) (refuses n) e = let f : number_of r ≡ n = cc in ap (λ (k : ℕ). drawn_as s (refuses k)) f

pub draw-said : (κs : Lfts 3) (a : Dens κs draw-kinds.ps) (r : Result Drawing Refusal) (s : AtExit (ended_of 3 draw-kinds.ps draw-kinds.r) κs) → draw-reads.Post κs a r s
    → drawn a.1.1.1.0 r ≡ drawn_as a.1.1.1.0 (draw_of a.0.now a.1.0.now a.1.1.0.now a.1.1.1.0)
draw-said κs a r s p = drawn-alike a.1.1.1.0 r _ (draw-is κs a r s p)

pub probe-is : (κs : Lfts 3) (a : Dens κs probe-kinds.ps) (r : Result Float Refusal) (s : AtExit (ended_of 3 probe-kinds.ps probe-kinds.r) κs) → probe-reads.Post κs a r s
    → paper r ≡ probe_of a.0.now a.1.0.now a.1.1.0.now a.1.1.1.0
probe-is κs a r s p = p

pub summary-is : (κs : Lfts 3) (a : Dens κs summary-kinds.ps) (r : Result Summary Refusal) (s : AtExit (ended_of 3 summary-kinds.ps summary-kinds.r) κs) → summary-reads.Post κs a r s
    → paper r ≡ summary_of a.0.now a.1.0.now a.1.1.0.now
summary-is κs a r s p = p

pub live-estimate-is : (κs : Lfts 3) (a : Dens κs live-estimate-kinds.ps) (r : Result Estimate Refusal) (s : AtExit (ended_of 3 live-estimate-kinds.ps live-estimate-kinds.r) κs) → live-estimate-reads.Post κs a r s
    → paper r ≡ live_of a.0.now a.1.0.now a.1.1.0.now
live-estimate-is κs a r s p = p

pub live-estimate-of-bin-is : (κs : Lfts 3) (a : Dens κs live-estimate-of-bin-kinds.ps) (r : Result Estimate Refusal) (s : AtExit (ended_of 3 live-estimate-of-bin-kinds.ps live-estimate-of-bin-kinds.r) κs) → live-estimate-of-bin-reads.Post κs a r s
    → paper r ≡ live_of_bin a.0.now a.1.0.now a.1.1.0.now a.1.1.1.0 a.1.1.1.1.0
live-estimate-of-bin-is κs a r s p = p

pub fresh-is : (κs : Lfts 4) (a : Dens κs fresh-kinds.ps) (r : Result Read Misread) (s : AtExit (ended_of 4 fresh-kinds.ps fresh-kinds.r) κs) → fresh-reads.Post κs a r s
    → fresh_end (paper_read r) s.1.0.now (memory s.1.1.0.now s.1.1.1.0.now) ≡ fresh_of a.0.now a.1.0.now (memory a.1.1.0.now a.1.1.1.0.now)
fresh-is κs a r s p = p

pub train-is : (κs : Lfts 3) (a : Dens κs train-kinds.ps) (r : Result (Unit {0}) Refusal) (s : AtExit (ended_of 3 train-kinds.ps train-kinds.r) κs) → train-reads.Post κs a r s
    → state_end (fault_of r) (memory s.1.0.now s.1.1.0.now) ≡ train_call_of a.0.now (memory a.1.0.now a.1.1.0.now) a.1.1.1.0 a.1.1.1.1.0 a.1.1.1.1.1.0
train-is κs a r s p = p

pub draw-and-train-is : (κs : Lfts 4) (a : Dens κs draw-and-train-kinds.ps) (r : Batched) (s : AtExit (ended_of 4 draw-and-train-kinds.ps draw-and-train-kinds.r) κs) → draw-and-train-reads.Post κs a r s
    → batch_end (said r) (memory s.1.0.now s.1.1.0.now) ≡ batch_of a.0.now (memory a.1.0.now a.1.1.0.now) a.1.1.1.0 a.1.1.1.1.0.now a.1.1.1.1.1.0
draw-and-train-is κs a r s p = p

pub update-is : (κs : Lfts 5) (a : Dens κs update-kinds.ps) (r : Result (Unit {0}) Refusal) (s : AtExit (ended_of 5 update-kinds.ps update-kinds.r) κs) → update-reads.Post κs a r s
    → state_end (fault_of r) (memory s.1.0.now s.1.1.0.now) ≡ update_of a.0.now a.1.1.1.1.1.0 a.1.1.1.1.1.1.0 (length a.1.1.1.0.now) (length a.1.1.1.1.0.now) (memory a.1.0.now a.1.1.0.now)
update-is κs a r s p = p

pub is-mergeable-is : (κs : Lfts 6) (a : Dens κs is-mergeable-kinds.ps) (r : Result (Unit {0}) Refusal) (s : AtExit (ended_of 6 is-mergeable-kinds.ps is-mergeable-kinds.r) κs) → is-mergeable-reads.Post κs a r s
    → fault_of r ≡ mergeable_of a.0.now a.1.0.now a.1.1.0.now a.1.1.1.0.now a.1.1.1.1.0.now a.1.1.1.1.1.0.now
is-mergeable-is κs a r s p = p

pub merge-is : (κs : Lfts 6) (a : Dens κs merge-kinds.ps) (r : Result (Unit {0}) Refusal) (s : AtExit (ended_of 6 merge-kinds.ps merge-kinds.r) κs) → merge-reads.Post κs a r s
    → state_end (fault_of r) (memory s.1.0.now s.1.1.0.now) ≡ merge_into_of a.0.now (memory a.1.0.now a.1.1.0.now) a.1.1.1.0.now (memory a.1.1.1.1.0.now a.1.1.1.1.1.0.now)
merge-is κs a r s p = p

pub clone-without-samples-is : (κs : Lfts 5) (a : Dens κs clone-without-samples-kinds.ps) (r : Result (Unit {0}) Refusal) (s : AtExit (ended_of 5 clone-without-samples-kinds.ps clone-without-samples-kinds.r) κs) → clone-without-samples-reads.Post κs a r s
    → clone_end (fault_of r) (memory s.1.1.1.0.now s.1.1.1.1.0.now) ≡ clone_of a.0.now (memory a.1.0.now a.1.1.0.now) (memory a.1.1.1.0.now a.1.1.1.1.0.now)
clone-without-samples-is κs a r s p = p
