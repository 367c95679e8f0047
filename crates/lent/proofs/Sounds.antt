-- Judging the tree: an axes grid's run, a bin with what hangs there, one bin on.
use mathlib.Core.Path.{◌≡◌, refl, sym, ap, ◌∙◌}
use mathlib.Core.Bool.{Bool, true, false, ◌&&◌, and_assoc, and-true, and_comm, false≢true}
use mathlib.Core.List.{List, ◌∷◌}
use Prim.Native.Nat.{ℕ, zero, suc, ◌+◌, ◌-◌, ◌≤◌, ◌<◌}
use native.Mathlib.Omega.{arith}
use borrow.Author.Tests.{ne_eqb}
use lib.ListN.{length, get_or}
use lib.Ieee.{Float, binary64, nan_bits}
use lib.Ieee.Bits.{nan_bits_is}
use Rattle.accumulator.specs.Record as account
use Rattle.plan.specs.Numbers.{run_of, words_at}
use Rattle.plan.specs.Ranges.{floor_fits, ratio_fits}
use Rattle.plan.proofs.Ranges.{nan-floor, nan-ratio}
use Rattle.plan.proofs.Records.{words-at}
use Rattle.model.specs.Grid.{Grid, Bins, Child, Head, Bin, axes, bins, none, more}
use Rattle.model.specs.Sound.{chance, sound, formed_grid, formed_bins, formed_child, formed_axis_list, kept_grid, kept_bins, kept_child, kept_axis_list}
use Rattle.lent.specs.Layout.{stretch, axes_from}
use Rattle.lent.specs.Memory.{record_at}
use Rattle.lent.specs.Tree.{axes_plan_at, axes_place, axes_grid_at, head_at, bin_in, child_in, bins_in, node_at, grid_at, AxesLaid}
use Rattle.lent.specs.Judged.{axes_fit, AllUpto, sound_bin, sound_bins}
use Rattle.lent.proofs.Judges.{stretch-one, two-and-two, fit-axes}

-- ---- doubles of a plan

told-apart : (b : Bool) (bits : ℕ) (f : ℕ → Bool) → nan_bits binary64 bits ≡ b → (b ≡ true → false ≡ f bits) → f bits ≡ true → nan_bits binary64 bits ≡ false
told-apart true bits f e h t = absurd (false≢true (h refl ∙ t))
told-apart false bits f e h t = e

pub floor-real : (bits : ℕ) → floor_fits bits ≡ true → nan_bits binary64 bits ≡ false
floor-real bits e = told-apart (nan_bits binary64 bits) bits floor_fits refl (λ n. nan-floor bits (sym (nan_bits_is binary64 bits) ∙ n)) e

pub ratio-real : (bits : ℕ) → ratio_fits bits ≡ true → nan_bits binary64 bits ≡ false
ratio-real bits e = told-apart (nan_bits binary64 bits) bits ratio_fits refl (λ n. nan-ratio bits (sym (nan_bits_is binary64 bits) ∙ n)) e

-- ---- an axes grid

pub words-stretch : (xs : List ℕ) (at n : ℕ) → at + n ≤ length xs → stretch at n xs ≡ words_at xs at n
unfolding words_at run_of stretch
words-stretch xs at zero h = refl
words-stretch xs at (suc n) h = stretch-one 0 at n xs (omega arith) ∙ ap (λ (l : List ℕ). get_or xs at 0 ∷ l) (words-stretch xs (at + 1) n (omega arith))

pub length-words : (xs : List ℕ) (at n : ℕ) → length (words_at xs at n) ≡ n
unfolding words_at run_of
length-words xs at zero = refl
length-words xs at (suc n) = ap suc (length-words xs (at + 1) n)

module _ (table : List ℕ) (R C w : ℕ) (a : AxesLaid table R C w) where
  pub numbers-upto : AllUpto (get_or table (w + 7) 0) (get_or table (w + 3) 0 ∷ words_at table (w + 11) (get_or table (w + 8) 0))
  unfolding AllUpto
  numbers-upto zero h = (a.some, a.fits)
  numbers-upto (suc i) h =
      let size = length-words table (w + 11) (get_or table (w + 8) 0) in
      let below : i < get_or table (w + 8) 0 = omega arith in
      let e = words-at table (get_or table (w + 8) 0) (w + 11) i below in
      let v = a.values i below in
      (omega (arith, v.0, e), omega (arith, v.1, e))

-- what was judged, put together as the model has it
pub own-between : (f k o : Bool) → ((f && k) && o) ≡ (f && (o && k))
own-between f k o = and_assoc f k o ∙ ap (λ (b : Bool). f && b) (and_comm k o)

module _ (table : List ℕ) (reals : List Float) (counts : List ℕ) (w : ℕ) (a : AxesLaid table (length reals) (length counts) w) where
  pub sound-axes : (axes_fit (get_or table (w + 3) 0 ∷ words_at table (w + 11) (get_or table (w + 8) 0)) (get_or table (w + 7) 0) reals counts (get_or table (w + 2) 0) (get_or table (w + 9) 0 + 14) (get_or table (w + 10) 0 + 7)
      && account.well_formed (record_at reals counts (get_or table (w + 9) 0) (get_or table (w + 10) 0))) ≡ sound (axes (axes_grid_at table reals counts w))
  unfolding sound formed_grid kept_grid axes_grid_at axes_plan_at axes_place
  sound-axes =
      let plan = axes_plan_at table w in
      let axs = axes_from (get_or table (w + 7) 0) reals counts (get_or table (w + 2) 0) (get_or table (w + 9) 0 + 14) (get_or table (w + 10) 0 + 7) in
      ap (λ (b : Bool). b && account.well_formed (record_at reals counts (get_or table (w + 9) 0) (get_or table (w + 10) 0)))
      (fit-axes (get_or table (w + 7) 0) reals counts plan (get_or table (w + 2) 0) (get_or table (w + 9) 0 + 14) (get_or table (w + 10) 0 + 7) (numbers-upto table (length reals) (length counts) w a) a.room a.places)
      ∙ own-between (formed_axis_list plan axs) (kept_axis_list axs) (account.well_formed (record_at reals counts (get_or table (w + 9) 0) (get_or table (w + 10) 0)))

-- ---- bins

pub sound_more : (b : Bin) (c : Child) (bs : Bins) → sound_bins (more b c bs) ≡ (sound_bin b c && sound_bins bs)
unfolding sound_bins sound_bin formed_bins kept_bins
sound_more b c bs =
    two-and-two (chance b.probability) (formed_child c && formed_bins bs) (account.well_formed b.own) (kept_child c && kept_bins bs)
    ∙ ap (λ (x : Bool). (chance b.probability && account.well_formed b.own) && x) (two-and-two (formed_child c) (formed_bins bs) (kept_child c) (kept_bins bs))
    ∙ sym (and_assoc (chance b.probability && account.well_formed b.own) (formed_child c && kept_child c) (formed_bins bs && kept_bins bs))

pub sound_none : sound_bins none ≡ true
unfolding sound_bins formed_bins kept_bins
sound_none = refl

pub sound-bins : (h : Head) (bs : Bins) → (account.well_formed h.own && sound_bins bs) ≡ sound (bins h bs)
unfolding sound sound_bins formed_grid kept_grid
sound-bins h bs =
    sym (and_assoc (account.well_formed h.own) (formed_bins bs) (kept_bins bs)) ∙ ap (λ (b : Bool). b && kept_bins bs) (and_comm (account.well_formed h.own) (formed_bins bs))
    ∙ and_assoc (formed_bins bs) (account.well_formed h.own) (kept_bins bs)

module _ (f : ℕ → Grid) (table : List ℕ) (reals : List Float) (counts : List ℕ) (w n : ℕ) where
  pub bins-on : (i : ℕ) (ok : Bool) → i < n
      → ((ok && sound_bin (bin_in table reals counts w i) (child_in f (get_or table (w + 7 + i) 0))) && sound_bins (bins_in f table reals counts w (i + 1) (n - (i + 1)))) ≡ (ok && sound_bins (bins_in f table reals counts w i (n - i)))
  unfolding bins_in
  bins-on i ok h =
      let e : n - i ≡ suc (n - (i + 1)) = omega arith in
      rw (and_assoc, e) (ap (λ (b : Bool). ok && b) (sym (sound_more (bin_in table reals counts w i) (child_in f (get_or table (w + 7 + i) 0)) (bins_in f table reals counts w (i + 1) (n - (i + 1))))))

  pub bins-out : (i : ℕ) (ok : Bool) → n ≤ i → (ok && sound_bins (bins_in f table reals counts w i (n - i))) ≡ ok
  unfolding bins_in
  bins-out i ok h = let e : n - i ≡ 0 = omega arith in rw (e, sound_none) (and-true ok)

-- what hangs at a link
pub child-none : (f : ℕ → Grid) (b : Bin) (link : ℕ) → link ≡ 0 → sound_bin b (child_in f link) ≡ (chance b.probability && account.well_formed b.own)
unfolding sound_bin child_in formed_child kept_child
child-none f b link e = rw e (and-true (chance b.probability && account.well_formed b.own))

pub child-grid : (f : ℕ → Grid) (b : Bin) (link : ℕ) → (link ≡ 0 → ⊥) → sound_bin b (child_in f link) ≡ ((chance b.probability && account.well_formed b.own) && sound (f link))
unfolding sound_bin child_in formed_child kept_child sound
child-grid f b link n = rw (ne_eqb link 0 n)

-- which of the two a run is
pub node-axes : (l : ℕ) (table : List ℕ) (reals : List Float) (counts : List ℕ) (w : ℕ) → get_or table w 0 ≡ 1 → grid_at l table reals counts w ≡ axes (axes_grid_at table reals counts w)
unfolding grid_at node_at
node-axes zero table reals counts w e = refl
node-axes (suc l) table reals counts w e = rw e

pub node-bins : (l : ℕ) (table : List ℕ) (reals : List Float) (counts : List ℕ) (w : ℕ) → (get_or table w 0 ≡ 1 → ⊥) → 1 ≤ l
    → grid_at l table reals counts w ≡ bins (head_at table reals counts w) (bins_in (grid_at (l - 1) table reals counts) table reals counts w 0 (get_or table (w + 2) 0))
unfolding grid_at node_at
node-bins zero table reals counts w n h = absurd (omega arith)
node-bins (suc l) table reals counts w n h = let e : suc l - 1 ≡ l = omega arith in rw (e, ne_eqb (get_or table w 0) 1 n)
