-- The update of a grid whose run is read: each step of the code as the definitions have it, and what the run says as what the table says.
use mathlib.Core.Path.{◌≡◌, refl, sym, ap, ◌∙◌}
use mathlib.Core.Bool.{Bool, true, false, not, ◌&&◌, ◌||◌, or-false, and_assoc, and-true}
use mathlib.Core.List.{List, ◌∷◌, ◌++◌, append-nil}
use Prim.Native.Nat.{ℕ, zero, suc, ◌+◌, ◌-◌, ◌*◌, ◌≤◌, ◌<◌}
use native.Mathlib.Omega.{arith}
use borrow.Author.Tests.{ne_eqb}
use lib.ListN.{length, get_or, take, drop, set}
use lib.Seq.{take_all}
use lib.Ieee.{Float, nan, eq}
use Rattle.doubles.specs.Numbers.{zero64}
use Rattle.doubles.proofs.Truth.{failed}
use Rattle.axis.proofs.Lists.{write-next}
use Rattle.recut.specs.Chances.{all_chances, adapted_to}
use Rattle.plan.specs.Numbers.{words_at}
use Rattle.model.specs.Update.{Outcome, idle, raw_of}
use Rattle.lent.specs.declared.AxesAt.{AxesAt}
use Rattle.lent.specs.declared.Found.{Found}
use Rattle.lent.specs.declared.Rule.{Rule}
use Rattle.lent.specs.Layout.{axis_reals, axis_counts}
use Rattle.lent.specs.Memory.{Memory, memory, put}
use Rattle.lent.specs.Drawn.{Stands}
use Rattle.lent.specs.Tree.{axes_place, bin_in, AxesLaid, BinsLaid}
use Rattle.lent.specs.Judged.{axes_fit, AllUpto, axes_fit_of}
use Rattle.lent.specs.Renewed.{Within, finding, found, update_all_at}
use Rattle.lent.specs.Turns.{children_turned}
use Rattle.lent.specs.Adapted.{followed, account_updated, accounts_updated, rule_at, axes_updated, averages_at, idle_in, raws_in, chances_laid, chances_adapted, bins_adapted, node_updated, updated_in}
use Rattle.lent.proofs.Judges.{fit-stands, part}
use Rattle.lent.proofs.Rooms.{fit-known}
use Rattle.lent.proofs.Sounds.{numbers-upto, words-stretch}
use Rattle.lent.proofs.Renewals.{within_all}
use Rattle.lent.proofs.Adapts.{followed-on, followed-next, both_found}
use Rattle.updates.specs.declared.adapting.BinsAt.{BinsAt}
use Rattle.updates.specs.Own.{bins_place, BinsFit, bin_own, bins_updated, bins_idle, bins_raws, chances_left, chances_of, own_adapted, AxesFit, axes_own}

-- ---- loops over bins

module _ (r c n : ℕ) where
  pub accounts-next : (i : ℕ) (a b o : Found) (s t : Memory) → i < n → (o.eight ≡ (a.eight || b.eight)) × (o.nine ≡ (a.nine || b.nine)) → found b t ≡ account_updated (r + 14 * i) (c + 7 * i) s
      → followed (found o t) (bins_updated r c (i + 1) (n - (i + 1))) ≡ followed (found a s) (bins_updated r c i (n - i))
  unfolding bins_updated followed
  accounts-next i a b o s t h e k =
      let g : n - i ≡ suc (n - (i + 1)) = omega arith in
      followed-next a b o s t (account_updated (r + 14 * i) (c + 7 * i)) (bins_updated r c (i + 1) (n - (i + 1))) e k
      ∙ ap (λ (q : ℕ). followed (found a s) (bins_updated r c i q)) (sym g)

  pub accounts-done : (i : ℕ) (o : Outcome Memory) → n ≤ i → followed o (bins_updated r c i (n - i)) ≡ o
  unfolding bins_updated followed
  accounts-done i o h = let g : n - i ≡ 0 = omega arith in rw (g, or-false o.eight, or-false o.nine)

module _ (b : BinsAt) (n : ℕ) where
  pub idle-next : (s : Memory) (i : ℕ) (all x : Bool) → i < n → x ≡ idle b.averages (bin_own b s i) → ((all && x) && bins_idle b s (i + 1) (n - (i + 1))) ≡ (all && bins_idle b s i (n - i))
  unfolding bins_idle
  idle-next s i all x h e = let g : n - i ≡ suc (n - (i + 1)) = omega arith in rw (e, g) (and_assoc all _ _)

  pub idle-done : (s : Memory) (i : ℕ) (all : Bool) → n ≤ i → (all && bins_idle b s i (n - i)) ≡ all
  unfolding bins_idle
  idle-done s i all h = let g : n - i ≡ 0 = omega arith in rw g (and-true all)

  -- the raw probabilities so far, and those to come
  pub raws-next : (s : Memory) (i : ℕ) (l : List Float) (v : Float) → i < n → length l ≡ n → v ≡ raw_of b.averages (bin_own b s i)
      → take (i + 1) (set l i v) ++ bins_raws b s (i + 1) (n - (i + 1)) ≡ take i l ++ bins_raws b s i (n - i)
  unfolding bins_raws
  raws-next s i l v h m e =
      let g : n - i ≡ suc (n - (i + 1)) = omega arith in
      write-next nan l i v (bins_raws b s i (n - i)) (bins_raws b s (i + 1) (n - (i + 1))) (omega arith) (rw (g, e))

  pub raws-done : (s : Memory) (i : ℕ) (l : List Float) → n ≤ i → length l ≡ n → take i l ++ bins_raws b s i (n - i) ≡ l
  unfolding bins_raws
  raws-done s i l h m = let g : n - i ≡ 0 = omega arith in rw g (append-nil (take i l) ∙ take_all i l (omega arith))

-- ---- a bins grid's own

module _ (b : BinsAt) (s : Memory) where
  pub own-idle : (rate : Float) (o : Bool) → o ≡ bins_idle b s 0 b.bins → (eq rate zero64 || o) ≡ true → finding false false s ≡ own_adapted b rate s
  unfolding own_adapted
  own-idle rate o e h = let i : (eq rate zero64 || bins_idle b s 0 b.bins) ≡ true = ap (λ (x : Bool). eq rate zero64 || x) (sym e) ∙ h in rw i

  pub own-adapted : (rate : Float) (o : Bool) (x y r : Found) (t u : Memory) → o ≡ bins_idle b s 0 b.bins → (eq rate zero64 || o) ≡ false → found x t ≡ chances_of b s
      → found y u ≡ account_updated b.reals b.counts t → (r.eight ≡ (x.eight || y.eight)) × (r.nine ≡ (x.nine || y.nine)) → found r u ≡ own_adapted b rate s
  unfolding own_adapted
  own-adapted rate o x y r t u e h k l m =
      let i : (eq rate zero64 || bins_idle b s 0 b.bins) ≡ false = ap (λ (z : Bool). eq rate zero64 || z) (sym e) ∙ h in
      rw i (both_found x y r s t u (chances_of b) (account_updated b.reals b.counts) m k l)

  pub chances-laid : (raws ps t : List Float) (ok : Bool) → raws ≡ bins_raws b s 0 b.bins → (ps ≡ adapted_to b.ratio raws) × (ok ≡ all_chances (adapted_to b.ratio raws))
      → t ≡ put (b.reals + 14) (length ps) ps s.reals → finding false (not ok) (memory t s.counts) ≡ chances_of b s
  unfolding chances_of chances_left
  chances-laid raws ps t ok e d h =
      let adapted : ps ≡ adapted_to b.ratio (bins_raws b s 0 b.bins) = d.0 ∙ ap (adapted_to b.ratio) e in
      let judged : ok ≡ all_chances ps = d.1 ∙ ap all_chances (sym d.0) in
      rw (sym adapted, judged, h)

-- the same room in memory of the same size
pub fits-still : {b d : BinsAt} {R C Q D : ℕ} → b ≡ d → Q ≡ R → D ≡ C → BinsFit d R C → BinsFit b Q D
fits-still e r c h = rw (e, r, c) h

-- ---- what the table says

module _ (table : List ℕ) (w : ℕ) where
  bins-told : (n i : ℕ) (s : Memory) → bins_updated (get_or table (w + 5) 0 + 14 + get_or table (w + 2) 0) (get_or table (w + 6) 0 + 7) i n s ≡ accounts_updated table w i n s
  unfolding bins_updated accounts_updated followed
  bins-told zero i s = refl
  bins-told (suc n) i s =
      let o = account_updated (get_or table (w + 5) 0 + 14 + get_or table (w + 2) 0 + 14 * i) (get_or table (w + 6) 0 + 7 + 7 * i) s in
      ap (λ (q : Outcome Memory). finding (o.eight || q.eight) (o.nine || q.nine) q.after) (bins-told n (i + 1) o.after)

  idle-told : (s : Memory) (n i : ℕ) → bins_idle (bins_place table w) s i n ≡ idle_in table s w i n
  unfolding bins_idle idle_in bins_place bin_own bin_in
  idle-told s zero i = refl
  idle-told s (suc n) i = ap (λ (x : Bool). idle (averages_at table w) (bin_in table s.reals s.counts w i).own && x) (idle-told s n (i + 1))

  raws-told : (s : Memory) (n i : ℕ) → bins_raws (bins_place table w) s i n ≡ raws_in table s w i n
  unfolding bins_raws raws_in bins_place bin_own bin_in
  raws-told s zero i = refl
  raws-told s (suc n) i = ap (λ (l : List Float). raw_of (averages_at table w) (bin_in table s.reals s.counts w i).own ∷ l) (raws-told s n (i + 1))

  adapted-told : (rate : Float) (s : Memory) → own_adapted (bins_place table w) rate s ≡ bins_adapted table rate w s
  unfolding own_adapted bins_adapted bins_place chances_of chances_adapted chances_left chances_laid
  adapted-told rate s = rw (idle-told s (get_or table (w + 2) 0) 0, raws-told s (get_or table (w + 2) 0) 0)

  -- a bins grid's own, its run being read
  pub own-told : (rate : Float) (b : BinsAt) (x y r : Found) (s t u : Memory) → b ≡ bins_place table w → found x t ≡ bins_updated (b.reals + 14 + b.bins) (b.counts + 7) 0 b.bins s → found y u ≡ own_adapted b rate t
      → (r.eight ≡ (x.eight || y.eight)) × (r.nine ≡ (x.nine || y.nine)) → found r u ≡ followed (accounts_updated table w 0 (get_or table (w + 2) 0) s) (bins_adapted table rate w)
  unfolding bins_place
  own-told rate b x y r s t u p h k m =
      let all : found x t ≡ accounts_updated table w 0 (get_or table (w + 2) 0) s = h ∙ ap (λ (z : BinsAt). bins_updated (z.reals + 14 + z.bins) (z.counts + 7) 0 z.bins s) p ∙ bins-told (get_or table (w + 2) 0) 0 s in
      let own : found y u ≡ bins_adapted table rate w t = k ∙ ap (λ (z : BinsAt). own_adapted z rate t) p ∙ adapted-told rate t in
      both_found x y r s t u (accounts_updated table w 0 (get_or table (w + 2) 0)) (bins_adapted table rate w) m all own

  pub own-fits : {f : ℕ → Type 0} {R C : ℕ} → BinsLaid f table R C w → (w + 7 ≤ length table) × BinsFit (bins_place table w) R C
  unfolding bins_place
  own-fits h = let a = h.head in (omega arith, record { most = h.most; room = h.room; places = h.places })

-- ---- an axes grid

module _ (g : AxesAt) (rule : Rule) (values : List ℕ) (rate : Float) (s : Memory) (h : AxesFit g rule values (length s.reals) (length s.counts)) (ok : Bool)
    (judged : ok ≡ axes_fit_of (rule.bins ∷ values) g.most s.reals s.counts g.axes g.reals g.counts) where
  fits : ok ≡ axes_fit (rule.bins ∷ values) g.most s.reals s.counts g.axes g.reals g.counts
  unfolding axis_reals axis_counts
  fits = judged ∙ fit-known (rule.bins ∷ values) g.most s.reals s.counts g.axes g.reals g.counts h.most h.axes h.upto h.room h.places

  pub axes-unfit : ok ≡ false → finding true false s ≡ axes_own g rule values rate s
  unfolding axes_own
  axes-unfit n = rw (failed fits n)

  pub axes-ready : ok ≡ true → Stands s.reals s.counts g × Within g.most rule values
  unfolding AllUpto
  axes-ready n =
      let standing = fit-stands g.most s.reals s.counts (rule.bins ∷ values) g.axes g.reals g.counts h.upto h.room h.places (sym fits ∙ n) in
      ((h.axes, h.most, standing), within_all g.most rule values (h.upto 0 (omega arith)).1 (λ i k. (h.upto (suc i) (omega arith)).1))

  pub axes-done : (a b r : Found) (t u : Memory) → ok ≡ true → found a t ≡ update_all_at rule values rate g.most g.axes g.reals g.counts s
      → found b u ≡ account_updated (g.reals - 14) (g.counts - 7) t → (r.eight ≡ (a.eight || b.eight)) × (r.nine ≡ (a.nine || b.nine)) → found r u ≡ axes_own g rule values rate s
  unfolding axes_own
  axes-done a b r t u n e k m =
      rw (sym fits ∙ n)
      (both_found a b r s t u (update_all_at rule values rate g.most g.axes g.reals g.counts) (account_updated (g.reals - 14) (g.counts - 7)) m e k)

module _ (table : List ℕ) (w : ℕ) (g : AxesAt) (rule : Rule) (p : g ≡ axes_place table w) (e : rule ≡ rule_at table w) (R C : ℕ) (laid : AxesLaid table R C w) where
  values-told : take (w + 11 + get_or table (w + 8) 0 - (w + 11)) (drop (w + 11) table) ≡ words_at table (w + 11) (get_or table (w + 8) 0)
  values-told = let a = laid.head in part (w + 11) (get_or table (w + 8) 0) table ∙ words-stretch table (w + 11) (get_or table (w + 8) 0) (omega arith)

  pub axes-fit : AxesFit g rule (take (w + 11 + get_or table (w + 8) 0 - (w + 11)) (drop (w + 11) table)) R C
  unfolding axes_place rule_at
  axes-fit =
      rw (p, e, values-told)
      (record {
        axes = laid.axes;
        most = laid.most;
        upto = numbers-upto table R C w laid;
        own = omega arith;
        tallies = omega arith;
        room = laid.room;
        places = laid.places;
      })

  pub axes-told : (rate : Float) (s : Memory) → axes_own g rule (take (w + 11 + get_or table (w + 8) 0 - (w + 11)) (drop (w + 11) table)) rate s ≡ axes_updated table rate w s
  unfolding axes_own axes_updated axes_place rule_at
  axes-told rate s =
      let own : get_or table (w + 9) 0 + 14 - 14 ≡ get_or table (w + 9) 0 = omega arith in
      let tallies : get_or table (w + 10) 0 + 7 - 7 ≡ get_or table (w + 10) 0 = omega arith in
      rw (p, e, values-told, own, tallies)

-- ---- the tree

pub grid-updated : (l : ℕ) (table : List ℕ) (bins_rate axes_rate : Float) (w : ℕ) (s t u : Memory) (a b r : Found) → (get_or table w 0 ≡ 1 → ⊥) → 1 ≤ l
    → found a t ≡ children_turned (updated_in (l - 1) table bins_rate axes_rate) table w 0 (get_or table (w + 2) 0) s
    → found b u ≡ followed (accounts_updated table w 0 (get_or table (w + 2) 0) t) (bins_adapted table bins_rate w) → (r.eight ≡ (a.eight || b.eight)) × (r.nine ≡ (a.nine || b.nine))
    → found r u ≡ updated_in l table bins_rate axes_rate w s
unfolding updated_in node_updated
grid-updated zero table bins_rate axes_rate w s t u a b r z h x y m = absurd (omega arith)
grid-updated (suc l) table bins_rate axes_rate w s t u a b r z h x y m =
    let children = children_turned (updated_in l table bins_rate axes_rate) table w 0 (get_or table (w + 2) 0) in
    let accounts = accounts_updated table w 0 (get_or table (w + 2) 0) in
    let e : suc l - 1 ≡ l = omega arith in
    let k : found a t ≡ children s = x ∙ ap (λ (i : ℕ). children_turned (updated_in i table bins_rate axes_rate) table w 0 (get_or table (w + 2) 0) s) e in
    rw (ne_eqb (get_or table w 0) 1 z)
    (both_found a b r s t u children (λ (i : Memory). followed (accounts i) (bins_adapted table bins_rate w)) m k y ∙ sym (followed-on (children s) accounts (bins_adapted table bins_rate w)))
