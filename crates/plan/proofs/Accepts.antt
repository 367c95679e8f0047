-- What reading accepts is a plan, whose bytes stand there.
use mathlib.Core.Path.{◌≡◌, refl, sym, ap, ◌∙◌}
use mathlib.Core.Bool.{true}
use mathlib.Core.List.{List, ◌∷◌, ◌++◌, append_assoc}
use Prim.Native.Nat.{ℕ, suc, ◌+◌, ◌-◌, ◌*◌, ◌≤◌, ◌<◌}
use native.Mathlib.Omega.{arith}
use lib.ListN.{length, get_or, drop}
use borrow.Author.Tests.{ne_eqb}
use Rattle.plan.specs.declared.Place.{Place}
use Rattle.plan.specs.declared.AxesPlan.{AxesPlan}
use Rattle.plan.specs.declared.BinsPlan.{BinsPlan}
use Rattle.plan.specs.Judged.{Found}
use Rattle.plan.specs.Numbers.{number_at, bytes_of, run_of, values_at}
use Rattle.plan.specs.Plan.{Tree, Trees, nothing, axes, bins, none, more, count}
use Rattle.plan.specs.Needs.{bins_taken, after, after_all}
use Rattle.plan.specs.Fields.{formed, span_of, axes_at, bins_at, bins_fault}
use Rattle.plan.specs.Reading.{Out, Outs, tree_of, trees_of, from_bytes, step_of}
use Rattle.plan.specs.Table.{link, link_at}
use Rattle.plan.specs.Bytes.{axes_bytes, pairs, evolution_bytes, bins_bytes, encode, encode_all, valid, valid_all}
use Rattle.plan.specs.Bounds.{Bytes, Inside}
use Rattle.plan.proofs.Numbers.{below-four, below-eight, spell_one, spell-number, spell-values, evolution-bytes, values_length, sixteen, eleven}
use Rattle.plan.proofs.Faults.{Evolution, absent, there, evolution-few}
use Rattle.plan.proofs.Trees.{AxesValid, valid-axes, valid-bins, roomy_after}
use Rattle.plan.proofs.Here.{NothingHere, AxesHere, BinsHere, NothingFound, AxesFound, BinsFound, nothing-found, axes-found, bins-found, here-evolved, here-bounded, here-most, here-reach, whole, length-here}
use Rattle.plan.proofs.Readings.{Kept, kept, kept-trees}
use Rattle.plan.proofs.Steps.{some}

pub record Sound (bs : List ℕ) (l : ℕ) (p : Place) (t : Tree) (q : Place) : Type 0 where
  pub plan : valid l t p.tally ≡ true
  pub end : q.tally ≡ after t p.tally
  pub bytes : drop p.at bs ≡ encode t ++ drop q.at bs
  pub reach : p.at ≤ length bs → q.at ≤ length bs
  pub linked : link_at bs p ≡ link t p.tally

pub record SoundAll (bs : List ℕ) (l n : ℕ) (p : Place) (ts : Trees) (q : Place) : Type 0 where
  pub plan : valid_all l ts p.tally ≡ true
  pub end : q.tally ≡ after_all ts p.tally
  pub bytes : drop p.at bs ≡ encode_all ts ++ drop q.at bs
  pub reach : p.at ≤ length bs → q.at ≤ length bs
  pub number : count ts ≡ n

-- 1. A field's bytes ------------------------------------------------------------------------------------

least-small : (bs : List ℕ) → Bytes bs → (at : ℕ) → (axes_at bs at).least < 0x1_0000_0000
unfolding axes_at
least-small bs small at = below-four bs small (at + 6)

floor-small : (bs : List ℕ) → Bytes bs → (at : ℕ) → (axes_at bs at).floor < 0x1_0000_0000_0000_0000
unfolding axes_at
floor-small bs small at = below-eight bs small (at + 11)

ratio-small : (bs : List ℕ) → Bytes bs → (at : ℕ) → (bins_at bs at).ratio < 0x1_0000_0000_0000_0000
unfolding bins_at
ratio-small bs small at = below-eight bs small (at + 5)

spell-there : (bs : List ℕ) → Bytes bs → (at k to : ℕ) → to ≡ at + 3 + 2 * k → get_or bs at 0 ≡ 2 → number_at bs (at + 1) 2 ≡ 2 * k → 0 < k → at + 3 + 2 * k ≤ length bs
    → drop at bs ≡ evolution_bytes (values_at bs (at + 3) k) ++ drop to bs
spell-there bs small at k to e t n z w =
    let c = values_length bs (at + 3) k in
    let d0 = spell_one bs at (at + 1) refl (omega arith) in
    let d1 = spell-number bs small 2 (at + 1) (at + 3) (omega arith) (omega arith) in
    let d3 = spell-values bs small k (at + 3) to e (omega arith) in
    rw (d0, t, d1, n, d3, evolution-bytes (values_at bs (at + 3) k) (omega arith), c)
    (ap (λ (r : List ℕ). 2 ∷ r) (sym (append_assoc (bytes_of 2 (2 * k)) (pairs (values_at bs (at + 3) k)) (drop to bs))))

module _ (bs : List ℕ) (small : Bytes bs) where
  -- the length of a well formed field, as its two bytes
  header : (at n : ℕ) → formed bs at n ≡ true → drop (at + 1) bs ≡ bytes_of 2 n ++ drop (at + 3) bs
  header at n e =
      let w = whole bs at n e in
      spell-number bs small 2 (at + 1) (at + 3) (omega arith) (omega arith) ∙ rw (length-here bs at n e)

  spell-nothing : (p : Place) → NothingHere bs p → drop p.at bs ≡ encode nothing ++ drop (p.at + 3) bs
  unfolding encode bytes_of
  spell-nothing p h =
      let w = whole bs p.at 0 h.form in
      spell_one bs p.at (p.at + 1) refl (omega arith) ∙ rw (h.tag, header p.at 0 h.form)

  spell-axes : (p : Place) → get_or bs p.at 0 ≡ 1 → AxesHere bs p → drop p.at bs ≡ axes_bytes (axes_at bs p.at) ++ drop (p.at + 19) bs
  unfolding axes_bytes axes_at
  spell-axes p t h =
      let at = p.at in
      let w = whole bs at 16 h.form in
      let d0 = spell_one bs at (at + 1) refl (omega arith) in
      let d1 = header at 16 h.form in
      let d3 = spell_one bs (at + 3) (at + 4) (omega arith) (omega arith) in
      let d4 = spell-number bs small 2 (at + 4) (at + 6) (omega arith) (omega arith) in
      let d6 = spell-number bs small 4 (at + 6) (at + 10) (omega arith) (omega arith) in
      let d10 = spell_one bs (at + 10) (at + 11) (omega arith) (omega arith) in
      let d11 = spell-number bs small 8 (at + 11) (at + 19) (omega arith) (omega arith) in
      rw (d0, t, d1, sixteen, d3, d4, d6, d10, d11) (simp append_assoc)

  spell-evolution : (at k to : ℕ) → to + 19 ≡ at + span_of k → Evolution bs at k → drop at bs ≡ evolution_bytes (values_at bs (at + 3) k) ++ drop to bs
  unfolding span_of values_at run_of evolution_bytes
  spell-evolution at k to e (absent n) = let z : to ≡ at = omega arith in rw z
  spell-evolution at k to e (there t n z f w b) =
      let y : k ≡ 0 → ⊥ = λ y. absurd (omega arith) in
      let e' : to + 19 ≡ at + (22 + 2 * k) = rw (ne_eqb k 0 y) at e in
      spell-there bs small at k to (omega arith) t n z w

  spell-bins : (l : ℕ) (p : Place) → BinsHere bs l p → drop p.at bs ≡ bins_bytes (bins_at bs p.at) ++ drop (p.at + 14) bs
  unfolding bins_bytes bins_at
  spell-bins l p h =
      let at = p.at in
      let w = whole bs at 11 h.form in
      let d0 = spell_one bs at (at + 1) refl (omega arith) in
      let d1 = header at 11 h.form in
      let d3 = spell-number bs small 2 (at + 3) (at + 5) (omega arith) (omega arith) in
      let d5 = spell-number bs small 8 (at + 5) (at + 13) (omega arith) (omega arith) in
      let d13 = spell_one bs (at + 13) (at + 14) (omega arith) (omega arith) in
      rw (d0, h.tag, d1, eleven, d3, d5, d13) (simp append_assoc)

-- 2. The whole ------------------------------------------------------------------------------------------

module _ (bs : List ℕ) (small : Bytes bs) where
  sound_empty : (l : ℕ) (p q : Place) → NothingFound bs p q → Sound bs l p nothing q
  unfolding valid after link link_at
  sound_empty l p q f =
      let w = whole bs p.at 0 f.at.form in
      rw f.past record { plan = refl; end = refl; bytes = spell-nothing bs small p f.at; reach = λ h. omega arith; linked = rw f.at.tag }

  axes-sound : (p : Place) → AxesHere bs p → AxesValid (axes_at bs p.at) (values_at bs (p.at + 22) (axes_at bs p.at).values) p.tally.left
  axes-sound p h = record {
    free = h.free;
    number = values_length bs _ _;
    few = evolution-few (here-evolved h);
    inbounds = here-bounded h;
    most = here-most h;
    least = least-small bs small p.at;
    floor = floor-small bs small p.at;
  }

  sound-leaf : (l : ℕ) (p : Place) (a : AxesPlan) (q : Place) → AxesFound bs p a q → Sound bs l p (axes a (values_at bs (p.at + 22) a.values)) q
  unfolding after encode link link_at
  sound-leaf l p a q f =
      let h = f.at in
      let k = (axes_at bs p.at).values in
      let s : p.at + 19 + 3 ≡ p.at + 22 = omega arith in
      let e = rw s at (spell-evolution bs small (p.at + 19) k (p.at + span_of k) (omega arith) (here-evolved h)) in
      rw (f.numbers, f.past) record {
        plan = valid-axes l _ _ _ (axes-sound p h);
        end = refl;
        bytes = spell-axes bs small p f.tag h ∙ ap (λ (r : List ℕ). axes_bytes (axes_at bs p.at) ++ r) e ∙ sym (append_assoc (axes_bytes (axes_at bs p.at)) _ _);
        reach = λ w. here-reach h;
        linked = rw f.tag;
      }

  sound-inner : (l : ℕ) (p : Place) (b : BinsPlan) (s : Place) (ts : Trees) (q : Place) → BinsFound bs l p b s → SoundAll bs (l - 1) b.bins s ts q → Sound bs l p (bins b ts) q
  unfolding after encode link link_at
  sound-inner l p b s ts q f k =
      let h = f.at in
      let w = whole bs p.at 11 h.form in
      let y : s.tally ≡ bins_taken b p.tally = ap (λ (x : Place). x.tally) f.past ∙ ap (λ (x : BinsPlan). bins_taken x p.tally) (sym f.numbers) in
      let z : s.at ≡ p.at + 14 = ap (λ (x : Place). x.at) f.past in
      record {
        plan = valid-bins l b ts p.tally (record {
          free = ap (λ (x : BinsPlan). bins_fault x p.tally.left l) f.numbers ∙ h.free;
          ratio = rw f.numbers (ratio-small bs small p.at);
          number = k.number;
          rest = ap (valid_all (l - 1) ts) (sym y) ∙ k.plan;
        });
        end = k.end ∙ ap (after_all ts) y;
        bytes = rw f.numbers (spell-bins bs small l p h ∙ ap (λ (r : List ℕ). bins_bytes (bins_at bs p.at) ++ r) (ap (λ (i : ℕ). drop i bs) (sym z) ∙ k.bytes)
            ∙ sym (append_assoc (bins_bytes (bins_at bs p.at)) _ _));
        reach = λ i. k.reach (omega arith);
        linked = rw h.tag;
      }

  sound_more : (l n : ℕ) (p : Place) (t : Tree) (u : Place) (ts : Trees) (q : Place) → Sound bs l p t u → SoundAll bs l n u ts q → SoundAll bs l (suc n) p (more t ts) q
  unfolding after valid encode count
  sound_more l n p t u ts q k a = record {
    plan = rw k.plan (ap (valid_all l ts) (sym k.end) ∙ a.plan);
    end = a.end ∙ ap (after_all ts) k.end;
    bytes = k.bytes ∙ ap (λ (r : List ℕ). encode t ++ r) a.bytes ∙ sym (append_assoc (encode t) (encode_all ts) (drop q.at bs));
    reach = λ h. a.reach (k.reach h);
    number = ap suc a.number;
  }

  sound_none : (l : ℕ) (p : Place) → SoundAll bs l 0 p none p
  unfolding after valid encode count
  sound_none l p = record { plan = refl; end = refl; bytes = refl; reach = λ h. h; number = refl }

  sounds : Kept (from_bytes bs) (Sound bs) (λ l s. Sound bs l) (λ l s. SoundAll bs l)
  sounds = record {
    empty = λ l p q e. sound_empty l p q (nothing-found bs l p q e);
    leaf = λ l p a q e. sound-leaf l p a q (axes-found bs l p a q e);
    inner = λ l p b s ts q e k. sound-inner l p b s ts q (bins-found bs l p b s e) k;
    hangs = λ l s p t q k e. k p t q e;
    end = λ l s p. sound_none l p;
    next = λ l s n p t u ts q c k. sound_more l n p t u ts q c k;
  }

  pub sound : (l : ℕ) (p : Place) (t : Tree) (q : Place) → tree_of (from_bytes bs) l p ≡ Out.reads t q → Sound bs l p t q
  sound = kept sounds

  pub sound-all : (l s n : ℕ) (p : Place) (ts : Trees) (q : Place) → trees_of (λ i x. tree_of (from_bytes bs) l x) s n p ≡ Outs.reads ts q → SoundAll bs l n p ts q
  sound-all l s n p ts q e = kept-trees sounds l (λ i x. tree_of (from_bytes bs) l x) (λ i x t u. sound l x t u) s n p ts q e

-- so reading stays within the bytes
pub sound-inside : {bs : List ℕ} {l : ℕ} {p : Place} {t : Tree} {q : Place} → Inside bs p → Sound bs l p t q → Inside bs q
sound-inside {bs} {l} {p} {t} i s = record { small = i.small; reach = s.reach i.reach; roomy = rw s.end (roomy_after l t p.tally s.plan i.roomy) }

pub step-inside : (bs : List ℕ) (l : ℕ) (p q : Place) → Inside bs p → Found q ≡ step_of (tree_of (from_bytes bs) l p) → Inside bs q
step-inside bs l p q i e =
    let s = some (tree_of (from_bytes bs) l p) q e in
    sound-inside i (sound bs i.small l p s.tree q s.read)
