-- The bytes of a plan are accepted, and give the plan back.
use mathlib.Core.Path.{◌≡◌, refl, sym, ap, ◌∙◌}
use mathlib.Core.Bool.{true}
use mathlib.Core.List.{List, [], ◌∷◌, ◌++◌, append_assoc}
use Prim.Native.Nat.{ℕ, ◌+◌, ◌-◌, ◌*◌, ◌/◌, ◌%◌, ◌≤◌, ◌<◌}
use native.Mathlib.Omega.{arith}
use lib.ListN.{length, get_or, drop, length-append}
use lib.Seq.{get_or-drop, drop-drop, drop-append_seam}
use borrow.Author.Tests.{eq-eqb, ne_eqb, le-leb}
use Rattle.plan.specs.declared.Place.{Place}
use Rattle.plan.specs.declared.AxesPlan.{AxesPlan}
use Rattle.plan.specs.declared.BinsPlan.{BinsPlan}
use Rattle.plan.specs.declared.Child.TheVariants as child
use Rattle.plan.specs.Numbers.{number_at, bytes_of, run_of, values_at}
use Rattle.plan.specs.Ranges.{within, bounded, scanned}
use Rattle.plan.specs.Plan.{Tree, Trees, nothing, axes, bins, none, more, count}
use Rattle.plan.specs.Needs.{axes_taken, bins_taken, after, after_all}
use Rattle.plan.specs.Fields.{formed, values_in, evolution_fault, span_of, axes_at, bins_at, bins_fault, axes_field, bins_field, nothing_field, field_of}
use Rattle.plan.specs.Reading.{Out, Outs, bins_to, trees_of, tree_of, from_bytes}
use Rattle.plan.specs.Bytes.{axes_bytes, pairs, evolution_bytes, bins_bytes, encode, encode_all, valid, valid_all}
use Rattle.plan.proofs.Flags.{at_most}
use Rattle.plan.proofs.Ranges.{scan-most}
use Rattle.plan.proofs.Numbers.{read_one, read_number, read-values, long, bytes-length, pairs-length, sixteen, eleven}
use Rattle.plan.proofs.Faults.{axes-free, bins-free}
use Rattle.plan.proofs.Trees.{AxesValid, axes-valid, bins-valid, more-valid}
use Rattle.plan.proofs.Here.{found}
use Rattle.plan.proofs.Readings.{tree-nothing, tree-axes, tree-bins}

-- what follows is no 02
abbrev pub Clear : List ℕ → Type 0
Clear rest = get_or rest 0 0 ≡ 2 → ⊥

-- 1. A field ----------------------------------------------------------------------------------------------

formed-so : (bs : List ℕ) (at n : ℕ) → number_at bs (at + 1) 2 ≡ n → at + 3 + n ≤ length bs → formed bs at n ≡ true
unfolding formed
formed-so bs at n e h = rw (eq-eqb _ _ e, le-leb _ _ h)

field-nothing : (bs : List ℕ) (l : ℕ) (p : Place) (rest : List ℕ) → drop p.at bs ≡ encode nothing ++ rest → field_of bs l p ≡ found child.Nothing (p.at + 3) p.tally
unfolding encode field_of nothing_field bytes_of
field-nothing bs l p rest d =
    let r = read_one bs p.at (p.at + 1) 4 (0 ∷ (0 ∷ rest)) refl d in
    let k = read_number bs 2 (p.at + 1) (p.at + 3) 0 rest (omega arith) (omega arith) r.next in
    let w : p.at + 3 + 0 ≤ length bs = omega (arith, long bs p.at 3 _ d (omega arith) (omega arith)) in
    rw (r.value, formed-so bs p.at 0 k.value w)

record EvolutionRead (bs : List ℕ) (at : ℕ) (es : List ℕ) : Type 0 where
  fault : evolution_fault bs at ≡ 0
  number : values_in bs at ≡ length es
  values : values_at bs (at + 3) (length es) ≡ es

evolution-there : (bs : List ℕ) (at : ℕ) (es rest : List ℕ) → 0 < length es → length es ≤ 16 → bounded es ≡ true
    → drop at bs ≡ (2 ∷ (bytes_of 2 (2 * length es) ++ pairs es)) ++ rest → EvolutionRead bs at es
unfolding evolution_fault values_in within
evolution-there bs at es rest z f b d =
    let r = read_one bs at (at + 1) 2 ((bytes_of 2 (2 * length es) ++ pairs es) ++ rest) refl d in
    let k = read_number bs 2 (at + 1) (at + 3) (2 * length es) (pairs es ++ rest) (omega arith) (omega arith) (r.next ∙ append_assoc (bytes_of 2 (2 * length es)) (pairs es) rest) in
    let g = read-values bs es (at + 3) (at + 3 + 2 * length es) rest refl b k.next in
    let s : 3 + 2 * length es ≤ length ((2 ∷ (bytes_of 2 (2 * length es) ++ pairs es)) ++ rest) = simp (length-append, bytes-length, pairs-length) (omega arith) in
    let w : at + 3 + 2 * length es ≤ length bs = omega (arith, long bs at (3 + 2 * length es) _ d (omega arith) s) in
    let h : 2 * length es / 2 ≡ length es = omega arith in
    let o : 2 * length es % 2 ≡ 0 = omega arith in
    record {
      fault = rw (r.value, k.value, le-leb _ _ w, o, h, le-leb 1 (length es) z, le-leb (length es) 16 f, g.value, b);
      number = rw (r.value, k.value) h;
      values = g.value;
    }

evolution-read : (bs : List ℕ) (at : ℕ) (es rest : List ℕ) → length es ≤ 16 → bounded es ≡ true → Clear rest → drop at bs ≡ evolution_bytes es ++ rest → EvolutionRead bs at es
unfolding evolution_fault values_in evolution_bytes values_at run_of
evolution-read bs at [] rest f b c d =
    let z : at + 0 ≡ at = omega arith in
    let e : get_or bs at 0 ≡ get_or rest 0 0 = ap (λ (i : ℕ). get_or bs i 0) (sym z) ∙ sym (get_or-drop at bs 0 0) ∙ ap (λ (l : List ℕ). get_or l 0 0) d in
    let n : get_or bs at 0 ≡ 2 → ⊥ = λ y. c (sym e ∙ y) in
    record { fault = rw (ne_eqb (get_or bs at 0) 2 n); number = rw (ne_eqb (get_or bs at 0) 2 n); values = refl }
evolution-read bs at (v ∷ vs) rest f b c d = evolution-there bs at (v ∷ vs) rest (omega arith) f b d

axes-length : (a : AxesPlan) → length (axes_bytes a) ≡ 19
unfolding axes_bytes
axes-length a = simp (length-append, bytes-length) (omega arith)

axes-long : (a : AxesPlan) (r : List ℕ) → 19 ≤ length (axes_bytes a ++ r)
axes-long a r = simp length-append (omega (arith, axes-length a))

bins-length : (b : BinsPlan) → length (bins_bytes b) ≡ 14
unfolding bins_bytes
bins-length b = simp (length-append, bytes-length) (omega arith)

bins-long : (b : BinsPlan) (r : List ℕ) → 14 ≤ length (bins_bytes b ++ r)
bins-long b r = simp length-append (omega (arith, bins-length b))

record AxesRead (bs : List ℕ) (p : Place) (a : AxesPlan) (es : List ℕ) : Type 0 where
  tag : get_or bs p.at 0 ≡ 1
  form : formed bs p.at 16 ≡ true
  numbers : axes_at bs p.at ≡ a
  evolution : evolution_fault bs (p.at + 19) ≡ 0
  values : values_at bs (p.at + 22) a.values ≡ es

axes-read : (bs : List ℕ) (p : Place) (a : AxesPlan) (es rest : List ℕ) → AxesValid a es p.tally.left → Clear rest → drop p.at bs ≡ axes_bytes a ++ (evolution_bytes es ++ rest)
    → AxesRead bs p a es
unfolding axes_bytes axes_at
axes-read bs p a es rest v c d =
    let at = p.at in
    let o = axes-free a p.tally.left v.free in
    let few = at_most 1 8 a.axes o.axes in
    let small = at_most 1 1024 a.bins o.bins in
    let R = evolution_bytes es ++ rest in
    let r0 = read_one bs at (at + 1) 1 (16 ∷ (0 ∷ (a.axes ∷ ((bytes_of 2 a.bins ++ (bytes_of 4 a.least ++ (a.flag ∷ bytes_of 8 a.floor))) ++ R)))) refl d in
    let r1 = read_number bs 2 (at + 1) (at + 3) 16 _ (omega arith) (omega arith) (r0.next ∙ ap (λ (h : List ℕ). h ++ (a.axes ∷ ((bytes_of 2 a.bins ++ (bytes_of 4 a.least ++ (a.flag ∷ bytes_of 8 a.floor))) ++ R))) (sym sixteen)) in
    let r3 = read_one bs (at + 3) (at + 4) a.axes _ (omega arith) r1.next in
    let r4 = read_number bs 2 (at + 4) (at + 6) a.bins ((bytes_of 4 a.least ++ (a.flag ∷ bytes_of 8 a.floor)) ++ R) (omega arith) (omega arith)
    (r3.next ∙ append_assoc (bytes_of 2 a.bins) (bytes_of 4 a.least ++ (a.flag ∷ bytes_of 8 a.floor)) R) in
    let r6 = read_number bs 4 (at + 6) (at + 10) a.least ((a.flag ∷ bytes_of 8 a.floor) ++ R) (omega arith) v.least (r4.next ∙ append_assoc (bytes_of 4 a.least) (a.flag ∷ bytes_of 8 a.floor) R) in
    let r10 = read_one bs (at + 10) (at + 11) a.flag (bytes_of 8 a.floor ++ R) (omega arith) r6.next in
    let r11 = read_number bs 8 (at + 11) (at + 19) a.floor R (omega arith) v.floor r10.next in
    let few16 = v.few in
    let n = v.number in
    let g = evolution-read bs (at + 19) es rest (omega arith) v.inbounds c r11.next in
    let s : at + 19 + 3 ≡ at + 22 = omega arith in
    let values : values_at bs (at + 22) (length es) ≡ es = rw s at g.values in
    let most : scanned a.bins (values_at bs (at + 22) (length es)) ≡ a.most = rw values (scan-most a.bins es v.inbounds ∙ sym v.most) in
    let w : at + 3 + 16 ≤ length bs = omega (arith, long bs at 19 (axes_bytes a ++ R) d (omega arith) (axes-long a R)) in
    record {
      tag = r0.value;
      form = formed-so bs at 16 r1.value w;
      numbers = rw (r3.value, r4.value, r6.value, r10.value, r11.value, g.number, most, n);
      evolution = g.fault;
      values = ap (λ (k : ℕ). values_at bs (at + 22) k) (sym n) ∙ values;
    }

field-axes : (bs : List ℕ) (l : ℕ) (p : Place) (a : AxesPlan) (es : List ℕ) → AxesValid a es p.tally.left → AxesRead bs p a es
    → field_of bs l p ≡ found (child.Axes a) (p.at + span_of a.values) (axes_taken a p.tally)
unfolding field_of axes_field
field-axes bs l p a es v r = rw (r.tag, r.form, r.numbers, v.free, r.evolution)

field-bins : (bs : List ℕ) (l : ℕ) (p : Place) (b : BinsPlan) (rest : List ℕ) → bins_fault b p.tally.left l ≡ 0 → b.ratio < 0x1_0000_0000_0000_0000 → drop p.at bs ≡ bins_bytes b ++ rest
    → field_of bs l p ≡ found (child.Bins b) (p.at + 14) (bins_taken b p.tally)
unfolding bins_bytes field_of bins_field bins_at
field-bins bs l p b rest f ratio d =
    let at = p.at in
    let small = at_most 1 256 b.bins (bins-free b p.tally.left l f).bins in
    let r0 = read_one bs at (at + 1) 3 (11 ∷ (0 ∷ ((bytes_of 2 b.bins ++ (bytes_of 8 b.ratio ++ (b.flag ∷ []))) ++ rest))) refl d in
    let r1 = read_number bs 2 (at + 1) (at + 3) 11 _ (omega arith) (omega arith) (r0.next ∙ ap (λ (h : List ℕ). h ++ ((bytes_of 2 b.bins ++ (bytes_of 8 b.ratio ++ (b.flag ∷ []))) ++ rest)) (sym eleven)) in
    let r3 = read_number bs 2 (at + 3) (at + 5) b.bins ((bytes_of 8 b.ratio ++ (b.flag ∷ [])) ++ rest) (omega arith) (omega arith)
    (r1.next ∙ append_assoc (bytes_of 2 b.bins) (bytes_of 8 b.ratio ++ (b.flag ∷ [])) rest) in
    let r5 = read_number bs 8 (at + 5) (at + 13) b.ratio ((b.flag ∷ []) ++ rest) (omega arith) ratio (r3.next ∙ append_assoc (bytes_of 8 b.ratio) (b.flag ∷ []) rest) in
    let r13 = read_one bs (at + 13) (at + 14) b.flag rest (omega arith) r5.next in
    let w : at + 3 + 11 ≤ length bs = omega (arith, long bs at 14 (bins_bytes b ++ rest) d (omega arith) (bins-long b rest)) in
    rw (r0.value, formed-so bs at 11 r1.value w, r3.value, r5.value, r13.value, f)

-- 2. The whole --------------------------------------------------------------------------------------------

spans : (a : AxesPlan) (es : List ℕ) → span_of (length es) ≡ length (axes_bytes a ++ evolution_bytes es)
unfolding span_of evolution_bytes
spans a [] = simp length-append (omega (arith, axes-length a))
spans a (v ∷ vs) =
    let n : length (v ∷ vs) ≡ 0 → ⊥ = λ y. absurd (omega arith) in
    rw (ne_eqb (length (v ∷ vs)) 0 n) (simp (length-append, bytes-length, pairs-length) (omega (arith, axes-length a)))

span-length : (a : AxesPlan) (es : List ℕ) → length es ≡ a.values → span_of a.values ≡ length (axes_bytes a ++ evolution_bytes es)
span-length a es e = ap span_of (sym e) ∙ spans a es

head_clear : (t : Tree) (rest : List ℕ) → Clear (encode t ++ rest)
unfolding encode axes_bytes bins_bytes
head_clear nothing rest e = absurd (omega arith)
head_clear (axes a es) rest e = absurd (omega arith)
head_clear (bins b ts) rest e = absurd (omega arith)

all-clear : (ts : Trees) (rest : List ℕ) → Clear rest → Clear (encode_all ts ++ rest)
unfolding encode
all-clear none rest c e = c e
all-clear (more t ts) rest c e = head_clear t (encode_all ts ++ rest) (ap (λ (l : List ℕ). get_or l 0 0) (sym (append_assoc (encode t) (encode_all ts) rest)) ∙ e)

rest_of : (bs : List ℕ) (at : ℕ) (enc rest : List ℕ) → drop at bs ≡ enc ++ rest → drop (at + length enc) bs ≡ rest
rest_of bs at enc rest e = sym (drop-drop (length enc) at bs) ∙ ap (drop (length enc)) e ∙ drop-append_seam enc rest

mutual
  unfolding after encode count trees_of

  pub complete : (bs : List ℕ) (t : Tree) (l : ℕ) (p : Place) (rest : List ℕ) → Clear rest → valid l t p.tally ≡ true → drop p.at bs ≡ encode t ++ rest
      → tree_of (from_bytes bs) l p ≡ Out.reads t (record { at = p.at + length (encode t); tally = after t p.tally })
  complete bs nothing l p rest c v e = tree-nothing (from_bytes bs) l p (field-nothing bs l p rest e)
  complete bs (axes a es) l p rest c v e =
      let k = axes-valid l a es p.tally v in
      let r = axes-read bs p a es rest k c (e ∙ append_assoc (axes_bytes a) (evolution_bytes es) rest) in
      tree-axes (from_bytes bs) l p (field-axes bs l p a es k r) ∙ rw (r.values, span-length a es k.number)
  complete bs (bins b ts) l p rest c v e =
      let k = bins-valid l b ts p.tally v in
      let d = e ∙ append_assoc (bins_bytes b) (encode_all ts) rest in
      let f = field-bins bs l p b (encode_all ts ++ rest) k.free k.ratio d in
      let n : p.at + 14 ≡ p.at + length (bins_bytes b) = ap (λ (i : ℕ). p.at + i) (sym (bins-length b)) in
      let q : Place = record { at = p.at + 14; tally = bins_taken b p.tally } in
      let r = complete-all bs ts (l - 1) (q.tally.words - b.bins) q rest c k.rest (ap (λ (i : ℕ). drop i bs) n ∙ rest_of bs p.at (bins_bytes b) (encode_all ts ++ rest) d) in
      let z : q.at + length (encode_all ts) ≡ p.at + length (bins_bytes b ++ encode_all ts) = simp length-append (omega (arith, bins-length b)) in
      tree-bins (from_bytes bs) l p (bins-free b p.tally.left l k.free).level f
      ∙ ap (λ (m : ℕ). bins_to b (trees_of (λ s x. tree_of (from_bytes bs) (l - 1) x) (q.tally.words - b.bins) m q)) (sym k.number)
      ∙ ap (bins_to b) r ∙ rw z

  complete-all : (bs : List ℕ) (ts : Trees) (l s : ℕ) (p : Place) (rest : List ℕ) → Clear rest → valid_all l ts p.tally ≡ true → drop p.at bs ≡ encode_all ts ++ rest
      → trees_of (λ s x. tree_of (from_bytes bs) l x) s (count ts) p ≡ Outs.reads ts (record { at = p.at + length (encode_all ts); tally = after_all ts p.tally })
  complete-all bs none l s p rest c v e = let z : p.at + 0 ≡ p.at = omega arith in rw z
  complete-all bs (more t ts) l s p rest c v e =
      let k = more-valid l t ts p.tally v in
      let e' : drop p.at bs ≡ encode t ++ (encode_all ts ++ rest) = e ∙ append_assoc (encode t) (encode_all ts) rest in
      let a = complete bs t l p (encode_all ts ++ rest) (all-clear ts rest c) k.head e' in
      let q : Place = record { at = p.at + length (encode t); tally = after t p.tally } in
      let d = complete-all bs ts l (s + 1) q rest c k.tail (rest_of bs p.at (encode t) (encode_all ts ++ rest) e') in
      let z : q.at + length (encode_all ts) ≡ p.at + length (encode t ++ encode_all ts) = simp length-append (omega arith) in
      rw (a, d, z)
