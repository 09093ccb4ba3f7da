-- The run of a stream in an octet, and a block sorted by runs: what has come out of its first octets, of a frame, and of all.
use mathlib.Core.Path.{◌≡◌, refl, ap, sym, ◌∙◌}
use mathlib.Core.Bool.{Bool, true, false, false≢true}
use mathlib.Core.Logic.{◌⊎◌, inl, inr, ⊎_elim}
use mathlib.Core.List.{List, [], ◌++◌, append_assoc, append-nil}
use Prim.Native.Nat.{ℕ, zero, suc, ◌+◌, ◌-◌, ◌*◌, ◌%◌, ◌≤◌, ◌<◌}
use native.Mathlib.Nat.{mod-eq_of_lt, mul_comm, add-zero, suc-add}
use native.Mathlib.Numerals.{add-one}
use native.Mathlib.Omega.{arith}
use borrow.Author.Tests.{eqb-true, leb-true, leb-false}
use lib.Dec.{eqb, leb}
use lib.ListN.{length, get_or, take, drop, length-append, length-replicate}
use lib.Seq.{drop-drop, take-add, drop-cons}
use Rattle.bits.specs.Bits.{bits_of, octet_bits}
use Rattle.bits.proofs.BoolLaws.{and_left, and_right}
use Rattle.bits.proofs.RunLaws.{drop-bits_of, run-left, length-octet}
use Rattle.modes.specs.declared.Owner.{Owner}
use Rattle.modes.specs.declared.Owner.TheVariants.{Voice, Lsd, Nobody}
use Rattle.places.specs.Streams.{same, sort}
use Rattle.places.specs.Layout.{Apart, columns_by, channel_by, row_by, rows_by, in_eights}
use Rattle.places.specs.declared.Layout.{Layout}
use Rattle.places.proofs.StreamLaws.{sort-append, sort_all, sort_none}
use Rattle.places.proofs.LayoutLaws.{channel_cases, channel_lsd, no_voice, length-row}
use Rattle.packing.specs.Filled.{runs}
use Rattle.packing.proofs.RunsLaws.{no_runs}
use Rattle.buffers.specs.Lengths.{line_octets}
use Rattle.sorter.specs.Sofar.{block_rows, sofar}

-- ---- the run of a stream in an octet
pub sort-voice : (p : Layout) (o : ℕ) (bs : List Bool) → sort Voice (row_by p o) bs ≡ take p.width bs
unfolding row_by columns_by same sort
sort-voice p o bs = simp (sort-append, sort_all, sort_none Voice Nobody, sort_none Voice Lsd, no_voice, append-nil)

sort-lsd : (p : Layout) (o : ℕ) (bs : List Bool) → p.width + p.columns ≤ 7
    → sort Lsd (row_by p o) bs ≡ take p.columns (drop (7 - p.columns) bs) ++ take (same Lsd (channel_by p o)) (drop 7 bs)
unfolding row_by columns_by same sort
sort-lsd p o bs h =
    let e : p.width + (7 - (p.width + p.columns)) ≡ 7 - p.columns = omega arith in
    let f : 7 - p.columns + p.columns ≡ 7 = omega arith in
    simp (sort-append, sort_all, sort_none Lsd Nobody, sort_none Lsd Voice, length-append, length-replicate, append-nil, e, f)

not_lsd : (p : Layout) (o : ℕ) → (o < p.first) ⊎ (p.last < o) → same Lsd (channel_by p o) ≡ 0
unfolding same
not_lsd p o h =
    channel_cases p o (λ (w : Owner). same Lsd w ≡ 0)
    (λ l. refl)
    (λ l f u. ⊎_elim (λ b. absurd (omega arith)) (λ a. absurd (omega arith)) h)
    (λ l b. refl)
    (λ l a. refl)

-- data with the SC bit of its octet, and without
pub sort-lsd_in : (p : Layout) (o : ℕ) (bs : List Bool) → p.width + p.columns ≤ 7 → 16 < o → p.first ≤ o → o ≤ p.last
    → sort Lsd (row_by p o) bs ≡ take (p.columns + 1) (drop (7 - p.columns) bs)
unfolding same
sort-lsd_in p o bs h k f l =
    let e : 7 - p.columns + p.columns ≡ 7 = omega arith in
    rw (sort-lsd p o bs h, channel_lsd p o k f l, take-add p.columns 1 (drop (7 - p.columns) bs), drop-drop p.columns (7 - p.columns) bs, e)

pub sort-lsd_out : (p : Layout) (o : ℕ) (bs : List Bool) → p.width + p.columns ≤ 7 → (o < p.first) ⊎ (p.last < o)
    → sort Lsd (row_by p o) bs ≡ take p.columns (drop (7 - p.columns) bs)
sort-lsd_out p o bs h k = rw (sort-lsd p o bs h, not_lsd p o k, append-nil)

-- ---- a block, octet by octet
block-low : (p : Layout) (n : ℕ) → n ≤ 80 → block_rows p n ≡ rows_by p n
unfolding rows_by
block-low p zero h = refl
block-low p (suc n) h = rw (block-low p n (omega arith), mod-eq_of_lt h, add-one n)

block_high : (p : Layout) (n : ℕ) → n ≤ 80 → block_rows p (n + 80) ≡ rows_by p 80 ++ rows_by p n
unfolding rows_by
block_high p zero h = block-low p 80 (omega arith) ∙ sym (append-nil (rows_by p 80))
block_high p (suc n) h =
    let e : (n + 80) % 80 + 1 ≡ suc n = omega arith in
    rw (suc-add n 80, block_high p n (omega arith), e) (append_assoc (rows_by p 80) (rows_by p n) (row_by p (suc n)))

pub block_all : (p : Layout) → block_rows p line_octets ≡ rows_by p 80 ++ rows_by p 80
block_all p = block_high p 80 (omega arith)

length-block : (p : Layout) (n : ℕ) → p.width + p.columns ≤ 7 → length (block_rows p n) ≡ n * 8
length-block p zero h = refl
length-block p (suc n) h = simp (length-append, length-block p n h, length-row p (n % 80 + 1) h) (omega arith)

-- one octet more, of which the stream holds a run
pub sofar-more : (p : Layout) (w : Owner) (line : List ℕ) (o s n : ℕ) → p.width + p.columns ≤ 7 → s + n ≤ 8 → o < length line
    → ((bs : List Bool) → sort w (row_by p (o % 80 + 1)) bs ≡ take n (drop s bs))
    → sofar p w line (o + 1) ≡ sofar p w line o ++ take n (drop s (octet_bits (get_or line o 0)))
unfolding bits_of
sofar-more p w line o s n h hn ho run =
    let b : List Bool = bits_of line in
    let x : ℕ = get_or line o 0 in
    let at : length (block_rows p o) ≡ 8 * o = length-block p o h ∙ mul_comm o 8 in
    let here : drop (8 * o) b ≡ octet_bits x ++ bits_of (drop (suc o) line) = drop-bits_of o line ∙ ap bits_of (drop-cons line o 0 ho) in
    let fits : s + n ≤ length (octet_bits x) = rw length-octet hn in
    ap (λ (k : ℕ). sort w (block_rows p k) b) (add-one o) ∙ sort-append w (block_rows p o) (row_by p (o % 80 + 1)) b
    ∙ ap (λ (l : List Bool). sofar p w line o ++ l)
    (rw (run (drop (length (block_rows p o)) b), at, here) (run-left s n (octet_bits x) (bits_of (drop (suc o) line)) fits))

pub sofar-runs : (p : Layout) (w : Owner) (line : List ℕ) (o s n k : ℕ) → p.width + p.columns ≤ 7 → s + n ≤ 8 → o + k ≤ length line
    → ((j : ℕ) → j < k → (bs : List Bool) → sort w (row_by p ((o + j) % 80 + 1)) bs ≡ take n (drop s bs))
    → sofar p w line (o + k) ≡ sofar p w line o ++ runs s n line o k
unfolding runs
sofar-runs p w line o s n zero h hn ho run = rw (add-zero o) (sym (append-nil (sofar p w line o)))
sofar-runs p w line o s n (suc k) h hn ho run =
    let e : o + suc k ≡ o + k + 1 = omega arith in
    let x : ℕ = get_or line (o + k) 0 in
    ap (sofar p w line) e
    ∙ sofar-more p w line (o + k) s n h hn (omega arith) (run k (omega arith))
    ∙ ap (λ (l : List Bool). l ++ take n (drop s (octet_bits x))) (sofar-runs p w line o s n k h hn (omega arith) (λ j l. run j (omega arith)))
    ∙ append_assoc (sofar p w line o) (runs s n line o k) (take n (drop s (octet_bits x)))

-- ---- octets a + 1 to b of a block, which lie in the frame that follows octet `from`
row_at : (from a j : ℕ) → from % 80 ≡ 0 → from ≤ a → a + j < from + 80 → (a + j) % 80 + 1 ≡ a + j + 1 - from
row_at from a j h l m = omega arith

up_to : (p : Layout) (w : Owner) (line : List ℕ) (from a b s n : ℕ) → Apart p → length line ≡ line_octets
    → from % 80 ≡ 0 → from + 80 ≤ line_octets → from ≤ a → a ≤ b → b ≤ from + 80 → s + n ≤ 8
    → ((o : ℕ) → a < from + o → from + o ≤ b → (bs : List Bool) → sort w (row_by p o) bs ≡ take n (drop s bs))
    → sofar p w line b ≡ sofar p w line a ++ runs s n line a (b - a)
up_to p w line from a b s n h hl hf he ha hab hb hn run =
    let e : a + (b - a) ≡ b = omega arith in
    ap (sofar p w line) (sym e)
    ∙ sofar-runs p w line a s n (b - a) h.within hn (omega arith)
    (λ j l bs. rw (row_at from a j hf ha (omega arith)) (run (a + j + 1 - from) (omega arith) (omega arith) bs))

-- those that data has no SC bit of, and those that it has the SC bit of
pub lsd-without : (p : Layout) (line : List ℕ) (from a b : ℕ) → Apart p → length line ≡ line_octets
    → from % 80 ≡ 0 → from + 80 ≤ line_octets → from ≤ a → a ≤ b → b ≤ from + 80 → (b < from + p.first) ⊎ (from + p.last ≤ a)
    → sofar p Lsd line b ≡ sofar p Lsd line a ++ runs (7 - p.columns) p.columns line a (b - a)
lsd-without p line from a b h hl hf he ha hab hb out =
    up_to p Lsd line from a b (7 - p.columns) p.columns h hl hf he ha hab hb (omega (arith, h.within)) (λ o l m bs. sort-lsd_out p o bs h.within (beyond o l m out))
  where
    beyond : (o : ℕ) → a < from + o → from + o ≤ b → (b < from + p.first) ⊎ (from + p.last ≤ a) → (o < p.first) ⊎ (p.last < o)
    beyond o l m (inl e) = inl (omega arith)
    beyond o l m (inr e) = inr (omega arith)

pub lsd_with : (p : Layout) (line : List ℕ) (from a b : ℕ) → Apart p → length line ≡ line_octets
    → from % 80 ≡ 0 → from + 80 ≤ line_octets → a ≤ b → from + p.first ≤ a + 1 → b ≤ from + p.last
    → sofar p Lsd line b ≡ sofar p Lsd line a ++ runs (7 - p.columns) (p.columns + 1) line a (b - a)
lsd_with p line from a b h hl hf he hab hfirst hlast =
    up_to p Lsd line from a b (7 - p.columns) (p.columns + 1) h hl hf he (omega (arith, h.after)) hab (omega (arith, h.until)) (omega (arith, h.within))
    (λ o l m bs. sort-lsd_in p o bs h.within (omega (arith, h.after)) (omega arith) (omega arith))

pub whole-eights : (p : Layout) → in_eights p ≡ true → (p.first % 8 ≡ 1) × (p.last % 8 ≡ 0)
unfolding in_eights
whole-eights p e =
    (eqb-true (p.first % 8) 1 (and_left (eqb (p.first % 8) 1) (eqb (p.last % 8) 0) e), eqb-true (p.last % 8) 0 (and_right (eqb (p.first % 8) 1) (eqb (p.last % 8) 0) e))

-- where data has no octet bits, a frame's SC bits are all
pub lsd-bits : (p : Layout) (line : List ℕ) (from a b : ℕ) → Apart p → p.columns ≡ 0 → length line ≡ line_octets
    → from % 80 ≡ 0 → from + 80 ≤ line_octets → a + 1 ≡ from + p.first → b ≡ from + p.last
    → sofar p Lsd line (from + 80) ≡ sofar p Lsd line from ++ runs 7 1 line a (b - a)
lsd-bits p line from a b h none hl hf he ha hb =
    let after = h.after in
    let ends = h.runs in
    let until = h.until in
    let nothing : (i k : ℕ) (l : List Bool) → l ++ runs (7 - p.columns) p.columns line i k ≡ l =
    λ i k l. ap (λ (n : ℕ). l ++ runs (7 - n) n line i k) none ∙ ap (λ (r : List Bool). l ++ r) (no_runs 7 line i k) ∙ append-nil l in
    lsd-without p line from b (from + 80) h hl hf he (omega arith) (omega arith) (omega arith) (inr (omega arith)) ∙ nothing b (from + 80 - b) (sofar p Lsd line b)
    ∙ lsd_with p line from a b h hl hf he (omega arith) (omega arith) (omega arith)
    ∙ ap (λ (n : ℕ). sofar p Lsd line a ++ runs (7 - n) (n + 1) line a (b - a)) none
    ∙ ap (λ (l : List Bool). l ++ runs 7 1 line a (b - a))
    (lsd-without p line from from a h hl hf he (omega arith) (omega arith) (omega arith) (inl (omega arith)) ∙ nothing from (a - from) (sofar p Lsd line from))

pub bits_alone : (p : Layout) → Apart p → in_eights p ≡ false → p.columns ≡ 0
bits_alone p h e = ⊎_elim (λ none. none) (λ t. absurd (false≢true (sym e ∙ t))) h.even

-- ---- a whole block
-- nothing, at the start
pub none_yet : (p : Layout) (w : Owner) (line : List ℕ) → [] ≡ sofar p w line 0
unfolding sort
none_yet p w line = refl

pub voice_all : (p : Layout) (line : List ℕ) → Apart p → length line ≡ line_octets
    → runs 0 p.width line 0 line_octets ≡ sort Voice (rows_by p 80 ++ rows_by p 80) (bits_of line)
unfolding sort
voice_all p line h hl =
    sym (sofar-runs p Voice line 0 0 p.width line_octets h.within (omega (arith, h.within)) (omega arith) (λ j l bs. sort-voice p ((0 + j) % 80 + 1) bs))
    ∙ ap (λ (ps : List Owner). sort Voice ps (bits_of line)) (block_all p)

pub lsd_all : (p : Layout) (line : List ℕ) → Apart p → length line ≡ line_octets → p.last < p.first
    → runs (7 - p.columns) p.columns line 0 line_octets ≡ sort Lsd (rows_by p 80 ++ rows_by p 80) (bits_of line)
unfolding sort
lsd_all p line h hl none =
    sym (sofar-runs p Lsd line 0 (7 - p.columns) p.columns line_octets h.within (omega (arith, h.within)) (omega arith)
    (λ j l bs. sort-lsd_out p ((0 + j) % 80 + 1) bs h.within (outside ((0 + j) % 80 + 1) (leb ((0 + j) % 80 + 1) p.last) refl)))
    ∙ ap (λ (ps : List Owner). sort Lsd ps (bits_of line)) (block_all p)
  where
    outside : (o : ℕ) (b : Bool) → leb o p.last ≡ b → (o < p.first) ⊎ (p.last < o)
    outside o true e = inl (omega (arith, leb-true o p.last e))
    outside o false e = inr (leb-false o p.last e)
