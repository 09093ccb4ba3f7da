-- Reading by the table of flips is reading by the definition.
use mathlib.Core.Path.{◌≡◌, refl, sym, ap, ap₂, ◌∙◌, subst}
use mathlib.Core.Bool.{Bool, true, false, cond, xor, not, false≢true, ◌&&◌, ◌||◌}
use mathlib.Core.List.{List, [], ◌∷◌, ◌++◌, map, nil≢cons, head-eq_of_cons-eq}
use mathlib.Core.Logic.{◌≢◌, ⊎_elim}
use Prim.Native.Nat.{ℕ, zero, suc, ◌+◌, ◌-◌, ◌/◌, ◌%◌, ◌^◌, ◌≤◌, ◌<◌, min}
use native.Mathlib.Nat.{suc_inj, suc-ne-zero, eq-or-lt_of_le, le_of_suc-le-suc, lt-suc_self, le_step}
use native.Mathlib.Decide.{ℕ_discrete}
use native.Mathlib.Omega.{arith}
use lib.Dec.{leb, eqb}
use lib.ListN.{length, take, drop, length-take, length-drop}
use lib.Seq.{take_at, drop_at}
use lib.Bits.{bit_xor, xor_lt, xor_zero_r}
use borrow.Author.Tests.{eq-eqb, ne_eqb, leb-true, eqb-true, eqb-false, not-true, le-leb, lt-leb}
use Rattle.std.specs.Prelude.{Some, None, is_some}
use Rattle.bits.specs.Bits.{odd, low_bits, octet_bits, digit, number, zeros, xors}
use Rattle.bits.specs.Remainder.{scaled, fed, continued, remainder}
use Rattle.bits.proofs.BitLaws.{xors_comm, xors_medial, xors_self, xors-zeros, xors_cancel, xors-append, xors_swap, take-xors, drop-xors, length-xors, length-low_bits, low_bits-xor, low_bits-append, low_bits-back, low_bits-mod, number_fits, number_bound, number_inj}
use Rattle.bits.proofs.RemainderLaws.{length-remainder, remainder-xor}
use Rattle.bas.specs.Words.{bas_generator, check_of, word_bits, word_of}
use Rattle.bas.specs.Reading.{weight, distance, near, kept_if, codes_near, the_one, reading_of}
use Rattle.bas.specs.Flips.{lights, syndrome, filled, flip_table, entry_at, flips_at}
use Rattle.bas.proofs.WordLaws.{check-bits, length-word_bits, triangle, five_apart}
use Rattle.bits.proofs.BoolLaws.{and_left, and_right, and_make, or_right, isnt_true, every_below, below}

-- ---- the table's rule
abbrev all : (List Bool → Bool) → List (List Bool) → Bool
all p [] = true
all p (e ∷ es) = p e && all p es

-- each pattern of at most two bits stands at its remainder, and none is 65535
pattern_right : List Bool → Bool
pattern_right e = eqb (entry_at (number (syndrome e))) (number e) && not (eqb (number e) 65535)

all_patterns : all pattern_right (lights 16 2) ≡ true
unfolding pattern_right entry_at flip_table filled syndrome lights number remainder continued fed xors scaled xor
all_patterns = refl

-- each entry but 65535 is a pattern of at most two bits with this remainder
entry_right : ℕ → Bool
entry_right s =
    eqb (entry_at s) 65535
    || leb (weight (low_bits 16 (entry_at s))) 2 && eqb (number (syndrome (low_bits 16 (entry_at s)))) s

all_entries : every_below 256 entry_right ≡ true
unfolding entry_right entry_at flip_table filled syndrome lights low_bits odd weight number remainder continued fed xors scaled xor
all_entries = refl

-- what passes at each of the light lists passes at each list that is light
all_map : (p : List Bool → Bool) (f : List Bool → List Bool) (es : List (List Bool)) → all p (map f es) ≡ true → all (λ (l : List Bool). p (f l)) es ≡ true
all_map p f [] t = refl
all_map p f (e ∷ es) t =
    and_make (p (f e)) (all (λ (l : List Bool). p (f l)) es) (and_left (p (f e)) (all p (map f es)) t)
    (all_map p f es (and_right (p (f e)) (all p (map f es)) t))

all_append : (p : List Bool → Bool) (xs ys : List (List Bool)) → all p (xs ++ ys) ≡ true → (all p xs ≡ true) × (all p ys ≡ true)
all_append p [] ys t = (refl, t)
all_append p (x ∷ xs) ys t =
    let rest = all_append p xs ys (and_right (p x) (all p (xs ++ ys)) t) in
    (and_make (p x) (all p xs) (and_left (p x) (all p (xs ++ ys)) t) rest.0, rest.1)

-- a bit put before each list
before : Bool → List Bool → List Bool
before b l = b ∷ l

light : (n k : ℕ) (p : List Bool → Bool) → all p (lights n k) ≡ true → (e : List Bool) → length e ≡ n → weight e ≤ k → p e ≡ true
unfolding lights weight before
light zero k p t [] h w = and_left (p []) true t
light zero k p t (b ∷ e) h w = absurd (suc-ne-zero _ h)
light (suc n) k p t [] h w = absurd (suc-ne-zero _ (sym h))
light (suc n) zero p t (true ∷ e) h w = absurd (omega arith)
light (suc n) zero p t (false ∷ e) h w =
    light n zero (λ (l : List Bool). p (false ∷ l)) (all_map p (before false) (lights n zero) t) e (suc_inj h) (omega arith)
light (suc n) (suc k) p t (b ∷ e) h w = go b e h w (all_append p (map (before false) (lights n (suc k))) (map (before true) (lights n k)) t) (light n)
  where
    go : (b : Bool) (e : List Bool) → length (b ∷ e) ≡ suc n → weight (b ∷ e) ≤ suc k
        → (all p (map (before false) (lights n (suc k))) ≡ true) × (all p (map (before true) (lights n k)) ≡ true)
        → ((k : ℕ) (p : List Bool → Bool) → all p (lights n k) ≡ true → (e : List Bool) → length e ≡ n → weight e ≤ k → p e ≡ true)
        → p (b ∷ e) ≡ true
    go true e h w both rest = rest k (λ (l : List Bool). p (true ∷ l)) (all_map p (before true) (lights n k) both.1) e (suc_inj h) (omega arith)
    go false e h w both rest =
        rest (suc k) (λ (l : List Bool). p (false ∷ l)) (all_map p (before false) (lights n (suc k)) both.0) e (suc_inj h) (omega arith)

-- ---- the codes that are near
none_near : (w n : ℕ) → ((c : ℕ) → c < n → near w c ≡ true → ⊥) → codes_near w n ≡ []
unfolding codes_near kept_if
none_near w zero h = refl
none_near w (suc n) h =
    rw (isnt_true (near w n) (h n (lt-suc_self n))) (none_near w n (λ c i. h c (le_step i)))

one_near : (w n c : ℕ) → c < n → near w c ≡ true → ((d : ℕ) → d < n → near w d ≡ true → d ≡ c) → codes_near w n ≡ c ∷ []
unfolding codes_near kept_if
one_near w zero c h t only = absurd (omega arith)
one_near w (suc n) c h t only =
    ⊎_elim
    (λ e.
    let here : near w n ≡ true = ap (near w) (sym e) ∙ t in
    rw here (ap₂ ◌∷◌ (sym e) (none_near w n (λ d i u. let same = only d (le_step i) u in omega arith))))
    (λ i.
    let not-here : near w n ≡ false = isnt_true (near w n) (λ u. let same = only n (lt-suc_self n) u in omega arith) in
    rw not-here (one_near w n c i t (λ d j u. only d (le_step j) u)))
    (eq-or-lt_of_le (le_of_suc-le-suc h))

-- at most one code is near
pub near_once : (w c d : ℕ) → c < 256 → d < 256 → near w c ≡ true → near w d ≡ true → c ≡ d
unfolding near
near_once w c d hc hd tc td = elim (ℕ_discrete c d) [
  | yes e ↦ e
  | no ne ↦ absurd
      (omega (
        arith,
        five_apart c d hc hd ne,
        triangle (low_bits 16 w) (word_bits c) (word_bits d) (length-low_bits 16 w ∙ sym (length-word_bits c)) (length-word_bits c ∙ sym (length-word_bits d)),
        leb-true (distance (low_bits 16 w) (word_bits c)) 2 tc,
        leb-true (distance (low_bits 16 w) (word_bits d)) 2 td,
      ))
]

-- so the reading is the code that is near
pub reads : (w c : ℕ) → c < 256 → near w c ≡ true → reading_of w ≡ Some c
unfolding reading_of the_one
reads w c h t = ap the_one (one_near w 256 c h t (λ d i u. near_once w d c i h u t))

pub reads_none : (w : ℕ) → ((c : ℕ) → c < 256 → near w c ≡ true → ⊥) → reading_of w ≡ None
unfolding reading_of the_one
reads_none w h = ap the_one (none_near w 256 h)

-- ---- the remainder of a word that came
syndrome-append : (a p : List Bool) → length a ≡ 8 → syndrome (a ++ p) ≡ xors (remainder bas_generator a) p
unfolding syndrome
syndrome-append a p h = ap₂ (λ (x y : List Bool). xors (remainder bas_generator x) y) (take_at a p 8 h) (drop_at a p 8 h)

syndrome-word : (c : ℕ) → syndrome (word_bits c) ≡ zeros 8
unfolding word_bits
syndrome-word c =
    let r = remainder bas_generator (octet_bits c) in
    syndrome-append (octet_bits c) r (length-low_bits 8 c) ∙ xors_self r ∙ ap zeros (length-remainder bas_generator (octet_bits c))

length-syndrome : (x : List Bool) → length x ≡ 16 → length (syndrome x) ≡ 8
unfolding syndrome
length-syndrome x h =
    let r = remainder bas_generator (take 8 x) in
    let hr : length r ≡ 8 = length-remainder bas_generator (take 8 x) in
    let hd : length (drop 8 x) ≡ 8 = length-drop 8 x ∙ ap (λ (n : ℕ). n - 8) h in
    length-xors r (drop 8 x) (hr ∙ sym hd) ∙ hr

syndrome-xor : (x y : List Bool) → length x ≡ length y → syndrome (xors x y) ≡ xors (syndrome x) (syndrome y)
unfolding syndrome
syndrome-xor x y h =
    let same : length (take 8 x) ≡ length (take 8 y) = length-take 8 x ∙ ap (min 8) h ∙ sym (length-take 8 y) in
    ap₂ xors (ap (remainder bas_generator) (take-xors 8 x y) ∙ remainder-xor bas_generator (take 8 x) (take 8 y) same) (drop-xors 8 x y)
    ∙ xors_medial (remainder bas_generator (take 8 x)) (remainder bas_generator (take 8 y)) (drop 8 x) (drop 8 y)

-- a word's remainder is that of its difference from any code's word
syndrome-off : (x : List Bool) (c : ℕ) → length x ≡ 16 → syndrome (xors x (word_bits c)) ≡ syndrome x
syndrome-off x c h =
    syndrome-xor x (word_bits c) (h ∙ sym (length-word_bits c))
    ∙ ap (xors (syndrome x)) (syndrome-word c)
    ∙ xors-zeros (syndrome x) 8 (length-syndrome x h)

halves : (w : ℕ) → low_bits 16 w ≡ octet_bits (w / 256) ++ octet_bits w
halves w = low_bits-append 8 8 w

syndrome_is : (w : ℕ) → syndrome (low_bits 16 w) ≡ xors (remainder bas_generator (octet_bits (w / 256))) (octet_bits w)
syndrome_is w = ap syndrome (halves w) ∙ syndrome-append (octet_bits (w / 256)) (octet_bits w) (length-low_bits 8 (w / 256))

check-below : (c : ℕ) → check_of c < 256
unfolding check_of
check-below c =
    subst (λ (k : ℕ). check_of c < 2 ^ k) (length-remainder bas_generator (octet_bits c)) (number_bound (remainder bas_generator (octet_bits c)))

-- the index at which the code looks into the table of flips is the number that the syndrome spells
pub index_is_syndrome : (w : ℕ) → bit_xor (check_of (w / 256)) (w % 256) ≡ number (syndrome (low_bits 16 w))
index_is_syndrome w =
    let i = bit_xor (check_of (w / 256)) (w % 256) in
    let h : w % 256 < 256 = omega arith in
    sym (number_fits 8 i (xor_lt 8 (check_of (w / 256)) (w % 256) (check-below (w / 256)) h))
    ∙ ap number (low_bits-xor 8 (check_of (w / 256)) (w % 256) ∙ ap₂ xors (check-bits (w / 256)) (low_bits-mod 8 w) ∙ sym (syndrome_is w))

-- ---- the reading by the table
-- no entry: no code is near
unmended_at : (w : ℕ) → entry_at (number (syndrome (low_bits 16 w))) ≡ 65535 → reading_of w ≡ None
unfolding near pattern_right distance
unmended_at w e = reads_none w (λ c h t.
    let x = low_bits 16 w in
    let off = xors x (word_bits c) in
    let hx : length x ≡ 16 = length-low_bits 16 w in
    let hoff : length off ≡ 16 = length-xors x (word_bits c) (hx ∙ sym (length-word_bits c)) ∙ hx in
    let stands = eqb (entry_at (number (syndrome off))) (number off) in
    let full = eqb (number off) 65535 in
    let test : (stands && not full) ≡ true = light 16 2 pattern_right all_patterns off hoff (leb-true (weight off) 2 t) in
    let found : entry_at (number (syndrome off)) ≡ number off =
    eqb-true (entry_at (number (syndrome off))) (number off) (and_left stands (not full) test) in
    eqb-false (number off) 65535 (not-true full (and_right stands (not full) test))
    (sym found ∙ ap (λ (l : List Bool). entry_at (number l)) (syndrome-off x c hx) ∙ e))

-- the word with the bits of f flipped is the word of this code
flipped : ℕ → ℕ → ℕ
flipped w f = bit_xor (w / 256) (f / 256 % 256)

flipped_word : (w f : ℕ) → syndrome (low_bits 16 w) ≡ syndrome (low_bits 16 f) → word_bits (flipped w f) ≡ xors (low_bits 16 w) (low_bits 16 f)
unfolding word_bits flipped
flipped_word w f e =
    let a = octet_bits (w / 256) in
    let p = octet_bits w in
    let b = octet_bits (f / 256) in
    let q = octet_bits f in
    let ha : length a ≡ 8 = length-low_bits 8 (w / 256) in
    let hb : length b ≡ 8 = length-low_bits 8 (f / 256) in
    let ra : length (remainder bas_generator a) ≡ 8 = length-remainder bas_generator a in
    let rb : length (remainder bas_generator b) ≡ 8 = length-remainder bas_generator b in
    let sum : octet_bits (flipped w f) ≡ xors a b = low_bits-xor 8 (w / 256) (f / 256 % 256) ∙ ap (xors a) (low_bits-mod 8 (f / 256)) in
    ap (λ (l : List Bool). l ++ remainder bas_generator l) sum
    ∙ ap (λ (l : List Bool). xors a b ++ l)
    (remainder-xor bas_generator a b (ha ∙ sym hb)
    ∙ xors_swap (remainder bas_generator a) p (remainder bas_generator b) q
    (ra ∙ sym (length-low_bits 8 w)) (rb ∙ sym (length-low_bits 8 f)) (ra ∙ sym rb)
    (sym (syndrome_is w) ∙ e ∙ syndrome_is f))
    ∙ sym (xors-append a b p q (ha ∙ sym hb))
    ∙ ap₂ xors (sym (halves w)) (sym (halves f))

-- an entry: the code of the word with those bits flipped is near
mended_at : (w : ℕ) → w < 65536 → entry_at (number (syndrome (low_bits 16 w))) ≢ 65535
    → reading_of w ≡ Some (bit_xor (w / 256) (entry_at (number (syndrome (low_bits 16 w))) / 256 % 256))
unfolding near entry_right distance flipped
mended_at w h ne =
    let x = low_bits 16 w in
    let s = number (syndrome x) in
    let f = entry_at s in
    let y = low_bits 16 f in
    let hx : length x ≡ 16 = length-low_bits 16 w in
    let hy : length y ≡ 16 = length-low_bits 16 f in
    let hs : s < 256 = subst (λ (k : ℕ). s < 2 ^ k) (length-syndrome x hx) (number_bound (syndrome x)) in
    let few = leb (weight y) 2 in
    let same = eqb (number (syndrome y)) s in
    let test : (few && same) ≡ true =
    or_right (eqb f 65535) (few && same) (λ t. ne (eqb-true f 65535 t)) (below 256 entry_right all_entries s hs) in
    let light-y : weight y ≤ 2 = leb-true (weight y) 2 (and_left few same test) in
    let equal : syndrome x ≡ syndrome y =
    number_inj (syndrome x) (syndrome y) (length-syndrome x hx ∙ sym (length-syndrome y hy))
    (sym (eqb-true (number (syndrome y)) s (and_right few same test))) in
    let off : xors x (word_bits (flipped w f)) ≡ y = ap (xors x) (flipped_word w f equal) ∙ xors_cancel x y (hx ∙ sym hy) in
    let hw : w / 256 < 256 = omega arith in
    let hf : f / 256 % 256 < 256 = omega arith in
    reads w (flipped w f) (xor_lt 8 (w / 256) (f / 256 % 256) hw hf)
    (le-leb (weight (xors x (word_bits (flipped w f)))) 2 (subst (λ (l : List Bool). weight l ≤ 2) (sym off) light-y))

some≢none : (c : ℕ) → Some c ≡ None → ⊥
some≢none c e = let z : ◌≡◌ {A = ℕ} 0 1 = cc in omega arith

some_inj : (c d : ℕ) → Some c ≡ Some d → c ≡ d
some_inj c d e = cc

-- no flips at the remainder: no code is near
pub unmended : (w : ℕ) → flips_at (number (syndrome (low_bits 16 w))) ≡ None → reading_of w ≡ None
unfolding flips_at
unmended w e = go (ℕ_discrete (entry_at (number (syndrome (low_bits 16 w)))) 65535)
  where
    go : Dec (entry_at (number (syndrome (low_bits 16 w))) ≡ 65535) → reading_of w ≡ None
    go (yes i) = unmended_at w i
    go (no ne) = absurd (some≢none _ (sym (ap (λ (b : Bool). cond b None (Some (entry_at (number (syndrome (low_bits 16 w)))))) (ne_eqb _ _ ne)) ∙ e))

-- flips at the remainder: the code of the word that they leave is near
pub mended : (w f : ℕ) → w < 65536 → flips_at (number (syndrome (low_bits 16 w))) ≡ Some f
    → reading_of w ≡ Some (bit_xor (w / 256) (f / 256 % 256))
unfolding flips_at
mended w f h e = go (ℕ_discrete (entry_at (number (syndrome (low_bits 16 w)))) 65535)
  where
    go : Dec (entry_at (number (syndrome (low_bits 16 w))) ≡ 65535) → reading_of w ≡ Some (bit_xor (w / 256) (f / 256 % 256))
    go (yes i) = absurd (some≢none f (sym e ∙ ap (λ (b : Bool). cond b None (Some (entry_at (number (syndrome (low_bits 16 w)))))) (eq-eqb _ _ i)))
    go (no ne) =
        let is : Some (entry_at (number (syndrome (low_bits 16 w)))) ≡ Some f =
        sym (ap (λ (b : Bool). cond b None (Some (entry_at (number (syndrome (low_bits 16 w)))))) (ne_eqb _ _ ne)) ∙ e in
        mended_at w h ne ∙ ap (λ (n : ℕ). Some (bit_xor (w / 256) (n / 256 % 256))) (some_inj _ f is)

-- no remainder: the word is its code's
no_flip : entry_at 0 ≡ 0
unfolding entry_at flip_table filled syndrome lights number remainder continued fed xors scaled xor
no_flip = refl

pub unharmed : (w : ℕ) → w < 65536 → number (syndrome (low_bits 16 w)) ≡ 0 → reading_of w ≡ Some (w / 256)
unharmed w h e =
    let none : entry_at (number (syndrome (low_bits 16 w))) ≡ 0 = ap entry_at e ∙ no_flip in
    mended_at w h (λ all. omega arith)
    ∙ ap (λ (f : ℕ). Some (bit_xor (w / 256) (f / 256 % 256))) none
    ∙ ap Some (xor_zero_r (w / 256))

-- ---- what the definition means for a word that was sent
head_near : (w n c : ℕ) (cs : List ℕ) → codes_near w n ≡ c ∷ cs → near w c ≡ true
unfolding codes_near kept_if
head_near w zero c cs e = absurd (nil≢cons e)
head_near w (suc n) c cs e = pick (near w n) refl e (head_near w n c cs)
  where
    pick : (b : Bool) → near w n ≡ b → kept_if b n (codes_near w n) ≡ c ∷ cs → (codes_near w n ≡ c ∷ cs → near w c ≡ true) → near w c ≡ true
    pick true t h below = ap (near w) (sym (head-eq_of_cons-eq h)) ∙ t
    pick false t h below = below h

-- a code is near exactly where it is the reading
pub reading_near : (w c : ℕ) → reading_of w ≡ Some c → near w c ≡ true
unfolding reading_of the_one
reading_near w c e = from_one (codes_near w 256) refl e
  where
    from_one : (cs : List ℕ) → codes_near w 256 ≡ cs → the_one cs ≡ Some c → near w c ≡ true
    from_one [] h e = absurd (some≢none c (sym e))
    from_one (d ∷ []) h e = ap (near w) (sym (some_inj d c e)) ∙ head_near w 256 d [] h
    from_one (d ∷ d' ∷ ds) h e = absurd (some≢none c (sym e))

-- the sent word with the bits of e flipped on the way is near where e has at most two
near-sent : (c e : ℕ) → near (bit_xor (word_of c) e) c ≡ leb (weight (low_bits 16 e)) 2
unfolding near distance word_of
near-sent c e =
    let x = word_bits c in
    let y = low_bits 16 e in
    let came : low_bits 16 (bit_xor (number x) e) ≡ xors x y =
    low_bits-xor 16 (number x) e ∙ ap (λ (l : List Bool). xors l y) (low_bits-back 16 x (length-word_bits c)) in
    ap (λ (l : List Bool). leb (weight l) 2)
    (ap (λ (l : List Bool). xors l x) came ∙ xors_comm (xors x y) x ∙ xors_cancel x y (length-word_bits c ∙ sym (length-low_bits 16 e)))

-- up to two wrong bits are mended
pub two_wrong : (c e : ℕ) → c < 256 → weight (low_bits 16 e) ≤ 2 → reading_of (bit_xor (word_of c) e) ≡ Some c
two_wrong c e h few = reads (bit_xor (word_of c) e) c h (near-sent c e ∙ le-leb (weight (low_bits 16 e)) 2 few)

-- a word that came unharmed reads as its code
pub word_back : (c : ℕ) → c < 256 → reading_of (word_of c) ≡ Some c
unfolding low_bits odd weight
word_back c h = ap reading_of (sym (xor_zero_r (word_of c))) ∙ two_wrong c 0 h (omega arith)

-- three wrong bits, or more, never read as the sent code
pub three_wrong : (c e : ℕ) → 2 < weight (low_bits 16 e) → reading_of (bit_xor (word_of c) e) ≢ Some c
three_wrong c e many r =
    false≢true (sym (lt-leb (weight (low_bits 16 e)) 2 many) ∙ sym (near-sent c e) ∙ reading_near (bit_xor (word_of c) e) c r)

-- how many of the remainders below n can be mended: of the 256, 137, and so 119 not
unfoldable pub mendable : ℕ → ℕ
mendable zero = 0
mendable (suc n) = digit (is_some (flips_at n)) + mendable n

pub mendable-count : mendable 256 ≡ 137
unfolding mendable flips_at entry_at flip_table filled syndrome lights number remainder continued fed xors scaled xor
mendable-count = refl
