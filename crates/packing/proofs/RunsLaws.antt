-- Laws of the runs of octets: how many bits they are, which number, and more of them.
use mathlib.Core.Path.{◌≡◌, refl, ap, sym, ◌∙◌}
use mathlib.Core.Bool.{Bool}
use mathlib.Core.List.{List, [], ◌++◌, append_assoc, append-nil}
use Prim.Native.Nat.{ℕ, zero, suc, ◌+◌, ◌-◌, ◌*◌, ◌%◌, ◌^◌, ◌≤◌, ◌<◌}
use native.Mathlib.Nat.{add-zero, zero-mul, suc-mul}
use native.Mathlib.Numerals.{add-one}
use native.Mathlib.Omega.{arith}
use lib.ListN.{length, get_or, take, drop, length-append, length-drop, length-take}
use lib.Seq.{get_or-take, get_or-drop, drop-drop, length-take-le}
use Rattle.std.specs.Int.{from_be_bytes, w64}
use Rattle.std.specs.Simd.{first_chunks}
use Rattle.bits.specs.Bits.{octet_bits, number, eight_at}
use Rattle.bits.proofs.EightLaws.{eight_read}
use Rattle.bits.proofs.BitLaws.{number-low_bits, number_append}
use Rattle.bits.proofs.RunLaws.{run_value, length-octet}
use Rattle.packing.specs.Filled.{runs, Filled}

length_run : (s n x : ℕ) → s + n ≤ 8 → length (take n (drop s (octet_bits x))) ≡ n
length_run s n x h = simp (length-take, length-drop, length-octet) (omega arith)

pub length_runs : (s n : ℕ) (line : List ℕ) (o k : ℕ) → s + n ≤ 8 → length (runs s n line o k) ≡ k * n
unfolding runs
length_runs s n line o zero h = sym (zero-mul n)
length_runs s n line o (suc k) h = rw (length-append, length_runs s n line o k h, length_run s n (get_or line (o + k) 0) h, suc-mul)

pub number-runs : (s n : ℕ) (line : List ℕ) (o k : ℕ) → s + n ≤ 8
    → number (runs s n line o (k + 1)) ≡ number (runs s n line o k) * 2 ^ n + number (take n (drop s (octet_bits (get_or line (o + k) 0))))
unfolding runs
number-runs s n line o k h =
    let run : List Bool = take n (drop s (octet_bits (get_or line (o + k) 0))) in
    ap (λ (j : ℕ). number (runs s n line o j)) (add-one k) ∙ number_append (runs s n line o k) run
    ∙ rw (length_run s n (get_or line (o + k) 0) h)

-- more octets, after k of them
runs-add : (s n : ℕ) (line : List ℕ) (o k j : ℕ) → runs s n line o (k + j) ≡ runs s n line o k ++ runs s n line (o + k) j
unfolding runs
runs-add s n line o k zero = rw (add-zero k) (sym (append-nil (runs s n line o k)))
runs-add s n line o k (suc j) =
    let e : k + suc j ≡ suc (k + j) = omega arith in
    let f : o + (k + j) ≡ o + k + j = omega arith in
    rw (e, f, runs-add s n line o k j) (append_assoc (runs s n line o k) (runs s n line (o + k) j) (take n (drop s (octet_bits (get_or line (o + k + j) 0)))))

pub runs_on : (bs : List Bool) (s n : ℕ) (line : List ℕ) (o k j : ℕ) → bs ++ runs s n line o (k + j) ≡ (bs ++ runs s n line o k) ++ runs s n line (o + k) j
runs_on bs s n line o k j =
    ap (λ (l : List Bool). bs ++ l) (runs-add s n line o k j) ∙ sym (append_assoc bs (runs s n line o k) (runs s n line (o + k) j))

-- runs of no bits
pub no_runs : (s : ℕ) (line : List ℕ) (o k : ℕ) → runs s 0 line o k ≡ []
unfolding runs
no_runs s line o zero = refl
no_runs s line o (suc k) = rw (no_runs s line o k)

-- the last bit of an octet
pub last_bit : (line : List ℕ) (o : ℕ) → number (runs 7 1 line o 1) ≡ get_or line o 0 % 2
unfolding runs
last_bit line o =
    let x : ℕ = get_or line o 0 in
    let e : o + 0 ≡ o = omega arith in
    rw (e, run_value 7 1 (octet_bits x) (rw length-octet (omega arith)), length-octet x, number-low_bits 8 x) (omega arith)

-- ---- the octets from one place to another, one by one and eight by eight
pub in_part : (line : List ℕ) (from m i : ℕ) → i < m → get_or (take m (drop from line)) i 0 ≡ get_or line (from + i) 0
in_part line from m i h = get_or-take m (drop from line) i 0 h ∙ get_or-drop from line i 0

chunk-at : (xs : List ℕ) (count i : ℕ) (d : List ℕ) → i < count → get_or (first_chunks 8 count xs) i d ≡ take 8 (drop (8 * i) xs)
chunk-at xs zero i d h = absurd (omega arith)
chunk-at xs (suc count) zero d h = refl
chunk-at xs (suc count) (suc i) d h =
    let e : 8 + 8 * i ≡ 8 * suc i = omega arith in
    chunk-at (drop 8 xs) count i d (omega arith) ∙ ap (take 8) (drop-drop (8 * i) 8 xs ∙ ap (λ (n : ℕ). drop n xs) e)

pub eight_in_chunks : (part : List ℕ) (count i : ℕ) (d : List ℕ) → ((i : ℕ) → get_or part i 0 < 256) → i < count
    → from_be_bytes w64 (get_or (first_chunks 8 count part) i d) ≡ eight_at part (8 * i)
eight_in_chunks part count i d small h =
    ap (from_be_bytes w64) (chunk-at part count i d h)
    ∙ eight_read part (take 8 (drop (8 * i) part)) (8 * i) small
    (λ j l. get_or-take 8 (drop (8 * i) part) j 0 l ∙ get_or-drop (8 * i) part j 0)

-- the runs of a part are those of the whole from where the part begins
pub runs_in_part : (s n : ℕ) (line : List ℕ) (from m k : ℕ) → k ≤ m → runs s n (take m (drop from line)) 0 k ≡ runs s n line from k
unfolding runs
runs_in_part s n line from m zero h = refl
runs_in_part s n line from m (suc k) h =
    let e : 0 + k ≡ k = omega arith in
    rw (e, runs_in_part s n line from m k (omega arith), in_part line from m k (omega arith)) refl

-- what is packed of a part is what is packed of the whole from where the part begins
pub part_packed : (s n : ℕ) (line : List ℕ) {from to start end bits : ℕ} {before after : List ℕ} → bits ≡ n
    → (from ≤ to) × (to ≤ length line) × (to ≤ 160) × ((to - from) % 8 ≡ 0) × (start ≤ from)
    → (end ≤ start + length (take (to - from) (drop from line))) × ((bs : List Bool) → Filled bs (start * 8) before → Filled (bs ++ runs s n (take (to - from) (drop from line)) 0 (length (take (to - from) (drop from line)))) (end * 8) after)
    → (end ≤ to) × ((bs : List Bool) → Filled bs (start * 8) before → Filled (bs ++ runs s bits line from (to - from)) (end * 8) after)
part_packed s n line {from} {to} is within packed =
    let all : length (take (to - from) (drop from line)) ≡ to - from =
    length-take-le (to - from) (drop from line) (rw length-drop (omega (arith, within))) in (
      omega (arith, within, packed.0, all),
      λ bs f. rw (is, ← runs_in_part s n line from (to - from) (to - from) (omega arith)) (rw all at (packed.1 bs f)),
    )
