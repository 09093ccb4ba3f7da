-- Laws of a buffer that is filled with bits from the front and is zero past their end: an octet more, eight of them, and a bit more.
use mathlib.Core.Path.{◌≡◌, refl, ap, ap₂, sym, ◌∙◌}
use mathlib.Core.Bool.{Bool, false}
use mathlib.Core.Logic.{◌⊎◌, inl, inr}
use mathlib.Core.List.{List, [], ◌∷◌, ◌++◌, append_assoc, append-nil}
use Prim.Native.Nat.{ℕ, zero, suc, ◌+◌, ◌-◌, ◌*◌, ◌/◌, ◌%◌, ◌^◌, ◌≤◌, ◌<◌}
use native.Mathlib.Nat.{add_comm, zero-add, add-zero, zero-mul, mod-eq_of_lt, mul-one, add-mul, mul_assoc}
use native.Mathlib.Omega.{arith}
use lib.Pow.{pow-add, shl_lt}
use lib.ListN.{length, get_or, take, drop, set, replicate, length-append, length-drop, length-take, length-set, length-replicate, take-append-drop, replicate-append-replicate}
use lib.Seq.{drop-nil, take_all, take-add, take-append-le, drop-append-le, drop_at, set_at, get_or_at, length-take-le}
use Rattle.bits.specs.Bits.{number, zeros, octets}
use Rattle.bits.proofs.BitLaws.{number_append, number_bound}
use Rattle.bits.proofs.RunLaws.{run_value}
use Rattle.bits.proofs.ShiftLaws.{shl_same}
use Rattle.bits.proofs.PackLaws.{length-octets, octets_snoc, octets_prefix, octets-zeros, padded}
use Rattle.packing.specs.Filled.{Filled}

-- ---- zeros after the bits change nothing
drop-zeros : (j k : ℕ) (bs : List Bool) → drop j (bs ++ zeros k) ≡ drop j bs ++ zeros (k - (j - length bs))
drop-zeros zero k bs = let e : k - (0 - length bs) ≡ k = omega arith in rw e
drop-zeros (suc j) zero [] = let e : 0 - (suc j - 0) ≡ 0 = omega arith in rw e
drop-zeros (suc j) (suc k) [] =
    let e : suc k - (suc j - 0) ≡ k - (j - 0) = omega arith in
    rw e (drop-zeros j k [] ∙ ap (λ (l : List Bool). l ++ zeros (k - (j - 0))) (drop-nil j))
drop-zeros (suc j) k (b ∷ bs) = let e : suc j - suc (length bs) ≡ j - length bs = omega arith in rw e (drop-zeros j k bs)

take-zeros : (k : ℕ) (bs : List Bool) → take 8 ((bs ++ zeros k) ++ zeros 8) ≡ take 8 (bs ++ zeros 8)
take-zeros k bs =
    let l : 8 ≤ length (bs ++ zeros 8) = rw (length-append, length-replicate) (omega arith) in
    let e : zeros k ++ zeros 8 ≡ zeros 8 ++ zeros k =
    replicate-append-replicate k 8 false ∙ ap zeros (add_comm k 8) ∙ sym (replicate-append-replicate 8 k false) in
    rw (append_assoc bs (zeros k) (zeros 8), e, ← (append_assoc bs (zeros 8) (zeros k))) (take-append-le 8 (bs ++ zeros 8) (zeros k) l)

number-zeros : (k : ℕ) → number (zeros k) ≡ 0
unfolding number
number-zeros zero = refl
number-zeros (suc k) = rw (number-zeros k, zero-mul)

octets-padded : (n k : ℕ) (bs : List Bool) → octets n (bs ++ zeros k) ≡ octets n bs
unfolding octets
octets-padded zero k bs = refl
octets-padded (suc n) k bs =
    ap₂ (λ (x : ℕ) (xs : List ℕ). x ∷ xs) (ap number (take-zeros k bs))
    (ap (octets n) (drop-zeros 8 k bs) ∙ octets-padded n (k - (8 - length bs)) (drop 8 bs))

-- a buffer that is all zeros holds no bits
pub cleared : (n : ℕ) (buf : List ℕ) → buf ≡ replicate n 0 → Filled [] 0 buf
unfolding octets
cleared n buf e =
    let l : length buf ≡ n = ap length e ∙ length-replicate n 0 in
    record { ends = refl; held = e ∙ sym (rw (zero-add n) at (octets-zeros 0 n [] (omega arith))) ∙ ap (λ (m : ℕ). octets m []) (sym l) }

-- ---- the octet in which the bits end
around : (bs : List Bool) (i n : ℕ) → length bs ≤ (i + 1) * 8 → i < n
    → octets n bs ≡ octets i bs ++ (number (drop (i * 8) bs) * 2 ^ (8 - length (drop (i * 8) bs)) ∷ replicate (n - (i + 1)) 0)
around bs i n h hi =
    let m : i + 1 + (n - (i + 1)) ≡ n = omega arith in
    let short : length (drop (i * 8) bs) ≤ 8 = rw length-drop (omega arith) in
    let after : List ℕ = replicate (n - (i + 1)) 0 in
    ap (λ (j : ℕ). octets j bs) (sym m) ∙ octets-zeros (i + 1) (n - (i + 1)) bs h
    ∙ ap (λ (l : List ℕ). l ++ after) (octets_snoc i bs)
    ∙ append_assoc (octets i bs) _ after
    ∙ ap (λ (x : ℕ). octets i bs ++ (x ∷ after)) (padded (drop (i * 8) bs) short)

-- more bits that end in the same octet change it alone
more_here : (bs ys : List Bool) (i n v : ℕ) → i * 8 ≤ length bs → length bs + length ys ≤ (i + 1) * 8 → i < n
    → v ≡ number (drop (i * 8) bs ++ ys) * 2 ^ (8 - length (drop (i * 8) bs ++ ys))
    → set (octets n bs) i v ≡ octets n (bs ++ ys)
more_here bs ys i n v h l hi hv =
    let after : List ℕ = replicate (n - (i + 1)) 0 in
    let all : length (bs ++ ys) ≤ (i + 1) * 8 = rw length-append l in
    ap (λ (b : List ℕ). set b i v) (around bs i n (omega arith) hi)
    ∙ set_at (octets i bs) _ after v i (length-octets i bs)
    ∙ ap₂ (λ (b : List ℕ) (x : ℕ). b ++ (x ∷ after)) (sym (octets_prefix i bs ys h)) hv
    ∙ rw (← (drop-append-le (i * 8) bs ys h)) (sym (around (bs ++ ys) i n all hi))

nothing : (bs : List Bool) (n : ℕ) → length bs ≡ n → drop n bs ≡ []
nothing bs n h = rw (append-nil bs) at (drop_at bs [] n h)

octet-more : (bs ys : List Bool) (buf : List ℕ) (i n : ℕ) → length bs ≡ i * 8 → length ys ≡ 8 → i < n → buf ≡ octets n bs
    → set buf i (number ys) ≡ octets n (bs ++ ys)
octet-more bs ys buf i n hb hy hi e =
    let here : drop (i * 8) bs ≡ [] = nothing bs (i * 8) hb in
    let none : 8 - length ys ≡ 0 = omega arith in
    ap (λ (b : List ℕ). set b i (number ys)) e
    ∙ more_here bs ys i n (number ys) (omega arith) (omega arith) hi (rw (here, none) (sym (mul-one (number ys))))

-- ---- octet k of eight that are the number of xs
pub eight-more : (bs xs : List Bool) (buf : List ℕ) (at k n : ℕ) → length bs ≡ at * 8 → length xs ≡ 64 → k < 8 → at + k < n
    → buf ≡ octets n (bs ++ take (8 * k) xs)
    → set buf (at + k) (number xs / 2 ^ (8 * (7 - k)) % 256) ≡ octets n (bs ++ take (8 * (k + 1)) xs)
eight-more bs xs buf at k n hb hx hk hi e =
    let ys : List Bool = take 8 (drop (8 * k) xs) in
    let so : List Bool = bs ++ take (8 * k) xs in
    let lso : length so ≡ (at + k) * 8 = rw (length-append, length-take-le (8 * k) xs (omega arith)) (omega arith) in
    let lys : length ys ≡ 8 = rw (length-take, length-drop) (omega arith) in
    let low : length xs - (8 * k + 8) ≡ 8 * (7 - k) = omega arith in
    let value : number ys ≡ number xs / 2 ^ (8 * (7 - k)) % 256 = rw low at (run_value (8 * k) 8 xs (omega arith)) in
    let next : 8 * k + 8 ≡ 8 * (k + 1) = omega arith in
    let joined : so ++ ys ≡ bs ++ take (8 * (k + 1)) xs =
    append_assoc bs (take (8 * k) xs) ys ∙ ap (λ (l : List Bool). bs ++ l) (sym (take-add (8 * k) 8 xs) ∙ ap (λ (j : ℕ). take j xs) next) in
    ap (set buf (at + k)) (sym value) ∙ octet-more so ys buf (at + k) n lso lys hi e ∙ ap (octets n) joined

-- ---- the number's bits, up to eight octets
eight_of : (xs : List Bool) (n : ℕ) → n ≤ 8 → length xs ≡ 8 * n
    → (length (xs ++ zeros (8 * (8 - n))) ≡ 64) × (number (xs ++ zeros (8 * (8 - n))) ≡ (number xs * 2 ^ (8 * (8 - n))) % 2 ^ 64)
eight_of xs n h hx =
    let z : ℕ = 8 * (8 - n) in
    let all : length (xs ++ zeros z) ≡ 64 = rw (length-append, length-replicate) (omega arith) in
    let value : number (xs ++ zeros z) ≡ number xs * 2 ^ z = number_append xs (zeros z) ∙ rw (length-replicate, number-zeros z, add-zero) in
    (all, value ∙ sym (mod-eq_of_lt (rw value at (rw all at (number_bound (xs ++ zeros z))))))

-- all eight octets are there, or as many as there is room for
as_many : (bs ys : List Bool) (at k n : ℕ) → length bs ≡ at * 8 → length ys ≡ 64 → (k ≡ 8) ⊎ ((k ≤ 8) × (n ≤ at + k))
    → octets n (bs ++ take (8 * k) ys) ≡ octets n (bs ++ ys)
as_many bs ys at k n hb hy (inl e) = ap (λ (l : List Bool). octets n (bs ++ l)) (take_all (8 * k) ys (omega arith))
as_many bs ys at k n hb hy (inr h) =
    let some : List Bool = bs ++ take (8 * k) ys in
    let enough : n * 8 ≤ length some = rw (length-append, length-take-le (8 * k) ys (omega (arith, h.0))) (omega (arith, h.1)) in
    sym (octets_prefix n some (drop (8 * k) ys) enough)
    ∙ ap (octets n) (append_assoc bs (take (8 * k) ys) (drop (8 * k) ys) ∙ ap (λ (l : List Bool). bs ++ l) (take-append-drop (8 * k) ys))

-- so n octets have been added by writing k of eight
pub appended : (bs xs : List Bool) (buf out : List ℕ) (at n k : ℕ) → n ≤ 8 → length xs ≡ 8 * n → Filled bs (at * 8) buf → length out ≡ length buf
    → (k ≡ 8) ⊎ ((k ≤ 8) × (length buf ≤ at + k))
    → ((ys : List Bool) → length ys ≡ 64 → number ys ≡ (number xs * 2 ^ (8 * (8 - n))) % 2 ^ 64 → out ≡ octets (length buf) (bs ++ take (8 * k) ys))
    → Filled (bs ++ xs) ((at + n) * 8) out
appended bs xs buf out at n k hn hx h same room put =
    let z : List Bool = zeros (8 * (8 - n)) in
    let ys : List Bool = xs ++ z in
    let all = eight_of xs n hn hx in
    record {
      ends = rw (length-append, h.ends, hx) (omega arith);
      held =
          put ys all.0 all.1 ∙ as_many bs ys at k (length buf) h.ends all.0 room
          ∙ ap (octets (length buf)) (sym (append_assoc bs xs z)) ∙ octets-padded (length buf) (8 * (8 - n)) (bs ++ xs)
          ∙ ap (λ (m : ℕ). octets m (bs ++ xs)) (sym same);
    }

-- ---- one bit more, behind r bits of octet i
bit-value : (bs xs : List Bool) (buf : List ℕ) (i r b n : ℕ) → length bs ≡ i * 8 + r → r < 8 → length xs ≡ 1 → number xs ≡ b → i < n
    → buf ≡ octets n bs
    → get_or buf i 0 + b * 2 ^ (7 - r) ≡ number (drop (i * 8) bs ++ xs) * 2 ^ (8 - length (drop (i * 8) bs ++ xs))
bit-value bs xs buf i r b n hb hr hx hv hi e =
    let d : List Bool = drop (i * 8) bs in
    let ld : length d ≡ r = rw length-drop (omega arith) in
    let la : length (d ++ xs) ≡ r + 1 = rw length-append (omega arith) in
    let now : get_or buf i 0 ≡ number d * 2 ^ (8 - length d) =
    ap (λ (l : List ℕ). get_or l i 0) (e ∙ around bs i n (omega arith) hi) ∙ get_or_at (octets i bs) _ _ 0 i (length-octets i bs) in
    let a : 8 - length d ≡ 1 + (7 - r) = omega arith in
    let c : 8 - length (d ++ xs) ≡ 7 - r = omega arith in
    rw (now, number_append d xs, hx, hv, a, c, pow-add 2 1 (7 - r), add-mul (number d * 2) b (2 ^ (7 - r)), mul_assoc (number d) 2 (2 ^ (7 - r)))

bit-more : (bs xs : List Bool) (buf : List ℕ) (i r b n : ℕ) → length bs ≡ i * 8 + r → r < 8 → length xs ≡ 1 → number xs ≡ b → i < n
    → buf ≡ octets n bs
    → set buf i ((get_or buf i 0 + b * 2 ^ (7 - r)) % 256) ≡ octets n (bs ++ xs)
bit-more bs xs buf i r b n hb hr hx hv hi e =
    let all : List Bool = drop (i * 8) bs ++ xs in
    let la : length all ≡ r + 1 = rw (length-append, length-drop) (omega arith) in
    let eight : length all + (8 - length all) ≡ 8 = omega arith in
    let value : get_or buf i 0 + b * 2 ^ (7 - r) ≡ number all * 2 ^ (8 - length all) = bit-value bs xs buf i r b n hb hr hx hv hi e in
    let fits : number all * 2 ^ (8 - length all) < 256 = rw eight at (shl_lt {a = number all} (length all) (8 - length all) (number_bound all)) in
    ap (λ (l : List ℕ). set l i ((get_or buf i 0 + b * 2 ^ (7 - r)) % 256)) e
    ∙ more_here bs xs i n ((get_or buf i 0 + b * 2 ^ (7 - r)) % 256) (omega arith) (omega arith) hi (ap (λ (x : ℕ). x % 256) value ∙ mod-eq_of_lt fits)

pub bit-appended : (bs xs : List Bool) (buf : List ℕ) (done b x : ℕ) → length xs ≡ 1 → number xs ≡ b → done < length buf * 8 → b < 2
    → x ≡ get_or buf (done / 8) 0 → Filled bs done buf
    → Filled (bs ++ xs) (done + 1) (set buf (done / 8) ((x + (b * 2 ^ (7 - done % 8)) % 2 ^ 64) % 256))
bit-appended bs xs buf done b x hx hv room hb hw h =
    let i : ℕ = done / 8 in
    let r : ℕ = done % 8 in
    let n : ℕ = length buf in
    let v : ℕ = (x + (b * 2 ^ (7 - r)) % 2 ^ 64) % 256 in
    let at : length bs ≡ i * 8 + r = h.ends ∙ omega arith in
    record {
      ends = rw (length-append, h.ends, hx);
      held =
          ap₂ (λ (y z : ℕ). set buf i ((y + z) % 256)) hw (shl_same 1 b (7 - r) hb (omega arith) (omega arith))
          ∙ bit-more bs xs buf i r b n at (omega arith) hx hv (omega arith) h.held
          ∙ ap (λ (m : ℕ). octets m (bs ++ xs)) (sym (length-set buf i v));
    }

-- ---- the end
pub filled_with : (bs ys : List Bool) (done n : ℕ) (buf : List ℕ) → Filled bs done buf → length buf ≡ n → bs ≡ ys → buf ≡ octets n ys
filled_with bs ys done n buf h l e = h.held ∙ ap₂ (λ (m : ℕ) (xs : List Bool). octets m xs) l e

-- two buffers that hold the same bits are equal, and so is how many bits they hold
pub filled-settled : (bs : List Bool) (d e : ℕ) (x y : List ℕ) → length x ≡ length y → Filled bs d x → Filled bs e y → (d ≡ e) × (x ≡ y)
filled-settled bs d e x y l h k = (sym h.ends ∙ k.ends, h.held ∙ ap (λ (n : ℕ). octets n bs) l ∙ sym k.held)
