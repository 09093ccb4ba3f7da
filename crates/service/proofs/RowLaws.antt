-- Laws of eight octets' SC bits that are gathered at once: of eight octets as one number each lowest bit comes down to the lowest octet.
use mathlib.Core.Path.{◌≡◌, sym, ap, ap₂, ◌∙◌}
use mathlib.Core.List.{List}
use Prim.Native.Nat.{ℕ, zero, suc, ◌+◌, ◌*◌, ◌/◌, ◌-◌, ◌%◌, ◌^◌, ◌≤◌, ◌<◌, min}
use native.Mathlib.Nat.{add-zero, add_assoc}
use native.Mathlib.Omega.{arith}
use lib.Bits.{bit_and, and_comm, and_zero_l, and_block, and_mask}
use lib.ListN.{length, get_or, take, drop, length-drop}
use lib.Seq.{take_all, get_or-take, get_or-drop}
use lib.Pow.{split}
use Rattle.std.specs.Int.{from_le_bytes, w64}
use Rattle.bits.specs.Bits.{number}
use Rattle.bits.proofs.BitLaws.{digit-odd, sc_is}
use Rattle.service.specs.Channel.{channel_bits}

-- ---- the lowest bit of each of eight octets
units : ℕ → ℕ
units zero = 0
units (suc n) = units n * 256 + 1

spread : ℕ → ℕ → ℕ
spread zero x = 0
spread (suc n) x = spread n (x / 256) * 256 + x % 2

and-units : (n x : ℕ) → bit_and x (units n) ≡ spread n x
unfolding units spread
and-units zero x = and_comm x 0 ∙ and_zero_l x
and-units (suc n) x =
    ap (λ (y : ℕ). bit_and y (units n * 256 + 1)) (sym (split x 8))
    ∙ and_block 8 (x / 256) (units n) (x % 256) 1 (omega arith) (omega arith)
    ∙ ap₂ (λ (y z : ℕ). y * 256 + z) (and-units n (x / 256)) (and_mask (x % 256) 1 ∙ omega arith)

-- each comes to the highest octet
come_together : (a b c d e f g h : ℕ) → a < 2 → b < 2 → c < 2 → d < 2 → e < 2 → f < 2 → g < 2 → h < 2
    → ((((((((h * 256 + g) * 256 + f) * 256 + e) * 256 + d) * 256 + c) * 256 + b) * 256 + a) * 9241421688590303745 % 2 ^ 64) / 2 ^ 56
    ≡ a * 128 + b * 64 + c * 32 + d * 16 + e * 8 + f * 4 + g * 2 + h
come_together a b c d e f g h p q r s t u v w = omega arith

-- the SC bits of eight octets at the front of a list, from those octets as a number, the first lowest
pub row_is : (xs line : List ℕ) (at : ℕ) → ((i : ℕ) → i < 8 → get_or xs i 0 ≡ get_or line (at + i) 0) → ((i : ℕ) → get_or line i 0 < 256)
    → (bit_and (from_le_bytes w64 xs) 72340172838076673 * 9241421688590303745 % 2 ^ 64) / 2 ^ 56 ≡ number (channel_bits 8 at line)
unfolding units spread number channel_bits
row_is xs line at same small =
    let d : ℕ → ℕ = λ i. get_or line (at + i) 0 % 2 in
    let m : (i : ℕ) → d i < 2 = λ i. omega arith in
    let laid : spread 8 (from_le_bytes w64 xs) ≡ ((((((d 7 * 256 + d 6) * 256 + d 5) * 256 + d 4) * 256 + d 3) * 256 + d 2) * 256 + d 1) * 256 + d 0 =
    rw (same 0 (omega arith), same 1 (omega arith), same 2 (omega arith), same 3 (omega arith), same 4 (omega arith), same 5 (omega arith), same 6 (omega arith), same 7 (omega arith))
    (omega (arith, small (at + 0), small (at + 1), small (at + 2), small (at + 3), small (at + 4), small (at + 5), small (at + 6), small (at + 7))) in
    let value : number (channel_bits 8 at line) ≡ d 0 * 128 + d 1 * 64 + d 2 * 32 + d 3 * 16 + d 4 * 8 + d 5 * 4 + d 6 * 2 + d 7 =
    simp (sc_is, digit-odd, add_assoc, add-zero) (omega arith) in
    ap (λ (y : ℕ). y * 9241421688590303745 % 2 ^ 64 / 2 ^ 56) (and-units 8 (from_le_bytes w64 xs) ∙ laid)
    ∙ come_together (d 0) (d 1) (d 2) (d 3) (d 4) (d 5) (d 6) (d 7) (m 0) (m 1) (m 2) (m 3) (m 4) (m 5) (m 6) (m 7)
    ∙ sym value

-- the eight octets from a place on, where they are there
pub eight_there : (line eight : List ℕ) (at m : ℕ) → m ≡ min at (length line) → 8 ≤ length (take (length line - m) (drop m line))
    → eight ≡ take 8 (take (length line - m) (drop m line)) → (i : ℕ) → i < 8 → get_or eight i 0 ≡ get_or line (at + i) 0
eight_there line eight at m start enough is i h =
    let all : take (length line - m) (drop m line) ≡ drop m line = take_all (length line - m) (drop m line) (rw length-drop (omega arith)) in
    let room : 8 ≤ length line - m = rw (all, length-drop) at enough in
    ap (λ (l : List ℕ). get_or l i 0) is ∙ get_or-take 8 (take (length line - m) (drop m line)) i 0 h
    ∙ ap (λ (l : List ℕ). get_or l i 0) all ∙ get_or-drop m line i 0
    ∙ ap (λ (n : ℕ). get_or line (n + i) 0) (omega arith)
