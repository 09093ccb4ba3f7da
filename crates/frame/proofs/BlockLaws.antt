-- Laws of a block: its service bits, its definition by a layout, lengths that do not fit, and that a silent block does not hear the voice.
use mathlib.Core.Path.{◌≡◌, refl, ap, ap₂, sym, ◌∙◌}
use mathlib.Core.Bool.{Bool, true, cond}
use mathlib.Core.List.{List, [], ◌++◌, append_assoc}
use Prim.Native.Nat.{ℕ, ◌+◌, ◌*◌, ◌/◌, ◌%◌, ◌<◌}
use native.Mathlib.Omega.{arith}
use lib.ListN.{length, get_or, take, drop}
use Rattle.bits.specs.Bits.{low_bits, octet_bits, number, octets}
use Rattle.bits.proofs.BitLaws.{low_bits-back, first_octet, second-octet}
use Rattle.bits.proofs.Settled.{settled}
use Rattle.bas.specs.Words.{word_bits, word_of, line_order}
use Rattle.bas.proofs.WordLaws.{length-word_bits, length-line}
use Rattle.numbers.specs.Numbers.{even_frame, odd_frame}
use Rattle.modes.specs.declared.Mode.{Mode}
use Rattle.modes.specs.declared.Owner.{Owner}
use Rattle.modes.specs.declared.Owner.TheVariants.{Service, Voice, Lsd, Nobody}
use Rattle.places.specs.Streams.{count, fill}
use Rattle.service.specs.Service.{service_rows}
use Rattle.places.specs.Places.{owners_to, places}
use Rattle.buffers.specs.Buffers.{Buffers, lengths}
use Rattle.buffers.specs.Lengths.{line_octets, fitting}
use Rattle.frame.specs.Block.{service_bits, sources, block_of, line_after}
use Rattle.places.specs.Layout.{layout_of, rows_by}
use Rattle.frame.specs.declared.Header.{Header}
use Rattle.places.proofs.StreamLaws.{fill-agree, count-append}
use Rattle.places.proofs.LayoutLaws.{rows_are, count-voice}

-- ---- service bits
-- the word's sixteen bits in line order, as a number and as its two halves
pub word-bits : (code : ℕ) → low_bits 16 (word_of code) ≡ word_bits code
unfolding word_of
word-bits code = low_bits-back 16 (word_bits code) (length-word_bits code)

even-octet : (code word : ℕ) → word ≡ number (line_order (low_bits 16 (word_of code))) → octet_bits (word / 256) ≡ take 8 (line_order (word_bits code))
even-octet code word e =
    ap (λ (n : ℕ). octet_bits (n / 256)) (e ∙ ap (λ (l : List Bool). number (line_order l)) (word-bits code))
    ∙ first_octet (line_order (word_bits code)) (length-line (word_bits code))

odd-octet : (code word : ℕ) → word ≡ number (line_order (low_bits 16 (word_of code))) → octet_bits (word % 256) ≡ drop 8 (line_order (word_bits code))
odd-octet code word e =
    ap (λ (n : ℕ). octet_bits (n % 256)) (e ∙ ap (λ (l : List Bool). number (line_order l)) (word-bits code))
    ∙ second-octet (line_order (word_bits code)) (length-line (word_bits code))

pub service_is : (h : Header) (rows : List (List Bool)) (i j word even odd : ℕ)
    → rows ≡ service_rows h.a h.e h.t h.remainder
    → i ≡ (even_frame h.block).0 → j ≡ (odd_frame h.block).0
    → word ≡ number (line_order (low_bits 16 (word_of h.code)))
    → low_bits 16 even ≡ get_or rows i [] ++ octet_bits (word / 256)
    → low_bits 16 odd ≡ get_or rows j [] ++ octet_bits (word % 256)
    → low_bits 16 even ++ low_bits 16 odd ≡ service_bits h
unfolding service_bits
service_is h rows i j word even odd er ei ej ew ee eo =
    let all = service_rows h.a h.e h.t h.remainder in
    let line = line_order (word_bits h.code) in
    ap₂ ◌++◌
    (ee ∙ ap₂ ◌++◌ (ap₂ (λ (l : List (List Bool)) (k : ℕ). get_or l k []) er ei) (even-octet h.code word ew))
    (eo ∙ ap₂ ◌++◌ (ap₂ (λ (l : List (List Bool)) (k : ℕ). get_or l k []) er ej) (odd-octet h.code word ew))
    ∙ sym (append_assoc (get_or all (even_frame h.block).0 [] ++ take 8 line) (get_or all (odd_frame h.block).0 []) (drop 8 line))

-- ---- the block by its layout
pub block_is : (m : Mode) (h : Header) (mute : Bool) (b : Buffers)
    → octets line_octets (fill (rows_by (layout_of m) 80 ++ rows_by (layout_of m) 80) (sources h mute b)) ≡ block_of m h mute b
unfolding block_of places
block_is m h mute b = ap (λ (ps : List Owner). octets line_octets (fill (ps ++ ps) (sources h mute b))) (sym (rows_are m 80))

-- ---- what a call tells, by whether its lengths fit
module _ (m : Mode) (h : Header) (mute : Bool) (b : Buffers) (line : List ℕ) where
  -- what the contract of `write_block` says
  abbrev pub Told : Bool → List ℕ → Type 0
  Told r l = (r ≡ fitting (length line) (lengths b)) × (l ≡ line_after m h mute b line)

  pub told : (fit : Bool) → fitting (length line) (lengths b) ≡ fit → Told fit (cond fit (block_of m h mute b) line)
  unfolding line_after
  told fit e = (sym e, ap (λ (t : Bool). cond t (block_of m h mute b) line) (sym e))

  -- any two outcomes that it allows are equal
  pub write_block_settled : (r q : Bool) (l k : List ℕ) → Told r l → Told q k → (r ≡ q) × (l ≡ k)
  write_block_settled r q l k x y = (settled x.0 y.0, settled x.1 y.1)

-- where the lengths fit, the line holds the block
pub written-block : (m : Mode) (h : Header) (mute : Bool) (b : Buffers) (line : List ℕ) → fitting (length line) (lengths b) ≡ true
    → line_after m h mute b line ≡ block_of m h mute b
unfolding line_after
written-block m h mute b line e = rw e

-- ---- silence: with mute set, or with no audio in force, a block does not depend on the voice
pub silent-muted : (m : Mode) (h : Header) (b other : Buffers) → b.lsd ≡ other.lsd → block_of m h true b ≡ block_of m h true other
unfolding block_of
silent-muted m h b other e = rw e

no_voice_places : (m : Mode) → (layout_of m).width ≡ 0 → count Voice (places m ++ places m) ≡ 0
unfolding places
no_voice_places m e =
    let none : count Voice (owners_to m 80) ≡ 0 = ap (count Voice) (rows_are m 80) ∙ count-voice (layout_of m) 80 ∙ ap (λ (w : ℕ). 80 * w) e in
    count-append Voice (owners_to m 80) (owners_to m 80) ∙ ap₂ ◌+◌ none none

pub silent-off : (m : Mode) (h : Header) (mute : Bool) (b other : Buffers) → (layout_of m).width ≡ 0 → b.lsd ≡ other.lsd
    → block_of m h mute b ≡ block_of m h mute other
unfolding block_of
silent-off m h mute b other none e =
    ap (octets line_octets) (fill-agree (places m ++ places m) (sources h mute b) (sources h mute other) agree)
  where
    agree : (o : Owner) (k : ℕ) → k < count o (places m ++ places m) → get_or (sources h mute b o) k true ≡ get_or (sources h mute other o) k true
    agree Service k l = refl
    agree Voice k l = absurd (omega (arith, no_voice_places m none))
    agree Lsd k l = rw e
    agree Nobody k l = refl
