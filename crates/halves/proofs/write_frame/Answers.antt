-- `halves::write_frame` meets its contract: the sums of both parts are the words of the frame.
use mathlib.Core.Path.{◌≡◌, ap₂, ◌∙◌}
use mathlib.Core.Bool.{Bool}
use mathlib.Core.List.{List}
use Prim.Native.Nat.{ℕ, ◌+◌, ◌<◌}
use native.Mathlib.Omega.{arith}
use lib.ListN.{get_or, drop}
use Rattle.bits.specs.Bits.{low_bits, bits_of}
use Rattle.places.specs.Layout.{Apart}
use Rattle.places.specs.declared.Layout.{Layout}
use Rattle.halves.specs.Sources.{heard, by_owner}
use Rattle.halves.specs.Parts.{word_at, head_at, tail_at}
use Rattle.halves.proofs.PartLaws.{octet_at, parts_are, word_lt, words_are}
use Rattle.halves.proofs.write_frame.Goals as goal

-- the two parts of a frame's eights, added, are its words
sums : (p : Layout) (service : ℕ) (voice lsd : List Bool) (heads tails : ℕ → ℕ) → Apart p
    → ((k : ℕ) → k < 10 → heads k ≡ word_at (head_at p voice) k)
    → ((k : ℕ) → k < 10 → tails k ≡ word_at (tail_at p (low_bits 16 service) lsd) k)
    → (k : ℕ) → k < 10 → heads k + tails k ≡ word_at (octet_at p (by_owner (low_bits 16 service) voice lsd)) k
sums p service voice lsd heads tails apart h t k l = ap₂ ◌+◌ (h k l) (t k l) ∙ parts_are p (low_bits 16 service) voice lsd k apart

pub write_sums-requires : goal.write_sums-requires
write_sums-requires c =
    let a = c.args in
    let voice = drop a.v (heard a.mute (bits_of a.voice.now)) in
    let lsd = drop a.d (bits_of a.lsd.now) in
    let sum =
    sums a.p a.service voice lsd (λ k. get_or c.heads.new.lanes k 0) (λ k. get_or c.tails.new.lanes k 0) c.requires.apart c.heads.ensures
    c.tails.ensures in
    λ k h. omega (arith, sum k h, word_lt a.p (by_owner (low_bits 16 a.service) voice lsd) k c.requires.apart.within)

pub returns : goal.returns
returns c =
    let a = c.args in
    let voice = drop a.v (heard a.mute (bits_of a.voice.now)) in
    let lsd = drop a.d (bits_of a.lsd.now) in
    let sum =
    sums a.p a.service voice lsd (λ k. get_or c.heads.new.lanes k 0) (λ k. get_or c.tails.new.lanes k 0) c.requires.apart c.heads.ensures
    c.tails.ensures in
    c.write_sums.ensures
    ∙ words_are a.p (by_owner (low_bits 16 a.service) voice lsd) (λ k. get_or c.heads.new.lanes k 0 + get_or c.tails.new.lanes k 0) c.requires.apart.within sum
