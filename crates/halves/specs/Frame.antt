-- One frame of a block, as the code writes it by the four numbers of a layout. No public contract speaks of it.
use Rattle.std.specs.Prelude.{◌≡◌, Bool, true, List, ℕ, ◌%◌, ◌≤◌, length, drop}
use Rattle.bits.specs.Bits.{low_bits, bits_of, octets}
use Rattle.buffers.specs.Lengths.{stream_octets}
use Rattle.places.specs.Streams.{Streams, fill}
use Rattle.places.specs.Layout.{rows_by, in_eights, Apart}
use Rattle.places.specs.declared.Layout.{Layout}
use Rattle.halves.specs.Sources.{heard, by_owner}

-- what a frame is filled from: its sixteen service bits, voice from its bit v on, ones where it is muted, and data from its bit d on
abbrev pub frame_sources : ℕ → Bool → List ℕ → ℕ → List ℕ → ℕ → Streams
frame_sources service mute voice v lsd d = by_owner (low_bits 16 service) (drop v (heard mute (bits_of voice))) (drop d (bits_of lsd))

unfoldable pub frame_by : Layout → Streams → List ℕ
frame_by p s = octets 80 (fill (rows_by p 80) s)

-- buffers of the right length, read from no later than an odd frame reads them: voice from an octet's first bit on, and so data, where its
-- SC octets are whole eights
pub record Ready (p : Layout) (voice : List ℕ) (v : ℕ) (lsd : List ℕ) (d : ℕ) : Type 0 where
  pub apart : Apart p
  pub spoken : length voice ≡ stream_octets.voice
  pub given : length lsd ≡ stream_octets.lsd
  pub from : v ≤ 560
  pub whole : v % 8 ≡ 0
  pub on : d ≤ 624
  pub begun : in_eights p ≡ true → d % 8 ≡ 0
