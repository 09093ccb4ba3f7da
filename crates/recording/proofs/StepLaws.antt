-- What a step leaves, by its ruling and by what the reader makes of a block.
use mathlib.Core.Path.{◌≡◌, refl, ap, ◌∙◌}
use mathlib.Core.Bool.{Bool, true, false, cond, ◌||◌}
use mathlib.Core.List.{List}
use Prim.Native.Nat.{ℕ, ◌+◌, ◌≤◌}
use native.Mathlib.Omega.{arith}
use lib.Dec.{ltb}
use lib.ListN.{length, take, drop, length-drop}
use lib.Seq.{length-take-le}
use borrow.Author.Tests.{ltb-false, le-ltb, not-false}
use Rattle.bits.proofs.Settled.{settled}
use Rattle.bits.proofs.BoolLaws.{or_left_false, or_right_false}
use Rattle.std.specs.Prelude.{Ok, Err}
use Rattle.refusals.specs.Rows.{Ruling}
use Rattle.refusals.proofs.RowLaws.{none_given}
use Rattle.buffers.specs.Buffers.{Each, Buffers, lengths}
use Rattle.buffers.specs.Lengths.{line_octets, stream_octets}
use Rattle.buffers.proofs.LengthLaws.{streams-fit}
use Rattle.reader.specs.State.{state_in_range}
use Rattle.reader.specs.declared.Reader.{Reader}
use Rattle.track.proofs.RangeLaws.{step_in_range}
use Rattle.reading.specs.Step as reading
use Rattle.reading.specs.Step.{Outcome}
use Rattle.reading.specs.Refusals as judged
use Rattle.search.specs.Finding.{Found, search_of}
use Rattle.search.proofs.PlaceLaws.{found-fits}
use Rattle.recording.specs.Refusals.{Answer, rows, ruling_of}
use Rattle.recording.specs.Walk.{Stepped, left_from, block_at, block_read, found_again, answer_here, answer_by, place_by, reader_by, stepped_by, buffers_by, answer_at, step_at, buffers_at, look_at}
use Rattle.recording.specs.Inner.{off_block, meets_none, moved_by, ruled_at}
use Rattle.recording.specs.declared.Met.TheVariants.{Block, Place, End}

-- ---- by the ruling
module _ (recording : List ℕ) (place : ℕ) (lost : Bool) (s : Reader) (b : Buffers) where
  -- what the contract of a step says
  abbrev pub Left : Stepped → Buffers → Type 0
  Left r after = (r ≡ step_at recording place lost s b) × (after ≡ buffers_at recording place lost s b)

  pub by_ruling : (q : Ruling) (r : Stepped) (after : Buffers) → ruling_of (length recording) place s (lengths b) ≡ q
      → r ≡ stepped_by (answer_by q recording place lost s) recording place lost s
      → after ≡ buffers_by (answer_by q recording place lost s) recording place s b
      → Left r after
  unfolding step_at buffers_at answer_at
  by_ruling q r after e a f = (rw (e, a), rw (e, f))

  -- a look says the same where the buffers fit
  pub look-step : lengths b ≡ stream_octets → look_at recording place lost s ≡ step_at recording place lost s b
  unfolding look_at step_at answer_at
  look-step e = rw e

  -- any two outcomes that it allows are equal
  pub step-settled : (r q : Stepped) (v w : Buffers) → Left r v → Left q w → (r ≡ q) × (v ≡ w)
  step-settled r q v w x y = (settled x.0 y.0, settled x.1 y.1)

-- ---- where a step meets a block
-- the part lent to the reader is the block at the place
pub lent-block : (n place : ℕ) (recording : List ℕ) → n ≡ line_octets → take n (drop place recording) ≡ block_at recording place
lent-block n place recording e = ap (λ (k : ℕ). take k (drop place recording)) e

pub record Met (recording : List ℕ) (place : ℕ) (lost : Bool) : Type 0 where
  pub small : length recording ≤ 65536
  pub inside : place + line_octets ≤ length recording
  pub here : (s : Reader) → answer_here recording place lost s ≡ block_read s recording place

pub met : (recording : List ℕ) (place : ℕ) (lost : Bool) → meets_none (length recording) place lost ≡ false → Met recording place lost
met recording place lost = go (ltb 65536 (length recording)) lost refl
  where
    go : (b l : Bool) → ltb 65536 (length recording) ≡ b → (b || (l || ltb (left_from recording place) line_octets)) ≡ false → Met recording place l
    go true l e q = let z : ◌≡◌ {A = ℕ} 0 1 = cc in absurd (omega arith)
    go false true e q = let z : ◌≡◌ {A = ℕ} 0 1 = cc in absurd (omega arith)
    go false false e q =
        record { small = ltb-false _ _ e; inside = omega (arith, ltb-false (left_from recording place) line_octets q); here = λ s. rw q }

module _ (recording : List ℕ) (place : ℕ) (lost : Bool) (s : Reader) (m : Met recording place lost) where
  block-length : length (block_at recording place) ≡ line_octets
  block-length = length-take-le line_octets (drop place recording) (omega (arith, m.inside, length-drop place recording))

  -- the ruling is the reader's
  rules_alike : (n : Each ℕ) → ruling_of (length recording) place s n ≡ judged.ruling_of s line_octets n
  unfolding ruling_of judged.ruling_of
  rules_alike n = rw (le-ltb 65536 (length recording) m.small, le-ltb (length recording) place (omega (arith, m.inside)))

  -- so a step leaves what the reader leaves
  moved_is : (q : Ruling)
      → moved_by (reading.outcome_by q s (block_at recording place)) place lost ≡ stepped_by (answer_by q recording place lost s) recording place lost s
  moved_is (Err r) = refl
  moved_is (Ok u) = rw (m.here s)

  filled_is : (q : Ruling) (b : Buffers)
      → reading.filled_by q s (block_at recording place) b ≡ buffers_by (answer_by q recording place lost s) recording place s b
  filled_is (Err r) b = refl
  filled_is (Ok u) b = rw (m.here s)

  pub block_looked : (line : List ℕ) (o : Outcome) (r : Stepped) → line ≡ block_at recording place → o ≡ reading.look_of s line
      → r ≡ moved_by o place lost → r ≡ look_at recording place lost s
  unfolding look_at reading.look_of
  block_looked line o r lent e moved =
      rw (rules_alike stream_octets) (moved ∙ ap (λ (x : Outcome). moved_by x place lost) (rw (lent, block-length) at e) ∙ moved_is (judged.ruling_of s line_octets stream_octets))

  pub block-stepped : (line : List ℕ) (b : Buffers) (o : Outcome) (r : Stepped) (after : Buffers) → line ≡ block_at recording place
      → reading.Told s line b o after → r ≡ moved_by o place lost → Left recording place lost s b r after
  unfolding reading.outcome_of reading.buffers_of
  block-stepped line b o r after lent t moved =
      let q = judged.ruling_of s line_octets (lengths b) in
      by_ruling recording place lost s b q r after (rules_alike (lengths b))
      (moved ∙ ap (λ (x : Outcome). moved_by x place lost) (rw (lent, block-length) at t.outcome) ∙ moved_is q)
      ((rw (lent, block-length) at t.handed) ∙ filled_is q b)

-- ---- a step that meets no block leaves the buffers
pub untouched : (block : Answer) (left place : ℕ) (recording : List ℕ) (s : Reader) (b : Buffers) (lost few : Bool) (f : Found) → (lost || few) ≡ true
    → b ≡ buffers_by (cond lost (found_again f left) (cond few (Ok (End left)) block)) recording place s b
untouched block left place recording s b true few (Ok p) e = refl
untouched block left place recording s b true few (Err r) e = refl
untouched block left place recording s b false true f e = refl
untouched block left place recording s b false false f e = let z : ◌≡◌ {A = ℕ} 0 1 = cc in absurd (omega arith)

-- ---- a step that no row refuses
pub record Goes (all place : ℕ) (s : Reader) (n : Each ℕ) : Type 0 where
  pub range : state_in_range s ≡ true
  pub streams : n ≡ stream_octets
  pub small : all ≤ 65536
  pub inside : place ≤ all

pub goes : (all place : ℕ) (s : Reader) (n : Each ℕ) → ruling_of all place s n ≡ Ok tt → Goes all place s n
unfolding ruling_of
goes all place s n e =
    let h = none_given (rows all place s n) e in
    record {
      range = not-false _ h.0;
      streams = streams-fit n h.1.0 h.1.1.0;
      small = ltb-false _ _ (or_left_false (ltb 65536 all) (ltb all place) h.1.1.1.0);
      inside = ltb-false _ _ (or_right_false (ltb 65536 all) (ltb all place) h.1.1.1.0);
    }

pub rules_go : (all place : ℕ) (s : Reader) (n : Each ℕ) → Goes all place s n → ruling_of all place s n ≡ Ok tt
unfolding ruling_of
rules_go all place s n g =
    rw (g.range, g.streams, le-ltb 65536 all g.small, le-ltb all place g.inside)

-- ---- a step that meets no block: it is refused, or no row is in the way
pub off_here : (all place : ℕ) (lost : Bool) → meets_none all place lost ≡ true → all ≤ 65536 → off_block all place lost ≡ true
off_here all place lost e small = rw (le-ltb 65536 all small) at e

module _ (recording : List ℕ) (place : ℕ) (lost : Bool) (s : Reader) (b : Buffers) (none : meets_none (length recording) place lost ≡ true) where
  off-left : (q : Ruling) → ruling_of (length recording) place s (lengths b) ≡ q → b ≡ buffers_by (answer_by q recording place lost s) recording place s b
  off-left (Err r) e = refl
  off-left (Ok u) e =
      let left = left_from recording place in
      let off = off_here (length recording) place lost none (goes _ _ _ _ e).small in
      untouched (block_read s recording place) left place recording s b lost (ltb left line_octets) (search_of recording place) off

  pub off-stepped : (r : Stepped) → r ≡ ruled_at recording place lost s (lengths b) → Left recording place lost s b r b
  off-stepped r e = let q = ruling_of (length recording) place s (lengths b) in by_ruling recording place lost s b q r b refl e (off-left q refl)

-- a look that no row refuses says what the walk finds there
pub look_here : (recording : List ℕ) (place : ℕ) (lost : Bool) (s : Reader) → Goes (length recording) place s stream_octets
    → look_at recording place lost s ≡ stepped_by (answer_here recording place lost s) recording place lost s
unfolding look_at
look_here recording place lost s g = rw (rules_go (length recording) place s stream_octets g)

-- ---- a step leaves the reader's state in range, and the walk in the recording
module _ (recording : List ℕ) (place : ℕ) (s : Reader) where
  pub reader_in_range : (a : Answer) → state_in_range s ≡ true → state_in_range (reader_by a recording place s) ≡ true
  reader_in_range (Ok (Block report)) r = step_in_range s (block_at recording place) r
  reader_in_range (Ok (Place p)) r = r
  reader_in_range (Ok (End left)) r = r
  reader_in_range (Err why) r = r

  -- after the search: at the place found, or where it was
  again_inside : (f : Found) → search_of recording place ≡ f → place ≤ length recording
      → place_by (found_again f (left_from recording place)) place ≤ length recording
  again_inside (Ok p) e h = let f = found-fits recording place p e in omega (arith, f.2)
  again_inside (Err why) e h = h

  pub place_inside : (lost : Bool) → place ≤ length recording → place_by (answer_here recording place lost s) place ≤ length recording
  place_inside true h = again_inside (search_of recording place) refl h
  place_inside false h = go (ltb (left_from recording place) line_octets) refl
    where
      go : (b : Bool) → ltb (left_from recording place) line_octets ≡ b
          → place_by (cond b (Ok (End (left_from recording place))) (block_read s recording place)) place ≤ length recording
      go true e = h
      go false e = let l = ltb-false (left_from recording place) line_octets e in omega arith
