-- Laws of the listing: one step more of a walk, and that the last line says the octets left.
use mathlib.Core.Path.{◌≡◌, refl, sym, ap, subst, ◌∙◌}
use mathlib.Core.Bool.{Bool, true, false, cond}
use mathlib.Core.List.{List, [], ◌++◌, append-nil, append_assoc}
use Prim.Native.Nat.{ℕ, zero, suc, ◌+◌, ◌*◌, ◌-◌, ◌≤◌, ◌<◌}
use native.Mathlib.Omega.{arith}
use lib.Dec.{ltb}
use lib.ListN.{length, length-append}
use borrow.Author.Tests.{ltb-false}
use Rattle.buffers.specs.Lengths.{line_octets}
use Rattle.bits.specs.Bits.{digit}
use Rattle.bits.proofs.BoolLaws.{digit_low}
use Rattle.text.specs.Over.{Written}
use Rattle.text.proofs.OverLaws.{written_none, written_then, written-length}
use Rattle.reader.specs.State.{state_in_range}
use Rattle.reader.specs.declared.Reader.{Reader}
use Rattle.reader.proofs.StateLaws.{fresh_in_range}
use Rattle.search.specs.Finding.{Found, search_of}
use Rattle.refusals.specs.Numbers.{number_of}
use Rattle.refusals.proofs.RowLaws.{number-within}
use Rattle.std.specs.Prelude.{Ok, Err}
use Rattle.search.proofs.PlaceLaws.{found-fits, found-small}
use Rattle.recording.specs.Walk.{Stepped, left_from, read_at, block_read, found_again, answer_here, is_lost, place_by, lost_by, reader_by, stepped_by}
use Rattle.recording.specs.Refusals.{Answer}
use Rattle.recording.specs.declared.Met.TheVariants.{Block, Place, End}
use Rattle.recording.proofs.StepLaws.{reader_in_range, place_inside}
use Rattle.wording.specs.Lines.{number_line, block_line, line_text}
use Rattle.wording.proofs.LineLaws.{block-length, number-length, words_length}
use Rattle.scribe.specs.Listing.{is_last, count_after, lines_from, begun, listing_by, listing_of}

-- ---- one step more: what was written, its line, and the lines to come
module _ (recording : List ℕ) (place : ℕ) (lost : Bool) (s : Reader) (count n : ℕ) (done total : List ℕ) (a : Answer)
    (is : a ≡ answer_here recording place lost s) (all : done ++ lines_from (suc n) recording place lost s count ≡ total) where
  after_line : done ++ (line_text a count
      ++ cond (is_last a) [] (lines_from n recording (place_by a place) (lost_by a lost) (reader_by a recording place s) (count_after a count)))
      ≡ total
  unfolding lines_from
  after_line = rw is all

  pub last_line : is_last a ≡ true → done ++ line_text a count ≡ total
  last_line e = ap (λ (l : List ℕ). done ++ l) (sym (append-nil (line_text a count))) ∙ rw e at after_line

  pub more_lines : is_last a ≡ false
      → (done ++ line_text a count) ++ lines_from n recording (place_by a place) (lost_by a lost) (reader_by a recording place s) (count_after a count)
      ≡ total
  more_lines e = append_assoc done (line_text a count) _ ∙ rw e at after_line

pub count_low : (a : Answer) (n : ℕ) → count_after a n ≤ n + 1
count_low (Ok (Block report)) n = omega arith
count_low (Ok (Place p)) n = omega arith
count_low (Ok (End left)) n = omega arith
count_low (Err why) n = omega arith

-- ---- a listing under way: `turn` turns are made, and what they wrote is `done`
pub record Going (recording : List ℕ) (at start : ℕ) (was text : List ℕ) (end place : ℕ) (lost : Bool) (s : Reader) (count turn : ℕ) : Type 0 where
  pub range : state_in_range s ≡ true
  pub inside : place ≤ length recording
  pub low : count ≤ turn
  pub turns : turn ≤ length recording
  pub done : List ℕ
  pub written : Written at done was end text
  pub all : done ++ lines_from (length recording - turn) recording place lost s count ≡ lines_from (length recording) recording start false begun 0

pub begins : (recording : List ℕ) (at start : ℕ) (text : List ℕ) (s : Reader) → start ≤ length recording → at ≤ length text + 1 → s ≡ begun
    → Going recording at start text text at start false s 0 0
begins recording at start text s h k e =
    let whole : length recording - 0 ≡ length recording = omega arith in
    record {
      range = ap state_in_range e ∙ fresh_in_range;
      inside = h;
      low = omega arith;
      turns = omega arith;
      done = [];
      written = written_none at at text (omega arith);
      all = ap (λ (n : ℕ). lines_from n recording start false s 0) whole ∙ ap (λ (r : Reader). lines_from (length recording) recording start false r 0) e;
    }

module _ (recording : List ℕ) (at start : ℕ) (was text : List ℕ) (end place : ℕ) (lost : Bool) (s : Reader) (count turn : ℕ)
    (g : Going recording at start was text end place lost s count turn) where
  -- all turns are made
  pub over : length recording ≤ turn → Written at (lines_from (length recording) recording start false begun 0) was end text
  unfolding lines_from
  over h =
      let none : length recording - turn ≡ 0 = omega arith in
      let e = ap (λ (n : ℕ). g.done ++ lines_from n recording place lost s count) none in
      subst (λ (l : List ℕ). Written at l was end text) (sym (append-nil g.done) ∙ sym e ∙ g.all) g.written

  module _ (h : turn < length recording) where
    here : g.done ++ lines_from (suc (length recording - (turn + 1))) recording place lost s count ≡ lines_from (length recording) recording start false begun 0
    here =
        let one : suc (length recording - (turn + 1)) ≡ length recording - turn = omega arith in
        ap (λ (n : ℕ). g.done ++ lines_from n recording place lost s count) one ∙ g.all

    module _ (p : Stepped) (e : p ≡ stepped_by (answer_here recording place lost s) recording place lost s) (end₁ : ℕ) (text₁ : List ℕ)
        (w : Written end (line_text p.answer count) text end₁ text₁) where
      is : p.answer ≡ answer_here recording place lost s
      is = ap (λ (q : Stepped). q.answer) e

      -- the walk ends with this line
      pub ends : is_last p.answer ≡ true → Written at (lines_from (length recording) recording start false begun 0) was end₁ text₁
      ends l =
          subst (λ (t : List ℕ). Written at t was end₁ text₁)
          (last_line recording place lost s count (length recording - (turn + 1)) g.done _ p.answer is here l)
          (written_then g.written w)

      -- or goes on
      pub goes_on : is_last p.answer ≡ false
          → Going recording at start was text₁ end₁ p.place p.lost p.reader (count_after p.answer count) (turn + 1)
      goes_on l =
          let a = p.answer in
          let moved : p ≡ stepped_by a recording place lost s = e ∙ ap (λ (b : Answer). stepped_by b recording place lost s) (sym is) in
          let more = more_lines recording place lost s count (length recording - (turn + 1)) g.done _ a is here l in
          record {
            range = ap (λ (q : Stepped). state_in_range q.reader) moved ∙ reader_in_range recording place s a g.range;
            inside = subst (λ (q : Stepped). q.place ≤ length recording) (sym e) (place_inside recording place s lost g.inside);
            low = omega (arith, count_low a count, g.low);
            turns = omega arith;
            done = g.done ++ line_text a count;
            written = written_then g.written w;
            all = ap (λ (q : Stepped). (g.done ++ line_text a count) ++ lines_from (length recording - (turn + 1)) recording q.place q.lost q.reader (count_after a count)) moved ∙ more;
          }

-- ---- a recording has more octets than a walk over it has steps, so that a listing is whole: its last line is the octets left
abbrev pub Ends : List ℕ → Type 0
Ends text = (done : List ℕ) × (left : ℕ) × (text ≡ done ++ number_line "left " left)

ends-after : (line text : List ℕ) → Ends text → Ends (line ++ text)
ends-after line text (done, left, e) =
    (line ++ done, left, ap (λ (l : List ℕ). line ++ l) e ∙ sym (append_assoc line done (number_line "left " left)))

left-ends : (left : ℕ) → Ends (number_line "left " left ++ [])
left-ends left = ([], left, append-nil (number_line "left " left))

-- n steps are enough, wherever the walk stands: each block is line_octets octets on, and each place found follows a lost block
abbrev Enough : List ℕ → ℕ → Type 0
Enough recording n =
    (place : ℕ) (lost : Bool) (s : Reader) (count : ℕ) → place ≤ length recording
    → length recording + 80 * digit lost + 80 ≤ place + 80 * n → Ends (lines_from n recording place lost s count)

module _ (recording : List ℕ) (n : ℕ) (shorter : Enough recording n) (place : ℕ) (s : Reader) (count : ℕ) (h : place ≤ length recording) where
  abbrev Rest : Bool → Answer → Type 0
  Rest lost a =
      Ends (line_text a count ++ cond (is_last a) [] (lines_from n recording (place_by a place) (lost_by a lost) (reader_by a recording place s) (count_after a count)))

  found-ends : length recording + 80 ≤ place + 80 * n → (f : Found) → search_of recording place ≡ f → Rest true (found_again f (left_from recording place))
  found-ends k (Ok p) e =
      let f = found-fits recording place p e in
      ends-after (number_line "found " p) _ (shorter p false s count (omega (arith, f.2)) (omega (arith, f.1)))
  found-ends k (Err why) e = left-ends (left_from recording place)

  block-ends : length recording ≤ place + 80 * n → (b : Bool) → ltb (left_from recording place) line_octets ≡ b
      → Rest false (cond b (Ok (End (left_from recording place))) (block_read s recording place))
  block-ends k true e = left-ends (left_from recording place)
  block-ends k false e =
      let l = ltb-false (left_from recording place) line_octets e in
      let p = read_at s recording place in
      ends-after (block_line count p.report) _ (shorter (place + line_octets) (is_lost p.report) p.state (count + 1) (omega arith) (omega (arith, digit_low (is_lost p.report))))

enough : (recording : List ℕ) (n : ℕ) → Enough recording n
unfolding lines_from
enough recording zero place lost s count h k = absurd (omega arith)
enough recording (suc n) place true s count h k =
    found-ends recording n (enough recording n) place s count h (omega arith) (search_of recording place) refl
enough recording (suc n) place false s count h k =
    block-ends recording n (enough recording n) place s count h (omega arith) (ltb (left_from recording place) line_octets) refl

pub listing-ends : (recording : List ℕ) (p : ℕ) → search_of recording 0 ≡ Ok p → Ends (listing_of recording)
unfolding listing_of
listing-ends recording p e =
    let f = found-fits recording 0 p e in
    rw e (ends-after (number_line "found " p) _ (enough recording (length recording) p false begun 0 (omega (arith, f.2)) (omega (arith, f.2))))

-- ---- how long a listing is: 20 octets for a block of line_octets, and for a lost one 17 and the 12 of the place found after it. So the lines
-- of a walk from a place on take a fifth of the octets left, and a little more
abbrev Short : List ℕ → ℕ → Type 0
Short recording n =
    (place : ℕ) (lost : Bool) (s : Reader) (count : ℕ) → place ≤ length recording → count * line_octets ≤ place
    → 5 * length (lines_from n recording place lost s count) + place ≤ length recording + 60 * digit lost + 60

module _ (recording : List ℕ) (small : length recording ≤ 65536) (n : ℕ) (shorter : Short recording n) (place : ℕ) (s : Reader) (count : ℕ)
    (h : place ≤ length recording) (low : count * line_octets ≤ place) where
  abbrev Taken : Bool → Answer → ℕ
  Taken lost a =
      length (line_text a count ++ cond (is_last a) [] (lines_from n recording (place_by a place) (lost_by a lost) (reader_by a recording place s) (count_after a count)))

  end_short : length (number_line "left " (left_from recording place) ++ []) ≤ 11
  end_short = rw (append-nil (number_line "left " (left_from recording place))) (number-length "left " 5 (left_from recording place) words_length.1 (omega arith))

  found-short : (f : Found) → search_of recording place ≡ f
      → 5 * Taken true (found_again f (left_from recording place)) + place ≤ length recording + 60 * digit true + 60
  found-short (Ok p) e =
      let f = found-fits recording place p e in
      let rest = shorter p false s count (omega (arith, f.2)) (omega (arith, f.1)) in
      rw (length-append (number_line "found " p) (lines_from n recording p false s count))
      (omega (arith, number-length "found " 6 p words_length.0 (omega (arith, f.2)), rest, f.1))
  found-short (Err why) e = omega (arith, end_short)

  block-short : (b : Bool) → ltb (left_from recording place) line_octets ≡ b
      → 5 * Taken false (cond b (Ok (End (left_from recording place))) (block_read s recording place)) + place ≤ length recording + 60 * digit false + 60
  block-short true e = omega (arith, end_short)
  block-short false e =
      let l = ltb-false (left_from recording place) line_octets e in
      let p = read_at s recording place in
      let rest = shorter (place + line_octets) (is_lost p.report) p.state (count + 1) (omega arith) (omega arith) in
      rw (length-append (block_line count p.report) (lines_from n recording (place + line_octets) (is_lost p.report) p.state (count + 1)))
      (omega (arith, block-length count p.report (omega arith), rest, digit_low (is_lost p.report)))

short : (recording : List ℕ) → length recording ≤ 65536 → (n : ℕ) → Short recording n
unfolding lines_from
short recording small zero place lost s count h low = omega arith
short recording small (suc n) place true s count h low =
    found-short recording small n (short recording small n) place s count h low (search_of recording place) refl
short recording small (suc n) place false s count h low =
    block-short recording small n (short recording small n) place s count h low (ltb (left_from recording place) line_octets) refl

-- every listing fits into 16,384 octets
pub listing-fits : (recording : List ℕ) → length (listing_of recording) ≤ 16384
unfolding listing_of
listing-fits recording = go (search_of recording 0) refl
  where
    go : (f : Found) → search_of recording 0 ≡ f → length (listing_by f recording) ≤ 16384
    go (Ok p) e =
        let f = found-fits recording 0 p e in
        let small = found-small recording 0 p e in
        rw (length-append (number_line "found " p) (lines_from (length recording) recording p false begun 0))
        (omega (arith, number-length "found " 6 p words_length.0 (omega (arith, f.2)), small, short recording small (length recording) p false begun 0 (omega (arith, f.2)) (omega arith)))
    go (Err why) e = omega (arith, number-length "none " 5 (number_of why) words_length.2 (omega (arith, (number-within why).1)))

pub listed-fits : {r : ℕ} {was text : List ℕ} (recording : List ℕ) → Written 0 (listing_of recording) was r text → 16384 ≤ length was → r ≤ length text
listed-fits recording w room = omega (arith, w.place, listing-fits recording, written-length w)
