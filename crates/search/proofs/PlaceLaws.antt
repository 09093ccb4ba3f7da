-- Laws of the search: how it goes on by one place, and that its answer is the smallest place of document 01, or that there is none.
use mathlib.Core.Path.{◌≡◌, refl, sym, ap, subst, ◌∙◌}
use mathlib.Core.Bool.{Bool, true, false, cond, ◌||◌, and-false, false≢true}
use mathlib.Core.Logic.{⊎_elim}
use mathlib.Core.List.{List}
use Prim.Native.Nat.{ℕ, zero, suc, ◌+◌, ◌-◌, ◌≤◌, ◌<◌}
use native.Mathlib.Nat.{eq-or-lt_of_le}
use native.Mathlib.Omega.{arith}
use lib.Dec.{leb, ltb}
use lib.ListN.{length, take, drop, length-drop}
use lib.Seq.{take_all}
use borrow.Author.Tests.{leb-true, leb-false, lt-leb, ltb-false, eqb-true}
use Rattle.bits.specs.Bits.{number}
use Rattle.bits.proofs.BitLaws.{number_inj}
use Rattle.service.specs.Service.{even_alignment}
use Rattle.service.specs.Channel.{channel_bits}
use Rattle.service.proofs.ChannelLaws.{length_channel}
use Rattle.search.specs.Finding.{Found, spells, aligned, first_of, bad_length, search_of}
use Rattle.search.specs.Groups.{first_from}
use Rattle.refusals.specs.Numbers.{number_of}
use Rattle.refusals.specs.declared.Refusal.TheVariants.{BadRecording, NoPlace}
use Rattle.std.specs.Prelude.{Ok, Err}

-- a part that is lent up to the end is all that follows its start
pub lent-part : (at : ℕ) (recording : List ℕ) → take (length recording - at) (drop at recording) ≡ drop at recording
lent-part at recording = take_all (length recording - at) (drop at recording) (omega (arith, length-drop at recording))

-- the definition compares numbers; the bits themselves are 0011011
pub spelled-bits : (at : ℕ) (part : List ℕ) → spells at part ≡ true → channel_bits 7 at part ≡ even_alignment
unfolding spells
spelled-bits at part e =
    number_inj (channel_bits 7 at part) even_alignment (length_channel 7 at part) (eqb-true (number (channel_bits 7 at part)) (number even_alignment) e)

pub too_short : (part : List ℕ) → length part < 168 → aligned part ≡ false
unfolding aligned
too_short part h = rw (lt-leb 168 (length part) h, and-false)

-- ---- one place further on
pub first_step : (at : ℕ) (recording : List ℕ) → at < length recording
    → first_from at recording ≡ cond (aligned (drop at recording)) (Ok at) (first_from (at + 1) recording)
unfolding first_of
first_step at recording h =
    let e : length recording - at ≡ suc (length recording - (at + 1)) = omega arith in
    ap (λ (n : ℕ). first_of n at recording) e

none_left : (n at : ℕ) (recording : List ℕ) → length recording < at + 168 → first_of n at recording ≡ Err NoPlace
unfolding first_of
none_left zero at recording h = refl
none_left (suc n) at recording h =
    rw (too_short (drop at recording) (omega (arith, length-drop at recording))) (none_left n (at + 1) recording (omega arith))

-- no place has fewer than 168 octets after it
pub first_none : (at : ℕ) (recording : List ℕ) → length recording < at + 168 → first_from at recording ≡ Err NoPlace
first_none at recording = none_left (length recording - at) at recording

-- ---- what an answer says of the places from `at` on: the place fits and none before it does, or none at all does
abbrev Says : ℕ → List ℕ → Found → Type 0
Says at recording (Ok p) =
    (aligned (drop p recording) ≡ true) × (at ≤ p) × ((q : ℕ) → at ≤ q → q < p → aligned (drop q recording) ≡ false)
Says at recording (Err why) = number_of why ≡ number_of NoPlace → (q : ℕ) → at ≤ q → aligned (drop q recording) ≡ false

-- a place is the first one, which does not fit, or a later one
not_the_first : (at q : ℕ) (recording : List ℕ) → aligned (drop at recording) ≡ false → at ≤ q
    → (at + 1 ≤ q → aligned (drop q recording) ≡ false) → aligned (drop q recording) ≡ false
not_the_first at q recording a h later =
    ⊎_elim
    (λ (e : at ≡ q). subst (λ (k : ℕ). aligned (drop k recording) ≡ false) e a)
    (λ (w : at < q). later (omega arith))
    (eq-or-lt_of_le h)

one_earlier : (at : ℕ) (recording : List ℕ) (f : Found) → aligned (drop at recording) ≡ false → Says (at + 1) recording f → Says at recording f
one_earlier at recording (Ok p) a (fits, after, before) =
    (fits, omega arith, λ q h k. not_the_first at q recording a h (λ w. before q w k))
one_earlier at recording (Err why) a none = λ e q h. not_the_first at q recording a h (none e q)

first_says : (n at : ℕ) (recording : List ℕ) → length recording ≤ at + n → Says at recording (first_of n at recording)
unfolding first_of
first_says zero at recording h = λ e q k. too_short (drop q recording) (omega (arith, length-drop q recording))
first_says (suc n) at recording h = step (aligned (drop at recording)) refl (first_says n (at + 1) recording (omega arith))
  where
    step : (b : Bool) → aligned (drop at recording) ≡ b → Says (at + 1) recording (first_of n (at + 1) recording)
        → Says at recording (cond b (Ok at) (first_of n (at + 1) recording))
    step true a later = (a, omega arith, λ q k w. absurd (omega arith))
    step false a later = one_earlier at recording (first_of n (at + 1) recording) a later

search-says : (recording : List ℕ) (start : ℕ) → Says start recording (search_of recording start)
unfolding search_of
search-says recording start = step (bad_length recording start)
  where
    step : (b : Bool) → Says start recording (cond b (Err BadRecording) (first_of (length recording - start) start recording))
    step true = λ e. absurd (omega arith)
    step false = first_says (length recording - start) start recording (omega arith)

-- ---- the laws of document 01's sentence
all_inside : (p : ℕ) (recording : List ℕ) → aligned (drop p recording) ≡ true → p + 168 ≤ length recording
all_inside p recording a = test (leb 168 (length (drop p recording))) refl
  where
    test : (b : Bool) → leb 168 (length (drop p recording)) ≡ b → p + 168 ≤ length recording
    test true e = omega (arith, leb-true 168 (length (drop p recording)) e, length-drop p recording)
    test false e = absurd (false≢true (sym (too_short (drop p recording) (leb-false 168 (length (drop p recording)) e)) ∙ a))

-- the place fits, is not before the start, and has all 168 octets inside
pub found-fits : (recording : List ℕ) (start p : ℕ) → search_of recording start ≡ Ok p
    → (aligned (drop p recording) ≡ true) × (start ≤ p) × (p + 168 ≤ length recording)
found-fits recording start p e =
    let s = subst (Says start recording) e (search-says recording start) in
    (s.0, s.1, all_inside p recording s.0)

-- no smaller place from the start on fits
pub found-smallest : (recording : List ℕ) (start p : ℕ) → search_of recording start ≡ Ok p
    → (q : ℕ) → start ≤ q → q < p → aligned (drop q recording) ≡ false
found-smallest recording start p e = (subst (Says start recording) e (search-says recording start)).2

-- where there is said to be no such place, no place from the start on fits
pub none_fits : (recording : List ℕ) (start : ℕ) → search_of recording start ≡ Err NoPlace
    → (q : ℕ) → start ≤ q → aligned (drop q recording) ≡ false
none_fits recording start e = subst (Says start recording) e (search-says recording start) refl

-- where a place was found, the recording is not too long
pub found-small : (recording : List ℕ) (start p : ℕ) → search_of recording start ≡ Ok p → length recording ≤ 65536
unfolding search_of bad_length
found-small recording start p = go (ltb 65536 (length recording)) (ltb (length recording - start) 168) refl
  where
    go : (b d : Bool) → ltb 65536 (length recording) ≡ b
        → cond (b || d) (Err BadRecording) (first_of (length recording - start) start recording) ≡ Ok p → length recording ≤ 65536
    go true d e h = let z : ◌≡◌ {A = ℕ} 0 1 = cc in absurd (omega arith)
    go false d e h = ltb-false 65536 (length recording) e
