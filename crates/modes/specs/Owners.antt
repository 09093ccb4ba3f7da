-- Document 01, 'Codes and bit places': whose each place of a frame is. A place is an octet number, 1 to 80, and a bit, 1 to 8.
use Rattle.std.specs.Prelude.{Bool, false, cond, ◌&&◌, ◌||◌, List, [], ◌∷◌, ℕ, zero, suc, ◌+◌, ◌*◌, eqb}
use Rattle.bits.specs.Bits.{sc_place, digit}
use Rattle.numbers.specs.Numbers.{within, octet}
use Rattle.table.specs.Table.{sc_octets, octet_bits_from, audio_places, lsd_places}
use Rattle.numbers.specs.declared.OctetNumber.{OctetNumber}
use Rattle.table.specs.declared.Places.{Places}
use Rattle.modes.specs.declared.Mode.{Mode}
use Rattle.modes.specs.declared.Owner.{Owner}
use Rattle.modes.specs.declared.Owner.TheVariants.{Service, Voice, Lsd, Nobody}

-- each owner by a number of its own
abbrev pub owner_number : Owner → ℕ
owner_number Service = 0
owner_number Voice = 1
owner_number Lsd = 2
owner_number Nobody = 3

-- the two are one owner
abbrev pub same_owner : Owner → Owner → Bool
same_owner o p = eqb (owner_number o) (owner_number p)

-- the owners that are streams
abbrev pub streams : List Owner
streams = Voice ∷ Lsd ∷ []

-- these owners but o
abbrev pub without : Owner → List Owner → List Owner
without o [] = []
without o (p ∷ ps) = cond (same_owner o p) (without o ps) (p ∷ without o ps)

-- these places have the one of this octet and this bit among them: an SC bit where its octet is in the range, any other by the bit
unfoldable pub holds : Places → OctetNumber → ℕ → Bool
holds p o bit = cond (eqb bit sc_place) (within p.first.0 p.last.0 o.0) (within p.from p.to bit)

-- what each holds under a mode: the service bits are SC bits 1 to 16
unfoldable pub held_by : Mode → Owner → Places
held_by m Service = sc_octets (octet 1) (octet 16)
held_by m Voice = audio_places m.audio
held_by m Lsd = lsd_places m.lsd
held_by m Nobody = octet_bits_from 8

-- the one rule for the owner of a place: the first of these that holds it (DECISIONS F5). So each place of each mode has one owner
unfoldable pub owner_of : Mode → OctetNumber → ℕ → Owner
owner_of m o bit =
    cond (holds (held_by m Service) o bit) Service
    (cond (holds (held_by m Voice) o bit) Voice
    (cond (holds (held_by m Lsd) o bit) Lsd
    Nobody))

-- some number of 1 to n has p
unfoldable pub some : ℕ → (ℕ → Bool) → Bool
some zero p = false
some (suc n) p = p (suc n) || some n p

-- the sum of p over 1 to n
unfoldable pub sum : ℕ → (ℕ → ℕ) → ℕ
sum zero p = 0
sum (suc n) p = p (suc n) + sum n p

-- some place is held by both
unfoldable pub clash : Places → Places → Bool
clash p q = some 80 (λ (n : ℕ). some 8 (λ (bit : ℕ). holds p (octet n) bit && holds q (octet n) bit))

-- one of these owners passes the test
abbrev pub one : (Owner → Bool) → List Owner → Bool
one test [] = false
one test (o ∷ os) = test o || one test os

-- some two of these owners do, as a pair
abbrev pub two : (Owner → Owner → Bool) → List Owner → Bool
two test [] = false
two test (o ∷ os) = one (test o) os || two test os

-- the streams of a mode overlap: some two of them clash
unfoldable pub overlaps : Mode → Bool
overlaps m = two (λ (o p : Owner). clash (held_by m o) (held_by m p)) streams

-- how many places of a frame are held
unfoldable pub bits_per_frame : Places → ℕ
bits_per_frame p = sum 80 (λ (n : ℕ). sum 8 (λ (bit : ℕ). digit (holds p (octet n) bit)))

-- how many bits of a stream's buffer count: twice its bits per frame, since a block is two frames
abbrev pub counting : Owner → Mode → ℕ
counting o m = 2 * bits_per_frame (held_by m o)
