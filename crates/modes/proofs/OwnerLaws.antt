-- Laws of places held: a place held by both is a bit or an SC octet common to both ranges, and a count of places is a count of each range.
use mathlib.Core.Path.{◌≡◌, refl, sym, ap, ap₂, ◌∙◌}
use mathlib.Core.Bool.{Bool, true, false, false≢true, cond, ◌&&◌, ◌||◌, and_comm, or-true, or-false}
use mathlib.Core.Logic.{⊎_elim}
use Prim.Native.Nat.{ℕ, zero, suc, ◌+◌, ◌-◌, ◌*◌, ◌≤◌, ◌<◌, min}
use native.Mathlib.Nat.{eq-or-lt_of_le, le_of_suc-le-suc, le_step, suc-mul, zero-mul}
use native.Mathlib.Omega.{arith}
use lib.Dec.{eqb, leb}
use borrow.Author.Tests.{leb-true, leb-false, eqb-true, le-leb, ne_eqb}
use Rattle.bits.specs.Bits.{digit}
use Rattle.bits.proofs.BoolLaws.{and_left, and_right, and_make}
use Rattle.numbers.specs.Numbers.{within, octet}
use Rattle.table.specs.Table.{sc_octets, octet_bits_from, audio_places, lsd_places}
use Rattle.modes.specs.Owners.{owner_number, same_owner, holds, held_by, some, sum, clash, overlaps, bits_per_frame}
use Rattle.modes.specs.declared.Mode.{Mode}
use Rattle.table.specs.declared.Places.{Places}
use Rattle.modes.specs.declared.Owner.{Owner}
use Rattle.modes.specs.declared.Owner.TheVariants.{Service, Voice, Lsd, Nobody}
use Rattle.table.proofs.TableLaws.{Fit, fit, audio-fit, lsd-fit, audio_shape, lsd_shape}

-- ---- an owner is its number
owner_at : ℕ → Owner
owner_at zero = Service
owner_at (suc zero) = Voice
owner_at (suc (suc zero)) = Lsd
owner_at (suc (suc (suc n))) = Nobody

owner_back : (o : Owner) → owner_at (owner_number o) ≡ o
unfolding owner_at
owner_back Service = refl
owner_back Voice = refl
owner_back Lsd = refl
owner_back Nobody = refl

pub same-owner : (o p : Owner) → same_owner o p ≡ true → o ≡ p
same-owner o p t = sym (owner_back o) ∙ ap owner_at (eqb-true (owner_number o) (owner_number p) t) ∙ owner_back p

-- ---- what any owner holds lies in a frame
pub held_fit : (m : Mode) (o : Owner) → Fit (held_by m o)
unfolding held_by
held_fit m Service = fit (sc_octets (octet 1) (octet 16)) refl
held_fit m Voice = audio-fit m.audio
held_fit m Lsd = lsd-fit m.lsd
held_fit m Nobody = fit (octet_bits_from 8) refl

-- ---- some number of 1 to n
some_at : (n : ℕ) (p : ℕ → Bool) (k : ℕ) → 1 ≤ k → k ≤ n → p k ≡ true → some n p ≡ true
unfolding some
some_at zero p k h l e = absurd (omega arith)
some_at (suc n) p k h l e =
    ⊎_elim
    (λ same. ap (λ (b : Bool). b || some n p) (ap p (sym same) ∙ e))
    (λ less. ap (λ (b : Bool). p (suc n) || b) (some_at n p k h (le_of_suc-le-suc less) e) ∙ or-true (p (suc n)))
    (eq-or-lt_of_le l)

some_none : (n : ℕ) (p : ℕ → Bool) → ((k : ℕ) → p k ≡ false) → some n p ≡ false
unfolding some
some_none zero p h = refl
some_none (suc n) p h = ap₂ ◌||◌ (h (suc n)) (some_none n p h)

-- ---- two ranges
abbrev pub meets : ℕ → ℕ → ℕ → ℕ → Bool
meets a b c d = leb a b && leb c d && leb a d && leb c b

-- octet bits or SC octets that both places have
abbrev pub touching : Places → Places → Bool
touching p q = meets p.from p.to q.from q.to || meets p.first.0 p.last.0 q.first.0 q.last.0

meets_make : (a b c d : ℕ) → a ≤ b → c ≤ d → a ≤ d → c ≤ b → meets a b c d ≡ true
meets_make a b c d ab cd ad cb =
    and_make (leb a b && leb c d && leb a d) (leb c b)
    (and_make (leb a b && leb c d) (leb a d) (and_make (leb a b) (leb c d) (le-leb a b ab) (le-leb c d cd)) (le-leb a d ad))
    (le-leb c b cb)

within_make : (a b n : ℕ) → a ≤ n → n ≤ b → within a b n ≡ true
within_make a b n h l = and_make (leb a n) (leb n b) (le-leb a n h) (le-leb n b l)

-- the greater of the two starts is in both ranges
abbrev start : ℕ → ℕ → ℕ
start a c = cond (leb a c) c a

start_in : (a b c d : ℕ) → meets a b c d ≡ true → (within a b (start a c) && within c d (start a c)) ≡ true
start_in a b c d t =
    let t3 = and_left (leb a b && leb c d && leb a d) (leb c b) t in
    let t2 = and_left (leb a b && leb c d) (leb a d) t3 in
    let ab = leb-true a b (and_left (leb a b) (leb c d) t2) in
    let cd = leb-true c d (and_right (leb a b) (leb c d) t2) in
    let ad = leb-true a d (and_right (leb a b && leb c d) (leb a d) t3) in
    let cb = leb-true c b (and_right (leb a b && leb c d && leb a d) (leb c b) t) in
    go (leb a c) refl ab cd ad cb
  where
    go : (s : Bool) → leb a c ≡ s → a ≤ b → c ≤ d → a ≤ d → c ≤ b → (within a b (cond s c a) && within c d (cond s c a)) ≡ true
    go true e ab cd ad cb =
        and_make (within a b c) (within c d c) (within_make a b c (leb-true a c e) cb) (within_make c d c (omega arith) cd)
    go false e ab cd ad cb =
        let ca = leb-false a c e in
        and_make (within a b a) (within c d a) (within_make a b a (omega arith) ab) (within_make c d a (omega arith) ad)

apart : (a b c d n : ℕ) → meets a b c d ≡ false → (within a b n && within c d n) ≡ false
apart a b c d n f = go (within a b n && within c d n) refl
  where
    go : (s : Bool) → (within a b n && within c d n) ≡ s → s ≡ false
    go false e = refl
    go true e =
        let ab = and_left (within a b n) (within c d n) e in
        let cd = and_right (within a b n) (within c d n) e in
        let an = leb-true a n (and_left (leb a n) (leb n b) ab) in
        let nb = leb-true n b (and_right (leb a n) (leb n b) ab) in
        let cn = leb-true c n (and_left (leb c n) (leb n d) cd) in
        let nd = leb-true n d (and_right (leb c n) (leb n d) cd) in
        absurd (false≢true (sym f ∙ meets_make a b c d (omega arith) (omega arith) (omega arith) (omega arith)))

-- ---- a place held by both
both : Places → Places → ℕ → ℕ → Bool
both p q o bit = holds p (octet o) bit && holds q (octet o) bit

both-sc : (p q : Places) (o : ℕ) → both p q o 8 ≡ (within p.first.0 p.last.0 o && within q.first.0 q.last.0 o)
unfolding both holds
both-sc p q o = refl

both-bit : (p q : Places) (o bit : ℕ) → eqb bit 8 ≡ false
    → both p q o bit ≡ (within p.from p.to bit && within q.from q.to bit)
unfolding both holds
both-bit p q o bit e = rw e

inside : (a b n : ℕ) → within a b n ≡ true → (a ≤ n) × (n ≤ b)
inside a b n t = (leb-true a n (and_left (leb a n) (leb n b) t), leb-true n b (and_right (leb a n) (leb n b) t))

module _ (p q : Places) (fp : Fit p) (fq : Fit q) where
  bits-meet : meets p.from p.to q.from q.to ≡ true → some 80 (λ (o : ℕ). some 8 (both p q o)) ≡ true
  bits-meet t =
      let n = start p.from q.from in
      let common = start_in p.from p.to q.from q.to t in
      let bounds = inside p.from p.to n (and_left (within p.from p.to n) (within q.from q.to n) common) in
      let seven : n ≤ 7 = omega (arith, fp.ends, bounds.1) in
      let one : 1 ≤ n = omega (arith, fp.starts, bounds.0) in
      some_at 80 (λ (o : ℕ). some 8 (both p q o)) 1 (omega arith) (omega arith)
      (some_at 8 (both p q 1) n one (omega arith) (both-bit p q 1 n (ne_eqb n 8 (λ e. omega arith)) ∙ common))

  channel_meets : meets p.first.0 p.last.0 q.first.0 q.last.0 ≡ true → some 80 (λ (o : ℕ). some 8 (both p q o)) ≡ true
  channel_meets t =
      let n = start p.first.0 q.first.0 in
      let common = start_in p.first.0 p.last.0 q.first.0 q.last.0 t in
      let held = within p.first.0 p.last.0 n in
      let bounds = inside p.first.0 p.last.0 n (and_left held (within q.first.0 q.last.0 n) common) in
      let last : n ≤ 80 = omega (arith, fp.closes, bounds.1) in
      let one : 1 ≤ n = omega (arith, fp.opens, bounds.0) in
      some_at 80 (λ (o : ℕ). some 8 (both p q o)) n one last
      (some_at 8 (both p q n) 8 (omega arith) (omega arith) (both-sc p q n ∙ common))

  none_meets : meets p.from p.to q.from q.to ≡ false → meets p.first.0 p.last.0 q.first.0 q.last.0 ≡ false
      → some 80 (λ (o : ℕ). some 8 (both p q o)) ≡ false
  none_meets b c =
      some_none 80 (λ (o : ℕ). some 8 (both p q o))
      (λ o. some_none 8 (both p q o) (λ bit. at o bit (eqb bit 8) refl))
    where
      at : (o bit : ℕ) (s : Bool) → eqb bit 8 ≡ s → both p q o bit ≡ false
      at o bit true e =
          ap (both p q o) (eqb-true bit 8 e) ∙ both-sc p q o ∙ apart p.first.0 p.last.0 q.first.0 q.last.0 o c
      at o bit false e = both-bit p q o bit e ∙ apart p.from p.to q.from q.to bit b

  pub clash_is : clash p q ≡ touching p q
  unfolding clash both
  clash_is = go (meets p.from p.to q.from q.to) (meets p.first.0 p.last.0 q.first.0 q.last.0) refl refl
    where
      go : (b c : Bool) → meets p.from p.to q.from q.to ≡ b → meets p.first.0 p.last.0 q.first.0 q.last.0 ≡ c
          → some 80 (λ (o : ℕ). some 8 (both p q o)) ≡ (b || c)
      go true c eb ec = bits-meet eb
      go false true eb ec = channel_meets ec
      go false false eb ec = none_meets eb ec

pub clash_swapped : (p q : Places) → clash p q ≡ clash q p
unfolding clash
clash_swapped p q = λ i. some 80 (λ (n : ℕ). some 8 (λ (bit : ℕ). and_comm (holds p (octet n) bit) (holds q (octet n) bit) i))

-- of a mode's two streams
pub overlaps_two : (m : Mode) → overlaps m ≡ clash (held_by m Voice) (held_by m Lsd)
unfolding overlaps
overlaps_two m = or-false _ ∙ or-false _

pub overlaps_is : (m : Mode) → overlaps m ≡ touching (audio_places m.audio) (lsd_places m.lsd)
unfolding held_by
overlaps_is m = overlaps_two m ∙ clash_is (audio_places m.audio) (lsd_places m.lsd) (audio-fit m.audio) (lsd-fit m.lsd)

-- where they do not overlap, voice's octet bits end before data's begin
pub voice-ends_first : (m : Mode) → overlaps m ≡ false → (audio_places m.audio).to < (lsd_places m.lsd).from
voice-ends_first m apart = go (leb d.from v.to) refl
  where
    v : Places
    v = audio_places m.audio

    d : Places
    d = lsd_places m.lsd

    go : (t : Bool) → leb d.from v.to ≡ t → v.to < d.from
    go false e = leb-false d.from v.to e
    go true e =
        let l = leb-true d.from v.to e in
        let one : v.from ≡ 1 = (audio_shape m.audio).0 in
        let seven : d.to ≡ 7 = (lsd_shape m.lsd).0 in
        let low : 1 ≤ d.from = (lsd-fit m.lsd).starts in
        let high : v.to ≤ 7 = (audio-fit m.audio).ends in
        let met : meets v.from v.to d.from d.to ≡ true =
        meets_make v.from v.to d.from d.to (omega arith) (omega arith) (omega arith) l in
        let channel = meets v.first.0 v.last.0 d.first.0 d.last.0 in
        absurd (false≢true (sym apart ∙ overlaps_is m ∙ ap (λ (b : Bool). b || channel) met))

-- ---- how many numbers of 1 to n
pub sum_ext : (n : ℕ) (f g : ℕ → ℕ) → ((k : ℕ) → k ≤ n → f k ≡ g k) → sum n f ≡ sum n g
unfolding sum
sum_ext zero f g h = refl
sum_ext (suc n) f g h = ap₂ ◌+◌ (h (suc n) (omega arith)) (sum_ext n f g (λ k l. h k (le_step l)))

pub sum_plus : (n : ℕ) (f : ℕ → ℕ) (c : ℕ) → sum n (λ (k : ℕ). f k + c) ≡ sum n f + n * c
unfolding sum
sum_plus zero f c = rw zero-mul
sum_plus (suc n) f c = omega (arith, sum_plus n f c, suc-mul n c)

pub sum-within : (n a b : ℕ) → 1 ≤ a → a ≤ b + 1 → sum n (λ (k : ℕ). digit (within a b k)) ≡ min n b + 1 - a
unfolding sum
sum-within zero a b h l = omega arith
sum-within (suc n) a b h l = go (leb a (suc n)) (leb (suc n) b) refl refl (sum-within n a b h l)
  where
    go : (s t : Bool) → leb a (suc n) ≡ s → leb (suc n) b ≡ t → sum n (λ (k : ℕ). digit (within a b k)) ≡ min n b + 1 - a
        → digit (s && t) + sum n (λ (k : ℕ). digit (within a b k)) ≡ min (suc n) b + 1 - a
    go true true es et i = omega (arith, leb-true, leb-false)
    go true false es et i = omega (arith, leb-true, leb-false)
    go false t es et i = omega (arith, leb-true, leb-false)

-- the places of octet o are those of its bits 1 to 7, and its SC bit
row-sum : (p : Places) → Fit p → (o : ℕ)
    → sum 8 (λ (bit : ℕ). digit (holds p (octet o) bit)) ≡ digit (within p.first.0 p.last.0 o) + (p.to + 1 - p.from)
unfolding holds
row-sum p f o =
    let held : ℕ → ℕ = λ (bit : ℕ). digit (holds p (octet o) bit) in
    let seven : sum 7 held ≡ p.to + 1 - p.from =
    sum_ext 7 held (λ (bit : ℕ). digit (within p.from p.to bit))
    (λ k l. ap (λ (b : Bool). digit (cond b (within p.first.0 p.last.0 o) (within p.from p.to k))) (ne_eqb k 8 (λ e. omega arith)))
    ∙ sum-within 7 p.from p.to f.starts f.spans
    ∙ omega (arith, f.ends) in
    let whole : sum 8 held ≡ digit (within p.first.0 p.last.0 o) + sum 7 held = unfold sum in refl in
    whole ∙ ap (λ (n : ℕ). digit (within p.first.0 p.last.0 o) + n) seven

pub bits_per_frame_is : (p : Places) → Fit p → bits_per_frame p ≡ (p.to + 1 - p.from) * 80 + (p.last.0 + 1 - p.first.0)
unfolding bits_per_frame
bits_per_frame_is p f =
    let c = p.to + 1 - p.from in
    let channel : ℕ → ℕ = λ (o : ℕ). digit (within p.first.0 p.last.0 o) in
    sum_ext 80 (λ (o : ℕ). sum 8 (λ (bit : ℕ). digit (holds p (octet o) bit))) (λ (o : ℕ). channel o + c) (λ o l. row-sum p f o)
    ∙ sum_plus 80 channel c
    ∙ ap (λ (n : ℕ). n + 80 * c) (sum-within 80 p.first.0 p.last.0 f.opens f.runs)
    ∙ omega (arith, f.closes)
