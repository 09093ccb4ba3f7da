-- The four numbers of a layout give the rule of owners; how many places of a frame's first n octets each owner has.
use mathlib.Core.Path.{◌≡◌, refl, ap, ap₂, sym, ◌∙◌}
use mathlib.Core.Bool.{Bool, true, false, false≢true, cond, ◌&&◌, ◌||◌}
use mathlib.Core.Logic.{◌⊎◌, inl, inr}
use mathlib.Core.List.{List, [], ◌∷◌, ◌++◌}
use Prim.Native.Nat.{ℕ, zero, suc, ◌+◌, ◌-◌, ◌*◌, ◌%◌, ◌≤◌, ◌<◌, min}
use native.Mathlib.Nat.{zero-mul, suc-mul}
use native.Mathlib.Omega.{arith}
use lib.Dec.{eqb, leb, lit<}
use borrow.Author.Tests.{leb-true, leb-false, eqb-true, le-leb, ne_eqb}
use lib.ListN.{length, replicate, length-append, length-replicate}
use Rattle.bits.proofs.BoolLaws.{and_left, and_right, every_below, below}
use Rattle.numbers.specs.Numbers.{within, octet}
use Rattle.table.specs.Table.{octet_bits_from, not_listed, lsd_table, lsd_listed, lsd_places}
use Rattle.modes.specs.Owners.{same_owner, holds, held_by, owner_of}
use Rattle.modes.specs.declared.Mode.{Mode}
use Rattle.numbers.specs.declared.OctetNumber.{OctetNumber}
use Rattle.table.specs.declared.Places.{Places}
use Rattle.modes.specs.declared.Owner.{Owner}
use Rattle.modes.specs.declared.Owner.TheVariants.{Service, Voice, Lsd, Nobody}
use Rattle.table.proofs.TableLaws.{beside_all, audio-fit, lsd-fit, audio_shape, lsd_shape}
use Rattle.modes.proofs.OwnerLaws.{same-owner}
use Rattle.places.specs.Streams.{same, count}
use Rattle.places.specs.Places.{owners_of, owners_to}
use Rattle.places.specs.Layout.{layout_of, columns_by, channel_by, row_by, rows_by, sc, in_eights, Apart}
use Rattle.places.specs.declared.Layout.{Layout}
use Rattle.places.proofs.StreamLaws.{count-append, count_all, count_none}

-- ---- octet bits 1 to 7: for each width and each first bit of data, a test that antt computes
same_owners : List Owner → List Owner → Bool
same_owners [] [] = true
same_owners [] (q ∷ qs) = false
same_owners (p ∷ ps) [] = false
same_owners (p ∷ ps) (q ∷ qs) = same_owner p q && same_owners ps qs

same-owners : (ps qs : List Owner) → same_owners ps qs ≡ true → ps ≡ qs
unfolding same_owners
same-owners [] [] t = refl
same-owners [] (q ∷ qs) t = absurd (false≢true t)
same-owners (p ∷ ps) [] t = absurd (false≢true t)
same-owners (p ∷ ps) (q ∷ qs) t =
    ap₂ ◌∷◌ (same-owner p q (and_left (same_owner p q) (same_owners ps qs) t))
    (same-owners ps qs (and_right (same_owner p q) (same_owners ps qs) t))

-- the owner of an octet bit, voice holding 1 to w and data f to 7
column_owner : ℕ → ℕ → ℕ → Owner
column_owner w f bit = cond (within 1 w bit) Voice (cond (within f 7 bit) Lsd Nobody)

seven_by : ℕ → ℕ → List Owner
seven_by w f =
    column_owner w f 1 ∷ column_owner w f 2 ∷ column_owner w f 3 ∷ column_owner w f 4 ∷ column_owner w f 5 ∷ column_owner w f 6 ∷ column_owner w f 7 ∷ []

columns_as : ℕ → ℕ → List Owner
columns_as w c = replicate w Voice ++ replicate (7 - (w + c)) Nobody ++ replicate c Lsd

columns_right : ℕ → ℕ → Bool
columns_right w f = same_owners (seven_by w f) (columns_as w (min (8 - f) (7 - w)))

all_columns : every_below 8 (λ (w : ℕ). every_below 8 (λ (k : ℕ). columns_right w (k + 1))) ≡ true
unfolding columns_right same_owners seven_by column_owner columns_as
all_columns = refl

seven : (w f : ℕ) → w ≤ 7 → 1 ≤ f → f ≤ 8 → seven_by w f ≡ columns_as w (min (8 - f) (7 - w))
unfolding columns_right
seven w f hw h1 h8 =
    let hk : f - 1 < 8 = omega arith in
    let e : f - 1 + 1 ≡ f = omega arith in
    let test : columns_right w (f - 1 + 1) ≡ true =
    below 8 (λ (k : ℕ). columns_right w (k + 1)) (below 8 (λ (w : ℕ). every_below 8 (λ (k : ℕ). columns_right w (k + 1))) all_columns w (omega arith)) (f - 1) hk in
    same-owners (seven_by w f) (columns_as w (min (8 - f) (7 - w))) (ap (columns_right w) (sym e) ∙ test)

-- ---- the rule of owners, by the four numbers
nothing_in : (a b n : ℕ) → b < a → within a b n ≡ false
nothing_in a b n h = go (within a b n) refl
  where
    go : (t : Bool) → within a b n ≡ t → t ≡ false
    go false e = refl
    go true e =
        let l = leb-true a n (and_left (leb a n) (leb n b) e) in
        let r = leb-true n b (and_right (leb a n) (leb n b) e) in
        absurd (omega arith)

-- an octet bit's owner
column_is : (m : Mode) (o : OctetNumber) (bit : ℕ) → bit < 8
    → owner_of m o bit ≡ column_owner (held_by m Voice).to (held_by m Lsd).from bit
unfolding owner_of holds held_by column_owner
column_is m o bit h =
    rw (ne_eqb bit 8 (λ e. omega arith), nothing_in 8 7 bit (omega arith), (audio_shape m.audio).0, (lsd_shape m.lsd).0)

-- an SC bit's owner
channel_is : (m : Mode) (o : OctetNumber) → 1 ≤ o.0 → owner_of m o 8 ≡ channel_by (layout_of m) o.0
unfolding owner_of holds held_by channel_by layout_of
channel_is m o h =
    rw (le-leb 1 o.0 h, (audio_shape m.audio).1, (audio_shape m.audio).2, nothing_in 17 16 o.0 (omega arith))
    (ap (λ (p : Owner). cond (leb o.0 16) Service p)
    (both (leb (lsd_places m.lsd).first.0 o.0) (leb o.0 (lsd_places m.lsd).last.0)))
  where
    both : (a b : Bool) → cond (a && b) Lsd Nobody ≡ cond a (cond b Lsd Nobody) Nobody
    both true b = refl
    both false b = refl

held_width : (m : Mode) → (held_by m Voice).to ≤ 7
unfolding held_by
held_width m = (audio-fit m.audio).ends

held_from : (m : Mode) → (1 ≤ (held_by m Lsd).from) × ((held_by m Lsd).from ≤ 8)
unfolding held_by
held_from m = ((lsd-fit m.lsd).starts, omega (arith, (lsd-fit m.lsd).spans, (lsd-fit m.lsd).ends))

eight : (m : Mode) (o : OctetNumber) → 1 ≤ o.0
    → owners_of m o ≡ seven_by (held_by m Voice).to (held_by m Lsd).from ++ (channel_by (layout_of m) o.0 ∷ [])
unfolding owners_of seven_by
eight m o h =
    rw (
      column_is m o 1 (lit< tt),
      column_is m o 2 (lit< tt),
      column_is m o 3 (lit< tt),
      column_is m o 4 (lit< tt),
      column_is m o 5 (lit< tt),
      column_is m o 6 (lit< tt),
      column_is m o 7 (lit< tt),
      channel_is m o h,
    )

columns_are : (m : Mode) → seven_by (held_by m Voice).to (held_by m Lsd).from ≡ columns_by (layout_of m)
unfolding layout_of columns_by columns_as
columns_are m = seven (held_by m Voice).to (held_by m Lsd).from (held_width m) (held_from m).0 (held_from m).1

pub row_is : (m : Mode) (o : OctetNumber) → 1 ≤ o.0 → owners_of m o ≡ row_by (layout_of m) o.0
unfolding row_by
row_is m o h = eight m o h ∙ ap (λ (l : List Owner). l ++ (channel_by (layout_of m) o.0 ∷ [])) (columns_are m)

pub rows_are : (m : Mode) (n : ℕ) → owners_to m n ≡ rows_by (layout_of m) n
unfolding owners_to rows_by
rows_are m zero = refl
rows_are m (suc n) = ap₂ ◌++◌ (rows_are m n) (row_is m (octet (suc n)) (omega arith))

-- data's SC octets are whole eights, or it has no column: each row of the table
abbrev in_place : Places → Bool
in_place p = eqb p.from 8 || (eqb (p.first.0 % 8) 1 && eqb (p.last.0 % 8) 0)

lsd-even : (m : Mode) → ((layout_of m).columns ≡ 0) ⊎ (in_eights (layout_of m) ≡ true)
unfolding layout_of in_eights held_by lsd_places lsd_listed lsd_table
lsd-even m = go (eqb (lsd_places m.lsd).from 8) refl (beside_all in_place lsd_table (not_listed (octet_bits_from 8)) m.lsd refl refl)
  where
    p : Places
    p = lsd_places m.lsd

    go : (b : Bool) → eqb p.from 8 ≡ b → (b || (eqb (p.first.0 % 8) 1 && eqb (p.last.0 % 8) 0)) ≡ true
        → ((layout_of m).columns ≡ 0) ⊎ (in_eights (layout_of m) ≡ true)
    go true e t = let f : p.from ≡ 8 = eqb-true p.from 8 e in inl (omega (arith, f))
    go false e t = inr t

pub apart_of : (m : Mode) → Apart (layout_of m)
unfolding layout_of held_by
apart_of m =
    record {
      within = omega (arith, (audio-fit m.audio).ends);
      after = omega (arith, (lsd_shape m.lsd).1);
      runs = (lsd-fit m.lsd).runs;
      until = (lsd-fit m.lsd).closes;
      even = lsd-even m;
    }

-- what it is to be in eights, and that data then ends a frame with an octet's last bit
pub eights_at : (p : Layout) → in_eights p ≡ true → (p.first % 8 ≡ 1) × (p.last % 8 ≡ 0)
unfolding in_eights
eights_at p t =
    let f = eqb (p.first % 8) 1 in
    let l = eqb (p.last % 8) 0 in
    (eqb-true (p.first % 8) 1 (and_left f l t), eqb-true (p.last % 8) 0 (and_right f l t))

pub eights_through : (p : Layout) → Apart p → in_eights p ≡ true → (80 * p.columns + sc p 80) % 8 ≡ 0
eights_through p a t = omega (arith, (eights_at p t).0, (eights_at p t).1, a.runs, a.until)

-- ---- whose the SC bit of octet o is: the service channel's up to 16, data's in its range, and nobody's before that range and after it
pub channel_cases : (p : Layout) (o : ℕ) (P : Owner → Type 0) → (o ≤ 16 → P Service) → (16 < o → p.first ≤ o → o ≤ p.last → P Lsd)
    → (16 < o → o < p.first → P Nobody) → (16 < o → p.last < o → P Nobody) → P (channel_by p o)
unfolding channel_by
channel_cases p o P service lsd before after = go (leb o 16) (leb p.first o) (leb o p.last) refl refl refl
  where
    go : (a b c : Bool) → leb o 16 ≡ a → leb p.first o ≡ b → leb o p.last ≡ c → P (cond a Service (cond b (cond c Lsd Nobody) Nobody))
    go true b c ea eb ec = service (leb-true o 16 ea)
    go false true true ea eb ec = lsd (leb-false o 16 ea) (leb-true p.first o eb) (leb-true o p.last ec)
    go false true false ea eb ec = after (leb-false o 16 ea) (leb-false o p.last ec)
    go false false c ea eb ec = before (leb-false o 16 ea) (leb-false p.first o eb)

pub channel_service : (p : Layout) (o : ℕ) → o ≤ 16 → channel_by p o ≡ Service
channel_service p o h =
    channel_cases p o (λ (w : Owner). w ≡ Service) (λ l. refl) (λ l f u. absurd (omega arith)) (λ l b. absurd (omega arith)) (λ l a. absurd (omega arith))

pub channel_lsd : (p : Layout) (o : ℕ) → 16 < o → p.first ≤ o → o ≤ p.last → channel_by p o ≡ Lsd
channel_lsd p o h f u =
    channel_cases p o (λ (w : Owner). w ≡ Lsd) (λ l. absurd (omega arith)) (λ l g v. refl) (λ l b. absurd (omega arith)) (λ l a. absurd (omega arith))

-- ---- how many of the places of octets 1 to n are each owner's
pub no_voice : (p : Layout) (o : ℕ) → same Voice (channel_by p o) ≡ 0
unfolding same
no_voice p o = channel_cases p o (λ (w : Owner). same Voice w ≡ 0) (λ l. refl) (λ l f u. refl) (λ l b. refl) (λ l a. refl)

pub count-voice : (p : Layout) (n : ℕ) → count Voice (rows_by p n) ≡ n * p.width
unfolding rows_by row_by columns_by count same
count-voice p zero = sym (zero-mul p.width)
count-voice p (suc n) =
    simp (count-append, count-voice p n, count_all, count_none Voice Nobody, count_none Voice Lsd, no_voice, suc-mul) (omega arith)

sc-more : (p : Layout) (n : ℕ) → Apart p → sc p n + same Lsd (channel_by p (suc n)) ≡ sc p (suc n)
unfolding same
sc-more p n h =
    channel_cases p (suc n) (λ (w : Owner). sc p n + same Lsd w ≡ sc p (suc n))
    (λ l. omega (arith, h.after))
    (λ l f u. omega arith)
    (λ l b. omega arith)
    (λ l a. omega arith)

pub count-lsd : (p : Layout) (n : ℕ) → Apart p → count Lsd (rows_by p n) ≡ n * p.columns + sc p n
unfolding rows_by row_by columns_by count same
count-lsd p zero h = rw zero-mul (omega arith)
count-lsd p (suc n) h =
    simp (count-append, count-lsd p n h, count_all, count_none Lsd Nobody, count_none Lsd Voice, suc-mul) (omega (arith, sc-more p n h))

service_more : (p : Layout) (n : ℕ) → min n 16 + same Service (channel_by p (suc n)) ≡ min (suc n) 16
unfolding same
service_more p n =
    channel_cases p (suc n) (λ (w : Owner). min n 16 + same Service w ≡ min (suc n) 16)
    (λ l. omega arith)
    (λ l f u. omega arith)
    (λ l b. omega arith)
    (λ l a. omega arith)

pub count_service : (p : Layout) (n : ℕ) → count Service (rows_by p n) ≡ min n 16
unfolding rows_by row_by columns_by count same
count_service p zero = omega arith
count_service p (suc n) =
    simp (count-append, count_service p n, count_none Service Voice, count_none Service Nobody, count_none Service Lsd)
    (omega (arith, service_more p n))

pub length-row : (p : Layout) (o : ℕ) → p.width + p.columns ≤ 7 → length (row_by p o) ≡ 8
unfolding row_by columns_by
length-row p o h = simp (length-append, length-replicate) (omega arith)

pub length-rows : (p : Layout) (n : ℕ) → p.width + p.columns ≤ 7 → length (rows_by p n) ≡ n * 8
unfolding rows_by
length-rows p zero h = refl
length-rows p (suc n) h = simp (length-append, length-row p (suc n) h, length-rows p n h) (omega arith)
