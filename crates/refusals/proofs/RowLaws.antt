-- Rows judged in turn give the first that is given, and its number, which is small; and where none is given.
use mathlib.Core.Path.{◌≡◌, refl}
use mathlib.Core.Bool.{Bool, true, false, cond}
use mathlib.Core.List.{List, [], ◌∷◌}
use Prim.Native.Nat.{ℕ, ◌<◌}
use native.Mathlib.Omega.{arith}
use lib.Dec.{eqb}
use borrow.Author.Tests.{ne_eqb}
use Rattle.refusals.specs.Numbers.{number_of}
use Rattle.refusals.specs.Rows.{Ruling, first_given, ruling_number}
use Rattle.refusals.specs.declared.Refusal.{Refusal}
use Rattle.refusals.specs.declared.Refusal.TheVariants.{BadState, LineLength, VoiceLength, LsdLength, NotCarried, ForbiddenItem, AudioWhileMuted, Overlap, BadRecording, NoPlace, NotAPreset}
use Rattle.refusals.specs.declared.Row.{Row}
use Rattle.std.specs.Prelude.{Ok, Err}

-- rows judged one after the other: a row counts where none before it is given
unfoldable pub judged : Ruling → Row → Ruling
judged (Err first) r = Err first
judged (Ok u) r = cond r.given (Err r.refusal) (Ok u)

abbrev pub in_turn : Ruling → List Row → Ruling
in_turn ruling [] = ruling
in_turn ruling (r ∷ rs) = in_turn (judged ruling r) rs

pub refused_stays : (first : Refusal) (rows : List Row) → in_turn (Err first) rows ≡ Err first
unfolding judged
refused_stays first [] = refl
refused_stays first (r ∷ rs) = refused_stays first rs

pub in_turn_is : (rows : List Row) → in_turn (Ok tt) rows ≡ first_given rows
unfolding judged
in_turn_is [] = refl
in_turn_is (r ∷ rs) = go r.given (in_turn_is rs)
  where
    go : (given : Bool) → in_turn (Ok tt) rs ≡ first_given rs
        → in_turn (cond given (Err r.refusal) (Ok tt)) rs ≡ cond given (Err r.refusal) (first_given rs)
    go true e = refused_stays r.refusal rs
    go false e = e

-- the number of the first row that is given, 0 where none is
abbrev pub first_number : List Row → ℕ
first_number [] = 0
first_number (r ∷ rs) = cond r.given (number_of r.refusal) (first_number rs)

pub number_is : (rows : List Row) → ruling_number (first_given rows) ≡ first_number rows
number_is [] = refl
number_is (r ∷ rs) = go r.given (number_is rs)
  where
    go : (given : Bool) → ruling_number (first_given rs) ≡ first_number rs
        → ruling_number (cond given (Err r.refusal) (first_given rs)) ≡ cond given (number_of r.refusal) (first_number rs)
    go true e = refl
    go false e = e

pub number-within : (r : Refusal) → (0 < number_of r) × (number_of r < 100)
number-within BadState = (omega arith, omega arith)
number-within LineLength = (omega arith, omega arith)
number-within VoiceLength = (omega arith, omega arith)
number-within LsdLength = (omega arith, omega arith)
number-within NotCarried = (omega arith, omega arith)
number-within ForbiddenItem = (omega arith, omega arith)
number-within AudioWhileMuted = (omega arith, omega arith)
number-within Overlap = (omega arith, omega arith)
number-within BadRecording = (omega arith, omega arith)
number-within NoPlace = (omega arith, omega arith)
number-within NotAPreset = (omega arith, omega arith)

-- so it is never 0, which stands for a call that is accepted
pub numbered : (r : Refusal) → eqb (number_of r) 0 ≡ false
numbered r = ne_eqb (number_of r) 0 (λ e. omega (arith, (number-within r).0))

-- ---- a call is accepted exactly where no row is given
abbrev pub NoneGiven : List Row → Type 0
NoneGiven [] = Unit {0}
NoneGiven (r ∷ rs) = (r.given ≡ false) × NoneGiven rs

pub none_given : (rows : List Row) → first_given rows ≡ Ok tt → NoneGiven rows
none_given [] e = tt
none_given (r ∷ rs) e = go r.given refl (none_given rs) e
  where
    go : (given : Bool) → r.given ≡ given → (first_given rs ≡ Ok tt → NoneGiven rs)
        → cond given (Err r.refusal) (first_given rs) ≡ Ok tt → NoneGiven (r ∷ rs)
    go true g ih h = let z : ◌≡◌ {A = ℕ} 0 1 = cc in absurd (omega arith)
    go false g ih h = (g, ih h)

pub accepted : (rows : List Row) → NoneGiven rows → first_given rows ≡ Ok tt
accepted [] none = refl
accepted (r ∷ rs) none = rw none.0 (accepted rs none.1)
