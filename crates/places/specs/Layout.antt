-- How the code sees the places of a mode: by four numbers. Of the public contracts only those of `layout_of` and `in_eights` speak of it;
-- proofs/LayoutLaws shows that it is the rule of owners.
use Rattle.std.specs.Prelude.{◌≡◌, Bool, true, cond, ◌&&◌, ◌⊎◌, List, [], ◌∷◌, ◌++◌, ℕ, zero, suc, ◌+◌, ◌-◌, ◌%◌, ◌≤◌, ◌<◌, min, eqb, leb, replicate}
use Rattle.modes.specs.Owners.{held_by}
use Rattle.modes.specs.declared.Mode.{Mode}
use Rattle.modes.specs.declared.Owner.{Owner}
use Rattle.modes.specs.declared.Owner.TheVariants.{Service, Voice, Lsd, Nobody}
use Rattle.places.specs.declared.Layout.{Layout}

-- voice owns octet bits 1 to w, data the last ones that are left to it, and the SC octets of its range
unfoldable pub layout_of : Mode → Layout
layout_of m =
    let voice = held_by m Voice in
    let lsd = held_by m Lsd in
    record { width = voice.to; columns = min (8 - lsd.from) (7 - voice.to); first = lsd.first.0; last = lsd.last.0 }

unfoldable pub columns_by : Layout → List Owner
columns_by p = replicate p.width Voice ++ replicate (7 - (p.width + p.columns)) Nobody ++ replicate p.columns Lsd

unfoldable pub channel_by : Layout → ℕ → Owner
channel_by p octet = cond (leb octet 16) Service (cond (leb p.first octet) (cond (leb octet p.last) Lsd Nobody) Nobody)

-- the last of a row is the SC bit (DECISIONS F53)
unfoldable pub row_by : Layout → ℕ → List Owner
row_by p octet = columns_by p ++ channel_by p octet ∷ []

unfoldable pub rows_by : Layout → ℕ → List Owner
rows_by p zero = []
rows_by p (suc n) = rows_by p n ++ row_by p (suc n)

-- how many of SC octets 1 to n data holds
abbrev pub sc : Layout → ℕ → ℕ
sc p n = min n p.last + 1 - p.first

-- data's SC octets are whole eights of a frame
unfoldable pub in_eights : Layout → Bool
in_eights p = eqb (p.first % 8) 1 && eqb (p.last % 8) 0

-- the four numbers lie in a frame
pub record Apart (p : Layout) : Type 0 where
  pub within : p.width + p.columns ≤ 7
  pub after : 16 < p.first
  pub runs : p.first ≤ p.last + 1
  pub until : p.last ≤ 80
  -- else they are all that data has
  pub even : (p.columns ≡ 0) ⊎ (in_eights p ≡ true)
