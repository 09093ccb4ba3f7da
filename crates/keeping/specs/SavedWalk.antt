-- The saved form of a walk: its octets in order, and a walk back from them (docs/SAVED.md).
use Rattle.std.specs.Prelude.{cond, List, [], ◌∷◌, ◌++◌, map, ℕ, zero, suc, ◌+◌, ◌-◌, ◌/◌, ◌%◌, length, get_or, take, replicate, Option, Some, None}
use Rattle.bits.specs.Bits.{eight_at}
use Rattle.saving.specs.Saved.{Load, loaded_over, save_answer, saved_over, is_form, reader_forms, reader_octets, reader_in}
use Rattle.keeping.specs.declared.WalkState.{WalkState}

-- a number in k octets, the lowest first
unfoldable pub low_first : ℕ → ℕ → List ℕ
low_first zero n = []
low_first (suc k) n = n % 256 ∷ low_first k (n / 256)

-- ---- a walk: its reader's octets, and nine of its own, the mark of a lost block and the place in eight octets
abbrev pub nine_more : ℕ → ℕ
nine_more n = n + 9

abbrev pub walk_forms : List ℕ
walk_forms = map nine_more reader_forms

abbrev pub walk_octets : WalkState → List ℕ
walk_octets w = reader_octets w.reader ++ (w.lost ∷ low_first 8 w.place)

-- what saving one answers, and what the buffer holds then
abbrev pub walk_saved : WalkState → List ℕ → ℕ
walk_saved s buffer = save_answer (walk_octets s) buffer

abbrev pub walk_kept : WalkState → List ℕ → List ℕ
walk_kept s buffer = saved_over (walk_octets s) buffer

-- the number of the eight octets from a place on, the lowest first: the same octets with the highest first are one number
abbrev pub eight_low_first : List ℕ → ℕ → ℕ
eight_low_first xs at =
    eight_at
    (get_or xs (at + 7) 0
    ∷ get_or xs (at + 6) 0
    ∷ get_or xs (at + 5) 0
    ∷ get_or xs (at + 4) 0
    ∷ get_or xs (at + 3) 0
    ∷ get_or xs (at + 2) 0
    ∷ get_or xs (at + 1) 0
    ∷ get_or xs at 0
    ∷ [])
    0

-- where the reader's octets of a form end, and the walk's own begin
abbrev pub readers_end : List ℕ → ℕ
readers_end xs = length xs - 9

abbrev pub walk_in : List ℕ → WalkState
walk_in xs =
    record {
      place = eight_low_first xs (readers_end xs + 1);
      reader = reader_in (take (readers_end xs) xs);
      lost = get_or xs (readers_end xs) 0;
      reserved = replicate 3 0;
    }

-- what is no saved form is no walk
abbrev pub walk_of : List ℕ → Option WalkState
walk_of xs = cond (is_form walk_forms (length xs)) (Some (walk_in xs)) None

-- what loading leaves: the walk as it was where there is no form
abbrev pub WalkLoad : Type 0
WalkLoad = Load WalkState

abbrev pub walk_loaded : WalkState → List ℕ → WalkLoad
walk_loaded w xs = loaded_over w (walk_of xs)
