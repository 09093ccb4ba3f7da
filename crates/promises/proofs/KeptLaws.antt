-- Saved states come back, what is no saved form changes nothing, and each octet of a form is what it is said to be.
use mathlib.Core.Path.{◌≡◌, refl}
use Prim.Native.Nat.{ℕ, ◌%◌, ◌<◌}
use native.Mathlib.Omega.{arith}
use borrow.Author.Tests.{eq-eqb, ne_eqb}
use Rattle.bits.specs.Bits.{number_at}
use Rattle.keeping.specs.SavedWalk.{low_first}
use Rattle.saving.proofs.SavedLaws.{sender-back, reader-back}
use Rattle.keeping.proofs.SavedWalkLaws.{walk-back}
use Rattle.promises.specs.Saved.{SavesSender, SavesReader, SavesWalk, SenderForm, ReaderForm, WalkForm}

pub saves_sender : SavesSender
saves_sender =
    record {
      back = λ s was buffer whole fits. rw (eq-eqb _ _ fits) (refl, sender-back s was);
      room = λ s buffer other. rw (ne_eqb _ _ other) (refl, refl);
      none = λ was xs other. rw (ne_eqb _ _ other.0) refl;
    }

pub saves_reader : SavesReader
saves_reader =
    record {
      back = λ s was buffer whole fits. rw (eq-eqb _ _ fits) (refl, reader-back s was);
      room = λ s buffer other. rw (ne_eqb _ _ other) (refl, refl);
      none = λ was xs other. rw (ne_eqb _ _ other.0) refl;
    }

pub saves_walk : SavesWalk
unfolding low_first
saves_walk =
    record {
      back = λ w was buffer whole fits. rw (eq-eqb _ _ fits) (refl, walk-back w was whole.0 whole.1);
      room = λ w buffer other. rw (ne_eqb _ _ other) (refl, refl);
      none = λ was xs other. rw (ne_eqb _ _ other.0) refl;
    }

pub sender_form : SenderForm
sender_form was chosen audio lsd block due remainder = refl

pub reader_form : ReaderForm
reader_form was audio lsd audioKept lsdKept wrong block firsts misses kind words before remainder = refl

octet : (n : ℕ) → n < 256 → n % 256 ≡ n
octet n h = omega (arith, h)

pub walk_form : WalkForm
unfolding number_at
walk_form was s a b c d e f g h i j k l mark p0 p1 p2 p3 p4 p5 p6 p7 =
    record {
      reader = refl;
      lost = refl;
      place = λ (h0, h1, h2, h3, h4, h5, h6, h7).
          rw (octet p0 h0, octet p1 h1, octet p2 h2, octet p3 h3, octet p4 h4, octet p5 h5, octet p6 h6, octet p7 h7) (omega arith);
    }
