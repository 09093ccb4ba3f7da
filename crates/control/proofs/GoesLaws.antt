-- What is decided is ruled so. What is known where a word goes: the state is in range, the buffers have their lengths, and the rule is that of the state and mute.
use mathlib.Core.Path.{◌≡◌, refl}
use mathlib.Core.Bool.{Bool, true, false, not, ◌&&◌}
use Prim.Native.Nat.{ℕ}
use borrow.Author.Tests.{eqb-true, not-false}
use Rattle.std.specs.Prelude.{Result, Ok, Err}
use Rattle.refusals.specs.Rows.{Ruling}
use Rattle.refusals.proofs.RowLaws.{none_given}
use Rattle.buffers.specs.Buffers.{Each}
use Rattle.buffers.specs.Lengths.{line_octets, stream_octets, fitting}
use Rattle.buffers.proofs.LengthLaws.{streams-fit, fits}
use Rattle.codes.specs.Carried.{sender_carries}
use Rattle.sender.specs.State.{state_in_range}
use Rattle.control.specs.Rules.{rule_of}
use Rattle.control.specs.Refusals.{rows, ruling_of, goes_plain, clashes}
use Rattle.control.specs.Decisions.{decision_by, decision_of}
use Rattle.sender.specs.declared.Sender.{Sender}
use Rattle.control.specs.declared.Call.{Call}
use Rattle.control.specs.declared.Decision.{Decision}
use Rattle.control.specs.declared.Refused.{Refused}

-- the ruling that what is decided tells of
abbrev pub ruling_in : Result Decision Refused → Ruling
ruling_in (Err r) = Err r.why
ruling_in (Ok d) = Ok tt

pub decision_ruling : (s : Sender) (c : Call) (line : ℕ) (n : Each ℕ) → ruling_in (decision_of s c line n) ≡ ruling_of s c line n
unfolding decision_of
decision_ruling s c line n = go (ruling_of s c line n)
  where
    go : (q : Ruling) → ruling_in (decision_by q s c) ≡ q
    go (Err r) = refl
    go (Ok tt) = refl

pub record Goes (s : Sender) (c : Call) (l : ℕ) (n : Each ℕ) : Type 0 where
  pub range : state_in_range s ≡ true
  pub line : l ≡ line_octets
  pub streams : n ≡ stream_octets
  pub known : goes_plain (rule_of s c.mute) ≡ true → sender_carries c.code ≡ true
  pub apart : goes_plain (rule_of s c.mute) ≡ true → clashes s c.code ≡ false

pub goes : (s : Sender) (c : Call) (line : ℕ) (n : Each ℕ) → ruling_of s c line n ≡ Ok tt → Goes s c line n
unfolding ruling_of
goes s c line n e =
    let h = none_given (rows s c line n) e in
    record {
      range = not-false _ h.0;
      line = eqb-true _ _ (not-false _ h.1.0);
      streams = streams-fit n h.1.1.0 h.1.1.1.0;
      known = λ g. not-false (sender_carries c.code) (plain g (not (sender_carries c.code)) h.1.1.1.1.0);
      apart = λ g. plain g (clashes s c.code) h.1.1.1.1.1.1.1.0;
    }
  where
    plain : {a : Bool} → a ≡ true → (b : Bool) → (a && b) ≡ false → b ≡ false
    plain g b k = rw g at k

-- the lengths fit a block
pub goes-fitting : (s : Sender) (c : Call) (line : ℕ) (n : Each ℕ) → ruling_of s c line n ≡ Ok tt → fitting line n ≡ true
goes-fitting s c line n e = let g = goes s c line n e in fits line n g.line g.streams
