-- What a call leaves, by its ruling, and that the contract allows one outcome alone.
use mathlib.Core.Path.{◌≡◌, refl, sym, ap, ◌∙◌}
use mathlib.Core.Bool.{true, false≢true}
use mathlib.Core.List.{List}
use Prim.Native.Nat.{ℕ}
use lib.ListN.{length}
use Rattle.crc.specs.Crc.{block_crc_of}
use Rattle.crc.proofs.CrcLaws.{crc-low}
use Rattle.std.specs.Prelude.{Ok, Err, is_ok}
use Rattle.refusals.specs.Rows.{Ruling, ruling_number}
use Rattle.refusals.specs.declared.Refusal.{Refusal}
use Rattle.buffers.specs.Buffers.{Buffers, lengths}
use Rattle.sender.specs.State.{state_in_range}
use Rattle.control.specs.Rules.{rule_of}
use Rattle.control.specs.Plans.{plan_by}
use Rattle.control.specs.Refusals.{number_in}
use Rattle.control.specs.Decisions.{with_remainder, next_of, decision_by, decision_of}
use Rattle.sender.specs.declared.Sender.{Sender}
use Rattle.control.specs.declared.Call.{Call}
use Rattle.control.specs.declared.Decision.{Decision}
use Rattle.control.specs.declared.Refused.{Refused}
use Rattle.control.proofs.RangeLaws.{decided_in_range}
use Rattle.sending.specs.Step.{Outcome, outcome, answer_by, block_for, ruled, decided, outcome_of, line_of, Told}

-- the answer's number is that of the ruling: a word that goes is no refusal
decided-number : (q : Ruling) (s : Sender) (c : Call) → number_in (answer_by (decision_by q s c)) ≡ ruling_number q
decided-number (Err r) s c = refl
decided-number (Ok u) s c = refl

-- a refused call gives back the state that it was given
given_back : (q : Ruling) (s : Sender) (c : Call) (r : Refused) → decision_by q s c ≡ Err r → r.next ≡ s
given_back (Err q) s c r h = sym (ap next_of h)
given_back (Ok tt) s c r h = absurd (false≢true (sym (ap is_ok h)))

module _ (s : Sender) (c : Call) (b : Buffers) (line : List ℕ) where
  pub told : Told s c b line (outcome_of s c b line) (line_of s c b line)
  unfolding outcome_of decision_of
  told = record { outcome = refl; octets = refl; number = decided-number (ruled s c b line) s c }

  -- so a program is told right that goes by what is decided: it leaves all as it was where a row refuses, and else writes the block
  pub told_refused : (q : Refused) → decided s c b line ≡ Err q → Told s c b line (outcome s (Err q.why)) line
  unfolding outcome_of line_of decision_of
  told_refused q e =
      let next = given_back (ruled s c b line) s c q e in
      record { outcome = rw (e, next); octets = rw e; number = rw e at told.number }

  pub told_went : (d : Decision) (block : List ℕ) → decided s c b line ≡ Ok d → block ≡ block_for s c d.word b
      → Told s c b line (outcome (with_remainder d.next (block_crc_of block)) (Ok d.went)) block
  unfolding outcome_of line_of
  told_went d block e w = record { outcome = rw (w, e); octets = rw (w, e); number = rw e at told.number }

  -- a call that is decided is ruled so
  pub decided-accepts : (d : Decision) → decided s c b line ≡ Ok d → ruled s c b line ≡ Ok tt
  unfolding decision_of
  decided-accepts d e = go (ruled s c b line) refl e
    where
      go : (q : Ruling) → ruled s c b line ≡ q → decision_by q s c ≡ Ok d → ruled s c b line ≡ Ok tt
      go (Err q) r h = absurd (false≢true (ap is_ok h))
      go (Ok tt) r h = r

  -- what a refused call leaves
  pub refused_is : (q : Refusal) → ruled s c b line ≡ Err q
      → (outcome_of s c b line ≡ record { state = s; answer = Err q }) × (line_of s c b line ≡ line)
  unfolding outcome_of line_of decision_of
  refused_is q e = (rw e, rw e)

  -- a call on a state in range leaves one in range
  pub stays_in_range : state_in_range s ≡ true → state_in_range (outcome_of s c b line).state ≡ true
  unfolding outcome_of decision_of
  stays_in_range r = go (ruled s c b line) refl
    where
      go : (q : Ruling) → ruled s c b line ≡ q → state_in_range (outcome_of s c b line).state ≡ true
      go (Err q) e = rw e r
      go (Ok tt) e =
          let block = block_for s c (plan_by (rule_of s c.mute) s c.code).word b in
          rw e (rw e at (decided_in_range s c (length line) (lengths b) (block_crc_of block) r (crc-low block) e))

-- any two outcomes that the contract of a sending call allows are equal
pub send-settled : (s : Sender) (c : Call) (b : Buffers) (line : List ℕ) (r q : Outcome) (l k : List ℕ)
    → Told s c b line r l → Told s c b line q k → (r ≡ q) × (l ≡ k)
send-settled s c b line r q l k x y = (x.outcome ∙ sym y.outcome, x.octets ∙ sym y.octets)
