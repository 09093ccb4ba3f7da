-- Document 01, 'How much each contract has to say': five wrong programs, none of which meets its contract.
use Rattle.std.specs.Prelude.{◌≡◌, true, false, List, ℕ, drop, Ok}
use Rattle.search.specs.Finding.{Found, search_of}
use Rattle.sending.specs.Step.{Told}
use Rattle.sender.specs.declared.Sender.{Sender}
use Rattle.promises.specs.Session.{Turn, Left, accepted}
use Rattle.promises.specs.Recordings.{Aligned}

-- any program that sends: what it leaves of a call
abbrev pub Program : Type 0
Program = Sender → Turn → Left

abbrev pub Meets : Program → Type 0
Meets p = (s : Sender) (x : Turn) → Told s x.call x.lent x.line (p s x).outcome (p s x).line

abbrev pub Accepts : Program → Sender → Turn → Type 0
Accepts p s x = accepted (p s x).outcome.answer ≡ true

-- a sender that refuses everything
abbrev pub RefusesEverything : Program → Type 0
RefusesEverything p = (s : Sender) (x : Turn) → accepted (p s x).outcome.answer ≡ false

-- one that sends one constant block
abbrev pub SendsOneBlock : Program → Type 0
SendsOneBlock p = (block : List ℕ) × ((s : Sender) (x : Turn) → Accepts p s x → (p s x).line ≡ block)

-- one that writes nothing
abbrev pub WritesNothing : Program → Type 0
WritesNothing p = (s : Sender) (x : Turn) → (p s x).line ≡ x.line

-- one that frames the first block and repeats it
abbrev pub Repeats : Program → Type 0
Repeats p = (s : Sender) (x y : Turn) → Accepts p s x → Accepts p (p s x).outcome.state y → (p (p s x).outcome.state y).line ≡ (p s x).line

abbrev pub NoneIsEnough : Type 0
NoneIsEnough = (p : Program) → Meets p → (RefusesEverything p → ⊥) × (SendsOneBlock p → ⊥) × (WritesNothing p → ⊥) × (Repeats p → ⊥)

-- and a finder reporting a made-up place: whatever meets the contract of a search reports a place where alignment stands
abbrev pub NoPlaceMadeUp : Type 0
NoPlaceMadeUp = (find : List ℕ → ℕ → Found) → ((recording : List ℕ) (start : ℕ) → find recording start ≡ search_of recording start)
    → (recording : List ℕ) (start p : ℕ) → find recording start ≡ Ok p → Aligned (drop p recording)
