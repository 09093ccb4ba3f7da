-- Document 01, 'How to write each place': if an answer is an enum, a definition gives the paper's number and values for each case.
use Rattle.std.specs.Prelude.{List, ℕ, replicate, Ok, Err}
use Rattle.words.specs.Readings.{reading_kind, reading_code}
use Rattle.words.specs.declared.Reading.TheVariants.{NotRead}
use Rattle.control.specs.Refusals as sending
use Rattle.track.specs.Parts.{verdict_number, standing_number}
use Rattle.track.specs.declared.Standing.TheVariants.{Waiting}
use Rattle.track.specs.declared.Verdict.TheVariants.{None}
use Rattle.track.specs.declared.Report.{Report}
use Rattle.reading.specs.Refusals as reading
use Rattle.search.specs.Finding.{Found, found_number, found_place}
use Rattle.recording.specs.Refusals as walking
use Rattle.recording.specs.declared.Met.TheVariants.{Block, Place, End}
use Rattle.answers.specs.declared.SendAnswer.{SendAnswer}
use Rattle.answers.specs.declared.BlockAnswer.{BlockAnswer}
use Rattle.answers.specs.declared.ReadAnswer.{ReadAnswer}
use Rattle.answers.specs.declared.SearchAnswer.{SearchAnswer}
use Rattle.answers.specs.declared.StepAnswer.{StepAnswer}

-- a sending call's answer
abbrev pub send_answer_of : sending.Answer → SendAnswer
send_answer_of a = record { kind = sending.kind_of a; number = sending.number_in a }

-- a block's
abbrev pub block_answer_of : Report → BlockAnswer
block_answer_of report =
    record {
      standing = standing_number report.standing;
      verdict = verdict_number report.verdict;
      reading = reading_kind report.reading;
      code = reading_code report.reading;
    }

-- where there is no block to speak of: waiting, no verdict, not read
abbrev pub nothing_read : BlockAnswer
nothing_read =
    record {
      standing = standing_number Waiting;
      verdict = verdict_number None;
      reading = reading_kind NotRead;
      code = reading_code NotRead;
    }

-- a reading call's
abbrev pub read_answer_of : reading.Answer → ReadAnswer
read_answer_of a = record { kind = reading.kind_of a; number = reading.number_in a; block = block a }
  where
    block : reading.Answer → BlockAnswer
    block (Ok report) = block_answer_of report
    block (Err r) = nothing_read

-- reserved octets: they say nothing, and are 0
abbrev pub reserved_octets : ℕ → List ℕ
reserved_octets n = replicate n 0

-- a search's
abbrev pub search_answer_of : Found → SearchAnswer
search_answer_of f = record { place = found_place f; number = found_number f; reserved = reserved_octets 7 }

-- that of a walk's step
abbrev pub step_answer_of : walking.Answer → StepAnswer
step_answer_of a =
    record {
      value = walking.value_in a;
      kind = walking.kind_of a;
      number = walking.number_in a;
      block = block a;
      reserved = reserved_octets 2;
    }
  where
    block : walking.Answer → BlockAnswer
    block (Ok (Block report)) = block_answer_of report
    block (Ok (Place p)) = nothing_read
    block (Ok (End left)) = nothing_read
    block (Err r) = nothing_read
