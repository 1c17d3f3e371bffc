-- How an answer crosses to another language: as a struct with a name for each number of document 01's answer.
use Rattle.std.specs.Prelude.{ℕ, get_or}
use Rattle.drr.specs.Answers.{Answer, flow_in, length_in, visits_in, Reply}
use Rattle.exports.specs.declared.SetupResult.{SetupResult}
use Rattle.exports.specs.declared.ArrivalResult.{ArrivalResult}
use Rattle.exports.specs.declared.PickResult.{PickResult}
use Rattle.exports.specs.declared.FigureResult.{FigureResult}
use Rattle.exports.specs.declared.RunResult.{RunResult}

-- "The place is the number, from 0, of the record at fault": it stands first in the answers of setup and of a run
abbrev pub place_in : Answer → ℕ
place_in a = get_or a.numbers 0 0

-- the refusal number and the place of a run's answer
abbrev pub run_told : Answer → RunResult
run_told a = record { refusal = a.refusal; place = place_in a }

-- the same of setup, beside the fresh state or the empty table
abbrev pub setup_told : Reply → SetupResult
setup_told r = record { refusal = r.answer.refusal; place = place_in r.answer; state = r.state }

-- an arrival answers no number but a refusal's
abbrev pub arrival_told : Reply → ArrivalResult
arrival_told r = record { refusal = r.answer.refusal; state = r.state }

-- "either idle, or sent with flow, length, deficit after it and the number of visits opened in this pick": whether a packet was sent
-- has a field of its own, and the four numbers are 0 where none was
abbrev pub pick_told : Reply → PickResult
pick_told r =
    record {
      refusal = r.answer.refusal;
      sent = r.answer.sends;
      flow = flow_in r.answer;
      length = length_in r.answer;
      deficit = get_or r.answer.numbers 2 0;
      visits = visits_in r.answer;
      state = r.state;
    }

-- "the value beside a refusal is 0"
abbrev pub figure_told : Answer → FigureResult
figure_told a = record { refusal = a.refusal; value = get_or a.numbers 0 0 }
