-- How a log of recorded requests is read, one on each line (this project's own).
use Rattle.std.specs.Prelude.{ℕ, ◌+◌, List, [], ◌∷◌, Result, Ok, Err}
use Rattle.request_parts.specs.RequestReading.{request_reading}
use Rattle.waf_model.specs.Gives.{◌>>=◌}
use Rattle.waf_model.specs.Pieces.{cut}
use Rattle.waf_model.specs.declared.read_fault.ReadFault.{ReadFault}
use Rattle.waf_model.specs.declared.request.Request.{Request}

-- a request of a log, with the number of its line
pub record LoggedRequest : Type 0 where
  pub line : ℕ
  pub request : Request

-- a line's first fault, with the number of the line
pub record LineFault : Type 0 where
  pub line : ℕ
  pub fault : ReadFault

-- what a line is read as, with its number
abbrev pub numbered : ℕ → Result Request ReadFault → Result LoggedRequest LineFault
numbered line (Ok request) = Ok (record { line = line; request = request })
numbered line (Err fault) = Err (record { line = line; fault = fault })

-- the requests of the lines from that number on, or the first fault; a line without bytes is skipped, and keeps its number
abbrev pub requests_from : ℕ → List (List ℕ) → Result (List LoggedRequest) LineFault
requests_from number [] = Ok []
requests_from number ([] ∷ lines) = requests_from (number + 1) lines
requests_from number ((b ∷ line) ∷ lines) = do
  first ← numbered number (request_reading (b ∷ line))
  rest ← requests_from (number + 1) lines
  Ok (first ∷ rest)

-- what a log is read as: its lines are the pieces between newline bytes, numbered from 1
abbrev pub log_reading : List ℕ → Result (List LoggedRequest) LineFault
log_reading log = requests_from 1 (cut 10 log)
