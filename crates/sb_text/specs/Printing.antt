-- Printing through a buffer: what was written to a sink, and what waits.
use Rattle.std.specs.Prelude.{ℕ, ◌≡◌, ◌≤◌, ◌++◌, List, take, drop, length, Option, Result, OnOk, OnErr}
use Rattle.sb_io.specs.Counts.{FaultsIncreased}
use Rattle.sb_io.specs.Written.{Gains, GainsPart}
use Rattle.sb_io.specs.declared.sink.Sink as sinks

-- a first part of a text came behind what the sink held, and the rest waits
pub record Splits (before after : Option (List ℕ)) (waits text : List ℕ) : Type 0 where
  pub taken : ℕ
  pub within : taken ≤ length text
  pub written : Gains before after (take taken text)
  pub waiting : waits ≡ drop taken text

-- A text was printed through a buffer, behind what waited there.
abbrev pub Prints : Option (List ℕ) → List ℕ → Option (List ℕ) → List ℕ → List ℕ → Type 0
Prints before waited after waits text = Splits before after waits (waited ++ text)

-- What printing a text through a buffer to a sink came to, with the sink and what waited, before and after: the whole text was printed; or the sink failed, and a first part of what waited and the text was written.
pub record IsPrinted {K T E : Type 0} (sink : sinks.Ghosts K) (result : Result T E) (before after : K) (waited waits text : List ℕ) : Type 0 where
  pub done : OnOk result (Prints (sink.held before) waited (sink.held after) waits text)
  pub part : OnErr result (GainsPart (sink.held before) (sink.held after) (waited ++ text))
  pub cause : OnErr result (FaultsIncreased (sink.faults before) (sink.faults after))
  pub clean : OnOk result (sink.faults after ≡ sink.faults before)
