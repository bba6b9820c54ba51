-- The sources and sinks in memory.
use Rattle.std.specs.Prelude.{ℕ, ◌==◌, Bool, List, length, min, if◌then◌else◌}
use Rattle.std.specs.List.{list_any}
use Rattle.sb_io.specs.declared.source.Got.{Got}
use Rattle.sb_io.specs.declared.source.Got.TheVariants as got
use Rattle.sb_io.specs.declared.sink.Put.{Put}
use Rattle.sb_io.specs.declared.sink.Put.TheVariants as put

-- a source that gives its bytes in pieces: what is left, the longest piece, the number of the next call, the calls that are to fail, and how many have
pub record SourceState : Type 0 where
  pub left : List ℕ
  pub piece : ℕ
  pub call : ℕ
  pub failing : List ℕ
  pub faults : ℕ

-- a sink that takes pieces while it has room: what it holds, and the rest as above
pub record SinkState : Type 0 where
  pub held : List ℕ
  pub room : ℕ
  pub piece : ℕ
  pub call : ℕ
  pub failing : List ℕ
  pub faults : ℕ

-- a source that never fails: what is left, and the longest piece
pub record CleanState : Type 0 where
  pub left : List ℕ
  pub piece : ℕ

-- a call is to fail
abbrev pub is_failing : List ℕ → ℕ → Bool
is_failing failing call = list_any (λ k. k == call) failing

-- what a read of such a source into a buffer of that length answers
abbrev pub clean_answer : CleanState → ℕ → Got
clean_answer s space =
    if length s.left == 0 then got.End
    else got.Bytes (min (min (length s.left) s.piece) space)

-- what a read into a buffer of that length answers
abbrev pub read_answer : SourceState → ℕ → Got
read_answer s space =
    if is_failing s.failing s.call then got.Failed
    else if length s.left == 0 then got.End
    else got.Bytes (min (min (length s.left) s.piece) space)

-- what a write of a piece of that length answers
abbrev pub write_answer : SinkState → ℕ → Put
write_answer s count =
    if is_failing s.failing s.call then put.Failed
    else if s.room == 0 then put.Failed
    else put.Took (min (min count s.piece) s.room)
