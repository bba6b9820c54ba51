-- What clap gives of a match.
use Rattle.std.proofs.Common.{◌≡◌, ℕ, List}
use Rattle.clap.specs.Words.{first_of, first_value, rows_of}
use Rattle.clap.specs.declared.parser.matches.Found.{Found}
use Rattle.clap.proofs.WalkLemmas.{first_value-rows}

-- the first text of a name is that of its row
pub first_text : (found : Found) (name : List ℕ) → first_value found name ≡ first_of name (rows_of found)
first_text found name = first_value-rows found name
