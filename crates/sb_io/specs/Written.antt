-- What was written to a sink.
use Rattle.std.specs.Prelude.{ℕ, ◌≡◌, ◌++◌, List, take, Option, option_map}

-- The whole text came behind what the sink held, where it tells.
abbrev pub Gains : Option (List ℕ) → Option (List ℕ) → List ℕ → Type 0
Gains before after text = after ≡ option_map (λ held. held ++ text) before

-- a prefix of the text came behind what the sink held
pub record GainsPart (before after : Option (List ℕ)) (text : List ℕ) : Type 0 where
  pub kept : ℕ
  pub gained : Gains before after (take kept text)
