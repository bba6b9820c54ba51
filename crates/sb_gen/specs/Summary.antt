-- What is printed of the network that a number makes. This project's own.
use Rattle.std.specs.Prelude.{ℕ, ◌*◌, ◌^◌, List, [], ◌∷◌, ◌++◌, codes, decimal, sum_by}
use Rattle.sb_packet.specs.Networks.{Network}
use Rattle.sb_flow.specs.Accepted.{word_count}
use Rattle.sb_text.specs.TextLines.{text_line}
use Rattle.sb_gen.specs.Generated.{gen_network}

-- the bytes that all transactions speak of
abbrev pub byte_count : Network → ℕ
byte_count network = sum_by (λ h. sum_by (λ t. t.count * 2 ^ t.size) h.script) network.hosts

-- the number, and what the network of every number has
unfoldable pub gen_head : ℕ → List ℕ
gen_head number =
    text_line (codes "gen" ∷ decimal number ∷ [])
    ++ text_line (codes "hosts" ∷ codes "4" ∷ codes "transactions" ∷ codes "8192" ∷ [])

-- the words and bytes of all transactions
unfoldable pub gen_counts : ℕ → List ℕ
gen_counts number =
    text_line (codes "words" ∷ decimal (word_count (gen_network number)) ∷ [])
    ++ text_line (codes "bytes" ∷ decimal (byte_count (gen_network number)) ∷ [])

-- The summary, which the number determines.
unfoldable pub gen_text : ℕ → List ℕ
gen_text number = gen_head number ++ gen_counts number ++ text_line (codes "done" ∷ [])
