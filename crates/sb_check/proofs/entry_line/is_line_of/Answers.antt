-- The words of an entry's line.
use Rattle.std.proofs.Common.{◌≡◌, ◌∙◌, ℕ, List, ap, subst, sym}
use Rattle.std.specs.Bool.{OnFalse, OnTrue}
use Rattle.std.specs.Prelude.{◌≢◌}
use Rattle.sb_flow.specs.NetworkOf.{network_of}
use Rattle.sb_text.specs.TextLines.{hex_number}
use Rattle.sb_text.proofs.ToldLemmas.{read_at}
use Rattle.sb_check.proofs.EntryLemmas.{line_is, name_read}
use Rattle.sb_check.proofs.entry_line.is_line_of.Goals as goal

pub returns : goal.returns
returns c =
    let b = c.args.bundle.now in
    let e = c.args.entry.now in
    let row = c.index-device.result.now in
    let at = read_at b.devices.items c.from.result e.device row c.index-device.ensures c.from.ensures in
    let text = line_is (network_of b) e c.as_slice.result.now c.word_bytes-word.result c.address_bytes-dst.result c.address_bytes-src.result c.carried.result.now
    (name_read b e.device row c.requires.there at ∙ sym c.as_slice.ensures.text)
    (c.word_bytes-word.ensures ∙ ap (hex_number 8) c.encode.ensures.sum) c.address_bytes-dst.ensures c.address_bytes-src.ensures c.carried.ensures in
    record {
      yes = subst (λ (t : List ℕ). OnTrue c.has_words.result (c.args.line.now ≡ t)) text c.has_words.ensures.yes;
      no = subst (λ (t : List ℕ). OnFalse c.has_words.result (c.args.line.now ≢ t)) text c.has_words.ensures.no;
    }
