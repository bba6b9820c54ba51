-- The next entry is read and followed behind those before it.
use Rattle.std.proofs.Common.{◌∙◌, ◌∷◌, ◌++◌, [], sym, arith}
use Rattle.std.proofs.lemmas.List.{length_push}
use Rattle.std.proofs.lemmas.List.Elements.{All-head}
use Rattle.sb_flow.specs.NetworkOf.{network_of}
use Rattle.sb_check.specs.Spelling.{IsEntryInRange}
use Rattle.sb_check.proofs.ReadingLemmas.{more_read}
use Rattle.sb_check.proofs.history.read_entries.Goals as goal

pub follow-requires : goal.follow-requires
follow-requires c =
    let so_far = c.loop-index.invariant in
    let e = c.in-Some.entry in
    let range = All-head (IsEntryInRange (network_of c.args.bundle.now)) e [] c.in-Some.ensures.read.ranges in
    record { next = (so_far.0, so_far.3, range, sym so_far.1) }

pub loop-index-preserved : goal.loop-index-preserved
loop-index-preserved c =
    let network = network_of c.args.bundle.now in
    let so_far = c.loop-index.invariant in
    let e = c.in-Some.entry in
    let range = All-head (IsEntryInRange network) e [] c.in-Some.ensures.read.ranges in
    (so_far.0 ++ e ∷ [], length_push so_far.0 e ∙ (let many = so_far.1 in omega arith), more_read network _ _ _ so_far.0 e so_far.2 c.in-Some.ensures.read, c.follow.ensures.followed so_far.0 so_far.3 range (sym so_far.1))
