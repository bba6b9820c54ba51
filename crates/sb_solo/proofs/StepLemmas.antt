-- What is collected where nothing comes.
use Rattle.std.proofs.Common.{◌≡◌, ◌-◌, [], ◌++◌, refl, arith}
use Rattle.std.proofs.lemmas.List.{append-nil}
use Rattle.sb_solo.specs.Rows.{Collected}

-- nothing comes to what was collected
pub nothing_collected : (c : Collected) → c ≡ record c { next = c.next ++ []; spare_bytes = c.spare_bytes - 0 }
nothing_collected c =
    let kept : c.spare_bytes - 0 ≡ c.spare_bytes = omega arith in
    rw (append-nil c.next, kept) refl
