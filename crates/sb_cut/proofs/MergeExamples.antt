-- Which two messages can be merged, computed.
use Rattle.std.proofs.Common.{◌≡◌, refl, [], ◌∷◌, ◌++◌, false, true, Some, None, replicate}
use Rattle.sb_packet.specs.Messages.{Message}
use Rattle.sb_word.specs.declared.atomic.AtomicOp.TheVariants.{Add}
use Rattle.sb_word.specs.declared.command.Op.TheVariants.{ReqWr, ReqAtomic}
use Rattle.sb_cut.specs.Merges.{is_mergeable}
use Rattle.sb_cut.specs.Folds.{take_one}

-- a write of 8 bytes to 0x17f8, and the one that goes on where it ends
abbrev first_write : Message
first_write = record { op = ReqWr; atomic = None; size = 3; host = 0; dst = 6136; src = 2040; count = 1; bytes = replicate 8 1; eom = true; qos = 0; prot = 0; eof = false; ex = false; tail = 0 }

abbrev next_write : Message
next_write = record first_write { dst = 6144; src = 2048; bytes = replicate 8 2 }

-- the first one, where it doesn't end its transaction
abbrev unended : Message
unended = record first_write { eom = false }

-- What ends its transaction is not joined with what follows: it goes out.
goes_out : take_one 32 (Some first_write) next_write ≡ record { out = first_write ∷ []; held = Some next_write }
goes_out = refl

-- Where it doesn't, both are held as one.
held_together : take_one 32 (Some unended) next_write ≡ record { out = []; held = Some (record first_write { count = 2; bytes = replicate 8 1 ++ replicate 8 2 }) }
held_together = refl

-- They are not joined past the width, nor where a field differs, nor where the second doesn't begin at the first one's end.
too_wide : is_mergeable 8 unended next_write ≡ false
too_wide = refl

of_other_code : is_mergeable 32 (record unended { tail = 2 }) next_write ≡ false
of_other_code = refl

of_other_host : is_mergeable 32 unended (record next_write { host = 1 }) ≡ false
of_other_host = refl

elsewhere : is_mergeable 32 unended (record next_write { dst = 6152 }) ≡ false
elsewhere = refl

answered_elsewhere : is_mergeable 32 unended (record next_write { src = 2056 }) ≡ false
answered_elsewhere = refl

-- An exclusive access and an atomic are joined with nothing.
exclusive : is_mergeable 32 unended (record next_write { ex = true }) ≡ false
exclusive = refl

atomic : is_mergeable 32 (record unended { op = ReqAtomic; atomic = Some Add }) (record next_write { op = ReqAtomic; atomic = Some Add }) ≡ false
atomic = refl
