-- The digits of the masks are those of the devices.
use Rattle.std.proofs.Common.{refl}
use Rattle.sb_flow.specs.Gathered.{devices_on, flows_from, mask_of}
use Rattle.sb_flow.proofs.Digits.{bits_of_mask, map_bits}
use Rattle.sb_flow.proofs.gather.load.Goals as goal

pub returns : goal.returns
returns c = rw (c.all_words.ensures, c.all_words-2.ensures, c.through.ensures, map_bits (λ id. mask_of c.args.link (flows_from c.args.hosts.now id)) (λ id. devices_on c.args.link (flows_from c.args.hosts.now id)) 0 32 (λ id. bits_of_mask c.args.link (flows_from c.args.hosts.now id))) refl
