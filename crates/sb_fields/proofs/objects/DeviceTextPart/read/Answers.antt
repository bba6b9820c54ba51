-- The object, its fields, and the names of these, one after another.
use Rattle.std.proofs.Common.{refl}
use Rattle.sb_fields.specs.Fields.{object_with}
use Rattle.sb_fields.proofs.objects.DeviceTextPart.read.Goals as goal

pub returns-in-Ok-clause-ok : goal.returns-in-Ok-clause-ok
unfolding object_with
returns-in-Ok-clause-ok c = rw (c.in_ok-object.ensures.ok, c.in_ok-device.ensures.ok, c.in-Ok.ensures.ok) refl

pub returns-clause-err : goal.returns-clause-err
unfolding object_with
returns-clause-err c other = rw (c.in_ok-object.ensures.ok, c.in_ok-device.ensures.ok, c.in-Err.ensures.err other) refl
