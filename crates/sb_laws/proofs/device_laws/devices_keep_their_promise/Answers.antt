-- A device that served what came in keeps a device's promise.
use Rattle.sb_laws.proofs.DeviceSides.{device_promise, device_records}
use Rattle.sb_laws.proofs.device_laws.devices_keep_their_promise.Goals as goal

pub returns-clause-promise : goal.returns-clause-promise
returns-clause-promise c = λ network layout journal m f device got has budget same served. device_promise network layout journal m f device got has budget same served

pub returns-clause-recorded : goal.returns-clause-recorded
returns-clause-recorded c = λ layout journal m d device got same packets. device_records layout journal device.journal.entries m d device.requests got same packets
